-- The text of replies and holdings (docs/FORMATS.md).
use Rattle.std.specs.Prelude.{ℕ, zero, suc, ◌+◌, ◌/◌, ◌%◌, ◌^◌, nat_lt, Bool, true, false, List, [], ◌∷◌, ◌++◌, length, codes, count_by, Option, Some, None, Result, Ok, Err, if◌then◌else◌}
use Rattle.std.specs.List.{flat_map}
use Rattle.std.specs.Fmt.{decimal}
use Rattle.fpage.specs.Control.{with_status}
use Rattle.fpage.specs.declared.rights.Rights.{Rights}
use Rattle.space.specs.declared.place.Place.{Place}
use Rattle.space.specs.Place.{place_text}
use Rattle.model.specs.Definitions.Holdings.{Held, Holdings}
use Rattle.model.specs.Definitions.Items.{Counts}
use Rattle.model.specs.Definitions.Calls.{Refusal, bad_size, misaligned, out_of_space, not_an_item, bad_control, no_such_space, same_space, no_window, bad_record, Reply, sent, accessed, unmapped, cleared, refused}
use Rattle.model.specs.Definitions.Answers.{answer}
use Rattle.model.specs.Definitions.Replay.{Told, replay, start}
use Rattle.model.specs.Definitions.Records.{Trace, HeaderFault, trace_of}

-- the end of a line
abbrev pub line_feed : List ℕ
line_feed = 10 ∷ []

-- ---- replies

-- the name of a refusal
abbrev pub refusal_name : Refusal → List ℕ
refusal_name bad_size = codes "BadSize"
refusal_name misaligned = codes "Misaligned"
refusal_name out_of_space = codes "OutOfSpace"
refusal_name not_an_item = codes "NotAnItem"
refusal_name bad_control = codes "BadControl"
refusal_name no_such_space = codes "NoSuchSpace"
refusal_name same_space = codes "SameSpace"
refusal_name no_window = codes "NoWindow"
refusal_name bad_record = codes "BadRecord"

-- the six counts of a send
abbrev pub counts_text : Counts → List ℕ
counts_text c =
    codes "absent=" ++ decimal c.absent ++ codes " norights=" ++ decimal c.norights ++ codes " origin=" ++ decimal c.origin
    ++ codes " lost=" ++ decimal c.lost ++ codes " extended=" ++ decimal c.extended ++ codes " linked=" ++ decimal c.linked

-- a hexadecimal digit in lower case
abbrev pub hex_code : ℕ → ℕ
hex_code d = if nat_lt d 10 then 48 + d else 87 + d

-- so many hexadecimal digits, the lowest last
abbrev pub hex_digits : ℕ → ℕ → List ℕ
hex_digits zero n = []
hex_digits (suc count) n = hex_code (n / 16 ^ count % 16) ∷ hex_digits count n

-- the words of an unmap's reply, each behind a space
abbrev pub words_text : List ℕ → List ℕ
words_text words = flat_map (λ w. codes " " ++ hex_digits 8 w) words

-- the word of a clear's reply: that of the complete space without rights, with the status in their place
abbrev pub clear_word : Rights → ℕ
clear_word status = with_status 16 status

-- what follows the number of a reply line
abbrev pub reply_text : Reply → List ℕ
reply_text (sent c) = codes "send " ++ counts_text c
reply_text (accessed true) = codes "access ok"
reply_text (accessed false) = codes "access fault"
reply_text (unmapped words) = codes "unmap" ++ words_text words
reply_text (cleared status) = codes "clear " ++ hex_digits 8 (clear_word status)
reply_text (refused r) = codes "refused " ++ refusal_name r

-- a reply line: number, space, text
abbrev pub reply_line : ℕ → Reply → List ℕ
reply_line n r = decimal n ++ codes " " ++ reply_text r ++ line_feed

-- the lines of replies, numbered from n on
abbrev pub reply_lines : ℕ → List Reply → List ℕ
reply_lines n [] = []
reply_lines n (r ∷ rs) = reply_line n r ++ reply_lines (n + 1) rs

-- ---- audit

-- a letter, or a dash in its place
abbrev pub letter : Bool → ℕ → ℕ
letter has c = if has then c else 45

-- rights as they are written
abbrev pub rights_text : Rights → List ℕ
rights_text a = letter a.read 114 ∷ letter a.write 119 ∷ letter a.execute 120 ∷ []

-- status as it is written, in capitals
abbrev pub status_text : Rights → List ℕ
status_text a = letter a.read 82 ∷ letter a.write 87 ∷ letter a.execute 88 ∷ []

-- an origin as it is written; a root has a dash
abbrev pub origin_text : Option Place → List ℕ
origin_text None = codes "-"
origin_text (Some o) = place_text o

-- a mapping as it is written
abbrev pub audit_line : Place × Held → List ℕ
audit_line e =
    decimal e.0.space ++ codes "," ++ decimal e.0.page ++ codes "," ++ decimal e.1.frame ++ codes "," ++ rights_text e.1.rights
    ++ codes "," ++ status_text e.1.status ++ codes "," ++ origin_text e.1.origin ++ line_feed

-- the mappings by rising place
abbrev pub audit_lines : Holdings → List ℕ
audit_lines h = flat_map audit_line h

-- ---- the whole

-- whether a reply is a refusal
abbrev pub is_refused : Reply → Bool
is_refused (sent c) = false
is_refused (accessed ok) = false
is_refused (unmapped words) = false
is_refused (cleared status) = false
is_refused (refused r) = true

-- how many replies are refusals
abbrev pub refused_count : List Reply → ℕ
refused_count replies = count_by is_refused replies

-- the last line: how many records, and how many were refused
abbrev pub end_line : ℕ → ℕ → List ℕ
end_line count refusals = codes "end " ++ decimal count ++ codes " " ++ decimal refusals ++ line_feed

-- the reply lines, the audit lines, the end line
abbrev pub text : Told → List ℕ
text t = reply_lines 1 t.replies ++ audit_lines t.last ++ end_line (length t.replies) (refused_count t.replies)

-- the replies and the last holdings of a trace
abbrev pub told : Trace → Told
told t = replay (answer t.limits) (start t.limits) t.requests

-- what is written for a trace, or the fault of its header
abbrev pub output_of_trace : Result Trace HeaderFault → Result (List ℕ) HeaderFault
output_of_trace (Ok t) = Ok (text (told t))
output_of_trace (Err e) = Err e

-- what is written for the bytes of a trace
abbrev pub output_of : List ℕ → Result (List ℕ) HeaderFault
output_of bytes = output_of_trace (trace_of bytes)
