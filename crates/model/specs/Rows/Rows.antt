-- How worked rows are written: what a short trace writes, evaluated on the definitions.
use Rattle.std.specs.Prelude.{ℕ, zero, suc, ◌+◌, Bool, false, not, if◌then◌else◌, List, [], ◌∷◌, ◌++◌, map, filter, replicate, codes, Option, Some, None, Result, Ok, Err}
use Rattle.std.specs.List.{flat_map, list_all}
use Rattle.std.specs.Str.{bytes_eq}
use Rattle.std.specs.Fmt.{decimal}
use Rattle.fpage.specs.Rights.{of_bits, number, no_rights}
use Rattle.fpage.specs.Fpage.{Flexpage, read_fpage}
use Rattle.fpage.specs.Item.{read_item, is_pair, is_pair_of, pairs_of}
use Rattle.fpage.specs.declared.rights.Rights.{Rights}
use Rattle.fpage.specs.declared.item.Item.{Item}
use Rattle.fpage.specs.declared.error.FpageError.{FpageError}
use Rattle.space.specs.declared.place.Place.{Place}
use Rattle.model.specs.Definitions.Holdings.{Held, Holdings, PlaceSet, is_held}
use Rattle.model.specs.Definitions.Strip.{strip, strip_word}
use Rattle.model.specs.Definitions.Recursion.{recur}
use Rattle.model.specs.Definitions.Calls.{Limits, Request}
use Rattle.model.specs.Definitions.Answers.{answer, pages_in}
use Rattle.model.specs.Definitions.Replay.{Told, start}
use Rattle.model.specs.Definitions.Changes.{TableEntry, tables_of, Change, changes, follow}
use Rattle.model.specs.Definitions.Records.{Trace, HeaderFault, trace_of}
use Rattle.model.specs.Definitions.Text.{reply_lines, audit_line, audit_lines, told}

-- what a row says of a trace: the reply lines; the audit lines of mappings that are not as at the start; and the
-- pages of space 0 that are no longer held
pub record Row : Type 0 where
  pub replies : List ℕ
  pub changed : List ℕ
  pub gone : List ℕ

-- each text with a line feed behind it
abbrev pub lines : List (List ℕ) → List ℕ
lines ls = flat_map (λ l. l ++ 10 ∷ []) ls

-- so many copies of a text, one after the other
abbrev pub times : ℕ → List ℕ → List ℕ
times n t = flat_map (λ s. s) (replicate n t)

abbrev pub shows : List (List ℕ) → List (List ℕ) → List ℕ → Result Row HeaderFault
shows replies changed gone = Ok (record { replies = lines replies; changed = lines changed; gone = gone })

-- the audit line of a page of space 0 at the start
abbrev pub start_line : ℕ → List ℕ
start_line page = lines ((codes "0," ++ decimal page ++ codes "," ++ decimal page ++ codes ",rwx,---,-") ∷ [])

abbrev pub is_as_at_start : Place × Held → Bool
is_as_at_start e = bytes_eq (audit_line e) (start_line e.0.page)

-- the audit lines of the mappings that are not as at the start
abbrev pub changed_lines : Holdings → List ℕ
changed_lines h = audit_lines (filter (λ e. not (is_as_at_start e)) h)

-- which of n pages of space 0, from page i on, are not held
abbrev pub pages_gone : ℕ → ℕ → Holdings → List ℕ
pages_gone i zero h = []
pages_gone i (suc n) h =
    (if is_held h (record { space = 0; page = i }) then [] else i ∷ []) ++ pages_gone (i + 1) n h

abbrev pub row_of : ℕ → Told → Row
row_of frames t =
    record { replies = reply_lines 1 t.replies; changed = changed_lines t.last; gone = pages_gone 0 frames t.last }

abbrev pub row_of_trace : Result Trace HeaderFault → Result Row HeaderFault
row_of_trace (Ok t) = Ok (row_of t.limits.frames (told t))
row_of_trace (Err e) = Err e

-- a trace of three spaces of 64 pages and 16 frames
abbrev pub trace_with : List (List ℕ) → Result Trace HeaderFault
trace_with records = trace_of (lines (codes "l4map,1,3,18,16" ∷ records))

-- the row of such a trace
abbrev pub row : List (List ℕ) → Result Row HeaderFault
row records = row_of_trace (trace_with records)

-- what the revocation of rights gives: its word as a number, and the mappings that are left, written as in a row
pub record Revocation : Type 0 where
  pub word : ℕ
  pub changed : List ℕ
  pub gone : List ℕ

-- the same revocation twice
pub record BothWays : Type 0 where
  pub by_recursion : Revocation
  pub by_strip : Revocation

abbrev pub revocation_of : ℕ → Rights → Holdings → Revocation
revocation_of frames word h = record { word = number word; changed = changed_lines h; gone = pages_gone 0 frames h }

abbrev pub both_ways : ℕ → Holdings → PlaceSet → Rights → Bool → BothWays
both_ways frames h set a f =
    let visited = recur h set a f in
    record {
      by_recursion = revocation_of frames visited.word visited.left;
      by_strip = revocation_of frames (strip_word h set) (strip h set a f);
    }

-- all pages of a space of 64 pages
abbrev pub all_pages : ℕ → PlaceSet
all_pages space = pages_in space (record { first = 0; count = 64; rights = no_rights })

abbrev pub revocation_of_trace : Result Trace HeaderFault → ℕ → ℕ → Bool → Result BothWays HeaderFault
revocation_of_trace (Ok t) space rights f =
    Ok (both_ways t.limits.frames (told t).last (all_pages space) (of_bits rights) f)
revocation_of_trace (Err e) space rights f = Err e

-- after a trace, rights as a number revoked from all pages of a space, with f or without, by the recursion and by strip
abbrev pub revocation : List (List ℕ) → ℕ → ℕ → Bool → Result BothWays HeaderFault
revocation records = revocation_of_trace (trace_with records)

-- both ways give this
abbrev pub takes : ℕ → List (List ℕ) → List ℕ → Result BothWays HeaderFault
takes word changed gone =
    let r : Revocation = record { word = word; changed = lines changed; gone = gone } in
    Ok (record { by_recursion = r; by_strip = r })

-- the limits that a trace's header names, or why it is refused
abbrev pub limits_of_trace : Result Trace HeaderFault → Result Limits HeaderFault
limits_of_trace (Ok t) = Ok t.limits
limits_of_trace (Err e) = Err e

abbrev pub header : List ℕ → Result Limits HeaderFault
header bytes = limits_of_trace (trace_of bytes)

abbrev pub limits : ℕ → ℕ → ℕ → Result Limits HeaderFault
limits spaces bits frames = Ok (record { spaces = spaces; bits = bits; frames = frames })

abbrev pub place : ℕ → ℕ → Option Place
place space page = Some (record { space = space; page = page })

-- a space, a page, a frame, rights as a number, an origin
abbrev pub mapping : ℕ → ℕ → ℕ → ℕ → Option Place → Place × Held
mapping space page frame rights origin = (
  record { space = space; page = page },
  record { frame = frame; rights = of_bits rights; status = no_rights; origin = origin },
)

abbrev pub numbers_from : ℕ → ℕ → List ℕ
numbers_from i zero = []
numbers_from i (suc n) = i ∷ numbers_from (i + 1) n

-- whether the runs of an item list a pair of pages exactly where the relation has it
abbrev pub is_listed_alike : Item → Flexpage → ℕ → ℕ → Bool
is_listed_alike item window p q =
    let is_listed = is_pair_of (pairs_of item window) p q in
    if is_pair item window p q then is_listed else not is_listed

-- the same of all pages of a space of 64 pages
abbrev pub list_same_pairs_of : Result Flexpage FpageError → Result Item FpageError → Bool
list_same_pairs_of (Err e) item = false
list_same_pairs_of (Ok window) (Err e) = false
list_same_pairs_of (Ok window) (Ok item) =
    list_all (λ p. list_all (λ q. is_listed_alike item window p q) (numbers_from 0 64)) (numbers_from 0 64)

-- the same of a window's word and an item's two words
abbrev pub list_same_pairs : ℕ × ℕ × ℕ → Bool
list_same_pairs words = list_same_pairs_of (read_fpage 18 words.0) (read_item 18 words.1 words.2)

-- the row of a trace with another header
abbrev pub row_from : List ℕ → List (List ℕ) → Result Row HeaderFault
row_from header records = row_of_trace (trace_of (lines (header ∷ records)))

-- so many reply lines with the same text, numbered from n on
abbrev pub numbered : ℕ → ℕ → List ℕ → List ℕ
numbered n zero t = []
numbered n (suc count) t = decimal n ++ codes " " ++ t ++ 10 ∷ numbered (n + 1) count t

-- an fpage as it is read: its first page, how many pages it has, and rights as a number
abbrev pub fpage : ℕ → ℕ → ℕ → Result Flexpage FpageError
fpage first count rights = Ok (record { first = first; count = count; rights = of_bits rights })

-- the pairs of the relation among the first 16 pages on either side, by rising source
abbrev pub related_pairs : Result Flexpage FpageError → Result Item FpageError → List (ℕ × ℕ)
related_pairs (Err e) item = []
related_pairs (Ok window) (Err e) = []
related_pairs (Ok window) (Ok item) =
    flat_map (λ p. map (λ q. (p, q)) (filter (λ q. is_pair item window p q) (numbers_from 0 16))) (numbers_from 0 16)

-- the same of a window's word and an item's two words
abbrev pub pairs_of_words : ℕ → ℕ → ℕ → List (ℕ × ℕ)
pairs_of_words window first second = related_pairs (read_fpage 18 window) (read_item 18 first second)

-- a place itself
abbrev pub at_page : ℕ → ℕ → Place
at_page space page = record { space = space; page = page }

-- what a page table says of a page: a frame, and rights as a number
abbrev pub table_entry : ℕ → ℕ → Option TableEntry
table_entry frame rights = Some (record { frame = frame; rights = of_bits rights })

-- the change of a page to a frame with rights as a number
abbrev pub sets : ℕ → ℕ → ℕ → ℕ → Change
sets space page frame rights = record { place = at_page space page; now = table_entry frame rights }

-- the change of a page to no entry
abbrev pub removes : ℕ → ℕ → Change
removes space page = record { place = at_page space page; now = None }

-- the changes of each request
abbrev pub changes_from : Limits → Holdings → List Request → List (List Change)
changes_from limits h [] = []
changes_from limits h (r ∷ rs) = let left = (answer limits h r).left in changes h left ∷ changes_from limits left rs

abbrev pub changes_of_trace : Result Trace HeaderFault → Result (List (List Change)) HeaderFault
changes_of_trace (Ok t) = Ok (changes_from t.limits (start t.limits) t.requests)
changes_of_trace (Err e) = Err e

-- the changes of each record of a trace of four spaces of 64 pages and 8 frames
abbrev pub changes_by : List (List ℕ) → Result (List (List Change)) HeaderFault
changes_by records = changes_of_trace (trace_of (lines (codes "l4map,2,4,18,8" ∷ records)))

abbrev pub tables_of_trace : Result Trace HeaderFault → List Place → Result (List (Option TableEntry)) HeaderFault
tables_of_trace (Ok t) ps = Ok (map (follow t.limits (start t.limits) t.requests (tables_of (start t.limits))) ps)
tables_of_trace (Err e) ps = Err e

-- what the tables that followed the records of such a trace say of these pages
abbrev pub tables_after : List (List ℕ) → List Place → Result (List (Option TableEntry)) HeaderFault
tables_after records = tables_of_trace (trace_of (lines (codes "l4map,2,4,18,8" ∷ records)))
