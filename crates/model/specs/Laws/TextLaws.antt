-- What is written reads back: no two results are written alike.
use Rattle.std.specs.Prelude.{◌≡◌, ℕ, ◌^◌, ◌<◌, List, ◌++◌, length, filter, Decides, Some}
use Rattle.std.specs.List.{All}
use Rattle.std.specs.Fmt.{decimal}
use Rattle.std.specs.Str.Parse.{IsNumeral, digits_value}
use Rattle.space.specs.declared.place.Place.{Place}
use Rattle.model.specs.Definitions.Holdings.{Held, Holdings}
use Rattle.model.specs.Definitions.Items.{Counts}
use Rattle.model.specs.Definitions.Calls.{Refusal, Reply, sent, accessed, unmapped, cleared, refused}
use Rattle.model.specs.Definitions.Replay.{Told}
use Rattle.model.specs.Definitions.Text.{hex_digits, reply_line, audit_line, audit_lines, is_refused, end_line, text}

-- ---- numbers

-- decimal digits are written of numbers that have 64 or fewer
abbrev pub HasDigits : ℕ → Type 0
HasDigits n = n < 10 ^ 64

-- the decimal digits of a number are a numeral, and read back as the number
abbrev pub DecimalReadsBack : Type 0
DecimalReadsBack = (n : ℕ) → HasDigits n → IsNumeral 10 (decimal n) × (digits_value 10 (decimal n) ≡ n)

-- so do the hexadecimal digits of a word of 32 bits, of which there are eight
abbrev pub HexReadsBack : Type 0
HexReadsBack = (word : ℕ) → word < 2 ^ 32 → (length (hex_digits 8 word) ≡ 8) × (digits_value 16 (hex_digits 8 word) ≡ word)

-- ---- the audit

-- a place whose numbers have digits
pub record PlaceHasDigits (p : Place) : Type 0 where
  pub space : HasDigits p.space
  pub page : HasDigits p.page

-- a mapping whose numbers have digits
pub record MappingHasDigits (e : Place × Held) : Type 0 where
  pub place : PlaceHasDigits e.0
  pub frame : HasDigits e.1.frame
  pub origin : (o : Place) → e.1.origin ≡ Some o → PlaceHasDigits o

-- the line of a mapping determines its place, frame, rights, status and origin
abbrev pub LineIsOfOneMapping : Type 0
LineIsOfOneMapping = (d e : Place × Held) → MappingHasDigits d → MappingHasDigits e → audit_line d ≡ audit_line e → d ≡ e

-- and the lines of an audit determine all that is held
abbrev pub AuditIsOfOneHoldings : Type 0
AuditIsOfOneHoldings = (h k : Holdings) → All MappingHasDigits h → All MappingHasDigits k → audit_lines h ≡ audit_lines k → h ≡ k

-- ---- replies

-- six counts that have digits
pub record CountsHaveDigits (c : Counts) : Type 0 where
  pub absent : HasDigits c.absent
  pub norights : HasDigits c.norights
  pub origin : HasDigits c.origin
  pub lost : HasDigits c.lost
  pub extended : HasDigits c.extended
  pub linked : HasDigits c.linked

-- a reply whose counts have digits and whose words have 32 bits
abbrev pub ReplyHasDigits : Reply → Type 0
ReplyHasDigits (sent c) = CountsHaveDigits c
ReplyHasDigits (accessed ok) = Unit {0}
ReplyHasDigits (unmapped words) = All (λ w. w < 2 ^ 32) words
ReplyHasDigits (cleared status) = Unit {0}
ReplyHasDigits (refused r) = Unit {0}

-- the line of a reply determines its number and the reply: each count, each word, the status of a clear, which refusal
abbrev pub LineIsOfOneReply : Type 0
LineIsOfOneReply =
    (m n : ℕ) (r q : Reply) → HasDigits m → HasDigits n → ReplyHasDigits r → ReplyHasDigits q → reply_line m r ≡ reply_line n q → (m ≡ n) × (r ≡ q)

-- ---- the whole

-- replies and last holdings whose numbers have digits
pub record ToldHasDigits (t : Told) : Type 0 where
  pub count : HasDigits (length t.replies)
  pub replies : All ReplyHasDigits t.replies
  pub last : All MappingHasDigits t.last

-- what is written of a trace determines every reply and all that is held at the end
abbrev pub TextIsOfOneResult : Type 0
TextIsOfOneResult = (t u : Told) → ToldHasDigits t → ToldHasDigits u → text t ≡ text u → t ≡ u

-- the end line determines its two numbers
abbrev pub EndIsOfTwoNumbers : Type 0
EndIsOfTwoNumbers = (a b c d : ℕ) → HasDigits a → HasDigits b → HasDigits c → HasDigits d → end_line a b ≡ end_line c d → (a ≡ c) × (b ≡ d)

-- a reply that is a refusal
pub record IsRefusal (r : Reply) : Type 0 where
  pub why : Refusal
  pub is : r ≡ refused why

-- the refusals are told from the other replies
abbrev pub RefusalsAreTold : Type 0
RefusalsAreTold = (r : Reply) → Decides (is_refused r) (IsRefusal r)

-- a text that ends with a line
pub record EndsWith (bytes line : List ℕ) : Type 0 where
  pub before : List ℕ
  pub is : bytes ≡ before ++ line

-- what is written ends with the number of replies, and the number of those that are refusals
abbrev pub EndCountsReplies : Type 0
EndCountsReplies = (t : Told) → EndsWith (text t) (end_line (length t.replies) (length (filter is_refused t.replies)))
