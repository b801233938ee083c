-- What is written reads back.
use Rattle.std.proofs.Common.{◌≡◌, ℕ, zero, suc, ◌+◌, ◌*◌, ◌/◌, ◌%◌, ◌^◌, ◌<◌, ◌≤◌, true, false, Bool, List, [], ◌∷◌, ◌++◌, length, drop, Option, Some, None, append_assoc, refl, sym, ap, ◌∙◌, arith}
use Rattle.std.specs.Char.{digit_value}
use Rattle.std.specs.Fmt.{decimal}
use Rattle.std.specs.Str.Parse.{AllDigits, digits_value, digits_value_after}
use Rattle.std.proofs.Math.Arith.{mod-mul}
use Rattle.std.proofs.Math.Nat.{pow-succ', one-le-pow}
use Rattle.std.proofs.lemmas.Str.{digit_value-digit_char}
use Rattle.std.proofs.lemmas.Fmt.{decimal_is_IsNumeral_wide}
use Rattle.fpage.specs.declared.rights.Rights.{Rights}
use Rattle.space.specs.declared.place.Place.{Place}
use Rattle.model.specs.Definitions.Holdings.{Held}
use Rattle.model.specs.Definitions.Text.{hex_code, hex_digits, letter, audit_line, audit_lines}
use Rattle.model.specs.Laws.TextLaws.{HasDigits, DecimalReadsBack, HexReadsBack, PlaceHasDigits, MappingHasDigits, LineIsOfOneMapping, AuditIsOfOneHoldings}

-- ---- numbers

pub decimal_reads_back : DecimalReadsBack
decimal_reads_back n small = decimal_is_IsNumeral_wide n small

hex_value : (d : ℕ) → d < 16 → digit_value (hex_code d) ≡ d
hex_value d small = digit_value-digit_char d (omega arith)

hex_length : (count n : ℕ) → length (hex_digits count n) ≡ count
hex_length zero n = refl
hex_length (suc count) n = ap suc (hex_length count n)

-- the digits that follow those of a number
hex_reads_after : (count n before : ℕ) → digits_value_after 16 before (hex_digits count n) ≡ before * 16 ^ count + n % 16 ^ count
hex_reads_after zero n before = omega arith
hex_reads_after (suc count) n before =
    let d = n / 16 ^ count % 16 in
    let is_digit : d < 16 = omega arith in
    ap (λ x. digits_value_after 16 (before * 16 + x) (hex_digits count n)) (hex_value d is_digit)
    ∙ hex_reads_after count n (before * 16 + d)
    ∙ one_more before d (16 ^ count) (16 ^ suc count) (n % 16 ^ count) (n % 16 ^ suc count) (pow-succ' 16 count)
    (ap (λ x. n % x) (pow-succ' 16 count) ∙ mod-mul n {m = 16} {c = 16 ^ count} (omega arith) (some_power (one-le-pow count 16 (omega arith))))
  where
    some_power : 1 ≤ 16 ^ count → 0 < 16 ^ count
    some_power some = omega arith

    one_more : (before d unit larger low all : ℕ) → larger ≡ 16 * unit → all ≡ d * unit + low → (before * 16 + d) * unit + low ≡ before * larger + all
    one_more before d unit larger low all is_larger is_all = rw (is_larger, is_all) (omega arith)

hex_reads : (word : ℕ) → word < 2 ^ 32 → digits_value_after 16 0 (hex_digits 8 word) ≡ 0 * 16 ^ 8 + word % 16 ^ 8 → digits_value 16 (hex_digits 8 word) ≡ word
hex_reads word small is = is ∙ omega arith

pub hex_reads_back : HexReadsBack
hex_reads_back word small = (hex_length 8 word, hex_reads word small (hex_reads_after 8 word 0))

-- ---- digits, and what follows them

-- no decimal digit
abbrev pub NoDigit : ℕ → Type 0
NoDigit c = 10 ≤ digit_value c

digits_then : (a b : List ℕ) (c d : ℕ) (s t : List ℕ) → AllDigits 10 a → AllDigits 10 b → NoDigit c → NoDigit d → a ++ (c ∷ s) ≡ b ++ (d ∷ t) → (a ≡ b) × (c ∷ s ≡ d ∷ t)
digits_then [] [] c d s t all_a all_b no_c no_d is = (refl, is)
digits_then [] (y ∷ b) c d s t all_a all_b no_c no_d is = let first : c ≡ y = cc is in let same : digit_value c ≡ digit_value y = ap digit_value first in absurd (omega (arith, same, no_c, all_b.0))
digits_then (x ∷ a) [] c d s t all_a all_b no_c no_d is = let first : x ≡ d = cc is in let same : digit_value x ≡ digit_value d = ap digit_value first in absurd (omega (arith, same, no_d, all_a.0))
digits_then (x ∷ a) (y ∷ b) c d s t all_a all_b no_c no_d is =
    let same : x ≡ y = cc is in
    let rest : a ++ (c ∷ s) ≡ b ++ (d ∷ t) = cc is in
    let r = digits_then a b c d s t all_a.1 all_b.1 no_c no_d rest in
    (λ i. same i ∷ r.0 i, r.1)

-- the digits of a number end where no digit follows
pub decimal_then : (m n : ℕ) → HasDigits m → HasDigits n → (c d : ℕ) → NoDigit c → NoDigit d → (s t : List ℕ) → decimal m ++ (c ∷ s) ≡ decimal n ++ (d ∷ t) → (m ≡ n) × (c ∷ s ≡ d ∷ t)
decimal_then m n small_m small_n c d no_c no_d s t is =
    let read_m = decimal_is_IsNumeral_wide m small_m in
    let read_n = decimal_is_IsNumeral_wide n small_n in
    let r = digits_then (decimal m) (decimal n) c d s t read_m.0.1 read_n.0.1 no_c no_d is in
    (sym read_m.1 ∙ ap (digits_value 10) r.0 ∙ read_n.1, r.1)

-- there is one digit or more
pub no_decimal : (n : ℕ) → HasDigits n → (c d : ℕ) → NoDigit c → NoDigit d → (s t : List ℕ) → c ∷ s ≡ decimal n ++ (d ∷ t) → ⊥
no_decimal n small c d no_c no_d s t is =
    let read_n = decimal_is_IsNumeral_wide n small in
    let r = digits_then [] (decimal n) c d s t tt read_n.0.1 no_c no_d is in
    let none : 0 ≡ length (decimal n) = ap length r.0 in
    omega (arith, none, read_n.0.0)

-- ---- the parts of a line

one_letter : (has other : Bool) (c : ℕ) → (45 ≡ c → ⊥) → letter has c ≡ letter other c → has ≡ other
one_letter true true c no_dash is = refl
one_letter true false c no_dash is = absurd (no_dash (sym is))
one_letter false true c no_dash is = absurd (no_dash is)
one_letter false false c no_dash is = refl

three_letters : (a b : Rights) (r w x : ℕ) → (45 ≡ r → ⊥) → (45 ≡ w → ⊥) → (45 ≡ x → ⊥) → (s t : List ℕ)
    → letter a.read r ∷ letter a.write w ∷ letter a.execute x ∷ s ≡ letter b.read r ∷ letter b.write w ∷ letter b.execute x ∷ t → (a ≡ b) × (s ≡ t)
three_letters a b r w x no_r no_w no_x s t is =
    let read = one_letter a.read b.read r no_r (cc is) in
    let write = one_letter a.write b.write w no_w (cc is) in
    let execute = one_letter a.execute b.execute x no_x (cc is) in
    (λ i. record { read = read i; write = write i; execute = execute i }, cc is)

place_then : (p q : Place) → PlaceHasDigits p → PlaceHasDigits q → (s t : List ℕ) → decimal p.space ++ (58 ∷ (decimal p.page ++ (10 ∷ s))) ≡ decimal q.space ++ (58 ∷ (decimal q.page ++ (10 ∷ t))) → (p ≡ q) × (s ≡ t)
place_then p q small_p small_q s t is =
    let space = decimal_then p.space q.space small_p.space small_q.space 58 58 (omega arith) (omega arith) _ _ is in
    let rest : decimal p.page ++ (10 ∷ s) ≡ decimal q.page ++ (10 ∷ t) = cc (space.1) in
    let page = decimal_then p.page q.page small_p.page small_q.page 10 10 (omega arith) (omega arith) s t rest in
    (λ i. record { space = space.0 i; page = page.0 i }, cc (page.1))

-- an origin as it is written, and the end of the line
abbrev pub origin_onto : Option Place → List ℕ → List ℕ
origin_onto None s = 45 ∷ 10 ∷ s
origin_onto (Some o) s = decimal o.space ++ (58 ∷ (decimal o.page ++ (10 ∷ s)))

abbrev OriginHasDigits : Option Place → Type 0
OriginHasDigits from = (o : Place) → from ≡ Some o → PlaceHasDigits o

origin_then : (a b : Option Place) → OriginHasDigits a → OriginHasDigits b → (s t : List ℕ) → origin_onto a s ≡ origin_onto b t → (a ≡ b) × (s ≡ t)
origin_then None None small_a small_b s t is = (refl, cc is)
origin_then None (Some q) small_a small_b s t is = absurd (no_decimal q.space (small_b q refl).space 45 58 (omega arith) (omega arith) _ _ is)
origin_then (Some p) None small_a small_b s t is = absurd (no_decimal p.space (small_a p refl).space 45 58 (omega arith) (omega arith) _ _ (sym is))
origin_then (Some p) (Some q) small_a small_b s t is = let r = place_then p q (small_a p refl) (small_b q refl) s t is in (ap Some r.0, r.1)

-- ---- lines

-- a line, and what follows it
abbrev pub line_onto : Place × Held → List ℕ → List ℕ
line_onto e s =
    decimal e.0.space ++ (44 ∷ (decimal e.0.page ++ (44 ∷ (decimal e.1.frame ++ (44 ∷
    letter e.1.rights.read 114 ∷ letter e.1.rights.write 119 ∷ letter e.1.rights.execute 120 ∷ 44 ∷
    letter e.1.status.read 82 ∷ letter e.1.status.write 87 ∷ letter e.1.status.execute 88 ∷ 44 ∷ origin_onto e.1.origin s)))))

pub line_is : (e : Place × Held) (s : List ℕ) → audit_line e ++ s ≡ line_onto e s
line_is e s = by e.1.origin refl
  where
    by : (o : Option Place) → e.1.origin ≡ o → audit_line e ++ s ≡ line_onto e s
    by None is = rw is (simp append_assoc)
    by (Some o) is = rw is (simp append_assoc)

pub line_then : (d e : Place × Held) → MappingHasDigits d → MappingHasDigits e → (s t : List ℕ) → line_onto d s ≡ line_onto e t → (d ≡ e) × (s ≡ t)
line_then d e small_d small_e s t is =
    let space = decimal_then d.0.space e.0.space small_d.place.space small_e.place.space 44 44 (omega arith) (omega arith) _ _ is in
    let page = decimal_then d.0.page e.0.page small_d.place.page small_e.place.page 44 44 (omega arith) (omega arith) _ _ (ap (drop 1) space.1) in
    let frame = decimal_then d.1.frame e.1.frame small_d.frame small_e.frame 44 44 (omega arith) (omega arith) _ _ (ap (drop 1) page.1) in
    let rights = three_letters d.1.rights e.1.rights 114 119 120 (λ x. omega (arith, x)) (λ x. omega (arith, x)) (λ x. omega (arith, x)) _ _ (ap (drop 1) frame.1) in
    let status = three_letters d.1.status e.1.status 82 87 88 (λ x. omega (arith, x)) (λ x. omega (arith, x)) (λ x. omega (arith, x)) _ _ (ap (drop 1) rights.1) in
    let origin = origin_then d.1.origin e.1.origin small_d.origin small_e.origin s t (ap (drop 1) status.1) in
    (λ i. (record { space = space.0 i; page = page.0 i }, record { frame = frame.0 i; rights = rights.0 i; status = status.0 i; origin = origin.0 i }), origin.1)

pub line_is_of_one_mapping : LineIsOfOneMapping
line_is_of_one_mapping d e small_d small_e is =
    (line_then d e small_d small_e [] [] (sym (line_is d []) ∙ ap (λ x. x ++ []) is ∙ line_is e [])).0

no_line : (e : Place × Held) → MappingHasDigits e → (s : List ℕ) → [] ≡ line_onto e s → ⊥
no_line e small s is = by (decimal e.0.space) _ is
  where
    by : (ds s : List ℕ) → [] ≡ ds ++ (44 ∷ s) → ⊥
    by [] s is = cc is
    by (d ∷ ds) s is = cc is

pub audit_is_of_one_holdings : AuditIsOfOneHoldings
audit_is_of_one_holdings [] [] small_h small_k is = refl
audit_is_of_one_holdings [] (e ∷ k) small_h small_k is = absurd (no_line e (small_k 0 e (omega arith)) (audit_lines k) (is ∙ line_is e (audit_lines k)))
audit_is_of_one_holdings (d ∷ h) [] small_h small_k is = absurd (no_line d (small_h 0 d (omega arith)) (audit_lines h) (sym is ∙ line_is d (audit_lines h)))
audit_is_of_one_holdings (d ∷ h) (e ∷ k) small_h small_k is =
    let r = line_then d e (small_h 0 d (omega arith)) (small_k 0 e (omega arith)) (audit_lines h) (audit_lines k) (sym (line_is d (audit_lines h)) ∙ is ∙ line_is e (audit_lines k)) in
    let rest = audit_is_of_one_holdings h k (λ i x below. small_h (suc i) x (omega arith)) (λ i x below. small_k (suc i) x (omega arith)) r.1 in
    λ i. r.0 i ∷ rest i
