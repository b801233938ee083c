-- A replay that has come to some records.
use Rattle.std.proofs.Common.{◌≡◌, ℕ, suc, ◌+◌, ◌<◌, ◌≤◌, get_or, Bool, true, false, cond, List, [], ◌∷◌, ◌++◌, take, map, length, refl, sym, ap, ◌∙◌, arith, append_assoc, append-nil, add-zero, zero-add}
use mir.Val.{bool_byte}
use Rattle.std.proofs.lemmas.List.{length-map, length-take-le, map_more}
use Rattle.std.proofs.lemmas.List.Sums.{sum_by-append}
use Rattle.model.specs.Definitions.Holdings.{Holdings}
use Rattle.model.specs.Definitions.Calls.{Limits, Reply, accessed}
use Rattle.model.specs.Definitions.Answers.{answer}
use Rattle.model.specs.Definitions.Replay.{told_after}
use Rattle.model.specs.Definitions.Records.{Fields, Version, request}
use Rattle.model.specs.Definitions.Text.{reply_line, reply_lines, is_refused, refused_count}
use Rattle.replay.specs.Steps.{told_of}

-- ---- lists

pub take_front : (xs ys : List Reply) (k : ℕ) → k ≤ length ys → take (length xs + k) (xs ++ ys) ≡ xs ++ take k ys
take_front [] ys k le = rw zero-add refl
take_front (x ∷ xs) ys k le =
    let more : length (x ∷ xs) + k ≡ suc (length xs + k) = omega arith in
    rw more (ap (λ l. x ∷ l) (take_front xs ys k le))

pub lines_append : (n : ℕ) (xs ys : List Reply) → reply_lines n (xs ++ ys) ≡ reply_lines n xs ++ reply_lines (n + length xs) ys
lines_append n [] ys = rw add-zero refl
lines_append n (x ∷ xs) ys =
    let later : (n + 1) + length xs ≡ n + suc (length xs) = omega arith in
    ap (λ l. reply_line n x ++ l) (lines_append (n + 1) xs ys ∙ ap (λ k. reply_lines (n + 1) xs ++ reply_lines k ys) later)
    ∙ sym (append_assoc (reply_line n x) (reply_lines (n + 1) xs) (reply_lines (n + suc (length xs)) ys))

pub refused_append : (xs ys : List Reply) → refused_count (xs ++ ys) ≡ refused_count xs + refused_count ys
refused_append xs ys = sum_by-append (λ x. cond (is_refused x) 1 0) xs ys

-- one line more
pub lines_push : (n : ℕ) (rs : List Reply) (r : Reply) → reply_lines n (rs ++ (r ∷ [])) ≡ reply_lines n rs ++ reply_line (n + length rs) r
lines_push n rs r = lines_append n rs (r ∷ []) ∙ ap (λ l. reply_lines n rs ++ l) (append-nil (reply_line (n + length rs) r))

-- one answer more
pub line_more : (number i : ℕ) (answers : List Bool) (lines : List ℕ) (a : Bool) → i < length answers → a ≡ get_or answers i false
    → (lines ++ reply_lines number (map accessed (take i answers))) ++ reply_line (number + i) (accessed a) ≡ lines ++ reply_lines number (map accessed (take (i + 1) answers))
line_more number i answers lines a less is =
    let done = map accessed (take i answers) in
    let count : length done ≡ i = length-map (take i answers) accessed ∙ length-take-le i answers (omega (arith, less)) in
    let next : map accessed (take (i + 1) answers) ≡ done ++ (accessed a ∷ []) = map_more accessed answers i false less ∙ ap (λ b. done ++ (accessed b ∷ [])) (sym is) in
    append_assoc lines (reply_lines number done) (reply_line (number + i) (accessed a))
    ∙ ap (λ n. lines ++ (reply_lines number done ++ reply_line (number + n) (accessed a))) (sym count)
    ∙ ap (λ l. lines ++ l) (sym (lines_push number done (accessed a)) ∙ ap (reply_lines number) (sym next))

pub one_line : (n : ℕ) (r : Reply) → reply_lines n (r ∷ []) ≡ reply_line n r
one_line n r = append-nil (reply_line n r)

one_of : (is : Bool) (n : ℕ) → n ≡ bool_byte is → n ≡ cond is 1 0
one_of true n h = h
one_of false n h = h

pub one_refused : (r : Reply) (is : Bool) (n : ℕ) → is ≡ is_refused r → n ≡ bool_byte is → n ≡ refused_count (r ∷ [])
one_refused r is n is_refusal counted = one_of (is_refused r) n (counted ∙ ap (λ b. bool_byte b) is_refusal) ∙ sym (zero-add (cond (is_refused r) 1 0))

pub none_refused : (answers : List Bool) → refused_count (map accessed answers) ≡ 0
none_refused [] = refl
none_refused (a ∷ answers) = refused_append (accessed a ∷ []) (map accessed answers) ∙ ap (λ n. 0 + n) (none_refused answers)

at_most_one : (is : Bool) (n : ℕ) → n ≡ cond is 1 0 → n ≤ 1
at_most_one true n h = omega arith
at_most_one false n h = omega arith

pub refused_few : (replies : List Reply) → refused_count replies ≤ length replies
refused_few [] = omega arith
refused_few (r ∷ rs) =
    let few = refused_few rs in
    let one = at_most_one (is_refused r) (cond (is_refused r) 1 0) refl in
    let both = refused_append (r ∷ []) rs in
    let first : refused_count (r ∷ []) ≡ cond (is_refused r) 1 0 = zero-add (cond (is_refused r) 1 0) in
    omega (arith, few, one, both, first)

-- ---- records

-- some records, and then others
pub told_append : (version : Version) (limits : Limits) (xs ys : List Fields) (h : Holdings)
    → told_of version limits (xs ++ ys) h ≡ record { replies = (told_of version limits xs h).replies ++ (told_of version limits ys (told_of version limits xs h).last).replies; last = (told_of version limits ys (told_of version limits xs h).last).last }
told_append version limits [] ys h = refl
told_append version limits (x ∷ xs) ys h = let first = answer limits h (request version limits x) in ap (told_after first) (told_append version limits xs ys first.left)

-- each record has a reply
pub replies_count : (version : Version) (limits : Limits) (rows : List Fields) (h : Holdings) → length (told_of version limits rows h).replies ≡ length rows
replies_count version limits [] h = refl
replies_count version limits (f ∷ rows) h = ap suc (replies_count version limits rows (answer limits h (request version limits f)).left)
