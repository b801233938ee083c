-- What all turns hand in: each piece is in one of the two lists, once.
use Rattle.std.proofs.Common.{◌≡◌, ℕ, zero, suc, ◌+◌, ◌<◌, ◌≤◌, Bool, true, false, ◌&&◌, not, List, [], ◌∷◌, ◌++◌, length, map, Option, Some, refl, ap, ◌∙◌, sym, subst, arith, zero-add, if◌then◌else◌}
use Rattle.std.specs.Prelude.{◌==◌, slice_get}
use Rattle.std.specs.List.{All, flat_map}
use Rattle.std.specs.Option.{option_to_list, option_map}
use Rattle.std.proofs.lemmas.Bool.{eq-eqb}
use Rattle.std.proofs.lemmas.List.{length-append, length-map}
use Rattle.std.proofs.lemmas.Option.{slice_get-get_or}
use Rattle.pieces.specs.Distinct.{is_none_of, are_distinct}
use Rattle.pieces.specs.Dones.{DoneContent}
use Rattle.pieces.specs.declared.piece.Piece.{Piece}
use Rattle.pieces.specs.declared.piece.Piece.TheVariants as piece
use Rattle.turns.specs.Closing.{counts_of, unended_of, numbers_in, AreAll}
use Rattle.turns.specs.Posts.{PostContent}
use Rattle.turns.specs.SharedWords.{SharedContent}
use Rattle.turns.specs.Turns.{steps_to_do, done_of}
use Rattle.turns.specs.Views.{names_in}
use Rattle.turns.specs.declared.open.Unended.{Unended}
use Rattle.turns.proofs.Ending.{named_all}
use Rattle.turns.proofs.Pigeons.{as_many}

-- ---- how often a number stands in a list

abbrev times : ℕ → List ℕ → ℕ
times p [] = 0
times p (n ∷ ns) = (if n == p then 1 else 0) + times p ns

times_append : (p : ℕ) (ns ms : List ℕ) → times p (ns ++ ms) ≡ times p ns + times p ms
times_append p [] ms = sym (zero-add (times p ms))
times_append p (n ∷ ns) ms =
    let a : ℕ = if n == p then 1 else 0 in let b : ℕ = times p (ns ++ ms) in let x : ℕ = times p ns in let y : ℕ = times p ms in let m : b ≡ x + y = times_append p ns ms in omega arith

-- it stands there not at all, or some times
absent : (p : ℕ) (ns : List ℕ) → times p ns ≡ 0 → is_none_of ns p ≡ true
absent p [] none = refl
absent p (n ∷ ns) none = by (n == p) none (absent p ns)
  where
    by : (t : Bool) → (if t then 1 else 0) + times p ns ≡ 0 → (times p ns ≡ 0 → is_none_of ns p ≡ true) → (not t && is_none_of ns p) ≡ true
    by true none later = absurd (omega (arith, none))
    by false none later = later (sym (zero-add (times p ns)) ∙ none)

present : (p : ℕ) (ns : List ℕ) → 0 < times p ns → is_none_of ns p ≡ false
present p [] some = absurd (omega (arith, some))
present p (n ∷ ns) some = by (n == p) some (present p ns)
  where
    by : (t : Bool) → 0 < (if t then 1 else 0) + times p ns → (0 < times p ns → is_none_of ns p ≡ false) → (not t && is_none_of ns p) ≡ false
    by true some later = refl
    by false some later = later (subst (λ m. 0 < m) (zero-add (times p ns)) some)

-- where none stands there twice, they are distinct
distinct : (ns : List ℕ) → ((p : ℕ) → times p ns ≤ 1) → are_distinct ns ≡ true
distinct [] once = refl
distinct (n ∷ ns) once =
    let here : ℕ = if n == n then 1 else 0 in let here1 : here ≡ 1 = ap (λ t. if t then 1 else 0) (eq-eqb n n refl) in
    let rest : ℕ = times n ns in let one : here + rest ≤ 1 = once n in let none : rest ≡ 0 = omega (arith, here1, one) in
    ap (λ t. t && are_distinct ns) (absent n ns none)
    ∙ distinct ns (λ p. let a : ℕ = if n == p then 1 else 0 in let b : ℕ = times p ns in let both : a + b ≤ 1 = once p in let few : b ≤ 1 = omega (arith, both) in few)

-- ---- what one turn hands in: its number is in one of the lists

record IsHandedIn (n : ℕ) (ds : List DoneContent) (us : List Unended) : Type 0 where
  named : (p : ℕ) → times p (map (λ d. d.number) ds) + times p (map (λ u. u.piece) us) ≡ (if n == p then 1 else 0)
  one : length ds + length us ≡ 1

handed_in : (t : PostContent) → t.number < length t.shared.opening.pieces → IsHandedIn t.number (done_of t) (unended_of t)
handed_in t less =
    by (t.steps == steps_to_do t) _ (slice_get t.shared.opening.pieces t.number) _ (slice_get-get_or t.shared.opening.pieces t.number (piece.Touch []) less) (λ p. refl) (record { piece = t.number; steps = t.steps }) refl
  where
    by : (b : Bool) (f : Piece → DoneContent) (q : Option Piece) (p : Piece) → q ≡ Some p → ((p : Piece) → (f p).number ≡ t.number) → (u : Unended) → u.piece ≡ t.number
        → IsHandedIn t.number (if b then option_to_list (option_map f q) else []) (if b then [] else u ∷ [])
    by true f q p there same u same' = subst (λ r. IsHandedIn t.number (option_to_list (option_map f r)) []) (sym there) (record {
      named = λ k. ap (λ m. ((if m == k then 1 else 0) + 0) + 0) (same p) ∙ (let a : ℕ = if t.number == k then 1 else 0 in let z : (a + 0) + 0 ≡ a = omega arith in z);
      one = refl;
    })
    by false f q p there same u same' = record {
      named = λ k. ap (λ m. 0 + ((if m == k then 1 else 0) + 0)) same' ∙ (let a : ℕ = if t.number == k then 1 else 0 in let z : 0 + (a + 0) ≡ a = omega arith in z);
      one = refl;
    }

-- ---- what all hand in

map_append_numbers : {A : Type 0} (f : A → ℕ) (p : ℕ) (xs ys : List A) → times p (map f (xs ++ ys)) ≡ times p (map f xs) + times p (map f ys)
map_append_numbers f p [] ys = sym (zero-add (times p (map f ys)))
map_append_numbers f p (x ∷ xs) ys =
    let a : ℕ = if f x == p then 1 else 0 in let b : ℕ = times p (map f (xs ++ ys)) in let c : ℕ = times p (map f xs) in let d : ℕ = times p (map f ys) in
    let m : b ≡ c + d = map_append_numbers f p xs ys in omega arith

record AreHandedIn (ts : List PostContent) : Type 0 where
  named : (p : ℕ) → times p (map (λ d. d.number) (flat_map done_of ts)) + times p (map (λ u. u.piece) (flat_map unended_of ts)) ≡ names_in p (counts_of ts)
  many : length (flat_map done_of ts) + length (flat_map unended_of ts) ≡ length ts

all_handed_in : (ts : List PostContent) → All (λ t. t.number < length t.shared.opening.pieces) ts → AreHandedIn ts
all_handed_in [] below = record { named = λ p. refl; many = refl }
all_handed_in (t ∷ ts) below =
    let first : IsHandedIn t.number (done_of t) (unended_of t) = handed_in t (below 0 t (omega arith)) in
    let rest : AreHandedIn ts = all_handed_in ts (λ k d less. below (suc k) d (omega (arith, less))) in
    record {
      named =
          λ p.
          let a : ℕ = times p (map (λ d. d.number) (done_of t ++ flat_map done_of ts)) in
          let b : ℕ = times p (map (λ u. u.piece) (unended_of t ++ flat_map unended_of ts)) in
          let a0 : ℕ = times p (map (λ d. d.number) (done_of t)) in
          let a1 : ℕ = times p (map (λ d. d.number) (flat_map done_of ts)) in
          let b0 : ℕ = times p (map (λ u. u.piece) (unended_of t)) in
          let b1 : ℕ = times p (map (λ u. u.piece) (flat_map unended_of ts)) in
          let x : ℕ = if t.number == p then 1 else 0 in
          let y : ℕ = names_in p (counts_of ts) in
          let in_first : a ≡ a0 + a1 = map_append_numbers (λ d. d.number) p (done_of t) (flat_map done_of ts) in
          let in_second : b ≡ b0 + b1 = map_append_numbers (λ u. u.piece) p (unended_of t) (flat_map unended_of ts) in
          let one : a0 + b0 ≡ x = first.named p in
          let others : a1 + b1 ≡ y = rest.named p in
          let z : a + b ≡ x + y = omega (arith, in_first, in_second, one, others) in z;
      many =
          let a : ℕ = length (done_of t ++ flat_map done_of ts) in
          let b : ℕ = length (unended_of t ++ flat_map unended_of ts) in
          let a0 : ℕ = length (done_of t) in
          let a1 : ℕ = length (flat_map done_of ts) in
          let b0 : ℕ = length (unended_of t) in
          let b1 : ℕ = length (flat_map unended_of ts) in
          let n : ℕ = length ts in
          let in_first : a ≡ a0 + a1 = length-append (done_of t) (flat_map done_of ts) in
          let in_second : b ≡ b0 + b1 = length-append (unended_of t) (flat_map unended_of ts) in
          let one : a0 + b0 ≡ 1 = first.one in
          let others : a1 + b1 ≡ n = rest.many in
          let z : a + b ≡ suc n = omega (arith, in_first, in_second, one, others) in z;
    }

-- a turn of a phase has a piece of it
own_pieces : (s : SharedContent) (ts : List PostContent) → All (λ t. t.shared ≡ s) ts → All (λ c. c.0 < length s.opening.pieces) (counts_of ts) → All (λ t. t.number < length t.shared.opening.pieces) ts
own_pieces s [] of below k d less = absurd (omega (arith, less))
own_pieces s (t ∷ ts) of below zero d less = subst (λ (x : SharedContent). t.number < length x.opening.pieces) (sym (of 0 t (omega arith))) (below 0 (t.number, t.steps) (omega arith))
own_pieces s (t ∷ ts) of below (suc k) d less =
    own_pieces s ts (λ j e low. of (suc j) e (omega (arith, low))) (λ j e low. below (suc j) e (omega (arith, low))) k d (omega (arith, less))

-- all turns of a phase, of which no two have one piece
pub record AreWhole (n : ℕ) (ds : List DoneContent) (us : List Unended) : Type 0 where
  pub once : are_distinct (numbers_in ds us) ≡ true
  pub each : (p : ℕ) → p < n → is_none_of (numbers_in ds us) p ≡ false
  pub many : length ds + length us ≡ n

pub whole : (s : SharedContent) (ts : List PostContent) → All (λ t. t.shared ≡ s) ts → All (λ c. c.0 < length s.opening.pieces) (counts_of ts) → ((p : ℕ) → names_in p (counts_of ts) ≤ 1) → AreAll s ts
    → AreWhole (length s.opening.pieces) (flat_map done_of ts) (flat_map unended_of ts)
whole s ts of below once all =
    let in_lists : AreHandedIn ts = all_handed_in ts (own_pieces s ts of below) in
    let ns : List ℕ = numbers_in (flat_map done_of ts) (flat_map unended_of ts) in
    let named : (p : ℕ) → times p ns ≡ names_in p (counts_of ts) =
    λ p. times_append p (map (λ d. d.number) (flat_map done_of ts)) (map (λ u. u.piece) (flat_map unended_of ts)) ∙ in_lists.named p in
    record {
      once = distinct ns (λ p. subst (λ m. m ≤ 1) (sym (named p)) (once p));
      each = λ p less. present p ns (subst (λ m. 0 < m) (sym (named p)) (named_all s ts all p less));
      many =
          in_lists.many ∙ sym (length-map ts (λ (u : PostContent). (u.number, u.steps)))
          ∙ as_many (length s.opening.pieces) (counts_of ts) below (λ p less. let m : ℕ = names_in p (counts_of ts) in let some : 0 < m = named_all s ts all p less in let few : m ≤ 1 = once p in let one : m ≡ 1 = omega (arith, some, few) in one);
    }
