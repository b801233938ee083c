-- Turns taken back, one after another.
use Rattle.std.proofs.Common.{◌≡◌, ℕ, zero, suc, ◌+◌, ◌<◌, ◌≤◌, Bool, true, false, ◌&&◌, not, List, [], ◌∷◌, ◌++◌, length, get_or, Option, Some, None, refl, ap, ◌∙◌, sym, subst, arith, length-append, if◌then◌else◌}
use Rattle.std.specs.Prelude.{◌==◌}
use Rattle.std.specs.List.{All, flat_map}
use Rattle.std.specs.Option.{option_to_list, option_map}
use Rattle.std.specs.Prelude.{slice_get}
use Rattle.std.proofs.lemmas.Option.{slice_get-get_or}
use Rattle.pieces.specs.declared.piece.Piece.{Piece}
use Rattle.pieces.specs.declared.piece.Piece.TheVariants as piece
use Rattle.std.specs.Vec.{vec_capacity}
use Rattle.std.specs.declared.vec.Vec.{Vec}
use Rattle.std.specs.declared.alloc.Global.{Global}
use Rattle.std.proofs.lemmas.Grind.{flat_map-append}
use Rattle.std.proofs.lemmas.List.{map-append, append-nil, length-map}
use Rattle.std.proofs.lemmas.List.Elements.{All-append}
use Rattle.atomic_table.specs.Seated.{TableId}
use Rattle.atomic_table.specs.Table.{Me}
use Rattle.pieces.specs.Distinct.{is_none_of}
use Rattle.pieces.specs.Dones.{DoneContent}
use Rattle.turns.specs.Closing.{numbers_of, counts_of, unended_of, AreAll}
use Rattle.turns.specs.Posts.{PostContent}
use Rattle.turns.specs.SharedWords.{SharedContent, IsSeat}
use Rattle.turns.specs.Turns.{steps_to_do, done_of}
use Rattle.turns.specs.Views.{names_in}
use Rattle.turns.specs.declared.open.Unended.{Unended}
use Rattle.turns.specs.declared.view.View.{View}
use Rattle.turns.proofs.Pigeons.{no_more}

-- the turns so far are taken back
pub record AreTaken (s : SharedContent) (ts : List PostContent) (table : TableId) (me : Me (Unit {0}) View) (dones : Vec DoneContent Global) (unended : Vec Unended Global) : Type 0 where
  pub seat : IsSeat s table me
  pub counts : me.0.counts ≡ counts_of ts
  pub below : All (λ c. c.0 < length s.opening.pieces) (counts_of ts)
  pub once : (p : ℕ) → names_in p (counts_of ts) ≤ 1
  pub done : dones.items ≡ flat_map done_of ts
  pub some_unended : unended.items ≡ flat_map unended_of ts
  pub room_done : length s.opening.pieces ≤ vec_capacity dones
  pub room_unended : length s.opening.pieces ≤ vec_capacity unended

-- ---- one more

pub counts_more : (ts : List PostContent) (t : PostContent) → counts_of (ts ++ t ∷ []) ≡ counts_of ts ++ (t.number, t.steps) ∷ []
counts_more ts t = map-append (λ (u : PostContent). (u.number, u.steps)) ts (t ∷ [])

pub below_more : (n : ℕ) (ts : List PostContent) (t : PostContent) → All (λ c. c.0 < n) (counts_of ts) → t.number < n → All (λ c. c.0 < n) (counts_of (ts ++ t ∷ []))
below_more n ts t all less =
    subst (All (λ c. c.0 < n)) (sym (counts_more ts t)) (All-append (λ (c : ℕ × ℕ). c.0 < n) (counts_of ts) ((t.number, t.steps) ∷ []) all one)
  where
    one : (k : ℕ) (d : ℕ × ℕ) → k < 1 → (get_or ((t.number, t.steps) ∷ []) k d).0 < n
    one zero d low = less
    one (suc k) d low = absurd (omega (arith, low))

pub done_more : (ts : List PostContent) (t : PostContent) → flat_map done_of (ts ++ t ∷ []) ≡ flat_map done_of ts ++ done_of t
done_more ts t = flat_map-append done_of ts (t ∷ []) ∙ ap (λ ds. flat_map done_of ts ++ ds) (append-nil (done_of t))

pub unended_more : (ts : List PostContent) (t : PostContent) → flat_map unended_of (ts ++ t ∷ []) ≡ flat_map unended_of ts ++ unended_of t
unended_more ts t = flat_map-append unended_of ts (t ∷ []) ∙ ap (λ ds. flat_map unended_of ts ++ ds) (append-nil (unended_of t))

-- ---- room

one_done : (t : PostContent) → length (done_of t) ≤ 1
one_done t = by (t.steps == steps_to_do t) _
  where
    by : (b : Bool) (o : Option DoneContent) → length (if b then option_to_list o else []) ≤ 1
    by true None = omega arith
    by true (Some d) = omega arith
    by false o = omega arith

one_unended : (t : PostContent) → length (unended_of t) ≤ 1
one_unended t = by (t.steps == steps_to_do t) (record { piece = t.number; steps = t.steps })
  where
    by : (b : Bool) (u : Unended) → length (if b then [] else u ∷ []) ≤ 1
    by true u = omega arith
    by false u = omega arith

few : {A : Type 0} (f : PostContent → List A) → ((t : PostContent) → length (f t) ≤ 1) → (ts : List PostContent) → length (flat_map f ts) ≤ length ts
few f one [] = omega arith
few f one (t ∷ ts) =
    let a : ℕ = length (f t) in let b : ℕ = length (flat_map f ts) in let c : ℕ = length (flat_map f (t ∷ ts)) in let n : ℕ = length ts in
    let c_is : c ≡ a + b = length-append (f t) (flat_map f ts) in let here : a ≤ 1 = one t in let rest : b ≤ n = few f one ts in omega (arith, c_is, here, rest)

-- no more turns than pieces are taken back, so there is room for one more
pub room_for : (n : ℕ) (ts : List PostContent) (t : PostContent) → All (λ c. c.0 < n) (counts_of (ts ++ t ∷ [])) → ((p : ℕ) → names_in p (counts_of (ts ++ t ∷ [])) ≤ 1)
    → (length (flat_map done_of ts) < n) × (length (flat_map unended_of ts) < n)
room_for n ts t all once =
    let m : ℕ = length (counts_of (ts ++ t ∷ [])) in
    let many : m ≤ n = no_more n (counts_of (ts ++ t ∷ [])) all once in
    let k : ℕ = length ts in
    let l : ℕ = length (ts ++ t ∷ []) in
    let m_is : m ≡ l = length-map (ts ++ t ∷ []) (λ (u : PostContent). (u.number, u.steps)) in
    let l_is : l ≡ k + 1 = length-append ts (t ∷ []) in
    let a : ℕ = length (flat_map done_of ts) in let a_few : a ≤ k = few done_of one_done ts in
    let b : ℕ = length (flat_map unended_of ts) in let b_few : b ≤ k = few unended_of one_unended ts in
    (omega (arith, many, m_is, l_is, a_few), omega (arith, many, m_is, l_is, b_few))

-- ---- whether a turn has ended

pub is_done : (t : PostContent) (o : Option DoneContent) (d : DoneContent) → o ≡ Some d → option_to_list o ≡ done_of t → unended_of t ≡ []
is_done t o d at is = by (t.steps == steps_to_do t) _ (record { piece = t.number; steps = t.steps }) (sym (ap option_to_list at) ∙ is)
  where
    by : (b : Bool) (p : Option DoneContent) (u : Unended) → option_to_list (Some d) ≡ (if b then option_to_list p else []) → (if b then [] else u ∷ []) ≡ []
    by true p u h = refl
    by false p u h = absurd (cc)

pub not_done : (t : PostContent) (o : Option DoneContent) → o ≡ None → option_to_list o ≡ done_of t → t.number < length t.shared.opening.pieces → unended_of t ≡ record { piece = t.number; steps = t.steps } ∷ []
not_done t o at is less =
    let p = get_or t.shared.opening.pieces t.number none in
    by (t.steps == steps_to_do t) _ (slice_get t.shared.opening.pieces t.number) p (slice_get-get_or t.shared.opening.pieces t.number none less) (record { piece = t.number; steps = t.steps }) (sym (ap option_to_list at) ∙ is)
  where
    none : Piece
    none = piece.Touch []

    by : (b : Bool) (f : Piece → DoneContent) (q : Option Piece) (p : Piece) → q ≡ Some p → (u : Unended) → option_to_list None ≡ (if b then option_to_list (option_map f q) else []) → (if b then [] else u ∷ []) ≡ u ∷ []
    by true f q p there u h = absurd (none_some (f p) (h ∙ ap (λ r. option_to_list (option_map f r)) there))
      where
        none_some : (d : DoneContent) → ◌≡◌ {A = List DoneContent} [] (d ∷ []) → ⊥
        none_some d k = absurd (cc)
    by false f q p there u h = refl

-- ---- at the end

pub named_all : (s : SharedContent) (ts : List PostContent) → AreAll s ts → (p : ℕ) → p < length s.opening.pieces → 0 < names_in p (counts_of ts)
named_all s ts all p less = named ts (all p less)
  where
    named : (us : List PostContent) → is_none_of (numbers_of us) p ≡ false → 0 < names_in p (counts_of us)
    named [] none = absurd (cc)
    named (u ∷ us) none = by (u.number == p) none (named us)
      where
        by : (b : Bool) → (not b && is_none_of (numbers_of us) p) ≡ false → (is_none_of (numbers_of us) p ≡ false → 0 < names_in p (counts_of us)) → 0 < (if b then 1 else 0) + names_in p (counts_of us)
        by true h later = let m : ℕ = names_in p (counts_of us) in omega arith
        by false h later = let m : ℕ = names_in p (counts_of us) in let some : 0 < m = later h in omega arith
