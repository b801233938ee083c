-- Shards are made one after another.
use Rattle.std.proofs.Common.{◌≡◌, ◌∙◌, sym, ap, subst, arith, ℕ, ◌+◌, ◌<◌, ◌⊎◌, inl, inr, Bool, true, IsTrue, List, length, get_or}
use Rattle.std.proofs.lemmas.List.{get_or_default}
use Rattle.space.specs.declared.place.Place.{Place}
use Rattle.space.specs.declared.shards.Shards.{Shards}
use Rattle.space.specs.Directory.{pages_of}
use Rattle.space.specs.Shards.{IsPlace, HasWord, IsMade, AreOnlyMade}
use Rattle.space.proofs.Leaves.{same_or_not}

-- a word that was there still is
pub still_there : (old new : Shards) → IsMade old new → (p : Place) → HasWord old p → HasWord new p
still_there old new made p has = omega (arith, made.index p has, made.count, has)

pub made_on : (a b c : Shards) → IsMade a b → IsMade b c → IsMade a c
made_on a b c first then = record {
  spaces = then.spaces ∙ first.spaces;
  bits = then.bits ∙ first.bits;
  entries = λ p. then.entries p ∙ first.entries p;
  index = λ p has. then.index p (still_there a b first p has) ∙ first.index p has;
  count = omega (arith, first.count, then.count);
}

-- a place stays one
pub place_on : (old new : Shards) → IsMade old new → (p : Place) → IsPlace old p → IsPlace new p
place_on old new made p place = record { space = subst (λ n. p.space < n) (sym made.spaces) place.space; page = subst (λ b. p.page < pages_of b) (sym made.bits) place.page }

-- the shards of so many places are there, and that of the next one is made
pub has_more : (old new : Shards) (places : List Place) (i : ℕ) (first : Place) → IsMade old new → i < length places → HasWord new (get_or places i first)
    → ((k : ℕ) (d : Place) → k < i → HasWord old (get_or places k d)) → (k : ℕ) (d : Place) → k < i + 1 → HasWord new (get_or places k d)
has_more old new places i first made within has before k d less = elim (same_or_not k i) as (λ _. HasWord new (get_or places k d)) [
  | inl same ↦ subst (HasWord new) (get_or_default places i first d within ∙ ap (λ n. get_or places n d) (sym same)) has
  | inr differ ↦ still_there old new made (get_or places k d) (before k d (omega (arith, less, differ)))
]

-- what was made first and then is made of all
pub only_on : (a b c : Shards) (all one : Place → Bool) → IsMade b c → AreOnlyMade a b all → AreOnlyMade b c one → ((p : Place) → one p ≡ true → all p ≡ true) → AreOnlyMade a c all
only_on a b c all one then first more within = record { each = λ p place has. by p (before p place) (more.each p place has) }
  where
    before : (p : Place) → IsPlace c p → IsPlace b p
    before p place = record { space = subst (λ n. p.space < n) then.spaces place.space; page = subst (λ n. p.page < pages_of n) then.bits place.page }

    by : (p : Place) → IsPlace b p → (HasWord b p) ⊎ IsTrue (one p) → (HasWord a p) ⊎ IsTrue (all p)
    by p place (inl had) = first.each p place had
    by p place (inr new) = inr (within p new)
