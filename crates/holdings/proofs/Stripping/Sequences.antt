-- Runs stripped one after another are stripped at once; and the first places of outermost runs stand for all named places.
use Rattle.std.proofs.Common.{◌≡◌, ℕ, zero, suc, ◌<◌, ◌≤◌, false, Bool, ◌||◌, List, [], ◌∷◌, ◌++◌, length, get_or, refl, sym, ap, ◌∙◌, arith, ◌⊎◌, inl, inr}
use Rattle.std.specs.declared.ops.Range.{Range}
use Rattle.std.proofs.lemmas.List.Folds.{list_any-append}
use Rattle.std.proofs.Math.Bool.{or-false}
use Rattle.fpage.specs.Rights.{no_rights}
use Rattle.fpage.specs.declared.rights.Rights.{Rights}
use Rattle.space.specs.declared.place.Place.{Place}
use Rattle.space.specs.declared.shards.Shards.{Shards}
use Rattle.space.specs.Place.{same_place}
use Rattle.space.specs.Shards.{IsLaidOutAs}
use Rattle.space.proofs.Places.{same_or_apart, apart_back}
use Rattle.maptree.specs.Origins.{Shape, AreRising}
use Rattle.model.specs.Definitions.Holdings.{only}
use Rattle.model.specs.Definitions.Strip.{strip, strip_word}
use Rattle.model.proofs.LawfulParts.{IsLawful, lawful_parts}
use Rattle.model.proofs.Chains.{below_empty}
use Rattle.model.proofs.StripUnions.{strip_nothing, word_nothing}
use Rattle.holdings.specs.Inner.Held.{holdings_in}
use Rattle.holdings.specs.Places.{any_of}
use Rattle.holdings.specs.Inner.Sound.{AreLoose}

-- ---- ranges

-- a range of rising ones
pub rising_at : (from : ℕ) (rs : List (Range ℕ)) (most i : ℕ) (d : Range ℕ) → AreRising from rs most → i < length rs → ((get_or rs i d).start < (get_or rs i d).end) × ((get_or rs i d).end ≤ most)
rising_at from [] most i d rise within = absurd (omega (arith, within))
rising_at from (r ∷ rs) most zero d rise within = (rise.1, most_of r.end rs rise.2)
  where
    most_of : (from : ℕ) (rs : List (Range ℕ)) → AreRising from rs most → from ≤ most
    most_of from [] rise = rise
    most_of from (r ∷ rs) rise = let rest = most_of r.end rs rise.2 in omega (arith, rest, rise.0, rise.1)
rising_at from (r ∷ rs) most (suc i) d rise within = rising_at r.end rs most i d rise.2 (omega (arith, within))

-- ---- sets

-- places are one or apart both ways
pub same_back : (p q : Place) → same_place p q ≡ same_place q p
same_back p q = by (same_or_apart p q)
  where
    by : (p ≡ q) ⊎ (same_place p q ≡ false) → same_place p q ≡ same_place q p
    by (inl same) = ap (λ x. same_place x q) same ∙ ap (same_place q) (sym same)
    by (inr apart) = apart ∙ sym (apart_back p q apart)

-- one more place of a list
pub any_more : (ps : List Place) (c q : Place) → any_of (ps ++ c ∷ []) q ≡ (any_of ps q || only c q)
any_more ps c q = list_any-append (same_place q) ps (c ∷ []) ∙ ap (λ b. any_of ps q || b) (or-false (same_place q c) ∙ same_back q c)

-- ---- in turn

-- what is left and given back when these places have been stripped
pub record AreStripped (old : Shards) (trees : List Shape) (ps : List Place) (a : Rights) (f : Bool) (now : Shards) (status : Rights) : Type 0 where
  pub word : status ≡ strip_word (holdings_in old trees) (any_of ps)
  pub left : holdings_in now trees ≡ strip (holdings_in old trees) (any_of ps) a f
  pub loose : AreLoose now trees
  pub layout : IsLaidOutAs old now

module _ (old : Shards) (trees : List Shape) (loose : AreLoose old trees) (a : Rights) (f : Bool) where
  was_lawful : IsLawful (holdings_in old trees)
  was_lawful = lawful_parts (holdings_in old trees) loose.lawful

  pub none_stripped : AreStripped old trees [] a f old no_rights
  none_stripped =
      let nothing = below_empty (holdings_in old trees) was_lawful (any_of []) (λ q. refl) in
      record {
        word = sym (word_nothing (holdings_in old trees) (any_of []) was_lawful (λ q _. nothing q));
        left = sym (strip_nothing (holdings_in old trees) was_lawful (any_of []) a f (λ q _. nothing q));
        loose = loose;
        layout = record { spaces = refl; bits = refl; count = refl; index = λ p. refl };
      }
