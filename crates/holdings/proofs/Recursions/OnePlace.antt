-- The run of one place.
use Rattle.std.proofs.Common.{◌≡◌, ℕ, true, false, Bool, List, [], ◌∷◌, sym, ◌∙◌, subst, ◌⊎◌, inl, inr}
use Rattle.std.specs.declared.ops.Range.{Range}
use Rattle.std.proofs.lemmas.Bool.{or_cases}
use Rattle.fpage.specs.declared.rights.Rights.{Rights}
use Rattle.space.specs.declared.place.Place.{Place}
use Rattle.space.specs.declared.shards.Shards.{Shards}
use Rattle.space.specs.Place.{same_place}
use Rattle.space.specs.Shards.{IsLaidOutAs}
use Rattle.space.proofs.Places.{same_is}
use Rattle.maptree.specs.Origins.{Origins, Shape, place_at}
use Rattle.model.specs.Definitions.Holdings.{Holdings, only}
use Rattle.model.specs.Definitions.Strip.{strip, strip_word}
use Rattle.model.proofs.LawfulParts.{IsLawful, lawful_parts}
use Rattle.model.proofs.StripUnions.{strip_same, word_same}
use Rattle.holdings.specs.Inner.Held.{is_listed, holdings_in}
use Rattle.holdings.specs.Places.{any_of}
use Rattle.holdings.specs.Inner.Stripping.{firsts, AreOfFrame}
use Rattle.holdings.specs.Inner.Sound.{AreSound, AreLoose}
use Rattle.holdings.proofs.Stripping.Sequences.{AreStripped, any_more}
use Rattle.holdings.proofs.Stripping.Frames.{loose_from}

-- a listed place of sound words and trees is of the frame of its tree
pub one_of_frame : (shards : Shards) (trees : List Shape) → AreSound shards trees → (frame : ℕ) (p : Place) → is_listed trees frame p ≡ true → AreOfFrame shards trees frame (p ∷ [])
one_of_frame shards trees sound frame p listed q e named is_page is = by (or_cases (same_place q p) false named)
  where
    by : (same_place q p ≡ true) ⊎ (false ≡ true) → e.frame ≡ frame
    by (inl same) = (loose_from shards trees sound).frames frame q e (subst (λ x. is_listed trees frame x ≡ true) (sym (same_is q p same)) listed) is
    by (inr none) = absurd (cc none)

-- to strip a list of one place is to strip the place
pub one_word : (h : Holdings) → IsLawful h → (p : Place) → strip_word h (any_of (p ∷ [])) ≡ strip_word h (only p)
one_word h l p = word_same h l (any_of (p ∷ [])) (only p) (λ q _. any_more [] p q)

pub one_strip : (h : Holdings) → IsLawful h → (p : Place) (a : Rights) (f : Bool) → strip h (any_of (p ∷ [])) a f ≡ strip h (only p) a f
one_strip h l p a f = strip_same h l (any_of (p ∷ [])) (only p) (λ q _. any_more [] p q) a f

-- a place that was stripped is the first place of its run
pub one_first : (old : Shards) (trees : List Shape) (loose : AreLoose old trees) (os : Origins) (run : Range ℕ) (a : Rights) (f : Bool) (now : Shards) (status : Rights)
    → status ≡ strip_word (holdings_in old trees) (only (place_at os run.start (record { space = 0; page = 0 }))) → holdings_in now trees ≡ strip (holdings_in old trees) (only (place_at os run.start (record { space = 0; page = 0 }))) a f
    → AreLoose now trees → IsLaidOutAs old now → AreStripped old trees (firsts os (run ∷ [])) a f now status
one_first old trees loose os run a f now status word left now_loose layout =
    let l = lawful_parts (holdings_in old trees) loose.lawful in
    let p = place_at os run.start (record { space = 0; page = 0 }) in
    record { word = word ∙ sym (one_word (holdings_in old trees) l p); left = left ∙ sym (one_strip (holdings_in old trees) l p a f); loose = now_loose; layout = layout }
