-- Places, visited one after another.
use Rattle.std.proofs.Common.{◌≡◌, ℕ, ◌+◌, ◌<◌, ◌≤◌, false, Bool, ◌||◌, List, length, take, get_or, None, is_some, refl, sym, ap, ◌∙◌, subst}
use Rattle.std.proofs.lemmas.List.{take_more}
use Rattle.space.proofs.Lists.{take_all}
use Rattle.fpage.specs.Rights.{no_rights, join}
use Rattle.fpage.specs.declared.rights.Rights.{Rights}
use Rattle.fpage.proofs.RightSets.{join_nothing}
use Rattle.space.specs.declared.place.Place.{Place}
use Rattle.space.specs.declared.shards.Shards.{Shards}
use Rattle.space.specs.Shards.{entry_at}
use Rattle.maptree.specs.Origins.{Shape}
use Rattle.model.specs.Definitions.Holdings.{only, is_held}
use Rattle.model.specs.Definitions.Strip.{strip, strip_word}
use Rattle.model.proofs.LawfulParts.{IsLawful, lawful_parts}
use Rattle.model.proofs.StripUnions.{strip-union, word-union, strip_same, word_same, strip_nothing, word_nothing}
use Rattle.model.proofs.Chains.{below_empty, below_unheld}
use Rattle.holdings.specs.Places.{IsWithin, any_of}
use Rattle.holdings.specs.Inner.Held.{layout_in, limits_in, holdings_in}
use Rattle.holdings.specs.Inner.Sound.{AreSound}
use Rattle.holdings.proofs.Contents.Holders.{absent_within}
use Rattle.holdings.proofs.Stripping.Sequences.{any_more}

-- what the visits of the first places took and left
pub record AreVisitedUpTo (old : Shards) (old_trees : List Shape) (places : List Place) (i : ℕ) (a : Rights) (f : Bool) (now : Shards) (now_trees : List Shape) (status : Rights) : Type 0 where
  pub word : status ≡ strip_word (holdings_in old old_trees) (any_of (take i places))
  pub left : holdings_in now now_trees ≡ strip (holdings_in old old_trees) (any_of (take i places)) a f
  pub sound : AreSound now now_trees
  pub limits : limits_in now now_trees ≡ limits_in old old_trees
  pub layout : layout_in now ≡ layout_in old

module _ (old : Shards) (old_trees : List Shape) (sound : AreSound old old_trees) (places : List Place) (a : Rights) (f : Bool) where
  lawful : IsLawful (holdings_in old old_trees)
  lawful = lawful_parts (holdings_in old old_trees) sound.kept.lawful

  -- before the first place
  pub none_visited : AreVisitedUpTo old old_trees places 0 a f old old_trees no_rights
  none_visited =
      let nothing = below_empty (holdings_in old old_trees) lawful (any_of (take 0 places)) (λ q. refl) in
      record {
        word = sym (word_nothing (holdings_in old old_trees) (any_of (take 0 places)) lawful (λ q _. nothing q));
        left = sym (strip_nothing (holdings_in old old_trees) lawful (any_of (take 0 places)) a f (λ q _. nothing q));
        sound = sound;
        limits = refl;
        layout = refl;
      }

  module _ (i : ℕ) (d : Place) (within : i < length places) (now : Shards) (now_trees : List Shape) (status : Rights) (so_far : AreVisitedUpTo old old_trees places i a f now now_trees status) where
    abbrev pub here : Place
    here = get_or places i d

    -- the next place is stripped
    pub one_visited : (next : Shards) (next_trees : List Shape) (more : Rights) → more ≡ strip_word (holdings_in now now_trees) (only here) → holdings_in next next_trees ≡ strip (holdings_in now now_trees) (only here) a f
        → AreSound next next_trees → limits_in next next_trees ≡ limits_in now now_trees → layout_in next ≡ layout_in now → AreVisitedUpTo old old_trees places (i + 1) a f next next_trees (join status more)
    one_visited next next_trees more word left next_sound limits layout =
        let h = holdings_in old old_trees in
        let X = any_of (take i places) in
        let Y = only here in
        let same : (p : Place) → any_of (take (i + 1) places) p ≡ (X p || Y p) = λ p. ap (λ ps. any_of ps p) (take_more places i d within) ∙ any_more (take i places) here p in
        record {
          word = ap (λ r. join r more) so_far.word ∙ ap (join (strip_word h X)) (word ∙ ap (λ k. strip_word k Y) so_far.left) ∙ word-union h lawful X a f Y ∙ sym (word_same h lawful (any_of (take (i + 1) places)) (λ p. X p || Y p) (λ p _. same p));
          left = left ∙ ap (λ k. strip k Y a f) so_far.left ∙ strip-union h lawful X a f Y ∙ sym (strip_same h lawful (any_of (take (i + 1) places)) (λ p. X p || Y p) (λ p _. same p) a f);
          sound = next_sound;
          limits = limits ∙ so_far.limits;
          layout = layout ∙ so_far.layout;
        }

    -- where it is not held there is nothing to strip
    pub none_there : IsWithin (limits_in now now_trees) here → entry_at now here ≡ None → AreVisitedUpTo old old_trees places (i + 1) a f now now_trees status
    none_there place none =
        let k = holdings_in now now_trees in
        let l = lawful_parts k so_far.sound.kept.lawful in
        let unheld : is_held k here ≡ false = ap is_some (absent_within (limits_in now now_trees) now now_trees here place none) in
        let nothing = below_unheld k l here unheld in
        subst (AreVisitedUpTo old old_trees places (i + 1) a f now now_trees) (join_nothing status)
        (one_visited now now_trees no_rights (sym (word_nothing k (only here) l nothing)) (sym (strip_nothing k l (only here) a f nothing)) so_far.sound refl refl)

  -- all of them
  pub all_visited : (i : ℕ) (now : Shards) (now_trees : List Shape) (status : Rights) → length places ≤ i → AreVisitedUpTo old old_trees places i a f now now_trees status
      → (status ≡ strip_word (holdings_in old old_trees) (any_of places)) × (holdings_in now now_trees ≡ strip (holdings_in old old_trees) (any_of places) a f)
  all_visited i now now_trees status past so_far =
      let all = take_all i places past in
      (so_far.word ∙ ap (λ xs. strip_word (holdings_in old old_trees) (any_of xs)) all, so_far.left ∙ ap (λ xs. strip (holdings_in old old_trees) (any_of xs) a f) all)
