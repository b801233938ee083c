-- The pages that an fpage names in a space, and those of them that are held.
use Rattle.std.proofs.Common.{◌≡◌, ℕ, ◌+◌, ◌-◌, ◌<◌, ◌&&◌, true, Bool, List, [], ◌∷◌, filter, sym, ap, ◌∙◌, subst, arith}
use Rattle.std.specs.Prelude.{Result, Ok, Err, IfOk}
use Rattle.std.specs.List.{All}
use Rattle.std.specs.declared.ops.Range.{Range}
use Rattle.std.proofs.lemmas.List.Elements.{All-filter}
use Rattle.fpage.specs.Fpage.{Flexpage, IsFpageOf}
use Rattle.fpage.specs.declared.rights.Rights.{Rights}
use Rattle.space.specs.declared.place.Place.{Place}
use Rattle.model.specs.Definitions.Answers.{pages_in}
use Rattle.model.specs.Definitions.Calls.{Limits}
use Rattle.model.specs.Definitions.Holdings.{is_held}
use Rattle.model.specs.Definitions.Strip.{strip}
use Rattle.model.proofs.LawfulParts.{lawful_parts}
use Rattle.model.proofs.StripUnions.{strip_same}
use Rattle.holdings.specs.Contents.{Contents, IsConsistent, IsStripped}
use Rattle.holdings.specs.Places.{IsWithin, pages_from, any_of}
use Rattle.holdings.proofs.Contents.Listing.{in_pages}
use Rattle.holdings.proofs.Contents.HeldAmong.{pages_within, any_kept}
use Rattle.holdings.proofs.Stripping.HeldSets.{stripped_same}

-- the held ones of the pages that a range of numbers has
abbrev pub held_of_range : Contents → ℕ → Range ℕ → List Place
held_of_range old space pages = filter (is_held old.holdings) (pages_from space pages.start (pages.end - pages.start))

module _ (old : Contents) (space : ℕ) (f : Flexpage) (pages : Range ℕ) (start : pages.start ≡ f.first) (end : pages.end ≡ f.first + f.count) (places read : List Place) (same : read ≡ places) (are : places ≡ held_of_range old space pages) where
  -- they are those of the fpage
  named : read ≡ filter (is_held old.holdings) (pages_from space f.first f.count)
  named = same ∙ are ∙ (λ i. filter (is_held old.holdings) (pages_from space (start i) (many i)))
    where
      less : (a b c d : ℕ) → a ≡ c → b ≡ c + d → b - a ≡ d
      less a b c d is_a is_b = omega (arith, is_a, is_b)

      many : pages.end - pages.start ≡ f.count
      many = less pages.start pages.end f.first f.count start end

  -- they lie within the limits
  pub held_within : space < old.limits.spaces → IsFpageOf old.limits.bits f → All (IsWithin old.limits) read
  held_within less most = subst (All (IsWithin old.limits)) (sym named) (All-filter (is_held old.holdings) (IsWithin old.limits) (pages_from space f.first f.count) (pages_within old.limits space less f.first f.count most))

  -- among what is held they are all that are named
  named_set : (p : Place) → is_held old.holdings p ≡ true → any_of read p ≡ pages_in space f p
  named_set p held =
      ap (λ ps. any_of ps p) named ∙ any_kept (is_held old.holdings) (pages_from space f.first f.count) p ∙ ap (λ b. b && is_held old.holdings p) (in_pages p space f.first f.count)
      ∙ all (pages_in space f p) (is_held old.holdings p) held
    where
      all : (a b : Bool) → b ≡ true → (a && b) ≡ a
      all a b is = grind (arith, is)

  -- what is stripped of them is stripped of all that are named
  pub named_stripped : IsConsistent old → (revoked : Rights) (flush : Bool) → {E : Type 0} (r : Result (Contents × Rights) E) → IfOk r (IsStripped old (any_of read) revoked flush) → IfOk r (IsStripped old (pages_in space f) revoked flush)
  named_stripped consistent revoked flush (Ok r) is = stripped_same old (any_of read) (pages_in space f) consistent.lawful named_set revoked flush r is
  named_stripped consistent revoked flush (Err e) is = is

  -- and leaves the same
  pub named_left : IsConsistent old → (revoked : Rights) (flush : Bool) → strip old.holdings (any_of read) revoked flush ≡ strip old.holdings (pages_in space f) revoked flush
  named_left consistent revoked flush = strip_same old.holdings (lawful_parts old.holdings consistent.lawful) (any_of read) (pages_in space f) named_set revoked flush

-- ---- of one page

module _ (space : ℕ) (f : Flexpage) (pages : Range ℕ) (start : pages.start ≡ f.first) (end : pages.end ≡ f.first + f.count) (one : pages.end - pages.start ≡ 1) where
  abbrev only_page : List Place
  only_page = record { space = space; page = pages.start } ∷ []

  -- it is all that the fpage names
  only_named : only_page ≡ pages_from space f.first f.count
  only_named = (λ i. record { space = space; page = start i } ∷ []) ∙ ap (pages_from space f.first) (sym (single pages.start pages.end f.first f.count start end one))
    where
      single : (a b c d : ℕ) → a ≡ c → b ≡ c + d → b - a ≡ 1 → d ≡ 1
      single a b c d is_a is_b is = omega (arith, is_a, is_b, is)

  pub only_within : (limits : Limits) → space < limits.spaces → IsFpageOf limits.bits f → All (IsWithin limits) only_page
  only_within limits less most = subst (All (IsWithin limits)) (sym only_named) (pages_within limits space less f.first f.count most)

  pub only_set : any_of only_page ≡ pages_in space f
  only_set = ap any_of only_named ∙ (λ i p. in_pages p space f.first f.count i)
