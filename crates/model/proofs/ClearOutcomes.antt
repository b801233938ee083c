-- What a clear takes, and what it answers.
use Rattle.std.proofs.Common.{◌≡◌, ℕ, zero, suc, ◌+◌, ◌≤◌, ◌<◌, ◌==◌, nat_le, nat_lt, true, false, Bool, ◌&&◌, Option, Some, None, [], ◌∷◌, refl, sym, ap, ◌∙◌, subst, arith, inl, inr}
use Rattle.std.specs.Option.{is_some}
use Rattle.std.proofs.lemmas.Bool.{and_parts, and_from, eqb-true, eq-eqb, le-leb, lt-ltb}
use Rattle.fpage.specs.Rights.{all_rights, has}
use Rattle.fpage.specs.Control.{with_status}
use Rattle.fpage.specs.Fpage.{Flexpage, is_page_of}
use Rattle.fpage.proofs.RightSets.{has-all}
use Rattle.space.specs.declared.place.Place.{Place}
use Rattle.model.specs.Definitions.Holdings.{Held, Holdings, at, is_held}
use Rattle.model.specs.Definitions.Strip.{strip, strip_word}
use Rattle.model.specs.Definitions.Answers.{pages_in, in_space, clear_answer}
use Rattle.model.specs.Laws.ClearLaws.{ClearSays, ClearIsUnmap, IsOfWholeSpace}
use Rattle.model.specs.Laws.DerivationLaws.{after_origins, LeadsInto}
use Rattle.model.specs.Laws.IsolationLaws.{Loses}
use Rattle.model.proofs.LawfulParts.{IsLawful, lawful_parts}
use Rattle.model.proofs.Isolations.{isolates}
use Rattle.model.proofs.Statuses.{word_has, word_from}
use Rattle.model.proofs.StripUnions.{word_same, strip_same}

module _ (h : Holdings) (l : IsLawful h) (space : ℕ) where
  -- what leads into the space loses its rights
  loses : (p : Place) → LeadsInto h 0 (in_space space) p → Loses h (in_space space) true p
  loses p chain = by chain.origins chain.leads
    where
      by : (n : ℕ) → after_origins n h p ≡ Some chain.into → Loses h (in_space space) true p
      by zero leads = let same : p ≡ chain.into = cc leads in inr (refl, subst (λ q. in_space space q ≡ true) (sym same) chain.within)
      by (suc n) leads = inl (record { origins = suc n; enough = omega arith; into = chain.into; leads = leads; within = chain.within })

  cleared_gone : (p : Place) → LeadsInto h 0 (in_space space) p → at (clear_answer space h).left p ≡ None
  cleared_gone p chain = by (at h p) refl (at (clear_answer space h).left p) refl
    where
      by : (m : Option Held) → at h p ≡ m → (k : Option Held) → at (clear_answer space h).left p ≡ k → at (clear_answer space h).left p ≡ None
      by m held None left = left
      by None none (Some k) left = absurd (cc (none, ((isolates h l (in_space space) all_rights true).kept p k left).is))
      by (Some m) held (Some k) left = let goes = (isolates h l (in_space space) all_rights true).gone p m held in goes.1 (loses p chain, λ b _. has-all b)

  cleared_empty : (p : Place) → p.space ≡ space → at (clear_answer space h).left p ≡ None
  cleared_empty p own = cleared_gone p (record { origins = 0; enough = omega arith; into = p; leads = refl; within = eq-eqb p.space space own })

pub clear_says : ClearSays
clear_says h lawful space =
    let l = lawful_parts h lawful in
    record {
      status = λ b. (word_from h l (in_space space) b, word_has h l (in_space space) b);
      empty = cleared_empty h l space;
      gone = cleared_gone h l space;
      others = isolates h l (in_space space) all_rights true;
    }

module _ (h : Holdings) (l : IsLawful h) (space : ℕ) (f : Flexpage) (whole : IsOfWholeSpace h space f) where
  -- the fpage names the held pages of the space
  whole_named : (p : Place) → is_held h p ≡ true → pages_in space f p ≡ in_space space p
  whole_named p held = by (p.space == space) refl
    where
      by : (b : Bool) → (p.space == space) ≡ b → ((p.space == space) && is_page_of f p.page) ≡ (p.space == space)
      by true own =
          let same = eqb-true p.space space own in
          let there : is_page_of f p.page ≡ true = and_from _ _ (le-leb f.first p.page (whole.low p held same)) (lt-ltb p.page (f.first + f.count) (whole.high p held same)) in
          rw (own, there) refl
      by false other = rw other refl

pub clear_is_unmap : ClearIsUnmap
clear_is_unmap h lawful space word f whole =
    let l = lawful_parts h lawful in
    let status = word_same h l (pages_in space f) (in_space space) (whole_named h l space f whole) in
    let left = ap (λ a. strip h (pages_in space f) a true) whole.rights ∙ strip_same h l (pages_in space f) (in_space space) (whole_named h l space f whole) all_rights true in
    λ i. record { words = with_status word (status i) ∷ []; left = left i }
