-- A permutation has the same pages, with their frames.
use Rattle.std.proofs.Common.{◌≡◌, Bool, List, sym, ap, ◌∙◌, rules}
use Rattle.holdings.specs.declared.pages.HeldPage.{HeldPage}
use Rattle.holdings.specs.Inner.Stripping.{HasItsFrame, any_page}
use Rattle.space.specs.Place.{same_place}
use Rattle.std.specs.List.Sorted.{IsPermutation}
use Rattle.std.proofs.lemmas.List.Sorted.{All-permutation, IsNonDecreasingBy-from_sort_by_key, list_any-IsPermutation}
use Rattle.holdings.proofs.pages.sorted_pages.Goals as goal

-- in another order they are the same set
same_pages : (pages sorted : List HeldPage) → IsPermutation pages sorted → any_page pages ≡ any_page sorted
same_pages pages sorted order i p = list_any-IsPermutation (λ h. same_place p h.place) pages sorted order i

pub returns-clause-held : goal.returns-clause-held
returns-clause-held c =
    let pages = c.in_ok-pages.pages.items in
    let sorted = c.sort_unstable_by_key.new.self.items in
    let order = c.sort_unstable_by_key.ensures.permutation in
    record {
      named = λ p. ap (λ (set : _ → Bool). set p) (sym (same_pages pages sorted order)) ∙ c.in_ok-pages.ensures.named p;
      frames = All-permutation (HasItsFrame c.args.shards.now) pages sorted order c.in_ok-pages.ensures.frames;
    }

pub returns-clause-sorted : goal.returns-clause-sorted
returns-clause-sorted c = IsNonDecreasingBy-from_sort_by_key (λ (h : HeldPage). h.frame) _ c.sort_unstable_by_key.ensures.sorted (λ a r q k. search rules)
