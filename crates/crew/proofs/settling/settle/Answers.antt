use Rattle.std.proofs.Common.{◌+◌, ◌<◌, List, length, get_or, ◌∙◌, ap, sym, subst}
use Rattle.crew.specs.Crews.{OwnDequeContent, AreNumbered, passes_on, stolen, took}
use Rattle.crew.proofs.Numbered.{over_all}
use Rattle.crew.proofs.Yields.{all_back}
use Rattle.crew.proofs.settling.settle.Goals as goal

pub take_back-requires-clause-within : goal.take_back-requires-clause-within
take_back-requires-clause-within g c =
    let are = c.in_ok-owns.ensures in
    let same = are.many ∙ c.requires.each in let value = ap length c.as_mut_slice.ensures.value in
    λ k d less. subst (λ n. (get_or c.in_ok-owns.passes.items k d).number < n) (sym (value ∙ same)) (are.within k d less)

pub settle_all-requires-clause-each : goal.settle_all-requires-clause-each
settle_all-requires-clause-each g c =
    let items = c.in_ok-owns.owns.items in let after = c.take_back.new.owns in let many = c.take_back.ensures.many ∙ ap length c.as_mut_slice.ensures.value in
    λ _ _. ap length (over_all c.in_ok-owns.owns.len after items c.in_ok-owns.owns.ok.0 many) ∙ many ∙ c.in_ok-owns.ensures.many ∙ c.requires.each

pub settle_all-requires-clause-numbers : goal.settle_all-requires-clause-numbers
settle_all-requires-clause-numbers g c =
    let items = c.in_ok-owns.owns.items in let after = c.take_back.new.owns in let many = c.take_back.ensures.many ∙ ap length c.as_mut_slice.ensures.value in
    λ _ _. subst AreNumbered (sym (over_all c.in_ok-owns.owns.len after items c.in_ok-owns.owns.ok.0 many)) c.take_back.ensures.numbers

pub settle_all-requires-clause-all : goal.settle_all-requires-clause-all
settle_all-requires-clause-all g c =
    λ _ _ k d less.
    let crew = g.M.Crewed.crew in let items = c.in_ok-owns.owns.items in let passes = c.in_ok-owns.passes.items in let now = c.as_mut_slice.result.now in let after = c.take_back.new.owns in
    let are = c.in_ok-owns.ensures in let back = c.take_back.ensures in let value = c.as_mut_slice.ensures.value in
    let whole = over_all c.in_ok-owns.owns.len after items c.in_ok-owns.owns.ok.0 (back.many ∙ ap length value) in
    let low : k < length now = subst (λ n. k < n) back.many (subst (λ (os : List OwnDequeContent). k < length os) whole less) in
    let there : k < length items = subst (λ n. k < n) (ap length value) low in
    let below : k < length crew = subst (λ n. k < n) (are.many ∙ c.requires.each) there in
    let parts = back.parts k d low ∙ ap (λ (os : List OwnDequeContent). (get_or os k d).hand.parts + passes_on k passes) value in
    ap (λ (os : List OwnDequeContent). (get_or os k d).hand.parts) whole
    ∙ all_back crew (length c.args.workers.items) k (get_or items k d).hand.parts (get_or after k d).hand.parts (passes_on k passes) c.requires.each (are.parts k d there) (are.each k below) parts

pub settle_all-requires-clause-sums : goal.settle_all-requires-clause-sums
settle_all-requires-clause-sums g c =
    λ _ _ h.
    let items = c.in_ok-owns.owns.items in let after = c.take_back.new.owns in let are = c.in_ok-owns.ensures in let back = c.take_back.ensures in let value = c.as_mut_slice.ensures.value in
    let whole = over_all c.in_ok-owns.owns.len after items c.in_ok-owns.owns.ok.0 (back.many ∙ ap length value) in
    are.sums h ∙ sym (back.sums h ∙ ap (λ (os : List OwnDequeContent). took h os + stolen h c.in_ok-owns.passes.items) value) ∙ sym (ap (took h) whole)
