-- A number is put in, those behind it move on, and the last one is added.
use Rattle.std.proofs.Common.{◌≡◌, ℕ, ◌+◌, ◌<◌, ◌≤◌, length, ap, sym, ◌∙◌, rules, arith, ◌⊎◌, inl, inr}
use Rattle.std.proofs.lemmas.List.{with_items_is}
use Rattle.maptree.specs.Blocks.{AreGrouped, grouped, number_at}
use Rattle.maptree.proofs.Grouping.{grouped_as}
use Rattle.maptree.proofs.Shifting.{number_as, none_above_last, grouped_shifted}
use Rattle.maptree.proofs.block_starts.Starts.insert.Goals as goal

pub shift-last-requires-clause-rising : goal.shift-last-requires-clause-rising
shift-last-requires-clause-rising c j k upto within =
    let at = λ (i : ℕ). number_as c.deref_mut-2.result.now c.deref_mut.result.now c.self.inside.groups.items c.self.inside.inside.items i c.deref_mut-2.ensures.value c.deref_mut.ensures.value ∙ ap (λ v. number_at v i) c.self.view_is in
    let size = ap (λ v. length v.inside) c.self.view_is in
    let same = ap length c.deref_mut.ensures.value in
    let rising = c.requires.rising j k upto (omega (arith, within, size, same)) in
    omega (arith, at j, at k, rising)

pub invariant_of-self : goal.invariant_of-self
invariant_of-self c =
    let inside = with_items_is c.self.inside.inside c.shift-last.new.inside (search (rules, arith)) in
    let groups = with_items_is c.self.inside.groups c.shift-last.new.groups (search (rules, arith)) in
    let old = grouped c.deref_mut-2.result.now c.deref_mut.result.now in
    let new = grouped c.shift-last.new.groups c.shift-last.new.inside in
    let at = λ (i : ℕ). number_as c.deref_mut-2.result.now c.deref_mut.result.now c.self.inside.groups.items c.self.inside.inside.items i c.deref_mut-2.ensures.value c.deref_mut.ensures.value ∙ ap (λ v. number_at v i) c.self.view_is in
    let size = ap (λ v. length v.inside) c.self.view_is in
    let same = ap length c.deref_mut.ensures.value in
    let are : AreGrouped old = grouped_as _ _ c.self.inside.groups.items c.self.inside.inside.items _ c.deref_mut-2.ensures.value c.deref_mut.ensures.value (record { enough = c.self.invariant.enough; few = c.self.invariant.few; first = c.self.invariant.first; fits = c.self.invariant.fits }) in
    let within : c.args.block ≤ length c.deref_mut.result.now = (omega (arith, c.requires.within, size, same)) in
    let above : (k : ℕ) → k < c.args.block → number_at old k ≤ c.args.before = λ k less. let a = at k in let b = c.requires.above k less in omega (arith, a, b) in
    let below : (k : ℕ) → c.args.block ≤ k → k < length c.deref_mut.result.now → c.args.before ≤ number_at old k = λ k from less. let a = at k in let b = c.requires.below k from (omega (arith, less, size, same)) in omega (arith, a, b) in
    let rising : (j k : ℕ) → j ≤ k → k < length c.deref_mut.result.now → number_at old j ≤ number_at old k = λ j k upto less. let a = at j in let b = at k in let r = c.requires.rising j k upto (omega (arith, less, size, same)) in omega (arith, a, b, r) in
    grouped_as _ _ c.shift-last.new.groups c.shift-last.new.inside _ groups inside (grouped_shifted old new c.args.block c.args.before c.shift-last.result are c.shift-last.ensures within above below rising (search (rules, arith)))

pub push-requires-clause-rising : goal.push-requires-clause-rising
push-requires-clause-rising c k less =
    let inside = with_items_is c.self.inside.inside c.shift-last.new.inside (search (rules, arith)) in
    let groups = with_items_is c.self.inside.groups c.shift-last.new.groups (search (rules, arith)) in
    let old = grouped c.deref_mut-2.result.now c.deref_mut.result.now in
    let new = grouped c.shift-last.new.groups c.shift-last.new.inside in
    let at = λ (i : ℕ). number_as c.deref_mut-2.result.now c.deref_mut.result.now c.self.inside.groups.items c.self.inside.inside.items i c.deref_mut-2.ensures.value c.deref_mut.ensures.value ∙ ap (λ v. number_at v i) c.self.view_is in
    let size = ap (λ v. length v.inside) c.self.view_is in
    let same = ap length c.deref_mut.ensures.value in
    let are : AreGrouped old = grouped_as _ _ c.self.inside.groups.items c.self.inside.inside.items _ c.deref_mut-2.ensures.value c.deref_mut.ensures.value (record { enough = c.self.invariant.enough; few = c.self.invariant.few; first = c.self.invariant.first; fits = c.self.invariant.fits }) in
    let within : c.args.block ≤ length c.deref_mut.result.now = (omega (arith, c.requires.within, size, same)) in
    let above : (k : ℕ) → k < c.args.block → number_at old k ≤ c.args.before = λ k less. let a = at k in let b = c.requires.above k less in omega (arith, a, b) in
    let below : (k : ℕ) → c.args.block ≤ k → k < length c.deref_mut.result.now → c.args.before ≤ number_at old k = λ k from less. let a = at k in let b = c.requires.below k from (omega (arith, less, size, same)) in omega (arith, a, b) in
    let rising : (j k : ℕ) → j ≤ k → k < length c.deref_mut.result.now → number_at old j ≤ number_at old k = λ j k upto less. let a = at j in let b = at k in let r = c.requires.rising j k upto (omega (arith, less, size, same)) in omega (arith, a, b, r) in
    let counts = ap length inside in
    let moved = number_as _ _ c.shift-last.new.groups c.shift-last.new.inside k groups inside in
    let low = none_above_last old new c.args.block c.args.before c.shift-last.result are c.shift-last.ensures within above below rising k (omega (arith, less, counts, c.shift-last.ensures.inside_count)) in
    omega (arith, moved, low)

pub returns-clause-upto : goal.returns-clause-upto
returns-clause-upto c k less =
    let inside = with_items_is c.self.inside.inside c.shift-last.new.inside (search (rules, arith)) in
    let groups = with_items_is c.self.inside.groups c.shift-last.new.groups (search (rules, arith)) in
    let old = grouped c.deref_mut-2.result.now c.deref_mut.result.now in
    let new = grouped c.shift-last.new.groups c.shift-last.new.inside in
    let at = λ (i : ℕ). number_as c.deref_mut-2.result.now c.deref_mut.result.now c.self.inside.groups.items c.self.inside.inside.items i c.deref_mut-2.ensures.value c.deref_mut.ensures.value ∙ ap (λ v. number_at v i) c.self.view_is in
    let size = ap (λ v. length v.inside) c.self.view_is in
    let same = ap length c.deref_mut.ensures.value in
    let counts = ap length inside in
    let moved = number_as _ _ c.shift-last.new.groups c.shift-last.new.inside k groups inside in
    c.push.ensures.others k (omega (arith, less, counts, c.requires.within, size, same, c.shift-last.ensures.inside_count)) ∙ moved ∙ c.shift-last.ensures.upto k less ∙ at k

-- the last is told apart
at_end : (a b : ℕ) → a ≤ b → (a < b) ⊎ (b ≡ a)
at_end a b upto = grind arith

pub returns-clause-here : goal.returns-clause-here
returns-clause-here c =
    let inside = with_items_is c.self.inside.inside c.shift-last.new.inside (search (rules, arith)) in
    let groups = with_items_is c.self.inside.groups c.shift-last.new.groups (search (rules, arith)) in
    let old = grouped c.deref_mut-2.result.now c.deref_mut.result.now in
    let new = grouped c.shift-last.new.groups c.shift-last.new.inside in
    let at = λ (i : ℕ). number_as c.deref_mut-2.result.now c.deref_mut.result.now c.self.inside.groups.items c.self.inside.inside.items i c.deref_mut-2.ensures.value c.deref_mut.ensures.value ∙ ap (λ v. number_at v i) c.self.view_is in
    let size = ap (λ v. length v.inside) c.self.view_is in
    let same = ap length c.deref_mut.ensures.value in
    let counts = ap length inside in
    let block = c.args.block in
    let moved = number_as _ _ c.shift-last.new.groups c.shift-last.new.inside block groups inside in
    let by : (block < length c.deref_mut.result.now) ⊎ (length c.deref_mut.result.now ≡ block) → number_at c.push.new.self block ≡ c.args.before =
    λ side. elim side [
      | inl less ↦ c.push.ensures.others block (omega (arith, less, counts, c.shift-last.ensures.inside_count)) ∙ moved ∙ c.shift-last.ensures.here less
      | inr end ↦ ap (number_at c.push.new.self) (omega (arith, end, counts, c.shift-last.ensures.inside_count)) ∙ c.push.ensures.last ∙ c.shift-last.ensures.last_none end
    ] in
    by (at_end block (length c.deref_mut.result.now) (omega (arith, c.requires.within, size, same)))

pub returns-clause-behind : goal.returns-clause-behind
returns-clause-behind c k from less =
    let inside = with_items_is c.self.inside.inside c.shift-last.new.inside (search (rules, arith)) in
    let groups = with_items_is c.self.inside.groups c.shift-last.new.groups (search (rules, arith)) in
    let old = grouped c.deref_mut-2.result.now c.deref_mut.result.now in
    let new = grouped c.shift-last.new.groups c.shift-last.new.inside in
    let at = λ (i : ℕ). number_as c.deref_mut-2.result.now c.deref_mut.result.now c.self.inside.groups.items c.self.inside.inside.items i c.deref_mut-2.ensures.value c.deref_mut.ensures.value ∙ ap (λ v. number_at v i) c.self.view_is in
    let size = ap (λ v. length v.inside) c.self.view_is in
    let same = ap length c.deref_mut.ensures.value in
    let counts = ap length inside in
    let moved = number_as _ _ c.shift-last.new.groups c.shift-last.new.inside (k + 1) groups inside in
    let by : (k + 1 < length c.deref_mut.result.now) ⊎ (length c.deref_mut.result.now ≡ k + 1) → number_at c.push.new.self (k + 1) ≡ number_at c.args.self.now k =
    λ side. elim side [
      | inl within ↦ c.push.ensures.others (k + 1) (omega (arith, within, counts, c.shift-last.ensures.inside_count)) ∙ moved ∙ c.shift-last.ensures.behind k from within ∙ at k
      | inr end ↦ ap (number_at c.push.new.self) (omega (arith, end, counts, c.shift-last.ensures.inside_count)) ∙ c.push.ensures.last ∙ c.shift-last.ensures.last_some k from (sym end) ∙ at k
    ] in
    by (at_end (k + 1) (length c.deref_mut.result.now) (omega (arith, less, size, same)))
