-- Between two runs, and behind the last one, all have entries.
use Rattle.std.proofs.Common.{◌≡◌, ℕ, ◌+◌, ◌-◌, ◌<◌, ◌≤◌, List, [], ◌∷◌, true, Option, drop, get_or, length, sym, ap, ◌∙◌, subst, arith}
use Rattle.std.specs.List.{list_all, slice_range}
use Rattle.std.proofs.lemmas.Bool.{and_parts}
use Rattle.std.specs.declared.ops.Range.{Range}
use Rattle.std.proofs.lemmas.List.{drop_more, drop_all, take_all, length-drop}
use Rattle.std.proofs.lemmas.List.Folds.{list_all-append}
use Rattle.space.specs.declared.place.Place.{Place}
use Rattle.space.specs.declared.shards.Shards.{Shards}
use Rattle.maptree.specs.Origins.{Origins, AreRising}
use Rattle.maptree.specs.Cuts.{outside}
use Rattle.holdings.specs.Inner.Held.{has_entry}
use Rattle.holdings.specs.Inner.Stripping.{AreGoneUpTo}
use Rattle.holdings.proofs.Stripping.Sequences.{rising_at}
use Rattle.holdings.proofs.Stripping.GoneRuns.{none_yet, held_further}
use Rattle.holdings.proofs.prune.gone_runs.Goals as goal

-- the run at a position
module _ (s : Shards) (os : Origins) (runs : List (Range ℕ)) (i : ℕ) (d : Range ℕ) (within : i < length runs) (p : ℕ) where
  abbrev run : Range ℕ
  run = get_or runs i d

  next : drop i runs ≡ run ∷ drop (i + 1) runs
  next = drop_more runs i d within

  behind : AreRising p (drop i runs) (length os) → (p ≤ run.start) × (run.start < run.end) × AreRising run.end (drop (i + 1) runs) (length os)
  behind rise = subst (λ rs. AreRising p rs (length os)) next rise

  parts : list_all (λ o. has_entry s o.0) (outside p (drop i runs) os) ≡ true
      → (list_all (λ o. has_entry s o.0) (slice_range os p run.start) ≡ true) × (list_all (λ o. has_entry s o.0) (outside run.end (drop (i + 1) runs) os) ≡ true)
  parts out =
      and_parts _ _ (sym (list_all-append (λ o. has_entry s o.0) (slice_range os p run.start) (outside run.end (drop (i + 1) runs) os))
      ∙ sym (ap (λ rs. list_all (λ (o : Place × Option Place). has_entry s o.0) (outside p rs os)) next) ∙ out)

  within_tree : AreRising 0 runs (length os) → (run.start < run.end) × (run.end ≤ length os)
  within_tree rise = rising_at 0 runs (length os) i d rise within

pub loop-run-init : goal.loop-run-init
loop-run-init c =
    let s = c.args.shards.now in
    let os = c.args.tree.now.links in
    (0, subst (AreGoneUpTo s os 0) (sym c.new-gone.ensures.items) (none_yet s os), c.requires.rising, c.requires.outside)

pub add_gone-requires-clause-run : goal.add_gone-requires-clause-run
add_gone-requires-clause-run c = c.requires.runs c.loop-run.run-index _ c.loop-run-test.true

pub add_gone-requires-clause-within : goal.add_gone-requires-clause-within
add_gone-requires-clause-within c = (within_tree c.args.shards.now c.args.tree.now.links c.args.runs.now c.loop-run.run-index _ c.loop-run-test.true 0 c.requires.rising).1

pub add_gone-requires-clause-before : goal.add_gone-requires-clause-before
add_gone-requires-clause-before c =
    let s = c.args.shards.now in
    let os = c.args.tree.now.links in
    let runs = c.args.runs.now in
    let i = c.loop-run.run-index in
    let d : Range ℕ = record { start = 0; end = 0 } in
    let p = c.loop-run.invariant.0 in
    let ends = within_tree s os runs i d c.loop-run-test.true p c.requires.rising in
    held_further s os p (get_or runs i d).start c.loop-run.gone.items c.loop-run.invariant.1 (behind s os runs i d c.loop-run-test.true p c.loop-run.invariant.2).0 (omega (arith, ends.0, ends.1))
    (parts s os runs i d c.loop-run-test.true p c.loop-run.invariant.3).0

pub loop-run-preserved : goal.loop-run-preserved
loop-run-preserved c =
    let s = c.args.shards.now in
    let os = c.args.tree.now.links in
    let runs = c.args.runs.now in
    let i = c.loop-run.run-index in
    let d : Range ℕ = record { start = 0; end = 0 } in
    let p = c.loop-run.invariant.0 in (
      (get_or runs i d).end,
      c.in_ok-add_gone.ensures,
      (behind s os runs i d c.loop-run-test.true p c.loop-run.invariant.2).2,
      (parts s os runs i d c.loop-run-test.true p c.loop-run.invariant.3).1,
    )

pub returns : goal.returns
returns c =
    let s = c.args.shards.now in
    let os = c.args.tree.now.links in
    let p = c.loop-run.invariant.0 in
    let none : drop c.loop-run.run-index c.args.runs.now ≡ [] = drop_all c.loop-run.run-index c.args.runs.now c.loop-run-test.false in
    let upto : p ≤ length os = subst (λ rs. AreRising p rs (length os)) none c.loop-run.invariant.2 in
    let out : list_all (λ o. has_entry s o.0) (drop p os) ≡ true = sym (ap (λ rs. list_all (λ (o : Place × Option Place). has_entry s o.0) (outside p rs os)) none) ∙ c.loop-run.invariant.3 in
    let whole : slice_range os p (length os) ≡ drop p os = take_all (length os - p) (drop p os) (omega (arith, length-drop p os)) in
    held_further s os p (length os) c.loop-run.gone.items c.loop-run.invariant.1 upto (omega arith) (ap (list_all (λ o. has_entry s o.0)) whole ∙ out)
