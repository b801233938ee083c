-- What derives from a page stands in its run.
use Rattle.std.proofs.Common.{◌≡◌, ◌<◌, length, sym, ap, ◌∙◌, subst, arith}
use Rattle.std.specs.Prelude.{is_some, MatchOption, IfSome}
use Rattle.space.specs.Place.{same_place}
use Rattle.maptree.specs.Origins.{Origins}
use Rattle.maptree.proofs.Found.{some_found}
use Rattle.maptree.proofs.OneRun.{IsRunOf, run_found}
use Rattle.holdings.specs.Below.{IsNoneBelow, IsNextBelow}
use Rattle.holdings.specs.Places.{IsWithin}
use Rattle.holdings.specs.Inner.Derivation.{stands_in}
use Rattle.holdings.specs.Inner.FirstFrom.{IsFirstFrom}
use Rattle.holdings.specs.Inner.Held.{links_in, limits_in, holdings_in}
use Rattle.holdings.proofs.Contents.Holders.{links_read}
use Rattle.holdings.proofs.FirstBelow.{none_below_absent, next_is}
use Rattle.holdings.proofs.below.next_below.Goals as goal

pub returns-in_err-entry-clause-next : goal.returns-in_err-entry-clause-next
returns-in_err-entry-clause-next c =
    let h = holdings_in c.args.shards.now c.args.trees.now in
    subst (λ o. MatchOption o (IsNoneBelow h c.args.above c.args.from) (IsNextBelow h c.args.above c.args.from)) (sym c.from_residual.ensures)
    (λ p from_it. none_below_absent c.args.shards.now c.args.trees.now c.requires.sound c.args.above (sym c.in_err-entry.ensures) p)

module _ (c : goal.After-find) where
  frame : c.in_ok-entry.entry.frame < length c.args.trees.now
  frame = omega (arith, c.requires.sound.kept.fits.frame c.args.above c.in_ok-entry.entry c.requires.above (sym c.in_ok-entry.ensures), c.requires.sound.kept.fits.count)

  read : links_in c.args.trees.now c.in_ok-entry.entry.frame ≡ c.index-trees-entry.result.links
  read = links_read c.args.trees.now c.in_ok-entry.entry.frame c.index-trees-entry.result frame c.index-trees-entry.is

pub unwrap-i-requires : goal.unwrap-i-requires
unwrap-i-requires c =
    ap is_some c.find.ensures ∙ some_found (λ o. same_place c.args.above o.0) c.index-trees-entry.result.links
    (ap (λ (os : Origins). stands_in os c.args.above) (sym (read c)) ∙ c.requires.sound.kept.fits.listed c.args.above c.in_ok-entry.entry c.requires.above (sym c.in_ok-entry.ensures))

pub first_from-requires-clause-order : goal.first_from-requires-clause-order
first_from-requires-clause-order c =
    let run = run_found c.index-trees-entry.result.links c.args.above c.unwrap-i.result c.run_of.result (sym c.find.ensures ∙ c.unwrap-i.ensures) c.run_of.ensures.start c.run_of.ensures.end c.run_of.ensures.run in
    omega (arith, run.some)

next : (c : goal.After-first_from) → MatchOption c.first_from.result (IsNoneBelow (holdings_in c.args.shards.now c.args.trees.now) c.args.above c.args.from) (IsNextBelow (holdings_in c.args.shards.now c.args.trees.now) c.args.above c.args.from)
    × IfSome c.first_from.result (IsWithin (limits_in c.args.shards.now c.args.trees.now))
next c =
    let frame : c.in_ok-entry.entry.frame < length c.args.trees.now =
    omega (arith, c.requires.sound.kept.fits.frame c.args.above c.in_ok-entry.entry c.requires.above (sym c.in_ok-entry.ensures), c.requires.sound.kept.fits.count) in
    let read = links_read c.args.trees.now c.in_ok-entry.entry.frame c.index-trees-entry.result frame c.index-trees-entry.is in
    let run = subst (λ os. IsRunOf os c.args.above c.run_of.result) (sym read)
    (run_found c.index-trees-entry.result.links c.args.above c.unwrap-i.result c.run_of.result (sym c.find.ensures ∙ c.unwrap-i.ensures) c.run_of.ensures.start c.run_of.ensures.end c.run_of.ensures.run) in
    next_is c.args.shards.now c.args.trees.now c.requires.sound c.in_ok-entry.entry.frame c.run_of.result run.whole run.some run.within c.args.above run.first c.args.from c.first_from.result
    (subst (λ os. IsFirstFrom os c.run_of.result.start c.run_of.result.end c.args.from c.first_from.result) (sym read) c.first_from.ensures)

pub returns-clause-next : goal.returns-clause-next
returns-clause-next c = (next c).0

pub returns-clause-within : goal.returns-clause-within
returns-clause-within c = (next c).1
