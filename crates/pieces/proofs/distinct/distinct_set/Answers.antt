-- An index that the set has comes twice; another is put into it.
use Rattle.std.proofs.Common.{◌≡◌, ◌∙◌, ◌-◌, sym, not, true, false, Bool, get_or, refl}
use Rattle.pieces.proofs.Repeats.{repeats, one_more}
use Rattle.pieces.proofs.distinct.distinct_set.Goals as goal

known : (a b : Bool) → a ≡ not b → a ≡ false → b ≡ true
known true b h is = absurd (cc)
known false true h is = refl
known false false h is = absurd (cc)

pub returns-in-Ok-false : goal.returns-in-Ok-false
returns-in-Ok-false c = record {
  distinct =
      repeats c.args.indexes.now c.loop-i.i c.loop-i-test.true c.loop-i.invariant.2
      (sym (c.loop-i.invariant.0 (get_or c.args.indexes.now (c.loop-i.i - 1) 0)) ∙ known c.in-Ok-false.field-0 _ c.in-Ok-false.ensures.added c.in-Ok-false.field-0-test);
  set = tt;
}

pub loop-i-preserved : goal.loop-i-preserved
loop-i-preserved c =
    one_more c.loop-i.seen.keys c.insert.new.self.keys c.args.indexes.now c.loop-i.i c.loop-i-test.true c.loop-i.invariant (sym c.in-Ok-true.ensures.added ∙ c.in-Ok-true.field-0-test) c.in-Ok-true.ensures.updates.0
