-- The roots of one shard more.
use Rattle.std.proofs.Common.{◌≡◌, ◌<◌, ◌≤◌, ◌∙◌, sym, subst, arith}
use Rattle.space.specs.declared.place.Place.{Place}
use Rattle.space.specs.Directory.{pages_of}
use Rattle.space.specs.Shards.{IsPlace, bits_of, entry_at}
use Rattle.holdings.specs.Meaning.{limits_of}
use Rattle.holdings.specs.Inner.Start.{root_entry}
use Rattle.holdings.proofs.Contents.Roots.{served, pages_few}
use Rattle.holdings.proofs.start.root_words.Goals as goal

pub make_one-requires-clause-place : goal.make_one-requires-clause-place
make_one-requires-clause-place c =
    let s = served (limits_of c.args.limits.now) c.requires in
    let bits = c.loop-from.invariant.bits in
    let page : c.loop-from.from < pages_of c.args.limits.now.bits = omega (arith, c.loop-from-test.true, s.all) in
    subst (IsPlace c.loop-from.shards) (sym c.root_place.ensures)
    (record { space = omega (arith, c.loop-from.invariant.spaces, s.some); page = subst (λ b. c.loop-from.from < pages_of b) (sym bits) page })

pub page_behind_shard-requires : goal.page_behind_shard-requires
page_behind_shard-requires c =
    let s = served (limits_of c.args.limits.now) c.requires in
    omega (arith, c.loop-from-test.true, s.all, pages_few (limits_of c.args.limits.now) c.requires)

pub put_roots-requires-clause-within : goal.put_roots-requires-clause-within
put_roots-requires-clause-within c =
    let s = served (limits_of c.args.limits.now) c.requires in
    let bits = c.in_ok-make_one.ensures.made.bits ∙ c.loop-from.invariant.bits in
    let within : c.min-end.result ≤ pages_of c.args.limits.now.bits = omega (arith, c.min-end.ensures, s.all) in
    subst (λ b. c.min-end.result ≤ pages_of b) (sym bits) within

pub put_roots-requires-clause-before : goal.put_roots-requires-clause-before
put_roots-requires-clause-before c p place =
    let made = c.in_ok-make_one.ensures.made in
    made.entries p ∙ c.loop-from.invariant.entries p (record { space = omega (arith, place.space, made.spaces); page = subst (λ b. p.page < pages_of b) made.bits place.page })

pub loop-from-preserved : goal.loop-from-preserved
loop-from-preserved c =
    let made = c.in_ok-make_one.ensures.made in
    let layout = c.put_roots.ensures.layout in
    record {
      upto = omega (arith, c.min-end.ensures);
      spaces = layout.spaces ∙ made.spaces ∙ c.loop-from.invariant.spaces;
      bits = layout.bits ∙ made.bits ∙ c.loop-from.invariant.bits;
      present = c.put_roots.ensures.present;
      entries = c.put_roots.ensures.entries;
    }

pub returns-clause-entries : goal.returns-clause-entries
returns-clause-entries c p place =
    let end : c.loop-from.from ≡ c.args.limits.now.frames = omega (arith, c.loop-from-test.false, c.loop-from.invariant.upto) in
    subst (λ n. entry_at c.loop-from.shards p ≡ root_entry n p) end (c.loop-from.invariant.entries p place)
