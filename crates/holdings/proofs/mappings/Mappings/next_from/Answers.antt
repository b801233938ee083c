-- The next page that has an entry has the next mapping.
use Rattle.std.proofs.Common.{◌≡◌, ◌∙◌, ◌<◌, ◌≤◌, List, None, refl, ap, sym, subst, arith}
use Rattle.std.specs.Option.{option_map}
use Rattle.space.specs.declared.place.Place.{Place}
use Rattle.space.specs.declared.shards.Shards.{Shards}
use Rattle.space.specs.Shards.{entry_at}
use Rattle.maptree.specs.Origins.{Shape}
use Rattle.space.specs.Directory.{pages_of}
use Rattle.model.specs.Definitions.Holdings.{at}
use Rattle.holdings.specs.Contents.{Contents, entry_of}
use Rattle.holdings.specs.Inner.Held.{contents_of, limits_in}
use Rattle.holdings.proofs.Contents.FromPages.{none_held, found, pages_passed, none_from, outside_none, absent_anywhere}
use Rattle.holdings.specs.Places.{IsWithin}
use Rattle.holdings.proofs.Contents.Holders.{entry_within}
use Rattle.holdings.proofs.Contents.Roots.{pages_few}
use Rattle.holdings.proofs.mappings.Mappings.next_from.Goals as goal

pub returns-then-from-limits-clause-next : goal.returns-then-from-limits-clause-next
returns-then-from-limits-clause-next c =
    let h = c.args.self.now in
    let past : h.limits.spaces ≤ c.args.from.space = omega (arith, c.if-from-limits.true, c.from.ensures, ap (λ l. l.spaces) c.limits-limits.ensures.limits) in
    none_held (at h.holdings) c.args.from.space c.args.from.page _ (outside_none h c.limits-limits.ensures.consistent c.args.from.space past)

-- where no page of a space has an entry, none holds anything
none_at : (s : Shards) (trees : List Shape) (held : Contents) → contents_of s trees ≡ held → (q : Place) → entry_at s q ≡ None → at held.holdings q ≡ None
none_at s trees held is q none = ap (λ (h : Contents). at h.holdings q) (sym is) ∙ absent_anywhere (limits_in s trees) s trees q none

pub returns-in_err-place-clause-next : goal.returns-in_err-place-clause-next
returns-in_err-place-clause-next c =
    let s = c.self.inside.shards.now in
    let trees = c.self.inside.trees.now in
    let h = c.args.self.now in
    let from = c.args.from in
    rw c.from_residual.ensures
    (none_from h from.space from refl (λ j after before.
    none_at s trees h c.self.view_is (record { space = from.space; page = j })
    (c.in_err-place.ensures.none (record { space = from.space; page = j }) refl after (subst (λ (x : Contents). j < pages_of x.limits.bits) (sym c.self.view_is) before))))

pub mapping-requires-clause-held : goal.mapping-requires-clause-held
mapping-requires-clause-held c =
    let s = c.self.inside.shards.now in
    let trees = c.self.inside.trees.now in
    let q = c.in_ok-place.place in
    let next = c.in_ok-place.ensures.some in
    let less : c.args.from.space < c.args.self.now.limits.spaces = omega (arith, c.if-from-limits.false, c.from.ensures, ap (λ l. l.spaces) c.limits-limits.ensures.limits) in
    let space = subst (λ (x : Contents). c.args.from.space < x.limits.spaces) (sym c.self.view_is) less in
    let within : IsWithin (limits_in s trees) q = record { space = subst (λ n. n < (limits_in s trees).spaces) (sym next.space) space; page = next.page } in
    ap (λ (x : Contents). option_map entry_of (at x.holdings q)) (sym c.self.view_is) ∙ entry_within (limits_in s trees) s trees q within ∙ next.there

pub returns-clause-next : goal.returns-clause-next
returns-clause-next c =
    let s = c.self.inside.shards.now in
    let trees = c.self.inside.trees.now in
    let h = c.args.self.now in
    let from = c.args.from in
    let q = c.in_ok-place.place in
    let next = c.in_ok-place.ensures.some in
    pages_passed h from.space from refl q.page next.from_on (λ j after before.
    none_at s trees h c.self.view_is (record { space = from.space; page = j }) (next.skipped (record { space = from.space; page = j }) refl after before))
    ∙ found h from.space q next.space c.mapping.result (subst (λ (x : Contents). q.page < pages_of x.limits.bits) c.self.view_is next.page) c.mapping.ensures.held c.mapping.ensures.place

pub returns-clause-small : goal.returns-clause-small
returns-clause-small c =
    let h = c.args.self.now in
    let q = c.in_ok-place.place in
    let within = subst (λ (x : Contents). q.page < pages_of x.limits.bits) c.self.view_is c.in_ok-place.ensures.some.page in
    let few = pages_few h.limits c.limits-limits.ensures.consistent.served in
    omega (arith, within, few, ap (λ (p : Place). p.page) c.mapping.ensures.place)
