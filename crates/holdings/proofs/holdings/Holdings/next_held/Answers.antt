-- What has an entry is held.
use Rattle.std.proofs.Common.{◌≡◌, ◌∙◌, ◌<◌, List, None, is_some, sym, ap, subst}
use Rattle.space.specs.declared.place.Place.{Place}
use Rattle.space.specs.declared.shards.Shards.{Shards}
use Rattle.space.specs.Shards.{entry_at}
use Rattle.maptree.specs.Origins.{Shape}
use Rattle.space.specs.Directory.{pages_of}
use Rattle.model.specs.Definitions.Holdings.{at, is_held}
use Rattle.holdings.specs.Contents.{Contents}
use Rattle.holdings.specs.Places.{IsWithin}
use Rattle.holdings.specs.Inner.Held.{contents_of, limits_in}
use Rattle.holdings.proofs.Contents.FromPages.{absent_anywhere}
use Rattle.holdings.proofs.Contents.Holders.{present_within}
use Rattle.holdings.proofs.holdings.Holdings.next_held.Goals as goal

none_at : (s : Shards) (trees : List Shape) (held : Contents) → contents_of s trees ≡ held → (q : Place) → entry_at s q ≡ None → at held.holdings q ≡ None
none_at s trees held is q none = ap (λ (h : Contents). at h.holdings q) (sym is) ∙ absent_anywhere (limits_in s trees) s trees q none

pub returns-in_err-place : goal.returns-in_err-place
returns-in_err-place c =
    let h = c.args.self.now in
    rw c.from_residual.ensures
    (λ p same after before.
    none_at c.self.inside.shards c.self.inside.trees.items h c.self.view_is p
    (c.in_err-place.ensures.none p same after (subst (λ (x : Contents). p.page < pages_of x.limits.bits) (sym c.self.view_is) before)))

pub returns : goal.returns
returns c =
    let s = c.self.inside.shards in
    let trees = c.self.inside.trees.items in
    let h = c.args.self.now in
    let q = c.in_ok-place.place in
    let next = c.in_ok-place.ensures.some in
    let space = subst (λ (x : Contents). c.args.space < x.limits.spaces) (sym c.self.view_is) c.requires in
    let within : IsWithin (limits_in s trees) q = record { space = subst (λ n. n < (limits_in s trees).spaces) (sym next.space) space; page = next.page } in
    record {
      space_is = next.space;
      from = next.from_on;
      before = subst (λ (x : Contents). q.page < pages_of x.limits.bits) c.self.view_is next.page;
      held = ap (λ (x : Contents). is_held x.holdings q) (sym c.self.view_is) ∙ ap is_some (present_within (limits_in s trees) s trees q within c.in_ok-place.field-0-1 next.there);
      absent = λ p same after before. none_at s trees h c.self.view_is p (next.skipped p same after before);
    }
