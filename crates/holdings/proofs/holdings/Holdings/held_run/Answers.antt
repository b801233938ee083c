-- The next run begins with a page that has an entry, and each of its pages has one.
use Rattle.std.proofs.Common.{◌≡◌, ◌<◌, ◌≤◌, ◌∙◌, ◌-◌, ◌^◌, ◌⊎◌, inl, inr, ℕ, Bool, true, false, not, List, Option, Some, None, IsTrue, is_some, refl, sym, ap, subst, arith}
use Rattle.space.proofs.Leaves.{within_or_past}
use Rattle.space.specs.declared.place.Place.{Place}
use Rattle.space.specs.declared.place.Entry.{Entry}
use Rattle.space.specs.declared.shards.Shards.{Shards}
use Rattle.space.specs.Directory.{pages_of}
use Rattle.space.specs.Shards.{entry_at}
use Rattle.maptree.specs.Origins.{Shape}
use Rattle.model.specs.Definitions.Holdings.{is_held}
use Rattle.holdings.specs.Contents.{Contents}
use Rattle.holdings.specs.Places.{IsWithin}
use Rattle.holdings.specs.Inner.Held.{contents_of, limits_in}
use Rattle.holdings.proofs.Contents.Holders.{absent_within, present_within}
use Rattle.holdings.proofs.holdings.Holdings.held_run.Goals as goal

-- what has an entry is held, and nothing else
module _ (s : Shards) (trees : List Shape) (held : Contents) (is : contents_of s trees ≡ held) (p : Place) (within : IsWithin (limits_in s trees) p) where
  there : IsTrue (is_some (entry_at s p)) → is_held held.holdings p ≡ true
  there has = by (entry_at s p) refl
    where
      by : (o : Option Entry) → entry_at s p ≡ o → is_held held.holdings p ≡ true
      by None none = absurd (cc (none, has))
      by (Some e) some = ap (λ (h : Contents). is_held h.holdings p) (sym is) ∙ ap is_some (present_within (limits_in s trees) s trees p within e some)

  nothing : entry_at s p ≡ None → is_held held.holdings p ≡ false
  nothing none = ap (λ (h : Contents). is_held h.holdings p) (sym is) ∙ ap is_some (absent_within (limits_in s trees) s trees p within none)

-- within the limits of the words
within_words : (s : Shards) (trees : List Shape) (held : Contents) → contents_of s trees ≡ held → (p : Place) → IsWithin held.limits p → IsWithin (limits_in s trees) p
within_words s trees held is p within = subst (λ (h : Contents). IsWithin h.limits p) (sym is) within

-- where nothing is read there is no entry
no_entry : (read there : Option Entry) → read ≡ there → is_some read ≡ false → there ≡ None
no_entry read None same none = refl
no_entry read (Some e) same none = absurd (cc (ap is_some same, none))

pub returns-then-is_none-clause-some : goal.returns-then-is_none-clause-some
returns-then-is_none-clause-some c held =
    let s = c.self.inside.shards in
    let trees = c.self.inside.trees.items in
    let h = c.args.self.now in
    let none = no_entry c.get.result (entry_at s c.args.place) c.get.ensures (c.is_none.ensures ∙ ap not c.if-is_none.true) in
    let unheld : is_held h.holdings c.args.place ≡ false = nothing s trees h c.self.view_is c.args.place (within_words s trees h c.self.view_is c.args.place c.requires) none in
    absurd (differ (is_held h.holdings c.args.place) held unheld)
  where
    differ : (b : Bool) → b ≡ true → b ≡ false → ⊥
    differ b is other = cc (is, other)

-- a run that does not begin behind a page
begins : {from page : ℕ} {read : Option Entry} → (page < from) ⊎ (from ≤ page) → is_some read ≡ true → (page < from → read ≡ None) → from ≤ page
begins (inr past) some absent = past
begins (inl less) some absent = absurd (cc (absent less, some))

pub returns-clause-held : goal.returns-clause-held
returns-clause-held c p same from before =
    let s = c.self.inside.shards in
    let trees = c.self.inside.trees.items in
    let h = c.args.self.now in
    let run = c.next_run.result.pages in
    let is = c.next_run.ensures in
    let end : run.end ≤ pages_of (limits_in s trees).bits = omega (arith, is.end, ap (λ b. 2 ^ (b - 12)) c.bits.ensures) in
    let there_is : is_some c.get.result ≡ true = c.is_none.ensures ∙ ap not c.if-is_none.false in
    let first : run.start ≤ c.args.place.page = begins (within_or_past c.args.place.page run.start) there_is (λ less. c.get.ensures ∙ is.absent c.args.place refl (omega arith) less) in
    let here = within_words s trees h c.self.view_is c.args.place c.requires in
    let within : IsWithin (limits_in s trees) p = record { space = subst (λ n. n < (limits_in s trees).spaces) (sym same) here.space; page = omega (arith, before, end) } in
    there s trees h c.self.view_is p within (is.held p same (omega (arith, first, from)) before)
