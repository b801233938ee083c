-- An access that is made marks its word; a fault changes nothing.
use Rattle.std.proofs.Common.{◌≡◌, length, true, false, Some, sym, ap, ◌∙◌, subst}
use Rattle.std.specs.Option.{option_map}
use Rattle.fpage.specs.Rights.{has}
use Rattle.space.specs.Entries.{with_status}
use Rattle.model.specs.Definitions.Calls.{Limits}
use Rattle.model.specs.Definitions.Touch.{can_touch, touch}
use Rattle.holdings.specs.Places.{IsWithin}
use Rattle.holdings.specs.Inner.Held.{holdings_of, contents_of, layout_in, limits_in}
use Rattle.holdings.specs.Contents.{Contents, left_with}
use Rattle.holdings.specs.Inner.Sound.{IsSound}
use Rattle.holdings.proofs.Contents.Accesses.{touch_fault, can_touch_absent, can_touch_present, touched, touched_sound, marked_entry}
use Rattle.holdings.proofs.Contents.Layouts.{same_layout}
use Rattle.holdings.proofs.Contents.WordChanges.{IsWordSet}
use Rattle.holdings.proofs.holdings.Holdings.touch.Goals as goal

pub returns-in_default-clause-answer : goal.returns-in_default-clause-answer
returns-in_default-clause-answer c =
    let d = c.self.inside in
    let within = subst (λ (s : Contents). IsWithin s.limits c.args.place) (sym c.self.view_is) c.requires in
    sym (subst (λ (s : Contents). can_touch s.holdings c.args.place c.args.access ≡ false) c.self.view_is
    (can_touch_absent (limits_in d.shards d.trees.items) d.shards d.trees.items c.args.place c.args.access within (sym c.get.ensures ∙ c.in_default.is)))

pub returns-in_default-clause-left : goal.returns-in_default-clause-left
returns-in_default-clause-left c = ap (left_with c.args.self.now) (sym (touch_fault _ _ _ (sym (returns-in_default-clause-answer c))))

-- whether the access is made
by_right : (c : goal.Then-not-holds) → can_touch c.args.self.now.holdings c.args.place c.args.access ≡ has c.in-Some.entry.rights c.args.access
by_right c =
    let d = c.self.inside in
    let within = subst (λ (s : Contents). IsWithin s.limits c.args.place) (sym c.self.view_is) c.requires in
    subst (λ (s : Contents). can_touch s.holdings c.args.place c.args.access ≡ has c.in-Some.entry.rights c.args.access) c.self.view_is
    (can_touch_present (limits_in d.shards d.trees.items) d.shards d.trees.items c.args.place c.args.access within c.in-Some.entry (sym c.get.ensures ∙ c.in-Some.is))

pub returns-then-not-holds-clause-answer : goal.returns-then-not-holds-clause-answer
returns-then-not-holds-clause-answer c = sym (by_right c ∙ sym c.holds.ensures ∙ c.if-not-holds.true)

pub returns-then-not-holds-clause-left : goal.returns-then-not-holds-clause-left
returns-then-not-holds-clause-left c = ap (left_with c.args.self.now) (sym (touch_fault _ _ _ (sym (returns-then-not-holds-clause-answer c))))

-- the word has the marks
word_set : (c : goal.After-add_status) → IsWordSet c.self.inside.shards c.add_status.new.self c.args.place (Some (marked_entry c.args.access c.in-Some.entry))
word_set c =
    let marked = ap (option_map (with_status c.marks.result)) (sym c.get.ensures ∙ c.in-Some.is) ∙ ap (λ s. Some (with_status s c.in-Some.entry)) c.marks.ensures in
    subst (IsWordSet c.self.inside.shards c.add_status.new.self c.args.place) marked
    (record { set = c.add_status.ensures.set; present = c.add_status.ensures.present; layout = c.add_status.ensures.layout })

-- the limits stay
same_limits : (c : goal.After-add_status) → limits_in c.add_status.new.self c.self.inside.trees.items ≡ limits_in c.self.inside.shards c.self.inside.trees.items
same_limits c = λ i. record { spaces = c.add_status.ensures.layout.spaces i; bits = c.add_status.ensures.layout.bits i; frames = length c.self.inside.trees.items }

pub invariant_of-self : goal.invariant_of-self
invariant_of-self c =
    let d = c.self.inside in
    let within = subst (λ (s : Contents). IsWithin s.limits c.args.place) (sym c.self.view_is) c.requires in
    subst (λ (l : Limits). IsSound l c.add_status.new.self d.trees.items) (sym (same_limits c))
    (touched_sound (limits_in d.shards d.trees.items) d.shards c.add_status.new.self d.trees.items c.args.place c.args.access c.in-Some.entry c.self.invariant (word_set c) within
    (sym c.get.ensures ∙ c.in-Some.is) (sym c.holds.ensures ∙ c.if-not-holds.false))

pub returns-clause-answer : goal.returns-clause-answer
returns-clause-answer c =
    let d = c.self.inside in
    let within = subst (λ (s : Contents). IsWithin s.limits c.args.place) (sym c.self.view_is) c.requires in
    sym (subst (λ (s : Contents). can_touch s.holdings c.args.place c.args.access ≡ true) c.self.view_is
    (can_touch_present (limits_in d.shards d.trees.items) d.shards d.trees.items c.args.place c.args.access within c.in-Some.entry (sym c.get.ensures ∙ c.in-Some.is)
    ∙ sym c.holds.ensures ∙ c.if-not-holds.false))

pub returns-clause-left : goal.returns-clause-left
returns-clause-left c =
    let d = c.self.inside in
    let t = d.trees.items in
    let new = c.add_status.new.self in
    let within = subst (λ (s : Contents). IsWithin s.limits c.args.place) (sym c.self.view_is) c.requires in
    let left =
    touched (limits_in d.shards t) d.shards new t c.args.place c.args.access c.in-Some.entry c.self.invariant.kept.fits (word_set c) within
    (sym c.get.ensures ∙ c.in-Some.is) (sym c.holds.ensures ∙ c.if-not-holds.false) in
    let same : limits_in new t ≡ limits_in d.shards t = λ i. record { spaces = c.add_status.ensures.layout.spaces i; bits = c.add_status.ensures.layout.bits i; frames = length t } in
    subst (λ (s : Contents). contents_of new t ≡ left_with s (touch s.holdings c.args.place c.args.access)) c.self.view_is
    ((λ i. record { limits = same i; holdings = holdings_of (same i) new t; layout = same_layout d.shards new c.add_status.ensures.layout i })
    ∙ ap (λ h. record { limits = limits_in d.shards t; holdings = h; layout = layout_in d.shards }) left)
