-- Item after item; what was held before them is what the database had when it was called.
use Rattle.std.proofs.Common.{◌≡◌, Some, sym, ap, ◌∙◌, subst}
use Rattle.holdings.specs.Layout.{index_in}
use Rattle.holdings.specs.Meaning.{limits_of}
use Rattle.mapdb.specs.Noted.{NotesChange}
use Rattle.mapdb.specs.State.{State, state_of, AreLimitsOf}
use Rattle.mapdb.proofs.ToldNotes.{change_of}
use Rattle.std.proofs.Common.{◌≡◌, ℕ, ◌+◌, ◌*◌, ◌^◌, ◌<◌, ◌≤◌, sym, ap, ◌∙◌, subst, arith}
use Rattle.fpage.specs.Fpage.{Flexpage, IsFpageOf}
use Rattle.fpage.specs.declared.item.Item.{Item}
use Rattle.model.specs.Definitions.Calls.{Limits}
use Rattle.model.specs.Definitions.Answers.{send_answer}
use Rattle.model.specs.Definitions.Items.{job_of}
use Rattle.model.specs.Laws.SendLaws.{total}
use Rattle.holdings.specs.declared.item_pages.ItemPages.{ItemPages}
use Rattle.holdings.specs.Contents.{Contents}
use Rattle.holdings.proofs.NotedPages.{follow_none, follow_both}
use Rattle.holdings.specs.Sending.{job_of_pages, AreItemPages}
use Rattle.mapdb.specs.Meaning.{counts_of}
use Rattle.mapdb.specs.Sending.{FitsIn}
use Rattle.mapdb.proofs.ItemByItem.{AreWorked, none_worked, one_worked, all_worked}
use Rattle.mapdb.proofs.database.Database.send_noted.Goals as goal

pub loop-item-init : goal.loop-item-init
loop-item-init g c = record {
  worked = subst (AreWorked c.unwrap-held.result c.args.send.now.from c.args.send.now.to c.args.send.now.window c.args.send.now.items.now 0 c.unwrap-held.result) (sym c.none-reply.ensures)
      (none_worked c.unwrap-held.result c.args.send.now.from c.args.send.now.to c.args.send.now.window c.args.send.now.items.now);
  noted = follow_none c.unwrap-held.result.holdings c.args.notes.now;
}

-- the pages of an item lie within the limits
within : (old now : Limits) (from to : ℕ) (window : Flexpage) (item : Item) (p : ItemPages) → now ≡ old → from < old.spaces → to < old.spaces → (from ≡ to → ⊥)
    → IsFpageOf old.bits window → IsFpageOf old.bits item.sent → p.source.space ≡ from → p.target.space ≡ to → ((bits : ℕ) → IsFpageOf bits window → IsFpageOf bits item.sent → FitsIn bits p) → AreItemPages now p
within old now from to window item p same from_less to_less differ window_within sent_within source target fits =
    let f = fits old.bits window_within sent_within in
    subst (λ (l : Limits). AreItemPages l p) (sym same)
    (record {
      source_space = subst (λ s. s < old.spaces) (sym source) from_less;
      target_space = subst (λ s. s < old.spaces) (sym target) to_less;
      source_pages = f.sources;
      target_pages = f.targets;
      differ = λ one. differ (sym source ∙ one ∙ target);
    })

pub work_item-requires : goal.work_item-requires
work_item-requires g c =
    let s : State = c.args.self.now in
    let limits = limits_of c.self.inside.limits in
    let took = sym c.unwrap-held.ensures ∙ c.take.ensures.value in
    let seen : state_of limits (Some c.unwrap-held.result) ≡ s = ap (state_of limits) took ∙ c.self.view_is in
    let same : c.loop-item.held.limits ≡ s.limits = c.loop-item.invariant.worked.limits ∙ subst (AreLimitsOf limits) (sym took) c.self.invariant ∙ ap (λ (k : State). k.limits) seen in
    let spaces = ap (λ (k : State). k.limits.spaces) seen in
    let from : c.args.send.now.from < s.limits.spaces = omega (arith, spaces, c.from.ensures, c.if-from-spaces.false) in
    let to : c.args.send.now.to < s.limits.spaces = omega (arith, spaces, c.from-else-from-spaces.ensures, c.if-from-spaces-2.false) in
    let sent = subst (λ (item : Item). IsFpageOf s.limits.bits item.sent) (sym c.item-item.is) (c.requires.items c.loop-item.item-index c.item-item.result c.loop-item-test.true) in
    record {
      pages = within s.limits c.loop-item.held.limits c.args.send.now.from c.args.send.now.to c.args.send.now.window c.item-item.result c.item_pages-pages.result same
          from to c.if-send.false c.requires.window sent c.item_pages-pages.ensures.source c.item_pages-pages.ensures.target c.item_pages-pages.ensures.within;
    }

pub plus-reply-requires : goal.plus-reply-requires
plus-reply-requires g c =
    let index : c.loop-item.item-index < 2 ^ 64 = omega arith in
    fits (total (counts_of c.loop-item.reply)) (total (counts_of c.in_ok-left.worked)) c.loop-item.item-index c.loop-item.invariant.worked.few c.in_ok-left.ensures.few index
  where
    fits : (a b i : ℕ) → a ≤ 2 ^ 32 * i → b < 2 ^ 32 → i < 2 ^ 64 → a + b < 2 ^ 128
    fits a b i so_far few index = omega (arith, so_far, few, index)

pub loop-item-preserved : goal.loop-item-preserved
loop-item-preserved g c =
    let old = c.unwrap-held.result in
    let send = c.args.send.now in
    let sent = c.in_ok-left.ensures.sent in
    record {
      worked = subst (AreWorked old send.from send.to send.window send.items.now (c.loop-item.item-index + 1) c.in_ok-left.left) (sym c.plus-reply.ensures)
          (one_worked old send.from send.to send.window send.items.now c.loop-item.item-index c.item-item.result c.loop-item-test.true c.loop-item.held c.in_ok-left.left
          (counts_of c.loop-item.reply) (counts_of c.in_ok-left.worked) c.loop-item.invariant.worked (job_of_pages c.item_pages-pages.result) (c.item_pages-pages.ensures.job ∙ ap (job_of send.from send.to send.window) c.item-item.is)
          sent.left_is sent.grows sent.counted c.in_ok-left.ensures.few);
      noted = follow_both old.holdings c.loop-item.held.holdings c.in_ok-left.left.holdings c.args.notes.now c.loop-item.notes c.work_item.new.notes c.loop-item.invariant.noted c.in_ok-left.ensures.noted;
    }

pub returns-clause-counts : goal.returns-clause-counts
returns-clause-counts g c =
    let limits = limits_of c.self.inside.limits in
    let seen : state_of limits (Some c.unwrap-held.result) ≡ c.args.self.now =
    ap (state_of limits) (sym c.unwrap-held.ensures ∙ c.take.ensures.value) ∙ c.self.view_is in
    let send = c.args.send.now in
    let all = all_worked c.unwrap-held.result send.from send.to send.window send.items.now c.loop-item.item-index c.loop-item.held (counts_of c.loop-item.reply) c.loop-item-test.false c.loop-item.invariant.worked in
    all.1 ∙ ap (λ (s : State). (send_answer send.from send.to send.window send.items.now s.holdings).counts) seen

pub returns-clause-left : goal.returns-clause-left
returns-clause-left g c =
    let limits = limits_of c.self.inside.limits in
    let seen : state_of limits (Some c.unwrap-held.result) ≡ c.args.self.now =
    ap (state_of limits) (sym c.unwrap-held.ensures ∙ c.take.ensures.value) ∙ c.self.view_is in
    let send = c.args.send.now in
    let all = all_worked c.unwrap-held.result send.from send.to send.window send.items.now c.loop-item.item-index c.loop-item.held (counts_of c.loop-item.reply) c.loop-item-test.false c.loop-item.invariant.worked in
    let same = ap (λ (s : State). s.limits) seen in
    let left = ap (λ (k : Contents). k.holdings) all.0 ∙ ap (λ (s : State). (send_answer send.from send.to send.window send.items.now s.holdings).left) seen in
    let runs = ap (λ (s : State). s.is_halted) seen in
    λ i. record { limits = same i; holdings = left i; layout = c.loop-item.held.layout; is_halted = runs i }

pub returns-clause-grows : goal.returns-clause-grows
returns-clause-grows g c =
    let limits = limits_of c.self.inside.limits in
    let seen : state_of limits (Some c.unwrap-held.result) ≡ c.args.self.now =
    ap (state_of limits) (sym c.unwrap-held.ensures ∙ c.take.ensures.value) ∙ c.self.view_is in
    let send = c.args.send.now in
    let all = all_worked c.unwrap-held.result send.from send.to send.window send.items.now c.loop-item.item-index c.loop-item.held (counts_of c.loop-item.reply) c.loop-item-test.false c.loop-item.invariant.worked in
    λ p i at. all.2 p i (ap (λ (s : State). index_in s.layout p) seen ∙ at)

pub returns-clause-noted : goal.returns-clause-noted
returns-clause-noted g c =
    let limits = limits_of c.self.inside.limits in
    let seen : state_of limits (Some c.unwrap-held.result) ≡ c.args.self.now =
    ap (state_of limits) (sym c.unwrap-held.ensures ∙ c.take.ensures.value) ∙ c.self.view_is in
    let held = c.loop-item.held.holdings in
    subst (λ (s : State). NotesChange s.holdings held c.args.notes.now c.keep_told.new.notes) seen
    (change_of c.unwrap-held.result.holdings held c.args.notes.now c.loop-item.notes c.keep_told.new.notes c.loop-item.invariant.noted c.keep_told.ensures.asked c.in_ok-keep_told.ensures.told)
