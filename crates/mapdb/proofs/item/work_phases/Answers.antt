-- The phases of what was planned, one after another, are those of the definition.
use Rattle.std.proofs.Common.{◌≡◌, ◌+◌, ◌^◌, ◌<◌, sym, ap, ◌∙◌, subst}
use Rattle.std.specs.List.{All}
use Rattle.std.proofs.lemmas.Bool.{and_parts}
use Rattle.fpage.specs.Rights.{without}
use Rattle.fpage.specs.declared.item.ItemKind.TheVariants.{Map, Grant}
use Rattle.model.specs.Definitions.Holdings.{is_held}
use Rattle.model.specs.Definitions.Items.{Counts, add_counts}
use Rattle.model.specs.Laws.SendLaws.{total}
use Rattle.holdings.specs.Contents.{Contents}
use Rattle.holdings.specs.Noting.{NotesFollow}
use Rattle.holdings.specs.declared.notes.Notes.{Notes}
use Rattle.holdings.specs.declared.transfer_counts.TransferCounts.{TransferCounts}
use Rattle.holdings.proofs.NotedPages.{follow_both}
use Rattle.holdings.specs.Meaning as phase
use Rattle.holdings.specs.Sending.{IsTransferWithin, ArePlanned}
use Rattle.mapdb.specs.Meaning.{counts_of}
use Rattle.mapdb.specs.Sending.{targets_in, AreWorkedBy}
use Rattle.mapdb.proofs.Ends.{all_within}
use Rattle.mapdb.proofs.Phases.{sources_within, targets_within}
use Rattle.mapdb.proofs.Granting.{still_free, mapped_after, moved_after, worked_as}
use Rattle.mapdb.proofs.OneItem.{the_transfers_of, planned, IsFlushed, is_flushed, left_then, grows_then, counts_then, total_then, fits_then}
use Rattle.mapdb.proofs.item.work_phases.Given.{Over}
use Rattle.mapdb.proofs.item.work_phases.Goals.{After-plus, in-Map+in_ok-map-in-Map, in-Grant+in_ok-held-in-Grant+in_ok-held-in-Grant-2}
use Rattle.mapdb.proofs.item.work_phases.Goals as goal

pub strip-requires : goal.strip-requires
strip-requires g c =
    let limits = c.args.held.limits in
    let ts = c.args.phases.now.transfers.now in
    let transfers = subst (All (IsTransferWithin limits)) (sym c.requires.transfers) (planned c.args.held c.args.pages.now c.requires.consistent c.requires.pages).within in
    record {
      within = all_within limits c.args.phases.now.replaced.now (λ p named. targets_within limits ts transfers p (and_parts (targets_in ts p) (is_held c.args.held.holdings p) (sym (c.requires.replaced p) ∙ named)).0);
    }

pub map-requires-clause-planned : goal.map-requires-clause-planned
map-requires-clause-planned g c =
    let f = is_flushed c.args.held c.args.pages.now c.requires.consistent c.requires.pages c.args.phases.now.transfers.now c.requires.transfers c.args.phases.now.replaced.now c.requires.replaced c.all.result c.all.ensures
    (c.in_ok-held.held, c.in_ok-held.field-0-1) c.in_ok-held.ensures.stripped in
    f.are_planned

pub map-requires-clause-ready : goal.map-requires-clause-ready
map-requires-clause-ready g c =
    let f = is_flushed c.args.held c.args.pages.now c.requires.consistent c.requires.pages c.args.phases.now.transfers.now c.requires.transfers c.args.phases.now.replaced.now c.requires.replaced c.all.result c.all.ensures
    (c.in_ok-held.held, c.in_ok-held.field-0-1) c.in_ok-held.ensures.stripped in
    f.are_ready

pub strip-requires-in-Grant : goal.strip-requires-in-Grant
strip-requires-in-Grant g c =
    let f = is_flushed c.args.held c.args.pages.now c.requires.consistent c.requires.pages c.args.phases.now.transfers.now c.requires.transfers c.args.phases.now.replaced.now c.requires.replaced c.all.result c.all.ensures
    (c.in_ok-held.held, c.in_ok-held.field-0-1) c.in_ok-held.ensures.stripped in
    record {
      within = all_within c.in_ok-held.held.limits c.args.phases.now.sources.now
          (λ p named. sources_within c.in_ok-held.held.limits c.args.phases.now.transfers.now f.are_planned.within p (sym (c.requires.sources c.in-Grant.is p) ∙ named));
    }

pub rename-requires-clause-planned : goal.rename-requires-clause-planned
rename-requires-clause-planned g c =
    let f = is_flushed c.args.held c.args.pages.now c.requires.consistent c.requires.pages c.args.phases.now.transfers.now c.requires.transfers c.args.phases.now.replaced.now c.requires.replaced c.all.result c.all.ensures
    (c.in_ok-held.held, c.in_ok-held.field-0-1) c.in_ok-held.ensures.stripped in
    subst (λ (d : Contents). ArePlanned d.limits c.args.phases.now.transfers.now) (sym c.in_ok-held-in-Grant.ensures.stripped.left) f.are_planned

pub rename-requires-clause-all_go : goal.rename-requires-clause-all_go
rename-requires-clause-all_go g c =
    let f = is_flushed c.args.held c.args.pages.now c.requires.consistent c.requires.pages c.args.phases.now.transfers.now c.requires.transfers c.args.phases.now.replaced.now c.requires.replaced c.all.result c.all.ensures
    (c.in_ok-held.held, c.in_ok-held.field-0-1) c.in_ok-held.ensures.stripped in
    f.all_go c.in-Grant.is

pub rename-requires-clause-free : goal.rename-requires-clause-free
rename-requires-clause-free g c =
    let f = is_flushed c.args.held c.args.pages.now c.requires.consistent c.requires.pages c.args.phases.now.transfers.now c.requires.transfers c.args.phases.now.replaced.now c.requires.replaced c.all.result c.all.ensures
    (c.in_ok-held.held, c.in_ok-held.field-0-1) c.in_ok-held.ensures.stripped in
    still_free c.in_ok-held.held f.lawful_now c.args.pages.now.rights c.args.phases.now.transfers.now (f.all_go c.in-Grant.is) c.in_ok-held-in-Grant.held c.in_ok-held-in-Grant.field-0-1 c.args.phases.now.sources.now
    (c.requires.sources c.in-Grant.is) c.without-withheld.result (c.without-withheld.ensures ∙ ap (λ r. without r c.args.pages.now.rights) c.all-in-Grant.ensures) c.in_ok-held-in-Grant.ensures.stripped f.are_ready

pub plus-requires : goal.plus-requires
plus-requires g c =
    let f = is_flushed c.args.held c.args.pages.now c.requires.consistent c.requires.pages c.args.phases.now.transfers.now c.requires.transfers c.args.phases.now.replaced.now c.requires.replaced c.all.result c.all.ensures
    (c.in_ok-held.held, c.in_ok-held.field-0-1) c.in_ok-held.ensures.stripped in
    let phased : AreWorkedBy c.in_ok-held.held c.args.pages.now.kind c.args.pages.now.rights (the_transfers_of c.args.held c.args.pages.now) c.match-pages.held =
    elim c.match-pages.branch [
      | in-Map+in_ok-map-in-Map w ↦
          worked_as c.in_ok-held.held c.args.pages.now.kind Map c.args.pages.now.rights c.args.phases.now.transfers.now (the_transfers_of c.args.held c.args.pages.now) (w.in_ok-map-in-Map.held, w.in_ok-map-in-Map.worked) c.match-pages.held w.in-Map.is c.requires.transfers w.held-is
          (mapped_after c.in_ok-held.held c.args.pages.now.rights c.args.phases.now.transfers.now (w.in_ok-map-in-Map.held, w.in_ok-map-in-Map.worked) w.in_ok-map-in-Map.ensures.mapped)
      | in-Grant+in_ok-held-in-Grant+in_ok-held-in-Grant-2 w ↦
          worked_as c.in_ok-held.held c.args.pages.now.kind Grant c.args.pages.now.rights c.args.phases.now.transfers.now (the_transfers_of c.args.held c.args.pages.now) (w.in_ok-held-in-Grant-2.held, w.in_ok-held-in-Grant-2.worked) c.match-pages.held w.in-Grant.is c.requires.transfers w.held-is
          (moved_after c.in_ok-held.held f.lawful_now c.args.pages.now.rights c.args.phases.now.transfers.now (f.all_go w.in-Grant.is) w.in_ok-held-in-Grant.held w.in_ok-held-in-Grant.field-0-1 c.args.phases.now.sources.now
          (c.requires.sources w.in-Grant.is) w.without-withheld.result (w.without-withheld.ensures ∙ ap (λ r. without r c.args.pages.now.rights) w.all-in-Grant.ensures) w.in_ok-held-in-Grant.ensures.stripped f.are_ready
          (w.in_ok-held-in-Grant-2.held, w.in_ok-held-in-Grant-2.worked) w.in_ok-held-in-Grant-2.ensures.moved)
    ] in
    subst (λ (more : Counts). total (counts_of c.args.phases.now.decided) + total more < 2 ^ 128) (sym c.of_transfers-worked.ensures)
    (fits_then c.args.held c.args.pages.now c.requires.consistent c.requires.pages c.in_ok-held.held f.left c.match-pages.held phased (counts_of c.args.phases.now.decided) c.requires.decided)

module _ (g : Over) (c : After-plus g) where
  f : IsFlushed c.args.held c.args.pages.now c.args.phases.now.transfers.now c.in_ok-held.held
  f =
      is_flushed c.args.held c.args.pages.now c.requires.consistent c.requires.pages c.args.phases.now.transfers.now c.requires.transfers c.args.phases.now.replaced.now c.requires.replaced c.all.result c.all.ensures
      (c.in_ok-held.held, c.in_ok-held.field-0-1) c.in_ok-held.ensures.stripped

  phased : AreWorkedBy c.in_ok-held.held c.args.pages.now.kind c.args.pages.now.rights (the_transfers_of c.args.held c.args.pages.now) c.match-pages.held
  phased =
      elim c.match-pages.branch [
        | in-Map+in_ok-map-in-Map w ↦
            worked_as c.in_ok-held.held c.args.pages.now.kind Map c.args.pages.now.rights c.args.phases.now.transfers.now (the_transfers_of c.args.held c.args.pages.now) (w.in_ok-map-in-Map.held, w.in_ok-map-in-Map.worked) c.match-pages.held w.in-Map.is c.requires.transfers w.held-is
            (mapped_after c.in_ok-held.held c.args.pages.now.rights c.args.phases.now.transfers.now (w.in_ok-map-in-Map.held, w.in_ok-map-in-Map.worked) w.in_ok-map-in-Map.ensures.mapped)
        | in-Grant+in_ok-held-in-Grant+in_ok-held-in-Grant-2 w ↦
            worked_as c.in_ok-held.held c.args.pages.now.kind Grant c.args.pages.now.rights c.args.phases.now.transfers.now (the_transfers_of c.args.held c.args.pages.now) (w.in_ok-held-in-Grant-2.held, w.in_ok-held-in-Grant-2.worked) c.match-pages.held w.in-Grant.is c.requires.transfers w.held-is
            (moved_after c.in_ok-held.held f.lawful_now c.args.pages.now.rights c.args.phases.now.transfers.now (f.all_go w.in-Grant.is) w.in_ok-held-in-Grant.held w.in_ok-held-in-Grant.field-0-1 c.args.phases.now.sources.now
            (c.requires.sources w.in-Grant.is) w.without-withheld.result (w.without-withheld.ensures ∙ ap (λ r. without r c.args.pages.now.rights) w.all-in-Grant.ensures) w.in_ok-held-in-Grant.ensures.stripped f.are_ready
            (w.in_ok-held-in-Grant-2.held, w.in_ok-held-in-Grant-2.worked) w.in_ok-held-in-Grant-2.ensures.moved)
      ]

  counted : counts_of c.plus.result ≡ add_counts (counts_of c.args.phases.now.decided) (phase.counts_of c.match-pages.held.1)
  counted = c.plus.ensures ∙ ap (add_counts (counts_of c.args.phases.now.decided)) c.of_transfers-worked.ensures

pub returns-clause-sent : goal.returns-clause-sent
returns-clause-sent g c = record {
  left_is = left_then c.args.held c.args.pages.now c.requires.consistent c.requires.pages c.in_ok-held.held (f g c).left c.match-pages.held (phased g c) (counts_of c.args.phases.now.decided) c.requires.decided;
  grows = grows_then c.args.held c.args.pages.now c.requires.consistent c.requires.pages c.in_ok-held.held (f g c).left c.match-pages.held (phased g c) (counts_of c.args.phases.now.decided) c.requires.decided;
  counted = counted g c ∙ counts_then c.args.held c.args.pages.now c.requires.consistent c.requires.pages c.in_ok-held.held (f g c).left c.match-pages.held (phased g c) (counts_of c.args.phases.now.decided) c.requires.decided;
}

pub returns-clause-few : goal.returns-clause-few
returns-clause-few g c =
    subst (λ (k : Counts). total k < 2 ^ 32) (sym (counted g c))
    (total_then c.args.held c.args.pages.now c.requires.consistent c.requires.pages c.in_ok-held.held (f g c).left c.match-pages.held (phased g c) (counts_of c.args.phases.now.decided) c.requires.decided)

-- what the phases behind the flush note follows what the flush noted
pub returns-clause-noted : goal.returns-clause-noted
returns-clause-noted g c =
    let flushed = c.in_ok-held.held.holdings in
    follow_both c.args.held.holdings flushed c.match-pages.held.0.holdings c.args.notes.now c.strip.new.notes c.match-pages.notes c.in_ok-held.ensures.noted
    (elim c.match-pages.branch [
      | in-Map+in_ok-map-in-Map w ↦
          subst (λ (m : Notes). NotesFollow flushed c.match-pages.held.0.holdings c.strip.new.notes m) (sym w.notes-is)
          (subst (λ (r : Contents × TransferCounts). NotesFollow flushed r.0.holdings c.strip.new.notes w.map.new.notes) (sym w.held-is) w.in_ok-map-in-Map.ensures.noted)
      | in-Grant+in_ok-held-in-Grant+in_ok-held-in-Grant-2 w ↦
          subst (λ (m : Notes). NotesFollow flushed c.match-pages.held.0.holdings c.strip.new.notes m) (sym w.notes-is)
          (subst (λ (r : Contents × TransferCounts). NotesFollow flushed r.0.holdings c.strip.new.notes w.rename.new.notes) (sym w.held-is)
          (follow_both flushed w.in_ok-held-in-Grant.held.holdings w.in_ok-held-in-Grant-2.held.holdings c.strip.new.notes w.strip-in-Grant.new.notes w.rename.new.notes w.in_ok-held-in-Grant.ensures.noted w.in_ok-held-in-Grant-2.ensures.noted))
    ])
