-- The places are those that the word names and that are held.
use Rattle.std.proofs.Common.{Ok, sym, subst}
use Rattle.std.specs.Prelude.{IfOk}
use Rattle.crew.specs.declared.error.CrewError.{CrewError}
use Rattle.fpage.specs.declared.rights.Rights.{Rights}
use Rattle.model.specs.Definitions.Answers.{pages_in}
use Rattle.model.specs.Definitions.Holdings.{PlaceSet}
use Rattle.holdings.specs.Contents.{Contents, IsStripped}
use Rattle.holdings.specs.Noting.{NotesFollow}
use Rattle.holdings.specs.Places.{any_of}
use Rattle.mapdb.proofs.NamedPlaces.{held_within, named_stripped, only_within, only_set}
use Rattle.mapdb.proofs.unmap.unmap_word.Goals.{then-plain+in_ok-strip_by_recursion, else-plain+in_ok-left}
use Rattle.mapdb.proofs.unmap.unmap_word.Goals as goal

-- ---- one page

pub strip-requires : goal.strip-requires
strip-requires g c =
    record { within = only_within c.args.word.now.space c.args.word.now.fpage c.pages-pages.result c.pages-pages.ensures.start c.pages-pages.ensures.end c.if-pages-eq1.true c.args.held.limits c.requires.space c.requires.fpage }

pub returns-then-not-plain-clause-stripped : goal.returns-then-not-plain-clause-stripped
returns-then-not-plain-clause-stripped g c =
    let set = only_set c.args.word.now.space c.args.word.now.fpage c.pages-pages.result c.pages-pages.ensures.start c.pages-pages.ensures.end c.if-pages-eq1.true in
    subst (λ (a : Rights). IfOk c.strip.result (IsStripped c.args.held (pages_in c.args.word.now.space c.args.word.now.fpage) a c.args.word.now.flush)) c.rights-revoked.ensures
    (subst (λ (s : PlaceSet). IfOk c.strip.result (IsStripped c.args.held s c.rights-revoked.result c.args.word.now.flush)) set c.strip.ensures.stripped)

-- ---- those that are held, by workers or by recursion

pub strip_by_recursion-requires : goal.strip_by_recursion-requires
strip_by_recursion-requires g c =
    held_within c.args.held c.args.word.now.space c.args.word.now.fpage c.pages-pages.result c.pages-pages.ensures.start c.pages-pages.ensures.end c.in_ok-named.named.places.items c.as_slice-places.result.now c.as_slice-places.ensures.value c.in_ok-named.ensures.held c.requires.space c.requires.fpage

pub strip-requires-else-plain : goal.strip-requires-else-plain
strip-requires-else-plain g c =
    record { within = held_within c.args.held c.args.word.now.space c.args.word.now.fpage c.pages-pages.result c.pages-pages.ensures.start c.pages-pages.ensures.end c.in_ok-named.named.places.items c.as_slice-places.result.now c.as_slice-places.ensures.value c.in_ok-named.ensures.held c.requires.space c.requires.fpage }

pub returns-clause-stripped : goal.returns-clause-stripped
returns-clause-stripped g c =
    let word = c.args.word.now.fpage in
    let flush = c.args.word.now.flush in
    let read = c.as_slice-places.result.now in
    let stripped : IsStripped c.args.held (any_of read) c.rights-revoked.result flush c.if-plain.left = elim c.if-plain.branch as (λ _. IsStripped c.args.held (any_of read) c.rights-revoked.result flush c.if-plain.left) [
      | then-plain+in_ok-strip_by_recursion w ↦ subst (IsStripped c.args.held (any_of read) c.rights-revoked.result flush) (sym w.left-is) w.in_ok-strip_by_recursion.ensures.stripped
      | else-plain+in_ok-left w ↦ subst (IsStripped c.args.held (any_of read) c.rights-revoked.result flush) (sym w.left-is) w.in_ok-left.ensures.stripped
    ] in
    let named : IsStripped c.args.held (pages_in c.args.word.now.space word) word.rights flush c.if-plain.left =
    named_stripped c.args.held c.args.word.now.space word c.pages-pages.result c.pages-pages.ensures.start c.pages-pages.ensures.end c.in_ok-named.named.places.items read c.as_slice-places.ensures.value c.in_ok-named.ensures.held c.held_among.ensures.consistent word.rights flush {E = CrewError} (Ok c.if-plain.left)
    (subst (λ (a : Rights). IsStripped c.args.held (any_of read) a flush c.if-plain.left) c.rights-revoked.ensures stripped) in
    subst (λ (h : Contents). IsStripped c.args.held (pages_in c.args.word.now.space word) word.rights flush (h, c.if-plain.left.1)) (sym c.swept-left.ensures) named

pub returns-clause-noted : goal.returns-clause-noted
returns-clause-noted g c =
    let old = c.args.held.holdings in
    subst (λ (h : Contents). NotesFollow old h.holdings c.args.notes.now c.if-plain.notes) (sym c.swept-left.ensures)
    (elim c.if-plain.branch as (λ _. NotesFollow old c.if-plain.left.0.holdings c.args.notes.now c.if-plain.notes) [
      | then-plain+in_ok-strip_by_recursion w ↦
          subst (λ (r : Contents × Rights). NotesFollow old r.0.holdings c.args.notes.now c.if-plain.notes) (sym w.left-is)
          (subst (NotesFollow old _ c.args.notes.now) (sym w.notes-is) w.in_ok-strip_by_recursion.ensures.noted)
      | else-plain+in_ok-left w ↦
          subst (λ (r : Contents × Rights). NotesFollow old r.0.holdings c.args.notes.now c.if-plain.notes) (sym w.left-is)
          (subst (NotesFollow old _ c.args.notes.now) (sym w.notes-is) w.in_ok-left.ensures.noted)
    ])
