-- What is stripped of the outermost pages is stripped of all. What is noted before pieces are worked is what they change.
use Rattle.std.proofs.Common.{sym, ap, subst}
use Rattle.std.proofs.lemmas.Result.{IfOk-weaker}
use Rattle.model.specs.Definitions.Holdings.{Holdings}
use Rattle.holdings.specs.Contents.{Contents, IsStripped}
use Rattle.holdings.specs.Noting.{NotesFollow}
use Rattle.holdings.specs.Places.{any_of}
use Rattle.holdings.proofs.holdings.Holdings.strip.Goals as goal

pub returns-then-are_stripped_alone-clause-stripped : goal.returns-then-are_stripped_alone-clause-stripped
returns-then-are_stripped_alone-clause-stripped g c = c.in_ok-places.ensures.stand c.args.revoked c.args.flush _ c.in_ok-stripped.ensures.stripped

pub returns-clause-stripped : goal.returns-clause-stripped
returns-clause-stripped g c =
    let old = c.args.self in
    IfOk-weaker c.strip_in_pieces.result (IsStripped old (any_of c.in_ok-places.places.now) c.args.revoked c.args.flush) (IsStripped old (any_of c.args.places.now) c.args.revoked c.args.flush)
    (c.in_ok-places.ensures.stand c.args.revoked c.args.flush) c.strip_in_pieces.ensures.stripped

pub returns-clause-noted : goal.returns-clause-noted
returns-clause-noted g c =
    let old = c.args.self in
    IfOk-weaker c.strip_in_pieces.result (IsStripped old (any_of c.in_ok-places.places.now) c.args.revoked c.args.flush) (λ r. NotesFollow old.holdings r.0.holdings c.args.notes.now c.note_strip.new.notes)
    (λ r is. subst (λ (h : Holdings). NotesFollow old.holdings h c.args.notes.now c.note_strip.new.notes) (sym (ap (λ (k : Contents). k.holdings) is.left)) c.in_ok-note_strip.ensures) c.strip_in_pieces.ensures.stripped
