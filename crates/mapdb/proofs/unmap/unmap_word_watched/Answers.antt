-- The places are those that the word names and that are held.
use Rattle.std.proofs.Common.{◌∙◌, ap, subst}
use Rattle.std.specs.Prelude.{IfOk}
use Rattle.fpage.specs.declared.rights.Rights.{Rights}
use Rattle.model.specs.Definitions.Holdings.{Holdings}
use Rattle.model.specs.Definitions.Strip.{strip}
use Rattle.holdings.specs.Contents.{IsStripped}
use Rattle.holdings.specs.Observing.{IsPhaseOf}
use Rattle.holdings.specs.Places.{any_of}
use Rattle.mapdb.proofs.NamedPlaces.{held_within, named_left, named_stripped}
use Rattle.mapdb.proofs.unmap.unmap_word_watched.Goals as goal

pub strip_watched-requires-clause-within : goal.strip_watched-requires-clause-within
strip_watched-requires-clause-within g c κs within =
    held_within c.args.held c.args.word.now.space c.args.word.now.fpage c.pages.result c.pages.ensures.start c.pages.ensures.end c.in_ok-named.named.places.items c.deref.result.now c.deref.ensures.value c.in_ok-named.ensures.held c.requires.space c.requires.fpage

pub strip_watched-requires-clause-told : goal.strip_watched-requires-clause-told
strip_watched-requires-clause-told g c κs within words pieces is =
    let h = c.args.held in
    let word = c.args.word.now.fpage in
    let left =
    ap (λ (a : Rights). strip h.holdings (any_of c.deref.result.now) a c.args.word.now.flush) c.rights.ensures
    ∙ named_left h c.args.word.now.space word c.pages.result c.pages.ensures.start c.pages.ensures.end c.in_ok-named.named.places.items c.deref.result.now c.deref.ensures.value c.in_ok-named.ensures.held c.held_among.ensures.consistent word.rights c.args.word.now.flush in
    c.requires.told words pieces (subst (λ (k : Holdings). IsPhaseOf h.layout h.holdings k words pieces) left is)

pub returns : goal.returns
returns g c =
    let word = c.args.word.now.fpage in
    named_stripped c.args.held c.args.word.now.space word c.pages.result c.pages.ensures.start c.pages.ensures.end c.in_ok-named.named.places.items c.deref.result.now c.deref.ensures.value c.in_ok-named.ensures.held c.held_among.ensures.consistent word.rights c.args.word.now.flush c.strip_watched.result
    (subst (λ (a : Rights). IfOk c.strip_watched.result (IsStripped c.args.held (any_of c.deref.result.now) a c.args.word.now.flush)) c.rights.ensures c.strip_watched.ensures)
