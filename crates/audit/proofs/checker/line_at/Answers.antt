-- The line that a binary search finds.
use Rattle.std.proofs.Common.{◌≡◌, rules}
use Rattle.std.proofs.lemmas.List.Sorted.{answers_always}
use Rattle.space.specs.declared.place.Place.{Place}
use Rattle.mapdb.specs.Held.{Mapping}
use Rattle.audit.proofs.Checks.{blank, searchable, searched_line, absent_line}
use Rattle.audit.proofs.checker.line_at.Goals as goal

pub returns-in_default : goal.returns-in_default
returns-in_default c =
    let key : Mapping → Place = λ l. l.place in
    let found = c.in_default.ensures.position key (answers_always _ (λ a r. r ≡ key a.0.now) _ (λ f a r q k. search rules)) in
    absent_line c.args.lines.now c.args.place c.in_default.field-0 (found (searchable c.args.lines.now c.args.place c.requires))

pub returns : goal.returns
returns c =
    let key : Mapping → Place = λ l. l.place in
    let found = c.in-Ok.ensures.position key (answers_always _ (λ a r. r ≡ key a.0.now) _ (λ f a r q k. search rules)) in
    searched_line c.args.lines.now c.args.place c.in-Ok.i blank c.requires c.in-Ok.ensures.bound (found blank)
