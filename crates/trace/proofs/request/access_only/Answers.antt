-- A record with another name asks for no access.
use Rattle.std.proofs.Common.{◌≡◌, ◌∷◌, false, Some, codes, rules, sym, ap, ◌∙◌}
use Rattle.std.specs.Str.{bytes_eq}
use Rattle.model.specs.Definitions.Records.{Fields, request}
use Rattle.mapdb.specs.Held.{limits_of}
use Rattle.trace.specs.Unread.{access_in}
use Rattle.trace.proofs.NoAccess.{no_access}
use Rattle.trace.proofs.request.access_only.Goals as goal

pub returns-then-ne-clause-access : goal.returns-then-ne-clause-access
returns-then-ne-clause-access c version =
    let other : bytes_eq c.in_ok-take.field-0.now (codes "access") ≡ false = search rules in
    let taken : c.args.fields.now ≡ c.in_ok-take.field-0.now ∷ c.take.new.self = search rules in
    sym (ap (λ (fs : Fields). access_in (Some (request version (limits_of c.args.limits.now) fs))) taken ∙ no_access version (limits_of c.args.limits.now) c.in_ok-take.field-0.now c.take.new.self other)
