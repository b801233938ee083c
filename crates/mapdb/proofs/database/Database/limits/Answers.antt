-- A database that is halted holds nothing, and nothing is listed.
use Rattle.std.proofs.Common.{◌≡◌, [], None, refl, sym, ap, ◌∙◌, subst}
use Rattle.model.specs.Definitions.Holdings.{Holdings, at}
use Rattle.holdings.specs.Places.{listing}
use Rattle.holdings.specs.Meaning.{limits_of}
use Rattle.holdings.proofs.Contents.Listing.{listing_is}
use Rattle.mapdb.specs.State.{State, state_of}
use Rattle.mapdb.proofs.database.Database.limits.Goals as goal

pub returns-in-None-clause-held : goal.returns-in-None-clause-held
returns-in-None-clause-held c =
    let limits = limits_of c.self.inside.limits in
    let nothing : Holdings = [] in
    let none : state_of limits None ≡ c.args.self.now = sym (ap (state_of limits) c.in-None.is) ∙ c.self.view_is in
    subst (λ (s : State). s.holdings ≡ listing s.limits (at s.holdings)) none
    (sym (listing_is (at nothing) limits nothing refl (λ p _. refl) (λ p _. refl)))
