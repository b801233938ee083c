-- The word of a place has the frame, rights and status of what is held there.
use Rattle.std.proofs.Common.{◌≡◌, sym, ◌∙◌, subst}
use Rattle.std.specs.Option.{option_map}
use Rattle.model.specs.Definitions.Holdings.{at}
use Rattle.holdings.specs.Places.{IsWithin}
use Rattle.holdings.specs.Contents.{Contents, entry_of}
use Rattle.holdings.specs.Inner.Held.{limits_in}
use Rattle.holdings.proofs.Contents.Holders.{entry_within}
use Rattle.holdings.proofs.holdings.Holdings.entry.Goals as goal

pub returns : goal.returns
returns c =
    let h = c.self.inside in
    let p = c.args.place in
    let within = subst (λ (s : Contents). IsWithin s.limits p) (sym c.self.view_is) c.requires in
    subst (λ (s : Contents). c.get.result ≡ option_map entry_of (at s.holdings p)) c.self.view_is
    (c.get.ensures ∙ sym (entry_within (limits_in h.shards h.trees.items) h.shards h.trees.items p within))
