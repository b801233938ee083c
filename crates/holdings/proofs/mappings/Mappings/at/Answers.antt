-- Its word says what a page holds.
use Rattle.std.proofs.Common.{◌∙◌, ap, sym, subst}
use Rattle.std.specs.Option.{option_map}
use Rattle.model.specs.Definitions.Holdings.{at}
use Rattle.holdings.specs.Mappings.{mapped_of}
use Rattle.holdings.specs.Places.{IsWithin}
use Rattle.holdings.specs.Contents.{Contents, entry_of}
use Rattle.holdings.specs.Inner.Held.{limits_in}
use Rattle.holdings.proofs.Contents.Holders.{absent_within, entry_within}
use Rattle.holdings.proofs.mappings.Mappings.at.Goals as goal

pub returns-in_err-entry-clause-held : goal.returns-in_err-entry-clause-held
returns-in_err-entry-clause-held c =
    let s = c.self.inside.shards.now in
    let trees = c.self.inside.trees.now in
    let p = c.args.place in
    let within = subst (λ (h : Contents). IsWithin h.limits p) (sym c.self.view_is) c.requires in
    let absent = absent_within (limits_in s trees) s trees p within (sym c.get.ensures ∙ c.in_err-entry.was) in
    ap (option_map (λ m. (mapped_of m).1)) c.from_residual.ensures ∙ sym absent ∙ ap (λ (h : Contents). at h.holdings p) c.self.view_is

pub mapping-requires-clause-held : goal.mapping-requires-clause-held
mapping-requires-clause-held c =
    let s = c.self.inside.shards.now in
    let trees = c.self.inside.trees.now in
    let p = c.args.place in
    let within = subst (λ (h : Contents). IsWithin h.limits p) (sym c.self.view_is) c.requires in
    ap (λ (h : Contents). option_map entry_of (at h.holdings p)) (sym c.self.view_is) ∙ entry_within (limits_in s trees) s trees p within ∙ sym c.get.ensures ∙ c.in_ok-entry.was
