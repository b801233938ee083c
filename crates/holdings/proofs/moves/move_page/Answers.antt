-- The word of the source is put at the target, and then taken.
use Rattle.std.proofs.Common.{rules, ◌≡◌, Some, ◌∙◌, ap, subst}
use Rattle.std.specs.Option.{option_map}
use Rattle.fpage.specs.declared.rights.Rights.{Rights}
use Rattle.fpage.specs.Rights.{all_rights, no_rights, meet}
use Rattle.space.specs.Entries.{mapped}
use Rattle.space.specs.Shards.{IsSetAt, entry_at}
use Rattle.holdings.proofs.Renamings.MovingWords.{page_moved}
use Rattle.holdings.proofs.moves.move_page.Goals as goal

-- all rights let all through
all_met : (a : Rights) → meet a all_rights ≡ a
all_met a = search rules

pub returns-clause-moved : goal.returns-clause-moved
returns-clause-moved c = λ e is.
    let s = c.args.shards.now in
    let put = c.put_mapped.ensures in
    let moved : option_map (mapped c.all.result) (entry_at s c.args.source) ≡ Some (record { frame = e.frame; rights = e.rights; status = no_rights }) =
    ap (λ through. option_map (mapped through) (entry_at s c.args.source)) c.all.ensures ∙ ap (option_map (mapped all_rights)) is ∙ ap (λ r. Some (record { frame = e.frame; rights = r; status = no_rights })) (all_met e.rights) in
    page_moved s c.put_mapped.new.self c.set.new.self c.args.source c.args.target e c.requires.source c.requires.target c.requires.apart
    (record { set = subst (IsSetAt s c.put_mapped.new.self c.args.target) moved (put.set c.if-not-put_mapped.false); present = put.present; layout = put.layout })
    (record { set = c.set.ensures.set; present = c.set.ensures.present; layout = c.set.ensures.layout })
