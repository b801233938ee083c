-- Each text is that of its space.
use Rattle.std.proofs.Common.{ap, ◌∙◌, subst}
use Rattle.std.specs.List.{AllZip}
use Rattle.rayon.proofs.ListFacts.{IfOk-then}
use Rattle.rayon.proofs.ToStd.{slice-AllZip}
use Rattle.mapdb.specs.Held.{held_from}
use Rattle.audit.specs.Sections.{IsTextOf}
use Rattle.audit.proofs.parts.space_texts.Goals as goal

pub returns : goal.returns
returns g c =
    let slice = ap (λ it. it.base.slice.now) c.with_min_len.ensures.base ∙ ap (λ it. it.slice.now) c.map.ensures.base ∙ c.par_iter.ensures in
    IfOk-then c.collect.result _ _ c.collect.ensures (λ v h.
    let chain = h.1 in
    let f = ap (λ it. it.f) c.with_min_len.ensures.base ∙ c.map.ensures.f in
    rw h.2 (slice-AllZip chain.0 c.args.spaces.now (chain.1 ∙ slice) (λ space text. IsTextOf (held_from c.args.mappings.now space 0) text) h.0
    (subst (λ k. AllZip (λ space text. IsTextOf (held_from k.1.now space.now 0) text) chain.0 h.0) f chain.2)))
