-- Several spaces, whose texts were made side by side.
use Rattle.std.proofs.Common.{◌≡◌, ℕ, ◌+◌, ◌-◌, ◌++◌, ◌∙◌, sym, ap, arith, subst, take, drop, flat_map}
use Rattle.std.specs.List.{All, AllZip}
use Rattle.std.specs.Result.{IsOk}
use Rattle.model.specs.Definitions.Holdings.{Holdings}
use Rattle.model.specs.Definitions.Text.{audit_lines}
use Rattle.mapdb.specs.Held.{held_from}
use Rattle.audit.specs.Parts.{left_of}
use Rattle.audit.specs.Sections.{IsTextOf, bytes_in}
use Rattle.audit.proofs.Told.{several}
use Rattle.audit.proofs.Texts.{all_texts, was_ok}
use Rattle.audit.proofs.parts.Report.push_side_by_side.Goals as goal

pub returns-clause-parts : goal.returns-clause-parts
returns-clause-parts g c =
    let r = c.self.inside in
    let held : ℕ → ℕ → Holdings = held_from r.mappings in
    let left = drop r.told r.spaces.items in
    let some = c.at_once-some.result in
    let page : r.page ≡ 0 = omega (arith, c.if-self-ne0.false) in
    let ok = sym c.is_err.ensures.value ∙ c.if-is_err.false in
    let before : c.args.self.now.rest ≡ audit_lines (left_of held left 0) = ap (λ p. p.rest) (sym c.self.view_is) ∙ ap (λ n. audit_lines (left_of held left n)) page in
    let count : r.told + some - r.told ≡ some = omega arith in
    let slice : take (r.told + some - r.told) (drop r.told c.deref-2.result.now) ≡ take some left = λ i. take (count i) (drop r.told (c.deref-2.ensures.value i)) in
    let texts : flat_map bytes_in c.in-Ok.texts.items ≡ audit_lines (flat_map (λ s. held s 0) (take some left)) = all_texts (λ s. held s 0) (take some left) c.in-Ok.texts.items (subst (λ ss. AllZip (λ s t. IsTextOf (held s 0) t) ss c.in-Ok.texts.items) slice c.in-Ok.ensures) (subst (λ ts. All IsOk ts) c.deref-3.ensures.value (was_ok c.push_texts.result ok c.push_texts.ensures.all)) in
    let made : c.push_texts.new.whole.items ≡ flat_map bytes_in c.in-Ok.texts.items =
    was_ok c.push_texts.result ok c.push_texts.ensures.whole ∙ (λ i. (ap (λ p. p.part) c.self.view_is ∙ c.requires) i ++ flat_map bytes_in (c.deref-3.ensures.value i)) in
    let behind : left_of held (drop (r.told + some) r.spaces.items) 0 ≡ left_of held (drop (r.told + some) r.spaces.items) r.page = ap (λ n. left_of held (drop (r.told + some) r.spaces.items) n) (sym page) in
    before ∙ several held r.spaces.items r.told some ∙ (λ i. (sym (made ∙ texts)) i ++ audit_lines (behind i))
