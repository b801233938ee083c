use Rattle.std.proofs.Common.{◌≡◌, ◌++◌, true, ap, ◌∙◌, sym}
use Rattle.std.proofs.lemmas.Bool.{eqb-true}
use Rattle.std.specs.List.{list_all}
use Rattle.pieces.specs.Distinct.{is_none_of, are_distinct}
use Rattle.turns.proofs.Rising.{distinct_behind, distinct_one}
use Rattle.turns.proofs.sharing.listed_indexes.Goals.{then-is_empty+in_ok-push, else-is_empty}
use Rattle.turns.proofs.sharing.listed_indexes.Goals as goal

pub returns-clause-distinct : goal.returns-clause-distinct
returns-clause-distinct c =
    let own : are_distinct c.in_ok-at.at.items ≡ true = ap are_distinct c.in_ok-at.ensures ∙ c.requires.distinct in
    let apart : list_all (is_none_of c.in_ok-at.at.items) c.in_ok-common_indexes.field-0.items ≡ true =
    ap (λ is. list_all (is_none_of is) c.in_ok-common_indexes.field-0.items) c.in_ok-at.ensures ∙ ap (list_all (is_none_of _)) c.in_ok-common_indexes.ensures ∙ c.requires.apart in
    let both : are_distinct c.extend_from_slice.new.self.items ≡ true =
    ap are_distinct (c.in_ok-extend_from_slice.ensures.items ∙ ap (λ is. c.in_ok-at.at.items ++ is) c.deref.ensures.value)
    ∙ distinct_behind c.in_ok-at.at.items c.rising-common.result.items own c.rising-common.ensures.distinct (c.rising-common.ensures.kept (is_none_of c.in_ok-at.at.items) apart) in
    elim c.if-is_empty.branch [
      | then-is_empty+in_ok-push w ↦ ap (λ v. are_distinct v.items) w.at-is ∙ ap are_distinct w.in_ok-push.ensures.items
          ∙ distinct_one c.extend_from_slice.new.self.items 0 both (sym c.extend_from_slice.new.self.ok.0 ∙ eqb-true _ 0 (sym c.is_empty.ensures ∙ w.if-is_empty.true))
      | else-is_empty w ↦ ap (λ v. are_distinct v.items) w.at-is ∙ both
    ]
