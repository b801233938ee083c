-- What is asked of each store, and of each pair.
use Rattle.std.proofs.Common.{rules, tests, ◌≡◌, ◌∙◌, sym, ap, is_some}
use Rattle.std.specs.List.{list_all}
use Rattle.std.proofs.lemmas.Iterator.{YieldsList-from_slice}
use Rattle.std.proofs.lemmas.Iterator.Search.{all_from_yields_List}
use Rattle.std.proofs.lemmas.List.Folds.{list_all-map}
use Rattle.pieces.specs.Steps.{entry_in}
use Rattle.pieces.specs.Phases.{held}
use Rattle.pieces.specs.declared.link.Store.{Store}
use Rattle.pieces.specs.declared.moving.Pair.{Pair}
use Rattle.pieces.proofs.readiness.holds_pages.Goals as goal

pub returns-in-Link : goal.returns-in-Link
returns-in-Link c =
    let each : c.all.result ≡ list_all (λ (s : Store). is_some (entry_in c.args.words.now s.read)) c.in-Link.link =
    all_from_yields_List _ _ _ c.all.result c.all.ensures.ran (YieldsList-from_slice c.in-Link.link cc) (λ x b q k. search (rules, tests)) in
    each ∙ sym (list_all-map (λ i. is_some (entry_in c.args.words.now i)) (λ (s : Store). s.read) c.in-Link.link)
    ∙ ap (λ p. list_all (λ i. is_some (entry_in c.args.words.now i)) (held p)) (sym c.in-Link.is)

pub returns-in-Move : goal.returns-in-Move
returns-in-Move c =
    let each : c.all-in-Move.result ≡ list_all (λ (p : Pair). is_some (entry_in c.args.words.now p.taken)) c.in-Move.pairs =
    all_from_yields_List _ _ _ c.all-in-Move.result c.all-in-Move.ensures.ran (YieldsList-from_slice c.in-Move.pairs cc) (λ x b q k. search (rules, tests)) in
    each ∙ sym (list_all-map (λ i. is_some (entry_in c.args.words.now i)) (λ (p : Pair). p.taken) c.in-Move.pairs)
    ∙ ap (λ p. list_all (λ i. is_some (entry_in c.args.words.now i)) (held p)) (sym c.in-Move.is)
