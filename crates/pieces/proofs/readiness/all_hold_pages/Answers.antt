-- Piece by piece.
use Rattle.std.proofs.Common.{rules, tests, ◌≡◌, ◌∙◌, is_some}
use Rattle.std.specs.List.{list_all}
use Rattle.std.proofs.lemmas.Iterator.{YieldsList-from_slice}
use Rattle.std.proofs.lemmas.Iterator.Search.{all_from_yields_List}
use Rattle.pieces.specs.Steps.{entry_in}
use Rattle.pieces.specs.Phases.{held}
use Rattle.pieces.proofs.ReadyTests.{all_flat}
use Rattle.pieces.proofs.readiness.all_hold_pages.Goals as goal

pub returns : goal.returns
returns c =
    let each : c.all.result ≡ list_all (λ p. list_all (λ i. is_some (entry_in c.args.words.now i)) (held p)) c.args.pieces.now =
    all_from_yields_List _ _ _ c.all.result c.all.ensures.ran (YieldsList-from_slice c.args.pieces.now cc) (λ x b q k. search (rules, tests)) in
    each ∙ all_flat (λ i. is_some (entry_in c.args.words.now i)) held c.args.pieces.now
