-- Piece by piece.
use Rattle.std.proofs.Common.{rules, tests, ◌≡◌, ◌∙◌, length, nat_lt}
use Rattle.std.specs.List.{list_all}
use Rattle.std.proofs.lemmas.Iterator.{YieldsList-from_slice}
use Rattle.std.proofs.lemmas.Iterator.Search.{all_from_yields_List}
use Rattle.pieces.specs.Phases.{named}
use Rattle.pieces.proofs.ReadyTests.{all_flat}
use Rattle.pieces.proofs.readiness.all_name_words.Goals as goal

pub returns : goal.returns
returns c =
    let each : c.all.result ≡ list_all (λ p. list_all (λ i. nat_lt i (length c.args.words.now)) (named p)) c.args.pieces.now =
    all_from_yields_List _ _ _ c.all.result c.all.ensures.ran (YieldsList-from_slice c.args.pieces.now cc) (λ x b q k. search (rules, tests)) in
    each ∙ all_flat (λ i. nat_lt i (length c.args.words.now)) named c.args.pieces.now
