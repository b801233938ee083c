-- What is asked of the nodes of a strip and of its fold word, of each store, pair and access.
use Rattle.std.proofs.Common.{rules, tests, ◌≡◌, ◌∙◌, ◌&&◌, sym, ap, nat_lt}
use Rattle.std.specs.List.{list_all}
use Rattle.std.specs.Option.{option_to_list}
use Rattle.std.proofs.lemmas.Iterator.{YieldsList-from_slice}
use Rattle.std.proofs.lemmas.Iterator.Search.{all_from_yields_List}
use Rattle.std.proofs.lemmas.List.Folds.{list_all-map, list_all-append}
use Rattle.pieces.specs.Phases.{named}
use Rattle.pieces.specs.declared.link.Store.{Store}
use Rattle.pieces.specs.declared.moving.Pair.{Pair}
use Rattle.pieces.specs.declared.touch.WordAccess.{WordAccess}
use Rattle.pieces.proofs.ReadyTests.{all_twos}
use Rattle.pieces.proofs.readiness.names_words.Goals as goal

pub returns-then-all : goal.returns-then-all
returns-then-all c =
    let nodes : c.all.result ≡ list_all (λ i. nat_lt i c.args.words) c.in-Strip.strip.indexes =
    all_from_yields_List _ _ _ c.all.result c.all.ensures.ran (YieldsList-from_slice c.in-Strip.strip.indexes cc) (λ x b q k. search (rules, tests)) in
    let fold : c.is_none_or.result ≡ list_all (λ i. nat_lt i c.args.words) (option_to_list c.in-Strip.strip.fold) = search rules in
    fold ∙ ap (λ b. b && list_all (λ i. nat_lt i c.args.words) (option_to_list c.in-Strip.strip.fold)) (sym c.if-all.true ∙ nodes)
    ∙ sym (list_all-append (λ i. nat_lt i c.args.words) c.in-Strip.strip.indexes (option_to_list c.in-Strip.strip.fold))
    ∙ ap (λ p. list_all (λ i. nat_lt i c.args.words) (named p)) (sym c.in-Strip.is)

pub returns-in-Link : goal.returns-in-Link
returns-in-Link c =
    let each : c.all-in-Link.result ≡ list_all (λ (s : Store). nat_lt s.read c.args.words && nat_lt s.put c.args.words) c.in-Link.link =
    all_from_yields_List _ _ _ c.all-in-Link.result c.all-in-Link.ensures.ran (YieldsList-from_slice c.in-Link.link cc) (λ x b q k. search (rules, tests)) in
    each ∙ all_twos (λ i. nat_lt i c.args.words) (λ (s : Store). s.read) (λ (s : Store). s.put) c.in-Link.link
    ∙ ap (λ p. list_all (λ i. nat_lt i c.args.words) (named p)) (sym c.in-Link.is)

pub returns-in-Move : goal.returns-in-Move
returns-in-Move c =
    let each : c.all-in-Move.result ≡ list_all (λ (p : Pair). nat_lt p.taken c.args.words && nat_lt p.put c.args.words) c.in-Move.pairs =
    all_from_yields_List _ _ _ c.all-in-Move.result c.all-in-Move.ensures.ran (YieldsList-from_slice c.in-Move.pairs cc) (λ x b q k. search (rules, tests)) in
    each ∙ all_twos (λ i. nat_lt i c.args.words) (λ (p : Pair). p.taken) (λ (p : Pair). p.put) c.in-Move.pairs
    ∙ ap (λ p. list_all (λ i. nat_lt i c.args.words) (named p)) (sym c.in-Move.is)

pub returns-in-Touch : goal.returns-in-Touch
returns-in-Touch c =
    let each : c.all-in-Touch.result ≡ list_all (λ (t : WordAccess). nat_lt t.index c.args.words) c.in-Touch.touch =
    all_from_yields_List _ _ _ c.all-in-Touch.result c.all-in-Touch.ensures.ran (YieldsList-from_slice c.in-Touch.touch cc) (λ x b q k. search (rules, tests)) in
    each ∙ sym (list_all-map (λ i. nat_lt i c.args.words) (λ (t : WordAccess). t.index) c.in-Touch.touch)
    ∙ ap (λ p. list_all (λ i. nat_lt i c.args.words) (named p)) (sym c.in-Touch.is)
