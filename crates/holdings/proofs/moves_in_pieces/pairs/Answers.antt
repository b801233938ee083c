-- A transfer whose source is held adds a pair; another adds none.
use Rattle.std.proofs.Common.{◌≡◌, ◌∙◌, ◌+◌, ◌<◌, ◌++◌, ◌∷◌, [], Bool, List, ℕ, length, drop, get_or, true, false, sym, ap, subst, IfSome, if◌then◌else◌}
use Rattle.std.proofs.lemmas.List.{append_assoc, drop_more}
use Rattle.std.specs.Option.{is_some}
use Rattle.pieces.specs.declared.moving.Pair.{Pair}
use Rattle.space.specs.declared.shards.Shards.{Shards}
use Rattle.space.specs.Shards.{index_of}
use Rattle.holdings.specs.declared.transfer.Transfer.{Transfer}
use Rattle.holdings.specs.Inner.Held.{has_entry}
use Rattle.holdings.specs.Inner.Planning.{word_pair, word_pairs}
use Rattle.holdings.proofs.moves_in_pieces.pairs.Goals.{in-Some+in_ok-push, in_default}
use Rattle.holdings.proofs.moves_in_pieces.pairs.Goals as goal

module _ (s : Shards) (ts : List Transfer) (i : ℕ) (d : Transfer) (less : i < length ts) (so_far : List Pair) (is : so_far ++ word_pairs s (drop i ts) ≡ word_pairs s ts) where
  abbrev t : Transfer
  t = get_or ts i d

  abbrev rest : List Pair
  rest = word_pairs s (drop (i + 1) ts)

  ahead : (b : Bool) → has_entry s t.source ≡ b → so_far ++ (if b then word_pair s t ∷ rest else rest) ≡ word_pairs s ts
  ahead b held =
      ap (λ (h : Bool). so_far ++ (if h then word_pair s t ∷ rest else rest)) (sym held)
      ∙ ap (λ l. so_far ++ word_pairs s l) (sym (drop_more ts i d less)) ∙ is

  added : has_entry s t.source ≡ true → (so_far ++ word_pair s t ∷ []) ++ rest ≡ word_pairs s ts
  added held = append_assoc so_far (word_pair s t ∷ []) rest ∙ ahead true held

  passed : has_entry s t.source ≡ false → so_far ++ rest ≡ word_pairs s ts
  passed = ahead false

pub loop-transfer-preserved : goal.loop-transfer-preserved
loop-transfer-preserved c =
    let s = c.args.shards.now in
    let ts = c.args.transfers.now in
    let i = c.loop-transfer.transfer-index in
    let so_far = c.loop-transfer.pairs.items in
    let rest = word_pairs s (drop (i + 1) ts) in
    let none : Transfer = record { source = record { space = 0; page = 0 }; target = record { space = 0; page = 0 }; extends = false } in
    let held = sym c.held_index.ensures.held in
    elim c.match-held_index.branch [
      | in-Some+in_ok-push w ↦
          let taken_is = subst (λ o. IfSome o (λ n. n ≡ index_of s (get_or ts i none).source)) w.in-Some.is c.held_index.ensures.index in
          ap (λ v. v.items ++ rest) w.pairs-is
          ∙ ap (λ l. l ++ rest) (w.in_ok-push.ensures.items ∙ (λ j. so_far ++ record { taken = taken_is j; put = w.index-put.ensures.index j } ∷ []))
          ∙ added s ts i _ c.loop-transfer-test.true so_far c.loop-transfer.invariant (held ∙ ap is_some w.in-Some.is)
      | in_default w ↦
          ap (λ v. v.items ++ rest) w.pairs-is
          ∙ passed s ts i _ c.loop-transfer-test.true so_far c.loop-transfer.invariant (held ∙ ap is_some w.in_default.is)
    ]
