-- A transfer whose source is held adds a store; another adds none.
use Rattle.std.proofs.Common.{◌≡◌, ◌∙◌, ◌+◌, ◌<◌, ◌++◌, ◌∷◌, [], Bool, List, ℕ, length, drop, get_or, true, false, sym, ap, subst, IfSome, if◌then◌else◌}
use Rattle.std.proofs.lemmas.List.{append_assoc, drop_more}
use Rattle.std.specs.Option.{is_some}
use Rattle.fpage.specs.declared.rights.Rights.{Rights}
use Rattle.pieces.specs.declared.link.Store.{Store}
use Rattle.space.specs.declared.shards.Shards.{Shards}
use Rattle.space.specs.Shards.{index_of}
use Rattle.holdings.specs.declared.transfer.Transfer.{Transfer}
use Rattle.holdings.specs.Inner.Held.{has_entry}
use Rattle.holdings.specs.Inner.Planning.{store_of, stores_of}
use Rattle.holdings.proofs.map_in_pieces.stores.Goals.{in-Some+in_ok-push, in_default}
use Rattle.holdings.proofs.map_in_pieces.stores.Goals as goal

module _ (s : Shards) (rights : Rights) (ts : List Transfer) (i : ℕ) (d : Transfer) (less : i < length ts) (so_far : List Store) (is : so_far ++ stores_of s rights (drop i ts) ≡ stores_of s rights ts) where
  abbrev t : Transfer
  t = get_or ts i d

  abbrev rest : List Store
  rest = stores_of s rights (drop (i + 1) ts)

  ahead : (b : Bool) → has_entry s t.source ≡ b → so_far ++ (if b then store_of s rights t ∷ rest else rest) ≡ stores_of s rights ts
  ahead b held =
      ap (λ (h : Bool). so_far ++ (if h then store_of s rights t ∷ rest else rest)) (sym held)
      ∙ ap (λ l. so_far ++ stores_of s rights l) (sym (drop_more ts i d less)) ∙ is

  added : has_entry s t.source ≡ true → (so_far ++ store_of s rights t ∷ []) ++ rest ≡ stores_of s rights ts
  added held = append_assoc so_far (store_of s rights t ∷ []) rest ∙ ahead true held

  passed : has_entry s t.source ≡ false → so_far ++ rest ≡ stores_of s rights ts
  passed = ahead false

pub loop-transfer-preserved : goal.loop-transfer-preserved
loop-transfer-preserved c =
    let s = c.args.shards.now in
    let ts = c.args.transfers.now in
    let i = c.loop-transfer.transfer-index in
    let so_far = c.loop-transfer.stores.items in
    let rest = stores_of s c.args.rights (drop (i + 1) ts) in
    let none : Transfer = record { source = record { space = 0; page = 0 }; target = record { space = 0; page = 0 }; extends = false } in
    let held = sym c.held_index.ensures.held in
    elim c.match-held_index.branch [
      | in-Some+in_ok-push w ↦
          let read_is = subst (λ o. IfSome o (λ n. n ≡ index_of s (get_or ts i none).source)) w.in-Some.is c.held_index.ensures.index in
          ap (λ v. v.items ++ rest) w.stores-is
          ∙ ap (λ l. l ++ rest) (w.in_ok-push.ensures.items ∙ (λ j. so_far ++ record { read = read_is j; put = w.index-put.ensures.index j; rights = c.args.rights } ∷ []))
          ∙ added s c.args.rights ts i _ c.loop-transfer-test.true so_far c.loop-transfer.invariant (held ∙ ap is_some w.in-Some.is)
      | in_default w ↦
          ap (λ v. v.items ++ rest) w.stores-is
          ∙ passed s c.args.rights ts i _ c.loop-transfer-test.true so_far c.loop-transfer.invariant (held ∙ ap is_some w.in_default.is)
    ]
