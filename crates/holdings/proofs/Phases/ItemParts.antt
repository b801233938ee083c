-- Pages of an item, part by part.
use Rattle.std.proofs.Common.{◌≡◌, ◌∙◌, ◌++◌, ◌∷◌, [], ℕ, ◌*◌, Bool, List, map, take, drop, true, false, refl, sym, ap, subst, if◌then◌else◌}
use Rattle.std.proofs.lemmas.Grind.{flat_map-append}
use Rattle.std.proofs.lemmas.List.{map-append, take-append-drop}
use Rattle.fpage.specs.declared.rights.Rights.{Rights}
use Rattle.space.specs.declared.shards.Shards.{Shards}
use Rattle.pieces.specs.Contents.{ends_of, puts_of}
use Rattle.pieces.specs.Distinct.{are_distinct}
use Rattle.pieces.specs.DistinctParts.{distinct_split}
use Rattle.pieces.specs.Laws.{joined}
use Rattle.pieces.specs.declared.link.Store.{Store}
use Rattle.pieces.specs.declared.moving.Pair.{Pair}
use Rattle.pieces.specs.declared.piece.Piece.{Piece}
use Rattle.pieces.specs.declared.piece.Piece.TheVariants as piece
use Rattle.holdings.specs.declared.item_batches.Passing.{Passing}
use Rattle.holdings.specs.declared.item_batches.Passing.TheVariants.{Mapped, Moved}
use Rattle.holdings.specs.declared.transfer.Transfer.{Transfer}
use Rattle.holdings.specs.Inner.Held.{has_entry}
use Rattle.holdings.specs.Inner.Phases.{AreItemPieces, AreItemsApart, ArePieces, batch_of}
use Rattle.holdings.specs.Inner.Planning.{store_of, stores_of, word_pair, word_pairs}

-- the stores of transfers, and of others behind them
pub both_stores : (s : Shards) (rights : Rights) (ts us : List Transfer) → stores_of s rights (ts ++ us) ≡ stores_of s rights ts ++ stores_of s rights us
both_stores s rights [] us = refl
both_stores s rights (t ∷ ts) us = by (has_entry s t.source) (both_stores s rights ts us)
  where
    by : (b : Bool) → stores_of s rights (ts ++ us) ≡ stores_of s rights ts ++ stores_of s rights us
        → (if b then store_of s rights t ∷ stores_of s rights (ts ++ us) else stores_of s rights (ts ++ us)) ≡ (if b then store_of s rights t ∷ stores_of s rights ts else stores_of s rights ts) ++ stores_of s rights us
    by false rest = rest
    by true rest = ap (λ xs. store_of s rights t ∷ xs) rest

-- the pairs of transfers, and of others behind them
pub both_pairs : (s : Shards) (ts us : List Transfer) → word_pairs s (ts ++ us) ≡ word_pairs s ts ++ word_pairs s us
both_pairs s [] us = refl
both_pairs s (t ∷ ts) us = by (has_entry s t.source) (both_pairs s ts us)
  where
    by : (b : Bool) → word_pairs s (ts ++ us) ≡ word_pairs s ts ++ word_pairs s us
        → (if b then word_pair s t ∷ word_pairs s (ts ++ us) else word_pairs s (ts ++ us)) ≡ (if b then word_pair s t ∷ word_pairs s ts else word_pairs s ts) ++ word_pairs s us
    by false rest = rest
    by true rest = ap (λ xs. word_pair s t ∷ xs) rest

module _ {A : Type 0} (make : List A → Piece) where
  pub no_pieces : ArePieces make [] []
  no_pieces = record { parts = []; are = refl; joined = refl }

  -- the pieces of a list, and those of another behind them
  pub both_pieces : (xs ys : List A) (ps qs : List Piece) → ArePieces make xs ps → ArePieces make ys qs → ArePieces make (xs ++ ys) (ps ++ qs)
  both_pieces xs ys ps qs p q = record {
    parts = p.parts ++ q.parts;
    are = ap (λ rs. rs ++ qs) p.are ∙ ap (λ rs. map make p.parts ++ rs) q.are ∙ sym (map-append make p.parts q.parts);
    joined = flat_map-append (λ part. part) p.parts q.parts ∙ ap (λ zs. zs ++ joined q.parts) p.joined ∙ ap (λ zs. xs ++ zs) q.joined;
  }

-- none of two parts comes twice
pub stores_apart : (xs ys all : List Store) → all ≡ xs ++ ys → are_distinct (puts_of all) ≡ true → (are_distinct (puts_of xs) ≡ true) × (are_distinct (puts_of ys) ≡ true)
stores_apart xs ys all all_is distinct = distinct_split (puts_of xs) (puts_of ys) (ap are_distinct (sym (map-append (λ x. x.put) xs ys)) ∙ ap (λ zs. are_distinct (puts_of zs)) (sym all_is) ∙ distinct)

pub pairs_apart : (xs ys all : List Pair) → all ≡ xs ++ ys → are_distinct (ends_of all) ≡ true → (are_distinct (ends_of xs) ≡ true) × (are_distinct (ends_of ys) ≡ true)
pairs_apart xs ys all all_is distinct = distinct_split (ends_of xs) (ends_of ys) (ap are_distinct (sym (flat_map-append (λ x. x.taken ∷ x.put ∷ []) xs ys)) ∙ ap (λ zs. are_distinct (ends_of zs)) (sym all_is) ∙ distinct)

-- parts of the pages of an item
pub items_apart : (passing : Passing) (s : Shards) (ts us all : List Transfer) → all ≡ ts ++ us → AreItemsApart passing s all → AreItemsApart passing s ts × AreItemsApart passing s us
items_apart (Mapped rights) s ts us all is apart = stores_apart (stores_of s rights ts) (stores_of s rights us) (stores_of s rights all) (ap (stores_of s rights) is ∙ both_stores s rights ts us) apart
items_apart Moved s ts us all is apart = pairs_apart (word_pairs s ts) (word_pairs s us) (word_pairs s all) (ap (word_pairs s) is ∙ both_pairs s ts us) apart

pub no_items : (passing : Passing) (s : Shards) → AreItemPieces passing s [] []
no_items (Mapped rights) s = no_pieces piece.Link
no_items Moved s = no_pieces piece.Move

pub batch_apart : (passing : Passing) (s : Shards) (ts : List Transfer) (size batch : ℕ) → AreItemsApart passing s ts → AreItemsApart passing s (batch_of size ts batch)
batch_apart passing s ts size batch apart =
    let n : ℕ = size * batch in
    let behind = items_apart passing s (take n ts) (drop n ts) ts (sym (take-append-drop n ts)) apart in
    (items_apart passing s (take size (drop n ts)) (drop size (drop n ts)) (drop n ts) (sym (take-append-drop size (drop n ts))) behind.1).0

-- their pieces, one part after the other
pub items_joined : (passing : Passing) (s : Shards) (ts us : List Transfer) (ps qs : List Piece) → AreItemPieces passing s ts ps → AreItemPieces passing s us qs → AreItemPieces passing s (ts ++ us) (ps ++ qs)
items_joined (Mapped rights) s ts us ps qs p q = subst (λ xs. ArePieces piece.Link xs (ps ++ qs)) (sym (both_stores s rights ts us)) (both_pieces piece.Link (stores_of s rights ts) (stores_of s rights us) ps qs p q)
items_joined Moved s ts us ps qs p q = subst (λ xs. ArePieces piece.Move xs (ps ++ qs)) (sym (both_pairs s ts us)) (both_pieces piece.Move (word_pairs s ts) (word_pairs s us) ps qs p q)
