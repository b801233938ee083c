-- A list in blocks of which one block changes.
use Rattle.std.proofs.Common.{◌≡◌, ℕ, zero, suc, ◌+◌, ◌-◌, ◌<◌, ◌≤◌, List, [], ◌∷◌, ◌++◌, length, take, drop, map, get_or, set, Option, refl, sym, ap, ◌∙◌, arith}
use Rattle.std.specs.Prelude.{insert}
use Rattle.std.proofs.lemmas.List.{append_assoc, append-nil, length-append, take_at, length-take-le, length-drop, set_split, set-append_right, set-append_left, get_or_at, length-set, take-append-drop, drop-drop, drop_at, map-append, take-append-le, take_all, drop_all, drop-take}
use Rattle.std.proofs.lemmas.List.Edits.{insert-append_left, insert-append_right, length-insert, take-paste}
use Rattle.std.proofs.Math.Seq.{paste}
use Rattle.space.specs.declared.node.Node.{Node}
use Rattle.space.specs.declared.place.Place.{Place}
use Rattle.maptree.specs.Renamings.{nodes_renamed}
use Rattle.maptree.specs.Blocks.{nodes_in, IsSeat, split_block}
use Rattle.maptree.proofs.InBlocks.{nodes_of_both, three, before_seat, behind_seat}

-- the first of some from the front
pub first_of : {X : Type 0} (j k : ℕ) (xs : List X) → j ≤ k → take j (take k xs) ≡ take j xs
first_of zero k xs less = refl
first_of (suc j) zero xs less = absurd (omega (arith, less))
first_of (suc j) (suc k) [] less = refl
first_of (suc j) (suc k) (x ∷ xs) less = ap (λ l. x ∷ l) (first_of j k xs (omega (arith, less)))

module _ (bs : List (List Node)) (k : ℕ) where
  -- another block in the place of one
  pub three_set : (b : List Node) → k < length bs → nodes_in (set bs k b) ≡ nodes_in (take k bs) ++ (b ++ nodes_in (drop (k + 1) bs))
  three_set b within =
      let one : suc k ≡ k + 1 = omega arith in
      ap nodes_in (set_split bs k b within) ∙ nodes_of_both (take k bs) (b ∷ drop (suc k) bs) ∙ ap (λ n. nodes_in (take k bs) ++ (b ++ nodes_in (drop n bs))) one

  pub count_set : (b : List Node) → k < length bs → length (nodes_in (set bs k b)) + length (get_or bs k []) ≡ length (nodes_in bs) + length b
  count_set b within =
      let front = nodes_in (take k bs) in
      let rest = nodes_in (drop (k + 1) bs) in
      let new = ap length (three_set b within) in
      let new_1 = length-append front (b ++ rest) in
      let new_2 = length-append b rest in
      let old = ap length (three bs k within) in
      let old_1 = length-append front (get_or bs k [] ++ rest) in
      let old_2 = length-append (get_or bs k []) rest in
      omega (arith, new, new_1, new_2, old, old_1, old_2)

  -- another node in the place of one
  pub set_node : (b : List Node) (off : ℕ) (n : Node) → k < length bs → b ≡ get_or bs k [] → off < length b → nodes_in (set bs k (set b off n)) ≡ set (nodes_in bs) (length (nodes_in (take k bs)) + off) n
  set_node b off n within read inside =
      let front = nodes_in (take k bs) in
      let rest = nodes_in (drop (k + 1) bs) in
      let less : length front + off - length front ≡ off = omega arith in
      three_set (set b off n) within
      ∙ ap (λ x. front ++ x) (sym (set-append_left b rest off n inside))
      ∙ ap (λ i. front ++ set (b ++ rest) i n) (sym less)
      ∙ sym (set-append_right front (b ++ rest) (length front) (length front + off) n refl (omega arith))
      ∙ ap (λ x. set (front ++ (x ++ rest)) (length front + off) n) read
      ∙ ap (λ l. set l (length front + off) n) (sym (three bs k within))

  -- one node more
  pub insert_node : (b : List Node) (off : ℕ) (n : Node) → k < length bs → b ≡ get_or bs k [] → off ≤ length b → nodes_in (set bs k (insert b off n)) ≡ insert (nodes_in bs) (length (nodes_in (take k bs)) + off) n
  insert_node b off n within read inside =
      let front = nodes_in (take k bs) in
      let rest = nodes_in (drop (k + 1) bs) in
      let less : length front + off - length front ≡ off = omega arith in
      three_set (insert b off n) within
      ∙ ap (λ x. front ++ x) (sym (insert-append_left b rest off n inside))
      ∙ ap (λ i. front ++ insert (b ++ rest) i n) (sym less)
      ∙ sym (insert-append_right front (b ++ rest) (length front) (length front + off) n refl (omega arith))
      ∙ ap (λ x. insert (front ++ (x ++ rest)) (length front + off) n) read
      ∙ ap (λ l. insert l (length front + off) n) (sym (three bs k within))

  -- fewer nodes
  pub cut_nodes : (from to : ℕ) → k < length bs → from ≤ to → to ≤ length (get_or bs k [])
      → nodes_in (set bs k (take from (get_or bs k []) ++ drop to (get_or bs k []))) ≡ take (length (nodes_in (take k bs)) + from) (nodes_in bs) ++ drop (length (nodes_in (take k bs)) + to) (nodes_in bs)
  cut_nodes from to within rising inside =
      let front = nodes_in (take k bs) in
      let rest = nodes_in (drop (k + 1) bs) in
      let b = get_or bs k [] in
      three_set (take from b ++ drop to b) within
      ∙ ap (λ x. front ++ x) (append_assoc (take from b) (drop to b) rest)
      ∙ sym (append_assoc front (take from b) (drop to b ++ rest))
      ∙ ap (λ x. x ++ (drop to b ++ rest)) (sym (before_seat bs k from within (omega (arith, rising, inside))))
      ∙ ap (λ x. take (length front + from) (nodes_in bs) ++ x) (sym (behind_seat bs k to within inside))

  -- a block in two
  halves : (at : ℕ) → k < length bs → split_block at bs k ≡ take k bs ++ take at (get_or bs k []) ∷ drop at (get_or bs k []) ∷ drop (suc k) bs
  halves at within =
      let x = take at (get_or bs k []) in
      let y = drop at (get_or bs k []) in
      let size = length-take-le k bs (omega (arith, within)) in
      let one : k + 1 - k ≡ 1 = omega arith in
      ap (λ l. insert l (k + 1) y) (set_split bs k x within)
      ∙ insert-append_right (take k bs) (x ∷ drop (suc k) bs) k (k + 1) y size (omega arith)
      ∙ ap (λ i. take k bs ++ insert (x ∷ drop (suc k) bs) i y) one

  pub split_nodes : (at : ℕ) → k < length bs → nodes_in (split_block at bs k) ≡ nodes_in bs
  split_nodes at within =
      let x = take at (get_or bs k []) in
      let y = drop at (get_or bs k []) in
      let one : suc k ≡ k + 1 = omega arith in
      ap nodes_in (halves at within) ∙ nodes_of_both (take k bs) (x ∷ y ∷ drop (suc k) bs)
      ∙ ap (λ l. nodes_in (take k bs) ++ l) (sym (append_assoc x y (nodes_in (drop (suc k) bs))) ∙ ap (λ b. b ++ nodes_in (drop (suc k) bs)) (take-append-drop at (get_or bs k [])) ∙ ap (λ n. get_or bs k [] ++ nodes_in (drop n bs)) one)
      ∙ sym (three bs k within)

  pub split_length : (at : ℕ) → k < length bs → length (split_block at bs k) ≡ length bs + 1
  split_length at within =
      let size = length-set bs k (take at (get_or bs k [])) in
      length-insert (set bs k (take at (get_or bs k []))) (k + 1) (drop at (get_or bs k [])) (omega (arith, size, within)) ∙ omega (arith, size)

  -- a seat in the first half
  pub first_half : (at i off : ℕ) → 0 < at → at < 128 → IsSeat bs i (record { block = k; offset = off }) → length (get_or bs k []) ≡ 128 → off ≤ at
      → IsSeat (split_block at bs k) i (record { block = k; offset = off }) × (length (get_or (split_block at bs k) k []) < 128)
  first_half at i off some less is full low =
      let within = is.within in
      let b = get_or bs k [] in
      let size = length-take-le k bs (omega (arith, within)) in
      let more = split_length at within in
      let here : get_or (split_block at bs k) k [] ≡ take at b = ap (λ l. get_or l k []) (halves at within) ∙ get_or_at (take k bs) (take at b) (drop at b ∷ drop (suc k) bs) [] k size in
      let front : take k (split_block at bs k) ≡ take k bs = ap (take k) (halves at within) ∙ take_at (take k bs) (take at b ∷ drop at b ∷ drop (suc k) bs) k size in
      let half = length-take-le at b (omega (arith, full, less)) in
      let count = ap length here in
      let before = is.before in
      let same = ap (λ l. length (nodes_in l)) front in
      (record { within = omega (arith, within, more); upto = omega (arith, count, half, low); before = omega (arith, same, before) }, omega (arith, count, half, less))

  -- a seat in the second half
  pub second_half : (at i off : ℕ) → 0 < at → at < 128 → IsSeat bs i (record { block = k; offset = off }) → length (get_or bs k []) ≡ 128 → at < off
      → IsSeat (split_block at bs k) i (record { block = k + 1; offset = off - at }) × (length (get_or (split_block at bs k) (k + 1) []) < 128)
  second_half at i off some less is full high =
      let within = is.within in
      let upto = is.upto in
      let b = get_or bs k [] in
      let x = take at b in
      let y = drop at b in
      let size = length-take-le k bs (omega (arith, within)) in
      let more = split_length at within in
      let shape : split_block at bs k ≡ (take k bs ++ x ∷ []) ++ y ∷ drop (suc k) bs = halves at within ∙ sym (append_assoc (take k bs) (x ∷ []) (y ∷ drop (suc k) bs)) in
      let next : length (take k bs ++ x ∷ []) ≡ k + 1 = let e = length-append (take k bs) (x ∷ []) in omega (arith, e, size) in
      let here : get_or (split_block at bs k) (k + 1) [] ≡ y = ap (λ l. get_or l (k + 1) []) shape ∙ get_or_at (take k bs ++ x ∷ []) y (drop (suc k) bs) [] (k + 1) next in
      let front : take (k + 1) (split_block at bs k) ≡ take k bs ++ x ∷ [] = ap (take (k + 1)) shape ∙ take_at (take k bs ++ x ∷ []) (y ∷ drop (suc k) bs) (k + 1) next in
      let half = length-take-le at b (omega (arith, full, less)) in
      let rest = length-drop at b in
      let count = ap length here in
      let before = is.before in
      let same : length (nodes_in (take (k + 1) (split_block at bs k))) ≡ length (nodes_in (take k bs)) + at =
      ap (λ l. length (nodes_in l)) front ∙ ap length (nodes_of_both (take k bs) (x ∷ [])) ∙ length-append (nodes_in (take k bs)) (nodes_in (x ∷ []))
      ∙ ap (λ l. length (nodes_in (take k bs)) + length l) (append-nil x) ∙ ap (λ n. length (nodes_in (take k bs)) + n) half in
      (record { within = omega (arith, within, more); upto = omega (arith, count, rest, full, upto, high); before = omega (arith, same, before, high) }, omega (arith, count, rest, full, some))

-- ---- nodes taken out in steps

module _ (ns : List Node) (from to left : ℕ) (rising : from ≤ to) (within : to ≤ length ns) (upto : left ≤ to - from) where
  -- so many are left
  pub count_left : length (take from ns ++ drop (to - left) ns) ≡ from + (length ns - (to - left))
  count_left =
      let both = length-append (take from ns) (drop (to - left) ns) in
      let front = length-take-le from ns (omega (arith, rising, within)) in
      let back = length-drop (to - left) ns in
      omega (arith, both, front, back)

  -- and some more are taken
  pub removed_more : (now : List Node) (taken : ℕ) → now ≡ take from ns ++ drop (to - left) ns → taken ≤ left → take from now ++ drop (from + taken) now ≡ take from ns ++ drop (to - (left - taken)) ns
  removed_more now taken is less =
      let front = length-take-le from ns (omega (arith, rising, within)) in
      let next : to - left + taken ≡ to - (left - taken) = omega (arith, rising, upto, less) in
      ap (λ l. take from l ++ drop (from + taken) l) is
      ∙ ap (λ l. l ++ drop (from + taken) (take from ns ++ drop (to - left) ns)) (take_at (take from ns) (drop (to - left) ns) from front)
      ∙ ap (λ l. take from ns ++ l) (sym (drop-drop taken from (take from ns ++ drop (to - left) ns)) ∙ ap (drop taken) (drop_at (take from ns) (drop (to - left) ns) from front) ∙ drop-drop taken (to - left) ns ∙ ap (λ n. drop n ns) next)

-- ---- one after another

-- one more has changed
pub mapped_more : {X : Type 0} (f : X → X) (xs : List X) (i : ℕ) (d : X) → i < length xs → set (map f (take i xs) ++ drop i xs) i (f (get_or xs i d)) ≡ map f (take (suc i) xs) ++ drop (suc i) xs
mapped_more f [] i d within = absurd (omega (arith, within))
mapped_more f (x ∷ xs) zero d within = refl
mapped_more f (x ∷ xs) (suc i) d within = ap (λ l. f x ∷ l) (mapped_more f xs i d (omega (arith, within)))

-- those to come are as they were
pub to_come : {X : Type 0} (f : X → X) (xs : List X) (i : ℕ) (d : X) → i < length xs → get_or (map f (take i xs) ++ drop i xs) i d ≡ get_or xs i d
to_come f [] i d within = absurd (omega (arith, within))
to_come f (x ∷ xs) zero d within = refl
to_come f (x ∷ xs) (suc i) d within = to_come f xs i d (omega (arith, within))

-- all blocks with their places replaced
pub renamed_in : (new : Place → Option Place) (bs : List (List Node)) → nodes_in (map (nodes_renamed new) bs) ≡ nodes_renamed new (nodes_in bs)
renamed_in new [] = refl
renamed_in new (b ∷ bs) = ap (λ l. nodes_renamed new b ++ l) (renamed_in new bs) ∙ sym (map-append _ b (nodes_in bs))

-- some more of a list
pub take_on : {X : Type 0} (n m : ℕ) (xs : List X) → take n xs ++ take m (drop n xs) ≡ take (n + m) xs
take_on zero m xs = let none : m ≡ 0 + m = omega arith in ap (λ k. take k xs) none
take_on (suc n) zero [] = sym (take_all (suc n + 0) [] (omega arith))
take_on (suc n) (suc m) [] = sym (take_all (suc n + suc m) [] (omega arith))
take_on (suc n) m (x ∷ xs) = let one : suc (n + m) ≡ suc n + m = omega arith in ap (λ l. x ∷ l) (take_on n m xs) ∙ ap (λ k. take k (x ∷ xs)) one

-- some nodes from a seat on
pub some_behind : (bs : List (List Node)) (k off n : ℕ) → k < length bs → off ≤ length (get_or bs k []) → n ≤ length (drop off (get_or bs k [])) → take n (drop (length (nodes_in (take k bs)) + off) (nodes_in bs)) ≡ take n (drop off (get_or bs k []))
some_behind bs k off n within inside less = ap (take n) (behind_seat bs k off within inside) ∙ take-append-le n (drop off (get_or bs k [])) (nodes_in (drop (k + 1) bs)) less

-- what stands behind a gap is moved down into it
pub closed : (ns : List Node) (from to len : ℕ) → from ≤ to → to ≤ length ns → len ≡ length ns → take (from + (len - to)) (paste ns from (drop to ns) (len - to)) ≡ take from ns ++ drop to ns
closed ns from to len rises within is_len =
    let rest = length-drop to ns in
    take-paste ns from (drop to ns) (len - to) (omega (arith, rises, within)) (omega (arith, rest, is_len)) ∙ ap (λ l. take from ns ++ l) (take_all (len - to) (drop to ns) (omega (arith, rest, is_len)))

-- a node that is put between others, which move up by one
pub shifted_in : (ns : List Node) (i : ℕ) (n : Node) (next : List Node) → i < length ns → next ≡ paste ns (i + 1) (drop i ns) (length ns - 1 - i) → set next i n ≡ insert (take (length ns - 1) ns) i n
shifted_in ns i n next within is =
    let m = length ns - 1 - i in
    let moved = take m (drop i ns) in
    let first = length-take-le (i + 1) ns (omega (arith, within)) in
    let one : suc i ≡ i + 1 = omega arith in
    let all : i + 1 + m ≡ length ns = omega (arith, within) in
    let whole : i + m ≡ length ns - 1 = omega (arith, within) in
    let rest : drop (i + 1 + m) ns ≡ [] = ap (λ k. drop k ns) all ∙ drop_all (length ns) ns (omega arith) in
    let shape : next ≡ take (i + 1) ns ++ moved = is ∙ ap (λ l. (take (i + 1) ns ++ moved) ++ l) rest ∙ append-nil (take (i + 1) ns ++ moved) in
    let longer = ap length shape ∙ length-append (take (i + 1) ns) moved in
    let front : take i next ≡ take i (take (length ns - 1) ns) =
    ap (take i) shape ∙ take-append-le i (take (i + 1) ns) moved (omega (arith, first)) ∙ first_of i (i + 1) ns (omega arith) ∙ sym (first_of i (length ns - 1) ns (omega (arith, within))) in
    let back : drop (suc i) next ≡ drop i (take (length ns - 1) ns) =
    ap (λ k. drop k next) one ∙ ap (drop (i + 1)) shape ∙ drop_at (take (i + 1) ns) moved (i + 1) first ∙ sym (drop-take i m ns) ∙ ap (λ k. drop i (take k ns)) whole in
    set_split next i n (omega (arith, longer, first)) ∙ ap (λ l. l ++ n ∷ drop (suc i) next) front ∙ ap (λ l. take i (take (length ns - 1) ns) ++ n ∷ l) back

-- all but the last that was put behind
pub but_last : (ns now : List Node) (n : Node) → now ≡ ns ++ n ∷ [] → take (length now - 1) now ≡ ns
but_last ns now n is =
    let longer = ap length is ∙ length-append ns (n ∷ []) in
    let count : length now - 1 ≡ length ns = omega (arith, longer) in
    ap (λ k. take k now) count ∙ ap (take (length ns)) is ∙ take_at ns (n ∷ []) (length ns) refl
