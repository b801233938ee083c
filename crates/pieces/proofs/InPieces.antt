-- Work in pieces is the work of the whole.
use Rattle.std.proofs.Common.{◌≡◌, ℕ, zero, suc, ◌≤◌, List, [], ◌∷◌, ◌++◌, length, map, take, drop, filter, refl, ap, ◌∙◌, sym, arith}
use Rattle.std.specs.List.{flat_map, zip, All}
use Rattle.std.proofs.lemmas.Grind.{flat_map-append}
use Rattle.std.proofs.lemmas.List.{append-nil, map-append, length-drop, take-append-drop}
use Rattle.std.proofs.lemmas.List.Elements.{filter-append}
use Rattle.fpage.specs.Rights.{join}
use Rattle.fpage.proofs.RightSets.{join_assoc}
use Rattle.space.specs.Slices.{pieces}
use Rattle.space.specs.Entries.{status_of}
use Rattle.pieces.specs.Effects.{words_after}
use Rattle.pieces.specs.Contents.{StripContent, IsStrip, puts_of, ends_of}
use Rattle.pieces.specs.Phases.{changes, held}
use Rattle.pieces.specs.Steps.{effect, effects, store_step, pair_steps, access_steps, may_access, status_in, entry_in}
use Rattle.pieces.specs.Applied.{worked}
use Rattle.pieces.specs.Values.{value, kept_nodes, remains}
use Rattle.pieces.specs.Gathering.{union_of}
use Rattle.pieces.specs.Laws.{joined, joined_strips}
use Rattle.pieces.specs.declared.link.Store.{Store}
use Rattle.pieces.specs.declared.moving.Pair.{Pair}
use Rattle.pieces.specs.declared.touch.WordAccess.{WordAccess}
use Rattle.pieces.specs.declared.piece.Piece.{Piece}
use Rattle.pieces.specs.declared.piece.Piece.TheVariants as piece
use Rattle.pieces.proofs.AllSteps.{worked_all}

-- ---- lists in pieces

module _ {A B : Type 0} where
  -- what is made of lists joined is joined of what is made of each
  pub flat_parts : (f : List A → List B) → f [] ≡ [] → ((xs ys : List A) → f (xs ++ ys) ≡ f xs ++ f ys) → (parts : List (List A)) → flat_map f parts ≡ f (joined parts)
  flat_parts f none joins [] = sym none
  flat_parts f none joins (xs ∷ parts) = ap (λ ys. f xs ++ ys) (flat_parts f none joins parts) ∙ sym (joins xs (joined parts))

  pub flat_of_map : {C : Type 0} (g : C → A) (f : A → List B) (cs : List C) → flat_map f (map g cs) ≡ flat_map (λ c. f (g c)) cs
  flat_of_map g f [] = refl
  flat_of_map g f (c ∷ cs) = ap (λ ys. f (g c) ++ ys) (flat_of_map g f cs)

-- a list in pieces is these joined
pub joined_pieces : {A : Type 0} (n most : ℕ) (xs : List A) → 1 ≤ most → length xs ≤ n → joined (pieces n most xs) ≡ xs
joined_pieces zero most [] some upto = refl
joined_pieces (suc n) most [] some upto = refl
joined_pieces zero most (x ∷ xs) some upto = absurd (omega (arith, upto))
joined_pieces (suc n) most (x ∷ xs) some upto =
    let l = length-drop most (x ∷ xs) in
    ap (λ ys. take most (x ∷ xs) ++ ys) (joined_pieces n most (drop most (x ∷ xs)) some (omega (arith, l, some, upto))) ∙ take-append-drop most (x ∷ xs)

-- pieces whose effects are joined work as one
in_pieces : {A : Type 0} (make : List A → Piece) (w : List ℕ) → effects w (make []) ≡ [] → ((xs ys : List A) → effects w (make (xs ++ ys)) ≡ effects w (make xs) ++ effects w (make ys))
    → (parts : List (List A)) → worked w (map make parts) ≡ worked w (make (joined parts) ∷ [])
in_pieces make w none joins parts =
    worked_all w (map make parts)
    ∙ ap (words_after w) (flat_of_map make (effects w) parts ∙ flat_parts (λ ys. effects w (make ys)) none joins parts ∙ sym (append-nil (effects w (make (joined parts)))))
    ∙ sym (worked_all w (make (joined parts) ∷ []))

pub touches_in_pieces : (w : List ℕ) (parts : List (List WordAccess)) → worked w (map piece.Touch parts) ≡ worked w (piece.Touch (joined parts) ∷ [])
touches_in_pieces w =
    in_pieces piece.Touch w refl (λ xs ys. ap (map (effect w)) (flat_map-append (access_steps w) xs ys) ∙ map-append (effect w) (flat_map (access_steps w) xs) (flat_map (access_steps w) ys))

pub links_in_pieces : (w : List ℕ) (parts : List (List Store)) → worked w (map piece.Link parts) ≡ worked w (piece.Link (joined parts) ∷ [])
links_in_pieces w =
    in_pieces piece.Link w refl (λ xs ys. ap (map (effect w)) (map-append (store_step w) xs ys) ∙ map-append (effect w) (map (store_step w) xs) (map (store_step w) ys))

pub moves_in_pieces : (w : List ℕ) (parts : List (List Pair)) → worked w (map piece.Move parts) ≡ worked w (piece.Move (joined parts) ∷ [])
moves_in_pieces w =
    in_pieces piece.Move w refl (λ xs ys. ap (map (effect w)) (flat_map-append (pair_steps w) xs ys) ∙ map-append (effect w) (flat_map (pair_steps w) xs) (flat_map (pair_steps w) ys))

pub answers_in_pieces : (w : List ℕ) (parts : List (List WordAccess)) → flat_map (λ p. (value w p).answers) (map piece.Touch parts) ≡ map (may_access w) (joined parts)
answers_in_pieces w parts = flat_of_map piece.Touch (λ p. (value w p).answers) parts ∙ flat_parts (map (may_access w)) refl (map-append (may_access w)) parts

-- where lists in pieces change words, and where these hold pages
pub links_change : (parts : List (List Store)) → (flat_map changes (map piece.Link parts) ≡ puts_of (joined parts)) × (flat_map held (map piece.Link parts) ≡ map (λ s. s.read) (joined parts))
links_change parts = (
  flat_of_map piece.Link changes parts ∙ flat_parts puts_of refl (map-append (λ s. s.put)) parts,
  flat_of_map piece.Link held parts ∙ flat_parts (map (λ s. s.read)) refl (map-append (λ s. s.read)) parts,
)

pub moves_change : (parts : List (List Pair)) → (flat_map changes (map piece.Move parts) ≡ ends_of (joined parts)) × (flat_map held (map piece.Move parts) ≡ map (λ p. p.taken) (joined parts))
moves_change parts = (
  flat_of_map piece.Move changes parts ∙ flat_parts ends_of refl (flat_map-append (λ p. p.taken ∷ p.put ∷ [])) parts,
  flat_of_map piece.Move held parts ∙ flat_parts (map (λ p. p.taken)) refl (map-append (λ p. p.taken)) parts,
)

-- ---- strips

pub status_append : (w is js : List ℕ) → status_in w (is ++ js) ≡ join (status_in w is) (status_in w js)
status_append w [] js = refl
status_append w (i ∷ is) js = ap (join (status_of (entry_in w i))) (status_append w is js) ∙ sym (join_assoc (status_of (entry_in w i)) (status_in w is) (status_in w js))

pub status_joined : (w : List ℕ) (ss : List StripContent) → union_of (map (λ s. (value w (piece.Strip s)).status) ss) ≡ status_in w (flat_map (λ s. s.indexes) ss)
status_joined w [] = refl
status_joined w (s ∷ ss) = ap (join (status_in w s.indexes)) (status_joined w ss) ∙ sym (status_append w s.indexes (flat_map (λ (t : StripContent). t.indexes) ss))

pub zip_append : {A B : Type 0} (xs vs : List A) (ys us : List B) → length xs ≡ length ys → zip (xs ++ vs) (ys ++ us) ≡ zip xs ys ++ zip vs us
zip_append [] vs [] us same = refl
zip_append [] vs (y ∷ ys) us same = absurd (omega (arith, same))
zip_append (x ∷ xs) vs [] us same = absurd (omega (arith, same))
zip_append (x ∷ xs) vs (y ∷ ys) us same = ap (λ es. (x, y) ∷ es) (zip_append xs vs ys us (omega (arith, same)))

pub zip_length : {A B : Type 0} (xs : List A) (ys : List B) → length xs ≡ length ys → length (zip xs ys) ≡ length xs
zip_length [] [] same = refl
zip_length [] (y ∷ ys) same = refl
zip_length (x ∷ xs) [] same = absurd (omega (arith, same))
zip_length (x ∷ xs) (y ∷ ys) same = ap suc (zip_length xs ys (omega (arith, same)))

pub kept_joined : (w : List ℕ) (ss : List StripContent) → All IsStrip ss → flat_map (λ s. (value w (piece.Strip s)).kept) ss ≡ kept_nodes w (joined_strips ss)
kept_joined w [] each = refl
kept_joined w (s ∷ ss) each =
    let is : IsStrip s = each 0 s (omega arith) in
    let rest = kept_joined w ss (λ k d less. each (suc k) d (omega (arith, less))) in
    let others = joined_strips ss in
    let inner = zip_append s.indexes others.indexes s.masks others.masks (is.indexes ∙ sym is.masks) in
    let l : length s.nodes ≡ length (zip s.indexes s.masks) = sym is.indexes ∙ sym (zip_length s.indexes s.masks (is.indexes ∙ sym is.masks)) in
    let outer = zip_append s.nodes others.nodes (zip s.indexes s.masks) (zip others.indexes others.masks) l in
    ap (λ ns. kept_nodes w s ++ ns) rest
    ∙ sym (ap (λ es. map (λ e. e.0) (filter (λ e. remains w e.1.0 e.1.1) (zip (s.nodes ++ others.nodes) es))) inner ∙ ap (λ es. map (λ e. e.0) (filter (λ e. remains w e.1.0 e.1.1) es)) outer
    ∙ ap (map (λ e. e.0)) (filter-append (λ e. remains w e.1.0 e.1.1) (zip s.nodes (zip s.indexes s.masks)) (zip others.nodes (zip others.indexes others.masks)))
    ∙ map-append (λ e. e.0) (filter (λ e. remains w e.1.0 e.1.1) (zip s.nodes (zip s.indexes s.masks))) (filter (λ e. remains w e.1.0 e.1.1) (zip others.nodes (zip others.indexes others.masks))))
