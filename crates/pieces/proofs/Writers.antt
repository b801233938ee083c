-- Steps that write, and steps that add bits.
use Rattle.std.proofs.Common.{◌≡◌, ℕ, zero, suc, Bool, true, false, ◌&&◌, ◌||◌, not, List, [], ◌∷◌, ◌++◌, length, map, Option, Some, None, unwrap_or, bit_or, refl, ap, ◌∙◌, sym, arith, if◌then◌else◌}
use Rattle.std.specs.Prelude.{◌==◌}
use Rattle.std.specs.List.{flat_map, list_all, list_any, zip, All, slice_get}
use Rattle.std.specs.Option.{option_to_list}
use Rattle.std.proofs.lemmas.Bool.{eq-eqb, ne_eqb, true≢false}
use Rattle.std.proofs.lemmas.Grind.{flat_map-append}
use Rattle.std.proofs.lemmas.List.{map-append, append-nil}
use Rattle.fpage.specs.declared.rights.Rights.{Rights}
use Rattle.pieces.specs.Distinct.{is_none_of, are_distinct}
use Rattle.pieces.specs.Effects.{Effect, keeps, adds, writes, gained, written, word_after, write_at, add_at, writes_at, adds_at}
use Rattle.pieces.specs.Contents.{puts_of, ends_of}
use Rattle.pieces.specs.Steps.{Step, narrow, effect, effects, steps, strip_steps, fold_of, status_in, store_step, pair_steps, may_access, access_steps}
use Rattle.pieces.specs.Steps as step
use Rattle.pieces.specs.Phases.{changes, folds, is_touch, IsPiece, CanBeWorked}
use Rattle.pieces.specs.declared.link.Store.{Store}
use Rattle.pieces.specs.declared.moving.Pair.{Pair}
use Rattle.pieces.specs.declared.touch.WordAccess.{WordAccess}
use Rattle.pieces.specs.declared.piece.Piece.{Piece}
use Rattle.pieces.specs.declared.piece.Piece.TheVariants as piece

both : (a b : Bool) → (a && b) ≡ true → (a ≡ true) × (b ≡ true)
both true true h = (refl, refl)
both true false h = absurd (cc)
both false b h = absurd (cc)

-- a number that is none of those at which steps write is not that of one of them
differs : (es : List Effect) (k i j word : ℕ) → is_none_of (writes_at es) j ≡ true → slice_get es k ≡ Some (writes i word) → (i == j) ≡ false
differs [] k i j word none at = absurd (cc)
differs (e ∷ es) zero i j word none at =
    let is : e ≡ writes i word = cc in
    by (i == j) (both (not (i == j)) (is_none_of (writes_at es) j) (rw is at none)).0
  where
    by : (t : Bool) → not t ≡ true → t ≡ false
    by true h = absurd (cc)
    by false h = refl
differs (keeps m ∷ es) (suc k) i j word none at = differs es k i j word none at
differs (adds m bits ∷ es) (suc k) i j word none at = differs es k i j word none at
differs (writes m x ∷ es) (suc k) i j word none at = differs es k i j word (both (not (m == j)) (is_none_of (writes_at es) j) none).1 at

-- what the one step wrote that writes there
written_once : (es : List Effect) → are_distinct (writes_at es) ≡ true → (k i word : ℕ) → slice_get es k ≡ Some (writes i word) → written i es ≡ Some word
written_once [] once k i word at = absurd (cc)
written_once (e ∷ es) once zero i word at = let is : e ≡ writes i word = cc in rw is (ap (λ t. if t then Some word else written i es) (eq-eqb i i refl))
written_once (keeps m ∷ es) once (suc k) i word at = written_once es once k i word at
written_once (adds m bits ∷ es) once (suc k) i word at = written_once es once k i word at
written_once (writes m x ∷ es) once (suc k) i word at =
    let parts = both (is_none_of (writes_at es) m) (are_distinct (writes_at es)) once in
    let apart = differs es k i m word parts.0 at in
    ap (λ t. if t then Some x else written i es) (ne_eqb m i (λ same. true≢false (sym (eq-eqb i m (sym same)) ∙ apart))) ∙ written_once es parts.1 k i word at

pub one_writer : (es : List Effect) → are_distinct (writes_at es) ≡ true → (k i word before : ℕ) → slice_get es k ≡ Some (writes i word) → word_after before i es ≡ word
one_writer es once k i word before at = ap (λ o. unwrap_or o (bit_or before (gained i es))) (written_once es once k i word at)

pub written_none : (es : List Effect) (i : ℕ) → is_none_of (writes_at es) i ≡ true → written i es ≡ None
written_none [] i none = refl
written_none (keeps m ∷ es) i none = written_none es i none
written_none (adds m bits ∷ es) i none = written_none es i none
written_none (writes m x ∷ es) i none = by (m == i) (both (not (m == i)) (is_none_of (writes_at es) i) none) (written_none es i)
  where
    by : (t : Bool) → (not t ≡ true) × (is_none_of (writes_at es) i ≡ true) → (is_none_of (writes_at es) i ≡ true → written i es ≡ None) → (if t then Some x else written i es) ≡ None
    by true h later = let never : not true ≡ true = h.0 in absurd (cc)
    by false h later = later h.1

pub no_writer : (es : List Effect) (i before : ℕ) → is_none_of (writes_at es) i ≡ true → word_after before i es ≡ bit_or before (gained i es)
no_writer es i before none = ap (λ o. unwrap_or o (bit_or before (gained i es))) (written_none es i none)

-- ---- the steps of pieces

-- the indexes of steps of both lists
at_append : (f : Effect → List ℕ) (w : List ℕ) (ss ts : List Step) → flat_map f (map (effect w) (ss ++ ts)) ≡ flat_map f (map (effect w) ss) ++ flat_map f (map (effect w) ts)
at_append f w ss ts = ap (flat_map f) (map-append (effect w) ss ts) ∙ flat_map-append f (map (effect w) ss) (map (effect w) ts)

pub narrows_write : (w is : List ℕ) (masks : List Rights) → length is ≡ length masks → flat_map write_at (map (effect w) (map (λ e. narrow e.0 e.1) (zip is masks))) ≡ is
narrows_write w [] [] same = refl
narrows_write w [] (m ∷ masks) same = refl
narrows_write w (i ∷ is) [] same = absurd (omega (arith, same))
narrows_write w (i ∷ is) (m ∷ masks) same = ap (λ js. i ∷ js) (narrows_write w is masks (omega (arith, same)))

pub narrows_add : (w is : List ℕ) (masks : List Rights) → flat_map add_at (map (effect w) (map (λ e. narrow e.0 e.1) (zip is masks))) ≡ []
narrows_add w [] masks = refl
narrows_add w (i ∷ is) [] = refl
narrows_add w (i ∷ is) (m ∷ masks) = narrows_add w is masks

fold_writes : (w : List ℕ) (f : Option ℕ) (s : Rights) → flat_map write_at (map (effect w) (fold_of f s)) ≡ []
fold_writes w None s = refl
fold_writes w (Some i) s = refl

fold_adds : (w : List ℕ) (f : Option ℕ) (s : Rights) → flat_map add_at (map (effect w) (fold_of f s)) ≡ option_to_list f
fold_adds w None s = refl
fold_adds w (Some i) s = refl

pub links_write : (w : List ℕ) (stores : List Store) → flat_map write_at (map (effect w) (map (store_step w) stores)) ≡ puts_of stores
links_write w [] = refl
links_write w (s ∷ stores) = ap (λ is. s.put ∷ is) (links_write w stores)

pub links_add : (w : List ℕ) (stores : List Store) → flat_map add_at (map (effect w) (map (store_step w) stores)) ≡ []
links_add w [] = refl
links_add w (s ∷ stores) = links_add w stores

pub moves_write : (w : List ℕ) (pairs : List Pair) → flat_map write_at (map (effect w) (flat_map (pair_steps w) pairs)) ≡ ends_of pairs
moves_write w [] = refl
moves_write w (p ∷ pairs) = ap (λ is. p.taken ∷ p.put ∷ is) (moves_write w pairs)

pub moves_add : (w : List ℕ) (pairs : List Pair) → flat_map add_at (map (effect w) (flat_map (pair_steps w) pairs)) ≡ []
moves_add w [] = refl
moves_add w (p ∷ pairs) = moves_add w pairs

one_touch_writes : (w : List ℕ) (t : WordAccess) → flat_map write_at (map (effect w) (access_steps w t)) ≡ []
one_touch_writes w t = by (may_access w t)
  where
    by : (b : Bool) → flat_map write_at (map (effect w) (if b then step.see t.index t.access ∷ step.mark t.index t.access ∷ [] else step.see t.index t.access ∷ [])) ≡ []
    by true = refl
    by false = refl

pub touches_write : (w : List ℕ) (ts : List WordAccess) → flat_map write_at (map (effect w) (flat_map (access_steps w) ts)) ≡ []
touches_write w [] = refl
touches_write w (t ∷ ts) = at_append write_at w (access_steps w t) (flat_map (access_steps w) ts) ∙ ap (λ is. is ++ flat_map write_at (map (effect w) (flat_map (access_steps w) ts))) (one_touch_writes w t) ∙ touches_write w ts

pub piece_writes : (w : List ℕ) (p : Piece) → IsPiece p → writes_at (effects w p) ≡ changes p
piece_writes w (piece.Strip s) is =
    at_append write_at w (map (λ e. narrow e.0 e.1) (zip s.indexes s.masks)) (fold_of s.fold (status_in w s.indexes))
    ∙ ap (λ js. js ++ flat_map write_at (map (effect w) (fold_of s.fold (status_in w s.indexes)))) (narrows_write w s.indexes s.masks (is.indexes ∙ sym is.masks)) ∙ ap (λ js. s.indexes ++ js) (fold_writes w s.fold (status_in w s.indexes))
    ∙ append-nil s.indexes
piece_writes w (piece.Link stores) is = links_write w stores
piece_writes w (piece.Move pairs) is = moves_write w pairs
piece_writes w (piece.Touch list) is = touches_write w list

pub piece_adds : (w : List ℕ) (p : Piece) → is_touch p ≡ false → adds_at (effects w p) ≡ folds p
piece_adds w (piece.Strip s) untouched =
    at_append add_at w (map (λ e. narrow e.0 e.1) (zip s.indexes s.masks)) (fold_of s.fold (status_in w s.indexes))
    ∙ ap (λ js. js ++ flat_map add_at (map (effect w) (fold_of s.fold (status_in w s.indexes)))) (narrows_add w s.indexes s.masks) ∙ fold_adds w s.fold (status_in w s.indexes)
piece_adds w (piece.Link stores) untouched = links_add w stores
piece_adds w (piece.Move pairs) untouched = moves_add w pairs
piece_adds w (piece.Touch list) untouched = absurd (cc)

pub all_write : (w : List ℕ) (ps : List Piece) → All IsPiece ps → writes_at (flat_map (effects w) ps) ≡ flat_map changes ps
all_write w [] each = refl
all_write w (p ∷ ps) each =
    flat_map-append write_at (effects w p) (flat_map (effects w) ps) ∙ ap (λ js. js ++ writes_at (flat_map (effects w) ps)) (piece_writes w p (each 0 p (omega arith)))
    ∙ ap (λ js. changes p ++ js) (all_write w ps (λ k d less. each (suc k) d (omega (arith, less))))

pub all_add : (w : List ℕ) (ps : List Piece) → list_any is_touch ps ≡ false → adds_at (flat_map (effects w) ps) ≡ flat_map folds ps
all_add w [] untouched = refl
all_add w (p ∷ ps) untouched =
    let parts = by (is_touch p) (list_any is_touch ps) untouched in
    flat_map-append add_at (effects w p) (flat_map (effects w) ps) ∙ ap (λ js. js ++ adds_at (flat_map (effects w) ps)) (piece_adds w p parts.0) ∙ ap (λ js. folds p ++ js) (all_add w ps parts.1)
  where
    by : (a b : Bool) → (a || b) ≡ false → (a ≡ false) × (b ≡ false)
    by true b h = absurd (cc)
    by false b h = (refl, h)

-- touches change nothing
pub touches_change : (ps : List Piece) → list_all is_touch ps ≡ true → flat_map changes ps ≡ []
touches_change [] all = refl
touches_change (piece.Strip s ∷ ps) all = absurd (cc)
touches_change (piece.Link stores ∷ ps) all = absurd (cc)
touches_change (piece.Move pairs ∷ ps) all = absurd (cc)
touches_change (piece.Touch list ∷ ps) all = touches_change ps all

pub none_of_none : (js : List ℕ) → list_all (is_none_of []) js ≡ true
none_of_none [] = refl
none_of_none (j ∷ js) = none_of_none js

pub all_apart : (w : List ℕ) (ps : List Piece) → All IsPiece ps → CanBeWorked w ps → (are_distinct (writes_at (flat_map (effects w) ps)) ≡ true) × (list_all (is_none_of (writes_at (flat_map (effects w) ps))) (adds_at (flat_map (effects w) ps)) ≡ true)
all_apart w ps each can = (ap are_distinct (all_write w ps each) ∙ can.distinct, by (list_all is_touch ps) (list_any is_touch ps) refl refl can.alike)
  where
    by : (a b : Bool) → list_all is_touch ps ≡ a → list_any is_touch ps ≡ b → (a || not b) ≡ true → list_all (is_none_of (writes_at (flat_map (effects w) ps))) (adds_at (flat_map (effects w) ps)) ≡ true
    by true b all any h = ap (λ js. list_all (is_none_of js) (adds_at (flat_map (effects w) ps))) (all_write w ps each ∙ touches_change ps all) ∙ none_of_none (adds_at (flat_map (effects w) ps))
    by false true all any h = absurd (cc)
    by false false all any h = ap (λ js. list_all (is_none_of js) (adds_at (flat_map (effects w) ps))) (all_write w ps each) ∙ ap (list_all (is_none_of (flat_map changes ps))) (all_add w ps any) ∙ can.apart
