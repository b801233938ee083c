-- Pieces one after another.
use Rattle.std.proofs.Common.{◌≡◌, ℕ, zero, suc, Bool, true, false, ◌&&◌, ◌||◌, not, List, [], ◌∷◌, ◌++◌, length, map, filter, get_or, Option, Some, None, option_map, is_some, refl, ap, ◌∙◌, sym, subst, arith, cond, if◌then◌else◌}
use Rattle.std.specs.Prelude.{◌==◌, nat_lt}
use Rattle.std.specs.List.{flat_map, list_all, list_any, zip, All, AllPass}
use Rattle.std.specs.Option.{option_map_or}
use Rattle.std.proofs.lemmas.Bool.{eqb-true, eq-eqb}
use Rattle.std.proofs.lemmas.Grind.{flat_map-append}
use Rattle.std.proofs.lemmas.List.{map-append}
use Rattle.fpage.specs.Rights.{has, join}
use Rattle.fpage.specs.declared.rights.Access.{Access}
use Rattle.fpage.specs.declared.rights.Rights.{Rights}
use Rattle.space.specs.declared.node.Node.{Node}
use Rattle.space.specs.declared.place.Entry.{Entry}
use Rattle.space.specs.Entries.{status_of}
use Rattle.space.specs.Word.{is_pack, entry_of}
use Rattle.pieces.specs.Distinct.{is_none_of, are_distinct}
use Rattle.pieces.specs.DistinctParts.{all_split, distinct_split}
use Rattle.pieces.specs.Effects.{words_after, writes_at, adds_at}
use Rattle.pieces.specs.Contents.{puts_of, ends_of}
use Rattle.pieces.specs.Steps.{Step, narrow, effect, effects, fold_of, status_in, entry_in, linked, store_step, without_status, pair_steps, may_access, access_steps}
use Rattle.pieces.specs.Steps as step
use Rattle.pieces.specs.Phases.{changes, folds, named, held, is_touch, is_link, are_alike, IsPiece, CanBeWorked}
use Rattle.pieces.specs.Applied.{worked}
use Rattle.pieces.specs.Values.{value, remains}
use Rattle.pieces.specs.Laws.{spare_held}
use Rattle.pieces.specs.declared.link.Store.{Store}
use Rattle.pieces.specs.declared.moving.Pair.{Pair}
use Rattle.pieces.specs.declared.touch.WordAccess.{WordAccess}
use Rattle.pieces.specs.declared.piece.Piece.{Piece}
use Rattle.pieces.specs.declared.piece.Piece.TheVariants as piece
use Rattle.pieces.proofs.AllSteps.{length_words, worked_all}
use Rattle.pieces.proofs.InTurn.{steps_in_turn, all_weaker}
use Rattle.pieces.proofs.Packs.{AllSuit, page, page_of, pieces_suit, packs_after_steps, same_page_after, same_word_after}
use Rattle.pieces.proofs.Writers.{all_write, all_add, all_apart, touches_change, none_of_none}

both : (a b : Bool) → (a && b) ≡ true → (a ≡ true) × (b ≡ true)
both true true h = (refl, refl)
both true false h = absurd (cc)
both false b h = absurd (cc)

-- ---- lists apart

pub eqb_turned : (a b : ℕ) → (a == b) ≡ (b == a)
eqb_turned a b = by (a == b) refl (b == a) refl
  where
    by : (s : Bool) → (a == b) ≡ s → (t : Bool) → (b == a) ≡ t → s ≡ t
    by true p true q = refl
    by true p false q = absurd (let same = eqb-true a b p in let other : (b == a) ≡ true = eq-eqb b a (sym same) in cc)
    by false p true q = absurd (let same = eqb-true b a q in let other : (a == b) ≡ true = eq-eqb a b (sym same) in cc)
    by false p false q = refl

-- one more number that none of a list is
one_more : (j : ℕ) (js is : List ℕ) → is_none_of is j ≡ true → list_all (is_none_of js) is ≡ true → list_all (is_none_of (j ∷ js)) is ≡ true
one_more j js [] none all = refl
one_more j js (i ∷ is) none all =
    let here = both (not (i == j)) (is_none_of is j) none in
    let rest = both (is_none_of js i) (list_all (is_none_of js) is) all in
    rw (ap not (eqb_turned j i) ∙ here.0, rest.0) (one_more j js is here.1 rest.1)

pub apart_turned : (is js : List ℕ) → list_all (is_none_of is) js ≡ true → list_all (is_none_of js) is ≡ true
apart_turned is [] all = none_of_none is
apart_turned is (j ∷ js) all = let parts = both (is_none_of is j) (list_all (is_none_of is) js) all in one_more j js is parts.0 (apart_turned is js parts.1)

pub distinct_apart : (is js : List ℕ) → are_distinct (is ++ js) ≡ true → list_all (is_none_of is) js ≡ true
distinct_apart [] js once = none_of_none js
distinct_apart (i ∷ is) js once =
    let parts = both (is_none_of (is ++ js) i) (are_distinct (is ++ js)) once in one_more i is js (all_split (λ j. not (j == i)) is js parts.0).1 (distinct_apart is js parts.1)

-- what is apart from two lists is apart from each
apart_first : (is js ks : List ℕ) → list_all (is_none_of (is ++ js)) ks ≡ true → list_all (is_none_of is) ks ≡ true
apart_first is js ks all = all_weaker (is_none_of (is ++ js)) (is_none_of is) ks (λ k none. (all_split (λ j. not (j == k)) is js none).0) all

apart_second : (is js ks : List ℕ) → list_all (is_none_of (is ++ js)) ks ≡ true → list_all (is_none_of js) ks ≡ true
apart_second is js ks all = all_weaker (is_none_of (is ++ js)) (is_none_of js) ks (λ k none. (all_split (λ j. not (j == k)) is js none).1) all

-- ---- words that agree

abbrev pub SameWords : List ℕ → List ℕ → List ℕ → Type 0
SameWords v w [] = Unit {0}
SameWords v w (i ∷ is) = (get_or v i 0 ≡ get_or w i 0) × SameWords v w is

abbrev pub SamePages : List ℕ → List ℕ → List ℕ → Type 0
SamePages v w [] = Unit {0}
SamePages v w (i ∷ is) = (page_of (get_or v i 0) ≡ page_of (get_or w i 0)) × SamePages v w is

same_split : (v w is js : List ℕ) → SameWords v w (is ++ js) → SameWords v w is × SameWords v w js
same_split v w [] js same = (tt, same)
same_split v w (i ∷ is) js same = let rest = same_split v w is js same.1 in ((same.0, rest.0), rest.1)

pages_split : (v w is js : List ℕ) → SamePages v w (is ++ js) → SamePages v w is × SamePages v w js
pages_split v w [] js same = (tt, same)
pages_split v w (i ∷ is) js same = let rest = pages_split v w is js same.1 in ((same.0, rest.0), rest.1)

-- ---- strips

same_status : (v w is : List ℕ) → SameWords v w is → status_in v is ≡ status_in w is
same_status v w [] same = refl
same_status v w (i ∷ is) same = ap (λ x. join (status_of (entry_of x)) (status_in v is)) same.0 ∙ ap (join (status_of (entry_in w i))) (same_status v w is same.1)

same_narrows : (v w is : List ℕ) (masks : List Rights) → SameWords v w is → map (effect v) (map (λ e. narrow e.0 e.1) (zip is masks)) ≡ map (effect w) (map (λ e. narrow e.0 e.1) (zip is masks))
same_narrows v w [] masks same = refl
same_narrows v w (i ∷ is) [] same = refl
same_narrows v w (i ∷ is) (m ∷ masks) same = rw (same.0, same_narrows v w is masks same.1) refl

same_fold : (v w : List ℕ) (f : Option ℕ) (s : Rights) → map (effect v) (fold_of f s) ≡ map (effect w) (fold_of f s)
same_fold v w None s = refl
same_fold v w (Some i) s = refl

same_kept : (v w : List ℕ) (nodes : List Node) (is : List ℕ) (masks : List Rights) → SameWords v w is
    → map (λ e. e.0) (filter (λ e. remains v e.1.0 e.1.1) (zip nodes (zip is masks))) ≡ map (λ e. e.0) (filter (λ e. remains w e.1.0 e.1.1) (zip nodes (zip is masks)))
same_kept v w [] is masks same = refl
same_kept v w (n ∷ nodes) [] masks same = refl
same_kept v w (n ∷ nodes) (i ∷ is) [] same = refl
same_kept v w (n ∷ nodes) (i ∷ is) (m ∷ masks) same = by (remains v i m) (remains w i m) (rw same.0 refl) (same_kept v w nodes is masks same.1)
  where
    by : (s t : Bool) → s ≡ t
        → map (λ e. e.0) (filter (λ e. remains v e.1.0 e.1.1) (zip nodes (zip is masks))) ≡ map (λ e. e.0) (filter (λ e. remains w e.1.0 e.1.1) (zip nodes (zip is masks)))
        → map (λ e. e.0) (cond s ((n, (i, m)) ∷ filter (λ e. remains v e.1.0 e.1.1) (zip nodes (zip is masks))) (filter (λ e. remains v e.1.0 e.1.1) (zip nodes (zip is masks))))
        ≡ map (λ e. e.0) (cond t ((n, (i, m)) ∷ filter (λ e. remains w e.1.0 e.1.1) (zip nodes (zip is masks))) (filter (λ e. remains w e.1.0 e.1.1) (zip nodes (zip is masks))))
    by true true same rest = ap (λ ns. n ∷ ns) rest
    by true false same rest = absurd (cc)
    by false true same rest = absurd (cc)
    by false false same rest = rest

-- ---- links, moves and touches

same_linked : (through : Rights) (target a b : Option Entry) → option_map page a ≡ option_map page b → option_map (linked through target) a ≡ option_map (linked through target) b
same_linked through target None None same = refl
same_linked through target None (Some f) same = absurd (cc)
same_linked through target (Some e) None same = absurd (cc)
same_linked through None (Some e) (Some f) same = let one : page e ≡ page f = cc in let frame : e.frame ≡ f.frame = ap (λ (x : ℕ × Rights). x.0) one in let rights : e.rights ≡ f.rights = ap (λ (x : ℕ × Rights). x.1) one in rw (frame, rights) refl
same_linked through (Some t) (Some e) (Some f) same = let one : page e ≡ page f = cc in let frame : e.frame ≡ f.frame = ap (λ (x : ℕ × Rights). x.0) one in let rights : e.rights ≡ f.rights = ap (λ (x : ℕ × Rights). x.1) one in rw (frame, rights) refl

same_stores : (v w : List ℕ) (stores : List Store) → SameWords v w (puts_of stores) → SamePages v w (map (λ s. s.read) stores) → map (effect v) (map (store_step v) stores) ≡ map (effect w) (map (store_step w) stores)
same_stores v w [] same pages = refl
same_stores v w (s ∷ stores) same pages =
    ap (λ e. effect w (step.put s.put e) ∷ map (effect v) (map (store_step v) stores)) (ap (λ x. option_map (linked s.rights (entry_of x)) (entry_in v s.read)) same.0 ∙ same_linked s.rights (entry_in w s.put) (entry_in v s.read) (entry_in w s.read) pages.0)
    ∙ ap (λ es. effect w (store_step w s) ∷ es) (same_stores v w stores same.1 pages.1)

same_pairs : (v w : List ℕ) (pairs : List Pair) → SameWords v w (ends_of pairs) → map (effect v) (flat_map (pair_steps v) pairs) ≡ map (effect w) (flat_map (pair_steps w) pairs)
same_pairs v w [] same = refl
same_pairs v w (p ∷ pairs) same =
    ap (λ x. effect w (step.take p.taken) ∷ effect w (step.put p.put (option_map without_status (entry_of x))) ∷ map (effect v) (flat_map (pair_steps v) pairs)) same.0
    ∙ ap (λ es. effect w (step.take p.taken) ∷ effect w (step.put p.put (option_map without_status (entry_in w p.taken))) ∷ es) (same_pairs v w pairs same.1.1)

pub may_by_page : (a b : Option Entry) (access : Access) → option_map page a ≡ option_map page b → option_map_or (λ e. has e.rights access) a false ≡ option_map_or (λ e. has e.rights access) b false
may_by_page None None access same = refl
may_by_page None (Some f) access same = absurd (cc)
may_by_page (Some e) None access same = absurd (cc)
may_by_page (Some e) (Some f) access same = let one : page e ≡ page f = cc in let rights : e.rights ≡ f.rights = ap (λ (x : ℕ × Rights). x.1) one in ap (λ r. has r access) rights

same_may : (v w : List ℕ) → ((i : ℕ) → page_of (get_or v i 0) ≡ page_of (get_or w i 0)) → (t : WordAccess) → may_access v t ≡ may_access w t
same_may v w pages t = may_by_page (entry_in v t.index) (entry_in w t.index) t.access (pages t.index)

same_accesses : (v w : List ℕ) → ((i : ℕ) → page_of (get_or v i 0) ≡ page_of (get_or w i 0)) → (ts : List WordAccess) → map (effect v) (flat_map (access_steps v) ts) ≡ map (effect w) (flat_map (access_steps w) ts)
same_accesses v w pages [] = refl
same_accesses v w pages (t ∷ ts) = by (may_access v t) (may_access w t) (same_may v w pages t) (same_accesses v w pages ts)
  where
    list : Bool → List Step
    list b = if b then step.see t.index t.access ∷ step.mark t.index t.access ∷ [] else step.see t.index t.access ∷ []

    by : (a b : Bool) → a ≡ b → map (effect v) (flat_map (access_steps v) ts) ≡ map (effect w) (flat_map (access_steps w) ts)
        → map (effect v) (list a ++ flat_map (access_steps v) ts) ≡ map (effect w) (list b ++ flat_map (access_steps w) ts)
    by true true same rest = ap (λ es. effect w (step.see t.index t.access) ∷ effect w (step.mark t.index t.access) ∷ es) rest
    by true false same rest = absurd (cc)
    by false true same rest = absurd (cc)
    by false false same rest = ap (λ es. effect w (step.see t.index t.access) ∷ es) rest

same_answers : (v w : List ℕ) → ((i : ℕ) → page_of (get_or v i 0) ≡ page_of (get_or w i 0)) → (ts : List WordAccess) → map (may_access v) ts ≡ map (may_access w) ts
same_answers v w pages [] = refl
same_answers v w pages (t ∷ ts) = ap (λ b. b ∷ map (may_access v) ts) (same_may v w pages t) ∙ ap (λ bs. may_access w t ∷ bs) (same_answers v w pages ts)

-- ---- a piece

-- words that are the same where a piece changes them, and, for a touch, pages that are
pub record IsUndisturbed (v w : List ℕ) (p : Piece) : Type 0 where
  pub words : SameWords v w (changes p)
  pub pages : is_touch p ≡ true → (i : ℕ) → page_of (get_or v i 0) ≡ page_of (get_or w i 0)

pub same_effects : (v w : List ℕ) (p : Piece) → IsUndisturbed v w p → SamePages v w (held p) → effects v p ≡ effects w p
same_effects v w (piece.Strip s) same there =
    map-append (effect v) (map (λ e. narrow e.0 e.1) (zip s.indexes s.masks)) (fold_of s.fold (status_in v s.indexes))
    ∙ ap (λ es. es ++ map (effect v) (fold_of s.fold (status_in v s.indexes))) (same_narrows v w s.indexes s.masks same.words)
    ∙ ap (λ es. map (effect w) (map (λ e. narrow e.0 e.1) (zip s.indexes s.masks)) ++ es) (same_fold v w s.fold (status_in v s.indexes) ∙ ap (λ t. map (effect w) (fold_of s.fold t)) (same_status v w s.indexes same.words))
    ∙ sym (map-append (effect w) (map (λ e. narrow e.0 e.1) (zip s.indexes s.masks)) (fold_of s.fold (status_in w s.indexes)))
same_effects v w (piece.Link stores) same there = same_stores v w stores same.words there
same_effects v w (piece.Move pairs) same there = same_pairs v w pairs same.words
same_effects v w (piece.Touch list) same there = same_accesses v w (same.pages refl) list

pub same_value : (v w : List ℕ) (p : Piece) → IsUndisturbed v w p → value v p ≡ value w p
same_value v w (piece.Strip s) same = rw (same_kept v w s.nodes s.indexes s.masks same.words, same_status v w s.indexes same.words) refl
same_value v w (piece.Link stores) same = refl
same_value v w (piece.Move pairs) same = refl
same_value v w (piece.Touch list) same = rw (same_answers v w (same.pages refl) list) refl

-- ---- pieces after others

abbrev AllUndisturbed : List ℕ → List ℕ → List Piece → Type 0
AllUndisturbed v w [] = Unit {0}
AllUndisturbed v w (p ∷ ps) = IsUndisturbed v w p × AllUndisturbed v w ps

same_all_effects : (v w : List ℕ) (qs : List Piece) → AllUndisturbed v w qs → SamePages v w (flat_map held qs) → flat_map (effects v) qs ≡ flat_map (effects w) qs
same_all_effects v w [] same there = refl
same_all_effects v w (q ∷ qs) same there =
    let parts = pages_split v w (held q) (flat_map held qs) there in
    ap (λ es. es ++ flat_map (effects v) qs) (same_effects v w q same.0 parts.0) ∙ ap (λ es. effects w q ++ es) (same_all_effects v w qs same.1 parts.1)

same_all_values : (v w : List ℕ) (qs : List Piece) → AllUndisturbed v w qs → map (value v) qs ≡ map (value w) qs
same_all_values v w [] same = refl
same_all_values v w (q ∷ qs) same = ap (λ x. x ∷ map (value v) qs) (same_value v w q same.0) ∙ ap (λ xs. value w q ∷ xs) (same_all_values v w qs same.1)

-- tests of all pieces
any_split : {A : Type 0} (test : A → Bool) (xs ys : List A) → list_any test (xs ++ ys) ≡ false → (list_any test xs ≡ false) × (list_any test ys ≡ false)
any_split test [] ys h = (refl, h)
any_split test (x ∷ xs) ys h = by (test x) h (any_split test xs ys)
  where
    by : (t : Bool) → (t || list_any test (xs ++ ys)) ≡ false → (list_any test (xs ++ ys) ≡ false → (list_any test xs ≡ false) × (list_any test ys ≡ false))
        → ((t || list_any test xs) ≡ false) × (list_any test ys ≡ false)
    by true g rest = absurd (cc)
    by false g rest = rest g

-- all are touches, or none is
alike_ways : {P : Type 0} (ps : List Piece) → are_alike ps ≡ true → (list_all is_touch ps ≡ true → P) → (list_any is_touch ps ≡ false → P) → P
alike_ways {P} ps alike all none = by (list_all is_touch ps) (list_any is_touch ps) refl refl alike
  where
    by : (a b : Bool) → list_all is_touch ps ≡ a → list_any is_touch ps ≡ b → (a || not b) ≡ true → P
    by true b x y h = all x
    by false true x y h = absurd (cc)
    by false false x y h = none y

alike_from_all : (ps : List Piece) → list_all is_touch ps ≡ true → are_alike ps ≡ true
alike_from_all ps all = ap (λ a. a || not (list_any is_touch ps)) all

alike_from_none : (ps : List Piece) → list_any is_touch ps ≡ false → are_alike ps ≡ true
alike_from_none ps none = ap (λ b. list_all is_touch ps || not b) none ∙ or_true (list_all is_touch ps)
  where
    or_true : (a : Bool) → (a || true) ≡ true
    or_true true = refl
    or_true false = refl

alike_first : (ps qs : List Piece) → are_alike (ps ++ qs) ≡ true → are_alike ps ≡ true
alike_first ps qs alike = alike_ways (ps ++ qs) alike (λ all. alike_from_all ps (all_split is_touch ps qs all).0) (λ none. alike_from_none ps (any_split is_touch ps qs none).0)

alike_second : (ps qs : List Piece) → are_alike (ps ++ qs) ≡ true → are_alike qs ≡ true
alike_second ps qs alike = alike_ways (ps ++ qs) alike (λ all. alike_from_all qs (all_split is_touch ps qs all).1) (λ none. alike_from_none qs (any_split is_touch ps qs none).1)

-- the first of pieces that can be worked can be worked
pub first_can : (w : List ℕ) (ps qs : List Piece) → CanBeWorked w (ps ++ qs) → CanBeWorked w ps
first_can w ps qs can = record {
  some = can.some;
  packs = can.packs;
  within = (all_split (λ i. nat_lt i (length w)) (flat_map named ps) (flat_map named qs) (ap (list_all (λ i. nat_lt i (length w))) (sym (flat_map-append named ps qs)) ∙ can.within)).0;
  entries = (all_split (λ i. is_some (entry_in w i)) (flat_map held ps) (flat_map held qs) (ap (list_all (λ i. is_some (entry_in w i))) (sym (flat_map-append held ps qs)) ∙ can.entries)).0;
  distinct = (distinct_split (flat_map changes ps) (flat_map changes qs) (ap are_distinct (sym (flat_map-append changes ps qs)) ∙ can.distinct)).0;
  apart =
      apart_first (flat_map changes ps) (flat_map changes qs) (flat_map folds ps)
      (all_split (is_none_of (flat_map changes ps ++ flat_map changes qs)) (flat_map folds ps) (flat_map folds qs)
      (ap (λ is. list_all (is_none_of is) (flat_map folds ps ++ flat_map folds qs)) (sym (flat_map-append changes ps qs)) ∙ ap (list_all (is_none_of (flat_map changes (ps ++ qs)))) (sym (flat_map-append folds ps qs)) ∙ can.apart)).0;
  alike = alike_first ps qs can.alike;
}

pub all_first : (ps qs : List Piece) → All IsPiece (ps ++ qs) → All IsPiece ps
all_first [] qs each k d less = absurd (omega (arith, less))
all_first (p ∷ ps) qs each zero d less = each 0 d (omega arith)
all_first (p ∷ ps) qs each (suc k) d less = all_first ps qs (λ j e l. each (suc j) e (omega (arith, l))) k d (omega (arith, less))

pub all_second : (ps qs : List Piece) → All IsPiece (ps ++ qs) → All IsPiece qs
all_second [] qs each = each
all_second (p ∷ ps) qs each = all_second ps qs (λ j e l. each (suc j) e (omega (arith, l)))

module _ (w : List ℕ) (ps qs : List Piece) (can : CanBeWorked w (ps ++ qs)) where
  -- the others change what the first do not
  pub changes_apart : list_all (is_none_of (flat_map changes ps)) (flat_map changes qs) ≡ true
  changes_apart = distinct_apart (flat_map changes ps) (flat_map changes qs) (ap are_distinct (sym (flat_map-append changes ps qs)) ∙ can.distinct)

  folds_apart : list_all (is_none_of (flat_map changes qs)) (flat_map folds ps) ≡ true
  folds_apart =
      apart_second (flat_map changes ps) (flat_map changes qs) (flat_map folds ps)
      (all_split (is_none_of (flat_map changes ps ++ flat_map changes qs)) (flat_map folds ps) (flat_map folds qs)
      (ap (λ is. list_all (is_none_of is) (flat_map folds ps ++ flat_map folds qs)) (sym (flat_map-append changes ps qs)) ∙ ap (list_all (is_none_of (flat_map changes (ps ++ qs)))) (sym (flat_map-append folds ps qs)) ∙ can.apart)).0

  pub folds_of_others_apart : list_all (is_none_of (flat_map changes ps)) (flat_map folds qs) ≡ true
  folds_of_others_apart =
      apart_first (flat_map changes ps) (flat_map changes qs) (flat_map folds qs)
      (all_split (is_none_of (flat_map changes ps ++ flat_map changes qs)) (flat_map folds ps) (flat_map folds qs)
      (ap (λ is. list_all (is_none_of is) (flat_map folds ps ++ flat_map folds qs)) (sym (flat_map-append changes ps qs)) ∙ ap (list_all (is_none_of (flat_map changes (ps ++ qs)))) (sym (flat_map-append folds ps qs)) ∙ can.apart)).1

module _ (w : List ℕ) (ps qs : List Piece) (each : All IsPiece (ps ++ qs)) (can : CanBeWorked w (ps ++ qs)) where
  suit_first : AllSuit w (flat_map (effects w) ps)
  suit_first = pieces_suit w ps (first_can w ps qs can).entries

  write_first : writes_at (flat_map (effects w) ps) ≡ flat_map changes ps
  write_first = all_write w ps (all_first ps qs each)

  words_from_apart : (is : List ℕ) → list_all (is_none_of (writes_at (flat_map (effects w) ps))) is ≡ true → list_all (is_none_of (adds_at (flat_map (effects w) ps))) is ≡ true → SameWords (words_after w (flat_map (effects w) ps)) w is
  words_from_apart [] unwritten unadded = tt
  words_from_apart (i ∷ is) unwritten unadded =
      let a = both (is_none_of (writes_at (flat_map (effects w) ps)) i) (list_all (is_none_of (writes_at (flat_map (effects w) ps))) is) unwritten in
      let b = both (is_none_of (adds_at (flat_map (effects w) ps)) i) (list_all (is_none_of (adds_at (flat_map (effects w) ps))) is) unadded in
      (same_word_after w (flat_map (effects w) ps) i a.0 b.0, words_from_apart is a.1 b.1)

  -- what the others change is as it was
  same_changed : SameWords (words_after w (flat_map (effects w) ps)) w (flat_map changes qs)
  same_changed =
      alike_ways (ps ++ qs) can.alike (λ all. subst (SameWords (words_after w (flat_map (effects w) ps)) w) (sym (touches_change qs (all_split is_touch ps qs all).1)) tt)
      (λ none. words_from_apart (flat_map changes qs) (ap (λ is. list_all (is_none_of is) (flat_map changes qs)) write_first ∙ changes_apart w ps qs can)
      (ap (λ is. list_all (is_none_of is) (flat_map changes qs)) (all_add w ps (any_split is_touch ps qs none).0) ∙ apart_turned (flat_map changes qs) (flat_map folds ps) (folds_apart w ps qs can)))

  pages_from_apart : (is : List ℕ) → list_all (is_none_of (flat_map changes ps)) is ≡ true → SamePages (words_after w (flat_map (effects w) ps)) w is
  pages_from_apart [] unwritten = tt
  pages_from_apart (i ∷ is) unwritten =
      let a = both (is_none_of (flat_map changes ps) i) (list_all (is_none_of (flat_map changes ps)) is) unwritten in
      (same_page_after w (flat_map (effects w) ps) can.packs suit_first i (ap (λ js. is_none_of js i) write_first ∙ a.0), pages_from_apart is a.1)

  -- touches leave all pages as they are
  pages_of_touches : list_any is_touch qs ≡ true → (i : ℕ) → page_of (get_or (words_after w (flat_map (effects w) ps)) i 0) ≡ page_of (get_or w i 0)
  pages_of_touches some i =
      alike_ways (ps ++ qs) can.alike
      (λ all. same_page_after w (flat_map (effects w) ps) can.packs suit_first i (ap (λ js. is_none_of js i) (write_first ∙ touches_change ps (all_split is_touch ps qs all).0)))
      (λ none. absurd (let never = (any_split is_touch ps qs none).1 in cc))

all_undisturbed : (v w : List ℕ) (qs : List Piece) → SameWords v w (flat_map changes qs) → (list_any is_touch qs ≡ true → (i : ℕ) → page_of (get_or v i 0) ≡ page_of (get_or w i 0)) → AllUndisturbed v w qs
all_undisturbed v w [] same pages = tt
all_undisturbed v w (q ∷ qs) same pages =
    let parts = same_split v w (changes q) (flat_map changes qs) same in
    (record { words = parts.0; pages = λ touch. pages (ap (λ b. b || list_any is_touch qs) touch) }, all_undisturbed v w qs parts.1 (λ touch. pages (or_later (is_touch q) (list_any is_touch qs) touch)))
  where
    or_later : (a b : Bool) → b ≡ true → (a || b) ≡ true
    or_later true b h = refl
    or_later false b h = h

held_there : (v w is : List ℕ) → SamePages v w is → list_all (λ i. is_some (entry_in w i)) is ≡ true → list_all (λ i. is_some (entry_in v i)) is ≡ true
held_there v w [] same there = refl
held_there v w (i ∷ is) same there =
    let parts = both (is_some (entry_in w i)) (list_all (λ j. is_some (entry_in w j)) is) there in rw (by (entry_in v i) (entry_in w i) same.0 ∙ parts.0) (held_there v w is same.1 parts.1)
  where
    by : (a b : Option Entry) → option_map page a ≡ option_map page b → is_some a ≡ is_some b
    by None None h = refl
    by None (Some f) h = absurd (cc)
    by (Some e) None h = absurd (cc)
    by (Some e) (Some f) h = refl

module _ (w : List ℕ) (ps qs : List Piece) (each : All IsPiece (ps ++ qs)) (can : CanBeWorked w (ps ++ qs)) where
  undisturbed : AllUndisturbed (worked w ps) w qs
  undisturbed = subst (λ v. AllUndisturbed v w qs) (sym (worked_all w ps)) (all_undisturbed (words_after w (flat_map (effects w) ps)) w qs (same_changed w ps qs each can) (pages_of_touches w ps qs each can))

  pages_spared : spare_held ps qs ≡ true → SamePages (worked w ps) w (flat_map held qs)
  pages_spared spared = subst (λ v. SamePages v w (flat_map held qs)) (sym (worked_all w ps)) (pages_from_apart w ps qs each can (flat_map held qs) spared)

  pub others_find_the_same : map (value (worked w ps)) qs ≡ map (value w) qs
  others_find_the_same = same_all_values (worked w ps) w qs undisturbed

  -- the others, whose steps are fixed by the words at opening, after the first
  pub worked_then : worked w (ps ++ qs) ≡ words_after (worked w ps) (flat_map (effects w) qs)
  worked_then =
      let apart = all_apart w (ps ++ qs) each can in
      let two = flat_map-append (effects w) ps qs in
      worked_all w (ps ++ qs) ∙ ap (words_after w) two
      ∙ steps_in_turn 0 w (flat_map (effects w) ps) (flat_map (effects w) qs) (ap (λ fs. are_distinct (writes_at fs)) (sym two) ∙ apart.0) (ap (λ fs. list_all (is_none_of (writes_at fs)) (adds_at fs)) (sym two) ∙ apart.1)
      ∙ ap (λ v. words_after v (flat_map (effects w) qs)) (sym (worked_all w ps))

  pub one_after_another : spare_held ps qs ≡ true → worked w (ps ++ qs) ≡ worked (worked w ps) qs
  one_after_another spared = worked_then ∙ ap (words_after (worked w ps)) (sym (same_all_effects (worked w ps) w qs undisturbed (pages_spared spared))) ∙ sym (worked_all (worked w ps) qs)

  pub others_can : spare_held ps qs ≡ true → CanBeWorked (worked w ps) qs
  others_can spared =
      let l : length (worked w ps) ≡ length w = ap length (worked_all w ps) ∙ length_words 0 w (flat_map (effects w) ps) in
      record {
        some = rw l can.some;
        packs = subst (AllPass is_pack) (sym (worked_all w ps)) (packs_after_steps w (flat_map (effects w) ps) can.packs (suit_first w ps qs each can));
        within = ap (λ n. list_all (λ i. nat_lt i n) (flat_map named qs)) l ∙ (all_split (λ i. nat_lt i (length w)) (flat_map named ps) (flat_map named qs) (ap (list_all (λ i. nat_lt i (length w))) (sym (flat_map-append named ps qs)) ∙ can.within)).1;
        entries =
            held_there (worked w ps) w (flat_map held qs) (pages_spared spared)
            (all_split (λ i. is_some (entry_in w i)) (flat_map held ps) (flat_map held qs) (ap (list_all (λ i. is_some (entry_in w i))) (sym (flat_map-append held ps qs)) ∙ can.entries)).1;
        distinct = (distinct_split (flat_map changes ps) (flat_map changes qs) (ap are_distinct (sym (flat_map-append changes ps qs)) ∙ can.distinct)).1;
        apart =
            apart_second (flat_map changes ps) (flat_map changes qs) (flat_map folds qs)
            (all_split (is_none_of (flat_map changes ps ++ flat_map changes qs)) (flat_map folds ps) (flat_map folds qs)
            (ap (λ is. list_all (is_none_of is) (flat_map folds ps ++ flat_map folds qs)) (sym (flat_map-append changes ps qs)) ∙ ap (list_all (is_none_of (flat_map changes (ps ++ qs)))) (sym (flat_map-append folds ps qs)) ∙ can.apart)).1;
        alike = alike_second ps qs can.alike;
      }

-- ---- pieces that are no links

neither : (a b : Bool) → (a || b) ≡ false → (a ≡ false) × (b ≡ false)
neither true b h = absurd (cc)
neither false b h = (refl, h)

all_joined : {A : Type 0} (test : A → Bool) (xs ys : List A) → list_all test xs ≡ true → list_all test ys ≡ true → list_all test (xs ++ ys) ≡ true
all_joined test [] ys p q = q
all_joined test (x ∷ xs) ys p q = let parts = both (test x) (list_all test xs) p in rw parts.0 (all_joined test xs ys parts.1 q)

takes_apart : (is : List ℕ) (pairs : List Pair) → list_all (is_none_of is) (ends_of pairs) ≡ true → list_all (is_none_of is) (map (λ p. p.taken) pairs) ≡ true
takes_apart is [] all = refl
takes_apart is (p ∷ pairs) all =
    let here = both (is_none_of is p.taken) (list_all (is_none_of is) (p.put ∷ ends_of pairs)) all in
    let next = both (is_none_of is p.put) (list_all (is_none_of is) (ends_of pairs)) here.1 in
    rw (here.0, takes_apart is pairs next.1) refl

held_apart : (is : List ℕ) (q : Piece) → is_link q ≡ false → list_all (is_none_of is) (changes q) ≡ true → list_all (is_none_of is) (folds q) ≡ true → list_all (is_none_of is) (held q) ≡ true
held_apart is (piece.Strip s) unlinked all fold = fold
held_apart is (piece.Link stores) unlinked all fold = absurd (cc)
held_apart is (piece.Move pairs) unlinked all fold = takes_apart is pairs all
held_apart is (piece.Touch list) unlinked all fold = refl

pub all_held_apart : (is : List ℕ) (qs : List Piece) → list_any is_link qs ≡ false → list_all (is_none_of is) (flat_map changes qs) ≡ true → list_all (is_none_of is) (flat_map folds qs) ≡ true
    → list_all (is_none_of is) (flat_map held qs) ≡ true
all_held_apart is [] unlinked all fold = refl
all_held_apart is (q ∷ qs) unlinked all fold =
    let links = neither (is_link q) (list_any is_link qs) unlinked in
    let here = all_split (is_none_of is) (changes q) (flat_map changes qs) all in
    let more = all_split (is_none_of is) (folds q) (flat_map folds qs) fold in
    all_joined (is_none_of is) (held q) (flat_map held qs) (held_apart is q links.0 here.0 more.0) (all_held_apart is qs links.1 here.1 more.1)
