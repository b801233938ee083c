-- The pieces of a phase that can be worked can be worked step by step.
use Rattle.std.proofs.Common.{◌≡◌, ℕ, zero, suc, ◌+◌, ◌<◌, ◌≤◌, Bool, true, false, ◌&&◌, ◌||◌, not, ◌⊎◌, inl, inr, List, [], ◌∷◌, ◌++◌, length, map, Option, Some, None, refl, ap, ◌∙◌, sym, subst, arith, zero-add, nat_lt, if◌then◌else◌}
use Rattle.std.specs.Prelude.{◌==◌, slice_get}
use Rattle.std.specs.List.{flat_map, list_all, list_any, zip, All}
use Rattle.std.specs.Option.{option_map, option_to_list}
use Rattle.std.proofs.lemmas.Bool.{eqb-true, lt-ltb, eq-eqb, ne_eqb, true≢false}
use Rattle.fpage.specs.declared.rights.Rights.{Rights}
use Rattle.pieces.specs.Contents.{puts_of, ends_of}
use Rattle.pieces.specs.Distinct.{is_none_of, are_distinct}
use Rattle.pieces.specs.Effects.{Effect, keeps, adds, writes, writes_at, adds_at}
use Rattle.pieces.specs.Phases.{IsPiece, CanBeWorked, named, changes, folds, is_touch}
use Rattle.pieces.specs.Steps.{Step, narrow, effect, effects, fold_of, status_in, store_step, access_steps, may_access, see, mark, put, without_status, entry_in, status_bits}
use Rattle.pieces.specs.declared.link.Store.{Store}
use Rattle.pieces.specs.declared.moving.Pair.{Pair}
use Rattle.pieces.specs.declared.touch.WordAccess.{WordAccess}
use Rattle.pieces.specs.declared.piece.Piece.{Piece}
use Rattle.pieces.specs.declared.piece.Piece.TheVariants as piece
use Rattle.pieces.specs.DistinctParts.{all_split}
use Rattle.pieces.proofs.NamedWords.{indexes_within}
use Rattle.pieces.proofs.Writers.{all_apart}
use Rattle.turns.specs.Writers.{writers, adders, all_writers, all_adders, AreApart}
use Rattle.turns.specs.Rules.{index_of}
use Rattle.turns.specs.SharedWords.{IsPhase, common}
use Rattle.turns.proofs.Insertions.{writers_append, adders_append}
use Rattle.turns.proofs.Raising.{IsFirst, first_step}

both : (a b : Bool) → (a && b) ≡ true → (a ≡ true) × (b ≡ true)
both true true h = (refl, refl)
both true false h = absurd (cc)
both false b h = absurd (cc)

and_true : (a b : Bool) → a ≡ true → b ≡ true → (a && b) ≡ true
and_true true true p q = refl
and_true true false p q = absurd (cc)
and_true false b p q = absurd (cc)

-- ---- writers and adders as lists of indexes

no_writer : (i : ℕ) (es : List Effect) → is_none_of (writes_at es) i ≡ true → writers i es ≡ 0
no_writer i [] none = refl
no_writer i (keeps j ∷ es) none = zero-add (writers i es) ∙ no_writer i es none
no_writer i (adds j bits ∷ es) none = zero-add (writers i es) ∙ no_writer i es none
no_writer i (writes j x ∷ es) none =
    let parts = both (not (j == i)) (is_none_of (writes_at es) i) none in
    ap (λ t. (if t then 1 else 0) + writers i es) (ne_eqb j i (λ is. true≢false (sym parts.0 ∙ ap not (eq-eqb j i is)))) ∙ zero-add (writers i es) ∙ no_writer i es parts.1

one_writer : (i : ℕ) (es : List Effect) → are_distinct (writes_at es) ≡ true → writers i es ≤ 1
one_writer i [] once = omega arith
one_writer i (keeps j ∷ es) once = let m : ℕ = writers i es in let less : m ≤ 1 = one_writer i es once in omega arith
one_writer i (adds j bits ∷ es) once = let m : ℕ = writers i es in let less : m ≤ 1 = one_writer i es once in omega arith
one_writer i (writes j x ∷ es) once =
    let parts = both (is_none_of (writes_at es) j) (are_distinct (writes_at es)) once in
    by (j == i) (λ is. no_writer i es (ap (is_none_of (writes_at es)) (sym (eqb-true j i is)) ∙ parts.0)) (one_writer i es parts.1)
  where
    by : (t : Bool) → (t ≡ true → writers i es ≡ 0) → writers i es ≤ 1 → (if t then 1 else 0) + writers i es ≤ 1
    by true none less = let m : ℕ = writers i es in let m0 : m ≡ 0 = none refl in omega arith
    by false none less = let m : ℕ = writers i es in let m' : m ≤ 1 = less in omega arith

-- a word that is written is among those that steps write
is_written : (i : ℕ) (es : List Effect) → 0 < writers i es → is_none_of (writes_at es) i ≡ false
is_written i es some = by (is_none_of (writes_at es) i) refl
  where
    by : (t : Bool) → is_none_of (writes_at es) i ≡ t → t ≡ false
    by true is = let m : ℕ = writers i es in let m0 : m ≡ 0 = no_writer i es is in let some' : 0 < m = some in absurd (omega arith)
    by false is = refl

-- none adds where none of these indexes is
no_adder : (i : ℕ) (js : List ℕ) (es : List Effect) → list_all (is_none_of js) (adds_at es) ≡ true → is_none_of js i ≡ false → adders i es ≡ 0
no_adder i js [] all there = refl
no_adder i js (keeps j ∷ es) all there = zero-add (adders i es) ∙ no_adder i js es all there
no_adder i js (writes j x ∷ es) all there = zero-add (adders i es) ∙ no_adder i js es all there
no_adder i js (adds j bits ∷ es) all there =
    let parts = both (is_none_of js j) (list_all (is_none_of js) (adds_at es)) all in
    ap (λ t. (if t then 1 else 0) + adders i es) (ne_eqb j i (λ is. true≢false (sym parts.0 ∙ ap (is_none_of js) is ∙ there))) ∙ zero-add (adders i es) ∙ no_adder i js es parts.1 there

-- ---- of all pieces

all_writers_of : (w : List ℕ) (i : ℕ) (ps : List Piece) → all_writers i (map (effects w) ps) ≡ writers i (flat_map (effects w) ps)
all_writers_of w i [] = refl
all_writers_of w i (p ∷ ps) = ap (λ n. writers i (effects w p) + n) (all_writers_of w i ps) ∙ sym (writers_append i (effects w p) (flat_map (effects w) ps))

all_adders_of : (w : List ℕ) (i : ℕ) (ps : List Piece) → all_adders i (map (effects w) ps) ≡ adders i (flat_map (effects w) ps)
all_adders_of w i [] = refl
all_adders_of w i (p ∷ ps) = ap (λ n. adders i (effects w p) + n) (all_adders_of w i ps) ∙ sym (adders_append i (effects w p) (flat_map (effects w) ps))

apart : (w : List ℕ) (ps : List Piece) → All IsPiece ps → CanBeWorked w ps → AreApart (map (effects w) ps)
apart w ps each can =
    let es : List Effect = flat_map (effects w) ps in
    let given = all_apart w ps each can in
    record {
      one = λ i. let a : ℕ = all_writers i (map (effects w) ps) in let b : ℕ = writers i es in let same : a ≡ b = all_writers_of w i ps in let less : b ≤ 1 = one_writer i es given.0 in omega (arith, same, less);
      alone = λ i some. all_adders_of w i ps ∙ no_adder i (writes_at es) es given.1 (is_written i es (subst (λ n. 0 < n) (all_writers_of w i ps) some));
    }

-- ---- the words that steps are about

among_first : (i : ℕ) (js ks : List ℕ) → is_none_of js i ≡ false → is_none_of (js ++ ks) i ≡ false
among_first i [] ks there = absurd (cc)
among_first i (j ∷ js) ks there = by (not (j == i)) there (among_first i js ks)
  where
    by : (t : Bool) → (t && is_none_of js i) ≡ false → (is_none_of js i ≡ false → is_none_of (js ++ ks) i ≡ false) → (t && is_none_of (js ++ ks) i) ≡ false
    by true h later = later h
    by false h later = refl

among_second : (i : ℕ) (js ks : List ℕ) → is_none_of ks i ≡ false → is_none_of (js ++ ks) i ≡ false
among_second i [] ks there = there
among_second i (j ∷ js) ks there = by (not (j == i)) (among_second i js ks there)
  where
    by : (t : Bool) → is_none_of (js ++ ks) i ≡ false → (t && is_none_of (js ++ ks) i) ≡ false
    by true h = h
    by false h = refl

among_here : (i : ℕ) (ks : List ℕ) → is_none_of (i ∷ ks) i ≡ false
among_here i ks = ap (λ t. not t && is_none_of ks i) (eq-eqb i i refl)

among_there : (i j : ℕ) (ks : List ℕ) → is_none_of ks i ≡ false → is_none_of (j ∷ ks) i ≡ false
among_there i j ks there = among_second i (j ∷ []) ks there

narrow_about : (w : List ℕ) (is : List ℕ) (ms : List Rights) (rest : List Step) (more : List ℕ) (k : ℕ) (e : Effect)
    → ((j : ℕ) → slice_get (map (effect w) rest) j ≡ Some e → is_none_of more (index_of e) ≡ false)
    → slice_get (map (effect w) (map (λ e. narrow e.0 e.1) (zip is ms) ++ rest)) k ≡ Some e → is_none_of (is ++ more) (index_of e) ≡ false
narrow_about w [] ms rest more k e others at = others k at
narrow_about w (i ∷ is) [] rest more k e others at = among_second (index_of e) (i ∷ is) more (others k at)
narrow_about w (i ∷ is) (m ∷ ms) rest more zero e others at = let same : effect w (narrow i m) ≡ e = cc in subst (λ f. is_none_of (i ∷ (is ++ more)) (index_of f) ≡ false) same (among_here i (is ++ more))
narrow_about w (i ∷ is) (m ∷ ms) rest more (suc k) e others at = among_there (index_of e) i (is ++ more) (narrow_about w is ms rest more k e others at)

fold_about : (w : List ℕ) (f : Option ℕ) (s : Rights) (e : Effect) (k : ℕ) → slice_get (map (effect w) (fold_of f s)) k ≡ Some e → is_none_of (option_to_list f) (index_of e) ≡ false
fold_about w None s e k at = absurd (cc)
fold_about w (Some i) s e zero at = let same : adds i (status_bits s) ≡ e = cc in subst (λ f. is_none_of (i ∷ []) (index_of f) ≡ false) same (among_here i [])
fold_about w (Some i) s e (suc k) at = absurd (cc)

link_about : (w : List ℕ) (xs : List Store) (k : ℕ) (e : Effect) → slice_get (effects w (piece.Link xs)) k ≡ Some e → is_none_of (puts_of xs) (index_of e) ≡ false
link_about w [] k e at = absurd (cc)
link_about w (s ∷ xs) zero e at = let same : effect w (store_step w s) ≡ e = cc in subst (λ f. is_none_of (s.put ∷ puts_of xs) (index_of f) ≡ false) same (among_here s.put (puts_of xs))
link_about w (s ∷ xs) (suc k) e at = among_there (index_of e) s.put (puts_of xs) (link_about w xs k e at)

move_about : (w : List ℕ) (xs : List Pair) (k : ℕ) (e : Effect) → slice_get (effects w (piece.Move xs)) k ≡ Some e → is_none_of (ends_of xs) (index_of e) ≡ false
move_about w [] k e at = absurd (cc)
move_about w (p ∷ xs) zero e at = let same : writes p.taken 0 ≡ e = cc in subst (λ f. is_none_of (p.taken ∷ p.put ∷ ends_of xs) (index_of f) ≡ false) same (among_here p.taken (p.put ∷ ends_of xs))
move_about w (p ∷ xs) (suc zero) e at =
    let same : effect w (put p.put (option_map without_status (entry_in w p.taken))) ≡ e = cc in
    subst (λ f. is_none_of (p.taken ∷ p.put ∷ ends_of xs) (index_of f) ≡ false) same (among_there p.put p.taken (p.put ∷ ends_of xs) (among_here p.put (ends_of xs)))
move_about w (p ∷ xs) (suc (suc k)) e at = among_there (index_of e) p.taken (p.put ∷ ends_of xs) (among_there (index_of e) p.put (ends_of xs) (move_about w xs k e at))

touch_about : (w : List ℕ) (xs : List WordAccess) (k : ℕ) (e : Effect) → slice_get (effects w (piece.Touch xs)) k ≡ Some e → is_none_of (map (λ t. t.index) xs) (index_of e) ≡ false
touch_about w [] k e at = absurd (cc)
touch_about w (t ∷ xs) k e at = by (may_access w t) k at (λ j. touch_about w xs j e)
  where
    here : (f : Effect) → f ≡ e → index_of f ≡ t.index → is_none_of (t.index ∷ map (λ u. u.index) xs) (index_of e) ≡ false
    here f same is = subst (λ i. is_none_of (t.index ∷ map (λ u. u.index) xs) i ≡ false) (sym is ∙ ap index_of same) (among_here t.index (map (λ u. u.index) xs))

    by : (b : Bool) (k : ℕ) → slice_get (map (effect w) ((if b then see t.index t.access ∷ mark t.index t.access ∷ [] else see t.index t.access ∷ []) ++ flat_map (access_steps w) xs)) k ≡ Some e
        → ((j : ℕ) → slice_get (effects w (piece.Touch xs)) j ≡ Some e → is_none_of (map (λ u. u.index) xs) (index_of e) ≡ false) → is_none_of (t.index ∷ map (λ u. u.index) xs) (index_of e) ≡ false
    by true zero at later = here (effect w (see t.index t.access)) (cc) refl
    by true (suc zero) at later = here (effect w (mark t.index t.access)) (cc) refl
    by true (suc (suc k)) at later = among_there (index_of e) t.index (map (λ u. u.index) xs) (later k at)
    by false zero at later = here (effect w (see t.index t.access)) (cc) refl
    by false (suc k) at later = among_there (index_of e) t.index (map (λ u. u.index) xs) (later k at)

-- a word that one piece alone has a step about, or one that several may have
AmongAll : (Piece → List ℕ) → List Piece → ℕ → Type 0
AmongAll f ps i = is_none_of (flat_map f ps) i ≡ false

among_parts : (i : ℕ) (js ks : List ℕ) → is_none_of (js ++ ks) i ≡ false → (is_none_of js i ≡ false) ⊎ (is_none_of ks i ≡ false)
among_parts i [] ks there = inr there
among_parts i (j ∷ js) ks there = by (not (j == i)) there (among_parts i js ks)
  where
    by : (t : Bool) → (t && is_none_of (js ++ ks) i) ≡ false → (is_none_of (js ++ ks) i ≡ false → (is_none_of js i ≡ false) ⊎ (is_none_of ks i ≡ false)) → ((t && is_none_of js i) ≡ false) ⊎ (is_none_of ks i ≡ false)
    by true h later = later h
    by false h later = inl refl

about : (w : List ℕ) (p : Piece) (k : ℕ) (e : Effect) → slice_get (effects w p) k ≡ Some e → (is_none_of (changes p) (index_of e) ≡ false) ⊎ (is_none_of (common p) (index_of e) ≡ false)
about w (piece.Strip s) k e at =
    among_parts (index_of e) s.indexes (option_to_list s.fold)
    (narrow_about w s.indexes s.masks (fold_of s.fold (status_in w s.indexes)) (option_to_list s.fold) k e (λ j. fold_about w s.fold (status_in w s.indexes) e j) at)
about w (piece.Link xs) k e at = inl (link_about w xs k e at)
about w (piece.Move xs) k e at = inl (move_about w xs k e at)
about w (piece.Touch xs) k e at = inr (touch_about w xs k e at)

among_all : (f : Piece → List ℕ) (i n : ℕ) (ps : List Piece) (p : Piece) → slice_get ps n ≡ Some p → is_none_of (f p) i ≡ false → is_none_of (flat_map f ps) i ≡ false
among_all f i n [] p at there = absurd (cc)
among_all f i zero (q ∷ ps) p at there = let is : q ≡ p = cc in among_first i (f q) (flat_map f ps) (ap (λ r. is_none_of (f r) i) is ∙ there)
among_all f i (suc n) (q ∷ ps) p at there = among_second i (f q) (flat_map f ps) (among_all f i n ps p at there)

piece_there : (w : List ℕ) (n : ℕ) (ps : List Piece) (es : List Effect) → slice_get (map (effects w) ps) n ≡ Some es → (p : Piece) × (slice_get ps n ≡ Some p) × (effects w p ≡ es)
piece_there w n [] es at = absurd (cc)
piece_there w zero (p ∷ ps) es at = (p, refl, cc)
piece_there w (suc n) (p ∷ ps) es at = piece_there w n ps es at

pub phase : (w : List ℕ) (ps : List Piece) (at : List ℕ) (m : ℕ) → All IsPiece ps → CanBeWorked w ps → are_distinct at ≡ true → ((i : ℕ) → is_none_of (flat_map changes ps) i ≡ false → is_none_of at i ≡ false)
    → ((i : ℕ) → is_none_of (flat_map common ps) i ≡ false → is_none_of at i ≡ false) → IsPhase (record { words = w; pieces = ps; indexes = at; watchers = m })
phase w ps at m each can once own others = record {
  opening = record {
    apart = apart w ps each can;
    distinct = once;
    covers =
        λ cs e next.
        let first : IsFirst (record { words = w; pieces = ps; indexes = at; watchers = m }) cs e = first_step (record { words = w; pieces = ps; indexes = at; watchers = m }) cs e next in
        let found = piece_there w first.first.0 ps first.steps first.of in
        by (index_of e) first.first.0 found.0 found.1 (about w found.0 first.first.1 e (ap (λ es. slice_get es first.first.1) found.2 ∙ first.step));
  };
  can = can;
  each = each;
}
  where
    by : (i n : ℕ) (p : Piece) → slice_get ps n ≡ Some p → (is_none_of (changes p) i ≡ false) ⊎ (is_none_of (common p) i ≡ false) → is_none_of at i ≡ false
    by i n p of (inl there) = own i (among_all changes i n ps p of there)
    by i n p of (inr there) = others i (among_all common i n ps p of there)

-- ---- the words that several pieces may have steps about are apart from those that one has

none_changed : (ps : List Piece) → list_all is_touch ps ≡ true → flat_map changes ps ≡ []
none_changed [] all = refl
none_changed (piece.Touch xs ∷ ps) all = none_changed ps all
none_changed (piece.Strip s ∷ ps) all = absurd (cc)
none_changed (piece.Link xs ∷ ps) all = absurd (cc)
none_changed (piece.Move xs ∷ ps) all = absurd (cc)

only_folds : (ps : List Piece) → list_any is_touch ps ≡ false → flat_map common ps ≡ flat_map folds ps
only_folds [] none = refl
only_folds (piece.Strip s ∷ ps) none = ap (λ is. option_to_list s.fold ++ is) (only_folds ps none)
only_folds (piece.Link xs ∷ ps) none = only_folds ps none
only_folds (piece.Move xs ∷ ps) none = only_folds ps none
only_folds (piece.Touch xs ∷ ps) none = absurd (cc)

of_nothing : (is : List ℕ) → list_all (is_none_of []) is ≡ true
of_nothing [] = refl
of_nothing (i ∷ is) = of_nothing is

pub others_apart : (w : List ℕ) (ps : List Piece) → CanBeWorked w ps → list_all (is_none_of (flat_map changes ps)) (flat_map common ps) ≡ true
others_apart w ps can = by (list_all is_touch ps) refl (list_any is_touch ps) refl can.alike
  where
    by : (a : Bool) → list_all is_touch ps ≡ a → (b : Bool) → list_any is_touch ps ≡ b → (a || not b) ≡ true → list_all (is_none_of (flat_map changes ps)) (flat_map common ps) ≡ true
    by true all b any h = ap (λ is. list_all (is_none_of is) (flat_map common ps)) (none_changed ps all) ∙ of_nothing (flat_map common ps)
    by false all true any h = absurd (cc)
    by false all false any h = ap (list_all (is_none_of (flat_map changes ps))) (only_folds ps any) ∙ can.apart

-- ---- the words that are shared are there

puts_too : (test : ℕ → Bool) (xs : List Store) → list_all test (flat_map (λ (s : Store). s.read ∷ s.put ∷ []) xs) ≡ true → list_all test (puts_of xs) ≡ true
puts_too test [] all = refl
puts_too test (s ∷ xs) all =
    let one = both (test s.read) (list_all test (s.put ∷ flat_map (λ (t : Store). t.read ∷ t.put ∷ []) xs)) all in
    let two = both (test s.put) (list_all test (flat_map (λ (t : Store). t.read ∷ t.put ∷ []) xs)) one.1 in
    and_true (test s.put) (list_all test (puts_of xs)) two.0 (puts_too test xs two.1)

changes_too : (test : ℕ → Bool) (p : Piece) → list_all test (named p) ≡ true → list_all test (changes p) ≡ true
changes_too test (piece.Strip s) all = (all_split test s.indexes (option_to_list s.fold) all).0
changes_too test (piece.Link xs) all = puts_too test xs all
changes_too test (piece.Move xs) all = all
changes_too test (piece.Touch xs) all = refl

common_too : (test : ℕ → Bool) (p : Piece) → list_all test (named p) ≡ true → list_all test (common p) ≡ true
common_too test (piece.Strip s) all = (all_split test s.indexes (option_to_list s.fold) all).1
common_too test (piece.Link xs) all = refl
common_too test (piece.Move xs) all = refl
common_too test (piece.Touch xs) all = all

all_append : (test : ℕ → Bool) (is js : List ℕ) → list_all test is ≡ true → list_all test js ≡ true → list_all test (is ++ js) ≡ true
all_append test [] js a b = b
all_append test (i ∷ is) js a b = let parts = both (test i) (list_all test is) a in and_true (test i) (list_all test (is ++ js)) parts.0 (all_append test is js parts.1 b)

all_too : (f : Piece → List ℕ) (test : ℕ → Bool) → ((p : Piece) → list_all test (named p) ≡ true → list_all test (f p) ≡ true) → (ps : List Piece) → list_all test (flat_map named ps) ≡ true → list_all test (flat_map f ps) ≡ true
all_too f test too [] all = refl
all_too f test too (p ∷ ps) all =
    let parts = all_split test (named p) (flat_map named ps) all in
    all_append test (f p) (flat_map f ps) (too p parts.0) (all_too f test too ps parts.1)

pub changes_within : (w : List ℕ) (ps : List Piece) → CanBeWorked w ps → list_all (λ i. nat_lt i (length w)) (flat_map changes ps) ≡ true
changes_within w ps can = all_too changes (λ i. nat_lt i (length w)) (changes_too (λ i. nat_lt i (length w))) ps can.within

pub common_within : (w : List ℕ) (ps : List Piece) → CanBeWorked w ps → list_all (λ i. nat_lt i (length w)) (flat_map common ps) ≡ true
common_within w ps can = all_too common (λ i. nat_lt i (length w)) (common_too (λ i. nat_lt i (length w))) ps can.within

-- every word that is shared is one of all words
pub shared_within : (w : List ℕ) (ps : List Piece) (at : List ℕ) → CanBeWorked w ps
    → ((test : ℕ → Bool) → test 0 ≡ true → list_all test (flat_map changes ps) ≡ true → list_all test (flat_map common ps) ≡ true → list_all test at ≡ true) → All (λ i. i < length w) at
shared_within w ps at can within =
    let test : ℕ → Bool = λ i. nat_lt i (length w) in
    indexes_within (length w) at (within test (lt-ltb 0 (length w) can.some) (changes_within w ps can) (common_within w ps can))
