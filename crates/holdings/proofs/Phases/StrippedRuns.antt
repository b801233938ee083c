-- Runs of any trees stripped in pieces are stripped as the definition strips their first pages.
use Rattle.std.proofs.Common.{◌≡◌, ℕ, zero, suc, true, false, Bool, ◌||◌, not, List, [], ◌∷◌, ◌++◌, length, map, Option, Some, None, slice_index, refl, sym, ap, ◌∙◌, subst, arith}
use Rattle.std.specs.Prelude.{is_some, ◌==◌}
use Rattle.std.specs.List.{All, list_any, list_all, flat_map, slice_range}
use Rattle.std.specs.Option.{option_map}
use Rattle.std.proofs.lemmas.Bool.{and_parts, eq-eqb}
use Rattle.std.proofs.lemmas.List.{map-append}
use Rattle.fpage.specs.Rights.{no_rights, join}
use Rattle.fpage.specs.declared.rights.Rights.{Rights}
use Rattle.fpage.proofs.RightSets.{join_assoc, join_nothing}
use Rattle.space.specs.declared.place.Place.{Place}
use Rattle.space.specs.declared.shards.Shards.{Shards}
use Rattle.space.specs.Place.{same_place}
use Rattle.space.specs.Word.{entry_of}
use Rattle.space.specs.Shards.{IsPlace, index_of, entry_at}
use Rattle.space.proofs.Places.{same_is}
use Rattle.space.specs.declared.node.Node.{Node}
use Rattle.maptree.specs.Origins.{Shape}
use Rattle.model.specs.Definitions.Holdings.{only}
use Rattle.model.specs.Definitions.Lawful.{is_lawful}
use Rattle.model.specs.Definitions.Strip.{strip, strip_word}
use Rattle.model.proofs.LawfulParts.{lawful_parts}
use Rattle.model.proofs.StripUnions.{strip-union, word-union, strip_same, word_same}
use Rattle.pieces.specs.Contents.{StripContent, IsStrip}
use Rattle.pieces.specs.Distinct.{is_none_of}
use Rattle.pieces.specs.Phases.{CanBeWorked, IsPiece, changes, folds, held, is_link}
use Rattle.pieces.specs.Steps.{entry_in, effects}
use Rattle.pieces.specs.Applied.{worked}
use Rattle.pieces.specs.Values.{value}
use Rattle.pieces.specs.Gathering.{union_of}
use Rattle.pieces.specs.declared.piece.Piece.TheVariants as piece
use Rattle.pieces.proofs.AllSteps.{length_words, worked_all, words_none}
use Rattle.pieces.proofs.OneByOne.{first_can, all_first, all_second, changes_apart, folds_of_others_apart, one_after_another, others_can, others_find_the_same, all_held_apart}
use Rattle.holdings.specs.Places.{any_of}
use Rattle.holdings.specs.Inner.Held.{links_in, holdings_in, holdings_of, limits_in}
use Rattle.holdings.specs.Inner.Planning.{strip_of, strips_of_run, all_places, RunPlan, IsRunPlan, strips_of_runs, first_of}
use Rattle.holdings.specs.Inner.Sound.{AreLoose}
use Rattle.holdings.proofs.Contents.WordChanges.{place_kept}
use Rattle.holdings.proofs.Trees.Chains.{is_among}
use Rattle.holdings.proofs.Stripping.Walks.{IsStripped, HaveLost, loose_after, same_layouts, standing_place}
use Rattle.holdings.proofs.Stripping.Sequences.{AreStripped, none_stripped, same_back}
use Rattle.holdings.specs.Inner.Words.{AreWordsOf, IsWith}
use Rattle.holdings.proofs.Phases.Words.{with_words, same_holdings}
use Rattle.holdings.proofs.Phases.StrippedRun.{run_stripped, slice_of_map, any_of_places, join_turned, whole_indexes}

-- ---- strips as pieces

pieces_of_strips : (ss ts : List StripContent) → map piece.Strip (ss ++ ts) ≡ map piece.Strip ss ++ map piece.Strip ts
pieces_of_strips ss ts = map-append piece.Strip ss ts

no_links : (ss : List StripContent) → list_any is_link (map piece.Strip ss) ≡ false
no_links [] = refl
no_links (s ∷ ss) = no_links ss

pub each_strip : (ss : List StripContent) → All IsPiece (map piece.Strip ss) → All IsStrip ss
each_strip [] each k d less = absurd (omega (arith, less))
each_strip (s ∷ ss) each zero d less = each 0 (piece.Strip s) (omega arith)
each_strip (s ∷ ss) each (suc k) d less = each_strip ss (λ j e l. each (suc j) e (omega (arith, l))) k d (omega (arith, less))

union_joined : (xs ys : List Rights) → union_of (xs ++ ys) ≡ join (union_of xs) (union_of ys)
union_joined [] ys = sym (join_turned no_rights (union_of ys) ∙ join_nothing (union_of ys))
union_joined (x ∷ xs) ys = ap (join x) (union_joined xs ys) ∙ sym (join_assoc x (union_of xs) (union_of ys))

-- the union of the status that strips find
abbrev pub status_found : List ℕ → List StripContent → Rights
status_found w ss = union_of (map (λ k. (value w (piece.Strip k)).status) ss)

found_joined : (w : List ℕ) (ss ts : List StripContent) → status_found w (ss ++ ts) ≡ join (status_found w ss) (status_found w ts)
found_joined w ss ts = ap union_of (map-append (λ k. (value w (piece.Strip k)).status) ss ts) ∙ union_joined (map (λ k. (value w (piece.Strip k)).status) ss) (map (λ k. (value w (piece.Strip k)).status) ts)

found_same : (v w : List ℕ) (ss : List StripContent) → map (value v) (map piece.Strip ss) ≡ map (value w) (map piece.Strip ss) → status_found v ss ≡ status_found w ss
found_same v w ss same = ap union_of (by ss same)
  where
    by : (ss : List StripContent) → map (value v) (map piece.Strip ss) ≡ map (value w) (map piece.Strip ss) → map (λ k. (value v (piece.Strip k)).status) ss ≡ map (λ k. (value w (piece.Strip k)).status) ss
    by [] same = refl
    by (s ∷ ss) same =
        let head : value v (piece.Strip s) ≡ value w (piece.Strip s) = cc same in
        let tail : map (value v) (map piece.Strip ss) ≡ map (value w) (map piece.Strip ss) = cc same in
        ap (λ r. r ∷ map (λ k. (value v (piece.Strip k)).status) ss) (ap (λ x. x.status) head) ∙ ap (λ rs. (value w (piece.Strip s)).status ∷ rs) (by ss tail)

-- ---- the same plan by shards that are laid out in one way

module _ (s n : Shards) (same : (p : Place) → index_of n p ≡ index_of s p) (a : Rights) (f : Bool) where
  part_same : (spared : Bool) (origin : Option Place) (part : List Node) → strip_of n spared a origin part ≡ strip_of s spared a origin part
  part_same spared origin part = (λ i. record (strip_of s spared a origin part) { indexes = nodes part i; fold = fold origin i })
    where
      nodes : (part : List Node) → map (λ k. index_of n k.place) part ≡ map (λ k. index_of s k.place) part
      nodes [] = refl
      nodes (k ∷ part) = ap (λ i. i ∷ map (λ k. index_of n k.place) part) (same k.place) ∙ ap (λ is. index_of s k.place ∷ is) (nodes part)

      fold : (origin : Option Place) → option_map (index_of n) origin ≡ option_map (index_of s) origin
      fold None = refl
      fold (Some o) = ap Some (same o)

  rest_same : (origin : Option Place) (parts : List (List Node)) → map (strip_of n false a origin) parts ≡ map (strip_of s false a origin) parts
  rest_same origin [] = refl
  rest_same origin (part ∷ parts) = ap (λ k. k ∷ map (strip_of n false a origin) parts) (part_same false origin part) ∙ ap (λ ks. strip_of s false a origin part ∷ ks) (rest_same origin parts)

  run_same : (origin : Option Place) (parts : List (List Node)) → strips_of_run n a f origin parts ≡ strips_of_run s a f origin parts
  run_same origin [] = refl
  run_same origin (part ∷ parts) = ap (λ k. k ∷ map (strip_of n false a origin) parts) (part_same (not f) origin part) ∙ ap (λ ks. strip_of s (not f) a origin part ∷ ks) (rest_same origin parts)

  pub runs_same : (plans : List RunPlan) → strips_of_runs n a f plans ≡ strips_of_runs s a f plans
  runs_same [] = refl
  runs_same (plan ∷ plans) = ap (λ ks. ks ++ strips_of_runs n a f plans) (run_same plan.origin plan.parts) ∙ ap (λ ks. strips_of_run s a f plan.origin plan.parts ++ ks) (runs_same plans)

-- ---- one run, and then the others

then_stripped : (old : Shards) (trees : List Shape) → AreLoose old trees → (a : Rights) (f : Bool) (c : Place) (ps : List Place) (mid now : Shards) (first second : Rights)
    → IsStripped old trees c a f mid first → AreStripped mid trees ps a f now second → AreStripped old trees (c ∷ ps) a f now (join first second)
then_stripped old trees loose a f c ps mid now first second run runs =
    let h = holdings_in old trees in
    let lawful = lawful_parts h loose.lawful in
    let same : (p : Place) → any_of (c ∷ ps) p ≡ (only c p || any_of ps p) = λ p. ap (λ b. b || any_of ps p) (same_back p c) in
    record {
      word = ap (join first) (runs.word ∙ ap (λ k. strip_word k (any_of ps)) run.left) ∙ ap (λ r. join r (strip_word (strip h (only c) a f) (any_of ps))) run.word
          ∙ word-union h lawful (only c) a f (any_of ps) ∙ sym (word_same h lawful (any_of (c ∷ ps)) (λ p. only c p || any_of ps p) (λ p _. same p));
      left = runs.left ∙ ap (λ k. strip k (any_of ps) a f) run.left ∙ strip-union h lawful (only c) a f (any_of ps)
          ∙ sym (strip_same h lawful (any_of (c ∷ ps)) (λ p. only c p || any_of ps p) (λ p _. same p) a f);
      loose = runs.loose;
      layout = same_layouts old mid now run.layout runs.layout;
    }

-- no run: the words are as they were
no_runs : (old : Shards) (trees : List Shape) → AreLoose old trees → (a : Rights) (f : Bool) (w : List ℕ) → AreWordsOf old w → (new : Shards) → IsWith old w new → AreStripped old trees [] a f new no_rights
no_runs old trees loose a f w are new with =
    let nothing = none_stripped old trees loose a f in
    let same : (p : Place) → IsPlace old p → entry_at new p ≡ entry_at old p = λ p place.
    sym (with.words.entries p (place_kept old new with.layout p place)) ∙ ap (λ i. entry_of (slice_index w i)) (with.layout.index p) ∙ are.entries p place in
    let limits : limits_in new trees ≡ limits_in old trees = λ i. record { spaces = with.layout.spaces i; bits = with.layout.bits i; frames = length trees } in
    let left : holdings_in new trees ≡ holdings_in old trees = ap (λ l. holdings_of l new trees) limits ∙ same_holdings (limits_in old trees) old new trees loose.fits with.present with.layout same in
    let lost : HaveLost old new = record { layout = with.layout; present = with.present; frames = λ p place e is. (e, sym (same p place) ∙ is, refl) } in
    record {
      word = nothing.word;
      left = left ∙ nothing.left;
      loose = loose_after old new trees loose lost (ap is_lawful left ∙ loose.lawful);
      layout = with.layout;
    }

-- ---- what is asked of the words of the first run

-- a place whose word is none of those of some places is none of them
none_named : (s : Shards) (o : Place) (ps : List Place) → is_none_of (map (index_of s) ps) (index_of s o) ≡ true → any_of ps o ≡ false
none_named s o [] none = refl
none_named s o (p ∷ ps) none =
    let parts = and_parts (not (index_of s p == index_of s o)) (is_none_of (map (index_of s) ps) (index_of s o)) none in
    by (same_place o p) refl parts.0 (none_named s o ps parts.1)
  where
    by : (b : Bool) → same_place o p ≡ b → not (index_of s p == index_of s o) ≡ true → any_of ps o ≡ false → (b || any_of ps o) ≡ false
    by false apart differs rest = rest
    by true same differs rest = absurd (cc (differs, ap not (eq-eqb (index_of s p) (index_of s o) (ap (index_of s) (sym (same_is o p same))))))

pub changes_of_strips : (ss : List StripContent) → flat_map changes (map piece.Strip ss) ≡ flat_map (λ s. s.indexes) ss
changes_of_strips [] = refl
changes_of_strips (s ∷ ss) = ap (λ is. s.indexes ++ is) (changes_of_strips ss)

module _ (old : Shards) (trees : List Shape) (loose : AreLoose old trees) (w : List ℕ) (are : AreWordsOf old w) (a : Rights) (f : Bool) (plan : RunPlan) (planned : IsRunPlan trees plan) where
  -- the fold word is that of a held page
  origin_held : (part : List Node) (parts : List (List Node)) → CanBeWorked w (map piece.Strip (strips_of_run old a f plan.origin (part ∷ parts))) → (o : Place) → plan.origin ≡ Some o → is_some (entry_at old o) ≡ true
  origin_held part parts can o is =
      let place = standing_place old trees plan.frame loose o (planned.origin.stands o is) in
      ap is_some (sym (are.entries o place)) ∙ by plan.origin is can.entries
    where
      by : (x : Option Place) → x ≡ Some o → list_all (λ i. is_some (entry_in w i)) (flat_map held (map piece.Strip (strips_of_run old a f x (part ∷ parts)))) ≡ true → is_some (entry_of (slice_index w (index_of old o))) ≡ true
      by None none all = absurd (cc none)
      by (Some y) same all = let here = (and_parts (is_some (entry_in w (index_of old y))) _ all).0 in let one : y ≡ o = cc same in subst (λ x. is_some (entry_in w (index_of old x)) ≡ true) one here

  -- and none of those of the run
  origin_apart : (part : List Node) (parts : List (List Node)) → all_places (part ∷ parts) ≡ slice_range (map (λ o. o.0) (links_in trees plan.frame)) plan.run.start plan.run.end
      → CanBeWorked w (map piece.Strip (strips_of_run old a f plan.origin (part ∷ parts))) → (o : Place) → plan.origin ≡ Some o → is_among (links_in trees plan.frame) plan.run.start plan.run.end o ≡ false
  origin_apart part parts places can o is =
      let none : is_none_of (map (index_of old) (all_places (part ∷ parts))) (index_of old o) ≡ true =
      ap (λ is. is_none_of is (index_of old o)) (sym (changes_of_strips (strips_of_run old a f plan.origin (part ∷ parts)) ∙ whole_indexes old a plan.origin f part parts)) ∙ by plan.origin is can.apart in
      sym (any_of_places (slice_range (links_in trees plan.frame) plan.run.start plan.run.end) o) ∙ ap (λ ps. any_of ps o) (sym (places ∙ slice_of_map (links_in trees plan.frame) plan.run.start plan.run.end))
      ∙ none_named old o (all_places (part ∷ parts)) none
    where
      by : (x : Option Place) → x ≡ Some o → list_all (is_none_of (flat_map changes (map piece.Strip (strips_of_run old a f x (part ∷ parts))))) (flat_map folds (map piece.Strip (strips_of_run old a f x (part ∷ parts)))) ≡ true
          → is_none_of (flat_map changes (map piece.Strip (strips_of_run old a f plan.origin (part ∷ parts)))) (index_of old o) ≡ true
      by None none all = absurd (cc none)
      by (Some y) same all =
          let here = (and_parts (is_none_of (flat_map changes (map piece.Strip (strips_of_run old a f (Some y) (part ∷ parts)))) (index_of old y)) _ all).0 in
          let one : y ≡ o = cc same in
          subst (λ x. is_none_of (flat_map changes (map piece.Strip (strips_of_run old a f x (part ∷ parts)))) (index_of old o) ≡ true) (sym is)
          (subst (λ x. is_none_of (flat_map changes (map piece.Strip (strips_of_run old a f (Some x) (part ∷ parts)))) (index_of old x) ≡ true) one here)

  -- the first run is stripped
  first_stripped : (mid : Shards) → All IsStrip (strips_of_run old a f plan.origin plan.parts) → CanBeWorked w (map piece.Strip (strips_of_run old a f plan.origin plan.parts)) → IsWith old (worked w (map piece.Strip (strips_of_run old a f plan.origin plan.parts))) mid
      → IsStripped old trees (first_of trees plan) a f mid (status_found w (strips_of_run old a f plan.origin plan.parts))
  first_stripped mid =
      subst (λ parts. all_places parts ≡ slice_range (map (λ o. o.0) (links_in trees plan.frame)) plan.run.start plan.run.end → All IsStrip (strips_of_run old a f plan.origin parts)
      → CanBeWorked w (map piece.Strip (strips_of_run old a f plan.origin parts)) → IsWith old (worked w (map piece.Strip (strips_of_run old a f plan.origin parts))) mid
      → IsStripped old trees (first_of trees plan) a f mid (status_found w (strips_of_run old a f plan.origin parts)))
      (sym planned.parts)
      (λ places each can with. run_stripped old trees loose plan.frame plan.run planned.is_run planned.some planned.within a f plan.origin planned.origin planned.first planned.first_part planned.others places w are each
      (origin_held (planned.first ∷ planned.first_part) planned.others can) (origin_apart (planned.first ∷ planned.first_part) planned.others places can) mid with (record { space = 0; page = 0 }))
      planned.places

-- ---- all runs

pub runs_stripped : (trees : List Shape) (a : Rights) (f : Bool) (plans : List RunPlan) → All (IsRunPlan trees) plans → (old : Shards) → AreLoose old trees → (w : List ℕ) → AreWordsOf old w
    → All IsPiece (map piece.Strip (strips_of_runs old a f plans)) → CanBeWorked w (map piece.Strip (strips_of_runs old a f plans)) → (new : Shards) → IsWith old (worked w (map piece.Strip (strips_of_runs old a f plans))) new
    → AreStripped old trees (map (first_of trees) plans) a f new (status_found w (strips_of_runs old a f plans))
runs_stripped trees a f [] planned old loose w are each can new with = no_runs old trees loose a f w are new (subst (λ v. IsWith old v new) (worked_all w [] ∙ words_none 0 w) with)
runs_stripped trees a f (plan ∷ plans) planned old loose w are each can new with =
    let xs = strips_of_run old a f plan.origin plan.parts in
    let ys = strips_of_runs old a f plans in
    let ps = map piece.Strip xs in
    let qs = map piece.Strip ys in
    let split : map piece.Strip (xs ++ ys) ≡ ps ++ qs = pieces_of_strips xs ys in
    let each_one : All IsPiece (ps ++ qs) = subst (All IsPiece) split each in
    let can_all : CanBeWorked w (ps ++ qs) = subst (CanBeWorked w) split can in
    let spared = all_held_apart (flat_map changes ps) qs (no_links ys) (changes_apart w ps qs can_all) (folds_of_others_apart w ps qs can_all) in
    let can_others = others_can w ps qs each_one can_all spared in
    let middle = with_words old loose.fits.present (worked w ps) (ap length (worked_all w ps) ∙ length_words 0 w (flat_map (effects w) ps) ∙ are.count) can_others.packs in
    let mid = middle.0 in
    let run = first_stripped old trees loose w are a f plan (planned 0 plan (omega arith)) mid (each_strip xs (all_first ps qs each_one)) (first_can w ps qs can_all) middle.1 in
    let same : strips_of_runs mid a f plans ≡ ys = runs_same old mid middle.1.layout.index a f plans in
    let rest = runs_stripped trees a f plans (λ k d less. planned (suc k) d (omega (arith, less))) mid run.loose (worked w ps) middle.1.words
    (subst (λ ss. All IsPiece (map piece.Strip ss)) (sym same) (all_second ps qs each_one)) (subst (λ ss. CanBeWorked (worked w ps) (map piece.Strip ss)) (sym same) can_others) new
    (record {
      words = subst (AreWordsOf new) (ap (worked w) split ∙ one_after_another w ps qs each_one can_all spared ∙ ap (λ ss. worked (worked w ps) (map piece.Strip ss)) (sym same)) with.words;
      present = with.present;
      layout = record { spaces = with.layout.spaces ∙ sym middle.1.layout.spaces; bits = with.layout.bits ∙ sym middle.1.layout.bits; count = with.layout.count ∙ sym middle.1.layout.count; index = λ p. with.layout.index p ∙ sym (middle.1.layout.index p) };
    }) in
    let status : status_found w (xs ++ ys) ≡ join (status_found w xs) (status_found (worked w ps) (strips_of_runs mid a f plans)) =
    found_joined w xs ys ∙ ap (join (status_found w xs)) (sym (ap (status_found (worked w ps)) same ∙ found_same (worked w ps) w ys (others_find_the_same w ps qs each_one can_all))) in
    subst (AreStripped old trees (map (first_of trees) (plan ∷ plans)) a f new) (sym status)
    (then_stripped old trees loose a f (first_of trees plan) (map (first_of trees) plans) mid new (status_found w xs) (status_found (worked w ps) (strips_of_runs mid a f plans)) run rest)
