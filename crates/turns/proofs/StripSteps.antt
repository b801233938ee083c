-- The steps of a strip, one by one.
use Rattle.std.proofs.Common.{◌≡◌, ℕ, zero, suc, ◌+◌, ◌<◌, ◌≤◌, Bool, true, false, List, [], ◌∷◌, ◌++◌, length, map, take, get_or, set, min, Option, Some, None, refl, ap, ◌∙◌, sym, subst, arith, length-append, if◌then◌else◌}
use Rattle.std.specs.Prelude.{slice_get}
use Rattle.std.specs.List.{zip}
use Rattle.std.specs.Option.{is_some, option_and_then, option_map}
use Rattle.std.proofs.lemmas.Option.{slice_get-map}
use Rattle.std.proofs.lemmas.List.{take_all}
use Rattle.std.proofs.lemmas.Grind.{get_or_default_zero}
use Rattle.fpage.specs.Rights.{no_rights, join}
use Rattle.fpage.specs.declared.rights.Rights.{Rights}
use Rattle.space.specs.declared.node.Node.{Node}
use Rattle.space.specs.Entries.{status_of}
use Rattle.space.specs.Word.{word_of, entry_of}
use Rattle.pieces.specs.Contents.{StripContent, IsStrip}
use Rattle.pieces.specs.Effects.{Effect, adds, writes}
use Rattle.pieces.specs.Phases.{NamesWords}
use Rattle.pieces.specs.Steps.{Step, narrow, fold, effect, effects, steps, strip_steps, fold_of, entry_in, narrowed_by, status_in, status_bits}
use Rattle.pieces.specs.declared.piece.Piece.{Piece}
use Rattle.pieces.specs.declared.piece.Piece.TheVariants as piece
use Rattle.pieces.specs.Values.{remains}
use Rattle.pieces.proofs.Keeping.{IsFront, kept_next, left_out, status_next}
use Rattle.pieces.proofs.NamedWords.{one_names}
use Rattle.turns.specs.Rules.{next_step}
use Rattle.turns.specs.SharedWords.{IsPhase}
use Rattle.turns.specs.Works.{IsStripWork}
use Rattle.turns.specs.declared.strip_work.StripWork.{StripWork}
use Rattle.turns.specs.declared.view.Opening.{Opening}

-- ---- of any piece

-- the next step of a piece
pub next_is : (o : Opening) (n k : ℕ) (p : Piece) (e : Effect) → slice_get o.pieces n ≡ Some p → slice_get (effects o.words p) k ≡ Some e → next_step o ((n, k) ∷ []) ≡ Some e
next_is o n k p e of step = ap (λ found. option_and_then (λ es. slice_get es k) found) (slice_get-map (effects o.words) o.pieces n ∙ ap (option_map (effects o.words)) of) ∙ step

pub names : (o : Opening) → IsPhase o → (n : ℕ) (p : Piece) → slice_get o.pieces n ≡ Some p → NamesWords o.words p
names o phase n p of = one_names o.words o.pieces n p phase.can.within of

-- ---- of a strip

narrows_length : (is : List ℕ) (ms : List Rights) → length ms ≡ length is → length (map (λ e. narrow e.0 e.1) (zip is ms)) ≡ length is
narrows_length [] ms same = refl
narrows_length (i ∷ is) [] same = absurd (omega (arith, same))
narrows_length (i ∷ is) (m ∷ ms) same = ap suc (narrows_length is ms (omega (arith, same)))

length_more : {A : Type 0} (xs ys : List A) → length (xs ++ ys) ≡ length xs + length ys
length_more xs ys = length-append xs ys

pub strip_length : (w : List ℕ) (s : StripContent) → IsStrip s → (extra : ℕ) → extra ≡ length (fold_of s.fold (status_in w s.indexes)) → length s.indexes + extra ≡ length (steps w (piece.Strip s))
strip_length w s is extra more =
    let a : ℕ = length (map (λ e. narrow e.0 e.1) (zip s.indexes s.masks)) in
    let b : ℕ = length s.indexes in
    let a_is : a ≡ b = narrows_length s.indexes s.masks (is.masks ∙ sym is.indexes) in
    let c : ℕ = length (fold_of s.fold (status_in w s.indexes)) in
    let d : ℕ = length (strip_steps w s) in
    let d_is : d ≡ a + c = length_more (map (λ e. narrow e.0 e.1) (zip s.indexes s.masks)) (fold_of s.fold (status_in w s.indexes)) in
    omega (arith, a_is, d_is, more)

narrow_at : (w : List ℕ) (k : ℕ) (is : List ℕ) (ms : List Rights) (m : Rights) (rest : List Step) → k < length is → length ms ≡ length is
    → slice_get (map (effect w) (map (λ e. narrow e.0 e.1) (zip is ms) ++ rest)) k ≡ Some (effect w (narrow (get_or is k 0) (get_or ms k m)))
narrow_at w k [] ms m rest less same = absurd (omega (arith, less))
narrow_at w k (i ∷ is) [] m rest less same = absurd (omega (arith, same))
narrow_at w zero (i ∷ is) (x ∷ ms) m rest less same = refl
narrow_at w (suc k) (i ∷ is) (x ∷ ms) m rest less same = narrow_at w k is ms m rest (omega (arith, less)) (omega (arith, same))

pub narrow_step : (w : List ℕ) (s : StripContent) → IsStrip s → (k : ℕ) (m : Rights) → k < length s.nodes
    → slice_get (effects w (piece.Strip s)) k ≡ Some (writes (get_or s.indexes k 0) (word_of (narrowed_by (get_or s.masks k m) (entry_in w (get_or s.indexes k 0)))))
narrow_step w s is k m less = narrow_at w k s.indexes s.masks m (fold_of s.fold (status_in w s.indexes)) (omega (arith, less, is.indexes)) (is.masks ∙ sym is.indexes)

behind : (w : List ℕ) (is : List ℕ) (ms : List Rights) (step : Step) → length ms ≡ length is → slice_get (map (effect w) (map (λ e. narrow e.0 e.1) (zip is ms) ++ step ∷ [])) (length is) ≡ Some (effect w step)
behind w [] ms step same = refl
behind w (i ∷ is) [] step same = absurd (omega (arith, same))
behind w (i ∷ is) (x ∷ ms) step same = behind w is ms step (omega (arith, same))

pub fold_step : (w : List ℕ) (s : StripContent) → IsStrip s → (k i : ℕ) → k ≡ length s.indexes → s.fold ≡ Some i → slice_get (effects w (piece.Strip s)) k ≡ Some (adds i (status_bits (status_in w s.indexes)))
fold_step w s is k i last at =
    ap (λ f. slice_get (map (effect w) (map (λ e. narrow e.0 e.1) (zip s.indexes s.masks) ++ fold_of f (status_in w s.indexes))) k) at
    ∙ ap (slice_get (map (effect w) (map (λ e. narrow e.0 e.1) (zip s.indexes s.masks) ++ fold i (status_in w s.indexes) ∷ []))) last
    ∙ behind w s.indexes s.masks (fold i (status_in w s.indexes)) (is.masks ∙ sym is.indexes)

-- the step of a node, at any moment of the strip
pub node_written : (o : Opening) (n k steps : ℕ) (job : StripWork) → slice_get o.pieces n ≡ Some (piece.Strip job.of.value) → IsStripWork o.words job steps → k < length job.of.value.nodes
    → (index : ℕ) → index ≡ get_or job.indexes.items k 0
    → next_step o ((n, k) ∷ []) ≡ Some (writes index (word_of (narrowed_by (get_or job.of.value.masks k no_rights) (entry_in o.words index))))
node_written o n k steps job of work less index at =
    let is : index ≡ get_or job.of.value.indexes k 0 = at ∙ ap (λ js. get_or js k 0) work.indexes in
    next_is o n k (piece.Strip job.of.value) (writes index (word_of (narrowed_by (get_or job.of.value.masks k no_rights) (entry_in o.words index)))) of
    (narrow_step o.words job.of.value work.strip k no_rights less ∙ ap (λ j. Some (writes j (word_of (narrowed_by (get_or job.of.value.masks k no_rights) (entry_in o.words j))))) (sym is))

-- ---- a node's step

-- what is read behind the end
none : Node
none = record { place = record { space = 0; page = 0 }; depth = 0 }

module _ (o : Opening) (phase : IsPhase o) (n k : ℕ) (job : StripWork) (of : slice_get o.pieces n ≡ Some (piece.Strip job.of.value)) (work : IsStripWork o.words job k) (less : k < length job.of.value.nodes) where
  its_length : length job.indexes.items ≡ length job.of.value.nodes
  its_length = ap length work.indexes ∙ work.strip.indexes

  pub is_index : (index : ℕ) → index ≡ get_or job.indexes.items k index → index ≡ get_or job.of.value.indexes k 0
  is_index index at = at ∙ get_or_default_zero job.indexes.items k index (omega (arith, less, its_length)) ∙ ap (λ js. get_or js k 0) work.indexes

  pub narrow_next : (index x word : ℕ) (mask : Rights) → index ≡ get_or job.indexes.items k index → ((d : Rights) → mask ≡ get_or job.masks k d) → word ≡ get_or o.words index 0 → x ≡ word_of (narrowed_by mask (entry_of word))
      → next_step o ((n, k) ∷ []) ≡ Some (writes index x)
  narrow_next index x word mask at masked read made =
      let i : ℕ = get_or job.of.value.indexes k 0 in
      let i_is : index ≡ i = is_index index at in
      let m_is : mask ≡ get_or job.of.value.masks k no_rights = masked no_rights ∙ ap (λ ms. get_or ms k no_rights) work.masks in
      let x_is : x ≡ word_of (narrowed_by (get_or job.of.value.masks k no_rights) (entry_in o.words i)) =
      made ∙ ap (λ m. word_of (narrowed_by m (entry_of word))) m_is ∙ ap (λ y. word_of (narrowed_by (get_or job.of.value.masks k no_rights) (entry_of y))) (read ∙ ap (λ j. get_or o.words j 0) i_is) in
      next_is o n k (piece.Strip job.of.value) (writes index x) of (narrow_step o.words job.of.value work.strip k no_rights less ∙ ap (λ j. Some (writes j (word_of (narrowed_by (get_or job.of.value.masks k no_rights) (entry_in o.words i))))) (sym i_is) ∙ ap (λ y. Some (writes index y)) (sym x_is))

  pub status_more : (index found : ℕ) (status new : Rights) → index ≡ get_or job.indexes.items k index → found ≡ get_or o.words index 0 → new ≡ status_of (entry_of found) → status ≡ join job.status new
      → status ≡ status_in o.words (take (k + 1) job.of.value.indexes)
  status_more index found status new at read new_is joined =
      joined ∙ ap (join job.status) (new_is ∙ ap (λ y. status_of (entry_of y)) (read ∙ ap (λ j. get_or o.words j 0) (is_index index at)))
      ∙ ap (λ s. join s (status_of (entry_in o.words (get_or job.of.value.indexes k 0)))) work.status ∙ sym (status_next o.words job.of.value.indexes k (omega (arith, less, work.strip.indexes)))

  so_far : IsFront o.words job.of.value.nodes job.of.value.indexes job.of.value.masks k job.kept job.slice.nodes.items
  so_far = let reached : min k (length job.of.value.nodes) ≡ k = omega (arith, less) in subst (λ j. IsFront o.words job.of.value.nodes job.of.value.indexes job.of.value.masks j job.kept job.slice.nodes.items) reached work.front

  remains_same : (index found : ℕ) (mask : Rights) (left : Bool) → index ≡ get_or job.indexes.items k index → found ≡ get_or o.words index 0 → ((d : Rights) → mask ≡ get_or job.masks k d) → left ≡ is_some (narrowed_by mask (entry_of found))
      → remains o.words (get_or job.of.value.indexes k 0) (get_or job.of.value.masks k no_rights) ≡ left
  remains_same index found mask left at read masked is =
      sym
      (is ∙ ap (λ m. is_some (narrowed_by m (entry_of found))) (masked no_rights ∙ ap (λ ms. get_or ms k no_rights) work.masks)
      ∙ ap (λ y. is_some (narrowed_by (get_or job.of.value.masks k no_rights) (entry_of y))) (read ∙ ap (λ j. get_or o.words j 0) (is_index index at)))

  pub node_kept : (index found : ℕ) (mask : Rights) (left : Bool) (x : Node) → index ≡ get_or job.indexes.items k index → found ≡ get_or o.words index 0 → ((d : Rights) → mask ≡ get_or job.masks k d)
      → left ≡ is_some (narrowed_by mask (entry_of found)) → left ≡ true → x ≡ get_or job.slice.nodes.items k x
      → IsFront o.words job.of.value.nodes job.of.value.indexes job.of.value.masks (min (k + 1) (length job.of.value.nodes)) (job.kept + 1) (set job.slice.nodes.items job.kept x)
  node_kept index found mask left x at read masked is there node =
      let reached : k + 1 ≡ min (k + 1) (length job.of.value.nodes) = omega (arith, less) in
      subst (λ j. IsFront o.words job.of.value.nodes job.of.value.indexes job.of.value.masks j (job.kept + 1) (set job.slice.nodes.items job.kept x)) reached
      (kept_next o.words job.of.value.nodes job.of.value.indexes job.of.value.masks k job.kept job.slice.nodes.items no_rights so_far work.many work.strip.masks work.strip.indexes less x x
      (remains_same index found mask left at read masked is ∙ there) node)

  pub node_gone : (index found : ℕ) (mask : Rights) (left : Bool) → index ≡ get_or job.indexes.items k index → found ≡ get_or o.words index 0 → ((d : Rights) → mask ≡ get_or job.masks k d)
      → left ≡ is_some (narrowed_by mask (entry_of found)) → left ≡ false
      → IsFront o.words job.of.value.nodes job.of.value.indexes job.of.value.masks (min (k + 1) (length job.of.value.nodes)) job.kept job.slice.nodes.items
  node_gone index found mask left at read masked is no_right =
      let reached : k + 1 ≡ min (k + 1) (length job.of.value.nodes) = omega (arith, less) in
      subst (λ j. IsFront o.words job.of.value.nodes job.of.value.indexes job.of.value.masks j job.kept job.slice.nodes.items) reached
      (left_out o.words job.of.value.nodes job.of.value.indexes job.of.value.masks k job.kept job.slice.nodes.items no_rights so_far work.many work.strip.masks work.strip.indexes less none
      (remains_same index found mask left at read masked is ∙ no_right))

-- ---- the fold

folds_as : (w is : List ℕ) (fold : Option ℕ) → length (fold_of fold (status_in w is)) ≡ (if is_some fold then 1 else 0)
folds_as w is None = refl
folds_as w is (Some i) = refl

pub many_steps : (w : List ℕ) (v : List ℕ) (job : StripWork) (k : ℕ) → IsStripWork v job k → (len extra : ℕ) → len ≡ length job.indexes.items → extra ≡ (if is_some job.fold then 1 else 0) → len + extra ≡ length (steps w (piece.Strip job.of.value))
many_steps w v job k work len extra len_is extra_is =
    ap (λ n. n + extra) (len_is ∙ ap length work.indexes)
    ∙ strip_length w job.of.value work.strip extra (extra_is ∙ ap (λ f. if is_some f then 1 else 0) work.fold ∙ sym (folds_as w job.of.value.indexes job.of.value.fold))

-- behind the last node there is a fold alone
pub record IsLast (w : List ℕ) (job : StripWork) (k : ℕ) : Type 0 where
  pub last : k ≡ length job.of.value.indexes
  pub some : job.of.value.fold ≡ None → ⊥

pub is_last : (w : List ℕ) (job : StripWork) (k len : ℕ) → IsStripWork w job k → k < length (steps w (piece.Strip job.of.value)) → len ≡ length job.indexes.items → len ≤ k → IsLast w job k
is_last w job k len work less len_is past =
    let n : ℕ = length (steps w (piece.Strip job.of.value)) in
    let extra : ℕ = length (fold_of job.of.value.fold (status_in w job.of.value.indexes)) in
    let m : ℕ = length job.of.value.indexes in
    let many : m + extra ≡ n = strip_length w job.of.value work.strip extra refl in
    let len_m : len ≡ m = len_is ∙ ap length work.indexes in
    let few : extra ≤ 1 = one job.of.value.fold in
    record {
      last = omega (arith, less, many, few, past, len_m);
      some = λ nothing. let extra0 : extra ≡ 0 = ap (λ f. length (fold_of f (status_in w job.of.value.indexes))) nothing in omega (arith, less, many, extra0, past, len_m);
    }
  where
    one : (f : Option ℕ) → length (fold_of f (status_in w job.of.value.indexes)) ≤ 1
    one None = omega arith
    one (Some i) = omega arith

module _ (o : Opening) (n k : ℕ) (job : StripWork) (of : slice_get o.pieces n ≡ Some (piece.Strip job.of.value)) (work : IsStripWork o.words job k) (last : k ≡ length job.of.value.indexes) where
  pub whole_status : job.status ≡ status_in o.words job.of.value.indexes
  whole_status = work.status ∙ ap (status_in o.words) (ap (λ j. take j job.of.value.indexes) last ∙ take_all (length job.of.value.indexes) job.of.value.indexes (omega arith))

  pub fold_next : (index bits : ℕ) → job.fold ≡ Some index → bits ≡ status_bits job.status → next_step o ((n, k) ∷ []) ≡ Some (adds index bits)
  fold_next index bits at is =
      next_is o n k (piece.Strip job.of.value) (adds index bits) of
      (fold_step o.words job.of.value work.strip k index last (sym work.fold ∙ at) ∙ ap (λ b. Some (adds index b)) (ap status_bits (sym whole_status) ∙ sym is))

  pub folded : IsStripWork o.words job (k + 1)
  folded =
      let m : ℕ = length job.of.value.indexes in
      let same : m ≡ length job.of.value.nodes = work.strip.indexes in
      let reached : min k (length job.of.value.nodes) ≡ min (k + 1) (length job.of.value.nodes) = omega (arith, last, same) in
      record {
        strip = work.strip;
        masks = work.masks;
        indexes = work.indexes;
        fold = work.fold;
        many = work.many;
        front = subst (λ j. IsFront o.words job.of.value.nodes job.of.value.indexes job.of.value.masks j job.kept job.slice.nodes.items) reached work.front;
        status = whole_status ∙ ap (status_in o.words) (sym (take_all (k + 1) job.of.value.indexes (omega (arith, last))));
      }

-- a strip has a step for each node, at least
pub step_each : (w : List ℕ) (s : StripContent) → IsStrip s → length s.nodes ≤ length (steps w (piece.Strip s))
step_each w s is =
    let n : ℕ = length (steps w (piece.Strip s)) in
    let extra : ℕ = length (fold_of s.fold (status_in w s.indexes)) in
    let m : ℕ = length s.indexes in
    let many : m + extra ≡ n = strip_length w s is extra refl in
    let same : m ≡ length s.nodes = is.indexes in
    omega (arith, many, same)
