-- Nodes that are kept, moved to the front, and the status of the words so far.
use Rattle.std.proofs.Common.{◌≡◌, ℕ, zero, suc, ◌+◌, ◌<◌, ◌≤◌, Bool, true, false, List, [], ◌∷◌, ◌++◌, length, map, filter, take, drop, get_or, set, refl, ap, ◌∙◌, sym, arith, cond}
use Rattle.std.specs.List.{zip}
use Rattle.std.proofs.lemmas.List.{take_more, take_more_set, drop-set-lt, drop-drop, append-nil, get_or-drop}
use Rattle.fpage.specs.declared.rights.Rights.{Rights}
use Rattle.space.specs.declared.node.Node.{Node}
use Rattle.fpage.specs.Rights.{join}
use Rattle.fpage.proofs.RightSets.{join_nothing}
use Rattle.space.specs.Entries.{status_of}
use Rattle.pieces.specs.Steps.{entry_in, status_in}
use Rattle.pieces.specs.Values.{remains}
use Rattle.pieces.proofs.InPieces.{status_append}
use Rattle.pieces.specs.Kept.{nodes_kept}

-- one node more
kept_more : (w : List ℕ) (nodes : List Node) (is : List ℕ) (ms : List Rights) (k : ℕ) (n : Node) (m : Rights) → k < length nodes → k < length is → k < length ms
    → nodes_kept w (take (k + 1) nodes) is ms ≡ nodes_kept w (take k nodes) is ms ++ cond (remains w (get_or is k 0) (get_or ms k m)) (get_or nodes k n ∷ []) []
kept_more w [] is ms k n m a b c = absurd (omega (arith, a))
kept_more w (x ∷ nodes) [] ms k n m a b c = absurd (omega (arith, b))
kept_more w (x ∷ nodes) (i ∷ is) [] k n m a b c = absurd (omega (arith, c))
kept_more w (x ∷ nodes) (i ∷ is) (r ∷ ms) zero n m a b c = by (remains w i r)
  where
    first : Node × (ℕ × Rights) → Node
    first e = e.0

    by : (t : Bool) → map first (cond t ((x, (i, r)) ∷ []) []) ≡ cond t (x ∷ []) []
    by true = refl
    by false = refl
kept_more w (x ∷ nodes) (i ∷ is) (r ∷ ms) (suc k) n m a b c =
    let next : suc k + 1 ≡ suc (k + 1) = omega arith in
    rw next (by (remains w i r) (kept_more w nodes is ms k n m (omega (arith, a)) (omega (arith, b)) (omega (arith, c))))
  where
    end : List Node
    end = cond (remains w (get_or is k 0) (get_or ms k m)) (get_or nodes k n ∷ []) []

    by : (t : Bool) → nodes_kept w (take (k + 1) nodes) is ms ≡ nodes_kept w (take k nodes) is ms ++ end
        → map (λ e. e.0) (cond t ((x, (i, r)) ∷ filter (λ e. remains w e.1.0 e.1.1) (zip (take (k + 1) nodes) (zip is ms))) (filter (λ e. remains w e.1.0 e.1.1) (zip (take (k + 1) nodes) (zip is ms))))
        ≡ map (λ e. e.0) (cond t ((x, (i, r)) ∷ filter (λ e. remains w e.1.0 e.1.1) (zip (take k nodes) (zip is ms))) (filter (λ e. remains w e.1.0 e.1.1) (zip (take k nodes) (zip is ms)))) ++ end
    by true rest = ap (λ ns. x ∷ ns) rest
    by false rest = rest

-- what the loop over the nodes keeps
pub record IsFront (w : List ℕ) (given : List Node) (is : List ℕ) (ms : List Rights) (k kept : ℕ) (nodes : List Node) : Type 0 where
  pub few : kept ≤ k
  pub front : take kept nodes ≡ nodes_kept w (take k given) is ms
  pub rest : drop k nodes ≡ drop k given

module _ (w : List ℕ) (given : List Node) (is : List ℕ) (ms : List Rights) (k kept : ℕ) (nodes : List Node) (m : Rights) (so_far : IsFront w given is ms k kept nodes) (long : length nodes ≡ length given)
    (masks : length ms ≡ length given) (indexes : length is ≡ length given) (within : k < length given) where
  same_node : (n : Node) → get_or nodes k n ≡ get_or given k n
  same_node n =
      let here : k + 0 ≡ k = omega arith in
      sym (ap (λ j. get_or nodes j n) here) ∙ sym (get_or-drop k nodes 0 n) ∙ ap (λ ns. get_or ns 0 n) so_far.rest ∙ get_or-drop k given 0 n ∙ ap (λ j. get_or given j n) here

  rest_next : drop (k + 1) nodes ≡ drop (k + 1) given
  rest_next = sym (drop-drop 1 k nodes) ∙ ap (drop 1) so_far.rest ∙ drop-drop 1 k given

  pub kept_next : (x n : Node) → remains w (get_or is k 0) (get_or ms k m) ≡ true → x ≡ get_or nodes k n → IsFront w given is ms (k + 1) (kept + 1) (set nodes kept x)
  kept_next x n left is_node = record {
    few = omega (arith, so_far.few);
    front =
        take_more_set nodes kept x (omega (arith, so_far.few, within, long)) ∙ ap (λ ns. ns ++ x ∷ []) so_far.front ∙ ap (λ y. nodes_kept w (take k given) is ms ++ y ∷ []) (is_node ∙ same_node n)
        ∙ sym (kept_more w given is ms k n m within (omega (arith, within, indexes)) (omega (arith, within, masks)) ∙ ap (λ t. nodes_kept w (take k given) is ms ++ cond t (get_or given k n ∷ []) []) left);
    rest = drop-set-lt (k + 1) nodes kept x (omega (arith, so_far.few)) ∙ rest_next;
  }

  pub left_out : (n : Node) → remains w (get_or is k 0) (get_or ms k m) ≡ false → IsFront w given is ms (k + 1) kept nodes
  left_out n gone = record {
    few = omega (arith, so_far.few);
    front =
        so_far.front
        ∙ sym (kept_more w given is ms k n m within (omega (arith, within, indexes)) (omega (arith, within, masks)) ∙ ap (λ t. nodes_kept w (take k given) is ms ++ cond t (get_or given k n ∷ []) []) gone ∙ append-nil (nodes_kept w (take k given) is ms));
    rest = rest_next;
  }

-- ---- status

pub status_next : (w is : List ℕ) (k : ℕ) → k < length is → status_in w (take (k + 1) is) ≡ join (status_in w (take k is)) (status_of (entry_in w (get_or is k 0)))
status_next w is k within =
    ap (status_in w) (take_more is k 0 within) ∙ status_append w (take k is) (get_or is k 0 ∷ []) ∙ ap (join (status_in w (take k is))) (join_nothing (status_of (entry_in w (get_or is k 0))))
