-- The words of an unmap, one after another.
use Rattle.std.proofs.Common.{◌≡◌, ℕ, zero, suc, ◌+◌, ◌<◌, ◌≤◌, arith, Bool, List, [], ◌∷◌, ◌++◌, length, take, drop, get_or, refl, sym, ap, ◌∙◌}
use Rattle.std.proofs.lemmas.List.{drop_more, drop_all, append_assoc, append-nil}
use Rattle.std.specs.List.{zip}
use Rattle.fpage.specs.Control.{with_status}
use Rattle.fpage.specs.Fpage.{Flexpage}
use Rattle.fpage.specs.declared.rights.Rights.{Rights}
use Rattle.model.specs.Definitions.Answers.{UnmapAnswer, pages_in, unmap_answer}
use Rattle.model.specs.Definitions.Holdings.{Holdings}
use Rattle.model.specs.Definitions.Strip.{strip, strip_word}
use Rattle.holdings.specs.Contents.{Contents, IsStripped, left_with}
use Rattle.mapdb.specs.State.{unmap_status, unmap_left}

-- what the words before this one have given back and left
pub record AreWorkedUpTo (old : Contents) (space : ℕ) (f : Bool) (fpages : List Flexpage) (i : ℕ) (now : Contents) (status : List Rights) : Type 0 where
  pub limits : now.limits ≡ old.limits
  pub layout : now.layout ≡ old.layout
  pub given : status ++ unmap_status space f (drop i fpages) now.holdings ≡ unmap_status space f fpages old.holdings
  pub left : unmap_left space f (drop i fpages) now.holdings ≡ unmap_left space f fpages old.holdings

module _ (old : Contents) (space : ℕ) (f : Bool) (fpages : List Flexpage) where
  pub no_word : AreWorkedUpTo old space f fpages 0 old []
  no_word = record { limits = refl; layout = refl; given = refl; left = refl }

  -- one word more
  pub one_word : (i : ℕ) (d : Flexpage) → i < length fpages → (now : Contents) (status : List Rights) → AreWorkedUpTo old space f fpages i now status
      → (r : Contents × Rights) → IsStripped now (pages_in space (get_or fpages i d)) (get_or fpages i d).rights f r → AreWorkedUpTo old space f fpages (i + 1) r.0 (status ++ r.1 ∷ [])
  one_word i d within now status so_far r is =
      let h = now.holdings in
      let more = drop_more fpages i d within in
      let rest = drop (i + 1) fpages in
      let after = ap (λ (c : Contents). c.holdings) is.left in
      record {
        limits = ap (λ (c : Contents). c.limits) is.left ∙ so_far.limits;
        layout = ap (λ (c : Contents). c.layout) is.left ∙ so_far.layout;
        given = append_assoc status (r.1 ∷ []) (unmap_status space f rest r.0.holdings)
            ∙ ap (λ w. status ++ w ∷ unmap_status space f rest r.0.holdings) is.status
            ∙ ap (λ k. status ++ strip_word h (pages_in space (get_or fpages i d)) ∷ unmap_status space f rest k) after
            ∙ ap (λ fs. status ++ unmap_status space f fs h) (sym more) ∙ so_far.given;
        left = ap (unmap_left space f rest) after ∙ ap (λ fs. unmap_left space f fs h) (sym more) ∙ so_far.left;
      }

  -- all words
  pub all_words : (i : ℕ) (now : Contents) (status : List Rights) → length fpages ≤ i → AreWorkedUpTo old space f fpages i now status
      → (now ≡ left_with old (unmap_left space f fpages old.holdings)) × (status ≡ unmap_status space f fpages old.holdings)
  all_words i now status past so_far =
      let none = drop_all i fpages past in
      let left = ap (λ ws. unmap_left space f ws now.holdings) (sym none) ∙ so_far.left in (
        (λ k. record { limits = so_far.limits k; holdings = left k; layout = so_far.layout k }),
        sym (append-nil status) ∙ ap (λ ws. status ++ unmap_status space f ws now.holdings) (sym none) ∙ so_far.given,
      )

-- what one word more leaves of what those before it left
pub left_by_more : (space : ℕ) (f : Bool) (fpages : List Flexpage) (i : ℕ) (d : Flexpage) (h : Holdings) → i < length fpages
    → unmap_left space f (take (i + 1) fpages) h ≡ strip (unmap_left space f (take i fpages) h) (pages_in space (get_or fpages i d)) (get_or fpages i d).rights f
left_by_more space f fpages i d h within = let one : i + 1 ≡ suc i = omega arith in ap (λ n. unmap_left space f (take n fpages) h) one ∙ more fpages i h within
  where
    more : (ws : List Flexpage) (k : ℕ) (h : Holdings) → k < length ws
        → unmap_left space f (take (suc k) ws) h ≡ strip (unmap_left space f (take k ws) h) (pages_in space (get_or ws k d)) (get_or ws k d).rights f
    more [] k h within = absurd (omega (arith, within))
    more (w ∷ ws) zero h within = refl
    more (w ∷ ws) (suc k) h within = more ws k (strip h (pages_in space w) w.rights f) (omega (arith, within))

-- ---- the same, as the words of a reply

-- the first words of the reply stand there, and the others follow from what is left
pub record AreAnsweredUpTo (old : Contents) (space : ℕ) (f : Bool) (words : List ℕ) (fpages : List Flexpage) (i : ℕ) (now : Contents) (reply : List ℕ) : Type 0 where
  pub limits : now.limits ≡ old.limits
  pub layout : now.layout ≡ old.layout
  pub told : record { words = reply ++ (unmap_answer space f (zip (drop i words) (drop i fpages)) now.holdings).words; left = (unmap_answer space f (zip (drop i words) (drop i fpages)) now.holdings).left }
      ≡ unmap_answer space f (zip words fpages) old.holdings

module _ (old : Contents) (space : ℕ) (f : Bool) (words : List ℕ) (fpages : List Flexpage) where
  pub no_answer : AreAnsweredUpTo old space f words fpages 0 old []
  no_answer = record { limits = refl; layout = refl; told = refl }

  -- one word more
  pub one_answer : (i w : ℕ) (d : Flexpage) → i < length words → i < length fpages → (now : Contents) (reply : List ℕ) → AreAnsweredUpTo old space f words fpages i now reply
      → (r : Contents × Rights) → IsStripped now (pages_in space (get_or fpages i d)) (get_or fpages i d).rights f r
      → AreAnsweredUpTo old space f words fpages (i + 1) r.0 (reply ++ with_status (get_or words i w) r.1 ∷ [])
  one_answer i w d some one now reply so_far r is =
      let h = now.holdings in
      let word = get_or words i w in
      let named = pages_in space (get_or fpages i d) in
      let others : Holdings → UnmapAnswer = λ k. unmap_answer space f (zip (drop (i + 1) words) (drop (i + 1) fpages)) k in
      let whole : List ℕ → Holdings → UnmapAnswer = λ front k. record { words = front ++ (others k).words; left = (others k).left } in
      record {
        limits = ap (λ (c : Contents). c.limits) is.left ∙ so_far.limits;
        layout = ap (λ (c : Contents). c.layout) is.left ∙ so_far.layout;
        told = (λ k. record { words = append_assoc reply (with_status word r.1 ∷ []) (others r.0.holdings).words k; left = (others r.0.holdings).left })
            ∙ ap (λ (s : Rights). record { words = reply ++ with_status word s ∷ (others r.0.holdings).words; left = (others r.0.holdings).left }) is.status
            ∙ ap (λ (c : Contents). record { words = reply ++ with_status word (strip_word h named) ∷ (others c.holdings).words; left = (others c.holdings).left }) is.left
            ∙ (λ k. record {
              words = reply ++ (unmap_answer space f (zip (sym (drop_more words i w some) k) (sym (drop_more fpages i d one) k)) h).words;
              left = (unmap_answer space f (zip (sym (drop_more words i w some) k) (sym (drop_more fpages i d one) k)) h).left;
            })
            ∙ so_far.told;
      }

  -- all words
  pub all_answers : (i : ℕ) (now : Contents) (reply : List ℕ) → length fpages ≤ i → length fpages ≡ length words → AreAnsweredUpTo old space f words fpages i now reply
      → (now ≡ left_with old now.holdings) × (record { words = reply; left = now.holdings } ≡ unmap_answer space f (zip words fpages) old.holdings)
  all_answers i now reply past same so_far =
      let no_words = drop_all i words (omega (arith, past, same)) in
      let no_fpages = drop_all i fpages past in (
        (λ k. record { limits = so_far.limits k; holdings = now.holdings; layout = so_far.layout k }),
        (λ k. record { words = sym (append-nil reply) k; left = now.holdings })
            ∙ (λ k. record {
              words = reply ++ (unmap_answer space f (zip (sym no_words k) (sym no_fpages k)) now.holdings).words;
              left = (unmap_answer space f (zip (sym no_words k) (sym no_fpages k)) now.holdings).left;
            })
            ∙ so_far.told,
      )
