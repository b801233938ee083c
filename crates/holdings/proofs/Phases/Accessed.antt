-- Accesses worked as a touch are accesses made one after another.
use Rattle.std.proofs.Common.{◌≡◌, ℕ, suc, true, false, Bool, List, [], ◌∷◌, map, get_or, Option, Some, None, slice_index, refl, sym, ap, ◌∙◌, subst, arith}
use Rattle.std.specs.Prelude.{◌==◌}
use Rattle.std.proofs.lemmas.Bool.{ne_eqb}
use Rattle.std.specs.List.{All}
use Rattle.std.specs.Option.{option_map, option_map_or}
use Rattle.fpage.specs.Rights.{has, join, marks}
use Rattle.fpage.specs.declared.rights.Access.{Access}
use Rattle.space.specs.declared.place.Place.{Place}
use Rattle.space.specs.declared.place.Entry.{Entry}
use Rattle.space.specs.declared.shards.Shards.{Shards}
use Rattle.space.specs.Word.{entry_of}
use Rattle.space.specs.Shards.{IsPlace, HasWord, index_of, entry_at}
use Rattle.space.proofs.ShardWords.{words_are_their_own}
use Rattle.maptree.specs.Origins.{Shape}
use Rattle.model.specs.Definitions.Calls.{Limits}
use Rattle.model.specs.Definitions.Touch.{can_touch, touch}
use Rattle.pieces.specs.Laws.{accessed, accessed_in_order, answers_in_order}
use Rattle.pieces.specs.Steps.{may_access}
use Rattle.pieces.specs.Effects.{word_after}
use Rattle.pieces.proofs.InOrder.{one, accessed_word, accessed_elsewhere, faulted_word, made_word, accessed_length, packs_after, held_word}
use Rattle.pieces.specs.declared.touch.WordAccess.{WordAccess}
use Rattle.holdings.specs.Places.{IsWithin}
use Rattle.holdings.specs.Contents.{touched_all, access_answers}
use Rattle.holdings.specs.Inner.Held.{holdings_of}
use Rattle.holdings.specs.Inner.Planning.{word_access}
use Rattle.holdings.specs.Inner.Sound.{IsSound}
use Rattle.holdings.proofs.Contents.Accesses.{can_touch_absent, can_touch_present, touched, touched_sound, marked_entry, touch_fault}
use Rattle.holdings.proofs.Contents.WordChanges.{IsWordSet, place_kept, word_kept, same_by_word}
use Rattle.holdings.proofs.Contents.Holders.{place_within}
use Rattle.holdings.specs.Inner.Words.{AreWordsOf, IsWith}
use Rattle.holdings.proofs.Phases.Words.{with_words, same_holdings, same_sound}

-- ---- one access

-- which access may be made, by its word as by what is held
module _ (limits : Limits) (s : Shards) (trees : List Shape) (w : List ℕ) (are : AreWordsOf s w) (p : Place) (a : Access) (place : IsPlace s p) (within : IsWithin limits p) where
  pub may_is : may_access w (word_access s (p, a)) ≡ can_touch (holdings_of limits s trees) p a
  may_is = ap (λ o. option_map_or (λ e. has e.rights a) o false) (are.entries p place) ∙ by (entry_at s p) refl
    where
      by : (o : Option Entry) → entry_at s p ≡ o → option_map_or (λ e. has e.rights a) o false ≡ can_touch (holdings_of limits s trees) p a
      by None is = sym (can_touch_absent limits s trees p a within is)
      by (Some e) is = sym (can_touch_present limits s trees p a within e is)

-- what one access leaves
module _ (limits : Limits) (s : Shards) (trees : List Shape) (sound : IsSound limits s trees) (w : List ℕ) (are : AreWordsOf s w) (p : Place) (a : Access) (within : IsWithin limits p) (p_word : HasWord s p)
    (n : Shards) (with : IsWith s (accessed w (word_access s (p, a))) n) where
  abbrev one_access : WordAccess
  one_access = word_access s (p, a)

  has_word : IsPlace s p
  has_word = place_within limits s trees sound.kept.fits p within

  -- the entry of a place is that of its word after the access
  entry_after : (q : Place) → IsPlace s q → HasWord s q → entry_at n q ≡ entry_of (word_after (slice_index w (index_of s q)) (index_of s q) (one (may_access w one_access) one_access))
  entry_after q place q_has =
      sym (with.words.entries q (place_kept s n with.layout q place)) ∙ ap (λ i. entry_of (slice_index (accessed w one_access) i)) (with.layout.index q)
      ∙ ap entry_of (accessed_word w one_access (index_of s q) (omega (arith, q_has, are.count)))

  -- elsewhere nothing changes
  elsewhere : (q : Place) → IsPlace s q → (q ≡ p → ⊥) → entry_at n q ≡ entry_at s q
  elsewhere q place apart =
      same_by_word s n with.layout q (λ q_has.
      let differ : (index_of s p == index_of s q) ≡ false = ne_eqb (index_of s p) (index_of s q) (λ same. apart (sym (words_are_their_own s p q has_word place p_word same))) in
      entry_after q place q_has ∙ ap entry_of (accessed_elsewhere (slice_index w (index_of s q)) (index_of s q) (may_access w one_access) one_access differ) ∙ are.entries q place)

  -- a fault changes nothing
  faulted : may_access w one_access ≡ false → (q : Place) → IsPlace s q → entry_at n q ≡ entry_at s q
  faulted fault q place =
      same_by_word s n with.layout q (λ q_has.
      entry_after q place q_has ∙ ap (λ b. entry_of (word_after (slice_index w (index_of s q)) (index_of s q) (one b one_access))) fault ∙ ap entry_of (faulted_word (slice_index w (index_of s q)) (index_of s q) one_access) ∙ are.entries q place)

  -- an access that is made marks its entry
  made : may_access w one_access ≡ true → (e : Entry) → entry_at s p ≡ Some e → IsWordSet s n p (Some (marked_entry a e))
  made may e is = record {
    set = record {
      there =
          entry_after p has_word p_word ∙ ap (λ b. entry_of (word_after (slice_index w (index_of s p)) (index_of s p) (one b one_access))) may
          ∙ made_word (slice_index w (index_of s p)) one_access (are.packs (index_of s p) 0 (omega (arith, p_word, are.count))) (held_word (slice_index w (index_of s p)) a may)
          ∙ ap (option_map (λ (k : Entry). record k { status = join k.status (marks a) })) (are.entries p has_word ∙ is);
      elsewhere = elsewhere;
    };
    present = with.present;
    layout = with.layout;
  }

  -- what is left
  pub one_left : (holdings_of limits n trees ≡ touch (holdings_of limits s trees) p a) × IsSound limits n trees
  one_left = by (may_access w one_access) refl (entry_at s p) refl
    where
      by : (b : Bool) → may_access w one_access ≡ b → (o : Option Entry) → entry_at s p ≡ o → (holdings_of limits n trees ≡ touch (holdings_of limits s trees) p a) × IsSound limits n trees
      by false fault o is = (
        same_holdings limits s n trees sound.kept.fits with.present with.layout (faulted fault) ∙ sym (touch_fault (holdings_of limits s trees) p a (sym (may_is limits s trees w are p a has_word within) ∙ fault)),
        same_sound limits s n trees sound.kept.fits with.present with.layout (faulted fault) sound,
      )
      by true may None is = absurd (cc (sym may ∙ may_is limits s trees w are p a has_word within ∙ can_touch_absent limits s trees p a within is))
      by true may (Some e) is =
          let right : has e.rights a ≡ true = sym (can_touch_present limits s trees p a within e is) ∙ sym (may_is limits s trees w are p a has_word within) ∙ may in
          let set = made may e is in
          (touched limits s n trees p a e sound.kept.fits set within is right, touched_sound limits s n trees p a e sound set within is right)

-- ---- all of them

same_accesses : (s n : Shards) → ((p : Place) → index_of n p ≡ index_of s p) → (ts : List (Place × Access)) → map (word_access n) ts ≡ map (word_access s) ts
same_accesses s n same [] = refl
same_accesses s n same (t ∷ ts) = ap (λ i. record { index = i; access = t.1 } ∷ map (word_access n) ts) (same t.0) ∙ ap (λ xs. word_access s t ∷ xs) (same_accesses s n same ts)

-- what accesses leave and answer that were worked in list order
pub record AreAccessed (limits : Limits) (s : Shards) (trees : List Shape) (w : List ℕ) (ts : List (Place × Access)) (n : Shards) : Type 0 where
  pub left : holdings_of limits n trees ≡ touched_all (holdings_of limits s trees) ts
  pub sound : IsSound limits n trees
  pub answers : answers_in_order w (map (word_access s) ts) ≡ access_answers (holdings_of limits s trees) ts

pub all_accessed : (limits : Limits) (trees : List Shape) (ts : List (Place × Access)) → All (λ t. IsWithin limits t.0) ts → (s : Shards) → All (λ t. HasWord s t.0) ts → IsSound limits s trees → (w : List ℕ) → AreWordsOf s w
    → (n : Shards) → IsWith s (accessed_in_order w (map (word_access s) ts)) n → AreAccessed limits s trees w ts n
all_accessed limits trees [] within s there sound w are n with =
    let same : (q : Place) → IsPlace s q → entry_at n q ≡ entry_at s q = λ q place. sym (with.words.entries q (place_kept s n with.layout q place)) ∙ ap (λ i. entry_of (slice_index w i)) (with.layout.index q) ∙ are.entries q place in
    record {
      left = same_holdings limits s n trees sound.kept.fits with.present with.layout same;
      sound = same_sound limits s n trees sound.kept.fits with.present with.layout same sound;
      answers = refl;
    }
all_accessed limits trees (t ∷ ts) within s there sound w are n with =
    let x = word_access s t in
    let inside : IsWithin limits t.0 = within 0 t (omega arith) in
    let place = place_within limits s trees sound.kept.fits t.0 inside in
    let middle = with_words s sound.kept.fits.present (accessed w x) (accessed_length w x ∙ are.count) (packs_after w are.packs x) in
    let m = middle.0 in
    let one = one_left limits s trees sound w are t.0 t.1 inside (there 0 t (omega arith)) m middle.1 in
    let xs = same_accesses s m middle.1.layout.index ts in
    let rest = all_accessed limits trees ts (λ k d less. within (suc k) d (omega (arith, less))) m (λ k d less. word_kept s m middle.1.layout (get_or ts k d).0 (there (suc k) d (omega (arith, less)))) one.1 (accessed w x) middle.1.words n (record {
      words = subst (λ ys. AreWordsOf n (accessed_in_order (accessed w x) ys)) (sym xs) with.words;
      present = with.present;
      layout = record {
        spaces = with.layout.spaces ∙ sym middle.1.layout.spaces;
        bits = with.layout.bits ∙ sym middle.1.layout.bits;
        count = with.layout.count ∙ sym middle.1.layout.count;
        index = λ p. with.layout.index p ∙ sym (middle.1.layout.index p);
      };
    }) in
    record {
      left = rest.left ∙ ap (λ h. touched_all h ts) one.0;
      sound = rest.sound;
      answers = ap (λ b. b ∷ answers_in_order (accessed w x) (map (word_access s) ts)) (may_is limits s trees w are t.0 t.1 place inside)
          ∙ ap (λ bs. can_touch (holdings_of limits s trees) t.0 t.1 ∷ bs) (ap (answers_in_order (accessed w x)) (sym xs) ∙ rest.answers ∙ ap (λ h. access_answers h ts) one.0);
    }

-- what they answer, in shards with whatever words come out
pub all_answered : (limits : Limits) (trees : List Shape) (ts : List (Place × Access)) → All (λ t. IsWithin limits t.0) ts → (s : Shards) → All (λ t. HasWord s t.0) ts → IsSound limits s trees → (w : List ℕ) → AreWordsOf s w
    → answers_in_order w (map (word_access s) ts) ≡ access_answers (holdings_of limits s trees) ts
all_answered limits trees [] within s there sound w are = refl
all_answered limits trees (t ∷ ts) within s there sound w are =
    let x = word_access s t in
    let inside : IsWithin limits t.0 = within 0 t (omega arith) in
    let place = place_within limits s trees sound.kept.fits t.0 inside in
    let middle = with_words s sound.kept.fits.present (accessed w x) (accessed_length w x ∙ are.count) (packs_after w are.packs x) in
    let one = one_left limits s trees sound w are t.0 t.1 inside (there 0 t (omega arith)) middle.0 middle.1 in
    let xs = same_accesses s middle.0 middle.1.layout.index ts in
    let rest = all_answered limits trees ts (λ k d less. within (suc k) d (omega (arith, less))) middle.0 (λ k d less. word_kept s middle.0 middle.1.layout (get_or ts k d).0 (there (suc k) d (omega (arith, less)))) one.1 (accessed w x) middle.1.words in
    ap (λ b. b ∷ answers_in_order (accessed w x) (map (word_access s) ts)) (may_is limits s trees w are t.0 t.1 place inside)
    ∙ ap (λ bs. can_touch (holdings_of limits s trees) t.0 t.1 ∷ bs) (ap (answers_in_order (accessed w x)) (sym xs) ∙ rest ∙ ap (λ h. access_answers h ts) one.0)
