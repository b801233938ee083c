-- What pieces make of words that stand for entries: such words again; and where none writes, the same frame and rights.
use Rattle.std.proofs.Common.{◌≡◌, ◌≢◌, ℕ, ◌^◌, ◌<◌, ◌≤◌, ◌⊎◌, inl, inr, Bool, true, false, ◌&&◌, List, [], ◌∷◌, ◌++◌, length, map, get_or, Option, Some, None, option_map, is_some, unwrap_or, bit_or, refl, ap, ◌∙◌, sym, subst, arith, if◌then◌else◌, zero-add}
use Rattle.std.specs.Prelude.{◌==◌}
use Rattle.std.specs.List.{flat_map, list_all, zip, AllPass}
use Rattle.std.specs.Option.{option_to_list}
use Rattle.std.specs.Int.Bits.{or_zero_l, or_zero_r}
use Rattle.std.proofs.lemmas.Bool.{cases_lt, eqb-true}
use Rattle.std.proofs.lemmas.List.{map-append, get_or_past, get_or_default}
use Rattle.fpage.specs.Rights.{marks}
use Rattle.fpage.specs.declared.rights.Rights.{Rights}
use Rattle.space.specs.declared.place.Entry.{Entry}
use Rattle.space.specs.Word.{is_pack, entry_of, marked, FrameFits}
use Rattle.space.proofs.Words.{narrowed_fits, pack_gains_status, unpack_gives_back, unpacked_fits}
use Rattle.pieces.specs.Distinct.{is_none_of}
use Rattle.pieces.specs.DistinctParts.{all_split}
use Rattle.pieces.specs.Effects.{Effect, keeps, adds, writes, gained, written, word_after, words_after, writes_at, adds_at}
use Rattle.pieces.specs.Steps.{Step, narrow, effect, effects, steps, strip_steps, fold_of, status_in, status_bits, entry_in, narrowed_by, linked, store_step, without_status, pair_steps, may_access, access_steps}
use Rattle.pieces.specs.Steps as step
use Rattle.pieces.specs.Phases.{held}
use Rattle.pieces.specs.declared.link.Store.{Store}
use Rattle.pieces.specs.declared.moving.Pair.{Pair}
use Rattle.pieces.specs.declared.touch.WordAccess.{WordAccess}
use Rattle.pieces.specs.declared.piece.Piece.{Piece}
use Rattle.pieces.specs.declared.piece.Piece.TheVariants as piece
use Rattle.pieces.proofs.AllSteps.{length_words, word_at}
use Rattle.pieces.proofs.InOrder.{or_assoc, held_word}
use Rattle.pieces.proofs.InTurn.{gained_none}
use Rattle.pieces.proofs.Writers.{written_none}

both : (a b : Bool) → (a && b) ≡ true → (a ≡ true) × (b ≡ true)
both true true h = (refl, refl)
both true false h = absurd (cc)
both false b h = absurd (cc)

-- frame and rights of a word
abbrev pub page : Entry → ℕ × Rights
page e = (e.frame, e.rights)

abbrev pub page_of : ℕ → Option (ℕ × Rights)
page_of x = option_map page (entry_of x)

-- ---- what a step of a piece may do

-- status is added to a page that is held
pub record IsStatusHere (word bits : ℕ) : Type 0 where
  pub status : Rights
  pub is : bits ≡ status_bits status
  pub held : word ≢ 0

abbrev pub Suits : List ℕ → Effect → Type 0
Suits w (keeps i) = Unit {0}
Suits w (adds i bits) = IsStatusHere (get_or w i 0) bits
Suits w (writes i word) = is_pack word ≡ true

abbrev pub AllSuit : List ℕ → List Effect → Type 0
AllSuit w [] = Unit {0}
AllSuit w (e ∷ es) = Suits w e × AllSuit w es

pub suit_append : (w : List ℕ) (es fs : List Effect) → AllSuit w es → AllSuit w fs → AllSuit w (es ++ fs)
suit_append w [] fs h k = k
suit_append w (e ∷ es) fs h k = (h.0, suit_append w es fs h.1 k)

-- ---- words that gain status

record IsSamePage (word after : ℕ) : Type 0 where
  packed : is_pack after ≡ true
  page : page_of after ≡ page_of word

same_word : (word after : ℕ) → is_pack word ≡ true → after ≡ word → IsSamePage word after
same_word word after pack same = record { packed = ap is_pack same ∙ pack; page = ap page_of same }

marked_page : (s : Rights) (o : Option Entry) → option_map page (option_map (λ e. marked e s) o) ≡ option_map page o
marked_page s None = refl
marked_page s (Some e) = refl

gains_status : (word bits : ℕ) (s : Rights) → is_pack word ≡ true → word ≢ 0 → bits ≡ status_bits s → IsSamePage word (bit_or word bits) × (bit_or word bits ≢ 0)
gains_status word bits s pack some is =
    let gains = pack_gains_status word s pack some in
    let same = ap (bit_or word) is in (
      record { packed = ap is_pack same ∙ gains.0; page = ap page_of same ∙ ap (option_map page) gains.2 ∙ marked_page s (entry_of word) },
      λ none. gains.1 (sym same ∙ none),
    )

then_same : (a b c : ℕ) → IsSamePage a b → IsSamePage b c → IsSamePage a c
then_same a b c p q = record { packed = q.packed; page = q.page ∙ p.page }

-- a word that is not 0 where the one at opening is not
gained_page : (w : List ℕ) (i x : ℕ) (es : List Effect) → AllSuit w es → is_pack x ≡ true → (get_or w i 0 ≢ 0 → x ≢ 0) → IsSamePage x (bit_or x (gained i es))
gained_page w i x [] suit pack some = same_word x _ pack (or_zero_r x)
gained_page w i x (keeps m ∷ es) suit pack some = rw or_zero_l (gained_page w i x es suit.1 pack some)
gained_page w i x (writes m y ∷ es) suit pack some = rw or_zero_l (gained_page w i x es suit.1 pack some)
gained_page w i x (adds m bits ∷ es) suit pack some = by (m == i) refl (gained_page w i x es suit.1 pack some) (λ y. gained_page w i y es suit.1)
  where
    by : (t : Bool) → (m == i) ≡ t → IsSamePage x (bit_or x (gained i es)) → ((y : ℕ) → is_pack y ≡ true → (get_or w i 0 ≢ 0 → y ≢ 0) → IsSamePage y (bit_or y (gained i es))) → IsSamePage x (bit_or x (bit_or (if t then bits else 0) (gained i es)))
    by false is plain later = rw or_zero_l plain
    by true is plain later =
        let here : get_or w i 0 ≢ 0 = subst (λ k. get_or w k 0 ≢ 0) (eqb-true m i is) suit.0.held in
        let more = gains_status x bits suit.0.status pack (some here) suit.0.is in
        subst (IsSamePage x) (or_assoc x bits (gained i es)) (then_same x (bit_or x bits) _ more.0 (later (bit_or x bits) more.0.packed (λ _. more.1)))

written_packs : (w : List ℕ) (i word : ℕ) (es : List Effect) → AllSuit w es → written i es ≡ Some word → is_pack word ≡ true
written_packs w i word [] suit is = absurd (cc)
written_packs w i word (keeps m ∷ es) suit is = written_packs w i word es suit.1 is
written_packs w i word (adds m bits ∷ es) suit is = written_packs w i word es suit.1 is
written_packs w i word (writes m x ∷ es) suit is = by (m == i) is (written_packs w i word es suit.1)
  where
    by : (t : Bool) → (if t then Some x else written i es) ≡ Some word → (written i es ≡ Some word → is_pack word ≡ true) → is_pack word ≡ true
    by true is later = let same : x ≡ word = cc is in subst (λ y. is_pack y ≡ true) same suit.0
    by false is later = later is

module _ (w : List ℕ) (es : List Effect) (packs : AllPass is_pack w) (suit : AllSuit w es) where
  packed_after : (i : ℕ) → i < length w → is_pack (word_after (get_or w i 0) i es) ≡ true
  packed_after i within = by (written i es) refl
    where
      by : (o : Option ℕ) → written i es ≡ o → is_pack (unwrap_or o (bit_or (get_or w i 0) (gained i es))) ≡ true
      by None is = (gained_page w i (get_or w i 0) es suit (packs i 0 within) (λ some. some)).packed
      by (Some word) is = written_packs w i word es suit is

  pub packs_after_steps : AllPass is_pack (words_after w es)
  packs_after_steps k d less =
      let l = length_words 0 w es in
      let within : k < length w = omega arith in
      subst (λ x. is_pack x ≡ true) (get_or_default (words_after w es) k 0 d less)
      (ap is_pack (word_at 0 w es k within ∙ ap (λ j. word_after (get_or w k 0) j es) (zero-add k)) ∙ packed_after k within)

  -- where none writes, frame and rights stay
  pub same_page_after : (i : ℕ) → is_none_of (writes_at es) i ≡ true → page_of (get_or (words_after w es) i 0) ≡ page_of (get_or w i 0)
  same_page_after i none = by (cases_lt i (length w))
    where
      by : (i < length w) ⊎ (length w ≤ i) → page_of (get_or (words_after w es) i 0) ≡ page_of (get_or w i 0)
      by (inl within) =
          ap page_of (word_at 0 w es i within ∙ ap (λ j. word_after (get_or w i 0) j es) (zero-add i) ∙ ap (λ o. unwrap_or o (bit_or (get_or w i 0) (gained i es))) (written_none es i none))
          ∙ (gained_page w i (get_or w i 0) es suit (packs i 0 within) (λ some. some)).page
      by (inr past) = let l = length_words 0 w es in let after : length (words_after w es) ≤ i = omega arith in ap page_of (get_or_past (words_after w es) i 0 after ∙ sym (get_or_past w i 0 past))

-- where none writes or adds, the word stays
pub same_word_after : (w : List ℕ) (es : List Effect) (i : ℕ) → is_none_of (writes_at es) i ≡ true → is_none_of (adds_at es) i ≡ true → get_or (words_after w es) i 0 ≡ get_or w i 0
same_word_after w es i none nothing = by (cases_lt i (length w))
  where
    by : (i < length w) ⊎ (length w ≤ i) → get_or (words_after w es) i 0 ≡ get_or w i 0
    by (inl within) =
        word_at 0 w es i within ∙ ap (λ j. word_after (get_or w i 0) j es) (zero-add i) ∙ ap (λ o. unwrap_or o (bit_or (get_or w i 0) (gained i es))) (written_none es i none)
        ∙ ap (bit_or (get_or w i 0)) (gained_none i es nothing) ∙ or_zero_r (get_or w i 0)
    by (inr past) = let l = length_words 0 w es in let after : length (words_after w es) ≤ i = omega arith in get_or_past (words_after w es) i 0 after ∙ sym (get_or_past w i 0 past)

-- ---- the steps of pieces

fits_linked : (through : Rights) (target source : Option Entry) → FrameFits source → FrameFits (option_map (linked through target) source)
fits_linked through target None fits = λ e is. absurd (cc is)
fits_linked through None (Some e) fits = λ f is. let same : linked through None e ≡ f = cc is in subst (λ (x : Entry). x.frame < 2 ^ 24) same (fits e refl)
fits_linked through (Some t) (Some e) fits = λ f is. let same : linked through (Some t) e ≡ f = cc is in subst (λ (x : Entry). x.frame < 2 ^ 24) same (fits e refl)

fits_moved : (source : Option Entry) → FrameFits source → FrameFits (option_map without_status source)
fits_moved None fits = λ e is. absurd (cc is)
fits_moved (Some e) fits = λ f is. let same : without_status e ≡ f = cc is in subst (λ (x : Entry). x.frame < 2 ^ 24) same (fits e refl)

not_absent : (word : ℕ) → is_some (entry_of word) ≡ true → word ≢ 0
not_absent word some zeroed = let gone : is_some (entry_of 0) ≡ true = subst (λ x. is_some (entry_of x) ≡ true) zeroed some in absurd (cc)

narrows_suit : (w is : List ℕ) (masks : List Rights) → AllSuit w (map (effect w) (map (λ e. narrow e.0 e.1) (zip is masks)))
narrows_suit w [] masks = tt
narrows_suit w (i ∷ is) [] = tt
narrows_suit w (i ∷ is) (m ∷ masks) = ((unpack_gives_back (narrowed_by m (entry_in w i)) (narrowed_fits true m (entry_in w i) (unpacked_fits (get_or w i 0)))).0, narrows_suit w is masks)

fold_suits : (w : List ℕ) (f : Option ℕ) (s : Rights) → list_all (λ i. is_some (entry_in w i)) (option_to_list f) ≡ true → AllSuit w (map (effect w) (fold_of f s))
fold_suits w None s there = tt
fold_suits w (Some i) s there = (record { status = s; is = refl; held = not_absent (get_or w i 0) (both (is_some (entry_in w i)) true there).0 }, tt)

links_suit : (w : List ℕ) (stores : List Store) → AllSuit w (map (effect w) (map (store_step w) stores))
links_suit w [] = tt
links_suit w (s ∷ stores) =
    ((unpack_gives_back (option_map (linked s.rights (entry_in w s.put)) (entry_in w s.read)) (fits_linked s.rights (entry_in w s.put) (entry_in w s.read) (unpacked_fits (get_or w s.read 0)))).0, links_suit w stores)

moves_suit : (w : List ℕ) (pairs : List Pair) → AllSuit w (map (effect w) (flat_map (pair_steps w) pairs))
moves_suit w [] = tt
moves_suit w (p ∷ pairs) = (refl, ((unpack_gives_back (option_map without_status (entry_in w p.taken)) (fits_moved (entry_in w p.taken) (unpacked_fits (get_or w p.taken 0)))).0, moves_suit w pairs))

touches_suit : (w : List ℕ) (ts : List WordAccess) → AllSuit w (map (effect w) (flat_map (access_steps w) ts))
touches_suit w [] = tt
touches_suit w (t ∷ ts) = by (may_access w t) refl (touches_suit w ts)
  where
    by : (b : Bool) → may_access w t ≡ b → AllSuit w (map (effect w) (flat_map (access_steps w) ts))
        → AllSuit w (map (effect w) ((if b then step.see t.index t.access ∷ step.mark t.index t.access ∷ [] else step.see t.index t.access ∷ []) ++ flat_map (access_steps w) ts))
    by true may rest = (tt, (record { status = marks t.access; is = refl; held = held_word (get_or w t.index 0) t.access may }, rest))
    by false may rest = (tt, rest)

pub piece_suits : (w : List ℕ) (p : Piece) → list_all (λ i. is_some (entry_in w i)) (held p) ≡ true → AllSuit w (effects w p)
piece_suits w (piece.Strip s) there =
    subst (AllSuit w) (sym (map-append (effect w) (map (λ e. narrow e.0 e.1) (zip s.indexes s.masks)) (fold_of s.fold (status_in w s.indexes))))
    (suit_append w (map (effect w) (map (λ e. narrow e.0 e.1) (zip s.indexes s.masks))) (map (effect w) (fold_of s.fold (status_in w s.indexes))) (narrows_suit w s.indexes s.masks) (fold_suits w s.fold (status_in w s.indexes) there))
piece_suits w (piece.Link stores) there = links_suit w stores
piece_suits w (piece.Move pairs) there = moves_suit w pairs
piece_suits w (piece.Touch list) there = touches_suit w list

pub pieces_suit : (w : List ℕ) (ps : List Piece) → list_all (λ i. is_some (entry_in w i)) (flat_map held ps) ≡ true → AllSuit w (flat_map (effects w) ps)
pieces_suit w [] there = tt
pieces_suit w (p ∷ ps) there =
    let parts = all_split (λ i. is_some (entry_in w i)) (held p) (flat_map held ps) there in
    suit_append w (effects w p) (flat_map (effects w) ps) (piece_suits w p parts.0) (pieces_suit w ps parts.1)
