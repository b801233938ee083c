-- The words of pages that move, one after another.
use Rattle.std.proofs.Common.{◌≡◌, ℕ, zero, suc, ◌+◌, ◌<◌, ◌≤◌, true, false, Bool, ◌||◌, List, [], ◌∷◌, ◌++◌, length, take, get_or, Option, Some, None, unwrap_or, refl, sym, ap, ◌∙◌, subst, arith, ◌⊎◌, inl, inr, if◌then◌else◌}
use Rattle.std.specs.List.{All}
use Rattle.std.specs.Option.{is_some}
use Rattle.std.proofs.lemmas.Bool.{false_from_ne_true}
use Rattle.std.proofs.lemmas.List.{take_more, take_all}
use Rattle.std.proofs.lemmas.List.Folds.{list_any-append}
use Rattle.std.proofs.lemmas.List.Elements.{All-nil, All-cons, All-head, All-tail, All-get_or, All-take}
use Rattle.std.proofs.lemmas.Option.{same_Some}
use Rattle.fpage.specs.Rights.{no_rights}
use Rattle.space.specs.declared.place.Place.{Place}
use Rattle.space.specs.declared.place.Entry.{Entry}
use Rattle.space.specs.declared.shards.Shards.{Shards}
use Rattle.space.specs.Place.{same_place}
use Rattle.space.specs.Shards.{IsPlace, entry_at}
use Rattle.space.specs.Directory.{pages_of}
use Rattle.space.proofs.Places.{same_self, same_or_apart, apart_back}
use Rattle.maptree.specs.Origins.{Shape}
use Rattle.model.specs.Definitions.Holdings.{Holdings, at, is_held}
use Rattle.model.specs.Definitions.Calls.{Limits}
use Rattle.model.specs.Definitions.Items.{Pair, sources_of}
use Rattle.model.specs.Definitions.Grant.{target_of, moved_to}
use Rattle.model.specs.Laws.SendLaws.{In}
use Rattle.model.proofs.Jobs as job
use Rattle.model.proofs.Puts.{apart_places}
use Rattle.model.proofs.Renames.{moved_cases}
use Rattle.model.proofs.Moves.{one_source, one_other}
use Rattle.holdings.specs.declared.transfer.Transfer.{Transfer}
use Rattle.holdings.specs.Places.{IsWithin}
use Rattle.holdings.specs.Inner.Held.{holdings_of, layout_in}
use Rattle.holdings.specs.Inner.Sound.{IsSound}
use Rattle.holdings.specs.Sending.{IsTransferWithin, IsApartFrom, ArePaired, ArePlanned, AllGo, pair_of, moving_of}
use Rattle.holdings.specs.Inner.Renamings.{IsPageMoved}
use Rattle.holdings.proofs.Contents.Holders.{place_within, entry_elsewhere, present_within, absent_within}
use Rattle.holdings.proofs.Contents.Layouts.{same_layout}
use Rattle.holdings.proofs.Contents.WordChanges.{IsWordSet, place_kept}
use Rattle.holdings.proofs.Renamings.MovedPages.{entry_moved, CameFrom, AreWordsMoved}

-- ---- the pairs that move

-- what is so of each transfer is so of each pair that moves
pub in_moving : (Q : Transfer → Type 0) (P : Pair → Type 0) → ((t : Transfer) → Q t → P (pair_of t)) → (h : Holdings) (ts : List Transfer) → All Q ts → (e : Pair) → In e (moving_of h ts) → P e
in_moving Q P each h [] all e k = absurd k
in_moving Q P each h (t ∷ ts) all e k = by (is_held h t.source) k (in_moving Q P each h ts (All-tail Q t ts all) e)
  where
    by : (b : Bool) → In e (if b then pair_of t ∷ moving_of h ts else moving_of h ts) → (In e (moving_of h ts) → P e) → P e
    by true (inl same) rest = subst P (sym same) (each t (All-head Q t ts all))
    by true (inr k) rest = rest k
    by false k rest = rest k

pairs_apart : (t : Transfer) (h : Holdings) (ts : List Transfer) → IsApartFrom t ts → job.IsApart (pair_of t) (moving_of h ts)
pairs_apart t h ts apart d k =
    in_moving (λ d. (same_place d.source t.source ≡ false) × (same_place d.target t.target ≡ false)) (λ e. (e.0 ≡ t.source → ⊥) × (e.1 ≡ t.target → ⊥))
    (λ d q. (λ same. cc (q.0, ap (λ x. same_place x t.source) same, same_self t.source), λ same. cc (q.1, ap (λ x. same_place x t.target) same, same_self t.target))) h ts apart d k

-- their sources and targets are distinct
pub paired_moving : (from to : ℕ) (h : Holdings) (ts : List Transfer) → ArePaired from to ts → job.ArePaired from to (moving_of h ts)
paired_moving from to h [] paired = tt
paired_moving from to h (t ∷ ts) paired = by (is_held h t.source) (paired_moving from to h ts paired.3)
  where
    by : (b : Bool) → job.ArePaired from to (moving_of h ts) → job.ArePaired from to (if b then pair_of t ∷ moving_of h ts else moving_of h ts)
    by true rest = (paired.0, paired.1, pairs_apart t h ts paired.2, rest)
    by false rest = rest

-- one more moves, if its source is held
moving_last : (h : Holdings) (ts : List Transfer) (t : Transfer) (b : Bool) → is_held h t.source ≡ b → moving_of h (ts ++ t ∷ []) ≡ (if b then moving_of h ts ++ pair_of t ∷ [] else moving_of h ts)
moving_last h [] t b is = ap (λ b. if b then pair_of t ∷ [] else []) is
moving_last h (x ∷ ts) t b is = (λ i. if is_held h x.source then pair_of x ∷ moving_last h ts t b is i else moving_last h ts t b is i) ∙ by (is_held h x.source) b
  where
    by : (c b : Bool) → (if c then pair_of x ∷ (if b then moving_of h ts ++ pair_of t ∷ [] else moving_of h ts) else (if b then moving_of h ts ++ pair_of t ∷ [] else moving_of h ts))
        ≡ (if b then (if c then pair_of x ∷ moving_of h ts else moving_of h ts) ++ pair_of t ∷ [] else (if c then pair_of x ∷ moving_of h ts else moving_of h ts))
    by true true = refl
    by true false = refl
    by false true = refl
    by false false = refl

-- a place that moved with the others moves as it did, and another as with the last pair alone
target_before : (es : List Pair) (e : Pair) (p : Place) → sources_of es p ≡ true → target_of (es ++ e ∷ []) p ≡ target_of es p
target_before [] e p is = absurd (cc is)
target_before (d ∷ es) e p is = by (same_place d.0 p) is (target_before es e p)
  where
    by : (b : Bool) → (b || sources_of es p) ≡ true → (sources_of es p ≡ true → target_of (es ++ e ∷ []) p ≡ target_of es p) → (if b then Some d.1 else target_of (es ++ e ∷ []) p) ≡ (if b then Some d.1 else target_of es p)
    by true is rest = refl
    by false is rest = rest is

target_behind : (es : List Pair) (e : Pair) (p : Place) → sources_of es p ≡ false → target_of (es ++ e ∷ []) p ≡ target_of (e ∷ []) p
target_behind [] e p none = refl
target_behind (d ∷ es) e p none = by (same_place d.0 p) none (target_behind es e p)
  where
    by : (b : Bool) → (b || sources_of es p) ≡ false → (sources_of es p ≡ false → target_of (es ++ e ∷ []) p ≡ target_of (e ∷ []) p) → (if b then Some d.1 else target_of (es ++ e ∷ []) p) ≡ target_of (e ∷ []) p
    by true none rest = absurd (cc none)
    by false none rest = rest none

-- one is apart from those before it
before_apart : (from to i : ℕ) (ts : List Transfer) (d : Transfer) → ArePaired from to ts → i < length ts
    → All (λ x. (same_place x.source (get_or ts i d).source ≡ false) × (same_place x.target (get_or ts i d).target ≡ false) × (x.target.space ≡ to)) (take i ts)
before_apart from to i [] d paired within = absurd (omega (arith, within))
before_apart from to zero (x ∷ ts) d paired within = All-nil (λ y. (same_place y.source x.source ≡ false) × (same_place y.target x.target ≡ false) × (y.target.space ≡ to))
before_apart from to (suc i) (x ∷ ts) d paired within =
    let t = get_or ts i d in
    let apart = All-get_or (λ y. (same_place y.source x.source ≡ false) × (same_place y.target x.target ≡ false)) ts i d (omega (arith, within)) paired.2 in
    All-cons (λ y. (same_place y.source t.source ≡ false) × (same_place y.target t.target ≡ false) × (y.target.space ≡ to)) x (take i ts)
    (apart_back t.source x.source apart.0, apart_back t.target x.target apart.1, paired.1) (before_apart from to i ts d paired.3 (omega (arith, within)))

spaces_at : (from to i : ℕ) (ts : List Transfer) (d : Transfer) → ArePaired from to ts → i < length ts → ((get_or ts i d).source.space ≡ from) × ((get_or ts i d).target.space ≡ to)
spaces_at from to i [] d paired within = absurd (omega (arith, within))
spaces_at from to zero (t ∷ ts) d paired within = (paired.0, paired.1)
spaces_at from to (suc i) (t ∷ ts) d paired within = spaces_at from to i ts d paired.3 (omega (arith, within))

-- ---- one word

-- the word of the source is put at the target, and then taken
pub page_moved : (old middle new : Shards) (source target : Place) (e : Entry) → IsPlace old source → IsPlace old target → same_place source target ≡ false
    → IsWordSet old middle target (Some (record { frame = e.frame; rights = e.rights; status = no_rights })) → IsWordSet middle new source None → IsPageMoved old new source target e
page_moved old middle new source target e source_in target_in apart put taken = record {
  gone = taken.set.there;
  there = entry_elsewhere middle new [] source None taken.set target (place_kept old middle put.layout target target_in) (apart_back source target apart) ∙ put.set.there;
  elsewhere = λ p place not_source not_target.
      entry_elsewhere middle new [] source None taken.set p (place_kept old middle put.layout p place) not_source
      ∙ entry_elsewhere old middle [] target (Some (record { frame = e.frame; rights = e.rights; status = no_rights })) put.set p place not_target;
  present = taken.present;
  layout = record {
    spaces = taken.layout.spaces ∙ put.layout.spaces;
    bits = taken.layout.bits ∙ put.layout.bits;
    count = taken.layout.count ∙ put.layout.count;
    index = λ p. taken.layout.index p ∙ put.layout.index p;
  };
}

-- ---- the pages so far

-- the first transfers are done: their words moved
pub record AreMoving (limits : Limits) (h : Holdings) (old : Shards) (ts : List Transfer) (i : ℕ) (now : Shards) : Type 0 where
  pub words : AreWordsMoved limits (moving_of h (take i ts)) old now
  pub layout : layout_in now ≡ layout_in old

module _ (limits : Limits) (old : Shards) (trees : List Shape) (sound : IsSound limits old trees) (ts : List Transfer) (planned : ArePlanned limits ts) (all_go : AllGo ts)
    (free : All (λ t. at (holdings_of limits old trees) t.target ≡ None) ts) where
  abbrev h : Holdings
  h = holdings_of limits old trees

  pub none_moved : AreMoving limits h old ts 0 old
  none_moved = record {
    words = record {
      present = sound.kept.fits.present;
      spaces = refl;
      bits = refl;
      count = refl;
      forth = λ p e within stood. stood;
      back = λ q x within stood. record { place = q; entry = x; within = within; stood = stood; to = refl };
    };
    layout = refl;
  }

  module _ (i : ℕ) (d : Transfer) (within : i < length ts) (now : Shards) (so_far : AreMoving limits h old ts i now) where
    abbrev t : Transfer
    t = get_or ts i d

    abbrev es : List Pair
    es = moving_of h (take i ts)

    abbrev words : AreWordsMoved limits es old now
    words = so_far.words

    ends_within : IsTransferWithin limits t
    ends_within = All-get_or (IsTransferWithin limits) ts i d within planned.within

    source_within : IsWithin limits t.source
    source_within = record { space = ends_within.source_space; page = ends_within.source_page }

    target_within : IsWithin limits t.target
    target_within = record { space = ends_within.target_space; page = ends_within.target_page }

    place_now : (p : Place) → IsWithin limits p → IsPlace now p
    place_now p p_in =
        let place = place_within limits old trees sound.kept.fits p p_in in
        record { space = subst (λ n. p.space < n) (sym words.spaces) place.space; page = subst (λ b. p.page < pages_of b) (sym words.bits) place.page }

    pub source_place : IsPlace now t.source
    source_place = place_now t.source source_within

    pub target_place : IsPlace now t.target
    target_place = place_now t.target target_within

    spaces : (t.source.space ≡ planned.from) × (t.target.space ≡ planned.to)
    spaces = spaces_at planned.from planned.to i ts d planned.paired within

    pub ends_apart : same_place t.source t.target ≡ false
    ends_apart = apart_places t.source t.target (λ same. planned.differ (sym spaces.0 ∙ ap (λ (p : Place). p.space) same ∙ spaces.1))

    target_empty : entry_at old t.target ≡ None
    target_empty = by (entry_at old t.target) refl
      where
        by : (o : Option Entry) → entry_at old t.target ≡ o → entry_at old t.target ≡ None
        by None is = is
        by (Some e) is = absurd (cc (present_within limits old trees t.target target_within e is, All-get_or (λ (x : Transfer). at h x.target ≡ None) ts i d within free))

    -- the pairs that moved so far
    earlier : (e : Pair) → In e es → (e.0 ≡ t.source → ⊥) × (e.1 ≡ t.target → ⊥) × (e.1 ≡ t.source → ⊥)
    earlier e k =
        in_moving (λ x. (same_place x.source t.source ≡ false) × (same_place x.target t.target ≡ false) × (x.target.space ≡ planned.to)) (λ e. (e.0 ≡ t.source → ⊥) × (e.1 ≡ t.target → ⊥) × (e.1 ≡ t.source → ⊥))
        (λ x apart. (
          λ same. cc (apart.0, ap (λ y. same_place y t.source) same, same_self t.source),
          λ same. cc (apart.1, ap (λ y. same_place y t.target) same, same_self t.target),
          λ same. planned.differ (sym spaces.0 ∙ ap (λ (p : Place). p.space) (sym same) ∙ apart.2),
        )) h (take i ts) (before_apart planned.from planned.to i ts d planned.paired within) e k

    source_new : sources_of es t.source ≡ false
    source_new = false_from_ne_true (sources_of es t.source) (λ is. let s = job.source_in es t.source is in (earlier s.0 s.1).0 s.2)

    -- the source did not move, and nothing moved to it
    source_stays : moved_to es t.source ≡ t.source
    source_stays = by (moved_cases es t.source)
      where
        by : ((e : Pair) × In e es × (e.0 ≡ t.source) × (moved_to es t.source ≡ e.1)) ⊎ ((sources_of es t.source ≡ false) × (moved_to es t.source ≡ t.source)) → moved_to es t.source ≡ t.source
        by (inl (e, k, same, _)) = absurd ((earlier e k).0 same)
        by (inr (_, stays)) = stays

    came_source : (p : Place) → moved_to es p ≡ t.source → p ≡ t.source
    came_source p to = by (moved_cases es p)
      where
        by : ((e : Pair) × In e es × (e.0 ≡ p) × (moved_to es p ≡ e.1)) ⊎ ((sources_of es p ≡ false) × (moved_to es p ≡ p)) → p ≡ t.source
        by (inl (e, k, _, is)) = absurd ((earlier e k).2 (sym is ∙ to))
        by (inr (_, stays)) = sym stays ∙ to

    -- its word is as it was at the start
    pub source_lost : entry_at now t.source ≡ None → entry_at old t.source ≡ None
    source_lost absent = by (entry_at old t.source) refl
      where
        by : (o : Option Entry) → entry_at old t.source ≡ o → entry_at old t.source ≡ None
        by None is = is
        by (Some e) is = absurd (cc (absent, ap (entry_at now) (sym source_stays) ∙ words.forth t.source e source_within is))

    pub source_stood : (e : Entry) → entry_at now t.source ≡ Some e → entry_at old t.source ≡ Some e
    source_stood e is =
        let c = words.back t.source e source_within is in
        let stood : entry_at old t.source ≡ Some c.entry = ap (entry_at old) (sym (came_source c.place c.to)) ∙ c.stood in
        stood ∙ sym (words.forth t.source c.entry source_within stood ∙ ap (λ b. Some (record { frame = c.entry.frame; rights = c.entry.rights; status = if b then no_rights else c.entry.status })) source_new)
        ∙ ap (entry_at now) source_stays ∙ is

    -- ---- one page is lost

    pub step_lost : entry_at now t.source ≡ None → (next : Shards) → next ≡ now → AreMoving limits h old ts (i + 1) next
    step_lost absent next same =
        let none : is_held h t.source ≡ false = ap is_some (absent_within limits old trees t.source source_within (source_lost absent)) in
        record {
          words = subst (λ s. AreWordsMoved limits (moving_of h (take (i + 1) ts)) old s) (sym same) (subst (λ es. AreWordsMoved limits es old now) (sym (ap (moving_of h) (take_more ts i d within) ∙ moving_last h (take i ts) t false none)) words);
          layout = ap layout_in same ∙ so_far.layout;
        }

    -- ---- one page moves

    module _ (e : Entry) (is : entry_at now t.source ≡ Some e) (next : Shards) (m : IsPageMoved now next t.source t.target e) where
      abbrev more : List Pair
      more = es ++ pair_of t ∷ []

      stood : entry_at old t.source ≡ Some e
      stood = source_stood e is

      kept : (p : Place) → IsWithin limits p → (p ≡ t.source → ⊥) → (p ≡ t.target → ⊥) → entry_at next p ≡ entry_at now p
      kept p p_in not_source not_target = m.elsewhere p (place_now p p_in) (apart_places p t.source not_source) (apart_places p t.target not_target)

      sources_more : (p : Place) → sources_of more p ≡ (sources_of es p || (same_place t.source p || false))
      sources_more p = list_any-append (λ (e : Pair). same_place e.0 p) es (pair_of t ∷ [])

      as_before : (p : Place) → sources_of es p ≡ true → moved_to more p ≡ moved_to es p
      as_before p some = ap (λ o. unwrap_or o p) (target_before es (pair_of t) p some)

      as_last : (p : Place) → sources_of es p ≡ false → moved_to more p ≡ moved_to (pair_of t ∷ []) p
      as_last p none = ap (λ o. unwrap_or o p) (target_behind es (pair_of t) p none)

      source_moves : moved_to more t.source ≡ t.target
      source_moves = as_last t.source source_new ∙ one_source (pair_of t)

      same_entry : (p : Place) (x : Entry) (b : Bool) → sources_of es p ≡ b → sources_of more p ≡ b → Some (entry_moved es p x) ≡ Some (entry_moved more p x)
      same_entry p x b was now = ap (λ b. Some (record { frame = x.frame; rights = x.rights; status = if b then no_rights else x.status })) (was ∙ sym now)

      forth : (p : Place) (x : Entry) → IsWithin limits p → entry_at old p ≡ Some x → entry_at next (moved_to more p) ≡ Some (entry_moved more p x)
      forth p x p_in held = by (moved_cases es p) (same_or_apart t.source p)
        where
          by : ((e : Pair) × In e es × (e.0 ≡ p) × (moved_to es p ≡ e.1)) ⊎ ((sources_of es p ≡ false) × (moved_to es p ≡ p)) → (t.source ≡ p) ⊎ (same_place t.source p ≡ false) → entry_at next (moved_to more p) ≡ Some (entry_moved more p x)
          by (inl (e, k, same, to)) _ =
              let some : sources_of es p ≡ true = ap (sources_of es) (sym same) ∙ job.in_sources es e k in
              let apart = earlier e k in
              ap (entry_at next) (as_before p some)
              ∙ kept (moved_to es p) (targets_within e k to) (λ one. apart.2 (sym to ∙ one)) (λ one. apart.1 (sym to ∙ one))
              ∙ words.forth p x p_in held
              ∙ same_entry p x true some (sources_more p ∙ ap (λ b. b || (same_place t.source p || false)) some)
            where
              targets_within : (e : Pair) → In e es → moved_to es p ≡ e.1 → IsWithin limits (moved_to es p)
              targets_within e k to =
                  subst (IsWithin limits) (sym to)
                  (in_moving (IsTransferWithin limits) (λ e. IsWithin limits e.1) (λ x w. record { space = w.target_space; page = w.target_page }) h (take i ts) (All-take (IsTransferWithin limits) i ts planned.within) e k)
          by (inr (none, stays)) (inl same) =
              ap (λ q. entry_at next (moved_to more q)) (sym same) ∙ ap (entry_at next) source_moves ∙ m.there
              ∙ (let one : e ≡ x = same_Some e x (sym stood ∙ ap (entry_at old) same ∙ held) in
              let some : sources_of more p ≡ true = sources_more p ∙ (λ i. none i || ((ap (same_place t.source) (sym same) ∙ same_self t.source) i || false)) in
              λ i. Some (record { frame = (one i).frame; rights = (one i).rights; status = if sym some i then no_rights else x.status }))
          by (inr (none, stays)) (inr apart) =
              let other : moved_to more p ≡ p = as_last p none ∙ one_other (pair_of t) p apart in
              ap (entry_at next) other
              ∙ kept p p_in (λ same. cc (apart, ap (same_place t.source) same, same_self t.source)) (λ same. cc (held, target_empty, ap (entry_at old) same))
              ∙ ap (entry_at now) (sym stays) ∙ words.forth p x p_in held
              ∙ same_entry p x false none (sources_more p ∙ (λ i. none i || (apart i || false)))

      back : (q : Place) (x : Entry) → IsWithin limits q → entry_at next q ≡ Some x → CameFrom limits more old q
      back q x q_in stands = by (same_or_apart q t.target) (same_or_apart q t.source)
        where
          by : (q ≡ t.target) ⊎ (same_place q t.target ≡ false) → (q ≡ t.source) ⊎ (same_place q t.source ≡ false) → CameFrom limits more old q
          by (inl same) _ = record { place = t.source; entry = e; within = source_within; stood = stood; to = source_moves ∙ sym same }
          by (inr _) (inl same) = absurd (cc (stands, m.gone, ap (entry_at next) same))
          by (inr not_target) (inr not_source) =
              let c = words.back q x q_in (sym (m.elsewhere q (place_now q q_in) not_source not_target) ∙ stands) in
              record { place = c.place; entry = c.entry; within = c.within; stood = c.stood; to = other c.place (moved_cases es c.place) c.to ∙ c.to }
            where
              other : (p : Place) → ((e : Pair) × In e es × (e.0 ≡ p) × (moved_to es p ≡ e.1)) ⊎ ((sources_of es p ≡ false) × (moved_to es p ≡ p)) → moved_to es p ≡ q → moved_to more p ≡ moved_to es p
              other p (inl (d, k, same, _)) to = as_before p (ap (sources_of es) (sym same) ∙ job.in_sources es d k)
              other p (inr (none, stays)) to = as_last p none ∙ one_other (pair_of t) p (apart_back p t.source (ap (λ y. same_place y t.source) (sym stays ∙ to) ∙ not_source)) ∙ sym stays

      moved_words : AreWordsMoved limits more old next
      moved_words = record { present = m.present; spaces = m.layout.spaces ∙ words.spaces; bits = m.layout.bits ∙ words.bits; count = m.layout.count ∙ words.count; forth = forth; back = back }

      pub step_moved : AreMoving limits h old ts (i + 1) next
      step_moved =
          let held : is_held h t.source ≡ true = ap is_some (present_within limits old trees t.source source_within e stood) in
          record {
            words = subst (λ es. AreWordsMoved limits es old next) (sym (ap (moving_of h) (take_more ts i d within) ∙ moving_last h (take i ts) t true held)) moved_words;
            layout = same_layout now next m.layout ∙ so_far.layout;
          }

    -- ---- one page more, lost or moved

    pub step : (next : Shards) → (entry_at now t.source ≡ None → next ≡ now) → ((e : Entry) → entry_at now t.source ≡ Some e → IsPageMoved now next t.source t.target e) → AreMoving limits h old ts (i + 1) next
    step next lost moved = by (entry_at now t.source) refl
      where
        by : (o : Option Entry) → entry_at now t.source ≡ o → AreMoving limits h old ts (i + 1) next
        by None is = step_lost is next (lost is)
        by (Some e) is = step_moved e is next (moved e is)

-- all are done
pub all_moved : (limits : Limits) (h : Holdings) (old : Shards) (ts : List Transfer) (i : ℕ) (now : Shards) → length ts ≤ i → AreMoving limits h old ts i now → AreWordsMoved limits (moving_of h ts) old now × (layout_in now ≡ layout_in old)
all_moved limits h old ts i now past so_far = (subst (λ xs. AreWordsMoved limits (moving_of h xs) old now) (take_all i ts past) so_far.words, so_far.layout)
