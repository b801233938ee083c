-- The trees of pages that move: in the tree of each frame that one of them has, sources are replaced by targets.
use Rattle.std.proofs.Common.{◌≡◌, ℕ, ◌<◌, ◌==◌, true, false, Bool, ◌||◌, List, [], ◌∷◌, length, get_or, Option, Some, None, refl, sym, ap, ◌∙◌, subst, ◌⊎◌, inl, inr, if◌then◌else◌}
use Rattle.std.specs.List.{All}
use Rattle.std.specs.List.Sorted.{IsPermutation}
use Rattle.std.specs.Option.{is_some}
use Rattle.std.proofs.lemmas.Bool.{eq-eqb}
use Rattle.std.proofs.lemmas.Option.{same_Some}
use Rattle.std.proofs.lemmas.List.Sorted.{All-permutation, list_any-IsPermutation}
use Rattle.std.proofs.lemmas.List.Elements.{All-nil, All-cons, All-head, All-tail, All-get_or}
use Rattle.space.specs.declared.place.Place.{Place}
use Rattle.space.specs.declared.place.Entry.{Entry}
use Rattle.space.specs.declared.shards.Shards.{Shards}
use Rattle.space.specs.Place.{same_place}
use Rattle.space.specs.Shards.{entry_at}
use Rattle.space.proofs.Places.{same_self, same_or_apart, apart_back}
use Rattle.maptree.specs.Origins.{Shape}
use Rattle.maptree.specs.PlaceMaps.{IsApart}
use Rattle.maptree.specs.Renamings.{all_renamed, StayApart}
use Rattle.model.specs.Definitions.Holdings.{Holdings, at, is_held}
use Rattle.model.specs.Definitions.Calls.{Limits}
use Rattle.model.specs.Definitions.Items.{Pair, sources_of}
use Rattle.model.specs.Definitions.Grant.{target_of, moved_to, renamed}
use Rattle.model.specs.Laws.SendLaws.{In}
use Rattle.model.proofs.Jobs as job
use Rattle.model.proofs.Renames.{moved_cases}
use Rattle.holdings.specs.declared.link.Link.{Link}
use Rattle.holdings.specs.declared.transfer.Transfer.{Transfer}
use Rattle.holdings.specs.Places.{IsWithin}
use Rattle.holdings.specs.Inner.Held.{links_in, is_listed, holdings_of, limits_in, holdings_in}
use Rattle.holdings.specs.Inner.Sound.{IsSound, AreSound}
use Rattle.holdings.specs.Inner.Links.{link_of, links_of, last_target, AreTargets}
use Rattle.holdings.specs.Sending.{IsTransferWithin, ArePaired, ArePlanned, AllGo, moving_of, pair_of}
use Rattle.holdings.specs.Inner.Renamings.{is_of_frame, AreMovable, AreRenamed, CanBeRenamed}
use Rattle.holdings.proofs.Contents.Holders.{present_within, absent_within}
use Rattle.holdings.proofs.Links.LinkedTrees.{no_link, some_or, IsAt, last_some, told_none}
use Rattle.holdings.proofs.Renamings.MovedPages.{IsFrameMoved, are_replaced, are_kept, AreWordsMoved, stay_apart, held_listed, moved_holdings, moved_sound}
use Rattle.holdings.proofs.Renamings.MovingWords.{in_moving, paired_moving}

-- ---- the targets that are told

module _ (new : Place → Option Place) (first : List Shape) (ls : List Link) (movable : AreMovable first ls) (targets : AreTargets ls new) where
  told : new ≡ (λ p. last_target ls p None)
  told = λ i p. targets p i

  are_last : IsApart new
  are_last p q is = by (new q) refl
    where
      space_of : (k : ℕ) → k < length ls → (get_or ls k no_link).source.space ≡ movable.space
      space_of k within = All-get_or (λ (l : Link). l.source.space ≡ movable.space) ls k no_link within movable.sources

      by : (o : Option Place) → new q ≡ o → new q ≡ None
      by None none = none
      by (Some r) some = choose (last_some ls p q None (sym (targets p) ∙ is)) (last_some ls q r None (sym (targets q) ∙ some))
        where
          choose : IsAt ls p q ⊎ (None ≡ Some q) → IsAt ls q r ⊎ (None ≡ Some r) → new q ≡ None
          choose (inl a) (inl b) = absurd (All-get_or (λ (l : Link). l.target.space ≡ movable.space → ⊥) ls a.k no_link a.within movable.targets (ap (λ (x : Place). x.space) (a.target ∙ sym b.source) ∙ space_of b.k b.within))
          choose (inr none) _ = absurd (cc none)
          choose _ (inr none) = absurd (cc none)

  -- they can stand for their sources
  pub can_be_renamed : CanBeRenamed new first
  can_be_renamed = record { apart = λ f. subst (λ n. StayApart n (links_in first f)) (sym told) (movable.apart f); last = are_last }

  module _ (sorted : List Link) (order : IsPermutation ls sorted) where
    pub frames_within : All (λ l. l.frame < length first) sorted
    frames_within = All-permutation (λ m. m.frame < length first) ls sorted order movable.frames

    -- the order of the links is nothing to the trees
    pub in_any_order : (trees : List Shape) → AreRenamed new sorted first trees → AreRenamed (λ p. last_target ls p None) ls first trees
    in_any_order trees are =
        let same : (f : ℕ) → is_of_frame ls f ≡ is_of_frame sorted f = λ f. list_any-IsPermutation (λ (l : Link). l.frame == f) ls sorted order in
        subst (λ n. AreRenamed n ls first trees) told (record {
          count = are.count;
          there = λ f some. are.there f (sym (same f) ∙ some);
          elsewhere = λ f none. are.elsewhere f (sym (same f) ∙ none);
        })

-- ---- the pages that move

module _ (limits : Limits) (old : Shards) (trees : List Shape) (sound : IsSound limits old trees) (ts : List Transfer) (planned : ArePlanned limits ts) (all_go : AllGo ts)
    (free : All (λ t. at (holdings_of limits old trees) t.target ≡ None) ts) where
  abbrev h : Holdings
  h = holdings_of limits old trees

  -- what is so of each transfer whose source is held is so of each link
  each_link : (Q : Transfer → Type 0) (P : Link → Type 0) → ((t : Transfer) (e : Entry) → entry_at old t.source ≡ Some e → Q t → P (record { frame = e.frame; source = t.source; target = t.target })) → (ds : List Transfer) → All Q ds → All P (links_of old ds)
  each_link Q P each [] all = All-nil P
  each_link Q P each (t ∷ ds) all = by (entry_at old t.source) refl t.extends (each_link Q P each ds (All-tail Q t ds all))
    where
      by : (o : Option Entry) → entry_at old t.source ≡ o → (b : Bool) → All P (links_of old ds) → All P (link_of (record { source = t.source; target = t.target; extends = b }) o (links_of old ds))
      by None is b rest = rest
      by (Some e) is true rest = rest
      by (Some e) is false rest = All-cons P (record { frame = e.frame; source = t.source; target = t.target }) (links_of old ds) (each t e is (All-head Q t ds all)) rest

  held_source : (t : Transfer) → IsTransferWithin limits t → (o : Option Entry) → entry_at old t.source ≡ o → is_held h t.source ≡ is_some o
  held_source t within None is = ap is_some (absent_within limits old trees t.source (record { space = within.source_space; page = within.source_page }) is)
  held_source t within (Some e) is = ap is_some (present_within limits old trees t.source (record { space = within.source_space; page = within.source_page }) e is)

  -- the links tell the targets of the pairs that move
  pub told_targets : (from to : ℕ) (ds : List Transfer) → ArePaired from to ds → All (IsTransferWithin limits) ds → AllGo ds → (p : Place) → last_target (links_of old ds) p None ≡ target_of (moving_of h ds) p
  told_targets from to [] paired within go p = refl
  told_targets from to (t ∷ ds) paired within go p =
      by (entry_at old t.source) refl t.extends (All-head (λ (x : Transfer). x.extends ≡ false) t ds go)
      (told_targets from to ds paired.3 (All-tail (IsTransferWithin limits) t ds within) (All-tail (λ (x : Transfer). x.extends ≡ false) t ds go) p) (same_or_apart p t.source)
    where
      apart : All (λ l. same_place t.source l.source ≡ false) (links_of old ds)
      apart = each_link (λ d. (same_place d.source t.source ≡ false) × (same_place d.target t.target ≡ false)) (λ l. same_place t.source l.source ≡ false) (λ d e _ q. apart_back d.source t.source q.0) ds paired.2

      by : (o : Option Entry) → entry_at old t.source ≡ o → (b : Bool) → b ≡ false → last_target (links_of old ds) p None ≡ target_of (moving_of h ds) p → (p ≡ t.source) ⊎ (same_place p t.source ≡ false)
          → last_target (link_of (record { source = t.source; target = t.target; extends = b }) o (links_of old ds)) p None ≡ target_of (if is_held h t.source then pair_of t ∷ moving_of h ds else moving_of h ds) p
      by None is b go rest which = rest ∙ sym (ap (λ b. target_of (if b then pair_of t ∷ moving_of h ds else moving_of h ds) p) (held_source t (All-head (IsTransferWithin limits) t ds within) None is))
      by (Some e) is true go rest which = absurd (cc go)
      by (Some e) is false go rest (inl same) =
          ap (λ b. last_target (links_of old ds) p (if b then Some t.target else None)) (ap (λ x. same_place x t.source) same ∙ same_self t.source)
          ∙ ap (λ x. last_target (links_of old ds) x (Some t.target)) same ∙ told_none (links_of old ds) t.source (Some t.target) (λ k less. All-get_or (λ l. same_place t.source l.source ≡ false) (links_of old ds) k no_link less apart)
          ∙ sym (ap (λ b. target_of (if b then pair_of t ∷ moving_of h ds else moving_of h ds) p) (held_source t (All-head (IsTransferWithin limits) t ds within) (Some e) is)
          ∙ ap (λ b. if b then Some t.target else target_of (moving_of h ds) p) (ap (same_place t.source) same ∙ same_self t.source))
      by (Some e) is false go rest (inr other) =
          ap (λ b. last_target (links_of old ds) p (if b then Some t.target else None)) other ∙ rest
          ∙ sym (ap (λ b. target_of (if b then pair_of t ∷ moving_of h ds else moving_of h ds) p) (held_source t (All-head (IsTransferWithin limits) t ds within) (Some e) is)
          ∙ ap (λ b. if b then Some t.target else target_of (moving_of h ds) p) (apart_back p t.source other))

  -- the frame of a page that moves is one of theirs
  frame_told : (ds : List Transfer) → AllGo ds → All (IsTransferWithin limits) ds → (p : Place) (e : Entry) → sources_of (moving_of h ds) p ≡ true → entry_at old p ≡ Some e → is_of_frame (links_of old ds) e.frame ≡ true
  frame_told [] go within p e some is = absurd (cc some)
  frame_told (t ∷ ds) go within p e some is =
      by (entry_at old t.source) refl t.extends (All-head (λ (x : Transfer). x.extends ≡ false) t ds go) (same_or_apart t.source p)
      (λ rest. frame_told ds (All-tail (λ (x : Transfer). x.extends ≡ false) t ds go) (All-tail (IsTransferWithin limits) t ds within) p e rest is)
    where
      first_within : IsTransferWithin limits t
      first_within = All-head (IsTransferWithin limits) t ds within

      some_is : (b : Bool) → is_held h t.source ≡ b → sources_of (if b then pair_of t ∷ moving_of h ds else moving_of h ds) p ≡ true
      some_is b held = ap (λ b. sources_of (if b then pair_of t ∷ moving_of h ds else moving_of h ds) p) (sym held) ∙ some

      by : (o : Option Entry) → entry_at old t.source ≡ o → (b : Bool) → b ≡ false → (t.source ≡ p) ⊎ (same_place t.source p ≡ false) → (sources_of (moving_of h ds) p ≡ true → is_of_frame (links_of old ds) e.frame ≡ true)
          → is_of_frame (link_of (record { source = t.source; target = t.target; extends = b }) o (links_of old ds)) e.frame ≡ true
      by None stood b go which rest = rest (some_is false (held_source t first_within None stood))
      by (Some x) stood true go which rest = absurd (cc go)
      by (Some x) stood false go (inl same) rest =
          let one : x.frame ≡ e.frame = ap (λ (y : Entry). y.frame) (same_Some x e (sym stood ∙ ap (entry_at old) same ∙ is)) in
          ap (λ b. b || is_of_frame (links_of old ds) e.frame) (eq-eqb x.frame e.frame one)
      by (Some x) stood false go (inr apart) rest =
          some_or (x.frame == e.frame) (is_of_frame (links_of old ds) e.frame) (rest (sym (ap (λ b. b || sources_of (moving_of h ds) p) apart) ∙ some_is true (held_source t first_within (Some x) stood)))

  pairs : job.ArePaired planned.from planned.to (moving_of h ts)
  pairs = paired_moving planned.from planned.to h ts planned.paired

  pub pairs_free : (e : Pair) → In e (moving_of h ts) → at h e.1 ≡ None
  pairs_free = in_moving (λ t. at h t.target ≡ None) (λ e. at h e.1 ≡ None) (λ t none. none) h ts free

  pub pairs_within : (e : Pair) → In e (moving_of h ts) → IsWithin limits e.1
  pairs_within = in_moving (IsTransferWithin limits) (λ e. IsWithin limits e.1) (λ x w. record { space = w.target_space; page = w.target_page }) h ts planned.within

  targets_told : (λ p. last_target (links_of old ts) p None) ≡ target_of (moving_of h ts)
  targets_told = λ i p. told_targets planned.from planned.to ts planned.paired planned.within all_go p i

  spaces_all : (from to : ℕ) (ds : List Transfer) → ArePaired from to ds → All (λ t. (t.source.space ≡ from) × (t.target.space ≡ to)) ds
  spaces_all from to [] paired = All-nil (λ t. (t.source.space ≡ from) × (t.target.space ≡ to))
  spaces_all from to (t ∷ ds) paired = All-cons (λ t. (t.source.space ≡ from) × (t.target.space ≡ to)) t ds (paired.0, paired.1) (spaces_all from to ds paired.3)

  -- the pages can move in the trees
  pub movable : limits.frames ≡ length trees → AreMovable trees (links_of old ts)
  movable count = record {
    space = planned.from;
    sources = each_link (λ t. (t.source.space ≡ planned.from) × (t.target.space ≡ planned.to)) (λ l. l.source.space ≡ planned.from) (λ t e _ spaces. spaces.0) ts (spaces_all planned.from planned.to ts planned.paired);
    targets = each_link (λ t. (t.source.space ≡ planned.from) × (t.target.space ≡ planned.to)) (λ l. l.target.space ≡ planned.from → ⊥) (λ t e _ spaces same. planned.differ (sym same ∙ spaces.1)) ts (spaces_all planned.from planned.to ts planned.paired);
    frames = each_link (IsTransferWithin limits) (λ l. l.frame < length trees)
        (λ t e is w. subst (λ n. e.frame < n) count (sound.kept.fits.frame t.source e (record { space = w.source_space; page = w.source_page }) is)) ts planned.within;
    there = each_link (IsTransferWithin limits) (λ l. is_listed trees l.frame l.source ≡ true)
        (λ t e is w. sound.kept.fits.listed t.source e (record { space = w.source_space; page = w.source_page }) is) ts planned.within;
    apart = λ f. subst (λ n. StayApart n (links_in trees f)) (sym targets_told) (stay_apart limits old trees planned.from planned.to (moving_of h ts) sound pairs pairs_free f);
  }

  -- and then each tree is as after the move
  pub frames_moved : (after : List Shape) → AreRenamed (λ p. last_target (links_of old ts) p None) (links_of old ts) trees after → (f : ℕ) → IsFrameMoved (moving_of h ts) (links_in trees f) (links_in after f)
  frames_moved after are f = by (is_of_frame (links_of old ts) f) refl
    where
      es : List Pair
      es = moving_of h ts

      stays : is_of_frame (links_of old ts) f ≡ false → (p : Place) → is_listed trees f p ≡ true → moved_to (moving_of h ts) p ≡ p
      stays none p listed = which (moved_cases (moving_of h ts) p)
        where
          which : ((e : Pair) × In e (moving_of h ts) × (e.0 ≡ p) × (moved_to (moving_of h ts) p ≡ e.1)) ⊎ ((sources_of (moving_of h ts) p ≡ false) × (moved_to (moving_of h ts) p ≡ p)) → moved_to (moving_of h ts) p ≡ p
          which (inl (e, k, same, _)) =
              let x = (held_listed limits old trees planned.from planned.to (moving_of h ts) sound pairs pairs_free f p listed).1 in
              let told = frame_told ts all_go planned.within p x.0 (ap (sources_of (moving_of h ts)) (sym same) ∙ job.in_sources (moving_of h ts) e k) x.1 in
              absurd (cc (none, told, ap (is_of_frame (links_of old ts)) x.2))
          which (inr (_, is)) = is

      by : (b : Bool) → is_of_frame (links_of old ts) f ≡ b → IsFrameMoved (moving_of h ts) (links_in trees f) (links_in after f)
      by true is = are_replaced (are.there f is ∙ ap (λ n. all_renamed n (links_in trees f)) targets_told)
      by false is = are_kept (are.elsewhere f is) (stays is)

-- ---- words and trees after the move

module _ (old : Shards) (trees : List Shape) (sound : AreSound old trees) (ts : List Transfer) (planned : ArePlanned (limits_in old trees) ts) (all_go : AllGo ts)
    (free : All (λ t. at (holdings_in old trees) t.target ≡ None) ts) (now : Shards) (after : List Shape) (links : List Link) (are_links : links ≡ links_of old ts)
    (renamed_trees : AreRenamed (λ p. last_target links p None) links trees after) (words : AreWordsMoved (limits_in old trees) (moving_of (holdings_in old trees) ts) old now) where
  the_trees : AreRenamed (λ p. last_target (links_of old ts) p None) (links_of old ts) trees after
  the_trees = subst (λ ls. AreRenamed (λ p. last_target ls p None) ls trees after) are_links renamed_trees

  pub same_limits : limits_in now after ≡ limits_in old trees
  same_limits = λ j. record { spaces = words.spaces j; bits = words.bits j; frames = the_trees.count j }

  pub all_left : holdings_in now after ≡ renamed (moving_of (holdings_in old trees) ts) (holdings_in old trees)
  all_left =
      ap (λ l. holdings_of l now after) same_limits
      ∙ moved_holdings (limits_in old trees) old trees planned.from planned.to (moving_of (holdings_in old trees) ts) sound (pairs (limits_in old trees) old trees sound ts planned all_go free) (pairs_free (limits_in old trees) old trees sound ts planned all_go free)
      now after (pairs_within (limits_in old trees) old trees sound ts planned all_go free) words the_trees.count (frames_moved (limits_in old trees) old trees sound ts planned all_go free after the_trees)

  pub all_sound : AreSound now after
  all_sound =
      subst (λ l. IsSound l now after) (sym same_limits)
      (moved_sound (limits_in old trees) old trees planned.from planned.to (moving_of (holdings_in old trees) ts) sound (pairs (limits_in old trees) old trees sound ts planned all_go free) (pairs_free (limits_in old trees) old trees sound ts planned all_go free)
      now after (pairs_within (limits_in old trees) old trees sound ts planned all_go free) words the_trees.count (frames_moved (limits_in old trees) old trees sound ts planned all_go free after the_trees))
