-- The words and trees of a new database hold what the definition has at the start.
use Rattle.std.proofs.Common.{◌≡◌, ℕ, zero, suc, ◌+◌, ◌<◌, ◌≤◌, true, false, Bool, ◌&&◌, ◌||◌, ◌==◌, nat_lt, nat_le, List, [], ◌∷◌, length, Option, Some, None, refl, sym, ap, ◌∙◌, subst, arith, ◌⊎◌, inl, inr, if◌then◌else◌, pow_mono, ◌-◌, ◌^◌}
use Rattle.std.specs.Prelude.{IsFalse}
use Rattle.std.specs.Option.{option_map, option_map_or, option_and_then}
use Rattle.std.specs.List.{list_any}
use Rattle.std.proofs.lemmas.Bool.{and_parts, or_left, cases_lt, eq-eqb, eqb-true, ltb-true}
use Rattle.std.proofs.Math.Bool.{or-false}
use Rattle.std.proofs.lemmas.Bool.Decides.{nat_tests}
use Rattle.std.proofs.lemmas.Option.{slice_get_past}
use Rattle.fpage.specs.Rights.{all_rights, no_rights}
use Rattle.space.specs.declared.place.Place.{Place}
use Rattle.space.specs.declared.place.Entry.{Entry}
use Rattle.space.specs.declared.shards.Shards.{Shards}
use Rattle.space.specs.Place.{same_place}
use Rattle.space.specs.Directory.{pages_of}
use Rattle.space.proofs.ShardWords.{held_have_words}
use Rattle.space.specs.Shards.{word_count, spaces_of, bits_of, IsPlace, entry_at, is_taken, IsSetAt}
use Rattle.space.proofs.Places.{same_is, same_self, same_or_apart}
use Rattle.maptree.specs.Origins.{Shape, Origins, origin_in}
use Rattle.model.specs.Definitions.Holdings.{Held, at}
use Rattle.model.specs.Definitions.Lawful.{is_lawful}
use Rattle.model.specs.Definitions.Calls.{Limits}
use Rattle.model.specs.Definitions.Records.{are_limits}
use Rattle.model.specs.Definitions.Replay.{root, roots_from, start}
use Rattle.model.proofs.Starts.{lawful_roots, start_is_lawful}
use Rattle.holdings.specs.Places.{IsWithin}
use Rattle.holdings.specs.Inner.Held.{is_place, links_in, is_listed, held_of, held_at, has_frame, holdings_of}
use Rattle.holdings.specs.Inner.Start.{root_place, root_entry}
use Rattle.holdings.specs.Inner.Sound.{IsSound}
use Rattle.holdings.proofs.Contents.Listing.{listing_is, place_from_within}
use Rattle.holdings.proofs.Contents.Holders.{entry_elsewhere}

-- ---- limits that are served

-- what the test of limits says
pub record AreServed (l : Limits) : Type 0 where
  pub some : 2 ≤ l.spaces
  pub few : l.spaces ≤ 512
  pub low : 18 ≤ l.bits
  pub high : l.bits ≤ 32
  pub one : 1 ≤ l.frames
  pub all : l.frames ≤ pages_of l.bits

pub served : (l : Limits) → are_limits l ≡ true → AreServed l
served l is =
    let parts = six l.spaces l.bits l.frames (pages_of l.bits) is in
    record { some = parts.0; few = parts.1; low = parts.2; high = parts.3; one = parts.4; all = parts.5 }
  where
    six : (s b f n : ℕ) → (nat_le 2 s && nat_le s 512 && nat_le 18 b && nat_le b 32 && nat_le 1 f && nat_le f n) ≡ true
        → (2 ≤ s) × (s ≤ 512) × (18 ≤ b) × (b ≤ 32) × (1 ≤ f) × (f ≤ n)
    six s b f n is = grind (arith, nat_tests)

-- a space has no more than 2^20 pages
pub pages_few : (l : Limits) → are_limits l ≡ true → pages_of l.bits ≤ 2 ^ 20
pages_few l is = let high = (served l is).high in let few : l.bits - 12 ≤ 20 = omega (arith, high) in pow_mono few

-- ---- the words of roots

module _ (frames : ℕ) where
  no_root : (p : Place) → root_entry 0 p ≡ None
  no_root p = ap (λ b. if b then Some (record { frame = p.page; rights = all_rights; status = no_rights }) else None) (by (p.space == 0) p.page)
    where
      by : (b : Bool) (g : ℕ) → (b && nat_lt g 0) ≡ false
      by b g = grind (arith, nat_tests)

  root_here : root_entry (frames + 1) (root_place frames) ≡ Some (record { frame = frames; rights = all_rights; status = no_rights })
  root_here = ap (λ b. if b then Some (record { frame = frames; rights = all_rights; status = no_rights }) else None) (by frames)
    where
      by : (g : ℕ) → ((0 == 0) && nat_lt g (g + 1)) ≡ true
      by g = grind (arith, nat_tests)

  root_elsewhere : (p : Place) → same_place p (root_place frames) ≡ false → root_entry (frames + 1) p ≡ root_entry frames p
  root_elsewhere p apart = ap (λ b. if b then Some (record { frame = p.page; rights = all_rights; status = no_rights }) else None) test
    where
      test : ((p.space == 0) && nat_lt p.page (frames + 1)) ≡ ((p.space == 0) && nat_lt p.page frames)
      test = grind (arith, nat_tests)

  -- one root more
  pub root_set : (old new : Shards) (q : Place) → q ≡ root_place frames → IsSetAt old new q (Some (record { frame = frames; rights = all_rights; status = no_rights }))
      → ((p : Place) → IsPlace old p → entry_at old p ≡ root_entry frames p) → (p : Place) → IsPlace old p → entry_at new p ≡ root_entry (frames + 1) p
  root_set old new q here set so_far p place = by (same_or_apart p q)
    where
      by : (p ≡ q) ⊎ (same_place p q ≡ false) → entry_at new p ≡ root_entry (frames + 1) p
      by (inl same) = ap (entry_at new) same ∙ set.there ∙ sym root_here ∙ ap (root_entry (frames + 1)) (sym (same ∙ here))
      by (inr apart) = entry_elsewhere old new [] q _ set p place apart ∙ so_far p place ∙ sym (root_elsewhere p (subst (λ x. same_place p x ≡ false) here apart))

-- what a root's word says
pub record IsRootOf (frames : ℕ) (p : Place) (e : Entry) : Type 0 where
  pub place : p ≡ root_place e.frame
  pub frame : e.frame < frames

pub root_is : (frames : ℕ) (p : Place) (e : Entry) → root_entry frames p ≡ Some e → IsRootOf frames p e
root_is frames p e is = by ((p.space == 0) && nat_lt p.page frames) refl is
  where
    by : (b : Bool) → ((p.space == 0) && nat_lt p.page frames) ≡ b → (if b then Some (record { frame = p.page; rights = all_rights; status = no_rights }) else None) ≡ Some e → IsRootOf frames p e
    by false test is = absurd (cc is)
    by true test is =
        let parts = and_parts (p.space == 0) (nat_lt p.page frames) test in
        let one : record { frame = p.page; rights = all_rights; status = no_rights } ≡ e = cc is in
        let page : p.page ≡ e.frame = ap (λ x. x.frame) one in
        record {
          place = λ i. record { space = eqb-true p.space 0 parts.0 i; page = page i };
          frame = subst (λ f. f < frames) page (ltb-true p.page frames parts.1);
        }

pub root_at_place : (frames f : ℕ) → f < frames → root_entry frames (root_place f) ≡ Some (record { frame = f; rights = all_rights; status = no_rights })
root_at_place frames f within = ap (λ b. if b then Some (record { frame = f; rights = all_rights; status = no_rights }) else None) (by f frames within)
  where
    by : (g n : ℕ) → g < n → ((0 == 0) && nat_lt g n) ≡ true
    by g n less = grind (arith, nat_tests)

-- ---- what the definition holds at the start

-- the test of a root among so many from a page on
roots_test : ℕ → ℕ → Place → Bool
roots_test i n p = (p.space == 0) && (nat_le i p.page && nat_lt p.page (i + n))

at_roots : (i n : ℕ) (p : Place) → at (roots_from i n) p ≡ (if roots_test i n p then Some (root p.page).1 else None)
unfolding roots_test
at_roots i zero p = ap (λ b. if b then Some (root p.page).1 else None) (none (p.space == 0) p.page)
  where
    none : (b : Bool) (g : ℕ) → false ≡ (b && (nat_le i g && nat_lt g (i + 0)))
    none b g = grind (arith, nat_tests)
at_roots i (suc n) p = by (same_or_apart p (root_place i)) (at_roots (i + 1) n p)
  where
    first : (g n : ℕ) → true ≡ ((0 == 0) && (nat_le g g && nat_lt g (g + suc n)))
    first g n = grind (arith, nat_tests)

    later : (p : Place) → same_place p (root_place i) ≡ false → ((p.space == 0) && (nat_le (i + 1) p.page && nat_lt p.page (i + 1 + n))) ≡ ((p.space == 0) && (nat_le i p.page && nat_lt p.page (i + suc n)))
    later p apart = grind (arith, nat_tests)

    by : (p ≡ root_place i) ⊎ (same_place p (root_place i) ≡ false)
        → at (roots_from (i + 1) n) p ≡ (if (p.space == 0) && (nat_le (i + 1) p.page && nat_lt p.page (i + 1 + n)) then Some (root p.page).1 else None)
        → (if same_place p (root_place i) then Some (root i).1 else at (roots_from (i + 1) n) p) ≡ (if (p.space == 0) && (nat_le i p.page && nat_lt p.page (i + suc n)) then Some (root p.page).1 else None)
    by (inl same) rest =
        subst (λ q. (if same_place q (root_place i) then Some (root i).1 else at (roots_from (i + 1) n) q) ≡ (if (q.space == 0) && (nat_le i q.page && nat_lt q.page (i + suc n)) then Some (root q.page).1 else None)) (sym same)
        (ap (λ b. if b then Some (root i).1 else at (roots_from (i + 1) n) (root_place i)) (same_self (root_place i)) ∙ ap (λ b. if b then Some (root i).1 else None) (first i n))
    by (inr apart) rest =
        ap (λ b. if b then Some (root i).1 else at (roots_from (i + 1) n) p) apart ∙ rest ∙ ap (λ b. if b then Some (root p.page).1 else None) (later p apart)

-- what a root's word says is held
abbrev rootless : Entry → Held
rootless e = record { frame = e.frame; rights = e.rights; status = e.status; origin = None }

-- as the word says it
root_held : (frames : ℕ) (p : Place) → at (roots_from 0 frames) p ≡ option_map rootless (root_entry frames p)
unfolding roots_test
root_held frames p =
    at_roots 0 frames p ∙ by ((p.space == 0) && (nat_le 0 p.page && nat_lt p.page (0 + frames))) ((p.space == 0) && nat_lt p.page frames) (same (p.space == 0) p.page)
  where
    same : (b : Bool) (g : ℕ) → (b && (nat_le 0 g && nat_lt g (0 + frames))) ≡ (b && nat_lt g frames)
    same b g = grind (arith, nat_tests)

    by : (a b : Bool) → a ≡ b → (if a then Some (root p.page).1 else None)
        ≡ option_map rootless (if b then Some (record { frame = p.page; rights = all_rights; status = no_rights }) else None)
    by true true is = refl
    by false false is = refl
    by true false is = absurd (cc is)
    by false true is = absurd (cc is)

-- ---- words and trees of roots

module _ (limits : Limits) (shards : Shards) (trees : List Shape)
    (are : are_limits limits ≡ true) (spaces : spaces_of shards ≡ limits.spaces) (bits : bits_of shards ≡ limits.bits) (present : IsFalse (is_taken shards))
    (entries : (p : Place) → IsPlace shards p → entry_at shards p ≡ root_entry limits.frames p)
    (count : length trees ≡ limits.frames)
    (roots : (f : ℕ) → f < limits.frames → links_in trees f ≡ (root_place f, None) ∷ []) where
  root_stands : (p : Place) → IsWithin limits p → entry_at shards p ≡ root_entry limits.frames p
  root_stands p within = entries p (record { space = omega (arith, within.space, spaces); page = subst (λ b. p.page < pages_of b) (sym bits) within.page })

  root_within : (f : ℕ) → f < limits.frames → IsWithin limits (root_place f)
  root_within f less = let s = served limits are in record { space = omega (arith, s.some); page = omega (arith, less, s.all) }

  -- what is listed in a tree is its root
  listed_root : (f : ℕ) (p : Place) → is_listed trees f p ≡ true → (f < limits.frames) × (p ≡ root_place f)
  listed_root f p listed = by (cases_lt f limits.frames)
    where
      by : (f < limits.frames) ⊎ (limits.frames ≤ f) → (f < limits.frames) × (p ≡ root_place f)
      by (inl less) =
          let one : (same_place p (root_place f) || false) ≡ true = ap (λ (os : Origins). list_any (λ o. same_place p o.0) os) (sym (roots f less)) ∙ listed in
          (less, same_is p (root_place f) (sym (or-false (same_place p (root_place f))) ∙ one))
      by (inr past) =
          let none : links_in trees f ≡ [] = ap (λ o. option_map_or (λ (t : Shape). t.links) o []) (slice_get_past trees f (omega (arith, past, count))) in
          absurd (cc (listed, ap (λ (os : Origins). list_any (λ o. same_place p o.0) os) none))

  held_root : (p : Place) → IsWithin limits p → at (start limits) p ≡ held_at shards trees p
  held_root p within = root_held limits.frames p ∙ by (root_entry limits.frames p) refl ∙ ap (option_map (held_of trees p)) (sym (root_stands p within))
    where
      no_origin : (f : ℕ) → f < limits.frames → origin_in (links_in trees f) (root_place f) ≡ None
      no_origin f less =
          ap (λ (os : Origins). origin_in os (root_place f)) (roots f less) ∙ ap (λ b. option_and_then (λ (o : Option Place). o) (if b then Some None else None)) (same_self (root_place f))

      by : (o : Option Entry) → root_entry limits.frames p ≡ o → option_map rootless o ≡ option_map (held_of trees p) o
      by None is = refl
      by (Some e) is =
          let r = root_is limits.frames p e is in
          let none : origin_in (links_in trees e.frame) p ≡ None = ap (origin_in (links_in trees e.frame)) r.place ∙ no_origin e.frame r.frame in
          ap (λ o. Some (record { frame = e.frame; rights = e.rights; status = e.status; origin = o })) (sym none)

  -- the holdings are those of the definition
  pub start_holdings : holdings_of limits shards trees ≡ start limits
  start_holdings = listing_is (held_at shards trees) limits (start limits) (lawful_roots 0 limits.frames).sorted held_root outside
    where
      outside : (p : Place) → is_place limits p ≡ false → at (start limits) p ≡ None
      outside p out = root_held limits.frames p ∙ by (root_entry limits.frames p) refl
        where
          by : (o : Option Entry) → root_entry limits.frames p ≡ o → option_map rootless o ≡ None
          by None is = refl
          by (Some e) is =
              let r = root_is limits.frames p e is in
              let inside : is_place limits p ≡ true = ap (is_place limits) r.place ∙ place_from_within limits (root_place e.frame) (root_within e.frame r.frame) in
              absurd (cc (inside, out))

  -- the first root is held, so its shard is there
  some_there : 0 < word_count shards
  some_there =
      let one = (served limits are).one in
      let stands = root_stands (root_place 0) (root_within 0 one) ∙ root_at_place limits.frames 0 one in
      let has = held_have_words shards (root_place 0) _ stands in
      omega (arith, has)

  -- words and trees are sound
  pub start_sound : IsSound limits shards trees
  start_sound = record {
    kept = record {
      fits = record {
        served = are;
        spaces = spaces;
        bits = bits;
        present = present;
        some = some_there;
        count = count;
        frame = λ p e within is. (root_is limits.frames p e (sym (root_stands p within) ∙ is)).frame;
        listed = λ p e within is. listed_there p e (root_is limits.frames p e (sym (root_stands p within) ∙ is));
      };
      lawful = ap is_lawful start_holdings ∙ start_is_lawful limits;
    };
    pruned = record {
      within = λ f p listed.
          let r = listed_root f p listed in
          ap (is_place limits) r.1 ∙ place_from_within limits (root_place f) (root_within f r.0);
      held = λ f p listed.
          let r = listed_root f p listed in
          ap (λ q. has_frame f (entry_at shards q)) r.1 ∙ ap (has_frame f) (root_stands (root_place f) (root_within f r.0) ∙ root_at_place limits.frames f r.0) ∙ eq-eqb f f refl;
    };
  }
    where
      listed_there : (p : Place) (e : Entry) → IsRootOf limits.frames p e → is_listed trees e.frame p ≡ true
      listed_there p e r =
          ap (λ (os : Origins). list_any (λ o. same_place p o.0) os) (roots e.frame r.frame)
          ∙ or_left (same_place p (root_place e.frame)) false (ap (λ q. same_place q (root_place e.frame)) r.place ∙ same_self (root_place e.frame))
