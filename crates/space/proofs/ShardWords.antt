-- The words of shards, by place.
use Rattle.std.proofs.Common.{◌≡◌, refl, sym, ◌∙◌, ap, arith, subst, ℕ, ◌+◌, ◌*◌, ◌^◌, ◌<◌, ◌≤◌, ◌++◌, ◌∷◌, ◌%◌, ◌⊎◌, inl, inr, List, [], length, Option, Some, None, IsTrue, IfSome, Bool, true, false, ◌==◌, ◌&&◌, ◌/◌, ◌-◌, Vec, Global, slice_index, slice_set, vec_capacity}
use Rattle.std.specs.Option.{option_map_or}
use Rattle.std.specs.Prelude.{replicate, is_some}
use Rattle.std.specs.List.{AllPass}
use Rattle.std.specs.Vec.{with_item}
use Rattle.std.specs.Int.{bit_at, div_ceil}
use Rattle.std.proofs.lemmas.Nat.{mul-le}
use Rattle.std.proofs.lemmas.Nat.Bits.{bit_at_ones}
use Rattle.std.proofs.lemmas.Grind.{div_ceil_times}
use Rattle.std.proofs.lemmas.Bool.{eq-eqb, eqb-true}
use Rattle.std.proofs.lemmas.Option.{same_Some}
use Rattle.std.proofs.lemmas.List.{length-append, length-replicate, length-set, get_or-set_same, get_or-set_other, get_or_past, get_or-replicate, get_or_append_left, get_or-append_right}
use Rattle.std.proofs.lemmas.List.Elements.{All-append, All-replicate, All-set}
use Rattle.space.specs.declared.place.Place.{Place}
use Rattle.space.specs.declared.place.Entry.{Entry}
use Rattle.space.specs.declared.shards.Shards.{Shards}
use Rattle.space.specs.Word.{word_of, entry_of, is_pack, FrameFits}
use Rattle.space.specs.Directory.{pages_of, shards_of, shard_of, offset_of, AreLive, AreWords}
use Rattle.space.specs.declared.directory.Directory.{Directory}
use Rattle.space.specs.Positions.{nowhere, most_of, count_of, position_in, AreRuns, AreRunsOf, IsAdded, IsSame}
use Rattle.space.specs.Runs.{IsRevived}
use Rattle.space.specs.Shards.{IsPlace, HasWord, index_of, word_count, words_of, entry_at, are_beside, IsSetAt}
use Rattle.space.specs.ShardLaws.{HeldHaveWords, WordsAreTheirOwn, EntriesFit, AreAllWords, IsWithWords, ShardsHaveWords, WordsHaveShards}
use Rattle.space.proofs.Words.{pack_gives_back, unpack_gives_back, unpacked_fits}
use Rattle.space.proofs.Directories.{shard_found, same_shard, shard_in_space, same_parts, pages_are, few_pages}
use Rattle.space.proofs.Leaves.{few_there_in, found_in, within_or_past, same_or_not, apart_in, below_in, dead_unless, runs_in}

-- the shard of a place is one that the directory can have
pub shard_can : (s : Shards) (p : Place) → IsPlace s p → shard_of s.bits p < most_of s.directory.value
shard_can s p place = rw s.most (shard_found s.bits s.limits.low p place.page s.spaces place.space)

pub words_are_their_own : WordsAreTheirOwn
words_are_their_own s p q p_place q_place has same =
    let d = s.directory.value in
    let at_p = position_in d (shard_of s.bits p) in
    let at_q = position_in d (shard_of s.bits q) in
    let position : at_p ≡ at_q = omega (arith, same) in
    let offset : offset_of p ≡ offset_of q = omega (arith, same, position) in
    let there : at_p < count_of d = omega (arith, has) in
    same_shard s.bits s.limits.low p q p_place.page q_place.page (apart_in d (shard_of s.bits p) (shard_of s.bits q) there position) offset

pub entries_fit : EntriesFit
entries_fit s p = unpacked_fits _

-- a position that is none of the shards that are there
away_from : (d : Directory) (shard : ℕ) → count_of d ≤ position_in d shard → position_in d shard ≡ nowhere
away_from d shard past = elim (same_or_not (position_in d shard) nowhere) as (λ _. position_in d shard ≡ nowhere) [
  | inl same ↦ same
  | inr differ ↦ let there = below_in d shard differ in absurd (omega (arith, there, past))
]

-- a shard that is not there has no position
pub nowhere_unless : (s : Shards) (p : Place) → (HasWord s p → ⊥) → position_in s.directory.value (shard_of s.bits p) ≡ nowhere
nowhere_unless s p away = elim (same_or_not (position_in s.directory.value (shard_of s.bits p)) nowhere) as (λ _. position_in s.directory.value (shard_of s.bits p) ≡ nowhere) [
  | inl same ↦ same
  | inr differ ↦ let there = below_in s.directory.value (shard_of s.bits p) differ in absurd (away (omega (arith, there)))
]

read_zeros : (n i : ℕ) → slice_index (replicate n 0) i ≡ 0
read_zeros n i = elim (within_or_past i n) as (λ _. slice_index (replicate n 0) i ≡ 0) [
  | inl within ↦ get_or-replicate n i 0 0 within
  | inr past ↦ get_or_past (replicate n 0) i 0 (omega (arith, length-replicate {A = ℕ} n 0))
]

-- each word is what it was where zeros stand behind them, since one behind the end reads as 0
pub read_longer : (words : List ℕ) (n i : ℕ) → slice_index (words ++ replicate n 0) i ≡ slice_index words i
read_longer words n i = elim (within_or_past i (length words)) as (λ _. slice_index (words ++ replicate n 0) i ≡ slice_index words i) [
  | inl within ↦ get_or_append_left words (replicate n 0) 0 i within
  | inr past ↦ get_or-append_right words (replicate n 0) (length words) i 0 refl past ∙ read_zeros n _ ∙ sym (get_or_past words i 0 past)
]

pub packs_longer : (words : List ℕ) (n : ℕ) → AllPass is_pack words → AllPass is_pack (words ++ replicate n 0)
packs_longer words n packs = All-append (λ x. is_pack x ≡ true) words (replicate n 0) packs (All-replicate (λ x. is_pack x ≡ true) n 0 refl)

-- each word is a pack, since one behind the end reads as 0
read_pack : (words : List ℕ) (i : ℕ) → AllPass is_pack words → IsTrue (is_pack (slice_index words i))
read_pack words i packs = elim (within_or_past i (length words)) as (λ _. IsTrue (is_pack (slice_index words i))) [
  | inl within ↦ packs i 0 within
  | inr past ↦ ap is_pack (get_or_past words i 0 past)
]

-- words stay words where one becomes another pack
pub words_set : (count : ℕ) (words : Vec ℕ Global) (i w : ℕ) → AreWords count words → IsTrue (is_pack w) → AreWords count (with_item words i w)
words_set count words i w are pack = record {
  count = omega (arith, length-set words.items i w, are.count);
  packs = All-set (λ x. is_pack x ≡ true) words.items i w pack are.packs;
}

-- live stay live where a word of a live shard becomes another, or one of another shard stays 0
pub live_set : (live : List ℕ) (words : Vec ℕ Global) (i w : ℕ) → i < length words.items → (slice_index live (i / 64) ≡ 0 → w ≡ 0) → AreLive live words → AreLive live (with_item words i w)
live_set live words i w within only are j none = elim (same_or_not i j) as (λ _. slice_index (slice_set words.items i w) j ≡ 0) [
  | inl same ↦ ap (slice_index (slice_set words.items i w)) (sym same) ∙ get_or-set_same words.items i w 0 within ∙ only (ap (λ k. slice_index live (k / 64)) same ∙ none)
  | inr differ ↦ get_or-set_other words.items i j w 0 (λ same. differ (sym same)) ∙ are j none
]

-- the same live and words
pub same_live : (live now : List ℕ) (words after : Vec ℕ Global) → now ≡ live → after.items ≡ words.items → AreLive live words → AreLive now after
same_live live now words after now_is after_is are i none = ap (λ xs. slice_index xs i) after_is ∙ are i (ap (λ xs. slice_index xs (i / 64)) (sym now_is) ∙ none)

-- a live shard more
pub live_longer : (live now : List ℕ) (words after : Vec ℕ Global) → now ≡ live ++ 1 ∷ [] → after.items ≡ words.items ++ replicate 64 0 → length words.items ≡ length live * 64 → AreLive live words → AreLive now after
live_longer live now words after now_is after_is count are i none =
    ap (λ xs. slice_index xs i) after_is ∙ read_longer words.items 64 i ∙ (elim (within_or_past (i / 64) (length live)) as (λ _. slice_index words.items i ≡ 0) [
      | inl within ↦ are i (sym (get_or_append_left live (1 ∷ []) 0 (i / 64) within) ∙ ap (λ xs. slice_index xs (i / 64)) (sym now_is) ∙ none)
      | inr past ↦ get_or_past words.items i 0 (omega (arith, past, count))
    ])

-- a dead shard more, whose words are 0
pub live_without : (live : List ℕ) (words : Vec ℕ Global) (start : ℕ) → start % 64 ≡ 0 → ((i : ℕ) → start ≤ i → i < start + 64 → slice_index words.items i ≡ 0) → AreLive live words → AreLive (slice_set live (start / 64) 0) words
live_without live words start whole zeros are i none = elim (same_or_not (start / 64) (i / 64)) as (λ _. slice_index words.items i ≡ 0) [
  | inl same ↦ zeros i (omega (arith, same, whole)) (omega (arith, same, whole))
  | inr differ ↦ are i (sym (get_or-set_other live (start / 64) (i / 64) 0 0 (λ same. differ (sym same))) ∙ none)
]

-- where all shards are live, the others have no words
pub live_all : (shards : ℕ) (live : List ℕ) (words : Vec ℕ Global) → length words.items ≡ shards * 64 → length live ≡ shards → ((k : ℕ) → k < length live → slice_index live k ≡ 1) → AreLive live words
live_all shards live words count how_many all i none = elim (within_or_past (i / 64) (length live)) as (λ _. slice_index words.items i ≡ 0) [
  | inl within ↦ let one = all (i / 64) within in absurd (omega (arith, one, none))
  | inr past ↦ get_or_past words.items i 0 (omega (arith, past, how_many, count))
]

-- words stay those of live shards where a dead one becomes live
pub live_revived : (live : List ℕ) (words : Vec ℕ Global) (k : ℕ) → k < length live → AreLive live words → AreLive (slice_set live k 1) words
live_revived live words k within are i none = elim (same_or_not k (i / 64)) as (λ _. slice_index words.items i ≡ 0) [
  | inl same ↦ let one = ap (slice_index (slice_set live k 1)) (sym same) ∙ get_or-set_same live k 1 0 within in absurd (omega (arith, one, none))
  | inr differ ↦ are i (sym (get_or-set_other live k (i / 64) 1 0 (λ same. differ (sym same))) ∙ none)
]

-- ---- runs of shards

-- where each run may have live shards
pub runs_of_all : (d : Directory) (live runs : List ℕ) → length runs ≡ div_ceil (most_of d) 256 → ((k : ℕ) → k < length runs → slice_index runs k ≡ 2 ^ 32 - 1) → AreRunsOf d live runs
runs_of_all d live runs how_many all = ∣ record {
  dead = λ shard less none. never shard less (shard / 16 % 16) (omega arith) none;
  absent = λ shard less none. never shard less (16 + shard / 16 % 16) (omega arith) none;
} ∣₁
  where
    never : {A : Type 0} (shard : ℕ) → shard < most_of d → (i : ℕ) → i < 32 → bit_at (slice_index runs (shard / 256)) i ≡ 0 → A
    never shard less i low none =
        let within : shard / 256 < length runs = omega (arith, how_many, less, div_ceil_times (most_of d) 256 (omega arith)) in
        let one = ap (λ n. bit_at n i) (all (shard / 256) within) ∙ bit_at_ones 32 i low in
        absurd (omega (arith, one, none))

-- a bit is 0 where it was, if another number took the place of one all whose bits it has
bit_kept : (runs : List ℕ) (run now : ℕ) → run < length runs → ((i : ℕ) → bit_at now i ≡ 0 → bit_at (slice_index runs run) i ≡ 0)
    → (k i : ℕ) → bit_at (slice_index (slice_set runs run now) k) i ≡ 0 → bit_at (slice_index runs k) i ≡ 0
bit_kept runs run now within others k i none = elim (same_or_not run k) as (λ _. bit_at (slice_index runs k) i ≡ 0) [
  | inl same ↦
      let is : slice_index (slice_set runs run now) k ≡ now = ap (slice_index (slice_set runs run now)) (sym same) ∙ get_or-set_same runs run now 0 within in
      ap (λ n. bit_at (slice_index runs n) i) (sym same) ∙ others i (ap (λ n. bit_at n i) (sym is) ∙ none)
  | inr differ ↦ ap (λ n. bit_at n i) (sym (get_or-set_other runs run k now 0 (λ same. differ (sym same)))) ∙ none
]

module _ (d : Directory) (live runs : List ℕ) (closed : AreRunsOf d live runs) where
  are : AreRuns d live runs
  are = runs_in d live runs closed

  -- where each run of 16 that has any shard is live
  pub all_revived : (live_now runs_now : List ℕ) → length live_now ≡ count_of d → ((k : ℕ) → IsRevived (slice_index runs k) (slice_index runs_now k)) → AreRunsOf d live_now runs_now
  all_revived live_now runs_now how_many each = ∣ record {
    dead = λ shard less none. dead_unless d live_now how_many shard (are.absent shard less ((each (shard / 256)).life (shard / 16 % 16) (omega arith) none));
    absent = λ shard less none. are.absent shard less ((each (shard / 256)).there (16 + shard / 16 % 16) none);
  } ∣₁

  -- where a run has bits more
  pub runs_revived : (run now : ℕ) → run < length runs → ((i : ℕ) → bit_at now i ≡ 0 → bit_at (slice_index runs run) i ≡ 0) → AreRunsOf d live (slice_set runs run now)
  runs_revived run now within others = ∣ record {
    dead = λ shard less none. are.dead shard less (bit_kept runs run now within others (shard / 256) (shard / 16 % 16) none);
    absent = λ shard less none. are.absent shard less (bit_kept runs run now within others (shard / 256) (16 + shard / 16 % 16) none);
  } ∣₁

  -- where a shard of a live run of 16 is not dead any more
  pub shard_revived : (shard : ℕ) → position_in d shard < count_of d → (bit_at (slice_index runs (shard / 256)) (shard / 16 % 16) ≡ 0 → ⊥) → AreRunsOf d (slice_set live (position_in d shard) 1) runs
  shard_revived shard there life = ∣ record {
    dead = λ other less none.
        let differ : position_in d other ≡ position_in d shard → ⊥ = λ same. life (ap (λ k. bit_at (slice_index runs (k / 256)) (k / 16 % 16)) (apart_in d shard other there (sym same)) ∙ none) in
        get_or-set_other live (position_in d shard) (position_in d other) 1 0 differ ∙ are.dead other less none;
    absent = are.absent;
  } ∣₁

  -- where a shard is dead now
  pub shard_dead : (position : ℕ) → AreRunsOf d (slice_set live position 0) runs
  shard_dead position = ∣ record {
    dead = λ other less none. elim (same_or_not position (position_in d other)) as (λ _. slice_index (slice_set live position 0) (position_in d other) ≡ 0) [
      | inl same ↦ elim (within_or_past position (length live)) as (λ _. slice_index (slice_set live position 0) (position_in d other) ≡ 0) [
        | inl within ↦ ap (slice_index (slice_set live position 0)) (sym same) ∙ get_or-set_same live position 0 0 within
        | inr past ↦ get_or_past (slice_set live position 0) (position_in d other) 0 (omega (arith, past, same, length-set live position 0))
      ]
      | inr differ ↦ get_or-set_other live position (position_in d other) 0 0 (λ same. differ (sym same)) ∙ are.dead other less none
    ];
    absent = are.absent;
  } ∣₁

  -- where a run of 16 whose shards are all dead loses its bit
  pub run_dead : (run now : ℕ) → run / 16 < length runs → ((i : ℕ) → i < 32 → (i ≡ run % 16 → ⊥) → bit_at now i ≡ bit_at (slice_index runs (run / 16)) i)
      → ((shard : ℕ) → shard / 16 ≡ run → shard < most_of d → slice_index live (position_in d shard) ≡ 0) → AreRunsOf d live (slice_set runs (run / 16) now)
  run_dead run now within others all = ∣ record {
    dead = λ shard less none. elim (same_or_not (shard / 16) run) as (λ _. slice_index live (position_in d shard) ≡ 0) [
      | inl same ↦ all shard same less
      | inr differ ↦ are.dead shard less (was (shard / 256) (shard / 16 % 16) (omega arith) (λ number leaf. differ (omega (arith, number, leaf))) none)
    ];
    absent = λ shard less none. are.absent shard less (was (shard / 256) (16 + shard / 16 % 16) (omega arith) (λ number leaf. absurd (omega (arith, leaf))) none);
  } ∣₁
    where
      was : (k i : ℕ) → i < 32 → (run / 16 ≡ k → i ≡ run % 16 → ⊥) → bit_at (slice_index (slice_set runs (run / 16) now) k) i ≡ 0 → bit_at (slice_index runs k) i ≡ 0
      was k i low other none = elim (same_or_not (run / 16) k) as (λ _. bit_at (slice_index runs k) i ≡ 0) [
        | inl same ↦
            let is : slice_index (slice_set runs (run / 16) now) k ≡ now = ap (slice_index (slice_set runs (run / 16) now)) (sym same) ∙ get_or-set_same runs (run / 16) now 0 within in
            ap (λ n. bit_at (slice_index runs n) i) (sym same) ∙ sym (others i low (other same)) ∙ ap (λ n. bit_at n i) (sym is) ∙ none
        | inr differ ↦ ap (λ n. bit_at n i) (sym (get_or-set_other runs (run / 16) k now 0 (λ same. differ (sym same)))) ∙ none
      ]

  -- where each shard is where it was
  pub runs_same : (now : Directory) → IsSame d now → (live_now : List ℕ) → live_now ≡ live → AreRunsOf now live_now runs
  runs_same now same live_now live_is = ∣ record {
    dead = λ shard less none. ap (λ xs. slice_index xs (position_in now shard)) live_is ∙ ap (slice_index live) (same.positions shard) ∙ are.dead shard (rw (← same.most) less) none;
    absent = λ shard less none. same.positions shard ∙ are.absent shard (rw (← same.most) less) none;
  } ∣₁

  -- where a live shard is added, of a run of 16 that has both bits
  pub runs_longer : (now : Directory) (shard : ℕ) → IsAdded d now shard → length live ≡ count_of d → (bit_at (slice_index runs (shard / 256)) (shard / 16 % 16) ≡ 0 → ⊥)
      → (bit_at (slice_index runs (shard / 256)) (16 + shard / 16 % 16) ≡ 0 → ⊥) → (live_now : List ℕ) → live_now ≡ live ++ 1 ∷ [] → AreRunsOf now live_now runs
  runs_longer now shard added how_many life there live_now live_is = ∣ record {
    dead = λ other less none.
        let stood = added.elsewhere other (λ same. life (ap (λ k. bit_at (slice_index runs (k / 256)) (k / 16 % 16)) (sym same) ∙ none)) in
        let dead = are.dead other (rw (← added.most) less) none in
        ap (λ xs. slice_index xs (position_in now other)) live_is ∙ ap (slice_index (live ++ 1 ∷ [])) stood
        ∙ (elim (within_or_past (position_in d other) (count_of d)) as (λ _. slice_index (live ++ 1 ∷ []) (position_in d other) ≡ 0) [
          | inl there ↦ get_or_append_left live (1 ∷ []) 0 (position_in d other) (omega (arith, there, how_many)) ∙ dead
          | inr past ↦
              let away = away_from d other past in
              get_or_past (live ++ 1 ∷ []) (position_in d other) 0 (omega (arith, away, how_many, length-append live (1 ∷ []), few_there_in d, (found_in d).few))
        ]);
    absent = λ other less none.
        added.elsewhere other (λ same. there (ap (λ k. bit_at (slice_index runs (k / 256)) (16 + k / 16 % 16)) (sym same) ∙ none)) ∙ are.absent other (rw (← added.most) less) none;
  } ∣₁

-- ---- the words of shards

module _ (s : Shards) (words : Vec ℕ Global) (held : s.words ≡ Some words) where
  pub entry_read : (p : Place) → entry_at s p ≡ entry_of (slice_index words.items (index_of s p))
  entry_read p = ap (λ (o : Option (Vec ℕ Global)). entry_of (slice_index (option_map_or (λ w. w.items) o []) (index_of s p))) held

  -- the words are as many
  pub words_reach : (i : ℕ) → i < length (words_of s) → i < length words.items
  words_reach i within = subst (λ (o : Option (Vec ℕ Global)). i < length (option_map_or (λ w. w.items) o [])) held within

  -- the word of a place packs what stands there
  pub word_read : (p : Place) → slice_index words.items (index_of s p) ≡ word_of (entry_at s p)
  word_read p =
      let packs : AllPass is_pack words.items = (s.packed words held).packs in
      sym (ap word_of (entry_read p) ∙ (pack_gives_back _ (read_pack words.items (index_of s p) packs)).1)

  -- a place whose word stands behind the words holds nothing
  pub none_behind : (p : Place) → (HasWord s p → ⊥) → entry_at s p ≡ None
  none_behind p away =
      let count = (s.packed words held).count in
      let past : length words.items ≤ index_of s p = elim (within_or_past (index_of s p) (word_count s)) as (λ _. length words.items ≤ index_of s p) [
        | inl within ↦ absurd (away within)
        | inr behind ↦ omega (arith, count, behind)
      ] in
      entry_read p ∙ ap entry_of (get_or_past words.items (index_of s p) 0 past)

  -- to write the word of a place, which the words reach, changes what stands there alone
  module _ (p : Place) (place : IsPlace s p) (within : index_of s p < length words.items) (entry : Option Entry) (fits : FrameFits entry) where
    pub set_there : entry_of (slice_index (slice_set words.items (index_of s p) (word_of entry)) (index_of s p)) ≡ entry
    set_there = ap entry_of (get_or-set_same words.items (index_of s p) (word_of entry) 0 within) ∙ (unpack_gives_back entry fits).1

    pub set_elsewhere : (q : Place) → IsPlace s q → (q ≡ p → ⊥) → entry_of (slice_index (slice_set words.items (index_of s p) (word_of entry)) (index_of s q)) ≡ entry_at s q
    set_elsewhere q q_place apart =
        let has : HasWord s p = let count = (s.packed words held).count in omega (arith, count, within) in
        ap entry_of (get_or-set_other words.items (index_of s p) (index_of s q) (word_of entry) 0 (λ same. apart (sym (words_are_their_own s p q place q_place has (sym same)))))
        ∙ sym (entry_read q)

-- so it is whether the words are taken or not
pub absent_unless : (s : Shards) (p : Place) → (HasWord s p → ⊥) → entry_at s p ≡ None
absent_unless s p away = by s.words refl
  where
    by : (o : Option (Vec ℕ Global)) → s.words ≡ o → entry_at s p ≡ None
    by None none = ap (λ (o : Option (Vec ℕ Global)). entry_of (slice_index (option_map_or (λ w. w.items) o []) (index_of s p))) none
    by (Some v) some = none_behind s v some p away

-- the pages of a dead shard hold nothing
pub absent_dead : (s : Shards) (p : Place) → slice_index s.live.items (position_in s.directory.value (shard_of s.bits p)) ≡ 0 → entry_at s p ≡ None
absent_dead s p dead = by s.words refl
  where
    by : (o : Option (Vec ℕ Global)) → s.words ≡ o → entry_at s p ≡ None
    by None none = ap (λ (o : Option (Vec ℕ Global)). entry_of (slice_index (option_map_or (λ w. w.items) o []) (index_of s p))) none
    by (Some v) some =
        let at : index_of s p / 64 ≡ position_in s.directory.value (shard_of s.bits p) = omega arith in
        entry_read s v some p ∙ ap entry_of (s.dead v some (index_of s p) (ap (slice_index s.live.items) at ∙ dead))

-- a word of a dead shard is 0
pub dead_zero : (s : Shards) (i : ℕ) → slice_index s.live.items (i / 64) ≡ 0 → slice_index (words_of s) i ≡ 0
dead_zero s i dead = by s.words refl
  where
    by : (o : Option (Vec ℕ Global)) → s.words ≡ o → slice_index (words_of s) i ≡ 0
    by None none = ap (λ (o : Option (Vec ℕ Global)). slice_index (option_map_or (λ w. w.items) o []) i) none
    by (Some v) some = ap (λ (o : Option (Vec ℕ Global)). slice_index (option_map_or (λ w. w.items) o []) i) some ∙ s.dead v some i dead

-- as many words as the shards that are there have
pub words_are_all : (s : Shards) (words : Vec ℕ Global) → s.words ≡ Some words → length words.items ≡ word_count s
words_are_all s words held = (s.packed words held).count

-- where no word is, nothing stands, and nothing is set
pub unset : (s : Shards) (p : Place) (entry : Option Entry) → IfSome entry (λ _. HasWord s p) → (HasWord s p → ⊥) → IsSetAt s s p entry
unset s p None has away = record { there = absent_unless s p away; elsewhere = λ q place apart. refl }
unset s p (Some e) has away = absurd (away has)

-- ---- a shard is added

module _ (s : Shards) (words : Vec ℕ Global) (held : s.words ≡ Some words) (place : Place) (absent : HasWord s place → ⊥) (d : Directory)
    (added : IsAdded s.directory.value d (shard_of s.bits place)) (after : List ℕ) (after_is : after ≡ words.items ++ replicate 64 0) where
  abbrev index_now : Place → ℕ
  index_now p = position_in d (shard_of s.bits p) * 64 + offset_of p

  -- the others are where they were
  same_index : (p : Place) → (shard_of s.bits p ≡ shard_of s.bits place → ⊥) → index_now p ≡ index_of s p
  same_index p differ = ap (λ n. n * 64 + offset_of p) (added.elsewhere (shard_of s.bits p) differ)

  away_with : (p : Place) → shard_of s.bits p ≡ shard_of s.bits place → HasWord s p → ⊥
  away_with p same has =
      let position : position_in s.directory.value (shard_of s.bits p) ≡ position_in s.directory.value (shard_of s.bits place) = ap (position_in s.directory.value) same in
      absent (omega (arith, has, position))

  pub read_now : (p : Place) → entry_of (slice_index after (index_now p)) ≡ entry_at s p
  read_now p = elim (same_or_not (shard_of s.bits p) (shard_of s.bits place)) as (λ _. entry_of (slice_index after (index_now p)) ≡ entry_at s p) [
    | inl same ↦
        let position : position_in d (shard_of s.bits p) ≡ count_of s.directory.value = ap (position_in d) same ∙ added.there in
        let past : length words.items ≤ index_now p = omega (arith, position, words_are_all s words held) in
        ap entry_of (ap (λ xs. slice_index xs (index_now p)) after_is ∙ read_longer words.items 64 (index_now p) ∙ get_or_past words.items (index_now p) 0 past)
        ∙ sym (absent_unless s p (away_with p same))
    | inr differ ↦
        ap entry_of (ap (λ xs. slice_index xs (index_now p)) after_is ∙ read_longer words.items 64 (index_now p) ∙ ap (slice_index words.items) (same_index p differ))
        ∙ sym (entry_read s words held p)
  ]

  pub index_kept : (p : Place) → HasWord s p → index_now p ≡ index_of s p
  index_kept p has = elim (same_or_not (shard_of s.bits p) (shard_of s.bits place)) as (λ _. index_now p ≡ index_of s p) [
    | inl same ↦ absurd (away_with p same has)
    | inr differ ↦ same_index p differ
  ]

  -- no other shard is there
  pub only_added : IsPlace s place → (p : Place) → IsPlace s p → index_now p < count_of d * 64 → (HasWord s p) ⊎ IsTrue (are_beside place p)
  only_added is_place p is_p has = elim (same_or_not (shard_of s.bits p) (shard_of s.bits place)) as (λ _. (HasWord s p) ⊎ IsTrue (are_beside place p)) [
    | inl same ↦
        let parts = same_parts s.bits s.limits.low place p is_place.page is_p.page (sym same) in
        inr (λ i. eq-eqb place.space p.space parts.0 i && eq-eqb (place.page / 64) (p.page / 64) parts.1 i)
    | inr differ ↦
        let not_there : position_in d (shard_of s.bits p) ≡ count_of s.directory.value → ⊥ =
        λ at. differ (apart_in d (shard_of s.bits p) (shard_of s.bits place) (omega (arith, has)) (at ∙ sym added.there)) in
        inl (omega (arith, same_index p differ, has, added.count, not_there))
  ]

-- ---- the pages of a shard

module _ (s : Shards) (place : Place) (is_place : IsPlace s place) where
  pub page_few : place.page < 2 ^ 20
  page_few = omega (arith, few_pages s.bits s.limits.high, is_place.page)

  -- a space ends where a shard does
  pub shard_end : (place.page / 64 + 1) * 64 ≤ pages_of s.bits
  shard_end = omega (arith, pages_are s.bits s.limits.low, is_place.page)

  -- the words of a shard are side by side
  pub beside : (p : Place) → p.space ≡ place.space → p.page / 64 ≡ place.page / 64 → index_of s p ≡ index_of s place - offset_of place + offset_of p
  beside p space pages =
      let shard : shard_of s.bits p ≡ shard_of s.bits place = ap (λ n. n * shards_of s.bits + p.page / 64) space ∙ ap (λ n. place.space * shards_of s.bits + n) pages in
      let position : position_in s.directory.value (shard_of s.bits p) ≡ position_in s.directory.value (shard_of s.bits place) = ap (position_in s.directory.value) shard in
      omega (arith, position)

  pub has_beside : HasWord s place → (p : Place) → p.space ≡ place.space → p.page / 64 ≡ place.page / 64 → HasWord s p
  has_beside has p space pages = omega (arith, has, beside p space pages)

  -- pages whose words are 0, one behind another, are absent
  pub absent_between : (words : Vec ℕ Global) → s.words ≡ Some words → (start page absent : ℕ) → start + offset_of place ≡ index_of s place
      → ((i : ℕ) → start + (page + place.space * 8) % 64 ≤ i → i < start + (page + place.space * 8) % 64 + absent → slice_index words.items i ≡ 0)
      → start + (page + place.space * 8) % 64 + absent ≤ start + 64
      → (p : Place) → p.space ≡ place.space → p.page / 64 ≡ place.page / 64 → page ≤ p.page → p.page < page + absent → entry_at s p ≡ None
  absent_between words held start page absent start_is zeros within p space pages from before =
      let index : start + (page + place.space * 8) % 64 + (p.page - page) ≡ index_of s p = omega (arith, start_is, within, beside p space pages, space, from, before) in
      entry_read s words held p ∙ ap entry_of (ap (slice_index words.items) (sym index) ∙ zeros (start + (page + place.space * 8) % 64 + (p.page - page)) (omega arith) (omega (arith, from, before)))

-- what is not 0 says that something is held
said : (w : ℕ) → (w ≡ 0 → ⊥) → IsTrue (is_some (entry_of w))
said w some = by (w == 0) refl
  where
    by : (b : Bool) → (w == 0) ≡ b → IsTrue (is_some (entry_of w))
    by true is = absurd (some (eqb-true w 0 is))
    by false is = cc (is)

pub held_at : (s : Shards) (words : Vec ℕ Global) → s.words ≡ Some words → (p : Place) → (slice_index words.items (index_of s p) ≡ 0 → ⊥) → IsTrue (is_some (entry_at s p))
held_at s words held p some = ap is_some (entry_read s words held p) ∙ said (slice_index words.items (index_of s p)) some

-- what is held has a word
pub held_has : (s : Shards) (p : Place) → IsTrue (is_some (entry_at s p)) → HasWord s p
held_has s p held = elim (within_or_past (index_of s p) (word_count s)) as (λ _. HasWord s p) [
  | inl within ↦ within
  | inr behind ↦ absurd (cc (held, absent_unless s p (λ has. absurd (omega (arith, has, behind)))))
]

-- ---- the shards of a space

module _ (s : Shards) (place : Place) (is_place : IsPlace s place) where
  abbrev shards_in : ℕ
  shards_in = shards_of s.bits

  abbrev before : ℕ
  before = place.space * shards_in

  pub shard_before : shard_of s.bits place < before + shards_in
  shard_before = omega (arith, shard_in_space s.bits s.limits.low place is_place.page)

  -- its shards are among all
  pub shards_within : before + shards_in ≤ most_of s.directory.value
  shards_within = rw s.most (times (place.space) shards_in s.spaces is_place.space)
    where
      times : (a b n : ℕ) → a < n → a * b + b ≤ n * b
      times a b n less = let most : (a + 1) * b ≤ n * b = mul-le (a + 1) b n b (omega (arith, less)) (omega arith) in omega (arith, most)

  -- a page before an end is of a shard before that of the end
  pub shard_from : (end : ℕ) → place.page ≤ end → shard_of s.bits place ≤ before + div_ceil end 64
  shard_from end from = omega (arith, from, div_ceil_times end 64 (omega arith))

  pub shard_to : (end : ℕ) → end ≤ pages_of s.bits → before + div_ceil end 64 ≤ before + shards_in
  shard_to end most = omega (arith, most, pages_are s.bits s.limits.low, div_ceil_times end 64 (omega arith))

  module _ (found : ℕ) (from : shard_of s.bits place ≤ found) where
    pub page_there : position_in s.directory.value found < count_of s.directory.value → HasWord s (record { space = place.space; page = (found - before) * 64 })
    page_there low =
        let p : Place = record { space = place.space; page = (found - before) * 64 } in
        let shard : shard_of s.bits p ≡ found = omega (arith, from) in
        let position : position_in s.directory.value (shard_of s.bits p) < count_of s.directory.value = rw shard low in
        omega (arith, position)

    pub page_absent : ((k : ℕ) → shard_of s.bits place ≤ k → k < found → slice_index s.live.items (position_in s.directory.value k) ≡ 0)
        → (p : Place) → p.space ≡ place.space → place.page ≤ p.page → p.page < (found - before) * 64 → entry_at s p ≡ None
    page_absent dead p same after below =
        let spaces : p.space * shards_in ≡ before = ap (λ n. n * shards_in) same in
        absent_dead s p (dead (shard_of s.bits p) (omega (arith, spaces, after)) (omega (arith, spaces, below, from)))

pub held_have_words : HeldHaveWords
held_have_words s p e is = elim (within_or_past (index_of s p) (word_count s)) as (λ _. HasWord s p) [
  | inl within ↦ within
  | inr behind ↦ by s.words refl behind
]
  where
    by : (o : Option (Vec ℕ Global)) → s.words ≡ o → word_count s ≤ index_of s p → HasWord s p
    by None none behind = absurd (cc (is, none))
    by (Some v) some behind = absurd (cc (is, none_behind s v some p (λ within. absurd (omega (arith, within, behind)))))

pub shards_have_words : ShardsHaveWords
shards_have_words s present = by s.words refl
  where
    by : (o : Option (Vec ℕ Global)) → s.words ≡ o → (words : List ℕ) × AreAllWords s words
    by None is = absurd (cc (present, is))
    by (Some v) is =
        let are = s.packed v is in
        (v.items, record { count = are.count; packs = are.packs; entries = λ p place. sym (entry_read s v is p) })

-- a vector with other words, for which it has room
abbrev with_items : (v : Vec ℕ Global) (words : List ℕ) → length words ≤ vec_capacity v → Vec ℕ Global
with_items v words room = record { ptr = v.ptr; len = length words; cap = v.cap; alloc = v.alloc; items = words; ok = (refl, room); small = v.small }

pub words_have_shards : WordsHaveShards
words_have_shards s present words count packs = by s.words refl
  where
    by : (o : Option (Vec ℕ Global)) → s.words ≡ o → (new : Shards) × IsWithWords s new words
    by None is = absurd (cc (present, is))
    by (Some v) is =
        let as_many = (s.packed v is).count in
        let fits : length words ≤ vec_capacity v = omega (arith, as_many, count, v.ok.0, v.ok.1) in
        let u = with_items v words fits in
        let are : AreWords (count_of s.directory.value) u = record { count = count; packs = packs } in
        let how_many : length (replicate (count_of s.directory.value) 1) ≡ count_of s.directory.value = length-replicate {A = ℕ} (count_of s.directory.value) 1 in
        let live = with_items s.live (replicate (count_of s.directory.value) 1) (omega (arith, how_many, s.counted, s.live.ok.0, s.live.ok.1)) in
        let all : AreLive live.items u = live_all (count_of s.directory.value) live.items u count how_many (λ k less. get_or-replicate (count_of s.directory.value) k 1 0 (omega (arith, less, how_many))) in
        let many_runs : length (replicate (length s.runs.items) (2 ^ 32 - 1)) ≡ length s.runs.items = length-replicate {A = ℕ} (length s.runs.items) (2 ^ 32 - 1) in
        let runs = with_items s.runs (replicate (length s.runs.items) (2 ^ 32 - 1)) (omega (arith, many_runs, s.runs.ok.0, s.runs.ok.1)) in
        let each_run : length runs.items ≡ div_ceil (most_of s.directory.value) 256 = many_runs ∙ s.each_run in
        let new : Shards = record {
          spaces = s.spaces;
          bits = s.bits;
          directory = s.directory;
          words = Some u;
          live = live;
          runs = runs;
          limits = s.limits;
          most = s.most;
          packed = λ x x_is. subst (AreWords (count_of s.directory.value)) (same_Some u x x_is) are;
          counted = how_many;
          dead = λ x x_is. subst (AreLive live.items) (same_Some u x x_is) all;
          each_run = each_run;
          dead_runs = runs_of_all s.directory.value live.items runs.items each_run (λ k less. get_or-replicate (length s.runs.items) k (2 ^ 32 - 1) 0 (omega (arith, less, many_runs)));
        } in (
          new,
          record {
            are = record { count = count; packs = packs; entries = λ p place. refl {a = entry_of (slice_index words (index_of s p))} };
            present = refl {a = false};
            layout = record { spaces = refl {a = s.spaces}; bits = refl {a = s.bits}; count = refl {a = word_count s}; index = λ p. refl {a = index_of s p} };
          },
        )
