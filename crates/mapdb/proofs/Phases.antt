-- What goes and extends of an item, by the definitions, and what is known of it after the flush.
use Rattle.std.proofs.Common.{◌≡◌, ℕ, suc, ◌+◌, ◌-◌, ◌^◌, ◌<◌, ◌≤◌, nat_le, true, false, Bool, ◌&&◌, ◌||◌, not, if◌then◌else◌, [], ◌∷◌, List, length, filter, cond, get_or, Option, Some, None, refl, sym, ap, ◌∙◌, subst, arith, ◌⊎◌, inl, inr}
use Rattle.std.specs.List.{All}
use Rattle.std.proofs.lemmas.Bool.{and_parts, or_cases}
use Rattle.std.proofs.lemmas.Bool.Decides.{nat_tests}
use Rattle.std.proofs.Math.Nat.{pow-le-pow_right}
use Rattle.model.specs.Definitions.Records.{are_limits}
use Rattle.std.proofs.lemmas.List.Elements.{All-nil, All-cons}
use Rattle.fpage.specs.Rights.{is_empty, meet, all_rights, without}
use Rattle.fpage.specs.declared.item.ItemKind.{ItemKind}
use Rattle.fpage.specs.declared.item.ItemKind.TheVariants.{Map, Grant}
use Rattle.space.specs.declared.place.Place.{Place}
use Rattle.space.specs.Place.{same_place}
use Rattle.space.specs.Directory.{pages_of}
use Rattle.space.proofs.Places.{same_is}
use Rattle.model.specs.Definitions.Holdings.{Held, Holdings, at, is_held}
use Rattle.model.specs.Definitions.Calls.{Limits}
use Rattle.model.specs.Definitions.Items.{Job, Pair, pairs_from, is_map, Fate, absent, norights, to_origin, extends, goes, fate_of, fate, is_going, going, sources_of, targets_of, flush, Counts, no_counts, add_counts, counts_of, counts_from, counts}
use Rattle.model.specs.Definitions.Map.{link, extend, map_pair, map_pairs}
use Rattle.model.specs.Definitions.Grant.{moving, renamed}
use Rattle.model.specs.Definitions.Strip.{strip}
use Rattle.model.specs.Definitions.Answers.{after_job}
use Rattle.model.specs.Laws.SendLaws.{In, total}
use Rattle.model.proofs.LawfulParts.{IsLawful}
use Rattle.model.proofs.Jobs as jobs
use Rattle.model.proofs.Jobs.{IsJob, in_pairs_from, paired_from, total_counts}
use Rattle.model.proofs.Fates.{going_in, goes_some, extends_some}
use Rattle.model.proofs.Flushes.{was_flushed, target_gone}
use Rattle.model.proofs.LawfulMaps.{extending_target}
use Rattle.model.proofs.Puts.{apart_places}
use Rattle.holdings.specs.declared.transfer.Transfer.{Transfer}
use Rattle.holdings.specs.declared.item_pages.ItemPages.{ItemPages}
use Rattle.holdings.specs.Inner.Held.{is_place}
use Rattle.holdings.proofs.Contents.Listing.{place_from_within}
use Rattle.holdings.specs.Sending.{pair_of, fate_in, IsTransferWithin, IsApartFrom, ArePaired, AllGo, IsReady, counts_after_flush, map_transfers, moving_of, job_of_pages, AreItemPages, ArePlanned}
use Rattle.mapdb.specs.Sending.{transfer_of, transfers_of, count_before_flush, counts_before_flush, ends_in, sources_in, targets_in, after_flush}
use Rattle.holdings.proofs.CountSums.{add_assoc}
use Rattle.holdings.proofs.Stripping.Sequences.{same_back}
use Rattle.mapdb.proofs.Plans.{transfers_few, pairs_length}

-- ---- which pairs

-- a transfer of an item: its pair is one of the item's, and goes or extends
abbrev pub IsOf : Holdings → Job → List Pair → Transfer → Type 0
IsOf h job es t = In (pair_of t) es × (fate h job (pair_of t) ≡ fate_in t)

module _ (h : Holdings) (job : Job) where
  weaker : (e : Pair) (es : List Pair) (ts : List Transfer) → All (IsOf h job es) ts → All (IsOf h job (e ∷ es)) ts
  weaker e es ts all i d within = let k = all i d within in (inr k.0, k.1)

  -- each transfer is one of a pair
  pub all_of : (es : List Pair) → All (IsOf h job es) (transfers_of h job es)
  all_of [] = All-nil (IsOf h job [])
  all_of (e ∷ es) = by (fate h job e) refl (weaker e es (transfers_of h job es) (all_of es))
    where
      by : (f : Fate) → fate h job e ≡ f → All (IsOf h job (e ∷ es)) (transfers_of h job es) → All (IsOf h job (e ∷ es)) (transfer_of e f (transfers_of h job es))
      by absent is rest = rest
      by norights is rest = rest
      by to_origin is rest = rest
      by extends is rest = All-cons (IsOf h job (e ∷ es)) (record { source = e.0; target = e.1; extends = true }) (transfers_of h job es) (inl refl, is) rest
      by goes is rest = All-cons (IsOf h job (e ∷ es)) (record { source = e.0; target = e.1; extends = false }) (transfers_of h job es) (inl refl, is) rest

  -- between the spaces of the item, and no two with one end
  pub all_paired : (from to : ℕ) (es : List Pair) → jobs.ArePaired from to es → ArePaired from to (transfers_of h job es)
  all_paired from to [] paired = tt
  all_paired from to (e ∷ es) paired = by (fate h job e) (all_paired from to es paired.3)
    where
      apart : (t : Transfer) → pair_of t ≡ e → IsApartFrom t (transfers_of h job es)
      apart t same i d within =
          let x = get_or (transfers_of h job es) i d in
          let k = all_of es i d within in
          let a = paired.2 (pair_of x) k.0 in
          (apart_places x.source t.source (λ one. a.0 (one ∙ ap (λ (y : Pair). y.0) same)), apart_places x.target t.target (λ one. a.1 (one ∙ ap (λ (y : Pair). y.1) same)))

      by : (f : Fate) → ArePaired from to (transfers_of h job es) → ArePaired from to (transfer_of e f (transfers_of h job es))
      by absent rest = rest
      by norights rest = rest
      by to_origin rest = rest
      by extends rest = (paired.0, paired.1, apart (record { source = e.0; target = e.1; extends = true }) refl, rest)
      by goes rest = (paired.0, paired.1, apart (record { source = e.0; target = e.1; extends = false }) refl, rest)

  -- a grant extends nothing
  pub grant_goes : job.kind ≡ Grant → (es : List Pair) → AllGo (transfers_of h job es)
  grant_goes grants [] = All-nil (λ t. t.extends ≡ false)
  grant_goes grants (e ∷ es) = by (fate h job e) refl (grant_goes grants es)
    where
      never : (m : Option Held) → fate_of h job e m ≡ extends → ⊥
      never None is = cc is
      never (Some m) is = choose (is_empty (meet m.rights job.rights)) _ (is_map job.kind) _ (ap is_map grants) is
        where
          choose : (a b c d : Bool) → c ≡ false → (if a then norights else if b then to_origin else if c && d then extends else goes) ≡ extends → ⊥
          choose true b c d no_map is = cc is
          choose false true c d no_map is = cc is
          choose false false true d no_map is = cc no_map
          choose false false false d no_map is = cc is

      by : (f : Fate) → fate h job e ≡ f → AllGo (transfers_of h job es) → AllGo (transfer_of e f (transfers_of h job es))
      by absent is rest = rest
      by norights is rest = rest
      by to_origin is rest = rest
      by extends is rest = absurd (never (at h e.0) is)
      by goes is rest = All-cons (λ t. t.extends ≡ false) (record { source = e.0; target = e.1; extends = false }) (transfers_of h job es) refl rest

  -- ---- the flush

  -- the targets of those that go
  pub replaced_targets : (es : List Pair) (p : Place) → targets_in (transfers_of h job es) p ≡ targets_of (filter (λ e. is_going (fate h job e)) es) p
  replaced_targets [] p = refl
  replaced_targets (e ∷ es) p = by (fate h job e) (replaced_targets es p)
    where
      by : (f : Fate) → targets_in (transfers_of h job es) p ≡ targets_of (filter (λ e. is_going (fate h job e)) es) p
          → targets_in (transfer_of e f (transfers_of h job es)) p ≡ targets_of (cond (is_going f) (e ∷ filter (λ e. is_going (fate h job e)) es) (filter (λ e. is_going (fate h job e)) es)) p
      by absent rest = rest
      by norights rest = rest
      by to_origin rest = rest
      by extends rest = rest
      by goes rest = λ i. same_back p e.1 i || rest i

  -- ---- after the flush

  module _ (l : IsLawful h) (j : IsJob job) where
    -- each transfer is ready
    pub all_ready : All (IsReady (flush h (going h job)) job.rights) (transfers_of h job job.pairs)
    all_ready i d within = ready (get_or (transfers_of h job job.pairs) i d) (all_of job.pairs i d within)
      where
        fate_extends : (t : Transfer) → t.extends ≡ true → fate_in t ≡ extends
        fate_extends t is = rw is refl

        fate_goes : (t : Transfer) → t.extends ≡ false → fate_in t ≡ goes
        fate_goes t is = rw is refl

        ready : (t : Transfer) → IsOf h job job.pairs t → IsReady (flush h (going h job)) job.rights t
        ready t of = record {
          some = λ m held.
              let w = was_flushed h (going h job) l t.source m held in
              ap (λ (x : Held). is_empty (meet x.rights job.rights)) w.is ∙ some t.extends refl w.before w.held;
          free = λ is. target_gone h (going h job) l (pair_of t) (going_in h job (pair_of t) of.0 (of.1 ∙ fate_goes t is));
          derived = λ m is held. extending_target h job l j (pair_of t) m of.0 (of.1 ∙ fate_extends t is) held;
        }
          where
            some : (b : Bool) → t.extends ≡ b → (m : Held) → at h t.source ≡ Some m → is_empty (meet m.rights job.rights) ≡ false
            some true is m held = extends_some h job (pair_of t) m held (of.1 ∙ fate_extends t is)
            some false is m held = goes_some h job (pair_of t) m held (of.1 ∙ fate_goes t is)

  -- ---- counts

  swap : (w d r : Counts) → add_counts w (add_counts d r) ≡ add_counts (add_counts no_counts d) (add_counts w r)
  swap w d r = λ i. record {
    absent = one w.absent d.absent r.absent i;
    norights = one w.norights d.norights r.norights i;
    origin = one w.origin d.origin r.origin i;
    lost = one w.lost d.lost r.lost i;
    extended = one w.extended d.extended r.extended i;
    linked = one w.linked d.linked r.linked i;
  }
    where
      one : (a b c : ℕ) → a + (b + c) ≡ (0 + b) + (a + c)
      one a b c = omega arith

  -- those that are decided at the start, and those that are worked after the flush, are all
  pub all_counted : (flushed : Holdings) (es : List Pair) → counts_from h flushed job es ≡ add_counts (counts_before_flush h job es) (counts_after_flush flushed (transfers_of h job es))
  all_counted flushed [] = refl
  all_counted flushed (e ∷ es) = ap (add_counts (counts_of (fate h job e) (is_held flushed e.0))) (all_counted flushed es) ∙ by (fate h job e)
    where
      by : (f : Fate) → add_counts (counts_of f (is_held flushed e.0)) (add_counts (counts_before_flush h job es) (counts_after_flush flushed (transfers_of h job es))) ≡ add_counts (add_counts (count_before_flush f) (counts_before_flush h job es)) (counts_after_flush flushed (transfer_of e f (transfers_of h job es)))
      by absent = sym (add_assoc (count_before_flush absent) (counts_before_flush h job es) (counts_after_flush flushed (transfers_of h job es)))
      by norights = sym (add_assoc (count_before_flush norights) (counts_before_flush h job es) (counts_after_flush flushed (transfers_of h job es)))
      by to_origin = sym (add_assoc (count_before_flush to_origin) (counts_before_flush h job es) (counts_after_flush flushed (transfers_of h job es)))
      by extends = swap (counts_of extends (is_held flushed e.0)) (counts_before_flush h job es) (counts_after_flush flushed (transfers_of h job es))
      by goes = swap (counts_of goes (is_held flushed e.0)) (counts_before_flush h job es) (counts_after_flush flushed (transfers_of h job es))

  -- ---- map

  same_link : (kind : ItemKind) (qs : List Pair) (e : Pair) (m : Option Held) (g : Holdings) → link job e m g ≡ link (record { kind = kind; rights = job.rights; pairs = qs }) e m g
  same_link kind qs e None g = refl
  same_link kind qs e (Some m) g = refl

  same_extend : (kind : ItemKind) (qs : List Pair) (e : Pair) (m t : Option Held) (g : Holdings) → extend job e m t g ≡ extend (record { kind = kind; rights = job.rights; pairs = qs }) e m t g
  same_extend kind qs e None t g = refl
  same_extend kind qs e (Some m) None g = refl
  same_extend kind qs e (Some m) (Some t) g = refl

  -- the pages of a MapItem are its transfers
  pub all_transfers : (kind : ItemKind) (qs : List Pair) (flushed : Holdings) (es : List Pair) (g : Holdings) → map_pairs h flushed job es g ≡ map_transfers flushed (record { kind = kind; rights = job.rights; pairs = qs }) (transfers_of h job es) g
  all_transfers kind qs flushed [] g = refl
  all_transfers kind qs flushed (e ∷ es) g = by (fate h job e) (all_transfers kind qs flushed es)
    where
      by : (f : Fate) → ((g : Holdings) → map_pairs h flushed job es g ≡ map_transfers flushed (record { kind = kind; rights = job.rights; pairs = qs }) (transfers_of h job es) g)
          → map_pairs h flushed job es (map_pair flushed job e f g) ≡ map_transfers flushed (record { kind = kind; rights = job.rights; pairs = qs }) (transfer_of e f (transfers_of h job es)) g
      by absent rest = rest g
      by norights rest = rest g
      by to_origin rest = rest g
      by extends rest = ap (map_pairs h flushed job es) (same_extend kind qs e (at flushed e.0) (at flushed e.1) g) ∙ rest (extend (record { kind = kind; rights = job.rights; pairs = qs }) e (at flushed e.0) (at flushed e.1) g)
      by goes rest = ap (map_pairs h flushed job es) (same_link kind qs e (at flushed e.0) g) ∙ rest (link (record { kind = kind; rights = job.rights; pairs = qs }) e (at flushed e.0) g)

  -- ---- grant

  -- the pairs that move are those of its transfers
  pub all_moving : job.kind ≡ Grant → (flushed : Holdings) (es : List Pair) → moving_of flushed (transfers_of h job es) ≡ moving flushed (filter (λ e. is_going (fate h job e)) es)
  all_moving grants flushed es = by_all es (grant_goes grants es)
    where
      tail : (t : Transfer) (ts : List Transfer) → AllGo (t ∷ ts) → AllGo ts
      tail t ts all i d within = all (suc i) d (omega (arith, within))

      by_all : (es : List Pair) → AllGo (transfers_of h job es) → moving_of flushed (transfers_of h job es) ≡ moving flushed (filter (λ e. is_going (fate h job e)) es)
      by_all [] go = refl
      by_all (e ∷ es) go = by (fate h job e) go (by_all es)
        where
          by : (f : Fate) → AllGo (transfer_of e f (transfers_of h job es)) → (AllGo (transfers_of h job es) → moving_of flushed (transfers_of h job es) ≡ moving flushed (filter (λ e. is_going (fate h job e)) es))
              → moving_of flushed (transfer_of e f (transfers_of h job es)) ≡ moving flushed (cond (is_going f) (e ∷ filter (λ e. is_going (fate h job e)) es) (filter (λ e. is_going (fate h job e)) es))
          by absent go rest = rest go
          by norights go rest = rest go
          by to_origin go rest = rest go
          by extends go rest = absurd (cc (go 0 (record { source = e.0; target = e.1; extends = true }) (omega arith)))
          by goes go rest = held (is_held flushed e.0) (rest (tail (record { source = e.0; target = e.1; extends = false }) (transfers_of h job es) go))
            where
              held : (b : Bool) → moving_of flushed (transfers_of h job es) ≡ moving flushed (filter (λ e. is_going (fate h job e)) es)
                  → (if b then e ∷ moving_of flushed (transfers_of h job es) else moving_of flushed (transfers_of h job es))
                  ≡ cond b (e ∷ moving flushed (filter (λ e. is_going (fate h job e)) es)) (moving flushed (filter (λ e. is_going (fate h job e)) es))
              held true rest = ap (λ es. e ∷ es) rest
              held false rest = rest

-- ---- limits

module _ (limits : Limits) (n : ℕ) (source target : Place) (source_space : source.space < limits.spaces) (target_space : target.space < limits.spaces)
    (source_pages : source.page + n ≤ pages_of limits.bits) (target_pages : target.page + n ≤ pages_of limits.bits) where
  -- the pages of an item lie within the limits
  pub pairs_within : (h : Holdings) (job : Job) → All (IsTransferWithin limits) (transfers_of h job (pairs_from n source target))
  pairs_within h job i d within = one (get_or (transfers_of h job (pairs_from n source target)) i d) (all_of h job (pairs_from n source target) i d within)
    where
      less : (a b c : ℕ) → a < b → b ≤ c → a < c
      less a b c first second = omega (arith, first, second)

      across : (s t p q n m : ℕ) → p < s + n → p + t ≡ q + s → t + n ≤ m → q < m
      across s t p q n m high level most = omega (arith, high, level, most)

      one : (t : Transfer) → IsOf h job (pairs_from n source target) t → IsTransferWithin limits t
      one t of =
          let f = in_pairs_from n source target (pair_of t) of.0 in
          record {
            source_space = subst (λ s. s < limits.spaces) (sym f.source_space) source_space;
            source_page = less t.source.page (source.page + n) (pages_of limits.bits) f.high source_pages;
            target_space = subst (λ s. s < limits.spaces) (sym f.target_space) target_space;
            target_page = across source.page target.page t.source.page t.target.page n (pages_of limits.bits) f.high f.level target_pages;
          }

-- ---- the ends of transfers within the limits

ends_within : (limits : Limits) (end : Transfer → Place) (ts : List Transfer) → All (λ t. is_place limits (end t) ≡ true) ts → (p : Place) → ends_in end ts p ≡ true → is_place limits p ≡ true
ends_within limits end [] within p is = absurd (cc is)
ends_within limits end (t ∷ ts) within p is = by (or_cases (not t.extends && same_place p (end t)) (ends_in end ts p) is) (ends_within limits end ts (λ i d less. within (suc i) d (omega (arith, less))) p)
  where
    by : ((not t.extends && same_place p (end t)) ≡ true) ⊎ (ends_in end ts p ≡ true) → (ends_in end ts p ≡ true → is_place limits p ≡ true) → is_place limits p ≡ true
    by (inl here) rest = ap (is_place limits) (same_is p (end t) (and_parts (not t.extends) (same_place p (end t)) here).1) ∙ within 0 t (omega arith)
    by (inr there) rest = rest there

pub sources_within : (limits : Limits) (ts : List Transfer) → All (IsTransferWithin limits) ts → (p : Place) → sources_in ts p ≡ true → is_place limits p ≡ true
sources_within limits ts within =
    ends_within limits (λ t. t.source) ts (λ i d less. let w = within i d less in place_from_within limits (get_or ts i d).source (record { space = w.source_space; page = w.source_page }))

pub targets_within : (limits : Limits) (ts : List Transfer) → All (IsTransferWithin limits) ts → (p : Place) → targets_in ts p ≡ true → is_place limits p ≡ true
targets_within limits ts within =
    ends_within limits (λ t. t.target) ts (λ i d less. let w = within i d less in place_from_within limits (get_or ts i d).target (record { space = w.target_space; page = w.target_page }))

-- ---- sizes

-- a space has no more than 2^20 pages
pub pages_few : (limits : Limits) → are_limits limits ≡ true → pages_of limits.bits ≤ 2 ^ 20
pages_few limits served = pow-le-pow_right two (bits_few limits.spaces limits.bits limits.frames (pages_of limits.bits) served)
  where
    two : 0 < 2
    two = omega arith

    bits_few : (spaces bits frames most : ℕ) → (nat_le 2 spaces && nat_le spaces 512 && nat_le 18 bits && nat_le bits 32 && nat_le 1 frames && nat_le frames most) ≡ true → bits - 12 ≤ 20
    bits_few spaces bits frames most is = grind (arith, nat_tests)

-- nor does an item have more
pub few_pages : (limits : Limits) (p : ItemPages) → are_limits limits ≡ true → AreItemPages limits p → p.count < 2 ^ 32
few_pages limits p served within = by p.source.page p.count (pages_of limits.bits) within.source_pages (pages_few limits served)
  where
    by : (a b c : ℕ) → a + b ≤ c → c ≤ 2 ^ 20 → b < 2 ^ 32
    by a b c first second = omega (arith, first, second)

-- ---- one item

module _ (h : Holdings) (lawful : IsLawful h) (p : ItemPages) (differ : p.source.space ≡ p.target.space → ⊥) where
  abbrev the_job : Job
  the_job = job_of_pages p

  abbrev the_transfers : List Transfer
  the_transfers = transfers_of h the_job (pairs_from p.count p.source p.target)

  pub is_job : IsJob (job_of_pages p)
  is_job = record { from = p.source.space; to = p.target.space; differ = differ; paired = paired_from p.count p.source p.target }

  -- the flush is that of the definition
  pub flush_is : strip h (λ q. targets_in the_transfers q && is_held h q) all_rights true ≡ flush h (going h the_job)
  flush_is = λ i. strip h (λ q. replaced_targets h the_job (pairs_from p.count p.source p.target) q i && is_held h q) all_rights true

  -- what is left is that of the definition
  pub left_is : after_flush p.kind p.rights the_transfers (flush h (going h the_job)) ≡ after_job p.kind h the_job
  left_is = by p.kind refl
    where
      by : (kind : ItemKind) → p.kind ≡ kind → after_flush kind p.rights the_transfers (flush h (going h the_job)) ≡ after_job kind h the_job
      by Map is = sym (all_transfers h the_job Map [] (flush h (going h the_job)) (pairs_from p.count p.source p.target) (flush h (going h the_job)))
      by Grant is = ap (λ es. renamed es (strip (flush h (going h the_job)) (sources_of es) (without all_rights p.rights) true)) (all_moving h the_job is (flush h (going h the_job)) (pairs_from p.count p.source p.target))

  -- the counts are those of the definition
  pub counts_are : add_counts (counts_before_flush h the_job (pairs_from p.count p.source p.target)) (counts_after_flush (flush h (going h the_job)) the_transfers) ≡ counts h the_job
  counts_are = sym (all_counted h the_job (flush h (going h the_job)) (pairs_from p.count p.source p.target))

  pub total_is : total (counts h the_job) ≡ p.count
  total_is = total_counts h the_job ∙ pairs_length p.count p.source p.target

  pub few_transfers : length the_transfers ≤ p.count
  few_transfers = subst (λ n. length the_transfers ≤ n) (pairs_length p.count p.source p.target) (transfers_few h the_job (pairs_from p.count p.source p.target))

  pub are_planned : (limits : Limits) → AreItemPages limits p → p.count < 2 ^ 32 → ArePlanned limits the_transfers
  are_planned limits within few = record {
    from = p.source.space;
    to = p.target.space;
    differ = differ;
    paired = all_paired h the_job p.source.space p.target.space (pairs_from p.count p.source p.target) (paired_from p.count p.source p.target);
    within = pairs_within limits p.count p.source p.target within.source_space within.target_space within.source_pages within.target_pages h the_job;
    few = at_most (length the_transfers) p.count (2 ^ 32) few_transfers few;
  }
    where
      at_most : (a b c : ℕ) → a ≤ b → b < c → a ≤ c
      at_most a b c first second = omega (arith, first, second)
