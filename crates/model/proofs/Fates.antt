-- What the outcome of a pair says of what is held.
use Rattle.std.proofs.Common.{◌≡◌, true, false, Bool, ◌&&◌, Option, Some, None, refl, sym, ap, ◌∙◌, if◌then◌else◌}
use Rattle.std.specs.Option.{option_map_or}
use Rattle.fpage.specs.Rights.{is_empty, meet}
use Rattle.space.specs.declared.place.Place.{Place}
use Rattle.space.specs.Place.{same_place}
use Rattle.model.specs.Definitions.Holdings.{Held, Holdings, only, at, is_held, origin_at}
use Rattle.model.specs.Definitions.Derived.{is_under}
use Rattle.model.specs.Definitions.Items.{Job, Pair, Fate, absent, norights, to_origin, extends, goes, is_going, is_map, has_origin, fate_of, fate, going}
use Rattle.model.specs.Laws.SendLaws.{In}
use Rattle.space.proofs.Places.{same_is}
use Rattle.model.proofs.Jobs.{in_filter, in_filter_from}

is_goes : (f : Fate) → is_going f ≡ true → f ≡ goes
is_goes absent is = absurd (cc is)
is_goes norights is = absurd (cc is)
is_goes to_origin is = absurd (cc is)
is_goes extends is = absurd (cc is)
is_goes goes is = refl

-- a pair of those that go is a pair of the job, and goes
pub in_going : (h : Holdings) (job : Job) (e : Pair) → In e (going h job) → In e job.pairs × (fate h job e ≡ goes)
in_going h job e k = let r = in_filter (λ e. is_going (fate h job e)) job.pairs e k in (r.0, is_goes (fate h job e) r.1)

-- a pair of the job that goes is one of those that go
pub going_in : (h : Holdings) (job : Job) (e : Pair) → In e job.pairs → fate h job e ≡ goes → In e (going h job)
going_in h job e k is = in_filter_from (λ e. is_going (fate h job e)) job.pairs e k (ap is_going is)

-- the outcome, by the three tests
abbrev chosen : Bool → Bool → Bool → Fate
chosen empty named widens = if empty then norights else if named then to_origin else if widens then extends else goes

goes_tests : (a b c : Bool) → chosen a b c ≡ goes → a ≡ false
goes_tests true b c is = absurd (cc is)
goes_tests false b c is = refl

extends_tests : (a b c : Bool) → chosen a b c ≡ extends → (a ≡ false) × (c ≡ true)
extends_tests true b c is = absurd (cc is)
extends_tests false true c is = absurd (cc is)
extends_tests false false true is = (refl, refl)
extends_tests false false false is = absurd (cc is)

origin_is : (p : Place) (o : Option Place) → option_map_or (same_place p) o false ≡ true → o ≡ Some p
origin_is p None is = absurd (cc is)
origin_is p (Some o) is = ap Some (sym (same_is p o is))

second_part : (a b : Bool) → (a && b) ≡ true → b ≡ true
second_part true b both = both
second_part false b both = absurd (cc both)

module _ (h : Holdings) (job : Job) (e : Pair) (source : Held) (held : at h e.0 ≡ Some source) where
  the_fate : fate h job e ≡ chosen (is_empty (meet source.rights job.rights)) (is_held h e.1 && is_under h (only e.1) e.0) (is_map job.kind && has_origin h e.1 e.0)
  the_fate = ap (fate_of h job e) held

  -- of a pair that goes some rights are left
  pub goes_some : fate h job e ≡ goes → is_empty (meet source.rights job.rights) ≡ false
  goes_some is = goes_tests _ _ _ (sym the_fate ∙ is)

  -- so they are of a pair that extends
  pub extends_some : fate h job e ≡ extends → is_empty (meet source.rights job.rights) ≡ false
  extends_some is = (extends_tests _ _ _ (sym the_fate ∙ is)).0

  -- what the target of a pair that extends holds derives from its source
  pub extends_origin : fate h job e ≡ extends → origin_at h e.1 ≡ Some e.0
  extends_origin is = origin_is e.0 (origin_at h e.1) (second_part (is_map job.kind) (has_origin h e.1 e.0) (extends_tests _ _ _ (sym the_fate ∙ is)).1)
