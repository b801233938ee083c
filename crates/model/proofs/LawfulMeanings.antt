-- What lawful says.
use Rattle.std.proofs.Common.{◌≡◌, ℕ, zero, suc, true, false, Bool, length, Option, Some, None, refl, ap, subst}
use Rattle.std.specs.Option.{option_and_then}
use Rattle.fpage.specs.Rights.{is_empty}
use Rattle.fpage.specs.declared.rights.Rights.{Rights}
use Rattle.fpage.specs.declared.rights.Access.TheVariants.{Read, Write, Execute}
use Rattle.space.specs.declared.place.Place.{Place}
use Rattle.model.specs.Definitions.Holdings.{Held, Holdings, at, is_held, origin_at}
use Rattle.model.specs.Definitions.Lawful.{ends, is_lawful}
use Rattle.model.specs.Laws.DerivationLaws.{after_origins}
use Rattle.model.specs.Laws.LawfulLaws.{HasSome, AreLawful, LawfulMeans}
use Rattle.fpage.proofs.RightSets.{within_has, within_from, empty_has}
use Rattle.model.proofs.LawfulParts.{IsOrigin, lawful_parts, lawful_from}
use Rattle.model.proofs.ChainLengths.{ends_within_length}
use Rattle.model.proofs.Derivations.{chains_end}

some_right : (r : Rights) → is_empty r ≡ false → HasSome r
some_right r some = by r.read r.write r.execute refl refl refl
  where
    by : (x y z : Bool) → r.read ≡ x → r.write ≡ y → r.execute ≡ z → HasSome r
    by true y z is_read is_write is_execute = record { right = Read; is = is_read }
    by false true z is_read is_write is_execute = record { right = Write; is = is_write }
    by false false true is_read is_write is_execute = record { right = Execute; is = is_execute }
    by false false false is_read is_write is_execute = let empty : is_empty r ≡ true = rw (is_read, is_write, is_execute) refl in absurd (cc (empty, some))

not_empty : (r : Rights) → HasSome r → is_empty r ≡ false
not_empty r some = by (is_empty r) refl
  where
    by : (b : Bool) → is_empty r ≡ b → is_empty r ≡ false
    by true empty = absurd (cc (some.is, empty_has r some.right empty))
    by false is = is

none_ends : (n : ℕ) (h : Holdings) → ends n h None ≡ true
none_ends zero h = refl
none_ends (suc n) h = refl

-- a chain that comes to none has ended
ends_from : (n : ℕ) (h : Holdings) (o : Option Place) → option_and_then (after_origins n h) o ≡ None → ends n h o ≡ true
ends_from n h None is = none_ends n h
ends_from zero h (Some o) is = absurd (cc is)
ends_from (suc n) h (Some o) is = ends_from n h (origin_at h o) is

is_held_at : (h : Holdings) (p : Place) (m : Held) → at h p ≡ Some m → is_held h p ≡ true
is_held_at h p m held = rw held refl

to_means : (h : Holdings) → is_lawful h ≡ true → AreLawful h
to_means h lawful =
    let l = lawful_parts h lawful in
    record {
      sorted = l.sorted;
      some = λ p m held. some_right m.rights (l.some p m held);
      origin = λ p o m held from.
          let origin = l.origin p o m held from in
          record { from = origin.held; is = origin.is; no_more = record { frame = origin.frame; rights = λ r. within_has m.rights origin.held.rights r origin.within } };
      ends = λ p held. record { origins = length h; none = chains_end h lawful p held };
      root = l.root;
    }

from_means : (h : Holdings) → AreLawful h → is_lawful h ≡ true
from_means h are = lawful_from h (record {
  sorted = are.sorted;
  some = λ p m held. not_empty m.rights (are.some p m held);
  origin = origin;
  ending = λ p m held.
      let end = are.ends p (is_held_at h p m held) in
      let before = one_less p end.origins (ends_from end.origins h (Some p) end.none) in
      ends_within_length h origins_held before.0 m.origin (λ q from. origins_held p q m held from) (subst (λ o. ends before.0 h o ≡ true) (ap (option_and_then (λ k. k.origin)) held) before.1);
  root = are.root;
})
  where
    origin : (p o : Place) (m : Held) → at h p ≡ Some m → m.origin ≡ Some o → IsOrigin h o m
    origin p o m held from =
        let is = are.origin p o m held from in
        record { held = is.from; is = is.is; frame = is.no_more.frame; within = within_from m.rights is.from.rights (λ r. is.no_more.rights r) }

    origins_held : (p o : Place) (m : Held) → at h p ≡ Some m → m.origin ≡ Some o → (k : Held) × (at h o ≡ Some k)
    origins_held p o m held from = let is = are.origin p o m held from in (is.from, is.is)

    one_less : (p : Place) (n : ℕ) → ends n h (Some p) ≡ true → (k : ℕ) × (ends k h (origin_at h p) ≡ true)
    one_less p zero end = absurd (cc end)
    one_less p (suc n) end = (n, end)

pub lawful_means : LawfulMeans
lawful_means h = (to_means h, from_means h)
