-- Sets of rights by what is in them.
use Rattle.std.proofs.Common.{◌≡◌, true, false, Bool, ◌&&◌, ◌||◌, not, refl, sym, ◌∙◌, arith, ◌⊎◌, inl, inr}
use Rattle.std.proofs.Math.Bool.{or-false, or_assoc}
use Rattle.std.proofs.lemmas.Bool.{and_parts, or_cases, or_left}
use Rattle.fpage.specs.Rights.{no_rights, all_rights, join, meet, without, is_empty, is_within, has}
use Rattle.fpage.specs.declared.rights.Rights.{Rights}
use Rattle.fpage.specs.declared.rights.Access.{Access}
use Rattle.fpage.specs.declared.rights.Access.TheVariants.{Read, Write, Execute}
use Rattle.fpage.proofs.Truth.{same_truth}

pub has-join : (r s : Rights) (a : Access) → has (join r s) a ≡ (has r a || has s a)
has-join r s Read = refl
has-join r s Write = refl
has-join r s Execute = refl

pub has-meet : (r s : Rights) (a : Access) → has (meet r s) a ≡ (has r a && has s a)
has-meet r s Read = refl
has-meet r s Write = refl
has-meet r s Execute = refl

pub has-without : (r s : Rights) (a : Access) → has (without r s) a ≡ (has r a && not (has s a))
has-without r s Read = refl
has-without r s Write = refl
has-without r s Execute = refl

pub has-none : (a : Access) → has no_rights a ≡ false
has-none Read = refl
has-none Write = refl
has-none Execute = refl

pub has-all : (a : Access) → has all_rights a ≡ true
has-all Read = refl
has-all Write = refl
has-all Execute = refl

-- two sets with the same elements are one
pub same_rights : (r s : Rights) → ((a : Access) → has r a ≡ has s a) → r ≡ s
same_rights r s same = λ i. record { read = same Read i; write = same Write i; execute = same Execute i }

-- the same, element by element in each direction
pub same_elements : (r s : Rights) → ((a : Access) → has r a ≡ true → has s a ≡ true) → ((a : Access) → has s a ≡ true → has r a ≡ true) → r ≡ s
same_elements r s there back = same_rights r s (λ a. same_truth _ _ (there a) (back a))

pub empty_has : (r : Rights) (a : Access) → is_empty r ≡ true → has r a ≡ false
empty_has r Read empty = grind arith
empty_has r Write empty = grind arith
empty_has r Execute empty = grind arith

pub within_has : (r s : Rights) (a : Access) → is_within r s ≡ true → has r a ≡ true → has s a ≡ true
within_has r s Read within held = grind arith
within_has r s Write within held = grind arith
within_has r s Execute within held = grind arith

all_three : (r : Rights) → has r Read ≡ false → has r Write ≡ false → has r Execute ≡ false → is_empty r ≡ true
all_three r none_read none_write none_execute = grind arith

pub empty_from : (r : Rights) → ((a : Access) → has r a ≡ false) → is_empty r ≡ true
empty_from r none = all_three r (none Read) (none Write) (none Execute)

pub within_from : (r s : Rights) → ((a : Access) → has r a ≡ true → has s a ≡ true) → is_within r s ≡ true
within_from r s in_both = empty_from (without r s) (λ a. rw (has-without r s a) (not_left (has r a) (has s a) (in_both a)))
  where
    not_left : (x y : Bool) → (x ≡ true → y ≡ true) → (x && not y) ≡ false
    not_left true y f = rw (f refl) refl
    not_left false y f = refl

pub within_self : (r : Rights) → is_within r r ≡ true
within_self r = within_from r r (λ a held. held)

pub within_trans : (r s t : Rights) → is_within r s ≡ true → is_within s t ≡ true → is_within r t ≡ true
within_trans r s t first second = within_from r t (λ a held. within_has s t a second (within_has r s a first held))

-- some element of a set that is not empty stays in a larger one
pub larger_not_empty : (r s : Rights) → is_within r s ≡ true → is_empty r ≡ false → is_empty s ≡ false
larger_not_empty r s within some = elim (is_empty s) as (λ b. is_empty s ≡ b → b ≡ false) [
  | true ↦ λ empty. cc (some, within_empty empty)
  | false ↦ λ _. refl
] refl
  where
    within_empty : is_empty s ≡ true → is_empty r ≡ true
    within_empty empty = empty_from r (λ a. elim (has r a) as (λ b. has r a ≡ b → b ≡ false) [
      | true ↦ λ held. cc (within_has r s a within held, empty_has s a empty)
      | false ↦ λ _. refl
    ] refl)

-- what two sets share is within the first
pub meet_within : (r s : Rights) → is_within (meet r s) r ≡ true
meet_within r s = within_from (meet r s) r (λ a held. (and_parts (has r a) (has s a) (sym (has-meet r s a) ∙ held)).0)

-- a set is within its union with another
pub within_join : (r s : Rights) → is_within r (join r s) ≡ true
within_join r s = within_from r (join r s) (λ a held. has-join r s a ∙ or_left (has r a) (has s a) held)

-- the union of two sets within a third is within it
pub join_within : (r s t : Rights) → is_within r t ≡ true → is_within s t ≡ true → is_within (join r s) t ≡ true
join_within r s t first second = within_from (join r s) t (λ a held. by a (or_cases (has r a) (has s a) (sym (has-join r s a) ∙ held)))
  where
    by : (a : Access) → (has r a ≡ true) ⊎ (has s a ≡ true) → has t a ≡ true
    by a (inl in_r) = within_has r t a first in_r
    by a (inr in_s) = within_has s t a second in_s

-- a set without elements is empty
pub nothing_from : (r : Rights) → ((a : Access) → has r a ≡ true → ⊥) → r ≡ no_rights
nothing_from r none = same_elements r no_rights (λ a held. absurd (none a held)) (λ a held. absurd (cc (held, has-none a)))

-- to add nothing changes nothing
pub join_nothing : (r : Rights) → join r no_rights ≡ r
join_nothing r = same_rights (join r no_rights) r (λ a. rw (has-join r no_rights a, has-none a) (or-false (has r a)))

-- sets are joined in any grouping
pub join_assoc : (r s t : Rights) → join (join r s) t ≡ join r (join s t)
join_assoc r s t = same_rights (join (join r s) t) (join r (join s t)) (λ a. rw (has-join (join r s) t a, has-join r s a, has-join r (join s t) a, has-join s t a) (or_assoc (has r a) (has s a) (has t a)))
