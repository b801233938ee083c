-- One more origin.
use Rattle.std.proofs.Common.{rules, ◌≡◌, ℕ, ◌+◌, ◌-◌, ◌<◌, ◌≤◌, ◌∷◌, [], Option, Some, None, IfSome, MatchOption, length, drop, drop-drop, get_or, slice_set, ap, sym, subst, ◌∙◌, arith}
use Rattle.std.specs.List.{All}
use Rattle.std.proofs.lemmas.List.{get_or-drop}
use Rattle.space.specs.declared.place.Place.{Place}
use Rattle.space.specs.Shards.{index_of}
use Rattle.maptree.specs.Origins.{Origins}
use Rattle.holdings.specs.Inner.OriginWords.{IsSmall}
use Rattle.holdings.specs.Inner.Words.{IsThere}
use Rattle.holdings.proofs.Contents.WordOrigins.{ArePutUpTo, none_put, one_put, all_put}
use Rattle.holdings.proofs.origins.put_origins.Goals as goal

-- the first of those that are left stands behind those before it
record IsNext (os : Origins) (k : ℕ) (new : Origins) (link : Place × Option Place) : Type 0 where
  pub within : k < length os
  pub is : link ≡ get_or os k link
  pub more : length os - length new ≡ k + 1
  pub rest : new ≡ drop (length os - length new) os

next_of : (os left new : Origins) (link : Place × Option Place) → left ≡ drop (length os - length left) os → length left ≤ length os → left ≡ link ∷ new → IsNext os (length os - length left) new link
next_of os left new link left_is few next =
    let size = ap length next in
    let k = length os - length left in
    let more : length os - length new ≡ k + 1 = omega (arith, size, few) in
    let same : k + 0 ≡ k = omega arith in
    record {
      within = omega (arith, size, few);
      is = ap (λ l. get_or l 0 link) (sym next ∙ left_is) ∙ get_or-drop k os 0 link ∙ ap (λ j. get_or os j link) same;
      more = more;
      rest = ap (drop 1) (sym next ∙ left_is) ∙ drop-drop 1 k os ∙ ap (λ n. drop n os) (sym more);
    }

taken : (os left new : Origins) (r : Option (Place × Option Place)) (link : Place × Option Place) → left ≡ drop (length os - length left) os → length left ≤ length os → r ≡ Some link
    → MatchOption r (left ≡ []) (λ first. left ≡ first ∷ new) → IsNext os (length os - length left) new link
taken os left new r link left_is few is next = next_of os left new link left_is few (subst (λ r. MatchOption r (left ≡ []) (λ first. left ≡ first ∷ new)) is next)

-- what is so of all of them is so of it
so_of : (P : Place × Option Place → Type 0) (os : Origins) (k : ℕ) (new : Origins) (link : Place × Option Place) → All P os → IsNext os k new link → P link
so_of P os k new link each next = subst P (sym next.is) (each k link next.within)

pub of-requires : goal.of-requires
of-requires c =
    let next = taken c.args.links.now c.loop-place.links c.next.new.self c.in_ok-place.field-0 (c.in-Some.place, c.in-Some.origin) c.loop-place.invariant.left c.loop-place.invariant.few c.in-Some.is c.in_ok-place.ensures.next in
    so_of (λ o. IfSome o.1 IsSmall) c.args.links.now _ _ _ c.requires.origins next

pub index-requires-clause-place : goal.index-requires-clause-place
index-requires-clause-place c =
    let next = taken c.args.links.now c.loop-place.links c.next.new.self c.in_ok-place.field-0 (c.in-Some.place, c.in-Some.origin) c.loop-place.invariant.left c.loop-place.invariant.few c.in-Some.is c.in_ok-place.ensures.next in
    (so_of (λ o. IsThere c.args.shards.now o.0) c.args.links.now _ _ _ c.requires.places next).place

pub index-requires-clause-has : goal.index-requires-clause-has
index-requires-clause-has c =
    let next = taken c.args.links.now c.loop-place.links c.next.new.self c.in_ok-place.field-0 (c.in-Some.place, c.in-Some.origin) c.loop-place.invariant.left c.loop-place.invariant.few c.in-Some.is c.in_ok-place.ensures.next in
    (so_of (λ o. IsThere c.args.shards.now o.0) c.args.links.now _ _ _ c.requires.places next).word

pub bounds-origins-index : goal.bounds-origins-index
bounds-origins-index c =
    let next = taken c.args.links.now c.loop-place.links c.next.new.self c.in_ok-place.field-0 (c.in-Some.place, c.in-Some.origin) c.loop-place.invariant.left c.loop-place.invariant.few c.in-Some.is c.in_ok-place.ensures.next in
    let reached = so_of (λ o. index_of c.args.shards.now o.0 < length c.args.origins.now) c.args.links.now _ _ _ c.requires.reached next in
    omega (arith, reached, c.index.ensures.index, c.loop-place.invariant.put.count)

pub offset_bounds-origins-index : goal.offset_bounds-origins-index
offset_bounds-origins-index c =
    let next = taken c.args.links.now c.loop-place.links c.next.new.self c.in_ok-place.field-0 (c.in-Some.place, c.in-Some.origin) c.loop-place.invariant.left c.loop-place.invariant.few c.in-Some.is c.in_ok-place.ensures.next in
    let reached = so_of (λ o. index_of c.args.shards.now o.0 < length c.args.origins.now) c.args.links.now _ _ _ c.requires.reached next in
    let within : c.index.result < length c.loop-place.origins = omega (arith, reached, c.index.ensures.index, c.loop-place.invariant.put.count) in
    search (rules, within)

pub loop-place-init : goal.loop-place-init
loop-place-init c =
    let os = c.args.links.now in
    let none : 0 ≡ length os - length os = omega arith in
    record {
      left = ap (λ n. drop n os) none;
      few = omega arith;
      put = subst (λ n. ArePutUpTo c.args.shards.now os c.args.origins.now n c.args.origins.now) none (none_put c.args.shards.now os c.requires.once c.args.origins.now);
    }

pub loop-place-preserved : goal.loop-place-preserved
loop-place-preserved c =
    let s = c.args.shards.now in
    let os = c.args.links.now in
    let old = c.args.origins.now in
    let new = c.loop-place.origins in
    let i = c.index.result in
    let k = length os - length c.loop-place.links in
    let link : Place × Option Place = (c.in-Some.place, c.in-Some.origin) in
    let next = taken os c.loop-place.links c.next.new.self c.in_ok-place.field-0 link c.loop-place.invariant.left c.loop-place.invariant.few c.in-Some.is c.in_ok-place.ensures.next in
    let reached = so_of (λ o. index_of s o.0 < length old) os _ _ _ c.requires.reached next in
    let within : i < length old = omega (arith, reached, c.index.ensures.index) in
    record {
      left = next.rest;
      few = omega (arith, next.within, next.more);
      put = subst (λ n. ArePutUpTo s os old n (slice_set new i c.of.result)) (sym next.more)
          (subst (λ (origin : Option Place). ArePutUpTo s os old (k + 1) (slice_set new i origin)) (sym c.of.ensures)
          (one_put s os c.requires.once old k link i new next.within next.is c.index.ensures.index within c.index.ensures.distinct c.loop-place.invariant.put));
    }

-- none is left
all_taken : (os left new : Origins) (r : Option (Place × Option Place)) → r ≡ None → MatchOption r (left ≡ []) (λ first. left ≡ first ∷ new) → length os ≤ length os - length left
all_taken os left new r is next =
    let none : left ≡ [] = subst (λ r. MatchOption r (left ≡ []) (λ first. left ≡ first ∷ new)) is next in
    omega (arith, ap length none)

pub returns : goal.returns
returns c =
    let os = c.args.links.now in
    let k = length os - length c.loop-place.links in
    all_put c.args.shards.now os c.requires.once c.args.origins.now k c.loop-place.origins (all_taken os c.loop-place.links c.next.new.self c.in_ok-place.field-0 c.in_default.is c.in_ok-place.ensures.next) c.loop-place.invariant.put
