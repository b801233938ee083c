-- Space after space.
use Rattle.std.proofs.Common.{◌≡◌, false, Option, Some, None, is_some, ◌+◌, ◌<◌, ◌++◌, ◌∷◌, [], ℕ, ◌∙◌, ap, sym, subst, flat_map, append_assoc}
use Rattle.std.proofs.lemmas.List.{append-nil}
use Rattle.std.proofs.lemmas.Grind.{flat_map-append}
use Rattle.std.specs.Prelude.{MatchOption}
use Rattle.model.specs.Definitions.Holdings.{Holdings}
use Rattle.mapdb.specs.Held.{Mapping, held_from}
use Rattle.holdings.proofs.Contents.FromPages.{from_space, all_spaces, one_space}
use Rattle.audit.proofs.parts.held_spaces.Goals.{then-is_some+in_ok-push, else-is_some}
use Rattle.audit.proofs.parts.held_spaces.Goals as goal

-- where no first mapping is found
nothing_there : (found : Option Mapping) (N : Type 0) (S : Mapping → Type 0) → is_some found ≡ false → MatchOption found N S → N
nothing_there None N S none is = is
nothing_there (Some m) N S none is = absurd (cc none)

pub loop-space-init : goal.loop-space-init
loop-space-init c =
    let h = c.args.mappings.now in
    ap (λ ss. flat_map (λ s. held_from h s 0) ss ++ from_space h 0) c.new-spaces.ensures.items ∙ all_spaces h c.limits-limits.ensures.consistent

pub loop-space-preserved : goal.loop-space-preserved
loop-space-preserved c =
    let h = c.args.mappings.now in
    let s = c.loop-space.space in
    let so_far = c.loop-space.spaces.items in
    let held : ℕ → Holdings = λ s. held_from h s 0 in
    let within : s < h.limits.spaces = subst (λ n. s < n) (ap (λ l. l.spaces) c.limits-limits.ensures.limits) c.loop-space-test.true in
    let next : (flat_map held so_far ++ (held s ++ from_space h (s + 1))) ≡ h.holdings = ap (λ ms. flat_map held so_far ++ ms) (sym (one_space h s within)) ∙ c.loop-space.invariant in
    let rest = from_space h (s + 1) in
    elim c.if-is_some.branch [
      | then-is_some+in_ok-push w ↦
          let more : c.if-is_some.spaces.items ≡ so_far ++ s ∷ [] = ap (λ v. v.items) w.spaces-is ∙ w.in_ok-push.ensures.items in
          let one : flat_map held (so_far ++ s ∷ []) ≡ flat_map held so_far ++ held s = flat_map-append held so_far (s ∷ []) ∙ ap (λ ms. flat_map held so_far ++ ms) (append-nil (held s)) in
          ap (λ ss. flat_map held ss ++ rest) more ∙ ap (λ ms. ms ++ rest) one ∙ append_assoc (flat_map held so_far) (held s) rest ∙ next
      | else-is_some w ↦
          let none : held s ≡ [] = nothing_there c.next_from.result (held s ≡ []) _ (sym w.if-is_some.ensures) c.next_from.ensures.next in
          ap (λ v. flat_map held v.items ++ rest) w.spaces-is ∙ ap (λ ms. flat_map held so_far ++ (ms ++ rest)) (sym none) ∙ next
    ]
