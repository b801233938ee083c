-- A group of one frame, as it is found in a list that is shown.
use Rattle.std.proofs.Common.{◌≡◌, ℕ, ◌==◌, true, List, get_or, ap, ◌∙◌, subst}
use Rattle.std.specs.List.{list_all, slice_range}

pub group_shown : {X : Type 0} (frame_of : X → ℕ) (xs shown : List X) (from end : ℕ) (x : X) → shown ≡ xs → x ≡ get_or xs from x
    → ((d : X) → list_all (λ y. frame_of y == frame_of (get_or shown from d)) (slice_range shown from end) ≡ true) → list_all (λ y. frame_of y == frame_of x) (slice_range xs from end) ≡ true
group_shown frame_of xs shown from end x same is all =
    ap (λ z. list_all (λ y. frame_of y == frame_of z) (slice_range xs from end)) is
    ∙ subst (λ zs. list_all (λ y. frame_of y == frame_of (get_or zs from x)) (slice_range zs from end) ≡ true) same (all x)
