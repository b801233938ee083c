-- Parts of a text, one behind the other, are the text.
use Rattle.std.proofs.Common.{◌≡◌, ℕ, ◌+◌, ◌<◌, List, [], ◌∷◌, ◌++◌, length, take, drop, get_or, flat_map, refl, sym, ap, ◌∙◌, append_assoc}
use Rattle.std.proofs.lemmas.Grind.{flat_map-append}
use Rattle.std.proofs.lemmas.List.{drop_more, drop-drop, take-append-drop}
use Rattle.model.specs.Definitions.Holdings.{Holdings}
use Rattle.model.specs.Definitions.Text.{audit_line, audit_lines}
use Rattle.audit.specs.Parts.{left_of}

module _ (held : ℕ → ℕ → Holdings) where
  -- of spaces of which no page is told
  from_start : (spaces : List ℕ) → left_of held spaces 0 ≡ flat_map (λ s. held s 0) spaces
  from_start [] = refl
  from_start (s ∷ ss) = refl

  pub start : (spaces : List ℕ) → audit_lines (left_of held spaces 0) ≡ audit_lines (flat_map (λ s. held s 0) spaces)
  start spaces = ap audit_lines (from_start spaces)

  -- the text of the first space, and that of those behind it
  first : (spaces : List ℕ) (told page s : ℕ) → told < length spaces → s ≡ get_or spaces told s
      → audit_lines (left_of held (drop told spaces) page) ≡ audit_lines (held s page) ++ audit_lines (left_of held (drop (told + 1) spaces) 0)
  first spaces told page s within is =
      let rest = drop (told + 1) spaces in
      let next : drop told spaces ≡ s ∷ rest = drop_more spaces told s within ∙ ap (λ x. x ∷ rest) (sym is) in
      ap (λ ss. audit_lines (left_of held ss page)) next ∙ flat_map-append audit_line (held s page) (flat_map (λ x. held x 0) rest) ∙ ap (λ t. audit_lines (held s page) ++ t) (sym (start rest))

  module _ (spaces : List ℕ) (told page s : ℕ) (within : told < length spaces) (is : s ≡ get_or spaces told s) (old new : List ℕ) where
    -- some lines of a space are told
    pub some_told : (next : ℕ) → (old ++ audit_lines (held s page)) ≡ new ++ audit_lines (held s next) → (old ++ audit_lines (left_of held (drop told spaces) page)) ≡ new ++ audit_lines (left_of held (drop told spaces) next)
    some_told next same =
        let rest = audit_lines (left_of held (drop (told + 1) spaces) 0) in
        ap (λ t. old ++ t) (first spaces told page s within is) ∙ sym (append_assoc old (audit_lines (held s page)) rest) ∙ ap (λ t. t ++ rest) same
        ∙ append_assoc new (audit_lines (held s next)) rest ∙ ap (λ t. new ++ t) (sym (first spaces told next s within is))

    -- and all of them
    pub space_told : (old ++ audit_lines (held s page)) ≡ new → (old ++ audit_lines (left_of held (drop told spaces) page)) ≡ new ++ audit_lines (left_of held (drop (told + 1) spaces) 0)
    space_told same =
        let rest = audit_lines (left_of held (drop (told + 1) spaces) 0) in
        ap (λ t. old ++ t) (first spaces told page s within is) ∙ sym (append_assoc old (audit_lines (held s page)) rest) ∙ ap (λ t. t ++ rest) same

  -- the text of several spaces, and that of those behind them
  pub several : (spaces : List ℕ) (told n : ℕ)
      → audit_lines (left_of held (drop told spaces) 0) ≡ audit_lines (flat_map (λ s. held s 0) (take n (drop told spaces))) ++ audit_lines (left_of held (drop (told + n) spaces) 0)
  several spaces told n =
      let left = drop told spaces in
      let whole : left ≡ take n left ++ drop n left = sym (take-append-drop n left) in
      let behind : drop n left ≡ drop (told + n) spaces = drop-drop n told spaces in
      start left ∙ ap (λ ss. audit_lines (flat_map (λ s. held s 0) ss)) whole ∙ ap audit_lines (flat_map-append (λ s. held s 0) (take n left) (drop n left))
      ∙ flat_map-append audit_line (flat_map (λ s. held s 0) (take n left)) (flat_map (λ s. held s 0) (drop n left))
      ∙ ap (λ t. audit_lines (flat_map (λ s. held s 0) (take n left)) ++ t) (ap (λ ss. audit_lines (flat_map (λ s. held s 0) ss)) behind ∙ sym (start (drop (told + n) spaces)))
