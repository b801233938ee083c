-- The texts of spaces, one after another, are the text of all mappings.
use Rattle.std.proofs.Common.{◌≡◌, ℕ, ◌+◌, ◌<◌, ◌++◌, List, [], ◌∷◌, length, drop, flat_map, get_or, Result, Ok, Err, IsOk, OnOk, false, is_err, Vec, Global, refl, sym, ap, ◌∙◌, append_assoc}
use Rattle.std.specs.Prelude.{⊤}
use Rattle.std.specs.List.{All, AllZip}
use Rattle.std.specs.declared.alloc.AllocError.{AllocError}
use Rattle.std.proofs.lemmas.Grind.{flat_map-append}
use Rattle.std.proofs.lemmas.List.{drop_more}
use Rattle.std.proofs.lemmas.List.Elements.{All-head, All-tail}
use Rattle.model.specs.Definitions.Text.{audit_line, audit_lines}
use Rattle.model.specs.Definitions.Holdings.{Holdings}
use Rattle.audit.specs.Sections.{IsTextOf, bytes_in}

abbrev Text : Type 0
Text = Result (Vec ℕ Global) AllocError

-- one more text behind those so far
pub one_more_text : (texts : List Text) (i : ℕ) (item : Text) (text : Vec ℕ Global) (old bytes new all : List ℕ) → i < length texts → item ≡ get_or texts i item → item ≡ Ok text
    → bytes ≡ text.items → new ≡ old ++ bytes → (old ++ flat_map bytes_in (drop i texts)) ≡ all → (new ++ flat_map bytes_in (drop (i + 1) texts)) ≡ all
one_more_text texts i item text old bytes new all within read is bytes_are new_is whole =
    let rest = flat_map bytes_in (drop (i + 1) texts) in
    let next : drop i texts ≡ Ok text ∷ drop (i + 1) texts = drop_more texts i item within ∙ ap (λ t. t ∷ drop (i + 1) texts) (sym read ∙ is) in
    ap (λ xs. xs ++ rest) (new_is ∙ ap (λ bs. old ++ bs) bytes_are) ∙ append_assoc old text.items rest ∙ ap (λ ts. old ++ flat_map bytes_in ts) (sym next) ∙ whole

is_ok_from : (item : Text) (text : Vec ℕ Global) → item ≡ Ok text → IsOk item
is_ok_from item text is = rw is refl

pub text_is_ok : (texts : List Text) (i : ℕ) (item : Text) (text : Vec ℕ Global) → item ≡ get_or texts i item → item ≡ Ok text → IsOk (get_or texts i item)
text_is_ok texts i item text read is = is_ok_from (get_or texts i item) text (sym read ∙ is)

-- the texts of all spaces, where memory sufficed for each
pub all_texts : (mappings : ℕ → Holdings) (spaces : List ℕ) (texts : List Text) → AllZip (λ s t. IsTextOf (mappings s) t) spaces texts → All IsOk texts
    → flat_map bytes_in texts ≡ audit_lines (flat_map mappings spaces)
all_texts mappings [] [] each all = refl
all_texts mappings [] (t ∷ ts) each all = absurd each
all_texts mappings (s ∷ ss) [] each all = absurd each
all_texts mappings (s ∷ ss) (Err e ∷ ts) each all = absurd (cc (All-head IsOk (Err e) ts all))
all_texts mappings (s ∷ ss) (Ok text ∷ ts) each all =
    (λ i. each.0 i ++ all_texts mappings ss ts each.1 (All-tail IsOk (Ok text) ts all) i) ∙ sym (flat_map-append audit_line (mappings s) (flat_map mappings ss))

-- what is so where memory sufficed
pub was_ok : {P : Type 0} (r : Result ⊤ AllocError) → is_err r ≡ false → OnOk r P → P
was_ok (Ok x) is p = p
was_ok (Err e) is p = absurd (cc is)
