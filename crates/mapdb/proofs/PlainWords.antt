-- The words of an unmap by the recursion and by strip are the same.
use Rattle.std.proofs.Common.{◌≡◌, ℕ, Bool, true, List, [], ◌∷◌, Result, Ok, Err, IfOk, refl, sym, ap, ◌∙◌}
use Rattle.std.specs.Prelude.{OnOk}
use Rattle.fpage.specs.Fpage.{Flexpage}
use Rattle.model.specs.Definitions.Holdings.{Holdings}
use Rattle.model.specs.Definitions.Answers.{pages_in}
use Rattle.model.specs.Definitions.Strip.{strip, strip_word}
use Rattle.model.specs.Definitions.Recursion.{Visited}
use Rattle.model.specs.Definitions.Lawful.{is_lawful}
use Rattle.model.proofs.LawfulParts.{IsLawful, lawful_parts}
use Rattle.model.proofs.StripAt.{lawful_strip}
use Rattle.model.proofs.Recursions.{recursion_is_strip}
use Rattle.mapdb.specs.State.{unmap_status, unmap_left, plain_status, plain_left}

pub plain_status_is : (space : ℕ) (f : Bool) (ws : List Flexpage) (h : Holdings) → IsLawful h → plain_status space f ws h ≡ unmap_status space f ws h
plain_status_is space f [] h l = refl
plain_status_is space f (w ∷ ws) h l =
    ap (λ (v : Visited). v.word ∷ plain_status space f ws v.left) (recursion_is_strip h l (pages_in space w) w.rights f)
    ∙ ap (λ rest. strip_word h (pages_in space w) ∷ rest) (plain_status_is space f ws (strip h (pages_in space w) w.rights f) (lawful_strip h (pages_in space w) w.rights f l))

pub plain_left_is : (space : ℕ) (f : Bool) (ws : List Flexpage) (h : Holdings) → IsLawful h → plain_left space f ws h ≡ unmap_left space f ws h
plain_left_is space f [] h l = refl
plain_left_is space f (w ∷ ws) h l =
    ap (λ (v : Visited). plain_left space f ws v.left) (recursion_is_strip h l (pages_in space w) w.rights f)
    ∙ plain_left_is space f ws (strip h (pages_in space w) w.rights f) (lawful_strip h (pages_in space w) w.rights f l)

-- what is answered by strip of what is lawful is answered by the recursion
pub if_lawful : {A B E : Type 0} (h : Holdings) (r : Result A E) (of : A → B) (strips recurs : Holdings → B) → (IsLawful h → recurs h ≡ strips h)
    → OnOk r (is_lawful h ≡ true) → IfOk r (λ a. of a ≡ strips h) → IfOk r (λ a. of a ≡ recurs h)
if_lawful h (Ok a) of strips recurs same lawful is = is ∙ sym (same (lawful_parts h lawful))
if_lawful h (Err e) of strips recurs same lawful is = tt

pub on_lawful : {A B E : Type 0} (h : Holdings) (r : Result A E) (left : B) (strips recurs : Holdings → B) → (IsLawful h → recurs h ≡ strips h)
    → OnOk r (is_lawful h ≡ true) → OnOk r (left ≡ strips h) → OnOk r (left ≡ recurs h)
on_lawful h (Ok a) left strips recurs same lawful is = is ∙ sym (same (lawful_parts h lawful))
on_lawful h (Err e) left strips recurs same lawful is = tt
