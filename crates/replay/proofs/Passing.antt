-- Text that is given to a sink piece by piece.
use Rattle.std.proofs.Common.{◌≡◌, ℕ, List, [], ◌++◌, Option, refl, sym, ap, subst, ◌∙◌, append_assoc, append-nil}
use Rattle.std.specs.Io.KnownBytes.{Appends}
use Rattle.std.proofs.KnownBytes.{Appends-trans, Appends-nil}
use Rattle.replay.specs.Steps.{PassesOn}

-- bytes that are equal
pub appends_same : (old new : Option (List ℕ)) {xs ys : List ℕ} → xs ≡ ys → Appends old new xs → Appends old new ys
appends_same old new same a = subst (λ l. Appends old new l) same a

pub passes_none : (old : Option (List ℕ)) (text : List ℕ) → PassesOn old old text text
passes_none old text = record { front = []; written = Appends-nil old; text_is = refl }

pub passes_all : (old new : Option (List ℕ)) (text : List ℕ) → Appends old new text → PassesOn old new text []
passes_all old new text written = record { front = text; written = written; text_is = sym (append-nil text) }

-- bytes behind those that are left
pub passes_push : {old new : Option (List ℕ)} {text left : List ℕ} → PassesOn old new text left → (more : List ℕ) → PassesOn old new (text ++ more) (left ++ more)
passes_push {old} {new} {text} {left} p more = record { front = p.front; written = p.written; text_is = ap (λ l. l ++ more) p.text_is ∙ append_assoc p.front left more }

-- and a front of them in turn
pub passes_more : {old mid new : Option (List ℕ)} {text left : List ℕ} → PassesOn old mid text left → (more : List ℕ) {rest : List ℕ} → PassesOn mid new (left ++ more) rest → PassesOn old new (text ++ more) rest
passes_more {old} {mid} {new} {text} {left} p more {rest} q = record {
  front = p.front ++ q.front;
  written = Appends-trans old mid new p.front q.front p.written q.written;
  text_is = ap (λ l. l ++ more) p.text_is ∙ append_assoc p.front left more ∙ ap (λ l. p.front ++ l) q.text_is ∙ sym (append_assoc p.front q.front rest);
}

-- and all of them
pub passes_end : {old mid : Option (List ℕ)} {text left : List ℕ} → PassesOn old mid text left → (new : Option (List ℕ)) (more : List ℕ) → Appends mid new (left ++ more) → Appends old new (text ++ more)
passes_end {old} {mid} {text} {left} p new more written =
    appends_same old new (sym (append_assoc p.front left more) ∙ ap (λ l. l ++ more) (sym p.text_is)) (Appends-trans old mid new p.front (left ++ more) p.written written)

pub passes_rest : {old mid : Option (List ℕ)} {text left : List ℕ} → PassesOn old mid text left → (new : Option (List ℕ)) → Appends mid new left → Appends old new text
passes_rest {old} {mid} {text} {left} p new written = appends_same old new (sym p.text_is) (Appends-trans old mid new p.front left p.written written)

-- a part of what is left
pub passes_part : {old mid : Option (List ℕ)} {text left : List ℕ} → PassesOn old mid text left → (new : Option (List ℕ)) (part rest : List ℕ) → left ≡ part ++ rest → Appends mid new part → PassesOn old new text rest
passes_part {old} {mid} {text} {left} p new part rest is written = record {
  front = p.front ++ part;
  written = Appends-trans old mid new p.front part p.written written;
  text_is = p.text_is ∙ ap (λ l. p.front ++ l) is ∙ sym (append_assoc p.front part rest);
}

-- where nothing is left
pub passes_done : {old now : Option (List ℕ)} {text left : List ℕ} → PassesOn old now text left → left ≡ [] → Appends old now text
passes_done {old} {now} {text} {left} p none = appends_same old now (sym (p.text_is ∙ ap (λ l. p.front ++ l) none ∙ append-nil p.front)) p.written
