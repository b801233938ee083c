-- Cell before cell.
use Rattle.std.proofs.Common.{◌≡◌, ◌++◌, ◌∷◌, [], ℕ, List, codes, ap, sym, ◌∙◌, append_assoc}
use Rattle.std.specs.Fmt.{decimal}
use Rattle.model.specs.Definitions.Text.{origin_text, rights_text, status_text}
use Rattle.audit.proofs.line.line_text.Goals as goal

-- a text behind a comma
abbrev behind_comma : List ℕ → List ℕ
behind_comma t = 44 ∷ t

cell : (a b rest : List ℕ) → (a ++ behind_comma (b ++ rest)) ≡ a ++ codes "," ++ b ++ rest
cell a b rest = sym (append_assoc a (codes ",") (b ++ rest)) ∙ sym (append_assoc (a ++ codes ",") b rest)

cells : (a b c d e f rest : List ℕ) → (a ++ behind_comma (b ++ behind_comma (c ++ behind_comma (d ++ behind_comma (e ++ behind_comma (f ++ rest))))))
    ≡ a ++ codes "," ++ b ++ codes "," ++ c ++ codes "," ++ d ++ codes "," ++ e ++ codes "," ++ f ++ rest
cells a b c d e f rest =
    cell a b _ ∙ cell (a ++ codes "," ++ b) c _ ∙ cell (a ++ codes "," ++ b ++ codes "," ++ c) d _
    ∙ cell (a ++ codes "," ++ b ++ codes "," ++ c ++ codes "," ++ d) e _ ∙ cell (a ++ codes "," ++ b ++ codes "," ++ c ++ codes "," ++ d ++ codes "," ++ e) f rest

pub returns-clause-text : goal.returns-clause-text
returns-clause-text c =
    let line = c.args.line.now in
    let end = c.byte.ensures.text ∙ ap (λ t. 10 ∷ t) c.new-text.ensures in
    let origin = c.byte-2.ensures.text ∙ ap behind_comma (c.put_origin.ensures.text ∙ ap (λ t. origin_text line.origin ++ t) end) in
    let status = c.byte-3.ensures.text ∙ ap behind_comma (c.put_status.ensures.text ∙ ap (λ t. status_text line.status ++ t) origin) in
    let rights = c.byte-4.ensures.text ∙ ap behind_comma (c.put_rights.ensures.text ∙ ap (λ t. rights_text line.rights ++ t) status) in
    let frame = c.byte-5.ensures.text ∙ ap behind_comma (c.number.ensures.text ∙ ap (λ t. decimal line.frame ++ t) rights) in
    let page = c.byte-6.ensures.text ∙ ap behind_comma (c.number-2.ensures.text ∙ ap (λ t. decimal line.place.page ++ t) frame) in
    c.number-3.ensures.text ∙ (λ i. decimal (c.from.ensures i) ++ page i)
    ∙ cells (decimal line.place.space) (decimal line.place.page) (decimal line.frame) (rights_text line.rights) (status_text line.status) (origin_text line.origin) (10 ∷ [])
