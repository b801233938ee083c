-- Only the held pages of a set count: what is stripped of them is stripped of all.
use Rattle.std.proofs.Common.{◌≡◌, true, Bool, ap, ◌∙◌}
use Rattle.fpage.specs.declared.rights.Rights.{Rights}
use Rattle.space.specs.declared.place.Place.{Place}
use Rattle.model.specs.Definitions.Holdings.{PlaceSet, is_held}
use Rattle.model.specs.Definitions.Lawful.{is_lawful}
use Rattle.model.proofs.LawfulParts.{lawful_parts}
use Rattle.model.proofs.StripUnions.{word_same, strip_same}
use Rattle.holdings.specs.Contents.{Contents, IsStripped, left_with}

-- where two sets have the same held pages, what is stripped of the one is stripped of the other
pub stripped_same : (old : Contents) (X Y : PlaceSet) → is_lawful old.holdings ≡ true → ((p : Place) → is_held old.holdings p ≡ true → X p ≡ Y p)
    → (revoked : Rights) (flush : Bool) (r : Contents × Rights) → IsStripped old X revoked flush r → IsStripped old Y revoked flush r
stripped_same old X Y lawful same revoked flush r is =
    let l = lawful_parts old.holdings lawful in
    record {
      left = is.left ∙ ap (left_with old) (strip_same old.holdings l X Y same revoked flush);
      status = is.status ∙ word_same old.holdings l X Y same;
    }
