-- The place that was put, and no other.
use Rattle.std.proofs.Common.{◌≡◌, ◌+◌, ◌-◌, None, ◌<◌, ◌≤◌, length, slice_set, Some, refl, sym, ap, ◌∙◌, subst, arith, if◌then◌else◌}
use Rattle.space.specs.Place.{same_place}
use Rattle.maptree.specs.PlaceMaps.{Places, place_for}
use Rattle.maptree.proofs.OnePlace.{put_says, grown_same}
use Rattle.maptree.proofs.place_map.PlaceMap.put.Goals.{then-len-at+in_ok-resize, else-len-at}
use Rattle.maptree.proofs.place_map.PlaceMap.put.Goals as goal

pub returns-clause-put : goal.returns-clause-put
returns-clause-put c = λ p.
    let key = c.args.key in
    let first = c.self.inside.first in
    let old = c.self.inside.places.items in
    let at = key.page - first in
    let space_is : key.space ≡ c.self.inside.space = c.requires.space ∙ ap (λ (s : Places). s.space) (sym c.self.view_is) in
    let page : first ≤ key.page = subst (λ (s : Places). s.first ≤ key.page) (sym c.self.view_is) c.requires.page in
    let before = ap (λ (s : Places). if same_place p key then Some c.args.place else place_for s p) c.self.view_is in
    let filled = c.self.inside.places.ok.0 in
    elim c.if-len-at.branch [
      | then-len-at+in_ok-resize w ↦
          let now = w.resize.new.self.items in
          let each = w.in_ok-resize.ensures.by_index in
          let filled_now = w.resize.new.self.ok.0 in
          let len = w.in_ok-resize.ensures.len in
          let size : length now ≡ at + 1 = omega (arith, filled_now, len) in
          let grows : length old ≤ length now = omega (arith, size, filled, c.len.ensures, w.if-len-at.true) in
          let same = grown_same now old grows (λ k d within low. each.0 k d (omega (arith, within, size)) (omega (arith, low, filled))) (λ k high within. each.1 k None refl (omega (arith, high, filled)) (omega (arith, within, size))) in
          ap (λ s. place_for (record { space = s.space; first = s.first; places = slice_set s.places.items at (Some c.args.place) }) p) w.self-inside-is
          ∙ put_says c.self.inside.space first key space_is page now old c.args.place p (omega (arith, size)) same ∙ before
      | else-len-at w ↦
          let within : at < length old = omega (arith, filled, c.len.ensures, w.if-len-at.false) in
          ap (λ s. place_for (record { space = s.space; first = s.first; places = slice_set s.places.items at (Some c.args.place) }) p) w.self-inside-is
          ∙ put_says c.self.inside.space first key space_is page old old c.args.place p within (λ i. refl) ∙ before
    ]
