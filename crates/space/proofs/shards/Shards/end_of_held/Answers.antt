-- A word that is not 0 says what is held.
use Rattle.std.proofs.Common.{◌≡◌, ◌∙◌, refl, sym, ap, arith, ◌+◌, ◌-◌, ◌/◌, ◌<◌, inl, inr, IsTrue, is_some, length, slice_index_or}
use Rattle.std.proofs.lemmas.List.{get_or_default}
use Rattle.std.specs.Option.{option_copied}
use Rattle.space.specs.declared.place.Place.{Place}
use Rattle.space.specs.Directory.{offset_of}
use Rattle.space.specs.Shards.{index_of, entry_at}
use Rattle.space.proofs.Leaves.{within_or_past}
use Rattle.space.proofs.ShardWords.{beside, has_beside, held_has, held_at, words_are_all}
use Rattle.space.proofs.shards.Shards.end_of_held.Goals as goal

pub index-requires : goal.index-requires
index-requires c =
    let s = c.args.self.now in
    let held = sym c.as_ref.ensures.value ∙ ap option_copied c.unwrap-words.ensures in
    let p : Place = record { space = c.args.place.space; page = c.loop-page.page } in
    let beside_it : p.page / 64 ≡ c.args.place.page / 64 = omega (arith, c.loop-page-test.true, c.loop-page.auto.page, c.requires.end) in
    let index : c.find.result - c.offset.result + c.offset-in-loop-page.result ≡ index_of s p =
    omega (arith, c.offset-in-loop-page.ensures.offset, c.find.ensures, c.offset.ensures.offset, beside s c.args.place c.requires.place p refl beside_it) in
    let has = has_beside s c.args.place c.requires.place (held_has s c.args.place c.requires.held) p refl beside_it in
    omega (arith, index, has, words_are_all s c.unwrap-words.result.now held, c.unwrap-words.result.now.ok.0)

pub loop-page-preserved : goal.loop-page-preserved
loop-page-preserved c p space from below =
    let s = c.args.self.now in
    elim (within_or_past p.page c.loop-page.page) as (λ _. IsTrue (is_some (entry_at s p))) [
      | inl before ↦ c.loop-page.invariant p space from before
      | inr on ↦
          let held = sym c.as_ref.ensures.value ∙ ap option_copied c.unwrap-words.ensures in
          let page : p.page ≡ c.loop-page.page = omega (arith, on, below) in
          let offset : c.offset-in-loop-page.result ≡ offset_of p = c.offset-in-loop-page.ensures.offset ∙ ap offset_of (λ i. record { space = sym space i; page = sym page i }) in
          let beside_it : p.page / 64 ≡ c.args.place.page / 64 = omega (arith, page, c.loop-page-test.true, c.loop-page.auto.page, c.requires.end) in
          let index : c.find.result - c.offset.result + c.offset-in-loop-page.result ≡ index_of s p =
          omega (arith, offset, c.find.ensures, c.offset.ensures.offset, beside s c.args.place c.requires.place p space beside_it) in
          let has = has_beside s c.args.place c.requires.place (held_has s c.args.place c.requires.held) p space beside_it in
          let within : index_of s p < length c.unwrap-words.result.now.items = omega (arith, has, words_are_all s c.unwrap-words.result.now held) in
          held_at s c.unwrap-words.result.now held p
          (λ none. c.if-index-eq0.false (c.index.ensures ∙ ap (λ i. slice_index_or c.unwrap-words.result.now.items i c.index.result.now) index ∙ get_or_default c.unwrap-words.result.now.items (index_of s p) c.index.result.now 0 within ∙ none))
    ]
