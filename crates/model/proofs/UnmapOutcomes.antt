-- What an unmap takes, and what it answers.
use Rattle.std.proofs.Common.{◌≡◌, ℕ, ◌+◌, ◌*◌, ◌/◌, ◌<◌, ◌==◌, nat_le, nat_lt, true, [], ◌∷◌, refl, sym, subst, arith}
use Rattle.std.proofs.lemmas.Bool.{and_parts, and_from, eqb-true, eq-eqb, leb-true, ltb-true, le-leb, lt-ltb}
use Rattle.fpage.specs.Rights.{number, has}
use Rattle.fpage.specs.Fpage.{is_page_of}
use Rattle.fpage.specs.Control.{with_status}
use Rattle.model.specs.Definitions.Strip.{strip, strip_word}
use Rattle.model.specs.Definitions.Answers.{pages_in}
use Rattle.model.specs.Laws.UnmapLaws.{IsPageIn, UnmapNamesItsOwn, UnmapSays, UnmapsJoin}
use Rattle.model.proofs.LawfulParts.{lawful_parts}
use Rattle.model.proofs.Isolations.{isolates}
use Rattle.model.proofs.Statuses.{word_has, word_from}
use Rattle.model.proofs.KeptBits.{status_read, number_small}

pub unmap_names_its_own : UnmapNamesItsOwn
unmap_names_its_own space f p = (from, to)
  where
    from : pages_in space f p ≡ true → IsPageIn space f p
    from is =
        let both = and_parts (p.space == space) (is_page_of f p.page) is in
        let range = and_parts (nat_le f.first p.page) (nat_lt p.page (f.first + f.count)) both.1 in
        record { own = eqb-true p.space space both.0; low = leb-true f.first p.page range.0; high = ltb-true p.page (f.first + f.count) range.1 }

    to : IsPageIn space f p → pages_in space f p ≡ true
    to i = and_from _ _ (eq-eqb p.space space i.own) (and_from _ _ (le-leb f.first p.page i.low) (lt-ltb p.page (f.first + f.count) i.high))

same_bits : (a c : ℕ) → c < 8 → (a * 8 + c) / 8 ≡ a
same_bits a c small = omega arith

pub unmap_says : UnmapSays
unmap_says h lawful space f w =
    let l = lawful_parts h lawful in
    let named = pages_in space w.1 in
    let word = strip_word h named in
    record {
      word = with_status w.0 word;
      one = refl;
      same = same_bits (w.0 / 8) (number word) (number_small word);
      status = λ b. (
        λ bit. word_from h l named b (subst (λ r. has r b ≡ true) (status_read w.0 word) bit),
        λ s. subst (λ r. has r b ≡ true) (sym (status_read w.0 word)) (word_has h l named b s),
      );
      left = isolates h l named w.1.rights f;
    }

pub unmaps_join : UnmapsJoin
unmaps_join space f [] vs h = refl
unmaps_join space f (w ∷ ws) vs h =
    let named = pages_in space w.1 in
    let rest = unmaps_join space f ws vs (strip h named w.1.rights f) in
    λ i. record { words = with_status w.0 (strip_word h named) ∷ (rest i).words; left = (rest i).left }
