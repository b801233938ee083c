-- A word becomes another pack.
use Rattle.std.proofs.Common.{◌≡◌, refl, true}
use Rattle.std.proofs.lemmas.List.Elements.{All-set}
use Rattle.space.specs.Word.{is_pack}
use Rattle.page_tests.proofs.entries.goes_round.Goals as goal

pub put_words-requires-clause-packs : goal.put_words-requires-clause-packs
put_words-requires-clause-packs g c = All-set (λ w. is_pack w ≡ true) _ _ _ refl c.take_words-words.ensures.packs
