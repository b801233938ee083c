-- What the entry word keeps: the laws that steps on words rest on.
use Rattle.std.specs.Prelude.{◌≡◌, ◌≢◌, ℕ, ◌*◌, ◌/◌, ◌%◌, ◌^◌, ◌<◌, ◌↔◌, IsTrue, Option, Some, None, bit_or}
use Rattle.std.specs.Option.{option_map}
use Rattle.fpage.specs.Rights.{number}
use Rattle.fpage.specs.declared.rights.Rights.{Rights}
use Rattle.space.specs.declared.place.Entry.{Entry}
use Rattle.space.specs.Word.{word_of, entry_of, is_pack, FrameFits, marked}

-- what is packed is a pack, and unpacks to what it was
abbrev pub UnpackGivesBack : Type 0
UnpackGivesBack = (entry : Option Entry) → FrameFits entry → IsTrue (is_pack (word_of entry)) × (entry_of (word_of entry) ≡ entry)

-- what is unpacked can be packed, and packs to the word that it was
abbrev pub PackGivesBack : Type 0
PackGivesBack = (word : ℕ) → IsTrue (is_pack word) → FrameFits (entry_of word) × (word_of (entry_of word) ≡ word)

-- distinct entries have distinct words
abbrev pub WordsAreDistinct : Type 0
WordsAreDistinct = (a b : Option Entry) → FrameFits a → FrameFits b → word_of a ≡ word_of b → a ≡ b

-- 0 is the word of nothing and of nothing else
abbrev pub AbsentIsZero : Type 0
AbsentIsZero = (entry : Option Entry) → (word_of entry ≡ 0) ↔ (entry ≡ None)

-- a word fits 33 bits
abbrev pub WordFits : Type 0
WordFits = (entry : Option Entry) → FrameFits entry → word_of entry < 2 ^ 33

-- the rights of an entry are bits 0 to 2 of its word, the status bits 3 to 5, and the frame bits 8 to 31
abbrev pub FieldsOfWord : Type 0
FieldsOfWord =
    (e : Entry) → e.frame < 2 ^ 24 → let word = word_of (Some e) in
    (word % 2 ^ 3 ≡ number e.rights) × (word / 2 ^ 3 % 2 ^ 3 ≡ number e.status) × (word / 2 ^ 8 % 2 ^ 24 ≡ e.frame)

-- "or" with status bits gives the word of the entry with that status joined, and nothing else changed
abbrev pub OrAddsStatus : Type 0
OrAddsStatus = (e : Entry) (status : Rights) → bit_or (word_of (Some e)) (2 ^ 3 * number status) ≡ word_of (Some (marked e status))

-- the same of a pack that is not 0
abbrev pub PackGainsStatus : Type 0
PackGainsStatus =
    (word : ℕ) (status : Rights) → IsTrue (is_pack word) → word ≢ 0 → let after = bit_or word (2 ^ 3 * number status) in
    IsTrue (is_pack after) × (after ≢ 0) × (entry_of after ≡ option_map (λ e. marked e status) (entry_of word))
