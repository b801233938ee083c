-- The entry word: what stands at a page, in one number (profile).
use Rattle.std.specs.Prelude.{ℕ, ◌+◌, ◌*◌, ◌/◌, ◌%◌, ◌^◌, ◌<◌, ◌==◌, ◌&&◌, ◌||◌, Bool, if◌then◌else◌, Option, Some, None}
use Rattle.std.specs.Option.{ForSome}
use Rattle.fpage.specs.Rights.{number, of_bits, join}
use Rattle.fpage.specs.declared.rights.Rights.{Rights}
use Rattle.space.specs.declared.place.Entry.{Entry}

-- the word of what stands at a page: rights in bits 0 to 2, status in bits 3 to 5, frame from bit 8 on, and bit 32; of
-- nothing it is 0
abbrev pub word_of : Option Entry → ℕ
word_of None = 0
word_of (Some e) = 2 ^ 32 + 2 ^ 8 * e.frame + 2 ^ 3 * number e.status + number e.rights

-- what a word says stands at its page
abbrev pub entry_of : ℕ → Option Entry
entry_of word =
    if word == 0 then None
    else Some (record { frame = word / 2 ^ 8 % 2 ^ 24; rights = of_bits (word % 2 ^ 3); status = of_bits (word / 2 ^ 3 % 2 ^ 3) })

-- whether a word is a pack: 0, or bit 32 is its highest and bits 6 and 7 are clear
abbrev pub is_pack : ℕ → Bool
is_pack word = (word == 0) || ((word / 2 ^ 32 == 1) && (word / 2 ^ 6 % 2 ^ 2 == 0))

-- the frame, if there is one, has room in bits 8 to 31
abbrev pub FrameFits : Option Entry → Type 0
FrameFits entry = ForSome entry (λ e. e.frame < 2 ^ 24)

-- an entry with more status
abbrev pub marked : Entry → Rights → Entry
marked e status = record e { status = join e.status status }
