-- MapItem and GrantItem, and which page of an item goes to which (L4 X.2, MapItem, GrantItem).
use Rattle.std.specs.Prelude.{ℕ, ◌+◌, ◌-◌, ◌*◌, ◌/◌, ◌%◌, ◌==◌, ◌&&◌, ◌||◌, nat_lt, nat_le, min, Bool, not, if◌then◌else◌, Result, Ok, Err}
use Rattle.fpage.specs.Fpage.{Flexpage, read_fpage, is_page_of}
use Rattle.fpage.specs.declared.item.Item.{Item}
use Rattle.fpage.specs.declared.item.ItemKind.{ItemKind}
use Rattle.fpage.specs.declared.item.ItemKind.TheVariants.{Map, Grant}
use Rattle.fpage.specs.declared.pairing.Pairing.{Pairing}
use Rattle.fpage.specs.declared.error.FpageError.{FpageError}
use Rattle.fpage.specs.declared.error.FpageError.TheVariants.{NotAnItem}

-- bits 3 to 0 of the first word are 1 0 0 C for a MapItem and 1 0 1 C for a GrantItem; C and bits 4 to 9 are ignored
-- (profile)
abbrev pub is_item_word : ℕ → Bool
is_item_word word = (word / 8 % 2 == 1) && (word / 4 % 2 == 0)

-- whether it maps or grants
abbrev pub kind_of : ℕ → ItemKind
kind_of word = if word / 2 % 2 == 1 then Grant else Map

-- an item of its first word and its send fpage
abbrev pub item_with : ℕ → Result Flexpage FpageError → Result Item FpageError
item_with word (Ok sent) = Ok (record { kind = kind_of word; base = word / 4096; sent = sent })
item_with word (Err e) = Err e

-- the item of two words, or the first refusal that fits
abbrev pub read_item : ℕ → ℕ → ℕ → Result Item FpageError
read_item bits first second = if is_item_word first then item_with first (read_fpage bits second) else Err NotAnItem

-- which block of n pages of an fpage the send base picks, counted from the fpage's first page
abbrev pub block_of : ℕ → Flexpage → ℕ → ℕ
block_of base f n = base % f.count / n

-- where an fpage is larger than n pages: the page lies in the block of it that the send base picks
abbrev pub is_in_block : ℕ → Flexpage → ℕ → ℕ → Bool
is_in_block base f n g = not (nat_lt n f.count) || ((g - f.first) / n == block_of base f n)

-- source page p goes to target page q: the same place modulo the smaller size, and, where one fpage is larger,
-- in the block of it that the send base picks, rounded down to a whole block (MapItem; the rounding: profile). A nilpage
-- has no pages, hence no pairs
abbrev pub is_pair : Item → Flexpage → ℕ → ℕ → Bool
is_pair item window p q =
    let n = min item.sent.count window.count in
    is_page_of item.sent p && is_page_of window q && (p % n == q % n)
    && is_in_block item.base item.sent n p && is_in_block item.base window n q

-- the run of n pages of an fpage that the send base picks: all of it, where n is its size
abbrev pub run_start : ℕ → Flexpage → ℕ → ℕ
run_start base f n = if nat_lt n f.count then f.first + n * block_of base f n else f.first

-- the pairs of an item and a window
abbrev pub pairs_of : Item → Flexpage → Pairing
pairs_of item window =
    let n = min item.sent.count window.count in
    record { source = run_start item.base item.sent n; target = run_start item.base window n; count = n }

-- the pairs that two runs list
abbrev pub is_pair_of : Pairing → ℕ → ℕ → Bool
is_pair_of runs p q = nat_le runs.source p && nat_lt p (runs.source + runs.count) && (p + runs.target == q + runs.source)
