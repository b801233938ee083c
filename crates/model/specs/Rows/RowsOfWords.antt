-- Worked rows of words: which pages fpages and items name, and what is refused of them.
use Rattle.std.specs.Prelude.{◌≡◌, ℕ, ◌*◌, true, false, [], ◌∷◌, ◌++◌, map, filter, replicate, codes, Ok, Err}
use Rattle.fpage.specs.Rights.{of_bits, number, no_rights, all_rights, meet, join, without, is_empty, is_within}
use Rattle.fpage.specs.Fpage.{read_fpage, is_page, is_page_of}
use Rattle.fpage.specs.Item.{is_item_word, read_item}
use Rattle.fpage.specs.Control.{read_control, with_status, words_named, control_with}
use Rattle.fpage.specs.declared.item.ItemKind.TheVariants.{Map, Grant}
use Rattle.fpage.specs.declared.error.FpageError.TheVariants.{BadSize, Misaligned, OutOfSpace, BadControl}
use Rattle.model.specs.Rows.Rows.{shows, row, row_from, numbers_from, list_same_pairs, fpage, pairs_of_words}

-- the smallest fpage into the complete window
abbrev pub SmallestFpageIntoCompleteWindow : Type 0
SmallestFpageIntoCompleteWindow =
    row
    (codes "send,0,1,10,8,50c6" ∷ [])
    ≡ shows
    (codes "1 send absent=0 norights=0 origin=0 lost=0 extended=0 linked=1" ∷ [])
    (codes "1,0,5,rw-,---,0:5" ∷ [])
    []

-- the send base picks the page of a larger window
abbrev pub SendBasePicksPageOfWindow : Type 0
SendBasePicksPageOfWindow =
    row
    (codes "send,0,1,10,9008,50c7" ∷ [])
    ≡ shows
    (codes "1 send absent=0 norights=0 origin=0 lost=0 extended=0 linked=1" ∷ [])
    (codes "1,9,5,rwx,---,0:5" ∷ [])
    []

-- four pages are cut to a window of one
abbrev pub WindowCutsLargerFpage : Type 0
WindowCutsLargerFpage =
    row
    (codes "send,0,1,80c0,2008,40e7" ∷ [])
    ≡ shows
    (codes "1 send absent=0 norights=0 origin=0 lost=0 extended=0 linked=1" ∷ [])
    (codes "1,8,6,rwx,---,0:6" ∷ [])
    []

-- 32 pages, of which 16 are held
abbrev pub HalfOfPagesHeld : Type 0
HalfOfPagesHeld =
    row
    (codes "send,0,1,10,8,117" ∷ [])
    ≡ shows
    (codes "1 send absent=16 norights=0 origin=0 lost=0 extended=0 linked=16" ∷ [])
    (codes "1,0,0,rwx,---,0:0"
    ∷ codes "1,1,1,rwx,---,0:1"
    ∷ codes "1,2,2,rwx,---,0:2"
    ∷ codes "1,3,3,rwx,---,0:3"
    ∷ codes "1,4,4,rwx,---,0:4"
    ∷ codes "1,5,5,rwx,---,0:5"
    ∷ codes "1,6,6,rwx,---,0:6"
    ∷ codes "1,7,7,rwx,---,0:7"
    ∷ codes "1,8,8,rwx,---,0:8"
    ∷ codes "1,9,9,rwx,---,0:9"
    ∷ codes "1,10,10,rwx,---,0:10"
    ∷ codes "1,11,11,rwx,---,0:11"
    ∷ codes "1,12,12,rwx,---,0:12"
    ∷ codes "1,13,13,rwx,---,0:13"
    ∷ codes "1,14,14,rwx,---,0:14"
    ∷ codes "1,15,15,rwx,---,0:15" ∷ [])
    []

-- the complete space into the complete window
abbrev pub CompleteSpaceSent : Type 0
CompleteSpaceSent =
    row
    (codes "send,0,1,10,8,17" ∷ [])
    ≡ shows
    (codes "1 send absent=48 norights=0 origin=0 lost=0 extended=0 linked=16" ∷ [])
    (codes "1,0,0,rwx,---,0:0"
    ∷ codes "1,1,1,rwx,---,0:1"
    ∷ codes "1,2,2,rwx,---,0:2"
    ∷ codes "1,3,3,rwx,---,0:3"
    ∷ codes "1,4,4,rwx,---,0:4"
    ∷ codes "1,5,5,rwx,---,0:5"
    ∷ codes "1,6,6,rwx,---,0:6"
    ∷ codes "1,7,7,rwx,---,0:7"
    ∷ codes "1,8,8,rwx,---,0:8"
    ∷ codes "1,9,9,rwx,---,0:9"
    ∷ codes "1,10,10,rwx,---,0:10"
    ∷ codes "1,11,11,rwx,---,0:11"
    ∷ codes "1,12,12,rwx,---,0:12"
    ∷ codes "1,13,13,rwx,---,0:13"
    ∷ codes "1,14,14,rwx,---,0:14"
    ∷ codes "1,15,15,rwx,---,0:15" ∷ [])
    []

-- a nilpage has no pairs
abbrev pub NilpageSent : Type 0
NilpageSent =
    row
    (codes "send,0,1,10,8,0" ∷ [])
    ≡ shows
    (codes "1 send absent=0 norights=0 origin=0 lost=0 extended=0 linked=0" ∷ [])
    []
    []

-- 2^63 bytes, aligned or not; s 0 or 1 with a base; s from 2 to 11; the smallest fpage, and one as large as the space
abbrev pub SizesOfWords : Type 0
SizesOfWords =
    row
    (codes "send,0,1,10,8,3f7"
    ∷ codes "send,0,1,10,8,7f7"
    ∷ codes "send,0,1,10,8,407"
    ∷ codes "send,0,1,10,8,417"
    ∷ codes "send,0,1,410,8,c7"
    ∷ codes "unmap,0,0,27"
    ∷ codes "unmap,0,0,b7"
    ∷ codes "unmap,0,0,c0"
    ∷ codes "unmap,0,0,120"
    ∷ codes "unmap,0,0,130"
    ∷ codes "unmap,0,0,fffff0c0" ∷ [])
    ≡ shows
    (codes "1 refused OutOfSpace"
    ∷ codes "2 refused Misaligned"
    ∷ codes "3 refused BadSize"
    ∷ codes "4 refused BadSize"
    ∷ codes "5 refused BadSize"
    ∷ codes "6 refused BadSize"
    ∷ codes "7 refused BadSize"
    ∷ codes "8 unmap 000000c0"
    ∷ codes "9 unmap 00000120"
    ∷ codes "10 refused OutOfSpace"
    ∷ codes "11 refused OutOfSpace" ∷ [])
    []
    []

-- bit 3 of an fpage word, C and bits 4 to 9 of the first word of an item, and the rights of the window
abbrev pub IgnoredBits : Type 0
IgnoredBits =
    row
    (codes "send,0,1,18,93f9,50cf"
    ∷ codes "access,1,9000,w"
    ∷ codes "unmap,0,0,50c8"
    ∷ codes "send,0,2,11,b,70c7" ∷ [])
    ≡ shows
    (codes "1 send absent=0 norights=0 origin=0 lost=0 extended=0 linked=1"
    ∷ codes "2 access ok"
    ∷ codes "3 unmap 000050ce"
    ∷ codes "4 send absent=0 norights=0 origin=0 lost=0 extended=0 linked=1" ∷ [])
    (codes "1,9,5,rwx,---,0:5"
    ∷ codes "2,0,7,rwx,---,-" ∷ [])
    (7 ∷ [])

-- the last digit of the first word of an item is 8 or 9 to map, a or b to grant
abbrev pub FirstWordsOfItems : Type 0
FirstWordsOfItems =
    row
    (codes "send,0,1,c0,0,c7"
    ∷ codes "send,0,1,c0,7,c7"
    ∷ codes "send,0,1,c0,c,c7"
    ∷ codes "send,0,1,c0,f,c7"
    ∷ codes "send,0,1,c0,9,c7"
    ∷ codes "send,0,2,c0,B,C7" ∷ [])
    ≡ shows
    (codes "1 refused NotAnItem"
    ∷ codes "2 refused NotAnItem"
    ∷ codes "3 refused NotAnItem"
    ∷ codes "4 refused NotAnItem"
    ∷ codes "5 send absent=0 norights=0 origin=0 lost=0 extended=0 linked=1"
    ∷ codes "6 send absent=0 norights=0 origin=0 lost=0 extended=0 linked=1" ∷ [])
    (codes "1,0,0,rwx,---,2:0"
    ∷ codes "2,0,0,rwx,---,-" ∷ [])
    (0 ∷ [])

-- two pages in a window of eight; sixteen pages, and the complete space, cut to a window; a send base between pages
abbrev pub BlocksOfLargerSide : Type 0
BlocksOfLargerSide =
    row
    (codes "send,0,1,80f0,5008,40d7"
    ∷ codes "send,0,1,20d0,17008,107"
    ∷ codes "send,0,1,c0,a5008,17"
    ∷ codes "send,0,2,80e0,1ec08,50c7" ∷ [])
    ≡ shows
    (codes "1 send absent=0 norights=0 origin=0 lost=0 extended=0 linked=2"
    ∷ codes "2 send absent=0 norights=0 origin=0 lost=0 extended=0 linked=2"
    ∷ codes "3 send absent=1 norights=0 origin=0 lost=0 extended=0 linked=0"
    ∷ codes "4 send absent=0 norights=0 origin=0 lost=0 extended=0 linked=1" ∷ [])
    (codes "1,2,6,rwx,---,0:6"
    ∷ codes "1,3,7,rwx,---,0:7"
    ∷ codes "1,12,4,rwx,---,0:4"
    ∷ codes "1,13,5,rwx,---,0:5"
    ∷ codes "2,10,5,rwx,---,0:5" ∷ [])
    []

-- the runs that a send works list the pairs of the relation: one size, a larger window, a larger fpage, the complete
-- space on either side, a nilpage
abbrev pub PairsByRuns : Type 0
PairsByRuns =
    map list_same_pairs
    ((0x80e0, 8, 0xe7)
    ∷ (0x80f0, 0x5008, 0x40d7)
    ∷ (0x20d0, 0x17008, 0x107)
    ∷ (0x10, 0x9008, 0x50c7)
    ∷ (0xc0, 0xa5008, 0x17)
    ∷ (0x10, 0x8, 0x0) ∷ [])
    ≡ replicate 6 true

-- a space of 128 pages: its last page, and the first page and byte past it
abbrev pub SpaceOfOddBits : Type 0
SpaceOfOddBits =
    row_from (codes "l4map,1,2,19,1")
    (codes "send,0,1,10,8,17"
    ∷ codes "access,1,0,r"
    ∷ codes "access,1,7ffff,r"
    ∷ codes "access,1,80000,r"
    ∷ codes "unmap,1,0,7f0c0"
    ∷ codes "unmap,1,0,800c0"
    ∷ codes "send,0,1,7f0c0,8,c7"
    ∷ codes "send,0,1,800c0,8,c7"
    ∷ codes "send,0,1,10,8,800c7" ∷ [])
    ≡ shows
    (codes "1 send absent=127 norights=0 origin=0 lost=0 extended=0 linked=1"
    ∷ codes "2 access ok"
    ∷ codes "3 access fault"
    ∷ codes "4 refused OutOfSpace"
    ∷ codes "5 unmap 0007f0c0"
    ∷ codes "6 refused OutOfSpace"
    ∷ codes "7 send absent=0 norights=0 origin=0 lost=0 extended=0 linked=1"
    ∷ codes "8 refused OutOfSpace"
    ∷ codes "9 refused OutOfSpace" ∷ [])
    (codes "1,0,0,rwx,R--,0:0"
    ∷ codes "1,127,0,rwx,---,0:0" ∷ [])
    []

-- each bit of the send base that counts in a window of 4096 pages, and two above that do not
abbrev pub EachBitOfSendBase : Type 0
EachBitOfSendBase =
    row_from (codes "l4map,1,2,24,1")
    (codes "send,0,1,10,1008,c7"
    ∷ codes "send,0,1,10,2008,c7"
    ∷ codes "send,0,1,10,4008,c7"
    ∷ codes "send,0,1,10,8008,c7"
    ∷ codes "send,0,1,10,10008,c7"
    ∷ codes "send,0,1,10,20008,c7"
    ∷ codes "send,0,1,10,40008,c7"
    ∷ codes "send,0,1,10,80008,c7"
    ∷ codes "send,0,1,10,100008,c7"
    ∷ codes "send,0,1,10,200008,c7"
    ∷ codes "send,0,1,10,400008,c7"
    ∷ codes "send,0,1,10,800008,c7"
    ∷ codes "send,0,1,10,1000008,c7"
    ∷ codes "send,0,1,10,80001008,c7" ∷ [])
    ≡ shows
    (codes "1 send absent=0 norights=0 origin=0 lost=0 extended=0 linked=1"
    ∷ codes "2 send absent=0 norights=0 origin=0 lost=0 extended=0 linked=1"
    ∷ codes "3 send absent=0 norights=0 origin=0 lost=0 extended=0 linked=1"
    ∷ codes "4 send absent=0 norights=0 origin=0 lost=0 extended=0 linked=1"
    ∷ codes "5 send absent=0 norights=0 origin=0 lost=0 extended=0 linked=1"
    ∷ codes "6 send absent=0 norights=0 origin=0 lost=0 extended=0 linked=1"
    ∷ codes "7 send absent=0 norights=0 origin=0 lost=0 extended=0 linked=1"
    ∷ codes "8 send absent=0 norights=0 origin=0 lost=0 extended=0 linked=1"
    ∷ codes "9 send absent=0 norights=0 origin=0 lost=0 extended=0 linked=1"
    ∷ codes "10 send absent=0 norights=0 origin=0 lost=0 extended=0 linked=1"
    ∷ codes "11 send absent=0 norights=0 origin=0 lost=0 extended=0 linked=1"
    ∷ codes "12 send absent=0 norights=0 origin=0 lost=0 extended=0 linked=1"
    ∷ codes "13 send absent=0 norights=0 origin=0 lost=0 extended=0 linked=1"
    ∷ codes "14 send absent=0 norights=0 origin=0 lost=0 extended=1 linked=0" ∷ [])
    (codes "1,0,0,rwx,---,0:0"
    ∷ codes "1,1,0,rwx,---,0:0"
    ∷ codes "1,2,0,rwx,---,0:0"
    ∷ codes "1,4,0,rwx,---,0:0"
    ∷ codes "1,8,0,rwx,---,0:0"
    ∷ codes "1,16,0,rwx,---,0:0"
    ∷ codes "1,32,0,rwx,---,0:0"
    ∷ codes "1,64,0,rwx,---,0:0"
    ∷ codes "1,128,0,rwx,---,0:0"
    ∷ codes "1,256,0,rwx,---,0:0"
    ∷ codes "1,512,0,rwx,---,0:0"
    ∷ codes "1,1024,0,rwx,---,0:0"
    ∷ codes "1,2048,0,rwx,---,0:0" ∷ [])
    []

-- the send base picks the source in a larger fpage of a window of one page: in 4 pages, and in 8 pages from page 8 on
abbrev pub SendBasePicksSources : Type 0
SendBasePicksSources =
    row
    (codes "send,0,1,c0,3008,e7"
    ∷ codes "send,0,1,10c0,5008,80f7"
    ∷ codes "send,0,1,20c0,d008,80f7" ∷ [])
    ≡ shows
    (codes "1 send absent=0 norights=0 origin=0 lost=0 extended=0 linked=1"
    ∷ codes "2 send absent=0 norights=0 origin=0 lost=0 extended=0 linked=1"
    ∷ codes "3 send absent=0 norights=0 origin=0 lost=0 extended=0 linked=1" ∷ [])
    (codes "1,0,3,rwx,---,0:3"
    ∷ codes "1,1,13,rwx,---,0:13"
    ∷ codes "1,2,13,rwx,---,0:13" ∷ [])
    []

-- of words with a base the size alone says how many pages there are
abbrev pub SizeSpellsNoOtherPages : Type 0
SizeSpellsNoOtherPages =
    row
    (codes "send,0,1,d0,8,20d7"
    ∷ codes "send,0,2,40e0,8,80e6" ∷ [])
    ≡ shows
    (codes "1 send absent=0 norights=0 origin=0 lost=0 extended=0 linked=2"
    ∷ codes "2 send absent=0 norights=0 origin=0 lost=0 extended=0 linked=4" ∷ [])
    (codes "1,0,2,rwx,---,0:2"
    ∷ codes "1,1,3,rwx,---,0:3"
    ∷ codes "2,4,8,rw-,---,0:8"
    ∷ codes "2,5,9,rw-,---,0:9"
    ∷ codes "2,6,10,rw-,---,0:10"
    ∷ codes "2,7,11,rw-,---,0:11" ∷ [])
    []

-- s from 2 to 11, without a base and with one that is no multiple, or past the space
abbrev pub SizesBelowAPage : Type 0
SizesBelowAPage =
    map (λ word. read_fpage 18 word)
    (0x20 ∷ 0x30 ∷ 0x40 ∷ 0x50 ∷ 0x60 ∷ 0x70 ∷ 0x80 ∷ 0x90 ∷ 0xa0 ∷ 0xb0 ∷ 0x4b7 ∷ 0x400b7 ∷ 0xfffffcb0 ∷ [])
    ≡ replicate 13 (Err BadSize)

-- s = 0 and s = 1 with a base of each of its bits
abbrev pub BasesWithoutSize : Type 0
BasesWithoutSize =
    map (λ base. read_fpage 18 base)
    (0x400 ∷ 0x800 ∷ 0x1000 ∷ 0x40000 ∷ 0x80000000 ∷ 0x410 ∷ 0x810 ∷ 0x1010 ∷ 0x40010 ∷ 0x80000010 ∷ [])
    ≡ replicate 10 (Err BadSize)

-- s from 12 to 18, the whole space
abbrev pub SizesFromAPage : Type 0
SizesFromAPage =
    map (λ word. read_fpage 18 word)
    (0xc0 ∷ 0xd1 ∷ 0xe2 ∷ 0xf3 ∷ 0x104 ∷ 0x115 ∷ 0x126 ∷ [])
    ≡ fpage 0 1 0 ∷ fpage 0 2 1 ∷ fpage 0 4 2 ∷ fpage 0 8 3 ∷ fpage 0 16 4 ∷ fpage 0 32 5 ∷ fpage 0 64 6 ∷ []

-- s from 19 to 63: each is more than 2^18 bytes
abbrev pub SizesPastTheSpace : Type 0
SizesPastTheSpace = map (λ s. read_fpage 18 (16 * s)) (numbers_from 19 45) ≡ replicate 45 (Err OutOfSpace)

-- one page from a base of each bit from 18 to 31, and two pages of which the second is past the space
abbrev pub BasesPastTheSpace : Type 0
BasesPastTheSpace =
    map (λ word. read_fpage 18 word)
    (0x400c0 ∷ 0x800c0 ∷ 0x1000c0 ∷ 0x2000c0 ∷ 0x4000c0 ∷ 0x8000c0 ∷ 0x10000c0 ∷ 0x20000c0 ∷ 0x40000c0 ∷ 0x80000c0
    ∷ 0x100000c0 ∷ 0x200000c0 ∷ 0x400000c0 ∷ 0x800000c0 ∷ 0x400d0 ∷ 0x40120 ∷ [])
    ≡ replicate 16 (Err OutOfSpace)

-- a base that is no multiple of the size: by 1024 and 2048 bytes, and by half of the size; past the space too
abbrev pub BasesBetweenPages : Type 0
BasesBetweenPages =
    map (λ word. read_fpage 18 word)
    (0x4c0 ∷ 0x8c0 ∷ 0x10d0 ∷ 0x20e0 ∷ 0x40f0 ∷ 0x8100 ∷ 0x10110 ∷ 0x20120 ∷ 0x404c0 ∷ 0xfffffcc0 ∷ [])
    ≡ replicate 10 (Err Misaligned)

-- the last page of a space of each size
abbrev pub LastPagesOfSpaces : Type 0
LastPagesOfSpaces =
    (read_fpage 18 0x3f0c7 ∷ read_fpage 19 0x7f0c7 ∷ read_fpage 20 0xff0c7 ∷ read_fpage 21 0x1ff0c7
    ∷ read_fpage 22 0x3ff0c7 ∷ read_fpage 23 0x7ff0c7 ∷ read_fpage 24 0xfff0c7 ∷ [])
    ≡ fpage 63 1 7 ∷ fpage 127 1 7 ∷ fpage 255 1 7 ∷ fpage 511 1 7 ∷ fpage 1023 1 7 ∷ fpage 2047 1 7 ∷ fpage 4095 1 7 ∷ []

-- the first page past a space of each size
abbrev pub PagesPastSpaces : Type 0
PagesPastSpaces =
    (read_fpage 18 0x400c7 ∷ read_fpage 19 0x800c7 ∷ read_fpage 20 0x1000c7 ∷ read_fpage 21 0x2000c7
    ∷ read_fpage 22 0x4000c7 ∷ read_fpage 23 0x8000c7 ∷ read_fpage 24 0x10000c7 ∷ [])
    ≡ replicate 7 (Err OutOfSpace)

-- the complete space of each size, by s = 1; bit 3 counts for nothing
abbrev pub CompleteSpaces : Type 0
CompleteSpaces =
    map (λ bits. read_fpage bits 0x1d) (numbers_from 18 7)
    ≡ fpage 0 64 5 ∷ fpage 0 128 5 ∷ fpage 0 256 5 ∷ fpage 0 512 5 ∷ fpage 0 1024 5 ∷ fpage 0 2048 5 ∷ fpage 0 4096 5 ∷ []

-- nilpages have no pages, whatever their rights are and bit 3 is
abbrev pub Nilpages : Type 0
Nilpages = map (λ word. read_fpage 18 word) (0x0 ∷ 0x4 ∷ 0x7 ∷ 0x8 ∷ 0xf ∷ []) ≡ fpage 0 0 0 ∷ fpage 0 0 4 ∷ fpage 0 0 7 ∷ fpage 0 0 0 ∷ fpage 0 0 7 ∷ []

-- which of the first 70 pages a word names: one page, four, the complete space by s = 1 and by its size, the nilpage, the
-- first two pages, the last one
abbrev pub PagesOfWords : Type 0
PagesOfWords =
    map (λ word. filter (λ page. is_page 18 word page) (numbers_from 0 70))
    (0x50c6 ∷ 0x40e7 ∷ 0x1f ∷ 0x120 ∷ 0x7 ∷ 0xd0 ∷ 0x3f0c0 ∷ [])
    ≡ (5 ∷ []) ∷ (4 ∷ 5 ∷ 6 ∷ 7 ∷ []) ∷ numbers_from 0 64 ∷ numbers_from 0 64 ∷ [] ∷ (0 ∷ 1 ∷ []) ∷ (63 ∷ []) ∷ []

-- which of the first 10 pages an fpage has
abbrev pub PagesOfFpages : Type 0
PagesOfFpages =
    map (λ first. filter (λ page. is_page_of (record { first = first; count = 4; rights = no_rights }) page) (numbers_from 0 10)) (0 ∷ 4 ∷ 8 ∷ [])
    ≡ (0 ∷ 1 ∷ 2 ∷ 3 ∷ []) ∷ (4 ∷ 5 ∷ 6 ∷ 7 ∷ []) ∷ (8 ∷ 9 ∷ []) ∷ []

-- r is 4, w is 2, x is 1; no other bit counts
abbrev pub SetsByNumber : Type 0
SetsByNumber =
    (number all_rights ∷ number no_rights ∷ map (λ word. number (of_bits word)) (numbers_from 0 16 ++ 0x50c6 ∷ []))
    ≡ 7 ∷ 0 ∷ numbers_from 0 8 ++ numbers_from 0 8 ++ 6 ∷ []

-- one bit for each right
abbrev pub BitsOfRights : Type 0
BitsOfRights =
    map of_bits (4 ∷ 2 ∷ 1 ∷ [])
    ≡ record { read = true; write = false; execute = false }
    ∷ record { read = false; write = true; execute = false }
    ∷ record { read = false; write = false; execute = true } ∷ []

-- what is in both of two sets
abbrev pub SetsMet : Type 0
SetsMet =
    map (λ (sets : ℕ × ℕ). number (meet (of_bits sets.0) (of_bits sets.1)))
    ((6, 3) ∷ (5, 6) ∷ (5, 3) ∷ (7, 7) ∷ (4, 3) ∷ (7, 4) ∷ (2, 7) ∷ (1, 7) ∷ (7, 0) ∷ [])
    ≡ 2 ∷ 4 ∷ 1 ∷ 7 ∷ 0 ∷ 4 ∷ 2 ∷ 1 ∷ 0 ∷ []

-- what is in either of two sets
abbrev pub SetsJoined : Type 0
SetsJoined =
    map (λ (sets : ℕ × ℕ). number (join (of_bits sets.0) (of_bits sets.1)))
    ((4, 1) ∷ (2, 4) ∷ (1, 2) ∷ (0, 0) ∷ (6, 3) ∷ (0, 4) ∷ (0, 2) ∷ (0, 1) ∷ (5, 0) ∷ [])
    ≡ 5 ∷ 6 ∷ 3 ∷ 0 ∷ 7 ∷ 4 ∷ 2 ∷ 1 ∷ 5 ∷ []

-- what is in the first of two sets alone
abbrev pub SetsWithout : Type 0
SetsWithout =
    map (λ (sets : ℕ × ℕ). number (without (of_bits sets.0) (of_bits sets.1)))
    ((7, 2) ∷ (5, 6) ∷ (6, 4) ∷ (3, 1) ∷ (7, 7) ∷ (4, 3) ∷ (0, 7) ∷ (7, 4) ∷ (7, 1) ∷ (5, 1) ∷ [])
    ≡ 5 ∷ 1 ∷ 2 ∷ 2 ∷ 0 ∷ 4 ∷ 0 ∷ 3 ∷ 6 ∷ 4 ∷ []

-- whether a set is empty, and whether it is within another
abbrev pub SetsWithin : Type 0
SetsWithin =
    map (λ set. is_empty (of_bits set)) (0 ∷ 1 ∷ 2 ∷ 4 ∷ 7 ∷ [])
    ++ map (λ (sets : ℕ × ℕ). is_within (of_bits sets.0) (of_bits sets.1)) ((0, 0) ∷ (4, 6) ∷ (2, 3) ∷ (5, 5) ∷ (6, 4) ∷ (1, 6) ∷ (7, 0) ∷ [])
    ≡ true ∷ false ∷ false ∷ false ∷ false ∷ true ∷ true ∷ true ∷ true ∷ false ∷ false ∷ false ∷ []

-- kind, page of the send base, and fpage of the items of two words
abbrev pub ItemsOfWords : Type 0
ItemsOfWords =
    (read_item 18 0x9008 0x50c6 ∷ read_item 18 0xfffff00a 0x40e7 ∷ read_item 18 0x1fff9 0x7 ∷ [])
    ≡ Ok (record { kind = Map; base = 9; sent = record { first = 5; count = 1; rights = of_bits 6 } })
    ∷ Ok (record { kind = Grant; base = 0xfffff; sent = record { first = 4; count = 4; rights = of_bits 7 } })
    ∷ Ok (record { kind = Map; base = 0x1f; sent = record { first = 0; count = 0; rights = of_bits 7 } }) ∷ []

-- whether a first word of each last digit is an item
abbrev pub LastDigitsOfItems : Type 0
LastDigitsOfItems =
    map is_item_word (numbers_from 0 16)
    ≡ replicate 8 false ++ true ∷ true ∷ true ∷ true ∷ replicate 4 false

-- a control word comes with k + 1 words, and bit 6 tells whether it flushes
abbrev pub ControlWordsTaken : Type 0
ControlWordsTaken =
    map (λ (e : ℕ × ℕ). read_control e.0 e.1) ((0, 1) ∷ (1, 2) ∷ (0x3f, 64) ∷ (0x40, 1) ∷ (0x41, 2) ∷ (0x60, 33) ∷ (0x7f, 64) ∷ [])
    ≡ Ok false ∷ Ok false ∷ Ok false ∷ Ok true ∷ Ok true ∷ Ok true ∷ Ok true ∷ []

-- another number of words than k + 1
abbrev pub NumbersOfControlWords : Type 0
NumbersOfControlWords =
    map (λ (e : ℕ × ℕ). read_control e.0 e.1) ((0, 0) ∷ (0, 2) ∷ (1, 1) ∷ (0x1f, 64) ∷ (0x3f, 0) ∷ (0x3f, 63) ∷ (0x3f, 65) ∷ (0x41, 1) ∷ (0, 65) ∷ [])
    ≡ replicate 9 (Err BadControl)

-- each bit from 7 to 31, alone, and all bits
abbrev pub BitsOfControlWords : Type 0
BitsOfControlWords =
    map (λ control. read_control control 1)
    (0x80 ∷ 0x100 ∷ 0x200 ∷ 0x400 ∷ 0x800 ∷ 0x1000 ∷ 0x2000 ∷ 0x4000 ∷ 0x8000 ∷ 0x10000 ∷ 0x20000 ∷ 0x40000 ∷ 0x80000
    ∷ 0x100000 ∷ 0x200000 ∷ 0x400000 ∷ 0x800000 ∷ 0x1000000 ∷ 0x2000000 ∷ 0x4000000 ∷ 0x8000000 ∷ 0x10000000
    ∷ 0x20000000 ∷ 0x40000000 ∷ 0x80000000 ∷ 0xffffffc0 ∷ [])
    ≡ replicate 26 (Err BadControl)

-- what a control word tells: whether it flushes, and how many words it names
abbrev pub ControlWordsTold : Type 0
ControlWordsTold =
    map (λ control. control_with (words_named control) (read_control control 2)) (1 ∷ 0x41 ∷ 0 ∷ [])
    ≡ Ok (record { flush = false; words = 2 }) ∷ Ok (record { flush = true; words = 2 }) ∷ Err BadControl ∷ []

-- status in place of the rights, all other bits as given
abbrev pub StatusInPlaceOfRights : Type 0
StatusInPlaceOfRights =
    map (λ (e : ℕ × ℕ). with_status e.0 (of_bits e.1)) ((0x50c7, 6) ∷ (0x50c2, 6) ∷ (0xffffffff, 0) ∷ (0xfffffff8, 7) ∷ (0x10, 5) ∷ (0x50cf, 1) ∷ (0, 4) ∷ [])
    ≡ 0x50c6 ∷ 0x50c6 ∷ 0xfffffff8 ∷ 0xffffffff ∷ 0x15 ∷ 0x50c9 ∷ 4 ∷ []

-- the pairs of pages by the relation: two pages in a window of eight, eight pages in a window of two
abbrev pub PairsOfBlocks : Type 0
PairsOfBlocks =
    (pairs_of_words 0x80f0 0x5008 0x40d7 ∷ pairs_of_words 0x20d0 0xf008 0x80f7 ∷ pairs_of_words 0xd0 0x8 0xd7 ∷ pairs_of_words 0xd0 0x8 0x7 ∷ [])
    ≡ ((4, 12) ∷ (5, 13) ∷ []) ∷ ((14, 2) ∷ (15, 3) ∷ []) ∷ ((0, 0) ∷ (1, 1) ∷ []) ∷ [] ∷ []
