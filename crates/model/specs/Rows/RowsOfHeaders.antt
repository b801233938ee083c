-- Worked rows of headers: their form and their limits.
use Rattle.std.specs.Prelude.{◌≡◌, [], ◌∷◌, ◌++◌, map, replicate, codes, Err}
use Rattle.model.specs.Definitions.Records.{bad_header, bad_limits}
use Rattle.model.specs.Rows.Rows.{header, limits}

-- both versions, numbers at the ends of their limits, leading zeros, quotes, line ends, empty lines, a byte order mark
abbrev pub HeadersOfRightForm : Type 0
HeadersOfRightForm =
    map header
    (codes "l4map,1,2,18,1"
    ∷ codes "l4map,1,512,24,4096"
    ∷ codes "l4map,1,0000002,0000018,0000064"
    ∷ codes "l4map,2,2,18,1"
    ∷ codes "l4map,2,512,32,4097"
    ∷ codes "\"l4map\",\"1\",\"2\",\"18\",\"1\""
    ∷ (codes "l4map,1,2,18,1" ++ 13 ∷ 10 ∷ [])
    ∷ (10 ∷ 13 ∷ 10 ∷ codes "l4map,1,2,18,1")
    ∷ (239 ∷ 187 ∷ 191 ∷ codes "l4map,1,2,18,1") ∷ [])
    ≡ limits 2 18 1 ∷ limits 512 24 4096 ∷ limits 2 18 64 ∷ limits 2 18 1 ∷ limits 512 32 4097 ∷ replicate 4 (limits 2 18 1)

-- no record at all, a record of two quotes, another form, another form and bad limits
abbrev pub HeadersOfWrongForm : Type 0
HeadersOfWrongForm =
    map header
    (codes "l4map,01,2,18,1"
    ∷ codes "l4map,3,2,18,1"
    ∷ codes "l4map,02,2,18,1"
    ∷ codes "L4map,2,2,18,1"
    ∷ codes "L4map,1,2,18,1"
    ∷ codes "l4map,1,2,18"
    ∷ codes "l4map,1,2,18,1,"
    ∷ codes "l4map,1,00000002,18,1"
    ∷ codes "l4map,1,,18,1"
    ∷ codes "l4map,1,+2,18,1"
    ∷ codes "l4map,1,2, 18,1"
    ∷ codes "l4map,1,a,18,1"
    ∷ codes "send,0,1,c0,8,c7"
    ∷ codes "l4map,01,0,0,0"
    ∷ codes "l4map,3,0,0,0"
    ∷ []
    ∷ (10 ∷ 13 ∷ [])
    ∷ (34 ∷ 34 ∷ 10 ∷ codes "l4map,1,2,18,1") ∷ [])
    ≡ replicate 18 (Err bad_header)

-- each limit passed by one, and all
abbrev pub LimitsPassed : Type 0
LimitsPassed =
    map header
    (codes "l4map,1,1,18,1"
    ∷ codes "l4map,1,513,18,1"
    ∷ codes "l4map,1,2,17,1"
    ∷ codes "l4map,1,2,33,1"
    ∷ codes "l4map,1,2,18,0"
    ∷ codes "l4map,1,2,18,65"
    ∷ codes "l4map,1,2,32,1048577"
    ∷ codes "l4map,1,0,0,0"
    ∷ codes "l4map,1,9999999,9999999,9999999"
    ∷ codes "l4map,2,1,18,1"
    ∷ codes "l4map,2,0,0,0" ∷ [])
    ≡ replicate 11 (Err bad_limits)

-- the most frames of spaces of each size
abbrev pub BitsOfHeaders : Type 0
BitsOfHeaders =
    map header
    (codes "l4map,1,3,18,64"
    ∷ codes "l4map,1,10,19,128"
    ∷ codes "l4map,1,100,20,256"
    ∷ codes "l4map,1,511,21,512"
    ∷ codes "l4map,1,2,22,1024"
    ∷ codes "l4map,1,2,23,2048"
    ∷ codes "l4map,1,2,24,4096"
    ∷ codes "l4map,1,2,25,8192"
    ∷ codes "l4map,1,2,28,65536"
    ∷ codes "l4map,1,2,31,524288"
    ∷ codes "l4map,1,512,32,1048576" ∷ [])
    ≡ limits 3 18 64 ∷ limits 10 19 128 ∷ limits 100 20 256 ∷ limits 511 21 512 ∷ limits 2 22 1024 ∷ limits 2 23 2048
    ∷ limits 2 24 4096 ∷ limits 2 25 8192 ∷ limits 2 28 65536 ∷ limits 2 31 524288 ∷ limits 512 32 1048576 ∷ []

-- one frame more than a space of each size has pages
abbrev pub FramesPastSpaces : Type 0
FramesPastSpaces =
    map header
    (codes "l4map,1,3,18,65"
    ∷ codes "l4map,1,3,19,129"
    ∷ codes "l4map,1,3,20,257"
    ∷ codes "l4map,1,3,21,513"
    ∷ codes "l4map,1,3,22,1025"
    ∷ codes "l4map,1,3,23,2049"
    ∷ codes "l4map,1,3,24,4097"
    ∷ codes "l4map,1,3,25,8193"
    ∷ codes "l4map,1,3,31,524289"
    ∷ codes "l4map,1,3,32,1048577" ∷ [])
    ≡ replicate 10 (Err bad_limits)

-- each field of another form: too many digits, none, a byte that is no digit, another name or version, a field more
abbrev pub FieldsOfHeaders : Type 0
FieldsOfHeaders =
    map header
    (codes "l4map,1,2,00000018,1"
    ∷ codes "l4map,1,2,18,00000001"
    ∷ codes "l4map,1,2,,1"
    ∷ codes "l4map,1,2,18,"
    ∷ codes "l4map,1,:,18,1"
    ∷ codes "l4map,1,2,1:,1"
    ∷ codes "l4map,1,2,18,/"
    ∷ codes "l4map,1,2,18,a"
    ∷ codes "l4map,,2,18,1"
    ∷ codes "l4map,11,2,18,1"
    ∷ codes "l4map,0,2,18,1"
    ∷ codes ",1,2,18,1"
    ∷ codes "l4maps,1,2,18,1"
    ∷ codes "l4ma,1,2,18,1"
    ∷ codes "l4map,1,2,18,1,1"
    ∷ codes "l4map,1" ∷ [])
    ≡ replicate 16 (Err bad_header)
