-- The bytes of a trace: its header, and what each of its records asks for (docs/FORMATS.md).
use Rattle.std.specs.Prelude.{ℕ, ◌+◌, ◌-◌, ◌*◌, ◌/◌, ◌%◌, ◌^◌, ◌==◌, nat_lt, nat_le, ◌&&◌, not, Bool, true, false, List, [], ◌∷◌, map, length, codes, Option, Some, None, Result, Ok, Err, if◌then◌else◌}
use Rattle.std.specs.Str.{bytes_eq}
use Rattle.csv.specs.Reading.{default_config, strip_bom, records}
use Rattle.fpage.specs.Fpage.{Flexpage, read_fpage, pages_of_space}
use Rattle.fpage.specs.Item.{read_item}
use Rattle.fpage.specs.Control.{read_control}
use Rattle.fpage.specs.declared.rights.Access.{Access}
use Rattle.fpage.specs.declared.rights.Access.TheVariants as kind
use Rattle.fpage.specs.declared.item.Item.{Item}
use Rattle.fpage.specs.declared.error.FpageError.{FpageError}
use Rattle.model.specs.Definitions.Calls.{Limits, send, access, unmap, clear, Named, refusal_of, out_of_space, no_such_space, bad_record, Request}

-- a record: its fields, each of any bytes
abbrev pub Fields : Type 0
Fields = List (List ℕ)

-- the value of the first, if there is one, for the second
infixl 10 ◌>>=◌
abbrev pub ◌>>=◌ : {A B : Type 0} → Option A → (A → Option B) → Option B
None >>= f = None
(Some x) >>= f = f x

-- ---- numbers

-- a hexadecimal digit, in either case
abbrev pub hex_digit : ℕ → Option ℕ
hex_digit c =
    if nat_le 48 c && nat_le c 57 then Some (c - 48)
    else if nat_le 97 c && nat_le c 102 then Some (c - 87)
    else if nat_le 65 c && nat_le c 70 then Some (c - 55)
    else None

-- a digit of a base up to 16
abbrev pub digit_in : ℕ → ℕ → Option ℕ
digit_in base c = do
  d ← hex_digit c
  if nat_lt d base then Some d else None

-- the number that digits of a base spell, if each is one
abbrev pub value_of : ℕ → List ℕ → Option ℕ
value_of base [] = Some 0
value_of base (c ∷ cs) = do
  d ← digit_in base c
  rest ← value_of base cs
  Some (d * base ^ length cs + rest)

-- the number of a field of 1 to so many digits
abbrev pub number_field : ℕ → ℕ → List ℕ → Option ℕ
number_field base most field = if nat_lt 0 (length field) && nat_le (length field) most then value_of base field else None

-- an fpage word, an item word, a control word or an address: 1 to 8 hexadecimal digits
abbrev pub word_field : List ℕ → Option ℕ
word_field = number_field 16 8

-- a space: 1 to 5 decimal digits, at most 65535
abbrev pub space_field : List ℕ → Option ℕ
space_field field = do
  space ← number_field 10 5 field
  if nat_le space 65535 then Some space else None

-- r, w or x
abbrev pub kind_field : List ℕ → Option Access
kind_field field =
    if bytes_eq field (codes "r") then Some kind.Read
    else if bytes_eq field (codes "w") then Some kind.Write
    else if bytes_eq field (codes "x") then Some kind.Execute
    else None

-- ---- the header

-- why a header is refused
pub data HeaderFault : Type 0 where
  bad_header : HeaderFault
  bad_limits : HeaderFault

-- which version of the format a trace has
pub data Version : Type 0 where
  one : Version
  two : Version

-- 1 or 2
abbrev pub version_field : List ℕ → Option Version
version_field field =
    if bytes_eq field (codes "1") then Some one
    else if bytes_eq field (codes "2") then Some two
    else None

-- what a header names: the version of its trace, and the limits
pub record Header : Type 0 where
  pub version : Version
  pub limits : Limits

-- what a header of the right form names
abbrev pub header_fields : Fields → Option Header
header_fields (name ∷ version ∷ spaces ∷ bits ∷ frames ∷ []) = do
  version ← version_field version
  spaces ← number_field 10 7 spaces
  bits ← number_field 10 7 bits
  frames ← number_field 10 7 frames
  if bytes_eq name (codes "l4map")
      then Some (record { version = version; limits = record { spaces = spaces; bits = bits; frames = frames } }) else None
header_fields _ = None

-- 2 to 512 spaces, of 64 to 1,048,576 pages; 1 frame to as many as a space has pages (profile)
abbrev pub are_limits : Limits → Bool
are_limits l =
    nat_le 2 l.spaces && nat_le l.spaces 512 && nat_le 18 l.bits && nat_le l.bits 32
    && nat_le 1 l.frames && nat_le l.frames (pages_of_space l.bits)

-- what a header names, if it has the form, and if the limits are served
abbrev pub checked_header : Option Header → Result Header HeaderFault
checked_header None = Err bad_header
checked_header (Some header) = if are_limits header.limits then Ok header else Err bad_limits

-- the version and the limits that a header sets, or why it is refused
abbrev pub read_header : Fields → Result Header HeaderFault
read_header fields = checked_header (header_fields fields)

-- ---- send

-- each field is a word
abbrev pub word_fields : Fields → Option (List ℕ)
word_fields [] = Some []
word_fields (field ∷ fields) = do
  word ← word_field field
  words ← word_fields fields
  Some (word ∷ words)

-- the fields of a send record, read
pub record SendFields : Type 0 where
  pub from : ℕ
  pub to : ℕ
  pub window : ℕ
  pub words : List ℕ

-- two words an item, and 1 to 31 items
abbrev pub are_item_words : List ℕ → Bool
are_item_words words = (length words % 2 == 0) && nat_le 2 (length words) && nat_le (length words) 62

-- what follows the word `send`: two spaces, the window, and the words of the items
abbrev pub send_fields : Fields → Option SendFields
send_fields (from ∷ to ∷ window ∷ words) = do
  from ← space_field from
  to ← space_field to
  window ← word_field window
  words ← word_fields words
  if are_item_words words then Some (record { from = from; to = to; window = window; words = words }) else None
send_fields _ = None

-- an item before the others, or the first refusal
abbrev pub with_item : Result Item FpageError → Result (List Item) FpageError → Result (List Item) FpageError
with_item (Err e) items = Err e
with_item (Ok item) (Err e) = Err e
with_item (Ok item) (Ok items) = Ok (item ∷ items)

-- the items of words two by two, or the first refusal
abbrev pub read_items : ℕ → List ℕ → Result (List Item) FpageError
read_items bits [] = Ok []
read_items bits (w ∷ []) = Ok []
read_items bits (w0 ∷ w1 ∷ words) = with_item (read_item bits w0 w1) (read_items bits words)

-- a value that words give, or the refusal that their error is
abbrev pub or_refused : {A : Type 0} → Result A FpageError → (A → Request) → Request
or_refused (Ok x) f = f x
or_refused (Err e) f = Err (refusal_of e)

-- the window is looked at first, and then the items in order
abbrev pub send_request : Limits → Option SendFields → Request
send_request limits None = Err bad_record
send_request limits (Some s) =
    or_refused (read_fpage limits.bits s.window) (λ window. or_refused (read_items limits.bits s.words) (λ items. Ok (send s.from s.to window items)))

-- ---- access

-- the fields of an access record, read
pub record AccessFields : Type 0 where
  pub space : ℕ
  pub address : ℕ
  pub kind : Access

-- what follows the word `access`: a space, an address, a kind
abbrev pub access_fields : Fields → Option AccessFields
access_fields (space ∷ address ∷ kind ∷ []) = do
  space ← space_field space
  address ← word_field address
  kind ← kind_field kind
  Some (record { space = space; address = address; kind = kind })
access_fields _ = None

-- the space is looked at first, and then the address
abbrev pub access_request : Limits → Option AccessFields → Request
access_request limits None = Err bad_record
access_request limits (Some a) =
    if not (nat_lt a.space limits.spaces) then Err no_such_space
    else if not (nat_lt a.address (2 ^ limits.bits)) then Err out_of_space
    else Ok (access (record { space = a.space; page = a.address / 4096 }) a.kind)

-- ---- unmap

-- the fields of an unmap record, read
pub record UnmapFields : Type 0 where
  pub space : ℕ
  pub control : ℕ
  pub words : List ℕ

-- what follows the word `unmap`: a space, a control word, and fpage words
abbrev pub unmap_fields : Fields → Option UnmapFields
unmap_fields (space ∷ control ∷ words) = do
  space ← space_field space
  control ← word_field control
  words ← word_fields words
  Some (record { space = space; control = control; words = words })
unmap_fields _ = None

-- a word before the others, or the first refusal
abbrev pub with_named : ℕ → Result Flexpage FpageError → Result (List Named) FpageError → Result (List Named) FpageError
with_named word (Err e) named = Err e
with_named word (Ok pages) (Err e) = Err e
with_named word (Ok pages) (Ok named) = Ok ((word, pages) ∷ named)

-- the words in order with their pages, or the first refusal
abbrev pub read_words : ℕ → List ℕ → Result (List Named) FpageError
read_words bits [] = Ok []
read_words bits (w ∷ ws) = with_named w (read_fpage bits w) (read_words bits ws)

-- the control word is looked at first, and then the words in order
abbrev pub unmap_request : Limits → Option UnmapFields → Request
unmap_request limits None = Err bad_record
unmap_request limits (Some u) =
    or_refused (read_control u.control (length u.words)) (λ flush. or_refused (read_words limits.bits u.words) (λ named. Ok (unmap u.space flush named)))

-- ---- clear

-- what follows the word `clear`: a space
abbrev pub clear_fields : Fields → Option ℕ
clear_fields (space ∷ []) = space_field space
clear_fields _ = None

-- nothing else is looked at
abbrev pub clear_request : Option ℕ → Request
clear_request None = Err bad_record
clear_request (Some space) = Ok (clear space)

-- version 1 has no such record
abbrev pub has_clear : Version → Bool
has_clear one = false
has_clear two = true

-- ---- records

-- what a record asks for in a trace of a version
abbrev pub request : Version → Limits → Fields → Request
request version limits [] = Err bad_record
request version limits (name ∷ fields) =
    if bytes_eq name (codes "send") then send_request limits (send_fields fields)
    else if bytes_eq name (codes "access") then access_request limits (access_fields fields)
    else if bytes_eq name (codes "unmap") then unmap_request limits (unmap_fields fields)
    else if bytes_eq name (codes "clear") && has_clear version then clear_request (clear_fields fields)
    else Err bad_record

-- a trace: its limits, and what each record after the header asks for
pub record Trace : Type 0 where
  pub limits : Limits
  pub requests : List Request

-- the records after the header, each by the version and the limits that it set
abbrev pub with_header : (Version → Limits → Fields → Request) → List Fields → Result Header HeaderFault → Result Trace HeaderFault
with_header read_one rest (Err e) = Err e
with_header read_one rest (Ok header) = Ok (record { limits = header.limits; requests = map (read_one header.version header.limits) rest })

-- the first record is the header
abbrev pub trace_of_records : (Version → Limits → Fields → Request) → List Fields → Result Trace HeaderFault
trace_of_records read_one [] = Err bad_header
trace_of_records read_one (header ∷ rest) = with_header read_one rest (read_header header)

-- the records of the bytes, as `csv` reads them; it passes over a byte order mark
abbrev pub records_of : List ℕ → List Fields
records_of bytes = records default_config (strip_bom bytes)

-- the trace that the bytes are, or why their header is refused
abbrev pub trace_of : List ℕ → Result Trace HeaderFault
trace_of bytes = trace_of_records request (records_of bytes)
