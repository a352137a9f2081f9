-- DDM objects as bytes. DRDA, volume 3 (DDM), DDM objects: two bytes of length, two bytes of code point, and the data; a short
-- length counts its own two bytes and those of the code point. Where the length has its top bit set, its two bytes
-- count themselves, the code point and an extended length, which follows the code point and counts the data alone;
-- with no extended length the data go to the end of the bytes.
use Rattle.std.specs.Prelude.{◌≡◌, ℕ, ◌+◌, ◌-◌, ◌^◌, ◌<◌, ◌≤◌, Bool, true, false, IsTrue, List, [], ◌++◌, length, take, drop, nat_lt, nat_le, ◌==◌}
use Rattle.std.specs.Prelude.{◌&&◌, if◌then◌else◌, ◌⊎◌, Result, Ok, Err}
use Rattle.byteorder.specs.Endian.{big_number, big_bytes}
use Rattle.ddm_objects.specs.declared.fault.ObjFault.{ObjFault}
use Rattle.ddm_objects.specs.declared.fault.ObjWhy.{ObjWhy}
use Rattle.ddm_objects.specs.declared.fault.ObjWhy.TheVariants.{LessThan4, Past, Extended}

-- an object without where it lies in memory: its code point and its data
pub record Member : Type 0 where
  pub code : ℕ
  pub bytes : List ℕ

-- ---- how an object is spelled

-- the forms of the length: DDM objects
pub data Form : Type 0 where
  Short : Form
  ToEnd : Form
  Extended4 : Form
  Extended6 : Form
  Extended8 : Form

-- the two bytes of length, for so many bytes of data: DDM objects
abbrev pub length_field : Form → ℕ → ℕ
length_field Short size = size + 4
length_field ToEnd size = 0x8004
length_field Extended4 size = 0x8008
length_field Extended6 size = 0x800A
length_field Extended8 size = 0x800C

-- the extended length, for so many bytes of data: DDM objects
abbrev pub extended_length : Form → ℕ → List ℕ
extended_length Short size = []
extended_length ToEnd size = []
extended_length Extended4 size = big_bytes 4 size
extended_length Extended6 size = big_bytes 6 size
extended_length Extended8 size = big_bytes 8 size

-- the bytes of an object whose length has this form: DDM objects
abbrev pub spelling : Form → Member → List ℕ
spelling form object =
    big_bytes 2 (length_field form (length object.bytes)) ++ big_bytes 2 object.code
    ++ extended_length form (length object.bytes) ++ object.bytes

-- the greatest extended length that is read: this project's choice
abbrev pub greatest_extended : ℕ
greatest_extended = 33554432

-- How many bytes of data a form has room for. Short: DDM objects; extended: this project's choice.
abbrev pub HasRoom : Form → ℕ → Type 0
HasRoom Short size = size + 4 < 2 ^ 15
HasRoom ToEnd size = Unit {0}
HasRoom Extended4 size = size ≤ greatest_extended
HasRoom Extended6 size = size ≤ greatest_extended
HasRoom Extended8 size = size ≤ greatest_extended

-- what has a spelling in this form: DDM objects
pub record HasForm (form : Form) (object : Member) : Type 0 where
  pub code : object.code < 2 ^ 16
  pub size : HasRoom form (length object.bytes)

-- Data to the end of the bytes are for the outermost object alone, as within another object no end of them is said.
-- This project's choice.
abbrev pub IsAllowed : Bool → Form → Type 0
IsAllowed outermost Short = Unit {0}
IsAllowed outermost ToEnd = IsTrue outermost
IsAllowed outermost Extended4 = Unit {0}
IsAllowed outermost Extended6 = Unit {0}
IsAllowed outermost Extended8 = Unit {0}

-- the bytes are the object, in one of its forms: DDM objects
pub record IsObject (outermost : Bool) (object : Member) (bytes : List ℕ) : Type 0 where
  pub form : Form
  pub allowed : IsAllowed outermost form
  pub fits : HasForm form object
  pub spelled : bytes ≡ spelling form object

-- an object, and the bytes after it
pub record Found : Type 0 where
  pub object : Member
  pub rest : List ℕ

-- the bytes are an object that says where it ends, and then the rest: DDM objects
pub record StartsWith (found : Found) (bytes : List ℕ) : Type 0 where
  pub front : List ℕ
  pub object : IsObject false found.object front
  pub follows : bytes ≡ front ++ found.rest

-- What is first in bytes that aren't within an object: an object and the rest, or an object that takes all of them.
-- DDM objects.
abbrev pub IsFirst : Found → List ℕ → Type 0
IsFirst found bytes = StartsWith found bytes ⊎ (IsObject true found.object bytes × (found.rest ≡ []))

-- the greatest size of data that have a short length
abbrev pub greatest_short : ℕ
greatest_short = 32763

-- the spelling with a short length: DDM objects
abbrev pub short_object : ℕ → List ℕ → List ℕ
short_object code bytes = spelling Short (record { code = code; bytes = bytes })

-- the spelling with an extended length of four bytes: DDM objects
abbrev pub long_object : ℕ → List ℕ → List ℕ
long_object code bytes = spelling Extended4 (record { code = code; bytes = bytes })

-- The one spelling that is written: the shorter one, where the length has its top bit clear. This project's choice.
abbrev pub canonical_object : ℕ → List ℕ → List ℕ
canonical_object code bytes = if nat_le (length bytes) greatest_short then short_object code bytes else long_object code bytes

-- what is read from its canonical spelling: this project's choice
pub record HasCanonical (object : Member) : Type 0 where
  pub code : object.code < 2 ^ 16
  pub size : length object.bytes ≤ greatest_extended

-- ---- how an object is read

-- a fault at the offset where its object begins: this project's choice
abbrev pub fault_at : ℕ → ObjWhy → ObjFault
fault_at place why = record { at = place; why = why }

-- how many bytes of data an object has, and the bytes from its data on
pub record Extent : Type 0 where
  pub size : ℕ
  pub from : List ℕ

-- By an extended length of so many bytes, with which these bytes begin: DDM objects. One that isn't all
-- there is Past, since its value, which may be Extended, needs all of it: this project's choice.
abbrev pub extended_at : ℕ → List ℕ → Result Extent ObjWhy
extended_at count bytes =
    if nat_lt (length bytes) count then Err Past
    else (if nat_lt greatest_extended (big_number count bytes) then Err Extended
    else Ok (record { size = big_number count bytes; from = drop count bytes }))

-- by the two bytes of length, and the bytes after the code point: DDM objects
unfoldable pub extent_at : ℕ → List ℕ → Result Extent ObjWhy
extent_at field bytes =
    if nat_lt field 4 then Err LessThan4
    else (if nat_lt field 0x8000 then Ok (record { size = field - 4; from = bytes })
    else (if field == 0x8008 then extended_at 4 bytes
    else (if field == 0x800A then extended_at 6 bytes
    else (if field == 0x800C then extended_at 8 bytes
    else Err Extended))))

-- the object with this code point and so many bytes of data, where they are there: DDM objects
abbrev pub data_at : ℕ → ℕ → Result Extent ObjWhy → Result Found ObjFault
data_at place code (Ok extent) =
    if nat_lt (length extent.from) extent.size then Err (fault_at place Past)
    else Ok (record {
      object = record { code = code; bytes = take extent.size extent.from };
      rest = drop extent.size extent.from;
    })
data_at place code (Err why) = Err (fault_at place why)

-- The object that these bytes begin with and which says where it ends, or why there is none; place is its offset,
-- which a fault answers. DDM objects.
unfoldable pub object_at : ℕ → List ℕ → Result Found ObjFault
object_at place bytes =
    if nat_lt (length bytes) 4 then Err (fault_at place LessThan4)
    else data_at place (big_number 2 (drop 2 bytes)) (extent_at (big_number 2 bytes) (drop 4 bytes))

-- the object whose data go to the end of the bytes: DDM objects
abbrev pub to_end : List ℕ → Found
to_end bytes = record { object = record { code = big_number 2 (drop 2 bytes); bytes = drop 4 bytes }; rest = [] }

-- The first object of bytes that aren't within an object, and the bytes after it. That data to the end of the bytes
-- are read here alone is this project's choice.
unfoldable pub first_object : List ℕ → Result Found ObjFault
first_object bytes = if nat_le 4 (length bytes) && big_number 2 bytes == 0x8004 then Ok (to_end bytes) else object_at 0 bytes

-- The only object of so many bytes. The first byte that is left over after it is past the end of what it is for: this
-- project's choice.
abbrev pub only_object : ℕ → Result Found ObjFault → Result Member ObjFault
only_object size (Ok found) =
    if length found.rest == 0 then Ok found.object else Err (fault_at (size - length found.rest) Past)
only_object size (Err fault) = Err fault

-- the object that the bytes are: DSS: a request DSS has one object
abbrev pub outer_of : List ℕ → Result Member ObjFault
outer_of bytes = only_object (length bytes) (first_object bytes)

-- ---- what a fault says

-- nothing that is an object begins the bytes
abbrev pub HasNoFirst : List ℕ → Type 0
HasNoFirst bytes = (found : Found) → IsFirst found bytes → ⊥

-- The fault of a first object: it is at the front, and no object begins there. DDM objects; which fault it is: this
-- project's choice.
pub record IsFrontFault (fault : ObjFault) (bytes : List ℕ) : Type 0 where
  pub front : fault.at ≡ 0
  pub none : HasNoFirst bytes
  pub why : object_at 0 bytes ≡ Err fault

-- an object goes up to the fault, and bytes are left over from there on
pub record IsLeftOver (fault : ObjFault) (bytes : List ℕ) : Type 0 where
  pub object : Member
  pub before : IsObject false object (take fault.at bytes)
  pub within : fault.at < length bytes
  pub why : fault.why ≡ Past

-- the first fault of bytes that aren't exactly one object
abbrev pub IsOuterFault : ObjFault → List ℕ → Type 0
IsOuterFault fault bytes = IsFrontFault fault bytes ⊎ IsLeftOver fault bytes
