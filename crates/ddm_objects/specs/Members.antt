-- Objects one after another, as the parameters of a command are. DRDA, volume 3 (DDM), DDM objects: a collection.
use Rattle.std.specs.Prelude.{◌≡◌, ℕ, zero, suc, ◌+◌, ◌-◌, ◌<◌, List, [], ◌∷◌, length, take, drop, ◌==◌, Option, None, Some, find, Result, Ok, Err}
use Rattle.ddm_objects.specs.declared.fault.ObjFault.{ObjFault}
use Rattle.ddm_objects.specs.Objects.{Member, Found, StartsWith, object_at}

-- the bytes are these objects one after another, each of which says where it ends: DDM objects
abbrev pub AreMembers : List Member → List ℕ → Type 0
AreMembers [] bytes = bytes ≡ []
AreMembers (object ∷ objects) bytes =
    (rest : List ℕ) × StartsWith (record { object = object; rest = rest }) bytes × AreMembers objects rest

-- the objects in order, up to the first fault if there is one: DDM objects
pub record Members : Type 0 where
  pub objects : List Member
  pub fault : Option ObjFault

abbrev pub no_members : Members
no_members = record { objects = []; fault = None }

-- the object that was read, and the members that the bytes after it are
abbrev pub with_first : Result Found ObjFault → (Found → Members) → Members
with_first (Ok found) others =
    record { objects = found.object ∷ (others found).objects; fault = (others found).fault }
with_first (Err fault) others = record { objects = []; fault = Some fault }

-- the offset of what comes after the object, where the bytes that begin with it are at this place
abbrev pub past : ℕ → List ℕ → Found → ℕ
past place bytes found = place + (length bytes - length found.rest)

-- the members from this offset on, at most as many as count: DDM objects
unfoldable pub members_within : ℕ → ℕ → List ℕ → Members
members_within zero place bytes = no_members
members_within (suc count) place [] = no_members
members_within (suc count) place (byte ∷ bytes) =
    with_first (object_at place (byte ∷ bytes)) (λ found. members_within count (past place (byte ∷ bytes) found) found.rest)

-- the members from this offset on: there are no more of them than bytes
abbrev pub members_from : ℕ → List ℕ → Members
members_from place bytes = members_within (length bytes) place bytes

abbrev pub members_of : List ℕ → Members
members_of bytes = members_from 0 bytes

-- the bytes are objects one after another, and nothing else: DDM objects
abbrev pub IsMembers : List ℕ → Type 0
IsMembers bytes = (members_of bytes).fault ≡ None

-- The fault is the first: before its place stand these objects one after another, at its place begins none, and it is the
-- one of what does begin there. DDM objects; which fault it is: this project's choice.
pub record IsFirstFault (fault : ObjFault) (objects : List Member) (bytes : List ℕ) : Type 0 where
  pub before : AreMembers objects (take fault.at bytes)
  pub within : fault.at < length bytes
  pub none : (found : Found) → StartsWith found (drop fault.at bytes) → ⊥
  pub why : object_at fault.at (drop fault.at bytes) ≡ Err fault

abbrev pub found_or_fault : Option ObjFault → Option Member → Result (Option Member) ObjFault
found_or_fault None found = Ok found
found_or_fault (Some fault) found = Err fault

-- the first of these objects with this code point
abbrev pub first_with : ℕ → List Member → Option Member
first_with code objects = find (λ object. object.code == code) objects

-- The first member with this code point, where the bytes are members. Of a parameter that comes again the first
-- counts: this project's choice.
abbrev pub find_of : List ℕ → ℕ → Result (Option Member) ObjFault
find_of bytes code = found_or_fault (members_of bytes).fault (first_with code (members_of bytes).objects)

-- Where a scan of members stands: the offset of the next one, and the bytes that are left from there on. A scan is this
-- project's own.
pub record Scan : Type 0 where
  pub at : ℕ
  pub left : List ℕ

abbrev pub object_of : Result Found ObjFault → Result Member ObjFault
object_of (Ok found) = Ok found.object
object_of (Err fault) = Err fault

abbrev pub next_at : ℕ → List ℕ → Option (Result Member ObjFault)
next_at place [] = None
next_at place (byte ∷ bytes) = Some (object_of (object_at place (byte ∷ bytes)))

-- the next member, or the fault in its place; none at the end
abbrev pub next_of : Scan → Option (Result Member ObjFault)
next_of scan = next_at scan.at scan.left

abbrev pub past_object : ℕ → List ℕ → Result Found ObjFault → Scan
past_object place bytes (Ok found) = record { at = past place bytes found; left = found.rest }
past_object place bytes (Err fault) = record { at = place; left = [] }

abbrev pub after_at : ℕ → List ℕ → Scan
after_at place [] = record { at = place; left = [] }
after_at place (byte ∷ bytes) = past_object place (byte ∷ bytes) (object_at place (byte ∷ bytes))

-- the scan after the next member; after a fault nothing is left
abbrev pub after_next : Scan → Scan
after_next scan = after_at scan.at scan.left
