-- What a builder has in its fields, over the calls of it.
use Rattle.std.proofs.Common.{◌≡◌, ℕ, zero, suc, Bool, true, false, cond, eqb, leb, ltb, ◌+◌, ◌-◌, ◌<◌, ◌≤◌, List, [], ◌∷◌, ◌++◌, length, get_or}
use Rattle.std.proofs.Common.{take, drop, reverse, refl, sym, ap, ◌∙◌, subst, arith}
use Rattle.std.proofs.lemmas.Bool.{ltb-true, lt-ltb, leb-false}
use Rattle.std.specs.Prelude.{IsTrue}
use Rattle.std.proofs.lemmas.List.{reverse-append, take_more, take_all, take-append-le, drop-append-le, take_at, drop_at, length-take, length-drop}
use Rattle.std.proofs.lemmas.List.{length-append, length-reverse}
use Rattle.std.proofs.lemmas.List.Sums.{sum_by-cons}
use Rattle.std.proofs.Math.ListN.{drop_of_length-le}
use Rattle.ddm_objects.specs.declared.builder.BegunObject.{BegunObject}
use Rattle.ddm_objects.specs.Objects.{Member, greatest_short, short_object, long_object, canonical_object}
use Rattle.ddm_objects.specs.Builder.{Building, greatest_built, HasRoomFor, HasRoomToEnd, IsLong, begun_size, building_size, with_bytes, put_around}
use Rattle.ddm_objects.specs.Builder.{after_begin, after_put, after_end}
use Rattle.ddm_objects.specs.BuilderFields.{written_in, begun_in, building_in, IsWhole}

-- no byte is left out
size_at_least : (objects : List BegunObject) (bytes : List ℕ) → length bytes ≤ building_size (building_in objects bytes)
size_at_least [] bytes = omega arith
size_at_least (object ∷ outer) bytes =
    let more = size_at_least outer (take object.at bytes) in
    omega (
      arith,
      more,
      length-take object.at bytes,
      length-drop (object.at + 4) bytes,
      sum_by-cons begun_size (record { code = object.code; bytes = drop (object.at + 4) bytes }) (begun_in outer (take object.at bytes)),
    )

-- the innermost object has its four bytes, and what stands before it is whole
pub record IsInnermost (object : BegunObject) (outer : List BegunObject) (bytes : List ℕ) : Type 0 where
  pub header : object.at + 4 ≤ length bytes
  pub before : IsWhole outer (take object.at bytes)
  pub size : length (take object.at bytes) ≡ object.at

pub innermost : (object : BegunObject) (outer : List BegunObject) (bytes : List ℕ) → IsWhole (object ∷ outer) bytes → IsInnermost object outer bytes
innermost object outer bytes whole =
    let more = size_at_least outer (take object.at bytes) in
    let sum = sum_by-cons begun_size (record { code = object.code; bytes = drop (object.at + 4) bytes }) (begun_in outer (take object.at bytes)) in
    record {
      header = omega (arith, whole, more, sum, length-take object.at bytes, length-drop (object.at + 4) bytes);
      before = omega (arith, whole, more, sum, length-take object.at bytes, length-drop (object.at + 4) bytes);
      size = omega (arith, whole, more, sum, length-take object.at bytes, length-drop (object.at + 4) bytes);
    }

-- bytes at the end are the end of the innermost data, or of what is written
pub placed : (objects : List BegunObject) (bytes more : List ℕ) → IsWhole objects bytes →
    building_in objects (bytes ++ more) ≡ put_around (written_in objects bytes) (begun_in objects bytes) more
placed [] bytes more whole = refl
placed (object ∷ outer) bytes more whole =
    let is = innermost object outer bytes whole in
    let header = is.header in
    let front : take object.at (bytes ++ more) ≡ take object.at bytes = take-append-le object.at bytes more (omega arith) in
    let data_now : drop (object.at + 4) (bytes ++ more) ≡ drop (object.at + 4) bytes ++ more = drop-append-le (object.at + 4) bytes more header in
    ap (λ (xs : List ℕ). record {
      written = written_in outer xs;
      begun =
          record { code = object.code; bytes = drop (object.at + 4) (bytes ++ more) } ∷ begun_in outer xs;
    }) front
    ∙ ap (λ (xs : List ℕ). record {
      written = written_in outer (take object.at bytes);
      begun =
          record { code = object.code; bytes = xs } ∷ begun_in outer (take object.at bytes);
    }) data_now

size_around : (written : List ℕ) (begun : List Member) (more : List ℕ) →
    building_size (put_around written begun more) ≡ building_size (record { written = written; begun = begun }) + length more
size_around written [] more = omega (arith, length-append written more)
size_around written (object ∷ outer) more =
    omega (
      arith,
      length-append object.bytes more,
      sum_by-cons begun_size object outer,
      sum_by-cons begun_size (record { code = object.code; bytes = object.bytes ++ more }) outer,
    )

pub placed_whole : (objects : List BegunObject) (bytes more : List ℕ) → IsWhole objects bytes → IsWhole objects (bytes ++ more)
placed_whole objects bytes more whole =
    let size = ap building_size (placed objects bytes more whole) ∙ size_around (written_in objects bytes) (begun_in objects bytes) more in
    omega (arith, size, whole, length-append bytes more)

-- where an object is begun, its bytes are the innermost data
pub put_in : (objects : List BegunObject) (bytes more : List ℕ) → IsWhole objects bytes → 1 ≤ length objects →
    building_in objects (bytes ++ more) ≡ after_put (building_in objects bytes) more
put_in [] bytes more whole some = absurd (omega (arith, some))
put_in (object ∷ outer) bytes more whole some = placed (object ∷ outer) bytes more whole

-- an object is begun behind all bytes
pub begin_in : (objects : List BegunObject) (object : BegunObject) (bytes header : List ℕ) → object.at ≡ length bytes → length header ≡ 4 →
    building_in (object ∷ objects) (bytes ++ header) ≡ after_begin (building_in objects bytes) object.code
begin_in objects object bytes header at size =
    let front : take object.at (bytes ++ header) ≡ bytes = take_at bytes header object.at (sym at) in
    let none : drop (object.at + 4) (bytes ++ header) ≡ [] = drop_of_length-le (bytes ++ header) (omega (arith, at, size, length-append bytes header)) in
    ap (λ (xs : List ℕ). record {
      written = written_in objects xs;
      begun =
          record { code = object.code; bytes = drop (object.at + 4) (bytes ++ header) } ∷ begun_in objects xs;
    }) front
    ∙ ap (λ (xs : List ℕ). record { written = written_in objects bytes; begun = record { code = object.code; bytes = xs } ∷ begun_in objects bytes }) none

pub begin_whole : (objects : List BegunObject) (object : BegunObject) (bytes header : List ℕ) → object.at ≡ length bytes → length header ≡ 4 →
    IsWhole objects bytes → IsWhole (object ∷ objects) (bytes ++ header)
begin_whole objects object bytes header at size whole =
    let same = ap building_size (begin_in objects object bytes header at size) in
    let sum = sum_by-cons begun_size (record { code = object.code; bytes = [] }) (begun_in objects bytes) in
    omega (arith, same, sum, whole, size, length-append bytes header)

-- the canonical bytes stand where the innermost object was begun
pub end_in : (object : BegunObject) (outer : List BegunObject) (bytes : List ℕ) → IsWhole (object ∷ outer) bytes →
    building_in outer (take object.at bytes ++ canonical_object object.code (drop (object.at + 4) bytes)) ≡ after_end (building_in (object ∷ outer) bytes)
end_in object outer bytes whole =
    placed outer (take object.at bytes) (canonical_object object.code (drop (object.at + 4) bytes)) (innermost object outer bytes whole).before

pub end_whole : (object : BegunObject) (outer : List BegunObject) (bytes more : List ℕ) → IsWhole (object ∷ outer) bytes →
    IsWhole outer (take object.at bytes ++ more)
end_whole object outer bytes more whole =
    placed_whole outer (take object.at bytes) more (innermost object outer bytes whole).before

-- the innermost object is the last one
pub last_of : (begun shown : List BegunObject) (count : ℕ) (d : BegunObject) → shown ≡ begun → count ≡ length begun → 1 ≤ length begun →
    reverse begun ≡ get_or shown (count - 1) d ∷ reverse (take (count - 1) begun)
last_of begun shown count d same size some =
    let last : ℕ = count - 1 in
    let split : begun ≡ take last begun ++ get_or begun last d ∷ [] = sym (take_all (last + 1) begun (omega arith)) ∙ take_more begun last d (omega arith) in
    ap reverse split ∙ reverse-append (take last begun) (get_or begun last d ∷ [])
    ∙ ap (λ (os : List BegunObject). get_or os last d ∷ reverse (take last begun)) (sym same)

-- as many objects are begun as are kept
pub depth_in : (objects : List BegunObject) (bytes : List ℕ) → length (begun_in objects bytes) ≡ length objects
depth_in [] bytes = refl
depth_in (object ∷ outer) bytes = omega (arith, depth_in outer (take object.at bytes))

-- where none is begun, all bytes are written
pub all_written : (objects : List BegunObject) (bytes : List ℕ) → begun_in objects bytes ≡ [] → bytes ≡ written_in objects bytes
all_written [] bytes none = refl
all_written (object ∷ outer) bytes none = absurd cc

-- ---- the calls

pub depth_is : (begun : List BegunObject) (bytes : List ℕ) (old : Building) → building_in (reverse begun) bytes ≡ old → length begun ≡ length old.begun
depth_is begun bytes old view =
    sym (depth_in (reverse begun) bytes ∙ length-reverse begun) ∙ ap (λ (b : Building). length b.begun) view

size_is : (objects : List BegunObject) (bytes : List ℕ) (old : Building) → building_in objects bytes ≡ old → IsWhole objects bytes →
    building_size old ≡ length bytes
size_is objects bytes old view whole = sym (ap building_size view) ∙ whole

pub put_fits : (objects : List BegunObject) (bytes more bytes_now : List ℕ) (old : Building) → bytes_now ≡ bytes ++ more →
    building_in objects bytes ≡ old → IsWhole objects bytes → HasRoomFor (length more) old → IsWhole objects bytes_now × (length bytes_now ≤ greatest_built)
put_fits objects bytes more bytes_now old is view whole room =
    let size = size_is objects bytes old view whole in
    (subst (IsWhole objects) (sym is) (placed_whole objects bytes more whole), omega (arith, size, room, ap length is, length-append bytes more))

pub put_is : (begun : List BegunObject) (bytes more bytes_now : List ℕ) (old : Building) → bytes_now ≡ bytes ++ more →
    building_in (reverse begun) bytes ≡ old → IsWhole (reverse begun) bytes → 0 < length old.begun → building_in (reverse begun) bytes_now ≡ after_put old more
put_is begun bytes more bytes_now old is view whole some =
    ap (building_in (reverse begun)) is
    ∙ put_in (reverse begun) bytes more whole (omega (arith, some, depth_is begun bytes old view, length-reverse begun))
    ∙ ap (λ (b : Building). after_put b more) view

-- the innermost object is the last of those that a call is shown
pub record HasLast (begun shown : List BegunObject) (bytes : List ℕ) (count : ℕ) (d : BegunObject) (old : Building) : Type 0 where
  pub same : shown ≡ begun
  pub size : count ≡ length begun
  pub view : building_in (reverse begun) bytes ≡ old
  pub whole : IsWhole (reverse begun) bytes
  pub some : 1 ≤ length begun

-- it, and those around it
record Split (object : BegunObject) (outer : List BegunObject) (begun : List BegunObject) (bytes : List ℕ) (old : Building) : Type 0 where
  last : reverse begun ≡ object ∷ outer
  view : building_in (object ∷ outer) bytes ≡ old
  whole : IsWhole (object ∷ outer) bytes

split : (begun shown : List BegunObject) (bytes : List ℕ) (count : ℕ) (d : BegunObject) (old : Building) → HasLast begun shown bytes count d old →
    Split (get_or shown (count - 1) d) (reverse (take (count - 1) begun)) begun bytes old
split begun shown bytes count d old has =
    let last = last_of begun shown count d has.same has.size has.some in
    record {
      last = last;
      view = sym (ap (λ (os : List BegunObject). building_in os bytes) last) ∙ has.view;
      whole = subst (λ (os : List BegunObject). IsWhole os bytes) last has.whole;
    }

pub header_fits : (begun shown : List BegunObject) (bytes : List ℕ) (count : ℕ) (d : BegunObject) (old : Building) →
    HasLast begun shown bytes count d old → (get_or shown (count - 1) d).at + 4 ≤ length bytes
header_fits begun shown bytes count d old has =
    (innermost (get_or shown (count - 1) d) (reverse (take (count - 1) begun)) bytes (split begun shown bytes count d old has).whole).header

-- whether its data have a short length
pub long_is : (begun shown : List BegunObject) (bytes : List ℕ) (count size : ℕ) (d : BegunObject) (old : Building) →
    HasLast begun shown bytes count d old → size ≡ length bytes →
    (IsTrue (ltb greatest_short (size - (get_or shown (count - 1) d).at - 4)) → IsLong old.begun) × (IsLong old.begun →
    IsTrue (ltb greatest_short (size - (get_or shown (count - 1) d).at - 4)))
long_is begun shown bytes count size d old has is =
    let object : BegunObject = get_or shown (count - 1) d in
    let s = split begun shown bytes count d old has in
    let data_size : length (drop (object.at + 4) bytes) ≡ size - object.at - 4 = omega (arith, is, length-drop (object.at + 4) bytes) in (
      λ long.
          let more : greatest_short < length (drop (object.at + 4) bytes) = omega (arith, ltb-true greatest_short (size - object.at - 4) long, data_size) in
          subst (λ (b : Building). IsLong b.begun) s.view more,
      λ long.
          let more : greatest_short < length (drop (object.at + 4) bytes) = subst (λ (b : Building). IsLong b.begun) (sym s.view) long in
          lt-ltb greatest_short (size - object.at - 4) (omega (arith, more, data_size)),
    )

-- the canonical bytes take four bytes more only where there is room for them
canonical_fits : (code before : ℕ) (held : List ℕ) (b : Bool) → leb (length held) greatest_short ≡ b → before + 4 + length held ≤ greatest_built →
    (greatest_short < length held → before + 4 + length held + 4 ≤ greatest_built) →
    before + length (cond b (short_object code held) (long_object code held)) ≤ greatest_built
canonical_fits code before held true is fits more = omega (arith, fits)
canonical_fits code before held false is fits more = omega (arith, more (leb-false (length held) greatest_short is))

pub end_fits : (begun shown begun_now : List BegunObject) (bytes bytes_now : List ℕ) (count : ℕ) (d : BegunObject) (old : Building) →
    HasLast begun shown bytes count d old → length bytes ≤ greatest_built → HasRoomToEnd old → begun_now ≡ take (length begun - 1) begun →
    bytes_now ≡ take (get_or shown (count - 1) d).at bytes ++ canonical_object (get_or shown (count - 1) d).code
    (drop ((get_or shown (count - 1) d).at + 4) bytes) → IsWhole (reverse begun_now) bytes_now × (length bytes_now ≤ greatest_built)
end_fits begun shown begun_now bytes bytes_now count d old has fits room fewer is =
    let object : BegunObject = get_or shown (count - 1) d in
    let outer : List BegunObject = reverse (take (count - 1) begun) in
    let held : List ℕ = drop (object.at + 4) bytes in
    let s = split begun shown bytes count d old has in
    let inner = innermost object outer bytes s.whole in
    let header = inner.header in
    let now : reverse begun_now ≡ outer = ap reverse fewer ∙ ap (λ (n : ℕ). reverse (take (n - 1) begun)) (sym has.size) in
    let more : greatest_short < length held → length bytes + 4 ≤ greatest_built = λ long.
    let there = room (subst (λ (b : Building). IsLong b.begun) s.view long) in
    omega (arith, there, size_is (object ∷ outer) bytes old s.view s.whole) in
    let size : object.at + 4 + length held ≡ length bytes = omega (arith, header, length-drop (object.at + 4) bytes) in
    let small : object.at + length (canonical_object object.code held) ≤ greatest_built =
    canonical_fits object.code object.at held (leb (length held) greatest_short) refl (omega (arith, size, fits)) (λ long. omega (
      arith,
      size,
      more long,
    )) in (
      subst (λ (os : List BegunObject). IsWhole os bytes_now) (sym now)
          (subst (IsWhole outer) (sym is) (end_whole object outer bytes (canonical_object object.code held) s.whole)),
      omega (arith, ap length is, length-append (take object.at bytes) (canonical_object object.code held), inner.size, small),
    )

pub end_is : (begun shown begun_now : List BegunObject) (bytes bytes_now : List ℕ) (count : ℕ) (d : BegunObject) (old : Building) →
    HasLast begun shown bytes count d old → begun_now ≡ take (length begun - 1) begun →
    bytes_now ≡ take (get_or shown (count - 1) d).at bytes ++ canonical_object (get_or shown (count - 1) d).code
    (drop ((get_or shown (count - 1) d).at + 4) bytes) → building_in (reverse begun_now) bytes_now ≡ after_end old
end_is begun shown begun_now bytes bytes_now count d old has fewer is =
    let object : BegunObject = get_or shown (count - 1) d in
    let outer : List BegunObject = reverse (take (count - 1) begun) in
    let s = split begun shown bytes count d old has in
    let now : reverse begun_now ≡ outer = ap reverse fewer ∙ ap (λ (n : ℕ). reverse (take (n - 1) begun)) (sym has.size) in
    ap (λ (os : List BegunObject). building_in os bytes_now) now ∙ ap (building_in outer) is ∙ end_in object outer bytes s.whole ∙ ap after_end s.view

begun_first : (begun : List BegunObject) (object : BegunObject) → reverse (begun ++ object ∷ []) ≡ object ∷ reverse begun
begun_first begun object = reverse-append begun (object ∷ [])

-- what a call that begins an object leaves
pub begin_fits : (begun begun_now : List BegunObject) (object : BegunObject) (bytes header bytes_now : List ℕ) (old : Building) →
    begun_now ≡ begun ++ object ∷ [] → bytes_now ≡ bytes ++ header → object.at ≡ length bytes → length header ≡ 4 →
    building_in (reverse begun) bytes ≡ old → IsWhole (reverse begun) bytes → HasRoomFor 4 old →
    IsWhole (reverse begun_now) bytes_now × (length bytes_now ≤ greatest_built)
begin_fits begun begun_now object bytes header bytes_now old more is at size view whole room =
    let now : reverse begun_now ≡ object ∷ reverse begun = ap reverse more ∙ begun_first begun object in
    let was = size_is (reverse begun) bytes old view whole in (
      subst (λ (os : List BegunObject). IsWhole os bytes_now) (sym now)
          (subst (IsWhole (object ∷ reverse begun)) (sym is) (begin_whole (reverse begun) object bytes header at size whole)),
      omega (arith, was, room, size, ap length is, length-append bytes header),
    )

pub begin_is : (begun begun_now : List BegunObject) (object : BegunObject) (bytes header bytes_now : List ℕ) (old : Building) →
    begun_now ≡ begun ++ object ∷ [] → bytes_now ≡ bytes ++ header → object.at ≡ length bytes → length header ≡ 4 →
    building_in (reverse begun) bytes ≡ old → building_in (reverse begun_now) bytes_now ≡ after_begin old object.code
begin_is begun begun_now object bytes header bytes_now old more is at size view =
    let now : reverse begun_now ≡ object ∷ reverse begun = ap reverse more ∙ begun_first begun object in
    ap (λ (os : List BegunObject). building_in os bytes_now) now ∙ ap (building_in (object ∷ reverse begun)) is
    ∙ begin_in (reverse begun) object bytes header at size ∙ ap (λ (b : Building). after_begin b object.code) view

pub not_empty : (n : ℕ) → false ≡ eqb n 0 → 1 ≤ n
not_empty zero e = absurd cc
not_empty (suc n) e = omega arith
