-- Parameters that are kept of a command are read again, whatever stands behind them.
use Rattle.std.proofs.Common.{◌≡◌, ℕ, zero, suc, ◌+◌, ◌-◌, ◌<◌, ◌≤◌, Bool, true, false, cond, eqb, List, [], ◌∷◌, ◌++◌, length, take, drop}
use Rattle.std.proofs.Common.{Option, Some, None, Result, Ok, Err, refl, sym, ap, ◌∙◌, subst, arith, true≢false}
use Rattle.std.specs.List.{AllByRecursion}
use Rattle.std.proofs.lemmas.Bool.{le-ltb, lt-ltb, eqb-true, cond-false}
use Rattle.std.proofs.lemmas.List.{append_assoc, length-append, length-take, length-drop, take-append-drop, take_at, drop_at, drop-append-le, drop-take}
use Rattle.byteorder.specs.Endian.{big_number}
use Rattle.byteorder.specs.Numbers.{big_from-append}
use Rattle.ddm_objects.specs.declared.fault.ObjFault.{ObjFault}
use Rattle.ddm_objects.specs.Objects.{Member, Form, Short, ToEnd, Extended4, Extended6, Extended8, Found, Extent, greatest_extended, extended_at, extent_at}
use Rattle.ddm_objects.specs.Objects.{object_at}
use Rattle.ddm_objects.specs.Members.{Members, past, with_first, members_within, first_with, found_or_fault}
use Rattle.ddm_objects.proofs.Reading.Read.{IsExtended, IsMeasured, extent_found, object_there, object_found, found_size}
use Rattle.access_handshake.specs.Parameter.{data_of as found_data, parameter}
use Rattle.unit_segments.specs.Release.{kept_by, kept_within}

-- ---- an object, with other bytes behind it

extended_moved : (count : ℕ) (front rest more : List ℕ) (extent : Extent) → IsExtended count (front ++ rest) extent → count ≤ length front
    → extended_at count (front ++ more) ≡ Ok (record { size = extent.size; from = drop count front ++ more })
extended_moved count front rest more extent is long =
    let size : big_number count (front ++ more) ≡ extent.size =
    big_from-append count front more long ∙ sym (big_from-append count front rest long) ∙ ap (λ (x : Extent). x.size) is.is in
    let small : extent.size ≤ greatest_extended =
    subst (λ n. n ≤ greatest_extended) (ap (λ (x : Extent). x.size) is.is) is.small in
    rw (le-ltb (length (front ++ more)) count (omega (arith, length-append front more, long)), size, le-ltb greatest_extended extent.size small)
    (ap (λ (xs : List ℕ). Ok (record { size = extent.size; from = xs })) (drop-append-le count front more long))

short_moved : (field : ℕ) (bytes : List ℕ) → 4 ≤ field → field < 0x8000 → extent_at field bytes ≡ Ok (record { size = field - 4; from = bytes })
unfolding extent_at
short_moved field bytes low high = rw (le-ltb field 4 low, lt-ltb field 0x8000 high) refl

-- how many bytes of an extended length there are
abbrev header : Form → ℕ
header Short = 0
header ToEnd = 0
header Extended4 = 4
header Extended6 = 6
header Extended8 = 8

record Starts (form : Form) (bytes : List ℕ) (extent : Extent) : Type 0 where
  pub from : extent.from ≡ drop (header form) bytes
  pub enough : header form ≤ length bytes

starts : (form : Form) (field : ℕ) (bytes : List ℕ) (extent : Extent) → IsMeasured form field bytes extent → Starts form bytes extent
starts Short field bytes extent is = record { from = ap (λ (x : Extent). x.from) (sym is.2); enough = omega arith }
starts ToEnd field bytes extent is = absurd is
starts Extended4 field bytes extent is = record { from = ap (λ (x : Extent). x.from) (sym is.1.is); enough = is.1.whole }
starts Extended6 field bytes extent is = record { from = ap (λ (x : Extent). x.from) (sym is.1.is); enough = is.1.whole }
starts Extended8 field bytes extent is = record { from = ap (λ (x : Extent). x.from) (sym is.1.is); enough = is.1.whole }

extent_moved : (form : Form) (field : ℕ) (front rest more : List ℕ) (extent : Extent) → IsMeasured form field (front ++ rest) extent
    → header form ≤ length front → extent_at field (front ++ more) ≡ Ok (record { size = extent.size; from = drop (header form) front ++ more })
unfolding extent_at
extent_moved Short field front rest more extent is long =
    short_moved field (front ++ more) is.0 is.1
    ∙ ap (λ (n : ℕ). Ok (record { size = n; from = front ++ more })) (ap (λ (x : Extent). x.size) is.2)
extent_moved ToEnd field front rest more extent is long = absurd is
extent_moved Extended4 field front rest more extent is long =
    ap (λ n. extent_at n (front ++ more)) is.0 ∙ extended_moved 4 front rest more extent is.1 long
extent_moved Extended6 field front rest more extent is long =
    ap (λ n. extent_at n (front ++ more)) is.0 ∙ extended_moved 6 front rest more extent is.1 long
extent_moved Extended8 field front rest more extent is long =
    ap (λ n. extent_at n (front ++ more)) is.0 ∙ extended_moved 8 front rest more extent is.1 long

accepted : (place : ℕ) (bytes : List ℕ) (extent : Extent) → 4 ≤ length bytes → extent_at (big_number 2 bytes) (drop 4 bytes) ≡ Ok extent
    → extent.size ≤ length extent.from → object_at place bytes ≡ Ok (object_there (big_number 2 (drop 2 bytes)) extent)
unfolding object_at
accepted place bytes extent long is within = rw (le-ltb (length bytes) 4 long, is, le-ltb (length extent.from) extent.size within) refl

-- its offset doesn't matter
pub wherever : (place other : ℕ) (bytes : List ℕ) (found : Found) → object_at place bytes ≡ Ok found → object_at other bytes ≡ Ok found
wherever place other bytes found e =
    let is = object_found place bytes found e in
    accepted other bytes is.extent is.header is.measured is.within ∙ ap (λ (f : Found). Ok f) is.is

no_header : (bytes : List ℕ) (found : Found) → object_at 0 bytes ≡ Ok found → length bytes < 4 → ⊥
no_header bytes found e short = absurd (omega (arith, (object_found 0 bytes found e).header, short))

fits_more : (held more : List ℕ) (size : ℕ) → length held ≡ size → size ≤ length (held ++ more)
fits_more held more size e = omega (arith, length-append held more)

four : (a b c d : ℕ) (rest : List ℕ) → 4 ≤ length (a ∷ b ∷ c ∷ d ∷ rest)
four a b c d rest = omega arith

pub object_moved : (place : ℕ) (bytes more : List ℕ) (found : Found) → object_at 0 bytes ≡ Ok found
    → object_at place (take (length bytes - length found.rest) bytes ++ more) ≡ Ok (record { object = found.object; rest = more })
object_moved place [] more found e = absurd (no_header [] found e (omega arith))
object_moved place (a ∷ []) more found e = absurd (no_header (a ∷ []) found e (omega arith))
object_moved place (a ∷ b ∷ []) more found e = absurd (no_header (a ∷ b ∷ []) found e (omega arith))
object_moved place (a ∷ b ∷ c ∷ []) more found e = absurd (no_header (a ∷ b ∷ c ∷ []) found e (omega arith))
object_moved place (a ∷ b ∷ c ∷ d ∷ body) more found e =
    let bytes : List ℕ = a ∷ b ∷ c ∷ d ∷ body in
    let is = object_found 0 bytes found e in
    let extent : Extent = is.extent in
    let size : ℕ = extent.size in
    let m = extent_found (big_number 2 bytes) body extent is.measured in
    let form : Form = m.0 in
    let s = starts form (big_number 2 bytes) body extent m.1 in
    let h : ℕ = header form in
    let from_size : length extent.from ≡ length body - h = ap length s.from ∙ length-drop h body in
    let n : ℕ = h + size in
    let fits : n ≤ length body = omega (arith, from_size, is.within, s.enough) in
    let front : List ℕ = take n body in
    let front_size : length front ≡ n = length-take n body ∙ omega (arith, fits) in
    let parts : front ++ drop n body ≡ body = take-append-drop n body in
    let rest_size : length found.rest ≡ length body - n =
    ap (λ (f : Found). length f.rest) (sym is.is) ∙ length-drop size extent.from ∙ omega (arith, from_size) in
    let count : length bytes - length found.rest ≡ suc (suc (suc (suc n))) = omega (arith, rest_size, fits) in
    let taken : take (length bytes - length found.rest) bytes ≡ a ∷ b ∷ c ∷ d ∷ front = ap (λ k. take k bytes) count in
    let held : List ℕ = drop h front in
    let held_size : length held ≡ size = length-drop h front ∙ omega (arith, front_size) in
    let moved = extent_moved form (big_number 2 bytes) front (drop n body) more extent
    (subst (λ (xs : List ℕ). IsMeasured form (big_number 2 bytes) xs extent) (sym parts) m.1) (omega (arith, front_size)) in
    let same : held ≡ take size extent.from = drop-take h size body ∙ ap (take size) (sym s.from) in
    ap (λ (xs : List ℕ). object_at place (xs ++ more)) taken
    ∙ accepted place (a ∷ b ∷ c ∷ d ∷ front ++ more) (record { size = size; from = held ++ more })
    (four a b c d (front ++ more)) moved (fits_more held more size held_size)
    ∙ ap (λ (xs : List ℕ). Ok (record { object = record { code = big_number 2 (c ∷ d ∷ []); bytes = xs }; rest = drop size (held ++ more) }))
    (take_at held more size held_size ∙ same)
    ∙ ap (λ (xs : List ℕ). Ok (record { object = record { code = big_number 2 (c ∷ d ∷ []); bytes = take size extent.from }; rest = xs }))
    (drop_at held more size held_size)
    ∙ ap (λ (f : Found). Ok (record { object = f.object; rest = more })) is.is

-- ---- members, wherever they stand

abbrev pub Reads : List ℕ → List Member → Type 0
Reads bytes objects = (count place : ℕ) → length bytes ≤ count → members_within count place bytes ≡ record { objects = objects; fault = None }

pub reads_none : Reads [] []
unfolding members_within
reads_none zero place small = refl
reads_none (suc count) place small = refl

first_reads : (place : ℕ) (bytes more : List ℕ) (object : Member) (objects : List Member) → object_at place bytes ≡ Ok (record { object = object; rest = more })
    → Reads more objects → (count : ℕ) → length bytes ≤ count → members_within count place bytes ≡ record { objects = object ∷ objects; fault = None }
unfolding members_within
first_reads place [] more object objects e reads count small =
    absurd (omega (arith, (object_found place [] (record { object = object; rest = more }) e).header))
first_reads place (byte ∷ bytes) more object objects e reads zero small = absurd (omega (arith, small))
first_reads place (byte ∷ bytes) more object objects e reads (suc count) small =
    let found : Found = record { object = object; rest = more } in
    ap (λ (r : Result Found ObjFault). with_first r (λ (f : Found). members_within count (past place (byte ∷ bytes) f) f.rest)) e
    ∙ ap (λ (m : Members). record { objects = object ∷ m.objects; fault = m.fault })
    (reads count (past place (byte ∷ bytes) found) (omega (arith, small, found_size place (byte ∷ bytes) found e)))

-- one more member in front
pub reads_first : (bytes more : List ℕ) (found : Found) (objects : List Member) → object_at 0 bytes ≡ Ok found → Reads more objects
    → Reads (take (length bytes - length found.rest) bytes ++ more) (found.object ∷ objects)
reads_first bytes more found objects e reads count place small =
    first_reads place (take (length bytes - length found.rest) bytes ++ more) more found.object objects
    (object_moved place bytes more found e) reads count small

-- ---- those that are kept

pub record Kept (drops : ℕ → Bool) (bytes kept : List ℕ) : Type 0 where
  pub objects : List Member
  pub none : AllByRecursion (λ (o : Member). drops o.code ≡ false) objects
  pub reads : (more : List ℕ) (others : List Member) → Reads more others → Reads (kept ++ more) (objects ++ others)
  pub short : length kept ≤ length bytes

kept_nothing : (drops : ℕ → Bool) (bytes : List ℕ) → Kept drops bytes []
kept_nothing drops bytes = record { objects = []; none = tt; reads = λ more others reads. reads; short = omega arith }

abbrev no_fault : Option ObjFault → Bool
no_fault None = true
no_fault (Some fault) = false

pub kept_reads : (count place : ℕ) (drops : ℕ → Bool) (bytes : List ℕ) → length bytes ≤ count → (members_within count place bytes).fault ≡ None
    → Kept drops bytes (kept_within count drops bytes)
unfolding members_within kept_within
kept_reads zero place drops bytes small none = kept_nothing drops bytes
kept_reads (suc count) place drops [] small none = kept_nothing drops []
kept_reads (suc count) place drops (byte ∷ bytes) small none = go (object_at place (byte ∷ bytes)) refl (λ p rest. kept_reads count p drops rest) none
  where
    all : List ℕ
    all = byte ∷ bytes

    go : (r : Result Found ObjFault) → object_at place (byte ∷ bytes) ≡ r
        → ((p : ℕ) (rest : List ℕ) → length rest ≤ count → (members_within count p rest).fault ≡ None → Kept drops rest (kept_within count drops rest))
        → (with_first r (λ (f : Found). members_within count (past place (byte ∷ bytes) f) f.rest)).fault ≡ None
        → Kept drops (byte ∷ bytes) (kept_by drops (byte ∷ bytes) (object_at 0 (byte ∷ bytes)) (kept_within count drops))
    go (Err fault) e others none = absurd (true≢false (sym (ap no_fault none)))
    go (Ok found) e others none =
        let at = wherever place 0 (byte ∷ bytes) found e in
        let size = found_size 0 (byte ∷ bytes) found at in
        let rest = others (past place (byte ∷ bytes) found) found.rest (omega (arith, size, small)) none in
        subst (λ (r : Result Found ObjFault). Kept drops (byte ∷ bytes) (kept_by drops (byte ∷ bytes) r (kept_within count drops))) (sym at)
        (by_code found at rest (drops found.object.code) refl)
      where
        by_code : (found : Found) → object_at 0 (byte ∷ bytes) ≡ Ok found → Kept drops found.rest (kept_within count drops found.rest) → (b : Bool)
            → drops found.object.code ≡ b
            → Kept drops (byte ∷ bytes)
            (cond b [] (take (length (byte ∷ bytes) - length found.rest) (byte ∷ bytes)) ++ kept_within count drops found.rest)
        by_code found at rest true f = record {
          objects = rest.objects;
          none = rest.none;
          reads = rest.reads;
          short = omega (arith, rest.short, found_size 0 (byte ∷ bytes) found at);
        }
        by_code found at rest false f =
            let front : List ℕ = take (length (byte ∷ bytes) - length found.rest) (byte ∷ bytes) in
            let kept : List ℕ = kept_within count drops found.rest in
            record {
              objects = found.object ∷ rest.objects;
              none = (f, rest.none);
              reads = λ more others reads. subst (λ (xs : List ℕ). Reads xs (found.object ∷ (rest.objects ++ others))) (sym (append_assoc front kept more))
                  (reads_first (byte ∷ bytes) (kept ++ more) found (rest.objects ++ others) at (rest.reads more others reads));
              short = omega (
                arith,
                length-append front kept,
                length-take (length (byte ∷ bytes) - length found.rest) (byte ∷ bytes),
                rest.short,
                found_size 0 (byte ∷ bytes) found at,
              );
            }

-- ---- finding one

pub parameter_read : (bytes : List ℕ) (objects : List Member) (code : ℕ) → Reads bytes objects
    → parameter bytes code ≡ found_data (Ok (first_with code objects))
unfolding parameter
parameter_read bytes objects code reads =
    ap (λ (m : Members). found_data (found_or_fault m.fault (first_with code m.objects))) (reads (length bytes) 0 (omega arith))

-- one that is dropped isn't among those that are kept
pub first_behind : (drops : ℕ → Bool) (code : ℕ) (objects others : List Member) → drops code ≡ true
    → AllByRecursion (λ (o : Member). drops o.code ≡ false) objects
    → first_with code (objects ++ others) ≡ first_with code others
first_behind drops code [] others dropped none = refl
first_behind drops code (object ∷ objects) others dropped none =
    cond-false (eqb object.code code) (Some object) (first_with code (objects ++ others)) (differ (eqb object.code code) refl)
    ∙ first_behind drops code objects others dropped none.1
  where
    differ : (b : Bool) → eqb object.code code ≡ b → eqb object.code code ≡ false
    differ true e = absurd (true≢false (sym dropped ∙ ap drops (sym (eqb-true object.code code e)) ∙ none.0))
    differ false e = e
