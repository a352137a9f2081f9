-- A header that is written in front of the data that a buffer ends with.
use Rattle.std.proofs.Common.{◌≡◌, ℕ, Bool, true, false, cond, leb, ◌+◌, ◌-◌, ◌<◌, ◌≤◌, List, [], ◌∷◌, ◌++◌, length, take, drop, refl, sym, ap, ◌∙◌, arith}
use Rattle.std.proofs.lemmas.Bool.{le-leb, lt-leb}
use Rattle.std.proofs.lemmas.List.{append-nil, take_at, take_all, take-append-le, drop-drop, drop-append-le, length-take, length-drop, length-append}
use Rattle.std.proofs.Math.ListN.{drop_of_length-le}
use Rattle.byteorder.specs.Endian.{big_bytes}
use Rattle.ddm_objects.specs.Objects.{greatest_short, short_object, long_object, canonical_object}

-- what a buffer has after a write to its bytes from a place on
pub patched : (items shown now : List ℕ) (at : ℕ) → shown ≡ items → at ≤ length items → at + length now ≡ length items →
    take (length items)
    ((take at shown ++ (now ++ drop (length shown - at) (drop at shown))) ++ drop
    (length (take at shown ++ (now ++ drop (length shown - at) (drop at shown)))) items) ≡ take at items ++ now
patched items shown now at same within size =
    let none : drop (length items - at) (drop at items) ≡ [] = drop_of_length-le (drop at items) (omega (arith, length-drop at items)) in
    let whole : take at items ++ (now ++ drop (length items - at) (drop at items)) ≡ take at items ++ now =
    ap (λ (xs : List ℕ). take at items ++ (now ++ xs)) none ∙ ap (λ (xs : List ℕ). take at items ++ xs) (append-nil now) in
    let patch : List ℕ → List ℕ = λ xs. take (length items) (xs ++ drop (length xs) items) in
    ap (λ (xs : List ℕ). patch (take at xs ++ (now ++ drop (length xs - at) (drop at xs)))) same
    ∙ ap patch whole
    ∙ take_at (take at items ++ now) (drop (length (take at items ++ now)) items) (length items) (omega (
      arith,
      length-append (take at items) now,
      length-take at items,
      size,
      within,
    ))

chosen_short : (code : ℕ) (held : List ℕ) → length held ≤ greatest_short → canonical_object code held ≡ short_object code held
chosen_short code held short = rw (le-leb (length held) greatest_short short) refl

chosen_long : (code : ℕ) (held : List ℕ) → greatest_short < length held → canonical_object code held ≡ long_object code held
chosen_long code held long = rw (lt-leb (length held) greatest_short long) refl

-- the bytes from a place on, as a call is given them
abbrev pub part_from : ℕ → List ℕ → List ℕ
part_from at shown = take (length shown - at) (drop at shown)

-- all bytes, where the call left others there
abbrev pub with_part : ℕ → List ℕ → List ℕ → List ℕ
with_part at shown now = take at shown ++ (now ++ drop (length shown - at) (drop at shown))

abbrev pub written_back : List ℕ → List ℕ → List ℕ
written_back items whole = take (length items) (whole ++ drop (length whole) items)

part_is : (at : ℕ) (shown items : List ℕ) → shown ≡ items → part_from at shown ≡ drop at items
part_is at shown items same =
    ap (part_from at) same ∙ take_all (length items - at) (drop at items) (omega (arith, length-drop at items))

pub short_written : (code at : ℕ) (items shown now : List ℕ) → shown ≡ items → at + 4 ≤ length items → length items - at - 4 ≤ greatest_short →
    now ≡ big_bytes 2 (length (part_from at shown)) ++ big_bytes 2 code ++ drop 4 (part_from at shown) →
    written_back items (with_part at shown now) ≡ take at items ++ canonical_object code (drop (at + 4) items)
short_written code at items shown now same within short is =
    let held : List ℕ = drop (at + 4) items in
    let size : length held ≡ length items - at - 4 = omega (arith, length-drop (at + 4) items) in
    let front : length (drop at items) ≡ length held + 4 = omega (arith, length-drop at items, size) in
    let rest : drop 4 (drop at items) ≡ held = drop-drop 4 at items in
    let object : now ≡ short_object code held =
    is ∙ ap (λ (xs : List ℕ). big_bytes 2 (length xs) ++ big_bytes 2 code ++ drop 4 xs) (part_is at shown items same)
    ∙ ap (λ (n : ℕ). big_bytes 2 n ++ big_bytes 2 code ++ drop 4 (drop at items)) front
    ∙ ap (λ (xs : List ℕ). big_bytes 2 (length held + 4) ++ big_bytes 2 code ++ xs) rest in
    patched items shown now at same (omega arith) (omega (arith, ap length object, size))
    ∙ ap (λ (xs : List ℕ). take at items ++ xs) (object ∙ sym (chosen_short code held (omega (arith, size, short))))

pub long_written : (code at : ℕ) (old items more shown now : List ℕ) → items ≡ old ++ more → length more ≡ 4 → shown ≡ items → at + 4 ≤ length old →
    greatest_short < length old - at - 4 →
    now ≡ big_bytes 2 0x8008 ++ big_bytes 2 code ++ big_bytes 4 (length (part_from at shown) - 8) ++ take (length (part_from at shown) - 8)
    (drop 4 (part_from at shown)) → written_back items (with_part at shown now) ≡ take at old ++ canonical_object code (drop (at + 4) old)
long_written code at old items more shown now grown four same within long is =
    let held : List ℕ = drop (at + 4) old in
    let size : length held ≡ length old - at - 4 = omega (arith, length-drop (at + 4) old) in
    let all : length items ≡ length old + 4 = omega (arith, ap length grown, length-append old more, four) in
    let front : length (drop at items) - 8 ≡ length held = omega (arith, length-drop at items, size, all) in
    let rest : drop 4 (drop at items) ≡ held ++ more =
    drop-drop 4 at items ∙ ap (λ (xs : List ℕ). drop (at + 4) xs) grown ∙ drop-append-le (at + 4) old more within in
    let object : now ≡ long_object code held =
    is ∙ ap (λ (xs : List ℕ). big_bytes 2 0x8008 ++ big_bytes 2 code ++ big_bytes 4 (length xs - 8) ++ take (length xs - 8) (drop 4 xs))
    (part_is at shown items same)
    ∙ ap (λ (n : ℕ). big_bytes 2 0x8008 ++ big_bytes 2 code ++ big_bytes 4 n ++ take n (drop 4 (drop at items))) front
    ∙ ap (λ (xs : List ℕ). big_bytes 2 0x8008 ++ big_bytes 2 code ++ big_bytes 4 (length held) ++ xs) (ap (take (length held)) rest
    ∙ take_at held more (length held) refl) in
    let before : take at items ≡ take at old = ap (take at) grown ∙ take-append-le at old more (omega arith) in
    patched items shown now at same (omega (arith, all)) (omega (arith, ap length object, size, all))
    ∙ ap (λ (xs : List ℕ). xs ++ now) before
    ∙ ap (λ (xs : List ℕ). take at old ++ xs) (object ∙ sym (chosen_long code held (omega (arith, size, long))))
