-- The runs of the code are the characters of the definitions, in both directions.
use Rattle.std.proofs.Common.{◌≡◌, ℕ, zero, suc, ◌+◌, ◌-◌, ◌<◌, ◌≤◌, ◌&&◌, Bool, true, nat_eq, nat_lt, nat_le, find, Option, None, Some, option_map}
use Rattle.std.proofs.Common.{refl, ap, arith, eqb-true, ltb-true, leb-true, inl, inr}
use Rattle.std.proofs.lemmas.Bool.{cases_eq}
use Rattle.std.specs.Option.{option_eq}
use Rattle.std.proofs.lemmas.Bool.{and_parts}
use Rattle.ddm_codepoints.specs.declared.character.Run.{Run}
use Rattle.ddm_codepoints.specs.declared.character.TheConstants.{RUNS}
use Rattle.ddm_codepoints.specs.Character.{ebcdic_of, ascii_of}
use Rattle.ddm_codepoints.proofs.Found.{found_passes}

-- ---- what holds of each number below a bound, by computing

abbrev passes_upto : (ℕ → Bool) → ℕ → Bool
passes_upto p zero = true
passes_upto p (suc n) = p n && passes_upto p n

passes_below : (p : ℕ → Bool) (n : ℕ) → passes_upto p n ≡ true → (k : ℕ) → k < n → p k ≡ true
passes_below p zero e k h = absurd (omega (arith, h))
passes_below p (suc n) e k h =
    let both = and_parts (p n) (passes_upto p n) e in
    elim (cases_eq k n) [
      | inl same ↦ rw same both.0
      | inr differ ↦ passes_below p n both.1 k (omega (arith, h, differ))
    ]

pub same_option : (a b : Option ℕ) → option_eq nat_eq a b ≡ true → a ≡ b
same_option None None e = refl
same_option None (Some y) e = absurd (cc)
same_option (Some x) None e = absurd (cc)
same_option (Some x) (Some y) e = ap Some (eqb-true x y e)

-- ---- runs

-- the tests by which the code looks for a run
abbrev pub has_ascii : ℕ → Run → Bool
has_ascii ascii run = nat_le run.0 ascii && nat_lt (ascii - run.0) run.2

abbrev pub has_ebcdic : ℕ → Run → Bool
has_ebcdic ebcdic run = nat_le run.1 ebcdic && nat_lt (ebcdic - run.1) run.2

-- a run ends within a byte
abbrev fits : Run → Bool
fits run = nat_le (run.0 + run.2) 256 && nat_le (run.1 + run.2) 256

pub ascii_within : (ascii : ℕ) (run : Run) → Some run ≡ find (has_ascii ascii) RUNS → (run.0 ≤ ascii) × (run.1 + (ascii - run.0) < 256)
ascii_within ascii run e =
    let passed = found_passes (has_ascii ascii) fits RUNS run refl e in
    let has = and_parts (nat_le run.0 ascii) (nat_lt (ascii - run.0) run.2) passed.0 in
    let ends = and_parts (nat_le (run.0 + run.2) 256) (nat_le (run.1 + run.2) 256) passed.1 in
    let low : run.0 ≤ ascii = leb-true run.0 ascii has.0 in
    let high : ascii - run.0 < run.2 = ltb-true (ascii - run.0) run.2 has.1 in
    let room : run.1 + run.2 ≤ 256 = leb-true (run.1 + run.2) 256 ends.1 in
    (low, omega arith)

pub ebcdic_within : (ebcdic : ℕ) (run : Run) → Some run ≡ find (has_ebcdic ebcdic) RUNS → (run.1 ≤ ebcdic) × (run.0 + (ebcdic - run.1) < 256)
ebcdic_within ebcdic run e =
    let passed = found_passes (has_ebcdic ebcdic) fits RUNS run refl e in
    let has = and_parts (nat_le run.1 ebcdic) (nat_lt (ebcdic - run.1) run.2) passed.0 in
    let ends = and_parts (nat_le (run.0 + run.2) 256) (nat_le (run.1 + run.2) 256) passed.1 in
    let low : run.1 ≤ ebcdic = leb-true run.1 ebcdic has.0 in
    let high : ebcdic - run.1 < run.2 = ltb-true (ebcdic - run.1) run.2 has.1 in
    let room : run.0 + run.2 ≤ 256 = leb-true (run.0 + run.2) 256 ends.0 in
    (low, omega arith)

abbrev in_ebcdic : ℕ → Option Run → Option ℕ
in_ebcdic ascii found = option_map (λ run. run.1 + (ascii - run.0)) found

abbrev in_ascii : ℕ → Option Run → Option ℕ
in_ascii ebcdic found = option_map (λ run. run.0 + (ebcdic - run.1)) found

abbrev same_ebcdic : ℕ → Bool
same_ebcdic ascii = option_eq nat_eq (in_ebcdic ascii (find (has_ascii ascii) RUNS)) (ebcdic_of ascii)

abbrev same_ascii : ℕ → Bool
same_ascii ebcdic = option_eq nat_eq (in_ascii ebcdic (find (has_ebcdic ebcdic) RUNS)) (ascii_of ebcdic)

all_same_ebcdic : passes_upto same_ebcdic 256 ≡ true
unfolding ebcdic_of
all_same_ebcdic = refl

all_same_ascii : passes_upto same_ascii 256 ≡ true
unfolding ascii_of
all_same_ascii = refl

pub ebcdic_found : (ascii : ℕ) → ascii < 256 → (found : Option Run) → found ≡ find (has_ascii ascii) RUNS → in_ebcdic ascii found ≡ ebcdic_of ascii
ebcdic_found ascii small found e = rw e (same_option _ _ (passes_below same_ebcdic 256 all_same_ebcdic ascii small))

pub ascii_found : (ebcdic : ℕ) → ebcdic < 256 → (found : Option Run) → found ≡ find (has_ebcdic ebcdic) RUNS → in_ascii ebcdic found ≡ ascii_of ebcdic
ascii_found ebcdic small found e = rw e (same_option _ _ (passes_below same_ascii 256 all_same_ascii ebcdic small))
