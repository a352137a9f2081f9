-- The format byte: what it says is read from it again, and a byte that is read is the format byte of what it says.
use Rattle.std.proofs.Common.{◌≡◌, ℕ, zero, suc, ◌+◌, ◌*◌, ◌/◌, ◌%◌, ◌<◌, ◌≤◌, Bool, true, false, not, eqb, ◌||◌, cond, IsTrue, refl, ap, sym, subst}
use Rattle.std.proofs.Common.{◌∙◌, arith, inl, inr}
use Rattle.std.proofs.lemmas.Bool.{and_parts, and_from, or_cases, eqb-true, not-true, false≢true}
use Rattle.dss_frame.specs.declared.dss.Kind.{Kind}
use Rattle.dss_frame.specs.declared.dss.Kind.TheVariants.{Request, Reply, Object}
use Rattle.dss_frame.specs.declared.dss.Side.{Side}
use Rattle.dss_frame.specs.declared.dss.Side.TheVariants.{Requests, Replies}
use Rattle.dss_frame.specs.declared.dss.Dss.{Dss}
use Rattle.dss_frame.specs.Dss.{kind_number, flag, format_byte}
use Rattle.dss_frame.specs.Segments.{has_bit, kind_of, is_kind_of, is_format_of}
use Rattle.dss_frame.specs.Spelling.{IsKindOf, IsDssOf}

-- ---- the bits and the low half of a byte

record HasParts (chained go_on same low byte : ℕ) : Type 0 where
  reserved : byte / 128 % 2 ≡ 0
  sixth : byte / 64 % 2 ≡ chained
  fifth : byte / 32 % 2 ≡ go_on
  fourth : byte / 16 % 2 ≡ same
  low_half : byte % 16 ≡ low

parts_of_sum : (chained go_on same low byte : ℕ) → chained ≤ 1 → go_on ≤ 1 → same ≤ 1 → low < 4 → byte ≡ 64 * chained + 32 * go_on + 16 * same + low
    → HasParts chained go_on same low byte
parts_of_sum chained go_on same low byte c g s l e =
    record { reserved = omega arith; sixth = omega arith; fifth = omega arith; fourth = omega arith; low_half = omega arith }

flag_is : (b : Bool) (value : ℕ) → (flag b value ≡ value * flag b 1) × (flag b 1 ≤ 1)
flag_is true value = (omega arith, omega arith)
flag_is false value = (omega arith, omega arith)

bit_is : (b : Bool) (x : ℕ) → x ≡ flag b 1 → eqb x 1 ≡ b
bit_is true x e = rw e refl
bit_is false x e = rw e refl

flag_back : (x value : ℕ) → x < 2 → flag (eqb x 1) value ≡ value * x
flag_back zero value lt = omega arith
flag_back (suc zero) value lt = omega arith
flag_back (suc (suc x)) value lt = absurd (omega arith)

-- ---- the kind

-- the kind that the low half says
abbrev low_kind : ℕ → Kind
low_kind low = cond (eqb low 1) Request (cond (eqb low 2) Reply Object)

number_small : (k : Kind) → kind_number k < 4
number_small Request = omega arith
number_small Reply = omega arith
number_small Object = omega arith

kind_again : (k : Kind) → low_kind (kind_number k) ≡ k
kind_again Request = refl
kind_again Reply = refl
kind_again Object = refl

kind_accepted : (side : Side) (k : Kind) → IsKindOf side k → is_kind_of side (kind_number k) ≡ true
kind_accepted Requests Request h = refl
kind_accepted Requests Reply h = absurd h
kind_accepted Requests Object h = refl
kind_accepted Replies Request h = absurd h
kind_accepted Replies Reply h = refl
kind_accepted Replies Object h = refl

-- what an accepted low half says
record IsLowHalf (side : Side) (low : ℕ) : Type 0 where
  kind : IsKindOf side (low_kind low)
  number : kind_number (low_kind low) ≡ low

low_half_of : (side : Side) (low : ℕ) → is_kind_of side low ≡ true → IsLowHalf side low
low_half_of Requests low e =
    elim (or_cases (eqb low 1) (eqb low 3) e) [
      | inl one ↦ subst (IsLowHalf Requests) (sym (eqb-true low 1 one)) (record { kind = tt; number = refl })
      | inr three ↦ subst (IsLowHalf Requests) (sym (eqb-true low 3 three)) (record { kind = tt; number = refl })
    ]
low_half_of Replies low e =
    elim (or_cases (eqb low 2) (eqb low 3) e) [
      | inl two ↦ subst (IsLowHalf Replies) (sym (eqb-true low 2 two)) (record { kind = tt; number = refl })
      | inr three ↦ subst (IsLowHalf Replies) (sym (eqb-true low 3 three)) (record { kind = tt; number = refl })
    ]

-- ---- the format byte of a DSS

format_parts : (d : Dss) → HasParts (flag d.chained 1) (flag d.go_on 1) (flag d.same 1) (kind_number d.kind) (format_byte d)
format_parts d =
    let c = flag_is d.chained 64 in
    let g = flag_is d.go_on 32 in
    let s = flag_is d.same 16 in
    parts_of_sum (flag d.chained 1) (flag d.go_on 1) (flag d.same 1) (kind_number d.kind) (format_byte d) c.1 g.1 s.1 (number_small d.kind)
    (omega (arith, c.0, g.0, s.0))

-- what the format byte of a DSS says
pub record Says (d : Dss) (byte : ℕ) : Type 0 where
  pub kind : kind_of byte ≡ d.kind
  pub chained : has_bit 64 byte ≡ d.chained
  pub same : has_bit 16 byte ≡ d.same
  pub go_on : has_bit 32 byte ≡ d.go_on

pub format_says : (d : Dss) → Says d (format_byte d)
format_says d =
    let p = format_parts d in
    record {
      kind = ap low_kind p.low_half ∙ kind_again d.kind;
      chained = bit_is d.chained _ p.sixth;
      same = bit_is d.same _ p.fourth;
      go_on = bit_is d.go_on _ p.fifth;
    }

only_chained : (same chained : Bool) → (IsTrue same → IsTrue chained) → (not same || chained) ≡ true
only_chained true true h = refl
only_chained true false h = absurd (false≢true (h refl))
only_chained false chained h = refl

pub format_accepted : (side : Side) (d : Dss) → IsDssOf side d → is_format_of side (format_byte d) ≡ true
format_accepted side d h =
    let p = format_parts d in
    let f = format_says d in
    let kind : is_kind_of side (format_byte d % 16) ≡ true = ap (is_kind_of side) p.low_half ∙ kind_accepted side d.kind h.kind in
    let clear : not (has_bit 128 (format_byte d)) ≡ true = ap (λ (x : ℕ). not (eqb x 1)) p.reserved in
    let next : (not (has_bit 16 (format_byte d)) || has_bit 64 (format_byte d)) ≡ true =
    ap (λ (b : Bool). not b || has_bit 64 (format_byte d)) f.same ∙ ap (λ (b : Bool). not d.same || b) f.chained ∙ only_chained d.same d.chained h.same in
    and_from (is_kind_of side (format_byte d % 16)) _ kind (and_from (not (has_bit 128 (format_byte d))) _ clear next)

-- ---- the DSS of an accepted byte

chained_only : (same chained : Bool) → (not same || chained) ≡ true → IsTrue same → IsTrue chained
chained_only true true e t = refl
chained_only true false e t = absurd (false≢true e)
chained_only false chained e t = absurd (false≢true t)

-- what an accepted byte says
pub record IsAccepted (side : Side) (byte : ℕ) : Type 0 where
  pub kind : IsKindOf side (kind_of byte)
  pub same : IsTrue (has_bit 16 byte) → IsTrue (has_bit 64 byte)
  pub again : flag (has_bit 64 byte) 64 + flag (has_bit 32 byte) 32 + flag (has_bit 16 byte) 16 + kind_number (kind_of byte) ≡ byte

pub accepted : (side : Side) (byte : ℕ) → byte < 256 → is_format_of side byte ≡ true → IsAccepted side byte
accepted side byte lt e =
    let p = and_parts (is_kind_of side (byte % 16)) _ e in
    let q = and_parts (not (has_bit 128 byte)) _ p.1 in
    let low = low_half_of side (byte % 16) p.0 in
    let number : kind_number (kind_of byte) ≡ byte % 16 = low.number in
    let c : flag (has_bit 64 byte) 64 ≡ 64 * (byte / 64 % 2) = flag_back (byte / 64 % 2) 64 (omega arith) in
    let g : flag (has_bit 32 byte) 32 ≡ 32 * (byte / 32 % 2) = flag_back (byte / 32 % 2) 32 (omega arith) in
    let s : flag (has_bit 16 byte) 16 ≡ 16 * (byte / 16 % 2) = flag_back (byte / 16 % 2) 16 (omega arith) in
    let top : flag (has_bit 128 byte) 128 ≡ 128 * (byte / 128 % 2) = flag_back (byte / 128 % 2) 128 (omega arith) in
    let clear : flag (has_bit 128 byte) 128 ≡ 0 = ap (λ (b : Bool). flag b 128) (not-true (has_bit 128 byte) q.0) in
    record {
      kind = low.kind;
      same = chained_only (has_bit 16 byte) (has_bit 64 byte) q.1;
      again = omega (arith, number, c, g, s, top, clear);
    }
