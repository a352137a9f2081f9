-- Laws of reading: in whatever pieces, and whatever was read before.
use Rattle.std.proofs.Common.{◌≡◌, ℕ, zero, suc, ◌≤◌, List, [], ◌∷◌, ◌++◌, length, take, drop, Option, Some, None, is_some, if◌then◌else◌, refl, sym}
use Rattle.std.proofs.Common.{ap, subst, ◌∙◌, append_assoc, arith}
use Rattle.std.proofs.lemmas.List.{length-append, length-drop, take-append-le, drop-append-le}
use Rattle.dss_frame.specs.declared.dss.Dss.{Dss}
use Rattle.dss_frame.specs.declared.dss.Placed.{Placed}
use Rattle.dss_frame.specs.declared.fault.StreamFault.{StreamFault}
use Rattle.dss_frame.specs.declared.fault.StreamFault.TheVariants.{Frame}
use Rattle.dss_frame.specs.declared.step.Step.{Step}
use Rattle.dss_frame.specs.declared.step.Step.TheVariants.{Waits, Reads, Stops}
use Rattle.dss_frame.specs.Segments.{dss_of}
use Rattle.dss_frame.specs.Reading.{further_on, number_for, too_long, step_of, View, with_dss, after_step, read_on, with_bytes, read_all, fed, behind}
use Rattle.dss_frame.proofs.Pieces.Stable.{ends_append}
use Rattle.dss_frame.proofs.Pieces.NextStep.{IsWaiting, IsReading, IsLong, IsWrong, step_case, step_reads, long_append, wrong_append}

-- ---- reading on

abbrev pub with_fault : View → StreamFault → View
with_fault v fault = record v { «open» = []; fault = Some fault }

-- the DSS that comes next was read
abbrev pub read_next : View → ℕ → View
read_next v count = with_dss v (dss_of (take count v.open)) count

pub on_zero : (v : View) → read_on zero v ≡ v
unfolding read_on
on_zero v = refl

pub on_waits : (n : ℕ) (v : View) → step_of v.side v.position v.open ≡ Waits → read_on n v ≡ v
unfolding read_on
on_waits zero v e = refl
on_waits (suc n) v e = ap (λ (s : Step). after_step v s (read_on n)) e

pub on_reads : (n : ℕ) (v : View) (count : ℕ) → step_of v.side v.position v.open ≡ Reads count → read_on (suc n) v ≡ read_on n (read_next v count)
unfolding read_on
on_reads n v count e = ap (λ (s : Step). after_step v s (read_on n)) e

pub on_stops : (n : ℕ) (v : View) (fault : StreamFault) → step_of v.side v.position v.open ≡ Stops fault → read_on (suc n) v ≡ with_fault v fault
unfolding read_on
on_stops n v fault e = ap (λ (s : Step). after_step v s (read_on n)) e

pub on_none : (n : ℕ) (v : View) → length v.open ≡ 0 → read_on n v ≡ v
on_none n v none =
    elim (step_case v.side v.position v.open) [
      | IsWaiting e room step ↦ on_waits n v step
      | IsReading count e room six within step ↦ absurd (omega arith)
      | IsLong x e past within step ↦ absurd (omega arith)
      | IsWrong offset why e room within step ↦ absurd (omega arith)
    ]

-- each number of DSSs that is enough reads the same
pub enough : (n m : ℕ) (v : View) → length v.open ≤ n → length v.open ≤ m → read_on n v ≡ read_on m v
enough zero m v a b = on_none zero v (omega arith) ∙ sym (on_none m v (omega arith))
enough (suc n) zero v a b = on_none (suc n) v (omega arith) ∙ sym (on_none zero v (omega arith))
enough (suc n) (suc m) v a b =
    elim (step_case v.side v.position v.open) [
      | IsWaiting e room step ↦ on_waits (suc n) v step ∙ sym (on_waits (suc m) v step)
      | IsReading count e room six within step ↦
          let len = length-drop count v.open in
          on_reads n v count step ∙ enough n m (read_next v count) (omega arith) (omega arith) ∙ sym (on_reads m v count step)
      | IsLong x e past within step ↦ on_stops n v (too_long v.position v.open) step ∙ sym (on_stops m v (too_long v.position v.open) step)
      | IsWrong offset why e room within step ↦ on_stops n v _ step ∙ sym (on_stops m v _ step)
    ]

pub all_reads : (v : View) (count : ℕ) → step_of v.side v.position v.open ≡ Reads count → read_all (read_next v count) ≡ read_all v
all_reads v count e =
    let all = length v.open in
    enough (length (drop count v.open)) all (read_next v count) (omega arith) (omega (arith, length-drop count v.open))
    ∙ sym (on_reads all v count e) ∙ enough (suc all) all v (omega arith) (omega arith)

pub all_stops : (v : View) (fault : StreamFault) → step_of v.side v.position v.open ≡ Stops fault → with_fault v fault ≡ read_all v
all_stops v fault e = sym (on_stops (length v.open) v fault e) ∙ enough (suc (length v.open)) (length v.open) v (omega arith) (omega arith)

-- what holds where reading ends, and with each DSS that is read before, holds of what is read
pub on_ends : (R : View → View → Type 0) → ((v : View) → R v v)
    → ((v r : View) (count : ℕ) → step_of v.side v.position v.open ≡ Reads count → R (read_next v count) r → R v r)
    → ((v : View) (fault : StreamFault) → step_of v.side v.position v.open ≡ Stops fault → R v (with_fault v fault)) → (n : ℕ) (v : View) → R v (read_on n v)
on_ends R none reads stops zero v = subst (R v) (sym (on_zero v)) (none v)
on_ends R none reads stops (suc n) v =
    elim (step_case v.side v.position v.open) [
      | IsWaiting e room step ↦ subst (R v) (sym (on_waits (suc n) v step)) (none v)
      | IsReading count e room six within step ↦
          subst (R v) (sym (on_reads n v count step)) (reads v (read_on n (read_next v count)) count step (on_ends R none reads stops n (read_next v count)))
      | IsLong x e past within step ↦ subst (R v) (sym (on_stops n v (too_long v.position v.open) step)) (stops v (too_long v.position v.open) step)
      | IsWrong offset why e room within step ↦ subst (R v) (sym (on_stops n v _ step)) (stops v _ step)
    ]

-- ---- feeding

pub fed_stopped : (v : View) (p : List ℕ) (fault : StreamFault) → v.fault ≡ Some fault → fed v p ≡ v
unfolding fed
fed_stopped v p fault e = ap (λ (o : Option StreamFault). if is_some o then v else read_all (with_bytes v p)) e

pub fed_none : (v : View) (p : List ℕ) → v.fault ≡ None → fed v p ≡ read_on (length (v.open ++ p)) (with_bytes v p)
unfolding fed
fed_none v p e = ap (λ (o : Option StreamFault). if is_some o then v else read_all (with_bytes v p)) e

-- the DSS that comes next is the same one where more bytes follow
next_append : (v : View) (q : List ℕ) (count : ℕ) → count ≤ length v.open → read_next (with_bytes v q) count ≡ with_bytes (read_next v count) q
next_append v q count within =
    ap (λ (bytes : List ℕ). with_dss (with_bytes v q) (dss_of bytes) count) (take-append-le count v.open q within)
    ∙ ap (λ (bytes : List ℕ). record (read_next v count) { «open» = bytes }) (drop-append-le count v.open q within)

-- what is read with more bytes is what is read, and then what is read on with those bytes
on_append : (m n : ℕ) (v : View) (q : List ℕ) → v.fault ≡ None → length v.open ≤ m → length (v.open ++ q) ≤ n → fed (read_on m v) q ≡ read_on n (with_bytes v q)
on_append zero n v q none a b =
    ap (λ (w : View). fed w q) (on_zero v) ∙ fed_none v q none ∙ enough (length (v.open ++ q)) n (with_bytes v q) (omega arith) b
on_append (suc m) zero v q none a b =
    let len = length-append v.open q in
    ap (λ (w : View). fed w q) (on_none (suc m) v (omega arith)) ∙ fed_none v q none ∙ enough (length (v.open ++ q)) zero (with_bytes v q) (omega arith) b
on_append (suc m) (suc n) v q none a b =
    elim (step_case v.side v.position v.open) [
      | IsWaiting e room step ↦
          ap (λ (w : View). fed w q) (on_waits (suc m) v step) ∙ fed_none v q none ∙ enough (length (v.open ++ q)) (suc n) (with_bytes v q) (omega arith) b
      | IsReading count e room six within step ↦
          let len = length-drop count v.open in
          let both = length-append v.open q in
          let rest = length-append (drop count v.open) q in
          ap (λ (w : View). fed w q) (on_reads m v count step)
          ∙ on_append m n (read_next v count) q none (omega arith) (omega arith)
          ∙ ap (read_on n) (sym (next_append v q count within))
          ∙ sym (on_reads n (with_bytes v q) count (step_reads v.side v.position (v.open ++ q) count (ends_append v.side v.open q count e) room))
      | IsLong x e past within step ↦
          let fault = too_long v.position v.open in
          ap (λ (w : View). fed w q) (on_stops m v fault step)
          ∙ fed_stopped (with_fault v fault) q fault refl
          ∙ sym (on_stops n (with_bytes v q) fault (long_append v.side v.position v.open q x e past within))
      | IsWrong offset why e room within step ↦
          let fault = Frame (further_on v.position.at offset) why (number_for v.position v.open offset) in
          ap (λ (w : View). fed w q) (on_stops m v fault step)
          ∙ fed_stopped (with_fault v fault) q fault refl
          ∙ sym (on_stops n (with_bytes v q) fault (wrong_append v.side v.position v.open q offset why e room within))
    ]

fed_append_by : (o : Option StreamFault) (v : View) (p q : List ℕ) → v.fault ≡ o → fed (fed v p) q ≡ fed v (p ++ q)
fed_append_by (Some fault) v p q e = ap (λ (w : View). fed w q) (fed_stopped v p fault e) ∙ fed_stopped v q fault e ∙ sym (fed_stopped v (p ++ q) fault e)
fed_append_by None v p q e =
    let joined = append_assoc v.open p q in
    ap (λ (w : View). fed w q) (fed_none v p e)
    ∙ on_append (length (v.open ++ p)) (length (v.open ++ p ++ q)) (with_bytes v p) q e (omega arith) (omega arith)
    ∙ ap (λ (bytes : List ℕ). read_on (length bytes) (record v { «open» = bytes })) joined
    ∙ sym (fed_none v (p ++ q) e)

pub fed-append : (v : View) (p q : List ℕ) → fed (fed v p) q ≡ fed v (p ++ q)
fed-append v p q = fed_append_by v.fault v p q refl

-- ---- DSSs that were read before

next_behind : (front : List Placed) (v : View) (d : Dss) (count : ℕ) → with_dss (behind front v) d count ≡ behind front (with_dss v d count)
next_behind front v d count =
    ap (λ (whole : List Placed). record (with_dss v d count) { whole = whole }) (append_assoc front v.whole (record { at = v.position.at; dss = d } ∷ []))

step_behind : (n : ℕ) (s : Step) (front : List Placed) (v : View) → ((w : View) → read_on n (behind front w) ≡ behind front (read_on n w))
    → after_step (behind front v) s (read_on n) ≡ behind front (after_step v s (read_on n))
step_behind n Waits front v again = refl
step_behind n (Reads count) front v again =
    ap (read_on n) (next_behind front v (dss_of (take count v.open)) count) ∙ again (read_next v count)
step_behind n (Stops fault) front v again = refl

on_behind : (n : ℕ) (front : List Placed) (v : View) → read_on n (behind front v) ≡ behind front (read_on n v)
unfolding read_on
on_behind zero front v = refl
on_behind (suc n) front v = step_behind n (step_of v.side v.position v.open) front v (on_behind n front)

fed_behind_by : (o : Option StreamFault) (front : List Placed) (v : View) (p : List ℕ)
    → (if is_some o then behind front v else read_all (with_bytes (behind front v) p)) ≡ behind front (if is_some o then v else read_all (with_bytes v p))
fed_behind_by (Some fault) front v p = refl
fed_behind_by None front v p = on_behind (length (v.open ++ p)) front (with_bytes v p)

pub fed-behind : (front : List Placed) (v : View) (p : List ℕ) → fed (behind front v) p ≡ behind front (fed v p)
unfolding fed
fed-behind front v p = fed_behind_by v.fault front v p
