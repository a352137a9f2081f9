-- What is told of what the workers did.
use Rattle.std.proofs.Common.{◌≡◌, ◌∙◌, ap, sym, subst, ℕ, suc, ◌+◌, ◌≤◌, Bool, true, false, List, [], ◌∷◌, Some, length, map, cond, inl, inr, ⊎_elim, ◌⊎◌, arith}
use Rattle.std.specs.List.{All, list_any}
use Rattle.std.proofs.lemmas.Bool.{or_cases}
use Rattle.std.proofs.lemmas.List.Elements.{All-head, All-tail}
use Rattle.link_ends.specs.Counts.{one_more, Rose}
use Rattle.link_ends.specs.Sink.{SinkState}
use Rattle.program_ends.specs.Ends.{BrokeOff, NoWriteFailed}
use Rattle.program_ends.proofs.Commanding.{write_failed}
use Rattle.server_words.specs.Serve.{Serving}
use Rattle.gateway_workers.specs.Workers.{Seen, Work, IsWork}
use Rattle.serve_command.specs.Serve.{said_for, serve_text, Told, ToldAsSaid, DoorFailed, FaultsRose}

-- ---- a count of faults that rose

rose : (before now : ℕ) (failed : Bool) → now ≡ cond failed (one_more before) before → failed ≡ true → Rose before now
rose before now failed is fails =
    let risen : now ≡ one_more before = is ∙ ap (λ b. cond b (one_more before) before) fails in
    record { reached = omega (arith, risen) }

rises : {B : Type 0} (P : B → Type 0) (works : List (Work B)) → All (IsWork P) works → list_any (λ (work : Work B). work.failed) works ≡ true →
    FaultsRose (map (λ (work : Work B). work.before) works) (map (λ (work : Work B). work.now) works)
rises P [] each some = absurd (cc)
rises P (work ∷ works) each some =
    ⊎_elim (λ failed. inl (rose work.before.door.faults work.now.door.faults work.failed (All-head (IsWork P) work works each).door.faults failed))
    (λ later. inr (rises P works (All-tail (IsWork P) work works each) later)) (or_cases work.failed (list_any (λ w. w.failed) works) some)

-- where a call of a door failed, its count of faults rose
pub fault_rose : {B : Type 0} (P : B → Type 0) (ends ends_now : List (Seen B)) → DoorFailed P ends ends_now → FaultsRose ends ends_now
fault_rose {B} P ends ends_now failed =
    let served = failed.served in
    let risen = rises P served.works served.each served.fails in
    let first : FaultsRose ends (map (λ (work : Work B). work.now) served.works) =
    subst (λ (es : List (Seen B)). FaultsRose es (map (λ (work : Work B). work.now) served.works)) served.before risen in
    subst (λ (es : List (Seen B)). FaultsRose ends es) served.now first

-- ---- what is told

pub as_said : {B : Type 0} (Wrote : SinkState → SinkState → List ℕ → Type 0) (P : B → Type 0) (words : List (List ℕ)) (count : ℕ) (said : Serving)
    (ends ends_now : List (Seen B)) (sink sink_now : SinkState) → Some said ≡ said_for words count → count ≡ length ends →
    Told Wrote P said.options.sessions ends ends_now sink sink_now → ToldAsSaid Wrote P words ends ends_now sink sink_now
as_said Wrote P words count said ends ends_now sink sink_now says is of =
    record { said = said; says = sym (says ∙ ap (λ n. said_for words n) is); told = of }

-- where no count of faults rose, all is told, or memory ran out
pub all_told : {B : Type 0} (P : B → Type 0) (status sessions : ℕ) (ends ends_now : List (Seen B)) (sink sink_now : SinkState) →
    (status ≡ 0) ⊎ ((status ≡ 3) ⊎ ((status ≡ 4) ⊎ (status ≡ 5))) → (status ≡ 3 → DoorFailed P ends ends_now) →
    (status ≡ 4 → Told BrokeOff P sessions ends ends_now sink sink_now) → (FaultsRose ends ends_now → ⊥) → NoWriteFailed sink sink_now →
    (status ≡ 0) ⊎ (status ≡ 5)
all_told P status sessions ends ends_now sink sink_now is door_fault sink_fault no_fault no_write =
    ⊎_elim (λ done. inl done) (λ (other : (status ≡ 3) ⊎ ((status ≡ 4) ⊎ (status ≡ 5))).
    ⊎_elim (λ (three : status ≡ 3). absurd (no_fault (fault_rose P ends ends_now (door_fault three)))) (λ (rest : (status ≡ 4) ⊎ (status ≡ 5)).
    ⊎_elim (λ (four : status ≡ 4).
    let begun = sink_fault four in
    absurd (write_failed sink sink_now (serve_text sessions begun.calls) begun.wrote no_write)) (λ five. inr five) rest) other) is
