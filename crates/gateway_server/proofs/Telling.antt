-- What was said over some turns, with what is left to be said, is what was to be said.
use Rattle.std.proofs.Common.{◌≡◌, ℕ, Bool, true, false, List, [], ◌∷◌, ◌++◌, take, drop, length, refl, sym, ap, ◌∙◌, append_assoc}
use Rattle.std.proofs.lemmas.List.{append-nil, take-append-drop}
use Rattle.std.proofs.Math.Seq.{drop-append_seam}
use Rattle.reply_texts.specs.Closing.{memory_reply}
use Rattle.plain_model.specs.Core.{first_number}
use Rattle.gateway_session.specs.Session.{Session}
use Rattle.gateway_session.specs.Memory as memory
use Rattle.gateway_session.specs.Memory.{State, Runs, Closes, Closing, closing_with, front_of}
use Rattle.gateway_session.specs.Inputs.{Input, App, Lend, Dialled, Sent, Back, Given, Said, Lose, AppEnd, after_input, unsaid, added}
use Rattle.gateway_server.specs.Dialling.{finds_memory}
use Rattle.gateway_server.specs.Feeding.{after_turn}
use Rattle.gateway_server.specs.Went.{Fed, after_all, bytes_said, said_by, added_out, out_by, reply_out, memory_by, left_in}
use Rattle.gateway_server.proofs.Saying.{Seen, seen, added_behind}

-- ---- one step of a session that runs

added_is : (i : Input) (s : Session) → (after_input i s).to_say ≡ unsaid i s ++ added i s
added_is i s =
    let h = added_behind i s in
    let same : added i s ≡ h.0 = ap (λ (xs : List ℕ). drop (length (unsaid i s)) xs) h.1 ∙ drop-append_seam (unsaid i s) h.0 in
    h.1 ∙ ap (λ (xs : List ℕ). unsaid i s ++ xs) (sym same)

said_behind : (i : Input) (s : Session) → bytes_said i (Runs s) ++ unsaid i s ≡ s.to_say
said_behind (App piece) s = refl
said_behind (Lend lent) s = refl
said_behind (Dialled reached) s = refl
said_behind (Sent count) s = refl
said_behind (Back piece) s = refl
said_behind Given s = refl
said_behind (Said count) s = take-append-drop count s.to_say
said_behind (Lose reason) s = refl
said_behind (AppEnd failed) s = refl

-- the session that it comes to
pub record GoesOn (i : Input) (s : Session) : Type 0 where
  pub next : Session
  pub is : after_turn true i (Runs s) ≡ Runs next
  pub same : seen next ≡ seen (after_input i s)

pub goes_on : (i : Input) (s : Session) → GoesOn i s
goes_on (App piece) s = record { next = _; is = refl; same = refl }
goes_on (Lend lent) s = record { next = _; is = refl; same = refl }
goes_on (Dialled reached) s = record { next = _; is = refl; same = refl }
goes_on (Sent count) s = record { next = _; is = refl; same = refl }
goes_on (Back piece) s = record { next = _; is = refl; same = refl }
goes_on Given s = record { next = _; is = refl; same = refl }
goes_on (Said count) s = record { next = _; is = refl; same = refl }
goes_on (Lose reason) s = record { next = _; is = refl; same = refl }
goes_on (AppEnd failed) s = record { next = _; is = refl; same = refl }

pub stops : (i : Input) (s : Session) → after_turn false i (Runs s) ≡ Closes (closing_with (unsaid i s) s)
stops (App piece) s = refl
stops (Lend lent) s = refl
stops (Dialled reached) s = refl
stops (Sent count) s = refl
stops (Back piece) s = refl
stops Given s = refl
stops (Said count) s = refl
stops (Lose reason) s = refl
stops (AppEnd failed) s = refl

-- ---- one step of a session that closes

pub record ClosesOn (m : Bool) (i : Input) (c : Closing) : Type 0 where
  pub next : Closing
  pub is : after_turn m i (Closes c) ≡ Closes next
  pub says : bytes_said i (Closes c) ++ left_in (Closes next) ≡ left_in (Closes c)

rest_said : (count : ℕ) (rest : List ℕ) (c : Closing) → c.rest ≡ rest
    → take count (front_of rest c.reply) ++ left_in (Closes (memory.said_by count rest c)) ≡ rest ++ c.reply
rest_said count [] c e =
    ap (λ (xs : List ℕ). take count c.reply ++ (xs ++ drop count c.reply)) e ∙ take-append-drop count c.reply
rest_said count (byte ∷ bytes) c e =
    sym (append_assoc (take count (byte ∷ bytes)) (drop count (byte ∷ bytes)) c.reply)
    ∙ ap (λ (xs : List ℕ). xs ++ c.reply) (take-append-drop count (byte ∷ bytes))

pub closes_on : (m : Bool) (i : Input) (c : Closing) → ClosesOn m i c
closes_on true (App piece) c = record { next = c; is = refl; says = refl }
closes_on true (Lend lent) c = record { next = c; is = refl; says = refl }
closes_on true (Dialled reached) c = record { next = c; is = refl; says = refl }
closes_on true (Sent count) c = record { next = c; is = refl; says = refl }
closes_on true (Back piece) c = record { next = c; is = refl; says = refl }
closes_on true Given c = record { next = c; is = refl; says = refl }
closes_on true (Said count) c = record { next = memory.said_by count c.rest c; is = refl; says = rest_said count c.rest c refl }
closes_on true (Lose reason) c = record { next = c; is = refl; says = refl }
closes_on true (AppEnd failed) c = record { next = record c { gone = true }; is = refl; says = refl }
closes_on false (App piece) c = record { next = c; is = refl; says = refl }
closes_on false (Lend lent) c = record { next = c; is = refl; says = refl }
closes_on false (Dialled reached) c = record { next = c; is = refl; says = refl }
closes_on false (Sent count) c = record { next = c; is = refl; says = refl }
closes_on false (Back piece) c = record { next = c; is = refl; says = refl }
closes_on false Given c = record { next = c; is = refl; says = refl }
closes_on false (Said count) c = record { next = memory.said_by count c.rest c; is = refl; says = rest_said count c.rest c refl }
closes_on false (Lose reason) c = record { next = c; is = refl; says = refl }
closes_on false (AppEnd failed) c = record { next = c; is = refl; says = refl }

-- ---- some turns

-- what the turns after this state say, and what they leave
abbrev told_on : List Fed → State → List ℕ
told_on turns state = said_by turns state ++ left_in (after_all turns state)

told_next : (t : Fed) (others : List Fed) (state : State)
    → told_on (t ∷ others) state ≡ bytes_said t.input state ++ told_on others (after_turn t.memory t.input state)
told_next t others state =
    let next : State = after_turn t.memory t.input state in
    append_assoc (bytes_said t.input state) (said_by others next) (left_in (after_all others next))

closing_told : (turns : List Fed) (c : Closing) → told_on turns (Closes c) ≡ left_in (Closes c)
closing_told [] c = refl
closing_told (t ∷ others) c =
    let step = closes_on t.memory t.input c in
    told_next t others (Closes c)
    ∙ ap (λ (state : State). bytes_said t.input (Closes c) ++ told_on others state) step.is
    ∙ ap (λ (bytes : List ℕ). bytes_said t.input (Closes c) ++ bytes) (closing_told others step.next)
    ∙ step.says

-- what was to be said by the turns after this state
abbrev due_on : List Fed → State → List ℕ
due_on turns state = out_by turns state ++ memory_by turns state

-- one turn, and then the others
one_told : (m : Bool) (i : Input) (others : List Fed) (s : Session)
    → ((next : Session) → told_on others (Runs next) ≡ next.to_say ++ due_on others (Runs next))
    → bytes_said i (Runs s) ++ told_on others (after_turn m i (Runs s))
    ≡ s.to_say ++ (added_out m i s (out_by others (after_turn m i (Runs s))) ++ reply_out m s (memory_by others (after_turn m i (Runs s))))
one_told true i others s then_told =
    let step = goes_on i s in
    let front = bytes_said i (Runs s) in
    let due : List ℕ = due_on others (Runs step.next) in
    ap (λ (state : State). front ++ told_on others state) step.is
    ∙ ap (λ (bytes : List ℕ). front ++ bytes) (then_told step.next)
    ∙ ap (λ (bytes : List ℕ). front ++ (bytes ++ due)) (ap (λ (x : Seen). x.to_say) step.same ∙ added_is i s)
    ∙ ap (λ (bytes : List ℕ). front ++ bytes) (append_assoc (unsaid i s) (added i s) due)
    ∙ sym (append_assoc front (unsaid i s) (added i s ++ due))
    ∙ ap (λ (bytes : List ℕ). bytes ++ (added i s ++ due)) (said_behind i s)
    ∙ ap (λ (bytes : List ℕ). s.to_say ++ bytes)
    (sym (append_assoc (added i s) (out_by others (Runs step.next)) (memory_by others (Runs step.next)))
    ∙ ap (λ (state : State). (added i s ++ out_by others state) ++ memory_by others state) (sym step.is))
one_told false i others s then_told =
    let reply = memory_reply (first_number s.core) in
    ap (λ (state : State). bytes_said i (Runs s) ++ told_on others state) (stops i s)
    ∙ ap (λ (bytes : List ℕ). bytes_said i (Runs s) ++ bytes) (closing_told others (closing_with (unsaid i s) s))
    ∙ sym (append_assoc (bytes_said i (Runs s)) (unsaid i s) reply)
    ∙ ap (λ (bytes : List ℕ). bytes ++ reply) (said_behind i s)

pub all_told : (turns : List Fed) (s : Session) → told_on turns (Runs s) ≡ s.to_say ++ due_on turns (Runs s)
all_told [] s = sym (append-nil s.to_say)
all_told (t ∷ others) s = told_next t others (Runs s) ∙ one_told t.memory t.input others s (all_told others)

-- where it found its memory to the end, there is no RSCLMTRM

closing_stays : (turns : List Fed) (c : Closing) → finds_memory (after_all turns (Closes c)) ≡ false
closing_stays [] c = refl
closing_stays (t ∷ others) c =
    let step = closes_on t.memory t.input c in
    ap (λ (state : State). finds_memory (after_all others state)) step.is ∙ closing_stays others step.next

one_reply : (m : Bool) (i : Input) (others : List Fed) (s : Session)
    → ((next : Session) → finds_memory (after_all others (Runs next)) ≡ true → memory_by others (Runs next) ≡ [])
    → finds_memory (after_all others (after_turn m i (Runs s))) ≡ true → reply_out m s (memory_by others (after_turn m i (Runs s))) ≡ []
one_reply true i others s then_none found =
    let step = goes_on i s in
    ap (λ (state : State). memory_by others state) step.is
    ∙ then_none step.next (ap (λ (state : State). finds_memory (after_all others state)) (sym step.is) ∙ found)
one_reply false i others s then_none found =
    absurd (let none : finds_memory (after_all others (after_turn false i (Runs s))) ≡ false =
    ap (λ (state : State). finds_memory (after_all others state)) (stops i s) ∙ closing_stays others (closing_with (unsaid i s) s) in
    let apart : true ≡ false = sym found ∙ none in cc)

pub without_reply : (turns : List Fed) (s : Session) → finds_memory (after_all turns (Runs s)) ≡ true → memory_by turns (Runs s) ≡ []
without_reply [] s found = refl
without_reply (t ∷ others) s found = one_reply t.memory t.input others s (without_reply others) found
