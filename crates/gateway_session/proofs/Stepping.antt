-- What a session comes to by what its running part comes to in a step.
use Rattle.std.proofs.Common.{◌≡◌, ℕ, Bool, true, List, Option, Some, None, Result, Ok, Err, sym, ap, subst, ◌∙◌}
use Rattle.std.specs.Prelude.{OnOk, OnErr}
use Rattle.plain_model.specs.Lost.{left as core_left}
use Rattle.gateway_session.specs.declared.held.Held.{Held}
use Rattle.gateway_session.specs.declared.loss.LossWhy.TheVariants as why
use Rattle.gateway_session.specs.declared.session.Closing.{Closing as Left}
use Rattle.gateway_session.specs.declared.session.Last.{Last}
use Rattle.gateway_session.specs.Session.{Session, uncounted, sending_by_held}
use Rattle.gateway_session.specs.Steps.{after_app_end, after_lost, lost_by_held}
use Rattle.gateway_session.specs.Memory.{State, Runs, KeepsSaying, IsLast, IsGoing, closed_after, step, app_end_in, out_of_memory, to_send_in}
use Rattle.gateway_session.specs.Closing.{state_of, ClosesEmpty}
use Rattle.gateway_session.proofs.Needs.{closes_with}

pub goes : (s : Session) (closing : Option Left) → closing ≡ None → IsGoing (state_of s closing)
goes s closing going = subst (λ (c : Option Left). IsGoing (state_of s c)) (sym going) tt

pub closes_empty : (s : Session) (closing : Option Left) → closing ≡ None → ClosesEmpty s closing
closes_empty s closing going = subst (λ (c : Option Left). ClosesEmpty s c) (sym going) tt

-- the state before a step of a session that runs
runs_before : (s : Session) (closing : Option Left) (before : State) → closing ≡ None → state_of s closing ≡ before → Runs s ≡ before
runs_before s closing before going is = ap (state_of s) (sym going) ∙ is

pub step_done : (f : Session → Session) (s after : Session) (closing : Option Left) (before : State) → closing ≡ None → state_of s closing ≡ before
    → after ≡ uncounted (f s) → state_of after closing ≡ step f before
step_done f s after closing before going is after_is =
    ap (state_of after) going ∙ ap Runs after_is ∙ ap (step f) (runs_before s closing before going is)

pub step_ok : {A E : Type 0} (f : Session → Session) (s after : Session) (closing : Option Left) (result stepped : Result A E) (before now : State)
    → closing ≡ None → state_of s closing ≡ before → result ≡ stepped → OnOk stepped (after ≡ uncounted (f s))
    → OnOk result (now ≡ state_of after closing) → OnOk result (now ≡ step f before)
step_ok {A} {E} f s after closing result stepped before now going is same ok closes = by_result result same closes
  where
    by_result : (r : Result A E) → r ≡ stepped → OnOk r (now ≡ state_of after closing) → OnOk r (now ≡ step f before)
    by_result (Err e) same closes = tt
    by_result (Ok a) same closes =
        let after_is : after ≡ uncounted (f s) = subst (λ (r : Result A E). OnOk r (after ≡ uncounted (f s))) (sym same) ok in
        closes ∙ step_done f s after closing before going is after_is

pub step_memory : {A E : Type 0} (rest : Session → List ℕ) (s after : Session) (closing : Option Left) (result stepped : Result A E) (before now : State)
    (last : Last) → closing ≡ None → state_of s closing ≡ before → result ≡ stepped → IsLast before last
    → OnErr stepped (KeepsSaying (record s { to_say = rest s }) after)
    → OnErr result (now ≡ closed_after last (state_of after closing)) → OnErr result (now ≡ out_of_memory rest before)
step_memory {A} {E} rest s after closing result stepped before now last going is same is_last kept closes = by_result result same closes
  where
    by_result : (r : Result A E) → r ≡ stepped → OnErr r (now ≡ closed_after last (state_of after closing)) → OnErr r (now ≡ out_of_memory rest before)
    by_result (Ok a) same closes = tt
    by_result (Err e) same closes =
        let runs = runs_before s closing before going is in
        let kept_now = subst (λ (r : Result A E). OnErr r (KeepsSaying (record s { to_say = rest s }) after)) (sym same) kept in
        closes ∙ ap (λ (c : Option Left). closed_after last (state_of after c)) going
        ∙ closes_with (rest s) s after last (subst (λ (b : State). IsLast b last) (sym runs) is_last) kept_now
        ∙ ap (out_of_memory rest) runs

-- ---- what is sent

pub sends : (s : Session) (closing : Option Left) (before : State) → closing ≡ None → state_of s closing ≡ before → to_send_in before ≡ sending_by_held s.held
sends s closing before going is = ap to_send_in (sym (runs_before s closing before going is))

-- ---- the application ends

pub app_end_closes : (failed : Bool) (s after : Session) (closing : Option Left) → ClosesEmpty s closing → after ≡ uncounted (after_app_end failed s)
    → (state_of after closing ≡ app_end_in failed (state_of s closing)) × ClosesEmpty after closing
unfolding after_app_end after_lost
app_end_closes failed s after None empty is = (ap Runs is, tt)
app_end_closes failed s after (Some left) empty is =
    let none : after_app_end failed s ≡ record s { core = core_left failed s.core; gone = true } =
    ap (λ (held : Option Held). record (lost_by_held why.Left held s) { core = core_left failed (lost_by_held why.Left held s).core; gone = true })
    empty.held in
    let after_is : after ≡ uncounted (record s { core = core_left failed s.core; gone = true }) = is ∙ ap uncounted none in (
      ap (λ (a : Session). state_of a (Some left)) after_is,
      subst (λ (a : Session). ClosesEmpty a (Some left)) (sym after_is)
          (record { held = empty.held; list = empty.list; word = empty.word; outcome = empty.outcome }),
    )
