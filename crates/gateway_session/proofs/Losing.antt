-- What a loss makes of a session, by what its core and what was tried are then.
use Rattle.std.proofs.Common.{◌≡◌, ℕ, Bool, true, if◌then◌else◌, List, [], ◌∷◌, Option, Some, None, is_some, slice_get, option_copied, Bor, refl, sym, ap, ◌∙◌}
use Rattle.unit_segments.specs.declared.command.Command.{Command}
use Rattle.plain_model.specs.Core.{Core}
use Rattle.plain_model.specs.Lost.{lost, left}
use Rattle.session_core.specs.Seen.{unnumbered}
use Rattle.gateway_session.specs.declared.loss.LossWhy.{LossWhy}
use Rattle.gateway_session.specs.declared.loss.LossWhy.TheVariants as why
use Rattle.gateway_session.specs.declared.held.Held.{Held}
use Rattle.gateway_session.specs.declared.held.Tries.{Tries}
use Rattle.gateway_session.specs.Session.{Session, uncounted}
use Rattle.gateway_session.specs.Steps.{is_tried_at_once, tried_once, tries_after, lost_by_held, after_lost, after_app_end}
use Rattle.gateway_session.proofs.Counting.{lost_uncounted, left_uncounted}
use Rattle.gateway_session.proofs.Awaiting.{some_mapped}

-- ---- what was tried

tries_by : (segments : List (List Command)) (reason : LossWhy) (member : ℕ) (tries : Tries)
    → (if is_some (slice_get segments 0) then tried_once (is_tried_at_once reason) member tries else tries) ≡ tries_after segments reason member tries
tries_by [] reason member tries = refl
tries_by (g ∷ segments) reason member tries = refl

-- whether a segment is in work is asked by a reference to it
pub tries_are : (segments : List (List Command)) (reason : LossWhy) (member : ℕ) (before tries : Tries) (first : Option (Bor (List Command))) (in_work : Bool)
    → option_copied first ≡ slice_get segments 0 → in_work ≡ is_some first
    → tries ≡ (if in_work then tried_once (is_tried_at_once reason) member before else before) → tries ≡ tries_after segments reason member before
tries_are segments reason member before tries first in_work first_is work tries_is =
    tries_is
    ∙ ap (λ (b : Bool). if b then tried_once (is_tried_at_once reason) member before else before)
    (work ∙ sym (some_mapped (λ (x : Bor (List Command)). x.now) first) ∙ ap (λ (o : Option (List Command)). is_some o) first_is)
    ∙ tries_by segments reason member before

-- ---- a loss

pub loses : (reason : LossWhy) (held : Held) (there : Option Held) (k after : Core) (tries : Tries) (s before : Session) → s ≡ before
    → s.core ≡ unnumbered k → s.held ≡ Some held → there ≡ None → after ≡ unnumbered (lost k) → tries ≡ tries_after k.segments reason held.member s.tries
    → record s { core = unnumbered after; held = there; tries = tries; unasked = record s.unasked { loss = Some (held.number, reason) } }
    ≡ uncounted (after_lost reason before)
unfolding after_lost
loses reason held there k after tries s before is core_is held_is there_is after_is tries_is =
    ap (λ (h : Option Held). record s {
      core = unnumbered after;
      held = h;
      tries = tries;
      unasked = record s.unasked { loss = Some (held.number, reason) };
    }) there_is
    ∙ sym (
    ap (λ (b : Session). uncounted (lost_by_held reason b.held b)) (sym is)
    ∙ ap (λ (h : Option Held). uncounted (lost_by_held reason h s)) held_is
    ∙ ap (λ (j : Core). record s {
      core = unnumbered (lost j);
      held = None;
      tries = tries_after j.segments reason held.member s.tries;
      unasked = record s.unasked { loss = Some (held.number, reason) };
    }) core_is
    ∙ ap (λ (j : Core). record s {
      core = j;
      held = None;
      tries = tries_after k.segments reason held.member s.tries;
      unasked = record s.unasked { loss = Some (held.number, reason) };
    }) (lost_uncounted k ∙ sym (ap unnumbered after_is))
    ∙ ap (λ (t : Tries). record s {
      core = unnumbered after;
      held = None;
      tries = t;
      unasked = record s.unasked { loss = Some (held.number, reason) };
    }) (sym tries_is)
    )

-- ---- the application ends

pub leaves : (failed : Bool) (k after : Core) (s there before : Session) → s ≡ there → there ≡ uncounted (after_lost why.Left before)
    → s.core ≡ unnumbered k → after ≡ left failed k → record s { core = unnumbered after; gone = true } ≡ uncounted (after_app_end failed before)
unfolding after_app_end
leaves failed k after s there before is there_is core_is after_is =
    ap (λ (j : Core). record s { core = unnumbered j; gone = true }) after_is
    ∙ ap (λ (j : Core). record s { core = j; gone = true }) (sym (left_uncounted failed k) ∙ ap (left failed) (sym core_is))
    ∙ ap (λ (a : Session). record a { core = left failed a.core; gone = true }) (is ∙ there_is)
    ∙ ap (λ (j : Core). record (after_lost why.Left before) { core = j; gone = true }) (left_uncounted failed (after_lost why.Left before).core)
