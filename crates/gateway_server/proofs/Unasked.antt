-- What was asked for matters to none of what a run keeps of its session.
use Rattle.std.proofs.Common.{◌≡◌, ℕ, cond, List, [], ◌∷◌, Option, Some, None, refl, sym, ap, ◌∙◌, subst}
use Rattle.plain_model.specs.Core as core
use Rattle.gateway_session.specs.declared.held.Unasked.{Unasked}
use Rattle.gateway_session.specs.declared.need.Need.{Need}
use Rattle.gateway_session.specs.declared.need.Need.TheVariants as need
use Rattle.gateway_session.specs.Session as session
use Rattle.gateway_session.specs.Session.{Session, is_released, need_by_end, need_by_saying}
use Rattle.gateway_session.specs.Memory.{State, Runs, Closes, need_in, without_list, without_outcome}
use Rattle.gateway_server.specs.Dialling.{AsksDial}
use Rattle.gateway_server.specs.Leases.{grip_in, rests_in}
use Rattle.gateway_server.specs.Leaving.{is_gone}

-- a session of which something else isn't asked for yet
abbrev asked : Unasked → Session → Session
asked unasked s = record s { unasked = unasked }

saying_needs : (bytes : List ℕ) (u : Unasked) (s : Session) → need_by_saying bytes (asked u s) ≡ need_by_saying bytes s
saying_needs [] u s = refl
saying_needs (byte ∷ bytes) u s = refl

end_needs : (end : Option core.End) (u : Unasked) (s : Session) → need_by_end end (asked u s) ≡ need_by_end end s
end_needs None u s = ap (λ (n : Need). cond (is_released s.held) need.Give n) (saying_needs s.to_say u s)
end_needs (Some end) u s = refl

session_needs : (u : Unasked) (s : Session) → session.need (asked u s) ≡ session.need s
unfolding session.need
session_needs u s = end_needs s.core.end u s

pub list_needs : (state : State) → need_in (without_list state) ≡ need_in state
list_needs (Runs s) = session_needs (record s.unasked { list = None }) s
list_needs (Closes closing) = refl

outcome_needs : (state : State) → need_in (without_outcome state) ≡ need_in state
outcome_needs (Runs s) = session_needs (record s.unasked { outcome = None }) s
outcome_needs (Closes closing) = refl

pub outcome_grip : (state : State) → grip_in (without_outcome state) ≡ grip_in state
outcome_grip (Runs s) = refl
outcome_grip (Closes closing) = refl

pub outcome_rests : (state : State) → rests_in (without_outcome state) ≡ rests_in state
outcome_rests (Runs s) = refl
outcome_rests (Closes closing) = refl

pub outcome_gone : (state : State) → is_gone (without_outcome state) ≡ is_gone state
outcome_gone (Runs s) = refl
outcome_gone (Closes closing) = refl

asks_still : (state : State) → AsksDial state → AsksDial (without_outcome state)
asks_still (Runs s) asks = λ one. outcome_needs (Runs s) ∙ asks one
asks_still (Closes closing) asks = asks

pub outcome_asks : (old new : State) → new ≡ without_outcome old → AsksDial old → AsksDial new
outcome_asks old new is asks = subst AsksDial (sym is) (asks_still old asks)
