-- What a loss leaves as it is.
use Rattle.std.proofs.Common.{◌≡◌, Option, Some, None, refl, sym, subst}
use Rattle.gateway_session.specs.declared.loss.LossWhy.{LossWhy}
use Rattle.gateway_session.specs.declared.held.Held.{Held}
use Rattle.gateway_session.specs.Session.{Session, uncounted}
use Rattle.gateway_session.specs.Steps.{after_lost, lost_by_held}
use Rattle.gateway_session.specs.Memory.{KeepsSaying}

keeps_by : (reason : LossWhy) (held : Option Held) (s : Session) → KeepsSaying s (uncounted (lost_by_held reason held s))
keeps_by reason None s = record { id = refl; to_say = refl; gone = refl }
keeps_by reason (Some held) s = record { id = refl; to_say = refl; gone = refl }

pub lost_keeps : (reason : LossWhy) (s after : Session) → after ≡ uncounted (after_lost reason s) → KeepsSaying s after
unfolding after_lost
lost_keeps reason s after is = subst (λ (a : Session). KeepsSaying s a) (sym is) (keeps_by reason s.held s)
