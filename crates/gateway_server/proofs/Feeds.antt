-- What holds of a session however its input went holds of it.
use Rattle.std.proofs.Common.{◌≡◌, Bool, true, false, Result, Ok, Err, sym, subst}
use Rattle.std.specs.Prelude.{OnOk, OnErr}
use Rattle.gateway_session.specs.Memory.{State}
use Rattle.gateway_session.specs.Inputs.{Input}
use Rattle.gateway_server.specs.Feeding.{fed, starved, after_feeding}

pub fed_has : {A E : Type 0} (P : State → Type 0) (r : Result A E) (i : Input) (old new : State) → OnOk r (new ≡ fed i old)
    → OnErr r (new ≡ starved i old) → ((memory : Bool) → P (after_feeding memory i old)) → P new
fed_has P (Ok x) i old new ok memory h = subst P (sym ok) (h true)
fed_has P (Err x) i old new ok memory h = subst P (sym memory) (h false)
