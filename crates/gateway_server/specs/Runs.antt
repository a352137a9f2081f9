-- What turns come to one after another: this project's own.
use Rattle.std.specs.Prelude.{◌≡◌, false}
use Rattle.gateway_session.specs.declared.need.Need.{Need}
use Rattle.gateway_session.specs.declared.need.Need.TheVariants as need
use Rattle.gateway_server.specs.declared.run.Step.{Step}
use Rattle.gateway_server.specs.declared.run.Step.TheVariants as step
use Rattle.gateway_server.specs.Turned.{is_done}

-- what a turn did, by what its session needed: it has ended exactly where it needed nothing
abbrev pub Steps : Step → Need → Type 0
Steps (step.Went event) n = is_done n ≡ false
Steps (step.Ended end) n = n ≡ need.Done end
