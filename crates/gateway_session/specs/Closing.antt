-- What code has for a session, whether it runs or closes. No standard speaks of it: this is this project's own.
use Rattle.std.specs.Prelude.{◌≡◌, drop, Option, Some, None}
use Rattle.gateway_session.specs.declared.session.Closing.{Closing as Left}
use Rattle.gateway_session.specs.Session.{Session}
use Rattle.gateway_session.specs.Memory.{State, Runs, Closes}

abbrev pub state_of : Session → Option Left → State
state_of s None = Runs s
state_of s (Some left) = Closes (record { id = s.id; rest = s.to_say; reply = drop left.said left.reply; loss = s.unasked.loss; gone = s.gone })

-- a session that closes holds no transport, and of what wasn't asked for it has a loss alone
pub record HasLossAlone (s : Session) : Type 0 where
  pub held : s.held ≡ None
  pub list : s.unasked.list ≡ None
  pub word : s.unasked.word ≡ None
  pub outcome : s.unasked.outcome ≡ None

abbrev pub ClosesEmpty : Session → Option Left → Type 0
ClosesEmpty s None = Unit {0}
ClosesEmpty s (Some left) = HasLossAlone s
