use Rattle.std.proofs.Common.{◌≡◌, true, false, Result, Ok, Err}
use Rattle.std.specs.Prelude.{OnErr, IsOk}
use Rattle.gateway_session.specs.Memory.{State, Runs, Closes, IsClosing, out_of_memory, rest_after_said}
use Rattle.gateway_session.specs.Inputs as Input
use Rattle.gateway_server.specs.Feeding.{starved}
use Rattle.gateway_server.specs.Leases.{held_by}
use Rattle.gateway_server.proofs.Feeds.{fed_has}
use Rattle.gateway_server.proofs.Gripping.{Kept, said_feeds}
use Rattle.gateway_server.proofs.feeding.feed_said.Goals as goal

-- a session that closes finds its memory
wanting : {A E : Type 0} (r : Result A E) (n : _) (old new : State) → OnErr r (new ≡ out_of_memory (rest_after_said n) old) → (IsClosing old → IsOk r)
    → OnErr r (new ≡ starved (Input.Said n) old)
wanting (Ok x) n old new memory closing = tt
wanting (Err x) n (Runs s) new memory closing = memory
wanting (Err x) n (Closes c) new memory closing = absurd (let no : false ≡ true = closing tt in cc)

memory : (c : goal.After-is_ok) → OnErr c.on_said.result (c.on_said.new.self ≡ starved (Input.Said c.args.n) c.args.session.now)
memory c = wanting c.on_said.result c.args.n c.args.session.now c.on_said.new.self c.on_said.ensures.memory c.on_said.ensures.closing

kept : (c : goal.After-is_ok) → Kept (held_by c.args.session.now) (held_by c.on_said.new.self)
kept c =
    fed_has (λ state. Kept (held_by c.args.session.now) (held_by state)) c.on_said.result (Input.Said c.args.n) c.args.session.now c.on_said.new.self
    c.on_said.ensures.ok
    (memory c) (λ memory. said_feeds memory c.args.n c.args.session.now)

pub returns-clause-grip : goal.returns-clause-grip
returns-clause-grip c = (kept c).grip

pub returns-clause-rests : goal.returns-clause-rests
returns-clause-rests c = (kept c).rest c.requires.rests
