use Rattle.member_server.proofs.Serving.{wants_memory_first}
use Rattle.member_server.proofs.session.member_session.Goals as goal

pub returns-in-Err : goal.returns-in-Err
returns-in-Err g c = wants_memory_first g.G.Group.meaning (g.A.Link.state c.args.app.now)
