use Rattle.member_server.proofs.Serving.{ends_by_reading}
use Rattle.member_server.proofs.session.exchange.Goals as goal

pub returns-in-Ok : goal.returns-in-Ok
returns-in-Ok g c = λ old going. c.answer.ensures old (g.A.Link.state c.args.app.now) going c.in-Ok.ensures.heard

pub returns-in-Err : goal.returns-in-Err
returns-in-Err g c = λ old going.
    ends_by_reading g.G.Group.meaning old (g.A.Link.state c.args.app.now) (g.A.Link.state c.hear.new.app) c.args.conversation.now c.in-Err.end going
    c.in-Err.ensures.broke
