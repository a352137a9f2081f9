use Rattle.std.proofs.Common.{◌≡◌, ◌∙◌, sym, refl}
use Rattle.gateway_session.specs.declared.need.Need.TheVariants as need
use Rattle.gateway_session.specs.Memory.{need_in}
use Rattle.gateway_server.specs.Dialling.{counted}
use Rattle.gateway_server.specs.Events.{input_of}
use Rattle.gateway_server.specs.Leases.{grip_in}
use Rattle.gateway_server.proofs.Dialling.{quiet_turn, follows_none}
use Rattle.gateway_server.proofs.Gripping.{dial_holds, send_holds, back_holds, give_holds}
use Rattle.gateway_server.proofs.turning.call_needed.Goals as goal

pub granted-requires : goal.granted-requires
granted-requires g c = dial_holds c.args.session.now c.args.lease (sym c.need.ensures ∙ c.in-Dial.is) c.requires.ties

pub dialled-grant-requires : goal.dialled-grant-requires
dialled-grant-requires g c = send_holds c.args.session.now c.args.lease (sym c.need.ensures ∙ c.in-Send.is) c.requires.ties

pub dialled-grant-requires-in-Back : goal.dialled-grant-requires-in-Back
dialled-grant-requires-in-Back g c = back_holds c.args.session.now c.args.lease (sym c.need.ensures ∙ c.in-Back.is) c.requires.ties

pub dialled-grant-requires-in-Give : goal.dialled-grant-requires-in-Give
dialled-grant-requires-in-Give g c =
    give_holds c.args.session.now c.args.lease (sym c.need.ensures ∙ c.in-Give.is) c.requires.rests c.requires.ties

pub returns-in-Dial-clause-call : goal.returns-in-Dial-clause-call
returns-in-Dial-clause-call g c =
    let h = c.reach.ensures.call in
    let needed : need_in c.args.session.now ≡ need.Dial = sym c.need.ensures ∙ c.in-Dial.is in
    rw (needed, c.granted.ensures) (h.0, h.1, h.2, h.3, h.4, refl, refl)

pub returns-in-Say-clause-balance : goal.returns-in-Say-clause-balance
returns-in-Say-clause-balance g c =
    (quiet_turn (counted (g.N.Dial.state c.args.dial.now).calls (g.D.Lender.dials c.args.lender.now)) c.say-event.result.1
    (input_of c.args.bytes.now c.say-event.result.0) c.args.session.now c.say-event.new.session need.Say
    (c.say-event.ensures.session c.args.bytes.now) c.requires.asks (sym c.need.ensures ∙ c.in-Say.is) refl
    (λ none. follows_none (grip_in c.say-event.new.session) (grip_in c.args.session.now) c.say-event.ensures.grip none)).0
