use Rattle.std.proofs.Common.{ap, sym, subst, ◌∙◌}
use Rattle.dss_frame.specs.declared.fault.FeedFault.{FeedFault}
use Rattle.dss_frame.specs.declared.fault.StreamFault.{StreamFault}
use Rattle.std.specs.Prelude.{Option}
use Rattle.dss_frame.specs.Reading.{View, fed, Stopped}
use Rattle.dss_frame.specs.Scan.{at_position}
use Rattle.dss_frame.proofs.Loops.Scan.{fed_within, stopped_again, stopped_by}
use Rattle.dss_frame.proofs.reader.Reader.feed.Goals as goal

pub returns-in-Some-clause-err : goal.returns-in-Some-clause-err
returns-in-Some-clause-err c =
    subst (λ (e : FeedFault). Stopped e c.args.self.now c.args.self.now c.args.piece.now) (sym c.from.ensures)
    (stopped_again c.in-Some.fault c.args.self.now c.args.piece.now (sym (ap (λ (v : View). v.fault) c.self.view_is) ∙ c.in-Some.is))

pub invariant_of-self-2 : goal.invariant_of-self-2
invariant_of-self-2 c = (
  fed_within _ _ _ _ _ _ _ _ c.in-Ok.scan c.in-Ok.ensures.ok c.self.invariant.0,
  c.in-Ok.ensures.walked,
)

pub invariant_of-self-in-Some-fault : goal.invariant_of-self-in-Some-fault
invariant_of-self-in-Some-fault c = (
  fed_within _ _ _ _ _ _ _ _ c.in-Ok.scan c.in-Ok.ensures.ok c.self.invariant.0,
  c.in-Ok.ensures.walked,
)

pub returns-clause-ok : goal.returns-clause-ok
returns-clause-ok c =
    let r = c.self.inside in
    let v : View = at_position r.side r.limit r.position r.whole.items r.unread in
    c.in-Ok.ensures.ok
    ∙ ap (λ (o : Option StreamFault). fed (record v { fault = o }) c.args.piece.now) (sym c.in_default.is)
    ∙ ap (λ (w : View). fed w c.args.piece.now) c.self.view_is

pub returns-in-Some-fault-clause-err : goal.returns-in-Some-fault-clause-err
returns-in-Some-fault-clause-err c =
    let r = c.self.inside in
    let v : View = at_position r.side r.limit r.position r.whole.items r.unread in
    let left =
    c.in-Ok.ensures.ok
    ∙ ap (λ (o : Option StreamFault). fed (record v { fault = o }) c.args.piece.now) (sym c.in_default.is)
    ∙ ap (λ (w : View). fed w c.args.piece.now) c.self.view_is in
    let new : View = record {
      side = c.self.inside.side;
      limit = c.self.inside.limit;
      whole = c.read_piece-read.new.whole.items;
      position = c.in-Ok.scan.position;
      «open» = c.read_piece-read.new.unread;
      fault = c.in-Ok.scan.fault;
    } in
    subst (λ (e : FeedFault). Stopped e c.args.self.now new c.args.piece.now) (sym c.from-in-Some-fault.ensures)
    (stopped_by c.in-Some-fault.fault c.args.self.now new c.args.piece.now left c.in-Some-fault.is)
