use Rattle.std.proofs.lemmas.List.{nil_from_length}
use Rattle.unit_segments.proofs.Written.{joins_on, all_joined}
use Rattle.unit_segments.proofs.join.join_replies.Goals as goal

pub loop-reply-preserved : goal.loop-reply-preserved
loop-reply-preserved c =
    joins_on c.loop-reply.out c.write_dss.new.out c.in-Some.reply.now c.in_ok-linked.field-0 c.in-Some.rest.now c.loop-reply.left.now c.args.replies.now
    c.loop-reply.invariant c.in-Some.ensures.cases.0 c.in_ok-linked.ensures c.in_ok-write_dss.ensures.ok

pub returns : goal.returns
returns c =
    all_joined c.loop-reply.out c.loop-reply.left.now c.args.replies.now c.loop-reply.invariant
    (nil_from_length c.loop-reply.left.now c.in_default.ensures.cases)
