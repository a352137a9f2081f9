use Rattle.std.proofs.Common.{◌≡◌, ◌∙◌, ap, cond, Some, None, length, rules}
use Rattle.drda_trace.proofs.Capturing.{capture_of-long, read_more, read_refused, read_whole}
use Rattle.drda_trace.proofs.capture.read_capture.Goals as goal

pub returns-then-text-gt-MOST_BYTES : goal.returns-then-text-gt-MOST_BYTES
returns-then-text-gt-MOST_BYTES c = capture_of-long c.args.text.now c.if-text-gt-MOST_BYTES.true

pub returns-then-not-branch : goal.returns-then-not-branch
returns-then-not-branch c =
    read_refused c.loop-rest.number c.loop-rest.capture c.loop-rest.rest.now c.split_line.result.0.now c.split_line.result.1.now c.args.text.now
    c.loop-rest.invariant c.split_line.ensures.lines (c.in_ok-add_line.ensures ∙ ap (λ b. cond b (Some c.add_line.new.self) None) c.if-not-branch.true)

pub loop-rest-preserved : goal.loop-rest-preserved
loop-rest-preserved c =
    read_more c.loop-rest.number c.loop-rest.capture c.add_line.new.self c.loop-rest.rest.now c.split_line.result.0.now c.split_line.result.1.now
    c.args.text.now c.loop-rest.invariant c.split_line.ensures.lines c.split_line.ensures.shorter
    (c.in_ok-add_line.ensures ∙ ap (λ b. cond b (Some c.add_line.new.self) None) c.if-not-branch.false)

pub returns : goal.returns
returns c =
    let empty : length c.loop-rest.rest.now ≡ 0 = search rules in
    read_whole c.loop-rest.number c.loop-rest.capture c.loop-rest.rest.now c.args.text.now c.loop-rest.invariant empty
