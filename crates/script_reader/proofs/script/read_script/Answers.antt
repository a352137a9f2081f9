use Rattle.std.proofs.Common.{◌≡◌, length, arith, rules}
use Rattle.script_reader.proofs.Lines.{line_short, script_of-long, read_more, read_refused, read_whole}
use Rattle.script_reader.proofs.script.read_script.Goals as goal

pub returns-then-text-gt-MOST_BYTES : goal.returns-then-text-gt-MOST_BYTES
returns-then-text-gt-MOST_BYTES c = script_of-long c.args.text.now c.if-text-gt-MOST_BYTES.true

pub add_line-requires : goal.add_line-requires
add_line-requires c =
    let short = line_short c.loop-rest.rest.now c.split_line.result.0.now _ c.split_line.ensures.lines in
    omega (arith, short, c.loop-rest.invariant.first, c.loop-rest.invariant.counted, c.loop-rest.invariant.short)

pub returns-in-Err : goal.returns-in-Err
returns-in-Err c =
    rw c.at.ensures
    (read_refused c.loop-rest.number c.loop-rest.draft c.add_line.new.self c.loop-rest.rest.now c.split_line.result.0.now c.split_line.result.1.now
    c.args.text.now c.loop-rest.invariant c.split_line.ensures.lines c.in-Err.fault c.in-Err.ensures)

pub loop-rest-preserved : goal.loop-rest-preserved
loop-rest-preserved c =
    read_more c.loop-rest.number c.loop-rest.draft c.add_line.new.self c.loop-rest.rest.now c.split_line.result.0.now c.split_line.result.1.now
    c.args.text.now c.loop-rest.invariant c.split_line.ensures.lines c.split_line.ensures.shorter c.in_default.ensures

pub returns : goal.returns
returns c =
    let empty : length c.loop-rest.rest.now ≡ 0 = search rules in
    rw (read_whole c.loop-rest.number c.loop-rest.draft c.loop-rest.rest.now c.args.text.now c.loop-rest.invariant empty) c.finish.ensures
