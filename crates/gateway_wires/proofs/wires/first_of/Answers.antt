use Rattle.std.proofs.Common.{length, refl}
use Rattle.std.proofs.lemmas.Option.{slice_get_read}
use Rattle.gateway_wires.proofs.Lowest.{IsFirstOf, first_is, lowest_next, lowest_of_all}
use Rattle.gateway_wires.proofs.wires.first_of.Goals as goal

pub loop-numbers-preserved : goal.loop-numbers-preserved
loop-numbers-preserved c =
    let there = slice_get_read c.args.flying.now (length c.args.flying.now) c.loop-numbers.numbers-index c.numbers-item.result refl
    c.loop-numbers-test.true c.numbers-item.is in
    let first : IsFirstOf c.numbers-item.result c.copied.result =
    rw c.copied.ensures (first_is c.numbers-item.result c.first.result c.first.ensures.variant.1 c.first.ensures.member c.first.ensures.least) in
    rw c.lower-lowest.ensures (lowest_next c.args.flying.now c.loop-numbers.numbers-index c.numbers-item.result there c.loop-numbers.lowest
    c.copied.result c.loop-numbers.invariant first)

pub returns : goal.returns
returns c = lowest_of_all c.args.flying.now c.loop-numbers.numbers-index c.loop-numbers.lowest c.loop-numbers-test.false c.loop-numbers.invariant
