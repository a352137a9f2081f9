use Rattle.std.proofs.Common.{rules, arith, ◌≤◌, ◌<◌}
use Rattle.link_ends.specs.Prepared.{up_to_cut}
use Rattle.link_ends.proofs.Cuts.{at_most, at_least_one}
use Rattle.link_ends.proofs.marks.Marks.up_to.Goals as goal

-- src/marks.rt:40:5
pub returns-clause-most : goal.returns-clause-most
returns-clause-most c =
    let most : up_to_cut c.args.place c.self.inside.calls.items c.args.count ≤ c.args.count = at_most c.args.place c.self.inside.calls.items c.args.count in
    grind (rules, arith)

-- src/marks.rt:40:5
pub returns-clause-some : goal.returns-clause-some
returns-clause-some c some =
    let one : 0 < up_to_cut c.args.place c.self.inside.calls.items c.args.count = at_least_one c.args.place c.self.inside.calls.items c.args.count some in
    grind (rules, arith)
