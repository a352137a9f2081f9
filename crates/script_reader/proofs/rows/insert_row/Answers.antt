use Rattle.std.proofs.Common.{◌≡◌, ◌<◌, ◌^◌, ◌∷◌, ◌++◌, [], ap, sym, ◌∙◌, arith, rules}
use Rattle.script_reader.specs.Names.{is_row}
use Rattle.script_reader.proofs.Names.{is_row-contains, KnowsRows-push}
use Rattle.script_reader.proofs.rows.insert_row.Goals as goal

pub returns-then-not-branch-clause-added : goal.returns-then-not-branch-clause-added
returns-then-not-branch-clause-added c =
    let row = c.args.row in
    let within : row.key < 2 ^ 32 = omega arith in
    let there = is_row-contains c.args.names.now c.args.list.now.items row.schema row.key c.args.name within c.requires.known c.requires.name in
    let added = c.in_ok-insert.ensures.added in
    cc

pub returns-clause-added : goal.returns-clause-added
returns-clause-added c =
    let row = c.args.row in
    let within : row.key < 2 ^ 32 = omega arith in
    let there = is_row-contains c.args.names.now c.args.list.now.items row.schema row.key c.args.name within c.requires.known c.requires.name in
    let added = c.in_ok-insert.ensures.added in
    cc

pub returns-clause-still_known : goal.returns-clause-still_known
returns-clause-still_known c =
    let row = c.args.row in
    let within : row.key < 2 ^ 32 = omega arith in
    let items : c.push.new.self.items ≡ c.args.list.now.items ++ row ∷ [] = search rules in
    λ schema key key_in.
    KnowsRows-push c.args.names.now c.insert.new.self c.args.list.now.items row c.args.name within c.requires.known c.requires.name
    c.in_ok-insert.ensures.keys schema key key_in
    ∙ ap (is_row schema key) (sym items)
