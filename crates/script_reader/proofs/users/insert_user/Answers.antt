use Rattle.std.proofs.Common.{◌≡◌, ◌∷◌, ◌++◌, [], ap, sym, ◌∙◌, rules}
use Rattle.script_reader.specs.Names.{is_user}
use Rattle.script_reader.proofs.Names.{is_user-contains, KnowsUsers-push}
use Rattle.script_reader.proofs.users.insert_user.Goals as goal

pub returns-then-not-branch-clause-added : goal.returns-then-not-branch-clause-added
returns-then-not-branch-clause-added c =
    let taken = is_user-contains c.args.names.now c.args.list.now.items c.args.user.name c.args.key c.requires.known c.requires.key in
    let added = c.in_ok-insert.ensures.added in
    cc

pub returns-clause-added : goal.returns-clause-added
returns-clause-added c =
    let taken = is_user-contains c.args.names.now c.args.list.now.items c.args.user.name c.args.key c.requires.known c.requires.key in
    let added = c.in_ok-insert.ensures.added in
    cc

pub returns-clause-still_known : goal.returns-clause-still_known
returns-clause-still_known c =
    let items : c.push.new.self.items ≡ c.args.list.now.items ++ c.args.user ∷ [] = search rules in
    λ name.
    KnowsUsers-push c.args.names.now c.insert.new.self c.args.list.now.items c.args.user c.args.key c.requires.known c.requires.key
    c.in_ok-insert.ensures.keys name
    ∙ ap (is_user name) (sym items)
