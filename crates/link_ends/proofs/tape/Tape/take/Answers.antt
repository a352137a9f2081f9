use Rattle.std.proofs.Common.{List, ℕ, refl}
use Rattle.std.proofs.Math.Seq.{take-add}
use Rattle.std.proofs.lemmas.List.{drop-drop}
use Rattle.link_ends.proofs.tape.Tape.take.Goals as goal

pub returns : goal.returns
returns c =
    let bytes : List ℕ = c.self.inside.bytes in
    rw (← c.self.view_is, take-add c.self.inside.place c.args.count bytes, drop-drop c.args.count c.self.inside.place bytes) refl
