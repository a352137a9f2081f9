use Rattle.std.proofs.Common.{◌≡◌, ◌∙◌, Option, Some, None, refl}
use Rattle.std.specs.Option.{is_some, option_map, option_copied}
use Rattle.std.specs.Borrow.{Bor}
use Rattle.gateway_wires.proofs.Lines.{seen_as}
use Rattle.gateway_wires.proofs.wires.Wires.is_dialled.Goals as goal

mapped : {A B : Type 0} (f : A → B) (x : Option A) → is_some x ≡ is_some (option_map f x)
mapped f None = refl
mapped f (Some x) = refl

copied : {T : Type 0} (x : Option (Bor T)) → is_some x ≡ is_some (option_copied x)
copied None = refl
copied (Some x) = refl

pub returns : goal.returns
returns g c =
    let w = c.self.inside in
    let there = rw c.deref.ensures.value at c.line_at.ensures in
    c.is_some.ensures ∙ copied c.line_at.result ∙ mapped _ (option_copied c.line_at.result)
    ∙ seen_as w.fell w.down w.lines.items c.args.number c.args.self.now (option_copied c.line_at.result) c.self.view_is there is_some
