use Rattle.std.proofs.Common.{ℕ, ◌+◌, ◌∙◌, length, ap, arith}
use Rattle.std.proofs.lemmas.List.{length_push}
use Rattle.link_ends.proofs.Lists.{no_items}
use Rattle.gateway_wires.proofs.Falling.{empty_of, none_pushed}
use Rattle.gateway_wires.proofs.wires.no_flying.Goals as goal

pub loop-preserved : goal.loop-preserved
loop-preserved c =
    let none = empty_of c.new.result (no_items c.new.result.keys (omega (arith, c.new.ensures.len))) in
    record {
      size = ap length c.in_ok-push.ensures.items ∙ length_push c.loop.flying.items c.new.result ∙ ap (λ (n : ℕ). n + 1) c.loop.invariant.size;
      none = rw c.in_ok-push.ensures.items (none_pushed c.loop.flying.items c.new.result c.loop.invariant.none none);
    }
