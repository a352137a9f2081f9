use Rattle.std.proofs.Common.{◌≡◌, ◌∙◌, ◌≤◌, ◌+◌, Ok, Some, None, Option, List, length, sym, ap, subst, arith}
use Rattle.std.specs.List.{AllByRecursion}
use Rattle.unit_segments.specs.declared.command.Command.{Command}
use Rattle.unit_segments.specs.Chain.{OpenChain, chain_step}
use Rattle.unit_segments.specs.Limit.{most_chain_bytes}
use Rattle.plain_model.specs.Group.{IsCommand}
use Rattle.session_core.specs.SeenReading.{HasCommands}
use Rattle.session_core.proofs.Commands.{goes_on_read, ends_read, some_is}
use Rattle.session_core.proofs.Coming.{goes_on_so, ends_so, ends_after, left_so}
use Rattle.session_core.proofs.incoming.Incoming.next.Goals as goal

pub loop-placed-preserved : goal.loop-placed-preserved
loop-placed-preserved c =
    let chain = c.loop-placed.self-inside.chains in
    let frames = c.loop-placed.self-inside.frames in
    let size : length c.in-Some.placed.dss.body + 6 ≤ most_chain_bytes = omega (arith, c.in-Some.ensures.within, c.loop-placed.invariant.limit) in
    let step : chain_step chain c.in-Some.placed ≡ Ok None =
    subst (λ (o : Option (List Command)). chain_step chain c.in-Some.placed ≡ Ok o) c.in-Ok-None.field-0-is c.in-Ok-None.ensures.answer in
    record {
      next =
          rw (c.in-Ok-None.ensures.after, c.in-Some.ensures.rest)
          (sym (goes_on_so chain frames.whole frames.fault c.in-Some.placed (sym c.in-Some.ensures.first) step)
          ∙ c.loop-placed.invariant.next);
      frames = rw c.in-Some.ensures.rest c.loop-placed.invariant.frames;
      commands = subst (λ (o : OpenChain). AllByRecursion IsCommand o.commands) (sym c.in-Ok-None.ensures.after)
          (goes_on_read chain c.in-Some.placed None step c.loop-placed.invariant.commands size);
      limit = ap (λ v. v.limit) c.in-Some.ensures.rest ∙ c.loop-placed.invariant.limit;
    }

pub invariant_of-self : goal.invariant_of-self
invariant_of-self c =
    let chain = c.loop-placed.self-inside.chains in
    let size : length c.in-Some.placed.dss.body + 6 ≤ most_chain_bytes = omega (arith, c.in-Some.ensures.within, c.loop-placed.invariant.limit) in
    let step : chain_step chain c.in-Some.placed ≡ Ok (Some c.in-Ok-Some.chain) =
    subst (λ (o : Option (List Command)). chain_step chain c.in-Some.placed ≡ Ok o) c.in-Ok-Some.field-0-is c.in-Ok-Some.ensures.answer in (
      ap (λ v. v.limit) c.in-Some.ensures.rest ∙ c.loop-placed.invariant.limit,
      subst (λ (o : OpenChain). AllByRecursion IsCommand o.commands) (sym c.in-Ok-Some.ensures.after)
          (goes_on_read chain c.in-Some.placed (Some c.in-Ok-Some.chain) step c.loop-placed.invariant.commands size),
    )

pub returns-in-Ok-Some-clause-commands : goal.returns-in-Ok-Some-clause-commands
returns-in-Ok-Some-clause-commands c x e =
    let chain = c.loop-placed.self-inside.chains in
    let size : length c.in-Some.placed.dss.body + 6 ≤ most_chain_bytes = omega (arith, c.in-Some.ensures.within, c.loop-placed.invariant.limit) in
    let step : chain_step chain c.in-Some.placed ≡ Ok (Some c.in-Ok-Some.chain) =
    subst (λ (o : Option (List Command)). chain_step chain c.in-Some.placed ≡ Ok o) c.in-Ok-Some.field-0-is c.in-Ok-Some.ensures.answer in
    subst HasCommands (some_is e)
    (ends_read chain c.in-Some.placed c.in-Ok-Some.chain step c.loop-placed.invariant.commands size)

pub returns-in-Ok-Some-clause-left : goal.returns-in-Ok-Some-clause-left
returns-in-Ok-Some-clause-left c =
    let chain = c.loop-placed.self-inside.chains in
    let frames = c.loop-placed.self-inside.frames in
    let step : chain_step chain c.in-Some.placed ≡ Ok (Some c.in-Ok-Some.chain) =
    subst (λ (o : Option (List Command)). chain_step chain c.in-Some.placed ≡ Ok o) c.in-Ok-Some.field-0-is c.in-Ok-Some.ensures.answer in
    left_so c.args.self.now frames c.take.new.self c.add.new.self _
    (sym c.loop-placed.invariant.next
    ∙ ends_so chain frames.whole frames.fault c.in-Some.placed c.in-Ok-Some.chain (sym c.in-Some.ensures.first) step)
    c.in-Some.ensures.rest c.loop-placed.invariant.frames
    (c.in-Ok-Some.ensures.after ∙ ends_after chain c.in-Some.placed c.in-Ok-Some.chain step)
