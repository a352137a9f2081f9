use Rattle.std.proofs.Common.{◌≡◌, ◌∙◌, arith, rules}
use Rattle.drda_trace.proofs.Showing.{chain_shown, chains_shown}
use Rattle.drda_trace.proofs.shown.push_chains.Goals as goal

pub loop-chain-preserved : goal.loop-chain-preserved
loop-chain-preserved c =
    record {
      number = omega (arith, c.loop-chain.invariant.number);
      lines = chain_shown c.loop-chain.lines c.push_chain.new.lines c.loop-chain.number c.loop-chain.chain-index c.args.chains.now c.chain-item.result
          c.args.replies.now c.loop-chain-test.true c.chain-item.is c.in_ok-push_chain.ensures ∙ c.loop-chain.invariant.lines;
    }

pub returns : goal.returns
returns c =
    chains_shown c.loop-chain.lines c.loop-chain.number c.loop-chain.chain-index c.args.chains.now c.args.replies.now c.loop-chain-test.false
    ∙ c.loop-chain.invariant.lines
