use Rattle.std.proofs.Common.{arith}
use Rattle.vhdl_elab.proofs.Settling.{as-they-are, all-unwoken}
use Rattle.vhdl_elab.proofs.settled.settle.Goals as goal

pub returns-then-nets-gt0 : goal.returns-then-nets-gt0
returns-then-nets-gt0 c = λ xs h below. as-they-are c.args.nets xs c.args.processes.now c.if-nets-gt0.true h below

pub returns : goal.returns
returns c = λ xs h below.
    all-unwoken c.args.nets xs c.args.processes.now c.loop-i.processes (omega (arith, c.if-nets-gt0.false)) h c.loop-i.invariant.long
    (λ k d l. c.loop-i.invariant.first k d (omega (arith, l, c.loop-i-test.false, c.loop-i.invariant.long)))
