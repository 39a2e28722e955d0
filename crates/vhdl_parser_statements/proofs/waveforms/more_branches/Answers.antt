use Rattle.std.proofs.Common.{sym, ◌∙◌, rules, arith}
use Rattle.std.proofs.lemmas.Grind.{common_steps}
use Rattle.vhdl_parser_statements.specs.reader.Waveforms.{more_branches}
use Rattle.vhdl_parser_statements.proofs.Branched.{another_branch, no_branch, all_branches}
use Rattle.vhdl_parser_statements.proofs.waveforms.more_branches.Goals as goal

pub loop-turn-init : goal.loop-turn-init
unfolding more_branches
loop-turn-init c = first_of (search rules, grind (arith, common_steps))

pub returns-then-not-sees : goal.returns-then-not-sees
returns-then-not-sees c =
    c.loop-turn.invariant ∙ no_branch _ _ _ c.loop-turn._turn _ _ c.loop-turn-test.true (sym c.sees.ensures ∙ c.if-not-sees.true)

pub returns-in_err-value : goal.returns-in_err-value
returns-in_err-value c =
    let e = c.loop-turn.invariant ∙ another_branch _ _ _ c.loop-turn._turn _ _ c.loop-turn-test.true (sym c.sees.ensures ∙ c.if-not-sees.false) in
    grind (arith, common_steps)

pub returns-in_default : goal.returns-in_default
returns-in_default c =
    let e = c.loop-turn.invariant ∙ another_branch _ _ _ c.loop-turn._turn _ _ c.loop-turn-test.true (sym c.sees.ensures ∙ c.if-not-sees.false) in
    grind (arith, common_steps)

pub loop-turn-preserved : goal.loop-turn-preserved
loop-turn-preserved c =
    let e = c.loop-turn.invariant ∙ another_branch _ _ _ c.loop-turn._turn _ _ c.loop-turn-test.true (sym c.sees.ensures ∙ c.if-not-sees.false) in
    grind (arith, common_steps)

pub returns : goal.returns
returns c = c.loop-turn.invariant ∙ all_branches _ _ _ c.loop-turn._turn _ _ c.loop-turn-test.false
