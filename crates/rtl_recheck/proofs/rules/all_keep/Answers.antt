use Rattle.std.proofs.Common.{◌≡◌, List, length, true, false, sym, ap, ◌∙◌, arith, refl}
use Rattle.rtl_net.specs.declared.process.Process.{Process}
use Rattle.rtl_net.specs.Core.{core}
use Rattle.rtl_process_kinds.proofs.Processes.{many_processes}
use Rattle.rtl_check.proofs.ListedPairs.{next_or}
use Rattle.rtl_recheck.specs.Kept.{KeepsRules, StoresNothing}
use Rattle.rtl_recheck.proofs.Keeping.{rule_there, stored_there}
use Rattle.rtl_recheck.proofs.rules.all_keep.Goals as goal

pub returns-then-not-keeps_rules : goal.returns-then-not-keeps_rules
returns-then-not-keeps_rules c =
    (λ e. absurd cc, λ A. let t = c.keeps_rules.ensures.1 (A c.loop-process.process).0 in let h : true ≡ false = sym t ∙ c.if-not-keeps_rules.true in cc)

pub returns-then-not-stores_nothing : goal.returns-then-not-stores_nothing
returns-then-not-stores_nothing c =
    (λ e. absurd cc, λ A. let t = c.stores_nothing.ensures.1 (A c.loop-process.process).1 in let h : true ≡ false = sym t ∙ c.if-not-stores_nothing.true in cc)

pub loop-process-preserved : goal.loop-process-preserved
loop-process-preserved c =
    let net = core c.args.net.now in
    next_or (λ p. KeepsRules net p × StoresNothing net p) c.loop-process.process c.loop-process.invariant
    (c.keeps_rules.ensures.0 c.if-not-keeps_rules.false, c.stores_nothing.ensures.0 c.if-not-stores_nothing.false)

pub returns : goal.returns
returns c =
    let net = core c.args.net.now in
    let many = ap (λ (ps : List Process). length ps) c.processes-processes.ensures in
    let all : c.loop-process.process ≡ length net.processes = omega (arith, c.loop-process-test.false, c.loop-process.auto.process-end, many, many_processes c.args.net.now) in (
      λ t p. (
        λ rule n is. let there = rule_there net rule p n is in (c.loop-process.invariant p (omega (arith, all, there))).0 rule n is,
        λ v e is. let there = stored_there net p v e is in (c.loop-process.invariant p (omega (arith, all, there))).1 v e is,
      ),
      λ A. refl,
    )
