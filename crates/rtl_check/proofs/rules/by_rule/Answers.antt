use Rattle.std.proofs.Common.{◌≡◌, ◌<◌, arith, ◌∙◌, sym}
use Rattle.rtl_check.specs.declared.rule.Rule.{Rule}
use Rattle.rtl_check.specs.declared.rule.Rule.TheVariants.{ClockNotInput}
use Rattle.rtl_net.specs.Core.{core}
use Rattle.rtl_check.specs.Rules.{rule_number}
use Rattle.rtl_check.proofs.Joined.{adds_first, adds_place, adds_all}
use Rattle.rtl_check.proofs.Processes.{process_there}
use Rattle.rtl_process_kinds.proofs.Processes.{ends}
use Rattle.rtl_check.proofs.rules.by_rule.Goals as goal

between : (r : Rule) → (2 < rule_number r) × (rule_number r < 8)
between ClockNotInput = (omega arith, omega arith)
between _ = (omega arith, omega arith)

no_loop : (r : Rule) → rule_number r ≡ 8 → ⊥
no_loop r e = let l = (between r).1 in omega arith

no_drivers : (r : Rule) → rule_number r ≡ 1 → ⊥
no_drivers r e = let l = (between r).0 in omega arith

pub loop-process-init : goal.loop-process-init
loop-process-init c = adds_first (core c.args.net.now) (rule_number c.args.rule) c.args.faults.now.items

pub loop-process-preserved : goal.loop-process-preserved
loop-process-preserved c =
    adds_place (core c.args.net.now) (rule_number c.args.rule) c.loop-process.process c.args.faults.now.items c.loop-process.faults.items c.rule_at.new.faults.items (no_loop c.args.rule)
    c.loop-process.invariant c.in_ok-rule_at.ensures

pub returns : goal.returns
returns c = adds_all (core c.args.net.now) (rule_number c.args.rule) c.loop-process.process c.args.faults.now.items c.loop-process.faults.items
    (λ x is e. let l = process_there (core c.args.net.now) x is (λ h. no_drivers c.args.rule (sym e ∙ h)) (λ h. no_loop c.args.rule (sym e ∙ h)) in ends l c.requires.kinds.each_process c.loop-process-test.false)
    c.loop-process.invariant
