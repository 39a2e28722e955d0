use Rattle.std.proofs.Common.{◌≡◌, ◌+◌, ◌≤◌, Bool, true, false, not, ℕ, sym, ap, subst, ◌∙◌, arith}
use Rattle.rtl_model.specs.simulation.NetLevels.{IsNetReport}
use Rattle.rtl_net.specs.Core.{core}
use Rattle.rtl_check.specs.Bounds.{one_if}
use Rattle.rtl_check.proofs.Bounds.{some_clocked}
use Rattle.rtl_check.proofs.reporting.net_report_of.Goals as goal

most_one : (b : Bool) (n : ℕ) → n ≡ one_if b → n ≤ 1
most_one true n e = omega arith
most_one false n e = omega arith

pub overflow_add-result : goal.overflow_add-result
overflow_add-result c = let few = c.requires.levels.few in let most = most_one _ _ c.one_if-registers.ensures in omega arith

pub returns : goal.returns
returns c =
    let l = c.requires.levels in
    let n = core c.args.net.now in
    let v = c.args.levels in
    let edges = c.in_ok-edges.edges.items in
    let bound = ap (λ (k : ℕ). v.greatest + k) (c.one_if-registers.ensures ∙ ap one_if (ap not c.is_empty.ensures ∙ some_clocked n c.args.clocks.now c.requires.clocks)) in
    record {
      report = subst (IsNetReport n v.levels.items v.from.items v.nets.items v.looks.items edges) (sym bound) (l.are_levels edges l.by_nets c.in_ok-edges.ensures);
      accepted = (c.faults_are_listed.ensures n).accepted_is.1 (l.no_fault, λ narrow. (let wide = l.by_nets.0 in absurd cc), λ wide. l.no_loop);
    }
