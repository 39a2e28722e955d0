use Rattle.std.proofs.Common.{Err, sym, ap, ◌∙◌}
use Rattle.rtl_net.specs.Bodies.{value_view}
use Rattle.vhdl_expand_rules.specs.declared.fault.ElabFault.{ElabFault}
use Rattle.vhdl_expand_rules.specs.Elab.{fault_told}
use Rattle.vhdl_expand_processes.proofs.Fixing.{computes_along, elements_seen, no_elements}
use Rattle.vhdl_expand_processes.proofs.fixed_values.elements_of.Goals as goal

pub returns-in-Some-clause-given : goal.returns-in-Some-clause-given
returns-in-Some-clause-given c =
    computes_along _ _ _ (elements_seen c.args.at c.args.width.len (value_view c.args.selected.now.value) c.in-Some.values (sym c.in-Some.ensures)) c.as_long.ensures.given

pub returns-in-None-clause-given : goal.returns-in-None-clause-given
returns-in-None-clause-given c =
    no_elements c.args.at c.args.width.len (value_view c.args.selected.now.value) (sym c.in-None.ensures) ∙ ap (λ (f : ElabFault). Err (fault_told f)) (sym c.one_for.ensures)
