use Rattle.std.proofs.Common.{sym, ap, ◌∙◌}
use Rattle.std.specs.Prelude.{option_map}
use Rattle.vhdl_names_trees.specs.declared.vector.Value.{Value}
use Rattle.vhdl_names_trees.specs.views.Vectors.{place_view, value_view}
use Rattle.vhdl_names_registers.specs.Looking.{signal_in}
use Rattle.vhdl_names_registers.proofs.Parting.{no_elements_signal, signal_if_any}
use Rattle.vhdl_names_registers.proofs.conditions.into_signal.Goals as goal

pub returns-in-Elements : goal.returns-in-Elements
returns-in-Elements c =
    let i = c.into_signal in
    ap (option_map place_view) c.ok.ensures.value
    ∙ (signal_if_any c.in-Elements.vector i.result i.ensures.place i.ensures.other ∙ sym (ap (λ (x : Value). signal_in (value_view x)) c.in-Elements.is))

pub returns : goal.returns
returns c = sym (no_elements_signal c.args.value c.in_default.not-Elements)
