use Rattle.std.proofs.Common.{map, ap, ◌∙◌}
use Rattle.rtl_net.specs.Nets.{scope_view, signal_view}
use Rattle.rtl_stim_lines.specs.Inputs.{small}
use Rattle.rtl_signal_names.specs.Names.{full_name}
use Rattle.rtl_signal_names.proofs.Named.{one_more_name}
use Rattle.rtl_signal_names.proofs.naming.add_signal.Goals as goal

pub returns : goal.returns
returns c = λ name.
    one_more_name c.args.table.now c.insert.new.self c.in_ok-key.key c.args.number (full_name (map scope_view c.args.scopes.now) (signal_view c.args.signal.now)) name
    c.in_ok-insert.ensures.updates (c.in_ok-key.ensures.ok ∙ ap small (c.deref.ensures.value ∙ c.in_ok-name.ensures))
