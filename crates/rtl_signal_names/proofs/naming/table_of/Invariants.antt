use Rattle.std.proofs.Common.{◌≡◌, ◌≤◌, drop, length, map}
use Rattle.rtl_net.specs.Nets.{scope_view, signal_view}
use Rattle.rtl_stim_lines.specs.Lines.{Word}
use Rattle.rtl_signal_names.specs.Naming.{kept_number}
use Rattle.rtl_signal_names.proofs.Named.{number_from}
use Rattle.rtl_signal_names.proofs.naming.table_of.Given as goal

-- the table has the signals from this number on
abbrev pub invariant-loop-number : goal.invariant-loop-number
invariant-loop-number l =
    (l.number ≤ length l.signals)
    × ((name : Word) → kept_number l.table name ≡ number_from (map scope_view l.scopes) l.number (drop l.number (map signal_view l.signals)) name)

abbrev pub decreases-loop-number : goal.decreases-loop-number
decreases-loop-number l = l.number
