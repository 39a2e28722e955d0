use Rattle.std.proofs.Common.{◌≡◌, List, ◌++◌, map, length, drop, Some}
use Rattle.vhdl_names_rules.specs.Declarations.{in_order, port}
use Rattle.vhdl_names_rules.specs.Visibility.{Declared, with_declared}
use Rattle.vhdl_tree.specs.View.{port_view}
use Rattle.vhdl_names_units.specs.views.Declarations.{all_ports_view}
use Rattle.vhdl_names_rules.specs.declared.fault.NameFault.{NameFault}
use Rattle.vhdl_names_rules.specs.problems.Broken.{Tells}
use Rattle.vhdl_names_rules.specs.problems.Interfaces as interfaces_broken
use Rattle.vhdl_names_sight.specs.Seen.{sight_view}
use Rattle.vhdl_names_sight.specs.Views.{region_view}
use Rattle.vhdl_names_declarations.specs.Counts.{AreCounts}
use Rattle.vhdl_names_declarations.specs.Entered.{entering}
use Rattle.vhdl_names_declarations.proofs.Hiding.{Group, Behind, after, hidden_all, settled_list}
use Rattle.vhdl_names_declarations.proofs.Listed.{left}
use Rattle.vhdl_names_declarations.proofs.Placing.{AreOf}
use Rattle.vhdl_names_declarations.proofs.ports.wide_ports.Given as goal

-- What is hidden are names of groups, at these places; what is left, where these groups stand with what they mean, on
-- what is done, gives the whole; what is told of what is left is told of the whole.
abbrev pub invariant-loop-one : goal.invariant-loop-one
invariant-loop-one l =
    (gs : List Group)
    × Behind l.initial.sight l.sight gs
    × AreOf (length l.initial.sight.region) l.hidden.items gs
    × (entering (in_order with_declared port) l.initial.sight (map port_view l.all) ≡ left port port_view (after l.initial.sight gs) (all_ports_view l.done) l.all l.one-index)
    × ((f : NameFault) → Tells (interfaces_broken.ports (after l.initial.sight gs) (map port_view (drop l.one-index l.all))) f → Tells (interfaces_broken.ports l.initial.sight (map port_view l.all)) f)

-- Declarations stand, and behind them names of the groups that are left are hidden: once these stand too, it is the whole.
abbrev pub invariant-loop-settled : goal.invariant-loop-settled
invariant-loop-settled l =
    (ds : List Declared)
    × (gs : List Group)
    × (region_view l.sight-inside.region ≡ ds ++ hidden_all gs)
    × (l.first ≡ length ds)
    × AreCounts l.counts ds
    × AreOf l.first (drop l.settled-index l.settled-items) gs
    × (sight_view l.sight-inside ≡ record l.fn.sight { region = region_view l.sight-inside.region })
    × (entering (in_order with_declared port) l.fn.sight (map port_view l.fn.all) ≡ Some (record l.fn.sight { region = settled_list ds gs }, all_ports_view l.done))
