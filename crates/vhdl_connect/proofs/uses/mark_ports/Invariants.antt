use Rattle.std.proofs.Common.{ℕ, List, ◌++◌, take, map}
use Rattle.vhdl_expand_rules.specs.Tree.{input, output}
use Rattle.vhdl_elab_rules.specs.Numbering.{actuals_of}
use Rattle.vhdl_expand_tree.specs.Views.{object_view}
use Rattle.vhdl_connect.specs.Uses.{AreUses}
use Rattle.vhdl_connect.proofs.uses.mark_ports.Given as goal

abbrev pub invariant-loop-object : goal.invariant-loop-object
invariant-loop-object l =
    (driven read : List ℕ) → AreUses driven read l.initial.uses
    → AreUses (driven ++ actuals_of output (map object_view (take l.object-index l.objects))) (read ++ actuals_of input (map object_view (take l.object-index l.objects))) l.uses
