-- Which rules generates break, in the parts in which the code comes to them.
use Rattle.std.specs.Prelude.{List, [], Option}
use Rattle.vhdl_tree.specs.Tree as t
use Rattle.vhdl_tree.specs.Tree.{Ident}
use Rattle.vhdl_names_rules.specs.Visibility.{Sight}
use Rattle.vhdl_names_rules.specs.Interfaces.{EntityView}
use Rattle.vhdl_names_rules.specs.Concurrent.{sight_within}
use Rattle.vhdl_names_rules.specs.problems.Broken.{Broken, ◌▸◌, earlier}
use Rattle.vhdl_names_rules.specs.problems.Twice.{twice}
use Rattle.vhdl_names_rules.specs.problems.Labels.{labels_of}
use Rattle.vhdl_names_rules.specs.problems.Declarations.{end_name}
use Rattle.vhdl_names_rules.specs.problems.Concurrent.{scheme, concurrents}

-- the statements directly in a generate, among which their labels stand
abbrev pub labelled : List EntityView → Sight → List t.Concurrent → Broken
labelled entities sight cs =
    earlier (twice [] (labels_of (t.concurrents_of cs))) (concurrents entities sight (t.concurrents_of cs))

abbrev pub generate : List EntityView → Sight → Ident → t.Scheme → List t.Concurrent → Option Ident → Broken
generate entities sight label k cs end =
    scheme sight k ▸ labelled entities (sight_within sight k) cs ▸ end_name label end
