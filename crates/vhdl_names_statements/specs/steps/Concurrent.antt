-- Concurrent assignments in the order in which the code comes to their parts.
use Rattle.std.specs.Prelude.{false, List, map, Option, Some}
use Rattle.vhdl_tree.specs.Tree as t
use Rattle.vhdl_tree.specs.Tree.{Ident}
use Rattle.vhdl_names_rules.specs.declared.kind.ObjectType.{ObjectType}
use Rattle.vhdl_names_rules.specs.units.Statements as s
use Rattle.vhdl_names_rules.specs.units.Units as u
use Rattle.vhdl_names_rules.specs.Rules.{◌>>=◌, ◌>>◌, each}
use Rattle.vhdl_names_rules.specs.Visibility.{Sight}
use Rattle.vhdl_names_rules.specs.Choices.{choices, selecting}
use Rattle.vhdl_names_rules.specs.Statements.{signal_target}
use Rattle.vhdl_names_rules.specs.Concurrent.{assigning}
use Rattle.vhdl_names_asked.specs.Asked.{selected_by}
use Rattle.vhdl_names_units.specs.views.Sequential.{Chosen, chosen_by}
use Rattle.vhdl_names_statements.specs.steps.Cases.{covering, arranged}
use Rattle.vhdl_names_statements.specs.steps.Sequential.{alone, conditionally}

abbrev pub assignment : Sight → t.Assignment → Option u.Concurrent
assignment sight a = do
  y ← conditionally sight false a.target a.branches a.otherwise
  Some (assigning a.target.identifier.at a.label y)

-- value when choices
abbrev pub chosen : Sight → ObjectType → t.Name → t.Waveform → Option Chosen
chosen sight type n w = do
  xs ← alone sight false n w.value
  cs ← choices sight type w.choices
  Some (chosen_by cs xs)

abbrev pub choice_lists : List t.Waveform → List (List t.Choice)
choice_lists = map (λ w. w.choices)

-- what is done by a value of this type
abbrev pub parts : Sight → ObjectType → t.SelectedAssignment → Option s.Alternatives
parts sight type a = do
  signal_target sight a.target
  all ← covering type (choice_lists a.waveforms) (each (chosen sight type a.target) a.waveforms)
  arranged all

abbrev pub selected : Sight → Option Ident → t.SelectedAssignment → Option u.Concurrent
selected sight label a = do
  by ← selected_by sight a.selector
  all ← parts sight by.0 a
  Some (assigning a.at label (selecting a.at by.1 all))
