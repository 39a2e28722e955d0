-- What contracts see of a tree of the code.
use Rattle.std.specs.Prelude.{List, map, Vec, Option, option_map}
use Rattle.std.specs.Global.{Global}
use Rattle.vhdl_lexer.specs.declared.token.TokenKind.{TokenKind}
use Rattle.vhdl_tree.specs.declared.expression.Name.{Name}
use Rattle.vhdl_tree.specs.declared.sequential.Branch.{Branch}
use Rattle.vhdl_tree.specs.declared.sequential.Sequential.{Sequential}
use Rattle.vhdl_tree.specs.declared.sequential.Statement.{Statement}
use Rattle.vhdl_tree.specs.declared.sequential.Statement.TheVariants as st
use Rattle.vhdl_tree.specs.declared.sequential.Statement.TheBlock.{Held-If-otherwise, None', Some', Row_of-Sequential, end_of-Sequential, more_of-Sequential, Row_of-Conditional, end_of-Conditional, more_of-Conditional, Row_of-Alternative, end_of-Alternative, more_of-Alternative}
use Rattle.vhdl_tree.specs.declared.sequential.If.{If, If'}
use Rattle.vhdl_tree.specs.declared.sequential.Case.{Case, Case'}
use Rattle.vhdl_tree.specs.declared.sequential.For.{For, For'}
use Rattle.vhdl_tree.specs.declared.sequential.Conditional.{Conditional, Conditional', out-Conditional}
use Rattle.vhdl_tree.specs.declared.sequential.Alternative.{Alternative, Alternative', out-Alternative}
use Rattle.vhdl_tree.specs.declared.process.Sensitivity.{Sensitivity}
use Rattle.vhdl_tree.specs.declared.process.Sensitivity.TheVariants as se
use Rattle.vhdl_tree.specs.declared.process.Process.{Process}
use Rattle.vhdl_tree.specs.declared.process.Wait.{Wait}
use Rattle.vhdl_tree.specs.declared.process.Waveform.{Waveform}
use Rattle.vhdl_tree.specs.declared.process.SelectedAssignment.{SelectedAssignment}
use Rattle.vhdl_tree.specs.declared.instance.Instantiated.{Instantiated}
use Rattle.vhdl_tree.specs.declared.instance.Instantiated.TheVariants as it
use Rattle.vhdl_tree.specs.declared.instance.Instance.{Instance}
use Rattle.vhdl_tree.specs.declared.concurrent.Assertion.{Assertion}
use Rattle.vhdl_tree.specs.declared.concurrent.Assignment.{Assignment}
use Rattle.vhdl_tree.specs.declared.concurrent.Concurrent.{Concurrent}
use Rattle.vhdl_tree.specs.declared.concurrent.Concurrent.TheVariants as c
use Rattle.vhdl_tree.specs.declared.concurrent.Concurrent.TheBlock.{Row_of-Concurrent, end_of-Concurrent, more_of-Concurrent}
use Rattle.vhdl_tree.specs.declared.concurrent.Scheme.{Scheme}
use Rattle.vhdl_tree.specs.declared.concurrent.Scheme.TheVariants as sc
use Rattle.vhdl_tree.specs.declared.declaration.Generic.{Generic}
use Rattle.vhdl_tree.specs.declared.declaration.Port.{Port}
use Rattle.vhdl_tree.specs.declared.unit.Entity.{Entity}
use Rattle.vhdl_tree.specs.declared.declaration.Signals.{Signals}
use Rattle.vhdl_tree.specs.declared.declaration.Variables.{Variables}
use Rattle.vhdl_tree.specs.declared.declaration.Constants.{Constants}
use Rattle.vhdl_tree.specs.declared.declaration.Enumeration.{Enumeration}
use Rattle.vhdl_tree.specs.declared.declaration.Component.{Component}
use Rattle.vhdl_tree.specs.declared.declaration.Declaration.{Declaration}
use Rattle.vhdl_tree.specs.declared.declaration.Declaration.TheVariants as d
use Rattle.vhdl_tree.specs.declared.declaration.SubtypeDeclaration.{SubtypeDeclaration}
use Rattle.vhdl_tree.specs.declared.declaration.ProcessDeclaration.{ProcessDeclaration}
use Rattle.vhdl_tree.specs.declared.declaration.ProcessDeclaration.TheVariants as pd
use Rattle.vhdl_tree.specs.declared.unit.Architecture.{Architecture}
use Rattle.vhdl_tree.specs.declared.unit.Selected.{Selected}
use Rattle.vhdl_tree.specs.declared.unit.ContextItem.{ContextItem}
use Rattle.vhdl_tree.specs.declared.unit.ContextItem.TheVariants as x
use Rattle.vhdl_tree.specs.declared.unit.LibraryUnit.{LibraryUnit}
use Rattle.vhdl_tree.specs.declared.unit.LibraryUnit.TheVariants as u
use Rattle.vhdl_tree.specs.declared.unit.DesignUnit.{DesignUnit}
use Rattle.vhdl_tree.specs.declared.unit.File.{File}
use Rattle.vhdl_tree.specs.Tree as tree
pub use Rattle.vhdl_tree.specs.ExpressionViews.{ident_view, idents_view, option_ident_view, literal_view, attribute_view, view, suffix_view, row_view, chain_view, links_view, elements_row, choices_row, choice_view, pair_view, pairs_view, exprs_view, range_view, option_expr_view, name_view, discrete_range_view, value_view, choices_view, element_view, elements_view, actual_view, association_view, associations_view, option_value_view, constraint_view, option_constraint_view, subtype_view}

abbrev pub text_view : Vec TokenKind Global → tree.Text
text_view text = text.items

-- ---- sequential statements

abbrev pub branch_view : Branch → tree.Branch
branch_view b = record { value = value_view b.value; condition = view b.condition }

abbrev pub branches_view : Vec Branch Global → List tree.Branch
branches_view v = map branch_view v.items

abbrev mutual
  pub statement_view : Statement → tree.Statement
  statement_view (st.Null at) = tree.null_of at
  statement_view (st.SignalAssignment target value) = tree.assigned (name_view target) (value_view value)
  statement_view (st.VariableAssignment target value) = tree.variable_assigned (name_view target) (value_view value)
  statement_view (st.ConditionalAssignment is_variable target branches otherwise) =
      tree.assigned_when is_variable (name_view target) (branches_view branches) (option_value_view otherwise)
  statement_view (st.If i) = if_view i
  statement_view (st.Case c) = case_view c
  statement_view (st.For f) = for_view f
  statement_view (st.Assert text) = tree.asserted (text_view text)
  statement_view (st.Report text) = tree.reported (text_view text)

  pub if_view : If → tree.Statement
  if_view (If' at shape branches otherwise end_label) =
      tree.if_of at (conditionals_row branches) (otherwise_row otherwise) (option_map ident_view end_label)

  pub case_view : Case → tree.Statement
  case_view (Case' at selector shape alternatives end_label) =
      tree.case_of at (view selector) (alternatives_row alternatives) (option_map ident_view end_label)

  pub for_view : For → tree.Statement
  for_view (For' at parameter range shape statements end_label) =
      tree.for_of at (ident_view parameter) (discrete_range_view range)
      (statements_row statements) (option_map ident_view end_label)

  pub statements_row : {m : _} → Row_of-Sequential m → tree.Statements
  statements_row end_of-Sequential = tree.done
  statements_row (more_of-Sequential label s rest) =
      tree.step (option_map ident_view label) (statement_view s) (statements_row rest)

  pub conditionals_row : {m : _} → Row_of-Conditional m → tree.Conditionals
  conditionals_row end_of-Conditional = tree.no_conditionals
  conditionals_row (more_of-Conditional c rest) = condition_row c (conditionals_row rest)

  pub condition_row : Conditional → tree.Conditionals → tree.Conditionals
  condition_row (Conditional' condition shape statements) rest =
      tree.guarded (view condition) (statements_row statements) rest

  pub alternatives_row : {m : _} → Row_of-Alternative m → tree.Alternatives
  alternatives_row end_of-Alternative = tree.no_alternatives
  alternatives_row (more_of-Alternative a rest) = alternative_row a (alternatives_row rest)

  pub alternative_row : Alternative → tree.Alternatives → tree.Alternatives
  alternative_row (Alternative' choices shape statements) rest =
      tree.alternative (choices_view choices) (statements_row statements) rest

  pub otherwise_row : Held-If-otherwise → tree.Otherwise
  otherwise_row None' = tree.no_else
  otherwise_row (Some' shape row) = tree.else_do (statements_row row)

abbrev pub sequential_view : Sequential → tree.Sequential
sequential_view s = record { label = option_map ident_view s.label; statement = statement_view s.statement }

abbrev pub sequentials_view : Vec Sequential Global → List tree.Sequential
sequentials_view v = map sequential_view v.items

abbrev pub option_sequentials_view : Option (Vec Sequential Global) → Option (List tree.Sequential)
option_sequentials_view = option_map sequentials_view

abbrev pub conditional_view : Conditional → tree.Conditional
conditional_view c = record {
  condition = view (out-Conditional c).condition;
  statements = sequentials_view (out-Conditional c).statements;
}

abbrev pub conditionals_view : Vec Conditional Global → List tree.Conditional
conditionals_view v = map conditional_view v.items

abbrev pub alternative_view : Alternative → tree.Alternative
alternative_view a = record {
  choices = choices_view (out-Alternative a).choices;
  statements = sequentials_view (out-Alternative a).statements;
}

abbrev pub alternatives_view : Vec Alternative Global → List tree.Alternative
alternatives_view v = map alternative_view v.items

-- ---- processes and selected assignments

abbrev pub names_view : Vec Name Global → List tree.Name
names_view v = map name_view v.items

abbrev pub sensitivity_view : Sensitivity → tree.Sensitivity
sensitivity_view se.Absent = tree.absent
sensitivity_view se.All = tree.every
sensitivity_view (se.Names all) = tree.listed (names_view all)

abbrev pub variables_view : Variables → tree.Variables
variables_view d =
    record { names = idents_view d.names; subtype = subtype_view d.subtype; default = option_map value_view d.default }

abbrev pub constants_view : Constants → tree.Constants
constants_view d = record { names = idents_view d.names; subtype = subtype_view d.subtype; value = value_view d.value }

abbrev pub enumeration_view : Enumeration → tree.Enumeration
enumeration_view d = record { name = ident_view d.name; literals = idents_view d.literals }

abbrev pub subtype_declaration_view : SubtypeDeclaration → tree.SubtypeDeclaration
subtype_declaration_view d = record { name = ident_view d.name; subtype = subtype_view d.subtype }

abbrev pub process_declaration_view : ProcessDeclaration → tree.ProcessDeclaration
process_declaration_view (pd.Variables x) = tree.variables (variables_view x)
process_declaration_view (pd.Constants x) = tree.process_constants (constants_view x)
process_declaration_view (pd.Enumeration x) = tree.process_enumeration (enumeration_view x)
process_declaration_view (pd.Subtype x) = tree.process_subtype (subtype_declaration_view x)

abbrev pub process_declarations_view : Vec ProcessDeclaration Global → List tree.ProcessDeclaration
process_declarations_view v = map process_declaration_view v.items

abbrev pub wait_view : Wait → tree.Wait
wait_view w = record { at = w.at; condition = view w.condition }

abbrev pub option_wait_view : Option Wait → Option tree.Wait
option_wait_view = option_map wait_view

abbrev pub process_view : Process → tree.Process
process_view p = record {
  at = p.at;
  sensitivity = sensitivity_view p.sensitivity;
  is_word = p.is_word;
  declarations = process_declarations_view p.declarations;
  wait = option_wait_view p.wait;
  statements = sequentials_view p.statements;
  end_label = option_map ident_view p.end_label;
}

abbrev pub waveform_view : Waveform → tree.Waveform
waveform_view w = record { value = value_view w.value; choices = choices_view w.choices }

abbrev pub waveforms_view : Vec Waveform Global → List tree.Waveform
waveforms_view v = map waveform_view v.items

abbrev pub selected_assignment_view : SelectedAssignment → tree.SelectedAssignment
selected_assignment_view s = record {
  at = s.at;
  selector = view s.selector;
  target = name_view s.target;
  waveforms = waveforms_view s.waveforms;
}

-- ---- instances

abbrev pub instantiated_view : Instantiated → tree.Instantiated
instantiated_view (it.Entity library name chosen) =
    tree.entity_unit (ident_view library) (ident_view name) (option_map ident_view chosen)
instantiated_view (it.Component word name) = tree.component_unit word (ident_view name)

abbrev pub instance_view : Instance → tree.Instance
instance_view i = record {
  unit = instantiated_view i.unit;
  generics = option_map associations_view i.generics;
  ports = option_map associations_view i.ports;
}

-- ---- concurrent statements

abbrev pub assignment_view : Assignment → tree.Assignment
assignment_view a =
    record {
      label = option_map ident_view a.label;
      target = name_view a.target;
      branches = branches_view a.branches;
      otherwise = option_map value_view a.otherwise;
    }

abbrev pub scheme_view : Scheme → tree.Scheme
scheme_view (sc.For parameter range) = tree.for_each (ident_view parameter) (discrete_range_view range)
scheme_view (sc.If condition) = tree.if_holds (view condition)

abbrev pub assertion_view : Assertion → tree.Assertion
assertion_view a = record { label = option_map ident_view a.label; text = text_view a.text }

abbrev pub assertions_view : Vec Assertion Global → List tree.Assertion
assertions_view v = map assertion_view v.items

abbrev mutual
  pub concurrent_view : Concurrent → tree.Concurrent
  concurrent_view (c.Assignment a) = tree.assignment (assignment_view a)
  concurrent_view (c.Selected label s) = tree.selected (option_map ident_view label) (selected_assignment_view s)
  concurrent_view (c.Process label p) = tree.process (option_map ident_view label) (process_view p)
  concurrent_view (c.Instance label i) = tree.instance (ident_view label) (instance_view i)
  concurrent_view (c.Generate' label at scheme begin_word shape statements end_label) =
      tree.generated (ident_view label) at (scheme_view scheme) begin_word
      (concurrents_row statements) (option_map ident_view end_label)
  concurrent_view (c.Assert a) = tree.assertion (assertion_view a)

  pub concurrents_row : {m : _} → Row_of-Concurrent m → tree.Concurrents
  concurrents_row end_of-Concurrent = tree.no_concurrents
  concurrents_row (more_of-Concurrent x rest) = tree.concurrent (concurrent_view x) (concurrents_row rest)

abbrev pub concurrents_view : Vec Concurrent Global → List tree.Concurrent
concurrents_view v = map concurrent_view v.items

-- ---- declarations

abbrev pub generic_view : Generic → tree.Generic
generic_view g =
    record {
      constant_word = g.constant_word;
      names = idents_view g.names;
      in_word = g.in_word;
      subtype = subtype_view g.subtype;
      default = option_map view g.default;
    }

abbrev pub generics_view : Vec Generic Global → List tree.Generic
generics_view v = map generic_view v.items

abbrev pub port_view : Port → tree.Port
port_view p =
    record {
      signal_word = p.signal_word;
      names = idents_view p.names;
      mode = p.mode;
      subtype = subtype_view p.subtype;
      default = option_map value_view p.default;
    }

abbrev pub ports_view : Vec Port Global → List tree.Port
ports_view v = map port_view v.items

abbrev pub signals_view : Signals → tree.Signals
signals_view d =
    record { names = idents_view d.names; subtype = subtype_view d.subtype; default = option_map value_view d.default }

abbrev pub component_view : Component → tree.Component
component_view d = record {
  name = ident_view d.name;
  is_word = d.is_word;
  generics = option_map generics_view d.generics;
  ports = option_map ports_view d.ports;
  end_name = option_map ident_view d.end_name;
}

abbrev pub declaration_view : Declaration → tree.Declaration
declaration_view (d.Signals x) = tree.signals (signals_view x)
declaration_view (d.Constants x) = tree.constants (constants_view x)
declaration_view (d.Enumeration x) = tree.enumeration (enumeration_view x)
declaration_view (d.Component x) = tree.component (component_view x)
declaration_view (d.Subtype x) = tree.subtype_of (subtype_declaration_view x)
declaration_view (d.Attribute text) = tree.attribute_of (text_view text)

abbrev pub declarations_view : Vec Declaration Global → List tree.Declaration
declarations_view v = map declaration_view v.items

abbrev pub option_generics_view : Option (Vec Generic Global) → Option (List tree.Generic)
option_generics_view = option_map generics_view

abbrev pub option_ports_view : Option (Vec Port Global) → Option (List tree.Port)
option_ports_view = option_map ports_view

-- ---- units

abbrev pub texts_view : Vec (Vec TokenKind Global) Global → List tree.Text
texts_view v = map text_view v.items

abbrev pub option_assertions_view : Option (Vec Assertion Global) → Option (List tree.Assertion)
option_assertions_view = option_map assertions_view

abbrev pub entity_view : Entity → tree.Entity
entity_view n = record {
  at = n.at;
  name = ident_view n.name;
  generics = option_map generics_view n.generics;
  ports = option_map ports_view n.ports;
  attributes = texts_view n.attributes;
  statements = option_assertions_view n.statements;
  end_word = n.end_word;
  end_name = option_map ident_view n.end_name;
}

abbrev pub architecture_view : Architecture → tree.Architecture
architecture_view a = record {
  at = a.at;
  name = ident_view a.name;
  entity = ident_view a.entity;
  declarations = declarations_view a.declarations;
  statements = concurrents_view a.statements;
  end_word = a.end_word;
  end_name = option_map ident_view a.end_name;
}

abbrev pub selected_view : Selected → tree.Selected
selected_view s = record { library = ident_view s.library; name = ident_view s.name }

abbrev pub selecteds_view : Vec Selected Global → List tree.Selected
selecteds_view v = map selected_view v.items

abbrev pub context_view : ContextItem → tree.ContextItem
context_view (x.Library names) = tree.library (idents_view names)
context_view (x.Use all) = tree.uses (selecteds_view all)

abbrev pub contexts_view : Vec ContextItem Global → List tree.ContextItem
contexts_view v = map context_view v.items

abbrev pub library_unit_view : LibraryUnit → tree.LibraryUnit
library_unit_view (u.Entity n) = tree.entity (entity_view n)
library_unit_view (u.Architecture a) = tree.architecture (architecture_view a)

abbrev pub unit_view : DesignUnit → tree.DesignUnit
unit_view n = record { context = contexts_view n.context; unit = library_unit_view n.unit }

abbrev pub units_view : Vec DesignUnit Global → List tree.DesignUnit
units_view v = map unit_view v.items

abbrev pub file_view : File → tree.File
file_view f = record { units = units_view f.units }
