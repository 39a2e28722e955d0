-- How high a tree of the code is: how many expressions, statements, declarations and units stand one in another in it.
use Rattle.std.specs.Prelude.{ℕ, suc, max, List, [], ◌∷◌, Option, Some, None, Vec}
use Rattle.std.specs.Global.{Global}
use Rattle.vhdl_lexer.specs.declared.token.TokenKind.{TokenKind}
use Rattle.vhdl_tree.specs.declared.expression.Expr.{Expr}
use Rattle.vhdl_tree.specs.declared.expression.Expr.TheVariants as e
use Rattle.vhdl_tree.specs.declared.expression.Choice.TheBlock.{Row_of-Link, end_of-Link, more_of-Link, Row_of-Expr, end_of-Expr, more_of-Expr, Row_of-Element, end_of-Element, more_of-Element, Row_of-Choice, end_of-Choice, more_of-Choice}
use Rattle.vhdl_tree.specs.declared.expression.Chain.{Chain, Chain'}
use Rattle.vhdl_tree.specs.declared.expression.Suffix.{Suffix}
use Rattle.vhdl_tree.specs.declared.expression.Suffix.TheVariants as s
use Rattle.vhdl_tree.specs.declared.expression.Name.{Name}
use Rattle.vhdl_tree.specs.declared.expression.Range.{Range}
use Rattle.vhdl_tree.specs.declared.expression.DiscreteRange.{DiscreteRange}
use Rattle.vhdl_tree.specs.declared.expression.DiscreteRange.TheVariants as dr
use Rattle.vhdl_tree.specs.declared.expression.Value.{Value}
use Rattle.vhdl_tree.specs.declared.expression.Value.TheVariants as v
use Rattle.vhdl_tree.specs.declared.expression.Choice.{Choice}
use Rattle.vhdl_tree.specs.declared.expression.Choice.TheVariants as ch
use Rattle.vhdl_tree.specs.declared.expression.Actual.{Actual}
use Rattle.vhdl_tree.specs.declared.expression.Actual.TheVariants as ac
use Rattle.vhdl_tree.specs.declared.expression.Association.{Association}
use Rattle.vhdl_tree.specs.declared.sequential.Branch.{Branch}
use Rattle.vhdl_tree.specs.declared.sequential.Sequential.{Sequential}
use Rattle.vhdl_tree.specs.declared.sequential.Statement.{Statement}
use Rattle.vhdl_tree.specs.declared.sequential.Statement.TheVariants as st
use Rattle.vhdl_tree.specs.declared.sequential.Statement.TheBlock.{Held-If-otherwise, None', Some', Row_of-Sequential, end_of-Sequential, more_of-Sequential, Row_of-Conditional, end_of-Conditional, more_of-Conditional, Row_of-Alternative, end_of-Alternative, more_of-Alternative}
use Rattle.vhdl_tree.specs.declared.sequential.If.{If, If'}
use Rattle.vhdl_tree.specs.declared.sequential.Case.{Case, Case'}
use Rattle.vhdl_tree.specs.declared.sequential.For.{For, For'}
use Rattle.vhdl_tree.specs.declared.sequential.Conditional.{Conditional, Conditional'}
use Rattle.vhdl_tree.specs.declared.sequential.Alternative.{Alternative, Alternative'}
use Rattle.vhdl_tree.specs.declared.process.Sensitivity.{Sensitivity}
use Rattle.vhdl_tree.specs.declared.process.Sensitivity.TheVariants as se
use Rattle.vhdl_tree.specs.declared.process.Process.{Process}
use Rattle.vhdl_tree.specs.declared.process.Wait.{Wait}
use Rattle.vhdl_tree.specs.declared.process.Waveform.{Waveform}
use Rattle.vhdl_tree.specs.declared.process.SelectedAssignment.{SelectedAssignment}
use Rattle.vhdl_tree.specs.declared.instance.Instance.{Instance}
use Rattle.vhdl_tree.specs.declared.concurrent.Assertion.{Assertion}
use Rattle.vhdl_tree.specs.declared.concurrent.Assignment.{Assignment}
use Rattle.vhdl_tree.specs.declared.concurrent.Concurrent.{Concurrent}
use Rattle.vhdl_tree.specs.declared.concurrent.Concurrent.TheVariants as c
use Rattle.vhdl_tree.specs.declared.concurrent.Concurrent.TheBlock.{Row_of-Concurrent, end_of-Concurrent, more_of-Concurrent}
use Rattle.vhdl_tree.specs.declared.concurrent.Scheme.{Scheme}
use Rattle.vhdl_tree.specs.declared.concurrent.Scheme.TheVariants as sc
use Rattle.vhdl_tree.specs.declared.declaration.Subtype.{Subtype}
use Rattle.vhdl_tree.specs.declared.declaration.Constraint.{Constraint}
use Rattle.vhdl_tree.specs.declared.declaration.Constraint.TheVariants as co
use Rattle.vhdl_tree.specs.declared.declaration.Generic.{Generic}
use Rattle.vhdl_tree.specs.declared.declaration.Port.{Port}
use Rattle.vhdl_tree.specs.declared.declaration.Signals.{Signals}
use Rattle.vhdl_tree.specs.declared.declaration.Variables.{Variables}
use Rattle.vhdl_tree.specs.declared.declaration.Constants.{Constants}
use Rattle.vhdl_tree.specs.declared.declaration.Component.{Component}
use Rattle.vhdl_tree.specs.declared.declaration.Declaration.{Declaration}
use Rattle.vhdl_tree.specs.declared.declaration.Declaration.TheVariants as d
use Rattle.vhdl_tree.specs.declared.declaration.SubtypeDeclaration.{SubtypeDeclaration}
use Rattle.vhdl_tree.specs.declared.declaration.ProcessDeclaration.{ProcessDeclaration}
use Rattle.vhdl_tree.specs.declared.declaration.ProcessDeclaration.TheVariants as pd
use Rattle.vhdl_tree.specs.declared.unit.Entity.{Entity}
use Rattle.vhdl_tree.specs.declared.unit.Architecture.{Architecture}
use Rattle.vhdl_tree.specs.declared.unit.LibraryUnit.{LibraryUnit}
use Rattle.vhdl_tree.specs.declared.unit.LibraryUnit.TheVariants as u
use Rattle.vhdl_tree.specs.declared.unit.DesignUnit.{DesignUnit}
use Rattle.vhdl_tree.specs.declared.unit.File.{File}

-- ---- expressions

-- how many expressions stand one in another
abbrev mutual
  pub height : Expr → ℕ
  height (e.Integer l) = 1
  height (e.Character at code) = 1
  height (e.StringLiteral l) = 1
  height (e.BitString l) = 1
  height (e.Name' identifier suffix attribute) = suc (suffix_height suffix)
  height (e.Parens' at p inner) = suc (height inner)
  height (e.Not' at p operand) = suc (height operand)
  height (e.Abs' at p operand) = suc (height operand)
  height (e.Power' p base at exponent) = suc (max (height base) (height exponent))
  height (e.Signed' sign at p operand) = suc (height operand)
  height (e.Chain' p chain) = suc (chain_height chain)
  height (e.Aggregate' at shape elements) = suc (elements_height elements)
  height (e.Qualified' mark at shape elements) = suc (elements_height elements)

  -- neither an element nor its choices count
  pub elements_height : {m : _} → Row_of-Element m → ℕ
  elements_height end_of-Element = 0
  elements_height (more_of-Element shape choices value rest) =
      max (max (choices_height choices) (height value)) (elements_height rest)

  pub choices_height : {m : _} → Row_of-Choice m → ℕ
  choices_height end_of-Choice = 0
  choices_height (more_of-Choice c rest) = max (choice_height c) (choices_height rest)

  pub choice_height : Choice → ℕ
  choice_height (ch.Expr x) = height x
  choice_height (ch.Range' left direction right) = max (height left) (height right)
  choice_height (ch.Others at) = 0

  pub chain_height : Chain → ℕ
  chain_height (Chain' first operator at operand shape rest) =
      max (max (height first) (height operand)) (links_height rest)

  pub links_height : {m : _} → Row_of-Link m → ℕ
  links_height end_of-Link = 0
  links_height (more_of-Link operator at operand rest) = max (height operand) (links_height rest)

  pub suffix_height : Suffix → ℕ
  suffix_height s.Plain = 0
  suffix_height (s.Arguments' shape all) = row_height all
  suffix_height (s.Range' p left direction right) = max (height left) (height right)

  pub row_height : {m : _} → Row_of-Expr m → ℕ
  row_height end_of-Expr = 0
  row_height (more_of-Expr x rest) = max (height x) (row_height rest)

-- the greatest height in a list, and in what may be absent
abbrev pub highest : {A : Type 0} → (A → ℕ) → List A → ℕ
highest h [] = 0
highest h (x ∷ xs) = max (h x) (highest h xs)

abbrev pub optional_height : {A : Type 0} → (A → ℕ) → Option A → ℕ
optional_height h None = 0
optional_height h (Some x) = h x

abbrev pub range_height : Range → ℕ
range_height r = max (height r.left) (height r.right)

-- a name counts as an expression
abbrev pub name_height : Name → ℕ
name_height n = suc (suffix_height n.suffix)

abbrev pub discrete_range_height : DiscreteRange → ℕ
discrete_range_height (dr.Bounds r) = range_height r
discrete_range_height (dr.Name n) = name_height n

abbrev pub value_height : Value → ℕ
value_height (v.Expr x) = height x
value_height (v.Others at x) = suc (height x)

abbrev pub actual_height : Actual → ℕ
actual_height (ac.Expr x) = height x
actual_height (ac.Open at) = 0

abbrev pub association_height : Association → ℕ
association_height a = actual_height a.actual

abbrev pub associations_height : Vec Association Global → ℕ
associations_height v = highest association_height v.items

abbrev pub constraint_height : Constraint → ℕ
constraint_height (co.Index r) = discrete_range_height r
constraint_height (co.Range r) = discrete_range_height r

abbrev pub subtype_height : Subtype → ℕ
subtype_height t = optional_height constraint_height t.constraint

-- ---- sequential statements

-- nothing stands in another thing in a text
abbrev pub text_height : Vec TokenKind Global → ℕ
text_height text = 1

abbrev pub branch_height : Branch → ℕ
branch_height b = max (value_height b.value) (height b.condition)

abbrev mutual
  pub statement_height : Statement → ℕ
  statement_height (st.Null at) = 1
  statement_height (st.SignalAssignment target value) = suc (max (name_height target) (value_height value))
  statement_height (st.VariableAssignment target value) = suc (max (name_height target) (value_height value))
  statement_height (st.ConditionalAssignment is_variable target branches otherwise) =
      suc (max (name_height target)
      (max (highest branch_height branches.items) (optional_height value_height otherwise)))
  statement_height (st.If i) = suc (if_height i)
  statement_height (st.Case c) = suc (case_height c)
  statement_height (st.For f) = suc (for_height f)
  statement_height (st.Assert text) = text_height text
  statement_height (st.Report text) = text_height text

  pub if_height : If → ℕ
  if_height (If' at shape branches otherwise end_label) =
      max (conditionals_height branches) (otherwise_height otherwise)

  pub case_height : Case → ℕ
  case_height (Case' at selector shape alternatives end_label) =
      max (height selector) (alternatives_height alternatives)

  pub for_height : For → ℕ
  for_height (For' at parameter range shape statements end_label) =
      max (discrete_range_height range) (statements_height statements)

  pub statements_height : {m : _} → Row_of-Sequential m → ℕ
  statements_height end_of-Sequential = 0
  statements_height (more_of-Sequential label s rest) = max (statement_height s) (statements_height rest)

  pub conditionals_height : {m : _} → Row_of-Conditional m → ℕ
  conditionals_height end_of-Conditional = 0
  conditionals_height (more_of-Conditional c rest) = max (conditional_height c) (conditionals_height rest)

  pub conditional_height : Conditional → ℕ
  conditional_height (Conditional' condition shape statements) = max (height condition) (statements_height statements)

  pub alternatives_height : {m : _} → Row_of-Alternative m → ℕ
  alternatives_height end_of-Alternative = 0
  alternatives_height (more_of-Alternative a rest) = max (alternative_height a) (alternatives_height rest)

  pub alternative_height : Alternative → ℕ
  alternative_height (Alternative' choices shape statements) =
      max (highest choice_height choices.items) (statements_height statements)

  pub otherwise_height : Held-If-otherwise → ℕ
  otherwise_height None' = 0
  otherwise_height (Some' shape row) = statements_height row

abbrev pub sequential_height : Sequential → ℕ
sequential_height s = statement_height s.statement

-- ---- concurrent statements

abbrev pub sensitivity_height : Sensitivity → ℕ
sensitivity_height se.Absent = 0
sensitivity_height se.All = 0
sensitivity_height (se.Names all) = highest name_height all.items

abbrev pub variables_height : Variables → ℕ
variables_height d = suc (max (subtype_height d.subtype) (optional_height value_height d.default))

abbrev pub constants_height : Constants → ℕ
constants_height d = suc (max (subtype_height d.subtype) (value_height d.value))

abbrev pub subtype_declaration_height : SubtypeDeclaration → ℕ
subtype_declaration_height d = suc (subtype_height d.subtype)

abbrev pub process_declaration_height : ProcessDeclaration → ℕ
process_declaration_height (pd.Variables x) = variables_height x
process_declaration_height (pd.Constants x) = constants_height x
process_declaration_height (pd.Enumeration x) = 1
process_declaration_height (pd.Subtype x) = subtype_declaration_height x

abbrev pub wait_height : Wait → ℕ
wait_height w = height w.condition

abbrev pub process_height : Process → ℕ
process_height p =
    suc (max (sensitivity_height p.sensitivity)
    (max (highest process_declaration_height p.declarations.items)
    (max (optional_height wait_height p.wait) (highest sequential_height p.statements.items))))

abbrev pub waveform_height : Waveform → ℕ
waveform_height w = max (value_height w.value) (highest choice_height w.choices.items)

abbrev pub selected_height : SelectedAssignment → ℕ
selected_height s =
    suc (max (height s.selector) (max (name_height s.target) (highest waveform_height s.waveforms.items)))

abbrev pub assignment_height : Assignment → ℕ
assignment_height a =
    suc (max (name_height a.target)
    (max (highest branch_height a.branches.items) (optional_height value_height a.otherwise)))

abbrev pub instance_height : Instance → ℕ
instance_height i =
    suc (max (optional_height associations_height i.generics) (optional_height associations_height i.ports))

abbrev pub scheme_height : Scheme → ℕ
scheme_height (sc.For parameter range) = discrete_range_height range
scheme_height (sc.If condition) = height condition

abbrev pub assertion_height : Assertion → ℕ
assertion_height a = text_height a.text

abbrev pub assertions_height : Vec Assertion Global → ℕ
assertions_height v = highest assertion_height v.items

abbrev mutual
  pub concurrent_height : Concurrent → ℕ
  concurrent_height (c.Assignment a) = assignment_height a
  concurrent_height (c.Selected label s) = selected_height s
  concurrent_height (c.Process label p) = process_height p
  concurrent_height (c.Instance label i) = instance_height i
  concurrent_height (c.Generate' label at scheme begin_word shape statements end_label) =
      suc (max (scheme_height scheme) (concurrents_height statements))
  concurrent_height (c.Assert a) = assertion_height a

  pub concurrents_height : {m : _} → Row_of-Concurrent m → ℕ
  concurrents_height end_of-Concurrent = 0
  concurrents_height (more_of-Concurrent x rest) = max (concurrent_height x) (concurrents_height rest)

-- ---- declarations

abbrev pub generic_height : Generic → ℕ
generic_height g = suc (max (subtype_height g.subtype) (optional_height height g.default))

abbrev pub generics_height : Vec Generic Global → ℕ
generics_height v = highest generic_height v.items

abbrev pub port_height : Port → ℕ
port_height p = suc (max (subtype_height p.subtype) (optional_height value_height p.default))

abbrev pub ports_height : Vec Port Global → ℕ
ports_height v = highest port_height v.items

abbrev pub signals_height : Signals → ℕ
signals_height d = suc (max (subtype_height d.subtype) (optional_height value_height d.default))

abbrev pub component_height : Component → ℕ
component_height d = suc (max (optional_height generics_height d.generics) (optional_height ports_height d.ports))

abbrev pub declaration_height : Declaration → ℕ
declaration_height (d.Signals x) = signals_height x
declaration_height (d.Constants x) = constants_height x
declaration_height (d.Enumeration x) = 1
declaration_height (d.Component x) = component_height x
declaration_height (d.Subtype x) = subtype_declaration_height x
declaration_height (d.Attribute text) = text_height text

-- ---- units

abbrev pub entity_height : Entity → ℕ
entity_height n =
    suc (max (max (optional_height generics_height n.generics) (optional_height ports_height n.ports))
    (max (highest text_height n.attributes.items) (optional_height assertions_height n.statements)))

abbrev pub architecture_height : Architecture → ℕ
architecture_height a =
    suc (max (highest declaration_height a.declarations.items) (highest concurrent_height a.statements.items))

abbrev pub library_unit_height : LibraryUnit → ℕ
library_unit_height (u.Entity n) = entity_height n
library_unit_height (u.Architecture a) = architecture_height a

-- nothing stands in another thing in a context clause
abbrev pub unit_height : DesignUnit → ℕ
unit_height n = library_unit_height n.unit

abbrev pub file_height : File → ℕ
file_height f = suc (highest unit_height f.units.items)
