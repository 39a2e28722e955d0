-- Each file of the narrower language is one of the wider.
use Rattle.std.proofs.Common.{List, [], ◌∷◌, Option, Some, None}
use Rattle.vhdl_lexer.specs.declared.language.Language.{Language}
use Rattle.vhdl_lexer.specs.declared.language.Language.TheVariants.{Profile, Wide}
use Rattle.vhdl_tree.specs.Tree as t
use Rattle.vhdl_tree.specs.Pieces.{IsOption}
use Rattle.vhdl_tree.specs.grammar.Expressions.{IsExprIn, IsNameIn}
use Rattle.vhdl_tree.specs.grammar.Waveforms.{IsBranchIn, AreWaveformsIn}
use Rattle.vhdl_tree.specs.grammar.Sequential.{IsStatementIn, AreStatementsIn, AreBranchesIn, AreElsifsIn, IsElseIn, AreCasesIn, AreAlternativesIn}
use Rattle.vhdl_tree.specs.grammar.Process.{IsSensitivityIn, IsProcessDeclarationIn, IsWaitIn, IsProcessIn, IsWaveformIn, IsSelectedIn}
use Rattle.vhdl_tree.specs.grammar.Concurrent.{IsSchemeIn, IsConcurrentIn, AreConcurrentsIn}
use Rattle.vhdl_tree.specs.grammar.Declarations.{IsGenericSubtypeIn, IsGenericIn, AreGenericsIn, IsPortIn, ArePortsIn, IsDeclarationIn}
use Rattle.vhdl_tree.specs.grammar.Subtypes.{IsConstraintIn}
use Rattle.vhdl_tree.specs.grammar.Texts.{IsTextIn}
use Rattle.vhdl_tree.specs.grammar.Wide.{IsWide}
use Rattle.vhdl_tree.specs.grammar.Units.{AreEntityStatementsIn, IsEntityIn, IsLibraryUnitIn, IsUnitIn, IsFileIn, IsFile}
use Rattle.vhdl_tree.proofs.NarrowExpressions.{each_is, list_is, option_is, expr_is, name_is, discrete_range_is, value_is, choices_are, associations_may_be, subtype_is, value_may_be, constants_are}

-- ---- sequential statements

mutual
  statement_is : (s : t.Statement) → IsStatementIn Profile s → IsStatementIn Wide s
  statement_is (t.null_of at) good = tt
  statement_is (t.assigned target value) good = (name_is target good.0, value_is value good.1)
  statement_is (t.variable_assigned target value) good = (name_is target good.0, value_is value good.1)
  statement_is (t.assigned_when is_variable target branches otherwise) good = absurd good.0
  statement_is (t.if_of at branches otherwise label) good = (branches_are branches good.0, else_is otherwise good.1)
  statement_is (t.case_of at selector alternatives label) good = (expr_is selector good.0, cases_are alternatives good.1)
  statement_is (t.for_of at parameter range statements label) good = (discrete_range_is range good.0, statements_are statements good.1)
  statement_is (t.asserted text) good = absurd good.0
  statement_is (t.reported text) good = absurd good.0

  statements_are : (ss : t.Statements) → AreStatementsIn Profile ss → AreStatementsIn Wide ss
  statements_are t.done good = tt
  statements_are (t.step label s more) good = (statement_is s good.0, statements_are more good.1)

  branches_are : (cs : t.Conditionals) → AreBranchesIn Profile cs → AreBranchesIn Wide cs
  branches_are t.no_conditionals good = absurd good
  branches_are (t.guarded condition statements more) good = (expr_is condition good.0, statements_are statements good.1, elsifs_are more good.2)

  elsifs_are : (cs : t.Conditionals) → AreElsifsIn Profile cs → AreElsifsIn Wide cs
  elsifs_are t.no_conditionals good = tt
  elsifs_are (t.guarded condition statements more) good = (expr_is condition good.0, statements_are statements good.1, elsifs_are more good.2)

  else_is : (o : t.Otherwise) → IsElseIn Profile o → IsElseIn Wide o
  else_is t.no_else good = tt
  else_is (t.else_do statements) good = statements_are statements good

  cases_are : (all : t.Alternatives) → AreCasesIn Profile all → AreCasesIn Wide all
  cases_are t.no_alternatives good = absurd good
  cases_are (t.alternative choices statements more) good = (choices_are choices good.0, statements_are statements good.1, alternatives_are more good.2)

  alternatives_are : (all : t.Alternatives) → AreAlternativesIn Profile all → AreAlternativesIn Wide all
  alternatives_are t.no_alternatives good = tt
  alternatives_are (t.alternative choices statements more) good = (choices_are choices good.0, statements_are statements good.1, alternatives_are more good.2)

-- ---- processes and selected assignments

sensitivity_is : (s : t.Sensitivity) → IsSensitivityIn Profile s → IsSensitivityIn Wide s
sensitivity_is t.absent good = tt
sensitivity_is t.every good = tt
sensitivity_is (t.listed names) good = list_is (IsNameIn Profile) (IsNameIn Wide) name_is names good

process_declaration_is : (d : t.ProcessDeclaration) → IsProcessDeclarationIn Profile d → IsProcessDeclarationIn Wide d
process_declaration_is (t.variables d) good = (good.0, subtype_is d.subtype good.1, value_may_be d.default good.2)
process_declaration_is (t.process_constants d) good = absurd good.0
process_declaration_is (t.process_enumeration d) good = absurd good.0
process_declaration_is (t.process_subtype d) good = absurd good.0

wait_is : (w : t.Wait) → IsWaitIn Profile w → IsWaitIn Wide w
wait_is w good = absurd good.0

process_is : (p : t.Process) → IsProcessIn Profile p → IsProcessIn Wide p
process_is p good = (
  sensitivity_is p.sensitivity good.0,
  each_is (IsProcessDeclarationIn Profile) (IsProcessDeclarationIn Wide) process_declaration_is p.declarations good.1,
  option_is (IsWaitIn Profile) (IsWaitIn Wide) wait_is p.wait good.2,
  statements_are (t.statements_of p.statements) good.3,
)

waveform_is : (w : t.Waveform) → IsWaveformIn Profile w → IsWaveformIn Wide w
waveform_is w good = (value_is w.value good.0, choices_are w.choices good.1)

selected_is : (s : t.SelectedAssignment) → IsSelectedIn Profile s → IsSelectedIn Wide s
selected_is s good = (expr_is s.selector good.0, name_is s.target good.1, list_is (IsWaveformIn Profile) (IsWaveformIn Wide) waveform_is s.waveforms good.2)

-- ---- concurrent statements

branch_is : (b : t.Branch) → IsBranchIn Profile b → IsBranchIn Wide b
branch_is b good = (value_is b.value good.0, expr_is b.condition good.1)

waveforms_are : (bs : List t.Branch) (o : Option t.Value) → AreWaveformsIn Profile bs o → AreWaveformsIn Wide bs o
waveforms_are [] None good = absurd good
waveforms_are [] (Some v) good = value_is v good
waveforms_are (b ∷ more) o good = (branch_is b good.0, each_is (IsBranchIn Profile) (IsBranchIn Wide) branch_is more good.1, value_may_be o good.2)

scheme_is : (s : t.Scheme) → IsSchemeIn Profile s → IsSchemeIn Wide s
scheme_is (t.for_each parameter range) good = discrete_range_is range good
scheme_is (t.if_holds condition) good = expr_is condition good

mutual
  concurrent_is : (c : t.Concurrent) → IsConcurrentIn Profile c → IsConcurrentIn Wide c
  concurrent_is (t.assignment a) good = (name_is a.target good.0, waveforms_are a.branches a.otherwise good.1)
  concurrent_is (t.selected label s) good = selected_is s good
  concurrent_is (t.process label p) good = process_is p good
  concurrent_is (t.instance label i) good = (associations_may_be i.generics good.0, associations_may_be i.ports good.1)
  concurrent_is (t.generated label at scheme word statements last) good = (scheme_is scheme good.0, concurrents_are statements good.1)
  concurrent_is (t.assertion a) good = absurd good.0

  concurrents_are : (cs : t.Concurrents) → AreConcurrentsIn Profile cs → AreConcurrentsIn Wide cs
  concurrents_are t.no_concurrents good = tt
  concurrents_are (t.concurrent c more) good = (concurrent_is c good.0, concurrents_are more good.1)

-- ---- declarations

generic_subtype_is : (s : t.Subtype) → IsGenericSubtypeIn Profile s → IsGenericSubtypeIn Wide s
generic_subtype_is s good = option_is (λ c. IsWide Profile × IsConstraintIn Profile c) (λ c. IsWide Wide × IsConstraintIn Wide c) (λ c fine. absurd fine.0) s.constraint good

generic_is : (g : t.Generic) → IsGenericIn Profile g → IsGenericIn Wide g
generic_is g good = (good.0, generic_subtype_is g.subtype good.1, option_is (IsExprIn Profile) (IsExprIn Wide) expr_is g.default good.2)

generics_may_be : (o : Option (List t.Generic)) → IsOption (AreGenericsIn Profile) o → IsOption (AreGenericsIn Wide) o
generics_may_be o good = option_is (AreGenericsIn Profile) (AreGenericsIn Wide) (λ gs fine. list_is (IsGenericIn Profile) (IsGenericIn Wide) generic_is gs fine) o good

port_is : (p : t.Port) → IsPortIn Profile p → IsPortIn Wide p
port_is p good = (good.0, subtype_is p.subtype good.1, value_may_be p.default good.2)

ports_may_be : (o : Option (List t.Port)) → IsOption (ArePortsIn Profile) o → IsOption (ArePortsIn Wide) o
ports_may_be o good = option_is (ArePortsIn Profile) (ArePortsIn Wide) (λ ps fine. list_is (IsPortIn Profile) (IsPortIn Wide) port_is ps fine) o good

declaration_is : (d : t.Declaration) → IsDeclarationIn Profile d → IsDeclarationIn Wide d
declaration_is (t.signals d) good = (good.0, subtype_is d.subtype good.1, value_may_be d.default good.2)
declaration_is (t.constants d) good = constants_are d good
declaration_is (t.enumeration d) good = good
declaration_is (t.component c) good = (generics_may_be c.generics good.0, ports_may_be c.ports good.1)
declaration_is (t.subtype_of d) good = absurd good.0
declaration_is (t.attribute_of text) good = absurd good.0

-- ---- units

entity_statements_are : (all : List t.Assertion) → AreEntityStatementsIn Profile all → AreEntityStatementsIn Wide all
entity_statements_are all good = absurd good.0

entity_is : (e : t.Entity) → IsEntityIn Profile e → IsEntityIn Wide e
entity_is e good = (
  generics_may_be e.generics good.0,
  ports_may_be e.ports good.1,
  each_is (IsTextIn Profile) (IsTextIn Wide) (λ text fine. absurd fine.0) e.attributes good.2,
  option_is (AreEntityStatementsIn Profile) (AreEntityStatementsIn Wide) entity_statements_are e.statements good.3,
)

library_unit_is : (u : t.LibraryUnit) → IsLibraryUnitIn Profile u → IsLibraryUnitIn Wide u
library_unit_is (t.entity e) good = entity_is e good
library_unit_is (t.architecture a) good = (
  each_is (IsDeclarationIn Profile) (IsDeclarationIn Wide) declaration_is a.declarations good.0,
  each_is (IsConcurrentIn Profile) (IsConcurrentIn Wide) concurrent_is a.statements good.1,
)

unit_is : (u : t.DesignUnit) → IsUnitIn Profile u → IsUnitIn Wide u
unit_is u good = (good.0, library_unit_is u.unit good.1)

pub narrow_is_wide : (f : t.File) → IsFile f → IsFileIn Wide f
narrow_is_wide f good = each_is (IsUnitIn Profile) (IsUnitIn Wide) unit_is f.units good

pub files_are_wide : (language : Language) (f : t.File) → IsFileIn language f → IsFileIn Wide f
files_are_wide Profile f good = narrow_is_wide f good
files_are_wide Wide f good = good
