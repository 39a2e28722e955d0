-- How high concurrent statements, declarations, units and files are, where so many levels may be opened.
use Rattle.std.proofs.Common.{ℕ, suc, ◌+◌, ◌*◌, ◌≤◌, Bool, true, false, List, [], ◌∷◌, ◌++◌, Vec, Global, Option, Some, None, refl, sym, subst, append-nil, arith}
use Rattle.std.specs.Prelude.{max}
use Rattle.vhdl_lexer.specs.declared.language.Language.TheVariants.{Wide}
use Rattle.vhdl_lexer.specs.declared.token.TokenKind.{TokenKind}
use Rattle.vhdl_lexer.specs.declared.token.TokenKind.TheVariants as k
use Rattle.vhdl_tree.specs.declared.expression.Association.{Association}
use Rattle.vhdl_tree.specs.declared.expression.Expr.{Expr}
use Rattle.vhdl_tree.specs.declared.expression.Value.{Value}
use Rattle.vhdl_tree.specs.declared.process.Sensitivity.{Sensitivity}
use Rattle.vhdl_tree.specs.declared.process.Sensitivity.TheVariants as se
use Rattle.vhdl_tree.specs.declared.process.Process.{Process}
use Rattle.vhdl_tree.specs.declared.process.Wait.{Wait}
use Rattle.vhdl_tree.specs.declared.process.Waveform.{Waveform}
use Rattle.vhdl_tree.specs.declared.process.SelectedAssignment.{SelectedAssignment}
use Rattle.vhdl_tree.specs.declared.instance.Instance.{Instance}
use Rattle.vhdl_tree.specs.declared.concurrent.Assertion.{Assertion}
use Rattle.vhdl_tree.specs.declared.concurrent.Assignment.{Assignment}
use Rattle.vhdl_tree.specs.declared.concurrent.Concurrent.{Concurrent}
use Rattle.vhdl_tree.specs.declared.concurrent.Concurrent.TheVariants as c
use Rattle.vhdl_tree.specs.declared.concurrent.Concurrent.TheBlock.{Row_of-Concurrent, end_of-Concurrent, more_of-Concurrent}
use Rattle.vhdl_tree.specs.declared.concurrent.Scheme.{Scheme}
use Rattle.vhdl_tree.specs.declared.concurrent.Scheme.TheVariants as sc
use Rattle.vhdl_tree.specs.declared.declaration.Mode.{Mode}
use Rattle.vhdl_tree.specs.declared.declaration.Mode.TheVariants.{In, Out}
use Rattle.vhdl_tree.specs.declared.declaration.Generic.{Generic}
use Rattle.vhdl_tree.specs.declared.declaration.Port.{Port}
use Rattle.vhdl_tree.specs.declared.declaration.Subtype.{Subtype}
use Rattle.vhdl_tree.specs.declared.declaration.Signals.{Signals}
use Rattle.vhdl_tree.specs.declared.declaration.Constants.{Constants}
use Rattle.vhdl_tree.specs.declared.declaration.Enumeration.{Enumeration}
use Rattle.vhdl_tree.specs.declared.declaration.Component.{Component}
use Rattle.vhdl_tree.specs.declared.declaration.Declaration.{Declaration}
use Rattle.vhdl_tree.specs.declared.declaration.Declaration.TheVariants as d
use Rattle.vhdl_tree.specs.declared.declaration.SubtypeDeclaration.{SubtypeDeclaration}
use Rattle.vhdl_tree.specs.declared.declaration.ProcessDeclaration.{ProcessDeclaration}
use Rattle.vhdl_tree.specs.declared.declaration.ProcessDeclaration.TheVariants as pd
use Rattle.vhdl_tree.specs.declared.unit.Entity.{Entity}
use Rattle.vhdl_tree.specs.declared.unit.Architecture.{Architecture}
use Rattle.vhdl_tree.specs.declared.unit.LibraryUnit.{LibraryUnit}
use Rattle.vhdl_tree.specs.declared.unit.LibraryUnit.TheVariants as u
use Rattle.vhdl_tree.specs.declared.unit.DesignUnit.{DesignUnit}
use Rattle.vhdl_tree.specs.declared.unit.File.{File}
use Rattle.vhdl_tree.specs.Lexeme.{Lexeme, same_kind}
use Rattle.vhdl_tree.specs.Levels.{IsShallow}
use Rattle.vhdl_tree.specs.Tree as t
use Rattle.vhdl_tree.specs.View as view
use Rattle.vhdl_tree.specs.Height as high
use Rattle.vhdl_tree.specs.Pieces.{Piece, some, one_at, word_at, Spells, spell_each, spell_idents, IsOption, spell_option}
use Rattle.vhdl_tree.specs.grammar.Expressions.{spell_name, IsExprIn, IsNameIn, IsValueIn, AreAssociationsIn}
use Rattle.vhdl_tree.specs.grammar.Subtypes.{spell_subtype, spell_default, IsSubtypeIn}
use Rattle.vhdl_tree.specs.grammar.Subtypes as subtypes
use Rattle.vhdl_tree.specs.grammar.Texts.{spell_text, IsTextIn}
use Rattle.vhdl_tree.specs.grammar.Wide.{IsWide}
use Rattle.vhdl_tree.specs.grammar.Process as process
use Rattle.vhdl_tree.specs.grammar.Instance as instance
use Rattle.vhdl_tree.specs.grammar.Concurrent as concurrent
use Rattle.vhdl_tree.specs.grammar.Declarations as declaration
use Rattle.vhdl_tree.specs.grammar.Units as unit
use Rattle.vhdl_tree.proofs.Room.{Fits, Bounds, Closes, Moves, IsPlain, shallow_fits, b_none, b_less, b_raise, b_then, b_piece, b_end, b_level, b_paren, b_paren_then, b_ident, b_word, b_option, b_each, b_list, b_option_flat, b_list_flat, b_idents, b_semicolon, b_last}
use Rattle.vhdl_tree.proofs.HeightsExpressions.{expr_height, name_is, discrete_range_is, value_is, choices_are, associations_are, subtype_is, default_is, waveforms_are}
use Rattle.vhdl_tree.proofs.HeightsTexts.{text_is}
use Rattle.vhdl_tree.proofs.NarrowExpressions.{option_is}
use Rattle.vhdl_tree.proofs.HeightsStatements.{b_label, b_optional_label, b_end_of, body_is}

-- ---- processes and selected assignments

sensitivity_is : (s : Sensitivity) → process.IsSensitivityIn Wide (view.sensitivity_view s) → Bounds 8 (high.sensitivity_height s) (process.spell_sensitivity (view.sensitivity_view s))
unfolding same_kind
sensitivity_is se.Absent good = b_none
sensitivity_is se.All good = b_less {c = 8} (omega arith) (b_level (some k.LeftParen) (refl, refl, refl) (b_piece (some k.All) (refl, refl, refl) b_paren))
sensitivity_is (se.Names all) good = b_less {c = 8} (omega arith)
    (b_level (some k.LeftParen) (refl, refl, refl) (b_then (b_list 8 view.name_view high.name_height spell_name (IsNameIn Wide) name_is k.Comma (refl, refl, refl) all.items good) b_paren))

default_may_be : (o : Option Value) → IsOption (IsValueIn Wide) (view.option_value_view o) → Bounds 8 (high.optional_height high.value_height o) (spell_option spell_default (view.option_value_view o))
default_may_be o good = b_option 8 view.value_view high.value_height spell_default (IsValueIn Wide) default_is o good

-- word ids : subtype [ := value ] ;
objects_are : {c : ℕ} (word : TokenKind) → IsPlain word → 9 ≤ c → (names : List t.Ident) (s : Subtype) (o : Option Value) → IsSubtypeIn Wide (view.subtype_view s) → IsOption (IsValueIn Wide) (view.option_value_view o) →
    Bounds c (suc (max (high.subtype_height s) (high.optional_height high.value_height o)))
    (some word ∷ (spell_idents names ++ (some k.Colon ∷ (spell_subtype (view.subtype_view s) ++ (spell_option spell_default (view.option_value_view o) ++ some k.Semicolon ∷ [])))))
unfolding same_kind
objects_are word plain room names s o is_subtype is_default = b_less {c = 8} (omega (arith, room))
    (b_piece (some word) plain (b_then (b_idents names) (b_piece (some k.Colon) (refl, refl, refl)
    (b_then (subtype_is s is_subtype) (b_then (default_may_be o is_default) b_semicolon)))))

constants_are : {c : ℕ} → 9 ≤ c → (d : Constants) → subtypes.IsConstantsIn Wide (view.constants_view d) → Bounds c (high.constants_height d) (subtypes.spell_constants (view.constants_view d))
unfolding same_kind
constants_are room d good = b_less {c = 8} (omega (arith, room))
    (b_piece (some k.Constant) (refl, refl, refl) (b_then (b_idents (view.idents_view d.names)) (b_piece (some k.Colon) (refl, refl, refl)
    (b_then (subtype_is d.subtype good.1) (b_piece (some k.Assign) (refl, refl, refl) (b_then (value_is d.value good.2) b_semicolon))))))

enumeration_is : {c : ℕ} → 9 ≤ c → (d : Enumeration) → Bounds c 1 (subtypes.spell_enumeration (view.enumeration_view d))
unfolding same_kind
enumeration_is room d = b_less {c = 9} (omega (arith, room))
    (b_piece (some k.Type) (refl, refl, refl) (b_then (b_ident (view.ident_view d.name)) (b_piece (some k.Is) (refl, refl, refl)
    (b_level (some k.LeftParen) (refl, refl, refl) (b_then (b_idents (view.idents_view d.literals)) (b_paren_then b_semicolon))))))

subtype_declaration_is : {c : ℕ} → 9 ≤ c → (d : SubtypeDeclaration) → subtypes.IsSubtypeDeclarationIn Wide (view.subtype_declaration_view d) →
    Bounds c (high.subtype_declaration_height d) (subtypes.spell_subtype_declaration (view.subtype_declaration_view d))
unfolding same_kind
subtype_declaration_is room d good = b_less {c = 8} (omega (arith, room))
    (b_piece (some k.Subtype) (refl, refl, refl) (b_then (b_ident (view.ident_view d.name)) (b_piece (some k.Is) (refl, refl, refl)
    (b_then (subtype_is d.subtype good.1) b_semicolon))))

process_declaration_is : (x : ProcessDeclaration) → process.IsProcessDeclarationIn Wide (view.process_declaration_view x) →
    Bounds 9 (high.process_declaration_height x) (process.spell_process_declaration (view.process_declaration_view x))
unfolding same_kind
process_declaration_is (pd.Variables v) good = objects_are k.Variable (refl, refl, refl) (omega arith) (view.idents_view v.names) v.subtype v.default good.1 good.2
process_declaration_is (pd.Constants d) good = constants_are (omega arith) d good.1
process_declaration_is (pd.Enumeration d) good = enumeration_is (omega arith) d
process_declaration_is (pd.Subtype d) good = subtype_declaration_is (omega arith) d good

wait_is : (w : Wait) → process.IsWaitIn Wide (view.wait_view w) → Bounds 8 (high.wait_height w) (process.spell_wait (view.wait_view w))
unfolding same_kind
wait_is w good = b_less {c = 8} (omega arith)
    (b_piece (one_at k.Wait w.at) (refl, refl, refl) (b_piece (some k.Until) (refl, refl, refl) (b_then (expr_height w.condition good.1) b_semicolon)))

process_is : (p : Process) → process.IsProcessIn Wide (view.process_view p) → Bounds 10 (high.process_height p) (process.spell_process (view.process_view p))
unfolding same_kind
process_is p good = b_less {c = 9} (omega arith)
    (b_piece (one_at k.Process p.at) (refl, refl, refl) (b_then (b_raise 9 (omega arith) (sensitivity_is p.sensitivity good.0))
    (b_then (b_word k.Is p.is_word (refl, refl, refl))
    (b_then (b_each 9 view.process_declaration_view high.process_declaration_height process.spell_process_declaration (process.IsProcessDeclarationIn Wide) process_declaration_is p.declarations.items good.1)
    (b_piece (some k.Begin) (refl, refl, refl)
    (b_then (b_raise 9 (omega arith) (b_option 8 view.wait_view high.wait_height process.spell_wait (process.IsWaitIn Wide) wait_is p.wait good.2))
    (b_then (body_is p.statements.items good.3) (b_end (some k.Process) (refl, refl, refl) (b_last (view.option_ident_view p.end_label))))))))))

waveform_is : (w : Waveform) → process.IsWaveformIn Wide (view.waveform_view w) → Bounds 8 (high.waveform_height w) (process.spell_waveform (view.waveform_view w))
unfolding same_kind
waveform_is w good = b_then (value_is w.value good.0) (b_piece (some k.When) (refl, refl, refl) (choices_are w.choices good.1))

selected_is : (s : SelectedAssignment) → process.IsSelectedIn Wide (view.selected_assignment_view s) → Bounds 10 (high.selected_height s) (process.spell_selected (view.selected_assignment_view s))
unfolding same_kind
selected_is s good = b_less {c = 8} (omega arith)
    (b_piece (one_at k.With s.at) (refl, refl, refl) (b_then (expr_height s.selector good.0) (b_piece (some k.Select) (refl, refl, refl)
    (b_then (name_is s.target good.1) (b_piece (some k.LessEqual) (refl, refl, refl)
    (b_then (b_list 8 view.waveform_view high.waveform_height process.spell_waveform (process.IsWaveformIn Wide) waveform_is k.Comma (refl, refl, refl) s.waveforms.items good.2) b_semicolon))))))

-- ---- instances

chosen_is : {c : ℕ} (i : t.Ident) → Bounds c 0 (instance.spell_chosen i)
unfolding same_kind
chosen_is {c} i = b_less {c = c} (omega arith) (b_level (some k.LeftParen) (refl, refl, refl) (b_then (b_ident i) b_paren))

instantiated_is : {c : ℕ} (i : t.Instantiated) → Bounds c 0 (instance.spell_instantiated i)
unfolding same_kind
instantiated_is {c} (t.entity_unit library name chosen) = b_less {c = c} (omega arith)
    (b_piece (some k.Entity) (refl, refl, refl) (b_then (b_ident library) (b_piece (some k.Dot) (refl, refl, refl)
    (b_then (b_ident name) (b_option_flat instance.spell_chosen (λ i. chosen_is i) chosen)))))
instantiated_is {c} (t.component_unit word name) = b_less {c = c} (omega arith) (b_then (b_word k.Component word (refl, refl, refl)) (b_ident name))

map_is : (word : TokenKind) → IsPlain word → (all : Vec Association Global) → AreAssociationsIn Wide (view.associations_view all) → Bounds 8 (high.associations_height all) (instance.spell_map word (view.associations_view all))
unfolding same_kind
map_is word plain all good = b_less {c = 8} (omega arith)
    (b_piece (some word) plain (b_piece (some k.Map) (refl, refl, refl) (b_level (some k.LeftParen) (refl, refl, refl) (b_then (associations_are all good) b_paren))))

instance_is : (i : Instance) → instance.IsInstanceIn Wide (view.instance_view i) → Bounds 10 (high.instance_height i) (instance.spell_instance (view.instance_view i))
unfolding same_kind
instance_is i good = b_less {c = 8} (omega arith)
    (b_then (instantiated_is (view.instantiated_view i.unit))
    (b_then (b_option 8 view.associations_view high.associations_height (instance.spell_map k.Generic) (AreAssociationsIn Wide) (map_is k.Generic (refl, refl, refl)) i.generics good.0)
    (b_then (b_option 8 view.associations_view high.associations_height (instance.spell_map k.Port) (AreAssociationsIn Wide) (map_is k.Port (refl, refl, refl)) i.ports good.1) b_semicolon)))

-- ---- concurrent statements

assignment_is : (a : Assignment) → concurrent.IsAssignmentIn Wide (view.assignment_view a) → Bounds 10 (high.assignment_height a) (concurrent.spell_assignment (view.assignment_view a))
unfolding same_kind
assignment_is a good = b_less {c = 8} (omega arith)
    (b_then (b_optional_label (view.option_ident_view a.label)) (b_then (name_is a.target good.0) (b_piece (some k.LessEqual) (refl, refl, refl)
    (b_then (waveforms_are a.branches.items a.otherwise good.1) b_semicolon))))

-- a scheme, which opens a level, and what closes it
generated_is : {a : ℕ} {ps : List Piece} (at : ℕ) (s : Scheme) → concurrent.IsSchemeIn Wide (view.scheme_view s) → Closes 10 a ps →
    Bounds 10 (8 + max (high.scheme_height s) a) (concurrent.spell_scheme at (view.scheme_view s) ++ ps)
unfolding same_kind
generated_is at (sc.For parameter range) good closed =
    b_level (one_at k.For at) (refl, refl, refl) (b_piece (word_at parameter.at parameter.text.items) (refl, refl, refl) (b_piece (some k.In) (refl, refl, refl)
    (b_then (b_raise 10 (omega arith) (discrete_range_is range good)) closed)))
generated_is at (sc.If condition) good closed =
    b_level (one_at k.If at) (refl, refl, refl) (b_then (b_raise 10 (omega arith) (expr_height condition good)) closed)

assertion_is : {c : ℕ} (a : Assertion) → concurrent.IsAssertionIn Wide (view.assertion_view a) → Bounds (suc c) (high.assertion_height a) (concurrent.spell_assertion (view.assertion_view a))
unfolding same_kind
assertion_is {c} a good = b_less {c = suc c} (omega arith) (b_then (b_optional_label (view.option_ident_view a.label)) (text_is k.Assert (refl, refl, refl) a.text.items good.1))

mutual
  unfolding same_kind

  concurrent_is : (x : Concurrent) → concurrent.IsConcurrentIn Wide (view.concurrent_view x) → Bounds 10 (high.concurrent_height x) (concurrent.spell_concurrent (view.concurrent_view x))
  concurrent_is (c.Assignment a) good = assignment_is a good
  concurrent_is (c.Selected label s) good = b_less {c = 10} (omega arith) (b_then (b_optional_label (view.option_ident_view label)) (selected_is s good))
  concurrent_is (c.Process label p) good = b_less {c = 10} (omega arith) (b_then (b_optional_label (view.option_ident_view label)) (process_is p good))
  concurrent_is (c.Instance label i) good = b_less {c = 10} (omega arith) (b_then (b_label (view.ident_view label)) (instance_is i good))
  concurrent_is (c.Generate' label at scheme begin_word shape statements last) good = b_less {c = 10} (omega arith)
      (b_then (b_label (view.ident_view label)) (generated_is at scheme good.0
      (b_piece (some k.Generate) (refl, refl, refl) (b_then (b_word k.Begin begin_word (refl, refl, refl))
      (b_then (concurrents_are statements good.1) (b_end_of k.Generate (refl, refl, refl) (view.option_ident_view last)))))))
  concurrent_is (c.Assert a) good = assertion_is a good

  concurrents_are : {m : _} (row : Row_of-Concurrent m) → concurrent.AreConcurrentsIn Wide (view.concurrents_row row) → Bounds 10 (high.concurrents_height row) (concurrent.spell_concurrents (view.concurrents_row row))
  concurrents_are end_of-Concurrent good = b_none
  concurrents_are (more_of-Concurrent x rest) good = b_then (concurrent_is x good.0) (concurrents_are rest good.1)

-- ---- declarations

generic_default : (x : Expr) → IsExprIn Wide (view.view x) → Bounds 8 (high.height x) (declaration.spell_generic_default (view.view x))
unfolding same_kind
generic_default x good = b_piece (some k.Assign) (refl, refl, refl) (expr_height x good)

constrained : (s : Subtype) → declaration.IsGenericSubtypeIn Wide (view.subtype_view s) → IsSubtypeIn Wide (view.subtype_view s)
constrained s good = option_is (λ c. IsWide Wide × subtypes.IsConstraintIn Wide c) (subtypes.IsConstraintIn Wide) (λ c fine. fine.1) (view.subtype_view s).constraint good

generic_is : (g : Generic) → declaration.IsGenericIn Wide (view.generic_view g) → Bounds 9 (high.generic_height g) (declaration.spell_generic (view.generic_view g))
unfolding same_kind
generic_is g good = b_less {c = 8} (omega arith)
    (b_then (b_word k.Constant g.constant_word (refl, refl, refl)) (b_then (b_idents (view.idents_view g.names)) (b_piece (some k.Colon) (refl, refl, refl)
    (b_then (b_word k.In g.in_word (refl, refl, refl)) (b_then (subtype_is g.subtype (constrained g.subtype good.1))
    (b_option 8 view.view high.height declaration.spell_generic_default (IsExprIn Wide) generic_default g.default good.2))))))

generics_are : (gs : Vec Generic Global) → declaration.AreGenericsIn Wide (view.generics_view gs) → Bounds 9 (high.generics_height gs) (declaration.spell_generics (view.generics_view gs))
unfolding same_kind
generics_are gs good = b_less {c = 9} (omega arith)
    (b_piece (some k.Generic) (refl, refl, refl) (b_level (some k.LeftParen) (refl, refl, refl)
    (b_then (b_list 9 view.generic_view high.generic_height declaration.spell_generic (declaration.IsGenericIn Wide) generic_is k.Semicolon (refl, refl, refl) gs.items good)
    (b_paren_then b_semicolon))))

mode_is : {c : ℕ} (m : Mode) → Bounds c 0 (declaration.spell_mode m)
unfolding same_kind
mode_is In = b_piece (some k.In) (refl, refl, refl) b_none
mode_is Out = b_piece (some k.Out) (refl, refl, refl) b_none

port_is : (p : Port) → declaration.IsPortIn Wide (view.port_view p) → Bounds 9 (high.port_height p) (declaration.spell_port (view.port_view p))
unfolding same_kind
port_is p good = b_less {c = 8} (omega arith)
    (b_then (b_word k.Signal p.signal_word (refl, refl, refl)) (b_then (b_idents (view.idents_view p.names)) (b_piece (some k.Colon) (refl, refl, refl)
    (b_then (b_option_flat declaration.spell_mode (λ m. mode_is m) p.mode) (b_then (subtype_is p.subtype good.1) (default_may_be p.default good.2))))))

ports_are : (ps : Vec Port Global) → declaration.ArePortsIn Wide (view.ports_view ps) → Bounds 9 (high.ports_height ps) (declaration.spell_ports (view.ports_view ps))
unfolding same_kind
ports_are ps good = b_less {c = 9} (omega arith)
    (b_piece (some k.Port) (refl, refl, refl) (b_level (some k.LeftParen) (refl, refl, refl)
    (b_then (b_list 9 view.port_view high.port_height declaration.spell_port (declaration.IsPortIn Wide) port_is k.Semicolon (refl, refl, refl) ps.items good)
    (b_paren_then b_semicolon))))

generics_may_be : (o : Option (Vec Generic Global)) → IsOption (declaration.AreGenericsIn Wide) (view.option_generics_view o) →
    Bounds 9 (high.optional_height high.generics_height o) (spell_option declaration.spell_generics (view.option_generics_view o))
generics_may_be o good = b_option 9 view.generics_view high.generics_height declaration.spell_generics (declaration.AreGenericsIn Wide) generics_are o good

ports_may_be : (o : Option (Vec Port Global)) → IsOption (declaration.ArePortsIn Wide) (view.option_ports_view o) →
    Bounds 9 (high.optional_height high.ports_height o) (spell_option declaration.spell_ports (view.option_ports_view o))
ports_may_be o good = b_option 9 view.ports_view high.ports_height declaration.spell_ports (declaration.ArePortsIn Wide) ports_are o good

signals_are : (d : Signals) → declaration.IsSignalsIn Wide (view.signals_view d) → Bounds 10 (high.signals_height d) (declaration.spell_signals (view.signals_view d))
unfolding same_kind
signals_are d good = objects_are k.Signal (refl, refl, refl) (omega arith) (view.idents_view d.names) d.subtype d.default good.1 good.2

component_is : (d : Component) → declaration.IsComponentIn Wide (view.component_view d) → Bounds 10 (high.component_height d) (declaration.spell_component (view.component_view d))
unfolding same_kind
component_is d good = b_less {c = 9} (omega arith)
    (b_piece (some k.Component) (refl, refl, refl) (b_then (b_ident (view.ident_view d.name)) (b_then (b_word k.Is d.is_word (refl, refl, refl))
    (b_then (generics_may_be d.generics good.0) (b_then (ports_may_be d.ports good.1)
    (b_end (some k.Component) (refl, refl, refl) (b_last (view.option_ident_view d.end_name))))))))

declaration_is : (x : Declaration) → declaration.IsDeclarationIn Wide (view.declaration_view x) → Bounds 10 (high.declaration_height x) (declaration.spell_declaration (view.declaration_view x))
unfolding same_kind
declaration_is (d.Signals x) good = signals_are x good
declaration_is (d.Constants x) good = constants_are (omega arith) x good
declaration_is (d.Enumeration x) good = enumeration_is (omega arith) x
declaration_is (d.Component x) good = component_is x good
declaration_is (d.Subtype x) good = subtype_declaration_is (omega arith) x good
declaration_is (d.Attribute text) good = text_is k.Attribute (refl, refl, refl) text.items good.1

-- ---- units

-- end [ word ] [ id ] ;
end_is : {c : ℕ} (word : TokenKind) → Moves true 0 0 false word → (stands : Bool) (name : Option t.Ident) → Bounds c 0 (unit.spell_end word stands name)
unfolding same_kind
end_is word is true name = b_end (some word) is (b_last name)
end_is word is false None = b_end (some k.Semicolon) (refl, refl, refl) b_none
end_is word is false (Some i) = b_end (word_at i.at i.text) (refl, refl, refl) b_semicolon

entity_statements_are : (all : Vec Assertion Global) → unit.AreEntityStatementsIn Wide (view.assertions_view all) → Bounds 9 (high.assertions_height all) (unit.spell_entity_statements (view.assertions_view all))
unfolding same_kind
entity_statements_are all good = b_piece (some k.Begin) (refl, refl, refl)
    (b_each 9 view.assertion_view high.assertion_height concurrent.spell_assertion (concurrent.IsAssertionIn Wide) (λ a fine. assertion_is a fine) all.items good.1)

entity_is : (n : Entity) → unit.IsEntityIn Wide (view.entity_view n) → Bounds 11 (high.entity_height n) (unit.spell_entity (view.entity_view n))
unfolding same_kind
entity_is n good = b_less {c = 9} (omega arith)
    (b_piece (one_at k.Entity n.at) (refl, refl, refl) (b_then (b_ident (view.ident_view n.name)) (b_piece (some k.Is) (refl, refl, refl)
    (b_then (generics_may_be n.generics good.0) (b_then (ports_may_be n.ports good.1)
    (b_then (b_each 9 view.text_view high.text_height (spell_text k.Attribute) (IsTextIn Wide) (λ text fine. text_is k.Attribute (refl, refl, refl) text.items fine.1) n.attributes.items good.2)
    (b_then (b_option 9 view.assertions_view high.assertions_height unit.spell_entity_statements (unit.AreEntityStatementsIn Wide) entity_statements_are n.statements good.3)
    (end_is k.Entity (refl, refl, refl) n.end_word (view.option_ident_view n.end_name)))))))))

architecture_is : (a : Architecture) → unit.IsArchitectureIn Wide (view.architecture_view a) → Bounds 11 (high.architecture_height a) (unit.spell_architecture (view.architecture_view a))
unfolding same_kind
architecture_is a good = b_less {c = 10} (omega arith)
    (b_piece (one_at k.Architecture a.at) (refl, refl, refl) (b_then (b_ident (view.ident_view a.name)) (b_piece (some k.Of) (refl, refl, refl)
    (b_then (b_ident (view.ident_view a.entity)) (b_piece (some k.Is) (refl, refl, refl)
    (b_then (b_each 10 view.declaration_view high.declaration_height declaration.spell_declaration (declaration.IsDeclarationIn Wide) declaration_is a.declarations.items good.0)
    (b_piece (some k.Begin) (refl, refl, refl)
    (b_then (b_each 10 view.concurrent_view high.concurrent_height concurrent.spell_concurrent (concurrent.IsConcurrentIn Wide) concurrent_is a.statements.items good.1)
    (end_is k.Architecture (refl, refl, refl) a.end_word (view.option_ident_view a.end_name))))))))))

library_unit_is : (x : LibraryUnit) → unit.IsLibraryUnitIn Wide (view.library_unit_view x) → Bounds 11 (high.library_unit_height x) (unit.spell_library_unit (view.library_unit_view x))
library_unit_is (u.Entity n) good = entity_is n good
library_unit_is (u.Architecture a) good = architecture_is a good

use_is : {c : ℕ} (s : t.Selected) → Bounds c 0 (unit.spell_selected s)
unfolding same_kind
use_is {c} s = b_less {c = c} (omega arith)
    (b_then (b_ident s.library) (b_piece (some k.Dot) (refl, refl, refl) (b_then (b_ident s.name) (b_piece (some k.Dot) (refl, refl, refl) (b_piece (some k.All) (refl, refl, refl) b_none)))))

context_is : (x : t.ContextItem) → Bounds 11 0 (unit.spell_context x)
unfolding same_kind
context_is (t.library names) = b_less {c = 11} (omega arith) (b_piece (some k.Library) (refl, refl, refl) (b_then (b_idents names) b_semicolon))
context_is (t.uses all) = b_less {c = 11} (omega arith) (b_piece (some k.Use) (refl, refl, refl) (b_then (b_list_flat unit.spell_selected (λ s. use_is s) k.Comma (refl, refl, refl) all) b_semicolon))

contexts_are : (xs : List t.ContextItem) → Bounds 11 0 (spell_each unit.spell_context xs)
contexts_are [] = b_none
contexts_are (x ∷ xs) = b_less {c = 11} (omega arith) (b_then (context_is x) (contexts_are xs))

unit_is : (x : DesignUnit) → unit.IsUnitIn Wide (view.unit_view x) → Bounds 11 (high.unit_height x) (unit.spell_unit (view.unit_view x))
unit_is x good = b_less {c = 11} (omega arith) (b_then (contexts_are (view.contexts_view x.context)) (library_unit_is x.unit good.1))

pub file_height_bounded : (f : File) (n : ℕ) (ts : List Lexeme) → unit.IsFileIn Wide (view.file_view f) → Spells (unit.spell_file (view.file_view f)) ts [] → IsShallow n ts → high.file_height f ≤ 8 * n + 12
file_height_bounded f n ts good spelled shallow =
    let whole = b_each 11 view.unit_view high.unit_height unit.spell_unit (unit.IsUnitIn Wide) unit_is f.units.items good in
    let all = unit.spell_file (view.file_view f) in
    omega (arith, (whole.holds n [] (subst (Fits n false) (sym (append-nil all)) (shallow_fits n all ts spelled shallow))).0)
