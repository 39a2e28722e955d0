-- What is told of declarations and context items stands at a piece of them.
use Rattle.std.proofs.Common.{ℕ, Bool, true, false, ◌||◌, List, [], ◌∷◌, ◌++◌, length, Option, Some}
use Rattle.std.specs.Prelude.{nat_le}
use Rattle.std.specs.List.{AllByRecursion}
use Rattle.vhdl_lexer.specs.declared.token.TokenKind.TheVariants as k
use Rattle.vhdl_tree.specs.Tree as t
use Rattle.vhdl_tree.specs.Tree.{Ident, Expr, Selected, ContextItem, library, uses}
use Rattle.vhdl_tree.specs.Pieces.{spell_ident, spell_idents, spell_option, spell_word, spell_list, IsList, IsAny}
use Rattle.vhdl_tree.specs.grammar.Expressions.{spell, spell_value}
use Rattle.vhdl_tree.specs.grammar.Subtypes.{spell_subtype, spell_default, spell_constants, spell_enumeration, spell_subtype_declaration}
use Rattle.vhdl_tree.specs.grammar.Declarations.{spell_generic_default, spell_generic, spell_mode, spell_port, spell_signals}
use Rattle.vhdl_tree.specs.grammar.Process.{spell_variables, spell_process_declaration}
use Rattle.vhdl_tree.specs.grammar.Units.{spell_selected, spell_context, IsContext}
use Rattle.vhdl_names_rules.specs.declared.fault.NameProblem.TheVariants.{Undeclared, Twice, WrongKind, TypeMismatch, LeftOut}
use Rattle.vhdl_names_rules.specs.Rules.{is_wide}
use Rattle.vhdl_names_rules.specs.Visibility as visibility
use Rattle.vhdl_names_rules.specs.Visibility.{Name, Meaning, Declared, Sight, Declares, declaration, is_among}
use Rattle.vhdl_names_rules.specs.Packages as packages
use Rattle.vhdl_names_rules.specs.Packages.{Context, is_ieee, is_library, is_logic, is_numbers}
use Rattle.vhdl_names_rules.specs.Subtypes as subtypes
use Rattle.vhdl_names_rules.specs.Subtypes.{TypeClass, class_of, form_range}
use Rattle.vhdl_names_rules.specs.Declarations.{within, within_variables, without_ports, as_kind, as_port_type, is_open}
use Rattle.vhdl_names_rules.specs.Interfaces.{declared_names}
use Rattle.vhdl_names_rules.specs.problems.Broken.{Broken, ◌▸◌, unless, lacking, any_of, of_any}
use Rattle.vhdl_names_rules.specs.problems.Twice.{twice}
use Rattle.vhdl_names_rules.specs.problems.Expressions.{static, static_condition}
use Rattle.vhdl_names_rules.specs.problems.Declarations as broken
use Rattle.vhdl_names_rules.specs.problems.Declarations.{library_named, package_used, generic_problem, value_of, constants_by}
use Rattle.vhdl_names_laws.proofs.placed.Told.{Stand, EachStands, NamesStand, first, behind, Told, told_nothing, told_refused, told_unless, told_lacking, told_given, told_behind, told_if, told_any, option_told, list_stands}
use Rattle.vhdl_names_laws.proofs.placed.Expressions.{meaning_told, static_told, static_condition_told}
use Rattle.vhdl_names_laws.proofs.placed.Subtypes.{subtype_told, integer_subtype_told, boolean_subtype_told, object_subtype_told, fixed_value_told, default_told}

-- ---- names

pub twice_told : (P : ℕ → Type 0) (is : List Ident) (names : List Name) → NamesStand P is → Told P (twice names is)
twice_told P [] names h = told_nothing
twice_told P (i ∷ is) names h = told_if (is_among i.text names) (told_refused Twice i.at h.0.0) (twice_told P is (names ++ (i.text ∷ [])) h.1)

pub standing_told : (P : ℕ → Type 0) (region : List Declared) (is : List Ident) → NamesStand P is → Told P (broken.standing_twice region is)
standing_told P region is h = twice_told P is (declared_names region) h

pub names_told : (P : ℕ → Type 0) (region : List Declared) (is : List Ident) → Stand P (spell_idents is) → Told P (broken.standing_twice region is)
names_told P region is h = standing_told P region is (list_stands P k.Comma spell_ident is h)

pub end_name_told : (P : ℕ → Type 0) (name : Ident) (end : Option Ident) → Stand P (spell_option spell_ident end) → Told P (broken.end_name name end)
end_name_told P name end h =
    option_told P spell_ident (λ e. unless WrongKind e.at (visibility.ends name.text (Some e))) (λ e g. told_unless WrongKind e.at (visibility.ends name.text (Some e)) g.0) end h

-- ---- context clauses

-- without ieee the first package that is used is told already
used_told : (P : ℕ → Type 0) (from has offered : Bool) (at after : ℕ) (rest : Broken) → P at → P after → Told P rest
    → Told P (((unless LeftOut at from ▸ unless Undeclared at has ▸ unless LeftOut after offered) ▸ rest) ▸ unless Undeclared 0 has)
unfolding ◌▸◌
used_told P from true offered at after rest h g told =
    told_behind (told_behind (told_behind (told_unless LeftOut at from h) (told_behind told_nothing (told_unless LeftOut after offered g))) told) told_nothing
used_told P false false offered at after rest h g told = told_refused LeftOut at h
used_told P true false offered at after rest h g told = told_refused Undeclared at h

package_told : (P : ℕ → Type 0) (before : Context) (s : Selected) → Stand P (spell_selected s) → Told P (package_used before s)
package_told P before s h =
    told_behind (told_unless LeftOut s.library.at (is_ieee s.library) h.0)
    (told_behind (told_unless Undeclared s.library.at before.has_ieee h.0) (told_unless LeftOut s.name.at (is_logic s || is_numbers s) h.1.1.0))

packages_told : (P : ℕ → Type 0) (before : Context) (ss : List Selected) → IsList IsAny ss → EachStands P spell_selected ss → Told P (broken.packages_used before ss)
packages_told P before [] well h = absurd well
packages_told P before (s ∷ ss) well h =
    used_told P (is_ieee s.library) before.has_ieee (is_logic s || is_numbers s) s.library.at s.name.at (any_of (package_used before) ss) h.0.0 h.0.1.1.0
    (told_any (λ s. Stand P (spell_selected s)) (package_used before) (package_told P before) ss h.1)

-- a context item is well formed, and stands there
abbrev pub ItemsStand : (ℕ → Type 0) → List ContextItem → Type 0
ItemsStand P = AllByRecursion (λ (c : ContextItem). IsContext c × Stand P (spell_context c))

pub context_told : (P : ℕ → Type 0) (items : List ContextItem) (before : Context) → ItemsStand P items → Told P (broken.context before items)
context_told P [] before h = told_nothing
context_told P (library ns ∷ rest) before h =
    told_behind
    (told_any (λ n. Stand P (spell_ident n)) library_named (λ n g. told_unless LeftOut n.at (is_library n) g.0) ns (list_stands P k.Comma spell_ident ns (first P (spell_idents ns) _ h.0.1.1)))
    (told_given (packages.context before (library ns ∷ [])) (λ c. broken.context c rest) (λ c. context_told P rest c h.1))
context_told P (uses ss ∷ rest) before h =
    told_behind (packages_told P before ss h.0.0 (list_stands P k.Comma spell_selected ss (first P (spell_list k.Comma spell_selected ss) _ h.0.1.1)))
    (told_given (packages.context before (uses ss ∷ [])) (λ c. broken.context c rest) (λ c. context_told P rest c h.1))

-- ---- one declaration after another

pub in_order_told : {A B : Type 0} (P : ℕ → Type 0) (Q : A → Type 0) (with_more : Sight → List Declared → Sight) (declares : Sight → A → Option (Declares B)) (b : Sight → A → Broken)
    → ((sight : Sight) (d : A) → Q d → Told P (b sight d)) → (ds : List A) (sight : Sight) → AllByRecursion Q ds → Told P (broken.in_order with_more declares b sight ds)
in_order_told P Q with_more declares b one [] sight h = told_nothing
in_order_told P Q with_more declares b one (d ∷ ds) sight h =
    told_behind (one sight d h.0)
    (told_given (declares sight d) (λ x. broken.in_order with_more declares b (with_more sight x.declared) ds)
    (λ x. in_order_told P Q with_more declares b one ds (with_more sight x.declared) h.1))

-- ---- generics and ports

nine_valued_told : (P : ℕ → Type 0) (mark : Ident) (s : subtypes.Subtype) → P mark.at → Told P (broken.nine_valued mark s)
nine_valued_told P mark s h = told_lacking LeftOut mark.at (as_kind s.type) h

generic_by_told : (P : ℕ → Type 0) (sight : Sight) (g : t.Generic) (m : Meaning) (class : TypeClass) → Stand P (spell_subtype g.subtype) → Stand P (spell_option spell_generic_default g.default)
    → Told P (broken.generic_by sight g m class)
generic_by_told P sight g m subtypes.integers h d =
    told_behind (integer_subtype_told P sight g.subtype h) (option_told P spell_generic_default (static sight) (λ e w. static_told P sight e w.1) g.default d)
generic_by_told P sight g m subtypes.booleans h d =
    told_behind (told_unless (generic_problem m) g.subtype.mark.at (is_wide sight.language) h.0)
    (told_behind (boolean_subtype_told P g.subtype h) (option_told P spell_generic_default (static_condition sight) (λ e w. static_condition_told P sight e w.1) g.default d))
generic_by_told P sight g m subtypes.others h d =
    told_behind (told_unless (generic_problem m) g.subtype.mark.at (is_wide sight.language) h.0)
    (told_behind (subtype_told P sight g.subtype h)
    (told_given (subtypes.subtype sight g.subtype) (λ s. broken.nine_valued g.subtype.mark s ▸ of_any (λ e. value_of sight s (t.single e)) g.default)
    (λ s. told_behind (nine_valued_told P g.subtype.mark s h.0)
    (option_told P spell_generic_default (λ e. value_of sight s (t.single e)) (λ e w. fixed_value_told P sight s.type (form_range s.form) (t.single e) w.1) g.default d))))

pub generic_told : (P : ℕ → Type 0) (sight : Sight) (g : t.Generic) → Stand P (spell_generic g) → Told P (broken.generic sight g)
generic_told P sight g h =
    let names = behind P (spell_word k.Constant g.constant_word) _ h in
    let type = behind P (spell_word k.In g.in_word) _ (behind P (spell_idents g.names) _ names).1 in
    let s = first P (spell_subtype g.subtype) _ type in
    told_behind (names_told P sight.region g.names (first P (spell_idents g.names) _ names))
    (told_behind (meaning_told P sight g.subtype.mark s.0)
    (told_given (visibility.meaning sight g.subtype.mark.text) (λ m. broken.generic_by sight g m (class_of m))
    (λ m. generic_by_told P sight g m (class_of m) s (behind P (spell_subtype g.subtype) _ type))))

typed_port_told : (P : ℕ → Type 0) (sight : Sight) (p : t.Port) → Stand P (spell_subtype p.subtype) → Stand P (spell_option spell_default p.default) → Told P (broken.typed_port sight p)
typed_port_told P sight p s d =
    told_behind (object_subtype_told P sight p.subtype s)
    (told_given (subtypes.object_subtype sight p.subtype) (λ s. lacking LeftOut p.subtype.mark.at (as_port_type s.type) ▸ of_any (value_of sight s) p.default)
    (λ x. told_behind (told_lacking LeftOut p.subtype.mark.at (as_port_type x.type) s.0) (option_told P spell_default (value_of sight x) (default_told P sight x.type (form_range x.form)) p.default d)))

pub port_told : (P : ℕ → Type 0) (sight : Sight) (p : t.Port) → Stand P (spell_port p) → Told P (broken.port sight p)
port_told P sight p h =
    let names = behind P (spell_word k.Signal p.signal_word) _ h in
    let type = behind P (spell_option spell_mode p.mode) _ (behind P (spell_idents p.names) _ names).1 in
    told_behind (names_told P sight.region p.names (first P (spell_idents p.names) _ names))
    (typed_port_told P (without_ports sight) p (first P (spell_subtype p.subtype) _ type) (behind P (spell_subtype p.subtype) _ type))

-- ---- signals, constants and variables

object_told : (P : ℕ → Type 0) (inner : Sight) (s : t.Subtype) (v : Option t.Value) → Stand P (spell_subtype s) → Stand P (spell_option spell_default v) → Told P (broken.object inner s v)
object_told P inner s v h g =
    told_behind (object_subtype_told P inner s h)
    (told_given (subtypes.object_subtype inner s) (λ x. of_any (value_of inner x) v) (λ x. option_told P spell_default (value_of inner x) (default_told P inner x.type (form_range x.form)) v g))

pub signals_told : (P : ℕ → Type 0) (sight : Sight) (d : t.Signals) → Stand P (spell_signals d) → Told P (broken.signals sight d)
signals_told P sight d h =
    let type = (behind P (spell_idents d.names) _ h.1).1 in
    told_behind (names_told P sight.region d.names (first P (spell_idents d.names) _ h.1))
    (object_told P (within sight d.names) d.subtype d.default (first P (spell_subtype d.subtype) _ type) (first P (spell_option spell_default d.default) _ (behind P (spell_subtype d.subtype) _ type)))

variables_told : (P : ℕ → Type 0) (sight : Sight) (d : t.Variables) → Stand P (spell_variables d) → Told P (broken.variables sight d)
variables_told P sight d h =
    let type = (behind P (spell_idents d.names) _ h.1).1 in
    told_behind (names_told P sight.variables d.names (first P (spell_idents d.names) _ h.1))
    (object_told P (within_variables sight d.names) d.subtype d.default (first P (spell_subtype d.subtype) _ type) (first P (spell_option spell_default d.default) _ (behind P (spell_subtype d.subtype) _ type)))

single_told : (P : ℕ → Type 0) (b : Expr → Broken) → ((e : Expr) → Stand P (spell e) → Told P (b e)) → (v : t.Value) → Stand P (spell_value v) → Told P (broken.of_single b v)
single_told P b one (t.single e) h = one e h
single_told P b one (t.others at e) h = told_refused TypeMismatch at h.0

constants_by_told : (P : ℕ → Type 0) (inner : Sight) (d : t.Constants) (class : TypeClass) → Stand P (spell_subtype d.subtype) → Stand P (spell_value d.value) → Told P (constants_by inner d class)
constants_by_told P inner d subtypes.integers h g = told_behind (integer_subtype_told P inner d.subtype h) (single_told P (static inner) (static_told P inner) d.value g)
constants_by_told P inner d subtypes.booleans h g = told_behind (boolean_subtype_told P d.subtype h) (single_told P (static_condition inner) (static_condition_told P inner) d.value g)
constants_by_told P inner d subtypes.others h g =
    told_behind (subtype_told P inner d.subtype h)
    (told_given (subtypes.subtype inner d.subtype) (λ s. broken.nine_valued d.subtype.mark s ▸ value_of inner s d.value)
    (λ s. told_behind (nine_valued_told P d.subtype.mark s h.0) (fixed_value_told P inner s.type (form_range s.form) d.value g)))

-- of these names, in this region
constants_in_told : (P : ℕ → Type 0) (region : List Declared) (inner : Sight) (d : t.Constants) → Stand P (spell_constants d)
    → Told P (broken.standing_twice region d.names ▸ broken.typed_constants inner d)
constants_in_told P region inner d h =
    let type = (behind P (spell_idents d.names) _ h.1).1 in
    let s = first P (spell_subtype d.subtype) _ type in
    let v = first P (spell_value d.value) _ (behind P (spell_subtype d.subtype) _ type).1 in
    told_behind (names_told P region d.names (first P (spell_idents d.names) _ h.1))
    (told_behind (meaning_told P inner d.subtype.mark s.0)
    (told_given (visibility.meaning inner d.subtype.mark.text) (λ m. constants_by inner d (class_of m)) (λ m. constants_by_told P inner d (class_of m) s v)))

pub constants_told : (P : ℕ → Type 0) (sight : Sight) (d : t.Constants) → Stand P (spell_constants d) → Told P (broken.constants sight d)
constants_told P sight d h = constants_in_told P sight.region (within sight d.names) d h

-- ---- subtypes and enumerations

subtype_by_told : (P : ℕ → Type 0) (inner : Sight) (d : t.SubtypeDeclaration) (mark : Declared) (class : TypeClass) → Stand P (spell_subtype d.subtype) → Told P (broken.subtype_by inner d mark class)
subtype_by_told P inner d mark subtypes.integers h = integer_subtype_told P inner d.subtype h
subtype_by_told P inner d mark subtypes.booleans h = boolean_subtype_told P d.subtype h
subtype_by_told P inner d mark subtypes.others h = told_if (is_open mark d.subtype) told_nothing (subtype_told P inner d.subtype h)

subtype_in_told : (P : ℕ → Type 0) (region : List Declared) (inner : Sight) (d : t.SubtypeDeclaration) → Stand P (spell_subtype_declaration d)
    → Told P (broken.standing_twice region (d.name ∷ []) ▸ broken.typed_subtype inner d)
subtype_in_told P region inner d h =
    let s = first P (spell_subtype d.subtype) _ h.1.1.1 in
    told_behind (standing_told P region (d.name ∷ []) ((h.1.0, tt), tt))
    (told_behind (meaning_told P inner d.subtype.mark s.0)
    (told_given (declaration inner d.subtype.mark.text) (λ mark. broken.subtype_by inner d mark (class_of mark.meaning)) (λ mark. subtype_by_told P inner d mark (class_of mark.meaning) s)))

pub subtype_declaration_told : (P : ℕ → Type 0) (sight : Sight) (d : t.SubtypeDeclaration) → Stand P (spell_subtype_declaration d) → Told P (broken.subtype_declaration sight d)
subtype_declaration_told P sight d h = subtype_in_told P sight.region (within sight (d.name ∷ [])) d h

pub enumeration_told : (P : ℕ → Type 0) (region : List Declared) (d : t.Enumeration) → Stand P (spell_enumeration d) → Told P (broken.enumeration_in region d)
enumeration_told P region d h =
    told_behind (told_unless LeftOut d.name.at (nat_le (length d.literals) 256) h.1.0)
    (standing_told P region (d.name ∷ d.literals) ((h.1.0, tt), list_stands P k.Comma spell_ident d.literals (first P (spell_idents d.literals) _ h.1.1.1.1)))

-- ---- declarations of a process

pub process_declaration_told : (P : ℕ → Type 0) (sight : Sight) (d : t.ProcessDeclaration) → Stand P (spell_process_declaration d) → Told P (broken.process_declaration sight d)
process_declaration_told P sight (t.variables d) h = variables_told P sight d h
process_declaration_told P sight (t.process_constants d) h = constants_in_told P sight.variables (within_variables sight d.names) d h
process_declaration_told P sight (t.process_enumeration d) h = enumeration_told P sight.variables d h
process_declaration_told P sight (t.process_subtype d) h = subtype_in_told P sight.variables (within_variables sight (d.name ∷ [])) d h
