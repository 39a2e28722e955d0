-- What is told of a subtype or of a value that is fixed stands at a piece of it.
use Rattle.std.proofs.Common.{ℕ, not, Option}
use Rattle.std.specs.Prelude.{is_none}
use Rattle.std.specs.Option.{is_some}
use Rattle.vhdl_lexer.specs.declared.language.Language.{Language}
use Rattle.vhdl_lexer.specs.declared.language.Language.TheVariants.{Profile, Wide}
use Rattle.vhdl_tree.specs.Tree as t
use Rattle.vhdl_tree.specs.Tree.{Expr}
use Rattle.vhdl_tree.specs.Pieces.{spell_option}
use Rattle.vhdl_tree.specs.grammar.Expressions.{spell, spell_suffix, spell_attribute, spell_discrete_range, spell_value}
use Rattle.vhdl_tree.specs.grammar.Subtypes.{spell_constraint, spell_subtype, spell_default}
use Rattle.vhdl_names_rules.specs.declared.kind.ObjectType.{ObjectType}
use Rattle.vhdl_names_rules.specs.declared.kind.ObjectType.TheVariants.{Integers, Booleans}
use Rattle.vhdl_names_rules.specs.declared.fault.NameProblem.TheVariants.{TypeMismatch, LeftOut}
use Rattle.vhdl_names_rules.specs.units.Expressions.{Range}
use Rattle.vhdl_names_rules.specs.Visibility as visibility
use Rattle.vhdl_names_rules.specs.Visibility.{Sight, declaration}
use Rattle.vhdl_names_rules.specs.Literals.{nine_of, values_of_string, values_of_bits}
use Rattle.vhdl_names_rules.specs.Expressions as are
use Rattle.vhdl_names_rules.specs.Subtypes as subtypes
use Rattle.vhdl_names_rules.specs.Subtypes.{TypeClass, class_of, static_value, filled_value, is_known_value, is_range}
use Rattle.vhdl_names_rules.specs.problems.Broken.{◌▸◌, unless, lacking, where_given}
use Rattle.vhdl_names_rules.specs.problems.Places.{start, range_start}
use Rattle.vhdl_names_rules.specs.problems.Operators.{string_problem}
use Rattle.vhdl_names_rules.specs.problems.Expressions.{is_vector_type}
use Rattle.vhdl_names_rules.specs.problems.Subtypes as broken
use Rattle.vhdl_names_rules.specs.problems.Subtypes.{is_marked, mark_problem, is_index_range, is_element_type, suffixed_problem, value_of, is_character, value_start}
use Rattle.vhdl_names_laws.proofs.placed.Told.{Stand, first, behind, Told, told_nothing, told_refused, told_unless, told_lacking, told_given, told_behind, told_if, option_told}
use Rattle.vhdl_names_laws.proofs.placed.Starts.{start_stands, range_stands}
use Rattle.vhdl_names_laws.proofs.placed.Expressions.{meaning_told, no_attribute_told, typed_suffix_told, static_range_told, asked_told, value_given_told}

-- ---- types of objects

constraint_told : (P : ℕ → Type 0) (sight : Sight) (c : t.Constraint) → Stand P (spell_constraint c) → Told P (broken.constraint sight c)
constraint_told P sight (t.index_range r) h = static_range_told P sight r (first P (spell_discrete_range r) _ h.1)
constraint_told P sight (t.value_range r) h = told_behind (told_unless LeftOut (range_start r) (is_range r) (range_stands P r h.1)) (static_range_told P sight r h.1)

pub subtype_told : (P : ℕ → Type 0) (sight : Sight) (s : t.Subtype) → Stand P (spell_subtype s) → Told P (broken.subtype sight s)
subtype_told P sight s h =
    told_behind (meaning_told P sight s.mark h.0)
    (told_behind (told_given (declaration sight s.mark.text) (λ d. unless (mark_problem d.meaning) s.mark.at (is_marked d s.constraint)) (λ d. told_unless (mark_problem d.meaning) s.mark.at (is_marked d s.constraint) h.0))
    (option_told P spell_constraint (broken.constraint sight) (constraint_told P sight) s.constraint h.1))

pub integer_subtype_told : (P : ℕ → Type 0) (sight : Sight) (s : t.Subtype) → Stand P (spell_subtype s) → Told P (broken.integer_subtype sight s)
integer_subtype_told P sight s h =
    option_told P spell_constraint (λ c. unless LeftOut s.mark.at (not (is_index_range c)) ▸ broken.constraint sight c)
    (λ c g. told_behind (told_unless LeftOut s.mark.at (not (is_index_range c)) h.0) (constraint_told P sight c g)) s.constraint h.1

pub boolean_subtype_told : (P : ℕ → Type 0) (s : t.Subtype) → Stand P (spell_subtype s) → Told P (broken.boolean_subtype s)
boolean_subtype_told P s h = told_unless LeftOut s.mark.at (is_none s.constraint) h.0

object_by_told : (P : ℕ → Type 0) (sight : Sight) (s : t.Subtype) (c : TypeClass) → Stand P (spell_subtype s) → Told P (broken.object_by sight s c)
object_by_told P sight s subtypes.integers h = integer_subtype_told P sight s h
object_by_told P sight s subtypes.booleans h = boolean_subtype_told P s h
object_by_told P sight s subtypes.others h = subtype_told P sight s h

pub object_subtype_told : (P : ℕ → Type 0) (sight : Sight) (s : t.Subtype) → Stand P (spell_subtype s) → Told P (broken.object_subtype sight s)
object_subtype_told P sight s h = by sight.language
  where
    by : (language : Language) → Told P (broken.object_subtype_in language sight s)
    by Profile = subtype_told P sight s h
    by Wide =
        told_behind (meaning_told P sight s.mark h.0)
        (told_given (visibility.meaning sight s.mark.text) (λ m. broken.object_by sight s (class_of m)) (λ m. object_by_told P sight s (class_of m) h))

-- ---- literals as they stand

pub literal_told : (P : ℕ → Type 0) (type : ObjectType) (e : Expr) → Stand P (spell e) → Told P (broken.literal type e)
literal_told P type (t.character at c) h = told_behind (told_unless TypeMismatch at (is_element_type type) h.0) (told_lacking TypeMismatch at (nine_of c) h.0)
literal_told P type (t.string at text) h = told_behind (told_unless TypeMismatch at (is_vector_type type) h.0) (told_lacking (string_problem text) at (values_of_string text) h.0)
literal_told P type (t.bits at text) h = told_behind (told_unless TypeMismatch at (is_vector_type type) h.0) (told_lacking LeftOut at (values_of_bits text) h.0)
literal_told P type e h = told_refused LeftOut (start e) (start_stands P e h)

-- ---- values

fixed_told : (P : ℕ → Type 0) (sight : Sight) (type : ObjectType) (e : Expr) → Stand P (spell e) → Told P (broken.fixed sight type e)
fixed_told P sight type (t.named n suffix a) h =
    told_behind (meaning_told P sight n h.0)
    (told_behind (typed_suffix_told suffix P sight (first P (spell_suffix suffix) (spell_option spell_attribute a) h.1))
    (told_behind (no_attribute_told P a (behind P (spell_suffix suffix) (spell_option spell_attribute a) h.1))
    (told_given (visibility.meaning sight n.text) (λ d. where_given (are.typed_suffix sight suffix) (λ s. lacking (suffixed_problem type d s) n.at (value_of type d s)))
    (λ d. told_given (are.typed_suffix sight suffix) (λ s. lacking (suffixed_problem type d s) n.at (value_of type d s))
    (λ s. told_lacking (suffixed_problem type d s) n.at (value_of type d s) h.0)))))
fixed_told P sight type e h = literal_told P type e h

plain_value_told : (P : ℕ → Type 0) (sight : Sight) (type : ObjectType) (v : t.Value) → Stand P (spell_value v) → Told P (broken.plain_value sight type v)
plain_value_told P sight type (t.single e) h = fixed_told P sight type e h
plain_value_told P sight type (t.others at e) h =
    let g = start_stands P e (first P (spell e) _ h.1.1.1) in
    told_behind (told_unless LeftOut (start e) (is_character e) g)
    (told_behind (told_unless TypeMismatch at (is_vector_type type) h.0) (told_lacking TypeMismatch (start e) (filled_value type e) g))

value_stands : (P : ℕ → Type 0) (v : t.Value) → Stand P (spell_value v) → P (value_start v)
value_stands P (t.single e) h = start_stands P e h
value_stands P (t.others at e) h = start_stands P e (first P (spell e) _ h.1.1.1)

known_value_told : (P : ℕ → Type 0) (sight : Sight) (type : ObjectType) (r : Option Range) (v : t.Value) → Stand P (spell_value v) → Told P (broken.known_value sight type r v)
known_value_told P sight type r v h =
    told_behind (value_given_told P sight type r v h)
    (told_given (are.value_given sight type r v) (λ g. unless LeftOut (value_start v) (is_known_value g)) (λ g. told_unless LeftOut (value_start v) (is_known_value g) (value_stands P v h)))

-- an integer, and a boolean
static_value_told : (P : ℕ → Type 0) (sight : Sight) (type : ObjectType) (v : t.Value) → Stand P (spell_value v) → Told P (broken.static_value sight type v)
static_value_told P sight type (t.others at e) h = told_refused TypeMismatch at h.0
static_value_told P sight type (t.single e) h = asked_told P (static_value type) sight e h

pub fixed_value_told : (P : ℕ → Type 0) (sight : Sight) (type : ObjectType) (r : Option Range) (v : t.Value) → Stand P (spell_value v) → Told P (broken.fixed_value sight type r v)
fixed_value_told P sight Integers r v h = static_value_told P sight Integers v h
fixed_value_told P sight Booleans r v h = static_value_told P sight Booleans v h
fixed_value_told P sight type r v h = by sight.language
  where
    by : (language : Language) → Told P (broken.fixed_value_in language sight type r v)
    by Profile = plain_value_told P sight type v h
    by Wide = told_if (is_some (subtypes.plain_value sight type v)) told_nothing (known_value_told P sight type r v h)

pub default_told : (P : ℕ → Type 0) (sight : Sight) (type : ObjectType) (r : Option Range) (v : t.Value) → Stand P (spell_default v) → Told P (broken.fixed_value sight type r v)
default_told P sight type r v h = fixed_value_told P sight type r v h.1
