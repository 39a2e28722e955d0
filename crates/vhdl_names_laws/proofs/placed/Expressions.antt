-- What is told of an expression stands at a piece of it.
use Rattle.std.proofs.Common.{ℕ, false, [], ◌++◌, Option, Some, None}
use Rattle.std.specs.Option.{is_some, option_or}
use Rattle.vhdl_lexer.specs.declared.language.Language.{Language}
use Rattle.vhdl_tree.specs.declared.operator.Operator.{Operator}
use Rattle.vhdl_tree.specs.Tree as t
use Rattle.vhdl_tree.specs.Tree.{Expr, Exprs, Ident, Attribute}
use Rattle.vhdl_tree.specs.Pieces.{spell_option}
use Rattle.vhdl_tree.specs.grammar.Expressions.{spell, spell_suffix, spell_exprs, spell_more, spell_elements, spell_more_elements, spell_chosen, spell_more_chosen, spell_choice, spell_attribute, spell_discrete_range, spell_value}
use Rattle.vhdl_names_rules.specs.declared.kind.ObjectType.{ObjectType}
use Rattle.vhdl_names_rules.specs.declared.kind.ObjectType.TheVariants.{Booleans}
use Rattle.vhdl_names_rules.specs.declared.fault.NameProblem.TheVariants.{TypeMismatch, LeftOut}
use Rattle.vhdl_names_rules.specs.units.Expressions.{Range}
use Rattle.vhdl_names_rules.specs.Rules.{wider}
use Rattle.vhdl_names_rules.specs.Visibility as visibility
use Rattle.vhdl_names_rules.specs.Visibility.{Meaning, DeclaredRange, Declared, Sight, declaration}
use Rattle.vhdl_names_rules.specs.Literals.{number_of, nine_of, values_of_string, values_of_bits}
use Rattle.vhdl_names_rules.specs.Operators as o
use Rattle.vhdl_names_rules.specs.Operators.{Typed, is_vector, as_computed, inverse, truths_related, operated}
use Rattle.vhdl_names_rules.specs.Types as types
use Rattle.vhdl_names_rules.specs.Types.{TypedElements}
use Rattle.vhdl_names_rules.specs.Names.{Suffix, plain, denoted, edge_signal}
use Rattle.vhdl_names_rules.specs.Ranges.{Ranged, ranged, named_range, range_attribute, sized_by}
use Rattle.vhdl_names_rules.specs.Expressions as are
use Rattle.vhdl_names_rules.specs.Expressions.{as_integer, beside, in_parentheses, as_index, as_range, as_test, as_static_test, as_value, as_filled, as_boolean}
use Rattle.vhdl_names_rules.specs.problems.Broken.{◌▸◌, lacking, where_given}
use Rattle.vhdl_names_rules.specs.problems.Missing.{problem_of}
use Rattle.vhdl_names_rules.specs.problems.Places.{start}
use Rattle.vhdl_names_rules.specs.problems.Operators.{string_problem, operator_problem, edge_problem, name_problem}
use Rattle.vhdl_names_rules.specs.problems.Expressions as broken
use Rattle.vhdl_names_rules.specs.problems.Expressions.{attribute_start, is_event, is_no_value, has_ranges, range_problem, is_of_range, is_range, is_equality, qualified_problem, is_element, fits_kind, no_range, is_vector_type}
use Rattle.vhdl_names_laws.proofs.placed.Told.{Stand, first, behind, Told, told_nothing, told_refused, told_unless, told_lacking, told_given, told_from, told_behind, told_if, option_told}
use Rattle.vhdl_names_laws.proofs.placed.Starts.{start_stands, attribute_stands}
use Rattle.vhdl_names_laws.proofs.placed.Aggregates.{aggregate_told, composite_told}
use Rattle.vhdl_names_laws.proofs.standing.Holding.{TypedHolds, ElementsHold}
use Rattle.vhdl_names_laws.proofs.standing.Expressions.{typed_holds, elements_hold}

-- ---- names

pub meaning_told : (P : ℕ → Type 0) (sight : Sight) (n : Ident) → P n.at → Told P (broken.meaning sight n)
meaning_told P sight n h = told_lacking (problem_of sight.language n.text) n.at (visibility.meaning sight n.text) h

module _ (P : ℕ → Type 0) where
  abbrev AttributeStands : Option Attribute → Type 0
  AttributeStands a = Stand P (spell_option spell_attribute a)

  attribute_told : (a : Option Attribute) → AttributeStands a → Told P (broken.attribute a)
  attribute_told None h = told_nothing
  attribute_told (Some a) h = told_unless LeftOut (attribute_start a) (is_event a) (attribute_stands P a h)

  attributed_told : (at : ℕ) (a : Option Attribute) (x : Typed) → P at → AttributeStands a → Told P (broken.attributed at a x)
  attributed_told at None x h g = told_nothing
  attributed_told at (Some a) x h g = told_behind (told_unless LeftOut (attribute_start a) (is_event a) (attribute_stands P a g)) (told_lacking (edge_problem x) at (edge_signal x) h)

  pub no_attribute_told : (a : Option Attribute) → AttributeStands a → Told P (broken.no_attribute a)
  no_attribute_told None h = told_nothing
  no_attribute_told (Some a) h = told_refused LeftOut (attribute_start a) (attribute_stands P a h)

  no_value_told : (d : Meaning) (s : Suffix) (a : Option Attribute) → AttributeStands a → Told P (broken.of_no_value d s a)
  no_value_told d plain a h = told_if (is_no_value d) (attribute_told a h) told_nothing
  no_value_told d _ a h = told_nothing

  with_suffix_told : (at : ℕ) (a : Option Attribute) (d : Meaning) (r : Option DeclaredRange) (s : Suffix) → P at → AttributeStands a → Told P (broken.with_suffix at a d r s)
  with_suffix_told at a d r s h g =
      told_behind (no_value_told d s a g)
      (told_behind (told_lacking (name_problem d s) at (denoted at d s) h)
      (told_given (denoted at d s) (λ x. broken.attributed at a (sized_by at d r x)) (λ x. attributed_told at a (sized_by at d r x) h g)))

  of_ranged_told : (at : ℕ) (a : Attribute) (d : Declared) (s : Suffix) (r : Option Ranged) → P at → Stand P (spell_attribute a) → Told P (broken.of_ranged at a d s r)
  of_ranged_told at a d s None h g =
      told_if (has_ranges d.meaning) (told_refused (range_problem d.meaning) at h) (told_refused LeftOut (attribute_start a) (attribute_stands P a g))
  of_ranged_told at a d s (Some r) h g = told_lacking LeftOut (attribute_start a) (range_attribute at (Some a) d s) (attribute_stands P a g)

  by_declaration_told : (language : Language) (at : ℕ) (a : Option Attribute) (d : Declared) (s : Suffix) → P at → AttributeStands a → Told P (broken.by_declaration language at a d s)
  by_declaration_told language at a d s h g =
      told_if (is_of_range language a) (option_told P spell_attribute (λ x. broken.of_range at x d s) (λ x k. of_ranged_told at x d s (ranged d s) h k) a g)
      (told_if (is_range language a d s) told_nothing (with_suffix_told at a d.meaning d.range s h g))

  named_told : (sight : Sight) (n : Ident) (suffix : Option Suffix) (a : Option Attribute) → P n.at → AttributeStands a → Told P (broken.named sight n suffix a)
  named_told sight n suffix a h g =
      told_given (declaration sight n.text) (λ d. where_given suffix (broken.by_declaration sight.language n.at a d))
      (λ d. told_given suffix (broken.by_declaration sight.language n.at a d) (λ s. by_declaration_told sight.language n.at a d s h g))

  -- ---- operands and qualified expressions

  beside_told : (at : ℕ) (es : TypedElements) (x : Typed) → P at → ElementsHold P es → Told P (broken.beside_operand at es x)
  beside_told at es (o.elements k x) h g = told_behind (told_unless TypeMismatch at (is_vector k) h) (aggregate_told P k false es g)
  beside_told at es _ h g = told_refused TypeMismatch at h

  operand_told : (op : Operator) (x y : Typed) → TypedHolds P y → Told P (broken.operand op x y)
  operand_told op x (o.composite at es) h = told_behind (told_unless TypeMismatch at (is_equality op) h.0) (beside_told at es x h.0 h.1)
  operand_told op x _ h = told_nothing

  qualified_told : (at p : ℕ) (m : Meaning) (r : Option DeclaredRange) (es : TypedElements) → P at → P p → ElementsHold P es → Told P (broken.qualified_by at p m r es)
  qualified_told at p (visibility.element_type b) r (types.element [] q x types.no_elements) h g k = told_unless TypeMismatch q (is_element x) k.3
  qualified_told at p (visibility.element_type b) r es h g k = told_refused TypeMismatch p g
  qualified_told at p (visibility.vector_type kind b) r (types.element [] q x types.no_elements) h g k = told_unless TypeMismatch q (fits_kind kind x) k.3
  qualified_told at p (visibility.vector_type kind b) r es h g k = aggregate_told P kind (is_some r) es k
  qualified_told at p m r es h g k = told_refused (qualified_problem m) at h

-- ---- expressions

wanted_told : (P : ℕ → Type 0) (at : ℕ) (o : Option Typed) → P at → Told P (broken.integer_wanted at o)
wanted_told P at o h = told_given o (λ x. lacking TypeMismatch at (as_integer x)) (λ x. told_lacking TypeMismatch at (as_integer x) h)

computed_told : (P : ℕ → Type 0) (at : ℕ) (o : Option Typed) → P at → Told P (broken.computed_wanted at o)
computed_told P at o h = told_given o (λ x. lacking TypeMismatch at (as_computed x)) (λ x. told_lacking TypeMismatch at (as_computed x) h)

mutual
  unfolding broken.typed

  pub typed_told : (e : Expr) (P : ℕ → Type 0) (sight : Sight) → Stand P (spell e) → Told P (broken.typed sight e)
  typed_told (t.integer at text) P sight h = told_lacking LeftOut at (number_of text) h.0
  typed_told (t.character at c) P sight h = told_lacking TypeMismatch at (nine_of c) h.0
  typed_told (t.string at text) P sight h = told_lacking (string_problem text) at (values_of_string text) h.0
  typed_told (t.bits at text) P sight h = told_lacking LeftOut at (values_of_bits text) h.0
  typed_told (t.named n suffix a) P sight h =
      told_behind (meaning_told P sight n h.0)
      (told_behind (typed_suffix_told suffix P sight (first P (spell_suffix suffix) (spell_option spell_attribute a) h.1))
      (named_told P sight n (are.typed_suffix sight suffix) a h.0 (behind P (spell_suffix suffix) (spell_option spell_attribute a) h.1)))
  typed_told (t.parens at e) P sight h =
      let g = first P (spell e) _ h.1 in
      told_behind (typed_told e P sight g)
      (told_given (are.typed sight e) (λ x. lacking TypeMismatch (start e) (in_parentheses x)) (λ x. told_lacking TypeMismatch (start e) (in_parentheses x) (start_stands P e g)))
  typed_told (t.negation at e) P sight h =
      told_behind (typed_told e P sight h.1) (told_given (are.typed sight e) (λ x. lacking TypeMismatch at (inverse x)) (λ x. told_lacking TypeMismatch at (inverse x) h.0))
  typed_told (t.absolute at e) P sight h = told_behind (typed_told e P sight h.1) (computed_told P at (are.typed sight e) h.0)
  typed_told (t.power d at e) P sight h =
      let g = behind P (spell d) _ h in
      told_behind (typed_told d P sight (first P (spell d) _ h))
      (told_behind (typed_told e P sight g.1.1)
      (told_behind (wanted_told P at (are.typed sight d) g.0) (wanted_told P at (are.typed sight e) g.0)))
  typed_told (t.signed sign at e) P sight h = told_behind (typed_told e P sight h.1) (computed_told P at (are.typed sight e) h.0)
  typed_told (t.binary begins op at d e) P sight h =
      let g = behind P (spell d) _ h in
      let by : Typed → Typed → Option Typed = λ x y. option_or (operated sight.numbers at op x (beside d y)) (wider sight.language (truths_related op x y)) in
      told_behind (typed_told d P sight (first P (spell d) _ h))
      (told_behind (typed_told e P sight g.1)
      (told_from (are.typed sight d) (λ x. where_given (are.typed sight e) (λ y. broken.operand op y x ▸ broken.operand op x y ▸ lacking (operator_problem op x (beside d y)) at (by x y)))
      (λ x p. told_from (are.typed sight e) (λ y. broken.operand op y x ▸ broken.operand op x y ▸ lacking (operator_problem op x (beside d y)) at (by x y))
      (λ y q. told_behind (operand_told P op y x (typed_holds d P sight x (first P (spell d) _ h) p))
      (told_behind (operand_told P op x y (typed_holds e P sight y g.1 q)) (told_lacking (operator_problem op x (beside d y)) at (by x y) g.0))))))
  typed_told (t.aggregate at es) P sight h = elements_told es P sight (first P (spell_elements es) _ h.1)
  typed_told (t.qualified n at es) P sight h =
      let inner = first P (spell_elements es) _ h.1.1.1 in
      told_behind (meaning_told P sight n h.0)
      (told_behind (elements_told es P sight inner)
      (told_given (declaration sight n.text) (λ d. where_given (are.typed_elements sight es) (broken.qualified n.at at d))
      (λ d. told_from (are.typed_elements sight es) (broken.qualified n.at at d)
      (λ xs q. qualified_told P n.at at d.meaning d.range xs h.0 h.1.1.0 (elements_hold es P sight xs inner q)))))

  pub typed_suffix_told : (s : t.Suffix) (P : ℕ → Type 0) (sight : Sight) → Stand P (spell_suffix s) → Told P (broken.typed_suffix sight s)
  typed_suffix_told t.plain P sight h = told_nothing
  typed_suffix_told (t.arguments es) P sight h = exprs_told es P sight (first P (spell_exprs es) _ h.1)
  typed_suffix_told (t.sliced d direction e) P sight h =
      let left = first P (spell d) _ h.1 in
      let g = behind P (spell d) _ h.1 in
      let right = first P (spell e) _ g.1 in
      told_behind (told_behind (typed_told d P sight left) (computed_told P (start d) (are.typed sight d) (start_stands P d left)))
      (told_behind (typed_told e P sight right) (computed_told P (start e) (are.typed sight e) (start_stands P e right)))

  exprs_told : (es : Exprs) (P : ℕ → Type 0) (sight : Sight) → Stand P (spell_exprs es) → Told P (broken.typed_each sight es)
  exprs_told t.no_exprs P sight h = told_nothing
  exprs_told (t.expr e es) P sight h = told_behind (typed_told e P sight (first P (spell e) (spell_more es) h)) (more_told es P sight (behind P (spell e) (spell_more es) h))

  more_told : (es : Exprs) (P : ℕ → Type 0) (sight : Sight) → Stand P (spell_more es) → Told P (broken.typed_each sight es)
  more_told t.no_exprs P sight h = told_nothing
  more_told (t.expr e es) P sight h = told_behind (typed_told e P sight (first P (spell e) (spell_more es) h.1)) (more_told es P sight (behind P (spell e) (spell_more es) h.1))

  pub elements_told : (es : t.Elements) (P : ℕ → Type 0) (sight : Sight) → Stand P (spell_elements es) → Told P (broken.typed_elements sight es)
  elements_told t.no_elements P sight h = told_nothing
  elements_told (t.element cs e es) P sight h =
      let here = first P (spell_chosen cs ++ spell e) (spell_more_elements es) h in
      told_behind (chosen_told cs P sight (first P (spell_chosen cs) (spell e) here))
      (told_behind (typed_told e P sight (behind P (spell_chosen cs) (spell e) here)) (more_elements_told es P sight (behind P (spell_chosen cs ++ spell e) (spell_more_elements es) h)))

  more_elements_told : (es : t.Elements) (P : ℕ → Type 0) (sight : Sight) → Stand P (spell_more_elements es) → Told P (broken.typed_elements sight es)
  more_elements_told t.no_elements P sight h = told_nothing
  more_elements_told (t.element cs e es) P sight h =
      let here = first P (spell_chosen cs ++ spell e) (spell_more_elements es) h.1 in
      told_behind (chosen_told cs P sight (first P (spell_chosen cs) (spell e) here))
      (told_behind (typed_told e P sight (behind P (spell_chosen cs) (spell e) here)) (more_elements_told es P sight (behind P (spell_chosen cs ++ spell e) (spell_more_elements es) h.1)))

  chosen_told : (cs : t.Choices) (P : ℕ → Type 0) (sight : Sight) → Stand P (spell_chosen cs) → Told P (broken.typed_choices sight cs)
  chosen_told t.no_choices P sight h = told_nothing
  chosen_told (t.choice c cs) P sight h =
      told_behind (choice_told c P sight (first P (spell_choice c) (spell_more_chosen cs) h)) (more_chosen_told cs P sight (behind P (spell_choice c) (spell_more_chosen cs) h))

  more_chosen_told : (cs : t.Choices) (P : ℕ → Type 0) (sight : Sight) → Stand P (spell_more_chosen cs) → Told P (broken.typed_choices sight cs)
  more_chosen_told t.no_choices P sight h = told_nothing
  more_chosen_told (t.choice c cs) P sight h =
      told_behind (choice_told c P sight (first P (spell_choice c) (spell_more_chosen cs) h.1)) (more_chosen_told cs P sight (behind P (spell_choice c) (spell_more_chosen cs) h.1))

  pub choice_told : (c : t.Choice) (P : ℕ → Type 0) (sight : Sight) → Stand P (spell_choice c) → Told P (broken.typed_choice sight c)
  choice_told (t.chosen e) P sight h =
      told_behind (typed_told e P sight h)
      (told_given (are.typed sight e) (λ x. lacking TypeMismatch (start e) (as_index (start e) x)) (λ x. told_lacking TypeMismatch (start e) (as_index (start e) x) (start_stands P e h)))
  choice_told (t.chosen_range d direction e) P sight h =
      let left = first P (spell d) _ h in
      let right = (behind P (spell d) _ h).1 in
      told_behind (told_behind (typed_told d P sight left) (wanted_told P (start d) (are.typed sight d) (start_stands P d left)))
      (told_behind (typed_told e P sight right) (wanted_told P (start e) (are.typed sight e) (start_stands P e right)))
  choice_told (t.otherwise at) P sight h = told_nothing

-- ---- what is asked of an expression

pub asked_told : {A : Type 0} (P : ℕ → Type 0) (f : Typed → Option A) (sight : Sight) (e : Expr) → Stand P (spell e)
    → Told P (broken.typed sight e ▸ where_given (are.typed sight e) (λ x. lacking TypeMismatch (start e) (f x)))
asked_told P f sight e h =
    told_behind (typed_told e P sight h)
    (told_given (are.typed sight e) (λ x. lacking TypeMismatch (start e) (f x)) (λ x. told_lacking TypeMismatch (start e) (f x) (start_stands P e h)))

pub static_told : (P : ℕ → Type 0) (sight : Sight) (e : Expr) → Stand P (spell e) → Told P (broken.static sight e)
static_told P sight e h = asked_told P as_integer sight e h

range_named_told : (P : ℕ → Type 0) (sight : Sight) (n : t.Name) (a : Option Attribute) → P n.identifier.at → Stand P (spell_suffix n.suffix) → Stand P (spell (t.named n.identifier n.suffix a))
    → Told P (broken.range_named sight n a)
range_named_told P sight n None h s g =
    told_behind (meaning_told P sight n.identifier h)
    (told_behind (typed_suffix_told n.suffix P sight s)
    (told_given (declaration sight n.identifier.text) (λ d. where_given (are.typed_suffix sight n.suffix) (λ s. lacking (no_range d.meaning) n.identifier.at (wider sight.language (named_range None d s))))
    (λ d. told_given (are.typed_suffix sight n.suffix) (λ s. lacking (no_range d.meaning) n.identifier.at (wider sight.language (named_range None d s)))
    (λ s. told_lacking (no_range d.meaning) n.identifier.at (wider sight.language (named_range None d s)) h))))
range_named_told P sight n (Some a) h s g =
    let d = t.named n.identifier n.suffix (Some a) in
    told_behind (typed_told d P sight g)
    (told_given (are.typed sight d) (λ x. lacking TypeMismatch n.identifier.at (as_range x)) (λ x. told_lacking TypeMismatch n.identifier.at (as_range x) h))

pub static_range_told : (P : ℕ → Type 0) (sight : Sight) (r : t.DiscreteRange) → Stand P (spell_discrete_range r) → Told P (broken.static_range sight r)
static_range_told P sight (t.bounds r) h = told_behind (static_told P sight r.left (first P (spell r.left) _ h)) (static_told P sight r.right (behind P (spell r.left) _ h).1)
static_range_told P sight (t.range_named n) h = range_named_told P sight n n.attribute h.0 (first P (spell_suffix n.suffix) (spell_option spell_attribute n.attribute) h.1) h

pub condition_told : (P : ℕ → Type 0) (sight : Sight) (e : Expr) → Stand P (spell e) → Told P (broken.condition sight e)
condition_told P sight e h = asked_told P as_test sight e h

pub static_condition_told : (P : ℕ → Type 0) (sight : Sight) (e : Expr) → Stand P (spell e) → Told P (broken.static_condition sight e)
static_condition_told P sight e h = asked_told P as_static_test sight e h

given_told : (P : ℕ → Type 0) (type : ObjectType) (r : Option Range) (at : ℕ) (x : Typed) → P at → TypedHolds P x → Told P (broken.given type r at x)
given_told P type r at (o.composite p es) h g = composite_told P type p (is_some r) es g.0 g.1
given_told P type r at x h g = told_lacking TypeMismatch at (as_value type r x) h

pub value_given_told : (P : ℕ → Type 0) (sight : Sight) (type : ObjectType) (r : Option Range) (v : t.Value) → Stand P (spell_value v) → Told P (broken.value_given sight type r v)
value_given_told P sight type r (t.single e) h =
    told_behind (typed_told e P sight h)
    (told_from (are.typed sight e) (broken.given type r (start e)) (λ x q. given_told P type r (start e) x (start_stands P e h) (typed_holds e P sight x h q)))
value_given_told P sight type r (t.others at e) h =
    let g = first P (spell e) _ h.1.1.1 in
    told_behind (typed_told e P sight g)
    (told_given (are.typed sight e) _ (λ x. told_behind (told_unless TypeMismatch at (is_vector_type type) h.0) (told_lacking TypeMismatch (start e) (as_filled type x) (start_stands P e g))))

pub value_assigned_told : (P : ℕ → Type 0) (sight : Sight) (type : ObjectType) (r : Option Range) (v : t.Value) → Stand P (spell_value v) → Told P (broken.value_assigned sight type r v)
value_assigned_told P sight Booleans r (t.single e) h = asked_told P as_boolean sight e h
value_assigned_told P sight type r v h = value_given_told P sight type r v h
