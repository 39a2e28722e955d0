-- Sequential statements that are given break no rule (IEEE 1076-2008, clause 10).
use Rattle.std.proofs.Common.{◌≡◌, Bool, true, false, not, List, [], ◌∷◌, Option, Some, None}
use Rattle.std.specs.Prelude.{is_none}
use Rattle.vhdl_tree.specs.Tree as t
use Rattle.vhdl_tree.specs.Tree.{Ident, Attribute, Expr}
use Rattle.vhdl_names_rules.specs.declared.kind.ObjectType.{ObjectType}
use Rattle.vhdl_names_rules.specs.declared.fault.NameProblem.{NameProblem}
use Rattle.vhdl_names_rules.specs.declared.fault.NameProblem.TheVariants.{WrongKind, WriteOfIn, LeftOut}
use Rattle.vhdl_names_rules.specs.units.Statements as s
use Rattle.vhdl_names_rules.specs.Rules.{◌>>=◌, ◌>>◌, rule, each}
use Rattle.vhdl_names_rules.specs.Visibility.{Meaning, Declared, Sight, declaration, label_ends, within_loop}
use Rattle.vhdl_names_rules.specs.Operators.{Typed}
use Rattle.vhdl_names_rules.specs.Names.{Suffix}
use Rattle.vhdl_names_rules.specs.Expressions.{typed, typed_suffix, static_range, condition, value_assigned}
use Rattle.vhdl_names_rules.specs.Choices.{choices, Selector, selector}
use Rattle.vhdl_names_rules.specs.Statements as are
use Rattle.vhdl_names_rules.specs.Statements.{SignalName, Target, as_signal, as_signal_target, as_variable_target, mode_of, is_input, signal_target, variable_target, target_by, assigned_to, assignment, last_branch, branches, conditional, choice_lists}
use Rattle.vhdl_names_rules.specs.problems.Broken.{Broken, ◌▸◌, lacking, where_given, any_of, of_any}
use Rattle.vhdl_names_rules.specs.problems.Expressions as expressions
use Rattle.vhdl_names_rules.specs.problems.Expressions.{no_attribute}
use Rattle.vhdl_names_rules.specs.problems.Statements as broken
use Rattle.vhdl_names_rules.specs.problems.Statements.{signal_problem, variable_problem, end_label, by_selector}
use Rattle.vhdl_names_rules.proofs.laws.Rules.{comes, kept}
use Rattle.vhdl_names_rules.proofs.laws.Parts.{case_parts}
use Rattle.vhdl_names_rules.proofs.Telling.{IsKept, both_kept, unless_kept, lacking_kept, given_kept}
use Rattle.vhdl_names_rules.proofs.kept.Keeping.{nothing_kept, mapped}
use Rattle.vhdl_names_rules.proofs.kept.Expressions.{declared_kept, typed_suffix_kept, static_range_kept, condition_kept, value_assigned_kept}
use Rattle.vhdl_names_rules.proofs.kept.Choices.{choices_kept, selected_by_kept}
use Rattle.vhdl_names_rules.proofs.kept.Covered.{covered_kept, any_alternative_kept, choices_of_covered}

-- ---- names of signals and variables

-- what an object's name is
abbrev pub object_named : {A : Type 0} → (Declared → Suffix → Option A) → Sight → t.Name → Option A
object_named f sight n = do
  rule LeftOut (is_none n.attribute)
  suffix ← typed_suffix sight n.suffix
  d ← declaration sight n.identifier.text
  f d suffix

pub no_attribute_kept : (a : Option Attribute) → is_none a ≡ true → IsKept (no_attribute a)
no_attribute_kept None h = nothing_kept
no_attribute_kept (Some i) h = absurd cc

pub named_kept : (sight : Sight) (n : t.Name) (d : Declared) (s : Suffix) → declaration sight n.identifier.text ≡ Some d → typed_suffix sight n.suffix ≡ Some s
    → is_none n.attribute ≡ true → IsKept (broken.named sight n)
named_kept sight n d s meant given none =
    both_kept _ _ (declared_kept sight n.identifier d meant) (both_kept _ _ (typed_suffix_kept n.suffix sight s given) (no_attribute_kept n.attribute none))

object_kept : {A : Type 0} (problem : Meaning → NameProblem) (f : Declared → Suffix → Option A) (sight : Sight) (n : t.Name) (x : A) → object_named f sight n ≡ Some x
    → IsKept (broken.named sight n ▸ where_given (declaration sight n.identifier.text) (λ d. where_given (typed_suffix sight n.suffix) (λ s. lacking (problem d.meaning) n.identifier.at (f d s))))
object_kept problem f sight n x h =
    let a = kept (is_none n.attribute) _ x h in
    let b = comes (typed_suffix sight n.suffix) _ x a.1 in
    let d = comes (declaration sight n.identifier.text) _ x b.rest in
    both_kept _ _ (named_kept sight n d.value b.value d.is b.is a.0)
    (given_kept (λ d. where_given (typed_suffix sight n.suffix) (λ s. lacking (problem d.meaning) n.identifier.at (f d s))) (declaration sight n.identifier.text) d.value d.is
    (given_kept (λ s. lacking (problem d.value.meaning) n.identifier.at (f d.value s)) (typed_suffix sight n.suffix) b.value b.is
    (lacking_kept (problem d.value.meaning) n.identifier.at (f d.value b.value) x d.rest)))

pub signal_kept : (sight : Sight) (n : t.Name) (x : SignalName) → are.signal sight n ≡ Some x → IsKept (broken.signal sight n)
unfolding are.signal
signal_kept sight n x h = object_kept signal_problem (as_signal n.identifier.at) sight n x h

pub signal_target_kept : (sight : Sight) (n : t.Name) (x : Target) → signal_target sight n ≡ Some x → IsKept (broken.target sight n)
unfolding signal_target
signal_target_kept sight n x h =
    let a = kept (is_none n.attribute) _ x h in
    let b = comes (typed_suffix sight n.suffix) _ x a.1 in
    let d = comes (declaration sight n.identifier.text) _ x b.rest in
    let t = comes (as_signal_target n.identifier.at d.value b.value) _ x d.rest in
    let m = kept (not (is_input (mode_of d.value.meaning))) _ x t.rest in
    both_kept _ _ (named_kept sight n d.value b.value d.is b.is a.0)
    (given_kept (λ d. where_given (typed_suffix sight n.suffix) (broken.target_by_declaration n.identifier.at d)) (declaration sight n.identifier.text) d.value d.is
    (given_kept (broken.target_by_declaration n.identifier.at d.value) (typed_suffix sight n.suffix) b.value b.is
    (both_kept _ _ (lacking_kept (signal_problem d.value.meaning) n.identifier.at (as_signal_target n.identifier.at d.value b.value) t.value t.is)
    (unless_kept WriteOfIn n.identifier.at (not (is_input (mode_of d.value.meaning))) m.0))))

pub variable_target_kept : (sight : Sight) (n : t.Name) (x : Target) → variable_target sight n ≡ Some x → IsKept (broken.variable sight n)
unfolding variable_target
variable_target_kept sight n x h = object_kept variable_problem (as_variable_target n.identifier.at) sight n x h

-- ---- assignments

given_to_kept : (sight : Sight) (o : Option Target) (x : Target) (v : t.Value) (y : s.Statement) → o ≡ Some x → assignment sight x v ≡ Some y → IsKept (broken.given sight o v)
given_to_kept sight o x v y h k =
    let g = mapped (assigned_to x) (value_assigned sight x.type x.range v) y k in
    given_kept (λ x. expressions.value_assigned sight x.type x.range v) o x h (value_assigned_kept sight x.type x.range v g.value g.from)

pub assigned_kept : (sight : Sight) (n : t.Name) (v : t.Value) (x : Target) (y : s.Statement) → signal_target sight n ≡ Some x → assignment sight x v ≡ Some y
    → IsKept (broken.assigned sight n v)
assigned_kept sight n v x y h k = both_kept _ _ (signal_target_kept sight n x h) (given_to_kept sight (signal_target sight n) x v y h k)

pub variable_assigned_kept : (sight : Sight) (n : t.Name) (v : t.Value) (x : Target) (y : s.Statement) → variable_target sight n ≡ Some x → assignment sight x v ≡ Some y
    → IsKept (broken.variable_assigned sight n v)
variable_assigned_kept sight n v x y h k = both_kept _ _ (variable_target_kept sight n x h) (given_to_kept sight (variable_target sight n) x v y h k)

-- under conditions
pub target_by_kept : (sight : Sight) (is_variable : Bool) (n : t.Name) (x : Target) → target_by sight is_variable n ≡ Some x → IsKept (broken.target_by sight is_variable n)
target_by_kept sight false n x h = signal_target_kept sight n x h
target_by_kept sight true n x h = variable_target_kept sight n x h

module _ (sight : Sight) (target : Option Target) (x : Target) (is : target ≡ Some x) where
  last_kept : (o : Option t.Value) (ys : s.Branches) → last_branch sight x o ≡ Some ys → IsKept (of_any (broken.given sight target) o)
  last_kept None ys h = nothing_kept
  last_kept (Some v) ys h = let y = mapped _ (assignment sight x v) ys h in given_to_kept sight target x v y.value is y.from

  branches_kept : (bs : List t.Branch) (o : Option t.Value) (ys : s.Branches) → branches sight x bs o ≡ Some ys
      → IsKept (any_of (broken.branch sight target) bs) × IsKept (of_any (broken.given sight target) o)
  branches_kept [] o ys h = (nothing_kept, last_kept o ys h)
  branches_kept (b ∷ bs) o ys h =
      let y = comes (assignment sight x b.value) _ ys h in
      let c = comes (condition sight b.condition) _ ys y.rest in
      let more = comes (branches sight x bs o) _ ys c.rest in
      let r = branches_kept bs o more.value more.is in
      (both_kept _ _ (both_kept _ _ (given_to_kept sight target x b.value y.value is y.is) (condition_kept sight b.condition c.value c.is)) r.0, r.1)

  pub conditional_kept : (bs : List t.Branch) (o : Option t.Value) (y : s.Statement) → conditional sight x bs o ≡ Some y
      → IsKept (any_of (broken.branch sight target) bs ▸ of_any (broken.given sight target) o)
  conditional_kept [] (Some v) y h = both_kept _ _ nothing_kept (given_to_kept sight target x v y is h)
  conditional_kept [] None y h = both_kept _ _ nothing_kept nothing_kept
  conditional_kept (b ∷ bs) o y h =
      let m = mapped (s.if_of x.at) (branches sight x (b ∷ bs) o) y h in
      let r = branches_kept (b ∷ bs) o m.value m.from in
      both_kept _ _ r.0 r.1

-- ---- statements

pub end_label_kept : (label end : Option Ident) → label_ends label end ≡ true → IsKept (end_label label end)
end_label_kept label None h = nothing_kept
end_label_kept label (Some e) h = unless_kept WrongKind e.at (label_ends label (Some e)) h

pub by_selector_kept : (sight : Sight) (e : Expr) (f : ObjectType → Broken) (x : Typed) (by : ObjectType × Selector) → typed sight e ≡ Some x → selector sight.language x ≡ Some by
    → IsKept (f by.0) → IsKept (by_selector sight e f)
by_selector_kept sight e f x by typed_is selected h =
    both_kept _ _ (selected_by_kept sight e x by typed_is selected)
    (given_kept (λ x. where_given (selector sight.language x) (λ by. f by.0)) (typed sight e) x typed_is (given_kept (λ by. f by.0) (selector sight.language x) by selected h))

mutual
  unfolding are.statement broken.statement

  pub statement_kept : (y : t.Statement) (sight : Sight) (label : Option Ident) (x : s.Statement) → are.statement sight label y ≡ Some x
      → IsKept (broken.statement sight label y)
  statement_kept (t.null_of at) sight label x h = nothing_kept
  statement_kept (t.assigned n v) sight label x h =
      let a = comes (signal_target sight n) _ x h in
      assigned_kept sight n v a.value x a.is a.rest
  statement_kept (t.variable_assigned n v) sight label x h =
      let a = comes (variable_target sight n) _ x h in
      variable_assigned_kept sight n v a.value x a.is a.rest
  statement_kept (t.assigned_when is_variable n bs o) sight label x h =
      let a = comes (target_by sight is_variable n) _ x h in
      both_kept _ _ (target_by_kept sight is_variable n a.value a.is) (conditional_kept sight (target_by sight is_variable n) a.value a.is bs o x a.rest)
  statement_kept (t.asserted text) sight label x h = nothing_kept
  statement_kept (t.reported text) sight label x h = nothing_kept
  statement_kept (t.if_of at bs o end) sight label x h =
      let a = kept (label_ends label end) _ x h in
      let last = comes (are.otherwise sight o) _ x a.1 in
      let b = comes (are.conditionals sight last.value bs) _ x last.rest in
      both_kept _ _ (conditionals_kept bs sight last.value b.value b.is)
      (both_kept _ _ (otherwise_kept o sight last.value last.is) (end_label_kept label end a.0))
  statement_kept (t.case_of at e alts end) sight label x h =
      let p = case_parts sight label at e alts end x h in
      both_kept _ _
      (by_selector_kept sight e _ p.chosen.operand.value p.chosen.by.value p.chosen.operand.is p.chosen.by.is
      (covered_kept sight p.chosen.by.value.0 at (choice_lists alts) (broken.alternatives sight p.chosen.by.value.0 alts) p.chosen.choices.value p.chosen.choices.is
      (alternatives_kept alts sight p.chosen.by.value.0 p.chosen.choices.value p.chosen.bodies.value (choices_of_covered sight p.chosen.by.value.0 (choice_lists alts) p.chosen.choices.value p.chosen.choices.is) p.chosen.bodies.is)))
      (both_kept _ _ (end_label_kept label end p.ended)
      (any_alternative_kept sight p.chosen.by.value.0 at (choice_lists alts) p.chosen.choices.value p.chosen.bodies.value p.chosen.all.value p.chosen.choices.is p.chosen.all.is))
  statement_kept (t.for_of at n r body end) sight label x h =
      let a = kept (label_ends label end) _ x h in
      let range = comes (static_range sight r) _ x a.1 in
      let turn = comes (are.statements (within_loop sight n) body) _ x range.rest in
      both_kept _ _ (static_range_kept sight r range.value range.is)
      (both_kept _ _ (statements_kept body (within_loop sight n) turn.value turn.is) (end_label_kept label end a.0))

  pub statements_kept : (ys : t.Statements) (sight : Sight) (xs : s.Statements) → are.statements sight ys ≡ Some xs → IsKept (broken.statements sight ys)
  statements_kept t.done sight xs h = nothing_kept
  statements_kept (t.step label y ys) sight xs h =
      let a = comes (are.statement sight label y) _ xs h in
      let b = comes (are.statements sight ys) _ xs a.rest in
      both_kept _ _ (statement_kept y sight label a.value a.is) (statements_kept ys sight b.value b.is)

  pub conditionals_kept : (bs : t.Conditionals) (sight : Sight) (last xs : s.Branches) → are.conditionals sight last bs ≡ Some xs → IsKept (broken.conditionals sight bs)
  conditionals_kept t.no_conditionals sight last xs h = nothing_kept
  conditionals_kept (t.guarded e body bs) sight last xs h =
      let c = comes (condition sight e) _ xs h in
      let a = comes (are.statements sight body) _ xs c.rest in
      let b = comes (are.conditionals sight last bs) _ xs a.rest in
      both_kept _ _ (condition_kept sight e c.value c.is)
      (both_kept _ _ (statements_kept body sight a.value a.is) (conditionals_kept bs sight last b.value b.is))

  pub otherwise_kept : (o : t.Otherwise) (sight : Sight) (x : s.Branches) → are.otherwise sight o ≡ Some x → IsKept (broken.otherwise sight o)
  otherwise_kept t.no_else sight x h = nothing_kept
  otherwise_kept (t.else_do body) sight x h =
      let a = mapped s.otherwise (are.statements sight body) x h in
      statements_kept body sight a.value a.from

  pub alternatives_kept : (alts : t.Alternatives) (sight : Sight) (type : ObjectType) (css : List (List s.Choice)) (xs : List s.Statements)
      → each (choices sight type) (choice_lists alts) ≡ Some css → are.alternatives sight alts ≡ Some xs → IsKept (broken.alternatives sight type alts)
  alternatives_kept t.no_alternatives sight type css xs g h = nothing_kept
  alternatives_kept (t.alternative cs body more) sight type css xs g h =
      let c = comes (choices sight type cs) _ css g in
      let d = comes (each (choices sight type) (choice_lists more)) _ css c.rest in
      let a = comes (are.statements sight body) _ xs h in
      let b = comes (are.alternatives sight more) _ xs a.rest in
      both_kept _ _ (choices_kept sight type cs c.value c.is)
      (both_kept _ _ (statements_kept body sight a.value a.is) (alternatives_kept more sight type d.value b.value d.is b.is))
