-- Sequential statements that break no rule are given (IEEE 1076-2008, clause 10).
use Rattle.std.proofs.Common.{◌≡◌, ℕ, Bool, true, false, not, List, [], ◌∷◌, length, Option, Some, None, refl, ap, sym, ◌∙◌, arith}
use Rattle.std.specs.Prelude.{is_none}
use Rattle.vhdl_tree.specs.Tree as t
use Rattle.vhdl_tree.specs.Tree.{Ident, Attribute}
use Rattle.vhdl_names_rules.specs.declared.kind.ObjectType.{ObjectType}
use Rattle.vhdl_names_rules.specs.declared.fault.NameProblem.{NameProblem}
use Rattle.vhdl_names_rules.specs.declared.fault.NameProblem.TheVariants.{WrongKind, WriteOfIn}
use Rattle.vhdl_names_rules.specs.units.Statements as s
use Rattle.vhdl_names_rules.specs.Rules.{◌>>=◌, ◌>>◌, met, each}
use Rattle.vhdl_names_rules.specs.Visibility.{Meaning, Declared, Sight, declaration, label_ends, within_loop}
use Rattle.vhdl_names_rules.specs.Names.{Suffix}
use Rattle.vhdl_names_rules.specs.Expressions.{typed, typed_suffix, static_range, condition, value_assigned}
use Rattle.vhdl_names_rules.specs.Choices.{choices, covered, selector, arranged, selecting}
use Rattle.vhdl_names_rules.specs.Statements as are
use Rattle.vhdl_names_rules.specs.Statements.{as_signal, as_signal_target, as_variable_target, mode_of, is_input, Target, choice_lists}
use Rattle.vhdl_names_rules.specs.problems.Broken.{◌▸◌, lacking, where_given, any_of, of_any}
use Rattle.vhdl_names_rules.specs.problems.Expressions as expressions
use Rattle.vhdl_names_rules.specs.problems.Expressions.{no_attribute}
use Rattle.vhdl_names_rules.specs.problems.Statements as broken
use Rattle.vhdl_names_rules.specs.problems.Statements.{signal_problem, variable_problem, end_label}
use Rattle.vhdl_names_rules.proofs.laws.Rules.{comes, some_is}
use Rattle.vhdl_names_rules.proofs.Telling.{IsKept}
use Rattle.vhdl_names_rules.proofs.kept.Statements.{object_named}
use Rattle.vhdl_names_laws.proofs.given.Giving.{IsGiven, this, bound, ruled, mapped_given, parts, holds, given, of_given}
use Rattle.vhdl_names_laws.proofs.given.Expressions.{declaration_given, suffix_given, static_range_given, condition_given, value_assigned_given}
use Rattle.vhdl_names_laws.proofs.given.Choices.{choices_given, covered_is, of_alternatives, each_length, arranged_given, selected_given}

-- ---- names of signals and variables

none_given : (a : Option Attribute) → IsKept (no_attribute a) → is_none a ≡ true
none_given None h = refl
none_given (Some i) h = absurd cc

object_given : {A : Type 0} (problem : Meaning → NameProblem) (f : Declared → Suffix → Option A) (sight : Sight) (n : t.Name)
    → IsKept (broken.named sight n ▸ where_given (declaration sight n.identifier.text) (λ d. where_given (typed_suffix sight n.suffix) (λ s. lacking (problem d.meaning) n.identifier.at (f d s))))
    → IsGiven (object_named f sight n)
object_given problem f sight n h =
    let k = parts _ _ h in
    let l = parts _ _ k.0 in
    let m = parts _ _ l.1 in
    let d = declaration_given sight n.identifier l.0 in
    let x = suffix_given n.suffix sight m.0 in
    let y = given (problem d.value.meaning) n.identifier.at (f d.value x.value)
    (of_given (λ s. lacking (problem d.value.meaning) n.identifier.at (f d.value s)) (typed_suffix sight n.suffix) x.value x.is
    (of_given (λ d. where_given (typed_suffix sight n.suffix) (λ s. lacking (problem d.meaning) n.identifier.at (f d s))) (declaration sight n.identifier.text) d.value d.is k.1)) in
    ruled (is_none n.attribute) _ (none_given n.attribute m.1)
    (bound (typed_suffix sight n.suffix) (λ s. declaration sight n.identifier.text >>= λ d. f d s) x.value x.is
    (bound (declaration sight n.identifier.text) (λ d. f d x.value) d.value d.is y))

pub signal_given : (sight : Sight) (n : t.Name) → IsKept (broken.signal sight n) → IsGiven (are.signal sight n)
unfolding are.signal
signal_given sight n h = object_given signal_problem (as_signal n.identifier.at) sight n h

-- a target that is no in port
driven_given : (at : ℕ) (d : Declared) (s : Suffix) → IsKept (broken.target_by_declaration at d s) → IsGiven (as_signal_target at d s >>= λ x. (met (not (is_input (mode_of d.meaning))) >> Some x))
driven_given at d s h =
    let k = parts _ _ h in
    let x = given (signal_problem d.meaning) at (as_signal_target at d s) k.0 in
    bound (as_signal_target at d s) (λ x. met (not (is_input (mode_of d.meaning))) >> Some x) x.value x.is
    (ruled (not (is_input (mode_of d.meaning))) (Some x.value) (holds WriteOfIn at (not (is_input (mode_of d.meaning))) k.1) (this x.value))

pub signal_target_given : (sight : Sight) (n : t.Name) → IsKept (broken.target sight n) → IsGiven (are.signal_target sight n)
unfolding are.signal_target
signal_target_given sight n h =
    let k = parts (broken.named sight n) (where_given (declaration sight n.identifier.text) (λ d. where_given (typed_suffix sight n.suffix) (broken.target_by_declaration n.identifier.at d))) h in
    let l = parts _ _ k.0 in
    let m = parts _ _ l.1 in
    let d = declaration_given sight n.identifier l.0 in
    let x = suffix_given n.suffix sight m.0 in
    let y = driven_given n.identifier.at d.value x.value
    (of_given (broken.target_by_declaration n.identifier.at d.value) (typed_suffix sight n.suffix) x.value x.is
    (of_given (λ d. where_given (typed_suffix sight n.suffix) (broken.target_by_declaration n.identifier.at d)) (declaration sight n.identifier.text) d.value d.is k.1)) in
    ruled (is_none n.attribute) _ (none_given n.attribute m.1)
    (bound (typed_suffix sight n.suffix) (λ s. declaration sight n.identifier.text >>= λ d. as_signal_target n.identifier.at d s >>= λ x. (met (not (is_input (mode_of d.meaning))) >> Some x)) x.value x.is
    (bound (declaration sight n.identifier.text) (λ d. as_signal_target n.identifier.at d x.value >>= λ x. (met (not (is_input (mode_of d.meaning))) >> Some x)) d.value d.is y))

variable_target_given : (sight : Sight) (n : t.Name) → IsKept (broken.variable sight n) → IsGiven (are.variable_target sight n)
unfolding are.variable_target
variable_target_given sight n h = object_given variable_problem (as_variable_target n.identifier.at) sight n h

-- ---- assignments

target_by_given : (sight : Sight) (is_variable : Bool) (n : t.Name) → IsKept (broken.target_by sight is_variable n) → IsGiven (are.target_by sight is_variable n)
target_by_given sight false n h = signal_target_given sight n h
target_by_given sight true n h = variable_target_given sight n h

assignment_given : (sight : Sight) (target : Option Target) (x : Target) (v : t.Value) → target ≡ Some x → IsKept (broken.given sight target v) → IsGiven (are.assignment sight x v)
assignment_given sight target x v e h =
    mapped_given (are.assigned_to x) (value_assigned sight x.type x.range v) (value_assigned_given sight x.type x.range v (of_given (λ x. expressions.value_assigned sight x.type x.range v) target x e h))

-- what is given to a signal, whose target this is
pub assigned_given : (sight : Sight) (n : t.Name) (v : t.Value) (x : Target) → are.signal_target sight n ≡ Some x → IsKept (broken.assigned sight n v) → IsGiven (are.assignment sight x v)
assigned_given sight n v x e h = assignment_given sight (are.signal_target sight n) x v e (parts (broken.target sight n) (broken.given sight (are.signal_target sight n) v) h).1

-- ---- values with conditions

module _ (sight : Sight) (target : Option Target) (x : Target) (is : target ≡ Some x) where
  branches_given : (bs : List t.Branch) (o : Option t.Value) → IsKept (any_of (broken.branch sight target) bs) → IsKept (of_any (broken.given sight target) o) → IsGiven (are.branches sight x bs o)
  branches_given [] None h g = this s.no_else
  branches_given [] (Some v) h g = mapped_given (λ y. s.otherwise (are.alone y)) (are.assignment sight x v) (assignment_given sight target x v is g)
  branches_given (b ∷ bs) o h g =
      let k = parts (broken.branch sight target b) (any_of (broken.branch sight target) bs) h in
      let l = parts (broken.given sight target b.value) (expressions.condition sight b.condition) k.0 in
      let y = assignment_given sight target x b.value is l.0 in
      let c = condition_given sight b.condition l.1 in
      let rest = branches_given bs o k.1 g in
      bound (are.assignment sight x b.value) _ y.value y.is
      (bound (condition sight b.condition) _ c.value c.is
      (bound (are.branches sight x bs o) (λ rest. Some (s.branch c.value (are.alone y.value) rest)) rest.value rest.is (this (s.branch c.value (are.alone y.value) rest.value))))

  by_conditions_given : (bs : List t.Branch) (o : Option t.Value) → IsKept (any_of (broken.branch sight target) bs) → IsKept (of_any (broken.given sight target) o) → IsGiven (are.conditional sight x bs o)
  by_conditions_given [] (Some v) h g = assignment_given sight target x v is g
  by_conditions_given [] None h g = mapped_given (s.if_of x.at) (are.branches sight x [] None) (branches_given [] None h g)
  by_conditions_given (b ∷ bs) o h g = mapped_given (s.if_of x.at) (are.branches sight x (b ∷ bs) o) (branches_given (b ∷ bs) o h g)

pub conditional_given : (sight : Sight) (is_variable : Bool) (n : t.Name) (bs : List t.Branch) (o : Option t.Value) → IsKept (broken.conditional sight is_variable n bs o)
    → IsGiven (are.target_by sight is_variable n >>= λ x. are.conditional sight x bs o)
conditional_given sight is_variable n bs o h =
    let target = are.target_by sight is_variable n in
    let k = parts (broken.target_by sight is_variable n) _ h in
    let l = parts (any_of (broken.branch sight target) bs) (of_any (broken.given sight target) o) k.1 in
    let x = target_by_given sight is_variable n k.0 in
    bound target (λ x. are.conditional sight x bs o) x.value x.is (by_conditions_given sight target x.value x.is bs o l.0 l.1)

-- ---- statements

pub end_label_given : (label end : Option Ident) → IsKept (end_label label end) → label_ends label end ≡ true
end_label_given label None h = refl
end_label_given label (Some e) h = holds WrongKind e.at (label_ends label (Some e)) h

-- the choices of alternatives, and what they do
record AreAlternatives (sight : Sight) (type : ObjectType) (alts : t.Alternatives) : Type 0 where
  chosen : IsGiven (each (choices sight type) (choice_lists alts))
  bodies : IsGiven (are.alternatives sight alts)

alternatives_length : (alts : t.Alternatives) (sight : Sight) (xs : List s.Statements) → are.alternatives sight alts ≡ Some xs → length xs ≡ length (choice_lists alts)
unfolding are.statement
alternatives_length t.no_alternatives sight xs h = ap length (sym (some_is [] xs h))
alternatives_length (t.alternative cs body more) sight xs h =
    let a = comes (are.statements sight body) _ xs h in
    let b = comes (are.alternatives sight more) _ xs a.rest in
    let l = alternatives_length more sight b.value b.is in
    ap length (sym (some_is (a.value ∷ b.value) xs b.rest)) ∙ omega (arith, l)

mutual
  unfolding are.statement broken.statement

  statement_given : (y : t.Statement) (sight : Sight) (label : Option Ident) → IsKept (broken.statement sight label y) → IsGiven (are.statement sight label y)
  statement_given (t.null_of at) sight label h = this s.null_of
  statement_given (t.assigned n v) sight label h =
      let k = parts (broken.target sight n) (broken.given sight (are.signal_target sight n) v) h in
      let x = signal_target_given sight n k.0 in
      bound (are.signal_target sight n) (λ x. are.assignment sight x v) x.value x.is (assignment_given sight (are.signal_target sight n) x.value v x.is k.1)
  statement_given (t.variable_assigned n v) sight label h =
      let k = parts (broken.variable sight n) (broken.given sight (are.variable_target sight n) v) h in
      let x = variable_target_given sight n k.0 in
      bound (are.variable_target sight n) (λ x. are.assignment sight x v) x.value x.is (assignment_given sight (are.variable_target sight n) x.value v x.is k.1)
  statement_given (t.assigned_when is_variable n bs o) sight label h = conditional_given sight is_variable n bs o h
  statement_given (t.asserted text) sight label h = this s.null_of
  statement_given (t.reported text) sight label h = this s.null_of
  statement_given (t.if_of at bs o end) sight label h =
      let k = parts _ _ h in
      let l = parts _ _ k.1 in
      let last = otherwise_given o sight l.0 in
      let branches = conditionals_given bs sight last.value k.0 in
      ruled (label_ends label end) _ (end_label_given label end l.1)
      (bound (are.otherwise sight o) (λ last. are.conditionals sight last bs >>= λ branches. Some (s.if_of at branches)) last.value last.is
      (bound (are.conditionals sight last.value bs) (λ branches. Some (s.if_of at branches)) branches.value branches.is (this (s.if_of at branches.value))))
  statement_given (t.case_of at e alts end) sight label h =
      let k = parts _ _ h in
      let l = parts _ _ k.1 in
      let c = selected_given sight e _ k.0 in
      let type : ObjectType = c.by.0 in
      let all = alternatives_given alts sight type (of_alternatives sight type at (choice_lists alts) (broken.alternatives sight type alts) c.rest) in
      let done = arranged_given at (choice_lists alts) all.chosen.value all.bodies.value l.1 (each_length (choices sight type) (choice_lists alts) all.chosen.value all.chosen.is)
      (alternatives_length alts sight all.bodies.value all.bodies.is) in
      ruled (label_ends label end) _ (end_label_given label end l.0)
      (bound (typed sight e) _ c.operand c.typed_is
      (bound (selector sight.language c.operand) _ c.by c.selected
      (bound (covered sight type (choice_lists alts)) _ all.chosen.value
      (covered_is sight type at (choice_lists alts) (broken.alternatives sight type alts) all.chosen.value all.chosen.is c.rest)
      (bound (are.alternatives sight alts) _ all.bodies.value all.bodies.is
      (bound (arranged all.chosen.value all.bodies.value) (λ all. Some (selecting at c.by.1 all)) done.value done.is (this (selecting at c.by.1 done.value)))))))
  statement_given (t.for_of at n r body end) sight label h =
      let k = parts _ _ h in
      let l = parts _ _ k.1 in
      let range = static_range_given sight r k.0 in
      let turn = statements_given body (within_loop sight n) l.0 in
      ruled (label_ends label end) _ (end_label_given label end l.1)
      (bound (static_range sight r) (λ range. are.statements (within_loop sight n) body >>= λ turn. Some (s.for_of at range turn)) range.value range.is
      (bound (are.statements (within_loop sight n) body) (λ turn. Some (s.for_of at range.value turn)) turn.value turn.is (this (s.for_of at range.value turn.value))))

  pub statements_given : (ys : t.Statements) (sight : Sight) → IsKept (broken.statements sight ys) → IsGiven (are.statements sight ys)
  statements_given t.done sight h = this s.done
  statements_given (t.step label y ys) sight h =
      let k = parts _ _ h in
      let x = statement_given y sight label k.0 in
      let xs = statements_given ys sight k.1 in
      bound (are.statement sight label y) (λ x. are.statements sight ys >>= λ xs. Some (are.before y x xs)) x.value x.is
      (bound (are.statements sight ys) (λ xs. Some (are.before y x.value xs)) xs.value xs.is (this (are.before y x.value xs.value)))

  conditionals_given : (bs : t.Conditionals) (sight : Sight) (last : s.Branches) → IsKept (broken.conditionals sight bs) → IsGiven (are.conditionals sight last bs)
  conditionals_given t.no_conditionals sight last h = this last
  conditionals_given (t.guarded e body bs) sight last h =
      let k = parts _ _ h in
      let l = parts _ _ k.1 in
      let c = condition_given sight e k.0 in
      let x = statements_given body sight l.0 in
      let rest = conditionals_given bs sight last l.1 in
      bound (condition sight e) _ c.value c.is
      (bound (are.statements sight body) _ x.value x.is
      (bound (are.conditionals sight last bs) (λ rest. Some (s.branch c.value x.value rest)) rest.value rest.is (this (s.branch c.value x.value rest.value))))

  otherwise_given : (o : t.Otherwise) (sight : Sight) → IsKept (broken.otherwise sight o) → IsGiven (are.otherwise sight o)
  otherwise_given t.no_else sight h = this s.no_else
  otherwise_given (t.else_do body) sight h = mapped_given s.otherwise (are.statements sight body) (statements_given body sight h)

  alternatives_given : (alts : t.Alternatives) (sight : Sight) (type : ObjectType) → IsKept (broken.alternatives sight type alts) → AreAlternatives sight type alts
  alternatives_given t.no_alternatives sight type h = record { chosen = this []; bodies = this [] }
  alternatives_given (t.alternative cs body more) sight type h =
      let k = parts _ _ h in
      let l = parts _ _ k.1 in
      let c = choices_given sight type cs k.0 in
      let x = statements_given body sight l.0 in
      let rest = alternatives_given more sight type l.1 in
      record {
        chosen =
            bound (choices sight type cs) (λ c. each (choices sight type) (choice_lists more) >>= λ cs. Some (c ∷ cs)) c.value c.is
            (bound (each (choices sight type) (choice_lists more)) (λ cs. Some (c.value ∷ cs)) rest.chosen.value rest.chosen.is (this (c.value ∷ rest.chosen.value)));
        bodies =
            bound (are.statements sight body) (λ x. are.alternatives sight more >>= λ xs. Some (x ∷ xs)) x.value x.is
            (bound (are.alternatives sight more) (λ xs. Some (x.value ∷ xs)) rest.bodies.value rest.bodies.is (this (x.value ∷ rest.bodies.value)));
      }
