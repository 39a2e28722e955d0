-- What is told of sequential statements stands at a piece of them.
use Rattle.std.proofs.Common.{ℕ, Bool, true, false, not, List, [], ◌∷◌, ◌++◌, Option, Some, None}
use Rattle.std.specs.List.{AllByRecursion}
use Rattle.vhdl_lexer.specs.declared.token.TokenKind.{TokenKind}
use Rattle.vhdl_lexer.specs.declared.token.TokenKind.TheVariants as k
use Rattle.vhdl_tree.specs.Tree as t
use Rattle.vhdl_tree.specs.Tree.{Ident, Expr}
use Rattle.vhdl_tree.specs.Pieces.{spell_ident, spell_option}
use Rattle.vhdl_tree.specs.grammar.Expressions.{spell, spell_suffix, spell_attribute, spell_name, spell_value, spell_discrete_range, spell_choice, spell_choices}
use Rattle.vhdl_tree.specs.grammar.Waveforms.{spell_branch, spell_otherwise, spell_waveforms}
use Rattle.vhdl_tree.specs.grammar.Sequential.{spell_label, spell_end, spell_statement, spell_statements, spell_conditionals, spell_elsifs, spell_else, spell_alternatives}
use Rattle.vhdl_names_rules.specs.declared.kind.ObjectType.{ObjectType}
use Rattle.vhdl_names_rules.specs.declared.fault.NameProblem.{NameProblem}
use Rattle.vhdl_names_rules.specs.declared.fault.NameProblem.TheVariants.{WrongKind, WriteOfIn}
use Rattle.vhdl_names_rules.specs.Visibility.{Meaning, Declared, Sight, declaration, label_ends, within_loop}
use Rattle.vhdl_names_rules.specs.Names.{Suffix}
use Rattle.vhdl_names_rules.specs.Expressions.{typed, typed_suffix}
use Rattle.vhdl_names_rules.specs.Choices.{selector}
use Rattle.vhdl_names_rules.specs.Statements as are
use Rattle.vhdl_names_rules.specs.Statements.{as_signal, as_signal_target, as_variable_target, mode_of, is_input, Target, choice_lists}
use Rattle.vhdl_names_rules.specs.problems.Broken.{Broken, ◌▸◌, unless, lacking, where_given}
use Rattle.vhdl_names_rules.specs.problems.Expressions as expressions
use Rattle.vhdl_names_rules.specs.problems.Statements as broken
use Rattle.vhdl_names_rules.specs.problems.Statements.{signal_problem, variable_problem}
use Rattle.vhdl_names_rules.specs.problems.Covered.{covered}
use Rattle.vhdl_names_laws.proofs.placed.Told.{Stand, EachStands, first, behind, Told, told_nothing, told_unless, told_lacking, told_given, told_behind, told_any, option_told, list_stands}
use Rattle.vhdl_names_laws.proofs.placed.Expressions.{meaning_told, no_attribute_told, typed_suffix_told, static_range_told, condition_told, value_assigned_told}
use Rattle.vhdl_names_laws.proofs.placed.Choices.{ChoicesStand, choices_told, selected_by_told, covered_told, any_alternative_told}

-- ---- names of signals and variables

pub named_told : (P : ℕ → Type 0) (sight : Sight) (n : t.Name) → Stand P (spell_name n) → Told P (broken.named sight n)
named_told P sight n h =
    told_behind (meaning_told P sight n.identifier h.0)
    (told_behind (typed_suffix_told n.suffix P sight (first P (spell_suffix n.suffix) (spell_option spell_attribute n.attribute) h.1))
    (no_attribute_told P n.attribute (behind P (spell_suffix n.suffix) (spell_option spell_attribute n.attribute) h.1)))

object_told : {A : Type 0} (P : ℕ → Type 0) (problem : Meaning → NameProblem) (f : Declared → Suffix → Option A) (sight : Sight) (n : t.Name) → Stand P (spell_name n)
    → Told P (broken.named sight n ▸ where_given (declaration sight n.identifier.text) (λ d. where_given (typed_suffix sight n.suffix) (λ s. lacking (problem d.meaning) n.identifier.at (f d s))))
object_told P problem f sight n h =
    told_behind (named_told P sight n h)
    (told_given (declaration sight n.identifier.text) (λ d. where_given (typed_suffix sight n.suffix) (λ s. lacking (problem d.meaning) n.identifier.at (f d s)))
    (λ d. told_given (typed_suffix sight n.suffix) (λ s. lacking (problem d.meaning) n.identifier.at (f d s)) (λ s. told_lacking (problem d.meaning) n.identifier.at (f d s) h.0)))

pub signal_told : (P : ℕ → Type 0) (sight : Sight) (n : t.Name) → Stand P (spell_name n) → Told P (broken.signal sight n)
signal_told P sight n h = object_told P signal_problem (as_signal n.identifier.at) sight n h

pub target_told : (P : ℕ → Type 0) (sight : Sight) (n : t.Name) → Stand P (spell_name n) → Told P (broken.target sight n)
target_told P sight n h =
    told_behind (named_told P sight n h)
    (told_given (declaration sight n.identifier.text) (λ d. where_given (typed_suffix sight n.suffix) (broken.target_by_declaration n.identifier.at d))
    (λ d. told_given (typed_suffix sight n.suffix) (broken.target_by_declaration n.identifier.at d)
    (λ s. told_behind (told_lacking (signal_problem d.meaning) n.identifier.at (as_signal_target n.identifier.at d s) h.0) (told_unless WriteOfIn n.identifier.at (not (is_input (mode_of d.meaning))) h.0))))

variable_told : (P : ℕ → Type 0) (sight : Sight) (n : t.Name) → Stand P (spell_name n) → Told P (broken.variable sight n)
variable_told P sight n h = object_told P variable_problem (as_variable_target n.identifier.at) sight n h

-- ---- statements

pub end_label_told : (P : ℕ → Type 0) (label end : Option Ident) → Stand P (spell_option spell_ident end) → Told P (broken.end_label label end)
end_label_told P label end h =
    option_told P spell_ident (λ e. unless WrongKind e.at (label_ends label end)) (λ e g. told_unless WrongKind e.at (label_ends label end) g.0) end h

pub end_told : (P : ℕ → Type 0) (word : TokenKind) (label end : Option Ident) → Stand P (spell_end word end) → Told P (broken.end_label label end)
end_told P word label end h = end_label_told P label end (first P (spell_option spell_ident end) _ h.1.1)

given_told : (P : ℕ → Type 0) (sight : Sight) (x : Option Target) (v : t.Value) → Stand P (spell_value v) → Told P (broken.given sight x v)
given_told P sight x v h = told_given x (λ x. expressions.value_assigned sight x.type x.range v) (λ x. value_assigned_told P sight x.type x.range v h)

target_by_told : (P : ℕ → Type 0) (sight : Sight) (is_variable : Bool) (n : t.Name) → Stand P (spell_name n) → Told P (broken.target_by sight is_variable n)
target_by_told P sight false n h = target_told P sight n h
target_by_told P sight true n h = variable_told P sight n h

pub assigned_told : (P : ℕ → Type 0) (sight : Sight) (n : t.Name) (v : t.Value) → Stand P (spell_name n) → Stand P (spell_value v) → Told P (broken.assigned sight n v)
assigned_told P sight n v h g = told_behind (target_told P sight n h) (given_told P sight (are.signal_target sight n) v g)

variable_assigned_told : (P : ℕ → Type 0) (sight : Sight) (n : t.Name) (v : t.Value) → Stand P (spell_name n) → Stand P (spell_value v) → Told P (broken.variable_assigned sight n v)
variable_assigned_told P sight n v h g = told_behind (variable_told P sight n h) (given_told P sight (are.variable_target sight n) v g)

-- ---- values with conditions

-- the branches and the last value
record BranchesStand (P : ℕ → Type 0) (bs : List t.Branch) (o : Option t.Value) : Type 0 where
  branches : EachStands P spell_branch bs
  last : Stand P (spell_option spell_value o)

otherwise_stand : (P : ℕ → Type 0) (bs : List t.Branch) (o : Option t.Value) → Stand P (spell_otherwise bs o) → BranchesStand P bs o
otherwise_stand P [] None h = record { branches = tt; last = tt }
otherwise_stand P [] (Some v) h = record { branches = tt; last = h.1 }
otherwise_stand P (b ∷ more) o h =
    let rest = otherwise_stand P more o (behind P (spell_branch b) (spell_otherwise more o) h.1) in
    record { branches = (first P (spell_branch b) (spell_otherwise more o) h.1, rest.branches); last = rest.last }

waveforms_stand : (P : ℕ → Type 0) (bs : List t.Branch) (o : Option t.Value) → Stand P (spell_waveforms bs o) → BranchesStand P bs o
waveforms_stand P [] None h = record { branches = tt; last = tt }
waveforms_stand P [] (Some v) h = record { branches = tt; last = h }
waveforms_stand P (b ∷ more) o h =
    let rest = otherwise_stand P more o (behind P (spell_branch b) (spell_otherwise more o) h) in
    record { branches = (first P (spell_branch b) (spell_otherwise more o) h, rest.branches); last = rest.last }

pub conditional_told : (P : ℕ → Type 0) (sight : Sight) (is_variable : Bool) (n : t.Name) (bs : List t.Branch) (o : Option t.Value) → Stand P (spell_name n) → Stand P (spell_waveforms bs o)
    → Told P (broken.conditional sight is_variable n bs o)
conditional_told P sight is_variable n bs o h g =
    let x = are.target_by sight is_variable n in
    let values = waveforms_stand P bs o g in
    told_behind (target_by_told P sight is_variable n h)
    (told_behind (told_any (λ b. Stand P (spell_branch b)) (broken.branch sight x)
    (λ b k. told_behind (given_told P sight x b.value (first P (spell_value b.value) _ k)) (condition_told P sight b.condition (behind P (spell_value b.value) _ k).1)) bs values.branches)
    (option_told P spell_value (broken.given sight x) (λ v k. given_told P sight x v k) o values.last))

-- ---- statements

pub by_selector_told : (P : ℕ → Type 0) (sight : Sight) (e : Expr) (b : ObjectType → Broken) → Stand P (spell e) → ((type : ObjectType) → Told P (b type))
    → Told P (broken.by_selector sight e b)
by_selector_told P sight e b h one =
    told_behind (selected_by_told P sight e h)
    (told_given (typed sight e) (λ x. where_given (selector sight.language x) (λ by. b by.0)) (λ x. told_given (selector sight.language x) (λ by. b by.0) (λ by. one by.0)))

pub lists_stand : (P : ℕ → Type 0) (alts : t.Alternatives) → Stand P (spell_alternatives alts) → AllByRecursion (ChoicesStand P) (choice_lists alts)
lists_stand P t.no_alternatives h = tt
lists_stand P (t.alternative cs body more) h = (
  list_stands P k.Bar spell_choice cs (first P (spell_choices cs) _ (first P (spell_choices cs ++ (_ ∷ spell_statements body)) (spell_alternatives more) h.1)),
  lists_stand P more (behind P (spell_choices cs ++ (_ ∷ spell_statements body)) (spell_alternatives more) h.1),
)

mutual
  unfolding broken.statement

  pub statement_told : (x : t.Statement) (P : ℕ → Type 0) (sight : Sight) (label : Option Ident) → Stand P (spell_statement x) → Told P (broken.statement sight label x)
  statement_told (t.null_of at) P sight label h = told_nothing
  statement_told (t.assigned n v) P sight label h =
      assigned_told P sight n v (first P (spell_name n) _ h) (first P (spell_value v) _ (behind P (spell_name n) _ h).1)
  statement_told (t.variable_assigned n v) P sight label h =
      variable_assigned_told P sight n v (first P (spell_name n) _ h) (first P (spell_value v) _ (behind P (spell_name n) _ h).1)
  statement_told (t.assigned_when b n bs o) P sight label h =
      conditional_told P sight b n bs o (first P (spell_name n) _ h) (first P (spell_waveforms bs o) _ (behind P (spell_name n) _ h).1)
  statement_told (t.asserted text) P sight label h = told_nothing
  statement_told (t.reported text) P sight label h = told_nothing
  statement_told (t.if_of at bs o end) P sight label h =
      let g = behind P (spell_conditionals bs) _ h.1 in
      told_behind (conditionals_told bs P sight (first P (spell_conditionals bs) _ h.1))
      (told_behind (otherwise_told o P sight (first P (spell_else o) _ g)) (end_told P k.If label end (behind P (spell_else o) _ g)))
  statement_told (t.case_of at e alts end) P sight label h =
      let g = (behind P (spell e) _ h.1).1 in
      let all = first P (spell_alternatives alts) _ g in
      told_behind (by_selector_told P sight e (λ type. covered sight type at (choice_lists alts) (broken.alternatives sight type alts)) (first P (spell e) _ h.1)
      (λ type. covered_told P sight type at (choice_lists alts) (broken.alternatives sight type alts) h.0 (lists_stand P alts all) (alternatives_told alts P sight type all)))
      (told_behind (end_told P k.Case label end (behind P (spell_alternatives alts) _ g)) (any_alternative_told P at (choice_lists alts) h.0))
  statement_told (t.for_of at n r body end) P sight label h =
      let g = (behind P (spell_discrete_range r) _ h.1.1.1).1 in
      told_behind (static_range_told P sight r (first P (spell_discrete_range r) _ h.1.1.1))
      (told_behind (statements_told body P (within_loop sight n) (first P (spell_statements body) _ g)) (end_told P k.Loop label end (behind P (spell_statements body) _ g)))

  pub statements_told : (xs : t.Statements) (P : ℕ → Type 0) (sight : Sight) → Stand P (spell_statements xs) → Told P (broken.statements sight xs)
  statements_told t.done P sight h = told_nothing
  statements_told (t.step label x xs) P sight h =
      let g = first P (spell_option spell_label label ++ spell_statement x) (spell_statements xs) h in
      told_behind (statement_told x P sight label (behind P (spell_option spell_label label) (spell_statement x) g))
      (statements_told xs P sight (behind P (spell_option spell_label label ++ spell_statement x) (spell_statements xs) h))

  conditionals_told : (bs : t.Conditionals) (P : ℕ → Type 0) (sight : Sight) → Stand P (spell_conditionals bs) → Told P (broken.conditionals sight bs)
  conditionals_told t.no_conditionals P sight h = told_nothing
  conditionals_told (t.guarded e body bs) P sight h =
      let g = first P (spell e ++ (_ ∷ spell_statements body)) (spell_elsifs bs) h in
      told_behind (condition_told P sight e (first P (spell e) _ g))
      (told_behind (statements_told body P sight (behind P (spell e) _ g).1) (elsifs_told bs P sight (behind P (spell e ++ (_ ∷ spell_statements body)) (spell_elsifs bs) h)))

  elsifs_told : (bs : t.Conditionals) (P : ℕ → Type 0) (sight : Sight) → Stand P (spell_elsifs bs) → Told P (broken.conditionals sight bs)
  elsifs_told t.no_conditionals P sight h = told_nothing
  elsifs_told (t.guarded e body bs) P sight h =
      let g = first P (spell e ++ (_ ∷ spell_statements body)) (spell_elsifs bs) h.1 in
      told_behind (condition_told P sight e (first P (spell e) _ g))
      (told_behind (statements_told body P sight (behind P (spell e) _ g).1) (elsifs_told bs P sight (behind P (spell e ++ (_ ∷ spell_statements body)) (spell_elsifs bs) h.1)))

  otherwise_told : (o : t.Otherwise) (P : ℕ → Type 0) (sight : Sight) → Stand P (spell_else o) → Told P (broken.otherwise sight o)
  otherwise_told t.no_else P sight h = told_nothing
  otherwise_told (t.else_do body) P sight h = statements_told body P sight h.1

  alternatives_told : (alts : t.Alternatives) (P : ℕ → Type 0) (sight : Sight) (type : ObjectType) → Stand P (spell_alternatives alts) → Told P (broken.alternatives sight type alts)
  alternatives_told t.no_alternatives P sight type h = told_nothing
  alternatives_told (t.alternative cs body more) P sight type h =
      let g = first P (spell_choices cs ++ (_ ∷ spell_statements body)) (spell_alternatives more) h.1 in
      told_behind (choices_told P sight type cs (list_stands P k.Bar spell_choice cs (first P (spell_choices cs) _ g)))
      (told_behind (statements_told body P sight (behind P (spell_choices cs) _ g).1)
      (alternatives_told more P sight type (behind P (spell_choices cs ++ (_ ∷ spell_statements body)) (spell_alternatives more) h.1)))
