-- The labels of statements are those of the rules.
use Rattle.std.proofs.Common.{◌≡◌, List, ◌++◌, Option, Some, None, refl, ap, ◌∙◌}
use Rattle.std.proofs.lemmas.List.{map-append}
use Rattle.vhdl_tree.specs.Tree as t
use Rattle.vhdl_tree.specs.Tree.{Ident}
use Rattle.vhdl_names_rules.specs.Visibility.{Name, name_of, names_of}
use Rattle.vhdl_names_rules.specs.Statements as are
use Rattle.vhdl_names_rules.specs.Concurrent.{concurrent_label, concurrent_labels}
use Rattle.vhdl_names_rules.specs.problems.Labels.{label_if_any, label_of, labels_of, inner_labels, statement_labels, conditional_labels, otherwise_labels, alternative_labels}

-- the names of two lists of labels one behind the other
both_named : (xs ys : List Ident) (ns ms : List Name) → names_of xs ≡ ns → names_of ys ≡ ms → names_of (xs ++ ys) ≡ ns ++ ms
both_named xs ys ns ms e f = map-append name_of xs ys ∙ ap (λ ns. ns ++ names_of ys) e ∙ ap (λ ms. ns ++ ms) f

label_named : (o : Option Ident) → names_of (label_if_any o) ≡ are.label_names o
label_named None = refl
label_named (Some l) = refl

concurrent_named : (c : t.Concurrent) → names_of (label_of c) ≡ concurrent_label c
concurrent_named (t.assignment a) = label_named a.label
concurrent_named (t.selected label a) = label_named label
concurrent_named (t.process label p) = label_named label
concurrent_named (t.assertion a) = label_named a.label
concurrent_named _ = refl

pub labels_named : (cs : t.Concurrents) → names_of (labels_of cs) ≡ concurrent_labels cs
labels_named t.no_concurrents = refl
labels_named (t.concurrent c cs) = both_named (label_of c) (labels_of cs) (concurrent_label c) (concurrent_labels cs) (concurrent_named c) (labels_named cs)

mutual
  inner_named : (s : t.Statement) → names_of (inner_labels s) ≡ are.inner_labels s
  inner_named (t.if_of at bs o end) =
      both_named (conditional_labels bs) (otherwise_labels o) (are.conditional_labels bs) (are.otherwise_labels o) (conditionals_named bs) (otherwise_named o)
  inner_named (t.case_of at e alts end) = alternatives_named alts
  inner_named (t.for_of at n r body end) = statements_named body
  inner_named _ = refl

  pub statements_named : (xs : t.Statements) → names_of (statement_labels xs) ≡ are.statement_labels xs
  statements_named t.done = refl
  statements_named (t.step label x xs) =
      both_named (label_if_any label) (inner_labels x ++ statement_labels xs) (are.label_names label) (are.inner_labels x ++ are.statement_labels xs) (label_named label)
      (both_named (inner_labels x) (statement_labels xs) (are.inner_labels x) (are.statement_labels xs) (inner_named x) (statements_named xs))

  conditionals_named : (bs : t.Conditionals) → names_of (conditional_labels bs) ≡ are.conditional_labels bs
  conditionals_named t.no_conditionals = refl
  conditionals_named (t.guarded e body bs) =
      both_named (statement_labels body) (conditional_labels bs) (are.statement_labels body) (are.conditional_labels bs) (statements_named body) (conditionals_named bs)

  otherwise_named : (o : t.Otherwise) → names_of (otherwise_labels o) ≡ are.otherwise_labels o
  otherwise_named t.no_else = refl
  otherwise_named (t.else_do body) = statements_named body

  alternatives_named : (alts : t.Alternatives) → names_of (alternative_labels alts) ≡ are.alternative_labels alts
  alternatives_named t.no_alternatives = refl
  alternatives_named (t.alternative cs body more) =
      both_named (statement_labels body) (alternative_labels more) (are.statement_labels body) (are.alternative_labels more) (statements_named body) (alternatives_named more)
