-- The labels of statements stand among their pieces.
use Rattle.std.proofs.Common.{ℕ, List, ◌∷◌, ◌++◌, Option, Some, None}
use Rattle.vhdl_tree.specs.Tree as t
use Rattle.vhdl_tree.specs.Tree.{Ident}
use Rattle.vhdl_tree.specs.Pieces.{spell_ident, spell_option}
use Rattle.vhdl_tree.specs.grammar.Expressions.{spell, spell_discrete_range, spell_choices}
use Rattle.vhdl_tree.specs.grammar.Sequential.{spell_label, spell_statement, spell_statements, spell_conditionals, spell_elsifs, spell_else, spell_alternatives}
use Rattle.vhdl_tree.specs.grammar.Concurrent.{spell_concurrent, spell_concurrents}
use Rattle.vhdl_names_rules.specs.problems.Labels.{label_if_any, label_of, labels_of, inner_labels, statement_labels, conditional_labels, otherwise_labels, alternative_labels}
use Rattle.vhdl_names_laws.proofs.placed.Told.{Stand, NamesStand, first, behind, all_of_both}

label_stands : (P : ℕ → Type 0) (label : Option Ident) → Stand P (spell_option spell_label label) → NamesStand P (label_if_any label)
label_stands P None h = tt
label_stands P (Some l) h = ((h.0, tt), tt)

-- ---- directly among concurrent statements

label_of_stands : (P : ℕ → Type 0) (c : t.Concurrent) → Stand P (spell_concurrent c) → NamesStand P (label_of c)
label_of_stands P (t.assignment a) h = label_stands P a.label (first P (spell_option spell_label a.label) _ h)
label_of_stands P (t.selected label a) h = label_stands P label (first P (spell_option spell_label label) _ h)
label_of_stands P (t.process label p) h = label_stands P label (first P (spell_option spell_label label) _ h)
label_of_stands P (t.assertion a) h = label_stands P a.label (first P (spell_option spell_label a.label) _ h)
label_of_stands _ _ h = ((h.0, tt), tt)

pub labels_stand : (P : ℕ → Type 0) (cs : t.Concurrents) → Stand P (spell_concurrents cs) → NamesStand P (labels_of cs)
labels_stand P t.no_concurrents h = tt
labels_stand P (t.concurrent c cs) h =
    all_of_both (λ i. Stand P (spell_ident i)) (label_of c) (labels_of cs) (label_of_stands P c (first P (spell_concurrent c) (spell_concurrents cs) h))
    (labels_stand P cs (behind P (spell_concurrent c) (spell_concurrents cs) h))

-- ---- inside a process

both : (P : ℕ → Type 0) (is js : List Ident) → NamesStand P is → NamesStand P js → NamesStand P (is ++ js)
both P is js h g = all_of_both (λ i. Stand P (spell_ident i)) is js h g

mutual
  inner_stand : (x : t.Statement) (P : ℕ → Type 0) → Stand P (spell_statement x) → NamesStand P (inner_labels x)
  inner_stand (t.if_of at bs o end) P h =
      both P (conditional_labels bs) (otherwise_labels o) (conditional_stand bs P (first P (spell_conditionals bs) _ h.1))
      (otherwise_stand o P (first P (spell_else o) _ (behind P (spell_conditionals bs) _ h.1)))
  inner_stand (t.case_of at e alts end) P h = alternatives_stand alts P (first P (spell_alternatives alts) _ (behind P (spell e) _ h.1).1)
  inner_stand (t.for_of at n r body end) P h = statements_stand body P (first P (spell_statements body) _ (behind P (spell_discrete_range r) _ h.1.1.1).1)
  inner_stand _ _ h = tt

  pub statements_stand : (xs : t.Statements) (P : ℕ → Type 0) → Stand P (spell_statements xs) → NamesStand P (statement_labels xs)
  statements_stand t.done P h = tt
  statements_stand (t.step label x xs) P h =
      let g = first P (spell_option spell_label label ++ spell_statement x) (spell_statements xs) h in
      both P (label_if_any label) (inner_labels x ++ statement_labels xs) (label_stands P label (first P (spell_option spell_label label) (spell_statement x) g))
      (both P (inner_labels x) (statement_labels xs) (inner_stand x P (behind P (spell_option spell_label label) (spell_statement x) g))
      (statements_stand xs P (behind P (spell_option spell_label label ++ spell_statement x) (spell_statements xs) h)))

  conditional_stand : (bs : t.Conditionals) (P : ℕ → Type 0) → Stand P (spell_conditionals bs) → NamesStand P (conditional_labels bs)
  conditional_stand t.no_conditionals P h = tt
  conditional_stand (t.guarded e body bs) P h =
      let g = first P (spell e ++ (_ ∷ spell_statements body)) (spell_elsifs bs) h in
      both P (statement_labels body) (conditional_labels bs) (statements_stand body P (behind P (spell e) _ g).1)
      (elsifs_stand bs P (behind P (spell e ++ (_ ∷ spell_statements body)) (spell_elsifs bs) h))

  elsifs_stand : (bs : t.Conditionals) (P : ℕ → Type 0) → Stand P (spell_elsifs bs) → NamesStand P (conditional_labels bs)
  elsifs_stand t.no_conditionals P h = tt
  elsifs_stand (t.guarded e body bs) P h =
      let g = first P (spell e ++ (_ ∷ spell_statements body)) (spell_elsifs bs) h.1 in
      both P (statement_labels body) (conditional_labels bs) (statements_stand body P (behind P (spell e) _ g).1)
      (elsifs_stand bs P (behind P (spell e ++ (_ ∷ spell_statements body)) (spell_elsifs bs) h.1))

  otherwise_stand : (o : t.Otherwise) (P : ℕ → Type 0) → Stand P (spell_else o) → NamesStand P (otherwise_labels o)
  otherwise_stand t.no_else P h = tt
  otherwise_stand (t.else_do body) P h = statements_stand body P h.1

  alternatives_stand : (alts : t.Alternatives) (P : ℕ → Type 0) → Stand P (spell_alternatives alts) → NamesStand P (alternative_labels alts)
  alternatives_stand t.no_alternatives P h = tt
  alternatives_stand (t.alternative cs body more) P h =
      let g = first P (spell_choices cs ++ (_ ∷ spell_statements body)) (spell_alternatives more) h.1 in
      both P (statement_labels body) (alternative_labels more) (statements_stand body P (behind P (spell_choices cs) _ g).1)
      (alternatives_stand more P (behind P (spell_choices cs ++ (_ ∷ spell_statements body)) (spell_alternatives more) h.1))
