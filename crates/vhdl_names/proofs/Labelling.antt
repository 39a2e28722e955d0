-- Labels inside a process, one after another.
use Rattle.std.proofs.Common.{◌≡◌, Bool, true, false, List, [], ◌∷◌, ◌++◌, Option, Some, None, refl, ap, sym, ◌∙◌}
use Rattle.std.proofs.lemmas.List.{append_assoc}
use Rattle.vhdl_tree.specs.Tree as t
use Rattle.vhdl_tree.specs.View as tree
use Rattle.vhdl_tree.specs.declared.sequential.If.{If, out-If}
use Rattle.vhdl_tree.specs.declared.sequential.For.{For, out-For}
use Rattle.vhdl_tree.specs.declared.sequential.Case.{Case, out-Case}
use Rattle.vhdl_names_rules.specs.Rules.{◌>>=◌, met, then_some}
use Rattle.vhdl_names_rules.specs.Visibility.{Name, are_distinct}
use Rattle.vhdl_names_rules.specs.Statements.{label_names, inner_labels, statement_labels, conditional_labels, otherwise_labels, alternative_labels}
use Rattle.vhdl_names_units.specs.Lists.{in_turn}
use Rattle.vhdl_names_units.specs.Once.{one_name}
use Rattle.vhdl_names_statements.proofs.steps.Cases.{case_is}
use Rattle.vhdl_names_statements.proofs.steps.Choosing.{turned-append}
use Rattle.vhdl_names_units.proofs.Lists.{bound}
use Rattle.vhdl_names_units.proofs.Once.{once}
use Rattle.vhdl_names_statements.proofs.steps.Sequential.{if_is, for_is}
use Rattle.vhdl_names.specs.steps.Labels.{with_statement, with_statements, with_branch, with_alternative, with_else, with_if}

pub label_first : (ns : List Name) (q : t.Sequential)
    → with_statement ns q ≡ (in_turn one_name ns (label_names q.label) >>= λ ms. in_turn one_name ms (inner_labels q.statement))
label_first ns q = turned-append ns (label_names q.label) (inner_labels q.statement)

-- ---- lists of statements

pub each_statement : (ns : List Name) (qs : List t.Sequential) → in_turn one_name ns (statement_labels (t.statements_of qs)) ≡ with_statements ns qs
each_statement ns [] = refl
each_statement ns (q ∷ qs) =
    ap (in_turn one_name ns) (sym (append_assoc (label_names q.label) (inner_labels q.statement) (statement_labels (t.statements_of qs))))
    ∙ turned-append ns (label_names q.label ++ inner_labels q.statement) (statement_labels (t.statements_of qs))
    ∙ bound (with_statement ns q) _ _ (λ ms. each_statement ms qs)

pub each_branch : (ns : List Name) (bs : List t.Conditional) → in_turn one_name ns (conditional_labels (t.conditionals_of bs)) ≡ in_turn with_branch ns bs
each_branch ns [] = refl
each_branch ns (b ∷ bs) =
    turned-append ns (statement_labels (t.statements_of b.statements)) (conditional_labels (t.conditionals_of bs))
    ∙ ap (λ o. o >>= λ ms. in_turn one_name ms (conditional_labels (t.conditionals_of bs))) (each_statement ns b.statements)
    ∙ bound (with_branch ns b) _ _ (λ ms. each_branch ms bs)

pub each_alternative : (ns : List Name) (as' : List t.Alternative) → in_turn one_name ns (alternative_labels (t.alternatives_of as')) ≡ in_turn with_alternative ns as'
each_alternative ns [] = refl
each_alternative ns (a ∷ as') =
    turned-append ns (statement_labels (t.statements_of a.statements)) (alternative_labels (t.alternatives_of as'))
    ∙ ap (λ o. o >>= λ ms. in_turn one_name ms (alternative_labels (t.alternatives_of as'))) (each_statement ns a.statements)
    ∙ bound (with_alternative ns a) _ _ (λ ms. each_alternative ms as')

pub each_else : (ns : List Name) (o : Option (List t.Sequential)) → in_turn one_name ns (otherwise_labels (t.otherwise_of o)) ≡ with_else ns o
each_else ns None = refl
each_else ns (Some qs) = each_statement ns qs

-- ---- statements with statements in them

abbrev inner : List Name → t.Statement → Option (List Name)
inner ns s = in_turn one_name ns (inner_labels s)

pub if_labels : (ns : List Name) (i : If) → inner ns (tree.if_view i)
    ≡ with_if ns (tree.conditionals_view (out-If i).branches) (tree.option_sequentials_view (out-If i).otherwise)
if_labels ns i =
    let bs = tree.conditionals_view (out-If i).branches in
    let o = tree.option_sequentials_view (out-If i).otherwise in
    ap (inner ns) (if_is i)
    ∙ turned-append ns (conditional_labels (t.conditionals_of bs)) (otherwise_labels (t.otherwise_of o))
    ∙ ap (λ r. r >>= λ ms. in_turn one_name ms (otherwise_labels (t.otherwise_of o))) (each_branch ns bs)
    ∙ bound (in_turn with_branch ns bs) _ _ (λ ms. each_else ms o)

pub case_labels : (ns : List Name) (c : Case) → inner ns (tree.case_view c) ≡ in_turn with_alternative ns (tree.alternatives_view (out-Case c).alternatives)
case_labels ns c = ap (inner ns) (case_is c) ∙ each_alternative ns (tree.alternatives_view (out-Case c).alternatives)

pub loop_labels : (ns : List Name) (f : For) → inner ns (tree.for_view f) ≡ with_statements ns (tree.sequentials_view (out-For f).statements)
loop_labels ns f = ap (inner ns) (for_is f) ∙ each_statement ns (tree.sequentials_view (out-For f).statements)

-- ---- the whole

pub labels_once : (qs : List t.Sequential) → met (are_distinct (statement_labels (t.statements_of qs))) ≡ (with_statements [] qs >>= λ ns. Some tt)
labels_once qs =
    go (are_distinct (statement_labels (t.statements_of qs)))
    ∙ ap (λ o. o >>= λ ns. Some tt) (sym (once (statement_labels (t.statements_of qs))) ∙ each_statement [] qs)
  where
    go : (b : Bool) → met b ≡ (then_some b (statement_labels (t.statements_of qs)) >>= λ ns. Some tt)
    go true = refl
    go false = refl
