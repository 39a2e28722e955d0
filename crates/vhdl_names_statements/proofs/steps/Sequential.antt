-- The rules of sequential statements, in the order in which the code comes to their parts.
use Rattle.std.proofs.Common.{◌≡◌, ℕ, Bool, true, false, List, [], ◌∷◌, Option, Some, None, refl, ap, sym, ◌∙◌}
use Rattle.std.specs.Prelude.{if◌then◌else◌, option_map}
use Rattle.vhdl_tree.specs.Tree as t
use Rattle.vhdl_tree.specs.Tree.{Ident}
use Rattle.vhdl_tree.specs.View as tree
use Rattle.vhdl_tree.specs.declared.sequential.If.{If, out-If, roll-out-If}
use Rattle.vhdl_tree.specs.declared.sequential.For.{For, out-For, roll-out-For}
use Rattle.vhdl_tree.proofs.RowsStatements.{view_if, view_for}
use Rattle.vhdl_names_rules.specs.units.Expressions.{Range, Test}
use Rattle.vhdl_names_rules.specs.units.Statements as s
use Rattle.vhdl_names_rules.specs.Rules.{◌>>=◌, ◌>>◌, met, each, if_any}
use Rattle.vhdl_names_rules.specs.Visibility.{Sight, Declared, label_ends, within_loop}
use Rattle.vhdl_names_rules.specs.Expressions.{static_range, condition}
use Rattle.vhdl_names_rules.specs.Statements.{statement, statements, conditionals, otherwise, before}
use Rattle.vhdl_names_units.specs.views.Sequential.{Guarded, guarded_by, statements_of, branches_of, last_of}
use Rattle.vhdl_names_statements.specs.steps.Sequential as steps
use Rattle.vhdl_names_statements.specs.steps.Sequential.{labelled, all_labelled, guarded, is_dropped}

-- assert and report are dropped
dropped : (x : t.Statement) (y : s.Statement) (ys : List s.Statement) → before x y (statements_of ys) ≡ statements_of (if is_dropped x then ys else y ∷ ys)
dropped (t.asserted text) y ys = refl
dropped (t.reported text) y ys = refl
dropped x y ys = refl

pub statements_each : (sight : Sight) (qs : List t.Sequential) → statements sight (t.statements_of qs) ≡ option_map statements_of (all_labelled sight qs)
unfolding statements
statements_each sight [] = refl
statements_each sight (q ∷ qs) = go (labelled sight q) (statements sight (t.statements_of qs)) (all_labelled sight qs) (statements_each sight qs)
  where
    go : (o : Option s.Statement) (m : Option s.Statements) (l : Option (List s.Statement)) → m ≡ option_map statements_of l
        → (o >>= λ y. m >>= λ ys. Some (before q.statement y ys)) ≡ option_map statements_of (o >>= λ y. l >>= λ ys. Some (if is_dropped q.statement then ys else y ∷ ys))
    go None m l h = refl
    go (Some y) m None h = ap (λ m. m >>= λ ys. Some (before q.statement y ys)) h
    go (Some y) m (Some ys) h = ap (λ m. m >>= λ ys. Some (before q.statement y ys)) h ∙ ap Some (dropped q.statement y ys)

conditionals_each : (sight : Sight) (last : s.Branches) (bs : List t.Conditional)
    → conditionals sight last (t.conditionals_of bs) ≡ option_map (λ gs. branches_of gs last) (each (guarded sight) bs)
unfolding conditionals
conditionals_each sight last [] = refl
conditionals_each sight last (b ∷ bs) =
    go (condition sight b.condition) (statements sight (t.statements_of b.statements)) (all_labelled sight b.statements) (statements_each sight b.statements)
    (conditionals sight last (t.conditionals_of bs)) (each (guarded sight) bs) (conditionals_each sight last bs)
  where
    end : (c : Test) (ys : List s.Statement) (r : Option s.Branches) (k : Option (List Guarded)) → r ≡ option_map (λ gs. branches_of gs last) k
        → (r >>= λ rest. Some (s.branch c (statements_of ys) rest)) ≡ option_map (λ gs. branches_of gs last) (k >>= λ gs. Some (guarded_by c ys ∷ gs))
    end c ys r None h = ap (λ r. r >>= λ rest. Some (s.branch c (statements_of ys) rest)) h
    end c ys r (Some gs) h = ap (λ r. r >>= λ rest. Some (s.branch c (statements_of ys) rest)) h

    go : (o : Option Test) (m : Option s.Statements) (l : Option (List s.Statement)) → m ≡ option_map statements_of l
        → (r : Option s.Branches) (k : Option (List Guarded)) → r ≡ option_map (λ gs. branches_of gs last) k
        → (o >>= λ c. m >>= λ x. r >>= λ rest. Some (s.branch c x rest))
        ≡ option_map (λ gs. branches_of gs last) ((o >>= λ c. l >>= λ xs. Some (guarded_by c xs)) >>= λ g. k >>= λ gs. Some (g ∷ gs))
    go None m l h r k e = refl
    go (Some c) m None h r k e = ap (λ m. m >>= λ x. r >>= λ rest. Some (s.branch c x rest)) h
    go (Some c) m (Some ys) h r k e = ap (λ m. m >>= λ x. r >>= λ rest. Some (s.branch c x rest)) h ∙ end c ys r k e

otherwise_each : (sight : Sight) (o : Option (List t.Sequential)) → otherwise sight (t.otherwise_of o) ≡ option_map last_of (if_any (all_labelled sight) o)
unfolding otherwise
otherwise_each sight None = refl
otherwise_each sight (Some qs) = ap (option_map s.otherwise) (statements_each sight qs) ∙ go (all_labelled sight qs)
  where
    go : (l : Option (List s.Statement)) → option_map s.otherwise (option_map statements_of l) ≡ option_map last_of (l >>= λ y. Some (Some y))
    go None = refl
    go (Some ys) = refl

pub if_is : (i : If) → tree.if_view i
    ≡ t.if_of (out-If i).at (t.conditionals_of (tree.conditionals_view (out-If i).branches)) (t.otherwise_of (tree.option_sequentials_view (out-If i).otherwise))
    (tree.option_ident_view (out-If i).end_label)
if_is i = ap tree.if_view (sym (roll-out-If i)) ∙ view_if (out-If i).at (out-If i).branches (out-If i).otherwise (out-If i).end_label

pub for_is : (f : For) → tree.for_view f
    ≡ t.for_of (out-For f).at (tree.ident_view (out-For f).parameter) (tree.discrete_range_view (out-For f).range) (t.statements_of (tree.sequentials_view (out-For f).statements))
    (tree.option_ident_view (out-For f).end_label)
for_is f = ap tree.for_view (sym (roll-out-For f)) ∙ view_for (out-For f).at (out-For f).parameter (out-For f).range (out-For f).statements (out-For f).end_label

-- ---- if statements and loops, by their parts

conditional_by : (sight : Sight) (label : Option Ident) (at : ℕ) (bs : List t.Conditional) (o : Option (List t.Sequential)) (end : Option Ident)
    → statement sight label (t.if_of at (t.conditionals_of bs) (t.otherwise_of o) end) ≡ steps.conditional sight label at bs o end
unfolding statement
conditional_by sight label at bs o end =
    ap (λ x. met (label_ends label end) >> (x >>= λ last. conditionals sight last (t.conditionals_of bs) >>= λ ys. Some (s.if_of at ys))) (otherwise_each sight o)
    ∙ go (label_ends label end) (if_any (all_labelled sight) o) (each (guarded sight) bs) (λ last. conditionals sight last (t.conditionals_of bs)) (λ last. conditionals_each sight last bs)
  where
    go : (b : Bool) (x : Option (Option (List s.Statement))) (k : Option (List Guarded)) (r : s.Branches → Option s.Branches)
        → ((last : s.Branches) → r last ≡ option_map (λ gs. branches_of gs last) k)
        → (met b >> (option_map last_of x >>= λ last. r last >>= λ ys. Some (s.if_of at ys)))
        ≡ (k >>= λ gs. x >>= λ last. met b >> Some (s.if_of at (branches_of gs (last_of last))))
    go false None None r h = refl
    go false None (Some gs) r h = refl
    go false (Some last) None r h = refl
    go false (Some last) (Some gs) r h = refl
    go true None None r h = refl
    go true None (Some gs) r h = refl
    go true (Some last) None r h = ap (λ r. r >>= λ ys. Some (s.if_of at ys)) (h (last_of last))
    go true (Some last) (Some gs) r h = ap (λ r. r >>= λ ys. Some (s.if_of at ys)) (h (last_of last))

loop_by : (sight : Sight) (label : Option Ident) (at : ℕ) (n : Ident) (r : t.DiscreteRange) (qs : List t.Sequential) (end : Option Ident)
    → statement sight label (t.for_of at n r (t.statements_of qs) end) ≡ steps.repetition sight label at n r qs end
unfolding statement
loop_by sight label at n r qs end =
    ap (λ m. met (label_ends label end) >> (static_range sight r >>= λ range. m >>= λ turn. Some (s.for_of at range turn))) (statements_each (within_loop sight n) qs)
    ∙ go (label_ends label end) (static_range sight r) (all_labelled (within_loop sight n) qs)
  where
    go : (b : Bool) (x : Option Range) (l : Option (List s.Statement))
        → (met b >> (x >>= λ range. option_map statements_of l >>= λ turn. Some (s.for_of at range turn)))
        ≡ (x >>= λ range. l >>= λ turn. met b >> Some (s.for_of at range (statements_of turn)))
    go false None l = refl
    go false (Some r) None = refl
    go false (Some r) (Some ys) = refl
    go true None l = refl
    go true (Some r) None = refl
    go true (Some r) (Some ys) = refl

pub if_gives : (sight : Sight) (label : Option Ident) (i : If) → statement sight label (tree.if_view i)
    ≡ steps.conditional sight label (out-If i).at (tree.conditionals_view (out-If i).branches) (tree.option_sequentials_view (out-If i).otherwise) (tree.option_ident_view (out-If i).end_label)
if_gives sight label i =
    ap (statement sight label) (if_is i)
    ∙ conditional_by sight label _ (tree.conditionals_view (out-If i).branches) (tree.option_sequentials_view (out-If i).otherwise) (tree.option_ident_view (out-If i).end_label)

pub loop_gives : (sight : Sight) (label : Option Ident) (f : For) → statement sight label (tree.for_view f)
    ≡ steps.repetition sight label (out-For f).at (tree.ident_view (out-For f).parameter) (tree.discrete_range_view (out-For f).range) (tree.sequentials_view (out-For f).statements)
    (tree.option_ident_view (out-For f).end_label)
loop_gives sight label f =
    ap (statement sight label) (for_is f)
    ∙ loop_by sight label _ (tree.ident_view (out-For f).parameter) (tree.discrete_range_view (out-For f).range) (tree.sequentials_view (out-For f).statements) (tree.option_ident_view (out-For f).end_label)

-- the sight is as before a loop, behind it
pub left_loop : (outer : Sight) (d : Declared) (entered turned left : Sight) → Some (steps.in_loop outer d) ≡ Some entered → turned ≡ entered
    → ((o : Sight) (d : Declared) → turned ≡ steps.in_loop o d → left ≡ o) → left ≡ outer
left_loop outer d entered turned left e k h =
    let g : steps.in_loop outer d ≡ entered = cc in
    h outer d (k ∙ sym g)
