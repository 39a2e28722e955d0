-- The statements in a `Vec`, as contracts see them.
use Rattle.std.proofs.Common.{◌≡◌, ℕ, map, Vec, Option, Some, None, Global, refl, sym, ap, ◌∙◌}
use mathlib.Core.Former.{Count}
use Rattle.vhdl_names_trees.specs.declared.integer.StaticRange.{StaticRange}
use Rattle.vhdl_names_trees.specs.declared.vector.Value.{Value}
use Rattle.vhdl_names_rules.specs.units.Statements as s
use Rattle.vhdl_names_trees.specs.views.Integers.{range_view}
use Rattle.vhdl_names_trees.specs.views.Vectors.{value_view}
use Rattle.vhdl_names_trees.specs.views.Tests.{test_view}
use Rattle.vhdl_names_units.specs.views.Answers.{choices_view}
use Rattle.vhdl_names_units.specs.declared.answers.Choice.{Choice}
use Rattle.vhdl_names_units.specs.declared.sequential.Statement.{Statement}
use Rattle.vhdl_names_units.specs.declared.sequential.Statement.TheVariants as t
use Rattle.vhdl_names_units.specs.declared.sequential.If.{roll-If}
use Rattle.vhdl_names_units.specs.declared.sequential.Case.{roll-Case}
use Rattle.vhdl_names_units.specs.declared.sequential.Branch.{Branch}
use Rattle.vhdl_names_units.specs.declared.sequential.Alternative.{Alternative}
use Rattle.vhdl_names_units.specs.declared.sequential.Statement.TheBlock.{Row_of-Statement, end_of-Statement, more_of-Statement, items-the_row-Statement, hidden-the_row-Statement-0, items_hidden-the_row-Statement-0, items_shown-the_row-Statement-0, Row_of-Branch, end_of-Branch, more_of-Branch, items-the_row-Branch, hidden-the_row-Branch-2, items_hidden-the_row-Branch-2, Row_of-Alternative, end_of-Alternative, more_of-Alternative, items-the_row-Alternative, hidden-the_row-Alternative-1, items_hidden-the_row-Alternative-1}
use Rattle.vhdl_names_units.specs.views.Sequential.{last_alternative, statement_view, statements_row, branches_row, alternatives_row, statements_of, statements_view, option_statements_view, branches_of, last_of, branch_view, branches_view, alternatives_of, alternative_view, alternatives_view}

statements_rows : (n : Count) (row : Row_of-Statement n) → statements_row row ≡ statements_of (map statement_view (items-the_row-Statement n row))
statements_rows n end_of-Statement = refl
statements_rows n (more_of-Statement x rest) = ap (s.step (statement_view x)) (statements_rows _ rest)

statements_hidden : (v : Vec Statement Global) → statements_row (hidden-the_row-Statement-0 v) ≡ statements_of (statements_view v)
statements_hidden v = statements_rows _ (hidden-the_row-Statement-0 v) ∙ ap (λ xs. statements_of (map statement_view xs)) (items_hidden-the_row-Statement-0 v)

both : {A B C : Type 0} (f : A → B → C) (a a' : A) (b b' : B) → a ≡ a' → b ≡ b' → f a b ≡ f a' b'
both f a a' b b' p q = ap (λ x. f x b) p ∙ ap (f a') q

branches_rows : (n : Count) (row : Row_of-Branch n) (last : s.Branches) → branches_row row last ≡ branches_of (map branch_view (items-the_row-Branch n row)) last
branches_rows n end_of-Branch last = refl
branches_rows n (more_of-Branch condition shape statements rest) last =
    both (s.branch (test_view condition)) _ _ _ _
    (statements_rows _ statements ∙ sym (ap (λ xs. statements_of (map statement_view xs)) (items_shown-the_row-Statement-0 shape statements)))
    (branches_rows _ rest last)

branches_hidden : (v : Vec Branch Global) (last : s.Branches) → branches_row (hidden-the_row-Branch-2 v) last ≡ branches_of (branches_view v) last
branches_hidden v last = branches_rows _ (hidden-the_row-Branch-2 v) last ∙ ap (λ bs. branches_of (map branch_view bs) last) (items_hidden-the_row-Branch-2 v)

alternatives_rows : (n : Count) (row : Row_of-Alternative n) (last : s.Alternatives) →
    alternatives_row row last ≡ alternatives_of (map alternative_view (items-the_row-Alternative n row)) last
alternatives_rows n end_of-Alternative last = refl
alternatives_rows n (more_of-Alternative choices shape statements rest) last =
    both (s.alternative (choices_view choices)) _ _ _ _
    (statements_rows _ statements ∙ sym (ap (λ xs. statements_of (map statement_view xs)) (items_shown-the_row-Statement-0 shape statements)))
    (alternatives_rows _ rest last)

alternatives_hidden : (v : Vec Alternative Global) (last : s.Alternatives) → alternatives_row (hidden-the_row-Alternative-1 v) last ≡ alternatives_of (alternatives_view v) last
alternatives_hidden v last = alternatives_rows _ (hidden-the_row-Alternative-1 v) last ∙ ap (λ xs. alternatives_of (map alternative_view xs) last) (items_hidden-the_row-Alternative-1 v)

pub view_loop : (at : ℕ) (range : StaticRange) (statements : Vec Statement Global) →
    statement_view (t.Loop (record { at = at; range = range; statements = statements })) ≡ s.for_of at (range_view range) (statements_of (statements_view statements))
view_loop at range statements = ap (s.for_of at (range_view range)) (statements_hidden statements)

pub view_if : (at : ℕ) (branches : Vec Branch Global) (otherwise : Option (Vec Statement Global)) →
    statement_view (t.If (roll-If (record { at = at; branches = branches; otherwise = otherwise })))
    ≡ s.if_of at (branches_of (branches_view branches) (last_of (option_statements_view otherwise)))
unfolding roll-If denote.Hole.Carrier.roll
view_if at branches None = ap (s.if_of at) (branches_hidden branches s.no_else)
view_if at branches (Some xs) =
    ap (s.if_of at) (branches_hidden branches (s.otherwise (statements_row (hidden-the_row-Statement-0 xs))))
    ∙ ap (λ ys. s.if_of at (branches_of (branches_view branches) (s.otherwise ys))) (statements_hidden xs)

pub view_case : (at : ℕ) (selector : Value) (alternatives : Vec Alternative Global) (last : Vec Choice Global) (others : Vec Statement Global) →
    statement_view (t.Case (roll-Case (record { at = at; selector = selector; alternatives = alternatives; last = last; others = others })))
    ≡ s.case_of at (value_view selector) (alternatives_of (alternatives_view alternatives) (last_alternative (choices_view last) (statements_of (statements_view others))))
unfolding roll-Case denote.Hole.Carrier.roll
view_case at selector alternatives last others =
    ap (s.case_of at (value_view selector)) (alternatives_hidden alternatives (last_alternative (choices_view last) (statements_row (hidden-the_row-Statement-0 others))))
    ∙ ap (λ ys. s.case_of at (value_view selector) (alternatives_of (alternatives_view alternatives) (last_alternative (choices_view last) ys))) (statements_hidden others)
