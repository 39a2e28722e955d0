-- The statements in a `Vec`, as contracts see them.
use Rattle.std.proofs.Common.{◌≡◌, ℕ, map, Vec, Option, Some, None, Global, refl, sym, ap, ◌∙◌}
use Rattle.std.specs.Prelude.{option_map}
use mathlib.Core.Former.{Count}
use Rattle.vhdl_tree.specs.declared.expression.Identifier.{Identifier}
use Rattle.vhdl_tree.specs.declared.expression.Expr.{Expr}
use Rattle.vhdl_tree.specs.declared.expression.DiscreteRange.{DiscreteRange}
use Rattle.vhdl_tree.specs.declared.expression.Choice.{Choice}
use Rattle.vhdl_tree.specs.declared.sequential.Sequential.{Sequential}
use Rattle.vhdl_tree.specs.declared.sequential.If.{roll-If}
use Rattle.vhdl_tree.specs.declared.sequential.Case.{roll-Case}
use Rattle.vhdl_tree.specs.declared.sequential.For.{roll-For}
use Rattle.vhdl_tree.specs.declared.sequential.Conditional.{Conditional, Conditional', out-Conditional, roll-Conditional, out-roll-Conditional}
use Rattle.vhdl_tree.specs.declared.sequential.Alternative.{Alternative, Alternative', out-Alternative, roll-Alternative, out-roll-Alternative}
use Rattle.vhdl_tree.specs.declared.sequential.Statement.TheBlock.{Row_of-Sequential, end_of-Sequential, more_of-Sequential, items-the_row-Sequential, hidden-the_row-Sequential-0, items_hidden-the_row-Sequential-0, items_shown-the_row-Sequential-0, Row_of-Conditional, end_of-Conditional, more_of-Conditional, items-the_row-Conditional, hidden-the_row-Conditional-2, items_hidden-the_row-Conditional-2, Row_of-Alternative, end_of-Alternative, more_of-Alternative, items-the_row-Alternative, hidden-the_row-Alternative-1, items_hidden-the_row-Alternative-1}
use Rattle.vhdl_tree.specs.Tree as t
use Rattle.vhdl_tree.specs.Tree.{guarded_by, chosen_by}
use Rattle.vhdl_tree.specs.View.{ident_view, option_ident_view, view, discrete_range_view, choices_view, statement_view, if_view, case_view, for_view, statements_row, conditionals_row, condition_row, alternatives_row, alternative_row, sequential_view, sequentials_view, option_sequentials_view, conditional_view, conditionals_view, alternative_view, alternatives_view}

sequentials_rows : (n : Count) (row : Row_of-Sequential n) → statements_row row ≡ t.statements_of (map sequential_view (items-the_row-Sequential n row))
sequentials_rows n end_of-Sequential = refl
sequentials_rows n (more_of-Sequential label s rest) = ap (t.step (option_map ident_view label) (statement_view s)) (sequentials_rows _ rest)

sequentials_hidden : (v : Vec Sequential Global) → statements_row (hidden-the_row-Sequential-0 v) ≡ t.statements_of (sequentials_view v)
sequentials_hidden v = sequentials_rows _ (hidden-the_row-Sequential-0 v) ∙ ap (λ ss. t.statements_of (map sequential_view ss)) (items_hidden-the_row-Sequential-0 v)

condition_is : (c : Conditional) (rest : t.Conditionals) → condition_row c rest ≡ t.guarded (conditional_view c).condition (t.statements_of (conditional_view c).statements) rest
unfolding out-Conditional denote.Hole.Carrier.out
condition_is (Conditional' condition shape statements) rest = ap (λ ss. t.guarded (view condition) ss rest) (sequentials_rows _ statements ∙ sym (ap (λ xs. t.statements_of (map sequential_view xs)) (items_shown-the_row-Sequential-0 shape statements)))

conditionals_rows : (n : Count) (row : Row_of-Conditional n) → conditionals_row row ≡ t.conditionals_of (map conditional_view (items-the_row-Conditional n row))
conditionals_rows n end_of-Conditional = refl
conditionals_rows n (more_of-Conditional c rest) = condition_is c (conditionals_row rest) ∙ ap (t.guarded (conditional_view c).condition (t.statements_of (conditional_view c).statements)) (conditionals_rows _ rest)

conditionals_hidden : (v : Vec Conditional Global) → conditionals_row (hidden-the_row-Conditional-2 v) ≡ t.conditionals_of (conditionals_view v)
conditionals_hidden v = conditionals_rows _ (hidden-the_row-Conditional-2 v) ∙ ap (λ cs. t.conditionals_of (map conditional_view cs)) (items_hidden-the_row-Conditional-2 v)

alternative_is : (a : Alternative) (rest : t.Alternatives) → alternative_row a rest ≡ t.alternative (alternative_view a).choices (t.statements_of (alternative_view a).statements) rest
unfolding out-Alternative denote.Hole.Carrier.out
alternative_is (Alternative' choices shape statements) rest = ap (λ ss. t.alternative (choices_view choices) ss rest) (sequentials_rows _ statements ∙ sym (ap (λ xs. t.statements_of (map sequential_view xs)) (items_shown-the_row-Sequential-0 shape statements)))

alternatives_rows : (n : Count) (row : Row_of-Alternative n) → alternatives_row row ≡ t.alternatives_of (map alternative_view (items-the_row-Alternative n row))
alternatives_rows n end_of-Alternative = refl
alternatives_rows n (more_of-Alternative a rest) = alternative_is a (alternatives_row rest) ∙ ap (t.alternative (alternative_view a).choices (t.statements_of (alternative_view a).statements)) (alternatives_rows _ rest)

alternatives_hidden : (v : Vec Alternative Global) → alternatives_row (hidden-the_row-Alternative-1 v) ≡ t.alternatives_of (alternatives_view v)
alternatives_hidden v = alternatives_rows _ (hidden-the_row-Alternative-1 v) ∙ ap (λ xs. t.alternatives_of (map alternative_view xs)) (items_hidden-the_row-Alternative-1 v)

pub view_if : (at : ℕ) (branches : Vec Conditional Global) (otherwise : Option (Vec Sequential Global)) (end_label : Option Identifier) →
    if_view (roll-If (record { at = at; branches = branches; otherwise = otherwise; end_label = end_label })) ≡ t.if_of at (t.conditionals_of (conditionals_view branches)) (t.otherwise_of (option_sequentials_view otherwise)) (option_ident_view end_label)
unfolding roll-If denote.Hole.Carrier.roll
view_if at branches None end_label = ap (λ cs. t.if_of at cs t.no_else (option_ident_view end_label)) (conditionals_hidden branches)
view_if at branches (Some ss) end_label =
    ap (λ cs. t.if_of at cs (t.else_do (statements_row (hidden-the_row-Sequential-0 ss))) (option_ident_view end_label)) (conditionals_hidden branches)
    ∙ ap (λ xs. t.if_of at (t.conditionals_of (conditionals_view branches)) (t.else_do xs) (option_ident_view end_label)) (sequentials_hidden ss)

pub view_case : (at : ℕ) (selector : Expr) (alternatives : Vec Alternative Global) (end_label : Option Identifier) →
    case_view (roll-Case (record { at = at; selector = selector; alternatives = alternatives; end_label = end_label })) ≡ t.case_of at (view selector) (t.alternatives_of (alternatives_view alternatives)) (option_ident_view end_label)
unfolding roll-Case denote.Hole.Carrier.roll
view_case at selector alternatives end_label = ap (λ xs. t.case_of at (view selector) xs (option_ident_view end_label)) (alternatives_hidden alternatives)

pub view_for : (at : ℕ) (parameter : Identifier) (range : DiscreteRange) (statements : Vec Sequential Global) (end_label : Option Identifier) →
    for_view (roll-For (record { at = at; parameter = parameter; range = range; statements = statements; end_label = end_label })) ≡ t.for_of at (ident_view parameter) (discrete_range_view range) (t.statements_of (sequentials_view statements)) (option_ident_view end_label)
unfolding roll-For denote.Hole.Carrier.roll
view_for at parameter range statements end_label = ap (λ xs. t.for_of at (ident_view parameter) (discrete_range_view range) xs (option_ident_view end_label)) (sequentials_hidden statements)

pub view_conditional : (condition : Expr) (statements : Vec Sequential Global) → conditional_view (roll-Conditional (record { condition = condition; statements = statements })) ≡ guarded_by (view condition) (sequentials_view statements)
view_conditional condition statements = ap (λ r. guarded_by (view r.condition) (sequentials_view r.statements)) (out-roll-Conditional (record { condition = condition; statements = statements }))

pub view_alternative : (choices : Vec Choice Global) (statements : Vec Sequential Global) → alternative_view (roll-Alternative (record { choices = choices; statements = statements })) ≡ chosen_by (choices_view choices) (sequentials_view statements)
view_alternative choices statements = ap (λ r. chosen_by (choices_view r.choices) (sequentials_view r.statements)) (out-roll-Alternative (record { choices = choices; statements = statements }))
