use Rattle.std.proofs.Common.{map, sym, ap, ◌∙◌}
use Rattle.vhdl_names_trees.specs.views.Vectors.{computed_view}
use Rattle.vhdl_names_units.specs.views.Sequential.{alternative_view}
use Rattle.vhdl_expand_rules.specs.Elab.{◌>>=◌}
use Rattle.vhdl_expand_rules.specs.Statements.{choices_spans, may_choose}
use Rattle.vhdl_expand_operands.proofs.Passing.{expands_along}
use Rattle.vhdl_expand_choices.specs.Views.{all_choices, counted}
use Rattle.vhdl_expand_bodies.specs.Sites.{site_view}
use Rattle.vhdl_expand_statements.proofs.cases.spread_count.Goals as goal

pub returns : goal.returns
returns c =
    let here = site_view c.args.site.now in
    let x = computed_view c.args.integer.now in
    let cs = all_choices (map alternative_view c.args.alternatives.now) in
    expands_along (λ n. n) _ _ _
    (ap (λ r. r >>= λ n. counted n.span (choices_spans here.integers (may_choose x n) cs)) c.in_ok-number.ensures
    ∙ (λ i. counted (sym c.of-numbers.ensures.all i) (choices_spans here.integers (sym c.of-numbers.ensures.among i) cs)))
    c.count.ensures
