use Rattle.std.proofs.Common.{ap, map}
use Rattle.vhdl_expand_rules.proofs.Steps.{given}
use Rattle.vhdl_names_trees.specs.views.Vectors.{computed_view}
use Rattle.vhdl_names_units.specs.views.Sequential.{alternative_view}
use Rattle.vhdl_expand_bodies.specs.Sites.{site_view}
use Rattle.vhdl_expand_statements.proofs.Counted.{turns_counted, turns_untold}
use Rattle.vhdl_expand_statements.proofs.cases.spread_turns.Goals as goal

pub returns-in-Ok : goal.returns-in-Ok
returns-in-Ok c = λ last others.
    ap given (turns_counted (site_view c.args.site.now) c.args.at (computed_view c.args.integer.now) (map alternative_view c.args.alternatives.now) last others c.in-Ok.count c.in-Ok.ensures)

pub returns-in-Err-At : goal.returns-in-Err-At
returns-in-Err-At c = λ last others.
    ap given (turns_untold (site_view c.args.site.now) c.args.at (computed_view c.args.integer.now) (map alternative_view c.args.alternatives.now) last others (c.in-Err-At.ensures (λ e. cc)))
