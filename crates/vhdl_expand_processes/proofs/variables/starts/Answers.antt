use Rattle.std.proofs.Common.{Option, option_map, ap, ◌∙◌}
use Rattle.vhdl_names_units.specs.declared.answers.Fixed.{Fixed}
use Rattle.vhdl_names_units.specs.views.Answers.{fixed_view}
use Rattle.vhdl_expand_rules.specs.Declarations as definition
use Rattle.vhdl_expand_rules.specs.views.Kinds.{kind_view}
use Rattle.vhdl_expand_bodies.specs.Sites.{site_view}
use Rattle.vhdl_expand_processes.proofs.variables.starts.Goals as goal

pub returns-in_ok-undefaulted-in-None : goal.returns-in_ok-undefaulted-in-None
returns-in_ok-undefaulted-in-None c =
    let here = site_view c.args.site.now in
    ap (λ (o : Option Fixed). definition.starts here c.args.at (kind_view c.args.kind) (option_map fixed_view o)) c.in-None.is
    ∙ c.in_ok-undefaulted-in-None.ensures here c.args.at
