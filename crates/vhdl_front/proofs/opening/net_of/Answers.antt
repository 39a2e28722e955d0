use Rattle.rtl_net.specs.Parts.{assembled}
use Rattle.vhdl_names_units.specs.views.Units.{units_view}
use Rattle.vhdl_expand_rules.specs.views.Tops.{top_view}
use Rattle.vhdl_front.proofs.Layers.{no_net, gives_along, gives_net, own_along}
use Rattle.vhdl_front.proofs.opening.net_of.Goals as goal

pub returns-in_err-parts-clause-given : goal.returns-in_err-parts-clause-given
returns-in_err-parts-clause-given c =
    gives_along c.args.language (units_view c.args.units.now) (top_view c.args.top) _ c.in_err-parts.field-0.0 c.from_residual.ensures.1
    (no_net c.args.language (units_view c.args.units.now) (top_view c.args.top) c.in_err-parts.field-0.0 c.in_err-parts.ensures.refused)

pub returns-clause-given : goal.returns-clause-given
returns-clause-given c =
    gives_net c.args.language (units_view c.args.units.now) (top_view c.args.top) (assembled c.in_ok-parts.parts) _ c.in_ok-parts.ensures.given c.read_in.ensures.given

pub returns-clause-ports : goal.returns-clause-ports
returns-clause-ports c = own_along _ _ c.read_in.ensures.ports (c.in_ok-parts.ensures.ports c.requires.ports)
