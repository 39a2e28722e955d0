use Rattle.std.proofs.Common.{sym, ap, subst}
use Rattle.rtl_model.specs.bodies.Fits.{IsWidth}
use Rattle.rtl_net.specs.Indices.{numbers}
use Rattle.vhdl_expand_rules.proofs.Steps.{given}
use Rattle.vhdl_expand_bodies.proofs.Places.{elements-length}
use Rattle.vhdl_expand_bodies.proofs.site.Site.variable.Goals as goal

pub invariant_of-result-2 : goal.invariant_of-result-2
invariant_of-result-2 c =
    let long = elements-length c.in_ok-run.run'.first c.in_ok-run.run'.len (numbers c.elements-elements.result) (ap given (sym c.elements-elements.ensures)) in
    record { counted = long; sized = subst IsWidth (sym long) c.in_ok-run.ensures.short.0 }
