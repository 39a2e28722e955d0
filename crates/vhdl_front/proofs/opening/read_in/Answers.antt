use Rattle.std.proofs.Common.{true, sym, ap, ◌∙◌, subst}
use Rattle.rtl_net.specs.Nets.{NetlistView}
use Rattle.rtl_net.specs.Parts.{assembled}
use Rattle.rtl_stim.specs.Ports.{HasOwnPorts}
use Rattle.vhdl_front.proofs.KeptNets.{kept_own_ports}
use Rattle.vhdl_front.proofs.opening.read_in.Goals as goal

pub returns-in_ok-new-in-Wide-clause-ports : goal.returns-in_ok-new-in-Wide-clause-ports
returns-in_ok-new-in-Wide-clause-ports c = λ own.
    let kept = kept_own_ports (assembled c.args.parts) (assembled c.in_ok-kept-in-Wide.kept) c.requires.net.scopes.some c.in_ok-kept-in-Wide.ensures.kept own in
    subst HasOwnPorts (sym (c.widened.ensures ∙ ap (λ (n : NetlistView). record n { wide = true }) c.in_ok-new-in-Wide.ensures)) (record { names = kept.names; elements = kept.elements })
