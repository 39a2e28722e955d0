use Rattle.rtl_net.specs.Nets.{flat}
use Rattle.rtl_net.proofs.laws.nets_meet_the_laws.Goals as goal

pub returns : goal.returns
returns c net is_net = record {
  elaborated = c.connected_is_elaborated.ensures (flat net) is_net.in_range is_net.connected;
  keeps_range = c.bodies_keep_range.ensures (flat net) is_net.in_range;
  sources_keep_range = c.sources_keep_range.ensures (flat net) is_net.in_range is_net.connected;
  sound = λ accepted. record { in_range = is_net.in_range; connected = is_net.connected; accepted = accepted };
}
