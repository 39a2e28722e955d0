use Rattle.std.proofs.Common.{List, subst, sym}
use Rattle.rtl_net.specs.Nets.{SignalView}
use Rattle.rtl_net.specs.Showing.{AreShown}
use Rattle.rtl_signal_names.proofs.Choosing.{chosen_are_shown}
use Rattle.rtl_signal_names.proofs.chosen.chosen_shown.Goals as goal

pub invariant_of-result : goal.invariant_of-result
invariant_of-result c = record {
  fits = subst (λ (signals : List SignalView). AreShown c.args.net.now signals) (sym c.requires.1) (chosen_are_shown c.args.net.now c.requires.0 c.is_elaborated.ensures);
}
