-- The counter is in range, connected and accepted, and counts.
use Rattle.std.proofs.Common.{refl}
use Rattle.vhdl_values.specs.Numbers.{digits_of}
use Rattle.rtl_model.specs.nets.CoreNetlist.{core_netlist}
use Rattle.rtl_model.specs.simulation.Cycle.{State}
use Rattle.rtl_model.specs.simulation.Moments.{HasSettled}
use Rattle.rtl_definition_examples.specs.Counter.{counter, clock, CounterCounts}
use Rattle.rtl_model.proofs.simulation.Deltas.{after}
use Rattle.rtl_definition_examples.proofs.Computing.{first_cycle, next_cycle, starts_in, goes_on}
use Rattle.rtl_definition_examples.proofs.Sound.{sound_by}

s0 : State
s0 = after (core_netlist counter) 1 (first_cycle (core_netlist counter) (clock 0))

settled0 : HasSettled (core_netlist counter) clock 0 1 s0
unfolding s0 digits_of
settled0 = starts_in (core_netlist counter) clock 1 refl

s1 : State
s1 = after (core_netlist counter) 2 (next_cycle (core_netlist counter) (clock 1) s0)

settled1 : HasSettled (core_netlist counter) clock 1 2 s1
unfolding s1 s0 digits_of
settled1 = goes_on (core_netlist counter) clock 0 1 s0 2 settled0 refl

s2 : State
s2 = after (core_netlist counter) 0 (next_cycle (core_netlist counter) (clock 2) s1)

settled2 : HasSettled (core_netlist counter) clock 2 0 s2
unfolding s2 s1 s0 digits_of
settled2 = goes_on (core_netlist counter) clock 1 2 s1 0 settled1 refl

s3 : State
s3 = after (core_netlist counter) 2 (next_cycle (core_netlist counter) (clock 3) s2)

settled3 : HasSettled (core_netlist counter) clock 3 2 s3
unfolding s3 s2 s1 s0 digits_of
settled3 = goes_on (core_netlist counter) clock 2 0 s2 2 settled2 refl

pub counter_counts : CounterCounts
unfolding s3 s2 s1 s0 digits_of
counter_counts = record {
  sound = sound_by counter (λ p. 1) refl;
  at_start = (1, s0, settled0, refl);
  first_edge = (2, s1, settled1, refl);
  no_edge = (0, s2, settled2, refl);
  second_edge = (2, s3, settled3, refl);
  edge_takes_two = (s1, settled1);
}
