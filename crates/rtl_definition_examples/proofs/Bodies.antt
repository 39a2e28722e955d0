-- What small bodies compute.
use Rattle.std.proofs.Common.{refl}
use Rattle.vhdl_values.specs.Numbers.{digits_of}
use Rattle.rtl_definition_examples.specs.Bodies.{KindsOfBodies, KindsOfResets, RunsOfBodies, AssignsOfBodies, VariablesOfBodies, StoresOfBodies, ReadsOfBodies}

pub kinds_of_bodies : KindsOfBodies
kinds_of_bodies = record {
  by_call = refl;
  by_other_call = refl;
  by_event = refl;
  by_event_last = refl;
  with_enable = refl;
  without_edge = refl;
  edge_and_level = refl;
  event_or_level = refl;
  negated_twice = refl;
  other_level = refl;
  level_of_x = refl;
  named_constant = refl;
  level_reversed = refl;
  with_else = refl;
  with_elsif = refl;
  with_more = refl;
  with_event = refl;
}

pub kinds_of_resets : KindsOfResets
kinds_of_resets = record {
  by_level = refl;
  turned_round = refl;
  with_null = refl;
  of_nothing = refl;
  no_input = refl;
  other_level = refl;
  named_constant = refl;
  other_test = refl;
  reads_signal = refl;
  sets_variable = refl;
  has_if = refl;
  with_else = refl;
  without_edge = refl;
  reset_last = refl;
}

pub runs_of_bodies : RunsOfBodies
unfolding digits_of
runs_of_bodies = record {
  alike_unknown = refl;
  unlike_unknown = refl;
  equal_unknown = refl;
  differ_unknown = refl;
  high_unequal = refl;
  high_number = refl;
  high_holds = refl;
  longer_unequal = refl;
  longer_equal = refl;
  less = refl;
  not_less = refl;
  less_number = refl;
  truths = refl;
  negation = refl;
  in_order = refl;
  in_order' = refl;
  sums = refl;
  sums_unknown = refl;
  differs = refl;
  multiplies = refl;
  ands = refl;
  nots = refl;
  shrinks = refl;
  grows = refl;
  to_left = refl;
  to_right = refl;
  to_right_by_one = refl;
  fills = refl;
  fills_ones = refl;
  first_branch = refl;
  the_else = refl;
  no_branch = refl;
  case_others = refl;
  case_choice = refl;
  case_literal = refl;
  literal = refl;
  copied = refl;
}

pub assigns_of_bodies : AssignsOfBodies
assigns_of_bodies = record {
  without_else = refl;
  with_default = refl;
  with_else = refl;
  with_null = refl;
  elsif_left_out = refl;
  two_names = refl;
  two_nets = refl;
  each_alternative = refl;
  no_alternative = refl;
}

pub variables_of_bodies : VariablesOfBodies
variables_of_bodies = record {
  initial = refl;
  at_once = refl;
  too_late = refl;
  twice = refl;
  in_order = refl;
  in_order' = refl;
  of_branch = refl;
  of_else = refl;
  of_none = refl;
  of_others = refl;
  tested = refl;
  cased = refl;
}

pub stores_of_bodies : StoresOfBodies
stores_of_bodies = record {
  unassigned = refl;
  assigned_before = refl;
  assigned_after = refl;
  by_if = refl;
  by_if_else = refl;
  by_case = refl;
  by_one_alternative = refl;
  before_branch = refl;
  other_branch = refl;
  in_its_value = refl;
  in_condition = refl;
  in_elsif = refl;
  in_case = refl;
  in_slice = refl;
  of_other_element = refl;
  not_a_net = refl;
  not_a_literal = refl;
  not_another = refl;
}

pub reads_of_bodies : ReadsOfBodies
reads_of_bodies = record {
  nets_read = refl;
  events_of = refl;
}
