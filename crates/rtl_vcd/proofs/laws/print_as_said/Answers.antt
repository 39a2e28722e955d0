use Rattle.std.proofs.Common.{refl}
use Rattle.rtl_vcd.proofs.laws.print_as_said.Goals as goal

pub returns : goal.returns
returns c = record {
  first = refl;
  second = refl;
  last_of_one = refl;
  first_of_two = refl;
  second_of_two = refl;
  one_literal = refl;
  two_literals = refl;
  three_literals = refl;
  four_literals = refl;
  five_literals = refl;
  most_literals = refl;
  scalar = refl;
  short_vector = refl;
  literal = refl;
  integer = refl;
  below_0 = refl;
  no_integer = refl;
  boolean = refl;
}
