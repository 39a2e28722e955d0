-- What drivers look at, computed.
use Rattle.std.proofs.Common.{refl}
use Rattle.rtl_definition_examples.specs.Looking.{LooksOfBodies, LooksAtNoLess}

pub looks_of_bodies : LooksOfBodies
looks_of_bodies = record {
  first_use = refl;
  second_use = refl;
  last_of_gray = refl;
  sum = refl;
  right_of_joined = refl;
  in_both_branches = refl;
  behind_if = refl;
  stored = refl;
  replaced = refl;
  in_no_branch = refl;
  in_one_branch = refl;
  first_branch = refl;
  second_branch = refl;
  case = refl;
  filled_place = refl;
  first_of_shifted = refl;
  second_of_shifted = refl;
  variable_under_if = refl;
  never_run = refl;
  edge = refl;
  second_of_row = refl;
  behind_index = refl;
  first_of_moved = refl;
  last_of_number = refl;
}

pub looks_at_no_less : LooksAtNoLess
looks_at_no_less = record {
  condition = λ h. absurd cc;
  default = λ h. absurd cc;
  right_operand = λ h. absurd cc;
  index = λ h. absurd cc;
  other_row = λ h. absurd cc;
  before_index = λ h. absurd cc;
}
