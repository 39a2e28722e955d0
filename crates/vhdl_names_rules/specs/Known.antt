-- Which values name no signal and no variable (IEEE 1076-2008, 9.4.3). An integer that a run computes names one: an
-- object of an integer type is one, and to_integer asks for one; and so does what is chosen by it.
use Rattle.std.specs.Prelude.{Bool, true, false, ◌&&◌}
use Rattle.vhdl_names_rules.specs.units.Expressions as e
use Rattle.vhdl_names_rules.specs.units.Expressions.{Vector}

abbrev mutual
  pub is_known : Vector → Bool
  is_known (e.of_signal p) = false
  is_known (e.of_variable at k p) = false
  is_known (e.in_signal at x c) = false
  is_known (e.in_variable at k c) = false
  is_known (e.in_constant at k c) = false
  is_known (e.Vector.inverse x) = is_known x
  is_known (e.Vector.binary at op x y) = is_known x && is_known y
  is_known (e.with_integer at op x n) = is_known x
  is_known (e.integer_with at op n x) = is_known x
  is_known (e.with_computed at op x n) = false
  is_known (e.computed_with at op n x) = false
  is_known (e.computed_encoded at n size) = false
  is_known (e.counted at op x n) = is_known x
  is_known (e.shifted at by x n) = false
  is_known (e.aggregate at r es) = are_known es
  is_known (e.sized at r x) = is_known x
  is_known x = true

  pub are_known : e.Elements → Bool
  are_known e.no_elements = true
  are_known (e.next x es) = is_known x && are_known es
  are_known (e.chosen is x es) = is_known x && are_known es
  are_known (e.Elements.others x) = is_known x
