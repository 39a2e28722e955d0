use Rattle.std.proofs.Common.{◌≡◌, ℕ, ℤ, pos, List, [], ◌∷◌, Some, None, length, map, if◌then◌else◌, refl, arith, rules}
use Rattle.std.specs.Prelude.{negsuc}
use Rattle.vhdl_values.specs.Numbers.{all_good}
use Rattle.vhdl_values.specs.Scalar.{value_of_code}
use Rattle.rtl_net.specs.Values.{integer_of_digits}
use Rattle.rtl_net.proofs.values.integer_of.Goals as goal

-- no digits are 0
of_nothing : (least : ℤ) (values : List ℕ) → length values ≡ 0
    → Some (pos 0) ≡ (if all_good (map value_of_code values) then Some (integer_of_digits least (map value_of_code values)) else None)
of_nothing (pos n) [] e = refl
of_nothing (negsuc n) [] e = refl
of_nothing least (value ∷ values) e = absurd (omega arith)

pub returns-then-is_empty : goal.returns-then-is_empty
returns-then-is_empty c =
    let nothing : length c.args.values.now ≡ 0 = search rules in
    of_nothing c.args.least c.args.values.now nothing
