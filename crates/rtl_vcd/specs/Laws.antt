-- What the codes and values of a trace amount to.
use Rattle.std.specs.Prelude.{◌≡◌, ℕ, [], ◌∷◌, codes, pos, negsuc}
use Rattle.rtl_net.specs.declared.signal.SignalKind.TheVariants.{One, Vector, Enumeration, Integer, Boolean}
use Rattle.rtl_net.specs.Digits.{binary_digits}
use Rattle.rtl_vcd_values.specs.Values.{code, value_change}

-- every name has a code of its own
abbrev pub CodesDiffer : Type 0
CodesDiffer = (j k : ℕ) → code j ≡ code k → j ≡ k

-- Examples: the first codes of one and of two characters; how many digits 1, 2, 3, 4, 5 and 256 literals need; a
-- scalar, a vector of one element, the last of five literals, integers, and a boolean.
pub record PrintAsSaid : Type 0 where
  pub first : code 0 ≡ 33 ∷ []
  pub second : code 1 ≡ 34 ∷ []
  pub last_of_one : code 93 ≡ 126 ∷ []
  pub first_of_two : code 94 ≡ 33 ∷ 34 ∷ []
  pub second_of_two : code 95 ≡ 34 ∷ 34 ∷ []
  pub one_literal : binary_digits 0 ≡ 1
  pub two_literals : binary_digits 1 ≡ 1
  pub three_literals : binary_digits 2 ≡ 2
  pub four_literals : binary_digits 3 ≡ 2
  pub five_literals : binary_digits 4 ≡ 3
  pub most_literals : binary_digits 255 ≡ 8
  pub scalar : value_change One (codes "!") (7 ∷ []) ≡ codes "1!\n"
  pub short_vector : value_change (Vector 0 0) (codes "!") (4 ∷ []) ≡ codes "bz !\n"
  pub literal : value_change (Enumeration 5) (codes "!") (4 ∷ []) ≡ codes "b100 !\n"
  -- 5 of 0 to 9, -3 of -4 to 3, and what is neither
  pub integer : value_change (Integer (pos 0) (pos 9)) (codes "!") (2 ∷ 3 ∷ 2 ∷ 3 ∷ [])
      ≡ codes "b00000000000000000000000000000101 !\n"
  pub below_0 : value_change (Integer (negsuc 3) (pos 3)) (codes "!") (3 ∷ 2 ∷ 3 ∷ [])
      ≡ codes "b11111111111111111111111111111101 !\n"
  pub no_integer : value_change (Integer (pos 0) (pos 1)) (codes "!") (1 ∷ [])
      ≡ codes "bxxxxxxxxxxxxxxxxxxxxxxxxxxxxxxxx !\n"
  pub boolean : value_change Boolean (codes "!") (3 ∷ []) ≡ codes "1!\n"
