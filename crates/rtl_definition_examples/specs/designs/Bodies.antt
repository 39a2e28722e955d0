-- Expressions and conditions as they stand in bodies, generics, conditional generates, and what nets start with.
use Rattle.std.specs.Prelude.{◌≡◌, true, false, [], ◌∷◌, replicate, Some, None, Ok, Err, codes, pos}
use Rattle.vhdl_values.specs.declared.scalar.Nine.TheVariants.{Zero, One}
use Rattle.vhdl_values.specs.declared.kinds.Cmp.TheVariants.{Eq, Lt, Gt}
use Rattle.vhdl_values.specs.declared.kinds.Counted.TheVariants.{Resize}
use Rattle.vhdl_values.specs.declared.kinds.Logic.TheVariants.{And}
use Rattle.vhdl_tree.specs.declared.declaration.Mode.TheVariants.{Out}
use Rattle.vhdl_tree.specs.declared.operator.Direction.TheVariants.{Downto}
use Rattle.vhdl_names_rules.specs.declared.operator.Arithmetic.TheVariants as arithmetic
use Rattle.vhdl_names_rules.specs.declared.operator.IntegerType.TheVariants.{Natural}
use Rattle.vhdl_names_rules.specs.declared.operator.Numeric.TheVariants.{Add, Multiply}
use Rattle.vhdl_names_rules.specs.declared.operator.VectorOperator.TheVariants as v
use Rattle.vhdl_names_rules.specs.units.Expressions as e
use Rattle.vhdl_names_rules.specs.units.Expressions.{Vector, Value}
use Rattle.vhdl_names_rules.specs.units.Units as u
use Rattle.vhdl_names_rules.specs.units.Units.{Entity}
use Rattle.rtl_model.specs.bodies.Body as bodies
use Rattle.vhdl_expand_rules.specs.declared.fault.ElabProblem.TheVariants.{StaticError, Length, Index, TooWide}
use Rattle.vhdl_expand_rules.specs.Kinds.{one}
use Rattle.vhdl_expand_rules.specs.Kinds as k
use Rattle.vhdl_expand_rules.specs.Site.{Site, no_site}
use Rattle.vhdl_expand_rules.specs.Expressions.{vector, test}
use Rattle.rtl_definition_examples.specs.designs.Words.{number, downto, port, from, at, assignment, instance, object, integer_generic, input, entity, elaborated, elaborated_with, Of}
use Rattle.rtl_definition_examples.specs.designs.Designs.{no_statement}
use Rattle.rtl_definition_examples.specs.designs.Refusals.{minus, of}

-- a : in, w : in (1 downto 0), with elements 0, 1 and 2; and a variable x of one element
abbrev pub site : Site
site =
    record no_site
    { ports = one ∷ k.vector (record { left = 1; direction = Downto; right = 0 }) ∷ []; variables = one ∷ [] }

abbrev pub a : Value
a = e.elements (e.of_signal (port 0 e.whole))

abbrev pub w : Vector
w = e.of_signal (port 1 e.whole)

abbrev pub is_one : Value
is_one = e.elements (e.character One)

abbrev pub is_enclosed_one : Value
is_enclosed_one = e.elements (e.enclosed_character One)

pub record ConditionsBecomeTests : Type 0 where
  -- a = '1', a = ('1'), '1' = a
  pub plain : test site (e.alike 35 a is_one) ≡ Ok (bodies.level true 0 One)
  pub enclosed : test site (e.alike 35 a is_enclosed_one) ≡ Ok (bodies.level false 0 One)
  pub turned : test site (e.alike 35 is_one a) ≡ Ok (bodies.level false 0 One)
  -- w(0) = '1'
  pub indexed : test site (e.alike 35 (e.elements (e.of_signal (port 1 (at (number 0))))) is_one)
      ≡ Ok (bodies.level true 2 One)
  -- w(1 downto 1) = "1", x = '1', a /= '1'
  pub slice : test site (e.alike 35 (e.elements (e.of_signal (port 1 (e.slice (downto 1 1)))))
      (e.elements (e.Vector.literal 31 (One ∷ []))))
      ≡ Ok (bodies.equal (bodies.elements (bodies.signal (1 ∷ []))) (bodies.elements (bodies.constant (One ∷ []))))
  pub of_variable : test site (e.alike 35 (e.elements (e.of_variable 34 0 e.whole)) is_one)
      ≡ Ok (bodies.equal (bodies.elements (bodies.variable (0 ∷ []))) (bodies.elements (bodies.constant (One ∷ []))))
  pub unlike : test site (e.unlike 35 a is_one)
      ≡ Ok (bodies.unequal (bodies.elements (bodies.signal (0 ∷ []))) (bodies.elements (bodies.constant (One ∷ []))))
  -- a'event and a = '1'
  pub edge : test site (e.Test.both And (e.event (port 0 e.whole)) (e.alike 35 a is_one))
      ≡ Ok (bodies.combined And (bodies.event 0) (bodies.level true 0 One))
  -- 1 < w, 1 = 2, w = "111" of other lengths
  pub integer_first : test site (e.compared_with 35 Lt (number 1) w)
      ≡ Ok (bodies.compared_to Gt (bodies.signal (1 ∷ 2 ∷ [])) 1)
  pub decided : test site (e.Test.fixed (e.StaticTest.compared 35 Eq (number 1) (number 2))) ≡ Ok (bodies.decided false)
  pub lengths_differ : test site (e.alike 35 (e.elements w) (e.elements (e.Vector.literal 31 (One ∷ One ∷ One ∷ []))))
      ≡ Ok (bodies.equal (bodies.elements (bodies.signal (1 ∷ 2 ∷ [])))
      (bodies.elements (bodies.constant (One ∷ One ∷ One ∷ []))))

pub record ConditionsAreTold : Type 0 where
  -- w < -1, -1 = w, and 1 < 2147483648: at the relation
  pub compared : test site (e.compared_to 35 Lt w (minus 1)) ≡ Err (StaticError, 35)
  pub compared_first : test site (e.compared_with 35 Eq (minus 1) w) ≡ Err (StaticError, 35)
  pub over_integers : test site (e.Test.fixed (e.StaticTest.compared 35 Lt (number 1) (number 2147483648)))
      ≡ Err (StaticError, 35)
  -- 1 / 0 = 1, at the operator, and w(2) = '1', at the name
  pub within : test site (e.Test.fixed
      (e.StaticTest.compared 35 Eq (of arithmetic.Divide (number 1) (number 0)) (number 1))) ≡ Err (StaticError, 5)
  pub outside : test site (e.alike 35 (e.elements (e.of_signal (port 1 (at (number 2))))) is_one) ≡ Err (Index, 34)
  -- (w and "111") = "11", at the operator
  pub lengths : test site
      (e.alike 35 (e.elements (e.Vector.binary 32 (v.Logical And) w (e.Vector.literal 31 (One ∷ One ∷ One ∷ []))))
      (e.elements (e.Vector.literal 36 (One ∷ One ∷ []))))
      ≡ Err (Length 2 3, 32)
  -- the left side first: w(2) = w(3)
  pub left_first : test site (e.alike 35 (e.elements (e.of_signal (port 1 (at (number 2)))))
      (e.elements (e.of_signal (from 37 (port 1 (at (number 3)))))))
      ≡ Err (Index, 34)

pub record NumbersBecomeConstants : Type 0 where
  -- w + 5, which is w + "01", and 5 * w
  pub sum : vector site (e.with_integer 32 Add w (number 5))
      ≡ Ok (bodies.binary bodies.plus (bodies.signal (1 ∷ 2 ∷ [])) (bodies.constant (Zero ∷ One ∷ [])))
  pub product : vector site (e.integer_with 32 Multiply (number 5) w)
      ≡ Ok (bodies.binary bodies.times (bodies.constant (Zero ∷ One ∷ [])) (bodies.signal (1 ∷ 2 ∷ [])))
  -- w + -1 and -1 * w, at the operator
  pub negative : vector site (e.with_integer 32 Add w (minus 1)) ≡ Err (StaticError, 32)
  pub negative_first : vector site (e.integer_with 32 Multiply (minus 1) w) ≡ Err (StaticError, 32)
  -- to_unsigned(9, 3), to_unsigned(9, 0), to_unsigned(-1, 3), resize(w, 65), at the call
  pub encoded : vector site (e.Vector.encoded 33 (number 9) (number 3)) ≡ Ok (bodies.constant (Zero ∷ Zero ∷ One ∷ []))
  pub no_element : vector site (e.Vector.encoded 33 (number 9) (number 0)) ≡ Err (Index, 33)
  pub no_number : vector site (e.Vector.encoded 33 (minus 1) (number 3)) ≡ Err (StaticError, 33)
  pub too_wide : vector site (e.counted 33 Resize w (number 65)) ≡ Err (TooWide, 33)
  -- resize(w(2), 65), at the name
  pub operand_first : vector site (e.counted 33 Resize (e.of_signal (port 1 (at (number 2)))) (number 65))
      ≡ Err (Index, 34)
  -- w and "111", and 63 elements & w, at the operator
  pub lengths : vector site (e.Vector.binary 32 (v.Logical And) w (e.Vector.literal 31 (One ∷ One ∷ One ∷ [])))
      ≡ Err (Length 2 3, 32)
  pub joined_too_wide : vector site (e.Vector.binary 32 v.Concatenate (e.Vector.literal 31 (replicate 63 One)) w)
      ≡ Err (TooWide, 32)
  -- a literal of 65 elements; and x(0) of a variable that is no vector
  pub literal_too_wide : vector site (e.Vector.literal 31 (replicate 65 One)) ≡ Err (TooWide, 31)
  pub of_variable : vector site (e.of_variable 38 0 (at (number 0))) ≡ Err (Index, 38)

-- ---- generics, and conditional generates

-- y : out (m downto 0)
abbrev pub wide_output : u.Port
wide_output = record {
  mode = Out;
  object = object 10 (codes "y") (u.vector (record { left = e.generic 1; direction = Downto; right = number 0 })) None;
}

-- n : natural := 2; m : natural := n + 1; y : out (m downto 0)
abbrev pub later_default : Entity
later_default = record (entity (codes "g") (wide_output ∷ []) [] []) {
  generics = integer_generic 6 (codes "n") Natural (Some (number 2))
      ∷ integer_generic 7 (codes "m") Natural (Some (of arithmetic.Add (e.generic 0) (number 1))) ∷ [];
}

-- if 0 = 1 generate, round a generate over 0 to 1 / 0
abbrev pub nothing_computed : Entity
nothing_computed = entity (codes "f") [] []
    (u.generate_if 54 (codes "g") (e.StaticTest.compared 35 Eq (number 0) (number 1))
    (u.concurrent (u.generate_for 55 (codes "h")
    (record { left = number 0; direction = Downto; right = of arithmetic.Divide (number 1) (number 0) })
    u.no_concurrents) u.no_concurrents) ∷ [])

-- y : out := '1', which is the actual of k's out port (whose default is '0'), and of a process
abbrev pub two_sources : Entity
two_sources = entity (codes "t")
    (input 10 (codes "a") u.element
    ∷ record { mode = Out; object = object 11 (codes "y") u.element (Some (u.Fixed.literal (One ∷ []))) } ∷ []) []
    (instance 0 (Some (from 41 (port 0 e.whole)) ∷ Some (from 42 (port 1 e.whole)) ∷ [])
    ∷ assignment (port 1 e.whole) a ∷ [])

pub record DefaultsAreTaken : Type 0 where
  pub generic : Of (elaborated (later_default ∷ []) (codes "g")) (λ x. x.flat.start ≡ 0 ∷ 0 ∷ 0 ∷ 0 ∷ [])
  -- n is set to 1, from which m is computed
  pub set : Of (elaborated_with (later_default ∷ []) (codes "g") (codes "n") (pos 1)) (λ x.
      x.flat.start ≡ 0 ∷ 0 ∷ 0 ∷ [])
  pub not_computed : Of (elaborated (nothing_computed ∷ []) (codes "f")) (λ x. x.flat.start ≡ [])
  -- the driver starts with '1', the idle port with '0', and y with X
  pub resolved : Of (elaborated (no_statement ∷ two_sources ∷ []) (codes "t")) (λ x. x.flat.start ≡ 0 ∷ 1 ∷ [])
