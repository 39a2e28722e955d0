-- Small designs that are refused, and what is wrong with each, and where; and some beside them that are elaborated.
use Rattle.std.specs.Prelude.{◌≡◌, ℕ, false, List, [], ◌∷◌, replicate, Option, Some, None, Ok, Err, codes, pos, negsuc}
use Rattle.vhdl_values.specs.declared.scalar.Nine.TheVariants.{Zero, One}
use Rattle.vhdl_values.specs.declared.kinds.Cmp.TheVariants.{Eq}
use Rattle.vhdl_values.specs.declared.kinds.Logic.TheVariants.{And}
use Rattle.vhdl_tree.specs.declared.declaration.Mode.TheVariants.{Out}
use Rattle.vhdl_tree.specs.declared.operator.Direction.TheVariants.{To, Downto}
use Rattle.vhdl_names_rules.specs.declared.operator.Arithmetic.{Arithmetic}
use Rattle.vhdl_names_rules.specs.declared.operator.Arithmetic.TheVariants.{Add, Subtract, Divide, Modulo, Remainder}
use Rattle.vhdl_names_rules.specs.declared.operator.IntegerType.TheVariants.{Positive}
use Rattle.vhdl_names_rules.specs.declared.operator.Numeric.TheVariants as numeric
use Rattle.vhdl_names_rules.specs.declared.operator.VectorOperator.{VectorOperator}
use Rattle.vhdl_names_rules.specs.declared.operator.VectorOperator.TheVariants as v
use Rattle.vhdl_names_rules.specs.units.Expressions as e
use Rattle.vhdl_names_rules.specs.units.Expressions.{Static, Range, Part}
use Rattle.vhdl_names_rules.specs.units.Statements as s
use Rattle.vhdl_names_rules.specs.units.Units as u
use Rattle.vhdl_names_rules.specs.units.Units.{Entity, Concurrent, Fixed}
use Rattle.rtl_model.specs.bodies.Body as bodies
use Rattle.rtl_model.specs.bodies.Types.{nine_valued}
use Rattle.vhdl_expand_rules.specs.declared.fault.ElabProblem.TheVariants.{NoTop, NoGeneric, GenericRange, StaticError, Length, Index, TooWide}
use Rattle.vhdl_expand_rules.specs.declared.fault.ElabProblem.TheVariants.{Unassociated, TwoUnresolved, ReadOfShared, TooDeep, TooMany}
use Rattle.vhdl_expand_rules.specs.Integers.{integer}
use Rattle.vhdl_expand_rules.specs.Site.{no_integers}
use Rattle.rtl_definition_examples.specs.designs.Words.{number, downto, to, port, signal, from, at, read}
use Rattle.rtl_definition_examples.specs.designs.Words.{literal, assigned, process, assignment, instance, object, integer_generic, input, output, declared}
use Rattle.rtl_definition_examples.specs.designs.Words.{entity, elaborated, elaborated_with, Of}
use Rattle.rtl_definition_examples.specs.designs.Designs.{inverter, no_statement}

-- ---- static integers

abbrev pub minus : ℕ → Static
minus n = e.Static.negated 3 (number n)

abbrev pub of : Arithmetic → Static → Static → Static
of op x y = e.Static.binary 5 op x y

pub record IntegersHaveValues : Type 0 where
  pub divided : integer no_integers 7 (of Divide (minus 7) (number 2)) ≡ Ok (negsuc 2)
  pub remainder : integer no_integers 7 (of Remainder (minus 7) (number 2)) ≡ Ok (negsuc 0)
  pub modulus : integer no_integers 7 (of Modulo (minus 7) (number 2)) ≡ Ok (pos 1)
  pub modulus_below : integer no_integers 7 (of Modulo (number 7) (minus 2)) ≡ Ok (negsuc 0)
  pub by_zero : integer no_integers 7 (of Divide (number 1) (number 0)) ≡ Err (StaticError, 5)
  pub too_great : integer no_integers 7 (of Add (number 2147483647) (number 1)) ≡ Err (StaticError, 5)
  -- what stands alone is told at the byte that is given; below a sign, at the sign
  pub alone : integer no_integers 7 (number 2147483648) ≡ Err (StaticError, 7)
  pub below_sign : integer no_integers 7 (minus 2147483648) ≡ Err (StaticError, 3)
  -- -2147483647 - 1, 2147483647 + 1 - 1 and 1 / (2 - 2) with the second operator at byte 9
  pub sign_and_operator : integer no_integers 7 (of Subtract (minus 2147483647) (number 1)) ≡ Err (StaticError, 5)
  pub first_operator : integer no_integers 7
      (e.Static.binary 9 Subtract (of Add (number 2147483647) (number 1)) (number 1)) ≡ Err (StaticError, 5)
  pub outer_operator : integer no_integers 7 (of Divide (number 1) (e.Static.binary 9 Subtract (number 2) (number 2)))
      ≡ Err (StaticError, 5)

-- ---- tops and generics

-- n, m : positive, with these defaults
abbrev pub with_generics : (n m : Option Static) → Entity
with_generics n m = record (entity (codes "g") [] [] []) {
  generics = integer_generic 6 (codes "n") Positive n ∷ integer_generic 7 (codes "m") Positive m ∷ [];
}

abbrev pub with_generic : Option Static → Entity
with_generic default = with_generics default (Some (number 1))

pub record TopsAreThere : Type 0 where
  pub no_entity : elaborated (inverter ∷ []) (codes "other") ≡ Err (NoTop, 0)
  pub no_architecture : elaborated (record inverter { architecture = None } ∷ []) (codes "inv") ≡ Err (NoTop, 1)
  pub no_generic : elaborated (with_generic None ∷ []) (codes "g") ≡ Err (NoGeneric, 6)
  -- two generics without a default, and the second one alone
  pub neither : elaborated (with_generics None None ∷ []) (codes "g") ≡ Err (NoGeneric, 6)
  pub second : elaborated (with_generics (Some (number 1)) None ∷ []) (codes "g") ≡ Err (NoGeneric, 7)
  pub second_range : elaborated (with_generics (Some (number 1)) (Some (minus 1)) ∷ []) (codes "g")
      ≡ Err (GenericRange, 7)
  pub generic_range : elaborated (with_generic (Some (number 0)) ∷ []) (codes "g") ≡ Err (GenericRange, 6)
  pub generic_without_value : elaborated (with_generic (Some (of Divide (number 1) (number 0))) ∷ []) (codes "g")
      ≡ Err (StaticError, 5)
  pub generic_too_great : elaborated (with_generic (Some (number 2147483648)) ∷ []) (codes "g")
      ≡ Err (StaticError, 6)
  -- one that is set needs no default; its value is looked at as an actual's, and behind the names of all that are set
  pub set : Of (elaborated_with (with_generic None ∷ []) (codes "G") (codes "N") (pos 1)) (λ x. x.flat.start ≡ [])
  pub set_range : elaborated_with (with_generic None ∷ []) (codes "g") (codes "n") (negsuc 0) ≡ Err (GenericRange, 6)
  pub set_unknown : elaborated_with (with_generic None ∷ []) (codes "g") (codes "k") (pos 1) ≡ Err (NoGeneric, 1)

-- ---- ranges and lengths: signal s of this range, y out of three elements, and a statement

abbrev pub with_signal : Range → List Concurrent → Entity
with_signal r cs =
    entity (codes "d") (output 10 (codes "y") (u.vector (downto 2 0)) ∷ [])
    (declared 20 (codes "s") (u.vector r) ∷ []) cs

-- signal r, s of these ranges
abbrev pub with_signals : (first second : Range) → Entity
with_signals first second =
    entity (codes "d") [] (declared 20 (codes "r") (u.vector first) ∷ declared 21 (codes "s") (u.vector second) ∷ []) []

-- with s(3 downto 0)
abbrev pub with_four : List Concurrent → Entity
with_four cs = with_signal (downto 3 0) cs

-- process (all) begin statements end process;
abbrev pub in_process : List s.Statement → Entity
in_process body = with_four (process u.every body ∷ [])

-- y <= "01";
abbrev pub short_literal : s.Statement
short_literal = assigned (port 0 e.whole) (literal (Zero ∷ One ∷ []))

-- y(3) <= "1", whose target starts at 37
abbrev pub outside_target : s.Statement
outside_target = s.assign (from 37 (port 0 (at (number 3)))) (s.single (literal (One ∷ [])))

-- if 0 = 1 then .. end if;
abbrev pub under_false : s.Statement → s.Statement
under_false x =
    s.if_of 53 (s.branch (e.Test.fixed (e.StaticTest.compared 35 Eq (number 0) (number 1))) (s.step x s.done) s.no_else)

-- y(2 downto 1) <= s(part);
abbrev pub slice_read : Part → Concurrent
slice_read part = assignment (port 0 (e.slice (downto 2 1))) (read (signal 0 part))

-- y(2) <= s(i);
abbrev pub element_read : Static → Concurrent
element_read i = assignment (port 0 (at (number 2))) (read (signal 0 (at i)))

-- y <= s operator "01";
abbrev pub computed : VectorOperator → Concurrent
computed op =
    assignment (port 0 e.whole)
    (e.elements (e.Vector.binary 32 op (e.of_signal (signal 0 e.whole)) (e.Vector.literal 31 (Zero ∷ One ∷ []))))

-- case s is when "01" => null; when others => null; end case;
abbrev pub short_choice : s.Statement
short_choice =
    s.case_of 52 (read (signal 0 e.whole))
    (s.alternative (s.values (Zero ∷ One ∷ []) ∷ []) (s.step s.null_of s.done) (s.others (s.step s.null_of s.done)))

-- y <= "01" when s(i) = '1';
abbrev pub short_when : Static → Concurrent
short_when i = process u.as_read
    (s.if_of 30 (s.branch (e.alike 35 (read (signal 0 (at i))) (e.elements (e.character One)))
    (s.step short_literal s.done) s.no_else) ∷ [])

pub record LengthsAgree : Type 0 where
  -- at the target, and neither at the literal nor at the process
  pub short : elaborated (in_process (short_literal ∷ []) ∷ []) (codes "d") ≡ Err (Length 2 3, 30)
  pub short_under_false : elaborated (in_process (under_false short_literal ∷ []) ∷ []) (codes "d")
      ≡ Err (Length 2 3, 30)
  pub null_range : elaborated (with_signal (to 3 0) [] ∷ []) (codes "d") ≡ Err (Index, 20)
  pub negative_bound : elaborated
      (with_signal (record { left = number 3; direction = Downto; right = minus 1 }) [] ∷ []) (codes "d")
      ≡ Err (StaticError, 20)
  pub too_wide : elaborated (with_signal (downto 64 0) [] ∷ []) (codes "d") ≡ Err (TooWide, 20)
  -- the first of two names, and the second one alone
  pub both_too_wide : elaborated (with_signals (downto 64 0) (downto 64 0) ∷ []) (codes "d") ≡ Err (TooWide, 20)
  pub second_too_wide : elaborated (with_signals (downto 63 0) (downto 100 36) ∷ []) (codes "d") ≡ Err (TooWide, 21)
  pub against_direction : elaborated (with_four (slice_read (e.slice (to 1 2)) ∷ []) ∷ []) (codes "d")
      ≡ Err (Index, 34)
  pub outside : elaborated (with_four (element_read (number 4) ∷ []) ∷ []) (codes "d") ≡ Err (Index, 34)
  pub negative_index : elaborated (with_four (element_read (minus 1) ∷ []) ∷ []) (codes "d") ≡ Err (Index, 34)
  pub index_without_value : elaborated
      (with_four (element_read (of Divide (number 1) (number 0)) ∷ []) ∷ []) (codes "d") ≡ Err (StaticError, 5)
  -- operands at the operator; a sum is as long as the longer one, so that it is told at the target
  pub operands : elaborated (with_four (computed (v.Logical And) ∷ []) ∷ []) (codes "d") ≡ Err (Length 4 2, 32)
  pub sum : elaborated (with_four (computed (v.Arithmetic numeric.Add) ∷ []) ∷ []) (codes "d")
      ≡ Err (Length 4 3, 30)
  pub choice : elaborated (in_process (short_choice ∷ []) ∷ []) (codes "d") ≡ Err (Length 2 4, 52)

pub record FirstRulesAreTold : Type 0 where
  -- all targets before the first statement
  pub target : elaborated (in_process (short_literal ∷ outside_target ∷ []) ∷ []) (codes "d") ≡ Err (Index, 37)
  -- targets before the list, s(4) at 38, which is before the statements
  pub before_list : elaborated (with_four
      (process (u.listed (from 38 (signal 0 (at (number 4))) ∷ [])) (outside_target ∷ []) ∷ []) ∷ []) (codes "d")
      ≡ Err (Index, 37)
  pub list : elaborated (with_four
      (process (u.listed (from 38 (signal 0 (at (number 4))) ∷ [])) (short_literal ∷ []) ∷ []) ∷ []) (codes "d")
      ≡ Err (Index, 38)
  -- ranges of loops before the statements
  pub turns : elaborated (in_process (short_literal ∷ s.for_of 51 (to 0 4096) s.done ∷ []) ∷ []) (codes "d")
      ≡ Err (TooMany, 51)
  -- a condition before its value
  pub condition : elaborated (with_four (short_when (number 4) ∷ []) ∷ []) (codes "d") ≡ Err (Index, 34)
  pub value : elaborated (with_four (short_when (number 3) ∷ []) ∷ []) (codes "d") ≡ Err (Length 2 3, 30)

-- ---- loops: in a process, for i in this range loop y(i) <= s(i); end loop;

abbrev pub looping : Range → Entity
looping r = in_process (s.for_of 51 r
    (s.step (assigned (port 0 (at (e.loop_parameter 0))) (read (signal 0 (at (e.loop_parameter 0))))) s.done) ∷ [])

pub record TurnsAreWithin : Type 0 where
  pub outside : elaborated (looping (to 1 3) ∷ []) (codes "d") ≡ Err (Index, 30)
  pub too_many : elaborated (looping (to 0 4096) ∷ []) (codes "d") ≡ Err (TooMany, 51)
  pub without_bound : elaborated
      (looping (record { left = number 0; direction = To; right = number 2147483648 }) ∷ []) (codes "d")
      ≡ Err (StaticError, 51)
  -- the same of a generate, whose scheme starts at 54
  pub too_many_generated : elaborated
      (with_four (u.generate_for 54 (codes "g") (to 0 4096) u.no_concurrents ∷ []) ∷ []) (codes "d")
      ≡ Err (TooMany, 54)
  -- a null range makes no turn, and y is driven
  pub none : Of (elaborated (looping (to 1 0) ∷ []) (codes "d")) (λ x. x.flat.idle ≡ replicate 7 [])

-- ---- associations: an instance of k (a in, z out, at 12 and 13) with these actuals, in t with a : in, y : out, s
-- : signal

abbrev pub around : List (Option e.SignalPart) → List Concurrent → Entity
around ports more =
    entity (codes "t") (input 10 (codes "a") u.element ∷ output 11 (codes "y") u.element ∷ [])
    (declared 20 (codes "s") u.element ∷ [])
    (instance 0 ports ∷ more)

abbrev pub to_a : Option e.SignalPart
to_a = Some (from 41 (port 0 e.whole))

abbrev pub to_y : Option e.SignalPart
to_y = Some (from 42 (port 1 e.whole))

-- k with a in and z out of two elements each, and t with w in of three, x out of three, and an instance of k with
-- these actuals
abbrev pub wide_unit : Entity
wide_unit =
    entity (codes "k")
    (input 12 (codes "a") (u.vector (downto 1 0)) ∷ output 13 (codes "z") (u.vector (downto 1 0)) ∷ []) [] []

abbrev pub around_wide : (w x : Part) → Entity
around_wide w x =
    entity (codes "t")
    (input 10 (codes "w") (u.vector (downto 2 0)) ∷ output 11 (codes "x") (u.vector (downto 2 0)) ∷ []) []
    (instance 0 (Some (from 42 (port 0 w)) ∷ Some (from 41 (port 1 x)) ∷ []) ∷ [])

pub record ActualsFit : Type 0 where
  -- at the actual, and not at the label
  pub length : elaborated (wide_unit ∷ around_wide e.whole (e.slice (downto 1 0)) ∷ []) (codes "t")
      ≡ Err (Length 3 2, 42)
  pub second_length : elaborated (wide_unit ∷ around_wide (e.slice (downto 1 0)) e.whole ∷ []) (codes "t")
      ≡ Err (Length 3 2, 41)
  -- z => x, a => w(1 to 2): formals in their order, so that the second one of the text is told
  pub formals_in_order : elaborated (wide_unit ∷ around_wide (e.slice (to 1 2)) e.whole ∷ []) (codes "t")
      ≡ Err (Index, 42)
  -- at the label: no actual of an in port without a default, and an entity without an architecture
  pub unassociated : elaborated (no_statement ∷ around (None ∷ to_y ∷ []) [] ∷ []) (codes "t")
      ≡ Err (Unassociated, 40)
  pub no_architecture : elaborated
      (record no_statement { architecture = None } ∷ around (to_a ∷ to_y ∷ []) [] ∷ []) (codes "t") ≡ Err (NoTop, 40)
  -- a generic's actual at the generic's name, in the entity of the instance
  pub generic : elaborated
      (with_generic None ∷ entity (codes "t") [] []
      (u.instance (record {
        at = 40;
        label = codes "u";
        unit = 0;
        generics = Some (u.Fixed.integer (minus 1)) ∷ [];
        ports = [];
      }) ∷ [])
      ∷ []) (codes "t")
      ≡ Err (GenericRange, 6)

-- ---- sources

-- y <= a;
abbrev pub y_from_a : Concurrent
y_from_a = assignment (port 1 e.whole) (read (port 0 e.whole))

-- s <= y; and s <= a;
abbrev pub s_from_y : Concurrent
s_from_y = assignment (signal 0 e.whole) (read (port 1 e.whole))

abbrev pub s_from_a : Concurrent
s_from_a = assignment (signal 0 e.whole) (read (port 0 e.whole))

-- the same with a : in, y : out std_ulogic
abbrev pub unresolved : Entity → Entity
unresolved x = record x {
  ports = input 10 (codes "a") u.element
      ∷ record { mode = Out; object = record (object 11 (codes "y") u.element None) { is_resolved = false } } ∷ [];
}

-- a, y as before, signal s : std_ulogic, and these statements
abbrev pub unresolved_signal : List Concurrent → Entity
unresolved_signal cs =
    unresolved
    (entity (codes "t") [] (u.signal (record (object 20 (codes "s") u.element None) { is_resolved = false }) ∷ []) cs)

-- a : in, z : out, signal m: z <= a; m <= z;
abbrev pub echoing : Entity
echoing =
    entity (codes "k") (input 12 (codes "a") u.element ∷ output 13 (codes "z") u.element ∷ [])
    (declared 22 (codes "m") u.element ∷ []) (y_from_a ∷ s_from_y ∷ [])

pub record SourcesAreCounted : Type 0 where
  -- y has a driver and an instance's out port
  pub two_unresolved : elaborated (inverter ∷ unresolved (around (to_a ∷ to_y ∷ []) (y_from_a ∷ [])) ∷ [])
      (codes "t") ≡ Err (TwoUnresolved, 11)
  -- two drivers of y; of s, which is declared behind it; and of both, those of s first
  pub two_drivers : elaborated (unresolved_signal (y_from_a ∷ y_from_a ∷ s_from_a ∷ []) ∷ []) (codes "t")
      ≡ Err (TwoUnresolved, 11)
  pub two_drivers_of_second : elaborated (unresolved_signal (y_from_a ∷ s_from_a ∷ s_from_a ∷ []) ∷ []) (codes "t")
      ≡ Err (TwoUnresolved, 20)
  pub two_drivers_of_both : elaborated
      (unresolved_signal (s_from_a ∷ s_from_a ∷ y_from_a ∷ y_from_a ∷ []) ∷ []) (codes "t")
      ≡ Err (TwoUnresolved, 11)
  -- y has two sources, and s takes its value
  pub read_of_shared : elaborated (inverter ∷ around (to_a ∷ to_y ∷ []) (y_from_a ∷ s_from_y ∷ []) ∷ []) (codes "t")
      ≡ Err (ReadOfShared, 11)
  -- y has two sources and stands in a list, or is the actual of an in port
  pub in_list : elaborated (inverter
      ∷ around (to_a ∷ to_y ∷ []) (y_from_a ∷ process (u.listed (port 1 e.whole ∷ [])) [] ∷ []) ∷ []) (codes "t")
      ≡ Err (ReadOfShared, 11)
  pub by_in_port : elaborated (inverter ∷ around (to_y ∷ to_y ∷ []) (y_from_a ∷ []) ∷ []) (codes "t")
      ≡ Err (ReadOfShared, 11)
  -- y has two sources, and the instance reads its own port
  pub in_instance : elaborated (echoing ∷ around (to_a ∷ to_y ∷ []) (y_from_a ∷ []) ∷ []) (codes "t")
      ≡ Err (ReadOfShared, 13)
  -- y has one source, and is read
  pub once : Of (elaborated (inverter ∷ around (to_a ∷ to_y ∷ []) (s_from_y ∷ []) ∷ []) (codes "t"))
      (λ x. x.flat.start ≡ 0 ∷ 0 ∷ 0 ∷ [])
  -- an entity that has an instance of itself
  pub too_deep : elaborated (entity (codes "e") [] [] (instance 0 [] ∷ []) ∷ []) (codes "e") ≡ Err (TooDeep, 40)

-- ---- variables

-- process (all) variable v : std_logic_vector(1 downto 0) := "10"; variable w : std_logic; begin v(0) := a; y <= v(1);
-- end process;
abbrev pub with_variables : Entity
with_variables = entity (codes "t") (input 10 (codes "a") u.element ∷ output 11 (codes "y") u.element ∷ []) []
    (u.process (record {
      at = 50;
      label = Some (codes "p");
      declarations =
          u.variable (object 60 (codes "v") (u.vector (downto 1 0)) (Some (u.Fixed.literal (One ∷ Zero ∷ []))))
          ∷ u.variable (object 61 (codes "w") u.element None) ∷ [];
      sensitivity = u.every;
      body = s.step (s.set 30 0 (at (number 0)) (s.single (read (port 0 e.whole))))
          (s.step (assigned (port 1 e.whole) (e.elements (e.of_variable 34 0 (at (number 1))))) s.done);
    }) ∷ [])

pub record VariablesAreNumbered : Type 0 where
  pub has : Of (elaborated (with_variables ∷ []) (codes "t")) (λ x. x.flat.processes ≡ record {
    drivers = record { net = 1; start = 0 } ∷ [];
    wakes = 0 ∷ [];
    variables =
        record { type_of = nine_valued; starts = 3 ∷ 2 ∷ [] } ∷ record { type_of = nine_valued; starts = 0 ∷ [] } ∷ [];
    body = bodies.step (bodies.set (1 ∷ []) (bodies.elements (bodies.signal (0 ∷ []))))
        (bodies.step (bodies.assign (0 ∷ []) (bodies.elements (bodies.variable (0 ∷ [])))) bodies.done);
  } ∷ [])

-- process (all) variable v : std_logic_vector(v's range); variable w : std_logic_vector(w's range); begin v := "01";
-- end process;
abbrev pub with_ranges : (v w : Range) → Entity
with_ranges v w = with_four (u.process (record {
  at = 50;
  label = None;
  declarations =
      u.variable (object 60 (codes "v") (u.vector v) None) ∷ u.variable (object 61 (codes "w") (u.vector w) None) ∷ [];
  sensitivity = u.every;
  body = s.step (s.set 30 0 e.whole (s.single (literal (Zero ∷ One ∷ [])))) s.done;
}) ∷ [])

-- process (all) variable v : std_logic; variable w : std_logic_vector(1 downto 0) := default; begin y(3) <= "1";
-- end process;
abbrev pub with_default : Fixed → Entity
with_default f = with_four (u.process (record {
  at = 50;
  label = None;
  declarations =
      u.variable (object 60 (codes "v") u.element None)
      ∷ u.variable (object 61 (codes "w") (u.vector (downto 1 0)) (Some f)) ∷ [];
  sensitivity = u.every;
  body = s.step outside_target s.done;
}) ∷ [])

pub record VariablesAreTold : Type 0 where
  -- at their names, and not at the process; the first one first
  pub first : elaborated (with_ranges (downto 64 0) (to 1 0) ∷ []) (codes "d") ≡ Err (TooWide, 60)
  pub second : elaborated (with_ranges (downto 63 0) (to 1 0) ∷ []) (codes "d") ≡ Err (Index, 61)
  -- a value at the target
  pub value : elaborated (with_ranges (downto 2 0) (downto 1 0) ∷ []) (codes "d") ≡ Err (Length 2 3, 30)
  -- a default at the name, before the targets of the body
  pub default : elaborated (with_default (u.Fixed.literal (One ∷ [])) ∷ []) (codes "d") ≡ Err (Length 1 2, 61)
  pub behind : elaborated (with_default (u.filled One) ∷ []) (codes "d") ≡ Err (Index, 37)
