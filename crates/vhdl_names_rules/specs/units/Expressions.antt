-- Analysed expressions (IEEE 1076-2008, clause 9): each name is the number of its declaration, each operator its kind,
-- each literal its values. Static integers, integers that a run computes, vectors and truths are four types of tree, so
-- that no type is left to be looked up. Of the text there are the bytes at which elaboration tells what is wrong: where
-- a name, a literal, a call or an operator starts.
use Rattle.std.specs.Prelude.{ℕ, List, Option}
use Rattle.vhdl_values.specs.declared.scalar.Nine.{Nine}
use Rattle.vhdl_values.specs.declared.kinds.Logic.{Logic}
use Rattle.vhdl_values.specs.declared.kinds.Cmp.{Cmp}
use Rattle.vhdl_values.specs.declared.kinds.Counted.{Counted}
use Rattle.vhdl_values.specs.declared.kinds.Edge.{Edge}
use Rattle.vhdl_values.specs.declared.kinds.Shift.{Shift}
use Rattle.vhdl_tree.specs.declared.operator.Direction.{Direction}
use Rattle.vhdl_names_rules.specs.declared.operator.Arithmetic.{Arithmetic}
use Rattle.vhdl_names_rules.specs.declared.operator.Bound.{Bound}
use Rattle.vhdl_names_rules.specs.declared.operator.Numeric.{Numeric}
use Rattle.vhdl_names_rules.specs.declared.operator.VectorOperator.{VectorOperator}

-- ---- static integers

-- declarations are numbered from 0 within their class and unit, in order of the text
pub data Static : Type 0 where
  number : ℕ → Static
  generic : ℕ → Static
  -- an integer constant
  constant : ℕ → Static
  -- the parameter of the generate, or of the loop, that has so many of its kind round it
  generate_parameter : ℕ → Static
  loop_parameter : ℕ → Static
  -- a minus sign, `abs` and an operator, each with where it starts
  negated : (at : ℕ) → Static → Static
  absolute : (at : ℕ) → Static → Static
  binary : (at : ℕ) → Arithmetic → Static → Static → Static
  -- a bound or the length of the declared range of this number (16.2.2, 16.2.3), and of a slice of what has that range,
  -- whose name starts here
  bound : Bound → ℕ → Static
  slice_bound : (at : ℕ) → Bound → ℕ → (left : Static) → Direction → (right : Static) → Static
  -- the left bound of INTEGER (5.2.3.2)
  least_integer : Static

pub record Range : Type 0 where
  pub left : Static
  pub direction : Direction
  pub right : Static

-- truth over static integers alone
pub data StaticTest : Type 0 where
  -- a boolean by its position, 0 for false and 1 for true (5.2.3, 16.3)
  known : (at : ℕ) → Static → StaticTest
  compared : (at : ℕ) → Cmp → Static → Static → StaticTest
  negated : StaticTest → StaticTest
  both : Logic → StaticTest → StaticTest → StaticTest

-- ---- names

-- a port or signal of the unit
pub data Signal : Type 0 where
  port : ℕ → Signal
  signal : ℕ → Signal

-- the whole of what is declared, one element of it, or a slice
pub data Part : Type 0 where
  whole : Part
  element : Static → Part
  slice : Range → Part

-- and where its name starts
pub record SignalPart : Type 0 where
  pub at : ℕ
  pub signal : Signal
  pub part : Part

-- ---- one element of the nine values, or a vector of them

-- of an aggregate: an index, or the indexes of a range, and where the choice starts
pub data Index : Type 0 where
  index : (at : ℕ) → Static → Index
  indexes : (at : ℕ) → Range → Index

abbrev pub index_start : Index → ℕ
index_start (index at s) = at
index_start (indexes at r) = at

mutual
  -- an integer that a run computes
  pub data Computed : Type 0 where
    -- a static one beside such
    static : Static → Computed
    -- to_integer, of a number
    number_of : (at : ℕ) → Vector → Computed
    -- a signal, and the variable of this number, of an integer type
    signal_number : Signal → Computed
    variable_number : ℕ → Computed
    negated : (at : ℕ) → Computed → Computed
    magnitude : (at : ℕ) → Computed → Computed
    calculated : (at : ℕ) → Arithmetic → Computed → Computed → Computed

  -- of a vector, the part that a run chooses: an element by its index (8.4), or a slice by its bounds (8.5)
  pub data Chosen : Type 0 where
    element_at : Computed → Chosen
    slice_at : (left : Computed) → Direction → (right : Computed) → Chosen

  pub data Vector : Type 0 where
    of_signal : SignalPart → Vector
    of_variable : (at : ℕ) → ℕ → Part → Vector
    of_constant : (at : ℕ) → ℕ → Part → Vector
    -- and of them what a run chooses
    in_signal : (at : ℕ) → Signal → Chosen → Vector
    in_variable : (at : ℕ) → ℕ → Chosen → Vector
    in_constant : (at : ℕ) → ℕ → Chosen → Vector
    -- A character literal with no parentheses round it, nor round the operand on its left: an edge test is `event p`
    -- with `alike (elements (of_signal p)) (elements (character v))`, v being '0' or '1'.
    character : Nine → Vector
    -- any other character literal
    enclosed_character : Nine → Vector
    -- a string or bit string
    literal : (at : ℕ) → List Nine → Vector
    inverse : Vector → Vector
    binary : (at : ℕ) → VectorOperator → Vector → Vector → Vector
    -- of a number and a static integer, and of a static integer and a number
    with_integer : (at : ℕ) → Numeric → Vector → Static → Vector
    integer_with : (at : ℕ) → Numeric → Static → Vector → Vector
    -- the same, where a run computes the integer
    with_computed : (at : ℕ) → Numeric → Vector → Computed → Vector
    computed_with : (at : ℕ) → Numeric → Computed → Vector → Vector
    -- to_unsigned, of a number and a size; the number may be computed
    encoded : (at : ℕ) → Static → Static → Vector
    computed_encoded : (at : ℕ) → Computed → Static → Vector
    -- an operator, a number and a count
    counted : (at : ℕ) → Counted → Vector → Static → Vector
    -- a shift or rotate, a number, and how many places, which a run computes
    shifted : (at : ℕ) → Shift → Vector → Computed → Vector
    -- an aggregate (9.3.3): where it starts, the range of its indexes where it is given to what has one, and its
    -- elements
    aggregate : (at : ℕ) → Option Range → Elements → Vector
    -- as long as this range, as a type of that range wants it (9.3.5, 9.3.6)
    sized : (at : ℕ) → Range → Vector → Vector

  -- of an aggregate, in order of the text
  pub data Elements : Type 0 where
    no_elements : Elements
    -- the next from the left: one element, or as many as a vector has
    next : Vector → Elements → Elements
    -- one element, for each of these indexes
    chosen : List Index → Vector → Elements → Elements
    -- and for each that is left
    others : Vector → Elements

-- what is assigned, compared or selected by: elements of the nine values, an integer, or a value of an enumeration
pub data Value : Type 0 where
  elements : Vector → Value
  -- an enumeration's literal, by its position
  position : ℕ → Value
  -- a signal or variable of an enumeration
  state_of : Signal → Value
  state_of_variable : ℕ → Value
  computed : Computed → Value
  -- a boolean that is static: '1' where it is true, and '0' where it is false
  static_truth : StaticTest → Value

-- ---- truth

pub data Test : Type 0 where
  -- one element as a condition
  holds : Vector → Test
  fixed : StaticTest → Test
  -- equality of the values, and its negation
  alike : (at : ℕ) → Value → Value → Test
  unlike : (at : ℕ) → Value → Value → Test
  -- of two numbers; of a number and a static integer, and of a static integer and a number
  compared : (at : ℕ) → Cmp → Vector → Vector → Test
  compared_to : (at : ℕ) → Cmp → Vector → Static → Test
  compared_with : (at : ℕ) → Cmp → Static → Vector → Test
  -- the same, where a run computes the integer, and of two integers of which it computes one at least
  compared_to_computed : (at : ℕ) → Cmp → Vector → Computed → Test
  compared_with_computed : (at : ℕ) → Cmp → Computed → Vector → Test
  computed_compared : (at : ℕ) → Cmp → Computed → Computed → Test
  -- rising_edge and falling_edge
  edge : Edge → SignalPart → Test
  event : SignalPart → Test
  negated : Test → Test
  both : Logic → Test → Test → Test
