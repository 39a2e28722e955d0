-- Analysed sequential statements (IEEE 1076-2008, clause 10): a variable assignment with where its target's name
-- starts, an if, a case and a loop with where they start themselves.
use Rattle.std.specs.Prelude.{ℕ, List}
use Rattle.vhdl_values.specs.declared.scalar.Nine.{Nine}
use Rattle.vhdl_names_rules.specs.units.Expressions.{Index, Range, Signal, Part, SignalPart, Chosen, Vector, Value, Test}

-- what is assigned: a value, or (others => e), one element for each of the target's
pub data Given : Type 0 where
  single : Value → Given
  filled : Vector → Given

-- a choice of a case: the values of a literal, an enumeration's literal by its position, or integers (10.9)
pub data Choice : Type 0 where
  values : List Nine → Choice
  position : ℕ → Choice
  numbers : Index → Choice

mutual
  pub data Statement : Type 0 where
    null_of : Statement
    -- to a signal, and to the variable of this number
    assign : SignalPart → Given → Statement
    set : (at : ℕ) → ℕ → Part → Given → Statement
    -- to the part of one that a run chooses, whose name starts here
    assign_in : (at : ℕ) → Signal → Chosen → Given → Statement
    set_in : (at : ℕ) → ℕ → Chosen → Given → Statement
    if_of : (at : ℕ) → Branches → Statement
    case_of : (at : ℕ) → Value → Alternatives → Statement
    -- its parameter is the loop parameter with as many others round it as it has loops
    for_of : (at : ℕ) → Range → Statements → Statement

  pub data Statements : Type 0 where
    done : Statements
    step : Statement → Statements → Statements

  pub data Branches : Type 0 where
    no_else : Branches
    otherwise : Statements → Branches
    branch : Test → Statements → Branches → Branches

  -- Last stands what is done otherwise. A case that names every literal of an enumeration and has no others does its
  -- last alternative there.
  pub data Alternatives : Type 0 where
    others : Statements → Alternatives
    -- the last one of a case on an integer that has no others: whether all are complete is known where they are
    -- computed
    complete : List Choice → Statements → Alternatives
    alternative : List Choice → Statements → Alternatives → Alternatives
