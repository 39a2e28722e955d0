-- What an expression is (IEEE 1076-2008, clause 9).
use Rattle.std.specs.Prelude.{ℕ, Bool, List}
use Rattle.vhdl_names_rules.specs.declared.kind.ElementKind.{ElementKind}
use Rattle.vhdl_names_rules.specs.units.Expressions.{Static, Computed, Range, Index, Vector, Value, Test}

-- a choice of an element: `others`, or indexes with whether they are locally static (9.4.2)
pub data TypedChoice : Type 0 where
  others : (at : ℕ) → TypedChoice
  place : (is_local : Bool) → Index → TypedChoice

mutual
  -- a static integer, one that a run computes, one element or a vector of a kind, a value of an enumeration, or a truth
  pub data Typed : Type 0 where
    integer : Static → Typed
    computed : Computed → Typed
    elements : ElementKind → Vector → Typed
    enumerated : (number count : ℕ) → Value → Typed
    truth : Test → Typed
    -- the range that a name is, which is no value
    interval : Range → Typed
    -- an aggregate, which starts here: a value where its type is known
    composite : (at : ℕ) → TypedElements → Typed

  -- each a value behind its choices, and where the value starts
  pub data TypedElements : Type 0 where
    no_elements : TypedElements
    element : List TypedChoice → (at : ℕ) → Typed → TypedElements → TypedElements
