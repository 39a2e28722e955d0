-- The units of a file: entities in order of the text, each with its architecture (IEEE 1076-2008, clauses 3, 6 and 11).
-- What is declared has the byte at which its name starts, a process that at which it starts itself, an instance that of
-- its label, and a generate that of its scheme.
use Rattle.std.specs.Prelude.{ℕ, Bool, List, Option}
use Rattle.vhdl_values.specs.declared.scalar.Nine.{Nine}
use Rattle.vhdl_tree.specs.declared.declaration.Mode.{Mode}
use Rattle.vhdl_names_rules.specs.declared.operator.IntegerType.{IntegerType}
use Rattle.vhdl_names_rules.specs.units.Expressions.{Static, Range, StaticTest, SignalPart, Elements}
use Rattle.vhdl_names_rules.specs.units.Statements.{Given, Statements}

-- ---- declarations

-- of which integers a subtype is: of a type's, or of those in the declared range of this number
pub data Integers : Type 0 where
  of_type : IntegerType → Integers
  of_range : ℕ → Integers

-- an integer subtype (6.3): those, or of them those in a range, which starts here
pub record IntegerSubtype : Type 0 where
  pub base : Integers
  pub range : Option (ℕ × Range)

-- one element, a vector of this range, an enumeration of so many literals, an integer, or a boolean, which is one
-- element: '1' where it is true, and '0' where it is false
pub data Form : Type 0 where
  element : Form
  vector : Range → Form
  enumeration : (count : ℕ) → Form
  number : IntegerSubtype → Form
  boolean : Form

-- the value of a constant or generic, or a default
pub data Fixed : Type 0 where
  -- a character, string or bit string literal
  literal : List Nine → Fixed
  -- an enumeration's literal
  position : ℕ → Fixed
  -- the constant of this number that is no integer
  constant : ℕ → Fixed
  -- to_unsigned
  encoded : Static → Static → Fixed
  -- (others => c)
  filled : Nine → Fixed
  -- any other value that names no signal and no variable
  given : Given → Fixed
  -- of a generic, an aggregate that starts here and has the generic's indexes
  aggregate : (at : ℕ) → Elements → Fixed
  -- of an integer, and of a boolean
  integer : Static → Fixed
  truth : StaticTest → Fixed

-- Integers, and booleans among them, are numbered by themselves. A generic of the nine values is a constant.
pub data GenericType : Type 0 where
  integers : IntegerSubtype → GenericType
  truths : GenericType
  values : Form → GenericType

pub record Generic : Type 0 where
  pub at : ℕ
  pub name : List ℕ
  pub type : GenericType
  pub default : Option Fixed

-- a port, signal or variable
pub record Object : Type 0 where
  pub at : ℕ
  pub name : List ℕ
  pub form : Form
  -- whether several sources of an element are resolved; a variable has none
  pub is_resolved : Bool
  pub default : Option Fixed

pub record Port : Type 0 where
  pub mode : Mode
  pub object : Object

-- In order of the text; each kind is numbered by itself. A boolean constant is an integer by its position. The ranges
-- of vectors and subtypes are numbered too: those of generics and ports, then those of declarations, then those of a
-- process's.
pub data Declaration : Type 0 where
  integer : (at : ℕ) → IntegerSubtype → Static → Declaration
  truth : (at : ℕ) → StaticTest → Declaration
  constant : (at : ℕ) → Form → Fixed → Declaration
  signal : Object → Declaration
  -- of a process alone
  variable : Object → Declaration
  -- subtypes with a range (6.3)
  vector_subtype : (at : ℕ) → Range → Declaration
  integer_subtype : (at : ℕ) → IntegerSubtype → Declaration

-- ---- concurrent statements

pub data Sensitivity : Type 0 where
  listed : List SignalPart → Sensitivity
  -- ( all )
  every : Sensitivity
  -- of a concurrent assignment: what it reads
  as_read : Sensitivity

pub record Process : Type 0 where
  pub at : ℕ
  pub label : Option (List ℕ)
  -- constants, subtypes and variables
  pub declarations : List Declaration
  pub sensitivity : Sensitivity
  pub body : Statements

-- of the unit of this number: each generic's actual, and each port's, None where it is open or not associated
pub record Instance : Type 0 where
  pub at : ℕ
  pub label : List ℕ
  pub unit : ℕ
  pub generics : List (Option Fixed)
  pub ports : List (Option SignalPart)

mutual
  pub data Concurrent : Type 0 where
    process : Process → Concurrent
    instance : Instance → Concurrent
    generate_for : (at : ℕ) → (label : List ℕ) → Range → Concurrents → Concurrent
    generate_if : (at : ℕ) → (label : List ℕ) → StaticTest → Concurrents → Concurrent

  pub data Concurrents : Type 0 where
    no_concurrents : Concurrents
    concurrent : Concurrent → Concurrents → Concurrents

-- ---- units

pub record Architecture : Type 0 where
  pub declarations : List Declaration
  pub statements : Concurrents

-- an entity, and its architecture if the file has one
pub record Entity : Type 0 where
  pub at : ℕ
  pub name : List ℕ
  pub generics : List Generic
  pub ports : List Port
  pub architecture : Option Architecture

-- instances speak of a unit by its place in this list
abbrev pub Units : Type 0
Units = List Entity
