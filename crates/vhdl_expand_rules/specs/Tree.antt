-- The tree of instances: a design in which every static value is computed, generates have become their turns, and loops
-- are unrolled. Nothing in it speaks of nets: names stand for the elements of the declarations of the instance that
-- they stand in, numbered from 0 in order of declaration, ports before signals, and from the left (IEEE 1076-2008, 14.2
-- to 14.5).
use Rattle.std.specs.Prelude.{ℕ, ⊤, Bool, List, Option}
use Rattle.rtl_model.specs.bodies.Body.{Stmts}
use Rattle.vhdl_expand_rules.specs.Kinds.{ObjectKind}

-- ---- objects

pub data Role : Type 0 where
  input : Role
  output : Role
  internal : Role

-- A port or a signal with the byte at which it is declared, and what each of its elements starts with. An associated
-- port has the elements of the actual, in the instance above; any other object has none there.
pub record Object : Type 0 where
  pub at : ℕ
  pub name : List ℕ
  pub role : Role
  pub kind : ObjectKind
  pub is_resolved : Bool
  pub starts : List ℕ
  pub actual : Option (List ℕ)

pub record Variable : Type 0 where
  pub name : List ℕ
  pub kind : ObjectKind
  pub starts : List ℕ

-- ---- processes

-- elements of names, from the left, in order of the names
pub data Sensitivity : Type 0 where
  -- of the names of a list
  listed : List ℕ → Sensitivity
  -- of the longest static prefixes of all names that it reads
  every : List ℕ → Sensitivity
  -- what it reads
  as_read : Sensitivity

pub record Process : Type 0 where
  -- the byte of the source at which the process starts, or the concurrent assignment that it is, behind its label
  pub at : ℕ
  -- the labels of the generates round it, each with a dot behind it, and its own
  pub prefix : List ℕ
  pub label : Option (List ℕ)
  -- the elements that it has a driver for, in order, each once
  pub drives : List ℕ
  pub sensitivity : Sensitivity
  pub variables : List Variable
  -- elements stand in it where a flat netlist's body has nets, and where it has places
  pub body : Stmts
  -- how many turns its loops have together, with the numbers that its cases on integers choose by
  pub turns : ℕ

-- ---- instances

mutual
  -- its ports and signals, how many turns its generates have together, and what stands in it
  pub data Instance : Type 0 where
    instance : (objects : List Object) → (turns : ℕ) → Parts → Instance

  -- processes and instances, in order of the text; of an instance the labels of the generates round it and its own
  pub data Parts : Type 0 where
    no_parts : Parts
    process : Process → Parts → Parts
    inner : (label : List ℕ) → Instance → Parts → Parts

abbrev pub followed_by : Parts → Parts → Parts
followed_by no_parts rest = rest
followed_by (process p more) rest = process p (followed_by more rest)
followed_by (inner label i more) rest = inner label i (followed_by more rest)

abbrev pub objects_of : Instance → List Object
objects_of (instance objects turns parts) = objects

-- where this holds of the objects of each instance in a tree
abbrev mutual
  pub EachInstance : (List Object → Type 0) → Instance → Type 0
  EachInstance Holds (instance objects turns parts) = Holds objects × EachInner Holds parts

  pub EachInner : (List Object → Type 0) → Parts → Type 0
  EachInner Holds no_parts = ⊤
  EachInner Holds (process p rest) = EachInner Holds rest
  EachInner Holds (inner label i rest) = EachInstance Holds i × EachInner Holds rest
