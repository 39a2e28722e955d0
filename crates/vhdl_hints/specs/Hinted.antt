-- Hints, as data.
use Rattle.std.specs.Prelude.{ℕ, Bool, true, false, List, Option, Some, None}
use Rattle.vhdl_slips.specs.Forms.{Said}
use Rattle.vhdl_misfits.specs.Lengths.{Measure, measure_view}
use Rattle.vhdl_hints.specs.declared.hint.Hint as code
use Rattle.vhdl_hints.specs.declared.hint.Hint.TheVariants as c
use Rattle.vhdl_lexer.specs.declared.token.Token.{Token}

pub data Hint : Type 0 where
  -- nothing more than its rule
  Nothing : Hint
  -- this of the word
  Form : Said → Hint
  -- an entity has no generic or port of a name; it has these
  NoFormal : (entity formal : Token) → (is_port : Bool) → (formals : List Token) → Hint
  -- an instance leaves this port of its entity open
  OpenPort : (entity port : Token) → Hint
  -- what ends there has another name
  OtherName : (name : Token) → Hint
  -- an index or slice of a name, and the bounds that are declared
  Outside : (name : Token) → (index bounds : List Token) → Hint
  -- a range has no element: its bounds, and its direction
  Empty : (left right : Token) → (is_upward : Bool) → Hint
  -- an actual has another length than its port, which has these bounds
  Actual : (entity port : Token) → (bounds : List Token) → (found needed : ℕ) → Hint
  -- an actual has another type than its port
  OtherType : (entity port : Token) → Hint
  -- a component differs from its entity, which has these generics and ports
  Differs : (generics ports : List Token) → Hint
  -- a word that is nearly the same may be meant
  Meant : (word : List ℕ) → Hint
  -- an entity of nearly the same name may be meant
  NearEntity : (name : Token) → Hint
  -- two lengths differ, which are measured so
  Measured : Measure → (found needed : ℕ) → Hint
  -- what stands in a map can't stand there for a generic or port of an entity, which has these
  NoPosition : (entity : Token) → (is_port : Bool) → (formals : List Token) → Hint

abbrev pub hint_view : code.Hint → Hint
hint_view c.Nothing = Nothing
hint_view (c.Form said) = Form (said.0.now, said.1.now)
hint_view (c.NoFormal entity formal is_port formals) = NoFormal entity formal is_port formals.now
hint_view (c.OpenPort entity port) = OpenPort entity port
hint_view (c.OtherName name) = OtherName name
hint_view (c.Outside name index bounds) = Outside name index.now bounds.now
hint_view (c.Empty left right is_upward) = Empty left right is_upward
hint_view (c.Actual entity port bounds found needed) = Actual entity port bounds.now found needed
hint_view (c.OtherType entity port) = OtherType entity port
hint_view (c.Differs generics ports) = Differs generics.now ports.now
hint_view (c.Meant word) = Meant word.now
hint_view (c.NearEntity name) = NearEntity name
hint_view (c.Measured said found needed) = Measured (measure_view said) found needed
hint_view (c.NoPosition entity is_port formals) = NoPosition entity is_port formals.now

-- what the code says of a word
abbrev pub form : (said : record { now : List ℕ } × record { now : List ℕ }) → Hint
form said = Form (said.0.now, said.1.now)

-- what is told of a word, or nothing
abbrev pub told_hint : Option Said → Hint
told_hint None = Nothing
told_hint (Some said) = Form said

-- the first of two that tells something
abbrev pub or_else : (first second : Hint) → Hint
or_else Nothing second = second
or_else first second = first

abbrev pub is_nothing : Hint → Bool
is_nothing Nothing = true
is_nothing _ = false
