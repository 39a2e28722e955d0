-- A syntax tree as contracts see it: without where it lies in memory.
use Rattle.std.specs.Prelude.{ℕ, Bool, Option, Some, None, List, [], ◌∷◌}
use Rattle.vhdl_lexer.specs.declared.token.TokenKind.{TokenKind}
use Rattle.vhdl_tree.specs.declared.declaration.Mode.{Mode}
pub use Rattle.vhdl_tree.specs.ExpressionTree.{Ident, Attribute, called, of_range, Expr, integer, character, string, bits, named, parens, negation, absolute, power, signed, binary, aggregate, qualified, Suffix, plain, arguments, sliced, Exprs, no_exprs, expr, Elements, no_elements, element, Choices, no_choices, choice, Choice, chosen, chosen_range, otherwise, Pair, joined, all_joined, begun, chained, exprs_of, Element, element_by, choices_of, elements_of, Range, Name, DiscreteRange, bounds, range_named, Value, single, others, Actual, actual, left_open, Association, is_lone, enclosed, is_fill, value_of, name_of}

-- the kinds of the tokens of a text that is read and dropped
abbrev pub Text : Type 0
Text = List TokenKind

-- what stands behind a type's name: ( range ) or `range range`
pub data Constraint : Type 0 where
  index_range : DiscreteRange → Constraint
  value_range : DiscreteRange → Constraint

pub record Subtype : Type 0 where
  pub mark : Ident
  pub constraint : Option Constraint

-- ---- sequential statements

-- value when condition
pub record Branch : Type 0 where
  pub value : Value
  pub condition : Expr

mutual
  pub data Statement : Type 0 where
    -- where `null` starts
    null_of : ℕ → Statement
    -- name <= value, and name := value
    assigned : Name → Value → Statement
    variable_assigned : Name → Value → Statement
    -- whether `:=` stands there, the target, the branches with `when`, and the last value behind `else`
    assigned_when : Bool → Name → List Branch → Option Value → Statement
    -- where `if` starts, its branches, what else is done, and the label at its end
    if_of : ℕ → Conditionals → Otherwise → Option Ident → Statement
    -- where `case` starts, its selector and alternatives, and the label at its end
    case_of : ℕ → Expr → Alternatives → Option Ident → Statement
    -- where `for` starts, its parameter, range and statements, and the label at its end
    for_of : ℕ → Ident → DiscreteRange → Statements → Option Ident → Statement
    -- the texts behind `assert` and `report`
    asserted : Text → Statement
    reported : Text → Statement

  -- each after its label
  pub data Statements : Type 0 where
    done : Statements
    step : Option Ident → Statement → Statements → Statements

  pub data Conditionals : Type 0 where
    no_conditionals : Conditionals
    -- a condition and what it guards
    guarded : Expr → Statements → Conditionals → Conditionals

  pub data Otherwise : Type 0 where
    no_else : Otherwise
    else_do : Statements → Otherwise

  pub data Alternatives : Type 0 where
    no_alternatives : Alternatives
    alternative : List Choice → Statements → Alternatives → Alternatives

pub record Sequential : Type 0 where
  pub label : Option Ident
  pub statement : Statement

pub record Conditional : Type 0 where
  pub condition : Expr
  pub statements : List Sequential

pub record Alternative : Type 0 where
  pub choices : List Choice
  pub statements : List Sequential

abbrev pub guarded_by : Expr → List Sequential → Conditional
guarded_by condition body = record { condition = condition; statements = body }

abbrev pub chosen_by : List Choice → List Sequential → Alternative
chosen_by choices body = record { choices = choices; statements = body }

abbrev pub statements_of : List Sequential → Statements
statements_of [] = done
statements_of (s ∷ ss) = step s.label s.statement (statements_of ss)

abbrev pub conditionals_of : List Conditional → Conditionals
conditionals_of [] = no_conditionals
conditionals_of (c ∷ cs) = guarded c.condition (statements_of c.statements) (conditionals_of cs)

abbrev pub alternatives_of : List Alternative → Alternatives
alternatives_of [] = no_alternatives
alternatives_of (a ∷ more) = alternative a.choices (statements_of a.statements) (alternatives_of more)

abbrev pub otherwise_of : Option (List Sequential) → Otherwise
otherwise_of None = no_else
otherwise_of (Some ss) = else_do (statements_of ss)

-- ---- processes and selected assignments

-- none, ( all ), or names
pub data Sensitivity : Type 0 where
  absent : Sensitivity
  every : Sensitivity
  listed : List Name → Sensitivity

-- variables of a process
pub record Variables : Type 0 where
  pub names : List Ident
  pub subtype : Subtype
  pub default : Option Value

pub record Constants : Type 0 where
  pub names : List Ident
  pub subtype : Subtype
  pub value : Value

pub record Enumeration : Type 0 where
  pub name : Ident
  pub literals : List Ident

-- a subtype and its name
pub record SubtypeDeclaration : Type 0 where
  pub name : Ident
  pub subtype : Subtype

pub data ProcessDeclaration : Type 0 where
  variables : Variables → ProcessDeclaration
  process_constants : Constants → ProcessDeclaration
  process_enumeration : Enumeration → ProcessDeclaration
  process_subtype : SubtypeDeclaration → ProcessDeclaration

-- what a process waits for before its statements, each time round (10.2): where `wait` starts, and the condition
pub record Wait : Type 0 where
  pub at : ℕ
  pub condition : Expr

pub record Process : Type 0 where
  pub at : ℕ
  pub sensitivity : Sensitivity
  pub is_word : Bool
  pub declarations : List ProcessDeclaration
  pub wait : Option Wait
  pub statements : List Sequential
  pub end_label : Option Ident

-- value when choices
pub record Waveform : Type 0 where
  pub value : Value
  pub choices : List Choice

pub record SelectedAssignment : Type 0 where
  pub at : ℕ
  pub selector : Expr
  pub target : Name
  pub waveforms : List Waveform

-- ---- instances

pub data Instantiated : Type 0 where
  -- entity library . name, and the architecture in parentheses
  entity_unit : Ident → Ident → Option Ident → Instantiated
  -- whether `component` stands there, and its name
  component_unit : Bool → Ident → Instantiated

pub record Instance : Type 0 where
  pub unit : Instantiated
  pub generics : Option (List Association)
  pub ports : Option (List Association)

-- ---- concurrent statements

-- the value of the first branch whose condition holds, else the last one, if any
pub record Assignment : Type 0 where
  pub label : Option Ident
  pub target : Name
  pub branches : List Branch
  pub otherwise : Option Value

-- a parameter over a range, or a condition
pub data Scheme : Type 0 where
  for_each : Ident → DiscreteRange → Scheme
  if_holds : Expr → Scheme

-- its label, and the text behind `assert`
pub record Assertion : Type 0 where
  pub label : Option Ident
  pub text : Text

mutual
  -- each with its label, which an assignment and an assertion have themselves
  pub data Concurrent : Type 0 where
    assignment : Assignment → Concurrent
    selected : Option Ident → SelectedAssignment → Concurrent
    process : Option Ident → Process → Concurrent
    instance : Ident → Instance → Concurrent
    -- its label, where its scheme starts, the scheme, whether `begin` stands there, its statements, and the label at
    -- its end
    generated : Ident → ℕ → Scheme → Bool → Concurrents → Option Ident → Concurrent
    assertion : Assertion → Concurrent

  pub data Concurrents : Type 0 where
    no_concurrents : Concurrents
    concurrent : Concurrent → Concurrents → Concurrents

abbrev pub concurrents_of : List Concurrent → Concurrents
concurrents_of [] = no_concurrents
concurrents_of (c ∷ cs) = concurrent c (concurrents_of cs)

-- ---- declarations

pub record Generic : Type 0 where
  pub constant_word : Bool
  pub names : List Ident
  pub in_word : Bool
  pub subtype : Subtype
  pub default : Option Expr

pub record Port : Type 0 where
  pub signal_word : Bool
  pub names : List Ident
  pub mode : Option Mode
  pub subtype : Subtype
  pub default : Option Value

pub record Signals : Type 0 where
  pub names : List Ident
  pub subtype : Subtype
  pub default : Option Value

pub record Component : Type 0 where
  pub name : Ident
  pub is_word : Bool
  pub generics : Option (List Generic)
  pub ports : Option (List Port)
  pub end_name : Option Ident

pub data Declaration : Type 0 where
  signals : Signals → Declaration
  constants : Constants → Declaration
  enumeration : Enumeration → Declaration
  component : Component → Declaration
  subtype_of : SubtypeDeclaration → Declaration
  -- the text behind `attribute`
  attribute_of : Text → Declaration

-- ---- units

pub record Entity : Type 0 where
  pub at : ℕ
  pub name : Ident
  pub generics : Option (List Generic)
  pub ports : Option (List Port)
  -- the texts behind `attribute`, and what stands behind `begin`
  pub attributes : List Text
  pub statements : Option (List Assertion)
  pub end_word : Bool
  pub end_name : Option Ident

pub record Architecture : Type 0 where
  pub at : ℕ
  pub name : Ident
  pub entity : Ident
  pub declarations : List Declaration
  pub statements : List Concurrent
  pub end_word : Bool
  pub end_name : Option Ident

-- library . name . all
pub record Selected : Type 0 where
  pub library : Ident
  pub name : Ident

pub data ContextItem : Type 0 where
  library : List Ident → ContextItem
  uses : List Selected → ContextItem

pub data LibraryUnit : Type 0 where
  entity : Entity → LibraryUnit
  architecture : Architecture → LibraryUnit

pub record DesignUnit : Type 0 where
  pub context : List ContextItem
  pub unit : LibraryUnit

pub record File : Type 0 where
  pub units : List DesignUnit
