-- Declarations, where they are in sight, and what a name means there (IEEE 1076-2008, 12.1 to 12.3).
use Rattle.std.specs.Prelude.{ℕ, suc, Bool, true, false, not, ◌&&◌, List, [], ◌∷◌, ◌++◌, map, length, count_by, find, Option, Some, None, option_map, is_some, bytes_eq}
use Rattle.std.specs.List.{list_any}
use Rattle.vhdl_values.specs.declared.scalar.Nine.{Nine}
use Rattle.vhdl_lexer.specs.declared.language.Language.{Language}
use Rattle.vhdl_tree.specs.declared.declaration.Mode.{Mode}
use Rattle.vhdl_tree.specs.declared.operator.Direction.{Direction}
use Rattle.vhdl_tree.specs.Tree.{Ident}
use Rattle.vhdl_names_rules.specs.declared.kind.ElementKind.{ElementKind}
use Rattle.vhdl_names_rules.specs.declared.kind.ObjectType.{ObjectType}
use Rattle.vhdl_names_rules.specs.declared.kind.Function.{Function}
use Rattle.vhdl_names_rules.specs.declared.operator.IntegerType.{IntegerType}

abbrev pub Name : Type 0
Name = List ℕ

-- ---- names

abbrev pub is_among : Name → List Name → Bool
is_among n ns = list_any (bytes_eq n) ns

-- no name stands twice
abbrev pub are_distinct : List Name → Bool
are_distinct [] = true
are_distinct (n ∷ ns) = not (is_among n ns) && are_distinct ns

abbrev pub name_of : Ident → Name
name_of i = i.text

abbrev pub names_of : List Ident → List Name
names_of = map name_of

-- an end name, if there is one, repeats the name at the beginning
abbrev pub ends : Name → Option Ident → Bool
ends n None = true
ends n (Some e) = bytes_eq n e.text

-- an end label repeats the label; where no label stands, none stands at the end
abbrev pub label_ends : Option Ident → Option Ident → Bool
label_ends l None = true
label_ends None (Some e) = false
label_ends (Some l) (Some e) = bytes_eq l.text e.text

-- ---- declarations

-- What a name is declared to be. Objects are numbered from 0 within their class.
pub data Meaning : Type 0 where
  -- integers
  generic : ℕ → Meaning
  integer_constant : ℕ → Meaning
  generate_parameter : ℕ → Meaning
  loop_parameter : ℕ → Meaning
  -- booleans, numbered among the integers, and their literals
  boolean_generic : ℕ → Meaning
  boolean_constant : ℕ → Meaning
  boolean_literal : Bool → Meaning
  -- objects of other types
  port : ℕ → Mode → ObjectType → Meaning
  signal : ℕ → ObjectType → Meaning
  variable : ℕ → ObjectType → Meaning
  -- with the literal that declares it, if one does
  constant : ℕ → ElementKind → Option (List Nine) → Meaning
  -- the literal of an enumeration, at this position
  literal : (number count position : ℕ) → Meaning
  -- types and their subtypes: of integers; of booleans; of one element, and of vectors, with whether they are resolved;
  -- enumerations
  integer_type : IntegerType → Meaning
  boolean_type : Meaning
  element_type : (is_resolved : Bool) → Meaning
  vector_type : ElementKind → (is_resolved : Bool) → Meaning
  enumeration_type : (number count : ℕ) → Meaning
  function : Function → Meaning
  -- a component, of the unit of this number
  component : ℕ → Meaning
  label : Meaning
  -- a name within its own declaration
  unfinished : Meaning

-- the range of a vector, or of a subtype of vectors or integers (5.2.1, 6.3): its number among those that are declared
-- before it, and its direction
pub record DeclaredRange : Type 0 where
  pub number : ℕ
  pub direction : Direction

pub record Declared : Type 0 where
  pub name : Name
  pub meaning : Meaning
  pub range : Option DeclaredRange
  -- whether its value or its range is globally static alone: it names a generic or a parameter (9.4.3)
  pub is_global : Bool

abbrev pub declare : Name → Meaning → Declared
declare n m = record { name = n; meaning = m; range = None; is_global = false }

-- names of one meaning
abbrev pub all_declared : Meaning → List Name → List Declared
all_declared m ns = map (λ n. declare n m) ns

-- names that are declared together, numbered from here on
abbrev pub numbered : (ℕ → Meaning) → ℕ → List Name → List Declared
numbered meaning k [] = []
numbered meaning k (n ∷ ns) = declare n (meaning k) ∷ numbered meaning (suc k) ns

-- declarations with a range, which are numbered from here on
abbrev pub ranged : Option Direction → ℕ → List Declared → List Declared
ranged None k ds = ds
ranged (Some direction) k [] = []
ranged (Some direction) k (d ∷ ds) =
    record d { range = Some (record { number = k; direction = direction }) } ∷ ranged (Some direction) (suc k) ds

-- declarations that are globally static alone, if this holds
abbrev pub global_if : Bool → List Declared → List Declared
global_if is_global ds = map (λ (d : Declared). record d { is_global = is_global }) ds

-- ---- the declarations in sight of a place

pub record Sight : Type 0 where
  -- parameters of the loops round the place, the innermost first
  pub loops : List Declared
  -- variables of the process
  pub variables : List Declared
  -- parameters of the generates round the place, the innermost first
  pub generates : List Declared
  -- the region of the entity and its architecture, up to the place
  pub region : List Declared
  -- the region that a component stands in
  pub enclosing : List Declared
  -- what is in sight of the packages
  pub packages : List Declared
  -- whether the operators of numeric_std are in sight
  pub numbers : Bool
  -- which is read
  pub language : Language

-- an inner declaration hides the outer ones of its name
abbrev pub in_sight : Sight → List Declared
in_sight s = s.loops ++ (s.variables ++ (s.generates ++ (s.region ++ (s.enclosing ++ s.packages))))

-- the declaration that a name is of, and what it means
abbrev pub declaration : Sight → Name → Option Declared
declaration s n = find (λ d. bytes_eq n d.name) (in_sight s)

abbrev pub meaning : Sight → Name → Option Meaning
meaning s n = option_map (λ d. d.meaning) (declaration s n)

-- a loop's parameter, numbered by the loops round it; it hides outer names
abbrev pub within_loop : Sight → Ident → Sight
within_loop s i = record s { loops = declare i.text (loop_parameter (length s.loops)) ∷ s.loops }

-- a generate's parameter likewise
abbrev pub within_generate : Sight → Ident → Sight
within_generate s i =
    record s { generates = declare i.text (generate_parameter (length s.generates)) ∷ s.generates }

-- further declarations of the region, and further variables
abbrev pub with_declared : Sight → List Declared → Sight
with_declared s ds = record s { region = s.region ++ ds }

abbrev pub with_variables : Sight → List Declared → Sight
with_variables s ds = record s { variables = s.variables ++ ds }

-- the declarations of the region, and of the process if the place is inside one
abbrev pub declared_here : Sight → List Declared
declared_here s = s.region ++ s.variables

-- Declarations one after another: the scope of each goes on to the end of the region (12.2), and within itself it hides
-- outer names without being visible (12.3). What each declares, and what is analysed of it.
pub record Declares (A : Type 0) : Type 0 where
  pub declared : List Declared
  pub analysed : List A

abbrev pub followed_by : {A : Type 0} → Declares A → Declares A → Declares A
followed_by d e = record { declared = d.declared ++ e.declared; analysed = d.analysed ++ e.analysed }

-- ---- how many declarations of a class there are

abbrev pub count_of : (Meaning → Bool) → List Declared → ℕ
count_of class ds = count_by (λ d. class d.meaning) ds

abbrev pub is_generic : Meaning → Bool
is_generic (generic k) = true
is_generic (boolean_generic k) = true
is_generic _ = false

abbrev pub is_port : Meaning → Bool
is_port (port k mode kind) = true
is_port _ = false

abbrev pub is_integer_constant : Meaning → Bool
is_integer_constant (integer_constant k) = true
is_integer_constant (boolean_constant k) = true
is_integer_constant _ = false

-- a generic of the nine values is one
abbrev pub is_constant : Meaning → Bool
is_constant (constant k kind values) = true
is_constant _ = false

abbrev pub is_signal : Meaning → Bool
is_signal (signal k type) = true
is_signal _ = false

abbrev pub is_variable : Meaning → Bool
is_variable (variable k type) = true
is_variable _ = false

abbrev pub is_enumeration_type : Meaning → Bool
is_enumeration_type (enumeration_type k count) = true
is_enumeration_type _ = false

abbrev pub ranges_count : List Declared → ℕ
ranges_count ds = count_by (λ d. is_some d.range) ds
