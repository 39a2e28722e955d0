-- What is known where an expression stands, and the elements that its names mean. The elements of a unit's ports and
-- signals are numbered from 0 in order of declaration, ports before signals, and from the left; those of a process's
-- variables in the same way (IEEE 1076-2008, 8.1 to 8.5).
use Rattle.std.specs.Prelude.{ℕ, ◌+◌, List, [], ◌∷◌, ◌++◌, map, take, sum, slice_get, slice_index_or, Option, Some, ℤ, Ok}
use Rattle.vhdl_values.specs.declared.scalar.Nine.{Nine}
use Rattle.vhdl_values.specs.declared.scalar.Nine.TheVariants.{X}
use Rattle.vhdl_names_rules.specs.units.Expressions as u
use Rattle.vhdl_names_rules.specs.units.Expressions.{Signal, Part, SignalPart}
use Rattle.vhdl_expand_rules.specs.declared.fault.ElabProblem.TheVariants.{Index}
use Rattle.vhdl_expand_rules.specs.Elab.{Elab, ◌>>=◌, refused, item_or}
use Rattle.vhdl_expand_rules.specs.Integers.{IntegerRange, Integers}
use Rattle.vhdl_expand_rules.specs.Kinds.{ObjectKind, vector, integer, Bounds, size, places}

-- a constant that is no integer
pub record Constant : Type 0 where
  pub kind : ObjectKind
  pub values : List Nine

pub record Site : Type 0 where
  pub integers : Integers
  pub constants : List Constant
  pub ports : List ObjectKind
  pub signals : List ObjectKind
  -- of the process
  pub variables : List ObjectKind

-- nothing is declared, as above the top
abbrev pub no_integers : Integers
no_integers = record { generics = []; constants = []; generates = []; loops = []; ranges = [] }

abbrev pub no_site : Site
no_site = record { integers = no_integers; constants = []; ports = []; signals = []; variables = [] }

-- with more ranges that are declared
abbrev pub with_ranges : Site → List IntegerRange → Site
with_ranges here rs = record here { integers = record here.integers { ranges = here.integers.ranges ++ rs } }

-- within a turn of a generate, and of a loop
abbrev pub in_generate : Site → ℤ → Site
in_generate here i = record here { integers = record here.integers { generates = here.integers.generates ++ i ∷ [] } }

abbrev pub in_loop : Site → ℤ → Site
in_loop here i = record here { integers = record here.integers { loops = here.integers.loops ++ i ∷ [] } }

-- ---- elements

-- how many elements things of these kinds have together
abbrev pub elements_count : List ObjectKind → ℕ
elements_count kinds = sum (map size kinds)

-- the elements of a part of the thing of this number, the first of all having the number `from`
abbrev pub part_elements : Integers → (at : ℕ) → (from : ℕ) → List ObjectKind → ℕ → Part → Elab (List ℕ)
part_elements here at from kinds k part = do
  kind ← item_or Index at (slice_get kinds k)
  ps ← places here at kind part
  Ok (map (λ p. from + elements_count (take k kinds) + p) ps)

-- of a signal's or port's name
unfoldable pub signal_elements : Site → (at : ℕ) → Signal → Part → Elab (List ℕ)
signal_elements here at (u.port k) part = part_elements here.integers at 0 here.ports k part
signal_elements here at (u.Signal.signal k) part =
    part_elements here.integers at (elements_count here.ports) here.signals k part

abbrev pub place_elements : Site → SignalPart → Elab (List ℕ)
place_elements here p = signal_elements here p.at p.signal p.part

-- of a variable's name
unfoldable pub variable_elements : Site → (at : ℕ) → ℕ → Part → Elab (List ℕ)
variable_elements here at k part = part_elements here.integers at 0 here.variables k part

-- the values of a part of a constant
unfoldable pub constant_values : Site → (at : ℕ) → ℕ → Part → Elab (List Nine)
constant_values here at k part = do
  c ← item_or Index at (slice_get here.constants k)
  ps ← places here.integers at c.kind part
  Ok (map (λ p. slice_index_or c.values p X) ps)

-- ---- what is declared, by its number

abbrev pub signal_kind : Site → Signal → Option ObjectKind
signal_kind here (u.port k) = slice_get here.ports k
signal_kind here (u.Signal.signal k) = slice_get here.signals k

-- the bounds of a vector
abbrev pub bounds_of : (at : ℕ) → Option ObjectKind → Elab Bounds
bounds_of at (Some (vector b)) = Ok b
-- of what is no vector a run chooses no part, in units that names have passed
bounds_of at _ = refused Index at

unfoldable pub signal_bounds : Site → (at : ℕ) → Signal → Elab Bounds
signal_bounds here at x = bounds_of at (signal_kind here x)

abbrev pub variable_bounds : Site → (at : ℕ) → ℕ → Elab Bounds
variable_bounds here at k = bounds_of at (slice_get here.variables k)

abbrev pub constant_bounds : Site → (at : ℕ) → ℕ → Elab Bounds
constant_bounds here at k = do
  c ← item_or Index at (slice_get here.constants k)
  bounds_of at (Some c.kind)

-- the range of an integer
abbrev pub integer_range : (at : ℕ) → Option ObjectKind → Elab IntegerRange
integer_range at (Some (integer r)) = Ok r
-- of what is no integer, in units that names have passed, no number is read
integer_range at _ = refused Index at

-- what has one element has this
abbrev pub the_element : (at : ℕ) → Elab (List ℕ) → Elab ℕ
the_element at named = do
  es ← named
  item_or Index at (slice_get es 0)
