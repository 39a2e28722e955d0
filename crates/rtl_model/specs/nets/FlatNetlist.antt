-- A flat netlist: what a design is after elaboration (IEEE 1076-2008, 14.2 to 14.4), as plain data. Nets, processes and
-- the drivers of a process are numbered from 0 by their places in these lists.
use Rattle.std.specs.Prelude.{◌≡◌, ℕ, suc, ◌<◌, Bool, ◌==◌, if◌then◌else◌, All, List, [], ◌∷◌, ◌++◌, length, map, replicate, slice_index_or}
use Rattle.std.specs.List.Sorted.{IsStrictlyIncreasing}
use Rattle.rtl_model.specs.bodies.Body.{Stmts, done}
use Rattle.rtl_model.specs.bodies.Types.{ElementType, nine_valued, enumeration, limit_of, IsByte, HasType, KeepsTypes}
use Rattle.rtl_model.specs.bodies.Fits.{Scope, IsWidth, Fits}
use Rattle.rtl_model.specs.simulation.Netlist.{Source, Driver, Idle}

-- a driver of a process: its net, and the value that it starts with (14.7.2)
pub record FlatDriver : Type 0 where
  pub net : ℕ
  pub start : ℕ

-- a variable of a process: its elements' type, and their initial values from the left (6.4.2.4)
pub record FlatVariable : Type 0 where
  pub type_of : ElementType
  pub starts : List ℕ

pub record FlatProcess : Type 0 where
  -- the places of a body's signal assignments count these
  pub drivers : List FlatDriver
  -- the nets that it is sensitive to, in order
  pub wakes : List ℕ
  -- in order of declaration
  pub variables : List FlatVariable
  pub body : Stmts

pub record FlatNetlist : Type 0 where
  -- the type of each net
  pub types : List ElementType
  -- what each net starts with
  pub start : List ℕ
  -- the nets of the top's in ports
  pub inputs : List ℕ
  -- of each net, the values that its idle out ports hold for ever
  pub idle : List (List ℕ)
  pub processes : List FlatProcess
  -- whether it was read by the wider language
  pub wide : Bool

-- what stands at a number that no process has
abbrev pub no_flat_process : FlatProcess
no_flat_process = record { drivers = []; wakes = []; variables = []; body = done }

abbrev pub process_at : FlatNetlist → ℕ → FlatProcess
process_at net p = slice_index_or net.processes p no_flat_process

-- ---- drivers and variables of a process

-- the nets of a process's drivers
abbrev pub targets : FlatProcess → List ℕ
targets p = map (λ (d : FlatDriver). d.net) p.drivers

-- what each of them starts with
abbrev pub starts : FlatProcess → List ℕ
starts p = map (λ (d : FlatDriver). d.start) p.drivers

-- what the elements of these variables start each run with, and their types: the number of an element is its place here
abbrev pub element_starts : List FlatVariable → List ℕ
element_starts [] = []
element_starts (v ∷ vs) = v.starts ++ element_starts vs

abbrev pub element_types : List FlatVariable → List ElementType
element_types [] = []
element_types (v ∷ vs) = replicate (length v.starts) v.type_of ++ element_types vs

abbrev pub scope_of : List ElementType → FlatProcess → Scope
scope_of types p = record { nets = types; variables = element_types p.variables; targets = targets p }

-- ---- sources of a net

-- of the drivers of process p with these nets, the first at this place, those whose net is n
abbrev pub drivers_of : (n p place : ℕ) → (nets : List ℕ) → List Source
drivers_of n p place [] = []
drivers_of n p place (net ∷ nets) =
    if net == n then Driver p place ∷ drivers_of n p (suc place) nets else drivers_of n p (suc place) nets

-- the same of all drivers of these processes, the first of which is p
abbrev pub all_drivers_of : (n p : ℕ) → List FlatProcess → List Source
all_drivers_of n p [] = []
all_drivers_of n p (q ∷ qs) = drivers_of n p 0 (targets q) ++ all_drivers_of n (suc p) qs

-- The sources of net n: its drivers, by process and place, and after them its idle out ports.
abbrev pub flat_sources : FlatNetlist → (n : ℕ) → List Source
flat_sources net n = all_drivers_of n 0 net.processes ++ map Idle (slice_index_or net.idle n [])

-- ---- in range

-- a driver's net is there, and it starts with a value of that net's type
abbrev pub DriverInRange : List ElementType → FlatDriver → Type 0
DriverInRange types d = (t : ElementType) × HasType types t d.net × (d.start < limit_of t)

-- a variable has elements of the nine values, or one of an enumeration, and each starts with a value of its type
pub record VariableInRange (v : FlatVariable) : Type 0 where
  pub width : IsWidth (length v.starts)
  pub type_fits : IsByte v.type_of
  pub one_literal : (literals : ℕ) → v.type_of ≡ enumeration literals → length v.starts ≡ 1
  pub starts : All (λ x. x < limit_of v.type_of) v.starts

pub record ProcessInRange (types : List ElementType) (p : FlatProcess) : Type 0 where
  pub drivers : All (DriverInRange types) p.drivers
  pub wakes : All (λ net. net < length types) p.wakes
  pub wakes_rise : IsStrictlyIncreasing p.wakes
  pub variables : All VariableInRange p.variables
  pub body : Fits (scope_of types p) p.body

-- The invariant of a flat netlist: every net, place, element and value is in range, and every length is one that a
-- vector can have.
pub record IsInRange (net : FlatNetlist) : Type 0 where
  pub types_fit : All IsByte net.types
  pub each_starts : length net.start ≡ length net.types
  pub each_has_idle : length net.idle ≡ length net.types
  pub starts : KeepsTypes net.types net.start
  -- an idle port holds a value of its net's type
  pub idle : (n : ℕ) (t : ElementType) → HasType net.types t n
      → All (λ v. v < limit_of t) (slice_index_or net.idle n [])
  -- in order, each once; ports are no enumerations, and integers and booleans are of the nine values
  pub inputs_rise : IsStrictlyIncreasing net.inputs
  pub inputs : All (HasType net.types nine_valued) net.inputs
  pub processes : All (ProcessInRange net.types) net.processes
