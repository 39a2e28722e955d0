-- What a netlist is to a simulation: its processes, where each net's value comes from, and how values are resolved and
-- compared (IEEE 1076-2008, 14.7.2 and 14.7.3). Nets, processes and values are numbers: a net and a process by its
-- place in the elaborated design, a value by its place in its type. A valuation is the list of all nets' values.
use Rattle.std.specs.Prelude.{false, ◌≡◌, ℕ, ◌<◌, Bool, List, [], length, slice_index, slice_index_or, map, Option, Some, None, IsTrue, ◌==◌, ◌&&◌}
use Rattle.std.specs.List.{list_any, range_with_len}
-- the edge tests: `rising_edge`, `falling_edge`, and an event to exactly '1' or '0'
pub use Rattle.vhdl_values.specs.declared.kinds.Edge.{Edge}
pub use Rattle.vhdl_values.specs.declared.kinds.Edge.TheVariants.{Rising, Falling, To1, To0}

-- An asynchronous reset: the test is that the net has just this value, and each driver that the reset's branch assigns
-- has its entry. A reset that gates keeps the branch under the edge from running while it holds; one that doesn't
-- stands behind that branch, and its entries replace the branch's.
pub record Reset : Type 0 where
  pub net : ℕ
  pub value : ℕ
  pub entries : List (Option ℕ)
  pub gates : Bool

-- A copy of a net has, for each value of that net, what is passed on.
pub record Copy : Type 0 where
  pub net : ℕ
  pub passed : ℕ → ℕ

-- A clocked process acts at one edge of one net, its clock, and at its reset if it has one. What is neither clocked nor
-- combinational is mixed. (Where no process has a reset, whatever is said of resets below says nothing.)
pub data ProcessKind : Type 0 where
  Combinational : ProcessKind
  Clocked : (clock : ℕ) → (edge : Edge) → (reset : Option Reset) → ProcessKind
  Mixed : ProcessKind

-- A process has one driver for each place of `drives`, which names the driver's net (14.7.2).
pub record Process : Type 0 where
  pub drives : List ℕ
  -- what each driver starts with
  pub starts : List ℕ
  -- its sensitivity: the nets whose events resume it
  pub wakes : List ℕ
  -- the nets that its body reads, and of a clocked process those that the branch under its edge reads: in any order,
  -- and perhaps several times
  pub reads : List ℕ
  pub acting_reads : List ℕ
  -- of those that it reads the nets that the driver at a place looks at: of a combinational process they alone decide
  -- its entry
  pub looks : (place : ℕ) → List ℕ
  -- where the body is one assignment to the driver at a place, of one net's element or its `not`: what that copies
  pub copies : (place : ℕ) → Option Copy
  pub kind : ProcessKind
  -- from the valuations before and now, at each driver's place the value that the body assigns, if it assigns one
  pub effect : (before now : List ℕ) → List (Option ℕ)
  -- of a clocked process, the effect of the branch under its edge, in a valuation
  pub acting_effect : (now : List ℕ) → List (Option ℕ)
  -- whether the body assigns this net on every syntactic path
  pub assigns : (net : ℕ) → Bool
  -- whether the body stores the element at this place of this variable: it reads it where the statements before don't
  -- assign it on every syntactic path
  pub stores : (variable place : ℕ) → Bool

-- a source of a net: a driver, by its process and place, or an idle port with the value that it holds for ever
pub data Source : Type 0 where
  Driver : (process : ℕ) → (place : ℕ) → Source
  Idle : (value : ℕ) → Source

pub record Netlist : Type 0 where
  -- the nets of the top's in ports
  pub inputs : List ℕ
  -- what each net starts with; there are as many nets
  pub start : List ℕ
  -- how many values each net's type has
  pub limits : List ℕ
  -- the sources of each net
  pub sources : List (List Source)
  pub processes : List Process
  -- resolution, and the edge tests from an old to a new value
  pub resolve : List ℕ → ℕ
  pub edge : Edge → (old new : ℕ) → Bool
  -- whether it was read by the wider language: then it may have loops of processes in which no net depends on itself,
  -- and resets that processes drive
  pub wide : Bool

-- what stands at a number that no process has
abbrev pub no_process : Process
no_process = record {
  drives = [];
  starts = [];
  wakes = [];
  reads = [];
  acting_reads = [];
  looks = λ place. [];
  copies = λ place. None;
  kind = Combinational;
  effect = λ before now. [];
  acting_effect = λ now. [];
  assigns = λ net. false;
  stores = λ variable place. false;
}

abbrev pub process : Netlist → ℕ → Process
process net p = slice_index_or net.processes p no_process

abbrev pub sources_of : Netlist → ℕ → List Source
sources_of net n = slice_index_or net.sources n []

abbrev pub IsInput : Netlist → ℕ → Type 0
IsInput net n = IsTrue (list_any (λ m. m == n) net.inputs)

-- process p has a driver at this place
abbrev pub HasPlace : Netlist → ℕ → ℕ → Type 0
HasPlace net p place = place < length (process net p).drives

-- the net of the driver at this place of process p
abbrev pub target : Netlist → ℕ → ℕ → ℕ
target net p place = slice_index (process net p).drives place

-- some process drives n
abbrev pub IsDriven : Netlist → ℕ → Type 0
IsDriven net n = (p : ℕ) × (place : ℕ) × HasPlace net p place × (target net p place ≡ n)

abbrev pub IsCombinational : Netlist → ℕ → Type 0
IsCombinational net p = (p < length net.processes) × ((process net p).kind ≡ Combinational)

-- process p is clocked by this edge of this net, with or without a reset
abbrev pub IsClockedBy : Netlist → ℕ → ℕ → Edge → Type 0
IsClockedBy net p clock edge = (reset : Option Reset) × ((process net p).kind ≡ Clocked clock edge reset)

-- n is the clock of process p
abbrev pub IsClockOf : Netlist → (p n : ℕ) → Type 0
IsClockOf net p n = (edge : Edge) × IsClockedBy net p n edge

-- some process is clocked by n
abbrev pub IsClock : Netlist → ℕ → Type 0
IsClock net n = (p : ℕ) × IsClockOf net p n

-- the reset of a process, if it has one
abbrev pub kind_reset : ProcessKind → Option Reset
kind_reset (Clocked clock edge reset) = reset
kind_reset Combinational = None
kind_reset Mixed = None

abbrev pub reset_of : Netlist → ℕ → Option Reset
reset_of net p = kind_reset (process net p).kind

abbrev pub HasReset : Netlist → ℕ → Reset → Type 0
HasReset net p reset = reset_of net p ≡ Some reset

-- whether a reset's test holds in these values of the nets
abbrev pub resets : Option Reset → (values : ℕ → ℕ) → Bool
resets None values = false
resets (Some reset) values = values reset.net == reset.value

-- whether it then keeps the branch under the edge from running: it gates, and holds
abbrev pub holds_back : Option Reset → (values : ℕ → ℕ) → Bool
holds_back None values = false
holds_back (Some reset) values = reset.gates && values reset.net == reset.value

-- the entry that a reset's branch has for the driver at a place
abbrev pub reset_entry : Option Reset → (place : ℕ) → Option ℕ
reset_entry None place = None
reset_entry (Some reset) place = slice_index_or reset.entries place None

-- n numbers, the k-th of them f k
abbrev pub table : ℕ → (ℕ → ℕ) → List ℕ
table n f = map f (range_with_len 0 n)
