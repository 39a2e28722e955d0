-- What it is that the variables of processes are kept by nets: each run of a process does what the standard has it do,
-- whose variables keep their values from the run before (IEEE 1076-2008, 11.3, 14.5.5).
use Rattle.std.specs.Prelude.{◌≡◌, ℕ, ◌+◌, ◌<◌, Bool, true, false, ◌||◌, if◌then◌else◌, Contains, IsTrue, List, [], ◌∷◌, length, take, slice_index}
use Rattle.std.specs.Prelude.{Some, IsSome, option_map, unwrap_or}
use Rattle.rtl_model.specs.basics.Valuations.{AgreeOn}
use Rattle.rtl_model.specs.bodies.Assigns.{Target, is_element, must_assign, stmts_assign}
use Rattle.rtl_model.specs.bodies.Body.{Test, null_of, assign, set, if_of, Stmts, done, step, no_else, branch}
use Rattle.rtl_model.specs.bodies.Effect.{effect}
use Rattle.rtl_model.specs.bodies.Kinds.{edge_test, reset_test, ResetPart, Clocking, clocking}
use Rattle.rtl_model.specs.bodies.Laws.{SeesTypes}
use Rattle.rtl_model.specs.bodies.Leaves.{Leaf, of_elements, leaves}
use Rattle.rtl_model.specs.bodies.Reads.{reads, events}
use Rattle.rtl_model.specs.bodies.Stored.{stores_element}
use Rattle.rtl_model.specs.bodies.Types.{ElementType}
use Rattle.rtl_model.specs.bodies.Values.{Seen}
use Rattle.rtl_model.specs.bodies.Variables.{variables_after}
use Rattle.rtl_model.specs.nets.CoreNetlist.{core_netlist}
use Rattle.rtl_model.specs.nets.FlatNetlist.{FlatProcess, FlatNetlist, ProcessInRange, IsInRange, element_starts, scope_of, process_at, flat_sources}
use Rattle.rtl_model.specs.nets.Wiring.{IsConnected}
use Rattle.rtl_model.specs.simulation.Accepted.{IsAccepted}
use Rattle.rtl_model.specs.simulation.Netlist.{Driver}
use Rattle.rtl_variable_registers.specs.Bodies.{reset_branch, without_reset, is_register, KeptVariable}
use Rattle.rtl_variable_registers.specs.Known.{never_set, at_start, with_constants}
use Rattle.rtl_variable_registers.specs.Nets.{kept_flat, first_net}
use Rattle.rtl_variable_registers.specs.Processes.{kept_variables, kept_elements, kept_process, rank_in}

-- ---- one run

-- One run is that of the process by itself: it sees its variables as the run before left them. Where the reset's branch
-- looks at something, the variables that no statement sets have their initial values. The other run is that of the
-- process whose variables are kept by nets, those from `first` on. It sees the same nets, and has at each kept
-- element's net the value that the element was left with; its variables begin with any values.
pub record SeesKept (first : ℕ) (p : FlatProcess) (by_itself by_nets : Seen) : Type 0 where
  pub now : AgreeOn (reads p.body) by_itself.now by_nets.now
  pub before : AgreeOn (events p.body) by_itself.before by_nets.before
  pub as_many : length by_itself.variables ≡ length (element_starts p.variables)
  pub net_many : length by_nets.variables ≡ length (element_starts p.variables)
  pub unset : (leaves (reset_branch p.body) ≡ [] → ⊥) → (e : ℕ) → IsTrue (never_set p.body e)
      → slice_index by_itself.variables e ≡ slice_index (element_starts p.variables) e
  pub kept : (e : ℕ) → Contains (kept_elements p) e
      → slice_index by_nets.now (first + rank_in (kept_elements p) e) ≡ slice_index by_itself.variables e

-- Then both have the same entries for the drivers that there were. A kept element's driver has as its entry what the
-- element is left with, and where there is none, the element is left as it was. So is what no statement sets.
pub record RunsAlike (first : ℕ) (p : FlatProcess) (by_itself by_nets : Seen) : Type 0 where
  pub entries : (place : ℕ) → place < length p.drivers
      → effect by_nets (kept_process first p).body place ≡ effect by_itself p.body place
  pub kept : (e : ℕ) → Contains (kept_elements p) e
      → unwrap_or (effect by_nets (kept_process first p).body (length p.drivers + rank_in (kept_elements p) e))
      (slice_index by_itself.variables e)
      ≡ slice_index (variables_after by_itself p.body) e
  pub unset : (e : ℕ) → IsTrue (never_set p.body e)
      → slice_index (variables_after by_itself p.body) e ≡ slice_index by_itself.variables e

-- So it is run by run: the nets begin with what the elements begin with, and a net has its driver's value before any
-- process runs again (14.7.5.3).
abbrev pub EachRunsAlike : Type 0
EachRunsAlike =
    (types : List ElementType) (first : ℕ) (p : FlatProcess) (by_itself by_nets : Seen)
    → ProcessInRange types p → IsTrue (is_register p.body) → SeesTypes (scope_of types p) by_itself
    → SeesKept first p by_itself by_nets → RunsAlike first p by_itself by_nets

-- ---- what the checker sees

-- A register reads no variable that it hasn't assigned.
abbrev pub NothingIsStored : Type 0
NothingIsStored =
    (types : List ElementType) (first : ℕ) (p : FlatProcess) → ProcessInRange types p
    → IsTrue (is_register p.body) → (e : ℕ) → stores_element e (kept_process first p).body ≡ false

-- a clocking with other branches
abbrev pub with_parts : (edge : Stmts) → (reset : Stmts → Stmts) → Clocking → Clocking
with_parts edge reset c = record {
  test = c.test;
  branch = edge;
  reset = option_map (λ (r : ResetPart). record r { branch = reset r.branch }) c.reset;
}

-- a clocking, its branches aside
abbrev pub timing : Clocking → Clocking
timing c = with_parts done (λ a. done) c

-- It is clocked and reset as its body is, whose reset's branch is left aside.
abbrev pub EachKeepsItsTiming : Type 0
EachKeepsItsTiming =
    (wide : Bool) (inputs : List ℕ) (first : ℕ) (p : FlatProcess) → IsTrue (is_register p.body)
    → option_map timing (clocking wide inputs (kept_process first p).body)
    ≡ option_map timing (clocking wide inputs (without_reset p.body))

-- the branch of a process's reset, with constants in the place of variables where the process is a register
abbrev pub reset_in : FlatProcess → Stmts → Stmts
reset_in p a = if is_register p.body then with_constants (at_start (element_starts p.variables)) a else a

-- What was clocked before is clocked alike, but for the branch at the edge, and for these constants: a reset's branch
-- that looks at no variable is what it was.
abbrev pub EachClockedIsKept : Type 0
EachClockedIsKept =
    (wide : Bool) (inputs : List ℕ) (first : ℕ) (p : FlatProcess) (c : Clocking) → clocking wide inputs p.body ≡ Some c
    → (s : Stmts) × (clocking wide inputs (kept_process first p).body ≡ Some (with_parts s (reset_in p) c))
    × ((r : ResetPart) → c.reset ≡ Some r → leaves r.branch ≡ [] → reset_in p r.branch ≡ r.branch)

-- A branch looks at what is known: at variables alone, and at no element that some statement of the body sets, where
-- the branch hasn't assigned it before.
pub record LooksAtKnown (body a : Stmts) : Type 0 where
  pub leaves_are : (leaf : Leaf) → Contains (leaves a) leaf → (es : List ℕ) × (leaf ≡ of_elements es)
  pub stored_are : (e : ℕ) → IsTrue (stores_element e a) → stmts_assign (is_element e) body ≡ false

-- And what is clocked is a register, where its reset's branch looks at what is known.
abbrev pub EachClockedIsRegister : Type 0
EachClockedIsRegister =
    (wide : Bool) (inputs : List ℕ) (body : Stmts) (c : Clocking) → clocking wide inputs body ≡ Some c
    → ((r : ResetPart) → c.reset ≡ Some r → LooksAtKnown body r.branch) → IsTrue (is_register body)

-- nulls and assignments to signals and variables alone
abbrev pub is_straight : Stmts → Bool
is_straight done = true
is_straight (step null_of rest) = is_straight rest
is_straight (step (assign places v) rest) = is_straight rest
is_straight (step (set es v) rest) = is_straight rest
is_straight (step _ rest) = false

-- a body that runs at an edge alone; one with its reset first; and one with its reset behind
abbrev pub alone_body : (t : Test) → (s : Stmts) → Stmts
alone_body t s = step (if_of (branch t s no_else)) done

abbrev pub first_body : (r : Test) → (a : Stmts) → (t : Test) → (s : Stmts) → Stmts
first_body r a t s = step (if_of (branch r a (branch t s no_else))) done

abbrev pub behind_body : (t : Test) → (s : Stmts) → (r : Test) → (a : Stmts) → Stmts
behind_body t s r a = step (if_of (branch t s no_else)) (step (if_of (branch r a no_else)) done)

-- So is what tests a reset, which any net may be, and an edge, where the reset's branch may set variables too.
abbrev pub EachKnownResetIsRegister : Type 0
EachKnownResetIsRegister =
    (r t : Test) (a s : Stmts) → IsSome (reset_test true [] r) → IsSome (edge_test t) → events s ≡ []
    → IsTrue (is_straight a)
    → (LooksAtKnown (first_body r a t s) a → IsTrue (is_register (first_body r a t s)))
    × (LooksAtKnown (behind_body t s r a) a → IsTrue (is_register (behind_body t s r a)))

-- Straight code assigns on some path just what it assigns on every path.
abbrev pub EachStraightSets : Type 0
EachStraightSets =
    (these : Target → Bool) (s : Stmts) → IsTrue (is_straight s) → stmts_assign these s ≡ must_assign these s

-- an element of these is looked at, at the edge, before it is assigned there, or the reset assigns it
abbrev pub IsNeeded : (edge reset : Stmts) → (es : List ℕ) → Type 0
IsNeeded edge reset es =
    (e : ℕ) × Contains es e × IsTrue (stores_element e edge || stmts_assign (is_element e) reset)

-- No variable is kept that isn't needed.
abbrev pub EachKeptIsNeeded : Type 0
EachKeptIsNeeded =
    (p : FlatProcess) (v : KeptVariable) → Contains (kept_variables p) v → (r t : Test) (a s : Stmts)
    → (p.body ≡ alone_body t s → IsNeeded s done v.elements)
    × (p.body ≡ first_body r a t s → IsNeeded s a v.elements)
    × (p.body ≡ behind_body t s r a → IsNeeded s a v.elements)

-- What is no register keeps no variable, and stays as it is.
abbrev pub WhatIsNoRegisterStays : Type 0
WhatIsNoRegisterStays =
    (first : ℕ) (p : FlatProcess) → is_register p.body ≡ false
    → (kept_variables p ≡ []) × (kept_process first p ≡ p)

-- Where nothing is kept and nothing is stored, nothing changes.
abbrev pub WhatKeepsNoneStays : Type 0
WhatKeepsNoneStays =
    (types : List ElementType) (first : ℕ) (p : FlatProcess) → ProcessInRange types p
    → kept_variables p ≡ [] → ((e : ℕ) → stores_element e p.body ≡ false) → kept_process first p ≡ p

-- ---- the netlist

-- a kept element of the process of this number has a net, which starts with the element's initial value, and has one
-- source, the element's driver
pub record HasItsNet (net : FlatNetlist) (p e : ℕ) : Type 0 where
  pub start : slice_index (kept_flat net).start (first_net net p + rank_in (kept_elements (process_at net p)) e)
      ≡ slice_index (element_starts (process_at net p).variables) e
  pub source : flat_sources (kept_flat net) (first_net net p + rank_in (kept_elements (process_at net p)) e)
      ≡ Driver p (length (process_at net p).drivers + rank_in (kept_elements (process_at net p)) e) ∷ []

-- All that there was stands where it did: the nets have the sources that they had, by the same numbers; each process
-- has its number, its drivers at their places, and is sensitive to what it was, so to no net of an element.
pub record StandsWhereItDid (net : FlatNetlist) : Type 0 where
  pub sources : (n : ℕ) → n < length net.types → flat_sources (kept_flat net) n ≡ flat_sources net n
  pub processes : (p : ℕ) → p < length net.processes
      → process_at (kept_flat net) p ≡ kept_process (first_net net p) (process_at net p)
  pub drivers : (first : ℕ) (p : FlatProcess) → take (length p.drivers) (kept_process first p).drivers ≡ p.drivers
  pub wakes : (first : ℕ) (p : FlatProcess) → (kept_process first p).wakes ≡ p.wakes
  pub wakes_below : (p n : ℕ) → Contains (process_at (kept_flat net) p).wakes n → n < length net.types
  pub elements : (p e : ℕ) → p < length net.processes → Contains (kept_elements (process_at net p)) e
      → HasItsNet net p e

abbrev pub EachStandsWhereItDid : Type 0
EachStandsWhereItDid = (net : FlatNetlist) → IsInRange net → StandsWhereItDid net

-- The netlist is one as elaboration gives it.
abbrev pub EachIsSoundStill : Type 0
EachIsSoundStill =
    (net : FlatNetlist) → IsInRange net → IsConnected net → IsInRange (kept_flat net) × IsConnected (kept_flat net)

-- What is accepted as it stands, in either reading, has no variable to keep: nothing of it changes.
abbrev pub WhatIsAcceptedStays : Type 0
WhatIsAcceptedStays =
    (net : FlatNetlist) (wide : Bool) → IsInRange net → IsAccepted (core_netlist (record net { wide = wide }))
    → kept_flat net ≡ net
