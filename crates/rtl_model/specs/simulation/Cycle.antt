-- The steps of a simulation cycle (IEEE 1076-2008, 14.7.5.2 and 14.7.5.3): Update gives active drivers and the nets
-- their new values and resumes processes, Inputs does so for new values of the top's in ports, and Run executes one
-- resumed process.
use Rattle.std.specs.Prelude.{ℕ, Bool, true, false, not, List, [], ◌∷◌, length}
use Rattle.std.specs.Prelude.{slice_index, slice_index_or, slice_set, map, Option, Some, None, IsTrue, ◌==◌, if◌then◌else◌}
use Rattle.std.specs.List.{list_any}
use Rattle.std.specs.Option.{is_some}
use Rattle.rtl_model.specs.basics.Valuations.{has_event}
use Rattle.rtl_model.specs.simulation.Netlist.{Netlist, Source, Driver, Idle, process, sources_of, table}

pub record State : Type 0 where
  -- the nets' values before the last update, and now
  pub before : List ℕ
  pub now : List ℕ
  -- at each process and place, the driver's value, and its pending transaction if it has one (14.7.2)
  pub drivers : List (List ℕ)
  pub pending : List (List (Option ℕ))
  -- whether each process is resumed and still to run in this cycle
  pub waiting : List Bool

-- ---- transactions

-- the first row's entries where it has them, else the second's: a later assignment replaces an earlier one (10.5.2.2)
abbrev pub over : List (Option ℕ) → List (Option ℕ) → List (Option ℕ)
over [] bs = bs
over (a ∷ as') [] = a ∷ as'
over (Some v ∷ as') (b ∷ bs) = Some v ∷ over as' bs
over (None ∷ as') (b ∷ bs) = b ∷ over as' bs

-- the transactions' values where there are some, else the drivers'
abbrev pub driver_values : List (Option ℕ) → List ℕ → List ℕ
driver_values [] values = values
driver_values (a ∷ as') [] = []
driver_values (Some v ∷ as') (x ∷ xs) = v ∷ driver_values as' xs
driver_values (None ∷ as') (x ∷ xs) = x ∷ driver_values as' xs

abbrev pub all_driver_values : List (List (Option ℕ)) → List (List ℕ) → List (List ℕ)
all_driver_values [] rows = rows
all_driver_values (p ∷ ps) [] = []
all_driver_values (p ∷ ps) (row ∷ rows) = driver_values p row ∷ all_driver_values ps rows

abbrev pub none_pending : List (List (Option ℕ)) → List (List (Option ℕ))
none_pending pending = map (map (λ p. None)) pending

-- no driver is active: there is no transaction
abbrev pub is_quiet : State → Bool
is_quiet s = not (list_any (list_any is_some) s.pending)

-- ---- events

-- of each process, whether it is sensitive to a net with an event (14.7.5.3)
abbrev pub resumed_processes : Netlist → (before now : List ℕ) → List Bool
resumed_processes net before now = map (λ p. list_any (has_event before now) p.wakes) net.processes

-- ---- values of nets (14.7.3)

abbrev pub source_value : List (List ℕ) → Source → ℕ
source_value drivers (Driver p place) = slice_index (slice_index_or drivers p []) place
source_value drivers (Idle v) = v

-- a net with sources gets their resolution, any other keeps its value
abbrev pub net_value : Netlist → List (List ℕ) → List Source → (old : ℕ) → ℕ
net_value net drivers [] old = old
net_value net drivers (source ∷ more) old = net.resolve (map (source_value drivers) (source ∷ more))

abbrev pub net_values : Netlist → List (List ℕ) → (old : List ℕ) → List ℕ
net_values net drivers old =
    table (length net.start) (λ n. net_value net drivers (sources_of net n) (slice_index old n))

-- the inputs have the values given, all other nets those of old
abbrev pub with_inputs : Netlist → (inputs : ℕ → ℕ) → (old : List ℕ) → List ℕ
with_inputs net inputs old =
    table (length net.start) (λ n. if list_any (λ m. m == n) net.inputs then inputs n else slice_index old n)

-- ---- the steps

-- what every driver starts with
abbrev pub starting_drivers : Netlist → List (List ℕ)
starting_drivers net = map (λ p. p.starts) net.processes

-- initialization: the nets have their starting values, there is no event, and every process is to run (14.7.5.2)
abbrev pub start_state : Netlist → (inputs : ℕ → ℕ) → State
start_state net inputs =
    let first = with_inputs net inputs net.start in
    record {
      before = first;
      now = first;
      drivers = starting_drivers net;
      pending = map (λ p. map (λ n. None) p.drives) net.processes;
      waiting = map (λ p. true) net.processes;
    }

-- the step Update (14.7.5.3): every transaction becomes its driver's value
abbrev pub after_update : Netlist → State → State
after_update net s =
    let drivers' = all_driver_values s.pending s.drivers in
    let now' = net_values net drivers' s.now in
    record {
      before = s.now;
      now = now';
      drivers = drivers';
      pending = none_pending s.pending;
      waiting = resumed_processes net s.now now';
    }

-- the step Inputs of a quiet state: as Update, with new values of the inputs in place of the drivers'. It leaves the
-- transactions as they are, since there are none.
abbrev pub after_inputs : Netlist → (inputs : ℕ → ℕ) → State → State
after_inputs net inputs s =
    let now' = with_inputs net inputs s.now in
    record {
      before = s.now;
      now = now';
      drivers = s.drivers;
      pending = s.pending;
      waiting = resumed_processes net s.now now';
    }

-- the values that a list of changes gives nets, the last change of a net counting, and those of old elsewhere
abbrev pub with_changes : (changes : List (ℕ × ℕ)) → (old : List ℕ) → (net : ℕ) → ℕ
with_changes [] old net = slice_index old net
with_changes ((n, value) ∷ changes) old net = with_changes changes (slice_set old n value) net

abbrev pub IsToRun : State → ℕ → Type 0
IsToRun s p = IsTrue (slice_index_or s.waiting p false)

-- the step Run (14.7.5.3): what process p assigns, reading the values before and now, becomes its transactions
abbrev pub after_run : Netlist → ℕ → State → State
after_run net p s =
    record s {
      pending = slice_set s.pending p (over ((process net p).effect s.before s.now) (slice_index_or s.pending p []));
      waiting = slice_set s.waiting p false;
    }
