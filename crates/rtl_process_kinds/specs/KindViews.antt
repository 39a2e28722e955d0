-- How the code's kinds of processes are seen.
use Rattle.std.specs.Prelude.{◌≡◌, ℕ, ◌<◌, Bool, true, false, ◌||◌, List, ◌∷◌, length, slice_index_or, Option, None, option_map}
use Rattle.std.specs.Option.{is_some, option_to_list}
use Rattle.rtl_model.specs.simulation.Netlist as m
use Rattle.rtl_body_facts.specs.declared.kinds.Clocking.{Clocking}
use Rattle.rtl_body_facts.specs.declared.kinds.ProcessKind.{ProcessKind}
use Rattle.rtl_body_facts.specs.declared.kinds.ProcessKind.TheVariants as k
use Rattle.rtl_body_facts.specs.Reading.{is_in}

-- the nets that its tests look at
abbrev pub nets_tested : Clocking → List ℕ
nets_tested c = c.clock ∷ option_to_list c.reset

abbrev pub reset_net : m.Reset → ℕ
reset_net r = r.net

-- what is kept of a clocked process is so
pub record IsClocking (p : m.Process) (c : Clocking) : Type 0 where
  pub reset : Option m.Reset
  pub kind : p.kind ≡ m.Clocked c.clock c.edge reset
  pub reset_is : option_map reset_net reset ≡ c.reset
  pub reads_clock : c.reads_clock ≡ is_in c.clock p.acting_reads
  -- its body reads what its tests look at, and what the branch under its edge reads
  pub reads : (n : ℕ) → is_in n p.reads ≡ (is_in n (nets_tested c) || is_in n p.acting_reads)

abbrev pub IsKind : m.Process → ProcessKind → Type 0
IsKind p k.Combinational = p.kind ≡ m.Combinational
IsKind p (k.Clocked c) = IsClocking p c
IsKind p k.Mixed = p.kind ≡ m.Mixed

-- each process's kind
pub record AreKinds (net : m.Netlist) (kinds : List ProcessKind) : Type 0 where
  pub each_process : length kinds ≡ length net.processes
  pub each : (p : ℕ) → p < length net.processes → IsKind (m.process net p) (slice_index_or kinds p k.Mixed)

abbrev pub combinational_kind : ProcessKind → Bool
combinational_kind k.Combinational = true
combinational_kind (k.Clocked c) = false
combinational_kind k.Mixed = false

-- process p is there and combinational
abbrev pub combinational_at : List ProcessKind → (p : ℕ) → Bool
combinational_at kinds p = combinational_kind (slice_index_or kinds p k.Mixed)

-- the net of the reset of a process of this kind, if it has one
abbrev pub reset_kept : ProcessKind → Option ℕ
reset_kept k.Combinational = None
reset_kept (k.Clocked c) = c.reset
reset_kept k.Mixed = None

-- a process of this kind has a reset
abbrev pub resets : ProcessKind → Bool
resets k.Combinational = false
resets (k.Clocked c) = is_some c.reset
resets k.Mixed = false
