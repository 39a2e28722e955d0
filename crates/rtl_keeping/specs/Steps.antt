-- The steps of the pass.
use Rattle.std.specs.Prelude.{◌≡◌, ◌<◌, ◌≤◌, ℕ, ◌+◌, Bool, true, false, All, List, [], ◌∷◌, ◌++◌, length, map, flat_map, replicate}
use Rattle.std.specs.List.{AllZip}
use Rattle.rtl_kept_bodies.specs.Rules.{NamedAlike}
use Rattle.rtl_model.specs.bodies.Types.{ElementType}
use Rattle.rtl_model.specs.nets.FlatNetlist.{ProcessInRange}
use Rattle.rtl_net.specs.declared.process.Process.{Process}
use Rattle.rtl_net.specs.declared.process.Variable.{Variable}
use Rattle.rtl_net.specs.Elaborated.{ReadsOfBody}
use Rattle.rtl_net.specs.Limits.{most_nets}
use Rattle.rtl_net.specs.Nets.{SignalView, type_of, element_type, signal_view, process_view}
use Rattle.rtl_variable_registers.specs.Nets.{kept_processes}
use Rattle.rtl_variable_registers.specs.Processes.{kept_starts, kept_types}
use Rattle.rtl_keeping.specs.Kept.{kept_signal, signals_kept, by_scope, HaveRoom}
use Rattle.rtl_keeping.specs.declared.nets.Nets.{Nets}

-- ---- variables that are marked

abbrev pub marked : List Bool → List Variable → List Variable
marked (true ∷ marks) (v ∷ vs) = v ∷ marked marks vs
marked (false ∷ marks) (v ∷ vs) = marked marks vs
marked _ _ = []

abbrev pub types_of : Variable → List ElementType
types_of v = replicate (length v.starts.items) (element_type v.kind)

abbrev pub starts_of : Variable → List ℕ
starts_of v = v.starts.items

-- the signals of variables that are all kept
abbrev pub signals_of : Process → (number net : ℕ) → List Variable → List SignalView
signals_of p number net [] = []
signals_of p number net (v ∷ vs) = kept_signal p number net v ∷ signals_of p number (net + length v.starts.items) vs

-- ---- what is added

-- The nets and signals of these variables of a process stand behind those that there were.
pub record Adds (p : Process) (number : ℕ) (vs : List Variable) (old new : Nets) : Type 0 where
  pub types : map type_of new.kinds.items ≡ map type_of old.kinds.items ++ flat_map types_of vs
  pub starts : new.starts.items ≡ old.starts.items ++ flat_map starts_of vs
  pub signals : map signal_view new.signals.items
      ≡ map signal_view old.signals.items ++ signals_of p number (length old.kinds.items) vs

-- their signals stand by scope, those of so many scopes
pub record IsOrdered (old new : Nets) : Type 0 where
  pub kinds : new.kinds ≡ old.kinds
  pub starts : new.starts ≡ old.starts
  pub signals : (scopes : ℕ) → All (λ (s : SignalView). s.scope < scopes) (map signal_view old.signals.items)
      → map signal_view new.signals.items ≡ by_scope scopes (map signal_view old.signals.items)

-- ---- processes that are kept

-- each lists what its body reads, and is in range of the nets, of which there are no more than may be
pub record AreReady (types : List ElementType) (ps : List Process) : Type 0 where
  pub reads : All ReadsOfBody ps
  pub in_range : All (ProcessInRange types) (map process_view ps)
  pub within : length types ≤ most_nets

-- The variables of these processes are kept by nets and signals that stand behind those that there were.
pub record KeepsAll (old new : List Process) (before after : Nets) : Type 0 where
  pub flat : map process_view new ≡ kept_processes (length before.kinds.items) (map process_view old)
  pub reads : All ReadsOfBody new
  pub named : AllZip NamedAlike old new
  pub types : map type_of after.kinds.items
      ≡ map type_of before.kinds.items ++ flat_map kept_types (map process_view old)
  pub starts : after.starts.items ≡ before.starts.items ++ flat_map kept_starts (map process_view old)
  pub signals : map signal_view after.signals.items
      ≡ map signal_view before.signals.items ++ signals_kept 0 (length before.kinds.items) old
  pub within : length after.kinds.items ≤ most_nets
  pub room : HaveRoom (length before.kinds.items) (map process_view old)
