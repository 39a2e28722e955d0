-- The synchronous machine: registers computed from the valuation before an edge, and by their resets, and all else by
-- equations. It knows no event, sensitivity, delta cycle or order.
use Rattle.std.specs.Prelude.{◌≡◌, ℕ, suc, ◌<◌, Bool, not, ◌&&◌, ◌||◌, List, length, slice_index, slice_index_or, Option, Some, None}
use Rattle.rtl_model.specs.basics.Valuations.{clocked_entry, entry_where}
use Rattle.rtl_model.specs.simulation.Netlist.{Netlist, Edge, process, target, reset_of, reset_entry, resets, holds_back}
use Rattle.rtl_model.specs.simulation.Netlist.{HasPlace, IsDriven, IsInput, IsCombinational, IsClockedBy}
use Rattle.rtl_model.specs.simulation.Cycle.{with_inputs}

-- the valuation v solves the netlist's equations for these inputs and registers
pub record Solves (net : Netlist) (inputs registers : ℕ → ℕ) (v : List ℕ) : Type 0 where
  pub each_net : length v ≡ length net.start
  pub on_inputs : (n : ℕ) → IsInput net n → slice_index v n ≡ inputs n
  pub on_registers : (p place clock : ℕ) (edge : Edge) → IsClockedBy net p clock edge
      → HasPlace net p place → slice_index v (target net p place)
      ≡ registers (target net p place)
  -- a net that no process drives and that is no input has its starting value
  pub on_others : (n : ℕ) → n < length net.start → (IsInput net n → ⊥)
      → (IsDriven net n → ⊥) → slice_index v n ≡ slice_index net.start n
  -- what a combinational process drives has the value that the process's effect in v itself gives
  pub on_combinational : (p place : ℕ) → IsCombinational net p
      → HasPlace net p place → slice_index_or ((process net p).effect v v) place None
      ≡ Some (slice_index v (target net p place))

abbrev pub entry_or : Option ℕ → (old : ℕ) → ℕ
entry_or None old = old
entry_or (Some v) old = v

-- the nets' values in v, with the new inputs
abbrev pub given : Netlist → (v : List ℕ) → (inputs : ℕ → ℕ) → ℕ → ℕ
given net v inputs n = slice_index (with_inputs net inputs v) n

-- whether p's reset holds on the way to w: in v with the new inputs, or in w
abbrev pub is_reset : Netlist → (p : ℕ) → (v : List ℕ) → (inputs : ℕ → ℕ) → (w : List ℕ) → Bool
is_reset net p v inputs w = resets (reset_of net p) (given net v inputs) || resets (reset_of net p) (slice_index w)

-- What a register starts with in w: its reset's entry where the reset holds and there is one, else its starting value.
abbrev pub register_first : Netlist → (p place : ℕ) → (inputs : ℕ → ℕ) → (w : List ℕ) → ℕ
register_first net p place inputs w =
    entry_or (entry_where (is_reset net p net.start inputs w) (reset_entry (reset_of net p) place))
    (slice_index net.start (target net p place))

-- A register's entry from v to w: its reset's where the reset holds, else its branch's in v where its edge comes from
-- v's clock to the new one, and no reset gates it then.
abbrev pub register_entry : Netlist → (p place clock : ℕ) → Edge
    → (v : List ℕ) → (inputs : ℕ → ℕ) → (w : List ℕ) → Option ℕ
register_entry net p place clock edge v inputs w =
    clocked_entry (is_reset net p v inputs w)
    (net.edge edge (slice_index v clock) (inputs clock) && not (holds_back (reset_of net p) (given net v inputs)))
    (reset_entry (reset_of net p) place) (slice_index_or ((process net p).acting_effect v) place None)

-- What a register has next: its entry, and without one v's value.
abbrev pub register_next : Netlist → (p place clock : ℕ) → Edge
    → (v : List ℕ) → (inputs : ℕ → ℕ) → (w : List ℕ) → ℕ
register_next net p place clock edge v inputs w =
    entry_or (register_entry net p place clock edge v inputs w) (slice_index v (target net p place))

-- the first valuation, for the first inputs: a register reads its reset in it
pub record IsFirst (net : Netlist) (inputs : ℕ → ℕ) (v : List ℕ) : Type 0 where
  pub registers : ℕ → ℕ
  pub next : (p place clock : ℕ) (edge : Edge) → IsClockedBy net p clock edge
      → HasPlace net p place → registers (target net p place)
      ≡ register_first net p place inputs v
  pub solves : Solves net inputs registers v

-- one step, from the valuation v with new inputs to w: a register reads its reset in w too
pub record IsStep (net : Netlist) (v : List ℕ) (inputs : ℕ → ℕ) (w : List ℕ) : Type 0 where
  pub registers : ℕ → ℕ
  pub next : (p place clock : ℕ) (edge : Edge) → IsClockedBy net p clock edge
      → HasPlace net p place → registers (target net p place)
      ≡ register_next net p place clock edge v inputs w
  pub solves : Solves net inputs registers w

-- the machine's run: v m is its valuation at the moment m
pub record IsMachineRun (net : Netlist) (stimulus : ℕ → ℕ → ℕ) (v : ℕ → List ℕ) : Type 0 where
  pub first : IsFirst net (stimulus 0) (v 0)
  pub step : (m : ℕ) → IsStep net (v m) (stimulus (suc m)) (v (suc m))
