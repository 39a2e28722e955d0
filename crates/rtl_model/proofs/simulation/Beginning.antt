-- How a moment begins, and with what its registers end.
use Rattle.std.proofs.Common.{◌≡◌, ℕ, Bool, true, false, not, ◌&&◌, ◌||◌, List, get_or, Option, Some, None, refl, ◌∙◌, ◌⊎◌, inl, inr}
use Rattle.rtl_model.specs.basics.Valuations.{clocked_entry, entry_where, or_else}
use Rattle.rtl_model.specs.simulation.Netlist.{Edge, holds_back, HasPlace, IsClockedBy, IsCombinational, Netlist, process, reset_entry, reset_of, resets, target}
use Rattle.rtl_model.specs.simulation.Cycle.{State}
use Rattle.rtl_model.specs.simulation.Calm.{IsFromOutside}
use Rattle.rtl_model.specs.simulation.Machine.{entry_or}
use Rattle.rtl_model.proofs.simulation.Rows.{out}

-- what no cycle of the moment before has left to do
abbrev pub IsSettled : Netlist → List ℕ → Type 0
IsSettled net old = (p place : ℕ) → IsCombinational net p → HasPlace net p place → get_or ((process net p).effect old old) place None ≡ Some (get_or old (target net p place) 0)

-- A moment begins: old are the values before it, edge_comes says which edges of which nets come with it, r is what drivers
-- have after its first cycle, and s the state then.
pub record Begins (net : Netlist) (edge_comes : (clock : ℕ) → Edge → Bool) (r : ℕ → ℕ → ℕ) (old : List ℕ) (s : State) : Type 0 where
  pub first_out : (p place : ℕ) → out s p place ≡ r p place
  pub driven : (p place : ℕ) → HasPlace net p place → get_or s.now (target net p place) 0 ≡ get_or old (target net p place) 0
  pub registers : (p place clock : ℕ) (edge : Edge) → IsClockedBy net p clock edge → HasPlace net p place
      → r p place
      ≡ entry_or
      (clocked_entry (resets (reset_of net p) (λ n. get_or s.now n 0)) (edge_comes clock edge && not (holds_back (reset_of net p) (λ n. get_or s.now n 0))) (reset_entry (reset_of net p) place) (get_or ((process net p).acting_effect old) place None))
      (get_or old (target net p place) 0)
  -- where a process has its edge, nets from outside are as they were
  pub steady : (p clock : ℕ) (edge : Edge) → IsClockedBy net p clock edge → edge_comes clock edge ≡ true → (n : ℕ) → IsFromOutside net n → get_or s.now n 0 ≡ get_or old n 0
  pub settled : IsSettled net old ⊎ ((old ≡ net.start) × ((clock : ℕ) (edge : Edge) → edge_comes clock edge ≡ false))

-- what a register has in the end, by what it had after the first cycle
pub laid_out : (a rest : Option ℕ) (before end' : Bool) (x first old : ℕ) → first ≡ entry_or (or_else (entry_where before a) rest) old → (x ≡ first) ⊎ ((x ≡ entry_or a first) × ((before ≡ true) ⊎ (end' ≡ true)))
    → (end' ≡ true → x ≡ entry_or a first) → x ≡ entry_or (or_else (entry_where (before || end') a) rest) old
laid_out a rest true end' x first old e (inl same) laid = same ∙ e
laid_out (Some v) rest true end' x first old e (inr (over, held)) laid = over
laid_out None rest true end' x first old e (inr (over, held)) laid = over ∙ e
laid_out (Some v) rest false true x first old e o laid = laid refl
laid_out None rest false true x first old e o laid = laid refl ∙ e
laid_out a rest false false x first old e (inl same) laid = same ∙ e
laid_out a rest false false x first old e (inr (over, inl held)) laid = absurd cc
laid_out a rest false false x first old e (inr (over, inr held)) laid = absurd cc
