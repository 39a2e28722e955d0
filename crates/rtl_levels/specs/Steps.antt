-- What the parts of a moment do to the values of the nets.
use Rattle.std.specs.Prelude.{◌≡◌, ℕ, Bool, false, List, length, slice_index, slice_index_or, Option, None, IsTrue}
use Rattle.rtl_model.specs.simulation.Netlist.{Netlist, process, target, HasPlace, IsCombinational}
use Rattle.rtl_model.specs.simulation.Machine.{entry_or}
use Rattle.rtl_model.specs.simulation.Accepted.{IsResetBy}
use Rattle.rtl_model.specs.simulation.NetLevels.{IsDerived}
use Rattle.rtl_levels.specs.Running.{IsSettled, behind_reset}

-- a marked process drives n
abbrev pub IsDrivenByMarked : Netlist → List Bool → (n : ℕ) → Type 0
IsDrivenByMarked net marked n =
    (p : ℕ) × (place : ℕ) × IsTrue (slice_index_or marked p false) × HasPlace net p place × (target net p place ≡ n)

-- Of the marked processes these have run from the values before and v, and left these entries. The others would leave
-- none.
pub record HaveRun (net : Netlist) (before v : List ℕ) (marked ran : List Bool) (entries : ℕ → List (Option ℕ))
    : Type 0 where
  pub fewer : (p : ℕ) → IsTrue (slice_index_or ran p false) → IsTrue (slice_index_or marked p false)
  pub left : (p : ℕ) → IsTrue (slice_index_or ran p false) → entries p ≡ (process net p).effect before v
  pub asleep : (p place : ℕ) → IsTrue (slice_index_or marked p false) → slice_index_or ran p false ≡ false
      → slice_index_or ((process net p).effect before v) place None ≡ None

-- Of the processes that were marked at first some still are, and others have run and left these entries. The rest would
-- leave none.
pub record AreRunning (net : Netlist) (before v : List ℕ) (first marked ran : List Bool)
    (entries : ℕ → List (Option ℕ)) : Type 0 where
  pub still : (p : ℕ) → IsTrue (slice_index_or marked p false) → IsTrue (slice_index_or first p false)
  pub fewer : (p : ℕ) → IsTrue (slice_index_or ran p false) → IsTrue (slice_index_or first p false)
  pub left : (p : ℕ) → IsTrue (slice_index_or ran p false) → entries p ≡ (process net p).effect before v
  pub asleep : (p place : ℕ) → IsTrue (slice_index_or first p false) → slice_index_or marked p false ≡ false
      → slice_index_or ran p false ≡ false → slice_index_or ((process net p).effect before v) place None ≡ None

-- The marked processes' entries, taken over together.
pub record AllTakeOver (net : Netlist) (marked : List Bool) (entries : ℕ → List (Option ℕ)) (v w : List ℕ)
    : Type 0 where
  pub each_net : length w ≡ length v
  pub on_targets : (p place : ℕ) → IsTrue (slice_index_or marked p false) → HasPlace net p place
      → slice_index w (target net p place)
      ≡ entry_or (slice_index_or (entries p) place None) (slice_index v (target net p place))
  pub on_others : (n : ℕ) → (IsDrivenByMarked net marked n → ⊥) → slice_index w n ≡ slice_index v n

-- The same of those alone that no longer are marked.
pub record SomeTakeOver (net : Netlist) (marked still : List Bool) (entries : ℕ → List (Option ℕ)) (v w : List ℕ)
    : Type 0 where
  pub as_many : length still ≡ length marked
  pub fewer : (p : ℕ) → IsTrue (slice_index_or still p false) → IsTrue (slice_index_or marked p false)
  pub each_net : length w ≡ length v
  pub on_targets : (p place : ℕ) → IsTrue (slice_index_or marked p false) → slice_index_or still p false ≡ false
      → HasPlace net p place → slice_index w (target net p place)
      ≡ entry_or (slice_index_or (entries p) place None) (slice_index v (target net p place))
  pub on_others : (n : ℕ)
      → ((p place : ℕ) → IsTrue (slice_index_or marked p false) → slice_index_or still p false ≡ false
      → HasPlace net p place → target net p place ≡ n → ⊥)
      → slice_index w n ≡ slice_index v n

-- In w all that combinational processes drive has settled, and what the resets made inside assign has its entries where
-- they hold; nothing else differs from v.
pub record IsSwept (net : Netlist) (v w : List ℕ) : Type 0 where
  pub each_net : length w ≡ length v
  pub settled : (p : ℕ) → IsCombinational net p → IsSettled net w p
  pub on_resets : (p place m : ℕ) → IsResetBy net p place m → HasPlace net p place
      → slice_index w (target net p place) ≡ behind_reset net w p place (slice_index v (target net p place))
  pub on_others : (n : ℕ) → (IsDerived net n → ⊥) → slice_index w n ≡ slice_index v n

-- The marked processes, which are to be clocked, have run together from the values before and v; with what they
-- assigned, the others have settled in w.
pub record ComesToRest (net : Netlist) (marked : List Bool) (before v w : List ℕ) : Type 0 where
  pub between : List ℕ
  pub taken : AllTakeOver net marked (λ p. (process net p).effect before v) v between
  pub swept : IsSwept net between w
