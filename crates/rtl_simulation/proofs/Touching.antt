-- Marks of chunks, as a simulation goes on.
use Rattle.std.proofs.Common.{◌≡◌, ℕ, List, [], ◌∷◌, ap, subst}
use Rattle.rtl_model.specs.simulation.Netlist.{Netlist}
use Rattle.rtl_model.specs.simulation.Cycle.{State, after_run, after_update, after_inputs}
use Rattle.rtl_model.specs.simulation.Moments.{Delta, HasRun, Runs}
use Rattle.rtl_net_groups.specs.Touching.{Chunks, Touches}
use Rattle.rtl_net_groups.proofs.Touching.{touches_then}

-- processes that run leave the values as they are
runs_keep : (net : Netlist) (order : List ℕ) (s t : State) → Runs net order s t → t.before ≡ s.before
runs_keep net [] s t r = ap (λ (x : State). x.before) r.1
runs_keep net (p ∷ order) s t r = runs_keep net order (after_run net p s) t r.1

-- the values before a cycle's update are those that were there
pub before_delta : (net : Netlist) (s t : State) → (order : List ℕ) × Delta net order s t → t.before ≡ s.now
before_delta net s t (order, d) = runs_keep net order (after_update net s) t d.1

pub before_inputs : (net : Netlist) (inputs : ℕ → ℕ) (s t : State) → HasRun net (after_inputs net inputs s) t → t.before ≡ s.now
before_inputs net inputs s t (order, r) = runs_keep net order (after_inputs net inputs s) t r

-- one cycle more
pub touches_delta : (net : Netlist) (s t : State) (a b c : Chunks) (v : List ℕ) → (order : List ℕ) × Delta net order s t → Touches a b v s.now → Touches b c t.before t.now → Touches a c v t.now
touches_delta net s t a b c v delta was is =
    touches_then a b c v s.now t.now was (subst (λ (u : List ℕ). Touches b c u t.now) (before_delta net s t delta) is)
