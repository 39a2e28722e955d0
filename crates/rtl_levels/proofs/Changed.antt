-- New values of inputs.
use Rattle.std.proofs.Common.{subst, ◌≡◌, ℕ, ◌<◌, ◌≤◌, true, false, List, [], ◌∷◌, length, get_or, set, sym, ◌∙◌, ◌⊎◌, inl, inr, Contains, All, ◌==◌}
use Rattle.std.specs.List.{list_any}
use Rattle.std.proofs.lemmas.Bool.{cases_Bool, cases_eq, cases_lt}
use Rattle.std.proofs.lemmas.List.{get_or-set_same, get_or-set_other, get_or_past, length-set}
use Rattle.std.proofs.lemmas.Option.{slice_get_within}
use Rattle.vhdl_values.specs.declared.scalar.Nine.{Nine}
use Rattle.rtl_model.specs.bodies.Types.{nine_valued}
use Rattle.rtl_model.specs.nets.Wiring.{IsConnected}
use Rattle.rtl_model.specs.nets.FlatNetlist.{FlatNetlist, IsInRange}
use Rattle.rtl_model.specs.nets.CoreNetlist.{core_netlist}
use Rattle.rtl_model.specs.simulation.Cycle.{with_changes}
use Rattle.rtl_model.specs.simulation.Range.{IsValuation, limit}
use Rattle.rtl_model.proofs.simulation.Consistent.{each_change_is_made}
use Rattle.rtl_kernel.specs.kernel.Simulation.{changes_of, each_given, initial_inputs}
use Rattle.rtl_kernel.specs.values.TwoValues.{AreChanged}
use Rattle.rtl_kernel.proofs.Inputs.{are_inputs, named}
use Rattle.rtl_kernel.proofs.Started.{first_inputs, first_is}
use Rattle.rtl_kernel.proofs.Steps.{keeps}

-- the same changes give a net the same, where it had the same
pub changed_alike : (cs : List (ℕ × ℕ)) (v w : List ℕ) (n : ℕ) → length v ≡ length w → get_or v n 0 ≡ get_or w n 0 → with_changes cs v n ≡ with_changes cs w n
changed_alike [] v w n many same = same
changed_alike (c ∷ cs) v w n many same =
    changed_alike cs (set v c.0 c.1) (set w c.0 c.1) n (length-set v c.0 c.1 ∙ many ∙ sym (length-set w c.0 c.1)) (by (cases_eq n c.0) (cases_lt c.0 (length v)))
  where
    by : (n ≡ c.0) ⊎ (n ≡ c.0 → ⊥) → (c.0 < length v) ⊎ (length v ≤ c.0) → get_or (set v c.0 c.1) n 0 ≡ get_or (set w c.0 c.1) n 0
    by (inl e) (inl l) = rw e (get_or-set_same v c.0 c.1 0 l ∙ sym (get_or-set_same w c.0 c.1 0 (rw (← many) l)))
    by (inl e) (inr l) = rw e (get_or_past (set v c.0 c.1) c.0 0 (rw length-set l) ∙ sym (get_or_past (set w c.0 c.1) c.0 0 (rw (length-set, ← many) l)))
    by (inr ne) _ = get_or-set_other v c.0 n c.1 0 ne ∙ same ∙ sym (get_or-set_other w c.0 n c.1 0 ne)

pub inputs_below : (net : FlatNetlist) → IsInRange net → All (λ (n : ℕ). n < length net.start) net.inputs
inputs_below net R k d l = rw (R.each_starts) (slice_get_within net.types _ nine_valued (R.inputs k d l))

module _ (net : FlatNetlist) (R : IsInRange net) (cs : List (ℕ × Nine)) (inputs : All (λ (c : ℕ × Nine). Contains net.inputs c.0) cs) where
  pub changed_in_range : (old new : List ℕ) → IsValuation (core_netlist net) old → AreChanged (changes_of cs) old new → IsValuation (core_netlist net) new
  changed_in_range old new V A = record { each_net = A.as_many ∙ V.each_net; in_range = λ n l. rw (A.each n) (by n l (cases_Bool (list_any (λ m. m == n) net.inputs))) }
    where
      by : (n : ℕ) → n < length net.start → (list_any (λ m. m == n) net.inputs ≡ true) ⊎ (list_any (λ m. m == n) net.inputs ≡ false) → with_changes (changes_of cs) old n < limit (core_netlist net) n
      by n l (inl is) = are_inputs net R cs old V n is
      by n l (inr none) = rw ((each_change_is_made (changes_of cs) old).kept n (λ value there. let h = named net R cs inputs n value there in cc)) (V.in_range n l)

-- ---- the first values of all inputs

module _ (net : FlatNetlist) (R : IsInRange net) (C : IsConnected net) (initial : List Nine) (now : List ℕ) (A : AreChanged (each_given net.inputs initial) net.start now) where
  pub first_in_range : IsValuation (core_netlist net) now
  first_in_range =
      subst (λ (v : List ℕ). IsValuation (core_netlist net) v) (sym (first_is net R initial now A)) ((keeps net R C).starts (initial_inputs net initial) (first_inputs net R initial)).now
