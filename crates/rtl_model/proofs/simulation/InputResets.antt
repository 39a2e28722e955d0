-- The machine reads a reset that is an input, and stands before its edge, in the new inputs alone.
use Rattle.std.proofs.Common.{◌≡◌, ℕ, Bool, true, false, not, ◌&&◌, ◌||◌, ◌==◌, List, slice_index, slice_index_or, Option, Some, None, refl, ap, ◌∙◌, if◌then◌else◌}
use Rattle.rtl_model.specs.basics.Valuations.{clocked_entry, entry_where}
use Rattle.rtl_model.specs.simulation.Netlist.{holds_back, IsInput, Netlist, process, Reset, reset_entry, reset_of, resets, target}
use Rattle.rtl_model.specs.simulation.Elaborated.{IsWired}
use Rattle.rtl_model.specs.simulation.Machine.{entry_or, given}
use Rattle.rtl_model.specs.simulation.Laws.{HasInputReset, InputsResetAsSaid}
use Rattle.rtl_model.proofs.simulation.Consistent.{given_at}

first_by : (holds : Bool) (a : Option ℕ) (old : ℕ) → entry_or (entry_where (holds || holds) a) old ≡ (if holds then entry_or a old else old)
first_by true a old = refl
first_by false a old = refl

next_by : (holds edge : Bool) (a b : Option ℕ) (old : ℕ) → entry_or (clocked_entry (holds || holds) (edge && not holds) a b) old ≡ (if holds then entry_or a old else if edge then entry_or b old else old)
next_by true true (Some v) b old = refl
next_by true true None b old = refl
next_by true false (Some v) b old = refl
next_by true false None b old = refl
next_by false true a b old = refl
next_by false false a b old = refl

module _ (net : Netlist) (wired : IsWired net) (p : ℕ) (by_input : HasInputReset net p) (inputs : ℕ → ℕ) where
  holds_alike : (v : ℕ → ℕ) → ((n : ℕ) → IsInput net n → v n ≡ inputs n) → resets (reset_of net p) v ≡ resets (reset_of net p) inputs
  holds_alike v same = go (reset_of net p) refl
    where
      go : (o : Option Reset) → reset_of net p ≡ o → resets o v ≡ resets o inputs
      go None e = refl
      go (Some reset) e = ap (λ (x : ℕ). x == reset.value) (same reset.net (by_input reset e).0)

  gates_alike : (v : ℕ → ℕ) → ((n : ℕ) → IsInput net n → v n ≡ inputs n) → holds_back (reset_of net p) v ≡ resets (reset_of net p) inputs
  gates_alike v same = go (reset_of net p) refl
    where
      go : (o : Option Reset) → reset_of net p ≡ o → holds_back o v ≡ resets o inputs
      go None e = refl
      go (Some reset) e = (λ i. (by_input reset e).1 i && (same reset.net (by_input reset e).0 i == reset.value))

  given_same : (v : List ℕ) (n : ℕ) → IsInput net n → given net v inputs n ≡ inputs n
  given_same v n is = given_at net wired inputs v n is

pub inputs_reset_as_said : InputsResetAsSaid
inputs_reset_as_said net p place wired by_input inputs w same = record {
  first = (λ i. entry_or (entry_where (before net.start i || now i) (reset_entry (reset_of net p) place)) (slice_index net.start (target net p place)))
      ∙ first_by (resets (reset_of net p) inputs) (reset_entry (reset_of net p) place) (slice_index net.start (target net p place));
  next = λ clock edge v.
      (λ i. entry_or
      (clocked_entry (before v i || now i) (net.edge edge (slice_index v clock) (inputs clock) && not (gates_alike net wired p by_input inputs (given net v inputs) (given_same net wired p by_input inputs v) i)) (reset_entry (reset_of net p) place) (slice_index_or ((process net p).acting_effect v) place None))
      (slice_index v (target net p place)))
      ∙ next_by (resets (reset_of net p) inputs) (net.edge edge (slice_index v clock) (inputs clock)) (reset_entry (reset_of net p) place) (slice_index_or ((process net p).acting_effect v) place None) (slice_index v (target net p place));
}
  where
    before : (v : List ℕ) → resets (reset_of net p) (given net v inputs) ≡ resets (reset_of net p) inputs
    before v = holds_alike net wired p by_input inputs (given net v inputs) (given_same net wired p by_input inputs v)

    now : resets (reset_of net p) (slice_index w) ≡ resets (reset_of net p) inputs
    now = holds_alike net wired p by_input inputs (slice_index w) same
