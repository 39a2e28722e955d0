-- From moment to moment: the kernel begins each moment with the stimulus's inputs.
use Rattle.std.proofs.Common.{◌≡◌, ◌≢◌, ℕ, suc, ◌<◌, ◌≤◌, List, [], ◌∷◌, length, map, get_or, ⊎_elim, inl, inr, sym, ap, subst, ◌∙◌, arith, Bool, true, false, cond, filter}
use Rattle.std.specs.Prelude.{◌⊎◌, Contains, All, slice_index, slice_set, ◌==◌}
use Rattle.std.specs.List.{range_with_len}
use Rattle.std.proofs.lemmas.List.{get_or-set_same, get_or-set_other}
use Rattle.std.proofs.Math.ListN.{length-set}
use Rattle.std.proofs.lemmas.Bool.{cases_eq}
use Rattle.std.proofs.lemmas.Bool.Decides.{nat_tests}
use Rattle.vhdl_values.specs.declared.scalar.Nine.{Nine}
use Rattle.vhdl_values.specs.Scalar.{code_of}
use Rattle.rtl_model.specs.simulation.Netlist.{IsInput}
use Rattle.rtl_model.specs.simulation.Cycle.{State, start_state, after_inputs, with_changes}
use Rattle.rtl_model.specs.simulation.Elaborated.{IsWired}
use Rattle.rtl_model.specs.simulation.Moments.{Begun, HasRun, HasSettled}
use Rattle.rtl_model.proofs.nets.Connected.{connected_is_elaborated}
use Rattle.rtl_model.proofs.simulation.Consistent.{takes_inputs_alone, each_input_holds}
use Rattle.rtl_model.proofs.simulation.Past.{ends_at_last}
use Rattle.rtl_net.specs.Nets.{NetlistView, flat}
use Rattle.rtl_net.specs.Elaborated.{IsNet}
use Rattle.rtl_kernel.specs.kernel.Simulation.{changes_of, each_given, initial_inputs}
use Rattle.rtl_agenda.specs.Agenda.{Change}
use Rattle.rtl_stim_lines.specs.Times.{all_nets, value_at}
use Rattle.rtl_agenda.specs.Agenda.{AgendaState, IsOrderly}
use Rattle.rtl_stim_lines.specs.Filling.{Waits}
use Rattle.rtl_stim_lines.specs.Times.{is_moment}
use Rattle.rtl_stim.specs.Moments.{GivesNext, IsStimulus}
use Rattle.rtl_stim.proofs.MomentLists.{rise, member}
use Rattle.std.proofs.lemmas.List.FromFn.{length-range_with_len}
use Rattle.rtl_stim.specs.Ports.{HasOwnPorts, inputs_of}
use Rattle.rtl_stim.specs.Stimuli.{StimulusView, initial_values, inputs_at, moments, code_at}
use Rattle.rtl_stim.proofs.Next.{any_from, each_begins_at_zero, each_moment_follows}
use Rattle.rtl_stim.proofs.Values.{first_or_later}
use Rattle.rtl_net.specs.Core.{core}

is_same : (m n : ℕ) → (m == n) ≡ true → m ≡ n
is_same m n e = grind (arith, nat_tests)

-- a value for each of these nets, which may be given several times
module _ (f : ℕ → Nine) where
  given_is : (ns : List ℕ) (old : List ℕ) (n : ℕ) → n < length old → Contains ns n ⊎ (slice_index old n ≡ code_of (f n))
      → with_changes (each_given ns (map f ns)) old n ≡ code_of (f n)
  given_is [] old n within either = ⊎_elim (λ there. absurd (omega (arith, there.1))) (λ is. is) either
  given_is (m ∷ ns) old n within either =
      ⊎_elim (λ same. given_is ns (slice_set old m (code_of (f m))) n inside (inr (here same)))
      (λ differ. given_is ns (slice_set old m (code_of (f m))) n inside (⊎_elim (λ there. first_or_later m n ns there (Contains ns n ⊎ (slice_index (slice_set old m (code_of (f m))) n ≡ code_of (f n))) (λ same. absurd (differ same)) (λ later. inl later)) (λ is. inr (kept differ is)) either)) (cases_eq m n)
    where
      inside : n < length (slice_set old m (code_of (f m)))
      inside = omega (arith, length-set old m (code_of (f m)), within)

      here : m ≡ n → slice_index (slice_set old m (code_of (f m))) n ≡ code_of (f n)
      here same = subst (λ (k : ℕ). slice_index (slice_set old k (code_of (f k))) n ≡ code_of (f n)) (sym same) (get_or-set_same old n (code_of (f n)) 0 within)

      kept : m ≢ n → slice_index old n ≡ code_of (f n) → slice_index (slice_set old m (code_of (f m))) n ≡ code_of (f n)
      kept differ is = get_or-set_other old m n (code_of (f m)) 0 (λ e. differ (sym e)) ∙ is

module _ (net : NetlistView) (is_net : IsNet net) (s : StimulusView) (ports : HasOwnPorts net) (inputs : s.inputs ≡ inputs_of net) where
  own : all_nets s.inputs ≡ net.inputs
  own = ap all_nets inputs ∙ ports.elements

  contained : (n : ℕ) → IsInput (core net) n → Contains net.inputs n
  contained n is = let found = any_from (λ m. m == n) net.inputs n is in (found.0, found.1, is_same (get_or net.inputs found.0 n) n found.2)

  wired : IsWired (core net)
  wired = (connected_is_elaborated (flat net) is_net.in_range is_net.connected).wiring

  pub below : (n : ℕ) → IsInput (core net) n → n < length net.types
  below n is = let less = wired.inputs_are_nets n is in omega (arith, less, is_net.in_range.each_starts)

  -- the inputs at 0
  pub first_inputs : (n : ℕ) → IsInput (core net) n → initial_inputs (flat net) (initial_values s) n ≡ inputs_at s 0 n
  first_inputs n is =
      let begins = each_begins_at_zero s in
      let at = ap (λ (v : ℕ → ℕ). v n) ((ends_at_last (core net) (moments s) (code_at s)).is_at 0 begins.0) in
      let f = λ (m : ℕ). value_at s.inputs s.schedule m 0 in
      let after_inputs = given_is f net.inputs net.starts n (let less = below n is in omega (arith, less, is_net.in_range.each_starts)) (inl (contained n is)) in
      subst (λ (ns : List ℕ). with_changes (each_given net.inputs (map f ns)) net.starts n ≡ code_of (f n)) (sym own) after_inputs
      ∙ sym (at ∙ ap (λ (t : ℕ). code_at s t n) begins.1)

  pub first_begun : (state : State) → HasRun (core net) (start_state (core net) (initial_inputs (flat net) (initial_values s))) state
      → Begun (core net) (inputs_at s) 0 state
  first_begun state run =
      subst (λ (from : State). HasRun (core net) from state) (takes_inputs_alone (core net) _ (inputs_at s 0) first_inputs).starts run

  pub of_inputs : (m t : ℕ) (changes : List Change) → GivesNext s m t changes → All (λ c. Contains net.inputs c.0) changes
  of_inputs m t changes next = subst (λ (ns : List ℕ). All (λ c. Contains ns c.0) changes) own next.of_inputs

  -- the changes that come next lead from the inputs at the moment m to those at the next
  pub leads : (m t : ℕ) (changes : List Change) (values : List ℕ) → length values ≡ length net.types
      → ((n : ℕ) → IsInput (core net) n → slice_index values n ≡ inputs_at s m n) → GivesNext s m t changes
      → (n : ℕ) → IsInput (core net) n → with_changes (changes_of changes) values n ≡ inputs_at s (suc m) n
  leads m t changes values as_many holds next n is =
      next.lead values n (let less = below n is in omega (arith, less, as_many)) (subst (λ (ns : List ℕ). Contains ns n) (sym own) (contained n is)) (holds n is)

  pub next_begun : (m t : ℕ) (changes : List Change) (quiet : State) (k : ℕ) (state : State) → length quiet.now ≡ length net.types → HasSettled (core net) (inputs_at s) m k quiet
      → GivesNext s m t changes → HasRun (core net) (after_inputs (core net) (with_changes (changes_of changes) quiet.now) quiet) state → Begun (core net) (inputs_at s) (suc m) state
  next_begun m t changes quiet k state as_many has next run =
      let own_inputs = leads m t changes quiet.now as_many (λ n is. (each_input_holds (core net) wired (inputs_at s) m n is).settled k quiet has) next in
      let at = (takes_inputs_alone (core net) _ (inputs_at s (suc m)) own_inputs).gives quiet in
      (has.0, k, quiet, has.1, has.2, subst (λ (from : State). HasRun (core net) from state) at run)

-- ---- what the agenda gives

module _ (s : StimulusView) (is_stimulus : IsStimulus s) (m : ℕ) (there : m < length (moments s)) (state : AgendaState) (orderly : IsOrderly state)
    (waits : Waits s.inputs s.schedule (slice_index (moments s) m) state.waiting) where
  pub next_moment : (t : ℕ) (changes : List Change) (rest : List (ℕ × List Change)) → state.waiting ≡ (t, changes) ∷ rest → GivesNext s m t changes
  next_moment = (each_moment_follows s state m is_stimulus orderly there waits).next

  pub no_moment : state.waiting ≡ [] → suc m ≡ length (moments s)
  no_moment = (each_moment_follows s state m is_stimulus orderly there waits).last

pub later : (s : StimulusView) (m t : ℕ) (changes : List Change) → GivesNext s m t changes → slice_index (moments s) m < t
later s m t changes next =
    let before = rise (is_moment s.schedule) s.schedule.stop m (suc m) 0 (omega arith) next.there in
    let at = next.is in
    omega (arith, before, at)

pub within_stop : (s : StimulusView) (m t : ℕ) (changes : List Change) → GivesNext s m t changes → t ≤ s.schedule.stop
within_stop s m t changes next =
    let less = (member (is_moment s.schedule) s.schedule.stop (suc m) next.there).0 in
    let at = next.is in
    omega (arith, less, at)

filter_short : (q : ℕ → Bool) (xs : List ℕ) → length (filter q xs) ≤ length xs
filter_short q [] = omega arith
filter_short q (x ∷ xs) = by (q x) (filter_short q xs)
  where
    by : (b : Bool) → length (filter q xs) ≤ length xs → length (cond b (x ∷ filter q xs) (filter q xs)) ≤ suc (length xs)
    by true less = omega (arith, less)
    by false less = omega (arith, less)

pub few : (s : StimulusView) → length (moments s) ≤ suc s.schedule.stop
few s =
    let less = filter_short (is_moment s.schedule) (range_with_len 0 (suc s.schedule.stop)) in
    let long = length-range_with_len 0 (suc s.schedule.stop) in
    omega (arith, less, long)
