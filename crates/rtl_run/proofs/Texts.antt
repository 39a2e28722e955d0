-- The trace of what moments settle to is that of the machine's run.
use Rattle.std.proofs.Common.{◌≡◌, ℕ, suc, ◌≤◌, ◌<◌, List, [], ◌∷◌, ◌++◌, length, Some, refl, sym, ap, subst, ◌∙◌, append_assoc, arith, append-nil, ⊎_elim}
use Rattle.std.specs.Prelude.{slice_get, if◌then◌else◌}
use Rattle.rtl_model.specs.simulation.Cycle.{State}
use Rattle.rtl_model.specs.simulation.Moments.{HasSettled}
use Rattle.rtl_net.specs.Nets.{NetlistView, SignalView}
use Rattle.rtl_net.specs.Core.{core}
use Rattle.byte_streams.specs.Written.{SinkState, TakesBeginning}
use Rattle.byte_streams.proofs.Writing.{TakesBeginning-append}
use Rattle.rtl_vcd.specs.Header.{header_text}
use Rattle.rtl_vcd.specs.Trace.{Moment, first_text, moment_text, moments_text, trace_text, are_some, changes}
use Rattle.rtl_stim.specs.Stimuli.{StimulusView, moments, inputs_at}
use Rattle.rtl_simulation.specs.Simulated.{Settled, AreMoments}
use Rattle.rtl_simulation.specs.Traced.{behind_first, at_times, changes_text, text_so_far, whole_text}
use Rattle.rtl_simulation.specs.Answered.{IsTextOf}
use Rattle.rtl_run.specs.Traced.{run_at, machine_text}

-- these settle in the valuations of a run
abbrev pub AreOfRun : (run : ℕ → List ℕ) → List Settled → Type 0
AreOfRun run xs = (m : ℕ) (x : Settled) → slice_get xs m ≡ Some x → x.values ≡ run m

pub are_of_run : (net : NetlistView) (s : StimulusView) (limit : ℕ) (run : ℕ → List ℕ) (xs : List Settled)
    → ((m deltas : ℕ) (settled : State) → HasSettled (core net) (inputs_at s) m deltas settled → settled.now ≡ run m)
    → AreMoments net s limit xs → AreOfRun run xs
are_of_run net s limit run xs is_machine are m x is =
    let settles = are.each m x is in
    sym settles.values ∙ is_machine m x.deltas settles.state settles.settled

later : (run : ℕ → List ℕ) (x : Settled) (xs : List Settled) → AreOfRun run (x ∷ xs) → AreOfRun (λ m. run (suc m)) xs
later run x xs of_run m y is = of_run (suc m) y is

-- all of them
same_moments : (run : ℕ → List ℕ) (xs : List Settled) (times : List ℕ) → length xs ≡ length times → AreOfRun run xs → at_times xs times ≡ run_at run times
same_moments run [] [] long of_run = refl
same_moments run [] (t ∷ times) long of_run = absurd (omega (arith, long))
same_moments run (x ∷ xs) [] long of_run = absurd (omega (arith, long))
same_moments run (x ∷ xs) (t ∷ times) long of_run =
    ap (λ (v : List ℕ). record { time = t; values = v } ∷ at_times xs times) (of_run 0 x refl)
    ∙ ap (λ (ms : List Moment). record { time = t; values = run 0 } ∷ ms) (same_moments (λ m. run (suc m)) xs times (omega (arith, long)) (later run x xs of_run))

long_behind : (ts : List ℕ) (n : ℕ) → suc n ≡ length ts → n ≡ length (behind_first ts)
long_behind [] n long = absurd (omega (arith, long))
long_behind (t ∷ ts) n long = omega (arith, long)

pub whole_is : (net : NetlistView) (names : List SignalView) (s : StimulusView) (run : ℕ → List ℕ) (xs : List Settled) → 0 < length (moments s) → length xs ≡ length (moments s) → AreOfRun run xs
    → whole_text net names s xs ≡ machine_text net names s run
whole_is net names s run [] some long of_run = absurd (omega (arith, some, long))
whole_is net names s run (x ∷ xs) some long of_run =
    let times = behind_first (moments s) in
    let tail = same_moments (λ m. run (suc m)) xs times (long_behind (moments s) (length xs) long) (later run x xs of_run) in
    ap (λ (v : List ℕ). trace_text net.scopes names v (at_times xs times) s.schedule.stop) (of_run 0 x refl)
    ∙ ap (λ (ms : List Moment). trace_text net.scopes names (run 0) ms s.schedule.stop) tail

-- ---- the first of them

-- one text begins another
record Begins (text whole : List ℕ) : Type 0 where
  rest : List ℕ
  is : whole ≡ text ++ rest

begins_more : (head text whole : List ℕ) → Begins text whole → Begins (head ++ text) (head ++ whole)
begins_more head text whole b = record { rest = b.rest; is = ap (λ (t : List ℕ). head ++ t) b.is ∙ sym (append_assoc head text b.rest) }

changes_begin : (signals : List SignalView) (last : ℕ) (before : List ℕ) (run : ℕ → List ℕ) (xs : List Settled) (times : List ℕ) (stop : ℕ)
    → length xs ≤ length times → AreOfRun run xs
    → Begins (changes_text signals before (at_times xs times)) (moments_text signals last before (run_at run times) stop)
changes_begin signals last before run [] times stop less of_run = record { rest = moments_text signals last before (run_at run times) stop; is = refl }
changes_begin signals last before run (x ∷ xs) [] stop less of_run = absurd (omega (arith, less))
changes_begin signals last before run (x ∷ xs) (t ∷ times) stop less of_run =
    let next = if are_some (changes signals before (run 0)) then t else last in
    let more = changes_begin signals next (run 0) (λ m. run (suc m)) xs times stop (omega (arith, less)) (later run x xs of_run) in
    subst (λ (v : List ℕ). Begins (moment_text signals t before v ++ changes_text signals v (at_times xs times)) (moments_text signals last before (run_at run (t ∷ times)) stop))
    (sym (of_run 0 x refl))
    (begins_more (moment_text signals t before (run 0)) (changes_text signals (run 0) (at_times xs times)) (moments_text signals next (run 0) (run_at (λ m. run (suc m)) times) stop) more)

short_behind : (ts : List ℕ) (n : ℕ) → suc n ≤ length ts → n ≤ length (behind_first ts)
short_behind [] n less = absurd (omega (arith, less))
short_behind (t ∷ ts) n less = omega (arith, less)

so_far_begins : (net : NetlistView) (names : List SignalView) (s : StimulusView) (run : ℕ → List ℕ) (xs : List Settled) → length xs ≤ length (moments s) → AreOfRun run xs
    → Begins (text_so_far net names s xs) (machine_text net names s run)
so_far_begins net names s run [] less of_run =
    let first = first_text names (run 0) in
    let rest = moments_text names 0 (run 0) (run_at (λ m. run (suc m)) (behind_first (moments s))) s.schedule.stop in
    record { rest = first ++ rest; is = append_assoc (header_text net.scopes names) first rest }
so_far_begins net names s run (x ∷ xs) less of_run =
    let times = behind_first (moments s) in
    let head = header_text net.scopes names in
    let more = changes_begin names 0 (run 0) (λ m. run (suc m)) xs times s.schedule.stop (short_behind (moments s) (length xs) less) (later run x xs of_run) in
    subst (λ (v : List ℕ). Begins (head ++ first_text names v ++ changes_text names v (at_times xs times)) (machine_text net names s run)) (sym (of_run 0 x refl))
    (begins_more (head ++ first_text names (run 0)) (changes_text names (run 0) (at_times xs times)) (moments_text names 0 (run 0) (run_at (λ m. run (suc m)) times) s.schedule.stop) more)

text_begins : (net : NetlistView) (names : List SignalView) (s : StimulusView) (run : ℕ → List ℕ) (xs : List Settled) (text : List ℕ) → 0 < length (moments s) → length xs ≤ length (moments s) → AreOfRun run xs
    → IsTextOf net names s xs text → Begins text (machine_text net names s run)
text_begins net names s run xs text some less of_run is =
    ⊎_elim (λ so_far. subst (λ (t : List ℕ). Begins t (machine_text net names s run)) (sym so_far) (so_far_begins net names s run xs less of_run))
    (λ all. record { rest = []; is = sym (whole_is net names s run xs some all.0 of_run) ∙ sym all.1 ∙ sym (append-nil text) }) is

-- a beginning of the trace of some moments is one of the whole
pub beginning_is : (net : NetlistView) (names : List SignalView) (s : StimulusView) (run : ℕ → List ℕ) (xs : List Settled) (text : List ℕ) (old new : SinkState)
    → 0 < length (moments s) → length xs ≤ length (moments s) → AreOfRun run xs
    → IsTextOf net names s xs text → TakesBeginning old new text → TakesBeginning old new (machine_text net names s run)
beginning_is net names s run xs text old new some less of_run is taken =
    let b = text_begins net names s run xs text some less of_run is in
    subst (λ (t : List ℕ). TakesBeginning old new t) (sym b.is) (TakesBeginning-append old new text b.rest taken)
