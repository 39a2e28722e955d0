-- The trace of one more moment, and the end of the whole.
use Rattle.std.proofs.Common.{◌≡◌, ℕ, suc, Bool, ◌<◌, List, [], ◌∷◌, ◌++◌, length, get_or, refl, sym, ap, subst, ◌∙◌, append-nil, append_assoc, arith}
use Rattle.std.specs.Prelude.{if◌then◌else◌}
use Rattle.rtl_net.specs.Nets.{NetlistView, SignalView}
use Rattle.byte_streams.specs.Written.{SinkState, Goes}
use Rattle.rtl_vcd.specs.Header.{header_text}
use Rattle.rtl_vcd.specs.Trace.{Moment, first_text, moment_text, moments_text, end_text, are_some, changes}
use Rattle.rtl_stim.specs.Stimuli.{StimulusView, moments}
use Rattle.rtl_simulation.specs.Simulated.{Settled}
use Rattle.rtl_simulation.specs.Traced.{behind_first, at_times, changes_text, text_so_far, whole_text}
use Rattle.rtl_simulation.specs.Progress.{last_values, last_printed, last_printed_of}

-- of the same signals and the same values
module _ (own names : List SignalView) (same : own ≡ names) (was before is now : List ℕ) (was_before : was ≡ before) (is_now : is ≡ now) where
  pub moment_goes : (out new : SinkState) (time : ℕ) → Goes out new (moment_text own time was is) → Goes out new (moment_text names time before now)
  moment_goes out new time goes =
      subst (λ (vs : List ℕ). Goes out new (moment_text names time before vs)) is_now
      (subst (λ (vs : List ℕ). Goes out new (moment_text names time vs is)) was_before (subst (λ (ns : List SignalView). Goes out new (moment_text ns time was is)) same goes))

  pub some_change : (printed : Bool) → printed ≡ are_some (changes own was is) → printed ≡ are_some (changes names before now)
  some_change printed some =
      some ∙ ap (λ (ns : List SignalView). are_some (changes ns was is)) same ∙ ap (λ (vs : List ℕ). are_some (changes names vs is)) was_before
      ∙ ap (λ (vs : List ℕ). are_some (changes names before vs)) is_now

module _ (signals : List SignalView) where
  -- the changes at one more moment stand behind those before it
  pub changes_more : (before : List ℕ) (xs : List Settled) (ts : List ℕ) (y : Settled) → length xs < length ts
      → changes_text signals before (at_times (xs ++ y ∷ []) ts)
      ≡ changes_text signals before (at_times xs ts) ++ moment_text signals (get_or ts (length xs) 0) (last_values before xs) y.values
  changes_more before [] [] y less = absurd (omega arith)
  changes_more before [] (t ∷ ts) y less = append-nil _
  changes_more before (x ∷ xs) [] y less = absurd (omega arith)
  changes_more before (x ∷ xs) (t ∷ ts) y less =
      ap (λ (text : List ℕ). moment_text signals t before x.values ++ text) (changes_more x.values xs ts y (omega arith))
      ∙ sym (append_assoc (moment_text signals t before x.values) (changes_text signals x.values (at_times xs ts)) _)

  -- and its time is the last that is printed, where it changes something
  pub printed_more : (last : ℕ) (before : List ℕ) (xs : List Settled) (ts : List ℕ) (y : Settled) → length xs < length ts
      → last_printed signals last before (at_times (xs ++ y ∷ []) ts)
      ≡ (if are_some (changes signals (last_values before xs) y.values) then get_or ts (length xs) 0 else last_printed signals last before (at_times xs ts))
  printed_more last before [] [] y less = absurd (omega arith)
  printed_more last before [] (t ∷ ts) y less = refl
  printed_more last before (x ∷ xs) [] y less = absurd (omega arith)
  printed_more last before (x ∷ xs) (t ∷ ts) y less =
      printed_more (if are_some (changes signals before x.values) then t else last) x.values xs ts y (omega arith)

  -- the changes, and then the stop where nothing is printed there
  pub changes_end : (last : ℕ) (before : List ℕ) (ms : List Moment) (stop : ℕ)
      → moments_text signals last before ms stop ≡ changes_text signals before ms ++ end_text (last_printed signals last before ms) stop
  changes_end last before [] stop = refl
  changes_end last before (m ∷ ms) stop =
      ap (λ (text : List ℕ). moment_text signals m.time before m.values ++ text) (changes_end (if are_some (changes signals before m.values) then m.time else last) m.values ms stop)
      ∙ sym (append_assoc (moment_text signals m.time before m.values) (changes_text signals m.values ms) _)

pub behind : (ts : List ℕ) (k : ℕ) → get_or (behind_first ts) k 0 ≡ get_or ts (suc k) 0
behind [] k = refl
behind (t ∷ ts) k = refl

pub fewer : (ts : List ℕ) (k : ℕ) → suc k < length ts → k < length (behind_first ts)
fewer [] k less = absurd (omega arith)
fewer (t ∷ ts) k less = omega arith

pub values_more : (before : List ℕ) (xs : List Settled) (y : Settled) → last_values before (xs ++ y ∷ []) ≡ y.values
values_more before [] y = refl
values_more before (x ∷ xs) y = values_more x.values xs y

pub last_more : (names : List SignalView) (s : StimulusView) (x : Settled) (xs : List Settled) (y : Settled) → suc (length xs) < length (moments s)
    → last_printed_of names s (x ∷ (xs ++ y ∷ []))
    ≡ (if are_some (changes names (last_values x.values xs) y.values) then get_or (moments s) (suc (length xs)) 0 else last_printed_of names s (x ∷ xs))
last_more names s x xs y less =
    let ts = behind_first (moments s) in
    let more = printed_more names 0 x.values xs ts y (fewer (moments s) (length xs) less) in
    subst (λ (t : ℕ). last_printed names 0 x.values (at_times (xs ++ y ∷ []) ts)
    ≡ (if are_some (changes names (last_values x.values xs) y.values) then t else last_printed_of names s (x ∷ xs))) (behind (moments s) (length xs)) more

module _ (net : NetlistView) (names : List SignalView) (s : StimulusView) where
  pub text_more : (x : Settled) (xs : List Settled) (y : Settled) → suc (length xs) < length (moments s)
      → text_so_far net names s (x ∷ (xs ++ y ∷ []))
      ≡ text_so_far net names s (x ∷ xs) ++ moment_text names (get_or (moments s) (suc (length xs)) 0) (last_values x.values xs) y.values
  text_more x xs y less =
      let ts = behind_first (moments s) in
      let head = header_text net.scopes names in
      let first = first_text names x.values in
      let was = changes_text names x.values (at_times xs ts) in
      let at = behind (moments s) (length xs) in
      let more = changes_more names x.values xs ts y (fewer (moments s) (length xs) less) in
      let said = subst (λ (t : ℕ). changes_text names x.values (at_times (xs ++ y ∷ []) ts) ≡ was ++ moment_text names t (last_values x.values xs) y.values) at more in
      let now = moment_text names (get_or (moments s) (suc (length xs)) 0) (last_values x.values xs) y.values in
      ap (λ (text : List ℕ). (head ++ first) ++ text) said ∙ sym (append_assoc (head ++ first) was now)

  pub text_end : (x : Settled) (xs : List Settled)
      → whole_text net names s (x ∷ xs) ≡ text_so_far net names s (x ∷ xs) ++ end_text (last_printed_of names s (x ∷ xs)) s.schedule.stop
  text_end x xs =
      let ms = at_times xs (behind_first (moments s)) in
      let head = header_text net.scopes names in
      let first = first_text names x.values in
      let was = changes_text names x.values ms in
      let last = end_text (last_printed_of names s (x ∷ xs)) s.schedule.stop in
      ap (λ (text : List ℕ). (head ++ first) ++ text) (changes_end names 0 x.values ms s.schedule.stop)
      ∙ sym (append_assoc (head ++ first) was last)
