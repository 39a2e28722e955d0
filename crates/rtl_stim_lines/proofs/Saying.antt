-- What is said after a line.
use Rattle.std.proofs.Common.{◌≡◌, ℕ, ◌<◌, Bool, true, false, List, [], length, map, set, Option, Some, None, Result, Ok, Err, ap, sym, subst, ◌∙◌, refl}
use Rattle.std.specs.Prelude.{◌≢◌, not, ◌||◌, nat_le, if◌then◌else◌, slice_index_or, is_some}
use Rattle.std.proofs.lemmas.List.{map-set, get_or-map}
use Rattle.vhdl_values.specs.declared.scalar.Nine.{Nine}
use Rattle.rtl_stim_lines.specs.declared.courses.Course.{Course as KeptCourse}
use Rattle.rtl_stim_lines.specs.declared.faults.StimFault.{StimFault}
use Rattle.rtl_stim_lines.specs.declared.faults.StimFault.TheVariants.{NoMemory}
use Rattle.fault_rules.specs.declared.stimuli.StimRule.{StimRule}
use Rattle.fault_rules.specs.declared.stimuli.StimRule.TheVariants.{BadLine, TimeTooLarge}
use Rattle.rtl_stim_lines.specs.declared.forms.Form.{Form as KeptForm}
use Rattle.rtl_stim_lines.specs.declared.forms.Form.TheVariants as kept
use Rattle.rtl_stim_lines.specs.declared.numbers.Time.{Time}
use Rattle.rtl_stim_lines.specs.declared.numbers.Time.TheVariants as time
use Rattle.rtl_stim_lines.specs.Lines.{Word, words_of, says_nothing}
use Rattle.rtl_stim_lines.specs.Forms.{Form, At, Clock, Stop, form_of}
use Rattle.rtl_stim_lines.specs.Inputs.{Input, input_at, input_named, values_for}
use Rattle.rtl_stim_lines.specs.Courses.{Course, Sets}
use Rattle.rtl_stim_lines.specs.Reading.{Said, is_too_large, latest_time, after_set, after_clock, course_at, with_course, set_values, set_input, set_clock, after_form, after_line, in_line}
use Rattle.rtl_stim_lines.specs.Bounded.{bounded, IsKeptAs, IsFormOf, time_in_line, after_time, after_kept}
use Rattle.rtl_stim_lines.specs.View.{Leads, course_view}

-- ---- one course is replaced

leads_course : (s : Said) (place line : ℕ) (expected : Result Course StimRule) (new : Course) (r : Result (Unit {0}) StimFault) → Leads (in_line line expected) new r
    → Leads (in_line line (with_course s place expected)) (record s { courses = set s.courses place new }) r
leads_course s place line (Ok course) new (Ok u) h = let same : course ≡ new = cc in ap (λ c. Ok (record s { courses = set s.courses place c })) same
leads_course s place line (Ok course) new (Err fault) h = λ other. let bad = h other in cc
leads_course s place line (Err problem) new (Ok u) h = cc
leads_course s place line (Err problem) new (Err fault) h = λ other. let same = h other in cc

-- the one at a place, of courses as they are kept
pub course_leads : (s : Said) (items : List KeptCourse) (place line : ℕ) (after : Course → Result Course StimRule) (old new : KeptCourse) (r : Result (Unit {0}) StimFault)
    → s.courses ≡ map course_view items → place < length items → old ≡ slice_index_or items place old → Leads (in_line line (after (course_view old))) (course_view new) r
    → Leads (in_line line (with_course s place (after (course_at s place)))) (record s { courses = map course_view (set items place new) }) r
course_leads s items place line after old new r are within is h =
    let at : course_view old ≡ course_at s place =
    ap course_view is ∙ sym (get_or-map course_view items place old (Sets []) within) ∙ ap (λ (cs : List Course). slice_index_or cs place (Sets [])) (sym are) in
    subst (λ (cs : List Course). Leads (in_line line (with_course s place (after (course_at s place)))) (record s { courses = cs }) r)
    (ap (λ (cs : List Course). set cs place (course_view new)) are ∙ sym (map-set course_view items place new))
    (leads_course s place line (after (course_at s place)) (course_view new) r (subst (λ (c : Course). Leads (in_line line (after c)) (course_view new) r) at h))

module _ (inputs : List Input) (s : Said) (found : Option ℕ) (place : ℕ) where
  pub clock_leads : (first half line : ℕ) (left : Said) (r : Result (Unit {0}) StimFault) → Some place ≡ found → (input_at inputs place).is_scalar ≡ true
      → Leads (in_line line (with_course s place (after_clock first half (course_at s place)))) left r → Leads (in_line line (set_clock inputs s found first half)) left r
  clock_leads first half line left r here scalar h = subst (λ found. Leads (in_line line (set_clock inputs s found first half)) left r) here (rw scalar h)

  pub set_leads : (time line : ℕ) (text : Word) (values : List Nine) (left : Said) (r : Result (Unit {0}) StimFault) → Some place ≡ found
      → Some values ≡ values_for (input_at inputs place) text → Leads (in_line line (with_course s place (after_set time values (course_at s place)))) left r
      → Leads (in_line line (set_input inputs s found time text)) left r
  set_leads time line text values left r here are h =
      subst (λ found. Leads (in_line line (set_input inputs s found time text)) left r) here (subst (λ given. Leads (in_line line (set_values s place time given)) left r) are h)

-- ---- lines as they are kept

one_time : (b : Bool) (t : ℕ) (next : ℕ → Result Said StimRule) → (if not b then Err TimeTooLarge else next t) ≡ after_time (if b then time.At t else time.TooLarge) next
one_time true t next = refl
one_time false t next = refl

two_times : (a b : Bool) (t u : ℕ) (next : ℕ → ℕ → Result Said StimRule) → (if not a || not b then Err TimeTooLarge else next t u)
    ≡ after_time (if a then time.At t else time.TooLarge) (λ f. after_time (if b then time.At u else time.TooLarge) (λ h. next f h))
two_times true true t u next = refl
two_times true false t u next = refl
two_times false b t u next = refl

pub kept_says : (inputs : List Input) (s : Said) (form : Form) (k : KeptForm) → IsKeptAs form k → after_form inputs s (Some form) ≡ after_kept inputs s k
kept_says inputs s (At t name text) (kept.At t' name' text') h =
    one_time (nat_le t latest_time) t (λ t. set_input inputs s (input_named inputs name) t text) ∙ rw (h.0, h.1, h.2) refl
kept_says inputs s (Clock name first half) (kept.Clock name' first' half') h =
    two_times (nat_le first latest_time) (nat_le half latest_time) first half (λ f g. set_clock inputs s (input_named inputs name) f g) ∙ rw (h.0, h.1, h.2) refl
kept_says inputs s (Stop t) (kept.Stop t') h =
    ap (λ said. if is_some s.stop then Err BadLine else said) (one_time (nat_le t latest_time) t (λ t. Ok (record s { stop = Some t }))) ∙ rw h refl
kept_says inputs s form k h = absurd h

form_says : (inputs : List Input) (s : Said) (form : Option Form) (k : KeptForm) → IsFormOf form (Some k) → after_form inputs s form ≡ after_kept inputs s k
form_says inputs s (Some form) k h = kept_says inputs s form k h
form_says inputs s None k h = absurd h

pub line_leads : (inputs : List Input) (s : Said) (line : List ℕ) (words : List Word) (number : ℕ) (new : Said) (r : Result (Unit {0}) StimFault) (k : KeptForm)
    → words ≡ words_of line → says_nothing words ≡ false → IsFormOf (form_of words) (Some k) → Leads (in_line number (after_kept inputs s k)) new r
    → Leads (in_line number (after_line inputs s line)) new r
line_leads inputs s line words number new r k are some says h =
    subst (λ ws. Leads (in_line number (if says_nothing ws then Ok s else after_form inputs s (form_of ws))) new r) are
    (rw some (subst (λ said. Leads (in_line number said) new r) (sym (form_says inputs s (form_of words) k says)) h))

pub time_goes : (line t : ℕ) (time : Time) → Ok t ≡ time_in_line line time → (next : ℕ → Result Said StimRule) → after_time time next ≡ next t
time_goes line t (time.At u) h next = let same : u ≡ t = cc in ap next same
time_goes line t time.TooLarge h next = cc
