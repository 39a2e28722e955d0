-- Reading a text line by line.
use Rattle.std.proofs.Common.{◌≡◌, ℕ, suc, ◌+◌, ◌-◌, ◌<◌, ◌≤◌, false, List, [], ◌∷◌, length, take, drop, position, Some, None, Result, Ok, Err, refl, ap, sym, ◌∙◌, arith}
use Rattle.std.specs.List.{slice_split, position_or_len}
use Rattle.std.proofs.lemmas.List.{take_rest}
use Rattle.std.proofs.lemmas.List.Splits.{slice_split_first, slice_split_none, length-slice_split}
use Rattle.std.proofs.lemmas.List.Elements.{All-from_get_or}
use Rattle.std.proofs.lemmas.List.Quantifiers.{position-Some}
use Rattle.std.proofs.lemmas.List.Sums.{position_or_len_is, fails_before_first}
use Rattle.std.specs.Prelude.{◌≢◌}
use Rattle.std.specs.Result.{IsErrAnd}
use Rattle.std.proofs.lemmas.Grind.{common_steps}
use Rattle.std.proofs.lemmas.Bool.Decides.{nat_tests}
use Rattle.rtl_stim_lines.specs.declared.faults.StimFault.{StimFault}
use Rattle.rtl_stim_lines.specs.declared.faults.StimFault.TheVariants.{NoMemory}
use Rattle.rtl_stim_lines.specs.View.{Leads}
use Rattle.rtl_stim_lines.specs.Lines.{ends_line, without_return, as_lines, lines_of}
use Rattle.rtl_stim_lines.specs.Inputs.{Input}
use Rattle.rtl_stim_lines.specs.Reading.{Said, after_line, after_lines, in_line}

-- ---- lines

pub as_lines_more : (part : List ℕ) (parts : List (List ℕ)) → 0 < length parts → as_lines (part ∷ parts) ≡ without_return part ∷ as_lines parts
as_lines_more part [] some = absurd (omega (arith, some))
as_lines_more part (next ∷ parts) some = refl

pub lines_end : (text : List ℕ) → position ends_line text ≡ None → lines_of text ≡ text ∷ []
lines_end text h =
    let all : length text ≤ position_or_len ends_line text = grind (arith, nat_tests, h) in
    let none = All-from_get_or (λ (x : ℕ). ends_line x ≡ false) text 0 (λ i less. fails_before_first ends_line text i 0 (omega (arith, all, less))) in
    ap as_lines (slice_split_none ends_line text none)

pub lines_more : (text : List ℕ) (k : ℕ) → position ends_line text ≡ Some k → lines_of text ≡ without_return (take k text) ∷ lines_of (drop (k + 1) text)
lines_more text k h =
    let at = position-Some ends_line text k 0 h in
    let same = position_or_len_is ends_line text k 0 (omega (arith, at.0)) at.2 (λ _. at.1) in
    let more = length-slice_split ends_line (drop (k + 1) text) in
    ap as_lines (slice_split_first ends_line text 0 (omega (arith, same, at.0)) ∙ ap (λ (n : ℕ). take n text ∷ slice_split ends_line (drop (n + 1) text)) same)
    ∙ as_lines_more (take k text) (slice_split ends_line (drop (k + 1) text)) (omega (arith, more))

-- ---- what they say

after_fault : (inputs : List Input) (number : ℕ) (lines : List (List ℕ)) (fault : StimFault) → after_lines inputs number lines (Err fault) ≡ Err fault
after_fault inputs number [] fault = refl
after_fault inputs number (line ∷ lines) fault = after_fault inputs (suc number) lines fault

module _ (inputs : List Input) (number : ℕ) (rest : List ℕ) (s : Said) where
  next_line : (k : ℕ) → position ends_line rest ≡ Some k → after_lines inputs number (lines_of rest) (Ok s)
      ≡ after_lines inputs (suc number) (lines_of (drop (k + 1) rest)) (in_line number (after_line inputs s (without_return (take k rest))))
  next_line k here = ap (λ lines. after_lines inputs number lines (Ok s)) (lines_more rest k here)

  pub goes_on : (k : ℕ) (new : Said) → position ends_line rest ≡ Some k → in_line number (after_line inputs s (without_return (take k rest))) ≡ Ok new
      → after_lines inputs number (lines_of rest) (Ok s) ≡ after_lines inputs (suc number) (lines_of (drop (k + 1) rest)) (Ok new)
  goes_on k new here says = next_line k here ∙ ap (after_lines inputs (suc number) (lines_of (drop (k + 1) rest))) says

  pub goes_wrong : (k : ℕ) (fault : StimFault) → position ends_line rest ≡ Some k → in_line number (after_line inputs s (without_return (take k rest))) ≡ Err fault
      → after_lines inputs number (lines_of rest) (Ok s) ≡ Err fault
  goes_wrong k fault here says =
      next_line k here ∙ ap (after_lines inputs (suc number) (lines_of (drop (k + 1) rest))) says ∙ after_fault inputs (suc number) (lines_of (drop (k + 1) rest)) fault

  pub last_line : position ends_line rest ≡ None → after_lines inputs number (lines_of rest) (Ok s) ≡ in_line number (after_line inputs s rest)
  last_line none = ap (λ lines. after_lines inputs number lines (Ok s)) (lines_end rest none)

-- ---- from a place in the text

module _ (inputs : List Input) (number : ℕ) (text : List ℕ) (at end : ℕ) (s : Said) where
  abbrev part : List ℕ
  part = take (at + end - at) (drop at text)

  same_part : part ≡ take end (drop at text)
  same_part = let e : at + end - at ≡ end = omega arith in ap (λ n. take n (drop at text)) e

  pub on_from : (new : Said) → position ends_line (take (length text - at) (drop at text)) ≡ Some end → in_line number (after_line inputs s (without_return part)) ≡ Ok new
      → after_lines inputs number (lines_of (drop at text)) (Ok s) ≡ after_lines inputs (number + 1) (lines_of (drop (at + (end + 1)) text)) (Ok new)
  on_from new here says =
      let further : drop (end + 1) (drop at text) ≡ drop (at + (end + 1)) text = grind (arith, common_steps) in
      let one : suc number ≡ number + 1 = omega arith in
      goes_on inputs number (drop at text) s end new (ap (position ends_line) (sym (take_rest text at)) ∙ here) (ap (λ p. in_line number (after_line inputs s (without_return p))) (sym same_part) ∙ says)
      ∙ ap (λ rest. after_lines inputs (suc number) (lines_of rest) (Ok new)) further ∙ ap (λ n. after_lines inputs n (lines_of (drop (at + (end + 1)) text)) (Ok new)) one

  pub wrong_from : (fault : StimFault) → position ends_line (take (length text - at) (drop at text)) ≡ Some end → in_line number (after_line inputs s (without_return part)) ≡ Err fault
      → after_lines inputs number (lines_of (drop at text)) (Ok s) ≡ Err fault
  wrong_from fault here says =
      goes_wrong inputs number (drop at text) s end fault (ap (position ends_line) (sym (take_rest text at)) ∙ here) (ap (λ p. in_line number (after_line inputs s (without_return p))) (sym same_part) ∙ says)

pub last_from : (inputs : List Input) (number : ℕ) (text : List ℕ) (at : ℕ) (s : Said) → position ends_line (take (length text - at) (drop at text)) ≡ None
    → after_lines inputs number (lines_of (drop at text)) (Ok s) ≡ in_line number (after_line inputs s (take (length text - at) (drop at text)))
last_from inputs number text at s none =
    ap (λ rest. after_lines inputs number (lines_of rest) (Ok s)) (sym (take_rest text at)) ∙ last_line inputs number (take (length text - at) (drop at text)) s none

-- ---- what a function leads to

pub leads_ok : (expected : Result Said StimFault) (left : Said) (u : Unit {0}) (r : Result (Unit {0}) StimFault) → r ≡ Ok u → Leads expected left r → expected ≡ Ok left
leads_ok expected left u (Ok v) e h = h
leads_ok expected left u (Err fault) e h = cc

pub leads_wrong : (expected other : Result Said StimFault) (left left' : Said) (fault : StimFault) (r : Result (Unit {0}) StimFault) → Leads {B = Unit {0}} expected left (Err fault)
    → (expected ≡ Err fault → other ≡ Err fault) → IsErrAnd r (λ e. e ≡ fault) → Leads other left' r
leads_wrong expected other left left' fault (Ok u) h more is = absurd is
leads_wrong expected other left left' fault (Err e) h more is =
    λ refused. let h' : fault ≢ NoMemory → expected ≡ Err fault = h in more (h' (λ m. refused (is ∙ m))) ∙ ap (λ f. Err f) (sym is)
