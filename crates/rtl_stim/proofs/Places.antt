-- The elements of the input at a place.
use Rattle.std.proofs.Common.{◌≡◌, ◌≢◌, ℕ, suc, zero, ◌<◌, List, [], ◌∷◌, length, map, refl, sym, ap, subst, ◌∙◌, arith}
use Rattle.std.specs.Prelude.{Contains, AllPairs, slice_get, slice_index_or, option_map, Some}
use Rattle.std.proofs.lemmas.List.{length-map, get_or-map}
use Rattle.std.proofs.lemmas.List.Elements.{Contains-get_or, Contains-append_left, Contains-append_right}
use Rattle.std.proofs.lemmas.Option.{slice_get-get_or}
use Rattle.rtl_agenda.specs.Agenda.{Change}
use Rattle.rtl_stim_lines.specs.declared.inputs.Element.{Element as KeptElement}
use Rattle.rtl_stim_lines.specs.Courses.{Sets}
use Rattle.rtl_stim_lines.specs.Inputs.{Input, Element, input_at, no_input}
use Rattle.rtl_stim_lines.specs.Reading.{Schedule}
use Rattle.rtl_stim_lines.specs.Times.{nets_of, all_nets}
use Rattle.rtl_stim_lines.specs.Filling.{HaveOwnNets}
use Rattle.rtl_stim_lines.specs.View.{element_view, course_in, course_view, input_view}
use Rattle.rtl_stim_lines.specs.declared.courses.Course.{Course as KeptCourse}
use Rattle.rtl_stim.specs.declared.stimulus.Stimulus.TheInside.{Inside}
use Rattle.rtl_stim.specs.Kept.{stimulus_view, IsKept}
use Rattle.rtl_stim.specs.Moments.{IsStimulus}
use Rattle.rtl_stim.specs.Stimuli.{StimulusView}
use Rattle.rtl_stim.specs.Pushes.{Push, element_pushes, due, place_pushes}
use Rattle.rtl_stim.proofs.Values.{Own, own_of, own_left, own_right, own_apart, net_there}
use Rattle.rtl_stim.proofs.Adding.{gathered_from, pushed_from}

module _ (inputs : List Input) (place : ℕ) (within : place < length inputs) where
  pub input_there : slice_get inputs place ≡ Some (input_at inputs place)
  input_there = slice_get-get_or inputs place no_input within

  module _ (es : List KeptElement) (are : option_map (λ input. input.elements) (slice_get inputs place) ≡ Some (map element_view es)) where
    pub elements_seen : (input_at inputs place).elements ≡ map element_view es
    elements_seen = let e = ap (option_map (λ (input : Input). input.elements)) (slice_get-get_or inputs place no_input within) in cc (are, e)

    pub nets_seen : nets_of (input_at inputs place) ≡ map (λ e. e.net) es
    nets_seen = ap (λ (elements : List Element). map (λ (e : Element). e.net) elements) elements_seen ∙ same es
      where
        same : (xs : List KeptElement) → map (λ (e : Element). e.net) (map element_view xs) ≡ map (λ (e : KeptElement). e.net) xs
        same [] = refl
        same (x ∷ xs) = ap (λ ns. x.net ∷ ns) (same xs)

-- a stimulus, by what is kept of it
module _ (s : Inside) (v : StimulusView) (view : stimulus_view s ≡ v) (k : IsKept s) where
  pub kept_stimulus : IsStimulus v
  kept_stimulus = subst IsStimulus view k.stimulus

  pub each_kept_course : length s.schedule.courses.items ≡ length v.inputs
  each_kept_course = sym (length-map s.schedule.courses.items course_view) ∙ k.stimulus.each_course ∙ ap (λ (w : StimulusView). length w.inputs) view

pub each_kept_input : (s : Inside) (v : StimulusView) → stimulus_view s ≡ v → length s.inputs.entries ≡ length v.inputs
each_kept_input s v view = sym (length-map s.inputs.entries input_view) ∙ ap (λ (w : StimulusView). length w.inputs) view

pub kept_course : (courses : List KeptCourse) (place : ℕ) (d : KeptCourse) → place < length courses → slice_index_or (map course_view courses) place (Sets [])
    ≡ course_view (slice_index_or courses place d)
kept_course courses place d within = get_or-map course_view courses place d (Sets []) within

-- an input of a stimulus, by what is kept of it
pub record IsKeptInput (v : StimulusView) (s : Inside) (place : ℕ) : Type 0 where
  pub stimulus : IsStimulus v
  pub there : place < length s.schedule.courses.items
  pub course : (x : KeptCourse) → x ≡ slice_index_or s.schedule.courses.items place x → course_in v.schedule place ≡ course_view x
  pub nets : (es : List KeptElement) → option_map (λ input. input.elements) (slice_get (stimulus_view s).inputs place) ≡ Some (map element_view es)
      → nets_of (input_at v.inputs place) ≡ map (λ e. e.net) es

pub kept_input : (v : StimulusView) (s : Inside) (place : ℕ) → v ≡ stimulus_view s → IsKept s → place < length v.inputs → IsKeptInput v s place
kept_input v s place view k within =
    let inside : place < length (stimulus_view s).inputs = subst (λ (w : StimulusView). place < length w.inputs) view within in
    let there : place < length s.schedule.courses.items = omega (arith, inside, k.stimulus.each_course, length-map s.schedule.courses.items course_view) in
    record {
      stimulus = subst IsStimulus (sym view) k.stimulus;
      there = there;
      course = λ x is. ap (λ (w : StimulusView). course_in w.schedule place) view ∙ kept_course s.schedule.courses.items place x there ∙ ap course_view (sym is);
      nets = λ es are. ap (λ (w : StimulusView). nets_of (input_at w.inputs place)) view ∙ nets_seen (stimulus_view s).inputs place inside es are;
    }

pub pairs_of_own : (ns : List ℕ) → Own ns → AllPairs (λ n m. n ≢ m) ns
pairs_of_own [] own i j d before within same = absurd (omega (arith, within))
pairs_of_own (n ∷ ns) own i zero d before within same = absurd (omega (arith, before))
pairs_of_own (n ∷ ns) own zero (suc j) d before within same = own.0 (subst (Contains ns) (sym same) (Contains-get_or ns j d (omega (arith, within))))
pairs_of_own (n ∷ ns) own (suc i) (suc j) d before within same = pairs_of_own ns own.1 i j d (omega (arith, before)) (omega (arith, within)) same

own_at : (inputs : List Input) (i : ℕ) → Own (all_nets inputs) → i < length inputs → Own (nets_of (input_at inputs i))
own_at [] i own within = absurd (omega (arith, within))
own_at (x ∷ inputs) zero own within = own_left (nets_of x) (all_nets inputs) own
own_at (x ∷ inputs) (suc i) own within = own_at inputs i (own_right (nets_of x) (all_nets inputs) own) (omega (arith, within))

-- an input's elements have different nets
pub pairs_at : (inputs : List Input) (i : ℕ) → HaveOwnNets inputs → i < length inputs → AllPairs (λ n m. n ≢ m) (nets_of (input_at inputs i))
pairs_at inputs i own within = pairs_of_own (nets_of (input_at inputs i)) (own_at inputs i (own_of (all_nets inputs) own) within)

pub among_all : (inputs : List Input) (i n : ℕ) → i < length inputs → Contains (nets_of (input_at inputs i)) n → Contains (all_nets inputs) n
among_all [] i n within there = absurd (omega (arith, within))
among_all (x ∷ inputs) zero n within there = Contains-append_left (nets_of x) (all_nets inputs) n there
among_all (x ∷ inputs) (suc i) n within there = Contains-append_right (nets_of x) (all_nets inputs) n (among_all inputs i n (omega (arith, within)) there)

apart_at : (inputs : List Input) (i j n : ℕ) → Own (all_nets inputs) → i < j → j < length inputs → Contains (nets_of (input_at inputs i)) n → Contains (nets_of (input_at inputs j)) n → ⊥
apart_at [] i j n own before within left right = omega (arith, within)
apart_at (x ∷ inputs) i zero n own before within left right = omega (arith, before)
apart_at (x ∷ inputs) zero (suc j) n own before within left right =
    own_apart (nets_of x) (all_nets inputs) n own left (among_all inputs j n (omega (arith, within)) right)
apart_at (x ∷ inputs) (suc i) (suc j) n own before within left right =
    apart_at inputs i j n (own_right (nets_of x) (all_nets inputs) own) (omega (arith, before)) (omega (arith, within)) left right

-- two inputs have different nets
pub nets_apart : (inputs : List Input) (i j n : ℕ) → HaveOwnNets inputs → i < j → j < length inputs → Contains (nets_of (input_at inputs i)) n
    → Contains (nets_of (input_at inputs j)) n → ⊥
nets_apart inputs i j n own before within left right = apart_at inputs i j n (own_of (all_nets inputs) own) before within left right

-- what is pushed of an input is of its nets
pub push_of_place : (inputs : List Input) (schedule : Schedule) (now place t : ℕ) (x : Change) → Contains (place_pushes inputs schedule now place) (t, x)
    → Contains (nets_of (input_at inputs place)) x.0
push_of_place inputs schedule now place t x pushed =
    let course = course_in schedule place in
    let es = (input_at inputs place).elements in
    let from = gathered_from (element_pushes course es) (due course now schedule.stop) (t, x) pushed in
    let made = pushed_from course from.0 0 es (t, x) from.2 in
    subst (Contains (nets_of (input_at inputs place))) (sym (ap (λ (q : Push). q.1.0) made.3)) (net_there es made.0 made.1 made.2)
