-- Courses and inputs, one more at a time.
use Rattle.std.proofs.Common.{◌≡◌, ℕ, ◌+◌, ◌<◌, List, [], ◌∷◌, ◌++◌, length, map, take, get_or, Some, refl, sym, ap, ◌∙◌, arith, append_assoc, append-nil}
use Rattle.std.specs.Prelude.{slice_get, slice_index_or, option_map}
use Rattle.std.proofs.lemmas.List.{take_more, map-append}
use Rattle.std.proofs.lemmas.Option.{slice_get-get_or}
use Rattle.vhdl_values.specs.declared.scalar.Nine.{Nine}
use Rattle.rtl_stim_lines.specs.Inputs.{Input, Element, no_input}
use Rattle.rtl_stim_lines.specs.Courses.{Course, Sets, course_value}
use Rattle.rtl_stim_lines.specs.Times.{nets_of, all_nets, value_of}
use Rattle.rtl_stim_lines.specs.Filling.{HaveOwnNets}
use Rattle.rtl_stim.specs.Kept.{element_values}
use Rattle.rtl_stim.proofs.Values.{value_there}
use Rattle.rtl_stim.proofs.Numbering.{numbered_same}

-- ---- values of inputs

pub all_nets-append : (xs ys : List Input) → all_nets (xs ++ ys) ≡ all_nets xs ++ all_nets ys
all_nets-append [] ys = refl
all_nets-append (x ∷ xs) ys = ap (λ ns. nets_of x ++ ns) (all_nets-append xs ys) ∙ sym (append_assoc (nets_of x) (all_nets xs) (all_nets ys))

map_nets : {X : Type 0} (f : ℕ → X) (es : List Element) → map (λ e. f e.net) es ≡ map f (map (λ element. element.net) es)
map_nets f [] = refl
map_nets f (e ∷ es) = ap (λ xs. f e.net ∷ xs) (map_nets f es)

module _ (inputs : List Input) (courses : List Course) (own : HaveOwnNets inputs) (each : length courses ≡ length inputs) (i : ℕ) (within : i < length inputs) where
  -- the values of the elements of the input at a place
  pub values_there : (t : ℕ) (es : List Element) → option_map (λ input. input.elements) (slice_get inputs i) ≡ Some es
      → element_values (slice_index_or courses i (Sets [])) t es ≡ map (λ e. value_of inputs courses e.net t) es
  values_there t es are =
      let is = slice_get-get_or inputs i no_input within in
      let has = slice_get-get_or courses i (Sets []) (omega (arith, each, within)) in
      let same : (get_or inputs i no_input).elements ≡ es = cc (is, are, ap (option_map (λ (input : Input). input.elements)) is) in
      numbered_same (λ place e. course_value (get_or courses i (Sets [])) place e.start t) (λ e. value_of inputs courses e.net t) 0 es
      (λ k e at. let here : 0 + k ≡ k = omega arith in
      ap (λ p. course_value (get_or courses i (Sets [])) p e.start t) here
      ∙ sym (value_there inputs courses i k t (get_or inputs i no_input) (get_or courses i (Sets [])) e own is has (ap (λ es. slice_get es k) same ∙ at)))

  pub input_more : (t : ℕ) (es : List Element) → option_map (λ input. input.elements) (slice_get inputs i) ≡ Some es
      → map (λ n. value_of inputs courses n t) (all_nets (take i inputs)) ++ element_values (slice_index_or courses i (Sets [])) t es
      ≡ map (λ n. value_of inputs courses n t) (all_nets (take (i + 1) inputs))
  input_more t es are =
      let is = slice_get-get_or inputs i no_input within in
      let V : ℕ → Nine = λ n. value_of inputs courses n t in
      let same : (get_or inputs i no_input).elements ≡ es = cc (is, are, ap (option_map (λ (input : Input). input.elements)) is) in
      let nets = all_nets (take i inputs) in
      ap (λ vs. map V nets ++ vs) (values_there t es are ∙ map_nets V es ∙ ap (λ es. map V (map (λ element. element.net) es)) (sym same))
      ∙ sym (map-append V nets (nets_of (get_or inputs i no_input)))
      ∙ ap (map V) (ap (λ ns. nets ++ ns) (sym (append-nil (nets_of (get_or inputs i no_input)))) ∙ sym (all_nets-append (take i inputs) (get_or inputs i no_input ∷ [])) ∙ ap all_nets (sym (take_more inputs i no_input within)))
