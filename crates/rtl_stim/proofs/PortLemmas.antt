-- The in ports of a netlist's top.
use Rattle.std.proofs.Common.{◌≡◌, ℕ, ◌+◌, ◌<◌, ◌≤◌, true, false, cond, List, [], ◌∷◌, ◌++◌, length, map, take, drop, filter, get_or, sym, ap, subst, ◌∙◌, arith, append-nil}
use Rattle.std.specs.Prelude.{◌≢◌, All, AllPairs}
use Rattle.std.proofs.lemmas.List.{map-append, length-map, get_or-map}
use Rattle.std.proofs.lemmas.List.Elements.{All-get_or, All-weaker, All-map, All-filter, filter_more}
use Rattle.std.proofs.lemmas.List.Kept.{AllPairs-from_increasing}
use Rattle.std.proofs.lemmas.Option.{slice_get_within}
use Rattle.rtl_net.specs.declared.signal.Signal.{Signal}
use Rattle.rtl_net.specs.Nets.{NetlistView, SignalView, signal_view, element_type}
use Rattle.rtl_net.specs.Elaborated.{IsNet, SignalInRange}
use Rattle.rtl_model.specs.bodies.Types.{HasType}
use Rattle.rtl_stim_lines.specs.Inputs.{Input}
use Rattle.rtl_stim_lines.specs.Filling.{HaveOwnNets}
use Rattle.rtl_stim_lines.specs.Reading.{Schedule}
use Rattle.rtl_stim_lines.specs.Times.{all_nets}
use Rattle.rtl_stim_lines.specs.View.{IsVector, AreVectors}
use Rattle.rtl_stim.specs.Ports.{HasOwnPorts, is_in_port, element_on, input_of, inputs_of}
use Rattle.rtl_stim.specs.Moments.{IsStimulus}
use Rattle.rtl_stim.proofs.Inputs.{all_before, split_filter}

-- ---- a signal at its place

module _ (net : NetlistView) (elaborated : IsNet net) (signals : List Signal) (views : map signal_view signals ≡ net.signals)
    (i : ℕ) (s : Signal) (within : i < length signals) (is : s ≡ get_or signals i s) where
  pub view_there : get_or net.signals i (signal_view s) ≡ signal_view s
  view_there =
      ap (λ (xs : List SignalView). get_or xs i (signal_view s)) (sym views) ∙ get_or-map signal_view signals i s (signal_view s) within ∙ ap signal_view (sym is)

  pub place_there : i < length net.signals
  place_there = omega (arith, ap length views, length-map signals signal_view)

  in_range : SignalInRange net.types (length net.scopes) (signal_view s)
  in_range =
      subst (SignalInRange net.types (length net.scopes)) view_there
      (All-get_or (SignalInRange net.types (length net.scopes)) net.signals i (signal_view s) place_there elaborated.signals)

  pub has_nets : 1 ≤ length s.nets.items
  has_nets = in_range.width.0

  pub few_nets : length s.nets.items ≤ 64
  few_nets = in_range.width.1

  pub nets_there : All (λ n. n < length net.types) s.nets.items
  nets_there =
      All-weaker (HasType net.types (element_type s.kind)) (λ n. n < length net.types) (λ n has. slice_get_within net.types n (element_type s.kind) has) s.nets.items in_range.nets

  -- an in port has a name of its own
  pub name_is_new : HasOwnPorts net → is_in_port net (signal_view s) ≡ true
      → All (λ other. other.name ≢ (input_of net (signal_view s)).name) (map (input_of net) (filter (is_in_port net) (take i net.signals)))
  name_is_new own passes =
      let p = is_in_port net in
      let f = input_of net in
      let v = signal_view s in
      let x = get_or net.signals i v in
      let before = filter p (take i net.signals) in
      let behind = filter p (drop (i + 1) net.signals) in
      let R : Input → Input → Type 0 = λ a b. a.name ≢ b.name in
      let passes' : p x ≡ true = ap p view_there ∙ passes in
      let cut : map f (filter p net.signals) ≡ map f before ++ f x ∷ map f behind =
      ap (map f) (split_filter p net.signals i v place_there passes') ∙ map-append f before (x ∷ behind) in
      subst (λ y. All (λ other. other.name ≢ (f y).name) (map f before)) view_there
      (all_before R (map f before) (map f behind) (f x) (subst (AllPairs R) cut own.names))

  pub port_more : is_in_port net (signal_view s) ≡ true → map (input_of net) (filter (is_in_port net) (take (i + 1) net.signals))
      ≡ map (input_of net) (filter (is_in_port net) (take i net.signals)) ++ input_of net (signal_view s) ∷ []
  port_more passes =
      let p = is_in_port net in
      let f = input_of net in
      let before = filter p (take i net.signals) in
      ap (map f) (filter_more p net.signals i (signal_view s) place_there ∙ ap (λ x. before ++ cond (p x) (x ∷ []) []) view_there
      ∙ ap (λ b. before ++ cond b (signal_view s ∷ []) []) passes)
      ∙ map-append f before (signal_view s ∷ [])

  pub port_less : is_in_port net (signal_view s) ≡ false → map (input_of net) (filter (is_in_port net) (take (i + 1) net.signals))
      ≡ map (input_of net) (filter (is_in_port net) (take i net.signals))
  port_less fails =
      let p = is_in_port net in
      let before = filter p (take i net.signals) in
      ap (map (input_of net)) (filter_more p net.signals i (signal_view s) place_there ∙ ap (λ x. before ++ cond (p x) (x ∷ []) []) view_there
      ∙ ap (λ b. before ++ cond b (signal_view s ∷ []) []) fails ∙ append-nil before)

-- ---- all of them

pub are_vectors : (net : NetlistView) → IsNet net → AreVectors (inputs_of net)
are_vectors net elaborated =
    let P : Input → Type 0 = λ input. IsVector input.elements in
    let wide : (s : SignalView) → SignalInRange net.types (length net.scopes) s → P (input_of net s) =
    λ s h. (omega (arith, length-map s.nets (element_on net), h.width.0), omega (arith, length-map s.nets (element_on net), h.width.1)) in
    All-map P (input_of net) (filter (is_in_port net) net.signals)
    (All-filter (is_in_port net) (λ s. P (input_of net s)) net.signals
    (All-weaker (SignalInRange net.types (length net.scopes)) (λ s. P (input_of net s)) wide net.signals elaborated.signals))

pub nets_rise : (net : NetlistView) → IsNet net → HasOwnPorts net → AllPairs (λ n m. n < m) (all_nets (inputs_of net))
nets_rise net elaborated own = subst (AllPairs (λ n m. n < m)) (sym own.elements) (AllPairs-from_increasing net.inputs elaborated.in_range.inputs_rise)

pub have_own_nets : (net : NetlistView) → IsNet net → HasOwnPorts net → HaveOwnNets (inputs_of net)
have_own_nets net elaborated own = λ i j d before there same. let h = nets_rise net elaborated own i j d before there in omega (arith, h, same)

-- with a course each, the inputs of a netlist with ports of its own are a stimulus's
pub of_ports : (net : NetlistView) (inputs : List Input) (schedule : Schedule) → IsNet net → HasOwnPorts net → inputs ≡ inputs_of net → length schedule.courses ≡ length inputs
    → IsStimulus (record { inputs = inputs; schedule = schedule })
of_ports net inputs schedule elaborated own are each = record {
  own_nets = subst HaveOwnNets (sym are) (have_own_nets net elaborated own);
  each_course = each;
  have_elements = subst (λ (inputs : List Input). All (λ input. 1 ≤ length input.elements) inputs) (sym are)
      (All-weaker (λ input. IsVector input.elements) (λ input. 1 ≤ length input.elements) (λ input wide. wide.0) (inputs_of net) (are_vectors net elaborated));
}
