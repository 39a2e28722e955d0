-- The places of the search for nets that are made of inputs, and of that for calm ones: steps along copies.
use Rattle.std.specs.Prelude.{◌≡◌, ◌↔◌, ℕ, ◌+◌, ◌*◌, ◌<◌, Bool, true, false, not, ◌&&◌, ◌||◌, nat_lt, if◌then◌else◌, List, length, slice_index, slice_index_or, IsTrue}
use Rattle.rtl_model.specs.simulation.Netlist.{Netlist}
use Rattle.rtl_model.specs.simulation.Calm.{IsMadeOfInputs, IsCalm}
use Rattle.rtl_process_kinds.specs.declared.asked.Asked.{Asked}
use Rattle.rtl_calm_nets.specs.declared.origins.Origin.{Origin}
use Rattle.rtl_calm_nets.specs.declared.origins.Origin.TheVariants as o
use Rattle.rtl_calm_nets.specs.declared.search.Step.{Step}
use Rattle.rtl_calm_nets.specs.declared.search.Step.TheVariants as s
use Rattle.rtl_process_kinds.specs.AskedValues.{is_asked, asked_through, number_of}
use Rattle.rtl_calm_nets.specs.NetOrigins.{given_at}

-- ---- made of inputs: a place for each net

abbrev pub made_step : Origin → Step
made_step o.Inputs = s.Ends true
made_step (o.Copied copied) = s.To copied.net
made_step _ = s.Ends false

pub record AreMade (net : Netlist) (made : List Bool) : Type 0 where
  pub each_net : length made ≡ length net.start
  pub each : (n : ℕ) → n < length net.start → IsTrue (slice_index_or made n false) ↔ IsMadeOfInputs net n

-- ---- calm: a place for each net and set of values

abbrev pub place_of : (net : ℕ) → Asked → ℕ
place_of net asked = 4 * net + number_of asked

-- a register that is reset to one of the values, if at all
abbrev pub resets_to : Asked → Origin → Bool
resets_to asked o.Unreset = true
resets_to asked (o.Reset by value) = is_asked asked value
resets_to asked _ = false

-- a net that starts with this value starts quietly
abbrev pub starts_quietly : Asked → Origin → (start : ℕ) → Bool
starts_quietly asked origin start = not (is_asked asked start) || resets_to asked origin

-- what is known of nets: where they come from, which are made of inputs, and what they start with
abbrev pub copy_step : List Origin → (starts : List ℕ) → (net : ℕ) → Asked → Step
copy_step origins starts net asked =
    if nat_lt net (length origins) && starts_quietly asked (given_at origins net) (slice_index starts net)
    then s.To (place_of net asked)
    else s.Ends false

abbrev pub calm_step : List Origin → (made : List Bool) → (starts : List ℕ) → Origin → Asked → Step
calm_step origins made starts o.Inputs asked = s.Ends true
calm_step origins made starts (o.Copied copied) asked =
    copy_step origins starts copied.net (asked_through asked copied.inverted)
calm_step origins made starts o.Unreset asked = s.Ends true
calm_step origins made starts (o.Reset by value) asked = s.Ends (is_asked asked value || slice_index_or made by false)
calm_step origins made starts o.Other asked = s.Ends false

-- the steps of these nets, for each set of values
pub record AreSteps (origins : List Origin) (made : List Bool) (starts : List ℕ) (steps : List Step) : Type 0 where
  pub each_place : length steps ≡ 4 * length origins
  pub each : (n : ℕ) (asked : Asked) → n < length origins
      → slice_index_or steps (place_of n asked) (s.Ends false)
      ≡ calm_step origins made starts (given_at origins n) asked

-- of each net and set whether it is calm for them
pub record AreCalm (net : Netlist) (calm : List Bool) : Type 0 where
  pub each_net : length calm ≡ 4 * length net.start
  pub each : (n : ℕ) (asked : Asked) → n < length net.start
      → IsTrue (slice_index_or calm (place_of n asked) false) ↔ IsCalm net n (is_asked asked)
