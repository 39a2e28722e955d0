-- How the tables of a netlist are filled.
use Rattle.std.specs.Prelude.{◌≡◌, ℕ, ◌<◌, List, [], ◌++◌, length, map, slice_index_or, Option, Some, None}
use Rattle.smallvec.specs.SmallVec.{SmallVec}
use Rattle.rtl_model.specs.simulation.Netlist as core
use Rattle.rtl_model.specs.nets.FlatNetlist.{FlatDriver}
use Rattle.rtl_net.specs.declared.net.Source.{Source}
use Rattle.rtl_net.specs.declared.process.Driver.{Driver}
use Rattle.rtl_net.specs.declared.net.Owner.{Owner}
use Rattle.rtl_net.specs.Nets.{driver_view, source_view}
use Rattle.rtl_net.specs.Names.{Element}
use Rattle.rtl_net.specs.NetOf.{owner_view}

-- the nets of these drivers
abbrev pub nets_of : List Driver → List ℕ
nets_of drives = map (λ (d : FlatDriver). d.net) (map driver_view drives)

-- the sources that a table has for a net
abbrev pub shown : SmallVec Source → List core.Source
shown listed = map source_view listed.items

abbrev pub sources_at : List (SmallVec Source) → (net : ℕ) → List core.Source
sources_at table n = slice_index_or (map shown table) n []

-- each net gets these sources behind those it has
pub record AddsSources (what : (net : ℕ) → List core.Source) (old new : List (SmallVec Source)) : Type 0 where
  pub as_many : length new ≡ length old
  pub each : (n : ℕ) → n < length old → sources_at new n ≡ sources_at old n ++ what n

-- a net with an element gets that as its owner, and any other keeps what it has
abbrev pub owner_or : Option Element → Element → Element
owner_or (Some e) old = e
owner_or None old = old

abbrev pub owner_at : List Owner → (net : ℕ) → (default : Element) → Element
owner_at owners n d = slice_index_or (map owner_view owners) n d

pub record Owns (element : (net : ℕ) → Option Element) (old new : List Owner) : Type 0 where
  pub as_many : length new ≡ length old
  pub each : (n : ℕ) (d : Element) → n < length old → owner_at new n d ≡ owner_or (element n) (owner_at old n d)

-- the element of a signal's place
abbrev pub element_at : (signal : ℕ) → Option ℕ → Option Element
element_at signal None = None
element_at signal (Some place) = Some (record { signal = signal; place = place })
