-- Hubs: what is looked at, kept once for all that look at the same. A hub has two looks, each of them a net or a hub
-- before it.
use Rattle.std.specs.Prelude.{◌≡◌, ℕ, ◌+◌, ◌<◌, ◌≤◌, ⊤, Bool, List, [], ◌∷◌, ◌++◌, length, flat_map, slice_index_or}
use Rattle.std.specs.Prelude.{Option, Some, None}
use Rattle.rtl_model.specs.bodies.Body.{Stmts}
use Rattle.rtl_model.specs.bodies.Looks.{Sight, now_of, looks_of}
use Rattle.rtl_body_facts.specs.Reading.{is_in}
use Rattle.rtl_looks.specs.declared.hubs.Look.{Look}
use Rattle.rtl_looks.specs.declared.hubs.Look.TheVariants as l
use Rattle.rtl_looks.specs.declared.hubs.Hub.{Hub}

-- ---- the nets behind a look

-- where these are the nets behind each hub
abbrev pub nets_by : (behind : List (List ℕ)) → Look → List ℕ
nets_by behind (l.Net net) = net ∷ []
nets_by behind (l.Hub hub) = slice_index_or behind hub []

-- behind each hub are those behind its left look and those behind its right one; the first hubs' are known
abbrev pub nets_behind : (known : List (List ℕ)) → List Hub → List (List ℕ)
nets_behind known [] = known
nets_behind known (hub ∷ hubs) =
    nets_behind (known ++ (nets_by known hub.left ++ nets_by known hub.right) ∷ []) hubs

-- what looks at nothing has no look
abbrev pub nets_of : List Hub → Option Look → List ℕ
nets_of hubs None = []
nets_of hubs (Some look) = nets_by (nets_behind [] hubs) look

-- ---- hubs in order

-- a look that a hub of this number may have
abbrev pub IsBelow : (number : ℕ) → Look → Type 0
IsBelow number (l.Net net) = ⊤
IsBelow number (l.Hub hub) = hub < number

abbrev pub InOrderFrom : (number : ℕ) → List Hub → Type 0
InOrderFrom number [] = ⊤
InOrderFrom number (hub ∷ hubs) = IsBelow number hub.left × IsBelow number hub.right × InOrderFrom (number + 1) hubs

abbrev pub AreInOrder : List Hub → Type 0
AreInOrder hubs = InOrderFrom 0 hubs

-- the hub that it may name is one of these
abbrev pub IsThere : List Hub → Option Look → Type 0
IsThere hubs None = ⊤
IsThere hubs (Some look) = IsBelow (length hubs) look

-- more hubs: a look at one that was there has the same nets behind it
pub record Grows (old new : List Hub) : Type 0 where
  pub longer : length old ≤ length new
  pub kept : (look : Option Look) → IsThere old look → nets_of new look ≡ nets_of old look

-- ---- what looks denote

-- the net's value now is among these sights
abbrev pub sees : (net : ℕ) → List Sight → Bool
sees net sights = is_in net (flat_map now_of sights)

abbrev pub looks_at : List Hub → (net : ℕ) → Option Look → Bool
looks_at hubs net look = is_in net (nets_of hubs look)

-- hubs are in order, and behind a look are the nets whose values now are among these sights
pub record Denotes (hubs : List Hub) (look : Option Look) (sights : List Sight) : Type 0 where
  pub order : AreInOrder hubs
  pub there : IsThere hubs look
  pub nets : (n : ℕ) → looks_at hubs n look ≡ sees n sights

-- the same of the elements of a value, place by place
pub data DenoteEach (hubs : List Hub) : List (Option Look) → List (List Sight) → Type 0 where
  none : AreInOrder hubs → DenoteEach hubs [] []
  more : {look : Option Look} {sights : List Sight} {looks : List (Option Look)} {rest : List (List Sight)}
      → Denotes hubs look sights → DenoteEach hubs looks rest → DenoteEach hubs (look ∷ looks) (sights ∷ rest)

-- what a number looks at in a table, and past its end nothing
abbrev pub look_at : List (Option Look) → (number : ℕ) → Option Look
look_at looks number = slice_index_or looks number None

-- What the drivers of a body look at, by their places: each what rtl_model says, so that behind its look are its
-- `looked_nets`. The hubs are in order.
pub record DriversLook (body : Stmts) (old new : List Hub) (looks : List (Option Look)) : Type 0 where
  pub grows : Grows old new
  pub denotes : (place : ℕ) → Denotes new (look_at looks place) (looks_of body place)
