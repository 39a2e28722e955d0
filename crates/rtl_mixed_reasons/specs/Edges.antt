-- Edges among the conditions that `and` joins. An edge is `rising_edge(s)`, `falling_edge(s)`, or `s'event` and `s =
-- '1'` (or '0'), which are two conditions (IEEE 1076-2008, 16.2.4). A register's condition is an edge alone
-- (docs/LANGUAGE.md, "Registers").
use Rattle.std.specs.Prelude.{ℕ, Bool, true, false, not, ◌&&◌, ◌==◌, if◌then◌else◌, List, ◌∷◌, Option, Some, None, option_map, option_and_then}
use Rattle.std.specs.Option.{option_or}
use Rattle.vhdl_values.specs.declared.scalar.Nine.{Nine}
use Rattle.vhdl_values.specs.declared.kinds.Logic.{Logic}
use Rattle.vhdl_values.specs.declared.kinds.Logic.TheVariants.{And}
use Rattle.vhdl_values.specs.declared.kinds.Edge.{Edge}
use Rattle.vhdl_values.specs.declared.kinds.Edge.TheVariants.{Rising, Falling}
use Rattle.rtl_model.specs.bodies.Body.{Test, level, rising, falling, event, combined}
use Rattle.rtl_model.specs.bodies.Kinds.{edge_to}
use Rattle.rtl_model.specs.bodies.Reads.{test_events}
use Rattle.rtl_mixed_reasons.specs.declared.edges.EdgeTest.{EdgeTest}
use Rattle.rtl_mixed_reasons.specs.declared.edges.Many.{Many}
use Rattle.rtl_mixed_reasons.specs.declared.edges.Many.TheVariants.{One, Two, More}
use Rattle.rtl_mixed_reasons.specs.declared.edges.Start.{Start}
use Rattle.rtl_mixed_reasons.specs.declared.edges.Start.TheVariants.{Call, Event}
use Rattle.rtl_mixed_reasons.specs.declared.edges.Conditions.{Conditions}
use Rattle.rtl_mixed_reasons.specs.declared.edges.Found.{Found}

-- what looks for an event: an edge by a call, or `s'event`
abbrev pub start_of : Test → Option Start
start_of (rising net) = Some (Call (record { clock = net; edge = Rising }))
start_of (falling net) = Some (Call (record { clock = net; edge = Falling }))
start_of (event net) = Some (Event net)
start_of _ = None

-- the edge that `s = '1'` (or '0') makes beside an event of this net
abbrev pub level_at : (clock : Option ℕ) → (plain : Bool) → (net : ℕ) → Nine → Option Edge
level_at (Some clock) plain net v = if plain && (net == clock) then edge_to v else None
level_at None plain net v = None

abbrev pub level_of : (clock : Option ℕ) → Test → Option Edge
level_of clock (level plain net v) = level_at clock plain net v
level_of clock _ = None

-- ---- the conditions that `and` joins: how many they are, the first of them that looks for an event, and the first
-- that makes an edge beside an event of this net

abbrev pub is_and : Logic → Bool
is_and And = true
is_and _ = false

abbrev pub together : Many → Many → Many
together One One = Two
together _ _ = More

abbrev pub single : Option Start → Option Edge → Conditions
single start to = record { many = One; start = start; level = to }

abbrev pub joined_by : Logic → Conditions → Conditions → Conditions
joined_by op a b =
    if is_and op
    then record { many = together a.many b.many; start = option_or a.start b.start; level = option_or a.level b.level }
    else single None None

abbrev pub joined : (clock : Option ℕ) → Test → Conditions
joined clock (combined op s t) = joined_by op (joined clock s) (joined clock t)
joined clock t = single (start_of t) (level_of clock t)

-- ---- the edge among them, and whether it is all of them

abbrev pub is_one : Many → Bool
is_one One = true
is_one _ = false

abbrev pub is_two : Many → Bool
is_two Two = true
is_two _ = false

abbrev pub found_from : Test → Conditions → Option Start → Option Found
found_from t all None = None
found_from t all (Some (Call edge)) = Some (record { edge = edge; alone = is_one all.many })
found_from t all (Some (Event net)) =
    option_map (λ to. record { edge = record { clock = net; edge = to }; alone = is_two all.many })
    (joined (Some net) t).level

abbrev pub found_in : Test → Option Found
found_in t = found_from t (joined None t) (joined None t).start

-- the edge that a condition is
abbrev pub edge_alone : Found → Option EdgeTest
edge_alone f = if f.alone then Some f.edge else None

abbrev pub edge_of : Test → Option EdgeTest
edge_of t = option_and_then edge_alone (found_in t)

-- `rising_edge(s) and more`: an edge, and not alone
abbrev pub is_beside : Found → Bool
is_beside f = not f.alone

abbrev pub holds_of : {A : Type 0} → (A → Bool) → Option A → Bool
holds_of such None = false
holds_of such (Some a) = such a

abbrev pub has_two : List ℕ → Bool
has_two (n ∷ m ∷ ns) = true
has_two _ = false

-- an edge beside conditions without an edge or `'event`
abbrev pub is_gated : Test → Bool
is_gated t = holds_of is_beside (found_in t) && not (has_two (test_events t))
