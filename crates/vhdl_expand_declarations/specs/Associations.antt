-- Ports that are associated one after another.
use Rattle.std.specs.Prelude.{ℕ, List, [], ◌∷◌, ◌++◌, length, map, take, drop, Option, option_map, Ok}
use Rattle.std.specs.Borrow.{Bor}
use Rattle.vhdl_names_trees.specs.declared.vector.SignalPart as code
use Rattle.vhdl_names_rules.specs.units.Expressions.{SignalPart}
use Rattle.vhdl_names_rules.specs.units.Units as u
use Rattle.vhdl_names_trees.specs.views.Vectors.{place_view}
use Rattle.vhdl_names_units.specs.declared.declaration.Ports.{Ports}
use Rattle.vhdl_expand_tree.specs.declared.tree.Object as tree
use Rattle.vhdl_expand_tree.specs.Views.{object_view}
use Rattle.vhdl_expand_rules.specs.Declarations.{InstanceObjects, association, associations, first_of}
use Rattle.vhdl_expand_rules.specs.Elab.{Elab, ◌>>=◌}
use Rattle.vhdl_expand_rules.specs.Site.{Site}
use Rattle.vhdl_expand_rules.specs.Tree.{Object}
use Rattle.vhdl_expand_declarations.specs.Objects.{named_object}

-- a port of a declaration, whose name is no matter here
abbrev pub any_port : Ports → u.Port
any_port ports = record { mode = ports.mode; object = named_object ports.objects (record { at = 0; text = [] }) }

-- actuals that are lent, where there are some
abbrev pub places_view : List (Option (Bor code.SignalPart)) → List (Option SignalPart)
places_view actuals = map (option_map (λ (place : Bor code.SignalPart). place_view place.now)) actuals

-- the ports that are associated, and those behind them
pub record Associated : Type 0 where
  pub done : List Object
  pub left : List Object

-- so many ports are associated
abbrev pub associated_to : ℕ → List tree.Object → Associated
associated_to count objects =
    record { done = map object_view (take count objects); left = map object_view (drop count objects) }

-- one more, where there is one, of an instance whose label starts at this byte
abbrev pub next_associated : (above : Site) → (at : ℕ)
    → List (Option SignalPart) → Associated → u.Port → Elab Associated
next_associated above at actuals s p = by s.left
  where
    by : List Object → Elab Associated
    by [] = Ok s
    by (o ∷ os) = do
      x ← association above at p (first_of (drop (length s.done) actuals)) o
      Ok (record { done = s.done ++ x ∷ []; left = os })

-- an instance behind whose ports nothing is declared yet
abbrev pub associated : (above : Site) → (at : ℕ) → List u.Port
    → List (Option SignalPart) → InstanceObjects → Elab InstanceObjects
associated above at ps actuals d = do
  os ← associations above at ps actuals d.objects
  Ok (record d { objects = os })
