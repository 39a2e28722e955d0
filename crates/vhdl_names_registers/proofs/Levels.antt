-- The edge to a level for which a process waits, part by part.
use Rattle.std.proofs.Common.{◌≡◌, ℕ, Option, Some, None, refl, ap, sym, ◌∙◌}
use Rattle.std.specs.Prelude.{option_map}
use Rattle.vhdl_values.specs.declared.kinds.Edge.{Edge as EdgeKind}
use Rattle.vhdl_names_rules.specs.units.Expressions as u
use Rattle.vhdl_names_rules.specs.units.Expressions.{SignalPart, Value, Test}
use Rattle.vhdl_names_trees.specs.views.Parted.{values_alike}
use Rattle.vhdl_names_rules.specs.Rules.{◌>>=◌, then_some}
use Rattle.vhdl_names_rules.specs.Names.{is_static_part}
use Rattle.vhdl_names_rules.specs.Edges.{Edge, edge, edge_to, level, waited_level}
use Rattle.vhdl_names_registers.specs.Looking.{signal_in, character_in}

-- the edge to a level of a signal, if it is one
abbrev pub to_level : Option EdgeKind → Option SignalPart → Option Edge
to_level kind place = kind >>= λ kind. option_map (edge kind) place

abbrev pub of_values : Value × Value → Option Edge
of_values v = to_level (character_in v.1 >>= edge_to) (signal_in v.0)

-- of a place that stays the same
abbrev pub stays : Edge → Option Edge
stays e = then_some (is_static_part e.place.part) e

of_no_signal : (kind : Option EdgeKind) → to_level kind None ≡ None
of_no_signal None = refl
of_no_signal (Some kind) = refl

of_signal : (kind : Option EdgeKind) (p : SignalPart) → option_map (λ (kind : EdgeKind). edge kind p) kind ≡ to_level kind (Some p)
of_signal None p = refl
of_signal (Some kind) p = refl

by_values : (at : ℕ) (x y : Value) → level (u.alike at x y) ≡ of_values (x, y)
by_values at (u.Value.elements (u.of_signal p)) (u.Value.elements (u.Vector.character v)) = of_signal (edge_to v) p
by_values at _ (u.Value.elements (u.Vector.character v)) = sym (of_no_signal (edge_to v))
by_values at _ _ = refl

level_is : (t : Test) → level t ≡ (values_alike t >>= of_values)
level_is (u.alike at x y) = by_values at x y
level_is _ = refl

-- where there are no values to compare, and where there are
pub waited_none : (t : Test) → None ≡ values_alike t → None ≡ waited_level t
waited_none t h = ap (λ (o : Option (Value × Value)). o >>= of_values >>= stays) h ∙ ap (λ (o : Option Edge). o >>= stays) (sym (level_is t))

pub waited_some : (t : Test) (x y : Value) (kind : Option EdgeKind) (place : Option SignalPart) → Some (x, y) ≡ values_alike t → kind ≡ (character_in y >>= edge_to) → place ≡ signal_in x
    → (to_level kind place >>= stays) ≡ waited_level t
waited_some t x y kind place h k s =
    (λ i. to_level (k i) (s i) >>= stays)
    ∙ (ap (λ (o : Option (Value × Value)). o >>= of_values >>= stays) h ∙ ap (λ (o : Option Edge). o >>= stays) (sym (level_is t)))
