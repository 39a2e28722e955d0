-- What a process waits for is one element of a signal.
use Rattle.std.proofs.Common.{◌≡◌, Bool, true, false, List, Option, Some, None, refl, ap, sym, subst, arith, ◌∙◌}
use Rattle.std.specs.Prelude.{is_some}
use Rattle.vhdl_values.specs.declared.scalar.Nine.{Nine}
use Rattle.vhdl_names_rules.specs.units.Expressions as e
use Rattle.vhdl_names_rules.specs.units.Expressions.{Signal, Part, SignalPart, Test}
use Rattle.vhdl_names_rules.specs.units.Units as u
use Rattle.vhdl_names_rules.specs.units.Units.{Form}
use Rattle.vhdl_names_rules.specs.Rules.{◌>>=◌, then_some}
use Rattle.vhdl_names_rules.specs.Names.{is_static_part}
use Rattle.vhdl_names_rules.specs.Edges.{Edge, edge, edge_to, level, waited_level}
use Rattle.vhdl_names_rules.specs.sound.Expressions.{Inside, Shape, one, vector, state, number, static_fits, range_fits, part_shape, signal_form, place_shape, is_elements, fits_shape, value_fits_beside, edge_fits, test_fits}
use Rattle.vhdl_names_rules.proofs.laws.Rules.{comes, some_is}
use Rattle.vhdl_names_rules.proofs.kept.Keeping.{mapped}
use Rattle.vhdl_names_laws.specs.Meanings.{Counts}
use Rattle.vhdl_names_laws.proofs.Statics.{HasNumbers, static_more}
use Rattle.vhdl_names_laws.proofs.Names.{place_outside}

-- ---- a level

-- what stands before a character is one element
before_character : (i : Inside) (o : Option Shape) (v : Nine)
    → value_fits_beside i (o >>= λ x. then_some (is_elements x) x) (e.Value.elements (e.Vector.character v)) ≡ true → o ≡ Some one
before_character i (Some one) v h = refl
before_character i (Some vector) v h = absurd cc
before_character i (Some (state n)) v h = absurd cc
before_character i (Some number) v h = absurd cc
before_character i None v h = absurd cc

level_is_one : (i : Inside) (t : Test) (f : Edge) → test_fits i t ≡ true → level t ≡ Some f → place_shape i f.place ≡ Some one
level_is_one i (e.alike at (e.Value.elements (e.of_signal p)) (e.Value.elements (e.Vector.character v))) f h g =
    let m = mapped (λ kind. edge kind p) (edge_to v) f g in
    subst (λ (f : Edge). place_shape i f.place ≡ Some one) m.is (before_character i (place_shape i p) v h)
level_is_one i _ f h g = absurd cc

pub level_fits : (i : Inside) (counts : Counts) (t : Test) (f : Edge) → test_fits i t ≡ true → waited_level t ≡ Some f → edge_fits i f.place ≡ true
level_fits i counts t f h q =
    let l = comes (level t) _ f q in
    by (is_static_part l.value.place.part) l.value refl (level_is_one i t l.value h l.is) l.rest
  where
    by : (b : Bool) (g : Edge) → is_static_part g.place.part ≡ b → place_shape i g.place ≡ Some one → then_some b g ≡ Some f → edge_fits i f.place ≡ true
    by true g static is q = subst (λ (f : Edge). edge_fits i f.place ≡ true) (some_is g f q) (ap (fits_shape one) (place_outside i counts g.place static is))
    by false g static is q = absurd cc

-- ---- where loops stand round it

module _ (i : Inside) (vs : List Form) where
  abbrev outside : Inside
  outside = record i { variables = vs; loops = 0 }

  numbers : HasNumbers outside i
  numbers = record { generics = omega arith; integers = omega arith; ranges = omega arith; generates = omega arith; loops = omega arith }

  part_is : (f : Form) (p : Part) → fits_shape one (part_shape outside f p) ≡ true → is_some (part_shape i f p) ≡ true
  part_is f e.whole h = refl
  part_is (u.vector r) (e.Part.element x) h = by (static_fits outside x) refl h
    where
      by : (b : Bool) → static_fits outside x ≡ b → fits_shape one (then_some b one) ≡ true → is_some (then_some (static_fits i x) one) ≡ true
      by true k h = ap (λ b. is_some (then_some b one)) (static_more outside i numbers x k)
      by false k h = absurd cc
  part_is (u.vector r) (e.slice x) h = by (range_fits outside x) h
    where
      by : (b : Bool) → fits_shape one (then_some b vector) ≡ true → is_some (part_shape i (u.vector r) (e.slice x)) ≡ true
      by true h = absurd cc
      by false h = absurd cc
  part_is _ _ h = absurd cc

  signal_is : (z : Signal) → signal_form outside z ≡ signal_form i z
  signal_is (e.port k) = refl
  signal_is (e.Signal.signal k) = refl

  pub edge_is_place : (p : SignalPart) → edge_fits (record i { variables = vs }) p ≡ true → is_some (place_shape i p) ≡ true
  edge_is_place p h = by (signal_form i p.signal) (ap (λ o. fits_shape one (o >>= λ f. part_shape outside f p.part)) (sym (signal_is p.signal)) ∙ h)
    where
      by : (o : Option Form) → fits_shape one (o >>= λ f. part_shape outside f p.part) ≡ true → is_some (o >>= λ f. part_shape i f p.part) ≡ true
      by (Some f) h = part_is f p.part h
      by None h = absurd cc
