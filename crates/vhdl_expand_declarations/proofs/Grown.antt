-- What is declared stays what it is when more is declared behind it.
use Rattle.std.proofs.Common.{◌≡◌, ℕ, ◌+◌, suc, zero, List, [], ◌∷◌, ◌++◌, map, take, Some, refl, ap, ◌∙◌}
use Rattle.std.specs.Prelude.{slice_get}
use Rattle.vhdl_names_rules.specs.units.Expressions as u
use Rattle.vhdl_names_rules.specs.units.Expressions.{Part, Signal}
use Rattle.vhdl_expand_rules.specs.declared.fault.ElabProblem.TheVariants as problem
use Rattle.vhdl_expand_rules.specs.Elab.{Elab, ◌>>=◌, item_or}
use Rattle.vhdl_expand_rules.specs.Integers.{IntegerRange, Integers}
use Rattle.vhdl_expand_rules.specs.Kinds.{ObjectKind, places}
use Rattle.vhdl_expand_rules.specs.Site.{Constant, Site, part_elements, elements_count, signal_kind, signal_elements, variable_elements}
use Rattle.vhdl_expand_rules.proofs.Steps.{given, bound}
use Rattle.vhdl_expand_rules.proofs.laws.Names.{was_found}
use Rattle.vhdl_expand_declarations.proofs.Growing.{Stays, stays_then, stays_before, kept_same, kept_behind, found_stays, More, places_stay, part_stays, Grown}

-- ---- elements, when more things are declared behind

take-behind : {A : Type 0} (xs ys : List A) (k : ℕ) (z : A) → slice_get xs k ≡ Some z → take k (xs ++ ys) ≡ take k xs
take-behind [] ys k z h = absurd cc
take-behind (y ∷ xs) ys zero z h = refl
take-behind (y ∷ xs) ys (suc k) z h = ap (λ zs. y ∷ zs) (take-behind xs ys k z h)

module _ (here more : Integers) (m : More here more) (at from : ℕ) where
  behind : (kinds others : List ObjectKind) (k : ℕ) (part : Part) (kind : ObjectKind) → slice_get kinds k ≡ Some kind
      → Stays (part_elements here at from kinds k part) (part_elements more at from (kinds ++ others) k part)
  behind kinds others k part kind is es h =
      ap (λ zs. item_or problem.Index at (slice_get (kinds ++ others) k) >>= λ w. places more at w part >>= λ ps. given (map (λ p. from + elements_count zs + p) ps)) (take-behind kinds others k kind is)
      ∙ stays_then (item_or problem.Index at (slice_get kinds k)) (item_or problem.Index at (slice_get (kinds ++ others) k)) _ _
      (found_stays problem.Index at k kinds (kinds ++ others) (kept_behind kinds others)) (λ w.
      stays_before (places here at w part) (places more at w part) _ (places_stay here more m at w part)) es h

  pub parts_stay : (kinds others : List ObjectKind) (k : ℕ) (part : Part) → Stays (part_elements here at from kinds k part) (part_elements more at from (kinds ++ others) k part)
  parts_stay kinds others k part es h =
      let kind = bound (item_or problem.Index at (slice_get kinds k)) _ es h in
      behind kinds others k part kind.x (was_found problem.Index at (slice_get kinds k) kind.x kind.gave) es h

-- ---- what a declaration adds

module _ (here : Site) (more : Integers) (m : More here.integers more) where
  -- constants, or ranges alone
  pub known_grown : (others : List Constant) → Grown here (record here { integers = more; constants = here.constants ++ others })
  unfolding signal_elements variable_elements
  known_grown others = record {
    integers = m;
    constants = kept_behind here.constants others;
    signals = elements-stay;
    variables = variables-stay;
    signal_kinds = kinds-stay;
    variable_kinds = kept_same here.variables;
  }
    where
      elements-stay : (at : ℕ) (n : Signal) (part : Part) → Stays (signal_elements here at n part) (signal_elements (record here { integers = more; constants = here.constants ++ others }) at n part)
      elements-stay at (u.port k) part = part_stays here.integers more m at 0 here.ports k part
      elements-stay at (u.Signal.signal k) part = part_stays here.integers more m at (elements_count here.ports) here.signals k part

      variables-stay : (at k : ℕ) (part : Part) → Stays (variable_elements here at k part) (variable_elements (record here { integers = more; constants = here.constants ++ others }) at k part)
      variables-stay at k part = part_stays here.integers more m at 0 here.variables k part

      kinds-stay : (n : Signal) (kind : ObjectKind) → signal_kind here n ≡ Some kind → signal_kind (record here { integers = more; constants = here.constants ++ others }) n ≡ Some kind
      kinds-stay (u.port k) kind h = h
      kinds-stay (u.Signal.signal k) kind h = h

  -- ports, before any signal
  pub ports_grown : (others : List ObjectKind) → here.signals ≡ [] → Grown here (record here { integers = more; ports = here.ports ++ others })
  unfolding signal_elements variable_elements
  ports_grown others none = record {
    integers = m;
    constants = kept_same here.constants;
    signals = elements-stay;
    variables = variables-stay;
    signal_kinds = kinds-stay;
    variable_kinds = kept_same here.variables;
  }
    where
      no-signal : (ks : List ObjectKind) (at from k : ℕ) (part : Part) (q : Elab (List ℕ)) → ks ≡ [] → Stays (part_elements here.integers at from ks k part) q
      no-signal [] at from k part q e es h = absurd cc
      no-signal (z ∷ ks) at from k part q e es h = absurd cc

      elements-stay : (at : ℕ) (n : Signal) (part : Part) → Stays (signal_elements here at n part) (signal_elements (record here { integers = more; ports = here.ports ++ others }) at n part)
      elements-stay at (u.port k) part = parts_stay here.integers more m at 0 here.ports others k part
      elements-stay at (u.Signal.signal k) part = no-signal here.signals at (elements_count here.ports) k part _ none

      variables-stay : (at k : ℕ) (part : Part) → Stays (variable_elements here at k part) (variable_elements (record here { integers = more; ports = here.ports ++ others }) at k part)
      variables-stay at k part = part_stays here.integers more m at 0 here.variables k part

      kinds-stay : (n : Signal) (kind : ObjectKind) → signal_kind here n ≡ Some kind → signal_kind (record here { integers = more; ports = here.ports ++ others }) n ≡ Some kind
      kinds-stay (u.port k) kind h = kept_behind here.ports others k kind h
      kinds-stay (u.Signal.signal k) kind h = h

  pub signals_grown : (others : List ObjectKind) → Grown here (record here { integers = more; signals = here.signals ++ others })
  unfolding signal_elements variable_elements
  signals_grown others = record {
    integers = m;
    constants = kept_same here.constants;
    signals = elements-stay;
    variables = variables-stay;
    signal_kinds = kinds-stay;
    variable_kinds = kept_same here.variables;
  }
    where
      elements-stay : (at : ℕ) (n : Signal) (part : Part) → Stays (signal_elements here at n part) (signal_elements (record here { integers = more; signals = here.signals ++ others }) at n part)
      elements-stay at (u.port k) part = part_stays here.integers more m at 0 here.ports k part
      elements-stay at (u.Signal.signal k) part = parts_stay here.integers more m at (elements_count here.ports) here.signals others k part

      variables-stay : (at k : ℕ) (part : Part) → Stays (variable_elements here at k part) (variable_elements (record here { integers = more; signals = here.signals ++ others }) at k part)
      variables-stay at k part = part_stays here.integers more m at 0 here.variables k part

      kinds-stay : (n : Signal) (kind : ObjectKind) → signal_kind here n ≡ Some kind → signal_kind (record here { integers = more; signals = here.signals ++ others }) n ≡ Some kind
      kinds-stay (u.port k) kind h = h
      kinds-stay (u.Signal.signal k) kind h = kept_behind here.signals others k kind h

-- of ranges alone
pub more_ranges : (here : Integers) (rs : List IntegerRange) → More here (record here { ranges = here.ranges ++ rs })
more_ranges here rs = record {
  generics = kept_same here.generics;
  constants = kept_same here.constants;
  generates = kept_same here.generates;
  loops = kept_same here.loops;
  ranges = kept_behind here.ranges rs;
}
