-- What stands within concurrent statements is less than they are, and an architecture is less than a level of instances.
use Rattle.std.proofs.Common.{◌≡◌, ℕ, zero, suc, ◌+◌, ◌*◌, ◌<◌, ◌≤◌, List, [], ◌∷◌, length, map, get_or, Some, refl, sym, ap, ◌∙◌, subst, arith}
use Rattle.std.specs.Prelude.{slice_get, find, Bool}
use Rattle.std.specs.List.{position_or_len}
use Rattle.std.proofs.lemmas.List.Folds.{find_at}
use Rattle.vhdl_names_rules.specs.units.Units as u
use Rattle.vhdl_names_rules.specs.units.Units.{Units, Entity, Architecture}
use Rattle.vhdl_names_units.specs.declared.concurrent.Concurrent.{Concurrent}
use Rattle.vhdl_names_units.specs.declared.concurrent.Scheme.{Scheme}
use Rattle.vhdl_names_units.specs.declared.concurrent.Scheme.TheVariants as k
use Rattle.vhdl_names_units.specs.views.Concurrent as units
use Rattle.vhdl_expand.proofs.Weights.{weight, weights, architecture_weight, units_weight, levels_weight}
use Rattle.vhdl_expand.specs.Walks.{IsAmong}

lighter-at : (xs : List Concurrent) (i : ℕ) (d : Concurrent) → i < length xs
    → weight (units.concurrent_view (get_or xs i d)) < weights (units.concurrents_of (map units.concurrent_view xs))
lighter-at [] i d h = absurd (omega arith)
lighter-at (x ∷ xs) zero d h = omega arith
lighter-at (x ∷ xs) (suc i) d h = let e = lighter-at xs i d (omega arith) in omega arith

pub lighter : (xs : List Concurrent) (i : ℕ) (x : Concurrent) → i < length xs → x ≡ get_or xs i x
    → weight (units.concurrent_view x) < weights (units.concurrents_of (map units.concurrent_view xs))
lighter xs i x h is = subst (λ (y : Concurrent). weight (units.concurrent_view y) < weights (units.concurrents_of (map units.concurrent_view xs))) (sym is) (lighter-at xs i x h)

pub generate_weight : (label : List ℕ) (at : ℕ) (body : u.Concurrents) (scheme : Scheme) → weight (units.generated label at body scheme) ≡ 4 + weights body
generate_weight label at body (k.For r) = refl
generate_weight label at body (k.If test) = refl

at-most : (units : Units) (k : ℕ) (e : Entity) → slice_get units k ≡ Some e → architecture_weight e.architecture ≤ units_weight units
at-most [] k e h = absurd cc
at-most (x ∷ xs) zero e h = let same : x ≡ e = cc in subst (λ (y : Entity). architecture_weight y.architecture ≤ architecture_weight x.architecture + units_weight xs) same (omega arith)
at-most (x ∷ xs) (suc k) e h = let rest = at-most xs k e h in omega arith

-- the statements of a unit, a level below, are less than the level
pub level_lighter : (units : Units) (e : Entity) (a : Architecture) (levels below : ℕ) → IsAmong units e → e.architecture ≡ Some a → levels ≡ suc below
    → levels_weight units below + (1 + weights a.statements) < levels_weight units levels
level_lighter units e a levels below among h l =
    let most = at-most units among.0 e among.1 in
    let is : architecture_weight e.architecture ≡ weights a.statements = ap architecture_weight h in
    let grown : levels_weight units levels ≡ levels_weight units below + (2 + units_weight units) = ap (levels_weight units) l ∙ one-more units below in
    omega (arith, most, is, grown)
  where
    one-more : (units : Units) (below : ℕ) → suc below * (2 + units_weight units) ≡ below * (2 + units_weight units) + (2 + units_weight units)
    one-more units below = omega arith

-- what is found is among the units
pub found_among : (test : Entity → Bool) (units : Units) (e : Entity) → find test units ≡ Some e → IsAmong units e
found_among test units e h = (position_or_len test units, sym (find_at test units) ∙ h)
