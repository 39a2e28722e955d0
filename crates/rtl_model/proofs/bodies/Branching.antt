-- A case always takes a branch.
use Rattle.std.proofs.Common.{◌≡◌, ℕ, Bool, true, false, cond, List, refl, inl, inr}
use Rattle.std.specs.List.{list_any}
use Rattle.rtl_model.specs.bodies.Body.{Stmts, Alternatives, others, alternative}
use Rattle.rtl_model.specs.bodies.Values.{Seen}
use Rattle.rtl_model.specs.bodies.Tests.{same}
use Rattle.rtl_model.specs.bodies.Variables.{variables_after, alternatives_variables}
use Rattle.rtl_model.specs.bodies.Effect.{entries_if, effect, alternatives_effect}
use Rattle.rtl_model.specs.bodies.Laws.{TakesBranch, CaseTakesABranch, IsAlternative}

pub case_takes_a_branch : CaseTakesABranch
case_takes_a_branch seen value (others s) = record { branch = s; is = refl; effect_is = λ place. refl; variables_are = refl }
case_takes_a_branch seen value (alternative choices s alts) =
    let h = case_takes_a_branch seen value alts in
    let (u, is, e, v) = taken (list_any (same value) choices) seen value choices s alts h in
    record { branch = u; is = is; effect_is = e; variables_are = v }
  where
    taken : (t : Bool) (seen : Seen) (value : List ℕ) (choices : List (List ℕ)) (s : Stmts) (alts : Alternatives) → TakesBranch seen value alts
        → (u : Stmts) × IsAlternative u (alternative choices s alts)
        × ((place : ℕ) → entries_if t (effect seen s) (alternatives_effect seen value alts) place ≡ effect seen u place)
        × (cond t (variables_after seen s) (alternatives_variables seen value alts) ≡ variables_after seen u)
    taken true seen value choices s alts h = (s, inl refl, λ place. refl, refl)
    taken false seen value choices s alts h = (h.branch, inr h.is, h.effect_is, h.variables_are)
