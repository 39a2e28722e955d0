use Rattle.std.proofs.Common.{ℕ, Bool, List, sym, subst, ◌∙◌}
use Rattle.std.proofs.lemmas.Result.{IfOk-weaker}
use Rattle.rtl_net.specs.Core.{core}
use Rattle.rtl_calm_nets.specs.declared.origins.Origin.{Origin}
use Rattle.rtl_calm_nets.specs.declared.search.Step.{Step}
use Rattle.rtl_calm_nets.specs.CalmPlaces.{AreSteps}
use Rattle.rtl_calm_nets.proofs.Calming.{are_calm}
use Rattle.rtl_calm_nets.proofs.Ranges.{all_there}
use Rattle.rtl_calm_nets.proofs.places.calm_nets.Goals as goal

pub returns : goal.returns
returns c =
    let net = c.args.net.now in
    let origins = c.in_ok-origins.origins.items in
    let made = c.in_ok-made.made.items in
    let of_origins = subst (λ (xs : List Origin). AreSteps xs c.deref-4.result.now c.deref-5.result.now c.in_ok-steps.steps.items) c.deref-3.ensures.value c.in_ok-steps.ensures in
    let of_made = subst (λ (xs : List Bool). AreSteps origins xs c.deref-5.result.now c.in_ok-steps.steps.items) c.deref-4.ensures.value of_origins in
    let of_starts = subst (λ (xs : List ℕ). AreSteps origins made xs c.in_ok-steps.steps.items) (c.deref-5.ensures.value ∙ c.in_ok-starts.ensures) of_made in
    let steps = subst (λ (xs : List Step). AreSteps origins made net.starts xs) (sym c.deref-6.ensures.value) of_starts in
    IfOk-weaker c.reached.result _ _
    (λ v h. are_calm (core net) (all_there net c.is_elaborated.ensures) origins c.in_ok-origins.ensures made c.in_ok-made.ensures c.deref-6.result.now steps v.items h)
    c.reached.ensures
