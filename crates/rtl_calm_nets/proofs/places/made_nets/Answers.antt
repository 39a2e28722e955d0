use Rattle.std.proofs.Common.{◌≡◌, List, length, map, ap, ◌∙◌}
use Rattle.std.proofs.lemmas.List.{length-map, take_all}
use Rattle.std.proofs.lemmas.Result.{IfOk-weaker}
use Rattle.rtl_net.specs.Core.{core}
use Rattle.rtl_calm_nets.specs.declared.search.Step.{Step}
use Rattle.rtl_calm_nets.specs.CalmPlaces.{made_step}
use Rattle.rtl_calm_nets.specs.Reaching.{step_at}
use Rattle.rtl_calm_nets.proofs.Calming.{are_made, made_at}
use Rattle.rtl_calm_nets.proofs.Ranges.{all_there}
use Rattle.rtl_calm_nets.proofs.places.made_nets.Goals as goal

pub returns : goal.returns
returns c =
    let net = c.args.net.now in
    let origins = c.args.origins.now in
    let are : c.deref.result.now ≡ map made_step origins =
    c.deref.ensures.value ∙ (c.loop-origin.invariant ∙ ap (map made_step) (take_all c.loop-origin.origin-index origins c.loop-origin-test.false)) in
    IfOk-weaker c.reached.result _ _
    (λ v h. are_made (core net) (all_there net c.is_elaborated.ensures) origins c.requires c.deref.result.now (ap (λ (xs : List Step). length xs) are ∙ (length-map origins made_step ∙ c.requires.each_net))
    (λ n l. ap (λ (xs : List Step). step_at xs n) are ∙ made_at origins n) v.items h)
    c.reached.ensures
