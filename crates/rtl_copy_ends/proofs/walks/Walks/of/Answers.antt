use Rattle.std.proofs.Common.{◌<◌, ◌-◌, ◌∙◌, ℕ, List, length, sym, ap, subst}
use Rattle.std.specs.Prelude.{All}
use Rattle.rtl_net.specs.declared.process.Process.{Process}
use Rattle.rtl_seen_nets.specs.Drivers.{seen_nets}
use Rattle.rtl_copy_ends.specs.Steps.{AreAfter}
use Rattle.rtl_copy_ends.proofs.Walking.{steps-within, all-far}
use Rattle.rtl_copy_ends.proofs.walks.Walks.of.Goals as goal

pub after-requires : goal.after-requires
after-requires c = subst (λ (xs : List ℕ). All (λ p. p < length xs) xs) (sym c.deref-4.ensures.value) (steps-within c.args.net.now c.in_ok-steps.steps.items c.in_ok-steps.ensures)

pub returns : goal.returns
returns c =
    let net = c.args.net.now in
    let steps = c.in_ok-steps.steps.items in
    let far = c.in_ok-far.far.items in
    let many = c.saturating_sub-between.ensures ∙ ap (λ (ps : List Process). length ps - 2) c.processes.ensures in
    let are = subst (λ (xs : List ℕ). AreAfter xs (length net.processes - 2) far) c.deref-4.ensures.value
    (subst (λ (n : ℕ). AreAfter c.deref-4.result.now n far) many c.in_ok-far.ensures) in
    λ wide. record {
      kinds = c.in_ok-kinds.ensures;
      seen = c.in_ok-seen.ensures ∙ ap (seen_nets net) (c.deref-2.ensures.value ∙ c.in_ok-inside.ensures);
      places = are.places ∙ c.in_ok-steps.ensures.many;
      far = all-far net steps far (length net.processes - 2) c.in_ok-steps.ensures are;
    }
