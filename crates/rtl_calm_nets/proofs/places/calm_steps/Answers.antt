use Rattle.std.proofs.Common.{◌≡◌, ℕ, ◌*◌, ◌/◌, ◌%◌, ◌<◌, length, ap, ◌∙◌, arith, false}
use Rattle.std.proofs.lemmas.List.{get_or_default}
use Rattle.rtl_calm_nets.specs.declared.origins.Origin.{Origin}
use Rattle.rtl_calm_nets.specs.declared.origins.Origin.TheVariants as o
use Rattle.rtl_calm_nets.specs.declared.search.Step.{Step}
use Rattle.rtl_calm_nets.specs.declared.search.Step.TheVariants as s
use Rattle.rtl_process_kinds.specs.AskedValues.{numbered}
use Rattle.rtl_calm_nets.specs.CalmPlaces.{calm_step}
use Rattle.rtl_calm_nets.specs.NetOrigins.{given_at}
use Rattle.rtl_calm_nets.proofs.Giving.{pushed}
use Rattle.rtl_calm_nets.proofs.Judging.{all_steps}
use Rattle.rtl_calm_nets.proofs.places.calm_steps.Goals as goal

pub loop-place-preserved : goal.loop-place-preserved
loop-place-preserved c =
    let l = c.loop-place in
    let k = c.args.known in
    let within : l.place / 4 < length k.origins.now = (let h = c.loop-place-test.true in omega arith) in
    let more = pushed (λ (i : ℕ) (x : Step). x ≡ calm_step k.origins.now k.made.now k.starts.now (given_at k.origins.now (i / 4)) (numbered (i % 4))) l.steps.items c.push.new.self.items c.calm_step.result (s.Ends false) l.place
    l.invariant.so_many c.in_ok-push.ensures.items l.invariant.so_far
    (c.calm_step.ensures ∙ (ap (λ (x : Origin). calm_step k.origins.now k.made.now k.starts.now x c.numbered.result) (get_or_default k.origins.now (l.place / 4) o.Inputs o.Other within)
    ∙ ap (calm_step k.origins.now k.made.now k.starts.now (given_at k.origins.now (l.place / 4))) c.numbered.ensures)) in
    record { so_many = more.0; so_far = more.1 }

pub returns : goal.returns
returns c =
    let l = c.loop-place in
    let k = c.args.known in
    let all : l.place ≡ 4 * length k.origins.now = (let h = l.auto.place-end in let g = c.loop-place-test.false in omega arith) in
    all_steps k.origins.now k.made.now k.starts.now l.steps.items (l.invariant.so_many ∙ all) (λ i b. l.invariant.so_far i (omega arith))
