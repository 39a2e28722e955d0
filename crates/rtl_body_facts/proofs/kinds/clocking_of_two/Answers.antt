use Rattle.std.proofs.Common.{◌≡◌, ◌<◌, ◌&&◌, true, List, length, get_or, arith, ap, sym, ◌∙◌}
use Rattle.std.proofs.lemmas.List.{get_or_default}
use Rattle.rtl_net.specs.declared.body.Statement.{Statement}
use Rattle.rtl_net.specs.Bodies.{statements_of}
use Rattle.rtl_model.specs.basics.Lists.{is_empty}
use Rattle.rtl_model.specs.bodies.Leaves.{leaves}
use Rattle.rtl_model.specs.bodies.Kinds as m
use Rattle.rtl_body_facts.specs.Timing.{atom_reset}
use Rattle.rtl_body_facts.proofs.Timings.{two_many_first, two_many_second, behind_without_reset, behind_without_constants, behind_with_reset}
use Rattle.rtl_body_facts.proofs.kinds.clocking_of_two.Goals as goal

pub returns-then-first-ne1 : goal.returns-then-first-ne1
returns-then-first-ne1 c = two_many_first c.args.inputs.now c.args.first.now c.args.second.now c.if-first-ne1.true

pub returns-then-second-ne1 : goal.returns-then-second-ne1
returns-then-second-ne1 c = two_many_second c.args.inputs.now c.args.first.now c.args.second.now c.if-second-ne1.true

pub returns-in_err-reset : goal.returns-in_err-reset
returns-in_err-reset c =
    let bs = c.args.first.now in
    let d = c.index-second-0.result in
    let one : length bs ≡ 1 = c.if-first-ne1.false in
    let there : 0 < length bs = omega arith in
    let b = get_or bs 0 d in
    c.from_residual.ensures ∙ behind_without_reset c.args.inputs.now bs c.args.second.now b d one c.if-second-ne1.false (get_or_default bs 0 d b there) c.index-second-0.is
    (sym (c.reset_of.ensures ∙ ap (atom_reset true c.args.inputs.now) c.top_of.ensures) ∙ c.in_err-reset.was)

pub returns-then-not-assigns_plain_constants : goal.returns-then-not-assigns_plain_constants
returns-then-not-assigns_plain_constants c =
    let bs = c.args.first.now in
    let d = c.index-second-0.result in
    let one : length bs ≡ 1 = c.if-first-ne1.false in
    let there : 0 < length bs = omega arith in
    let b = get_or bs 0 d in
    behind_without_constants c.args.inputs.now bs c.args.second.now b d one c.if-second-ne1.false (get_or_default bs 0 d b there) c.index-second-0.is
    (sym (c.assigns_plain_constants.ensures ∙ ap (λ (xs : List Statement). is_empty (leaves (statements_of xs)) && m.assigns_constants (statements_of xs)) c.deref.ensures.value) ∙ c.if-not-assigns_plain_constants.true)

pub returns : goal.returns
returns c =
    c.edge_branch.ensures ∙ behind_with_reset c.args.inputs.now c.args.first.now c.args.second.now c.index-first-0.result c.index-second-0.result c.if-first-ne1.false c.if-second-ne1.false c.index-first-0.is c.index-second-0.is
    c.in_ok-reset.reset (sym (c.reset_of.ensures ∙ ap (atom_reset true c.args.inputs.now) c.top_of.ensures) ∙ c.in_ok-reset.was)
    (sym (c.assigns_plain_constants.ensures ∙ ap (λ (xs : List Statement). is_empty (leaves (statements_of xs)) && m.assigns_constants (statements_of xs)) c.deref.ensures.value) ∙ c.if-not-assigns_plain_constants.false)
