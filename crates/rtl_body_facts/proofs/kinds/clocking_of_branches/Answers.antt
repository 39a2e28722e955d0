use Rattle.std.proofs.Common.{◌≡◌, ◌<◌, List, length, get_or, arith, ap, sym, ◌∙◌}
use Rattle.std.proofs.lemmas.List.{get_or_default}
use Rattle.rtl_net.specs.declared.body.Statement.{Statement}
use Rattle.rtl_net.specs.Bodies.{statements_of}
use Rattle.rtl_model.specs.bodies.Kinds as m
use Rattle.rtl_body_facts.specs.Timing.{atom_reset}
use Rattle.rtl_body_facts.proofs.Timings.{one_branch, many_branches, two_without_reset, two_without_constants, two_with_reset}
use Rattle.rtl_body_facts.proofs.kinds.clocking_of_branches.Goals as goal

pub returns-then-branches-eq1 : goal.returns-then-branches-eq1
returns-then-branches-eq1 c =
    c.edge_branch.ensures ∙ one_branch c.args.wide c.args.inputs.now c.args.branches.now c.index-branches-0.result c.if-branches-eq1.true c.index-branches-0.is

pub returns-then-branches-ne2 : goal.returns-then-branches-ne2
returns-then-branches-ne2 c = many_branches c.args.wide c.args.inputs.now c.args.branches.now c.if-branches-eq1.false c.if-branches-ne2.true

pub returns-in_err-reset : goal.returns-in_err-reset
returns-in_err-reset c =
    let bs = c.args.branches.now in
    let b = c.index-branches-0-2.result in
    let two : length bs ≡ 2 = c.if-branches-ne2.false in
    let there : 1 < length bs = omega arith in
    let d = get_or bs 1 b in
    c.from_residual.ensures ∙ two_without_reset c.args.wide c.args.inputs.now bs b d two c.index-branches-0-2.is (get_or_default bs 1 b d there)
    (sym (c.reset_of.ensures ∙ ap (atom_reset c.args.wide c.args.inputs.now) c.top_of.ensures) ∙ c.in_err-reset.was)

pub returns-then-not-assigns_constants : goal.returns-then-not-assigns_constants
returns-then-not-assigns_constants c =
    let bs = c.args.branches.now in
    let b = c.index-branches-0-2.result in
    let two : length bs ≡ 2 = c.if-branches-ne2.false in
    let there : 1 < length bs = omega arith in
    let d = get_or bs 1 b in
    two_without_constants c.args.wide c.args.inputs.now bs b d two c.index-branches-0-2.is (get_or_default bs 1 b d there)
    (sym (c.assigns_constants.ensures ∙ ap (λ (xs : List Statement). m.assigns_constants (statements_of xs)) c.deref.ensures.value) ∙ c.if-not-assigns_constants.true)

pub returns : goal.returns
returns c =
    let bs = c.args.branches.now in
    let b = c.index-branches-0-2.result in
    c.edge_branch-2.ensures ∙ two_with_reset c.args.wide c.args.inputs.now bs b c.index-branches-1.result c.if-branches-ne2.false c.index-branches-0-2.is c.index-branches-1.is
    c.in_ok-reset.reset (sym (c.reset_of.ensures ∙ ap (atom_reset c.args.wide c.args.inputs.now) c.top_of.ensures) ∙ c.in_ok-reset.was)
    (sym (c.assigns_constants.ensures ∙ ap (λ (xs : List Statement). m.assigns_constants (statements_of xs)) c.deref.ensures.value) ∙ c.if-not-assigns_constants.false)
