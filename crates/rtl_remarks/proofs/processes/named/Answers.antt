use Rattle.std.proofs.Common.{ℕ, Bool, List, ap, subst, sym, ◌∙◌}
use Rattle.std.specs.List.Sorted.{IsStrictlyIncreasing}
use Rattle.rtl_model.specs.bodies.Kinds.{clocking}
use Rattle.rtl_net.specs.Nets.{body_of}
use Rattle.rtl_outside_ranges.specs.Outside.{is_integer}
use Rattle.rtl_remarks.specs.Remarks.{is_of, is_logic, named, leaves_out, reset_branch, stays_undefined, edge_branch}
use Rattle.rtl_remarks.specs.Tables.{AreThose}
use Rattle.rtl_remarks.proofs.Leaving.{leaving_nets}
use Rattle.rtl_remarks.proofs.LeftOut.{if_ok, left_nets, stay_nets}
use Rattle.rtl_remarks.proofs.processes.named.Goals as goal

pub left_out-requires : goal.left_out-requires
left_out-requires c = subst IsStrictlyIncreasing (sym c.inputs-inputs.ensures) c.is_elaborated.ensures.in_range.inputs_rise

pub stay_undefined-requires : goal.stay_undefined-requires
stay_undefined-requires c = subst IsStrictlyIncreasing (sym c.inputs-inputs.ensures) c.is_elaborated.ensures.in_range.inputs_rise

pub returns-in-NotReset : goal.returns-in-NotReset
returns-in-NotReset c =
    let net = c.args.net.now in
    let p = c.args.process.now in
    if_ok _ _ c.left_out.result
    (λ v h. (left_nets net.types p c.requires.in_range (reset_branch (clocking net.wide net.inputs (body_of p))) v.items
    (subst (λ (w : Bool). AreThose (leaves_out p (reset_branch (clocking w net.inputs (body_of p)))) v.items) c.is_wide-wide.ensures
    (subst (λ (ins : List ℕ). AreThose (leaves_out p (reset_branch (clocking c.is_wide-wide.result ins (body_of p)))) v.items) c.inputs-inputs.ensures h)))
    ∙ ap (λ k. named net k p) (sym c.in-NotReset.is))
    c.left_out.ensures

pub returns-in-NeverKnown : goal.returns-in-NeverKnown
returns-in-NeverKnown c =
    let net = c.args.net.now in
    let p = c.args.process.now in
    if_ok _ _ c.stay_undefined.result
    (λ v h. (stay_nets net.types p c.requires.in_range (edge_branch (clocking net.wide net.inputs (body_of p))) v.items
    (subst (λ (w : Bool). AreThose (stays_undefined p (edge_branch (clocking w net.inputs (body_of p)))) v.items) c.is_wide-wide.ensures
    (subst (λ (ins : List ℕ). AreThose (stays_undefined p (edge_branch (clocking c.is_wide-wide.result ins (body_of p)))) v.items) c.inputs-inputs.ensures h)))
    ∙ ap (λ k. named net k p) (sym c.in-NeverKnown.is))
    c.stay_undefined.ensures

pub leaving_range-requires-clause-rise : goal.leaving_range-requires-clause-rise
leaving_range-requires-clause-rise c = subst IsStrictlyIncreasing (sym c.deref-in-OutsideRange.ensures.value) c.requires.known.integers.rise

pub leaving_range-requires-clause-logic : goal.leaving_range-requires-clause-logic
leaving_range-requires-clause-logic c = subst IsStrictlyIncreasing (sym c.deref-in-OutsideRange-2.ensures.value) c.requires.known.logic.rise

pub returns-in-OutsideRange : goal.returns-in-OutsideRange
returns-in-OutsideRange c =
    let net = c.args.net.now in
    let p = c.args.process.now in
    let ints = subst (AreThose (is_of is_integer net.signals)) (sym c.deref-in-OutsideRange.ensures.value) c.requires.known.integers in
    let made = subst (AreThose (is_logic net)) (sym c.deref-in-OutsideRange-2.ensures.value) c.requires.known.logic in
    if_ok _ _ c.leaving_range.result
    (λ v h. leaving_nets net c.is_elaborated.ensures p c.deref-in-OutsideRange.result.now c.deref-in-OutsideRange-2.result.now v.items ints made h ∙ ap (λ k. named net k p) (sym c.in-OutsideRange.is))
    c.leaving_range.ensures
