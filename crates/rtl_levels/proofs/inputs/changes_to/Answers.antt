use Rattle.std.proofs.Common.{ℕ, List, [], ◌∷◌, ◌++◌, ◌<◌, ap, sym, refl, get_or, length, take, ◌∙◌, arith}
use Rattle.std.proofs.lemmas.List.{map-append, take_all, take_more}
use Rattle.std.proofs.lemmas.Result.{IfOk-from_err}
use Rattle.vhdl_values.specs.Scalar.{code_of}
use Rattle.vhdl_values.specs.declared.scalar.Nine.{Nine}
use Rattle.vhdl_values.specs.declared.scalar.Nine.TheVariants.{U}
use Rattle.rtl_kernel.specs.kernel.Simulation.{change_of, changes_of, each_given}
use Rattle.rtl_kernel.proofs.Started.{given_at, length-given}
use Rattle.rtl_levels.proofs.inputs.changes_to.Goals as goal

pub loop-number-init : goal.loop-number-init
loop-number-init c = ap changes_of c.in_ok-changes.ensures.items

pub loop-number-preserved : goal.loop-number-preserved
loop-number-preserved c =
    let ns = c.args.nets.now in
    let vs = c.args.given.now in
    let cs = each_given ns vs in
    let i = c.loop-number.number in
    let l = c.loop-number-test.true in
    let old = c.loop-number.changes.items in
    let change : ℕ × Nine = (get_or ns i 0, get_or vs i U) in
    let in_cs : i < length cs = rw (length-given ns vs c.requires) l in
    let in_vs : i < length vs = rw (c.requires) l in
    ap changes_of c.in_ok-push.ensures.items ∙ map-append change_of old (change ∷ [])
    ∙ ap (λ (xs : List (ℕ × ℕ)). xs ++ change_of change ∷ []) c.loop-number.invariant
    ∙ sym (take_more cs i (0, 0) in_cs ∙ ap (λ (y : ℕ × ℕ). take i cs ++ y ∷ []) (given_at ns vs i 0 (code_of (get_or vs i U)) U l in_vs refl))

pub returns : goal.returns
returns c =
    let cs = each_given c.args.nets.now c.args.given.now in
    c.loop-number.invariant ∙ take_all c.loop-number.number cs (omega (arith, length-given c.args.nets.now c.args.given.now c.requires, c.loop-number-test.false))

pub returns-in_err-changes : goal.returns-in_err-changes
returns-in_err-changes c = IfOk-from_err c.from_residual.result _ c.from_residual.ensures.0

pub returns-in_err-push : goal.returns-in_err-push
returns-in_err-push c = IfOk-from_err c.from_residual-in_err-push.result _ c.from_residual-in_err-push.ensures.0
