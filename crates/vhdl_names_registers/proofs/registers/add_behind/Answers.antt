use Rattle.std.proofs.Common.{◌≡◌, suc, ◌-◌, length, vec_len, refl, ◌∙◌, arith}
use Rattle.std.specs.Vec.{with_item}
use Rattle.std.proofs.lemmas.Result.{on_ok_weaker}
use Rattle.vhdl_names_units.specs.declared.sequential.Branch.{roll-Branch}
use Rattle.vhdl_names_units.specs.declared.sequential.If.{out-If}
use Rattle.vhdl_names_units.specs.views.Sequential.{body_view, option_statements_view}
use Rattle.vhdl_names_registers.proofs.Branches.{if_made, behind_last, nothing_behind}
use Rattle.vhdl_names_registers.proofs.registers.add_behind.Goals as goal

pub returns-in-Some-clause-branches : goal.returns-in-Some-clause-branches
returns-in-Some-clause-branches c =
    let x = out-If c.args.x.now in
    let bs = x.branches in
    let b = c.in-Some.branch.now in
    let made = roll-Branch (record { condition = b.condition; statements = c.add_all.new.all }) in
    let last : suc (vec_len bs - 1) ≡ length bs.items = omega (arith, bs.ok.0, c.in-Some.ensures.item.3.0) in
    on_ok_weaker c.add_all.result
    (λ e. if_made x.at (with_item bs (vec_len bs - 1) made) x.otherwise
    ∙ behind_last bs.items (vec_len bs - 1) b made (option_statements_view x.otherwise) (body_view c.args.more) last c.in-Some.ensures.value refl e)
    c.add_all.ensures

pub returns-in-None-clause-branches : goal.returns-in-None-clause-branches
returns-in-None-clause-branches c =
    let x = out-If c.args.x.now in
    if_made x.at x.branches x.otherwise ∙ nothing_behind x.branches.items (option_statements_view x.otherwise) (body_view c.args.more) (omega (arith, c.in-None.ensures.item.3))
