use Rattle.std.proofs.Common.{sym, ◌∙◌}
use Rattle.std.proofs.lemmas.List.{length-map}
use Rattle.vhdl_names_units.specs.views.Sequential.{branches_view, branch_view, option_statements_view}
use Rattle.vhdl_names_registers.proofs.Parting.{no_only_with_else, no_only_of_more, mapped_is_some, vec_len_is}
use Rattle.vhdl_names_registers.proofs.ifs.only_condition.Goals.{then-is_some-via-then-is_some, then-is_some-via-else-is_some+then-len-ne1}
use Rattle.vhdl_names_registers.proofs.ifs.only_condition.Goals as goal
use Rattle.vhdl_names_units.specs.declared.sequential.If.{out-If}

pub returns-then-is_some : goal.returns-then-is_some
returns-then-is_some c =
    let x = out-If c.args.x.now in
    elim c.then-is_some.branch [
      | then-is_some-via-then-is_some w ↦
          sym (no_only_with_else (branches_view x.branches) (option_statements_view x.otherwise)
          (mapped_is_some _ x.otherwise ∙ (sym c.is_some.ensures ∙ w.if-is_some.true)))
      | then-is_some-via-else-is_some+then-len-ne1 w ↦
          sym (no_only_of_more (branches_view x.branches) (option_statements_view x.otherwise)
          (λ e. w.if-len-ne1.true (w.len.ensures ∙ (vec_len_is x.branches ∙ (sym (length-map x.branches.items branch_view) ∙ e)))))
    ]
