use Rattle.std.proofs.Common.{ap, sym, ◌∙◌}
use Rattle.vhdl_names_trees.specs.views.Integers.{start_view, static_chained}
use Rattle.vhdl_names_registers.specs.Spines.{last_of}
use Rattle.vhdl_names_registers.proofs.Parting.{last_link}
use Rattle.vhdl_names_registers.proofs.same.last_of_chain.Goals as goal

pub returns-in-Some : goal.returns-in-Some
returns-in-Some c =
    sym (ap (λ ls. last_of (static_chained (start_view c.args.start.now) ls)) c.in-Some.ensures.cases.0
    ∙ last_link (start_view c.args.start.now) c.in-Some.before.now c.in-Some.link.now)
