use Rattle.std.proofs.Common.{◌≡◌, Err, sym, ap, ◌∙◌, arith, rules}
use Rattle.std.specs.Prelude.{◌≢◌}
use Rattle.std.proofs.lemmas.Grind.{common_steps}
use Rattle.rtl_net.specs.Indices.{numbers}
use Rattle.rtl_net.specs.Bodies.{value_view}
use Rattle.vhdl_names_trees.specs.views.Vectors.{part_view}
use Rattle.vhdl_names_units.specs.views.Answers.{given_view}
use Rattle.vhdl_expand_rules.specs.declared.fault.ElabFault.TheVariants.{NoMemory}
use Rattle.vhdl_expand_bodies.specs.Sites.{site_view}
use Rattle.vhdl_expand_statements.specs.steps.Assignments as steps
use Rattle.vhdl_expand_statements.proofs.Assigned.{set_gives, set_stops}
use Rattle.vhdl_expand_rules.specs.Elab.{fault_told}
use Rattle.vhdl_expand_rules.specs.Statements.{given_to}
use Rattle.vhdl_expand_rules.proofs.Steps.{given}
use Rattle.vhdl_expand_statements.proofs.assignments.set.Goals as goal

pub returns : goal.returns
returns c =
    set_gives (site_view c.args.site.now) c.args.at c.args.variable (part_view c.args.part.now) (given_view c.args.value.now)
    c.in_ok-run.run'.first c.in_ok-run.run'.len (value_view c.in_ok-selected.selected.value) (numbers c.elements-elements.result) c.in_ok-run.ensures.given
    (ap (λ k. given_to (site_view c.args.site.now) c.args.at k c.in_ok-run.run'.len (given_view c.args.value.now)) (sym c.variable_kind-kind.ensures) ∙ c.in_ok-selected.ensures) (ap given (sym c.elements-elements.ensures))

pub returns-in_err-selected : goal.returns-in_err-selected
returns-in_err-selected c =
    let stopped : c.in_err-selected.field-0.0 ≢ NoMemory → (steps.set (site_view c.args.site.now) c.args.at c.args.variable (part_view c.args.part.now) (given_view c.args.value.now)) ≡ Err (fault_told c.in_err-selected.field-0.0) =
    λ n. set_stops (site_view c.args.site.now) c.args.at c.args.variable (part_view c.args.part.now) (given_view c.args.value.now)
    c.in_ok-run.run'.first c.in_ok-run.run'.len c.in_ok-run.ensures.given (ap (λ k. given_to (site_view c.args.site.now) c.args.at k c.in_ok-run.run'.len (given_view c.args.value.now)) (sym c.variable_kind-kind.ensures) ∙ c.in_err-selected.ensures n) in
    first_of (search rules, grind (arith, common_steps))
