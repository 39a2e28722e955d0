use Rattle.std.proofs.Common.{◌≡◌, Err, sym, ap, ◌∙◌, arith, rules}
use Rattle.std.specs.Prelude.{◌≢◌}
use Rattle.std.proofs.lemmas.Grind.{common_steps}
use Rattle.rtl_net.specs.Indices.{numbers}
use Rattle.rtl_net.specs.Bodies.{value_view}
use Rattle.vhdl_names_trees.specs.views.Vectors.{place_view}
use Rattle.vhdl_names_units.specs.views.Answers.{given_view}
use Rattle.vhdl_expand_rules.specs.declared.fault.ElabFault.TheVariants.{NoMemory}
use Rattle.vhdl_expand_bodies.specs.Sites.{site_view}
use Rattle.vhdl_expand_statements.specs.steps.Assignments as steps
use Rattle.vhdl_expand_statements.proofs.Assigned.{assign_gives, assign_stops}
use Rattle.vhdl_expand_rules.specs.Elab.{fault_told}
use Rattle.vhdl_expand_rules.specs.Statements.{given_to}
use Rattle.vhdl_expand_rules.proofs.Steps.{given}
use Rattle.vhdl_expand_statements.proofs.assignments.assign.Goals as goal

pub returns : goal.returns
returns c =
    assign_gives (site_view c.args.site.now) (place_view c.args.target.now) (given_view c.args.value.now)
    c.in_ok-run.run'.first c.in_ok-run.run'.len (value_view c.in_ok-selected.selected.value) (numbers c.elements-places.result) c.in_ok-run.ensures.given
    (ap (λ k. given_to (site_view c.args.site.now) c.args.target.now.at k c.in_ok-run.run'.len (given_view c.args.value.now)) (sym c.signal_kind-kind.ensures) ∙ c.in_ok-selected.ensures) (ap given (sym c.elements-places.ensures))

pub returns-in_err-selected : goal.returns-in_err-selected
returns-in_err-selected c =
    let stopped : c.in_err-selected.field-0.0 ≢ NoMemory → (steps.assign (site_view c.args.site.now) (place_view c.args.target.now) (given_view c.args.value.now)) ≡ Err (fault_told c.in_err-selected.field-0.0) =
    λ n. assign_stops (site_view c.args.site.now) (place_view c.args.target.now) (given_view c.args.value.now)
    c.in_ok-run.run'.first c.in_ok-run.run'.len c.in_ok-run.ensures.given (ap (λ k. given_to (site_view c.args.site.now) c.args.target.now.at k c.in_ok-run.run'.len (given_view c.args.value.now)) (sym c.signal_kind-kind.ensures) ∙ c.in_err-selected.ensures n) in
    first_of (search rules, grind (arith, common_steps))
