use Rattle.std.proofs.Common.{arith, ◌≡◌, ◌≢◌, None, false, map, length, ◌<◌, ◌≤◌, refl, ◌∙◌}
use Rattle.std.proofs.lemmas.List.{at_drop_all}
use Rattle.vhdl_tree.specs.View.{association_view}
use Rattle.vhdl_names_rules.specs.declared.fault.NameFault.TheVariants.{NoMemory}
use Rattle.vhdl_names_units.specs.Once.{names_view}
use Rattle.vhdl_names_instances.specs.steps.Associations.{taking}
use Rattle.vhdl_names_instances.proofs.Taking.{refused_taking, taking_here}
use Rattle.vhdl_names_rules.proofs.Passing.{passed_on}
use Rattle.vhdl_names_instances.proofs.associations.take_all.Goals as goal

pub returns-in_err-take : goal.returns-in_err-take
returns-in_err-take c =
    let fs = names_view c.args.formals.now in
    let lt : c.loop-index.index < length c.args.list.now = omega arith in
    let f : c.in_err-take.field-0.0 ≢ NoMemory → taking fs 0 false (names_view c.args.taken.now) (map association_view c.args.list.now) ≡ None =
    λ n. refused_taking fs c.args.list.now c.loop-index.index c.index-list-index.result lt c.index-list-index.is c.loop-index.is_behind_named (names_view c.loop-index.taken)
    _ c.loop-index.invariant (c.in_err-take.ensures.given n) in
    passed_on _ _ c.in_err-take.field-0.0 _ c.from_residual.result c.from_residual.ensures.1 (λ e p. p) f

pub loop-index-init : goal.loop-index-init
loop-index-init c = refl

pub loop-index-preserved : goal.loop-index-preserved
loop-index-preserved c =
    let fs = names_view c.args.formals.now in
    let i = c.loop-index.index in
    let ts = names_view c.loop-index.taken in
    let lt : c.loop-index.index < length c.args.list.now = omega arith in
    taking_here fs c.args.list.now i c.index-list-index.result lt c.index-list-index.is c.loop-index.is_behind_named ts _ c.loop-index.invariant c.is_named-is_behind_named.result
    c.is_named-is_behind_named.ensures (names_view c.take.new.taken) c.in_ok-take.ensures.given

pub returns : goal.returns
returns c =
    let past : length c.args.list.now ≤ c.loop-index.index = omega arith in
    c.loop-index.invariant
    ∙ at_drop_all (λ l. taking (names_view c.args.formals.now) c.loop-index.index c.loop-index.is_behind_named (names_view c.loop-index.taken) (map association_view l)) c.args.list.now
    c.loop-index.index past
