use Rattle.std.proofs.Common.{◌≡◌, suc, ◌-◌, ◌<◌, true, false, [], ◌∷◌, ◌++◌, length, map, drop, ap, ◌∙◌, sym, subst, arith, rules, Ok, None}
use Rattle.std.proofs.lemmas.Grind.{common_steps}
use Rattle.std.specs.Prelude.{◌≢◌, option_map, flat_map, codes}
use Rattle.std.specs.Fmt.{signed_decimal}
use Rattle.std.proofs.lemmas.Option.{slice_get-map, slice_get_past}
use Rattle.vhdl_names_rules.specs.units.Bytes.{process_bytes, concurrent_bytes, concurrents_bytes, units_bytes}
use Rattle.vhdl_names_units.specs.views.Units.{entity_view, architecture_view}
use Rattle.vhdl_names_units.specs.views.Declarations.{declaration_view}
use Rattle.vhdl_expand_rules.specs.Declarations.{declarations}
use Rattle.vhdl_expand_rules.specs.Elab.{◌>>=◌, fault_told, MayTell}
use Rattle.vhdl_expand_rules.specs.Expansion.{instance_of, with_dot}
use Rattle.vhdl_elab_rules.specs.Numbering.{own_sizes}
use Rattle.vhdl_expand_rules.proofs.Modulus.{same_word}
use Rattle.vhdl_expand_rules.proofs.Items.{none_left}
use Rattle.vhdl_expand_tree.specs.Costs.{charged, spent, nets, instance_costs}
use Rattle.vhdl_expand_tree.specs.Views.{budget_view, object_view, parts_of}
use Rattle.vhdl_expand_declarations.specs.Views.{declared_view}
use Rattle.vhdl_expand.proofs.Nested.{outermost, instance_made, not_expanded, no_unit, instance_here, instance_behind, expanded_here}
use Rattle.vhdl_expand.proofs.Stopping.{deep_told, bare_told, many_told, declared_told, nets_told, inside_told, unit_found, interface_told, associated_told, inner_told}
use Rattle.vhdl_names_trees.specs.views.Integers.{range_view}
use Rattle.vhdl_names_trees.specs.views.Tests.{static_test_view}
use Rattle.vhdl_names_units.specs.views.Concurrent as units
use Rattle.vhdl_names_units.proofs.rows.Concurrent.{view_generate}
use Rattle.vhdl_expand_rules.specs.declared.fault.ElabFault.TheVariants.{NoMemory}
use Rattle.vhdl_expand_rules.specs.declared.fault.ElabProblem.TheVariants.{NoTop}
use Rattle.vhdl_expand_rules.proofs.Steps.{given}
use Rattle.vhdl_expand_tree.proofs.Alike.{tells, tells_among}
use Rattle.vhdl_expand.specs.Making as made
use Rattle.vhdl_expand.specs.Making.{adding, progress_view, made_turns, made_instance, nothing_yet}
use Rattle.vhdl_expand.specs.Spots.{spot_view}
use Rattle.vhdl_expand.specs.Walks.{units_of}
use Rattle.vhdl_expand.proofs.Weights.{weight, weights}
use Rattle.vhdl_expand.proofs.Making.{turns_fit, charges_along}
use Rattle.vhdl_expand.proofs.Statements.{list_goes, list_stops, list_ends, process_is, instance_is}
use Rattle.vhdl_expand.proofs.Generates.{turned, turns_begin, turns_refused, no_turns, turns_go, turns_stop, turns_end, turn_spot, branch_spot, branch_taken, branch_left, no_branch}
use Rattle.vhdl_expand.proofs.Among.{among_left, among_right, first_among, beside, same_among, then_among, charges_among}
use Rattle.vhdl_expand.proofs.Standing.{concurrent_among, generate_among}
use Rattle.vhdl_expand.proofs.Telling.{decision_places, turns_places, turns_told, turns_given}
use Rattle.vhdl_expand.proofs.Told.{told_at, other_told, no_top_other}
use Rattle.vhdl_expand.proofs.Heavier.{lighter, generate_weight, level_lighter}
use Rattle.vhdl_expand.proofs.Passing.{passed_told}
use Rattle.vhdl_expand.proofs.walk.Walk.+concurrent.Goals as goal

-- ---- statements one after another

pub concurrents-loop-item-preserved : goal.concurrents-loop-item-preserved
concurrents-loop-item-preserved t c =
    let i = c.loop-item.item-index in
    let at = spot_view c.args.spot.now in
    let below : i < length c.args.list.now = first_of (search rules, omega arith) in
    let fits = turns_fit (progress_view c.loop-item.so_far) (progress_view c.concurrent.new.so_far) (made.concurrent (units_of c.args.self.now) c.args.self.now.levels at (units.concurrent_view c.item-item.result)) c.in_ok-concurrent.ensures in
    record {
      leads = list_goes (units_of c.args.self.now) c.args.self.now.levels at _ (progress_view c.loop-item.so_far) (progress_view c.concurrent.new.so_far) c.args.list.now i c.item-item.result below c.item-item.is c.loop-item.invariant.leads c.in_ok-concurrent.ensures;
      fits = omega (arith, fits, c.loop-item.invariant.fits);
    }

pub concurrents-returns : goal.concurrents-returns
concurrents-returns t c =
    list_ends (units_of c.args.self.now) c.args.self.now.levels (spot_view c.args.spot.now) _ (progress_view c.loop-item.so_far) (drop c.loop-item.item-index c.args.list.now)
    (none_left c.args.list.now c.loop-item.item-index (omega arith)) c.loop-item.invariant.leads

pub concurrents-returns-in_err-concurrent : goal.concurrents-returns-in_err-concurrent
concurrents-returns-in_err-concurrent t c =
    let i = c.loop-item.item-index in
    let below : i < length c.args.list.now = first_of (search rules, omega arith) in
    let among = beside _ _ (units_bytes (units_of c.args.self.now)) (concurrent_among c.args.list.now i c.item-item.result below c.item-item.is) in
    passed_told _ _ c.in_err-concurrent.field-0.0 _ c.from_residual.result c.from_residual.ensures.1 (λ e p. p)
    (λ n. list_stops (units_of c.args.self.now) c.args.self.now.levels (spot_view c.args.spot.now) _ (progress_view c.loop-item.so_far) c.args.list.now i c.item-item.result below c.item-item.is c.loop-item.invariant.leads
    (tells_among among (c.in_err-concurrent.ensures n)))

pub concurrents-concurrent-requires : goal.concurrents-concurrent-requires
concurrents-concurrent-requires t c = (
  omega (arith, c.decreases, lighter c.args.list.now c.loop-item.item-index c.item-item.result c.loop-item-test.true c.item-item.is),
  c.loop-item.invariant.fits,
)

-- ---- a statement

pub concurrent-returns-in-Process : goal.concurrent-returns-in-Process
concurrent-returns-in-Process t c =
    let at = spot_view c.args.spot.now in
    let h = ap (λ x. made.concurrent (units_of c.args.self.now) c.args.self.now.levels at (units.concurrent_view x)) c.in-Process.is
    ∙ process_is (units_of c.args.self.now) c.args.self.now.levels at (units.process_view c.in-Process.written) in
    let all = concurrent_bytes (units.concurrent_view c.args.item.now) in
    let more = units_bytes (units_of c.args.self.now) in
    charges_among _ _ _ _ _ (then_among (process_bytes (units.process_view c.in-Process.written)) all (all ++ more) (same_among (λ x. concurrent_bytes (units.concurrent_view x)) _ _ (sym c.in-Process.is)) (among_left all more))
    (charges_along _ _ _ _ _ (ap (adding (progress_view c.args.so_far.now)) h) c.add_process.ensures)

pub concurrent-returns-in-Instance : goal.concurrent-returns-in-Instance
concurrent-returns-in-Instance t c =
    let at = spot_view c.args.spot.now in
    let h = ap (λ x. made.concurrent (units_of c.args.self.now) c.args.self.now.levels at (units.concurrent_view x)) c.in-Instance.is
    ∙ instance_is (units_of c.args.self.now) c.args.self.now.levels at (units.instance_view c.in-Instance.written) in
    charges_among _ _ _ _ _ (same_among (λ x. concurrent_bytes (units.concurrent_view x) ++ units_bytes (units_of c.args.self.now)) _ _ (sym c.in-Instance.is))
    (charges_along _ _ _ _ _ (ap (adding (progress_view c.args.so_far.now)) h) c.add_instance.ensures)

pub concurrent-returns-in-Generate : goal.concurrent-returns-in-Generate
concurrent-returns-in-Generate t c =
    let at = spot_view c.args.spot.now in
    let w = c.in-Generate.written in
    let is = ap units.concurrent_view c.in-Generate.is ∙ view_generate w.label w.at w.scheme w.statements in
    let body = units.concurrents_of (units.concurrents_view w.statements) in
    let more = units_bytes (units_of c.args.self.now) in
    charges_among _ _ _ _ _ (then_among (w.at ∷ (concurrents_bytes body ++ more)) (concurrent_bytes (units.generated w.label.text.items w.at body w.scheme) ++ more) (concurrent_bytes (units.concurrent_view c.args.item.now) ++ more)
    (generate_among w.label.text.items w.at body w.scheme more) (same_among (λ x. concurrent_bytes x ++ more) _ _ (sym is)))
    (charges_along _ _ _ _ _ (ap (λ x. adding (progress_view c.args.so_far.now) (made.concurrent (units_of c.args.self.now) c.args.self.now.levels at x)) is) c.generate.ensures)

-- ---- a generate

pub generate-returns-in-For : goal.generate-returns-in-For
generate-returns-in-For t c =
    let w = c.args.written.now in
    charges_along _ _ _ _ _
    (ap (λ s. adding (progress_view c.args.so_far.now) (made.concurrent (units_of c.args.self.now) c.args.self.now.levels (spot_view c.args.spot.now) (units.generated w.label.text.items w.at (units.concurrents_of (units.concurrents_view w.statements)) s))) c.in-For.is)
    c.turns.ensures.given

pub generate-returns-in-If : goal.generate-returns-in-If
generate-returns-in-If t c =
    let w = c.args.written.now in
    charges_among _ _ _ _ _ (among_right (w.at ∷ []) _) (charges_along _ _ _ _ _
    (ap (λ s. adding (progress_view c.args.so_far.now) (made.concurrent (units_of c.args.self.now) c.args.self.now.levels (spot_view c.args.spot.now) (units.generated w.label.text.items w.at (units.concurrents_of (units.concurrents_view w.statements)) s))) c.in-If.is)
    c.branch-self.ensures)

-- ---- turns

pub turns-returns-in_err-turns-clause-given : goal.turns-returns-in_err-turns-clause-given
turns-returns-in_err-turns-clause-given t c =
    let w = c.args.written.now in
    let body = units.concurrents_of (units.concurrents_view w.statements) in
    let more = concurrents_bytes body ++ units_bytes (units_of c.args.self.now) in
    let at = spot_view c.args.spot.now in
    let r = range_view c.args.range.now in
    let placed = (turns_places (w.at ∷ more) at.site.integers w.at r (first_among w.at more)).placed _ c.in_err-turns.ensures in
    passed_told _ _ c.in_err-turns.field-0.0 _ c.from_residual.result c.from_residual.ensures.1 (λ e p. p)
    (λ _. tells placed (no_turns (units_of c.args.self.now) c.args.self.now.levels at w.at w.label.text.items body r (progress_view c.args.so_far.now) c.in_err-turns.ensures))

pub turns-returns-in_err-add_turns-clause-given : goal.turns-returns-in_err-add_turns-clause-given
turns-returns-in_err-add_turns-clause-given t c =
    let w = c.args.written.now in
    let r = c.in_ok-turns.turns in
    let body = units.concurrents_of (units.concurrents_view w.statements) in
    passed_told _ _ c.in_err-add_turns.field-0.0 _ c.from_residual-in_err-add_turns.result c.from_residual-in_err-add_turns.ensures.1 (λ e p. p)
    (λ n. turns_refused (units_of c.args.self.now) c.args.self.now.levels (spot_view c.args.spot.now) w.at w.label.text.items body (range_view c.args.range.now) r.direction r.first r.count (progress_view c.args.so_far.now) c.in_ok-turns.ensures
    (tells_among (among_left (w.at ∷ []) (concurrents_bytes body ++ units_bytes (units_of c.args.self.now))) (c.in_err-add_turns.ensures n)))

pub turns-loop-turn-init : goal.turns-loop-turn-init
turns-loop-turn-init t c =
    let w = c.args.written.now in
    let r = c.in_ok-turns.turns in
    let fits = turns_fit (progress_view c.args.so_far.now) (progress_view c.add_turns.new.self) (Ok (made_turns r.count)) c.in_ok-add_turns.ensures in
    record {
      leads = turns_begin (units_of c.args.self.now) c.args.self.now.levels (spot_view c.args.spot.now) w.at w.label.text.items (units.concurrents_of (units.concurrents_view w.statements)) (range_view c.args.range.now)
          r.direction r.first r.count (progress_view c.args.so_far.now) (progress_view c.add_turns.new.self) c.in_ok-turns.ensures c.in_ok-add_turns.ensures;
      fits = omega (arith, fits, c.requires.fits);
    }

pub turns-loop-turn-preserved : goal.turns-loop-turn-preserved
turns-loop-turn-preserved t c =
    let w = c.args.written.now in
    let r = c.in_ok-turns.turns in
    let body = units.concurrents_of (units.concurrents_view w.statements) in
    let at = spot_view c.args.spot.now in
    let now = progress_view c.loop-turn.so_far in
    let made = ap (λ j. adding now (turned (units_of c.args.self.now) c.args.self.now.levels at w.at w.label.text.items body j)) (sym (same_word c.parameter-value.result (search rules))) ∙ c.in_ok-turn.ensures in
    let fits = turns_fit now (progress_view c.turn.new.so_far) (turned (units_of c.args.self.now) c.args.self.now.levels at w.at w.label.text.items body c.parameter-value.result) made in
    record {
      leads = turns_go (units_of c.args.self.now) c.args.self.now.levels at w.at w.label.text.items body _ now (progress_view c.turn.new.so_far) r.direction r.first c.parameter-value.result r.count c.loop-turn.turn c.loop-turn-test.true c.parameter-value.ensures c.loop-turn.invariant.leads made;
      fits = omega (arith, fits, c.loop-turn.invariant.fits);
    }

pub turns-returns-in_err-turn-clause-given : goal.turns-returns-in_err-turn-clause-given
turns-returns-in_err-turn-clause-given t c =
    let w = c.args.written.now in
    let r = c.in_ok-turns.turns in
    let body = units.concurrents_of (units.concurrents_view w.statements) in
    let at = spot_view c.args.spot.now in
    let now = progress_view c.loop-turn.so_far in
    let told = λ (n : c.in_err-turn.field-0.0 ≢ NoMemory). subst (λ j. MayTell (concurrents_bytes body ++ units_bytes (units_of c.args.self.now)) (adding now (turned (units_of c.args.self.now) c.args.self.now.levels at w.at w.label.text.items body j)) (fault_told c.in_err-turn.field-0.0)) (same_word c.parameter-value.result (search rules)) (c.in_err-turn.ensures n) in
    passed_told _ _ c.in_err-turn.field-0.0 _ c.from_residual-in_err-turn.result c.from_residual-in_err-turn.ensures.1 (λ e p. p)
    (λ n. turns_stop (units_of c.args.self.now) c.args.self.now.levels at w.at w.label.text.items body _ now r.direction r.first c.parameter-value.result r.count c.loop-turn.turn c.loop-turn-test.true c.parameter-value.ensures c.loop-turn.invariant.leads
    (tells_among (among_right (w.at ∷ []) (concurrents_bytes body ++ units_bytes (units_of c.args.self.now))) (told n)))

pub turns-returns-clause-given : goal.turns-returns-clause-given
turns-returns-clause-given t c =
    let w = c.args.written.now in
    let r = c.in_ok-turns.turns in
    turns_end (units_of c.args.self.now) c.args.self.now.levels (spot_view c.args.spot.now) w.at w.label.text.items (units.concurrents_of (units.concurrents_view w.statements)) _ (progress_view c.loop-turn.so_far) r.direction r.first r.count c.loop-turn.turn (omega arith) c.loop-turn.invariant.leads

pub turns-returns-in_err-turns-clause-turned : goal.turns-returns-in_err-turns-clause-turned
turns-returns-in_err-turns-clause-turned t c =
    turns_told (spot_view c.args.spot.now).site.integers c.args.written.now.at (range_view c.args.range.now) c.in_err-turns.field-0.0 _ c.from_residual.result c.from_residual.ensures.1 (λ e p. p) c.in_err-turns.ensures

pub turns-returns-in_err-add_turns-clause-turned : goal.turns-returns-in_err-add_turns-clause-turned
turns-returns-in_err-add_turns-clause-turned t c = turns_given (spot_view c.args.spot.now).site.integers c.args.written.now.at (range_view c.args.range.now) _ _ c.in_ok-turns.ensures

pub turns-returns-in_err-turn-clause-turned : goal.turns-returns-in_err-turn-clause-turned
turns-returns-in_err-turn-clause-turned t c = turns_given (spot_view c.args.spot.now).site.integers c.args.written.now.at (range_view c.args.range.now) _ _ c.in_ok-turns.ensures

pub turns-returns-clause-turned : goal.turns-returns-clause-turned
turns-returns-clause-turned t c = turns_given {X = Unit {0}} (spot_view c.args.spot.now).site.integers c.args.written.now.at (range_view c.args.range.now) _ (Ok tt) c.in_ok-turns.ensures

pub concurrent-generate-requires : goal.concurrent-generate-requires
concurrent-generate-requires t c =
    let w = c.in-Generate.written in
    let is = ap (λ x. weight (units.concurrent_view x)) c.in-Generate.is ∙ ap weight (view_generate w.label w.at w.scheme w.statements)
    ∙ generate_weight w.label.text.items w.at (units.concurrents_of (units.concurrents_view w.statements)) w.scheme in
    (omega (arith, c.decreases, is), c.requires.fits)

pub turn-returns : goal.turn-returns
turn-returns t c =
    let w = c.args.written.now in
    let at = spot_view c.args.spot.now in
    let inner = spot_view c.within-inner.result in
    let values : c.deref-2.result.now ≡ at.site.integers.generates ++ c.args.parameter ∷ [] = first_of (search rules, grind (arith, common_steps)) in
    let prefix : c.deref-3.result.now ≡ at.prefix ++ with_dot (w.label.text.items ++ (codes "(" ++ (signed_decimal c.args.parameter ++ codes ")"))) = first_of (search rules, grind (arith, common_steps)) in
    let e = ap (λ s. adding (progress_view c.args.so_far.now) (made.concurrents (units_of c.args.self.now) c.args.self.now.levels s (units.concurrents_of (units.concurrents_view w.statements))))
    (turn_spot (units_of c.args.self.now) c.args.self.now.levels (spot_view c.args.spot.now) w.at w.label.text.items (units.concurrents_of (units.concurrents_view w.statements)) inner c.args.parameter c.deref-2.result.now c.deref-3.result.now c.within-inner.ensures.spot values prefix)
    ∙ ap (λ xs. adding (progress_view c.args.so_far.now) (made.concurrents (units_of c.args.self.now) c.args.self.now.levels inner (units.concurrents_of (map units.concurrent_view xs)))) (sym c.deref-4.ensures.value) in
    charges_among _ _ _ _ _ (same_among (λ xs. concurrents_bytes (units.concurrents_of (map units.concurrent_view xs)) ++ units_bytes (units_of c.args.self.now)) _ _ c.deref-4.ensures.value) (charges_along _ _ _ _ _ e c.concurrents.ensures)

-- ---- an if generate

pub branch-returns-in_err-decision : goal.branch-returns-in_err-decision
branch-returns-in_err-decision t c =
    let w = c.args.written.now in
    let body = units.concurrents_of (units.concurrents_view w.statements) in
    let at = spot_view c.args.spot.now in
    let test = static_test_view c.args.test.now in
    let placed = (decision_places (concurrents_bytes body ++ units_bytes (units_of c.args.self.now)) at.site.integers test).placed _ c.in_err-decision.ensures in
    passed_told _ _ c.in_err-decision.field-0.0 _ c.from_residual.result c.from_residual.ensures.1 (λ e p. p)
    (λ _. tells placed (no_branch (units_of c.args.self.now) c.args.self.now.levels at w.at w.label.text.items body test (progress_view c.args.so_far.now) c.in_err-decision.ensures))

pub branch-returns-then-not-branch : goal.branch-returns-then-not-branch
branch-returns-then-not-branch t c =
    let w = c.args.written.now in
    let fails : c.in_ok-decision.field-0 ≡ false = first_of (search rules, grind (arith, common_steps)) in
    branch_left (units_of c.args.self.now) c.args.self.now.levels (spot_view c.args.spot.now) w.at w.label.text.items (units.concurrents_of (units.concurrents_view w.statements)) (static_test_view c.args.test.now) (progress_view c.args.so_far.now) (c.in_ok-decision.ensures ∙ ap given fails)

pub branch-returns : goal.branch-returns
branch-returns t c =
    let w = c.args.written.now in
    let at = spot_view c.args.spot.now in
    let inner = spot_view c.within-inner.result in
    let holds : c.in_ok-decision.field-0 ≡ true = first_of (search rules, grind (arith, common_steps)) in
    let prefix : c.deref-2.result.now ≡ at.prefix ++ with_dot w.label.text.items = first_of (search rules, grind (arith, common_steps)) in
    let e = ap (adding (progress_view c.args.so_far.now)) (branch_taken (units_of c.args.self.now) c.args.self.now.levels (spot_view c.args.spot.now) w.at w.label.text.items (units.concurrents_of (units.concurrents_view w.statements)) (static_test_view c.args.test.now) (c.in_ok-decision.ensures ∙ ap given holds))
    ∙ ap (λ s. adding (progress_view c.args.so_far.now) (made.concurrents (units_of c.args.self.now) c.args.self.now.levels s (units.concurrents_of (units.concurrents_view w.statements))))
    (branch_spot (units_of c.args.self.now) c.args.self.now.levels (spot_view c.args.spot.now) w.at w.label.text.items (units.concurrents_of (units.concurrents_view w.statements)) inner c.deref-2.result.now c.within-inner.ensures.spot prefix)
    ∙ ap (λ xs. adding (progress_view c.args.so_far.now) (made.concurrents (units_of c.args.self.now) c.args.self.now.levels inner (units.concurrents_of (map units.concurrent_view xs)))) (sym c.deref-3.ensures.value) in
    charges_among _ _ _ _ _ (same_among (λ xs. concurrents_bytes (units.concurrents_of (map units.concurrent_view xs)) ++ units_bytes (units_of c.args.self.now)) _ _ c.deref-3.ensures.value) (charges_along _ _ _ _ _ e c.concurrents.ensures)

-- ---- the body of an instance

pub body-returns : goal.body-returns
body-returns t c =
    let d = declared_view c.args.declared.now in
    let s = units.concurrents_of (map units.concurrent_view c.args.list.now) in
    ap (λ ps. adding (record { made = record { parts = ps; turns = 0 }; left = budget_view c.args.left }) (made.concurrents (units_of c.args.self.now) c.args.self.now.levels (outermost d) s)) (sym (ap parts_of c.new.ensures.items))
    ∙ c.in_ok-concurrents.ensures

-- ---- an instance

pub instance-returns-then-self-eq0 : goal.instance-returns-then-self-eq0
instance-returns-then-self-eq0 t c =
    λ _. told_at c.at.ensures (deep_told (units_of c.args.self.now) c.args.self.now.levels c.args.at (entity_view c.args.unit.now) (declared_view c.args.declared) (budget_view c.args.left.now) (omega (arith, c.if-self-eq0.true)))

pub instance-returns-in_default : goal.instance-returns-in_default
instance-returns-in_default t c =
    let none : c.args.unit.now.architecture ≡ None = first_of (search rules, grind (arith, common_steps)) in
    λ _. told_at c.at-in_default.ensures (bare_told (units_of c.args.self.now) c.args.self.now.levels c.args.at (entity_view c.args.unit.now) (declared_view c.args.declared) (budget_view c.args.left.now) (c.args.self.now.levels - 1) (omega (arith, c.if-self-eq0.false)) (ap (option_map architecture_view) none))

pub instance-returns-in_err-charge_instance : goal.instance-returns-in_err-charge_instance
instance-returns-in_err-charge_instance t c =
    let fault = c.in_err-charge_instance.field-0.0 in
    passed_told _ _ fault _ c.from_residual.result c.from_residual.ensures.1 (λ e p. p)
    (λ _. many_told (units_of c.args.self.now) c.args.self.now.levels c.args.at (entity_view c.args.unit.now) (declared_view c.args.declared) (budget_view c.args.left.now) (c.args.self.now.levels - 1) (omega (arith, c.if-self-eq0.false)) fault c.in_err-charge_instance.ensures.spent c.in_err-charge_instance.ensures.fault)

pub instance-returns-in_err-declarations : goal.instance-returns-in_err-declarations
instance-returns-in_err-declarations t c =
    let named = ap (λ xs. declarations (declared_view c.args.declared) (flat_map declaration_view xs)) (sym c.deref.ensures.value) in
    passed_told _ _ c.in_err-declarations.field-0.0 _ c.from_residual-in_err-declarations.result c.from_residual-in_err-declarations.ensures.1 (λ e p. p)
    (λ k. declared_told (units_of c.args.self.now) c.args.self.now.levels c.args.at (entity_view c.args.unit.now) (declared_view c.args.declared) (budget_view c.args.left.now) (c.args.self.now.levels - 1) (omega (arith, c.if-self-eq0.false)) c.requires.among (architecture_view c.in-Some.architecture) (ap (option_map architecture_view) c.in-Some.is) (named ∙ c.in_err-declarations.ensures k))

pub instance-returns-in_err-charge_own_nets : goal.instance-returns-in_err-charge_own_nets
instance-returns-in_err-charge_own_nets t c =
    let known = ap (λ xs. declarations (declared_view c.args.declared) (flat_map declaration_view xs)) (sym c.deref.ensures.value) ∙ c.in_ok-declarations.ensures in
    passed_told _ _ c.in_err-charge_own_nets.field-0.0 _ c.from_residual-in_err-charge_own_nets.result c.from_residual-in_err-charge_own_nets.ensures.1 (λ e p. p)
    (λ k. nets_told (units_of c.args.self.now) c.args.self.now.levels c.args.at (entity_view c.args.unit.now) (declared_view c.args.declared) (budget_view c.args.left.now) (c.args.self.now.levels - 1) (omega (arith, c.if-self-eq0.false)) c.requires.among (architecture_view c.in-Some.architecture) (ap (option_map architecture_view) c.in-Some.is) c.declarations.new.declared known (budget_view c.charge_instance.new.self) c.in_ok-charge_instance.ensures.spent _ c.deref-2.ensures.value (c.in_err-charge_own_nets.ensures k))

pub instance-body-requires : goal.instance-body-requires
instance-body-requires t c =
    let n = c.args.self.now.levels - 1 in
    let level : c.args.self.now.levels ≡ suc n = omega (arith, c.if-self-eq0.false) in
    let smaller = level_lighter (units_of c.args.self.now) (entity_view c.args.unit.now) (architecture_view c.in-Some.architecture) c.args.self.now.levels n c.requires.among (ap (option_map architecture_view) c.in-Some.is) level in
    let same = ap (λ xs. weights (units.concurrents_of (map units.concurrent_view xs))) c.deref-3.ensures.value in
    first_of (omega (arith, c.decreases, smaller, same), search (rules, arith, c.decreases, smaller, same))

pub instance-returns-in_err-made : goal.instance-returns-in_err-made
instance-returns-in_err-made t c =
    let known = ap (λ xs. declarations (declared_view c.args.declared) (flat_map declaration_view xs)) (sym c.deref.ensures.value) ∙ c.in_ok-declarations.ensures in
    let taken = ap (λ xs. spent 0 (budget_view c.charge_instance.new.self) (nets (own_sizes (map object_view xs)))) (sym c.deref-2.ensures.value) ∙ c.in_ok-charge_own_nets.ensures in
    let same = ap (λ xs. units.concurrents_of (map units.concurrent_view xs)) c.deref-3.ensures.value in
    passed_told _ _ c.in_err-made.field-0.0 _ c.from_residual-in_err-made.result c.from_residual-in_err-made.ensures.1 (λ e p. p)
    (λ k. inside_told (units_of c.args.self.now) c.args.self.now.levels c.args.at (entity_view c.args.unit.now) (declared_view c.args.declared) (budget_view c.args.left.now) (c.args.self.now.levels - 1) (omega (arith, c.if-self-eq0.false)) c.requires.among (architecture_view c.in-Some.architecture) (ap (option_map architecture_view) c.in-Some.is) c.declarations.new.declared known (budget_view c.charge_instance.new.self) c.in_ok-charge_instance.ensures.spent (budget_view c.charge_own_nets.new.budget) taken _ same (c.in_err-made.ensures k))

pub instance-returns : goal.instance-returns
instance-returns t c =
    let u = units_of c.args.self.now in
    let x = entity_view c.args.unit.now in
    let d = declared_view c.args.declared in
    let b = budget_view c.args.left.now in
    let n = c.args.self.now.levels - 1 in
    let level : c.args.self.now.levels ≡ suc n = omega (arith, c.if-self-eq0.false) in
    let a = architecture_view c.in-Some.architecture in
    let e = declared_view c.declarations.new.declared in
    let known = ap (λ xs. declarations d (flat_map declaration_view xs)) (sym c.deref.ensures.value) ∙ c.in_ok-declarations.ensures in
    let taken = ap (λ xs. spent 0 (budget_view c.charge_instance.new.self) (nets (own_sizes (map object_view xs)))) (sym c.deref-2.ensures.value) ∙ c.in_ok-charge_own_nets.ensures in
    let walked = ap (λ xs. adding (nothing_yet (budget_view c.charge_own_nets.new.budget)) (made.concurrents u n (outermost e) (units.concurrents_of (map units.concurrent_view xs)))) (sym c.deref-3.ensures.value) ∙ c.in_ok-made.ensures in
    ap (λ m. charged b instance_costs (instance_of u m c.args.at x d)) level
    ∙ instance_made u n c.args.at x d b a e (ap (option_map architecture_view) c.in-Some.is) known (budget_view c.charge_instance.new.self) (budget_view c.charge_own_nets.new.budget)
    (progress_view c.in_ok-made.made) c.in_ok-charge_instance.ensures.spent taken walked

-- ---- an instance statement

pub add_instance-returns-in_default : goal.add_instance-returns-in_default
add_instance-returns-in_default t c =
    let u = units_of c.args.self.now in
    let x = units.instance_view c.args.written.now in
    let at = spot_view c.args.spot.now in
    let gone = slice_get_past c.args.self.now.units.now c.args.written.now.unit c.in_default.ensures.lookup.3 in
    λ _. told_at c.at.ensures (other_told NoTop x.at no_top_other (not_expanded (at.prefix ++ x.label) (progress_view c.args.so_far.now) _
    (no_unit u c.args.self.now.levels at x (slice_get-map entity_view c.args.self.now.units.now c.args.written.now.unit ∙ ap (option_map entity_view) gone))))

pub add_instance-returns-in_err-declared : goal.add_instance-returns-in_err-declared
add_instance-returns-in_err-declared t c =
    let x = units.instance_view c.args.written.now in
    let at = spot_view c.args.spot.now in
    let e = entity_view c.in-Some.unit.now in
    passed_told _ _ c.in_err-declared.field-0.0 _ c.from_residual.result c.from_residual.ensures.1 (λ e p. p)
    (λ n. interface_told (units_of c.args.self.now) c.args.self.now.levels at x (progress_view c.args.so_far.now) e (unit_found c.args.self.now.units.now c.args.written.now.unit c.in-Some.unit.now c.in-Some.ensures.lookup.3.0 (c.in-Some.ensures.lookup.3.1 c.in-Some.unit.now)) (c.in_err-declared.ensures n))

pub add_instance-returns-in_err-associations : goal.add_instance-returns-in_err-associations
add_instance-returns-in_err-associations t c =
    let x = units.instance_view c.args.written.now in
    let e = entity_view c.in-Some.unit.now in
    passed_told _ _ c.in_err-associations.field-0.0 _ c.from_residual-in_err-associations.result c.from_residual-in_err-associations.ensures.1 (λ e p. p)
    (λ n. associated_told (units_of c.args.self.now) c.args.self.now.levels (spot_view c.args.spot.now) x (progress_view c.args.so_far.now) e (unit_found c.args.self.now.units.now c.args.written.now.unit c.in-Some.unit.now c.in-Some.ensures.lookup.3.0 (c.in-Some.ensures.lookup.3.1 c.in-Some.unit.now)) (declared_view c.in_ok-declared.declared) c.in_ok-declared.ensures (c.in_err-associations.ensures n))

pub add_instance-instance-requires : goal.add_instance-instance-requires
add_instance-instance-requires t c = (
  omega (arith, c.decreases),
  (c.args.written.now.unit, unit_found c.args.self.now.units.now c.args.written.now.unit c.in-Some.unit.now c.in-Some.ensures.lookup.3.0 (c.in-Some.ensures.lookup.3.1 c.in-Some.unit.now)),
)

pub add_instance-returns-in_err-instance : goal.add_instance-returns-in_err-instance
add_instance-returns-in_err-instance t c =
    let x = units.instance_view c.args.written.now in
    let e = entity_view c.in-Some.unit.now in
    passed_told _ _ c.in_err-instance.field-0.0 _ c.from_residual-in_err-instance.result c.from_residual-in_err-instance.ensures.1 (λ e p. p)
    (λ n. inner_told (units_of c.args.self.now) c.args.self.now.levels (spot_view c.args.spot.now) x (progress_view c.args.so_far.now) e (unit_found c.args.self.now.units.now c.args.written.now.unit c.in-Some.unit.now c.in-Some.ensures.lookup.3.0 (c.in-Some.ensures.lookup.3.1 c.in-Some.unit.now)) (declared_view c.in_ok-declared.declared) c.in_ok-declared.ensures (declared_view c.associations.new.declared) c.in_ok-associations.ensures (c.in_err-instance.ensures n))

pub add_instance-returns : goal.add_instance-returns
add_instance-returns t c =
    let u = units_of c.args.self.now in
    let x = units.instance_view c.args.written.now in
    let at = spot_view c.args.spot.now in
    let e = entity_view c.in-Some.unit.now in
    let found = unit_found c.args.self.now.units.now c.args.written.now.unit c.in-Some.unit.now c.in-Some.ensures.lookup.3.0 (c.in-Some.ensures.lookup.3.1 c.in-Some.unit.now) in
    let d = declared_view c.in_ok-declared.declared in
    let f = declared_view c.associations.new.declared in
    let here = instance_here u c.args.self.now.levels at x e d f found c.in_ok-declared.ensures c.in_ok-associations.ensures in
    let label : c.in_ok-label.label.items ≡ at.prefix ++ x.label = c.in_ok-label.ensures ∙ ap (λ l. at.prefix ++ l) c.deref.ensures.value in
    let r = expanded_here u c.args.self.now.levels at x in
    let s = instance_of u c.args.self.now.levels x.at e f in
    ap (λ l. adding (progress_view c.args.so_far.now) (r >>= λ i. given (made_instance l i))) (sym label)
    ∙ instance_behind c.args.so_far.now.parts.items c.push.new.self.items c.in_ok-label.label c.in_ok-instance.instance c.args.so_far.now.turns (budget_view c.args.so_far.now.left) (budget_view c.instance.new.left)
    r s here c.in_ok-instance.ensures c.in_ok-push.ensures.items
