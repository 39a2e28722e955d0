use Rattle.std.proofs.Common.{◌≡◌, false, Option, length, sym, ap, subst, ◌∙◌}
use Rattle.std.proofs.lemmas.List.{get_or_default}
use Rattle.rtl_awaited_edges.specs.declared.awaited.ClockEdge.{ClockEdge}
use Rattle.rtl_awaited_edges.specs.Awaiting.{IsAsleep}
use Rattle.rtl_kernel.specs.values.TwoValues.{TwoValues}
use Rattle.rtl_kernel.specs.wakes.ToRun.{ToRun}
use Rattle.rtl_kernel.proofs.Kept as kept
use Rattle.rtl_kernel.proofs.kernel.Kernel.run_one.Goals as goal

pub bounds-bodies-process : goal.bounds-bodies-process
bounds-bodies-process g c = kept.in_bodies c.self.invariant c.take-process.result c.take-process.ensures.at.0

pub look_ahead-self-inside-requires-clause-bodies : goal.look_ahead-self-inside-requires-clause-bodies
look_ahead-self-inside-requires-clause-bodies g c = kept.each_body c.self.invariant c.take-process.result c.take-process.ensures.at.0 c.take-process.new.self (ap (λ (r : ToRun). r.waiting) c.take-process.ensures.rest)

pub look_ahead-self-inside-requires-clause-drivers : goal.look_ahead-self-inside-requires-clause-drivers
look_ahead-self-inside-requires-clause-drivers g c = kept.each_outcome c.self.invariant c.take-process.result c.take-process.ensures.at.0 c.take-process.new.self (ap (λ (r : ToRun). r.waiting) c.take-process.ensures.rest)

now : (g : _) (c : goal.After-before-2 g) → c.now.result.now ≡ c.self.inside.nets.values.current
now g c = c.now.ensures ∙ ap (λ (v : TwoValues). v.current) c.values-values.ensures.value

before : (g : _) (c : goal.After-before-2 g) → c.before-2.result.now ≡ c.self.inside.nets.values.before
before g c = c.before-2.ensures.value ∙ ap (λ (v : TwoValues). v.before) c.values-values.ensures.value

pub run-requires-clause-there : goal.run-requires-clause-there
run-requires-clause-there g c = kept.in_outcomes c.self.invariant c.take-process.result c.take-process.ensures.at.0

pub run-requires-clause-quiet : goal.run-requires-clause-quiet
run-requires-clause-quiet g c = kept.fresh c.self.invariant c.take-process.result c.take-process.ensures.at.0

pub run-requires-clause-now_all : goal.run-requires-clause-now_all
run-requires-clause-now_all g c =
    ap length (now g c) ∙ kept.all_now c.self.invariant ∙ sym (ap length (kept.types_are c.self.invariant c.take-process.result c.take-process.ensures.at.0 _ c.index-bodies-process.is))

pub run-requires-clause-before_all : goal.run-requires-clause-before_all
run-requires-clause-before_all g c =
    ap length (before g c) ∙ kept.all_before c.self.invariant ∙ sym (ap length (kept.types_are c.self.invariant c.take-process.result c.take-process.ensures.at.0 _ c.index-bodies-process.is))

pub run-requires-clause-now : goal.run-requires-clause-now
run-requires-clause-now g c =
    let types = kept.types_are c.self.invariant c.take-process.result c.take-process.ensures.at.0 _ c.index-bodies-process.is in
    rw (now g c, types) (kept.now_typed c.self.invariant)

pub run-requires-clause-before : goal.run-requires-clause-before
run-requires-clause-before g c =
    let types = kept.types_are c.self.invariant c.take-process.result c.take-process.ensures.at.0 _ c.index-bodies-process.is in
    rw (before g c, types) (kept.before_typed c.self.invariant)

pub run-requires-clause-own : goal.run-requires-clause-own
run-requires-clause-own g c = kept.own c.self.invariant c.take-process.result c.take-process.ensures.at.0 _ c.index-bodies-process.is

pub run-requires-clause-room : goal.run-requires-clause-room
run-requires-clause-room g c = kept.room c.self.invariant c.take-process.result c.take-process.ensures.at.0 _ c.index-bodies-process.is

pub invariant_of-self : goal.invariant_of-self
invariant_of-self g c =
    let v = c.self.inside.nets.values in
    let awaits_it = get_or_default c.self.inside.await_it.items c.take-process.result false c.index.result.now
    (kept.in_await_it c.self.invariant c.take-process.result c.take-process.ensures.at.0) ∙ sym c.index.ensures ∙ c.if-index.true in
    let told = rw (← c.self.view_is) at (c.requires.asleep c.if-asleep.true) in
    let asleep = subst (λ (o : Option ClockEdge). IsAsleep o v.before v.current) (sym c.self.invariant.of_net.awaits.first) told in
    kept.kept_asleep c.self.invariant c.take-process.result c.take-process.ensures.at.0 c.take-process.new.self (ap (λ (r : ToRun). r.waiting) c.take-process.ensures.rest) awaits_it asleep

pub returns-then-index-clause-ran : goal.returns-then-index-clause-ran
returns-then-index-clause-ran g c =
    let v = c.self.inside.nets.values in
    let awaits_it = get_or_default c.self.inside.await_it.items c.take-process.result false c.index.result.now
    (kept.in_await_it c.self.invariant c.take-process.result c.take-process.ensures.at.0) ∙ sym c.index.ensures ∙ c.if-index.true in
    let told = rw (← c.self.view_is) at (c.requires.asleep c.if-asleep.true) in
    let asleep = subst (λ (o : Option ClockEdge). IsAsleep o v.before v.current) (sym c.self.invariant.of_net.awaits.first) told in
    rw (← c.self.view_is) (
      c.take-process.result,
      c.take-process.ensures.at,
      kept.is_asleep c.self.invariant c.take-process.result c.take-process.ensures.at.0 c.take-process.new.self (ap (λ (r : ToRun). r.waiting) c.take-process.ensures.rest) awaits_it asleep,
    )

pub invariant_of-self-2 : goal.invariant_of-self-2
invariant_of-self-2 g c =
    kept.kept_ran c.self.invariant c.take-process.result c.take-process.ensures.at.0 _ c.index-bodies-process.is
    c.run.new.self c.take-process.new.self c.run.ensures.drivers (rw (c.before-2.ensures.value, c.now.ensures, c.values-values.ensures.value) at c.run.ensures.ran) (ap (λ (r : ToRun). r.waiting) c.take-process.ensures.rest)

pub returns-clause-ran : goal.returns-clause-ran
returns-clause-ran g c =
    rw (← c.self.view_is) (
      c.take-process.result,
      c.take-process.ensures.at,
      kept.is_ran c.self.invariant c.take-process.result c.take-process.ensures.at.0 _ c.index-bodies-process.is
          c.run.new.self c.take-process.new.self c.run.ensures.drivers (rw (c.before-2.ensures.value, c.now.ensures, c.values-values.ensures.value) at c.run.ensures.ran) (ap (λ (r : ToRun). r.waiting) c.take-process.ensures.rest),
    )
