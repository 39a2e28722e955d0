use Rattle.std.proofs.Common.{◌≡◌, ℕ, ◌+◌, ◌<◌, List, Option, length, max, rules, take, sym, ap, subst, ◌∙◌, arith}
use Rattle.std.proofs.lemmas.Grind.{common_steps}
use Rattle.rtl_model.specs.simulation.Netlist.{Netlist}
use Rattle.rtl_net.specs.Core.{core}
use Rattle.rtl_check_levels.specs.declared.order.Levels.{Levels}
use Rattle.rtl_check_nets.proofs.Leveling.{IsLeveled, none_more, one_more, numbers, no_loop, below_fits, fits, reported}
use Rattle.rtl_check_nets.proofs.Whole.{woken_there}
use Rattle.rtl_check_nets.proofs.levels.levels_of.Goals as goal
use Rattle.rtl_check_nets.proofs.levels.levels_of.Goals.{in-Some+in_ok-push-in-Some+in_ok-push-in-Some-2, in-None+in_ok-push-in-None+in_ok-push-in-None-2}

moved : (net : Netlist) (rows : Levels) (p : ℕ) (ls ms fs gs : List (Option ℕ)) (a b : ℕ) → ms ≡ ls → gs ≡ fs → b ≡ a → IsLeveled net rows p ls fs a → IsLeveled net rows p ms gs b
moved net rows p ls ms fs gs a b e f g h = rw (e, f, g) h

pub overflow_add-level : goal.overflow_add-level
overflow_add-level c =
    let net = c.args.net.now in
    let laws = (c.nets_meet_the_laws.ensures net c.is_elaborated.ensures).elaborated in
    let starts = c.is_elaborated.ensures.in_range.each_starts in
    let limit = c.is_elaborated.ensures.nets_limit in
    let ls = numbers (core net) c.args.rows c.in_ok-nets.nets.items c.nets.result c.deref.result.now (c.nets.ensures.count ∙ sym starts) c.deref.ensures.value c.in_ok-nets.ensures.many c.in_ok-nets.ensures.each in
    let here : c.loop-process.process < length (core net).processes = (let a = c.loop-process-test.true in let e = c.requires.kinds.each_process in let b = c.loop-process.auto.process-end in omega arith) in
    let low = below_fits (core net) c.args.rows laws.wiring (woken_there net c.is_elaborated.ensures) c.requires.rows c.net_levels_are_shown.ensures c.in_ok-nets.nets.items ls c.loop-process.process here
    c.in-Some.below.level c.in-Some.below.row c.in-Some.ensures.1 in
    omega arith

pub loop-process-preserved : goal.loop-process-preserved
loop-process-preserved c =
    let net = core c.args.net.now in
    let l = c.loop-process in
    let rows = c.args.rows in
    elim c.match-below_of.branch [
      | in-Some+in_ok-push-in-Some+in_ok-push-in-Some-2 w ↦ moved net rows (l.process + 1) _ _ _ _ _ _ (ap (λ v. v.items) w.levels-is ∙ w.in_ok-push-in-Some.ensures.items)
          (ap (λ v. v.items) w.from-is ∙ w.in_ok-push-in-Some-2.ensures.items) (w.greatest-is ∙ (let top : w.max-greatest.result ≡ max l.greatest (w.in-Some.below.level + 1) = first_of (search rules, grind (arith, common_steps)) in top))
          (one_more net rows l.process l.levels.items l.from.items l.greatest l.invariant w.in-Some.below w.in-Some.ensures)
      | in-None+in_ok-push-in-None+in_ok-push-in-None-2 w ↦ moved net rows (l.process + 1) _ _ _ _ _ _ (ap (λ v. v.items) w.levels-is ∙ w.in_ok-push-in-None.ensures.items)
          (ap (λ v. v.items) w.from-is ∙ w.in_ok-push-in-None-2.ensures.items) w.greatest-is
          (none_more net rows l.process l.levels.items l.from.items l.greatest l.invariant w.in-None.ensures)
    ]

pub returns-clause-no_loop : goal.returns-clause-no_loop
returns-clause-no_loop c =
    let net = c.args.net.now in
    let laws = (c.nets_meet_the_laws.ensures net c.is_elaborated.ensures).elaborated in
    let starts = c.is_elaborated.ensures.in_range.each_starts in
    let ls = numbers (core net) c.args.rows c.in_ok-nets.nets.items c.nets.result c.deref.result.now (c.nets.ensures.count ∙ sym starts) c.deref.ensures.value c.in_ok-nets.ensures.many c.in_ok-nets.ensures.each in
    no_loop (core net) c.args.rows laws.wiring (woken_there net c.is_elaborated.ensures) c.requires.rows c.net_levels_are_shown.ensures c.in_ok-nets.nets.items ls

pub returns-clause-levels : goal.returns-clause-levels
returns-clause-levels c =
    let net = c.args.net.now in
    let laws = (c.nets_meet_the_laws.ensures net c.is_elaborated.ensures).elaborated in
    let starts = c.is_elaborated.ensures.in_range.each_starts in
    let ls = numbers (core net) c.args.rows c.in_ok-nets.nets.items c.nets.result c.deref.result.now (c.nets.ensures.count ∙ sym starts) c.deref.ensures.value c.in_ok-nets.ensures.many c.in_ok-nets.ensures.each in
    let l = c.loop-process in
    let all : l.process ≡ length (core net).processes = (let a = c.loop-process-test.false in let b = l.auto.process-end in let e = c.requires.kinds.each_process in omega arith) in
    reported (core net) c.args.rows laws.wiring (woken_there net c.is_elaborated.ensures) c.requires.rows c.net_levels_are_shown.ensures c.in_ok-nets.nets.items ls l.levels.items l.from.items c.truncate.new.self.items l.greatest
    (subst (λ (p : ℕ). IsLeveled (core net) c.args.rows p l.levels.items l.from.items l.greatest) all l.invariant)
    (c.truncate.ensures.items ∙ ap (λ (n : ℕ). take n c.args.rows.from.items) (c.nets-2.ensures.count ∙ sym starts))

pub returns-clause-few : goal.returns-clause-few
returns-clause-few c =
    let net = c.args.net.now in
    let laws = (c.nets_meet_the_laws.ensures net c.is_elaborated.ensures).elaborated in
    let starts = c.is_elaborated.ensures.in_range.each_starts in
    let limit = c.is_elaborated.ensures.nets_limit in
    let ls = numbers (core net) c.args.rows c.in_ok-nets.nets.items c.nets.result c.deref.result.now (c.nets.ensures.count ∙ sym starts) c.deref.ensures.value c.in_ok-nets.ensures.many c.in_ok-nets.ensures.each in
    let l = c.loop-process in
    let all : l.process ≡ length (core net).processes = (let a = c.loop-process-test.false in let b = l.auto.process-end in let e = c.requires.kinds.each_process in omega arith) in
    let low = fits (core net) c.args.rows laws.wiring (woken_there net c.is_elaborated.ensures) c.requires.rows c.net_levels_are_shown.ensures c.in_ok-nets.nets.items ls l.levels.items l.from.items c.truncate.new.self.items l.greatest
    (subst (λ (p : ℕ). IsLeveled (core net) c.args.rows p l.levels.items l.from.items l.greatest) all l.invariant)
    (c.truncate.ensures.items ∙ ap (λ (n : ℕ). take n c.args.rows.from.items) (c.nets-2.ensures.count ∙ sym starts)) in
    omega arith
