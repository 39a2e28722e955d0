use Rattle.std.proofs.Common.{◌≡◌, ◌<◌, List, length, true, false, sym, ap, ◌∙◌, arith, refl}
use Rattle.rtl_net.specs.declared.process.Process.{Process}
use Rattle.rtl_net.specs.Core.{core}
use Rattle.rtl_process_kinds.proofs.Processes.{many_processes}
use Rattle.rtl_check.proofs.ShownLevels.{shows, stand}
use Rattle.rtl_check.proofs.standing.are_levels.Goals as goal

pub returns-then-levels-processes : goal.returns-then-levels-processes
returns-then-levels-processes c =
    let net = c.args.net.now in
    let many = ap (λ (ps : List Process). length ps) c.processes-processes.ensures in
    λ clear. (λ e. absurd cc, λ S. absurd (c.if-levels-processes.true (S.each_process ∙ (many_processes net ∙ sym many))))

pub returns-then-not-stands : goal.returns-then-not-stands
returns-then-not-stands c =
    let net = c.args.net.now in
    let levels = c.args.levels.now in
    let from = c.args.from.now in
    let wired = (c.nets_meet_the_laws.ensures net c.is_elaborated.ensures).elaborated.wiring in
    let p = c.loop-process.process in
    let there : p < length (core net).processes = omega (arith, c.loop-process-test.true, many_processes net, ap (λ (ps : List Process). length ps) c.processes-processes.ensures, c.loop-process.auto.process-end) in
    λ clear. (λ e. absurd cc, λ S. let t = c.stands.ensures.1 (stand (core net) levels from wired clear S p there) in let h : true ≡ false = sym t ∙ c.if-not-stands.true in cc)

pub returns : goal.returns
returns c =
    let net = c.args.net.now in
    let levels = c.args.levels.now in
    let from = c.args.from.now in
    let wired = (c.nets_meet_the_laws.ensures net c.is_elaborated.ensures).elaborated.wiring in
    let many = ap (λ (ps : List Process). length ps) c.processes-processes.ensures in
    let all : c.loop-process.process ≡ length (core net).processes = omega (arith, c.loop-process-test.false, c.loop-process.auto.process-end, many, many_processes net) in
    λ clear. (
      λ e. shows (core net) levels from wired clear (c.if-levels-processes.false ∙ (many ∙ sym (many_processes net))) (c.if-from-processes.false ∙ (many ∙ sym (many_processes net)))
          (λ q l. c.loop-process.invariant q (omega (arith, all, l))),
      λ S. refl,
    )
