use Rattle.std.proofs.Common.{◌≡◌, ◌<◌, ◌≤◌, ℕ, List, get_or, length, arith, ap, sym, subst, ◌∙◌}
use Rattle.std.proofs.lemmas.List.{get_or_default, length-replicate}
use Rattle.rtl_model.proofs.nets.Connected.{connected_is_elaborated}
use Rattle.rtl_model.specs.simulation.Netlist.{process}
use Rattle.rtl_net.specs.Core.{core}
use Rattle.rtl_net.specs.Nets.{flat}
use Rattle.rtl_net.specs.declared.process.Process.{Process}
use Rattle.rtl_levels.specs.Scheduled.{GetLevel}
use Rattle.rtl_levels.proofs.Leveling.{all_same, levels_more, levels_none, levels_skip, net_levels}
use Rattle.rtl_levels.proofs.Wired.{drives_looked_up, processes_many}
use Rattle.rtl_levels.proofs.levels.levels_of_nets.Goals as goal
use Rattle.rtl_levels.proofs.levels.levels_of_nets.Goals.{in-Some, in_default}

pub loop-process-init : goal.loop-process-init
loop-process-init c =
    let net = c.args.net.now in
    let N = c.nets.ensures.elaborated in
    let zeros = c.in_ok-nets.ensures.items_if_clones_equal (λ y e. e) in
    let many : length c.in_ok-nets.nets.items ≡ length net.types = ap length zeros ∙ length-replicate c.nets.result 0 ∙ c.nets.ensures.count in
    levels_none (core net) (connected_is_elaborated (flat net) N.in_range N.connected) c.requires.accepted c.args.levels.now c.in_ok-nets.nets.items
    (many ∙ sym N.in_range.each_starts) (λ n. ap (λ (xs : List ℕ). get_or xs n 0) zeros ∙ all_same _ n 0)

pub bounds-levels-process : goal.bounds-levels-process
bounds-levels-process c =
    let (greatest, V) = c.requires.levels in
    omega (arith, c.loop-process-test.true, V.each_process, processes_many c.args.net.now, ap (λ (ps : List Process). length ps) c.processes-processes.ensures)

pub set_levels-requires : goal.set_levels-requires
set_levels-requires c =
    let net = c.args.net.now in
    let p = c.loop-process.process in
    let N = c.nets.ensures.elaborated in
    let E = connected_is_elaborated (flat net) N.in_range N.connected in
    let drives = (process (core net) p).drives in
    let l : p < length net.processes = subst (λ (ps : List Process). p < length ps) c.processes-processes.ensures c.loop-process-test.true in
    let looked = drives_looked_up net p l c.processes-processes.result.now c.index-processes-process.result c.as_slice.result.now c.processes-processes.ensures c.index-processes-process.is
    (c.as_slice.ensures.value ∙ ap (λ (x : Process). x.drives.items) (sym c.index-processes-process.is)) in
    rw (looked, c.loop-process.invariant.each_net) (λ k d m. subst (λ (n : ℕ). n < length (core net).start) (get_or_default drives k 0 d m) (E.wiring.targets_are_nets p k m))

pub loop-process-preserved : goal.loop-process-preserved
loop-process-preserved c =
    let net = c.args.net.now in
    let levels = c.args.levels.now in
    let p = c.loop-process.process in
    let nets = c.loop-process.nets.items in
    let N = c.nets.ensures.elaborated in
    let E = connected_is_elaborated (flat net) N.in_range N.connected in
    let l : p < length net.processes = subst (λ (ps : List Process). p < length ps) c.processes-processes.ensures c.loop-process-test.true in
    elim c.match-levels-process.branch [
      | in-Some w ↦
          (let looked = drives_looked_up net p l c.processes-processes.result.now w.index-processes-process.result w.as_slice.result.now c.processes-processes.ensures w.index-processes-process.is
          (w.as_slice.ensures.value ∙ ap (λ (x : Process). x.drives.items) (sym w.index-processes-process.is)) in
          let new = w.set_levels.new.nets.items in
          let G = subst (λ (ts : List ℕ). GetLevel ts w.in-Some.level nets new) looked w.set_levels.ensures in
          rw (w.nets-is) (levels_more (core net) E c.requires.accepted levels p nets c.loop-process.invariant w.in-Some.level w.in-Some.is new G))
      | in_default w ↦ rw (w.nets-is) (levels_skip (core net) E c.requires.accepted levels p nets c.loop-process.invariant w.in_default.is)
    ]

pub returns : goal.returns
returns c =
    let net = c.args.net.now in
    let N = c.nets.ensures.elaborated in
    let (greatest, V) = c.requires.levels in
    let done : length (core net).processes ≤ c.loop-process.process = omega (arith, c.loop-process-test.false, ap (λ (ps : List Process). length ps) c.processes-processes.ensures, processes_many net) in
    net_levels (core net) (connected_is_elaborated (flat net) N.in_range N.connected) c.requires.accepted c.args.levels.now greatest V c.loop-process.process done c.loop-process.nets.items c.loop-process.invariant c.requires.by_processes
