use Rattle.std.proofs.Common.{ℕ, List, get_or, ap, subst, ◌∙◌}
use Rattle.rtl_body_facts.specs.declared.kinds.ProcessKind.TheVariants as k
use Rattle.rtl_check.specs.Rules.{breaks, Pushes}
use Rattle.rtl_process_kinds.proofs.Processes.{listed_as, many_processes, within}
use Rattle.rtl_check.proofs.RuleLists.{if_done, reads_listed, wakes_rise, rule_done}
use Rattle.rtl_check.proofs.rules.rule_at.Goals as goal

pub breaking_nets-requires-clause-reads : goal.breaking_nets-requires-clause-reads
breaking_nets-requires-clause-reads c =
    let net = c.args.net.now in
    let there = within c.requires.there c.requires.kinds.each_process (many_processes net) in
    (reads_listed net c.is_elaborated.ensures c.args.process _ there (listed_as c.args.process c.index-processes-process.is c.processes-processes.ensures)).rise

pub breaking_nets-requires-clause-wakes : goal.breaking_nets-requires-clause-wakes
breaking_nets-requires-clause-wakes c =
    let net = c.args.net.now in
    let there = within c.requires.there c.requires.kinds.each_process (many_processes net) in
    wakes_rise net c.is_elaborated.ensures c.args.process _ there (listed_as c.args.process c.index-processes-process.is c.processes-processes.ensures)

pub returns : goal.returns
returns c =
    let net = c.args.net.now in
    let x = c.index-processes-process.result in
    let there = within c.requires.there c.requires.kinds.each_process (many_processes net) in
    let at = listed_as c.args.process c.index-processes-process.is c.processes-processes.ensures in
    if_done _ _ c.push_faults.result
    (λ pushed. rule_done net c.is_elaborated.ensures c.args.process x there at c.args.kinds.now c.requires.kinds c.args.clocks.now c.requires.clocks k.Combinational c.args.rule c.in_ok-nets.nets.items
    c.args.faults.now.items c.push_faults.new.faults.items c.in_ok-nets.ensures.rise
    (λ n. c.in_ok-nets.ensures.are n ∙ ap (λ (ins : List ℕ). breaks ins c.args.clocks.now x (get_or c.args.kinds.now c.args.process k.Combinational) c.args.rule n) c.inputs-inputs.ensures)
    (subst (λ (ns : List ℕ). Pushes c.args.rule c.args.process ns c.args.faults.now.items c.push_faults.new.faults.items) c.deref.ensures.value pushed))
    c.push_faults.ensures
