use Rattle.std.proofs.Common.{◌++◌, [], length, ap, sym, ◌∙◌, subst}
use Rattle.std.specs.Vec.{with_items}
use Rattle.std.proofs.lemmas.List.{with_items_is}
use Rattle.vhdl_connect.specs.Held.{Holds, processes_hold, idle_hold}
use Rattle.vhdl_connect.proofs.sources.held.Goals as goal

pub returns : goal.returns
returns c =
    let ps = c.args.processes.now in
    let first = with_items_is c.in_ok-table.table c.add_processes.new.table (c.add_processes.auto.table ∙ c.deref_mut.ensures.len) in
    let second = with_items_is (with_items c.in_ok-table.table c.add_processes.new.table) c.add_idle.new.table (c.add_idle.auto.table ∙ c.deref_mut-2.ensures.len) in
    record {
      length =
          ap length second ∙ c.add_idle.auto.table ∙ ap length c.deref_mut-2.ensures.value ∙ ap length first ∙ c.add_processes.auto.table ∙ ap length c.deref_mut.ensures.value
          ∙ c.in_ok-table.ensures.length;
      each =
          subst (Holds (λ n. processes_hold ps n ++ idle_hold c.args.idle.now n)) (sym second)
          (c.in_ok-add_idle.ensures (λ n. processes_hold ps n)
          (subst (Holds (λ n. processes_hold ps n)) (sym (c.deref_mut-2.ensures.value ∙ first))
          (c.in_ok-add_processes.ensures (λ n. []) (subst (Holds (λ n. [])) (sym c.deref_mut.ensures.value) c.in_ok-table.ensures.none))));
    }
