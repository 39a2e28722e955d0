use Rattle.std.proofs.Common.{◌≡◌, ℕ, ◌+◌, ◌<◌, ◌≤◌, ◌^◌, ◌++◌, ◌∷◌, [], List, length, get_or, take, Some, refl, sym, ap, subst, ◌∙◌, arith}
use Rattle.std.proofs.lemmas.List.{take_more}
use Rattle.rtl_looks.specs.declared.hubs.Hub.{Hub}
use Rattle.rtl_looks.specs.declared.hubs.Look.TheVariants as l
use Rattle.rtl_check_nets.specs.declared.table.NetTable.{NetTable}
use Rattle.rtl_check_nets.specs.Building.{AddsHubs, rows_at}
use Rattle.rtl_check_nets.proofs.Built.{hub_more, hub_below, few_rows}
use Rattle.rtl_check_nets.proofs.table.NetTable.add_hubs.Goals as goal

abbrev none_hub : Hub
none_hub = record { left = l.Net 0; right = l.Net 0 }

pub push_row-requires : goal.push_row-requires
push_row-requires c =
    let i = c.loop-hub.hub-index in
    few_rows c.args.nets i _ (hub_below c.args.hubs.now c.requires.order i none_hub c.loop-hub-test.true).0 (let h = c.loop-hub-test.true in let f = c.requires.few in omega arith) (let h = c.loop-hub-test.true in let f = c.requires.few in omega arith)

pub push_row-requires-in-loop-hub : goal.push_row-requires-in-loop-hub
push_row-requires-in-loop-hub c =
    let i = c.loop-hub.hub-index in
    few_rows c.args.nets i _ (hub_below c.args.hubs.now c.requires.order i none_hub c.loop-hub-test.true).1 (let h = c.loop-hub-test.true in let f = c.requires.few in omega arith) (let h = c.loop-hub-test.true in let f = c.requires.few in omega arith)

pub loop-hub-preserved : goal.loop-hub-preserved
loop-hub-preserved c =
    let hubs = c.args.hubs.now in
    let i = c.loop-hub.hub-index in
    let hub : Hub = get_or hubs i none_hub in
    let new : NetTable = record { rows = c.push.new.self; counts = c.loop-hub.self.counts } in
    let items = c.in_ok-push_row-2.ensures ∙ ap (λ (xs : List ℕ). xs ++ rows_at c.args.nets hub.right) (c.in_ok-push_row.ensures ∙ ap (λ (xs : List ℕ). xs ++ rows_at c.args.nets hub.left) c.new-row.ensures.items) in
    subst (λ (hs : List Hub). AddsHubs c.args.nets hs c.args.self.now new) (sym (take_more hubs i none_hub c.loop-hub-test.true))
    (hub_more c.args.nets (take i hubs) hub c.push_row-in-loop-hub.new.row c.args.self.now c.loop-hub.self new c.loop-hub.invariant items c.in_ok-push.ensures.items refl)
