use Rattle.std.proofs.Common.{ap, ◌∙◌, ◌++◌, ◌∷◌, []}
use Rattle.vhdl_connect.proofs.Holding.{value_there, value_behind, shown_there}
use Rattle.vhdl_connect.proofs.sources.add_value.Goals as goal

pub returns-then-net-table : goal.returns-then-net-table
returns-then-net-table c = λ f h. value_behind f c.args.table.now c.args.net c.args.value c.if-net-table.true h

pub returns : goal.returns
returns c = λ f h.
    value_there f c.args.table.now c.args.net c.args.value c.push.new.self c.if-net-table.false
    (c.in_ok-push.ensures.ok ∙ ap (λ vs. vs ++ c.args.value ∷ []) (shown_there c.args.table.now c.args.net c.index-table-net.result c.if-net-table.false)) h
