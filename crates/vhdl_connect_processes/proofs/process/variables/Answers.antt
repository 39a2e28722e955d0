use Rattle.std.proofs.Common.{map, ap, sym, ◌∙◌, arith}
use Rattle.vhdl_expand_tree.specs.Views.{variable_view}
use Rattle.vhdl_connect_processes.specs.Located.{net_variable, of_variable}
use Rattle.vhdl_connect_processes.proofs.Lists.{take_whole}
use Rattle.vhdl_connect_processes.proofs.Taking.{untouched_next, taken_next, map-twice}
use Rattle.vhdl_connect_processes.proofs.process.variables.Goals as goal

pub loop-i-preserved : goal.loop-i-preserved
loop-i-preserved c = (
  untouched_next net_variable (λ v. of_variable (variable_view v)) c.args.from.now c.loop-i.from c.loop-i.i c.variable.new.from c.loop-i.invariant.0,
  ap (map net_variable) c.in_ok-push.ensures.items
      ∙ taken_next net_variable (λ v. of_variable (variable_view v)) c.args.from.now c.loop-i.from c.loop-i.i c.index-from-i.result c.loop-i.taken.items c.in_ok-next.next
      (omega arith) c.index-from-i.is c.loop-i.invariant.0
      (c.in_ok-next.ensures ∙ ap (λ v. of_variable (variable_view v)) (sym c.index-from-i.is)) c.loop-i.invariant.1,
)

pub returns : goal.returns
returns c =
    c.loop-i.invariant.1 ∙ ap (map (λ v. of_variable (variable_view v))) (take_whole c.args.from.now c.loop-i.i (omega arith))
    ∙ map-twice of_variable variable_view c.args.from.now
