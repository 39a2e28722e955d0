use Rattle.std.proofs.Common.{◌≡◌, drop}
use Rattle.vhdl_expand_tree.specs.Costs.{spent}
use Rattle.vhdl_expand_tree.specs.Views.{budget_view}
use Rattle.vhdl_expand.proofs.OwnNets.{own}
use Rattle.vhdl_expand.proofs.nets.charge_own_nets.Given as goal

-- what is taken so far, and the nets of the objects that are left
abbrev pub invariant-loop-object : goal.invariant-loop-object
invariant-loop-object l = spent 0 (budget_view l.fn.budget) (own l.objects) ≡ spent 0 (budget_view l.budget) (own (drop l.object-index l.objects))
