use Rattle.std.proofs.Common.{◌+◌, ◌*◌}
use Rattle.rtl_eval.proofs.Weights.{weight, links_weight}
use Rattle.vhdl_expand_same.proofs.same.+same.Given as goal

-- where a function calls another on as much, the other comes later
abbrev pub decreases-same_expr : goal.decreases-same_expr
decreases-same_expr l = 3 * (weight l.left.now + weight l.right.now)

abbrev pub decreases-same_chain : goal.decreases-same_chain
decreases-same_chain l = 3 * (weight l.left.now + links_weight l.links.now + (weight l.right.now + links_weight l.others.now)) + 2

abbrev pub decreases-same_first : goal.decreases-same_first
decreases-same_first l = 3 * (weight l.left.now + (weight l.right.now + links_weight l.others.now)) + 1

abbrev pub decreases-same_linked : goal.decreases-same_linked
decreases-same_linked l =
    3 * (weight l.left.now + (links_weight l.links.now + (1 + weight l.link.now.operand)) + (weight l.right.now + links_weight l.others.now)) + 1

abbrev pub decreases-same_inverse : goal.decreases-same_inverse
decreases-same_inverse l = 3 * (weight l.operand.now + weight l.right.now)

abbrev pub decreases-same_filled : goal.decreases-same_filled
decreases-same_filled l = 3 * (weight l.element.now + weight l.right.now)

abbrev pub decreases-same_counted : goal.decreases-same_counted
decreases-same_counted l = 3 * (weight l.operand.now + weight l.right.now)

abbrev pub decreases-same_shifted : goal.decreases-same_shifted
decreases-same_shifted l = 3 * (weight l.count.now + weight l.operand.now + weight l.right.now)

abbrev pub decreases-same_converted : goal.decreases-same_converted
decreases-same_converted l = 3 * (weight l.operand.now + weight l.right.now)

abbrev pub decreases-same_chosen : goal.decreases-same_chosen
decreases-same_chosen l = 3 * (weight l.index.now + weight l.right.now)
