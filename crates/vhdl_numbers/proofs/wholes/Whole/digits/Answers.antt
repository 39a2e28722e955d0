use Rattle.std.proofs.Common.{◌<◌, ◌^◌, rules, ◌∙◌}
use Rattle.vhdl_numbers.proofs.Complement.{digits-negative}
use Rattle.vhdl_numbers.proofs.wholes.Whole.digits.Goals as goal

pub returns-then-self-clause-list : goal.returns-then-self-clause-list
returns-then-self-clause-list c =
    let fits : c.args.self.size < 2 ^ 64 = search rules in
    rw c.if-self.true (c.of_nat.ensures.list ∙ digits-negative c.args.len c.args.self.size c.requires.room fits)
