use Rattle.vhdl_names_units.proofs.Once.{inserted, refused}
use Rattle.vhdl_names_statements.proofs.choices.add_key.Goals as goal

pub returns-then-branch-clause-given : goal.returns-then-branch-clause-given
returns-then-branch-clause-given c =
    inserted c.args.key c.args.keys.now.keys c.insert.new.self.keys c.in_ok-insert.field-0 c.in_ok-insert.ensures.added c.in_ok-insert.ensures.keys c.if-branch.true

pub returns-else-branch-clause-given : goal.returns-else-branch-clause-given
returns-else-branch-clause-given c = λ n.
    refused c.args.key c.args.keys.now.keys c.in_ok-insert.field-0 c.in_ok-insert.ensures.added c.if-branch.false
