use Rattle.vhdl_expand_operands.proofs.sequence.add.Goals as goal

pub returns : goal.returns
returns g c = rw c.in_ok-next.was c.in_ok-push.ensures.items
