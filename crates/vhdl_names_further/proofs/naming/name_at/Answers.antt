use Rattle.vhdl_names_further.proofs.Walks.{around_within, second_within}
use Rattle.vhdl_names_further.proofs.naming.name_at.Goals as goal

pub name_of-requires : goal.name_of-requires
name_of-requires c =
    second_within _ _ c.around.result.now c.in-len2-up.len_at_least (rw c.around.ensures (around_within _ _ c.args.tokens.now c.requires))
