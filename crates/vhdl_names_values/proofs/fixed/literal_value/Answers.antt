use Rattle.vhdl_names_values.proofs.Valued.{no_kind}
use Rattle.vhdl_names_values.proofs.fixed.literal_value.Goals as goal

pub returns-in_default-clause-told : goal.returns-in_default-clause-told
returns-in_default-clause-told c = c.no_literal.ensures c.args.object_type (no_kind c.args.object_type c.in_default.not-Elements)
