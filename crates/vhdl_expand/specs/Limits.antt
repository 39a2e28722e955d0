-- A design that keeps the limits of elaboration.
use Rattle.std.specs.Prelude.{Ok}
use Rattle.vhdl_expand_rules.specs.declared.fault.ElabProblem.TheVariants.{TooMany}
use Rattle.vhdl_expand_rules.specs.Elab.{Elab, ◌>>=◌, ◌>>◌, unless}
use Rattle.vhdl_expand_rules.specs.Expansion.{Design}
use Rattle.vhdl_elab_rules.specs.Limits.{is_within, limits}
use Rattle.vhdl_expand_tree.specs.Costs.{instance_costs}

-- what is given, where its costs are within the limits; no one says where they end
abbrev pub within_limits : Elab Design → Elab Design
within_limits given = do
  d ← given
  unless TooMany 0 (is_within (instance_costs d.top) limits)
  Ok d
