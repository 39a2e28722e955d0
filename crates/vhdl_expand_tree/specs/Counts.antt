-- What a design counts as a whole is what its parts cost together: the limits of elaboration are a budget.
use Rattle.std.specs.Prelude.{◌≡◌}
use Rattle.vhdl_expand_rules.specs.Expansion.{Design}
use Rattle.vhdl_elab_rules.specs.Numbering.{numbered_design}
use Rattle.vhdl_elab_rules.specs.Limits.{counts, is_within_limits, is_within, limits}
use Rattle.vhdl_expand_tree.specs.Costs.{instance_costs}

pub record CostsItsParts (design : Design) : Type 0 where
  pub together : counts (numbered_design design) ≡ instance_costs design.top
  pub within : is_within_limits (counts (numbered_design design)) ≡ is_within (instance_costs design.top) limits

abbrev pub EachDesignCostsItsParts : Type 0
EachDesignCostsItsParts = (design : Design) → CostsItsParts design
