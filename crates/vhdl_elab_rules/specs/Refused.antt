-- With which problem, and at which byte, units may be refused that have no design with this top.
use Rattle.std.specs.Prelude.{◌≡◌, ◌≢◌, ◌⊎◌, ℕ, Err, IsOk, IsErr, Contains}
use Rattle.vhdl_names_rules.specs.units.Units.{Units}
use Rattle.vhdl_names_rules.specs.units.Bytes.{units_bytes}
use Rattle.vhdl_expand_rules.specs.declared.fault.ElabProblem.TheVariants.{NoTop, TooMany}
use Rattle.vhdl_expand_rules.specs.Elab.{Told, ◌>>=◌, item_or, unless}
use Rattle.vhdl_expand_rules.specs.Expansion.{entity_named, expanded_design}
use Rattle.vhdl_expand_rules.specs.Tops.{Top, top_interface}
use Rattle.vhdl_elab_rules.specs.Numbering.{numbered_design}
use Rattle.vhdl_elab_rules.specs.Limits.{counts, is_within_limits}
use Rattle.vhdl_elab_rules.specs.Elaboration.{elaborated_net}

-- the top is there, and its generics and ports are elaborated
abbrev pub HasInterface : Units → Top → Type 0
HasInterface units top = IsOk (item_or NoTop 0 (entity_named units top.name) >>= λ unit. top_interface top unit)

-- a rule is broken before the instances are connected, that of the limits among them
abbrev pub IsNotExpanded : Units → Top → Type 0
IsNotExpanded units top =
    IsErr
    (expanded_design units top >>= λ design. unless TooMany 0 (is_within_limits (counts (numbered_design design))))

-- Budgets are charged while a design grows, so that its growth may be cut off before the first broken rule is come to:
-- behind the interface of the top, before the instances are connected, and at a byte of the units.
pub record IsCutOff (units : Units) (top : Top) (at : ℕ) : Type 0 where
  pub begun : HasInterface units top
  pub refused : IsNotExpanded units top
  pub placed : Contains (units_bytes units) at

-- TooMany of a design that is cut off, else the problem of the first broken rule at its byte
abbrev pub MayRefuse : Units → Top → Told → Type 0
MayRefuse units top told =
    ((told.0 ≢ TooMany) × (elaborated_net units top ≡ Err told)) ⊎ ((told.0 ≡ TooMany) × IsCutOff units top told.1)
