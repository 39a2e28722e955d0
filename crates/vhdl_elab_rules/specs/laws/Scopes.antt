-- Instances stand in order of the text, as a netlist's scopes do: the top first, and each other one in the one before
-- it or in one round that (IEEE 1076-2008, 14.2).
use Rattle.std.specs.Prelude.{◌≡◌, ℕ, suc, ◌<◌, List, length, map, None, Ok}
use Rattle.rtl_net.specs.Nets.{ScopeView, parent_of}
use Rattle.rtl_net.specs.Elaborated.{FollowsInText}
use Rattle.vhdl_names_rules.specs.units.Units.{Units}
use Rattle.vhdl_elab_rules.specs.Names.{Scope}
use Rattle.vhdl_elab_rules.specs.Elaboration.{Elaborated, elaborated_net}
use Rattle.vhdl_expand_rules.specs.Tops.{Top}

-- what contracts see of a scope in a netlist
abbrev pub scope_views : List Scope → List ScopeView
scope_views scopes = map (λ (s : Scope). record { label = s.label; parent = s.parent }) scopes

pub record StandInText (scopes : List ScopeView) : Type 0 where
  pub some : 0 < length scopes
  pub top : parent_of scopes 0 ≡ None
  pub others : (k : ℕ) → suc k < length scopes → FollowsInText scopes k

abbrev pub EachScopeFollows : Type 0
EachScopeFollows =
    (units : Units) (top : Top) (x : Elaborated)
    → elaborated_net units top ≡ Ok x → StandInText (scope_views x.scopes)
