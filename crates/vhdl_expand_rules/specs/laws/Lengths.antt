-- What holds of every expanded tree: each object starts with as many values as it has elements, and an associated port
-- is as long as its actual.
use Rattle.std.specs.Prelude.{◌≡◌, ℕ, All, List, length, Some, Ok}
use Rattle.vhdl_names_rules.specs.units.Units.{Units}
use Rattle.vhdl_expand_rules.specs.Kinds.{size}
use Rattle.vhdl_expand_rules.specs.Tree.{Object, Instance, Parts, EachInstance, EachInner}
use Rattle.vhdl_expand_rules.specs.Expansion.{Design, expanded_design}
use Rattle.vhdl_expand_rules.specs.Tops.{Top}

pub record ObjectFits (o : Object) : Type 0 where
  pub starts : length o.starts ≡ size o.kind
  pub actual : (es : List ℕ) → o.actual ≡ Some es → length es ≡ size o.kind

abbrev pub InstanceFits : Instance → Type 0
InstanceFits i = EachInstance (All ObjectFits) i

abbrev pub PartsFit : Parts → Type 0
PartsFit ps = EachInner (All ObjectFits) ps

abbrev pub EachDesignFits : Type 0
EachDesignFits =
    (units : Units) (top : Top) (design : Design) → expanded_design units top ≡ Ok design → InstanceFits design.top
