-- What the objects of an instance add to the tables (IEEE 1076-2008, 6.4.2.3).
use Rattle.std.specs.Prelude.{◌≡◌, ℕ, ◌+◌, Bool, List, [], ◌∷◌, ◌++◌, map, replicate, flat_map, slice_index, Option, Some, None, is_none}
use Rattle.std.specs.List.{range_with_len}
use Rattle.rtl_model.specs.bodies.Types.{ElementType}
use Rattle.rtl_net.specs.Nets.{signal_view, type_of}
use Rattle.vhdl_expand_rules.specs.Kinds.{size, element_type}
use Rattle.vhdl_expand_rules.specs.Tree.{Object}
use Rattle.vhdl_elab_rules.specs.Names.{signals_from}
use Rattle.vhdl_elab_rules.specs.Shown.{signal_shown}
use Rattle.vhdl_elab.specs.declared.made.Made.{Made}
use Rattle.vhdl_elab.specs.declared.place.InstancePlace.{InstancePlace}
use Rattle.vhdl_elab.specs.Made.{Static, element_view}

-- how many elements objects have
abbrev pub elements_count : List Object → ℕ
elements_count [] = 0
elements_count (o ∷ os) = size o.kind + elements_count os

-- ---- elements

-- an object's element at place k, where its first element has this number
abbrev pub static_at : (top : Bool) (nets : List ℕ) → Object → (first k : ℕ) → Static
static_at top nets o first k = record {
  at = o.at;
  role = o.role;
  is_resolved = o.is_resolved;
  start = slice_index o.starts k;
  net = slice_index nets (first + k);
  is_own = is_none o.actual;
  is_top = top;
}

abbrev pub object_statics : (top : Bool) (nets : List ℕ) (first : ℕ) → Object → List Static
object_statics top nets first o = map (static_at top nets o first) (range_with_len 0 (size o.kind))

abbrev pub statics_from : (top : Bool) (nets : List ℕ) (first : ℕ) → List Object → List Static
statics_from top nets first [] = []
statics_from top nets first (o ∷ os) = object_statics top nets first o ++ statics_from top nets (first + size o.kind) os

-- ---- nets of their own

-- these, where an object has no actual
abbrev pub if_own : {X : Type 0} → Object → List X → List X
if_own {X} o xs = by o.actual
  where
    by : Option (List ℕ) → List X
    by None = xs
    by (Some actual) = []

abbrev pub own_types : Object → List ElementType
own_types o = if_own o (replicate (size o.kind) (element_type o.kind))

abbrev pub own_starts : Object → List ℕ
own_starts o = if_own o (map (slice_index o.starts) (range_with_len 0 (size o.kind)))

-- ---- all

-- new is old with what these objects add, which stand in this place, the first element of them having this number
pub record Declares (place : InstancePlace) (first : ℕ) (os : List Object) (old new : Made) : Type 0 where
  pub scopes : new.scopes ≡ old.scopes
  pub signals : map signal_view new.signals.items
      ≡ map signal_view old.signals.items ++ map signal_shown (signals_from place.scope place.nets.now first os)
  pub processes : new.processes ≡ old.processes
  pub kinds : map type_of new.kinds.items ≡ map type_of old.kinds.items ++ flat_map own_types os
  pub defaults : new.defaults.items ≡ old.defaults.items ++ flat_map own_starts os
  pub elements : map element_view new.elements.items
      ≡ map element_view old.elements.items ++ statics_from place.is_top place.nets.now first os
  pub uses : new.uses ≡ old.uses
