-- What an instance adds to the tables, without what stands in it (IEEE 1076-2008, 14.3).
use Rattle.std.specs.Prelude.{◌≡◌, List, [], ◌∷◌, ◌++◌, map, flat_map}
use Rattle.std.specs.List.{range_with_len}
use Rattle.rtl_net.specs.declared.signal.Scope.{Scope}
use Rattle.rtl_net.specs.Nets.{signal_view, type_of}
use Rattle.vhdl_expand_rules.specs.Tree.{Instance, instance, objects_of, Parts}
use Rattle.vhdl_elab_rules.specs.Names.{signals_from}
use Rattle.vhdl_elab_rules.specs.Numbering.{driven_in, read_in}
use Rattle.vhdl_elab_rules.specs.Shown.{signal_shown}
use Rattle.vhdl_connect.specs.declared.uses.Use.{Use}
use Rattle.vhdl_connect.specs.Uses as uses
use Rattle.vhdl_elab.specs.declared.made.Made.{Made}
use Rattle.vhdl_elab.specs.declared.place.InstancePlace.{InstancePlace}
use Rattle.vhdl_elab.specs.Made.{element_view}
use Rattle.vhdl_elab.specs.Adding.{elements_count, statics_from, own_types, own_starts}

abbrev pub parts_in : Instance → Parts
parts_in (instance objects turns parts) = parts

-- what stands in an instance does this with the elements of its objects, in order
abbrev pub uses_within : Instance → List Use
uses_within i =
    map (uses.use_of (driven_in (parts_in i)) (read_in (parts_in i))) (range_with_len 0 (elements_count (objects_of i)))

-- new is old with an instance in this place, without what stands in it
pub record AddsPlaced (place : InstancePlace) (scope : Scope) (i : Instance) (old new : Made) : Type 0 where
  pub scopes : new.scopes.items ≡ old.scopes.items ++ scope ∷ []
  pub signals : map signal_view new.signals.items ≡ map signal_view old.signals.items
      ++ map signal_shown (signals_from place.scope place.nets.now 0 (objects_of i))
  pub processes : new.processes ≡ old.processes
  pub kinds : map type_of new.kinds.items ≡ map type_of old.kinds.items ++ flat_map own_types (objects_of i)
  pub defaults : new.defaults.items ≡ old.defaults.items ++ flat_map own_starts (objects_of i)
  pub elements : map element_view new.elements.items
      ≡ map element_view old.elements.items ++ statics_from place.is_top place.nets.now 0 (objects_of i)
  pub uses : new.uses.items ≡ old.uses.items ++ uses_within i
