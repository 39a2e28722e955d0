-- How a netlist is kept, and what holds of its tables.
use Rattle.std.specs.Prelude.{◌≡◌, ℕ, List, [], ◌∷◌, length, map, Some}
use Rattle.std.specs.List.{range_with_len}
use Rattle.rtl_model.specs.nets.FlatNetlist.{flat_sources}
use Rattle.rtl_net.specs.declared.net.Source.{Source}
use Rattle.rtl_net.specs.declared.net.Source.TheVariants as s
use Rattle.rtl_net.specs.declared.net.Owner.{Owner}
use Rattle.rtl_net.specs.declared.net.Net.TheInside.{Inside}
use Rattle.rtl_net.specs.Nets.{NetlistView, flat, type_of, source_view, scope_view, signal_view}
use Rattle.rtl_net.specs.Names.{Element, element_of}
use Rattle.rtl_net.specs.Elaborated.{IsNet}

-- the values of the idle ports among these sources
abbrev pub idle_values : List Source → List ℕ
idle_values [] = []
idle_values (s.Driven process place ∷ rest) = idle_values rest
idle_values (s.Idle start ∷ rest) = start ∷ idle_values rest

abbrev pub owner_view : Owner → Element
owner_view o = record { signal = o.signal; place = o.place }

abbrev pub net_of : Inside → NetlistView
net_of n = record {
  types = map type_of n.kinds.items;
  starts = n.starts.items;
  idle = map (λ listed. idle_values listed.items) n.sources.items;
  inputs = n.inputs.items;
  processes = n.processes.items;
  scopes = map scope_view n.scopes.items;
  signals = map signal_view n.signals.items;
  wide = n.wide;
}

-- n things, the k-th of them f k
abbrev pub tabled : {X : Type 0} → ℕ → (ℕ → X) → List X
tabled n f = map f (range_with_len 0 n)

pub record IsKept (n : Inside) : Type 0 where
  pub net : IsNet (net_of n)
  -- the sources of each net, and the element that it was declared as
  pub sources : map (λ listed. map source_view listed.items) n.sources.items
      ≡ tabled (length n.kinds.items) (flat_sources (flat (net_of n)))
  pub owners : map (λ o. Some (owner_view o)) n.owners.items ≡ tabled (length n.kinds.items) (element_of (net_of n))
