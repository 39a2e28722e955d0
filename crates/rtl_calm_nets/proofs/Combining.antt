-- What the drivers of a combinational process give.
use Rattle.std.proofs.Common.{◌≡◌, ◌↔◌, ℕ, ◌<◌, Bool, true, List, [], length, get_or, map, Option, sym, ap, subst, ◌∙◌, Contains}
use Rattle.std.specs.Prelude.{option_map}
use Rattle.rtl_model.specs.bodies.Copies.{copying}
use Rattle.rtl_model.specs.bodies.Looks.{looked_nets}
use Rattle.rtl_model.specs.nets.CoreNetlist.{copied_at}
use Rattle.rtl_model.specs.simulation.Netlist as m
use Rattle.rtl_model.specs.simulation.Netlist.{IsCombinational, process}
use Rattle.rtl_model.specs.simulation.Calm.{IsFromOutside}
use Rattle.rtl_model.proofs.nets.Connected.{connected_is_elaborated}
use Rattle.rtl_body_facts.specs.Reading.{is_in}
use Rattle.rtl_net.specs.declared.process.Process.{Process}
use Rattle.rtl_net.specs.Nets.{NetlistView, flat, body_of}
use Rattle.rtl_net.specs.Elaborated.{IsNet}
use Rattle.rtl_net.specs.Core.{core}
use Rattle.rtl_looks.specs.declared.hubs.Look.{Look}
use Rattle.rtl_looks.specs.declared.hubs.Hub.{Hub}
use Rattle.rtl_looks.specs.Denoting.{nets_behind, nets_of, look_at, DriversLook}
use Rattle.rtl_process_kinds.specs.declared.copies.BodyCopy.{BodyCopy}
use Rattle.rtl_calm_nets.specs.declared.origins.Origin.{Origin}
use Rattle.rtl_process_kinds.specs.BodyViews.{copy_view}
use Rattle.rtl_calm_nets.specs.NetOrigins.{AreOutside, AreGiven, Gives, given_at, combinational_origin}
use Rattle.rtl_calm_nets.specs.OutsideLooks.{are_outside, place_outside}
use Rattle.rtl_calm_nets.proofs.Giving.{combinational_gives}
use Rattle.rtl_calm_nets.proofs.Hubs.{place_is, all_outside}
use Rattle.rtl_calm_nets.proofs.Ranges.{core_is, many_drivers, start_read}

module _ (net : NetlistView) (E : IsNet net) (p : ℕ) (l : p < length net.processes) (x : Process) (at : x ≡ get_or net.processes p x) (comb : IsCombinational (core net) p) (outside : List Bool) (O : AreOutside (core net) outside) where
  looks_there : (place k : ℕ) → Contains ((process (core net) p).looks place) k → k < length (core net).start
  looks_there place k c = start_read net E p k l ((connected_is_elaborated (flat net) E.in_range E.connected).bodies.looks_are_read p place k c)

  looks_are : (place : ℕ) → (process (core net) p).looks place ≡ looked_nets (body_of x) place
  looks_are place = ap (λ (q : m.Process). q.looks place) (core_is net E p l x at)

  copies_are : (copy : Option BodyCopy) → option_map copy_view copy ≡ copying (body_of x) → (place : ℕ) → (process (core net) p).copies place ≡ copied_at (option_map copy_view copy) place
  copies_are copy e place = ap (λ (q : m.Process). q.copies place) (core_is net E p l x at) ∙ ap (λ c. copied_at c place) (sym e)

  follows_is : (old hubs : List Hub) (looks : List (Option Look)) → DriversLook (body_of x) old hubs looks → (place : ℕ)
      → (place_outside outside (map (are_outside outside) (nets_behind [] hubs)) (look_at looks place) ≡ true) ↔ ((m : ℕ) → Contains ((process (core net) p).looks place) m → IsFromOutside (core net) m)
  follows_is old hubs looks D place =
      subst (λ (b : Bool). (b ≡ true) ↔ ((m : ℕ) → Contains ((process (core net) p).looks place) m → IsFromOutside (core net) m)) (sym (place_is outside hubs (look_at looks place)))
      (all_outside (core net) outside O (nets_of hubs (look_at looks place)) ((process (core net) p).looks place)
      (λ n. (D.denotes place).nets n ∙ ap (λ (ns : List ℕ). is_in n ns) (sym (looks_are place))) (looks_there place))

  pub combinational_given : (old hubs : List Hub) (looks : List (Option Look)) (copy : Option BodyCopy) (marks : List Bool) → DriversLook (body_of x) old hubs looks
      → marks ≡ map (are_outside outside) (nets_behind [] hubs) → option_map copy_view copy ≡ copying (body_of x) → (origins : List Origin) → length origins ≡ length x.drives.items
      → ((k : ℕ) → k < length origins → given_at origins k ≡ combinational_origin (place_outside outside marks (look_at looks k)) copy k) → AreGiven (core net) p origins
  combinational_given old hubs looks copy marks D e c origins many each = record {
    each_driver = many ∙ sym (many_drivers net E p l x at);
    each = λ place h.
        let follows = place_outside outside (map (are_outside outside) (nets_behind [] hubs)) (look_at looks place) in
        subst (Gives (core net) p place) (sym (each place h ∙ ap (λ (ms : List Bool). combinational_origin (place_outside outside ms (look_at looks place)) copy place) e))
        (combinational_gives (core net) p comb copy (copies_are copy c) place follows (follows_is old hubs looks D place));
  }
