use Rattle.std.proofs.Common.{◌≡◌, List, map, sym, ap, subst, arith}
use Rattle.vhdl_expand_rules.specs.Site.{elements_count}
use Rattle.vhdl_expand_bodies.specs.declared.site.Placed.{Placed}
use Rattle.vhdl_expand_bodies.specs.Sites.{ArePlaced, placed_kind}
use Rattle.vhdl_expand_bodies.proofs.Placing.{nothing_placed}
use Rattle.vhdl_expand_declarations.proofs.declared.InstanceObjects.site.Goals as goal

pub returns-clause-placed : goal.returns-clause-placed
returns-clause-placed c =
    let s = c.args.self.now in
    record {
      ports = subst (λ (ps : List Placed). ArePlaced ps) (sym c.deref-5.ensures.value) s.ports.are_placed;
      port_elements = subst (λ (ps : List Placed). s.ports.elements ≡ elements_count (map placed_kind ps)) (sym c.deref-5.ensures.value) s.ports.all_counted;
      signals = subst (λ (ps : List Placed). ArePlaced ps) (sym c.deref-6.ensures.value) s.signals.are_placed;
      variables = nothing_placed;
      few_elements = omega (arith, s.few_elements, s.signals.all_counted, ap (λ (ps : List Placed). elements_count (map placed_kind ps)) c.deref-6.ensures.value);
      few_variables = omega arith;
    }
