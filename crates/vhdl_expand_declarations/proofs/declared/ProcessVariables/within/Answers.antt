use Rattle.std.proofs.Common.{List, map, sym, ap, subst, arith}
use Rattle.vhdl_expand_rules.specs.Site.{elements_count}
use Rattle.vhdl_expand_bodies.specs.declared.site.Placed.{Placed}
use Rattle.vhdl_expand_bodies.specs.Sites.{ArePlaced, placed_kind}
use Rattle.vhdl_expand_declarations.proofs.declared.ProcessVariables.within.Goals as goal

pub returns-clause-placed : goal.returns-clause-placed
returns-clause-placed c =
    let d = c.args.self.now in
    record {
      ports = c.requires.site.ports;
      port_elements = c.requires.site.port_elements;
      signals = c.requires.site.signals;
      variables = subst (λ (ps : List Placed). ArePlaced ps) (sym c.deref-4.ensures.value) d.layout.are_placed;
      few_elements = c.requires.site.few_elements;
      few_variables = omega (arith, d.few_elements, d.layout.all_counted, ap (λ (ps : List Placed). elements_count (map placed_kind ps)) c.deref-4.ensures.value);
    }
