use Rattle.std.proofs.Common.{sym}
use Rattle.std.specs.Prelude.{option_map}
use Rattle.vhdl_names_sight.specs.Views.{region_view}
use Rattle.vhdl_names_rules.proofs.Along.{gives_along}
use Rattle.vhdl_names_declarations.proofs.Regions.{names_apart}
use Rattle.vhdl_names_instances.specs.Table.{seen_view}
use Rattle.vhdl_names.proofs.Seeing.{all_seen}
use Rattle.vhdl_names.proofs.tables.seen_of.Goals as goal

pub returns : goal.returns
returns c =
    let e = c.args.entity.now in
    gives_along seen_view _ _ _
    (sym (all_seen (option_map (λ i. i.now.text.items) e.architecture) (region_view e.region) (names_apart e.region.entries c.names_are_apart.ensures)))
    c.formals_of.ensures
