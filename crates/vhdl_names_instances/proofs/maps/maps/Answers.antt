use Rattle.std.proofs.Common.{map, ap}
use Rattle.std.specs.Prelude.{filter_map}
use Rattle.vhdl_tree.specs.View as tree
use Rattle.vhdl_names_rules.specs.Instances.{generic_formal, port_formal}
use Rattle.vhdl_names_rules.specs.Rules.{all_of}
use Rattle.vhdl_names_rules.specs.problems.Instances as broken
use Rattle.vhdl_names_rules.proofs.Telling.{told_on}
use Rattle.vhdl_names_rules.proofs.Passing.{told_by}
use Rattle.vhdl_names_instances.specs.Table.{Seen, seen_view}
use Rattle.vhdl_names_instances.proofs.Told.{ok_on}
use Rattle.vhdl_names_instances.proofs.Mapping.{generic_map_told, port_map_told, maps_given}
use Rattle.vhdl_names_instances.proofs.maps.maps.Goals as goal

pub returns-in_err-generic_map-clause-told : goal.returns-in_err-generic_map-clause-told
returns-in_err-generic_map-clause-told c = λ e h.
    let s = c.args.sight.now in
    let i = tree.instance_view c.args.instance.now in
    told_by (broken.maps s e i) c.in_err-generic_map.field-0.0 _ c.from_residual.result c.from_residual.ensures.1 (λ e p. p)
    (generic_map_told s e i c.in_err-generic_map.field-0.0 (map tree.association_view c.listed.result.now) c.listed.ensures
    (c.in_err-generic_map.ensures.told (filter_map generic_formal e.interface.declared) (ap (λ (s : Seen). s.generics) h) (ap (λ (s : Seen). s.generic_kinds) h)))

pub returns-clause-told : goal.returns-clause-told
returns-clause-told c = λ e h.
    let s = c.args.sight.now in
    let i = tree.instance_view c.args.instance.now in
    let bs = map tree.association_view c.listed-2.result.now in
    let fs = filter_map port_formal e.interface.declared in
    told_on (broken.port_map s fs bs) (broken.maps s e i) c.port_map.result
    (λ f w. port_map_told s e i f (map tree.association_view c.listed.result.now) c.listed.ensures
    (c.in_ok-generic_map.ensures.kept (filter_map generic_formal e.interface.declared) (ap (λ (s : Seen). s.generics) h) (ap (λ (s : Seen). s.generic_kinds) h)) bs c.listed-2.ensures w)
    (c.port_map.ensures.told fs (ap (λ (s : Seen). s.ports) h) (ap (λ (s : Seen). s.port_types) h))

pub returns-clause-given : goal.returns-clause-given
returns-clause-given c = λ e h label unit.
    let s = c.args.sight.now in
    let i = tree.instance_view c.args.instance.now in
    let as' = map tree.association_view c.listed.result.now in
    let bs = map tree.association_view c.listed-2.result.now in
    let fs = filter_map port_formal e.interface.declared in
    ok_on c.port_map.result (c.port_map.ensures.given fs (ap (λ (s : Seen). s.ports) h) (ap (λ (s : Seen). s.port_types) h))
    (maps_given s e (seen_view c.args.formals.now) h label unit as' bs (all_of i.generics) (all_of i.ports) c.listed.ensures c.listed-2.ensures
    (c.in_ok-generic_map.ensures.given (filter_map generic_formal e.interface.declared) (ap (λ (s : Seen). s.generics) h) (ap (λ (s : Seen). s.generic_kinds) h)))
