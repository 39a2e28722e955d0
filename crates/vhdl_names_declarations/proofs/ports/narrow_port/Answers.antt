use Rattle.std.proofs.Common.{Some, sym, ap, ◌∙◌}
use Rattle.vhdl_tree.specs.View.{port_view}
use Rattle.vhdl_names_rules.specs.Declarations.{unfinished}
use Rattle.vhdl_names_rules.specs.Visibility.{Sight}
use Rattle.vhdl_names_rules.specs.problems.Broken.{◌▸◌}
use Rattle.vhdl_names_rules.specs.problems.Declarations as broken
use Rattle.vhdl_names_rules.proofs.Passing.{passed_on, told_by}
use Rattle.vhdl_names_rules.proofs.Telling.{told_same}
use Rattle.vhdl_names_sight.specs.Views.{region_view}
use Rattle.vhdl_names_units.specs.views.Declarations.{ports_view}
use Rattle.vhdl_names_declarations.specs.Entered.{more}
use Rattle.vhdl_names_declarations.specs.Porting.{settled_view}
use Rattle.vhdl_names_declarations.specs.Settled.{settled_from}
use Rattle.vhdl_names_declarations.proofs.Listed.{region_size}
use Rattle.vhdl_names_declarations.proofs.Numbering.{small_in_region}
use Rattle.vhdl_names_declarations.proofs.Portings.{narrow_failed, narrow_settled, as_it_is, hides}
use Rattle.vhdl_names_declarations.proofs.Turns.{first_within}
use Rattle.vhdl_names_declarations.proofs.ports.narrow_port.Goals as goal

pub returns-in_err-settled-clause-given : goal.returns-in_err-settled-clause-given
returns-in_err-settled-clause-given c =
    passed_on _ _ _ _ c.from_residual.result c.from_residual.ensures.1 (λ e p. p)
    (λ n. narrow_failed c.args.sight.now (port_view c.args.port.now) c.args.counts c.requires.narrow c.requires.counts (c.in_err-settled.ensures.given n))

pub returns-in_err-settled-clause-told : goal.returns-in_err-settled-clause-told
returns-in_err-settled-clause-told c =
    let s = c.args.sight.now in
    let p = port_view c.args.port.now in
    told_by _ c.in_err-settled.field-0.0 _ c.from_residual.result c.from_residual.ensures.1 (λ e p. p)
    (told_same _ _ c.in_err-settled.field-0.0 (ap (λ o. broken.standing_twice s.region p.names ▸ broken.typed_port o p) (sym (as_it_is s c.requires.narrow))) c.in_err-settled.ensures.told)

pub settle-requires-clause-place : goal.settle-requires-clause-place
settle-requires-clause-place c =
    let p = port_view c.args.port.now in
    let k = hides c.args.sight.now c.hidden_port.new.sight p (settled_view c.in_ok-settled.settled) (ports_view c.in_ok-settled.ports) c.in_ok-settled.ensures.given in
    first_within c.sight.inside.region.entries c.sight-2.inside.region.entries (unfinished p.names) c.len-first.result
    (ap (λ (x : Sight). more x.region (unfinished p.names)) c.sight.view_is ∙ k.hidden ∙ ap (λ (x : Sight). Some x.region) (sym c.sight-2.view_is)) c.len-first.ensures.len

pub settle-requires-clause-counts : goal.settle-requires-clause-counts
settle-requires-clause-counts c = small_in_region c.args.counts c.sight.inside.region.entries c.len-first.result c.len-first.ensures.len (rw (← c.sight.view_is) at c.requires.counts)

pub returns-clause-given : goal.returns-clause-given
returns-clause-given c =
    let s = c.args.sight.now in
    let new = region_view c.settle.new.region in
    let ps = ports_view c.in_ok-settled.ports in
    narrow_settled s c.hidden_port.new.sight (port_view c.args.port.now) c.args.counts c.in_ok-settled.settled ps c.len-first.result new c.requires.narrow c.requires.counts c.in_ok-settled.ensures.given
    (c.len-first.ensures.len ∙ sym (region_size c.sight.inside s c.sight.view_is))
    (c.in_ok-settle.ensures ∙ ap (λ (x : Sight). settled_from c.in_ok-settled.settled c.args.counts c.len-first.result x.region) c.sight-2.view_is)
    ∙ ap (λ (x : Sight). Some (x, ps)) (sym (ap (λ (x : Sight). record x { region = new }) c.sight-2.view_is ∙ ap (λ (x : Sight). record x { region = new }) c.in_ok-settled.ensures.kept))

pub returns-clause-kept : goal.returns-clause-kept
returns-clause-kept c =
    let new = region_view c.settle.new.region in
    ap (λ (x : Sight). record x { region = new }) c.sight-2.view_is ∙ ap (λ (x : Sight). record x { region = new }) c.in_ok-settled.ensures.kept
