use Rattle.std.proofs.Common.{map, refl, ap, ◌∙◌, sym}
use Rattle.std.proofs.lemmas.List.{length-map}
use Rattle.vhdl_names_rules.specs.Declarations.{for_each}
use Rattle.vhdl_names_rules.specs.Visibility as visibility
use Rattle.vhdl_names_rules.specs.Visibility.{names_of, all_declared, with_declared}
use Rattle.vhdl_tree.specs.View as tree
use Rattle.vhdl_tree.specs.View.{ident_view}
use Rattle.vhdl_names_sight.specs.Seen.{sight_view}
use Rattle.vhdl_names_sight.specs.Views.{region_view, entry_view}
use Rattle.vhdl_names_declarations.specs.Entered.{more}
use Rattle.vhdl_names_declarations.specs.Typed as typed
use Rattle.vhdl_names_declarations.specs.Typed.{Generic, generic_view}
use Rattle.vhdl_names_declarations.proofs.Generality.{generic_is, generic_standing, generics_of}
use Rattle.vhdl_names_declarations.proofs.Numbering.{small_in_region}
use Rattle.vhdl_names_declarations.proofs.Turns.{refused, unknown, hidden, settled_whole, first_within}
use Rattle.vhdl_names_rules.proofs.Passing.{passed_on}
use Rattle.vhdl_names_declarations.proofs.generics.generic.Goals as goal
use Rattle.vhdl_names_rules.specs.problems.Declarations as broken
use Rattle.vhdl_names_declarations.proofs.Breaking.{twice_first, hidden_behind}

pub returns-in_err-hide-clause-given : goal.returns-in_err-hide-clause-given
returns-in_err-hide-clause-given c = rw (← c.sight.view_is) (
    let s = sight_view c.sight.inside in
    let g = tree.generic_view c.args.generic.now in
    passed_on _ _ _ _ c.from_residual.result c.from_residual.ensures.1 (λ e p. p)
    (λ n. generic_is s g c.args.counts (rw (← c.sight.view_is) at c.requires)
    ∙ refused (λ s. s.region) with_declared s c.args.counts (names_of g.names) generic_standing (generics_of g)
    (ap (λ l. more s.region (all_declared visibility.unfinished (names_of (map ident_view l)))) (sym c.deref.ensures.value) ∙ c.in_err-hide.ensures.given n) (typed.generic s g)))

pub returns-in_err-settled-clause-given : goal.returns-in_err-settled-clause-given
returns-in_err-settled-clause-given c = rw (← c.sight.view_is) (
    let s = sight_view c.sight.inside in
    let g = tree.generic_view c.args.generic.now in
    passed_on _ _ _ _ c.from_residual-in_err-settled.result c.from_residual-in_err-settled.ensures.1 (λ e p. p)
    (λ n. generic_is s g c.args.counts (rw (← c.sight.view_is) at c.requires)
    ∙ unknown (λ s. s.region) with_declared s c.args.counts (names_of g.names) generic_standing (generics_of g) (typed.generic s g) (rw (← c.sight.view_is) at (c.in_err-settled.ensures.given n))))

pub settle-requires-clause-place : goal.settle-requires-clause-place
settle-requires-clause-place c = first_within c.sight.inside.region.entries c.hide.new.region.entries _ _ c.in_ok-hide.ensures.given c.len-first.ensures.len

pub settle-requires-clause-counts : goal.settle-requires-clause-counts
settle-requires-clause-counts c = small_in_region c.args.counts c.sight.inside.region.entries c.len-first.result c.len-first.ensures.len (rw (← c.sight.view_is) at c.requires)

pub returns-clause-given : goal.returns-clause-given
returns-clause-given c = rw (← c.sight.view_is) (
    let s = sight_view c.sight.inside in
    let g = tree.generic_view c.args.generic.now in
    let hides = hidden s.region c.deref.result.now c.args.generic.now.names.items c.deref.ensures.value (region_view c.hide.new.region) c.in_ok-hide.ensures.given in
    let x : Generic = generic_view c.in_ok-settled.field-0 in
    generic_is s g c.args.counts (rw (← c.sight.view_is) at c.requires)
    ∙ settled_whole (λ s. s.region) (λ s r. record s { region = r }) s c.args.counts (names_of g.names) generic_standing (generics_of g) (typed.generic s g) x c.in_ok-settled.field-0.settled _ _ _ _
    refl (c.len-first.ensures.len ∙ sym (length-map c.sight.inside.region.entries entry_view)) hides (rw (← c.sight.view_is) at c.in_ok-settled.ensures.given)
    c.in_ok-settle.ensures
    (ap (for_each (λ n. record { at = n.at; name = n.text; type = x.type; default = x.default })) (sym (c.in_ok-names.ensures ∙ ap (map ident_view) c.deref-2.ensures.value))))

pub returns-in_err-hide-clause-told : goal.returns-in_err-hide-clause-told
returns-in_err-hide-clause-told c = rw (← c.sight.view_is) (twice_first _ _ _ _ _ c.from_residual.result _ c.from_residual.ensures.1 (λ e p. p) c.deref.ensures.value c.in_err-hide.ensures.told)

pub returns-in_err-settled-clause-told : goal.returns-in_err-settled-clause-told
returns-in_err-settled-clause-told c = rw (← c.sight.view_is) (
    hidden_behind _ _ c.args.generic.now.names.items _ _ c.from_residual-in_err-settled.result (region_view c.hide.new.region) (λ r. broken.typed_generic (sight_view c.sight.inside) (tree.generic_view c.args.generic.now))
    c.from_residual-in_err-settled.ensures.1 (λ e p. p) c.deref.ensures.value c.in_ok-hide.ensures.given (rw (← c.sight.view_is) at c.in_err-settled.ensures.told))
