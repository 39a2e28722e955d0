use Rattle.std.proofs.Common.{map, ap, ◌∙◌, sym}
use Rattle.std.proofs.lemmas.List.{length-map}
use Rattle.vhdl_names_rules.specs.Declarations.{within}
use Rattle.vhdl_names_rules.specs.Visibility as visibility
use Rattle.vhdl_names_rules.specs.Visibility.{names_of, all_declared, with_declared}
use Rattle.vhdl_tree.specs.View as tree
use Rattle.vhdl_tree.specs.View.{ident_view}
use Rattle.vhdl_names_sight.specs.Seen.{sight_view}
use Rattle.vhdl_names_sight.specs.Views.{region_view, entry_view}
use Rattle.vhdl_names_declarations.specs.Constants as k
use Rattle.vhdl_names_declarations.specs.Constants.{Constants}
use Rattle.vhdl_names_declarations.specs.Entered.{more}
use Rattle.vhdl_names_declarations.proofs.Constancy.{constants_is}
use Rattle.vhdl_names_declarations.proofs.Numbering.{small_in_region}
use Rattle.vhdl_names_declarations.proofs.Turns.{refused, unknown, hidden, settled_whole, first_within, more_is}
use Rattle.vhdl_names_rules.proofs.Passing.{passed_on}
use Rattle.vhdl_names_declarations.proofs.constants.constants.Goals as goal
use Rattle.vhdl_names_rules.specs.problems.Declarations as broken
use Rattle.vhdl_names_declarations.proofs.Breaking.{twice_first, hidden_behind}

pub returns-in_err-hide-clause-given : goal.returns-in_err-hide-clause-given
returns-in_err-hide-clause-given c = rw (← c.sight.view_is) (
    let s = sight_view c.sight.inside in
    let g = tree.constants_view c.args.declaration.now in
    passed_on _ _ _ _ c.from_residual.result c.from_residual.ensures.1 (λ e p. p)
    (λ n. constants_is s g c.args.counts (rw (← c.sight.view_is) at c.requires)
    ∙ refused (λ s. s.region) with_declared s c.args.counts (names_of g.names) k.standing (k.declarations g.names)
    (ap (λ l. more s.region (all_declared visibility.unfinished (names_of (map ident_view l)))) (sym c.deref.ensures.value) ∙ c.in_err-hide.ensures.given n) (k.constant (within s g.names) g)))

pub returns-in_err-constant-clause-given : goal.returns-in_err-constant-clause-given
returns-in_err-constant-clause-given c = rw (← c.sight.view_is) (
    let s = sight_view c.sight.inside in
    let g = tree.constants_view c.args.declaration.now in
    passed_on _ _ _ _ c.from_residual-in_err-constant.result c.from_residual-in_err-constant.ensures.1 (λ e p. p)
    (λ n. constants_is s g c.args.counts (rw (← c.sight.view_is) at c.requires)
    ∙ unknown (λ s. s.region) with_declared s c.args.counts (names_of g.names) k.standing (k.declarations g.names) (k.constant (within s g.names) g) (ap (λ r. k.constant (record s { region = r }) g) (sym (more_is s.region (all_declared visibility.unfinished (names_of g.names)) _ (hidden s.region c.deref.result.now c.args.declaration.now.names.items c.deref.ensures.value _ c.in_ok-hide.ensures.given))) ∙ c.in_err-constant.ensures.given n)))

pub settle-requires-clause-place : goal.settle-requires-clause-place
settle-requires-clause-place c = first_within c.sight.inside.region.entries c.hide.new.region.entries _ _ c.in_ok-hide.ensures.given c.len-first.ensures.len

pub settle-requires-clause-counts : goal.settle-requires-clause-counts
settle-requires-clause-counts c = small_in_region c.args.counts c.sight.inside.region.entries c.len-first.result c.len-first.ensures.len (rw (← c.sight.view_is) at c.requires)

pub returns-clause-given : goal.returns-clause-given
returns-clause-given c = rw (← c.sight.view_is) (
    let s = sight_view c.sight.inside in
    let g = tree.constants_view c.args.declaration.now in
    let hides = hidden s.region c.deref.result.now c.args.declaration.now.names.items c.deref.ensures.value (region_view c.hide.new.region) c.in_ok-hide.ensures.given in
    let x : Constants = k.constant_view c.in_ok-constant.constant in
    constants_is s g c.args.counts (rw (← c.sight.view_is) at c.requires)
    ∙ settled_whole (λ s. s.region) (λ s r. record s { region = r }) s c.args.counts (names_of g.names) k.standing (k.declarations g.names) (k.constant (within s g.names) g) x c.in_ok-settled.settled _ _ _ _
    c.in_ok-settled.ensures (c.len-first.ensures.len ∙ sym (length-map c.sight.inside.region.entries entry_view)) hides
    (ap (λ r. k.constant (record s { region = r }) g) (sym (more_is s.region (all_declared visibility.unfinished (names_of g.names)) _ hides)) ∙ c.in_ok-constant.ensures.given)
    c.in_ok-settle.ensures
    (sym (c.declared.ensures ∙ ap (λ l. k.declarations l x) (c.in_ok-names.ensures ∙ ap (map ident_view) c.deref-2.ensures.value))))

pub returns-in_err-hide-clause-told : goal.returns-in_err-hide-clause-told
returns-in_err-hide-clause-told c = rw (← c.sight.view_is) (twice_first _ _ _ _ _ c.from_residual.result _ c.from_residual.ensures.1 (λ e p. p) c.deref.ensures.value c.in_err-hide.ensures.told)

pub returns-in_err-constant-clause-told : goal.returns-in_err-constant-clause-told
returns-in_err-constant-clause-told c = rw (← c.sight.view_is) (
    hidden_behind _ _ c.args.declaration.now.names.items _ _ c.from_residual-in_err-constant.result (region_view c.hide.new.region) (λ r. broken.typed_constants (record (sight_view c.sight.inside) { region = r }) (tree.constants_view c.args.declaration.now))
    c.from_residual-in_err-constant.ensures.1 (λ e p. p) c.deref.ensures.value c.in_ok-hide.ensures.given c.in_err-constant.ensures.told)
