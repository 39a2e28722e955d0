use Rattle.std.proofs.Common.{arith, ◌≡◌, ◌≢◌, ◌+◌, ◌<◌, length, drop, map, None, refl, ap, sym, ◌∙◌}
use Rattle.vhdl_names_rules.specs.declared.fault.NameFault.TheVariants.{NoMemory}
use Rattle.vhdl_names_rules.specs.Rules.{◌>>=◌}
use Rattle.vhdl_names_rules.specs.Visibility as visibility
use Rattle.vhdl_names_rules.specs.Visibility.{unfinished}
use Rattle.vhdl_tree.specs.View.{ident_view}
use Rattle.vhdl_names_rules.specs.problems.Broken.{Tells}
use Rattle.vhdl_names_rules.specs.problems.Declarations.{standing_twice}
use Rattle.vhdl_names_rules.proofs.Telling.{told_same}
use Rattle.vhdl_names_declarations.proofs.Breaking.{name_told, name_behind}
use Rattle.vhdl_names_sight.specs.Views.{region_view}
use Rattle.vhdl_names_declarations.specs.Entered.{more}
use Rattle.vhdl_names_declarations.proofs.Regions.{all_of_names, next_name, no_names}
use Rattle.vhdl_names_rules.proofs.Passing.{passed_on, told_by}
use Rattle.vhdl_names_declarations.proofs.region.hide.Goals as goal

pub returns-in_err-declare-clause-given : goal.returns-in_err-declare-clause-given
returns-in_err-declare-clause-given c =
    let lt : c.loop-name.name-index < length c.args.names.now = omega arith in
    let f : c.in_err-declare.field-0.0 ≢ NoMemory → more (region_view c.args.region.now) (all_of_names unfinished c.args.names.now) ≡ None =
    λ n. c.loop-name.invariant.0
    ∙ next_name (region_view c.loop-name.region) unfinished c.args.names.now c.loop-name.name-index c.name-item.result lt c.name-item.is
    ∙ ap (λ o. o >>= λ r. more r (all_of_names unfinished (drop (c.loop-name.name-index + 1) c.args.names.now))) (c.in_err-declare.ensures.given n) in
    passed_on _ _ c.in_err-declare.field-0.0 _ c.from_residual.result c.from_residual.ensures.1 (λ e p. p) f

pub loop-name-init : goal.loop-name-init
loop-name-init c = (refl, refl)

pub loop-name-preserved : goal.loop-name-preserved
loop-name-preserved c =
    let lt : c.loop-name.name-index < length c.args.names.now = omega arith in
    let r = region_view c.loop-name.region in
    let n = c.name-item.result in (
      c.loop-name.invariant.0
          ∙ next_name r unfinished c.args.names.now c.loop-name.name-index n lt c.name-item.is
          ∙ ap (λ o. o >>= λ r. more r (all_of_names unfinished (drop (c.loop-name.name-index + 1) c.args.names.now))) c.in_ok-declare.ensures.given,
      c.loop-name.invariant.1
          ∙ name_behind ident_view c.args.names.now c.loop-name.name-index n lt c.name-item.is r (visibility.declare n.text.items unfinished) (region_view c.declare.new.region) refl c.in_ok-declare.ensures.given,
    )

pub returns-clause-given : goal.returns-clause-given
returns-clause-given c =
    c.loop-name.invariant.0 ∙ no_names c.loop-name.region.entries unfinished c.args.names.now c.loop-name.name-index (omega arith) c.names_are_apart-2.ensures

pub returns-in_err-declare-clause-told : goal.returns-in_err-declare-clause-told
returns-in_err-declare-clause-told c =
    let lt : c.loop-name.name-index < length c.args.names.now = omega arith in
    let old = region_view c.args.region.now in
    let r = region_view c.loop-name.region in
    let f : Tells (standing_twice (region_view c.args.region.now) (map ident_view c.args.names.now)) c.in_err-declare.field-0.0 =
    told_same (standing_twice r (map ident_view (drop c.loop-name.name-index c.args.names.now))) (standing_twice old (map ident_view c.args.names.now)) c.in_err-declare.field-0.0 (sym c.loop-name.invariant.1)
    (name_told ident_view c.args.names.now c.loop-name.name-index c.name-item.result lt c.name-item.is r c.in_err-declare.field-0.0 c.in_err-declare.ensures.told) in
    told_by _ c.in_err-declare.field-0.0 _ c.from_residual.result c.from_residual.ensures.1 (λ e p. p) f
