use Rattle.std.proofs.Common.{arith, ◌≡◌, ◌≢◌, ◌+◌, ◌<◌, length, map, drop, None, refl, ap, sym, ◌∙◌}
use Rattle.vhdl_names_rules.specs.declared.fault.NameFault.TheVariants.{NoMemory}
use Rattle.vhdl_names_rules.specs.Rules.{◌>>=◌}
use Rattle.vhdl_names_rules.specs.Declarations as d
use Rattle.vhdl_names_rules.specs.Visibility.{names_of, declare, literal}
use Rattle.vhdl_names_rules.specs.problems.Broken.{Tells}
use Rattle.vhdl_names_rules.specs.problems.Declarations.{standing_twice}
use Rattle.vhdl_names_rules.proofs.Telling.{told_same}
use Rattle.vhdl_names_declarations.proofs.Breaking.{name_told, name_behind}
use Rattle.vhdl_tree.specs.View.{ident_view}
use Rattle.vhdl_names_sight.specs.Views.{region_view}
use Rattle.vhdl_names_declarations.specs.Entered.{more}
use Rattle.vhdl_names_declarations.proofs.Declaring.{next_literal, no_literals}
use Rattle.vhdl_names_rules.proofs.Passing.{passed_on, told_by}
use Rattle.vhdl_names_declarations.proofs.enumeration.literals.Goals as goal

pub returns-in_err-declare-clause-given : goal.returns-in_err-declare-clause-given
returns-in_err-declare-clause-given c =
    let e = c.args.number in
    let xs = c.args.literals.now in
    let i = c.loop-position.position in
    let lt : c.loop-position.position < length c.args.literals.now = omega arith in
    let f : c.in_err-declare.field-0.0 ≢ NoMemory → more (region_view c.args.region.now) (d.literals c.args.number (length c.args.literals.now) 0 (names_of (map ident_view c.args.literals.now))) ≡ None =
    λ n. c.loop-position.invariant.0
    ∙ next_literal (region_view c.loop-position.region) e (length xs) i xs c.index-literals-position.result lt c.index-literals-position.is
    ∙ ap (λ o. o >>= λ r. more r (d.literals e (length xs) (i + 1) (names_of (map ident_view (drop (i + 1) xs))))) (c.in_err-declare.ensures.given n) in
    passed_on _ _ c.in_err-declare.field-0.0 _ c.from_residual.result c.from_residual.ensures.1 (λ e p. p) f

pub loop-position-init : goal.loop-position-init
loop-position-init c = (refl, refl)

pub loop-position-preserved : goal.loop-position-preserved
loop-position-preserved c =
    let e = c.args.number in
    let xs = c.args.literals.now in
    let i = c.loop-position.position in
    let lt : c.loop-position.position < length c.args.literals.now = omega arith in
    let r = region_view c.loop-position.region in
    let n = c.index-literals-position.result in (
      c.loop-position.invariant.0
          ∙ next_literal r e (length xs) i xs n lt c.index-literals-position.is
          ∙ ap (λ o. o >>= λ r. more r (d.literals e (length xs) (i + 1) (names_of (map ident_view (drop (i + 1) xs))))) c.in_ok-declare.ensures.given,
      c.loop-position.invariant.1
          ∙ name_behind ident_view xs i n lt c.index-literals-position.is r (declare n.text.items (literal e (length xs) i)) (region_view c.declare.new.region) refl c.in_ok-declare.ensures.given,
    )

pub returns-clause-given : goal.returns-clause-given
returns-clause-given c =
    c.loop-position.invariant.0
    ∙ no_literals c.loop-position.region.entries c.args.number (length c.args.literals.now) c.loop-position.position c.args.literals.now (omega arith) c.names_are_apart-2.ensures

pub returns-in_err-declare-clause-told : goal.returns-in_err-declare-clause-told
returns-in_err-declare-clause-told c =
    let xs = c.args.literals.now in
    let i = c.loop-position.position in
    let lt : c.loop-position.position < length c.args.literals.now = omega arith in
    let r = region_view c.loop-position.region in
    let f : Tells (standing_twice (region_view c.args.region.now) (map ident_view c.args.literals.now)) c.in_err-declare.field-0.0 =
    told_same (standing_twice r (map ident_view (drop i xs))) (standing_twice (region_view c.args.region.now) (map ident_view xs)) c.in_err-declare.field-0.0 (sym c.loop-position.invariant.1)
    (name_told ident_view xs i c.index-literals-position.result lt c.index-literals-position.is r c.in_err-declare.field-0.0 c.in_err-declare.ensures.told) in
    told_by _ c.in_err-declare.field-0.0 _ c.from_residual.result c.from_residual.ensures.1 (λ e p. p) f
