use Rattle.std.proofs.Common.{arith, ◌≡◌, ◌≢◌, ◌<◌, true, [], ◌∷◌, ◌++◌, map, flat_map, length, Some, None, ap, sym, ◌∙◌, append-nil}
use Rattle.vhdl_tree.specs.Tree as t
use Rattle.vhdl_names_rules.specs.units.Units as u
use Rattle.vhdl_names_rules.specs.Rules.{◌>>=◌}
use Rattle.vhdl_names_rules.specs.Interfaces.{declared_names}
use Rattle.vhdl_names_rules.specs.declared.fault.NameFault.TheVariants.{NoMemory}
use Rattle.vhdl_names_rules.specs.Declarations.{in_order, process_declaration}
use Rattle.vhdl_names_rules.specs.Visibility.{Sight, Declares, are_distinct, followed_by, with_variables}
use Rattle.vhdl_tree.specs.View.{process_declaration_view}
use Rattle.vhdl_names_units.specs.views.Declarations.{declaration_view, declarations_view}
use Rattle.vhdl_names_declarations.specs.Entered.{entering_variables}
use Rattle.vhdl_names_declarations.specs.Subtyping.{analysed_view}
use Rattle.vhdl_names_rules.specs.problems.Broken.{Tells}
use Rattle.vhdl_names_rules.specs.problems.Declarations as broken
use Rattle.vhdl_names_declarations.proofs.Breaking.{told_at, told_behind}
use Rattle.vhdl_names_rules.proofs.kept.Declarations.{process_declarations_kept}
use Rattle.vhdl_names_rules.proofs.Telling.{IsKept, kept_left}
use Rattle.vhdl_names_declarations.proofs.Listed.{of_process, left_variables, begins_variables, fails_variables, goes_variables, ends_variables, counts_after_variables, place_after_variables}
use Rattle.vhdl_names_declarations.proofs.Regions.{names_apart}
use Rattle.vhdl_names_rules.proofs.Passing.{passed_on, told_by}
use Rattle.vhdl_names_declarations.proofs.process.process_declarations.Goals as goal

-- what is told of one is told of it alone in a list
process_declaration_kept : (s : Sight) (d : t.ProcessDeclaration) (x : Declares u.Declaration) → process_declaration s d ≡ Some x → are_distinct (declared_names (s.variables ++ x.declared)) ≡ true →
    IsKept (broken.process_declaration s d)
process_declaration_kept s d x h distinct =
    kept_left (broken.process_declaration s d) _
    (process_declarations_kept (d ∷ []) s (followed_by x (record { declared = []; analysed = [] })) (ap (λ o. o >>= λ x. Some (followed_by x (record { declared = []; analysed = [] }))) h)
    (ap (λ l. are_distinct (declared_names (s.variables ++ l))) (append-nil x.declared) ∙ distinct))

pub loop-one-init : goal.loop-one-init
loop-one-init c = (
  begins_variables process_declaration process_declaration_view c.args.sight.now c.args.all.now (rw (← c.sight.view_is) (names_apart c.sight.inside.variables.entries c.names_are_apart.ensures))
      ∙ ap (λ l. left_variables process_declaration process_declaration_view c.args.sight.now (flat_map declaration_view l) c.args.all.now 0) (sym c.new-done.ensures.items),
  c.requires,
  λ f h. h,
)

pub returns-in_err-next-clause-given : goal.returns-in_err-next-clause-given
returns-in_err-next-clause-given c =
    let lt : c.loop-one.one-index < length c.args.all.now = omega arith in
    let f : c.in_err-next.field-0.0 ≢ NoMemory → entering_variables (in_order with_variables process_declaration) c.args.sight.now (map process_declaration_view c.args.all.now) ≡ None =
    λ n. c.loop-one.invariant.0
    ∙ fails_variables process_declaration process_declaration_view c.loop-one.sight (declarations_view c.loop-one.done) c.args.all.now c.loop-one.one-index c.one-item.result lt c.one-item.is (c.in_err-next.ensures.given n) in
    passed_on _ _ c.in_err-next.field-0.0 _ c.from_residual.result c.from_residual.ensures.1 (λ e p. p) f

pub further-counts-requires-clause-place : goal.further-counts-requires-clause-place
further-counts-requires-clause-place c = place_after_variables process_declaration c.loop-one.sight c.declaration.new.sight (process_declaration_view c.one-item.result) (analysed_view c.in_ok-next.next) c.sight-in-loop-one.inside c.sight-in-loop-one-2.inside c.len-first.result c.in_ok-next.ensures.given c.sight-in-loop-one.view_is c.sight-in-loop-one-2.view_is c.len-first.ensures.len

pub further-counts-requires-clause-before : goal.further-counts-requires-clause-before
further-counts-requires-clause-before c =
    counts_after_variables process_declaration c.loop-one.counts c.loop-one.sight c.declaration.new.sight (process_declaration_view c.one-item.result) (analysed_view c.in_ok-next.next) c.sight-in-loop-one.inside c.sight-in-loop-one-2.inside c.len-first.result c.in_ok-next.ensures.given c.in_ok-next.ensures.kept c.sight-in-loop-one.view_is c.sight-in-loop-one-2.view_is c.len-first.ensures.len c.loop-one.invariant.1

pub loop-one-preserved : goal.loop-one-preserved
loop-one-preserved c =
    let lt : c.loop-one.one-index < length c.args.all.now = omega arith in (
      c.loop-one.invariant.0
          ∙ goes_variables process_declaration process_declaration_view c.loop-one.sight c.declaration.new.sight (declarations_view c.loop-one.done) (analysed_view c.in_ok-next.next) (declarations_view c.push_if_any.new.done)
          c.args.all.now c.loop-one.one-index c.one-item.result lt c.one-item.is c.in_ok-next.ensures.given
          c.in_ok-push_if_any.ensures,
      rw (← c.sight-in-loop-one-2.view_is) c.further-counts.ensures,
      λ f h. c.loop-one.invariant.2 f
          (told_behind of_process with_variables process_declaration broken.process_declaration process_declaration_kept process_declaration_view c.loop-one.sight c.declaration.new.sight c.args.all.now c.loop-one.one-index c.one-item.result (analysed_view c.in_ok-next.next) f lt c.one-item.is c.in_ok-next.ensures.given h),
    )

pub returns-clause-given : goal.returns-clause-given
returns-clause-given c =
    c.loop-one.invariant.0 ∙ ends_variables process_declaration process_declaration_view c.loop-one.sight (declarations_view c.loop-one.done) c.args.all.now c.loop-one.one-index (omega arith)

pub returns-in_err-next-clause-told : goal.returns-in_err-next-clause-told
returns-in_err-next-clause-told c =
    let lt : c.loop-one.one-index < length c.args.all.now = omega arith in
    let f : Tells (broken.in_order with_variables process_declaration broken.process_declaration c.args.sight.now (map process_declaration_view c.args.all.now)) c.in_err-next.field-0.0 =
    c.loop-one.invariant.2 c.in_err-next.field-0.0 (told_at of_process with_variables process_declaration broken.process_declaration process_declaration_kept process_declaration_view c.loop-one.sight c.args.all.now c.loop-one.one-index c.one-item.result c.in_err-next.field-0.0 lt c.one-item.is c.in_err-next.ensures.told) in
    told_by _ c.in_err-next.field-0.0 _ c.from_residual.result c.from_residual.ensures.1 (λ e p. p) f
