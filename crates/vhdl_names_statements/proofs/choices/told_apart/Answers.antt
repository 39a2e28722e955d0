use Rattle.std.proofs.Common.{ℕ, arith, ◌<◌, ◌≤◌, [], map, length, Vec, Global, ap, sym, ◌∙◌}
use Rattle.std.proofs.lemmas.List.{at_drop_all}
use Rattle.vhdl_names_rules.specs.problems.Broken.{Tells}
use Rattle.vhdl_names_units.specs.Once.{names_view}
use Rattle.vhdl_names_statements.specs.steps.Cases as steps
use Rattle.vhdl_names_statements.specs.steps.Told as told
use Rattle.vhdl_names_statements.proofs.steps.Choosing.{list_told, list_left, list_added, last_is}
use Rattle.vhdl_names_rules.proofs.Passing.{told_by}
use Rattle.vhdl_names_statements.proofs.choices.told_apart.Goals as goal

pub returns-in_err-add_list-clause-told : goal.returns-in_err-add_list-clause-told
returns-in_err-add_list-clause-told c =
    let bs = c.args.lists.now in
    let i = c.loop-index.index in
    let lt : c.loop-index.index < length c.args.lists.now = omega arith in
    let h : Tells (told.in_place c.args.sight.now c.args.selected [] (steps.all_lists bs)) c.in_err-add_list.field-0.0 =
    list_told c.args.sight.now c.args.selected bs i c.index-lists-index.result lt c.index-lists-index.is (names_view c.loop-index.keys) _ c.in_err-add_list.field-0.0
    c.loop-index.invariant.1 (last_is bs i lt) c.in_err-add_list.ensures.told in
    told_by _ c.in_err-add_list.field-0.0 _ c.from_residual.result c.from_residual.ensures.1 (λ e p. p) h

pub loop-index-init : goal.loop-index-init
loop-index-init c =
    let s = c.args.sight.now in
    let bs = steps.all_lists c.args.lists.now in
    let none = sym (ap (map (λ (v : Vec ℕ Global). v.items)) c.new-keys.ensures.empty) in
    (ap (λ ks. told.with_lists s c.args.selected ks bs) none, ap (λ ks. told.in_place s c.args.selected ks bs) none)

pub loop-index-preserved : goal.loop-index-preserved
loop-index-preserved c =
    let bs = c.args.lists.now in
    let i = c.loop-index.index in
    let lt : c.loop-index.index < length c.args.lists.now = omega arith in
    let keys = names_view c.loop-index.keys in
    let new = names_view c.add_list.new.keys in (
      list_added c.args.sight.now c.args.selected bs i c.index-lists-index.result lt c.index-lists-index.is keys new c.loop-index.invariant.0 c.in_ok-add_list.ensures.added,
      list_left c.args.sight.now c.args.selected bs i c.index-lists-index.result lt c.index-lists-index.is keys new _ c.loop-index.invariant.1 (last_is bs i lt) c.in_ok-add_list.ensures.kept c.in_ok-add_list.ensures.added,
    )

pub returns-clause-added : goal.returns-clause-added
returns-clause-added c =
    let past : length c.args.lists.now ≤ c.loop-index.index = omega arith in
    sym (c.loop-index.invariant.0
    ∙ at_drop_all (λ l. told.with_lists c.args.sight.now c.args.selected (names_view c.loop-index.keys) (steps.all_lists l)) c.args.lists.now c.loop-index.index past)

pub returns-clause-kept : goal.returns-clause-kept
returns-clause-kept c =
    let past : length c.args.lists.now ≤ c.loop-index.index = omega arith in
    c.loop-index.invariant.1
    ∙ at_drop_all (λ l. told.in_place c.args.sight.now c.args.selected (names_view c.loop-index.keys) (steps.all_lists l)) c.args.lists.now c.loop-index.index past
