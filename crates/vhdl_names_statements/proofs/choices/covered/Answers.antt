use Rattle.std.proofs.Common.{◌≡◌, ◌≢◌, [], None}
use Rattle.vhdl_names_rules.specs.declared.fault.NameFault.TheVariants.{NoMemory}
use Rattle.vhdl_names_rules.specs.problems.Broken.{Tells, nothing}
use Rattle.vhdl_names_rules.specs.problems.Covered as broken
use Rattle.vhdl_names_units.specs.views.Sequential as views
use Rattle.vhdl_names_units.specs.Once.{names_view}
use Rattle.vhdl_names_statements.specs.steps.Cases as steps
use Rattle.vhdl_names_statements.specs.steps.Told as told
use Rattle.vhdl_names_statements.proofs.steps.Completing.{of_err, of_ok, gives_ok, refused_given, incomplete_given, covered_given, told_among, told_other, told_incomplete}
use Rattle.vhdl_names_rules.proofs.Passing.{passed_on, told_by}
use Rattle.vhdl_names_statements.proofs.choices.covered.Goals as goal

pub returns-in-Err-clause-given : goal.returns-in-Err-clause-given
returns-in-Err-clause-given c = λ found gives have n.
    refused_given c.args.sight.now c.args.selected (steps.all_lists c.args.lists.now) c.args.all c.in-Err.fault c.earlier_in.result found
    c.in-Err.ensures.told c.earlier_in.ensures.given c.earlier_in.ensures.other gives have n

pub returns-in-Err-clause-told : goal.returns-in-Err-clause-told
returns-in-Err-clause-told c = λ b e o h.
    told_among c.args.sight.now c.args.selected (steps.all_lists c.args.lists.now) c.args.at b c.earlier_in.result
    (c.earlier_in.ensures.told (told.in_place c.args.sight.now c.args.selected [] (steps.all_lists c.args.lists.now)) b c.in-Err.ensures.told e o)

pub returns-in_err-all-in-Ok-clause-told : goal.returns-in_err-all-in-Ok-clause-told
returns-in_err-all-in-Ok-clause-told c = λ b e o h.
    let f = c.in_err-all-in-Ok.field-0.0 in
    let t : Tells (broken.covered c.args.sight.now c.args.selected c.args.at (steps.all_lists c.args.lists.now) b) c.in_err-all-in-Ok.field-0.0 =
    told_other c.args.sight.now c.args.selected (steps.all_lists c.args.lists.now) c.args.at b f c.in-Ok.ensures.kept (of_err c.args.all f (Tells b) c.in_err-all-in-Ok.was e) in
    told_by _ c.in_err-all-in-Ok.field-0.0 _ c.from_residual.result c.from_residual.ensures.1 (λ e p. p) t

pub returns-in_err-complete-in-Ok-clause-given : goal.returns-in_err-complete-in-Ok-clause-given
returns-in_err-complete-in-Ok-clause-given c = λ found gives have.
    let lists = steps.all_lists c.args.lists.now in
    let all = c.in_ok-all-in-Ok.all in
    let g : c.in_err-complete-in-Ok.field-0.0 ≢ NoMemory → steps.covering c.args.selected (steps.all_lists c.args.lists.now) found ≡ None =
    incomplete_given c.args.sight.now c.args.selected lists all (names_view c.in-Ok.keys) c.in_err-complete-in-Ok.field-0.0 found c.in-Ok.ensures.added
    (gives_ok views.alternatives_view found c.args.all all c.in_ok-all-in-Ok.was gives)
    (of_ok c.args.all all (told.HasChoices c.args.sight.now c.args.selected lists) c.in_ok-all-in-Ok.was have) c.in_err-complete-in-Ok.ensures.given in
    passed_on _ _ c.in_err-complete-in-Ok.field-0.0 _ c.from_residual-in_err-complete-in-Ok.result c.from_residual-in_err-complete-in-Ok.ensures.1 (λ e p. p) g

pub returns-in_err-complete-in-Ok-clause-told : goal.returns-in_err-complete-in-Ok-clause-told
returns-in_err-complete-in-Ok-clause-told c = λ b e o h.
    let lists = steps.all_lists c.args.lists.now in
    let all = c.in_ok-all-in-Ok.all in
    let t : Tells (broken.covered c.args.sight.now c.args.selected c.args.at (steps.all_lists c.args.lists.now) b) c.in_err-complete-in-Ok.field-0.0 =
    told_incomplete c.args.sight.now c.args.selected lists c.args.at b c.in_err-complete-in-Ok.field-0.0 all (names_view c.in-Ok.keys) c.in-Ok.ensures.added c.in-Ok.ensures.kept
    (of_ok c.args.all all (λ x. b ≡ nothing) c.in_ok-all-in-Ok.was o)
    (of_ok c.args.all all (told.HasChoices c.args.sight.now c.args.selected lists) c.in_ok-all-in-Ok.was h) c.in_err-complete-in-Ok.ensures.told in
    told_by _ c.in_err-complete-in-Ok.field-0.0 _ c.from_residual-in_err-complete-in-Ok.result c.from_residual-in_err-complete-in-Ok.ensures.1 (λ e p. p) t

pub returns-in_ok-complete-in-Ok-clause-given : goal.returns-in_ok-complete-in-Ok-clause-given
returns-in_ok-complete-in-Ok-clause-given c = λ found gives have.
    let lists = steps.all_lists c.args.lists.now in
    let all = c.in_ok-all-in-Ok.all in
    covered_given c.args.sight.now c.args.selected lists all (names_view c.in-Ok.keys) found c.in-Ok.ensures.added c.in-Ok.ensures.kept
    (gives_ok views.alternatives_view found c.args.all all c.in_ok-all-in-Ok.was gives)
    (of_ok c.args.all all (told.HasChoices c.args.sight.now c.args.selected lists) c.in_ok-all-in-Ok.was have) c.in_ok-complete-in-Ok.ensures.given
