use Rattle.std.proofs.Common.{not, refl, ap, sym, ◌∙◌, subst}
use Rattle.vhdl_names_rules.specs.declared.fault.NameProblem.TheVariants.{Twice}
use Rattle.vhdl_names_rules.specs.Visibility.{is_among}
use Rattle.vhdl_names_units.specs.Once.{one_name, names_view}
use Rattle.vhdl_names_units.proofs.Once.{inserted, refused as stands_already}
use Rattle.vhdl_names_rules.specs.problems.Broken.{Tells, refused}
use Rattle.vhdl_names_instances.proofs.Taking.{stands, unchanged}
use Rattle.vhdl_names_rules.proofs.Telling.{told_unless}
use Rattle.vhdl_names_instances.proofs.associations.add_name.Goals as goal

pub returns-then-branch-clause-given : goal.returns-then-branch-clause-given
returns-then-branch-clause-given c =
    ap (one_name (names_view c.args.taken.now)) (sym c.in_ok-name.ensures)
    ∙ inserted c.in_ok-name.name c.args.taken.now.keys c.insert.new.self.keys c.in_ok-insert.field-0 c.in_ok-insert.ensures.added c.in_ok-insert.ensures.keys c.if-branch.true

pub returns-else-branch-clause-given : goal.returns-else-branch-clause-given
returns-else-branch-clause-given c = λ n.
    ap (one_name (names_view c.args.taken.now)) (sym c.in_ok-name.ensures)
    ∙ stands_already c.in_ok-name.name c.args.taken.now.keys c.in_ok-insert.field-0 c.in_ok-insert.ensures.added c.if-branch.false

pub returns-else-branch-clause-told : goal.returns-else-branch-clause-told
returns-else-branch-clause-told c =
    let ns = names_view c.args.taken.now in
    let there = ap (λ n. is_among n ns) (sym c.in_ok-name.ensures)
    ∙ stands c.in_ok-name.name c.args.taken.now.keys c.in_ok-insert.field-0 c.in_ok-insert.ensures.added c.if-branch.false in
    told_unless Twice c.args.at (not (is_among c.args.name.now ns)) c.at.result (λ m. ap not there) (subst (Tells (refused Twice c.args.at)) (sym c.at.ensures) refl)

pub returns-else-branch-clause-kept : goal.returns-else-branch-clause-kept
returns-else-branch-clause-kept c =
    unchanged c.in_ok-name.name c.args.taken.now.keys c.insert.new.self.keys c.in_ok-insert.field-0 c.in_ok-insert.ensures.added c.in_ok-insert.ensures.keys c.if-branch.false
