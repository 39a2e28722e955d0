use Rattle.std.proofs.Common.{get_or, ap, ◌∙◌, sym}
use Rattle.rtl_net.specs.Bodies.{statements_of}
use Rattle.rtl_net.specs.declared.body.Statement.{Statement}
use Rattle.rtl_kept_bodies.proofs.Rows.{bytes_stay}
use Rattle.rtl_kept_bodies.proofs.Shapes.{behind_form_there, reset_behind_left, reset_behind_taken}
use Rattle.rtl_kept_bodies.proofs.forms.replace_reset.Goals as goal

pub bounds-body-1 : goal.bounds-body-1
bounds-body-1 c = behind_form_there c.args.body.now (sym c.form_of.ensures ∙ c.in-ResetBehind.is)

pub returns-in-ResetBehind-clause-left : goal.returns-in-ResetBehind-clause-left
returns-in-ResetBehind-clause-left c =
    let at = c.index-body-1 in
    reset_behind_left c.args.body.now (statements_of c.args.others.items) (get_or c.args.body.now 1 at.result) c.replace_branch-in-ResetBehind.new.statement
    (sym c.form_of.ensures ∙ c.in-ResetBehind.is) (ap (λ (x : Statement). get_or c.args.body.now 1 x) at.is) c.replace_branch-in-ResetBehind.ensures.left

pub returns-in-ResetBehind-clause-taken : goal.returns-in-ResetBehind-clause-taken
returns-in-ResetBehind-clause-taken c e =
    let at = c.index-body-1 in
    reset_behind_taken c.args.body.now (statements_of c.args.others.items) (get_or c.args.body.now 1 at.result)
    (sym c.form_of.ensures ∙ c.in-ResetBehind.is) _ (ap (λ (x : Statement). get_or c.args.body.now 1 x) at.is) c.replace_branch-in-ResetBehind.ensures.taken

pub returns-in-ResetBehind-clause-bytes : goal.returns-in-ResetBehind-clause-bytes
returns-in-ResetBehind-clause-bytes c =
    let at = c.index-body-1 in
    bytes_stay c.args.body.now 1 (get_or c.args.body.now 1 at.result) c.replace_branch-in-ResetBehind.new.statement
    (ap (λ (x : Statement). get_or c.args.body.now 1 x) at.is) c.replace_branch-in-ResetBehind.ensures.byte
