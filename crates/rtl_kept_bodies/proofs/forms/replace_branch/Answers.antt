use Rattle.std.proofs.Common.{Vec, Option, Global, ap, sym, ◌∙◌}
use Rattle.rtl_net.specs.declared.body.Branch.{Branch}
use Rattle.rtl_net.specs.declared.body.Statement.{Statement}
use Rattle.rtl_net.specs.declared.body.Statement.TheVariants as vs
use Rattle.rtl_net.specs.Bodies.{statements_of}
use Rattle.rtl_kept_bodies.proofs.Rows.{if_left, if_taken, own_byte}
use Rattle.rtl_kept_bodies.proofs.forms.replace_branch.Goals as goal

pub returns-in-If-clause-left : goal.returns-in-If-clause-left
returns-in-If-clause-left c =
    let i = c.in-If in
    let is = i.is ∙ ap (λ (bs : Vec Branch Global). vs.If i.at bs i.otherwise) (sym (c.replace-whole.ensures.value ∙ i.branches-is))
    ∙ ap (λ (o : Option (Vec Statement Global)). vs.If i.at c.replace-whole.result o) (sym (c.replace-last.ensures.value ∙ i.otherwise-is)) in
    if_left c.args.statement.now i.at c.replace-whole.result c.replace-last.result is c.args.number (statements_of c.args.others.items) _ _ c.replace_in-taken.new.branches
    c.deref_mut.ensures.value (c.replace_in-taken.auto.branches ∙ c.deref_mut.ensures.len) c.replace_in-taken.ensures.left

pub returns-in-If-clause-taken : goal.returns-in-If-clause-taken
returns-in-If-clause-taken c =
    let i = c.in-If in
    let is = i.is ∙ ap (λ (bs : Vec Branch Global). vs.If i.at bs i.otherwise) (sym (c.replace-whole.ensures.value ∙ i.branches-is))
    ∙ ap (λ (o : Option (Vec Statement Global)). vs.If i.at c.replace-whole.result o) (sym (c.replace-last.ensures.value ∙ i.otherwise-is)) in
    if_taken c.args.statement.now i.at c.replace-whole.result c.replace-last.result is c.args.number (statements_of c.args.others.items) _ _
    c.deref_mut.ensures.value c.replace_in-taken.ensures.taken

pub returns-in-If-clause-byte : goal.returns-in-If-clause-byte
returns-in-If-clause-byte c = let i = c.in-If in i.at-is ∙ own_byte c.args.statement.now i.at i.branches i.otherwise i.is
