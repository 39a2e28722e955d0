use Rattle.std.proofs.Common.{Vec, Global, ap, ◌∙◌, sym, get_or}
use Rattle.rtl_net.specs.Bodies.{test_view, statements_of, branches_of, otherwise_of}
use Rattle.rtl_net.specs.declared.body.Branch.{Branch}
use Rattle.rtl_net.specs.declared.body.Statement.{Statement}
use Rattle.rtl_kept_bodies.specs.Steps.{put_at}
use Rattle.rtl_kept_bodies.proofs.Rows.{put_is, taken_is, put_past, taken_past}
use Rattle.rtl_kept_bodies.proofs.forms.replace_in.Goals as goal

pub returns-then-number-branches-clause-left : goal.returns-then-number-branches-clause-left
returns-then-number-branches-clause-left c o = put_past o c.args.branches.now c.args.number (statements_of c.args.others.items) c.if-number-branches.true

pub returns-then-number-branches-clause-taken : goal.returns-then-number-branches-clause-taken
returns-then-number-branches-clause-taken c o = taken_past o c.args.branches.now c.args.number (statements_of c.args.others.items) c.if-number-branches.true

pub returns-clause-left : goal.returns-clause-left
returns-clause-left c o =
    let bs = c.args.branches.now in
    let n = c.args.number in
    put_is (otherwise_of o) bs n c.index-branches-number.result _ c.if-number-branches.false c.index-branches-number.is
    (ap (λ (x : Branch). test_view x.test) (sym c.index-branches-number.is))
    ∙ ap (λ (v : Vec Statement Global). put_at n (statements_of v.items) (branches_of (otherwise_of o) bs)) c.replace.ensures.after

pub returns-clause-taken : goal.returns-clause-taken
returns-clause-taken c o =
    let bs = c.args.branches.now in
    let n = c.args.number in
    let b = c.index-branches-number in
    ap (λ (v : Vec Statement Global). statements_of v.items) c.replace.ensures.value
    ∙ taken_is (otherwise_of o) bs n (get_or bs n b.result) (statements_of c.args.others.items) c.if-number-branches.false (ap (λ (x : Branch). get_or bs n x) b.is)
