use Rattle.std.proofs.Common.{◌+◌, ◌++◌, List, take, refl, ap, sym, ◌∙◌}
use Rattle.rtl_net.specs.declared.body.Statement.{Statement}
use Rattle.rtl_mixed_reasons.proofs.Searches.{but-found, but-passed, but-ended, behind-is}
use Rattle.rtl_mixed_reasons.proofs.beside.but_reset.Goals as goal

pub returns-then-may_reset : goal.returns-then-may_reset
returns-then-may_reset c =
    let l = c.loop-number in
    let xs = c.args.statements.now in
    ap (λ (ys : List Statement). take l.number xs ++ ys) (behind-is (l.number + 1) xs xs refl)
    ∙ but-found xs l.number c.index-statements-number.result c.loop-number-test.true c.index-statements-number.is l.invariant (sym c.may_reset.ensures ∙ c.if-may_reset.true)

pub loop-number-preserved : goal.loop-number-preserved
loop-number-preserved c =
    let l = c.loop-number in
    but-passed c.args.statements.now l.number c.index-statements-number.result c.loop-number-test.true c.index-statements-number.is l.invariant (sym c.may_reset.ensures ∙ c.if-may_reset.false)

pub returns : goal.returns
returns c = but-ended c.args.statements.now c.loop-number.number c.loop-number-test.false c.loop-number.invariant
