use Rattle.std.proofs.Common.{◌≡◌, ◌<◌, ◌≤◌, None, length, arith}
use Rattle.std.proofs.lemmas.Bool.Decides.{nat_tests}
use Rattle.rtl_expect.proofs.Seeing.{all_kept, passes_left, told_none, told_some}
use Rattle.rtl_expect.proofs.watching.Expectations.differences.Goals as goal

pub loop-self-preserved : goal.loop-self-preserved
loop-self-preserved c =
    let now = c.loop-self.self in
    let there : now.next < length now.list.items = omega (arith, c.loop-self-test.true, c.len.ensures, now.list.ok.0) in
    passes_left (λ e. Unit {0}) c.args.self now c.compare.new.self None c.loop-self.invariant c.compare.ensures.list c.compare.ensures.next c.compare.ensures.kept (λ e. tt) there

pub returns-then-is_empty : goal.returns-then-is_empty
returns-then-is_empty c es stands seen =
    let now = c.loop-self.self in
    let end : length now.list.items ≤ now.next = omega (arith, c.loop-self-test.false, c.len.ensures, now.list.ok.0) in
    let empty : length now.found.told.items ≡ 0 =
    let is = c.is_empty.ensures in let true_ = c.if-is_empty.true in let ok = now.found.told.ok.0 in grind (arith, nat_tests, is, true_, ok) in
    told_none now.found _ (all_kept es stands c.args.self now seen c.loop-self.invariant end) empty

pub returns : goal.returns
returns c es stands seen =
    let now = c.loop-self.self in
    let end : length now.list.items ≤ now.next = omega (arith, c.loop-self-test.false, c.len.ensures, now.list.ok.0) in
    told_some now.found _ (all_kept es stands c.args.self now seen c.loop-self.invariant end)
    (λ empty. let is = c.is_empty.ensures in let false_ = c.if-is_empty.false in let ok = now.found.told.ok.0 in grind (arith, nat_tests, is, false_, ok, empty))
