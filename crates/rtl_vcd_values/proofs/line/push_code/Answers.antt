use Rattle.std.proofs.Common.{rules, arith, ◌+◌, ◌/◌, ◌%◌, sym, ◌∙◌, ap, ◌++◌}
use Rattle.rtl_vcd_values.proofs.Digits.{characters, characters_step, short, some_left, pushed}
use Rattle.rtl_vcd_values.proofs.line.push_code.Goals as goal

pub loop-rest-init : goal.loop-rest-init
loop-rest-init g c =
    let n = c.args.number in (
      pushed c.args.line.now.items c.push.new.self.items (characters (n / 94)) (33 + n % 94) c.push.ensures.items,
      omega (arith, c.push.ensures.len, short n c.ranges.number.fits),
    )

pub push-requires-in-loop-rest : goal.push-requires-in-loop-rest
push-requires-in-loop-rest g c =
    (search rules, omega (arith, c.requires.room, c.loop-rest.invariant.1, some_left c.loop-rest.rest c.loop-rest-test.true))

pub loop-rest-preserved : goal.loop-rest-preserved
loop-rest-preserved g c =
    let n = c.loop-rest.rest in
    let before = c.loop-rest.line.items in
    let some = c.loop-rest-test.true in (
      pushed before c.push-in-loop-rest.new.self.items (characters (n / 94)) (33 + n % 94) c.push-in-loop-rest.ensures.items
          ∙ ap (λ xs. before ++ xs) (sym (characters_step n some)) ∙ c.loop-rest.invariant.0,
      omega (arith, c.push-in-loop-rest.ensures.len, c.loop-rest.invariant.1, some_left n some),
    )
