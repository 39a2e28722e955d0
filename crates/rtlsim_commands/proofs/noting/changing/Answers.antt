use Rattle.std.proofs.Common.{ℕ, ap, ◌∙◌, rules}
use Rattle.arrayvec.specs.ArrayVec.{ArrayVec}
use Rattle.rtlsim_commands.proofs.Firsts.{noted, unnoted}
use Rattle.rtlsim_commands.proofs.noting.changing.Goals as goal
use Rattle.rtlsim_commands.proofs.noting.changing.Goals.{then-before-number, else-before-number}

pub loop-number-preserved : goal.loop-number-preserved
loop-number-preserved c =
    let before = c.args.before.now in
    let now = c.args.now.now in
    let l = c.loop-number in
    elim c.if-before-number.branch [
      | then-before-number w ↦
          let push = w.try_push-is_kept in
          ap (λ (v : ArrayVec ℕ). v.items) w.numbers-is
          ∙ noted before now l.number (let differ = w.if-before-number in search rules) l.numbers push.new.self l.invariant push.result push.ensures.ok push.ensures.err push.ensures.full push.ensures.variant.0
      | else-before-number w ↦ unnoted before now l.number (let alike = w.if-before-number in search rules) l.numbers c.if-before-number.numbers l.invariant w.numbers-is
    ]
