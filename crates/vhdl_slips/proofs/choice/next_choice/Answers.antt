use Rattle.std.proofs.Common.{◌^◌, sym, ◌∙◌, arith}
use Rattle.vhdl_slips.proofs.Choices.{choice_end, choice_here, choice_more, room_behind}
use Rattle.vhdl_slips.proofs.Rest.{rest_shorter}
use Rattle.vhdl_slips.proofs.choice.next_choice.Goals as goal

pub returns-then-ends-clause-value : goal.returns-then-ends-clause-value
returns-then-ends-clause-value c =
    sym c.loop-left.invariant.same
    ∙ choice_end c.loop-left.opened c.loop-left.last _ c.loop-left.left.now c.in-len1-up.len_at_least (sym c.ends.ensures ∙ c.if-ends.true)

pub returns-then-is_choice-clause-value : goal.returns-then-is_choice-clause-value
returns-then-is_choice-clause-value c = rw c.open_behind-opened.ensures (
    sym c.loop-left.invariant.same
    ∙ choice_here c.loop-left.opened c.loop-left.last _ c.loop-left.left.now c.in-len1-up.len_at_least (sym c.ends.ensures ∙ c.if-ends.false)
    (sym c.chooses-is_choice.ensures ∙ c.if-is_choice.true)
    )

pub returns-then-is_choice-clause-room : goal.returns-then-is_choice-clause-room
returns-then-is_choice-clause-room c =
    rw c.open_behind-opened.ensures (room_behind c.loop-left.opened (2 ^ 64) _ _ c.loop-left.left.now c.in-len1-up.len_at_least c.loop-left.invariant.room)

pub returns-then-is_choice-clause-shorter : goal.returns-then-is_choice-clause-shorter
returns-then-is_choice-clause-shorter c =
    let shorter = rest_shorter c.loop-left.left.now c.in-len1-up.len_at_least in
    omega (arith, shorter, c.loop-left.invariant.within)

pub loop-left-preserved : goal.loop-left-preserved
loop-left-preserved c =
    let shorter = rest_shorter c.loop-left.left.now c.in-len1-up.len_at_least in
    record {
      same = rw c.open_behind-opened.ensures (
          choice_more c.loop-left.opened c.loop-left.last _ c.loop-left.left.now c.in-len1-up.len_at_least (sym c.ends.ensures ∙ c.if-ends.false)
          (sym c.chooses-is_choice.ensures ∙ c.if-is_choice.false)
          ∙ c.loop-left.invariant.same
          );
      room = rw c.open_behind-opened.ensures (room_behind c.loop-left.opened (2 ^ 64) _ _ c.loop-left.left.now c.in-len1-up.len_at_least c.loop-left.invariant.room);
      within = omega (arith, shorter, c.loop-left.invariant.within);
    }
