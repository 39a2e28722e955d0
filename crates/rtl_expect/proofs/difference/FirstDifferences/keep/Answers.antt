use Rattle.std.proofs.Common.{◌<◌, ◌≡◌, ◌+◌, refl, arith, vec_len}
use Rattle.std.specs.Prelude.{vec_capacity}
use Rattle.rtl_expect.specs.Differences.{most_told}
use Rattle.rtl_expect.proofs.Seeing.{kept_full, kept_more, pushed}
use Rattle.rtl_expect.proofs.difference.FirstDifferences.keep.Goals as goal

pub returns-then-len-lt-MOST_TOLD : goal.returns-then-len-lt-MOST_TOLD
returns-then-len-lt-MOST_TOLD c all few K =
    let old = c.args.self.now in
    let push = c.push-there_is_room in
    let room : vec_len old.told < most_told = omega (arith, c.len.ensures, c.if-len-lt-MOST_TOLD.true) in
    let space : vec_len old.told < vec_capacity old.told = omega (arith, room, K.room) in
    kept_more old (record { told = push.new.self; more = old.more }) c.args.difference all K room
    (pushed push.result _ _ _ (push.ensures.succeeds space) push.ensures.items) push.ensures.capacity refl

pub returns-else-len-lt-MOST_TOLD : goal.returns-else-len-lt-MOST_TOLD
returns-else-len-lt-MOST_TOLD c all few K =
    let old = c.args.self.now in
    let more : c.saturating_add-self.result ≡ old.more + 1 = omega (arith, c.saturating_add-self.ensures, K.first.more, few) in
    kept_full old (record { told = old.told; more = c.saturating_add-self.result }) c.args.difference all K
    (λ less. omega (arith, c.len.ensures, c.if-len-lt-MOST_TOLD.false, less)) refl more
