use Rattle.std.proofs.Common.{◌≡◌, ◌++◌, ◌+◌, length, ap, ◌∙◌, arith}
use Rattle.rtl_keeping.specs.Kept.{kept_signal}
use Rattle.rtl_keeping.proofs.Adding.{added}
use Rattle.rtl_keeping.proofs.nets.Nets.add.Goals as goal

pub signal_of-requires : goal.signal_of-requires
signal_of-requires c = let own : c.len-first.result ≡ length c.args.self.now.kinds.items = c.len-first.ensures ∙ c.args.self.now.kinds.ok.0 in omega (arith, own, c.requires.room)

pub overflow_add-first : goal.overflow_add-first
overflow_add-first c =
    let own : c.len-first.result ≡ length c.args.self.now.kinds.items = c.len-first.ensures ∙ c.args.self.now.kinds.ok.0 in
    omega (arith, own, c.len-many.ensures.value, c.requires.room)

pub returns : goal.returns
returns c =
    let own : c.len-first.result ≡ length c.args.self.now.kinds.items = c.len-first.ensures ∙ c.args.self.now.kinds.ok.0 in
    added c.args.process.now c.args.number c.args.variable.now c.args.self.now _ c.net_kind.result c.in_ok-signal.signal (c.len-first.result + c.len-many.result) c.args.self.now.kinds.len
    (omega (arith, own, c.len-many.ensures.value)) c.args.self.now.kinds.ok.0 c.net_kind.ensures c.in_ok-resize.ensures.items
    (c.in_ok-extend_from_slice.ensures.items ∙ ap (λ xs. c.args.self.now.starts.items ++ xs) c.deref.ensures) c.in_ok-push.ensures.items
    (c.in_ok-signal.ensures ∙ ap (λ n. kept_signal c.args.process.now c.args.number n c.args.variable.now) own)
