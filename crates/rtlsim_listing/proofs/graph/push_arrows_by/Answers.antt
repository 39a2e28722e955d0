use Rattle.std.proofs.Common.{◌≡◌, ℕ, ◌+◌, length, rules, arith, sym, subst, ◌∙◌}
use Rattle.byte_streams.specs.Written.{Goes}
use Rattle.rtlsim_listing.specs.DotText.{next_arrow}
use Rattle.rtlsim_listing.specs.NetText.{lines}
use Rattle.rtlsim_listing.proofs.ArrowTexts.{unless_again, before_next}
use Rattle.rtlsim_listing.proofs.Printing.{none, refused, part_of_line, next_line}
use Rattle.rtlsim_listing.proofs.graph.push_arrows_by.Goals as goal

pub returns-in_err-arrow : goal.returns-in_err-arrow
returns-in_err-arrow g c =
    let line = next_arrow c.args.net.now c.args.to c.args.nets.now in
    refused c.from_residual.result _ _ _ (lines line (length c.args.nets.now)) c.from_residual.ensures.1
    (part_of_line _ _ _ line c.loop-place.place (length c.args.nets.now) (search (rules, arith)) c.loop-place.invariant.0 (none _ (line c.loop-place.place)))

pub loop-place-preserved : goal.loop-place-preserved
loop-place-preserved g c =
    let line = next_arrow c.args.net.now c.args.to c.args.nets.now in
    let place = c.loop-place.place in (
      next_line _ _ _ line place (place + 1) (omega arith) c.loop-place.invariant.0
          (unless_again _ _ _ _ _ _ (c.deref.ensures.value ∙ c.in_ok-arrow.ensures) (c.deref-in-loop-place.ensures.value ∙ c.loop-place.invariant.1) c.push_unless_again.ensures),
      c.in_ok-arrow.ensures ∙ sym (before_next c.args.net.now c.args.to c.args.nets.now place (place + 1) (omega arith)),
    )

pub returns : goal.returns
returns g c =
    let line = next_arrow c.args.net.now c.args.to c.args.nets.now in
    let ended : c.loop-place.place ≡ length c.args.nets.now = search (rules, arith) in
    subst (λ (n : ℕ). Goes (g.W.Sink.state c.args.out.now) (g.W.Sink.state c.loop-place.out) (lines line n)) ended c.loop-place.invariant.0
