use Rattle.std.proofs.Common.{◌≡◌, ◌++◌, map, take, arith, ap, ◌∙◌}
use Rattle.byte_streams.proofs.Writing.{Goes-append, Goes-nil}
use Rattle.rtl_net.specs.Nets.{signal_view}
use Rattle.rtl_vcd_values.specs.Values.{numbered}
use Rattle.rtl_vcd.specs.Header.{variable_line_in}
use Rattle.rtl_vcd.proofs.Names.{numbered_more}
use Rattle.rtl_vcd.proofs.Scopes.{front_is_none, rest_is_none, own, above, up_to}
use Rattle.rtl_vcd.proofs.heading.push_variables.Goals as goal

pub loop-next-init : goal.loop-next-init
loop-next-init g c =
    let starts = c.requires.starts in (
      rw (front_is_none c.args.scope c.args.signals.now c.args.start starts) (Goes-nil (g.W.Sink.state c.args.out.now)),
      starts.within,
      λ i d lt. omega (arith, starts.before i d lt),
      starts.behind,
    )

pub loop-next-preserved : goal.loop-next-preserved
loop-next-preserved g c =
    let signals = c.args.signals.now in
    let next = c.loop-next.next in
    let name = c.index-signals-next.result in
    let is = c.index-signals-next.is in
    let within = c.loop-next-test.true in
    let here : name.scope ≡ c.args.scope = c.if-signal-scope.false in
    let line = ap (λ t. numbered (variable_line_in c.args.scope) 0 (map signal_view (take next signals)) ++ t) (own c.args.scope next (signal_view name) here) in (
      rw (numbered_more (variable_line_in c.args.scope) signals next name within is ∙ line) (Goes-append _ _ _ _ _ c.loop-next.invariant.0 c.push_variable.ensures),
      omega (arith, within),
      up_to signals c.args.scope next name within is here c.loop-next.invariant.2,
      λ i d ge lt. c.loop-next.invariant.3 i d (omega arith) lt,
    )

pub returns-then-signal-scope : goal.returns-then-signal-scope
returns-then-signal-scope g c =
    let signals = c.args.signals.now in
    let next = c.loop-next.next in
    let name = c.index-signals-next.result in
    let higher = above signals c.requires.order c.args.scope next name c.loop-next-test.true c.index-signals-next.is
    (c.loop-next.invariant.3 next name (omega arith) c.loop-next-test.true) c.if-signal-scope.true in
    record {
      text = rw (rest_is_none c.args.scope signals next c.loop-next.invariant.1 (λ i d ge lt e. omega (arith, e, higher i d ge lt))) c.loop-next.invariant.0;
      next = record {
        within = c.loop-next.invariant.1;
        before = λ i d lt. omega (arith, c.loop-next.invariant.2 i d lt);
        behind = λ i d ge lt. omega (arith, higher i d ge lt);
      };
    }
