use Rattle.std.proofs.Common.{◌≡◌, ◌+◌, ◌++◌, suc, map, arith, subst, sym, ap, ◌∙◌}
use Rattle.std.specs.Prelude.{codes}
use Rattle.byte_streams.specs.Written.{Goes}
use Rattle.byte_streams.proofs.Writing.{Goes-append}
use Rattle.rtl_net.specs.declared.signal.Scope.{Scope}
use Rattle.rtl_net.specs.Nets.{scope_view, signal_view}
use Rattle.rtl_vcd.specs.Header as spec
use Rattle.rtl_vcd.proofs.Scopes.{label_is}
use Rattle.rtl_vcd.proofs.heading.push_scopes.Goals as goal

pub loop-number-preserved : goal.loop-number-preserved
loop-number-preserved g c =
    let state = g.W.Sink.state in
    let number = c.loop-number.number in
    let after = state c.push_variables-next.new.out in
    let next : number + 1 ≡ suc number = omega arith in
    let label = c.deref.ensures.value ∙ ap (λ (s : Scope). s.label.items) (sym c.index-scopes-number.is)
    ∙ sym (label_is c.args.scopes.now number c.index-scopes-number.result c.loop-number-test.true c.index-scopes-number.is) in
    let line = subst (λ l. Goes (state c.push_closing_before.new.out) (state c.push_scope_line.new.out) (codes "$scope module " ++ l ++ codes " $end\n")) label c.push_scope_line.ensures in
    let scope = Goes-append _ _ _ _ _ (Goes-append _ _ _ _ _ c.push_closing_before.ensures line) c.push_variables-next.ensures.text in (
      subst (λ n. Goes (state c.args.out.now) after (spec.scopes_text (map scope_view c.args.scopes.now) (map signal_view c.args.signals.now) n)) (sym next)
          (Goes-append _ _ _ _ _ c.loop-number.invariant.0 scope),
      c.push_variables-next.ensures.next,
    )
