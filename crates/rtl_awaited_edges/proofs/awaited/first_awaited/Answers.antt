use Rattle.std.proofs.Common.{◌≡◌, ◌+◌, ◌<◌, ℕ, true, false, [], ◌∷◌, Option, None, length, get_or, sym, ap, subst, ◌∙◌, arith, IsSome}
use Rattle.std.proofs.lemmas.List.{get_or_default, length-append}
use Rattle.rtl_net.specs.Core.{core}
use Rattle.rtl_awaited_edges.specs.declared.awaited.ClockEdge.{ClockEdge}
use Rattle.rtl_awaited_edges.specs.Awaiting.{awaited_edge}
use Rattle.rtl_awaited_edges.proofs.Edges.{each_more}
use Rattle.rtl_awaited_edges.proofs.FirstAwaited.{all_await, first_more, stays_first}
use Rattle.rtl_awaited_edges.proofs.awaited.first_awaited.Goals as goal

pub loop-process-preserved : goal.loop-process-preserved
loop-process-preserved c =
    let net = core c.args.net.now in
    let i = c.loop-process.process in
    let I = c.loop-process.invariant in
    let E = c.in_ok-edges.ensures in
    let edges = c.in_ok-edges.edges in
    let edge = c.index-edge.result.now in
    let there : i < length edges.items = omega (arith, c.loop-process-test.true, c.len-process-end.ensures, edges.ok.0) in
    let told : edge ≡ awaited_edge net i = c.index-edge.ensures ∙ get_or_default edges.items i edge None there ∙ E.each i in
    let now : Option ClockEdge = c.or-awaited.result in
    let old = c.loop-process.await_it.items in
    let mark = c.are_alike.result in
    record {
      so_many = ap length c.in_ok-push.ensures.items ∙ (length-append old (mark ∷ []) ∙ ap (λ (k : ℕ). k + 1) I.so_many);
      within = omega (arith, there);
      first = c.or-awaited.ensures ∙ first_more net i (rw (← E.each_process) there) c.loop-process.awaited edge I.first told;
      each = each_more false (λ p b. b ≡ true → (awaited_edge net p ≡ now) × IsSome now) old c.push.new.self.items mark i I.so_many c.in_ok-push.ensures.items
          (λ p l b. let (same, some) = I.each p l b in let stays = c.or-awaited.ensures ∙ stays_first c.loop-process.awaited edge some in (same ∙ sym stays, rw stays some))
          (λ b. (sym told ∙ c.are_alike.ensures.alike b, subst IsSome (c.are_alike.ensures.alike b) (c.are_alike.ensures.some b)));
    }

pub returns : goal.returns
returns c =
    let l = c.loop-process in
    let I = l.invariant in
    let within = I.within in
    let all : l.process ≡ length (core c.args.net.now).processes = omega (arith, c.in_ok-edges.ensures.each_process, c.loop-process-test.false, within, c.len-process-end.ensures, c.in_ok-edges.edges.ok.0) in
    all_await (core c.args.net.now) l.process l.awaited l.await_it.items all I.so_many I.first I.each
