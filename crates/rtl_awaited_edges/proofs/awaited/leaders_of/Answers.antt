use Rattle.std.proofs.Common.{◌≡◌, ◌<◌, ◌+◌, ℕ, ◌∷◌, [], None, length, get_or, ap, ◌∙◌, arith}
use Rattle.std.proofs.lemmas.List.{length-append}
use Rattle.rtl_awaited_edges.proofs.Edges.{each_more}
use Rattle.rtl_awaited_edges.proofs.awaited.leaders_of.Goals as goal
use Rattle.rtl_awaited_edges.proofs.awaited.leaders_of.Goals.{then-is_some, else-is_some}

pub loop-process-init : goal.loop-process-init
loop-process-init c = record {
  so_many = ap length c.in_ok-leaders.ensures.items;
  within = omega arith;
  last = λ some. some;
  there = λ p l. absurd (omega (arith, l));
  alike = λ p l. absurd (omega (arith, l));
}

pub loop-process-preserved : goal.loop-process-preserved
loop-process-preserved c =
    let edges = c.args.edges.now in
    let I = c.loop-process.invariant in
    let L = c.leader_of-leader.ensures in
    let leader = c.leader_of-leader.result in
    let old = c.loop-process.leaders.items in
    let i = c.loop-process.process in
    let is = c.in_ok-push.ensures.items in
    record {
      so_many = ap length is ∙ (length-append old (leader ∷ []) ∙ ap (λ (k : ℕ). k + 1) I.so_many);
      within = omega (arith, c.loop-process-test.true);
      last = λ some. elim c.if-is_some.branch [
        | then-is_some w ↦ rw (w.last-is) L.there
        | else-is_some w ↦ rw (w.last-is) (I.last some)
      ];
      there = each_more 0 (λ p n. n < length edges) old _ leader i I.so_many is I.there L.there;
      alike = each_more 0 (λ p n. get_or edges n None ≡ get_or edges p None) old _ leader i I.so_many is I.alike L.alike;
    }

pub returns : goal.returns
returns c =
    let I = c.loop-process.invariant in
    let within = I.within in
    let all : c.loop-process.process ≡ length c.args.edges.now = omega (arith, within, c.loop-process-test.false) in
    record {
      each_process = I.so_many ∙ all;
      there = λ p l. I.there p (omega (arith, l, all));
      alike = λ p l. I.alike p (omega (arith, l, all));
    }
