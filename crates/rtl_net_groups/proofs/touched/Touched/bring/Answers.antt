use Rattle.std.proofs.Common.{◌≡◌, ◌/◌, true, false, get_or, arith}
use Rattle.std.proofs.lemmas.Grind.{same_number_lists}
use Rattle.rtl_net_groups.proofs.Bringing.{left_still, done_more}
use Rattle.rtl_net_groups.proofs.touched.Touched.bring.Goals as goal

pub loop-chunk-init : goal.loop-chunk-init
loop-chunk-init c = record {
  within = rw (c.deref.ensures.value) at c.next_marked-chunk.ensures.within;
  marked = rw (c.deref.ensures.value) at c.next_marked-chunk.ensures.marked;
  done = λ n lt less. c.requires.left n (rw (← c.self.view_is) ((rw (c.deref.ensures.value) at c.next_marked-chunk.ensures.unmarked) (n / 256) (omega arith) less));
  left = c.requires.left;
}

pub loop-chunk-preserved : goal.loop-chunk-preserved
loop-chunk-preserved c =
    let marks = c.self.inside.marks.items in
    let chunk = c.loop-chunk.chunk in
    let from = c.args.from.now in
    let I = c.loop-chunk.invariant in
    let marked : get_or marks chunk false ≡ true = I.marked (omega (arith, c.loop-chunk-test.true, c.len.ensures)) in
    let left = rw (← c.self.view_is) at I.left in
    record {
      within = rw (c.deref-in-loop-chunk.ensures.value) at c.next_marked-chunk-in-loop-chunk.ensures.within;
      marked = rw (c.deref-in-loop-chunk.ensures.value) at c.next_marked-chunk-in-loop-chunk.ensures.marked;
      done = done_more marks chunk c.min.result from c.loop-chunk.to c.bring_run.new.to c.min.ensures c.bring_run.ensures.there c.bring_run.ensures.others marked left
          c.next_marked-chunk-in-loop-chunk.result I.done (rw (c.deref-in-loop-chunk.ensures.value) at c.next_marked-chunk-in-loop-chunk.ensures.unmarked);
      left = rw (← c.self.view_is) (left_still marks chunk c.min.result from c.loop-chunk.to c.bring_run.new.to c.min.ensures c.bring_run.ensures.there c.bring_run.ensures.others marked left);
    }

pub returns : goal.returns
returns c =
    let from = rw (← c.self.view_is) at c.requires.from in
    let to = rw (← c.self.view_is) at c.requires.to in
    same_number_lists c.loop-chunk.to c.args.from.now (omega (arith, c.loop-chunk.auto.to, from, to))
    (λ k lt. c.loop-chunk.invariant.done k (omega (arith, lt, c.loop-chunk.auto.to, from, to))
    (omega (arith, lt, c.loop-chunk.auto.to, from, to, c.self.invariant, c.loop-chunk-test.false, c.len.ensures)))
