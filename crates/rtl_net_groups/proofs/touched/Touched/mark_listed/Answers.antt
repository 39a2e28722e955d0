use Rattle.std.proofs.Common.{◌/◌, ◌+◌, ◌<◌, arith}
use Rattle.rtl_net_groups.specs.NextMarks.{AreUnmarked}
use Rattle.rtl_net_groups.specs.Touching.{Chunks, KeepsLeft}
use Rattle.rtl_net_groups.proofs.MarkedLists.{chunk_more}
use Rattle.rtl_net_groups.proofs.touched.Touched.mark_listed.Goals as goal

pub loop-chunk-init : goal.loop-chunk-init
loop-chunk-init c =
    let chunks : Chunks = record { nets = c.self.inside.nets; marks = c.self.inside.marks.items } in
    let left : KeepsLeft chunks c.args.old.now c.args.new.now = rw (← c.self.view_is) at c.requires.left in
    let unmarked : AreUnmarked c.self.inside.marks.items 0 c.next_marked-chunk.result = rw (c.deref.ensures.value) at c.next_marked-chunk.ensures.unmarked in
    record {
      within = rw (c.deref.ensures.value) at c.next_marked-chunk.ensures.within;
      done = λ p n there less listed is. left n (unmarked (n / 256) (omega arith) less);
    }

pub loop-chunk-preserved : goal.loop-chunk-preserved
loop-chunk-preserved c =
    let chunks : Chunks = record { nets = c.self.inside.nets; marks = c.self.inside.marks.items } in
    let left : KeepsLeft chunks c.args.old.now c.args.new.now = rw (← c.self.view_is) at c.requires.left in
    let next = c.next_marked-chunk-in-loop-chunk.result in
    let unmarked : AreUnmarked c.self.inside.marks.items (c.loop-chunk.chunk + 1) next =
    rw (c.deref-in-loop-chunk.ensures.value) at c.next_marked-chunk-in-loop-chunk.ensures.unmarked in
    record {
      within = rw (c.deref-in-loop-chunk.ensures.value) at c.next_marked-chunk-in-loop-chunk.ensures.within;
      done = chunk_more chunks c.args.groups.now c.args.old.now c.args.new.now c.loop-chunk.marks c.mark_others.new.marks c.loop-chunk.chunk next left c.loop-chunk.invariant.done
          c.mark_others.ensures.kept
          (λ p n from less there listed is. c.mark_others.ensures.marked p n from (omega (arith, less, there, c.min.ensures)) listed is) unmarked;
    }

pub returns : goal.returns
returns c p n there listed is =
    let within : n < c.self.inside.nets = rw (← c.self.view_is) at there in
    c.loop-chunk.invariant.done p n within (omega (arith, within, c.self.invariant, c.loop-chunk-test.false, c.len.ensures)) listed is
