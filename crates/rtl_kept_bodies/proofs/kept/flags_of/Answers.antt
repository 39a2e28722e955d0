use Rattle.std.proofs.Common.{true, arith}
use Rattle.std.specs.Prelude.{slice_index_or}
use Rattle.rtl_kept_bodies.proofs.Listing.{flags_more, flags_done, elements_more}
use Rattle.rtl_kept_bodies.proofs.kept.flags_of.Goals as goal

pub some_marked-requires : goal.some_marked-requires
some_marked-requires c =
    let l = c.loop-variable in
    let more = elements_more c.args.variables.now l.variable-index c.variable-item.result c.loop-variable-test.true c.variable-item.is in
    omega (arith, more, l.invariant.below, c.requires, c.len-len.ensures.value)

pub loop-variable-preserved : goal.loop-variable-preserved
loop-variable-preserved c =
    let l = c.loop-variable in
    let more = elements_more c.args.variables.now l.variable-index c.variable-item.result c.loop-variable-test.true c.variable-item.is in
    record {
      so_far = flags_more (λ e. slice_index_or c.args.marks.now e true) _ l.flags.items _ c.args.variables.now l.variable-index l.element c.len-len.result c.variable-item.result
          c.some_marked.result c.loop-variable-test.true c.variable-item.is l.invariant.so_far c.len-len.ensures.value c.some_marked.ensures c.in_ok-push.ensures.items;
      below = omega (arith, more, l.invariant.below, c.len-len.ensures.value);
    }

pub returns : goal.returns
returns c =
    let l = c.loop-variable in
    flags_done (λ e. slice_index_or c.args.marks.now e true) _ _ c.args.variables.now l.variable-index l.element c.loop-variable-test.false l.invariant.so_far
