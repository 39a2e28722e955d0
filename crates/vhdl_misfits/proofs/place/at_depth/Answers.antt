use Rattle.std.proofs.Common.{slice_index_or, sym, ◌∙◌}
use Rattle.vhdl_misfits.proofs.Inside.{depth_here, depth_more, depth_room}
use Rattle.vhdl_misfits.proofs.place.at_depth.Goals as goal

pub returns-then-stops_here : goal.returns-then-stops_here
returns-then-stops_here c =
    depth_here c.args.depth c.args.stops.now c.loop-left.opened c.loop-left.last _ c.loop-left.left.now c.in-len1-up.len_at_least
    (sym c.stops_here.ensures ∙ c.if-stops_here.true)
    ∙ c.loop-left.invariant.0

pub loop-left-preserved : goal.loop-left-preserved
loop-left-preserved c = rw c.open_behind-opened.ensures (
  depth_more c.args.depth c.args.stops.now c.loop-left.opened c.loop-left.last _ c.loop-left.left.now c.in-len1-up.len_at_least
      (sym c.stops_here.ensures ∙ c.if-stops_here.false)
      ∙ c.loop-left.invariant.0,
  depth_room c.loop-left.opened _ c.loop-left.last (slice_index_or c.loop-left.left.now 0 _).kind c.loop-left.left.now c.in-len1-up.len_at_least
      c.loop-left.invariant.1,
)
