use Rattle.std.proofs.Common.{map, slice_index_or, sym, ◌∙◌}
use Rattle.vhdl_places.proofs.Searches.{depth_room, use_here, use_more}
use Rattle.vhdl_places.proofs.uses.from_use.Goals as goal

pub returns-then-is_use : goal.returns-then-is_use
returns-then-is_use c =
    let l = c.loop-left in
    use_here c.args.wanted c.args.text.now (map (λ n. n.now) c.args.names.now) l.depth l.last l.left.now c.in-len1-up.len_at_least
    (sym c.is_use.ensures ∙ c.if-is_use.true)
    ∙ l.invariant.0

pub loop-left-preserved : goal.loop-left-preserved
loop-left-preserved c =
    let l = c.loop-left in
    rw c.depth_behind-depth.ensures (
      use_more c.args.wanted c.args.text.now (map (λ n. n.now) c.args.names.now) l.depth l.last _ l.left.now c.in-len1-up.len_at_least
          (sym c.is_use.ensures ∙ c.if-is_use.false)
          ∙ l.invariant.0,
      depth_room l.depth _ l.last (slice_index_or l.left.now 0 _).kind l.left.now c.in-len1-up.len_at_least l.invariant.1,
    )
