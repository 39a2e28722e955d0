use Rattle.std.proofs.Common.{List, ℕ, ◌++◌, ap, ◌∙◌}
use Rattle.rtl_kept_bodies.proofs.Listing.{starts_more, starts_done}
use Rattle.rtl_kept_bodies.proofs.kept.starts_of.Goals as goal

pub loop-variable-preserved : goal.loop-variable-preserved
loop-variable-preserved c =
    let l = c.loop-variable in
    starts_more _ l.starts.items _ c.args.variables.now l.variable-index c.variable-item.result c.loop-variable-test.true c.variable-item.is l.invariant
    (c.in_ok-extend_from_slice.ensures.items ∙ ap (λ (xs : List ℕ). l.starts.items ++ xs) c.deref.ensures)

pub returns : goal.returns
returns c = let l = c.loop-variable in starts_done _ l.starts.items c.args.variables.now l.variable-index c.loop-variable-test.false l.invariant
