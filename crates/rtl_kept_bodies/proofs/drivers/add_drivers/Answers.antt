use Rattle.std.proofs.Common.{refl, map, append-nil, sym}
use Rattle.std.specs.Prelude.{slice_index}
use Rattle.std.proofs.lemmas.List.FromFn.{length-map-range_with_len}
use Rattle.rtl_net.specs.Nets.{driver_view}
use Rattle.rtl_kept_bodies.proofs.Putting.{driver_more}
use Rattle.rtl_kept_bodies.proofs.drivers.add_drivers.Goals as goal

pub loop-k-init : goal.loop-k-init
loop-k-init c = sym (append-nil (map driver_view c.args.drives.now.items))

pub loop-k-preserved : goal.loop-k-preserved
loop-k-preserved c =
    let l = c.loop-k in
    driver_more c.args.starts.now c.args.kept.element c.args.kept.net l.k c.args.drives.now.items l.drives.items _ _
    (length-map-range_with_len (slice_index c.args.starts.now) c.args.kept.element l.k) l.invariant refl c.in_ok-push.ensures.items
