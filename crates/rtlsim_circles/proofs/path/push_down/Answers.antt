use Rattle.std.proofs.Common.{◌++◌, ◌-◌, codes, ap, ◌∙◌, append_assoc, None}
use Rattle.std.specs.Prelude.{slice_index_or}
use Rattle.rtl_net.specs.Names.{net_name}
use Rattle.rtlsim_circles.specs.Paths.{steps_text}
use Rattle.rtlsim_circles.proofs.Paths.{one_down}
use Rattle.rtlsim_circles.proofs.path.push_down.Goals as goal

pub loop-next-preserved : goal.loop-next-preserved
loop-next-preserved c =
    let net = c.args.net.now in
    let looks = c.args.looks.now in
    let text = c.loop-next.text.items in
    let name = net_name net c.in-Some.number in
    let left = steps_text net looks (c.loop-next.room - 1) (slice_index_or looks c.in-Some.number None) in
    let before = rw (c.in-Some.is, one_down net looks c.loop-next.room c.in-Some.number c.if-room-eq0.false) at c.loop-next.invariant in
    let named = c.deref.ensures.value ∙ c.in_ok-net_name.ensures in
    rw (c.at-next.ensures, c.in_ok-extend_from_slice-2.ensures.items, named, c.in_ok-extend_from_slice.ensures.items)
    (ap (λ t. t ++ left) (append_assoc text (codes " <- ") name) ∙ append_assoc text (codes " <- " ++ name) left ∙ before)
