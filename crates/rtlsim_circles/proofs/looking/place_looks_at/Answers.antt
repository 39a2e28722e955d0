use Rattle.std.proofs.Common.{[], map, ap, ◌∙◌}
use Rattle.rtl_body_facts.specs.Reading.{is_in}
use Rattle.rtl_looks.specs.Denoting.{look_at, nets_behind}
use Rattle.rtl_model.specs.bodies.Looks.{looked_nets}
use Rattle.rtl_net.specs.Bodies.{statements_of}
use Rattle.rtlsim_circles.proofs.Hubs.{place_is}
use Rattle.rtlsim_circles.specs.LooksAt.{has_behind}
use Rattle.rtlsim_circles.proofs.looking.place_looks_at.Goals as goal

pub returns : goal.returns
returns c =
    let n = c.args.number in
    let place = c.args.place in
    let hubs = c.driver_looks.new.hubs.hubs.items in
    let behind = map (is_in n) (nets_behind [] hubs) in
    let marks = c.deref-3.ensures.value ∙ c.in_ok-marks.ensures ∙ ap (λ hs. map (is_in n) (nets_behind [] hs)) c.deref-2.ensures.value in
    let look = c.at.ensures ∙ ap (λ looks. look_at looks place) c.deref-4.ensures.value in
    c.has_behind.ensures ∙ ap (λ ms. has_behind n ms c.at.result) marks ∙ ap (has_behind n behind) look
    ∙ place_is n hubs (look_at c.in_ok-looks.looks.items place) ∙ (c.in_ok-looks.ensures.denotes place).nets n
    ∙ ap (λ body. is_in n (looked_nets (statements_of body) place)) c.deref.ensures.value
