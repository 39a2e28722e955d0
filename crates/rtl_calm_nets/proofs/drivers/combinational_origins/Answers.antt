use Rattle.std.proofs.Common.{◌≡◌, ℕ, Bool, List, [], length, map, Option, ap, subst, ◌∙◌, arith}
use Rattle.rtl_model.specs.bodies.Copies.{copying}
use Rattle.rtl_net.specs.declared.body.Statement.{Statement}
use Rattle.rtl_net.specs.Bodies.{statements_of}
use Rattle.rtl_process_kinds.proofs.Processes.{listed_as}
use Rattle.rtl_looks.specs.declared.hubs.Look.{Look}
use Rattle.rtl_looks.specs.declared.hubs.Hub.{Hub}
use Rattle.rtl_looks.specs.Denoting.{look_at, nets_behind, DriversLook}
use Rattle.rtl_calm_nets.specs.declared.origins.Origin.{Origin}
use Rattle.rtl_calm_nets.specs.declared.origins.Origin.TheVariants as o
use Rattle.rtl_calm_nets.specs.NetOrigins.{combinational_origin}
use Rattle.rtl_calm_nets.specs.OutsideLooks.{are_outside, place_outside}
use Rattle.rtl_calm_nets.proofs.Combining.{combinational_given}
use Rattle.rtl_calm_nets.proofs.Giving.{pushed}
use Rattle.rtl_calm_nets.proofs.drivers.combinational_origins.Goals as goal

pub loop-place-preserved : goal.loop-place-preserved
loop-place-preserved c =
    let l = c.loop-place in
    let out = c.args.outside.now in
    let marks = c.in_ok-marks.marks.items in
    let looks = c.in_ok-looks.looks.items in
    let copy = c.copy_of-copy.result in
    let more = pushed (λ (k : ℕ) (x : Origin). x ≡ combinational_origin (place_outside out marks (look_at looks k)) copy k) l.origins.items c.push.new.self.items c.combinational_origin.result o.Other l.place
    l.invariant.so_many c.in_ok-push.ensures.items l.invariant.so_far
    (c.combinational_origin.ensures ∙ ap (λ (b : Bool). combinational_origin b copy l.place)
    (c.place_is_outside-follows.ensures ∙ (ap (λ (ms : List Bool). place_outside out ms (look_at c.deref-in-loop-place-2.result.now l.place)) c.deref-in-loop-place.ensures.value
    ∙ ap (λ (ls : List (Option Look)). place_outside out marks (look_at ls l.place)) c.deref-in-loop-place-2.ensures.value))) in
    record { so_many = more.0; so_far = more.1 }

pub returns : goal.returns
returns c =
    let net = c.args.net.now in
    let l = c.loop-place in
    let x = c.index-processes-number.result in
    let at = listed_as c.args.number c.index-processes-number.is c.processes.ensures in
    let hubs = c.driver_looks.new.hubs.hubs.items in
    let D = subst (λ (xs : List Statement). DriversLook (statements_of xs) c.new-hubs.result.hubs.items hubs c.in_ok-looks.looks.items) c.deref.ensures.value c.in_ok-looks.ensures in
    let marks = c.in_ok-marks.ensures ∙ ap (λ (hs : List Hub). map (are_outside c.args.outside.now) (nets_behind [] hs)) c.deref-2.ensures.value in
    let copy = c.copy_of-copy.ensures ∙ ap (λ (xs : List Statement). copying (statements_of xs)) c.deref-3.ensures.value in
    let all : l.place ≡ length x.drives.items = (let h = l.auto.place-end in let g = c.loop-place-test.false in let n = c.len-place-end.ensures in let s = x.drives.ok.0 in omega arith) in
    combinational_given net c.is_elaborated.ensures c.args.number c.requires.there x at c.requires.combinational c.args.outside.now c.requires.outside c.new-hubs.result.hubs.items hubs c.in_ok-looks.looks.items c.copy_of-copy.result c.in_ok-marks.marks.items
    D marks copy l.origins.items (l.invariant.so_many ∙ all) (λ k b. l.invariant.so_far k (let n = l.invariant.so_many in omega arith))
