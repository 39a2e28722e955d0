use Rattle.std.proofs.Common.{◌&&◌, ◌++◌, ℕ, List, ap, ◌∙◌}
use Rattle.std.specs.List.{list_any}
use Rattle.rtl_net.specs.Indices.{numbers}
use Rattle.rtl_body_facts.specs.Paths.{covers}
use Rattle.rtl_body_facts.specs.Reading.{is_in}
use Rattle.rtl_body_facts.proofs.EveryPath.{adds_all, in_filter}
use Rattle.rtl_remarks.specs.Undefined.{is_same}
use Rattle.rtl_remarks.proofs.assigned.push_row_assignment.Goals as goal

pub returns : goal.returns
returns c =
    let ds = c.args.drives.now in
    let targets = c.in_ok-targets.targets.items in
    let keepers = c.in_ok-keepers.keepers.items in
    let found = c.in_ok-found.found.items in
    λ n.
    adds_all n c.extend_from_slice.new.self.items c.args.nets.now.items found _
    (c.in_ok-extend_from_slice.ensures.items ∙ ap (λ (xs : List ℕ). c.args.nets.now.items ++ xs) c.deref-3.ensures.value)
    (ap (is_in n) c.in_ok-found.ensures ∙ in_filter (λ m. is_same c.args.kept (is_in m c.deref-2.result.now)) c.deref.result.now n
    ∙ ap (λ xs. is_in n xs && is_same c.args.kept (is_in n c.deref-2.result.now)) c.deref.ensures.value
    ∙ ap (λ xs. is_in n targets && is_same c.args.kept (is_in n xs)) c.deref-2.ensures.value
    ∙ ap (λ b. b && is_same c.args.kept (is_in n keepers)) (c.in_ok-targets.ensures n)
    ∙ ap (λ b. list_any (covers ds n) (numbers c.args.places.now) && is_same c.args.kept b) (c.in_ok-keepers.ensures.are n))
