use Rattle.std.proofs.Common.{ℕ, List, [], ◌∷◌, ◌++◌, ap, sym, ◌∙◌, take, get_or}
use Rattle.std.proofs.lemmas.List.{length-map, take_all, take_more}
use Rattle.rtl_model.proofs.basics.Lists.{get_or-map_within}
use Rattle.rtl_net.specs.declared.process.Driver as net
use Rattle.rtl_kernel.specs.drivers.Starts.{starts_of}
use Rattle.rtl_kernel.proofs.starts.start_values.Goals as goal

pub loop-driver-preserved : goal.loop-driver-preserved
loop-driver-preserved c =
    let ds = c.args.drives.now in
    let i = c.loop-driver.driver-index in
    let d : net.Driver = record { net = 0; start = 0 } in
    let at = get_or-map_within (λ (x : net.Driver). x.start) ds i d 0 c.loop-driver-test.true in
    c.in_ok-push.ensures.items ∙ ap (λ (xs : List ℕ). xs ++ (get_or ds i d).start ∷ []) c.loop-driver.invariant
    ∙ sym (take_more (starts_of ds) i 0 (rw length-map c.loop-driver-test.true) ∙ ap (λ (x : ℕ). take i (starts_of ds) ++ x ∷ []) at)

pub returns : goal.returns
returns c = c.loop-driver.invariant ∙ take_all c.loop-driver.driver-index (starts_of c.args.drives.now) (rw length-map c.loop-driver-test.false)
