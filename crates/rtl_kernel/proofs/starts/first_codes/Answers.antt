use Rattle.std.proofs.Common.{◌≡◌, length, sym, ap, subst, arith}
use Rattle.std.proofs.lemmas.List.{with_items_is}
use Rattle.std.proofs.lemmas.Option.{slice_get_within}
use Rattle.rtl_model.specs.bodies.Types.{nine_valued}
use Rattle.rtl_kernel.specs.kernel.Simulation.{each_given}
use Rattle.rtl_kernel.specs.values.TwoValues.{AreChanged}
use Rattle.rtl_kernel.proofs.starts.first_codes.Goals as goal

pub give_each-requires-clause-there : goal.give_each-requires-clause-there
give_each-requires-clause-there c =
    let net = c.args.net.now in
    let R = c.is_elaborated.ensures.in_range in
    λ k d l.
    rw (c.inputs.ensures, c.deref_mut.ensures.value, c.in_ok-codes.ensures, R.each_starts)
    (slice_get_within net.types _ nine_valued (R.inputs k d (rw (c.inputs.ensures) at l)))

pub returns : goal.returns
returns c =
    let net = c.args.net.now in
    let codes = c.in_ok-codes.codes in
    let new = c.give_each.new.codes in
    let E = rw (c.inputs.ensures, c.deref_mut.ensures.value, c.in_ok-codes.ensures) at c.give_each.ensures in
    let many : length new ≡ codes.len = omega (arith, E.as_many, ap length c.in_ok-codes.ensures, codes.ok.0) in
    subst (AreChanged (each_given net.inputs c.args.initial.now) net.starts) (sym (with_items_is codes new many)) E
