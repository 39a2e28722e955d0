use Rattle.std.proofs.Common.{arith, ◌<◌, ◌≤◌, length, refl, subst}
use Rattle.vhdl_tree.specs.View.{view}
use Rattle.vhdl_names_rules.proofs.Passing.{told_by}
use Rattle.vhdl_names_instances.proofs.Sorted.{generics_of}
use Rattle.vhdl_names_instances.proofs.Porting.{of_those, within, one_told, those_go, fits_go, fits_end}
use Rattle.vhdl_names_instances.proofs.maps.named_generics.Goals as goal

pub loop-index-init : goal.loop-index-init
loop-index-init c = λ all h k. (refl, refl)

pub returns-in_err-one_generic-clause-told : goal.returns-in_err-one_generic-clause-told
returns-in_err-one_generic-clause-told c = λ all h k.
    let s = c.args.sight.now in
    let n = c.args.name.now in
    let e = view c.args.e.now in
    let i = c.loop-index.index in
    let fault = c.in_err-one_generic.field-0.0 in
    let before : c.loop-index.index < length c.args.formals.now.generics.keys = omega arith in
    let lt = subst (λ m. i < m) (within (generics_of s) all c.args.formals.now.generics.keys h) before in
    told_by (of_those (generics_of s) n e all) fault _ c.from_residual.result c.from_residual.ensures.1 (λ e p. p)
    (one_told (generics_of s) n e all i lt (of_those (generics_of s) n e all) (c.loop-index.invariant all h k).0 fault (c.in_err-one_generic.ensures.told all h k))

pub loop-index-preserved : goal.loop-index-preserved
loop-index-preserved c = λ all h k.
    let s = c.args.sight.now in
    let n = c.args.name.now in
    let e = view c.args.e.now in
    let i = c.loop-index.index in
    let before : c.loop-index.index < length c.args.formals.now.generics.keys = omega arith in
    let lt = subst (λ m. i < m) (within (generics_of s) all c.args.formals.now.generics.keys h) before in (
      those_go (generics_of s) n e all i lt _ (c.loop-index.invariant all h k).0 (c.in_ok-one_generic.ensures.fits all h k),
      fits_go (generics_of s) n e all i lt _ (c.loop-index.invariant all h k).1 (c.in_ok-one_generic.ensures.fits all h k),
    )

pub returns-clause-fits : goal.returns-clause-fits
returns-clause-fits c = λ all h k.
    let s = c.args.sight.now in
    let i = c.loop-index.index in
    let behind : length c.args.formals.now.generics.keys ≤ c.loop-index.index = omega arith in
    let le = subst (λ m. m ≤ i) (within (generics_of s) all c.args.formals.now.generics.keys h) behind in
    fits_end (generics_of s) c.args.name.now (view c.args.e.now) all i _ le (c.loop-index.invariant all h k).1
