use Rattle.std.proofs.Common.{[], List, sym, ap, subst, ◌∙◌, arith}
use Rattle.std.specs.Prelude.{flat_map}
use Rattle.std.proofs.lemmas.List.{take_all}
use Rattle.std.proofs.lemmas.List.Folds.{flat_map-map}
use Rattle.byte_streams.specs.Written.{Goes}
use Rattle.byte_streams.proofs.Writing.{Goes-append, Goes-next}
use Rattle.rtl_expect.specs.Telling.{difference_said}
use Rattle.rtl_expect.specs.Watching.{difference_view}
use Rattle.rtl_expect.specs.declared.difference.Difference.{Difference}
use Rattle.rtl_expect.proofs.saying.push_differences.Goals as goal

pub loop-difference-preserved : goal.loop-difference-preserved
loop-difference-preserved g c =
    Goes-next _ _ _ [] (λ (d : Difference). difference_said (g.L.Literals.names c.args.literals.now) c.args.file.now c.args.net.now (difference_view d))
    c.deref-told.result.now c.loop-difference.difference-index c.difference-item.result c.loop-difference-test.true c.loop-difference.invariant
    (rw (← c.difference-item.is) c.push_difference_said.ensures)

pub returns : goal.returns
returns g c =
    let said = difference_said (g.L.Literals.names c.args.literals.now) c.args.file.now c.args.net.now in
    let of = λ (ds : List Difference). flat_map (λ (d : Difference). said (difference_view d)) ds in
    let all = ap of (take_all c.loop-difference.difference-index c.deref-told.result.now (omega (arith, c.loop-difference-test.false)))
    ∙ ap of c.deref-told.ensures.value ∙ sym (flat_map-map said difference_view c.args.differences.now.told.items) in
    Goes-append _ _ _ _ _ (subst (Goes (g.S.Sink.state c.args.sink.now) (g.S.Sink.state c.loop-difference.sink)) all c.loop-difference.invariant) c.push_more.ensures
