use Rattle.std.proofs.Common.{ℕ, ◌+◌, ◌/◌, ◌<◌, ◌∙◌, List, length, map, refl, sym, ap, subst, arith}
use Rattle.std.specs.Prelude.{All, slice_index}
use Rattle.std.proofs.lemmas.Result.{IfOk-weaker}
use Rattle.rtl_copy_ends.proofs.Tables.{in-one, far-within, joined-are}
use Rattle.rtl_copy_ends.proofs.table.+after.Goals as goal

pub joined-requires : goal.joined-requires
joined-requires t c =
    let steps = c.args.steps.now in
    let half = c.in_ok-half.half.items in
    let are = far-within steps c.requires half (c.args.count / 2) c.in_ok-half.ensures in
    subst (λ (xs : List ℕ). All (λ p. p < length c.deref-2.result.now) xs) (sym c.deref.ensures.value)
    (subst (λ (n : ℕ). All (λ p. p < n) half) (sym (ap (λ (xs : List ℕ). length xs) c.deref-2.ensures.value ∙ c.in_ok-half.ensures.places)) are)

pub returns-then-count-eq0-2 : goal.returns-then-count-eq0-2
returns-then-count-eq0-2 t c =
    let half = c.in_ok-half.half.items in
    joined-are c.args.steps.now c.requires half half c.in_ok-twice.twice.items (c.args.count / 2) (c.args.count / 2) c.args.count c.in_ok-half.ensures c.in_ok-half.ensures
    (c.in_ok-twice.ensures ∙ (λ i. map (slice_index (c.deref-2.ensures.value i)) (c.deref.ensures.value i)))
    (let h = c.if-count-eq0-2.true in omega arith)

pub joined-requires-2 : goal.joined-requires-2
joined-requires-2 t c =
    let steps = c.args.steps.now in
    let half = c.in_ok-half.half.items in
    let twice = joined-are steps c.requires half half c.in_ok-twice.twice.items (c.args.count / 2) (c.args.count / 2) (c.args.count / 2 + c.args.count / 2) c.in_ok-half.ensures c.in_ok-half.ensures
    (c.in_ok-twice.ensures ∙ (λ i. map (slice_index (c.deref-2.ensures.value i)) (c.deref.ensures.value i))) refl in
    subst (λ (xs : List ℕ). All (λ p. p < length steps) xs) (sym c.deref-3.ensures.value)
    (far-within steps c.requires c.in_ok-twice.twice.items (c.args.count / 2 + c.args.count / 2) twice)

pub returns : goal.returns
returns t c =
    let steps = c.args.steps.now in
    let half = c.in_ok-half.half.items in
    let twice = joined-are steps c.requires half half c.in_ok-twice.twice.items (c.args.count / 2) (c.args.count / 2) (c.args.count / 2 + c.args.count / 2) c.in_ok-half.ensures c.in_ok-half.ensures
    (c.in_ok-twice.ensures ∙ (λ i. map (slice_index (c.deref-2.ensures.value i)) (c.deref.ensures.value i))) refl in
    IfOk-weaker c.joined-2.result _ _
    (λ far is. joined-are steps c.requires c.in_ok-twice.twice.items steps far.items (c.args.count / 2 + c.args.count / 2) 1 c.args.count twice (in-one steps)
    (is ∙ ap (map (slice_index steps)) c.deref-3.ensures.value)
    (let h = c.if-count-eq0-2.false in omega arith))
    c.joined-2.ensures
