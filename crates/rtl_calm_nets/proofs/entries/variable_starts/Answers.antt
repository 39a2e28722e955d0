use Rattle.std.proofs.Common.{◌≡◌, ℕ, List, ◌++◌, ap, sym, ◌∙◌, take, get_or, map}
use Rattle.std.proofs.lemmas.List.{length-map, take_all, take_more}
use Rattle.rtl_model.proofs.basics.Lists.{get_or-map_within}
use Rattle.rtl_model.specs.nets.FlatNetlist.{FlatVariable, element_starts}
use Rattle.rtl_net.specs.Nets.{variable_view}
use Rattle.rtl_calm_nets.proofs.Bodied.{element_starts-push}
use Rattle.rtl_calm_nets.proofs.entries.variable_starts.Goals as goal

pub loop-variable-preserved : goal.loop-variable-preserved
loop-variable-preserved c =
    let views = map variable_view c.args.variables.now in
    let i = c.loop-variable.variable-index in
    let v = c.variable-item.result in
    let at : get_or views i (variable_view v) ≡ variable_view v =
    get_or-map_within variable_view c.args.variables.now i v (variable_view v) c.loop-variable-test.true ∙ ap variable_view (sym c.variable-item.is) in
    c.in_ok-extend_from_slice.ensures.items ∙ ap (λ (xs : List ℕ). c.loop-variable.starts.items ++ xs) c.as_slice.ensures
    ∙ ap (λ (xs : List ℕ). xs ++ v.starts.items) c.loop-variable.invariant
    ∙ sym (ap element_starts (take_more views i (variable_view v) (rw length-map c.loop-variable-test.true)) ∙ element_starts-push (take i views) (get_or views i (variable_view v))
    ∙ ap (λ (w : FlatVariable). element_starts (take i views) ++ w.starts) at)

pub returns : goal.returns
returns c =
    c.loop-variable.invariant
    ∙ ap element_starts (take_all c.loop-variable.variable-index (map variable_view c.args.variables.now) (rw length-map c.loop-variable-test.false))
