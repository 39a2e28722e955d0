use Rattle.std.proofs.Common.{◌≡◌, ◌<◌, List, [], ◌∷◌, ◌++◌, map, reverse, subst, ap, sym, ◌∙◌}
use Rattle.std.specs.List.{sum_by}
use Rattle.vhdl_names_trees.specs.declared.test.Test.{Test}
use Rattle.vhdl_names_rules.specs.units.Expressions as u
use Rattle.vhdl_names_trees.specs.views.Tests.{test_view}
use Rattle.vhdl_names_registers.proofs.Branches.{none_left}
use Rattle.vhdl_names_registers.proofs.Parting.{vec_len_is}
use Rattle.vhdl_names_registers.proofs.Taking.{all_of, size_of, all_of_one, both_left, both_smaller, one_left, one_smaller}
use Rattle.vhdl_names_registers.proofs.conditions.conditions.Goals as goal

pub loop-next-init : goal.loop-next-init
loop-next-init c =
    let pushed : c.push.new.self.items ≡ c.args.test ∷ [] = c.in_ok-push.ensures.items ∙ ap (λ (ts : List Test). ts ++ c.args.test ∷ []) c.new-left.ensures.items in
    all_of_one c.args.test ∙ sym (λ i. all_of (pushed i) (c.new-all.ensures.items i))

pub loop-next-preserved : goal.loop-next-preserved
loop-next-preserved c =
    let l = c.loop-next in
    let left = c.pop.new.self.items in
    l.invariant
    ∙ (ap (λ (ts : List Test). all_of ts l.all.items) c.in-Some.ensures.items
    ∙ (one_left left c.in-Some.next c.in-Err.condition l.all.items c.in-Err.ensures ∙ sym (ap (all_of left) c.in_ok-push-in-Err.ensures.items)))

pub loop-next-smaller : goal.loop-next-smaller
loop-next-smaller c =
    let left = c.pop.new.self.items in
    subst (λ (old : List Test). sum_by size_of left < sum_by size_of old) (sym c.in-Some.ensures.items) (one_smaller left c.in-Some.next c.in-Err.condition c.in-Err.ensures)

pub loop-next-preserved-in-Continue-branch-3 : goal.loop-next-preserved-in-Continue-branch-3
loop-next-preserved-in-Continue-branch-3 c =
    let l = c.loop-next in
    let left = c.pop.new.self.items in
    let first = c.in-Ok.first in
    let second = c.in-Ok.second in
    let pushed : c.push-in-Ok-2.new.self.items ≡ (left ++ first ∷ []) ++ second ∷ [] =
    c.in_ok-push-in-Ok-2.ensures.items ∙ ap (λ (ts : List Test). ts ++ second ∷ []) c.in_ok-push-in-Ok.ensures.items in
    l.invariant
    ∙ (ap (λ (ts : List Test). all_of ts l.all.items) c.in-Some.ensures.items
    ∙ (ap (λ (ts : List u.Test). ts ++ map test_view (reverse l.all.items)) (both_left left c.in-Some.next first second c.in-Ok.ensures)
    ∙ sym (ap (λ (ts : List Test). all_of ts l.all.items) pushed)))

pub loop-next-smaller-in-Continue-branch-3 : goal.loop-next-smaller-in-Continue-branch-3
loop-next-smaller-in-Continue-branch-3 c =
    let left = c.pop.new.self.items in
    let first = c.in-Ok.first in
    let second = c.in-Ok.second in
    let next = c.in-Some.next in
    let pushed : c.push-in-Ok-2.new.self.items ≡ (left ++ first ∷ []) ++ second ∷ [] =
    c.in_ok-push-in-Ok-2.ensures.items ∙ ap (λ (ts : List Test). ts ++ second ∷ []) c.in_ok-push-in-Ok.ensures.items in
    subst (λ (old : List Test). sum_by size_of c.push-in-Ok-2.new.self.items < sum_by size_of old) (sym c.in-Some.ensures.items)
    (subst (λ (new : List Test). sum_by size_of new < sum_by size_of (left ++ next ∷ [])) (sym pushed) (both_smaller left next first second c.in-Ok.ensures))

pub returns : goal.returns
returns c =
    let l = c.loop-next in
    ap (map test_view) c.reverse.ensures.items
    ∙ sym (l.invariant ∙ ap (λ (ts : List Test). all_of ts l.all.items) (none_left l.left.items (sym (vec_len_is l.left) ∙ c.in_default.ensures.cases.0)))
