use Rattle.std.proofs.Common.{◌<◌, ◌++◌, ◌∷◌, ℕ, List, [], ap, subst, sym, ◌∙◌, arith, length, Vec}
use Rattle.std.specs.Global.{Global}
use Rattle.std.proofs.lemmas.List.{length-map, length-replicate}
use Rattle.rtl_net_groups.specs.Lists.{rows}
use Rattle.rtl_net_groups.specs.steps.Listed.{IsListedIn}
use Rattle.rtl_net_groups.proofs.Listing.{rows_push, nones_more, by_first_none, by_first_more}
use Rattle.rtl_net_groups.proofs.listed.listed_by_group.Goals as goal

pub loop-group-preserved : goal.loop-group-preserved
loop-group-preserved c =
    ap rows c.in_ok-push.ensures.items ∙ rows_push c.loop-group.by_group.items c.new.result
    ∙ ap (λ (xs : List ℕ). rows c.loop-group.by_group.items ++ xs ∷ []) c.new.ensures.items
    ∙ ap (λ (rs : List (List ℕ)). rs ++ [] ∷ []) c.loop-group.invariant
    ∙ sym (nones_more c.loop-group._group)

pub loop-process-init : goal.loop-process-init
loop-process-init c =
    let is = c.loop-group.invariant in
    record {
      as_many = sym (length-map c.loop-group.by_group.items (λ (v : Vec ℕ Global). v.items)) ∙ ap length is ∙ length-replicate c.loop-group._group [] ∙ omega arith;
      listed = rw is (by_first_none c.args.nets_of.now c.args.runs.now.first.items c.loop-group._group);
    }

pub loop-process-preserved : goal.loop-process-preserved
loop-process-preserved c =
    let I = c.loop-process.invariant in
    let first = c.args.runs.now.first.items in
    let k = c.loop-process.process in
    let within : k < length c.args.nets_of.now = omega (arith, c.loop-process-test.true, c.count-process-end.ensures) in
    let old = rows c.loop-process.by_group.items in
    let new = rows c.list_process.new.by_group.items in
    record {
      as_many = c.in_ok-list_process.ensures.as_many ∙ I.as_many;
      listed = by_first_more c.args.nets_of.now first k old new within I.listed
          (subst (λ (nets : List ℕ). IsListedIn k nets first old new) c.get.ensures c.in_ok-list_process.ensures.added);
    }
