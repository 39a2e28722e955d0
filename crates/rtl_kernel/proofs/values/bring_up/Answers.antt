use Rattle.std.proofs.Common.{ℕ, arith, refl, sym, subst, ◌∙◌, get_or}
use Rattle.rtl_net_groups.specs.Groups.{AreNetsOf}
use Rattle.std.proofs.lemmas.List.{get_or_default}
use Rattle.rtl_model.proofs.simulation.Rows.{differs_event}
use Rattle.rtl_kernel.proofs.Events.{none_differ, one_behind}
use Rattle.rtl_kernel.proofs.values.bring_up.Goals as goal

pub loop-group-init : goal.loop-group-init
loop-group-init c = record {
  as_many = refl;
  later = λ n differ. let (k, l, is) = c.requires.covers.events n (differs_event c.args.before.now c.args.current.now n differ) in (k, omega arith, l, get_or_default c.args.changed.now k 0 _ l ∙ is);
}

pub loop-group-preserved : goal.loop-group-preserved
loop-group-preserved c =
    let I = c.loop-group.invariant in
    record {
      as_many = c.replace-differ.ensures.written.as_many ∙ I.as_many;
      later = one_behind c.args.groups.now c.args.changed.now c.loop-group.before c.replace-differ.new.over c.args.current.now c.loop-group.group-index _ _
          (subst (λ (f : ℕ). AreNetsOf c.args.groups.now (get_or c.args.changed.now c.loop-group.group-index 0) f c.end-end.result) (sym c.first-first.ensures) c.end-end.ensures)
          c.requires.each_net (I.as_many ∙ c.requires.as_many) c.replace-differ.ensures.written I.later;
    }

pub returns : goal.returns
returns c =
    none_differ c.loop-group.before c.args.current.now (c.loop-group.invariant.as_many ∙ c.requires.as_many)
    (λ n differ. let (k, from, within, is) = c.loop-group.invariant.later n differ in omega arith)
