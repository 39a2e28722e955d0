use Rattle.std.proofs.Common.{ℕ, List, ap, sym, ◌∙◌, arith}
use Rattle.std.proofs.lemmas.List.{drop_all, length-set}
use Rattle.rtl_model.specs.simulation.Cycle.{with_changes}
use Rattle.rtl_kernel.specs.kernel.Simulation.{each_given}
use Rattle.rtl_kernel.proofs.Changing.{changed_more}
use Rattle.rtl_kernel.proofs.Started.{given_at, length-given}
use Rattle.rtl_kernel.proofs.starts.give_each.Goals as goal

pub loop-number-preserved : goal.loop-number-preserved
loop-number-preserved c =
    let nets = c.args.nets.now in
    let values = c.args.values.now in
    let i = c.loop-number.number in
    record {
      as_many = length-set _ _ _ ∙ c.loop-number.invariant.as_many;
      rest = changed_more (each_given nets values) i _ c.code.result c.loop-number.codes c.args.codes.now
          (rw (length-given nets values c.requires.as_many) c.loop-number-test.true)
          (given_at nets values i 0 c.code.result _ c.loop-number-test.true (rw (c.requires.as_many) c.loop-number-test.true) c.code.ensures.code) c.loop-number.invariant.rest;
    }

pub returns : goal.returns
returns c =
    let cs = each_given c.args.nets.now c.args.values.now in
    let I = c.loop-number.invariant in
    let done = drop_all c.loop-number.number cs (omega (arith, length-given c.args.nets.now c.args.values.now c.requires.as_many, c.loop-number-test.false)) in
    record {
      as_many = I.as_many;
      each = λ m. sym (ap (λ (xs : List (ℕ × ℕ)). with_changes xs c.loop-number.codes m) done) ∙ I.rest m;
    }
