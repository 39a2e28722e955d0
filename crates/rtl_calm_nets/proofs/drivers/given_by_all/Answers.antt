use Rattle.std.proofs.Common.{◌<◌, ◌+◌, ℕ, length, ap, ◌∙◌, arith}
use Rattle.std.proofs.lemmas.List.{length_push}
use Rattle.rtl_net.specs.Core.{core}
use Rattle.rtl_process_kinds.proofs.Processes.{many_processes}
use Rattle.rtl_calm_nets.proofs.Giving.{tree_at, many_trees, given_more, values_back}
use Rattle.rtl_calm_nets.proofs.drivers.given_by_all.Goals as goal

pub index-body-requires : goal.index-body-requires
index-body-requires c =
    let net = c.args.net.now in
    let trees = many_trees net c.in_ok-bodies.bodies.items c.in_ok-bodies.ensures in
    let many = many_processes net in
    let each = c.requires.kinds.each_process in
    let size = c.in_ok-bodies.bodies.ok.0 in
    let h = c.loop-number-test.true in
    omega arith

pub given_by-requires-clause-body : goal.given_by-requires-clause-body
given_by-requires-clause-body c =
    let net = c.args.net.now in
    let there : c.loop-number.number < length net.processes =
    (let many = many_processes net in let each = c.requires.kinds.each_process in let h = c.loop-number-test.true in omega arith) in
    tree_at net c.in_ok-bodies.bodies.items c.loop-number.number c.index-body.result.now c.in_ok-bodies.ensures there c.index-body.ensures

pub loop-number-preserved : goal.loop-number-preserved
loop-number-preserved c =
    let net = c.args.net.now in
    let l = c.loop-number in
    let back = values_back net.types l.values c.given_by.new.values c.deref_mut.result.now c.given_by.auto.values c.deref_mut.ensures.value c.in_ok-given.ensures.kept l.invariant.each_value in
    record {
      so_many = ap (λ xs. length xs) c.in_ok-push.ensures.items ∙ (length_push l.all.items c.in_ok-given.given ∙ ap (λ (k : ℕ). k + 1) l.invariant.so_many);
      so_far = given_more (core net) l.all.items c.push.new.self.items c.in_ok-given.given l.number l.invariant.so_many c.in_ok-push.ensures.items l.invariant.so_far c.in_ok-given.ensures.given;
      each_value = back.0;
      values_keep = back.1;
    }
