use Rattle.std.proofs.Common.{◌≡◌, ◌<◌, ◌∙◌, refl, sym, ap, ℕ, List, [], ◌∷◌, ◌++◌, length, get_or, set, Vec, arith}
use Rattle.std.specs.Global.{Global}
use Rattle.std.proofs.lemmas.List.{get_or_default, length-set, length-map, map-set}
use Rattle.rtl_net_groups.specs.Lists.{rows}
use Rattle.rtl_net_groups.proofs.Listing.{row_is, listed_first, listed_later}
use Rattle.rtl_net_groups.proofs.listed.list_process.Goals as goal
use Rattle.rtl_net_groups.proofs.listed.list_process.Goals.{then-index-net+in_ok-push, else-index-net}

pub loop-net-preserved : goal.loop-net-preserved
loop-net-preserved c =
    let nets = c.args.nets.now in
    let i = c.loop-net.net-index in
    let net = get_or nets i 0 in
    let of_net = c.args.runs.now.of_net.items in
    let first = c.args.runs.now.first.items in
    let old = rows c.args.by_group.now.items in
    let by_group = c.loop-net.by_group.items in
    let I = c.loop-net.invariant in
    let R = c.requires.runs in
    let net_in = c.requires.there i 0 c.loop-net-test.true in
    let group = c.index-group.result.now in
    let group_is : group ≡ get_or of_net net 0 = c.index-group.ensures ∙ get_or_default of_net net group 0 net_in in
    let group_in : group < length first = omega (arith, group_is, R.there net net_in) in
    let first_is : c.index.result.now ≡ get_or first group 0 = c.index.ensures ∙ get_or_default first group c.index.result.now 0 group_in in
    let own : (g : ℕ) → g < length first → get_or first g 0 ≡ net → g ≡ group = λ g l e. sym (R.begins g l).1 ∙ ap (λ (n : ℕ). get_or of_net n 0) e ∙ sym group_is in
    let there : group < length by_group = omega (arith, group_in, I.as_many, c.requires.as_many) in
    elim c.if-index-net.branch [
      | then-index-net+in_ok-push w ↦
          let row = row_is by_group group w.index_mut.result.now there w.index_mut.ensures.value in
          let is = map-set (λ (v : Vec ℕ Global). v.items) by_group group w.push.new.self
          ∙ ap (set (rows by_group) group) (w.in_ok-push.ensures.items ∙ ap (λ (r : List ℕ). r ++ c.args.process ∷ []) (sym row)) in
          rw (w.by_group-is) (record {
            as_many = length-set by_group group w.push.new.self ∙ I.as_many;
            added = rw is (listed_first c.args.process first nets i net group old (rows by_group) c.loop-net-test.true refl own I.added (rw length-map there) (sym first_is ∙ w.if-index-net.true));
          })
      | else-index-net w ↦
          rw (w.by_group-is) (record {
            as_many = I.as_many;
            added = listed_later c.args.process first nets i net group old (rows by_group) c.loop-net-test.true refl own I.added (λ e. w.if-index-net.false (first_is ∙ e));
          })
    ]
