use Rattle.std.proofs.Common.{◌≡◌, ℕ, ◌<◌, List, [], length, get_or, replicate, Bool, Some, false, sym, ap, subst, refl, ◌∙◌, arith}
use Rattle.std.proofs.Math.ListN.{length-replicate}
use Rattle.std.proofs.lemmas.List.{length_push}
use Rattle.rtl_check_levels.specs.Feeding.{Table, IsIn, feeders_of}
use Rattle.rtl_check_nets.proofs.Built.{none_feed, all_in, none_counts}
use Rattle.rtl_check_nets.proofs.table.NetTable.new.Goals as goal

pub loop-net-init : goal.loop-net-init
loop-net-init c = let e = c.in_ok-rows.ensures.items in record {
  each = ap length e;
  there = λ row h. absurd (let k = ap length e in omega arith);
  fed = λ row. subst (λ (rows : Table). feeders_of rows row ≡ []) (sym e) refl;
}

pub loop-net-preserved : goal.loop-net-preserved
loop-net-preserved c =
    let i = c.in_ok-push.ensures.items in
    let v = c.loop-net.invariant in
    record {
      each = ap length i ∙ (let e = length_push c.loop-net.rows.items (Some c.new.result) in let f = v.each in omega arith);
      there = subst (λ (rows : Table). (row : ℕ) → row < length rows → IsIn rows row) (sym i) (all_in c.loop-net.rows.items c.new.result v.there);
      fed = subst (λ (rows : Table). (row : ℕ) → feeders_of rows row ≡ []) (sym i) (none_feed c.loop-net.rows.items c.new.result c.new.ensures.items v.fed);
    }

pub returns : goal.returns
returns c =
    let v = c.loop-net.invariant in
    let n : length c.loop-net.rows.items ≡ c.args.nets = (let e = v.each in let f = c.loop-net-test.false in let g = c.loop-net.auto._net-end in omega arith) in
    let counts = c.in_ok-vec.ensures.items_if_clones_equal (λ y e. e) in
    record {
      each = n;
      each_count = ap length counts ∙ length-replicate {A = Bool} c.args.nets false;
      there = λ row h. v.there row (omega arith);
      fed = v.fed;
      counts = λ row. subst (λ (bs : List Bool). get_or bs row false ≡ false) (sym counts) (none_counts c.args.nets row);
    }
