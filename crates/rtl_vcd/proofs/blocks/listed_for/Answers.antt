use Rattle.std.proofs.Common.{false, ℕ, List, ◌≡◌, ◌<◌, ◌+◌, ◌++◌, ◌∷◌, [], ◌∙◌, All, Contains, length, map, drop, get_or, ap, sym, subst, arith}
use Rattle.std.proofs.lemmas.List.{length-replicate}
use Rattle.std.proofs.lemmas.List.Elements.{All-weaker}
use Rattle.std.proofs.lemmas.Result.{IfOk-weaker}
use Rattle.rtl_net.specs.Nets.{SignalView, signal_view}
use Rattle.rtl_net_groups.specs.Groups.{AreGroups, IsListed}
use Rattle.rtl_vcd.specs.declared.blocks.Block.{Block}
use Rattle.rtl_net.specs.Showing.{IsShown}
use Rattle.rtl_vcd.specs.Blocks.{AreListed}
use Rattle.rtl_vcd.proofs.Names.{part_of_names}
use Rattle.rtl_vcd.proofs.Hulls.{this_block}
use Rattle.rtl_vcd.proofs.Listed.{EachNet, all_nets, nets_by, nets_of_next, nets_of_all, nets_by_there, listed_from}
use Rattle.rtl_vcd.proofs.blocks.listed_for.Goals as goal

-- no block
abbrev none : Block
none = record { names = 0; least = 0; greatest = 0; is_compared = false }

pub loop-block-preserved : goal.loop-block-preserved
loop-block-preserved c =
    let net = c.args.shown.net.now in
    let names = map signal_view c.args.shown.signals.now in
    let bs = c.args.blocks.now in
    let k = c.loop-block.block-index in
    let block = get_or bs k none in
    let next = c.loop-block.next in
    let I = c.loop-block.invariant in
    let here = this_block (length net.types) bs k none next names c.loop-block-test.true I.within I.left in
    let nets = c.as_slice.ensures.value ∙ c.in_ok-nets.ensures ∙ ap all_nets (part_of_names c.args.shown.signals.now next block.names) in
    let pushed = c.in_ok-push.ensures.ok ∙ ap (λ ns. c.loop-block.nets_of ++ ns ∷ []) nets in
    record {
      within = here.1;
      left = here.2;
      each = ap (λ ls. ls ++ nets_by (drop (k + 1) bs) (drop (next + block.names) names)) pushed
          ∙ sym (nets_of_next c.loop-block.nets_of bs k none next names c.loop-block-test.true) ∙ I.each;
    }

-- the nets of names are there
are_there : (nets : ℕ) (names : List SignalView) → All (IsShown nets) names → EachNet (λ n. n < nets) names
are_there nets names shown = All-weaker (IsShown nets) (λ (s : SignalView). All (λ n. n < nets) s.nets) (λ s h. h.there) names shown

pub new-requires-2 : goal.new-requires-2
new-requires-2 c =
    let net = c.args.shown.net.now in
    let names = map signal_view c.args.shown.signals.now in
    let bs = c.args.blocks.now in
    let lists = sym (nets_of_all c.loop-block.nets_of bs c.loop-block.block-index (drop c.loop-block.next names) c.loop-block-test.false) ∙ c.loop-block.invariant.each in
    let many : length c.deref.result.now ≡ length net.types = ap length (c.deref.ensures.value ∙ c.in_ok-declared.ensures.items_if_clones_equal (λ y e. e)) ∙ length-replicate c.nets.result 0 ∙ c.nets.ensures.count in
    rw (lists, many) (nets_by_there (λ n. n < length net.types) bs names (are_there (length net.types) names c.args.shown.fits.each))

pub returns : goal.returns
returns c =
    let net = c.args.shown.net.now in
    let names = map signal_view c.args.shown.signals.now in
    let bs = c.args.blocks.now in
    let nets = length net.types in
    let lists = sym (nets_of_all c.loop-block.nets_of bs c.loop-block.block-index (drop c.loop-block.next names) c.loop-block-test.false) ∙ c.loop-block.invariant.each in
    let many : length c.deref.result.now ≡ nets = ap length (c.deref.ensures.value ∙ c.in_ok-declared.ensures.items_if_clones_equal (λ y e. e)) ∙ length-replicate c.nets.result 0 ∙ c.nets.ensures.count in
    IfOk-weaker c.new-2.result (AreGroups c.deref.result.now c.loop-block.nets_of) (λ g. AreListed nets g bs names)
    (λ g groups. record {
      each_net = groups.each_net ∙ many;
      each =
          listed_from (λ n. n < nets) g 0 bs names (are_there nets names c.args.shown.fits.each)
          (λ p n m at lt h.
          let within : n < length c.deref.result.now = omega (arith, lt, many) in
          let e : p ≡ m = omega (arith, at) in
          subst (λ k. IsListed g k n) e ((groups.listed n p within).1 (subst (λ ls. Contains (get_or ls p []) n) (sym lists) h)));
    }) c.new-2.ensures
