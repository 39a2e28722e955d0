use Rattle.std.proofs.Common.{◌≡◌, ◌+◌, ◌≤◌, ◌++◌, rules, length, map, take, take-add, drop, arith, refl, subst, sym, ap, ◌∙◌}
use Rattle.std.proofs.lemmas.Grind.{common_steps}
use Rattle.std.proofs.lemmas.List.{length-map, drop-drop}
use Rattle.rtl_net.specs.Nets.{signal_view}
use Rattle.rtl_vcd.specs.Blocks.{IsBlockOf}
use Rattle.rtl_vcd.proofs.Hulls.{ends_within, same_bounds}
use Rattle.rtl_vcd.proofs.blocks.block_at.Goals as goal

pub returns-then-block-gt-FEW-clause-block : goal.returns-then-block-gt-FEW-clause-block
returns-then-block-gt-FEW-clause-block c =
    same_bounds (length c.args.shown.net.now.types) _ c.close_at-block.result _ refl refl refl c.close_at-block.ensures.block

pub overflow_add-next : goal.overflow_add-next
overflow_add-next c =
    let signals = c.args.shown.signals.now in
    let many = length-map signals signal_view in
    let within = ends_within (length c.args.shown.net.now.types) c.close_at-block.result c.args.first (map signal_view signals) (omega (arith, c.requires.there, many)) c.close_at-block.ensures.block in
    let there : c.args.first + c.close_at-block.result.names ≤ length signals = omega (arith, within, many) in
    first_of (search rules, grind (arith, common_steps))

pub loop-next-init : goal.loop-next-init
loop-next-init c =
    let names = map signal_view c.args.shown.signals.now in
    let many = length-map c.args.shown.signals.now signal_view in
    let within = ends_within (length c.args.shown.net.now.types) c.close_at-block.result c.args.first names (omega (arith, c.requires.there, many)) c.close_at-block.ensures.block in
    (omega arith, within, c.close_at-block.ensures.some, c.close_at-block.ensures.block)

pub loop-next-preserved : goal.loop-next-preserved
loop-next-preserved c =
    let names = map signal_view c.args.shown.signals.now in
    let types = length c.args.shown.net.now.types in
    let first = c.args.first in
    let next = c.loop-next.next in
    let before = c.loop-next.block in
    let more = c.close_at-more.result in
    let block = c.with-block.result in
    let I = c.loop-next.invariant in
    let within = ends_within types more next names I.1 c.close_at-more.ensures.block in
    let further : take before.names (drop first names) ++ take more.names (drop next names) ≡ take (before.names + more.names) (drop first names) =
    sym (take-add before.names more.names (drop first names)
    ∙ ap (λ ns. take before.names (drop first names) ++ take more.names ns) (drop-drop before.names first names ∙ ap (λ n. drop n names) I.0)) in (
      omega (arith, I.0, c.with-block.ensures.names),
      within,
      omega (arith, I.2, c.with-block.ensures.names),
      subst (λ n. IsBlockOf types block (take n (drop first names))) (sym c.with-block.ensures.names)
          (subst (IsBlockOf types block) further
          (c.with-block.ensures.block types (take before.names (drop first names)) (take more.names (drop next names)) I.3 c.close_at-more.ensures.block)),
    )
