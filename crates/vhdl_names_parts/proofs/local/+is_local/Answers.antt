use Rattle.std.proofs.Common.{◌+◌, ◌<◌, ◌≤◌, map, length, drop, ap, sym, ◌∙◌, arith}
use Rattle.std.specs.Prelude.{◌&&◌}
use Rattle.vhdl_tree.specs.Tree.{exprs_of}
use Rattle.vhdl_tree.specs.View.{view}
use Rattle.vhdl_names_rules.specs.Local.{are_local}
use Rattle.vhdl_names_parts.proofs.Locals.{all_next, none_next, arguments_local}
use Rattle.vhdl_names_parts.proofs.local.+is_local.Goals as goal

pub suffix_is_local-returns-in-Arguments : goal.suffix_is_local-returns-in-Arguments
suffix_is_local-returns-in-Arguments t c =
    c.are_local.ensures ∙ ap (λ es. are_local c.args.sight.now (exprs_of (map view es))) c.deref.ensures.value
    ∙ sym (arguments_local c.args.sight.now c.args.suffix.now c.in-Arguments.all c.in-Arguments.is)

pub are_local-loop-e-preserved : goal.are_local-loop-e-preserved
are_local-loop-e-preserved t c =
    let s = c.args.sight.now in
    let es = c.args.all.now in
    let i = c.loop-e.e-index in
    let lt : c.loop-e.e-index < length c.args.all.now = omega arith in
    c.loop-e.invariant ∙ all_next s es i c.e-item.result lt c.e-item.is
    ∙ ap (λ b. b && are_local s (exprs_of (map view (drop (i + 1) es)))) (sym c.is_local.ensures ∙ c.if-not-is_local.false)

pub are_local-returns-then-not-is_local : goal.are_local-returns-then-not-is_local
are_local-returns-then-not-is_local t c =
    let s = c.args.sight.now in
    let es = c.args.all.now in
    let i = c.loop-e.e-index in
    let lt : c.loop-e.e-index < length c.args.all.now = omega arith in
    sym (c.loop-e.invariant ∙ all_next s es i c.e-item.result lt c.e-item.is
    ∙ ap (λ b. b && are_local s (exprs_of (map view (drop (i + 1) es)))) (sym c.is_local.ensures ∙ c.if-not-is_local.true))

pub are_local-returns : goal.are_local-returns
are_local-returns t c =
    let past : length c.args.all.now ≤ c.loop-e.e-index = omega arith in
    sym (c.loop-e.invariant ∙ none_next c.args.sight.now c.args.all.now c.loop-e.e-index past)
