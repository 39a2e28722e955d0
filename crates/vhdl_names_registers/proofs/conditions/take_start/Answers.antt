use Rattle.std.proofs.Common.{◌<◌, ◌≤◌, List, Some, Vec, Global, length, map, sym, ap, ◌∙◌, arith}
use Rattle.vhdl_names_trees.specs.declared.test.Test.{Test}
use Rattle.vhdl_names_rules.specs.Edges.{taken, start_of}
use Rattle.vhdl_names_trees.specs.views.Tests.{test_view}
use Rattle.vhdl_names_registers.specs.Views.{tests_view}
use Rattle.vhdl_names_registers.proofs.Parting.{vec_len_is}
use Rattle.vhdl_names_registers.proofs.Taking.{start_taken, no_start, none_below, none_found}
use Rattle.vhdl_names_registers.proofs.conditions.take_start.Goals as goal

pub returns-then-is_start : goal.returns-then-is_start
returns-then-is_start c =
    let l = c.loop-index in
    let r = c.remove.result in
    let lt : l.index < length l.all.items = omega (arith, vec_len_is c.args.all.now, ap (λ (v : Vec Test Global). length v.items) l.invariant.0) in
    ap (λ (ts : List Test). Some (test_view r, map test_view ts)) c.remove.ensures.items
    ∙ (start_taken l.all.items l.index c.index.result.now r lt c.index.ensures c.remove.ensures.value l.invariant.1 (sym c.is_start.ensures ∙ c.if-is_start.true)
    ∙ ap (λ (v : Vec Test Global). taken start_of (tests_view v)) l.invariant.0)

pub loop-index-preserved : goal.loop-index-preserved
loop-index-preserved c =
    let l = c.loop-index in
    let x = c.index.result.now in
    let lt : l.index < length l.all.items = omega (arith, vec_len_is c.args.all.now, ap (λ (v : Vec Test Global). length v.items) l.invariant.0) in
    (l.invariant.0, none_below start_of l.all.items l.index x lt c.index.ensures l.invariant.1 (no_start (test_view x) (sym c.is_start.ensures ∙ c.if-is_start.false)))

pub returns : goal.returns
returns c =
    let l = c.loop-index in
    let le : length l.all.items ≤ l.index = omega (arith, vec_len_is c.args.all.now, ap (λ (v : Vec Test Global). length v.items) l.invariant.0) in
    none_found start_of l.all.items l.index le l.invariant.1 ∙ ap (λ (v : Vec Test Global). taken start_of (tests_view v)) l.invariant.0
