use Rattle.std.proofs.Common.{◌<◌, ◌≤◌, List, Some, Vec, Global, length, map, ap, ◌∙◌, arith}
use Rattle.vhdl_names_trees.specs.declared.test.Test.{Test}
use Rattle.vhdl_names_rules.specs.Edges.{edge, taken, level_of}
use Rattle.vhdl_names_trees.specs.views.Tests.{test_view}
use Rattle.vhdl_names_trees.specs.views.Vectors.{place_view}
use Rattle.vhdl_names_registers.specs.Views.{tests_view}
use Rattle.vhdl_names_registers.proofs.Parting.{vec_len_is}
use Rattle.vhdl_names_registers.proofs.Taking.{has_level, no_level_kind, none_below, none_found, taken_at}
use Rattle.vhdl_names_registers.proofs.conditions.take_level.Goals as goal

pub returns-in-Some : goal.returns-in-Some
returns-in-Some c =
    let l = c.loop-index in
    let x = c.index.result.now in
    let p = place_view c.args.place.now in
    let kind = c.in-Some.kind in
    let lt : l.index < length l.all.items = omega (arith, vec_len_is c.args.all.now, ap (λ (v : Vec Test Global). length v.items) l.invariant.0) in
    ap (λ (ts : List Test). Some (edge kind p, map test_view ts)) c.remove.ensures.items
    ∙ (taken_at (level_of p) l.all.items l.index x (edge kind p) lt c.index.ensures l.invariant.1 (has_level p (test_view x) kind c.in-Some.ensures)
    ∙ ap (λ (v : Vec Test Global). taken (level_of p) (tests_view v)) l.invariant.0)

pub loop-index-preserved : goal.loop-index-preserved
loop-index-preserved c =
    let l = c.loop-index in
    let x = c.index.result.now in
    let p = place_view c.args.place.now in
    let lt : l.index < length l.all.items = omega (arith, vec_len_is c.args.all.now, ap (λ (v : Vec Test Global). length v.items) l.invariant.0) in
    (l.invariant.0, none_below (level_of p) l.all.items l.index x lt c.index.ensures l.invariant.1 (no_level_kind p (test_view x) c.in_default.ensures))

pub returns : goal.returns
returns c =
    let l = c.loop-index in
    let p = place_view c.args.place.now in
    let le : length l.all.items ≤ l.index = omega (arith, vec_len_is c.args.all.now, ap (λ (v : Vec Test Global). length v.items) l.invariant.0) in
    none_found (level_of p) l.all.items l.index le l.invariant.1 ∙ ap (λ (v : Vec Test Global). taken (level_of p) (tests_view v)) l.invariant.0
