use Rattle.std.proofs.Common.{arith, ◌<◌, ◌≤◌, length, false, map, ap, sym}
use Rattle.vhdl_tree.specs.Tree.{Expr}
use Rattle.vhdl_tree.specs.View.{association_view}
use Rattle.vhdl_names_rules.specs.Visibility.{Name}
use Rattle.vhdl_names_rules.specs.Instances.{GenericFormal}
use Rattle.vhdl_names_units.specs.Once.{names_view}
use Rattle.vhdl_names_rules.specs.problems.Broken.{Broken, any_of}
use Rattle.vhdl_names_rules.specs.problems.Instances.{associations, generic_actual, generics_named, generic_map}
use Rattle.vhdl_names_rules.proofs.Passing.{told_by}
use Rattle.vhdl_names_instances.specs.Table.{items}
use Rattle.vhdl_names_instances.specs.steps.Maps.{suits, reading}
use Rattle.vhdl_names_instances.proofs.Sorted.{generics_of}
use Rattle.vhdl_names_instances.proofs.Porting.{all_keep, formals_given}
use Rattle.vhdl_names_instances.proofs.Reading.{told_here, broken_here, reading_here, broken_end, reading_end}
use Rattle.vhdl_names_instances.proofs.maps.generic_map.Goals as goal

pub loop-index-init : goal.loop-index-init
loop-index-init c = λ all h k.
    let s = c.args.sight.now in
    let fs = map (λ (f : GenericFormal). f.name) all in
    let as' = map association_view c.args.list.now in
    let none = sym (ap (map items) c.new-taken.ensures.empty) in
    (ap (λ ts. associations fs (λ n e. any_of (λ f. generic_actual s e f) (generics_named all n)) fs false ts as') none, ap (λ ts. reading fs (suits s all) 0 false ts as') none)

pub returns-in_err-read_generic-clause-told : goal.returns-in_err-read_generic-clause-told
returns-in_err-read_generic-clause-told c = λ all h k.
    let s = c.args.sight.now in
    let fs = map (λ (f : GenericFormal). f.name) all in
    let actual : Name → Expr → Broken = λ n e. any_of (λ f. generic_actual s e f) (generics_named all n) in
    let whole = generic_map s all (map association_view c.args.list.now) in
    let fault = c.in_err-read_generic.field-0.0 in
    let lt : c.loop-index.index < length c.args.list.now = omega arith in
    told_by whole fault _ c.from_residual.result c.from_residual.ensures.1 (λ e p. p)
    (told_here fs actual c.args.list.now c.loop-index.index c.index-list-index.result lt c.index-list-index.is c.loop-index.is_behind_named (names_view c.loop-index.taken) whole
    (c.loop-index.invariant all h k).0 fault (c.in_err-read_generic.ensures.told all h k))

pub loop-index-preserved : goal.loop-index-preserved
loop-index-preserved c = λ all h k.
    let s = c.args.sight.now in
    let fs = map (λ (f : GenericFormal). f.name) all in
    let actual : Name → Expr → Broken = λ n e. any_of (λ f. generic_actual s e f) (generics_named all n) in
    let cs = c.args.list.now in
    let i = c.loop-index.index in
    let ts = names_view c.loop-index.taken in
    let ts' = names_view c.read_generic.new.taken in
    let lt : c.loop-index.index < length c.args.list.now = omega arith in (
      broken_here fs actual (suits s all) (λ n e. all_keep (generics_of s) n e all) cs i c.index-list-index.result lt c.index-list-index.is c.loop-index.is_behind_named ts _
          (c.loop-index.invariant all h k).0 c.is_named-is_behind_named.result c.is_named-is_behind_named.ensures ts' (c.in_ok-read_generic.ensures.read all h k),
      reading_here fs actual (suits s all) (λ n e. all_keep (generics_of s) n e all) cs i c.index-list-index.result lt c.index-list-index.is c.loop-index.is_behind_named ts _
          (c.loop-index.invariant all h k).1 c.is_named-is_behind_named.result c.is_named-is_behind_named.ensures ts' (c.in_ok-read_generic.ensures.read all h k),
    )

pub returns-clause-kept : goal.returns-clause-kept
returns-clause-kept c = λ all h k.
    let s = c.args.sight.now in
    let ts = names_view c.loop-index.taken in
    let le : length c.args.list.now ≤ c.loop-index.index = omega arith in
    broken_end (map (λ (f : GenericFormal). f.name) all) (λ n e. any_of (λ f. generic_actual s e f) (generics_named all n)) c.args.list.now c.loop-index.index c.loop-index.is_behind_named ts _ le (c.loop-index.invariant all h k).0

pub returns-clause-given : goal.returns-clause-given
returns-clause-given c = λ all h k.
    let s = c.args.sight.now in
    let ts = names_view c.loop-index.taken in
    let le : length c.args.list.now ≤ c.loop-index.index = omega arith in
    formals_given (generics_of s) all (map association_view c.args.list.now) ts
    (reading_end (map (λ (f : GenericFormal). f.name) all) (suits s all) c.args.list.now c.loop-index.index c.loop-index.is_behind_named ts _ le (c.loop-index.invariant all h k).1)
