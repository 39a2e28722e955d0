use Rattle.std.specs.Prelude.{◌≢◌}
use Rattle.vhdl_expand_rules.specs.declared.fault.ElabFault.TheVariants.{NoMemory}
use Rattle.vhdl_names_rules.specs.units.Bytes.{process_bytes}
use Rattle.vhdl_names_units.specs.views.Concurrent as units
use Rattle.vhdl_expand_rules.specs.Expansion as definition
use Rattle.vhdl_expand_tree.specs.Views.{budget_view}
use Rattle.vhdl_expand.specs.Making as made
use Rattle.vhdl_expand.specs.Making.{adding, progress_view}
use Rattle.vhdl_expand.specs.Spots.{spot_view}
use Rattle.vhdl_expand.specs.Walks.{units_of}
use Rattle.vhdl_expand.proofs.Nested.{process_behind, process_refused}
use Rattle.vhdl_expand_rules.specs.Elab.{fault_told, MayTell}
use Rattle.vhdl_expand.proofs.Passing.{passed_told}
use Rattle.vhdl_expand.proofs.walk.Walk.add_process.Goals as goal

pub returns : goal.returns
returns c =
    process_behind c.args.so_far.now.parts.items c.push.new.self.items c.in_ok-made.made c.args.so_far.now.turns (budget_view c.args.so_far.now.left) (budget_view c.process.new.left)
    (definition.process (spot_view c.args.spot.now) (units.process_view c.args.written.now)) c.in_ok-made.ensures c.in_ok-push.ensures.items

pub returns-in_err-made : goal.returns-in_err-made
returns-in_err-made c =
    let stopped : c.in_err-made.field-0.0 ≢ NoMemory → MayTell (process_bytes (units.process_view c.args.written.now)) (adding (progress_view c.args.so_far.now) (made.process (units_of c.args.self.now) c.args.self.now.levels (spot_view c.args.spot.now) (units.process_view c.args.written.now))) (fault_told c.in_err-made.field-0.0) =
    λ n. process_refused (progress_view c.args.so_far.now) (definition.process (spot_view c.args.spot.now) (units.process_view c.args.written.now)) (c.in_err-made.ensures n) in
    passed_told _ _ c.in_err-made.field-0.0 _ c.from_residual.result c.from_residual.ensures.1 (λ e p. p) stopped
