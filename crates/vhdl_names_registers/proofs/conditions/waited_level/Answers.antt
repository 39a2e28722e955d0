use Rattle.std.proofs.Common.{Option, Some, None, refl, sym, ap, ◌∙◌}
use Rattle.std.specs.Prelude.{option_map}
use Rattle.vhdl_values.specs.declared.scalar.Nine.{Nine}
use Rattle.vhdl_names_rules.specs.Rules.{◌>>=◌, then_some}
use Rattle.vhdl_names_rules.specs.Edges.{edge, edge_to}
use Rattle.vhdl_names_trees.specs.views.Tests.{test_view}
use Rattle.vhdl_names_trees.specs.views.Vectors.{place_view, value_view}
use Rattle.vhdl_names_registers.specs.Looking.{signal_in}
use Rattle.vhdl_names_registers.specs.Views.{edge_view}
use Rattle.vhdl_names_registers.proofs.Levels.{waited_none, waited_some}
use Rattle.vhdl_names_registers.proofs.conditions.waited_level.Goals as goal

pub returns-in_err-left : goal.returns-in_err-left
returns-in_err-left c = rw c.from_residual.ensures (waited_none (test_view c.args.condition) c.in_err-left.ensures)

pub returns-in_err-character_in : goal.returns-in_err-character_in
returns-in_err-character_in c =
    let x = value_view c.in_ok-left.left in
    ap (option_map edge_view) c.from_residual-in_err-character_in.ensures
    ∙ waited_some (test_view c.args.condition) x (value_view c.in_ok-left.right) None (signal_in x) c.in_ok-left.ensures
    (ap (λ (o : Option Nine). o >>= edge_to) c.in_err-character_in.ensures) refl

pub returns-in_err-kind : goal.returns-in_err-kind
returns-in_err-kind c =
    let x = value_view c.in_ok-left.left in
    ap (option_map edge_view) c.from_residual-in_err-kind.ensures
    ∙ waited_some (test_view c.args.condition) x (value_view c.in_ok-left.right) None (signal_in x) c.in_ok-left.ensures
    (c.in_err-kind.ensures ∙ ap (λ (o : Option Nine). o >>= edge_to) c.in_ok-character_in.ensures) refl

pub returns-in_err-place : goal.returns-in_err-place
returns-in_err-place c =
    ap (option_map edge_view) c.from_residual-in_err-place.ensures
    ∙ waited_some (test_view c.args.condition) (value_view c.in_ok-left.left) (value_view c.in_ok-left.right) (Some c.in_ok-kind.kind) None c.in_ok-left.ensures
    (c.in_ok-kind.ensures ∙ ap (λ (o : Option Nine). o >>= edge_to) c.in_ok-character_in.ensures) c.in_err-place.ensures

pub returns-then-is_static_part : goal.returns-then-is_static_part
returns-then-is_static_part c =
    let kind = c.in_ok-kind.kind in
    let p = place_view c.in_ok-place.place in
    sym (ap (λ b. then_some b (edge kind p)) (sym c.is_static_part.ensures ∙ c.if-is_static_part.true))
    ∙ waited_some (test_view c.args.condition) (value_view c.in_ok-left.left) (value_view c.in_ok-left.right) (Some kind) (Some p) c.in_ok-left.ensures
    (c.in_ok-kind.ensures ∙ ap (λ (o : Option Nine). o >>= edge_to) c.in_ok-character_in.ensures) c.in_ok-place.ensures

pub returns : goal.returns
returns c =
    let kind = c.in_ok-kind.kind in
    let p = place_view c.in_ok-place.place in
    sym (ap (λ b. then_some b (edge kind p)) (sym c.is_static_part.ensures ∙ c.if-is_static_part.false))
    ∙ waited_some (test_view c.args.condition) (value_view c.in_ok-left.left) (value_view c.in_ok-left.right) (Some kind) (Some p) c.in_ok-left.ensures
    (c.in_ok-kind.ensures ∙ ap (λ (o : Option Nine). o >>= edge_to) c.in_ok-character_in.ensures) c.in_ok-place.ensures
