use Rattle.std.proofs.Common.{cond, None, sym, ap, ◌∙◌}
use Rattle.std.specs.Prelude.{option_map}
use Rattle.vhdl_names_trees.specs.views.Tests.{test_view}
use Rattle.vhdl_names_registers.specs.Looking.{SeenView, seen, start_view, gate_view, is_one}
use Rattle.vhdl_names_registers.specs.Looking as look
use Rattle.vhdl_names_registers.proofs.Gating.{gate_is, no_gate_is}
use Rattle.vhdl_names_registers.proofs.gates.gate_of.Goals as goal

pub returns-in_err-start : goal.returns-in_err-start
returns-in_err-start c =
    let t = test_view c.args.test.now in
    ap (option_map gate_view) c.from_residual.ensures ∙ sym (no_gate_is t (sym (ap (λ (s : SeenView). s.start) c.seen_in-all.ensures) ∙ ap (option_map start_view) c.in_err-start.was))

pub returns-then-is_one : goal.returns-then-is_one
returns-then-is_one c =
    let t = test_view c.args.test.now in
    let e = c.seen_in-all.ensures in
    let s = start_view c.in_ok-start.start in
    c.begun.ensures
    ∙ (ap (λ (a : SeenView). look.begun t a s) e
    ∙ (ap (λ b. cond b (look.begun t (seen None t) s) None) (sym c.if-is_one.true ∙ (c.is_one.ensures ∙ ap (λ (a : SeenView). is_one a.events) e))
    ∙ sym (gate_is t s (sym (ap (λ (s : SeenView). s.start) e) ∙ ap (option_map start_view) c.in_ok-start.was))))

pub returns : goal.returns
returns c =
    let t = test_view c.args.test.now in
    let e = c.seen_in-all.ensures in
    let s = start_view c.in_ok-start.start in
    ap (λ b. cond b (look.begun t (seen None t) s) None) (sym c.if-is_one.false ∙ (c.is_one.ensures ∙ ap (λ (a : SeenView). is_one a.events) e))
    ∙ sym (gate_is t s (sym (ap (λ (s : SeenView). s.start) e) ∙ ap (option_map start_view) c.in_ok-start.was))
