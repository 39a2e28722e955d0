use Rattle.std.proofs.Common.{◌==◌, ℕ, ap, sym, ◌∙◌}
use Rattle.std.specs.List.{list_all}
use Rattle.rtl_net.specs.Bodies.{statements_of}
use Rattle.rtl_body_facts.specs.Reading.{is_in}
use Rattle.rtl_mixed_reasons.proofs.Driven.{alike-none, alike-some}
use Rattle.rtl_mixed_reasons.proofs.resets.assigns_alike.Goals as goal

pub returns-then-is_empty : goal.returns-then-is_empty
returns-then-is_empty c =
    let nets = c.in_ok-nets.nets in
    alike-none c.args.process.now (statements_of c.args.statements.now) nets.items c.in_ok-nets.ensures.are (λ n. is_in n c.args.edge.now)
    (sym (ap (λ (n : ℕ). n == 0) nets.ok.0) ∙ (sym c.is_empty.ensures ∙ c.if-is_empty.true))

pub returns : goal.returns
returns c =
    let nets = c.in_ok-nets.nets in
    c.are_among.ensures ∙ (ap (list_all (λ n. is_in n c.args.edge.now)) c.deref.ensures.value
    ∙ alike-some c.args.process.now (statements_of c.args.statements.now) nets.items c.in_ok-nets.ensures.are (λ n. is_in n c.args.edge.now)
    (sym (ap (λ (n : ℕ). n == 0) nets.ok.0) ∙ (sym c.is_empty.ensures ∙ c.if-is_empty.false)))
