use Rattle.std.proofs.Common.{map, sym, ap, ◌∙◌, arith}
use Rattle.rtl_net.specs.Nets.{scope_view}
use Rattle.vhdl_places.specs.Maps.{entity_name, instance_in}
use Rattle.vhdl_slips.specs.Words.{read_of}
use Rattle.rtlsim_notes.proofs.Ups.{entity_up}
use Rattle.rtlsim_notes.proofs.scopes.+entity_within.Goals as goal

pub returns-in-Some : goal.returns-in-Some
returns-in-Some t c =
    let source = read_of c.args.source in
    let scopes = map scope_view c.args.scopes.now in
    let is = sym c.parent_of.ensures ∙ c.in-Some.is in
    let here = c.instance_in.ensures ∙ ap (λ e. instance_in source e c.label_at-label.result.now) c.entity_within-entity.ensures
    ∙ ap (instance_in source _) c.label_at-label.ensures in
    c.entity_name.ensures ∙ ap (entity_name source.text) here
    ∙ entity_up scopes c.args.scope c.in-Some.parent is source c.args.steps (omega (arith, c.if-steps-eq0.false))
