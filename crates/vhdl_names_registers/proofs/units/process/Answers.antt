use Rattle.std.proofs.Common.{ap, ◌∙◌}
use Rattle.vhdl_names_rules.specs.units.Units as u
use Rattle.vhdl_names_rules.specs.Registers.{body_written, concurrent_written}
use Rattle.vhdl_names_units.specs.views.Sequential.{body_view}
use Rattle.vhdl_names_units.specs.views.Concurrent.{process_view}
use Rattle.vhdl_names_registers.proofs.units.process.Goals as goal

pub returns : goal.returns
unfolding concurrent_written
returns c =
    ap (λ b. u.process (record (process_view c.args.x.now) { body = b }))
    (c.in_ok-x.ensures ∙ ap (λ v. body_written (body_view v)) c.replace-body.ensures.value)
