use Rattle.std.proofs.Common.{Option, subst, ◌∙◌}
use Rattle.byte_streams.specs.Written.{Goes}
use Rattle.rtlsim_refusals.specs.Explained.{Told, explained}
use Rattle.rtlsim_command_faults.proofs.explaining.explain_read.Goals as goal

pub returns : goal.returns
returns g c =
    let state = g.S.Sink.state in
    let told = c.in-Ok-told_read.ensures in (
      record { read = record { text = c.deref.result.now; tokens = told.0 }; expected = told.1 },
      (c.deref.ensures.value ∙ c.in-Ok.ensures, told.2, told.3),
      subst (λ (t : Option Told). Goes (state c.args.sink.now) (state c.push_told.new.sink) (explained t)) told.4 c.push_told.ensures,
    )
