use Rattle.rtlsim_commands.specs.Told.{TellsOthers, asks_others}
use Rattle.rtlsim_command_faults.specs.Explanations.{files_of}
use Rattle.rtlsim_command_faults.specs.Places.{byte_of}
use Rattle.rtlsim_commands.specs.Wider.{TellsWider, asks_wider}
use Rattle.rtlsim_command_faults.specs.declared.faults.Fault.{Fault}
use Rattle.vhdl_front_rules.specs.Asking.{asked_view}
use Rattle.std.proofs.Common.{subst}
use Rattle.rtlsim_commands.proofs.ending.refuse_source.Goals as goal

pub returns : goal.returns
returns g c =
    let said = c.tell_source_fault-said.result in
    let telling = c.args.telling.now in
    let asked = asked_view c.args.asked in
    let widened = g.E.Sink.state c.tell_wider.new.err in
    let wider = λ (f : Fault). TellsWider (asks_wider telling.explains telling.language said) (files_of telling) asked (byte_of f)
    (g.E.Sink.state c.tell_source_fault-said.new.err) widened in
    let others = λ (f : Fault). TellsOthers (asks_others telling.explains f said) telling asked f widened (g.E.Sink.state c.tell_others.new.err) in (
      said,
      record {
        between = _;
        first = c.tell_source_fault-said.ensures;
        behind = record { widened = _; wider = subst wider c.from-fault.ensures c.tell_wider.ensures; others = subst others c.from-fault.ensures c.tell_others.ensures };
      },
      c.ended_by_writes.ensures,
    )
