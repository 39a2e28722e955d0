use Rattle.std.proofs.Common.{List, ℕ, map, subst}
use Rattle.byte_streams.specs.Written.{Goes}
use Rattle.rtlsim_command_faults.specs.Refusal.{IsObject}
use Rattle.rtlsim_command_faults.specs.declared.faults.Fault.{Fault}
use Rattle.vhdl_source_files.specs.Files.{file_view}
use Rattle.rtlsim_command_faults.proofs.Described.{described}
use Rattle.rtlsim_command_faults.proofs.describing.describe_refusal.Goals as goal
use Rattle.vhdl_front_rules.specs.Asking.{asked_view}

pub returns-in-Ok-clause-described : goal.returns-in-Ok-clause-described
returns-in-Ok-clause-described g c =
    let state = g.S.Sink.state in
    let files = map file_view c.args.files.now in
    let object = c.in-Ok.object.items in
    let is = subst (λ (f : Fault). IsObject files (asked_view c.args.asked) f object) c.from.ensures c.in-Ok.ensures in
    let goes = subst (λ (text : List ℕ). Goes (state c.args.out.now) (state c.push_text.new.sink) text) c.deref.ensures.value c.push_text.ensures in
    described files (asked_view c.args.asked) c.args.fault object _ _ is goes
