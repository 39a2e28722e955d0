use Rattle.std.proofs.Common.{ℕ, List, Option, Bool, sym, subst}
use Rattle.byte_streams.specs.Written.{SinkState, Goes}
use Rattle.rtlsim_command_faults.specs.Lines.{memory_line}
use Rattle.rtlsim.proofs.streams.refuse_memory.Goals as goal

pub returns-clause-told : goal.returns-clause-told
returns-clause-told g c =
    let held = g.E.Write.contents in
    let told : SinkState = record { taken = held c.push_memory.new.sink.writer; failed = c.push_memory.new.sink.failed } in
    record {
      told = told;
      tells = subst (λ (b : Bool). Goes (record { taken = held c.args.stderr; failed = b }) told memory_line) c.new-err.ensures.intact
          (subst (λ (t : Option (List ℕ)). Goes (record { taken = t; failed = c.new-err.result.failed }) told memory_line) c.new-err.ensures.bytes
          c.push_memory.ensures);
      held = sym c.into_inner.ensures;
      status = rw (← c.failed.ensures) c.ended_by.ensures;
    }
