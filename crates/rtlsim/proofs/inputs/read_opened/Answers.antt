use Rattle.byte_streams.specs.Read.{ReaderState}
use Rattle.rtlsim.proofs.Files.{file_fails}
use Rattle.rtlsim.proofs.inputs.read_opened.Goals as goal

pub returns-clause-failed : goal.returns-clause-failed
returns-clause-failed g c =
    let remaining = g.F.File.Read.remaining in
    let reader = c.read_input.new.reader in
    let old : ReaderState = record { left = remaining c.new.result.reader; failed = c.new.result.failed } in
    let new : ReaderState = record { left = remaining reader.reader; failed = reader.failed } in
    file_fails remaining c.args.file old new c.new.ensures.left c.in-Err.fault _ c.in-Err.ensures.failed c.of_name.ensures
