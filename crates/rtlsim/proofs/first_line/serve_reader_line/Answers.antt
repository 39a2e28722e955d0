use Rattle.std.proofs.Common.{refl}
use Rattle.rtlsim.specs.Inputs.{GivesStandardAlone, GivesWhole}
use Rattle.rtlsim.proofs.Refusing.{tells_wordless}
use Rattle.rtlsim.proofs.Serving.{serves_first}
use Rattle.rtlsim.proofs.first_line.serve_reader_line.Goals as goal

pub returns-in-Ok : goal.returns-in-Ok
returns-in-Ok g c =
    let line = c.first_line.result in
    serves_first GivesStandardAlone (g.R.Reader.state c.args.input.now.reader) (g.R.Reader.state c.read_input.new.reader) c.serve_line.result _
    c.in-Ok.all.items _ line.0.now line.1.now c.serve_line.new.inputs.reader.now c.deref.ensures.value c.first_line.ensures.line c.first_line.ensures.rest
    c.in-Ok.ensures.whole c.serve_line.ensures

pub returns-in-Err : goal.returns-in-Err
returns-in-Err g c = tells_wordless (GivesWhole (g.R.Reader.state c.args.input.now.reader) (g.R.Reader.state c.read_input.new.reader)) _ _ _ _ c.in-Err.fault _ c.of.ensures c.in-Err.ensures.failed refl c.refuse_input.ensures.told c.refuse_input.ensures.status refl
