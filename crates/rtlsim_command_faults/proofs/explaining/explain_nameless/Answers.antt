use Rattle.std.proofs.Common.{true, refl}
use Rattle.rtlsim_command_faults.proofs.Told.{explains_none, explains_plain, explains_read}
use Rattle.rtlsim_command_faults.specs.Reports.{elab_report, name_report, syntax_report}
use Rattle.rtlsim_command_faults.specs.declared.faults.Fault.TheVariants as f
use Rattle.rtlsim_command_faults.proofs.explaining.explain_nameless.Goals as goal

pub returns-in-Lex : goal.returns-in-Lex
returns-in-Lex g c =
    rw c.in-Lex.is (explains_plain c.args.telling.now (f.Lex c.in-Lex.told) _ _ _ refl c.explain_tokens.ensures.whole (λ net. rw c.lex_report.ensures at c.explain_tokens.ensures.told))

pub returns-in-Syntax : goal.returns-in-Syntax
returns-in-Syntax g c =
    let state = g.S.Sink.state in
    rw c.in-Syntax.is (explains_read c.args.telling.now (f.Syntax c.in-Syntax.told) (syntax_report c.in-Syntax.told) c.explain_read.result (state c.args.sink.now)
    (state c.explain_read.new.sink) refl refl (λ read net. refl) (rw c.syntax_report.ensures at c.explain_read.ensures))

pub returns-in-Name : goal.returns-in-Name
returns-in-Name g c =
    let state = g.S.Sink.state in
    rw c.in-Name.is (explains_read c.args.telling.now (f.Name c.in-Name.told) (name_report c.in-Name.told) c.explain_read-in-Name.result (state c.args.sink.now)
    (state c.explain_read-in-Name.new.sink) refl refl (λ read net. refl) (rw c.name_report.ensures at c.explain_read-in-Name.ensures))

pub returns-in-Elab : goal.returns-in-Elab
returns-in-Elab g c =
    let state = g.S.Sink.state in
    rw c.in-Elab.is (explains_read c.args.telling.now (f.Elab c.in-Elab.told) (elab_report c.in-Elab.told) c.explain_read-in-Elab.result (state c.args.sink.now)
    (state c.explain_read-in-Elab.new.sink) refl refl (λ read net. refl) (rw c.elab_report.ensures at c.explain_read-in-Elab.ensures))

pub returns-in-NoSettling : goal.returns-in-NoSettling
returns-in-NoSettling g c =
    let state = g.S.Sink.state in
    rw c.in-NoSettling.is (explains_plain c.args.telling.now (f.NoSettling c.in-NoSettling.time) true (state c.args.sink.now) (state c.explain_unsettled.new.sink) refl refl
    (λ net. rw c.source_name.ensures at c.explain_unsettled.ensures))

pub returns-in_default : goal.returns-in_default
returns-in_default g c =
    explains_none c.args.telling.now c.args.fault.now _ _ c.requires c.in_default.not-Lex c.in_default.not-Syntax c.in_default.not-Name c.in_default.not-Elab
    c.in_default.not-NoSettling c.push_text.ensures
