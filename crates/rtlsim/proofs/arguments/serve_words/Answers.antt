use Rattle.std.proofs.Common.{ℕ, List, Bor, false, inr, map, string_bytes, refl, subst}
use Rattle.rtlsim.specs.Sinks.{Sinks, outputs}
use Rattle.byte_streams.specs.Read.{ReaderState}
use Rattle.rtlsim_command_line.specs.Words.{IsOfWords, SayNothing}
use Rattle.rtlsim.specs.Inputs.{Reading, GivesNamed}
use Rattle.rtlsim.specs.Tools.{ServesCall, ServesFirstLine}
use Rattle.rtlsim.proofs.Refusing.{refuses_for}
use Rattle.rtlsim.proofs.Serving.{is_none, is_some, of_reader, serves_none, serves_some}
use Rattle.rtlsim.proofs.arguments.serve_words.Goals as goal

pub returns-then-is_empty : goal.returns-then-is_empty
returns-then-is_empty g c =
    let Gives : Reading = GivesNamed g.T.File.Read.remaining in
    let old : ReaderState = record { left = g.R.Read.remaining c.args.reader; failed = false } in
    let after : ReaderState = record { left = g.R.Read.remaining c.tool_first_line.new.reader.reader; failed = c.tool_first_line.new.reader.failed } in
    let o : Sinks = record { out = g.O.Sink.state c.args.out.now; out_after = g.O.Sink.state c.tool_first_line.new.out; err = g.E.Sink.state c.args.err.now; err_after = g.E.Sink.state c.tool_first_line.new.err; progress = g.G.Sink.state c.args.progress.now; progress_after = g.G.Sink.state c.tool_first_line.new.progress } in (
      after,
      serves_none string_bytes Gives old after c.tool_first_line.result o c.args.args.now (is_none _ _ c.is_empty.ensures c.if-is_empty.true)
          (of_reader (λ (s : ReaderState). ServesFirstLine Gives s after c.tool_first_line.result o) _ _ _ c.new-reader.ensures.left c.new-reader.ensures.intact
          c.tool_first_line.ensures),
    )

pub returns-in-Ok : goal.returns-in-Ok
returns-in-Ok g c =
    let Gives : Reading = GivesNamed g.T.File.Read.remaining in
    let old : ReaderState = record { left = g.R.Read.remaining c.args.reader; failed = false } in
    let inputs = c.tool_with.new.inputs in
    let after : ReaderState = record { left = g.R.Read.remaining inputs.reader.reader; failed = inputs.reader.failed } in
    let o : Sinks = record { out = g.O.Sink.state c.args.out.now; out_after = g.O.Sink.state c.tool_with.new.out; err = g.E.Sink.state c.args.err.now; err_after = g.E.Sink.state c.tool_with.new.err; progress = g.G.Sink.state c.args.progress.now; progress_after = g.G.Sink.state c.tool_with.new.progress } in
    let served : ServesCall Gives (map (λ (word : Bor (List ℕ)). word.now) c.deref.result.now) old after c.tool_with.result o =
    of_reader (λ (s : ReaderState). ServesCall Gives (map (λ (word : Bor (List ℕ)). word.now) c.deref.result.now) s after c.tool_with.result o) _ _ _
    c.new-reader.ensures.left c.new-reader.ensures.intact c.tool_with.ensures in
    let of_items : ServesCall Gives (map (λ (word : Bor (List ℕ)). word.now) c.in-Ok.words.items) old after c.tool_with.result o =
    subst (λ (words : List (Bor (List ℕ))). ServesCall Gives (map (λ (word : Bor (List ℕ)). word.now) words) old after c.tool_with.result o) c.deref.ensures.value served in (
      after,
      serves_some string_bytes Gives old after c.tool_with.result o c.args.args.now (is_some _ _ c.is_empty.ensures c.if-is_empty.false)
          (subst (λ (words : List (List ℕ)). ServesCall Gives words old after c.tool_with.result o) c.in-Ok.ensures of_items),
    )

pub returns-in-Err : goal.returns-in-Err
returns-in-Err g c =
    let Gives : Reading = GivesNamed g.T.File.Read.remaining in
    let old : ReaderState = record { left = g.R.Read.remaining c.args.reader; failed = false } in
    let o : Sinks = record { out = g.O.Sink.state c.args.out.now; out_after = g.O.Sink.state c.args.out.now; err = g.E.Sink.state c.args.err.now; err_after = g.E.Sink.state c.refuse_words.new.err; progress = g.G.Sink.state c.args.progress.now; progress_after = g.G.Sink.state c.args.progress.now } in
    let none : IsOfWords c.from.result → SayNothing (map string_bytes c.args.args.now) = λ (x : IsOfWords c.from.result). absurd (subst IsOfWords c.from.ensures x) in (
      old,
      serves_some string_bytes Gives old old c.refuse_words.result o c.args.args.now (is_some _ _ c.is_empty.ensures c.if-is_empty.false)
          (inr (refuses_for {o = outputs o} none c.refuse_words.ensures, refl)),
    )
