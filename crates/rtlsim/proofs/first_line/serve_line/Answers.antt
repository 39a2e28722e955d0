use Rattle.std.proofs.Common.{ℕ, List, Bor, inl, inr, map, refl, subst}
use Rattle.rtlsim.specs.Sinks.{Sinks}
use Rattle.rtlsim.specs.Tools.{ServesCall}
use Rattle.rtlsim.proofs.Refusing.{refuses_for}
use Rattle.rtlsim.proofs.first_line.serve_line.Goals as goal

pub returns-in-Ok : goal.returns-in-Ok
returns-in-Ok g c =
    let o : Sinks = record { out = g.O.Sink.state c.args.out.now; out_after = g.O.Sink.state c.tool_with.new.out; err = g.E.Sink.state c.args.err.now; err_after = g.E.Sink.state c.tool_with.new.err; progress = g.G.Sink.state c.args.progress.now; progress_after = g.G.Sink.state c.tool_with.new.progress } in
    let serves = λ (words : List (List ℕ)). ServesCall g.I.Inputs.gives words (g.I.Inputs.state c.args.inputs.now) (g.I.Inputs.state c.tool_with.new.inputs) c.tool_with.result o in
    inl (subst serves c.in-Ok.ensures.read (subst (λ (words : List (Bor (List ℕ))). serves (map (λ word. word.now) words)) c.deref.ensures.value c.tool_with.ensures))

pub returns-in-Err : goal.returns-in-Err
returns-in-Err g c = inr (refuses_for c.in-Err.ensures.refused c.refuse_words.ensures, refl)
