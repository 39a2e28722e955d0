use Rattle.std.proofs.Common.{rules, ◌≡◌, Some, Err, inr}
use Rattle.rtlsim.specs.Reads.{AreStandard, GivesBoth}
use Rattle.rtlsim.specs.Unread.{Unread, unread_of}
use Rattle.rtlsim.proofs.texts.read_both.Goals as goal

pub returns-in_err-stimulus-clause-failed : goal.returns-in_err-stimulus-clause-failed
returns-in_err-stimulus-clause-failed g c =
    let apart : AreStandard c.args.file.now c.args.stimulus.now → ⊥ = search rules in
    let fails : (unread : Unread) → unread_of c.in_err-stimulus.field-0.0 ≡ Some unread
    → GivesBoth g.I.Inputs.gives c.args.file.now c.args.stimulus.now (g.I.Inputs.state c.args.inputs.now) (g.I.Inputs.state c.read_one-3.new.inputs) (Err unread) =
    λ unread is. inr (apart, inr (c.in_ok-source.source.items, _, c.in_ok-source.ensures.given, c.in_err-stimulus.ensures.failed unread is)) in
    search (rules, fails)
