use Rattle.std.proofs.Common.{rules, ◌≡◌, Err, Some, inr, map, option_map, string_bytes, refl}
use Rattle.rtlsim.specs.Inputs.{Reading}
use Rattle.rtlsim.specs.Requests.{GivesFiles}
use Rattle.rtlsim.specs.Texts.{read_view, texts_of}
use Rattle.rtlsim.specs.Unread.{Unread, unread_of}
use Rattle.rtlsim_command_line.specs.Words.{call_view}
use Rattle.rtlsim.proofs.texts.read_texts.Goals as goal

pub returns-clause-given : goal.returns-clause-given
returns-clause-given g c = (
  (map read_view c.in_ok-before.before.items, (texts_of c.in_ok-main.main, option_map (λ text. text.items) c.in_ok-expected.expected)),
  (
    g.I.Inputs.state c.read_files.new.inputs,
    c.in_ok-before.ensures.given,
    (g.I.Inputs.state c.read_main.new.inputs, c.in_ok-main.ensures.given, c.in_ok-expected.ensures.given),
  ),
  refl,
)

pub returns-in_err-expected-clause-failed : goal.returns-in_err-expected-clause-failed
returns-in_err-expected-clause-failed g c =
    let Gives : Reading = g.I.Inputs.gives in
    let fails : (unread : Unread) → unread_of c.in_err-expected.field-0.0 ≡ Some unread → GivesFiles Gives (call_view c.args.call.now)
    (record { before = map string_bytes c.args.before.now; last = c.args.file.now }) (g.I.Inputs.state c.args.inputs.now)
    (g.I.Inputs.state c.read_maybe.new.inputs) (Err unread) =
    λ unread is. inr (
      map read_view c.in_ok-before.before.items,
      g.I.Inputs.state c.read_files.new.inputs,
      c.in_ok-before.ensures.given,
      inr (texts_of c.in_ok-main.main, g.I.Inputs.state c.read_main.new.inputs, c.in_ok-main.ensures.given, c.in_err-expected.ensures.failed unread is),
    ) in
    search (rules, fails)
