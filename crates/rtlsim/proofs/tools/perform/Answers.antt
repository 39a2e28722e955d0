use Rattle.std.proofs.Common.{inl, inr, refl}
use Rattle.rtlsim.specs.Requests.{GivesTexts}
use Rattle.rtlsim.specs.Tools.{Performs}
use Rattle.rtlsim.proofs.Refusing.{tells_unread}
use Rattle.rtlsim_command_line.specs.Words.{call_view}
use Rattle.rtlsim.proofs.tools.perform.Goals as goal

pub returns-in-Ok-read_texts : goal.returns-in-Ok-read_texts
unfolding Performs
returns-in-Ok-read_texts g c =
    let texts = rw (c.deref.ensures.value, c.as_str.ensures.value) at c.in-Ok-read_texts.ensures.given in
    elim (c.perform_texts.ensures) [ inl t ↦ inl t | inr s ↦ inr (inr (_, (_, _, c.in-Ok.ensures.given, texts), s)) ]

pub returns-in-Err : goal.returns-in-Err
unfolding Performs
returns-in-Err g c =
    tells_unread (GivesTexts g.I.Inputs.gives (call_view c.args.call.now) (g.I.Inputs.state c.args.inputs.now) (g.I.Inputs.state c.read_sources.new.inputs)) _ _ _ _ _
    (λ unread is. inl (c.in-Err.ensures.failed unread is)) refl c.refuse_input.ensures.told c.refuse_input.ensures.status refl

pub returns : goal.returns
unfolding Performs
returns g c =
    tells_unread (GivesTexts g.I.Inputs.gives (call_view c.args.call.now) (g.I.Inputs.state c.args.inputs.now) (g.I.Inputs.state c.read_texts.new.inputs)) _ _ _ _ _
    (λ unread is. inr (_, _, c.in-Ok.ensures.given, rw (c.deref.ensures.value, c.as_str.ensures.value) at (c.in-Err-read_texts.ensures.failed unread is))) refl
    c.refuse_input-in-Err-read_texts.ensures.told c.refuse_input-in-Err-read_texts.ensures.status refl
