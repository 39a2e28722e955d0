use Rattle.std.proofs.Common.{Option, unwrap_or, inr, refl, ap, sym}
use Rattle.rtlsim.specs.Unread.{Unread}
use Rattle.rtlsim.specs.declared.problem.InputProblem.TheVariants.{NoList}
use Rattle.rtlsim.proofs.texts.read_sources.Goals as goal

pub returns-in-Ok-Some-clause-given : goal.returns-in-Ok-Some-clause-given
returns-in-Ok-Some-clause-given g c =
    let names = rw (c.in-Ok-Some.field-0-is, c.as_bytes.ensures.value, c.deref-2.ensures.value) at c.in-Ok-Some.ensures in
    rw c.in-Some.is (c.in_ok-text.text.items, g.I.Inputs.state c.read_one.new.inputs, c.in_ok-text.ensures.given, (names, refl))

pub returns-in-Ok-None-clause-failed : goal.returns-in-Ok-None-clause-failed
returns-in-Ok-None-clause-failed g c = λ unread is.
    let none = rw (c.in-Ok-None.field-0-is, c.as_bytes.ensures.value, c.deref-2.ensures.value) at c.in-Ok-None.ensures in
    let told : Unread = record { name = c.in-Some.name.now; problem = NoList } in
    let same = sym (ap (λ (o : Option Unread). unwrap_or o told) is) in
    rw c.in-Some.is (inr (c.in_ok-text.text.items, g.I.Inputs.state c.read_one.new.inputs, c.in_ok-text.ensures.given, (none, same, refl)))
