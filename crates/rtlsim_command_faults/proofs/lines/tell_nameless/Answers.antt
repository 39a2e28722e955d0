use Rattle.std.proofs.Common.{◌≡◌, true, false, refl, rules, arith}
use Rattle.std.proofs.lemmas.Grind.{common_steps}
use Rattle.rtlsim_command_faults.proofs.Told.{told_alone, told_below, told_unread}
use Rattle.rtlsim_command_faults.proofs.lines.tell_nameless.Goals as goal

pub returns-then-not-telling : goal.returns-then-not-telling
returns-then-not-telling g c net =
    let state = g.E.Sink.state in
    let quiet : c.args.telling.now.explains ≡ false = first_of (search rules, grind (arith, common_steps)) in
    told_alone c.args.telling.now net c.args.fault.now (state c.args.err.now) (state c.args.err.now) (state c.push_nameless.new.sink) quiet (c.push_nameless.ensures net) _ c.status.ensures

pub returns-then-explain_nameless : goal.returns-then-explain_nameless
returns-then-explain_nameless g c net =
    let asked : c.args.telling.now.explains ≡ true = first_of (search rules, grind (arith, common_steps)) in
    told_below c.args.telling.now net c.args.fault.now _ _ _ asked (c.push_nameless.ensures net) c.explain_nameless.result c.if-explain_nameless.true c.explain_nameless.ensures _
    c.status-then-explain_nameless.ensures

pub returns-else-explain_nameless : goal.returns-else-explain_nameless
returns-else-explain_nameless g c net =
    let state = g.E.Sink.state in
    let asked : c.args.telling.now.explains ≡ true = first_of (search rules, grind (arith, common_steps)) in
    told_unread c.args.telling.now net c.args.fault.now (state c.args.err.now) (state c.explain_nameless.new.sink) (state c.push_memory.new.sink) asked (state c.push_nameless.new.sink)
    (c.push_nameless.ensures net) c.explain_nameless.result c.if-explain_nameless.false c.explain_nameless.ensures c.push_memory.ensures _ refl
