use Rattle.std.proofs.Common.{sym, ap, ◌∙◌}
use Rattle.rtl_net.specs.declared.signal.Scope.{Scope}
use Rattle.rtl_net.proofs.Naming.{parent-at}
use Rattle.rtlsim_notes.proofs.scopes.parent_of.Goals as goal

pub returns-in-Some : goal.returns-in-Some
returns-in-Some c =
    let x = c.in-Some.found.now in
    let found = c.in-Some.ensures.lookup.3 in
    sym (parent-at c.args.scopes.now c.args.scope x found.0 ∙ ap (λ (s : Scope). s.parent) (sym (found.1 x)))
