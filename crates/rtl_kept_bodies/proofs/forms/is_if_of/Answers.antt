use Rattle.std.proofs.Common.{sym, ap, ◌∙◌, ◌==◌, ℕ}
use Rattle.rtl_kept_bodies.proofs.Rows.{if_counted, if_not_counted}
use Rattle.rtl_kept_bodies.proofs.forms.is_if_of.Goals as goal

pub returns-in-Some : goal.returns-in-Some
returns-in-Some c = let i = c.in-If in if_not_counted c.args.statement.now i.at i.branches i.otherwise i.is c.args.many c.in-Some.field-0 c.in-Some.is

pub returns-in-None : goal.returns-in-None
returns-in-None c =
    let i = c.in-If in
    ap (λ (n : ℕ). n == c.args.many) (c.len.ensures ∙ i.branches.ok.0)
    ∙ sym (if_counted c.args.statement.now i.at i.branches i.otherwise i.is c.args.many c.in-None.is)
