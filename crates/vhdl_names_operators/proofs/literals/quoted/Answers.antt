use Rattle.std.proofs.Common.{sym, ap, ◌∙◌}
use Rattle.vhdl_names_rules.specs.Literals as rules
use Rattle.vhdl_names_operators.proofs.Quotations.{behind_quote, no_quote}
use Rattle.vhdl_names_operators.proofs.literals.quoted.Goals as goal

pub returns-in-Some : goal.returns-in-Some
returns-in-Some c = c.but_last.ensures ∙ ap rules.but_last (behind_quote _ _ (sym c.quote_of.ensures.quote ∙ c.in-Some.is))

pub returns-in-None : goal.returns-in-None
returns-in-None c = sym (ap rules.but_last (no_quote c.args.text.now (sym c.quote_of.ensures.quote ∙ c.in-None.is)))
