use Rattle.std.proofs.Common.{◌≡◌, drop}
use Rattle.vhdl_names.specs.Views.{one_is_hidden}
use Rattle.vhdl_names.proofs.Mentioning.{named_in}
use Rattle.vhdl_names.proofs.mentions.+instances.Given as goal

-- what is left says it of the whole
abbrev pub invariant-is_among-loop-statement : goal.invariant-is_among-loop-statement
invariant-is_among-loop-statement l =
    one_is_hidden l.given l.at (named_in l.statements) ≡ one_is_hidden l.given l.at (named_in (drop l.statement-index l.statements))
