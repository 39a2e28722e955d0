use Rattle.std.proofs.Common.{◌≡◌, drop}
use Rattle.vhdl_names.specs.Views.{one_is_hidden}
use Rattle.vhdl_names.proofs.Mentioning.{declared_in}
use Rattle.vhdl_names.proofs.mentions.is_declared.Given as goal

-- what is left says it of the whole
abbrev pub invariant-loop-declaration : goal.invariant-loop-declaration
invariant-loop-declaration l =
    one_is_hidden l.given l.at (declared_in l.declarations) ≡ one_is_hidden l.given l.at (declared_in (drop l.declaration-index l.declarations))
