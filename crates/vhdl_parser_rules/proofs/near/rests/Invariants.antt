use Rattle.std.proofs.Common.{◌≡◌, length}
use Rattle.vhdl_parser_rules.specs.Near as spec
use Rattle.vhdl_parser_rules.proofs.near.rests.Given as goal

-- what is left of both decides
abbrev pub invariant-loop-text : goal.invariant-loop-text
invariant-loop-text l = spec.rests l.text l.word ≡ spec.rests l.initial.text l.initial.word

abbrev pub decreases-loop-text : goal.decreases-loop-text
decreases-loop-text l = length l.text
