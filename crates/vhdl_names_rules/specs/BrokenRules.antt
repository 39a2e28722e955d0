-- The rule that a problem breaks.
use Rattle.fault_rules.specs.declared.source.NameRule.{NameRule}
use Rattle.fault_rules.specs.declared.source.NameRule.TheVariants as rule
use Rattle.vhdl_names_rules.specs.declared.fault.NameProblem.{NameProblem}
use Rattle.vhdl_names_rules.specs.declared.fault.NameProblem.TheVariants as problem

abbrev pub rule_of : NameProblem → NameRule
rule_of problem.Undeclared = rule.Undeclared
rule_of problem.Twice = rule.Twice
rule_of problem.WrongKind = rule.WrongKind
rule_of problem.TypeMismatch = rule.TypeMismatch
rule_of problem.NotVisible = rule.NotVisible
rule_of problem.WriteOfIn = rule.WriteOfIn
rule_of problem.NoOthers = rule.NoOthers
rule_of problem.ChoiceTwice = rule.ChoiceTwice
rule_of problem.SecondArchitecture = rule.SecondArchitecture
rule_of problem.NoSensitivity = rule.NoSensitivity
rule_of problem.LeftOut = rule.LeftOut
