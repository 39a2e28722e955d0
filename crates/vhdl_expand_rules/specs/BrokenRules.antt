-- The rule that a problem breaks.
use Rattle.fault_rules.specs.declared.source.ElabRule.{ElabRule}
use Rattle.fault_rules.specs.declared.source.ElabRule.TheVariants as rule
use Rattle.vhdl_expand_rules.specs.declared.fault.ElabProblem.{ElabProblem}
use Rattle.vhdl_expand_rules.specs.declared.fault.ElabProblem.TheVariants as problem

abbrev pub rule_of : ElabProblem → ElabRule
rule_of problem.NoTop = rule.NoTop
rule_of problem.NoGeneric = rule.NoGeneric
rule_of problem.GenericRange = rule.GenericRange
rule_of problem.StaticError = rule.StaticError
rule_of (problem.Length found needed) = rule.Length
rule_of problem.Index = rule.Index
rule_of problem.TooWide = rule.TooWide
rule_of problem.Unassociated = rule.Unassociated
rule_of problem.TwoUnresolved = rule.TwoUnresolved
rule_of problem.ReadOfShared = rule.ReadOfShared
rule_of problem.TooDeep = rule.TooDeep
rule_of problem.TooMany = rule.TooMany
