-- What faults report: the rule, where it is broken, and what is told of it. Want of memory reports nothing.
use Rattle.std.specs.Prelude.{ℕ, Option, Some, None}
use Rattle.rtl_expect.specs.declared.faults.ExpectFault.{ExpectFault}
use Rattle.rtl_expect.specs.declared.faults.ExpectFault.TheVariants as expect
use Rattle.fault_rules.specs.declared.source.SyntaxRule.TheVariants as grammar
use Rattle.fault_rules.specs.declared.source.LexRule.TheVariants as lexing
use Rattle.fault_rules.specs.declared.report.Place.TheVariants.{Byte, Line, Nowhere, Time}
use Rattle.fault_rules.specs.declared.report.Report.{Report}
use Rattle.fault_rules.specs.declared.report.Rule.{Rule}
use Rattle.fault_rules.specs.declared.report.Rule.TheVariants as rule
use Rattle.fault_rules.specs.declared.report.Subject.{Subject}
use Rattle.fault_rules.specs.declared.report.Subject.TheVariants.{Lengths, Nothing, Race, Word}
use Rattle.fault_rules.specs.declared.settling.RunRule.TheVariants.{NoSettling, NotTraced}
use Rattle.fault_rules.specs.declared.stimuli.StimRule.TheVariants as stimuli
use Rattle.rtl_stim_lines.specs.declared.faults.StimFault.{StimFault}
use Rattle.rtl_stim_lines.specs.declared.faults.StimFault.TheVariants as stim
use Rattle.vhdl_expand_rules.specs.declared.fault.ElabFault.{ElabFault}
use Rattle.vhdl_expand_rules.specs.declared.fault.ElabFault.TheVariants as elab
use Rattle.vhdl_expand_rules.specs.declared.fault.ElabProblem.{ElabProblem}
use Rattle.vhdl_expand_rules.specs.BrokenRules as broken
use Rattle.vhdl_expand_rules.specs.declared.fault.ElabProblem.TheVariants as elaborated
use Rattle.vhdl_lexer.specs.declared.fault.LexFault.{LexFault}
use Rattle.vhdl_lexer.specs.declared.fault.LexFault.TheVariants as lex
use Rattle.vhdl_names_rules.specs.declared.fault.NameFault.{NameFault}
use Rattle.vhdl_names_rules.specs.declared.fault.NameFault.TheVariants as names
use Rattle.vhdl_names_rules.specs.BrokenRules as named
use Rattle.vhdl_parser_rules.specs.declared.fault.SyntaxFault.{SyntaxFault}
use Rattle.vhdl_parser_rules.specs.declared.fault.SyntaxFault.TheVariants as syntax

abbrev pub at_byte : Rule → (at : ℕ) → Subject → Report
at_byte rule at subject = record { rule = rule; place = Byte at; subject = subject }

-- ---- a source

abbrev pub lex_report : LexFault → Option Report
lex_report (lex.BadByte at) = Some (at_byte (rule.Lex lexing.BadByte) at Word)
lex_report (lex.OpenComment at) = Some (at_byte (rule.Lex lexing.OpenComment) at Word)
lex_report (lex.OpenString at) = Some (at_byte (rule.Lex lexing.OpenString) at Word)
lex_report (lex.BadIdentifier at) = Some (at_byte (rule.Lex lexing.BadIdentifier) at Word)
lex_report (lex.BadNumber at) = Some (at_byte (rule.Lex lexing.BadNumber) at Word)
lex_report (lex.TooLong at) = Some (at_byte (rule.Lex lexing.TooLong) at Word)
lex_report lex.NoMemory = None

abbrev pub syntax_report : SyntaxFault → Option Report
syntax_report (syntax.Unexpected at) = Some (at_byte (rule.Syntax grammar.Unexpected) at Word)
syntax_report (syntax.EndOfFile at) = Some (at_byte (rule.Syntax grammar.EndOfFile) at Word)
syntax_report (syntax.TooDeep at) = Some (at_byte (rule.Syntax grammar.TooDeep) at Word)
syntax_report syntax.NoMemory = None

abbrev pub name_report : NameFault → Option Report
name_report (names.At problem at) = Some (at_byte (rule.Name (named.rule_of problem)) at Word)
name_report names.NoMemory = None

abbrev pub elab_subject : ElabProblem → Subject
elab_subject elaborated.NoTop = Nothing
elab_subject (elaborated.Length found needed) = Lengths found needed
elab_subject problem = Word

abbrev pub elab_report : ElabFault → Option Report
elab_report (elab.At problem at) = Some (at_byte (rule.Elab (broken.rule_of problem)) at (elab_subject problem))
elab_report elab.NoMemory = None

-- ---- a stimulus, expected values and a run

abbrev pub stim_report : StimFault → Option Report
stim_report (stim.InLine its_rule line) =
    Some (record { rule = rule.Stim its_rule; place = Line line; subject = Nothing })
stim_report stim.NoStop = Some (record { rule = rule.Stim stimuli.NoStop; place = Nowhere; subject = Nothing })
stim_report (stim.Race time input clock) =
    Some (record { rule = rule.Stim stimuli.Race; place = Time time; subject = Race input clock })
stim_report stim.NoMemory = None

abbrev pub expect_report : ExpectFault → Option Report
expect_report (expect.InLine its_rule line) =
    Some (record { rule = rule.Expect its_rule; place = Line line; subject = Nothing })
expect_report expect.NoMemory = None

-- the name at this place, from 1, that chooses nothing to be traced
abbrev pub untraced_report : (place : ℕ) → Report
untraced_report place = record { rule = rule.Run NotTraced; place = Line place; subject = Nothing }

-- a moment that doesn't settle
abbrev pub settle_report : (time : ℕ) → Report
settle_report time = record { rule = rule.Run NoSettling; place = Time time; subject = Nothing }
