-- What was expected at a token of a source that the parser refuses.
use Rattle.std.specs.Prelude.{◌≡◌, ℕ, Option, Some, None}
use Rattle.fault_rules.specs.declared.source.SyntaxRule.TheVariants as grammar
use Rattle.fault_rules.specs.declared.report.Place.{Place}
use Rattle.fault_rules.specs.declared.report.Place.TheVariants.{Byte}
use Rattle.fault_rules.specs.declared.report.Report.{Report}
use Rattle.fault_rules.specs.declared.report.Rule.{Rule}
use Rattle.fault_rules.specs.declared.report.Rule.TheVariants as rule
use Rattle.vhdl_lexer.specs.declared.language.Language.{Language}
use Rattle.vhdl_slips.specs.Words.{Read}
use Rattle.vhdl_expected.specs.Told.{IsExpected}
use Rattle.vhdl_parser_rules.specs.Expected.{Expected, nothing}

abbrev pub byte_of : Place → Option ℕ
byte_of (Byte at) = Some at
byte_of _ = None

-- where a rule has a token refused
abbrev pub refused_at : Rule → Place → Option ℕ
refused_at (rule.Syntax grammar.Unexpected) place = byte_of place
refused_at _ place = None

abbrev pub refused_byte : Option Report → Option ℕ
refused_byte None = None
refused_byte (Some report) = refused_at report.rule report.place

abbrev pub IsExpectedAt : Language → Read → (byte : Option ℕ) → Expected → Type 0
IsExpectedAt language read None found = found ≡ nothing
IsExpectedAt language read (Some at) found = IsExpected language read.text read.tokens at found

-- nothing, where the report isn't of such a token
abbrev pub IsExpectedBy : Language → Read → Option Report → Expected → Type 0
IsExpectedBy language read report found = IsExpectedAt language read (refused_byte report) found
