-- What is told of remarks, as data: one of them tells elements of a vector that stand side by side, or digits of an
-- integer, and of which the same is said.
use Rattle.std.specs.Prelude.{ℕ, ◌==◌, ◌&&◌, ◌||◌, Bool, if◌then◌else◌, List, [], ◌∷◌, ◌++◌, bytes_eq, Option}
use Rattle.std.specs.List.{before_first}
use Rattle.rtl_net.specs.Names.{net_name}
use Rattle.rtl_net.specs.Nets.{NetlistView}
use Rattle.rtl_remarks.specs.declared.remark.Remark.{Remark}
use Rattle.rtl_remarks.specs.declared.remark.RemarkKind.{RemarkKind}
use Rattle.rtl_remarks.specs.declared.remark.RemarkKind.TheVariants as k
use Rattle.fault_rules.specs.Rules.{words_of}
use Rattle.fault_rules.specs.declared.remarking.RemarkRule.{RemarkRule}
use Rattle.fault_rules.specs.declared.remarking.RemarkRule.TheVariants as rule
use Rattle.fault_rules.specs.declared.report.Report.{Report}
use Rattle.fault_rules.specs.declared.report.Rule.TheVariants.{Remark as Remark'}
use Rattle.fault_rules.specs.declared.report.Subject.TheVariants.{Net}
use Rattle.rtlsim_findings.specs.Causes.{is_same_number}
use Rattle.rtlsim_findings.specs.Mixed.{name_of_process}
use Rattle.rtlsim_findings.specs.Ranges.{follows, range_text}
use Rattle.rtlsim_findings.specs.Sayings.{sentence}
use Rattle.rtlsim_findings.specs.declared.remarked.RemarkFinding.{RemarkFinding}
use Rattle.rtlsim_listing.specs.Reports.{place_of}

abbrev pub rule_of : RemarkKind → RemarkRule
rule_of k.Undriven = rule.Undriven
rule_of k.Unassigned = rule.Unassigned
rule_of k.IdlePort = rule.IdlePort
rule_of k.NotReset = rule.NotReset
rule_of k.ClockRead = rule.ClockRead
rule_of k.NeverKnown = rule.NeverKnown
rule_of k.UnreadElement = rule.UnreadElement
rule_of k.ClockWithoutLine = rule.ClockWithoutLine
rule_of k.InputWithoutLine = rule.InputWithoutLine
rule_of k.OutsideRange = rule.OutsideRange

abbrev pub report_of : Remark → Report
report_of r = record { rule = Remark' (rule_of r.kind); place = place_of r.process; subject = Net r.net }

abbrev pub number_of : Remark → ℕ
number_of remark = (words_of (report_of remark).rule).number

abbrev pub process_of : Remark → Option ℕ
process_of remark = remark.process

abbrev pub opens_digit : (byte : ℕ) → Bool
opens_digit byte = byte == 91

-- what stands before the `[k]` of an integer's digit
abbrev pub before_digit : List ℕ → List ℕ
before_digit name = before_first opens_digit name

-- an integer is told as a whole
abbrev pub name : NetlistView → Remark → List ℕ
name net remark = before_digit (net_name net remark.net)

-- of one kind, and of one process where they have one
abbrev pub is_same : (before remark : Remark) → Bool
is_same before remark = number_of before == number_of remark && is_same_number (process_of before) (process_of remark)

abbrev pub goes_on : NetlistView → (before remark : Remark) → Bool
goes_on net before remark =
    is_same before remark
    && (bytes_eq (name net before) (name net remark) || follows (name net before) (name net remark))

-- the last remark that is told, and the range of nets up to its own
pub record RemarkView : Type 0 where
  pub remark : Remark
  pub nets : List ℕ

abbrev pub remark_view : RemarkFinding → RemarkView
remark_view f = record { remark = f.remark; nets = f.nets.items }

abbrev pub told : NetlistView → (first : List ℕ) → (last : Remark) → RemarkView
told net first last = record { remark = last; nets = range_text first (name net last) }

-- what is told that ends before a remark
abbrev pub ended : NetlistView → (first : List ℕ) → (before remark : Remark) → List RemarkView
ended net first before remark = if goes_on net before remark then [] else told net first before ∷ []

-- the name of the first net of those with which a remark is told
abbrev pub begun_by : NetlistView → (first : List ℕ) → (before remark : Remark) → List ℕ
begun_by net first before remark = if goes_on net before remark then first else name net remark

-- these remarks behind the one before, with which the elements from the one of this name are told
abbrev pub found_from : NetlistView → (first : List ℕ) → (before : Remark) → List Remark → List RemarkView
found_from net first before [] = told net first before ∷ []
found_from net first before (remark ∷ remarks) =
    ended net first before remark ++ found_from net (begun_by net first before remark) remark remarks

abbrev pub found : NetlistView → List Remark → List RemarkView
found net [] = []
found net (remark ∷ remarks) = found_from net (name net remark) remark remarks

-- ---- what is said

abbrev pub message : NetlistView → RemarkView → List ℕ
message net f = sentence (words_of (report_of f.remark).rule) (name_of_process net (process_of f.remark)) f.nets
