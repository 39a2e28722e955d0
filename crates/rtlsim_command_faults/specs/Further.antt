-- Which faults of names and types of a source follow its first, and what is told of them. What is at fault is taken out
-- of the source, and the next fault is one of what is left; so it goes on until what is left is refused for no name
-- or type.
use Rattle.std.specs.Prelude.{◌≡◌, ◌⊎◌, ℕ, zero, suc, Bool, true, false, List, [], ◌++◌, Option, Some, None, option_to_list}
use Rattle.rtl_net.specs.Nets.{NetlistView}
use Rattle.fault_rules.specs.declared.report.Report.{Report}
use Rattle.rtlsim_command_faults.specs.Reports.{name_report}
use Rattle.rtlsim_command_faults.specs.declared.search.End.{End}
use Rattle.rtlsim_command_faults.specs.declared.search.End.TheVariants as end
use Rattle.rtlsim_refusals.specs.Explained.{Told, told_of_source}
use Rattle.vhdl_slips.specs.Words.{Read, with_tokens}
use Rattle.vhdl_source_files.specs.Files.{FileView}
use Rattle.vhdl_parser_rules.specs.Expected.{Expected, nothing}
use Rattle.vhdl_front_rules.specs.Asking.{Asked, of_text}
use Rattle.vhdl_lexer.specs.Cut.{Cuts}
use Rattle.vhdl_lexer.specs.declared.language.Language.{Language}
use Rattle.vhdl_lexer.specs.declared.token.Token.{Token}
use Rattle.vhdl_names_further.specs.Known.{is_known}
use Rattle.vhdl_names_further.specs.Taken.{past}
use Rattle.vhdl_names_rules.specs.declared.fault.NameFault.{NameFault}
use Rattle.vhdl_front_rules.specs.Designs.{IsNetOf}
use Rattle.vhdl_front_rules.specs.Refusals.{Refuses}
use Rattle.vhdl_front_rules.specs.declared.fault.SourceFault.{SourceFault}
use Rattle.vhdl_front_rules.specs.declared.fault.SourceFault.TheVariants.{Name, NoMemory}

-- how many times the source is read once more at most
abbrev pub most_steps : ℕ
most_steps = 100

-- what faults are looked for in
pub record Sought : Type 0 where
  pub files : List FileView
  pub asked : Asked
  pub tokens : List Token

-- what is told of a report, if there is one
abbrev pub told_by : (tell : Report → Option Told) → Option Report → Option Told
told_by tell None = None
told_by tell (Some report) = tell report

-- of one on a source that is read in this language
abbrev pub told_of : Language → List FileView → Read → Expected → Option Report → Option Told
told_of language files read expected report = told_by (told_of_source language files read expected) report

-- what is told of a fault of names
abbrev pub name_told : Sought → NameFault → List Told
name_told a fault =
    option_to_list
    (told_of a.asked.language a.files (with_tokens a.asked.source a.tokens) nothing (name_report fault))

-- what is told of the faults that are found, in order, and how the search for them ends
pub record Found : Type 0 where
  pub told : List Told
  pub end : End

-- none
abbrev pub ended : End → Found
ended e = record { told = []; end = e }

-- these, and then the others
abbrev pub before : List Told → Found → Found
before told others = record { told = told ++ others.told; end = others.end }

-- ---- what follows

-- another layer's fault, and no want of memory
abbrev pub IsOther : SourceFault → Type 0
IsOther (Name fault) = ⊥
IsOther NoMemory = ⊥
IsOther fault = Unit {0}

-- the source has a netlist, or another layer refuses it
abbrev pub HasNames : Asked → Type 0
HasNames asked =
    ((net : NetlistView) × IsNetOf asked net) ⊎ ((fault : SourceFault) × IsOther fault × Refuses asked fault)

-- What is left is read: memory is refused; or its names are in order; or they have a fault, and this is so of it.
abbrev pub Reads : Asked → (So : (left : List ℕ) → NameFault → Type 0) → Option (List ℕ) → Found → Type 0
Reads asked So None found = found ≡ ended end.Whole
Reads asked So (Some left) found =
    (found ≡ ended end.NoMemory)
    ⊎ ((HasNames (of_text asked left) × (found ≡ ended end.Whole))
    ⊎ ((fault : NameFault) × Refuses (of_text asked left) (Name fault) × So left fault))

-- A fault whose cause is told already isn't told. Else it is, where so many may be told still, and then the others are.
abbrev pub Tells : (known : Bool) → (more : ℕ) → (told : List Told)
    → (So : (more : ℕ) → Found → Type 0) → Found → Type 0
Tells true more told So found = So more found
Tells false zero told So found = found ≡ ended end.More
Tells false (suc more) told So found = (others : Found) × (found ≡ before told others) × So more others

-- what is found behind a fault of what is left of the source, in so many readings and of so many faults at most
abbrev pub Further : Sought → (steps more : ℕ) → (left : List ℕ) → NameFault → Found → Type 0
Further a zero more left fault found = found ≡ ended end.More
Further a (suc steps) more left fault found =
    Reads a.asked
    (λ next other. Tells (is_known a.asked.source a.tokens next other) more
    (name_told a other) (λ fewer others. Further a steps fewer next other others) found)
    (past a.asked.source a.tokens left fault) found

-- ---- of a source

-- behind a first fault of names or types; memory for the tokens may be refused
abbrev pub NamesBehind : List FileView → Asked → (first : NameFault) → Found → Type 0
NamesBehind files asked first found =
    ((tokens : List Token) × Cuts None 0 asked.source tokens
    × Further (record { files = files; asked = asked; tokens = tokens }) most_steps 19 asked.source first found)
    ⊎ (found ≡ ended end.NoMemory)
