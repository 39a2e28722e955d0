-- Which faults of a source follow its first, and what is told of them: of grammar, or of names and types.
use Rattle.std.specs.Prelude.{◌≡◌, ℕ, Bool, true, false, List, [], ◌++◌, flat_map, codes}
use Rattle.byte_streams.specs.Written.{SinkState, Goes}
use Rattle.rtlsim_refusals.specs.Explained.{paragraph}
use Rattle.rtlsim_command_faults.specs.Explanations.{files_of}
use Rattle.rtlsim_command_faults.specs.Further.{Found, NamesBehind, ended}
use Rattle.rtlsim_command_faults.specs.Grammar.{GrammarBehind}
use Rattle.rtlsim_command_faults.specs.declared.faults.Fault.{Fault}
use Rattle.rtlsim_command_faults.specs.declared.faults.Fault.TheVariants as f
use Rattle.rtlsim_command_faults.specs.declared.search.End.{End}
use Rattle.rtlsim_command_faults.specs.declared.search.End.TheVariants as end
use Rattle.rtlsim_command_faults.specs.declared.telling.Telling.{Telling}
use Rattle.vhdl_source_files.specs.Files.{FileView}
use Rattle.vhdl_front_rules.specs.Asking.{Asked}
use Rattle.vhdl_parser_rules.specs.Fault.{fault_byte}

-- behind a first fault; of other layers there is one alone
abbrev pub Behind : List FileView → Asked → (first : Fault) → Found → Type 0
Behind files asked (f.Syntax first) found = GrammarBehind files asked (fault_byte first) found
Behind files asked (f.Name first) found = NamesBehind files asked first found
Behind files asked first found = found ≡ ended end.Whole

-- others are looked for behind it
abbrev pub has_others : Fault → Bool
has_others (f.Syntax first) = true
has_others (f.Name first) = true
has_others first = false

-- ---- as paragraphs

-- the line below the last fault that is told, where there are more, or where no more are looked for
abbrev pub more_line : List ℕ
more_line = codes "and more\n"

abbrev pub end_text : End → List ℕ
end_text end.More = more_line
end_text _ = []

abbrev pub found_text : Found → List ℕ
found_text found = flat_map paragraph found.told ++ end_text found.end

-- the faults behind the first are told
pub record TellsFurther (telling : Telling) (asked : Asked) (first : Fault) (old new : SinkState) : Type 0 where
  pub found : Found
  pub is : Behind (files_of telling) asked first found
  pub goes : Goes old new (found_text found)
