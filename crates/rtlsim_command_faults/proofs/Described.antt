-- The object of a source that is refused.
use Rattle.std.proofs.Common.{◌≡◌, ℕ, List, Some, None, refl}
use Rattle.byte_streams.specs.Written.{SinkState, Goes}
use Rattle.rtlsim_command_faults.specs.Faults.{of_source}
use Rattle.rtlsim_command_faults.specs.Refusal.{Describes, IsObject, TellsFirst}
use Rattle.rtlsim_command_faults.specs.declared.faults.Fault.{Fault}
use Rattle.rtlsim_command_faults.specs.declared.faults.Fault.TheVariants as f
use Rattle.vhdl_source_files.specs.Files.{FileView}
use Rattle.vhdl_expand_rules.specs.declared.fault.ElabFault.{ElabFault}
use Rattle.vhdl_lexer.specs.declared.fault.LexFault.{LexFault}
use Rattle.vhdl_names_rules.specs.declared.fault.NameFault.{NameFault}
use Rattle.vhdl_parser_rules.specs.declared.fault.SyntaxFault.{SyntaxFault}
use Rattle.vhdl_front_rules.specs.declared.fault.SourceFault.{SourceFault}
use Rattle.vhdl_front_rules.specs.declared.fault.SourceFault.TheVariants as source
use Rattle.vhdl_front_rules.specs.Asking.{Asked}

-- of want of memory there is none
pub described : (files : List FileView) (asked : Asked) (fault : SourceFault) (object : List ℕ) (old new : SinkState) → IsObject files asked (of_source fault) object
    → Goes old new object → Describes files asked fault old new
described files asked source.NoMemory object old new is goes = let none : Some is.1.first ≡ None = is.1.is in absurd (cc)
described files asked _ object old new is goes = (object, is, goes)

-- of a fault that is no source's nothing is told
pub first_none : (files : List FileView) (asked : Asked) (fault : Fault) → ((x : LexFault) → fault ≡ f.Lex x → ⊥) → ((x : SyntaxFault) → fault ≡ f.Syntax x → ⊥)
    → ((x : NameFault) → fault ≡ f.Name x → ⊥) → ((x : ElabFault) → fault ≡ f.Elab x → ⊥) → TellsFirst files asked fault None
first_none files asked (f.Lex x) lex syntax name elab = absurd (lex x refl)
first_none files asked (f.Syntax x) lex syntax name elab = absurd (syntax x refl)
first_none files asked (f.Name x) lex syntax name elab = absurd (name x refl)
first_none files asked (f.Elab x) lex syntax name elab = absurd (elab x refl)
first_none files asked _ lex syntax name elab = refl
