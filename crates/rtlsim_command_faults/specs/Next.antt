-- The steps of the code: one fault more, and what is found from there on.
use Rattle.std.specs.Prelude.{◌≡◌, ℕ, List, ◌++◌, Option, Some, None, map}
use Rattle.rtlsim_refusals.specs.Explained.{Told}
use Rattle.rtlsim_command_faults.specs.Further.{Sought, Found, HasNames}
use Rattle.rtlsim_command_faults.specs.declared.search.End.{End}
use Rattle.rtlsim_command_faults.specs.declared.search.Search.{Search}
use Rattle.vhdl_source_files.specs.Files.{file_view}
use Rattle.vhdl_front_rules.specs.Asking.{Asked, asked_view, of_text}
use Rattle.rtlsim_command_faults.specs.declared.next.Next.{Next}
use Rattle.rtlsim_command_faults.specs.declared.next.Next.TheVariants as n
use Rattle.vhdl_front_rules.specs.Refusals.{Refuses}
use Rattle.vhdl_front_rules.specs.declared.fault.SourceFault.TheVariants.{Name}

-- this is found in what is left of the source; None where nothing was taken out
abbrev pub Finds : Asked → (left : Option (List ℕ)) → Next → Type 0
Finds asked None n.Nothing = Unit {0}
Finds asked None _ = ⊥
Finds asked (Some left) n.Nothing = HasNames (of_text asked left)
Finds asked (Some left) (n.Found text fault) = (text.items ≡ left) × Refuses (of_text asked left) (Name fault)
Finds asked (Some left) n.NoMemory = Unit {0}

abbrev pub sought_of : Search → Sought
sought_of s = record { files = map file_view s.files.now; asked = asked_view s.asked; tokens = s.tokens.now }

-- of which this is so is found, and what is told of it is appended
pub record Adds (So : Found → Type 0) (old new : List Told) (end : End) : Type 0 where
  pub found : Found
  pub is : So found
  pub grown : new ≡ old ++ found.told
  pub ends : end ≡ found.end
