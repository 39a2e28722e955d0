use Rattle.std.proofs.Common.{List, map, length, string_bytes, Result}
use Rattle.byte_streams.specs.Read.{ReaderState}
use Rattle.rtlsim.specs.Reads.{GivesAll}
use Rattle.rtlsim.specs.Texts.{read_view}
use Rattle.rtlsim.specs.Unread.{Unread}
use Rattle.vhdl_source_files.specs.Files.{FileView}
use Rattle.rtlsim.proofs.Reading.{after_all}
use Rattle.rtlsim.proofs.texts.read_files.Given as goal

-- what the files that are left give, behind those that were read, is given by all
abbrev pub invariant-loop-left : goal.invariant-loop-left
invariant-loop-left g l =
    (new : ReaderState) → (given : Result (List FileView) Unread) → GivesAll g.I.Inputs.gives (map string_bytes l.left) (g.I.Inputs.state l.inputs) new given
    → GivesAll g.I.Inputs.gives (map string_bytes l.names) (g.I.Inputs.state l.initial.inputs) new (after_all (map read_view l.files.items) given)

abbrev pub decreases-loop-left : goal.decreases-loop-left
decreases-loop-left g l = length l.left
