-- The line that tells of an integer that is lost.
use Rattle.std.specs.Prelude.{ℕ, List, [], ◌++◌, Option, Some, None, codes, decimal, slice_get}
use Rattle.rtl_net.specs.Nets.{NetlistView, ScopeView, SignalView}
use Rattle.rtl_signal_names.specs.Names.{full_name}
use Rattle.rtl_lost_integers.specs.declared.watching.LostInteger.{LostInteger}

-- a number that no signal has is told as nothing
abbrev pub name_of : List ScopeView → Option SignalView → List ℕ
name_of scopes None = []
name_of scopes (Some s) = full_name scopes s

-- `FILE: remark: at TIME ns NAME becomes x`
abbrev pub lost_line : (file : List ℕ) → NetlistView → LostInteger → List ℕ
lost_line file net l =
    file ++ codes ": remark: at " ++ decimal l.time ++ codes " ns "
    ++ name_of net.scopes (slice_get net.signals l.signal) ++ codes " becomes x\n"

abbrev pub lost_text : (file : List ℕ) → NetlistView → Option LostInteger → List ℕ
lost_text file net None = []
lost_text file net (Some l) = lost_line file net l
