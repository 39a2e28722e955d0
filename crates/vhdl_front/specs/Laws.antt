-- A source has one design at most under a top, and is refused only where it has none.
use Rattle.std.specs.Prelude.{◌≡◌, ◌≤◌, ℕ, length}
use Rattle.rtl_stim.specs.Ports.{HasOwnPorts}
use Rattle.rtl_net.specs.Nets.{NetlistView}
use Rattle.vhdl_elab_rules.specs.Elaboration.{Elaborated}
use Rattle.vhdl_elab_rules.specs.Shown.{net_shown}
use Rattle.vhdl_expand_rules.specs.declared.fault.ElabProblem.{ElabProblem}
use Rattle.vhdl_front_rules.specs.Asking.{Asked}
use Rattle.vhdl_front_rules.specs.Designs.{HasDesign, IsNetOf}
use Rattle.vhdl_front_rules.specs.Refusals.{HasNoDesign, Refuses}
use Rattle.vhdl_front_rules.specs.declared.fault.SourceFault.{SourceFault}
use Rattle.vhdl_front_rules.specs.declared.fault.SourceFault.TheVariants.{Lex, NoMemory}

abbrev pub EachSourceHasOneDesign : Type 0
EachSourceHasOneDesign =
    (asked : Asked) (one other : Elaborated) → HasDesign asked one → HasDesign asked other → one ≡ other

-- so netlists of it show the same
abbrev pub EachSourceHasOneNet : Type 0
EachSourceHasOneNet =
    (asked : Asked) (one other : NetlistView) → IsNetOf asked one → IsNetOf asked other
    → net_shown one ≡ net_shown other

-- the layers behind the lexer
abbrev pub IsBehindLexer : SourceFault → Type 0
IsBehindLexer (Lex fault) = ⊥
IsBehindLexer NoMemory = ⊥
IsBehindLexer _ = Unit {0}

abbrev pub EachRefusedHasNone : Type 0
EachRefusedHasNone =
    (asked : Asked) (fault : SourceFault) (design : Elaborated)
    → IsBehindLexer fault → Refuses asked fault → HasDesign asked design → ⊥

-- A stimulus can speak of the netlist's ports.
abbrev pub EachNetHasOwnPorts : Type 0
EachNetHasOwnPorts = (asked : Asked) (net : NetlistView) → IsNetOf asked net → HasOwnPorts net

-- What elaboration refuses of a source it tells at a byte of the source, and of an empty one at its end.
abbrev pub EachRefusalLiesInItsSource : Type 0
EachRefusalLiesInItsSource =
    (asked : Asked) (problem : ElabProblem) (at : ℕ) → HasNoDesign asked problem at → at ≤ length asked.source
