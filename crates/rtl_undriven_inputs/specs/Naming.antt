-- Remarks on a stimulus: inputs of the top whose ports none of its lines names.
use Rattle.std.specs.Prelude.{ℕ, Bool, true, false, not, ◌&&◌, List, [], ◌∷◌, ◌++◌, length, Option, Some, None, bytes_eq, if◌then◌else◌}
use Rattle.std.specs.List.{list_any}
use Rattle.rtl_net.specs.Nets.{NetlistView, SignalView}
use Rattle.rtl_body_facts.specs.Reading.{is_in}
use Rattle.rtl_remarks.specs.Remarks.{at_net, is_top_port, is_of, is_clock, of_nets}
use Rattle.rtl_remarks.specs.Undefined.{is_same}
use Rattle.rtl_remarks.specs.declared.remark.Remark.{Remark}
use Rattle.rtl_remarks.specs.declared.remark.RemarkKind.{RemarkKind}
use Rattle.rtl_remarks.specs.declared.remark.RemarkKind.TheVariants.{ClockWithoutLine, InputWithoutLine}
use Rattle.rtl_stim_lines.specs.Forms.{Form, At, Clock, form_of}
use Rattle.rtl_stim_lines.specs.Inputs.{small}
use Rattle.rtl_stim_lines.specs.Lines.{Word, lines_of, words_of}

-- the input that a line `at TIME NAME VALUE` or `clock NAME FIRST HALF` names
abbrev pub name_in : Option Form → Option Word
name_in (Some (At time name value)) = Some name
name_in (Some (Clock name first half)) = Some name
name_in _ = None

-- it is this one, in letters of either case
abbrev pub is_name : (small_letters : Word) → Option Word → Bool
is_name letters None = false
is_name letters (Some name) = bytes_eq letters (small name)

abbrev pub line_names : (small_letters : Word) → (line : List ℕ) → Bool
line_names letters line = is_name letters (name_in (form_of (words_of line)))

-- a port of the top that some line names
abbrev pub is_named : (text : List ℕ) → SignalView → Bool
is_named text s = is_top_port s && list_any (line_names (small s.name)) (lines_of text)

abbrev pub has_line : NetlistView → (text : List ℕ) → (n : ℕ) → Bool
has_line net text n = is_of (is_named text) net.signals n

abbrev pub kind_of : (clock : Bool) → RemarkKind
kind_of true = ClockWithoutLine
kind_of false = InputWithoutLine

-- an input of which that isn't so: a clock, or any other
abbrev pub without : NetlistView → (clock : Bool) → (has : ℕ → Bool) → (n : ℕ) → List Remark
without net clock has n =
    if is_in n net.inputs && (not (has n) && is_same clock (is_clock net n)) then at_net (kind_of clock) n ∷ [] else []

-- clocks first, each by net
abbrev pub stimulus_remarks_of : NetlistView → (text : List ℕ) → List Remark
stimulus_remarks_of net text =
    of_nets (without net true (has_line net text)) (length net.types)
    ++ of_nets (without net false (has_line net text)) (length net.types)
