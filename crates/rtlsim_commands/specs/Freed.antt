-- Of which of the checker's rules a source breaks none in the wider language, and which process of a loop can be split:
-- lines below what is told of its netlist.
use Rattle.std.specs.Prelude.{◌≡◌, ◌⊎◌, ℕ, ◌&&◌, not, ◌==◌, Bool, true, false, if◌then◌else◌, List, [], ◌∷◌, ◌++◌, Option, Some, None, codes, decimal}
use Rattle.std.specs.List.{list_any}
use Rattle.byte_streams.specs.Written.{SinkState, Goes}
use Rattle.fault_rules.specs.Rules.{words_of}
use Rattle.rtl_check.specs.Verdicts.{IsJudgement}
use Rattle.rtl_check.specs.Views.{fault_view}
use Rattle.rtl_check.specs.declared.fault.CheckFault.{CheckFault}
use Rattle.rtl_check.specs.declared.judging.Judgement.{Judgement}
use Rattle.rtl_check.specs.declared.judging.Judgement.TheVariants.{Faulty, ByNets}
use Rattle.rtl_model.specs.simulation.Accepted.{Fault, Loop}
use Rattle.rtl_net.specs.Core.{core}
use Rattle.rtl_net.specs.Names.{net_name, process_name}
use Rattle.rtl_net.specs.Nets.{NetlistView}
use Rattle.rtlsim_circles.specs.Splits.{split_of}
use Rattle.rtlsim_circles.specs.declared.splitting.Split.{Split}
use Rattle.rtlsim_command_faults.specs.declared.telling.Telling.{Telling}
use Rattle.rtlsim_listing.specs.Reports.{report_of}
use Rattle.vhdl_front_rules.specs.Asking.{Asked, widely}
use Rattle.vhdl_front_rules.specs.Designs.{IsNetOf}
use Rattle.vhdl_lexer.specs.declared.language.Language.TheVariants.{Profile}

-- ---- the lines

abbrev pub is_of_rule : (number : ℕ) → CheckFault → Bool
is_of_rule number fault = (words_of (report_of (fault_view fault)).rule).number == number

-- a netlist that is judged so breaks the rule of this number
abbrev pub breaks : Judgement → (number : ℕ) → Bool
breaks (Faulty faults) number = list_any (is_of_rule number) faults.items
breaks _ number = false

-- the narrower language breaks it, and the wider doesn't
abbrev pub is_freed : (narrow wide : Judgement) → (number : ℕ) → Bool
is_freed narrow wide number = breaks narrow number && not (breaks wide number)

abbrev pub freed_line : (narrow wide : Judgement) → (number : ℕ) → List ℕ
freed_line narrow wide number =
    if is_freed narrow wide number
    then codes "help: read with --wide: there it has no fault " ++ decimal number ++ codes "\n" else []

-- of the rules that the wider language asks less of
abbrev pub rule_lines : (narrow wide : Judgement) → List ℕ
rule_lines narrow wide = freed_line narrow wide 2 ++ freed_line narrow wide 8 ++ freed_line narrow wide 9

-- ---- the process of a loop that can be split

abbrev pub loop_split : NetlistView → Fault → Option Split
loop_split net (Loop processes) = split_of net processes
loop_split net _ = None

-- a loop is the one fault of its netlist
abbrev pub first_split : NetlistView → List CheckFault → Option Split
first_split net [] = None
first_split net (fault ∷ faults) = loop_split net (fault_view fault)

abbrev pub fault_split : NetlistView → Judgement → Option Split
fault_split net (Faulty faults) = first_split net faults.items
fault_split net _ = None

-- Where the wider language's netlist is accepted by nets no net depends on itself, so that a loop of processes in the
-- narrower language is none of nets.
abbrev pub split_for : NetlistView → (narrow wide : Judgement) → Option Split
split_for net narrow (ByNets report) = fault_split net narrow
split_for net narrow _ = None

abbrev pub unlooked_text : NetlistView → Split → List ℕ
unlooked_text net split =
    net_name net split.net ++ codes " of " ++ process_name net split.process
    ++ codes " doesn't look at " ++ net_name net split.next ++ codes "\n"

abbrev pub split_line : NetlistView → Option Split → List ℕ
split_line net None = []
split_line net (Some split) =
    codes "help: or assign " ++ net_name net split.net ++ codes " in a process of its own: "
    ++ unlooked_text net split

-- ---- all lines

abbrev pub freed_lines : NetlistView → (narrow wide : Judgement) → List ℕ
freed_lines net narrow wide = rule_lines narrow wide ++ split_line net (split_for net narrow wide)

-- ---- where they are told

-- Explanations are asked for, and the narrower language was read. The checker judges the source's netlist, and that
-- which it has in the wider language.
pub record TellsFreed (telling : Telling) (asked : Asked) (old new : SinkState) : Type 0 where
  pub explains : telling.explains ≡ true
  pub is_narrow : telling.language ≡ Profile
  pub net : NetlistView
  pub is_net : IsNetOf asked net
  pub narrow : Judgement
  pub is_judged : IsJudgement (core net) narrow
  pub wider : NetlistView
  pub is_wider : IsNetOf (widely asked) wider
  pub wide : Judgement
  pub is_judged_widely : IsJudgement (core wider) wide
  pub goes : Goes old new (freed_lines net narrow wide)

-- No clause says when nothing is told: memory for all this may be refused.
abbrev pub Frees : Telling → Asked → (old new : SinkState) → Type 0
Frees telling asked old new = (new ≡ old) ⊎ TellsFreed telling asked old new
