-- What `eval` prints: for each out port of the top in order of declaration a line NAME=VALUE, with its value in the
-- first valuation of the synchronous machine under the stimulus that the words say.
use Rattle.std.specs.Prelude.{◌≡◌, ℕ, ◌==◌, ◌&&◌, ◌⊎◌, Bool, not, if◌then◌else◌, List, [], ◌++◌, map, flat_map, slice_index, codes, Result, Ok, Err}
use Rattle.rtl_net.specs.Nets.{NetlistView, SignalView}
use Rattle.rtl_net.specs.Values.{value_text}
use Rattle.byte_streams.specs.Written.{SinkState, IsIntact, HasFailed, TakesAll, TakesBeginning}
use Rattle.rtl_stim.specs.Ports.{is_input}
use Rattle.rtl_stim.specs.Stimuli.{StimulusView, inputs_at}
use Rattle.rtl_net.specs.Core.{core}
use Rattle.rtl_run.specs.declared.fault.MachineFault.{MachineFault}
use Rattle.rtl_run.specs.declared.fault.MachineFault.TheVariants.{Output}
use Rattle.rtl_run.specs.Synchronous.{IsSynchronous}
use Rattle.rtl_run.specs.Answered.{Admits, IsNetRefused}
use Rattle.rtl_run.specs.Words.{words_text}

-- a port of the top that isn't an input
abbrev pub is_out_port : NetlistView → SignalView → Bool
is_out_port net s = s.scope == 0 && (s.port && not (is_input net (slice_index s.nets 0)))

abbrev pub port_line : SignalView → (valuation : List ℕ) → List ℕ
port_line s valuation =
    s.name ++ codes "=" ++ value_text s.kind (map (slice_index valuation) s.nets) ++ codes "\n"

-- a signal's line if it is an out port
abbrev pub port_text : NetlistView → (valuation : List ℕ) → SignalView → List ℕ
port_text net valuation s = if is_out_port net s then port_line s valuation else []

abbrev pub port_lines : NetlistView → (valuation : List ℕ) → List ℕ
port_lines net valuation = flat_map (port_text net valuation) net.signals

module _ (net : NetlistView) (s : StimulusView) (bound : ℕ) where
  -- the netlist is a synchronous machine under the stimulus, and this is the first valuation of its run
  pub record IsFirstOf (valuation : List ℕ) : Type 0 where
    pub run : ℕ → List ℕ
    pub synchronous : IsSynchronous (core net) bound (inputs_at s) run
    pub is : valuation ≡ run 0

  -- the text is the lines of that valuation
  pub record AreFirstLines (text : List ℕ) : Type 0 where
    pub valuation : List ℕ
    pub first : IsFirstOf valuation
    pub is : text ≡ port_lines net valuation

  -- all lines went out, or where the output failed, a beginning of them
  abbrev pub Prints : (old new : SinkState) → Result (Unit {0}) MachineFault → Type 0
  Prints old new (Ok done) = IsIntact new × (text : List ℕ) × AreFirstLines text × TakesAll old new text
  Prints old new (Err Output) = HasFailed new × (text : List ℕ) × AreFirstLines text × TakesBeginning old new text
  Prints old new (Err _) = ⊥

-- `eval` refuses what `run_watched` refuses under the stimulus that the words say.
abbrev pub Evaluates : NetlistView → (words : List (List ℕ)) → (old new : SinkState)
    → Result (Unit {0}) MachineFault → Type 0
Evaluates net words old new answer =
    Admits net (words_text words) (λ s bound. Prints net s bound old new answer)
    ⊎ IsNetRefused net (words_text words) old new answer
