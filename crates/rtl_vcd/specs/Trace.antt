-- The text of a trace behind its header (IEEE 1364-2005, 18.2.1): all values at 0, at each later time the names that
-- print otherwise than before, and the time of the stop where nothing is printed there. And the text as a whole.
use Rattle.std.specs.Prelude.{ℕ, nat_lt, Bool, true, false, if◌then◌else◌, List, [], ◌∷◌, ◌++◌, map, slice_index, codes, decimal}
use Rattle.std.specs.Str.{bytes_eq}
use Rattle.rtl_net.specs.Nets.{ScopeView, SignalView}
use Rattle.rtl_vcd_values.specs.Values.{code, value_change, numbered}
use Rattle.rtl_vcd.specs.Header.{header_text}

-- what the name number k prints in a valuation of the nets
abbrev pub printed : (k : ℕ) → SignalView → (valuation : List ℕ) → List ℕ
printed k s valuation = value_change s.kind (code k) (map (slice_index valuation) s.nets)

-- what the name number k prints, if that is not what it printed before
abbrev pub change : (k : ℕ) → SignalView → (before now : List ℕ) → List ℕ
change k s before now = if bytes_eq (printed k s before) (printed k s now) then [] else printed k s now

-- the same of all names
abbrev pub changes : List SignalView → (before now : List ℕ) → List ℕ
changes signals before now = numbered (λ k s. change k s before now) 0 signals

-- what is printed from here on is of this time
abbrev pub time_line : ℕ → List ℕ
time_line time = codes "#" ++ decimal time ++ codes "\n"

-- at 0 every name is printed (18.2.3.9)
abbrev pub first_text : List SignalView → (valuation : List ℕ) → List ℕ
first_text signals valuation =
    time_line 0 ++ codes "$dumpvars\n" ++ numbered (λ k s. printed k s valuation) 0 signals ++ codes "$end\n"

-- changes behind their time, and nothing where there are none
abbrev pub stamped : (time : ℕ) → (changes : List ℕ) → List ℕ
stamped time [] = []
stamped time (c ∷ cs) = time_line time ++ c ∷ cs

abbrev pub are_some : (changes : List ℕ) → Bool
are_some [] = false
are_some (c ∷ cs) = true

-- what is printed at a later time
abbrev pub moment_text : List SignalView → (time : ℕ) → (before now : List ℕ) → List ℕ
moment_text signals time before now = stamped time (changes signals before now)

-- the stop, where the last time printed is before it
abbrev pub end_text : (last stop : ℕ) → List ℕ
end_text last stop = if nat_lt last stop then time_line stop else []

-- ---- the whole

-- the settled values of the nets at a time
pub record Moment : Type 0 where
  pub time : ℕ
  pub values : List ℕ

-- these moments, behind the last time printed and the values before them, and the end
abbrev pub moments_text : List SignalView → (last : ℕ) → (before : List ℕ) → List Moment → (stop : ℕ) → List ℕ
moments_text signals last before [] stop = end_text last stop
moments_text signals last before (m ∷ ms) stop =
    moment_text signals m.time before m.values
    ++ moments_text signals (if are_some (changes signals before m.values) then m.time else last) m.values ms stop

-- the trace of settled values at 0 and at later moments, up to the stop
abbrev pub trace_text : List ScopeView → List SignalView → (first : List ℕ) → List Moment → (stop : ℕ) → List ℕ
trace_text scopes signals first moments stop =
    header_text scopes signals ++ first_text signals first ++ moments_text signals 0 first moments stop
