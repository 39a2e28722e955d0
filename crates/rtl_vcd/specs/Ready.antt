-- Names that are ready to print.
use Rattle.std.specs.Prelude.{◌≡◌, ℕ, ◌+◌, ◌-◌, ◌<◌, ◌≤◌, List, [], ◌∷◌, ◌++◌, length, map, Option, Some, None, codes, slice_index, slice_index_or, take, drop}
use Rattle.std.specs.List.{range_with_len}
use Rattle.rtl_net.specs.declared.signal.SignalKind.{SignalKind}
use Rattle.rtl_net.specs.declared.signal.SignalKind.TheVariants.{One, Vector, Enumeration, Integer, Boolean}
use Rattle.rtl_net.specs.Nets.{SignalView}
use Rattle.rtl_vcd.specs.declared.ready.Form.{Form}
use Rattle.rtl_vcd.specs.declared.ready.Form.TheVariants.{Single, Several, Position}
use Rattle.rtl_vcd.specs.declared.ready.Run.{Run}
use Rattle.rtl_net.specs.Digits.{binary_digits}
use Rattle.rtl_vcd_values.specs.Values.{character, binary}
use Rattle.rtl_vcd.specs.Trace.{printed}

-- how a name of this kind prints its elements; an integer prints them in no such form
abbrev pub form_of : SignalKind → Option Form
form_of One = Some Single
form_of Boolean = Some Single
form_of (Vector left right) = Some Several
form_of (Enumeration count) = Some (Position (binary_digits (count - 1)))
form_of (Integer least greatest) = None

-- what a line of this form begins with, and what stands behind the characters of its elements
abbrev pub beginning : Form → List ℕ
beginning Single = []
beginning Several = codes "b"
beginning (Position digits) = codes "b"

abbrev pub behind : Form → List ℕ
behind Single = []
behind Several = codes " "
behind (Position digits) = codes " "

-- what the nets from the first on, so many, print between the two
abbrev pub elements_as : Form → (first count : ℕ) → (valuation : List ℕ) → List ℕ
elements_as Single first count valuation = character (slice_index valuation first) ∷ []
elements_as Several first count valuation = map character (take count (drop first valuation))
elements_as (Position digits) first count valuation = binary digits (slice_index valuation first)

abbrev pub elements : Run → (valuation : List ℕ) → List ℕ
elements r valuation = elements_as r.form r.first r.count valuation

-- what it prints in a valuation
abbrev pub line : Run → (valuation : List ℕ) → List ℕ
line r valuation = beginning r.form ++ elements r valuation ++ take r.end.len r.end.bytes

-- it has nets, and they are among so many
pub record LiesAmong (nets : ℕ) (r : Run) : Type 0 where
  pub some : 0 < r.count
  pub there : r.first + r.count ≤ nets

-- The name number k is this run: its nets stand one behind the other, so many from the first on, and its line has what
-- these print, no more than the characters of the longest vector, between what it begins with and its end.
pub record IsRun (k : ℕ) (s : SignalView) (r : Run) : Type 0 where
  pub nets : s.nets ≡ range_with_len r.first r.count
  pub short : (valuation : List ℕ) → length (elements r valuation) ≤ 64
  pub prints : (valuation : List ℕ) → r.first + r.count ≤ length valuation → printed k s valuation ≡ line r valuation

-- the same, where it has nets
abbrev pub IsReady : (k : ℕ) → SignalView → Run → Type 0
IsReady k s r = 0 < r.count → IsRun k s r

-- each of these names, the first of them being number k, is the run at its place, if that has nets
pub record AreReady (k : ℕ) (names : List SignalView) (runs : List Run) : Type 0 where
  pub as_many : length runs ≡ length names
  pub each : (i : ℕ) (s : SignalView) (r : Run) → i < length names
      → IsReady (k + i) (slice_index_or names i s) (slice_index_or runs i r)
