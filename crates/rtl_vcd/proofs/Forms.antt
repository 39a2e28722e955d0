-- What names print by their forms.
use Rattle.std.proofs.Common.{◌≡◌, ℕ, ◌+◌, ◌-◌, ◌<◌, ◌≤◌, Bool, not, List, [], ◌∷◌, ◌++◌, length, map, take, drop, get_or, slice_index, refl, sym, ap, ap₂, subst, ◌∙◌, arith, drop-cons}
use Rattle.std.specs.Prelude.{codes, Option, Some, None}
use Rattle.std.specs.Str.{bytes_eq}
use Rattle.std.specs.List.{range_with_len}
use Rattle.std.proofs.lemmas.List.{length-map, length-take, get_or-take, get_or-drop}
use Rattle.std.proofs.lemmas.Simd.{pick_l-range_with_len}
use Rattle.rtl_net.specs.declared.signal.SignalKind.{SignalKind}
use Rattle.rtl_net.specs.declared.signal.SignalKind.TheVariants.{One, Vector, Enumeration, Integer, Boolean}
use Rattle.rtl_net.specs.Nets.{SignalView}
use Rattle.rtl_vcd.specs.declared.ready.Form.{Form}
use Rattle.rtl_vcd.specs.declared.ready.Form.TheVariants.{Single, Several, Position}
use Rattle.rtl_vcd.specs.declared.ready.Run.{Run}
use Rattle.rtl_net.specs.Digits.{binary_digits}
use Rattle.rtl_vcd_values.specs.Values.{code, character, binary, value_change}
use Rattle.rtl_vcd.specs.Trace.{printed}
use Rattle.rtl_vcd.specs.Ready.{form_of, beginning, behind, elements_as, elements, line}
use Rattle.rtl_vcd.proofs.Runs.{behind_page}
use Rattle.rtl_vcd_values.proofs.Binaries.{length-binary}

-- nothing prints more characters than a vector
pub elements_short : (form : Form) (first count : ℕ) (values : List ℕ) → ((digits : ℕ) → form ≡ Position digits → digits ≤ 64) → count ≤ 64
    → length (elements_as form first count values) ≤ 64
elements_short Single first count values few le = omega arith
elements_short Several first count values few le = omega (arith, le, length-map (take count (drop first values)) character, length-take count (drop first values))
elements_short (Position digits) first count values few le = omega (arith, few digits refl, length-binary digits (slice_index values first))

one_taken : (first : ℕ) (values : List ℕ) → first < length values → take 1 (drop first values) ≡ slice_index values first ∷ []
one_taken first values lt = ap (take 1) (drop-cons values first 0 lt)

first_taken : (first count : ℕ) (values : List ℕ) → 0 < count → slice_index (take count (drop first values)) 0 ≡ slice_index values first
first_taken first count values some =
    let e : first + 0 ≡ first = omega arith in
    get_or-take count (drop first values) 0 0 some ∙ get_or-drop first values 0 0 ∙ ap (λ n. get_or values n 0) e

-- a line by its form
single_line : (c : List ℕ) (first count : ℕ) (values : List ℕ) → 0 < count → count ≡ 1 → first + count ≤ length values
    → map character (take count (drop first values)) ++ c ++ codes "\n" ≡ (character (slice_index values first) ∷ []) ++ (c ++ codes "\n")
single_line c first count values some one there =
    ap (λ n. map character (take n (drop first values)) ++ c ++ codes "\n") one
    ∙ ap (λ vs. map character vs ++ c ++ codes "\n") (one_taken first values (omega (arith, there, some)))

position_line : (c : List ℕ) (digits first count : ℕ) (values : List ℕ) → 0 < count
    → codes "b" ++ binary digits (slice_index (take count (drop first values)) 0) ++ codes " " ++ c ++ codes "\n"
    ≡ codes "b" ++ binary digits (slice_index values first) ++ (codes " " ++ c ++ codes "\n")
position_line c digits first count values some =
    ap (λ v. codes "b" ++ binary digits v ++ codes " " ++ c ++ codes "\n") (first_taken first count values some)
    ∙ behind_page (codes "b" ++ binary digits (slice_index values first)) (codes " ") c (codes "\n")

line_as : (kind : SignalKind) (form : Form) (c : List ℕ) (first count : ℕ) (values : List ℕ) → form_of kind ≡ Some form → 0 < count
    → (form ≡ Single → count ≡ 1) → first + count ≤ length values
    → value_change kind c (take count (drop first values)) ≡ beginning form ++ elements_as form first count values ++ (behind form ++ c ++ codes "\n")
line_as One Single c first count values is some one there = single_line c first count values some (one refl) there
line_as Boolean Single c first count values is some one there = single_line c first count values some (one refl) there
line_as (Vector left right) Several c first count values is some one there =
    behind_page (codes "b" ++ map character (take count (drop first values))) (codes " ") c (codes "\n")
line_as (Enumeration literals) (Position digits) c first count values is some one there =
    let fewest : binary_digits (literals - 1) ≡ digits = cc in
    ap (λ n. codes "b" ++ binary n (slice_index (take count (drop first values)) 0) ++ codes " " ++ c ++ codes "\n") fewest
    ∙ position_line c digits first count values some
line_as kind form c first count values is some one there = absurd cc

-- the line of a name whose nets stand one behind the other
pub run_line : (k : ℕ) (s : SignalView) (r : Run) → 0 < r.count → s.nets ≡ range_with_len r.first r.count → form_of s.kind ≡ Some r.form
    → (r.form ≡ Single → r.count ≡ 1) → take r.end.len r.end.bytes ≡ behind r.form ++ code k ++ codes "\n"
    → (values : List ℕ) → r.first + r.count ≤ length values → printed k s values ≡ beginning r.form ++ elements r values ++ take r.end.len r.end.bytes
run_line k s r some nets form one end values there =
    let taken = ap (map (slice_index values)) nets ∙ pick_l-range_with_len 0 values r.first r.count there in
    ap (value_change s.kind (code k)) taken
    ∙ line_as s.kind r.form (code k) r.first r.count values form some one there
    ∙ ap (λ t. beginning r.form ++ elements r values ++ t) (sym end)

-- what is printed of nets that keep their values
alike_as : (form : Form) (first count : ℕ) (old new : List ℕ) → 0 < count → take count (drop first old) ≡ take count (drop first new)
    → elements_as form first count old ≡ elements_as form first count new
alike_as Single first count old new some e =
    ap (λ v. character v ∷ []) (sym (first_taken first count old some) ∙ ap (λ vs. slice_index vs 0) e ∙ first_taken first count new some)
alike_as Several first count old new some e = ap (map character) e
alike_as (Position digits) first count old new some e =
    ap (binary digits) (sym (first_taken first count old some) ∙ ap (λ vs. slice_index vs 0) e ∙ first_taken first count new some)

-- ---- a run by its form

pub single_is : (r : Run) (values : List ℕ) → r.form ≡ Single → elements r values ≡ character (slice_index values r.first) ∷ []
single_is r values e = ap (λ f. elements_as f r.first r.count values) e

pub several_is : (r : Run) (values : List ℕ) → r.form ≡ Several → map character (take (r.first + r.count - r.first) (drop r.first values)) ≡ elements r values
several_is r values e =
    let n : r.first + r.count - r.first ≡ r.count = omega arith in
    ap (λ n. map character (take n (drop r.first values))) n ∙ sym (ap (λ f. elements_as f r.first r.count values) e)

pub position_is : (r : Run) (values : List ℕ) (digits : ℕ) → r.form ≡ Position digits → elements r values ≡ binary digits (slice_index values r.first)
position_is r values digits e = ap (λ f. elements_as f r.first r.count values) e

-- a run whose nets keep their values, as they are compared: of one net, of so many, or of a slice
pub alike : (r : Run) (old new : List ℕ) → 0 < r.count → take r.count (drop r.first old) ≡ take r.count (drop r.first new) → elements r old ≡ elements r new
alike r old new some e = alike_as r.form r.first r.count old new some e

pub alike_slice : (r : Run) (old new : List ℕ) → 0 < r.count
    → take (r.first + r.count - r.first) (drop r.first old) ≡ take (r.first + r.count - r.first) (drop r.first new) → elements r old ≡ elements r new
alike_slice r old new some e =
    let n : r.first + r.count - r.first ≡ r.count = omega arith in
    alike r old new some (subst (λ m. take m (drop r.first old) ≡ take m (drop r.first new)) n e)

-- a line, part by part, behind a page
pub line_by : (r : Run) (values first chars : List ℕ) → beginning r.form ≡ first → elements r values ≡ chars → line r values ≡ first ++ chars ++ take r.end.len r.end.bytes
line_by r values first chars e f = ap (λ t. t ++ elements r values ++ take r.end.len r.end.bytes) e ∙ ap (λ t. first ++ t ++ take r.end.len r.end.bytes) f

pub line_behind : (r : Run) (values page mid put first chars : List ℕ) → beginning r.form ≡ first → elements r values ≡ chars → mid ≡ page ++ first ++ chars
    → put ≡ mid ++ take r.end.len r.end.bytes → put ≡ page ++ line r values
line_behind r values page mid put first chars e f pushed ended =
    let end = take r.end.len r.end.bytes in
    ended ∙ ap (λ t. t ++ end) pushed ∙ behind_page page first chars end ∙ ap (λ t. page ++ t) (sym (line_by r values first chars e f))

pub other_by : (r : Run) (old new : List ℕ) (before now : List ℕ) (is_other : Bool) → elements r old ≡ before → elements r new ≡ now
    → is_other ≡ not (bytes_eq before now) → is_other ≡ not (bytes_eq (elements r old) (elements r new))
other_by r old new before now is_other e f tells = tells ∙ ap₂ (λ xs ys. not (bytes_eq xs ys)) (sym e) (sym f)
