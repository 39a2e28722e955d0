-- Runs: their nets, values and lines.
use Rattle.std.proofs.Common.{◌≡◌, ℕ, zero, suc, false, ◌+◌, ◌-◌, ◌<◌, ◌≤◌, List, [], ◌∷◌, ◌++◌, length, map, take, drop, get_or, sym, ap, subst, ◌∙◌, arith, ⊎_elim}
use Rattle.std.specs.Prelude.{slice_index_or}
use Rattle.std.specs.Str.{bytes_eq}
use Rattle.std.specs.List.{range_with_len}
use Rattle.std.proofs.lemmas.List.{append_cancel_left, append_cancel_right, get_or-take, get_or-drop, get_or_append_left, length-take, length-take-le, length-drop, length-map, length-append, take_more, map-append}
use Rattle.std.proofs.lemmas.Bool.{cases_lt}
use Rattle.std.proofs.Math.Seq.{get_or-append_seam}
use Rattle.std.proofs.lemmas.List.FromFn.{length-range_with_len, get_or-range_with_len}
use Rattle.std.proofs.lemmas.List.Elements.{All-get_or}
use Rattle.rtl_net.specs.declared.signal.Signal.{Signal}
use Rattle.rtl_net.specs.declared.signal.SignalKind.TheVariants.{One}
use Rattle.rtl_net.specs.Nets.{SignalView, signal_view}
use Rattle.rtl_vcd.specs.declared.ready.Run.{Run}
use Rattle.rtl_vcd.specs.Trace.{printed}
use Rattle.rtl_net.specs.Showing.{IsShown}
use Rattle.rtl_vcd.specs.Ready.{LiesAmong, IsRun, IsReady, AreReady, beginning, elements}
use Rattle.rtl_vcd.proofs.Names.{part_of_names}
use Rattle.rtl_vcd_values.proofs.Printing.{same_test}

step_more : (a n : ℕ) → range_with_len a (suc n) ≡ range_with_len a n ++ (a + n) ∷ []
step_more a zero = let e : a ≡ a + 0 = omega arith in ap (λ x. x ∷ []) e
step_more a (suc n) =
    let e : a + 1 + n ≡ a + suc n = omega arith in
    ap (λ xs. a ∷ xs) (step_more (a + 1) n ∙ ap (λ x. range_with_len (a + 1) n ++ x ∷ []) e)

-- one more
pub range_more : (a n : ℕ) → range_with_len a (n + 1) ≡ range_with_len a n ++ (a + n) ∷ []
range_more a n = let e : n + 1 ≡ suc n = omega arith in ap (range_with_len a) e ∙ step_more a n

-- where a name is shown, its run has nets, and they are among these
pub within : (nets k : ℕ) (s : SignalView) (r : Run) → IsShown nets s → IsRun k s r → LiesAmong nets r
within nets k s r shown is =
    let long : length s.nets ≡ r.count = ap length is.nets ∙ length-range_with_len r.first r.count in
    let last : r.count - 1 < length s.nets = omega (arith, long, shown.width.0) in
    let at = ap (λ ns. get_or ns (r.count - 1) 0) is.nets ∙ get_or-range_with_len r.first r.count (r.count - 1) 0 (omega (arith, long, last)) in
    let below = All-get_or (λ n. n < nets) s.nets (r.count - 1) 0 last shown.there in
    record { some = omega (arith, long, shown.width.0); there = omega (arith, at, below, long, shown.width.0) }

-- where it prints the same for its elements, it prints the same
pub run_prints : (k : ℕ) (s : SignalView) (r : Run) (old new : List ℕ) → IsRun k s r → r.first + r.count ≤ length old → r.first + r.count ≤ length new
    → elements r old ≡ elements r new → printed k s old ≡ printed k s new
run_prints k s r old new is before after e =
    is.prints old before ∙ ap (λ cs. beginning r.form ++ cs ++ take r.end.len r.end.bytes) e ∙ sym (is.prints new after)

-- what it prints for its elements tells whether it prints otherwise
pub run_tells : (k : ℕ) (s : SignalView) (r : Run) (old new : List ℕ) → IsRun k s r → r.first + r.count ≤ length old → r.first + r.count ≤ length new
    → bytes_eq (elements r old) (elements r new) ≡ bytes_eq (printed k s old) (printed k s new)
run_tells k s r old new is before after =
    let xs = elements r old in
    let ys = elements r new in
    let one = is.prints old before in
    let other = is.prints new after in
    same_test xs ys (printed k s old) (printed k s new)
    (run_prints k s r old new is before after)
    (λ e. append_cancel_left (beginning r.form) xs ys (append_cancel_right (beginning r.form ++ xs) (beginning r.form ++ ys) (take r.end.len r.end.bytes) (sym one ∙ e ∙ other)))

-- one name more
ready_more : (names : List SignalView) (runs : List Run) (s : SignalView) (r : Run) → AreReady 0 names runs → IsReady (length names) s r
    → AreReady 0 (names ++ s ∷ []) (runs ++ r ∷ [])
ready_more names runs s r are this = record {
  as_many = omega (arith, length-append names (s ∷ []), length-append runs (r ∷ []), are.as_many);
  each = λ i t d lt.
      ⊎_elim (λ below.
      subst (IsReady (0 + i) (get_or (names ++ s ∷ []) i t)) (sym (get_or_append_left runs (r ∷ []) d i (omega (arith, below, are.as_many))))
      (subst (λ n. IsReady (0 + i) n (get_or runs i d)) (sym (get_or_append_left names (s ∷ []) t i below)) (are.each i t d below)))
      (λ past.
      let last : i ≡ length names = omega (arith, past, lt, length-append names (s ∷ [])) in
      let run : get_or (runs ++ r ∷ []) i d ≡ r = ap (λ n. get_or (runs ++ r ∷ []) n d) (last ∙ sym are.as_many) ∙ get_or-append_seam runs r [] d in
      let name : get_or (names ++ s ∷ []) i t ≡ s = ap (λ n. get_or (names ++ s ∷ []) n t) last ∙ get_or-append_seam names s [] t in
      let number : length names ≡ 0 + i = omega (arith, last) in
      subst (IsReady (0 + i) (get_or (names ++ s ∷ []) i t)) (sym run)
      (subst (λ n. IsReady (0 + i) n r) (sym name) (subst (λ m. IsReady m s r) number this)))
      (cases_lt i (length names));
}

pub run_more : (signals : List Signal) (runs : List Run) (n : ℕ) (s : Signal) (r : Run) → n < length signals → s ≡ get_or signals n s
    → AreReady 0 (map signal_view (take n signals)) runs → IsReady n (signal_view s) r → AreReady 0 (map signal_view (take (n + 1) signals)) (runs ++ r ∷ [])
run_more signals runs n s r lt is are this =
    let names = map signal_view (take n signals) in
    let count : length names ≡ n = length-map (take n signals) signal_view ∙ length-take-le n signals (omega (arith, lt)) in
    let listed : map signal_view (take (n + 1) signals) ≡ names ++ signal_view s ∷ [] =
    ap (map signal_view) (take_more signals n s lt) ∙ map-append signal_view (take n signals) (get_or signals n s ∷ [])
    ∙ ap (λ x. names ++ signal_view x ∷ []) (sym is) in
    subst (λ ss. AreReady 0 ss (runs ++ r ∷ [])) (sym listed)
    (ready_more names runs (signal_view s) r are (subst (λ m. IsReady m (signal_view s) r) (sym count) this))

-- those of a part of the names
part_ready : (names : List SignalView) (runs : List Run) (next n : ℕ) → AreReady 0 names runs
    → AreReady next (take n (drop next names)) (take n (drop next runs))
part_ready names runs next n are = record {
  as_many = omega (arith, length-take n (drop next names), length-take n (drop next runs), length-drop next names, length-drop next runs, are.as_many);
  each = λ i s r lt.
      let small : i < n = omega (arith, lt, length-take n (drop next names)) in
      let here : next + i < length names = omega (arith, lt, length-take n (drop next names), length-drop next names) in
      let run = get_or-take n (drop next runs) i r small ∙ get_or-drop next runs i r in
      let name = get_or-take n (drop next names) i s small ∙ get_or-drop next names i s in
      let number : 0 + (next + i) ≡ next + i = omega arith in
      subst (IsReady (next + i) (slice_index_or (take n (drop next names)) i s)) (sym run)
      (subst (λ t. IsReady (next + i) t (slice_index_or runs (next + i) r)) (sym name)
      (subst (λ m. IsReady m (slice_index_or names (next + i) s) (slice_index_or runs (next + i) r)) number (are.each (next + i) s r here)));
}

pub part_of_runs : (signals : List Signal) (runs : List Run) (next n : ℕ) (names : List SignalView) → map signal_view signals ≡ names → AreReady 0 names runs
    → AreReady next (map signal_view (take (next + n - next) (drop next signals))) (take (next + n - next) (drop next runs))
part_of_runs signals runs next n names e are =
    let m : next + n - next ≡ n = omega arith in
    let listed = part_of_names signals next n ∙ ap (λ ns. take n (drop next ns)) e in
    subst (λ ss. AreReady next ss (take (next + n - next) (drop next runs))) (sym listed)
    (subst (λ k. AreReady next (take n (drop next names)) (take k (drop next runs))) (sym m) (part_ready names runs next n are))

-- the names from one on
pub rest_ready : (first : ℕ) (names : List SignalView) (runs : List Run) (next : ℕ) → AreReady first names runs → AreReady (first + next) (drop next names) (drop next runs)
rest_ready first names runs next are = record {
  as_many = omega (arith, length-drop next names, length-drop next runs, are.as_many);
  each = λ i s r lt.
      let here : next + i < length names = omega (arith, lt, length-drop next names) in
      let number : first + (next + i) ≡ first + next + i = omega arith in
      subst (IsReady (first + next + i) (slice_index_or (drop next names) i s)) (sym (get_or-drop next runs i r))
      (subst (λ t. IsReady (first + next + i) t (slice_index_or runs (next + i) r)) (sym (get_or-drop next names i s))
      (subst (λ m. IsReady m (slice_index_or names (next + i) s) (slice_index_or runs (next + i) r)) number (are.each (next + i) s r here)));
}

-- no name
abbrev pub no_name : SignalView
no_name = record { scope = 0; name = []; port = false; kind = One; nets = []; at = 0 }

-- the run at hand
pub ready_at : (first : ℕ) (names : List SignalView) (runs : List Run) (i : ℕ) (s : SignalView) (r : Run) → i < length runs → r ≡ get_or runs i r
    → AreReady first names runs → IsReady (first + i) (get_or names i s) r
ready_at first names runs i s r lt at are = subst (IsReady (first + i) (get_or names i s)) (sym at) (are.each i s r (omega (arith, lt, are.as_many)))
