-- The change of one name.
use Rattle.std.proofs.Common.{◌≡◌, ℕ, All, Bool, true, false, not, ◌||◌, List, [], ◌∷◌, ◌++◌, ◌+◌, ◌<◌, length, take, get_or, arith, append_assoc, append-nil, refl, sym, ap, ◌∙◌, subst}
use Rattle.std.specs.Prelude.{◌==◌, if◌then◌else◌}
use Rattle.std.specs.Str.{bytes_eq}
use Rattle.std.proofs.lemmas.Bool.{false≢true, eqb-true, eqb-false}
use Rattle.byte_streams.specs.Written.{SinkState, Goes}
use Rattle.byte_streams.proofs.Writing.{Goes-append}
use Rattle.rtl_net.specs.Nets.{SignalView}
use Rattle.rtl_vcd.specs.Trace.{printed, change, are_some, time_line}
use Rattle.rtl_vcd.specs.Blocks.{changes_from, continued}
use Rattle.rtl_vcd.specs.declared.ready.Run.{Run}
use Rattle.rtl_vcd.specs.Ready.{LiesAmong, IsRun, AreReady, elements, line}
use Rattle.rtl_net.specs.Showing.{IsShown}
use Rattle.rtl_vcd.specs.Pages.{Passes, IsOpen}
use Rattle.rtl_vcd.proofs.Pages.{Passes-nil}
use Rattle.std.proofs.lemmas.List.{length-append}
use Rattle.std.proofs.lemmas.List.Elements.{All-get_or}
use Rattle.rtl_vcd.proofs.Names.{numbered_next}
use Rattle.rtl_net_groups.proofs.Lanes.{are_same}
use Rattle.rtl_vcd.proofs.Stamps.{change_is, printed_is_some}
use Rattle.rtl_vcd.proofs.Ends.{run_tells, run_prints, within, no_name, ready_at}

some_if : (b : Bool) (p : List ℕ) → are_some p ≡ true → b ≡ are_some (if b then p else [])
some_if true p some = sym some
some_if false p some = refl

-- a line that is appended where the name prints otherwise is its change
module _ (k : ℕ) (s : SignalView) (old new : List ℕ) (is_other : Bool) (tells : is_other ≡ not (bytes_eq (printed k s old) (printed k s new))) where
  pub appended_change : (held holds text : List ℕ) → text ≡ printed k s new → holds ≡ held ++ (if is_other then text else []) → holds ≡ held ++ change k s old new
  appended_change held holds text is e =
      e ∙ ap (λ t. held ++ (if is_other then t else [])) is ∙ ap (λ t. held ++ t) (sym (change_is k s old new is_other tells))

  pub some_change : is_other ≡ are_some (change k s old new)
  some_change = some_if is_other (printed k s new) (printed_is_some k s new) ∙ ap are_some (sym (change_is k s old new is_other tells))

-- the same of a run
module _ (k : ℕ) (s : SignalView) (r : Run) (is : IsRun k s r) (old new : List ℕ) (before : LiesAmong (length old) r) (after : LiesAmong (length new) r) (is_other : Bool)
    (tells : is_other ≡ not (bytes_eq (elements r old) (elements r new))) where
  told : is_other ≡ not (bytes_eq (printed k s old) (printed k s new))
  told = tells ∙ ap not (run_tells k s r old new is before.there after.there)

  pub run_change : (held holds : List ℕ) → holds ≡ held ++ (if is_other then (line r new) else []) → holds ≡ held ++ change k s old new
  run_change held holds e = appended_change k s old new is_other told held holds (line r new) (sym (is.prints new after.there)) e

-- ---- a change behind a page

none_are_some : (xs : List ℕ) → false ≡ are_some xs → xs ≡ []
none_are_some [] e = refl
none_are_some (x ∷ xs) e = absurd (false≢true e)

continued_none : (is_printed : Bool) (time : ℕ) → continued is_printed time [] ≡ []
continued_none true time = refl
continued_none false time = refl

or_none : (b : Bool) → b ≡ (b || false)
or_none true = refl
or_none false = refl

-- the time goes ahead of what the page holds
ahead : (is_printed : Bool) (time : ℕ) (held holds more : List ℕ) → (is_printed ≡ false → held ≡ []) → holds ≡ held ++ more → true ≡ (is_printed || are_some more)
    → held ++ continued is_printed time more ≡ (if is_printed then [] else (time_line time)) ++ holds
ahead true time held holds more empty is some = sym is
ahead false time held holds [] empty is some = absurd (false≢true (sym some))
ahead false time held holds (c ∷ cs) empty is some =
    ap (λ h. h ++ (time_line time ++ c ∷ cs)) (empty refl)
    ∙ ap (λ t. time_line time ++ t) (sym (is ∙ ap (λ h. h ++ c ∷ cs) (empty refl)))

none_long : (xs : List ℕ) → length xs ≡ 0 → false ≡ are_some xs
none_long [] e = refl
none_long (x ∷ xs) e = absurd (omega (arith, e))

some_long : (is_printed : Bool) (held holds more : List ℕ) → (is_printed ≡ false → held ≡ []) → holds ≡ held ++ more → (length holds ≡ 0 → ⊥)
    → true ≡ (is_printed || are_some more)
some_long true held holds more empty is some = refl
some_long false held holds [] empty is some = absurd (some (ap length (is ∙ ap (λ h. h ++ []) (empty refl))))
some_long false held holds (x ∷ xs) empty is some = refl

module _ (is_printed : Bool) (time : ℕ) (held holds more : List ℕ) (page : IsOpen is_printed held) (is : holds ≡ held ++ more) where
  -- whether there are changes, by whether the page holds nothing
  pub none_more : (length holds == 0) ≡ true → false ≡ are_some more
  none_more none = none_long more (omega (arith, eqb-true (length holds) 0 none, ap length is, length-append held more))

  pub some_more : (length holds == 0) ≡ false → true ≡ (is_printed || are_some more)
  some_more some = some_long is_printed held holds more page.empty is (eqb-false (length holds) 0 some)

  kept : false ≡ are_some more → holds ≡ held
  kept none = is ∙ ap (λ t. held ++ t) (none_are_some more none) ∙ append-nil held

  pub text_of_none : (a : SinkState) → false ≡ are_some more → Passes a a held holds (continued is_printed time more)
  text_of_none a none =
      let nothing : continued is_printed time more ≡ [] = ap (continued is_printed time) (none_are_some more none) ∙ continued_none is_printed time in
      subst (Passes a a held holds) (sym nothing) (subst (λ h. Passes a a held h []) (sym (kept none)) (Passes-nil a held))

  pub open_of_none : false ≡ are_some more → IsOpen is_printed holds
  open_of_none none = subst (IsOpen is_printed) (sym (kept none)) page

  pub printed_of_none : false ≡ are_some more → is_printed ≡ (is_printed || are_some more)
  printed_of_none none = or_none is_printed ∙ ap (λ b. is_printed || b) none

  pub text_of_some : (a b c : SinkState) (rest : List ℕ) → true ≡ (is_printed || are_some more) → Goes a b (if is_printed then [] else (time_line time)) → Passes b c [] rest holds
      → Passes a c held rest (continued is_printed time more)
  text_of_some a b c rest some first turned =
      let t : List ℕ = if is_printed then [] else (time_line time) in
      record {
        gone = t ++ turned.gone;
        goes = Goes-append a b c t turned.gone first turned.goes;
        kept =
            ahead is_printed time held holds more page.empty is some ∙ ap (λ x. t ++ x) turned.kept
            ∙ sym (append_assoc t turned.gone rest);
      }

-- ---- changes of names one after another

-- one change more, behind what stands on the page
pub change_more : (first : ℕ) (names : List SignalView) (i : ℕ) (s : SignalView) (old new start held holds : List ℕ) → i < length names
    → held ≡ start ++ changes_from first (take i names) old new → holds ≡ held ++ change (first + i) (get_or names i s) old new
    → holds ≡ start ++ changes_from first (take (i + 1) names) old new
change_more first names i s old new start held holds lt before one =
    let earlier = changes_from first (take i names) old new in
    let this = change (first + i) (get_or names i s) old new in
    one ∙ ap (λ t. t ++ this) before ∙ append_assoc start earlier this
    ∙ ap (λ t. start ++ t) (sym (numbered_next (λ k (n : SignalView). change k n old new) first names i s lt))

-- none, where the name keeps what it prints
pub change_none : (first : ℕ) (names : List SignalView) (i : ℕ) (s : SignalView) (old new start held : List ℕ) → i < length names
    → held ≡ start ++ changes_from first (take i names) old new → printed (first + i) (get_or names i s) old ≡ printed (first + i) (get_or names i s) new
    → held ≡ start ++ changes_from first (take (i + 1) names) old new
change_none first names i s old new start held lt before same =
    change_more first names i s old new start held held lt before
    (appended_change (first + i) (get_or names i s) old new false (are_same same) held held (printed (first + i) (get_or names i s) new) refl (sym (append-nil held)))

-- the run at hand of names that are ready
module _ (first : ℕ) (names : List SignalView) (runs : List Run) (place : ℕ) (r : Run) (old new : List ℕ) (lt : place < length runs) (at : r ≡ get_or runs place r)
    (are : AreReady first names runs) (before : All (IsShown (length old)) names) (after : All (IsShown (length new)) names) where
  there : place < length names
  there = omega (arith, lt, are.as_many)

  pub this_run : 0 < r.count → IsRun (first + place) (get_or names place no_name) r
  this_run some = ready_at first names runs place no_name r lt at are some

  pub lies_before : 0 < r.count → LiesAmong (length old) r
  lies_before some =
      within (length old) (first + place) (get_or names place no_name) r (All-get_or (IsShown (length old)) names place no_name there before) (this_run some)

  pub lies_after : 0 < r.count → LiesAmong (length new) r
  lies_after some =
      within (length new) (first + place) (get_or names place no_name) r (All-get_or (IsShown (length new)) names place no_name there after) (this_run some)

  module _ (start held : List ℕ) (earlier : held ≡ start ++ changes_from first (take place names) old new) (some : 0 < r.count) where
    pub line_kept : elements r old ≡ elements r new → held ≡ start ++ changes_from first (take (place + 1) names) old new
    line_kept same =
        change_none first names place no_name old new start held there earlier
        (run_prints (first + place) (get_or names place no_name) r old new (this_run some) (lies_before some).there (lies_after some).there same)

    pub line_more : (is_other : Bool) → is_other ≡ not (bytes_eq (elements r old) (elements r new)) → (holds : List ℕ)
        → holds ≡ held ++ (if is_other then (line r new) else []) → holds ≡ start ++ changes_from first (take (place + 1) names) old new
    line_more is_other tells holds e =
        change_more first names place no_name old new start held holds there earlier
        (run_change (first + place) (get_or names place no_name) r (this_run some) old new (lies_before some) (lies_after some) is_other tells held holds e)
