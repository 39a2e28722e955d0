-- What waits where memory was refused.
use Rattle.std.proofs.Common.{ℕ, ◌+◌, List, [], ◌++◌, length, take, drop, map, ⊎_elim, inl, inr, sym, ap, subst, ◌∙◌, arith}
use Rattle.std.specs.Prelude.{Contains, Some, None, Option, IfSome, unwrap_or}
use Rattle.std.specs.Ordering.{nat_cmp}
use Rattle.std.specs.Map.{lookup}
use Rattle.std.specs.BTreeMap.{is_at}
use Rattle.std.proofs.lemmas.List.{take-append-drop, take-map}
use Rattle.std.proofs.lemmas.List.Elements.{Contains-append_left, Contains-append_right}
use Rattle.std.proofs.lemmas.Map.Views.{IfSome-lookup_from_All}
use Rattle.rtl_agenda.specs.Agenda.{AgendaState, Change, changes_at, IsOneEach, IsOrderly}
use Rattle.rtl_stim_lines.specs.declared.inputs.Element.{Element as KeptElement}
use Rattle.rtl_stim_lines.specs.Inputs.{Element}
use Rattle.rtl_stim_lines.specs.Courses.{Course, course_value}
use Rattle.rtl_stim_lines.specs.View.{element_view}
use Rattle.rtl_stim.specs.Numbered.{numbered}
use Rattle.rtl_stim.specs.Pushes.{Push, AddsTo, AddsSome, element_pushes}
use Rattle.rtl_stim.proofs.Numbering.{numbered-append}

pub some_of_all : (a b : List (ℕ × List Change)) (P : List Push) → AddsTo a b P → AddsSome a b P
some_of_all a b P adds = record { kept = λ t c old. (adds t c).1 (inl old); pushed = λ t c there. (adds t c).0 there }

-- some more, behind all of others
pub some_more : (a b c : List (ℕ × List Change)) (P Q : List Push) → AddsTo a b P → AddsSome b c Q → AddsSome a c (P ++ Q)
some_more a b c P Q first then' = record {
  kept = λ t x old. then'.kept t x ((first t x).1 (inl old));
  pushed = λ t x there.
      ⊎_elim
      (λ mid. ⊎_elim (λ old. inl old) (λ p. inr (Contains-append_left P Q (t, x) p)) ((first t x).0 mid))
      (λ q. inr (Contains-append_right P Q (t, x) q))
      (then'.pushed t x there);
}

-- some of these are some of more
pub some_among : (a b : List (ℕ × List Change)) (P Q : List Push) → AddsSome a b P → ((p : Push) → Contains P p → Contains Q p) → AddsSome a b Q
some_among a b P Q some among = record {
  kept = some.kept;
  pushed = λ t x there. ⊎_elim (λ old. inl old) (λ p. inr (among (t, x) p)) (some.pushed t x there);
}

-- ---- what the first of some give is among what all give

numbered_take : {X Y : Type 0} (f : ℕ → X → Y) (p i : ℕ) (xs : List X) (y : Y) → Contains (numbered f p (take i xs)) y → Contains (numbered f p xs) y
numbered_take f p i xs y there =
    subst (λ ys. Contains ys y) (sym (numbered-append f p (take i xs) (drop i xs)) ∙ ap (numbered f p) (take-append-drop i xs))
    (Contains-append_left (numbered f p (take i xs)) (numbered f (p + length (take i xs)) (drop i xs)) y there)

-- the first elements, and all
pub some_elements : (a b : List (ℕ × List Change)) (course : Course) (t i : ℕ) (es : List KeptElement) → AddsTo a b (element_pushes course (map element_view (take i es)) t)
    → AddsSome a b (element_pushes course (map element_view es) t)
some_elements a b course t i es adds =
    let f : ℕ → Element → Push = λ place e. (t, (e.net, course_value course place e.start t)) in
    let before = element_pushes course (map element_view (take i es)) t in
    some_among a b before (element_pushes course (map element_view es) t) (some_of_all a b before adds)
    (λ p there. numbered_take f 0 i (map element_view es) p (subst (λ front. Contains (numbered f 0 front) p) (sym (take-map element_view i es)) there))

-- ---- of every agenda

pub one_each_at : (s : AgendaState) → IsOrderly s → (t : ℕ) → IsOneEach (changes_at s.waiting t)
one_each_at s orderly t = by (lookup (is_at (nat_cmp t)) s.waiting) (IfSome-lookup_from_All IsOneEach (is_at (nat_cmp t)) s.waiting orderly.one_each)
  where
    by : (o : Option (List Change)) → IfSome o IsOneEach → IsOneEach (unwrap_or o [])
    by None h = λ i j d before within. absurd (omega (arith, within))
    by (Some cs) h = h
