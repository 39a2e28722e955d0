-- What waits once changes are pushed.
use Rattle.std.proofs.Common.{◌≡◌, ◌≢◌, ℕ, suc, ◌+◌, List, [], ◌∷◌, ◌++◌, get_or, ⊎_elim, inl, inr, refl, sym, ap, subst, ◌∙◌, arith, append_assoc}
use Rattle.std.specs.Prelude.{◌⊎◌, ◌↔◌, Contains, slice_get, Some}
use Rattle.std.proofs.lemmas.Bool.{cases_eq}
use Rattle.std.proofs.lemmas.List.Elements.{Contains-get_or, Contains-append_left, Contains-append_right, Contains-append_cases, Contains-push, Contains-push_cases}
use Rattle.rtl_agenda.specs.Agenda.{AgendaState, Change, changes_at, with_change, LeavesAlone}
use Rattle.rtl_agenda.proofs.Pushing.{each_push_is_last}
use Rattle.rtl_stim_lines.specs.Inputs.{Element}
use Rattle.rtl_stim_lines.specs.Courses.{Course, course_value}
use Rattle.rtl_stim.specs.Numbered.{numbered}
use Rattle.rtl_stim.specs.Pushes.{Push, AddsTo, KeepsTaken, gathered}
use Rattle.rtl_stim.proofs.Values.{first_or_later}

pub keeps_on : (s t u : AgendaState) → KeepsTaken s t → KeepsTaken t u → KeepsTaken s u
keeps_on s t u h k = record { last = k.last ∙ h.last; taken = k.taken ∙ h.taken }

-- ---- what is added

pub adds_none : (w : List (ℕ × List Change)) → AddsTo w w []
adds_none w t c = (λ here. inl here, λ either. ⊎_elim (λ here. here) (λ none. absurd (omega (arith, none.1))) either)

pub adds_more : (a b c : List (ℕ × List Change)) (P Q : List Push) → AddsTo a b P → AddsTo b c Q → AddsTo a c (P ++ Q)
adds_more a b c P Q first then' t x = (
  λ here. ⊎_elim (λ mid. ⊎_elim (λ old. inl old) (λ p. inr (Contains-append_left P Q (t, x) p)) ((first t x).0 mid)) (λ q. inr (Contains-append_right P Q (t, x) q)) ((then' t x).0 here),
  λ either. ⊎_elim (λ old. (then' t x).1 (inl ((first t x).1 (inl old))))
      (λ both. ⊎_elim (λ p. (then' t x).1 (inl ((first t x).1 (inr p)))) (λ q. (then' t x).1 (inr q)) (Contains-append_cases P Q (t, x) both)) either,
)

pub adds_push : (w : List (ℕ × List Change)) (time : ℕ) (change : Change) → AddsTo w (with_change w time change) ((time, change) ∷ [])
adds_push w time change t c = ⊎_elim same other (cases_eq t time)
  where
    pushes : List Push
    pushes = (time, change) ∷ []

    last : changes_at (with_change w time change) time ≡ changes_at w time ++ change ∷ []
    last = (each_push_is_last w time change).0

    same : t ≡ time → Contains (changes_at (with_change w time change) t) c ↔ (Contains (changes_at w t) c ⊎ Contains pushes (t, c))
    same e = (
      λ here. ⊎_elim (λ old. inl (subst (λ s. Contains (changes_at w s) c) (sym e) old)) (λ is. inr (0, omega arith, ap (λ (s : ℕ). let p : Push = (s, change) in p) (sym e) ∙ ap (λ (x : Change). let p : Push = (t, x) in p) is))
          (Contains-push_cases (changes_at w time) change c (subst (λ cs. Contains cs c) last (subst (λ s. Contains (changes_at (with_change w time change) s) c) e here))),
      λ either. subst (λ s. Contains (changes_at (with_change w time change) s) c) (sym e) (subst (λ cs. Contains cs c) (sym last)
          (⊎_elim (λ old. Contains-append_left (changes_at w time) (change ∷ []) c (subst (λ s. Contains (changes_at w s) c) e old))
          (λ pushed. first_or_later (time, change) (t, c) [] pushed (Contains (changes_at w time ++ change ∷ []) c)
          (λ is. subst (Contains (changes_at w time ++ change ∷ [])) (ap (λ (p : Push). p.1) is) (Contains-push (changes_at w time) change)) (λ none. absurd (omega (arith, none.1)))) either)),
    )

    other : t ≢ time → Contains (changes_at (with_change w time change) t) c ↔ (Contains (changes_at w t) c ⊎ Contains pushes (t, c))
    other differ =
        let is = (each_push_is_last w time change).1 t differ in (
          λ here. inl (subst (λ cs. Contains cs c) is here),
          λ either. ⊎_elim (λ old. subst (λ cs. Contains cs c) (sym is) old)
              (λ pushed. first_or_later (time, change) (t, c) [] pushed (Contains (changes_at (with_change w time change) t) c)
              (λ p. absurd (differ (sym (ap (λ (p : Push). p.0) p)))) (λ none. absurd (omega (arith, none.1)))) either,
        )

pub leaves_alone : (changes : List Change) (net : ℕ) → ((c : Change) → Contains changes c → c.0 ≢ net) → LeavesAlone changes net
leaves_alone changes net h k d within = h (get_or changes k d) (Contains-get_or changes k d within)

-- ---- gathered lists

pub gathered-append : {X Y : Type 0} (f : X → List Y) (xs ys : List X) → gathered f (xs ++ ys) ≡ gathered f xs ++ gathered f ys
gathered-append f [] ys = refl
gathered-append f (x ∷ xs) ys = ap (λ zs. f x ++ zs) (gathered-append f xs ys) ∙ sym (append_assoc (f x) (gathered f xs) (gathered f ys))

pub gathered_from : {X Y : Type 0} (f : X → List Y) (xs : List X) (y : Y) → Contains (gathered f xs) y → (x : X) × Contains xs x × Contains (f x) y
gathered_from f [] y there = absurd (omega (arith, there.1))
gathered_from f (x ∷ xs) y there =
    ⊎_elim (λ here. (x, Contains-get_or (x ∷ xs) 0 x (omega arith), here))
    (λ later. let from = gathered_from f xs y later in (from.0, Contains-append_right (x ∷ []) xs from.0 from.1, from.2))
    (Contains-append_cases (f x) (gathered f xs) y there)

pub gathered_has : {X Y : Type 0} (f : X → List Y) (xs : List X) (x : X) (y : Y) → Contains xs x → Contains (f x) y → Contains (gathered f xs) y
gathered_has f [] x y there has = absurd (omega (arith, there.1))
gathered_has {X} {Y} f (z ∷ xs) x y there has =
    first_or_later z x xs there (Contains (gathered f (z ∷ xs)) y)
    (λ is. Contains-append_left (f z) (gathered f xs) y (subst (λ (w : X). Contains (f w) y) (sym is) has))
    (λ later. Contains-append_right (f z) (gathered f xs) y (gathered_has f xs x y later has))

-- ---- an input's elements

-- what is pushed of elements is of their nets, at the time
pub pushed_from : (course : Course) (t place : ℕ) (es : List Element) (p : Push) → Contains (numbered {Y = Push} (λ place e. (t, (e.net, course_value course place e.start t))) place es) p
    → (k : ℕ) × (e : Element) × (slice_get es k ≡ Some e) × (p ≡ (t, (e.net, course_value course (place + k) e.start t)))
pushed_from course t place [] p there = absurd (omega (arith, there.1))
pushed_from course t place (x ∷ es) (s, c) there =
    let here : place ≡ place + 0 = omega arith in
    first_or_later (t, (x.net, course_value course place x.start t)) (s, c) (numbered {Y = Push} (λ place e. (t, (e.net, course_value course place e.start t))) (suc place) es) there
    ((k : ℕ) × (e : Element) × (slice_get (x ∷ es) k ≡ Some e) × ((s, c) ≡ (t, (e.net, course_value course (place + k) e.start t))))
    (λ is. (0, x, refl, sym is ∙ ap (λ (n : ℕ). let p : Push = (t, (x.net, course_value course n x.start t)) in p) here))
    (λ later. let from = pushed_from course t (suc place) es (s, c) later in
    let next : suc place + from.0 ≡ place + suc from.0 = omega arith in
    (suc from.0, from.1, from.2, from.3 ∙ ap (λ (n : ℕ). let p : Push = (t, (from.1.net, course_value course n from.1.start t)) in p) next))
