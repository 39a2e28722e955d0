-- What is due of a course is what comes next.
use Rattle.std.proofs.Common.{◌≡◌, ◌⊎◌, ℕ, zero, suc, ◌+◌, ◌-◌, ◌%◌, ◌<◌, ◌≤◌, Bool, true, false, cond, List, [], ◌∷◌, filter, take, Option, Some, None, ⊎_elim, inl, inr, refl, sym, ap, subst, ◌∙◌, arith}
use Rattle.std.specs.Prelude.{Contains, nat_lt, nat_le, ◌==◌}
use Rattle.std.specs.Option.{is_some}
use Rattle.std.specs.Ordering.{nat_cmp, is_eq}
use Rattle.std.specs.declared.cmp.Ordering.{Ordering}
use Rattle.std.specs.declared.cmp.Ordering.TheVariants.{Less, Equal, Greater}
use Rattle.std.specs.Cmp.{nat_cmp_is}
use Rattle.std.specs.List.{range_with_len}
use Rattle.std.specs.Map.{lookup, keys_of}
use Rattle.std.specs.BTreeMap.{is_at}
use Rattle.std.proofs.Math.Nat.{mod-zero, zero-mod, eq-or-lt_of_le}
use Rattle.std.proofs.lemmas.Bool.{cases_lt}
use Rattle.std.proofs.lemmas.Bool.Decides.{nat_tests}
use Rattle.std.proofs.lemmas.List.Elements.{Contains-append_right}
use Rattle.std.proofs.lemmas.Map.Lookups.{exact_unsigned}
use Rattle.rtl_stim_lines.specs.Courses.{Course, toggles, is_busy, IsNextToggle}
use Rattle.rtl_stim_lines.specs.Filling.{IsNext}
use Rattle.rtl_stim_lines.proofs.Clocks.{next_after}
use Rattle.rtl_stim.specs.Pushes.{next_time, due}
use Rattle.rtl_stim.proofs.Values.{first_or_later}

-- ---- keys

pub at_itself : (t : ℕ) → is_at (nat_cmp t) t ≡ true
at_itself t = ap is_eq (sym (nat_cmp_is t t Equal refl))

pub is_at_key : (t k : ℕ) → is_at (nat_cmp t) k ≡ true → t ≡ k
is_at_key t k h = by (nat_cmp t k) refl h
  where
    by : (r : Ordering) → nat_cmp t k ≡ r → is_eq r ≡ true → t ≡ k
    by Less is h = cc
    by Equal is h = exact_unsigned t k is
    by Greater is h = cc

module _ {X : Type 0} where
  pub key_found : (es : List (ℕ × X)) (t : ℕ) → Contains (keys_of es) t → is_some (lookup (is_at (nat_cmp t)) es) ≡ true
  key_found [] t there = absurd (omega (arith, there.1))
  key_found (e ∷ es) t there =
      first_or_later e.0 t (keys_of es) there (is_some (lookup (is_at (nat_cmp t)) (e ∷ es)) ≡ true)
      (λ is. ap (λ b. is_some (cond b (Some e.1) (lookup (is_at (nat_cmp t)) es))) (ap (is_at (nat_cmp t)) is ∙ at_itself t))
      (λ later. either (is_at (nat_cmp t) e.0) (key_found es t later))
    where
      either : (b : Bool) → is_some (lookup (is_at (nat_cmp t)) es) ≡ true → is_some (cond b (Some e.1) (lookup (is_at (nat_cmp t)) es)) ≡ true
      either true h = refl
      either false h = h

  pub found_key : (es : List (ℕ × X)) (t : ℕ) → is_some (lookup (is_at (nat_cmp t)) es) ≡ true → Contains (keys_of es) t
  found_key [] t found = cc
  found_key (e ∷ es) t found = by (is_at (nat_cmp t) e.0) refl found (λ h. found_key es t h)
    where
      by : (b : Bool) → is_at (nat_cmp t) e.0 ≡ b → is_some (cond b (Some e.1) (lookup (is_at (nat_cmp t)) es)) ≡ true
          → (is_some (lookup (is_at (nat_cmp t)) es) ≡ true → Contains (keys_of es) t) → Contains (e.0 ∷ keys_of es) t
      by true is h rest = (0, omega arith, sym (is_at_key t e.0 is))
      by false is h rest = Contains-append_right (e.0 ∷ []) (keys_of es) t (rest h)

pub filtered : {X : Type 0} (p : X → Bool) (xs : List X) (x : X) → Contains (filter p xs) x → Contains xs x × (p x ≡ true)
filtered p [] x there = absurd (omega (arith, there.1))
filtered {X} p (y ∷ xs) x there = by (p y) refl there (filtered p xs x)
  where
    by : (b : Bool) → p y ≡ b → Contains (cond b (y ∷ filter p xs) (filter p xs)) x → (Contains (filter p xs) x → Contains xs x × (p x ≡ true)) → Contains (y ∷ xs) x × (p x ≡ true)
    by true is h rest =
        first_or_later y x (filter p xs) h (Contains (y ∷ xs) x × (p x ≡ true)) (λ e. ((0, omega arith, e), ap p (sym e) ∙ is))
        (λ later. let r = rest later in (Contains-append_right (y ∷ []) xs x r.0, r.1))
    by false is h rest = let r = rest h in (Contains-append_right (y ∷ []) xs x r.0, r.1)

pub kept_in : {X : Type 0} (p : X → Bool) (xs : List X) (x : X) → Contains xs x → p x ≡ true → Contains (filter p xs) x
kept_in p [] x there passes = absurd (omega (arith, there.1))
kept_in {X} p (y ∷ xs) x there passes =
    first_or_later y x xs there (Contains (filter p (y ∷ xs)) x)
    (λ e. subst (λ b. Contains (cond b (y ∷ filter p xs) (filter p xs)) x) (sym (ap p e ∙ passes)) (0, omega arith, e))
    (λ later. by (p y) (kept_in p xs x later passes))
  where
    by : (b : Bool) → Contains (filter p xs) x → Contains (cond b (y ∷ filter p xs) (filter p xs)) x
    by true h = Contains-append_right (y ∷ []) (filter p xs) x h
    by false h = h

-- ---- clocks

pub only_first : (first half t : ℕ) → first ≤ t → (t - first) % half ≡ 0 → toggles first half t ≡ true
only_first first half t after e = let a : nat_le first t ≡ true = grind (arith, nat_tests) in rw (a, e) refl

pub first_toggle : (first half now : ℕ) → now < first → IsNextToggle first half now first
first_toggle first half now before = record {
  later = before;
  toggling = only_first first half first (omega arith) (let none : first - first ≡ 0 = omega arith in ap (λ n. n % half) none ∙ zero_rest half);
  none_between = λ between later sooner. let a : nat_le first between ≡ false = grind (arith, nat_tests) in rw a refl;
}
  where
    zero_rest : (h : ℕ) → 0 % h ≡ 0
    zero_rest h = zero-mod h

pub next_is : (first half now t : ℕ) → next_time first half now ≡ Some t → IsNextToggle first half now t
next_is first half now t is = by (nat_lt now first) (half == 0) refl refl is
  where
    by : (a b : Bool) → nat_lt now first ≡ a → (half == 0) ≡ b → cond a (Some first) (cond b None (Some (now + (half - (now - first) % half)))) ≡ Some t → IsNextToggle first half now t
    by true b early none h =
        let before : now < first = grind (arith, nat_tests) in
        let same : first ≡ t = cc in
        subst (IsNextToggle first half now) same (first_toggle first half now before)
    by false true early none h = cc
    by false false early none h =
        let after : first ≤ now = grind (arith, nat_tests) in
        let some : 0 < half = grind (arith, nat_tests) in
        let same : now + (half - (now - first) % half) ≡ t = cc in
        subst (IsNextToggle first half now) same (next_after first half now some after)

pub never_next : (first half now : ℕ) → next_time first half now ≡ None → (t : ℕ) → now < t → toggles first half t ≡ false
never_next first half now is t later = by (nat_lt now first) (half == 0) refl refl is
  where
    by : (a b : Bool) → nat_lt now first ≡ a → (half == 0) ≡ b → cond a (Some first) (cond b None (Some (now + (half - (now - first) % half)))) ≡ None → toggles first half t ≡ false
    by true b early none h = cc
    by false true early none h =
        let after : first ≤ now = grind (arith, nat_tests) in
        let zero_half : half ≡ 0 = grind (arith, nat_tests) in
        let rest : (t - first) % half ≡ t - first = ap (λ n. (t - first) % n) zero_half ∙ mod-zero (t - first) in
        let some : ((t - first) == 0) ≡ false = grind (arith, nat_tests) in
        let there : nat_le first t ≡ true = grind (arith, nat_tests) in
        rw (there, rest, some) refl
    by false false early none h = cc

-- a clock that toggles later has a next toggle, no later than that
pub next_exists : (first half now b : ℕ) → now < b → toggles first half b ≡ true → (t : ℕ) × (next_time first half now ≡ Some t) × (t ≤ b)
next_exists first half now b later toggling = by (next_time first half now) refl
  where
    by : (o : Option ℕ) → next_time first half now ≡ o → (t : ℕ) × (next_time first half now ≡ Some t) × (t ≤ b)
    by None is = let never = never_next first half now is b later in cc
    by (Some t) is = (t, is, ⊎_elim (λ before. let none = (next_is first half now t is).none_between b later before in cc) (λ h. h) (cases_lt b t))

-- ---- the first time of some at which a course is busy

module _ (p : ℕ → Bool) where
  none_from : (a n : ℕ) → ((b : ℕ) → a ≤ b → b < a + n → p b ≡ false) → filter p (range_with_len a n) ≡ []
  none_from a zero none = refl
  none_from a (suc n) none =
      ap (λ b. cond b (a ∷ filter p (range_with_len (a + 1) n)) (filter p (range_with_len (a + 1) n))) (none a (omega arith) (omega arith))
      ∙ none_from (a + 1) n (λ b from below. none b (omega arith) (omega arith))

  first_from : (a n t : ℕ) → a ≤ t → t < a + n → p t ≡ true → ((b : ℕ) → a ≤ b → b < t → p b ≡ false) → take 1 (filter p (range_with_len a n)) ≡ t ∷ []
  first_from a zero t from within is none = absurd (omega arith)
  first_from a (suc n) t from within is none = by (eq-or-lt_of_le from) (λ later. first_from (a + 1) n t later (omega arith) is (λ b from below. none b (omega arith) below))
    where
      by : (a ≡ t) ⊎ (a < t) → (a + 1 ≤ t → take 1 (filter p (range_with_len (a + 1) n)) ≡ t ∷ []) → take 1 (filter p (range_with_len a (suc n))) ≡ t ∷ []
      by (inl here) rest = ap (λ b. take 1 (cond b (a ∷ filter p (range_with_len (a + 1) n)) (filter p (range_with_len (a + 1) n)))) (ap p here ∙ is) ∙ ap (λ k. k ∷ []) here
      by (inr later) rest = ap (λ b. take 1 (cond b (a ∷ filter p (range_with_len (a + 1) n)) (filter p (range_with_len (a + 1) n)))) (none a (omega arith) later) ∙ rest (omega arith)

  is_first : (a n t : ℕ) → Contains (take 1 (filter p (range_with_len a n))) t → (t < a + n) × (a ≤ t) × (p t ≡ true) × ((b : ℕ) → a ≤ b → b < t → p b ≡ false)
  is_first a zero t there = absurd (omega (arith, there.1))
  is_first a (suc n) t there = by (p a) refl there (λ later. is_first (a + 1) n t later)
    where
      by : (b : Bool) → p a ≡ b → Contains (take 1 (cond b (a ∷ filter p (range_with_len (a + 1) n)) (filter p (range_with_len (a + 1) n)))) t
          → (Contains (take 1 (filter p (range_with_len (a + 1) n))) t → (t < a + 1 + n) × (a + 1 ≤ t) × (p t ≡ true) × ((b : ℕ) → a + 1 ≤ b → b < t → p b ≡ false))
          → (t < a + suc n) × (a ≤ t) × (p t ≡ true) × ((b : ℕ) → a ≤ b → b < t → p b ≡ false)
      by true is h rest =
          first_or_later a t [] h ((t < a + suc n) × (a ≤ t) × (p t ≡ true) × ((b : ℕ) → a ≤ b → b < t → p b ≡ false))
          (λ e. (omega arith, omega arith, ap p (sym e) ∙ is, λ b from below. absurd (omega arith))) (λ none. absurd (omega (arith, none.1)))
      by false is h rest =
          let r = rest h in (
            omega (arith, r.0),
            omega (arith, r.1),
            r.2,
            λ b from below. ⊎_elim (λ here. ap p (sym here) ∙ is) (λ later. r.3 b (omega (arith, later)) below) (eq-or-lt_of_le from),
          )

  -- where one passes, some first one does
  pub some_first : (a n : ℕ) → p (a + n) ≡ true → (t : ℕ) × (t ≤ a + n) × (a ≤ t) × (p t ≡ true) × ((b : ℕ) → a ≤ b → b < t → p b ≡ false)
  some_first a zero is = let here : a + 0 ≡ a = omega arith in (a, omega arith, omega arith, ap p (sym here) ∙ is, λ b from below. absurd (omega arith))
  some_first a (suc n) is =
      let moved : a + suc n ≡ a + 1 + n = omega arith in
      by (p a) refl (some_first (a + 1) n (ap p (sym moved) ∙ is))
    where
      by : (b : Bool) → p a ≡ b → ((t : ℕ) × (t ≤ a + 1 + n) × (a + 1 ≤ t) × (p t ≡ true) × ((b : ℕ) → a + 1 ≤ b → b < t → p b ≡ false))
          → (t : ℕ) × (t ≤ a + suc n) × (a ≤ t) × (p t ≡ true) × ((b : ℕ) → a ≤ b → b < t → p b ≡ false)
      by true here r = (a, omega arith, omega arith, here, λ b from below. absurd (omega arith))
      by false here r = (
        r.0,
        omega (arith, r.1),
        omega (arith, r.2),
        r.3,
        λ b from below. ⊎_elim (λ e. ap p (sym e) ∙ here) (λ later. r.4 b (omega (arith, later)) below) (eq-or-lt_of_le from),
      )

-- a course that is busy later is busy for the first time no later
pub first_busy : (course : Course) (now b : ℕ) → now < b → is_busy course b ≡ true → (t : ℕ) × (now < t) × (t ≤ b) × IsNext course now t
first_busy course now b later busy =
    let at : now + 1 + (b - (now + 1)) ≡ b = omega arith in
    let f = some_first (λ t. is_busy course t) (now + 1) (b - (now + 1)) (ap (is_busy course) at ∙ busy) in (
      f.0,
      omega (arith, f.2),
      omega (arith, f.1),
      (f.3, λ between after before active. let idle = f.4 between (omega arith) before in cc),
    )

-- ---- what is due

pub due_later : (course : Course) (now stop t : ℕ) → Contains (due course now stop) t → (now < t) × (t ≤ stop) × IsNext course now t
due_later course now stop t there =
    let f = is_first (λ t. is_busy course t) (now + 1) (stop - now) t there in (
      omega (arith, f.1),
      omega (arith, f.0, f.1),
      (f.2, λ between after before active. let idle = f.3 between (omega arith) before in cc),
    )

pub due_has : (course : Course) (now stop t : ℕ) → now < t → t ≤ stop → IsNext course now t → Contains (due course now stop) t
due_has course now stop t later within next =
    let is = first_from (λ t. is_busy course t) (now + 1) (stop - now) t (omega arith) (omega arith) next.0 (λ b from below. idle b (is_busy course b) refl (omega arith) below) in
    subst (λ ts. Contains ts t) (sym is) (0, omega arith, refl)
  where
    idle : (b : ℕ) (r : Bool) → is_busy course b ≡ r → now < b → b < t → r ≡ false
    idle b true is after before = absurd (next.1 b after before is)
    idle b false is after before = refl

-- what was found is due
pub due_found : (course : Course) (now stop t : ℕ) → (now < t) × (t ≤ stop) → is_busy course t ≡ true → ((b : ℕ) → now < b → b < t → is_busy course b ≡ false) → due course now stop ≡ t ∷ []
due_found course now stop t within busy idle = first_from (λ t. is_busy course t) (now + 1) (stop - now) t (omega (arith, within.0)) (omega (arith, within.0, within.1)) busy (λ b from below. idle b (omega arith) below)

pub none_due : (course : Course) (now stop : ℕ) → ((b : ℕ) → now < b → b < suc stop → is_busy course b ≡ false) → due course now stop ≡ []
none_due course now stop idle = ap (λ (ts : List ℕ). take 1 ts) (none_from (λ t. is_busy course t) (now + 1) (stop - now) (λ b from below. idle b (omega arith) (omega arith)))
