-- What is put for each variable that is kept, one after another.
use Rattle.std.proofs.Common.{◌≡◌, ℕ, ◌+◌, ◌-◌, ◌<◌, ◌≤◌, nat_le, nat_lt, Bool, true, false, ◌&&◌, if◌then◌else◌, ◌⊎◌, inl, inr, List, [], ◌∷◌, ◌++◌, length, get_or, take, drop, map, append-nil, append_assoc, refl, sym, ap, ◌∙◌, arith}
use Rattle.std.specs.Prelude.{slice_index}
use Rattle.std.specs.List.{range_with_len}
use Rattle.std.proofs.Math.ListN.{set}
use Rattle.std.proofs.lemmas.Bool.{cases_eq, cases_lt, le-leb, lt-leb, lt-ltb, le-ltb}
use Rattle.std.proofs.lemmas.List.{at_drop_more, at_drop_all, get_or-set_same, get_or-set_other, map-append, take_more_set, take_all, drop-set-lt}
use Rattle.rtl_model.specs.bodies.Body.{Stmt, null_of, assign, set as set_of, assign_at, set_at, if_of, case_of, Stmts, done, step, followed_by}
use Rattle.rtl_model.specs.nets.FlatNetlist.{FlatDriver}
use Rattle.rtl_net.specs.declared.body.Statement.{Statement}
use Rattle.rtl_net.specs.declared.process.Driver.{Driver}
use Rattle.rtl_net.specs.Bodies.{statement_view, statements_of}
use Rattle.rtl_net.specs.Nets.{driver_view}
use Rattle.rtl_variable_registers.specs.Bodies as spec
use Rattle.rtl_variable_registers.specs.Processes.{drivers_from}
use Rattle.rtl_kept_bodies.specs.declared.kept.Kept.{Kept}
use Rattle.rtl_kept_bodies.specs.Steps.{placed, stmt_at_reset, all_at_reset, drivers_of, all_drivers_of}
use Rattle.rtl_kept_bodies.proofs.Ranks.{range_more, drivers_append}
use Rattle.rtl_kept_bodies.proofs.Sequences.{followed_assoc, followed_done, of_append}

-- ---- statements

module _ (f : Kept → Stmt) (all : List Kept → Stmts) (more : (k : Kept) (ks : List Kept) → all (k ∷ ks) ≡ step (f k) (all ks)) where
  pub put_more : (whole : Stmts) (now new : List Statement) (ks : List Kept) (i : ℕ) (d : Kept) (x : Statement) → i < length ks
      → followed_by (statements_of now) (all (drop i ks)) ≡ whole → statement_view x ≡ f (get_or ks i d) → new ≡ now ++ x ∷ []
      → followed_by (statements_of new) (all (drop (i + 1) ks)) ≡ whole
  put_more whole now new ks i d x l so_far h pushed =
      let rest = all (drop (i + 1) ks) in
      ap (λ (xs : List Statement). followed_by (statements_of xs) rest) pushed
      ∙ ap (λ s. followed_by s rest) (of_append now (x ∷ []))
      ∙ followed_assoc (statements_of now) (step (statement_view x) done) rest
      ∙ ap (λ v. followed_by (statements_of now) (step v rest)) h
      ∙ sym (at_drop_more (λ (ys : List Kept). followed_by (statements_of now) (all ys)) ks i d l
      ∙ ap (followed_by (statements_of now)) (more (get_or ks i d) (drop (i + 1) ks))) ∙ so_far

  pub put_all : (none : all [] ≡ done) (whole : Stmts) (now : List Statement) (ks : List Kept) (i : ℕ) → length ks ≤ i
      → followed_by (statements_of now) (all (drop i ks)) ≡ whole → statements_of now ≡ whole
  put_all none whole now ks i past so_far =
      sym (followed_done (statements_of now)) ∙ ap (followed_by (statements_of now)) (sym none)
      ∙ sym (at_drop_all (λ (ys : List Kept). followed_by (statements_of now) (all ys)) ks i past) ∙ so_far

-- ---- drivers

pub driver_more : (starts : List ℕ) (a net k : ℕ) (old now new : List Driver) (d : Driver) → length (map (slice_index starts) (range_with_len a k)) ≡ k
    → map driver_view now ≡ map driver_view old ++ drivers_from net (map (slice_index starts) (range_with_len a k))
    → driver_view d ≡ record { net = net + k; start = slice_index starts (a + k) } → new ≡ now ++ d ∷ []
    → map driver_view new ≡ map driver_view old ++ drivers_from net (map (slice_index starts) (range_with_len a (k + 1)))
driver_more starts a net k old now new d long so_far h pushed =
    let xs = map (slice_index starts) (range_with_len a k) in
    ap (map driver_view) pushed ∙ map-append driver_view now (d ∷ []) ∙ ap (λ ds. ds ++ driver_view d ∷ []) so_far
    ∙ append_assoc (map driver_view old) (drivers_from net xs) (driver_view d ∷ [])
    ∙ ap (λ (x : FlatDriver). map driver_view old ++ (drivers_from net xs ++ x ∷ [])) h
    ∙ ap (λ m. map driver_view old ++ (drivers_from net xs ++ drivers_from (net + m) (slice_index starts (a + k) ∷ []))) (sym long)
    ∙ ap (λ ds. map driver_view old ++ ds) (sym (drivers_append net xs (slice_index starts (a + k) ∷ [])))
    ∙ ap (λ ys. map driver_view old ++ drivers_from net ys) (sym (ap (map (slice_index starts)) (range_more a k) ∙ map-append (slice_index starts) (range_with_len a k) ((a + k) ∷ [])))

pub drivers_more : (starts : List ℕ) (whole : List FlatDriver) (now new : List Driver) (ks : List Kept) (i : ℕ) (d : Kept) → i < length ks
    → map driver_view now ++ all_drivers_of starts (drop i ks) ≡ whole → map driver_view new ≡ map driver_view now ++ drivers_of starts (get_or ks i d)
    → map driver_view new ++ all_drivers_of starts (drop (i + 1) ks) ≡ whole
drivers_more starts whole now new ks i d l so_far h =
    ap (λ ds. ds ++ all_drivers_of starts (drop (i + 1) ks)) h
    ∙ append_assoc (map driver_view now) (drivers_of starts (get_or ks i d)) (all_drivers_of starts (drop (i + 1) ks))
    ∙ sym (at_drop_more (λ (ys : List Kept). map driver_view now ++ all_drivers_of starts ys) ks i d l) ∙ so_far

pub drivers_done : (starts : List ℕ) (whole : List FlatDriver) (now : List Driver) (ks : List Kept) (i : ℕ) → length ks ≤ i
    → map driver_view now ++ all_drivers_of starts (drop i ks) ≡ whole → map driver_view now ≡ whole
drivers_done starts whole now ks i past so_far =
    sym (append-nil (map driver_view now)) ∙ sym (at_drop_all (λ (ys : List Kept). map driver_view now ++ all_drivers_of starts ys) ks i past) ∙ so_far

-- ---- places of drivers

abbrev pub first_ones : Kept → ℕ → Kept
first_ones k n = record k { len = n }

abbrev within : (a n e : ℕ) → Bool
within a n e = nat_le a e && nat_lt e (a + n)

none_within : (a e : ℕ) → within a 0 e ≡ false
none_within a e = go (cases_lt e a)
  where
    go : (e < a) ⊎ (a ≤ e) → within a 0 e ≡ false
    go (inl l) = ap (λ (b : Bool). b && nat_lt e (a + 0)) (lt-leb a e l)
    go (inr l) = ap (λ (b : Bool). b && nat_lt e (a + 0)) (le-leb a e l) ∙ le-ltb e (a + 0) (omega arith)

here_within : (a n e : ℕ) → e ≡ a + n → within a (n + 1) e ≡ true
here_within a n e is = ap (λ (b : Bool). b && nat_lt e (a + (n + 1))) (le-leb a e (omega (arith, is))) ∙ lt-ltb e (a + (n + 1)) (omega (arith, is))

still_within : (a n e : ℕ) → (e ≡ a + n → ⊥) → within a (n + 1) e ≡ within a n e
still_within a n e other = go (cases_lt e (a + n))
  where
    go : (e < a + n) ⊎ (a + n ≤ e) → within a (n + 1) e ≡ within a n e
    go (inl l) = ap (λ (b : Bool). nat_le a e && b) (lt-ltb e (a + (n + 1)) (omega arith) ∙ sym (lt-ltb e (a + n) l))
    go (inr l) = ap (λ (b : Bool). nat_le a e && b) (le-ltb e (a + (n + 1)) (omega (arith, other)) ∙ sym (le-ltb e (a + n) l))

pub placed_none : (k : Kept) (d e : ℕ) → d ≡ placed (first_ones k 0) d e
placed_none k d e = sym (ap (λ (b : Bool). if b then k.place + (e - k.element) else d) (none_within k.element e))

pub placed_more : (k : Kept) (n : ℕ) (old now : List ℕ) (d e : ℕ) → k.element + n < length now → get_or now e d ≡ placed (first_ones k n) (get_or old e d) e
    → get_or (set now (k.element + n) (k.place + n)) e d ≡ placed (first_ones k (n + 1)) (get_or old e d) e
placed_more k n old now d e l so_far = go (cases_eq e (k.element + n))
  where
    go : (e ≡ k.element + n) ⊎ (e ≡ k.element + n → ⊥) → get_or (set now (k.element + n) (k.place + n)) e d ≡ placed (first_ones k (n + 1)) (get_or old e d) e
    go (inl is) =
        ap (λ i. get_or (set now (k.element + n) (k.place + n)) i d) is ∙ get_or-set_same now (k.element + n) (k.place + n) d l
        ∙ (let h : k.place + n ≡ k.place + (e - k.element) = omega (arith, is) in h)
        ∙ sym (ap (λ (b : Bool). if b then k.place + (e - k.element) else get_or old e d) (here_within k.element n e is))
    go (inr other) =
        get_or-set_other now (k.element + n) e (k.place + n) d other ∙ so_far
        ∙ sym (ap (λ (b : Bool). if b then k.place + (e - k.element) else get_or old e d) (still_within k.element n e other))

-- ---- the reset's branch

pub reset_more : (place : ℕ → ℕ) (whole : Stmts) (now : List Statement) (i : ℕ) (x y : Statement) → i < length now → x ≡ get_or now i x
    → followed_by (statements_of (take i now)) (all_at_reset place (statements_of (drop i now))) ≡ whole
    → statement_view y ≡ stmt_at_reset place (statement_view x)
    → followed_by (statements_of (take (i + 1) (set now i y))) (all_at_reset place (statements_of (drop (i + 1) (set now i y)))) ≡ whole
reset_more place whole now i x y l at so_far h =
    let rest = all_at_reset place (statements_of (drop (i + 1) now)) in
    ap (λ (xs : List Statement). followed_by (statements_of xs) (all_at_reset place (statements_of (drop (i + 1) (set now i y))))) (take_more_set now i y l)
    ∙ ap (λ (xs : List Statement). followed_by (statements_of (take i now ++ y ∷ [])) (all_at_reset place (statements_of xs))) (drop-set-lt (i + 1) now i y (omega arith))
    ∙ ap (λ s. followed_by s rest) (of_append (take i now) (y ∷ []))
    ∙ followed_assoc (statements_of (take i now)) (step (statement_view y) done) rest
    ∙ ap (λ v. followed_by (statements_of (take i now)) (step v rest)) h
    ∙ sym (at_drop_more (λ (ys : List Statement). followed_by (statements_of (take i now)) (all_at_reset place (statements_of ys))) now i x l
    ∙ ap (λ (z : Statement). followed_by (statements_of (take i now)) (step (stmt_at_reset place (statement_view z)) rest)) (sym at)) ∙ so_far

pub reset_done : (place : ℕ → ℕ) (whole : Stmts) (now : List Statement) (i : ℕ) → length now ≤ i
    → followed_by (statements_of (take i now)) (all_at_reset place (statements_of (drop i now))) ≡ whole → statements_of now ≡ whole
reset_done place whole now i past so_far =
    sym (followed_done (statements_of now)) ∙ ap (λ (xs : List Statement). followed_by (statements_of xs) done) (sym (take_all i now past))
    ∙ sym (at_drop_all (λ (ys : List Statement). followed_by (statements_of (take i now)) (all_at_reset place (statements_of ys))) now i past) ∙ so_far

pub at_reset_is : (net place : ℕ → ℕ) (s : Stmts) → all_at_reset place s ≡ spec.at_reset net place s
at_reset_is net place done = refl
at_reset_is net place (step null_of rest) = ap (step null_of) (at_reset_is net place rest)
at_reset_is net place (step (assign ps v) rest) = ap (step (assign ps v)) (at_reset_is net place rest)
at_reset_is net place (step (set_of es v) rest) = ap (step (assign (map place es) v)) (at_reset_is net place rest)
at_reset_is net place (step (assign_at index spacing places d) rest) = ap (step (assign_at index spacing places d)) (at_reset_is net place rest)
at_reset_is net place (step (set_at index spacing es d) rest) = ap (step (set_at index spacing es d)) (at_reset_is net place rest)
at_reset_is net place (step (if_of bs) rest) = ap (step (if_of bs)) (at_reset_is net place rest)
at_reset_is net place (step (case_of v alts) rest) = ap (step (case_of v alts)) (at_reset_is net place rest)
