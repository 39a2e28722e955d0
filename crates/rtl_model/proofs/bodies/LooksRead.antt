-- A body reads all that its drivers look at, so what a run does depends on what it sees of that, and on nothing else.
use Rattle.std.proofs.Common.{◌≡◌, ℕ, zero, suc, Bool, true, false, not, cond, ◌==◌, ◌||◌, ◌&&◌, List, [], ◌∷◌, ◌++◌, ◌-◌, length, drop, map, replicate, slice_index_or}
use Rattle.std.proofs.Common.{refl, sym, subst, Contains, arith, ◌⊎◌, inl, inr}
use Rattle.std.specs.Prelude.{flat_map}
use Rattle.std.specs.List.{list_any, range_with_len}
use Rattle.std.proofs.lemmas.Bool.{and_parts, eq-eqb}
use Rattle.std.proofs.lemmas.List.Elements.{Contains-append_left, Contains-append_right, Contains-append_cases}
use Rattle.vhdl_values.specs.declared.scalar.Nine.{Nine}
use Rattle.rtl_model.specs.bodies.Body.{Operator, logical, joined, plus, minus, times, signed, Expr, signal, variable, constant, inverse, filled, binary, counted, shifted, converted}
use Rattle.rtl_model.specs.bodies.Body as bodies
use Rattle.rtl_model.specs.bodies.Rows.{Spacing, row, row_count, all_rows}
use Rattle.rtl_model.specs.bodies.Body.{Value, elements, position, position_of, position_in}
use Rattle.rtl_model.specs.bodies.Body.{Test, condition, decided, equal, unequal, level, compared, compared_to}
use Rattle.rtl_model.specs.bodies.Body.{rising, falling, event, negated, combined}
use Rattle.rtl_model.specs.bodies.Body.{Stmt, null_of, assign, set, assign_at, set_at, if_of, case_of, Stmts, done, step}
use Rattle.rtl_model.specs.bodies.Body.{Branches, no_else, otherwise, branch, Alternatives, others, alternative}
use Rattle.rtl_model.specs.bodies.Fits.{operated_width}
use Rattle.rtl_model.specs.bodies.Reads.{expr_reads, value_reads, test_reads, stmt_reads, reads, branches_reads, alternatives_reads}
use Rattle.rtl_model.specs.bodies.Reads.{test_events, stmt_events, events, branches_events, alternatives_events}
use Rattle.rtl_model.specs.bodies.Assigns.{Target, driver, element, is_element, stmt_must_assign, must_assign, branches_must_assign, alternatives_must_assign}
use Rattle.rtl_model.specs.bodies.Stored.{expr_looks_at, value_looks_at, test_looks_at, stmt_stores, stores_element, branches_store, alternatives_store}
use Rattle.rtl_model.specs.bodies.Looks.{Sight, net_now, net_before, element_kept, seen_at, Looks, first_looks, whole, expr_looks, value_looks, test_looks}
use Rattle.rtl_model.specs.bodies.Looks.{replaced, put, put_rows, stmt_looks, body_looks, branches_look, alternatives_look, now_of}
use Rattle.rtl_model.specs.bodies.Laws.{IsRead, LooksAreRead, LooksAtReads, NothingIsKept}
use Rattle.rtl_model.proofs.basics.Lists.{Contains-none, Contains-one, Contains-first}
use Rattle.rtl_model.proofs.bodies.Looking.{each_looks}
use Rattle.rtl_model.proofs.bodies.Within.{Within, within_none, within_one, within_both, EachWithin, each_append, each_side, each_replicate, whole_within, first_within, each_drop, each_counted, each_of_rows, each_chosen}

or_left : (a b : Bool) → a ≡ true → a || b ≡ true
or_left true b h = refl
or_left false b h = absurd cc

or_right : (a b : Bool) → b ≡ true → a || b ≡ true
or_right true b h = refl
or_right false b h = h

-- what a later statement stores had it before, or is assigned
stored_next : (m t : Bool) (P Q : Type 0) → t ≡ true → (not m && t ≡ true → P) → (P ⊎ (m ≡ true) → Q) → Q
stored_next true t P Q h f g = g (inr refl)
stored_next false t P Q h f g = g (inl (f h))

-- what had it before, or is assigned by a statement or after it
next : (m n : Bool) (P Q : Type 0) → P ⊎ (m || n ≡ true) → (P ⊎ (m ≡ true) → Q) → Q ⊎ (n ≡ true)
next m n P Q (inl h) f = inl (f (inl h))
next true n P Q (inr h) f = inl (f (inr refl))
next false n P Q (inr h) f = inr h

-- where two sides must assign, one of them does
one_must : (m n : Bool) (P : Type 0) → P ⊎ (m && n ≡ true) → P ⊎ (m ≡ true)
one_must m n P (inl h) = inl h
one_must m n P (inr h) = inr (and_parts m n h).0

other_must : (m n : Bool) (P : Type 0) → P ⊎ (m && n ≡ true) → P ⊎ (n ≡ true)
other_must m n P (inl h) = inl h
other_must m n P (inr h) = inr (and_parts m n h).1

module _ (P : Sight → Type 0) where
  -- ---- what a part may look at

  -- the nets that it reads, those whose events it asks for, and what the elements look at that it reads
  record Sure (rs es : List ℕ) (read : ℕ → Bool) (looks : Looks) : Type 0 where
    now : (n : ℕ) → Contains rs n → P (net_now n)
    before : (n : ℕ) → Contains es n → P (net_before n)
    variables : (e : ℕ) → read e ≡ true → Within P (looks (element e))

  lefts : {looks : Looks} (rs qs es fs : List ℕ) (f g : ℕ → Bool) → Sure (rs ++ qs) (es ++ fs) (λ e. f e || g e) looks → Sure rs es f looks
  lefts rs qs es fs f g h = record {
    now = λ n c. h.now n (Contains-append_left rs qs n c);
    before = λ n c. h.before n (Contains-append_left es fs n c);
    variables = λ e t. h.variables e (or_left (f e) (g e) t);
  }

  rights : {looks : Looks} (rs qs es fs : List ℕ) (f g : ℕ → Bool) → Sure (rs ++ qs) (es ++ fs) (λ e. f e || g e) looks → Sure qs fs g looks
  rights rs qs es fs f g h = record {
    now = λ n c. h.now n (Contains-append_right rs qs n c);
    before = λ n c. h.before n (Contains-append_right es fs n c);
    variables = λ e t. h.variables e (or_right (f e) (g e) t);
  }

  module _ (looks : Looks) where
    nets_within : (ns : List ℕ) → ((n : ℕ) → Contains ns n → P (net_now n)) → EachWithin P (map (λ n. net_now n ∷ []) ns)
    nets_within [] h = tt
    nets_within (n ∷ ns) h = (within_one P (net_now n) (h n (Contains-first n ns)), nets_within ns (λ m c. h m (Contains-append_right (n ∷ []) ns m c)))

    elements_within : (es : List ℕ) → ((e : ℕ) → list_any (λ d. d == e) es ≡ true → Within P (looks (element e))) → EachWithin P (map (λ e. looks (element e)) es)
    elements_within [] h = tt
    elements_within (e ∷ es) h = (h e (or_left (e == e) (list_any (λ d. d == e) es) (eq-eqb e e refl)), elements_within es (λ d t. h d (or_right (e == d) (list_any (λ c. c == d) es) t)))

    constants_within : (vs : List Nine) → EachWithin P (map (λ v. []) vs)
    constants_within [] = tt
    constants_within (v ∷ vs) = (within_none P, constants_within vs)

    abbrev OfExpr : Expr → Type 0
    OfExpr e = Sure (expr_reads e) [] (λ k. expr_looks_at k e) looks

    both_within : (op : Operator) (ls rs : List (List Sight)) → EachWithin P ls → EachWithin P rs → EachWithin P (replicate (operated_width op (length ls) (length rs)) (whole ls ++ whole rs))
    both_within op ls rs h k = each_replicate P (operated_width op (length ls) (length rs)) (whole ls ++ whole rs) (within_both P (whole ls) (whole rs) (whole_within P ls h) (whole_within P rs k))

    left_of : (op : Operator) (d e : Expr) → OfExpr (binary op d e) → OfExpr d
    left_of op d e h = lefts (expr_reads d) (expr_reads e) [] [] (λ k. expr_looks_at k d) (λ k. expr_looks_at k e) h

    right_of : (op : Operator) (d e : Expr) → OfExpr (binary op d e) → OfExpr e
    right_of op d e h = rights (expr_reads d) (expr_reads e) [] [] (λ k. expr_looks_at k d) (λ k. expr_looks_at k e) h

    expr_within : (e : Expr) → OfExpr e → EachWithin P (expr_looks looks e)
    expr_within (signal nets) h = nets_within nets h.now
    expr_within (variable es) h = elements_within es h.variables
    expr_within (constant values) h = constants_within values
    expr_within (inverse e) h = expr_within e h
    expr_within (filled len e) h = each_replicate P len (slice_index_or (expr_looks looks e) 0 []) (first_within P (expr_looks looks e) (expr_within e h))
    expr_within (binary (logical op) d e) h = each_side P (expr_looks looks d) (expr_looks looks e) (expr_within d (left_of (logical op) d e h)) (expr_within e (right_of (logical op) d e h))
    expr_within (binary joined d e) h = each_append P (expr_looks looks d) (expr_looks looks e) (expr_within d (left_of joined d e h)) (expr_within e (right_of joined d e h))
    expr_within (binary plus d e) h = both_within plus (expr_looks looks d) (expr_looks looks e) (expr_within d (left_of plus d e h)) (expr_within e (right_of plus d e h))
    expr_within (binary minus d e) h = both_within minus (expr_looks looks d) (expr_looks looks e) (expr_within d (left_of minus d e h)) (expr_within e (right_of minus d e h))
    expr_within (binary times d e) h = both_within times (expr_looks looks d) (expr_looks looks e) (expr_within d (left_of times d e h)) (expr_within e (right_of times d e h))
    expr_within (binary (signed op) d e) h = both_within (signed op) (expr_looks looks d) (expr_looks looks e) (expr_within d (left_of (signed op) d e h)) (expr_within e (right_of (signed op) d e h))
    expr_within (counted op count e) h = each_counted P op count (expr_looks looks e) (expr_within e h)
    expr_within (shifted by count e) h =
        let k : OfExpr (binary joined count e) = h in
        each_replicate P (length (expr_looks looks e)) (whole (expr_looks looks count) ++ whole (expr_looks looks e))
        (within_both P (whole (expr_looks looks count)) (whole (expr_looks looks e))
        (whole_within P (expr_looks looks count) (expr_within count (left_of joined count e k))) (whole_within P (expr_looks looks e) (expr_within e (right_of joined count e k))))
    expr_within (converted by e) h = each_replicate P (length (expr_looks looks e)) (whole (expr_looks looks e)) (whole_within P (expr_looks looks e) (expr_within e h))
    expr_within (bodies.chosen index spacing rows) h =
        let k : OfExpr (binary joined index rows) = h in
        each_chosen P (whole (expr_looks looks index)) spacing.len (all_rows spacing (expr_looks looks rows))
        (whole_within P (expr_looks looks index) (expr_within index (left_of joined index rows k)))
        (each_of_rows P spacing (expr_looks looks rows) (range_with_len 0 (row_count spacing (length (expr_looks looks rows)))) (expr_within rows (right_of joined index rows k)))

    expr_whole : (e : Expr) → OfExpr e → Within P (whole (expr_looks looks e))
    expr_whole e h = whole_within P (expr_looks looks e) (expr_within e h)

    value_within : (v : Value) → Sure (value_reads v) [] (λ k. value_looks_at k v) looks → EachWithin P (value_looks looks v)
    value_within (elements e) h = expr_within e h
    value_within (position n) h = (within_none P, tt)
    value_within (position_of net) h = (within_one P (net_now net) (h.now net (Contains-first net [])), tt)
    value_within (position_in e) h = (h.variables e (eq-eqb e e refl), tt)

    value_whole : (v : Value) → Sure (value_reads v) [] (λ k. value_looks_at k v) looks → Within P (whole (value_looks looks v))
    value_whole v h = whole_within P (value_looks looks v) (value_within v h)

    values_whole : (v w : Value) → Sure (value_reads v ++ value_reads w) [] (λ k. value_looks_at k v || value_looks_at k w) looks → Within P (whole (value_looks looks v) ++ whole (value_looks looks w))
    values_whole v w h =
        within_both P (whole (value_looks looks v)) (whole (value_looks looks w))
        (value_whole v (lefts (value_reads v) (value_reads w) [] [] (λ k. value_looks_at k v) (λ k. value_looks_at k w) h))
        (value_whole w (rights (value_reads v) (value_reads w) [] [] (λ k. value_looks_at k v) (λ k. value_looks_at k w) h))

    event_within : (net : ℕ) (read : ℕ → Bool) → Sure (net ∷ []) (net ∷ []) read looks → Within P (net_before net ∷ net_now net ∷ [])
    event_within net read h =
        within_both P (net_before net ∷ []) (net_now net ∷ []) (within_one P (net_before net) (h.before net (Contains-first net []))) (within_one P (net_now net) (h.now net (Contains-first net [])))

    test_within : (t : Test) → Sure (test_reads t) (test_events t) (λ k. test_looks_at k t) looks → Within P (test_looks looks t)
    test_within (condition e) h = expr_whole e h
    test_within (decided c) h = within_none P
    test_within (equal v w) h = values_whole v w h
    test_within (unequal v w) h = values_whole v w h
    test_within (level plain net v) h = within_one P (net_now net) (h.now net (Contains-first net []))
    test_within (compared op d e) h =
        let k : OfExpr (binary joined d e) = h in
        within_both P (whole (expr_looks looks d)) (whole (expr_looks looks e)) (expr_whole d (left_of joined d e k)) (expr_whole e (right_of joined d e k))
    test_within (compared_to op e n) h = expr_whole e h
    test_within (rising net) h = event_within net (λ k. false) h
    test_within (falling net) h = event_within net (λ k. false) h
    test_within (event net) h = event_within net (λ k. false) h
    test_within (negated t) h = test_within t h
    test_within (combined op s t) h =
        within_both P (test_looks looks s) (test_looks looks t)
        (test_within s (lefts (test_reads s) (test_reads t) (test_events s) (test_events t) (λ k. test_looks_at k s) (λ k. test_looks_at k t) h))
        (test_within t (rights (test_reads s) (test_reads t) (test_events s) (test_events t) (λ k. test_looks_at k s) (λ k. test_looks_at k t) h))

  -- ---- statements

  -- drivers keep the property, and so do elements, which get it where they are assigned
  record Does (looks looks' : Looks) (assigned : ℕ → Bool) : Type 0 where
    drivers : (p : ℕ) → Within P (looks (driver p)) → Within P (looks' (driver p))
    elements : (e : ℕ) → Within P (looks (element e)) ⊎ (assigned e ≡ true) → Within P (looks' (element e))

  does_none : (looks : Looks) → Does looks looks (λ e. false)
  does_none looks = record { drivers = λ p h. h; elements = go }
    where
      go : (e : ℕ) → Within P (looks (element e)) ⊎ (false ≡ true) → Within P (looks (element e))
      go e (inl h) = h
      go e (inr h) = absurd cc

  chosen : (c : Bool) (ls rs : List Sight) → Within P ls → Within P rs → Within P (cond c ls rs)
  chosen true ls rs h k = h
  chosen false ls rs h k = k

  module _ (round : List Sight) (around : Within P round) where
    put_places : (ps : List ℕ) (ls : List (List Sight)) (looks : Looks) → EachWithin P ls → (p : ℕ) → Within P (looks (driver p)) → Within P (put driver round ps ls looks (driver p))
    put_places [] ls looks h p k = k
    put_places (q ∷ ps) ls looks h p k =
        put_places ps (drop 1 ls) (replaced (driver q) (round ++ slice_index_or ls 0 []) looks) (each_drop P 1 ls h) p
        (chosen (q == p) (round ++ slice_index_or ls 0 []) (looks (driver p)) (within_both P round (slice_index_or ls 0 []) around (first_within P ls h)) k)

    put_places_elements : (ps : List ℕ) (ls : List (List Sight)) (looks : Looks) (e : ℕ) → Within P (looks (element e)) → Within P (put driver round ps ls looks (element e))
    put_places_elements [] ls looks e k = k
    put_places_elements (q ∷ ps) ls looks e k = put_places_elements ps (drop 1 ls) (replaced (driver q) (round ++ slice_index_or ls 0 []) looks) e k

    put_elements_drivers : (es : List ℕ) (ls : List (List Sight)) (looks : Looks) (p : ℕ) → Within P (looks (driver p)) → Within P (put element round es ls looks (driver p))
    put_elements_drivers [] ls looks p k = k
    put_elements_drivers (d ∷ es) ls looks p k = put_elements_drivers es (drop 1 ls) (replaced (element d) (round ++ slice_index_or ls 0 []) looks) p k

    put_elements : (es : List ℕ) (ls : List (List Sight)) (looks : Looks) → EachWithin P ls → (e : ℕ) → Within P (looks (element e)) ⊎ (list_any (λ d. d == e) es ≡ true) → Within P (put element round es ls looks (element e))
    put_elements [] ls looks h e (inl k) = k
    put_elements [] ls looks h e (inr k) = absurd cc
    put_elements (d ∷ es) ls looks h e k = put_elements es (drop 1 ls) (replaced (element d) (round ++ slice_index_or ls 0 []) looks) (each_drop P 1 ls h) e (go (d == e) k)
      where
        go : (c : Bool) → Within P (looks (element e)) ⊎ (c || list_any (λ b. b == e) es ≡ true) → Within P (cond c (round ++ slice_index_or ls 0 []) (looks (element e))) ⊎ (list_any (λ b. b == e) es ≡ true)
        go true k = inl (within_both P round (slice_index_or ls 0 []) around (first_within P ls h))
        go false k = k

  -- behind each of several rows
  each_put : (f : List ℕ → List Sight) (rows : List (List ℕ)) → ((row : List ℕ) → Within P (f row)) → Within P (flat_map f rows)
  each_put f [] h = within_none P
  each_put f (row ∷ rows) h = within_both P (f row) (flat_map f rows) (h row) (each_put f rows h)

  -- an assignment to one of several rows, whose index and value are these
  module _ (looks : Looks) (index e : Expr) (round : List Sight) (around : Within P round) (h : Sure (expr_reads index ++ expr_reads e) [] (λ k. expr_looks_at k index || expr_looks_at k e) looks) where
    abbrev sights : List Sight
    sights = round ++ whole (expr_looks looks index)

    around_rows : Within P sights
    around_rows = within_both P round (whole (expr_looks looks index)) around (expr_whole looks index (left_of looks joined index e h))

    given : EachWithin P (expr_looks looks e)
    given = expr_within looks e (right_of looks joined index e h)

    -- a target that each assignment leaves with the property
    at_rows : (at : ℕ → Target) (spacing : Spacing) (rows : List ℕ) (t : Target) → Within P (looks t) → ((ps : List ℕ) (ls : List (List Sight)) → EachWithin P ls → Within P (put at sights ps ls looks t))
        → Within P (put_rows at sights spacing rows (expr_looks looks e) looks t)
    at_rows at spacing rows t w each =
        within_both P (looks t) _ w (within_both P (put at sights rows (replicate (length rows) []) looks t) _
        (each rows (replicate (length rows) []) (each_replicate P (length rows) [] (within_none P)))
        (each_put (λ row. put at sights row (expr_looks looks e) looks t) (all_rows spacing rows) (λ row. each row (expr_looks looks e) given)))

    rows_of_places : (spacing : Spacing) (places : List ℕ) → Does looks (put_rows driver sights spacing places (expr_looks looks e) looks) (λ e. false)
    rows_of_places spacing places = record { drivers = λ p w. at_rows driver spacing places (driver p) w (λ ps ls each. put_places sights around_rows ps ls looks each p w); elements = go }
      where
        go : (k : ℕ) → Within P (looks (element k)) ⊎ (false ≡ true) → Within P (put_rows driver sights spacing places (expr_looks looks e) looks (element k))
        go k (inl w) = at_rows driver spacing places (element k) w (λ ps ls each. put_places_elements sights around_rows ps ls looks k w)
        go k (inr w) = absurd cc

    rows_of_elements : (spacing : Spacing) (es : List ℕ) → Does looks (put_rows element sights spacing es (expr_looks looks e) looks) (λ e. false)
    rows_of_elements spacing es = record { drivers = λ p w. at_rows element spacing es (driver p) w (λ ps ls each. put_elements_drivers sights around_rows ps ls looks p w); elements = go }
      where
        go : (k : ℕ) → Within P (looks (element k)) ⊎ (false ≡ true) → Within P (put_rows element sights spacing es (expr_looks looks e) looks (element k))
        go k (inl w) = at_rows element spacing es (element k) w (λ ps ls each. put_elements sights around_rows ps ls looks each k (inl w))
        go k (inr w) = absurd cc

  does_either : {looks l1 l2 : Looks} {m n : ℕ → Bool} → Does looks l1 m → Does looks l2 n → Does looks (λ t. l1 t ++ l2 t) (λ e. m e && n e)
  does_either {looks} {l1} {l2} {m} {n} h k = record {
    drivers = λ p w. within_both P (l1 (driver p)) (l2 (driver p)) (h.drivers p w) (k.drivers p w);
    elements = λ e w. within_both P (l1 (element e)) (l2 (element e)) (h.elements e (one_must (m e) (n e) _ w)) (k.elements e (other_must (m e) (n e) _ w));
  }

  does_one : (b : Bool) {looks l1 l2 : Looks} {m n : ℕ → Bool} → Does looks l1 m → Does looks l2 n → Does looks (λ t. cond b (l1 t) (l2 t)) (λ e. m e && n e)
  does_one true {m = m} {n = n} h k = record { drivers = h.drivers; elements = λ e w. h.elements e (one_must (m e) (n e) _ w) }
  does_one false {m = m} {n = n} h k = record { drivers = k.drivers; elements = λ e w. k.elements e (other_must (m e) (n e) _ w) }

  no_place : (ps : List ℕ) → list_any (λ p. false) ps ≡ true → ⊥
  no_place [] h = cc
  no_place (p ∷ ps) h = no_place ps h

  mutual
    stmt_does : (s : Stmt) (round : List Sight) (looks : Looks) → Within P round → Sure (stmt_reads s) (stmt_events s) (λ e. stmt_stores e s) looks
        → Does looks (stmt_looks round looks s) (λ e. stmt_must_assign (is_element e) s)
    stmt_does null_of round looks r h = does_none looks
    stmt_does (assign places v) round looks r h = record { drivers = put_places round r places (value_looks looks v) looks each; elements = go }
      where
        each : EachWithin P (value_looks looks v)
        each = value_within looks v h

        go : (e : ℕ) → Within P (looks (element e)) ⊎ (list_any (λ p. false) places ≡ true) → Within P (put driver round places (value_looks looks v) looks (element e))
        go e (inl w) = put_places_elements round r places (value_looks looks v) looks e w
        go e (inr w) = absurd (no_place places w)
    stmt_does (set es v) round looks r h =
        let each = value_within looks v h in
        record { drivers = put_elements_drivers round r es (value_looks looks v) looks; elements = put_elements round r es (value_looks looks v) looks each }
    stmt_does (assign_at index spacing places e) round looks r h = rows_of_places looks index e round r h spacing places
    stmt_does (set_at index spacing es e) round looks r h = rows_of_elements looks index e round r h spacing es
    stmt_does (if_of bs) round looks r h = branches_do bs round looks r h
    stmt_does (case_of v alts) round looks r h =
        let of_value = value_whole looks v (record {
          now = λ n c. h.now n (Contains-append_left (value_reads v) (alternatives_reads alts) n c);
          before = λ n c. absurd (Contains-none n c);
          variables = λ e t. h.variables e (or_left (value_looks_at e v) (alternatives_store e alts) t);
        }) in
        alternatives_do alts (round ++ whole (value_looks looks v)) looks (within_both P round (whole (value_looks looks v)) r of_value) (record {
          now = λ n c. h.now n (Contains-append_right (value_reads v) (alternatives_reads alts) n c);
          before = h.before;
          variables = λ e t. h.variables e (or_right (value_looks_at e v) (alternatives_store e alts) t);
        })

    body_does : (s : Stmts) (round : List Sight) (looks : Looks) → Within P round → Sure (reads s) (events s) (λ e. stores_element e s) looks
        → Does looks (body_looks round looks s) (λ e. must_assign (is_element e) s)
    body_does done round looks r h = does_none looks
    body_does (step s rest) round looks r h =
        let first = stmt_does s round looks r (lefts (stmt_reads s) (reads rest) (stmt_events s) (events rest) (λ e. stmt_stores e s) (λ e. not (stmt_must_assign (is_element e) s) && stores_element e rest) h) in
        let later = rights (stmt_reads s) (reads rest) (stmt_events s) (events rest) (λ e. stmt_stores e s) (λ e. not (stmt_must_assign (is_element e) s) && stores_element e rest) h in
        let more = body_does rest round (stmt_looks round looks s) r (record { now = later.now; before = later.before; variables = λ e t. stored_next (stmt_must_assign (is_element e) s) (stores_element e rest) _ _ t (later.variables e) (first.elements e) }) in
        record {
          drivers = λ p w. more.drivers p (first.drivers p w);
          elements = λ e w. more.elements e (next (stmt_must_assign (is_element e) s) (must_assign (is_element e) rest) _ _ w (first.elements e));
        }

    branches_do : (bs : Branches) (round : List Sight) (looks : Looks) → Within P round → Sure (branches_reads bs) (branches_events bs) (λ e. branches_store e bs) looks
        → Does looks (branches_look round looks bs) (λ e. branches_must_assign (is_element e) bs)
    branches_do no_else round looks r h = does_none looks
    branches_do (otherwise s) round looks r h = body_does s round looks r h
    branches_do (branch (decided b) s bs) round looks r h =
        does_one b
        (body_does s round looks r (lefts (reads s) (branches_reads bs) (events s) (branches_events bs) (λ e. stores_element e s) (λ e. branches_store e bs) h))
        (branches_do bs round looks r (rights (reads s) (branches_reads bs) (events s) (branches_events bs) (λ e. stores_element e s) (λ e. branches_store e bs) h))
    branches_do (branch t s bs) round looks r h =
        let of_test = lefts (test_reads t) (reads s ++ branches_reads bs) (test_events t) (events s ++ branches_events bs) (λ e. test_looks_at e t) (λ e. stores_element e s || branches_store e bs) h in
        let inner = rights (test_reads t) (reads s ++ branches_reads bs) (test_events t) (events s ++ branches_events bs) (λ e. test_looks_at e t) (λ e. stores_element e s || branches_store e bs) h in
        let within = within_both P round (test_looks looks t) r (test_within looks t of_test) in
        does_either
        (body_does s (round ++ test_looks looks t) looks within (lefts (reads s) (branches_reads bs) (events s) (branches_events bs) (λ e. stores_element e s) (λ e. branches_store e bs) inner))
        (branches_do bs (round ++ test_looks looks t) looks within (rights (reads s) (branches_reads bs) (events s) (branches_events bs) (λ e. stores_element e s) (λ e. branches_store e bs) inner))

    alternatives_do : (alts : Alternatives) (round : List Sight) (looks : Looks) → Within P round → Sure (alternatives_reads alts) (alternatives_events alts) (λ e. alternatives_store e alts) looks
        → Does looks (alternatives_look round looks alts) (λ e. alternatives_must_assign (is_element e) alts)
    alternatives_do (others s) round looks r h = body_does s round looks r h
    alternatives_do (alternative choices s alts) round looks r h =
        does_either
        (body_does s round looks r (lefts (reads s) (alternatives_reads alts) (events s) (alternatives_events alts) (λ e. stores_element e s) (λ e. alternatives_store e alts) h))
        (alternatives_do alts round looks r (rights (reads s) (alternatives_reads alts) (events s) (alternatives_events alts) (λ e. stores_element e s) (λ e. alternatives_store e alts) h))

pub looks_are_read : LooksAreRead
looks_are_read body place =
    (body_does (IsRead body) body [] first_looks (within_none (IsRead body)) (record {
      now = λ n c. c;
      before = λ n c. c;
      variables = λ e t. within_one (IsRead body) (element_kept e) t;
    })).drivers place (within_none (IsRead body))

pub looks_at_reads : LooksAtReads
looks_at_reads body seen other l h place = each_looks body place seen other l (λ sight c. h sight (looks_are_read body place sight c))

pub nothing_is_kept : NothingIsKept
nothing_is_kept body none seen values l = looks_at_reads body (record seen { variables = values }) seen l at
  where
    at : (sight : Sight) → IsRead body sight → seen_at (record seen { variables = values }) sight ≡ seen_at seen sight
    at (net_now n) r = refl
    at (net_before n) r = refl
    at (element_kept e) r = let f = none e in absurd cc

-- ---- the nets among looks

pub net_looked : (looks : List Sight) (n : ℕ) → Contains looks (net_now n) → Contains (flat_map now_of looks) n
net_looked [] n c = absurd (Contains-none (net_now n) c)
net_looked (l ∷ looks) n (zero, k, e) = Contains-append_left (now_of l) (flat_map now_of looks) n (subst (λ (s : Sight). Contains (now_of s) n) (sym e) (Contains-first n []))
net_looked (l ∷ looks) n (suc i, k, e) = Contains-append_right (now_of l) (flat_map now_of looks) n (net_looked looks n (i, omega arith, e))

pub looked_net : (looks : List Sight) (n : ℕ) → Contains (flat_map now_of looks) n → Contains looks (net_now n)
looked_net [] n c = absurd (Contains-none n c)
looked_net (l ∷ looks) n c = go (looked_net looks n) l (Contains-append_cases (now_of l) (flat_map now_of looks) n c)
  where
    go : (Contains (flat_map now_of looks) n → Contains looks (net_now n)) → (s : Sight) → Contains (now_of s) n ⊎ Contains (flat_map now_of looks) n → Contains (s ∷ looks) (net_now n)
    go more s (inr k) = Contains-append_right (s ∷ []) looks (net_now n) (more k)
    go more (net_now m) (inl k) = subst (λ (i : ℕ). Contains (net_now m ∷ looks) (net_now i)) (Contains-one m n k) (Contains-first (net_now m) looks)
    go more (net_before m) (inl k) = absurd (Contains-none n k)
    go more (element_kept e) (inl k) = absurd (Contains-none n k)
