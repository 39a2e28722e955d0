-- What no statement sets keeps its value, and the branch of a reset does the same with constants in the place of what is
-- known.
use Rattle.std.proofs.Common.{◌≡◌, ℕ, ◌<◌, ◌≤◌, Bool, true, false, cond, not, ◌&&◌, ◌||◌, ◌==◌, List, [], ◌∷◌, ◌++◌, Option, None, length, drop, map, flat_map, slice_index, slice_set}
use Rattle.std.proofs.Common.{refl, sym, ap, ◌∙◌, subst, arith, ◌⊎◌, inl, inr}
use Rattle.std.specs.List.{list_any, list_all}
use Rattle.std.proofs.lemmas.Bool.{and_parts, and_from, or_cases, eq-eqb, eqb-true, cases_lt}
use Rattle.std.proofs.lemmas.List.{get_or-set_same, get_or-set_other, get_or_past, length-set}
use Rattle.vhdl_values.specs.Scalar.{code_of}
use Rattle.rtl_model.specs.basics.Lists.{is_empty}
use Rattle.rtl_model.specs.basics.Valuations.{or_else}
use Rattle.rtl_model.specs.bodies.Assigns.{Target, is_element, stmt_must_assign, must_assign, stmt_assigns, stmts_assign, branches_assign, alternatives_assign}
use Rattle.rtl_model.specs.bodies.Body.{Expr, signal, variable, constant, inverse, filled, binary, counted, shifted, converted, chosen}
use Rattle.rtl_model.specs.bodies.Body.{Value, elements, position, position_of, position_in}
use Rattle.rtl_model.specs.bodies.Body.{Stmt, null_of, assign, set, assign_at, set_at, if_of, case_of, Stmts, done, step}
use Rattle.rtl_model.specs.bodies.Body.{Branches, no_else, otherwise, branch, Alternatives, others, alternative}
use Rattle.rtl_model.specs.bodies.Effect.{entries, effect}
use Rattle.rtl_model.specs.bodies.Fits.{Scope, HoldsRows, FitsExpr, FitsAs, DrivesType, FitsTarget, Fits, IsWidth, value_width}
use Rattle.rtl_model.specs.bodies.Kinds.{assigns_constants}
use Rattle.rtl_model.specs.bodies.Rows.{row_at}
use Rattle.rtl_model.specs.bodies.Leaves.{Leaf, of_nets, of_event, of_elements, expr_leaves, value_leaves, leaves, read_of}
use Rattle.rtl_model.specs.bodies.Reads.{value_reads, reads}
use Rattle.rtl_model.specs.bodies.Tests.{same, is_met}
use Rattle.rtl_model.specs.bodies.Types.{ElementType, nine_valued, enumeration, HasType, KeepsTypes}
use Rattle.rtl_model.specs.bodies.Values.{Seen, elements_of, targets_at, given_at, value_of}
use Rattle.rtl_model.specs.bodies.Variables.{values_put, stmt_variables, variables_after, branches_variables, alternatives_variables, after_stmt}
use Rattle.rtl_model.proofs.basics.Lists.{is_nil, nil_parts}
use Rattle.rtl_model.proofs.bodies.Leaves.{leaves_tell}
use Rattle.rtl_model.proofs.bodies.Ranges.{entries_keep_types}
use Rattle.rtl_model.proofs.bodies.Rows.{none-targets}
use Rattle.rtl_model.proofs.bodies.Widths.{has_its_width}
use Rattle.rtl_variable_registers.specs.Known.{leaf_is_known, is_known, gives_constants, never_set, constant_of, as_constant, with_constant, with_constants}
use Rattle.rtl_variable_registers.proofs.Recalling.{length-values_put}
use Rattle.rtl_variable_registers.proofs.Values.{on_both, Agree, value_known, value_same}

-- ---- what no statement sets

neither : (a b : Bool) → a || b ≡ false → (a ≡ false) × (b ≡ false)
neither false b h = (refl, h)
neither true b h = absurd cc

differs : (d e : ℕ) → d == e ≡ false → e ≡ d → ⊥
differs d e n s = let t = eq-eqb d e (sym s) in cc

put_elsewhere : (es values old : List ℕ) (e : ℕ) → list_any (λ d. d == e) es ≡ false → slice_index (values_put es values old) e ≡ slice_index old e
put_elsewhere [] values old e h = refl
put_elsewhere (d ∷ es) values old e h =
    let (n, m) = neither (d == e) (list_any (λ c. c == e) es) h in
    put_elsewhere es (drop 1 values) (slice_set old d (slice_index values 0)) e m
    ∙ get_or-set_other old d e (slice_index values 0) 0 (differs d e n)

either_way : (b : Bool) (v w : List ℕ) (e x : ℕ) → slice_index v e ≡ x → slice_index w e ≡ x → slice_index (cond b v w) e ≡ x
either_way true v w e x h k = h
either_way false v w e x h k = k

module _ (e : ℕ) where
  mutual
    stmt_unset : (s : Stmt) (seen : Seen) → stmt_assigns (is_element e) s ≡ false → slice_index (stmt_variables seen s) e ≡ slice_index seen.variables e
    stmt_unset null_of seen h = refl
    stmt_unset (assign places v) seen h = refl
    stmt_unset (set es v) seen h = put_elsewhere es (value_of seen v) seen.variables e h
    stmt_unset (assign_at index spacing places v) seen h = refl
    stmt_unset (set_at index spacing es v) seen h =
        let i = elements_of seen index in
        put_elsewhere (targets_at es (row_at spacing es i)) (given_at es (row_at spacing es i) (map code_of (elements_of seen v))) seen.variables e
        (none-targets (λ d. d == e) spacing es i h)
    stmt_unset (if_of bs) seen h = branches_unset bs seen h
    stmt_unset (case_of v alts) seen h = alternatives_unset alts (value_of seen v) seen h

    pub body_unset : (s : Stmts) (seen : Seen) → stmts_assign (is_element e) s ≡ false → slice_index (variables_after seen s) e ≡ slice_index seen.variables e
    body_unset done seen h = refl
    body_unset (step s rest) seen h =
        let (c, d) = neither (stmt_assigns (is_element e) s) (stmts_assign (is_element e) rest) h in body_unset rest (after_stmt seen s) d ∙ stmt_unset s seen c

    branches_unset : (bs : Branches) (seen : Seen) → branches_assign (is_element e) bs ≡ false → slice_index (branches_variables seen bs) e ≡ slice_index seen.variables e
    branches_unset no_else seen h = refl
    branches_unset (otherwise s) seen h = body_unset s seen h
    branches_unset (branch t s bs) seen h =
        let (c, d) = neither (stmts_assign (is_element e) s) (branches_assign (is_element e) bs) h in
        either_way (is_met seen t) (variables_after seen s) (branches_variables seen bs) e (slice_index seen.variables e) (body_unset s seen c) (branches_unset bs seen d)

    alternatives_unset : (alts : Alternatives) (v : List ℕ) (seen : Seen) → alternatives_assign (is_element e) alts ≡ false
        → slice_index (alternatives_variables seen v alts) e ≡ slice_index seen.variables e
    alternatives_unset (others s) v seen h = body_unset s seen h
    alternatives_unset (alternative choices s alts) v seen h =
        let (c, d) = neither (stmts_assign (is_element e) s) (alternatives_assign (is_element e) alts) h in
        either_way (list_any (same v) choices) (variables_after seen s) (alternatives_variables seen v alts) e (slice_index seen.variables e)
        (body_unset s seen c) (alternatives_unset alts v seen d)

-- and so in the parts of a sequence
pub not_set : (b : Bool) → not b ≡ true → b ≡ false
not_set false h = refl
not_set true h = absurd cc

pub unset_first : (s : Stmt) (rest : Stmts) (e : ℕ) → never_set (step s rest) e ≡ true → stmts_assign (is_element e) (step s done) ≡ false
unset_first s rest e h =
    let (c, d) = neither (stmt_assigns (is_element e) s) (stmts_assign (is_element e) rest) (not_set (stmts_assign (is_element e) (step s rest)) h) in rw c refl

-- ---- values

-- where two runs know the same, they do behind an assignment
set_same : (v w : List ℕ) (d x : ℕ) → length v ≡ length w → slice_index (slice_set v d x) d ≡ slice_index (slice_set w d x) d
set_same v w d x l = go (cases_lt d (length v))
  where
    go : (d < length v) ⊎ (length v ≤ d) → slice_index (slice_set v d x) d ≡ slice_index (slice_set w d x) d
    go (inl k) = get_or-set_same v d x 0 k ∙ sym (get_or-set_same w d x 0 (omega arith))
    go (inr k) = get_or_past (slice_set v d x) d 0 (omega (arith, length-set v d x)) ∙ sym (get_or_past (slice_set w d x) d 0 (omega (arith, length-set w d x)))

put_agrees : (es values a b : List ℕ) (e : ℕ) → length a ≡ length b → (slice_index a e ≡ slice_index b e) ⊎ (list_any (λ d. d == e) es ≡ true)
    → slice_index (values_put es values a) e ≡ slice_index (values_put es values b) e
put_agrees [] values a b e l (inl h) = h
put_agrees [] values a b e l (inr h) = absurd cc
put_agrees (d ∷ es) values a b e l h =
    put_agrees es (drop 1 values) (slice_set a d x) (slice_set b d x) e (omega (arith, length-set a d x, length-set b d x)) (next (d == e) refl h)
  where
    x : ℕ
    x = slice_index values 0

    next : (t : Bool) → d == e ≡ t → (slice_index a e ≡ slice_index b e) ⊎ (t || list_any (λ c. c == e) es ≡ true)
        → (slice_index (slice_set a d x) e ≡ slice_index (slice_set b d x) e) ⊎ (list_any (λ c. c == e) es ≡ true)
    next true s k = inl (subst (λ (n : ℕ). slice_index (slice_set a d x) n ≡ slice_index (slice_set b d x) n) (eqb-true d e s) (set_same a b d x l))
    next false s (inl k) = inl (get_or-set_other a d e x 0 (differs d e s) ∙ k ∙ sym (get_or-set_other b d e x 0 (differs d e s)))
    next false s (inr k) = inr k

abbrev pub knows_more : (known : ℕ → Bool) → List ℕ → ℕ → Bool
knows_more known es e = known e || list_any (λ d. d == e) es

put_known : (known : ℕ → Bool) (es : List ℕ) (v : Value) (a b : Seen) → is_known known v ≡ true → Agree known a b → length a.variables ≡ length b.variables
    → Agree (knows_more known es) (after_stmt a (set es v)) (after_stmt b (set es v))
put_known known es v a b h agree l e k =
    put_agrees es (value_of a v) a.variables b.variables e l (go (or_cases (known e) (list_any (λ d. d == e) es) k))
    ∙ ap (λ (values : List ℕ). slice_index (values_put es values b.variables) e) (value_known known a b agree v h)
  where
    go : (known e ≡ true) ⊎ (list_any (λ d. d == e) es ≡ true) → (slice_index a.variables e ≡ slice_index b.variables e) ⊎ (list_any (λ d. d == e) es ≡ true)
    go (inl c) = inl (agree e c)
    go (inr c) = inr c

-- what looks at known elements alone reads no net
known_reads : (known : ℕ → Bool) (ls : List Leaf) → list_all (leaf_is_known known) ls ≡ true → flat_map read_of ls ≡ []
known_reads known [] h = refl
known_reads known (of_elements es ∷ ls) h = known_reads known ls (and_parts (list_all known es) (list_all (leaf_is_known known) ls) h).1
known_reads known (of_nets ns ∷ ls) h = absurd cc
known_reads known (of_event n ∷ ls) h = absurd cc

pub reads_none : (known : ℕ → Bool) (v : Value) → is_known known v ≡ true → value_reads v ≡ []
reads_none known v h = leaves_tell.value_reads_are v ∙ known_reads known (value_leaves v) h

-- the constant in the place of a value
pub constant_same : (seen other : Seen) (v : Value) → value_reads v ≡ [] → value_of other (constant_of seen v) ≡ value_of seen v
constant_same seen other (elements e) h = refl
constant_same seen other (position n) h = refl
constant_same seen other (position_of n) h = absurd cc
constant_same seen other (position_in e) h = refl

constant_is : (known : ℕ → Bool) (seen left other : Seen) (v : Value) → Agree known left seen → is_known known v ≡ true → value_of other (as_constant seen v) ≡ value_of left v
constant_is known seen left other v agree h = go (is_empty (value_leaves v)) refl
  where
    go : (b : Bool) → is_empty (value_leaves v) ≡ b → value_of other (cond b v (constant_of seen v)) ≡ value_of left v
    go true n = value_same other left v (is_nil (value_leaves v) n)
    go false n = constant_same seen other v (reads_none known v h) ∙ sym (value_known known left seen agree v h)

bare_constant : (seen : Seen) (v : Value) → value_leaves (constant_of seen v) ≡ []
bare_constant seen (elements e) = refl
bare_constant seen (position n) = refl
bare_constant seen (position_of n) = refl
bare_constant seen (position_in e) = refl

constant_leaves : (seen : Seen) (v : Value) → value_leaves (as_constant seen v) ≡ []
constant_leaves seen v = go (is_empty (value_leaves v)) refl
  where
    go : (b : Bool) → is_empty (value_leaves v) ≡ b → value_leaves (cond b v (constant_of seen v)) ≡ []
    go true n = is_nil (value_leaves v) n
    go false n = bare_constant seen v

-- a value that looks at nothing stays
constant_bare : (seen : Seen) (v : Value) → value_leaves v ≡ [] → as_constant seen v ≡ v
constant_bare seen v h = rw (ap is_empty h) refl

constant_reads : (seen : Seen) (v : Value) → is_empty (value_reads (as_constant seen v)) ≡ true
constant_reads seen v = ap is_empty (leaves_tell.value_reads_are (as_constant seen v) ∙ ap (flat_map read_of) (constant_leaves seen v))

-- ---- the branch of a reset

-- assignments and nulls alone, whose values look at nothing
abbrev pub are_constants : Stmts → Bool
are_constants done = true
are_constants (step null_of rest) = are_constants rest
are_constants (step (assign places v) rest) = is_empty (value_leaves v) && are_constants rest
are_constants (step (set es v) rest) = is_empty (value_leaves v) && are_constants rest
are_constants (step _ rest) = false

pub made_constants : (known : ℕ → Bool) (seen : Seen) (a : Stmts) → gives_constants known a ≡ true → are_constants (with_constants seen a) ≡ true
made_constants known seen done h = refl
made_constants known seen (step null_of rest) h = made_constants known seen rest h
made_constants known seen (step (assign ps v) rest) h =
    let (c, d) = and_parts (is_known known v) (gives_constants known rest) h in
    and_from (is_empty (value_leaves (as_constant seen v))) _ (ap is_empty (constant_leaves seen v)) (made_constants known seen rest d)
made_constants known seen (step (set es v) rest) h =
    let (c, d) = and_parts (is_known known v) (gives_constants (knows_more known es) rest) h in
    and_from (is_empty (value_leaves (as_constant seen v))) _ (ap is_empty (constant_leaves seen v))
    (made_constants (knows_more known es) (after_stmt seen (set es v)) rest d)
made_constants known seen (step (assign_at index spacing ps v) rest) h = absurd cc
made_constants known seen (step (set_at index spacing es v) rest) h = absurd cc
made_constants known seen (step (if_of bs) rest) h = absurd cc
made_constants known seen (step (case_of v alts) rest) h = absurd cc

-- where it looks at nothing, it gives them whatever is known
pub gives_bare : (known known' : ℕ → Bool) (a : Stmts) → gives_constants known a ≡ true → leaves a ≡ [] → gives_constants known' a ≡ true
gives_bare known known' done h n = refl
gives_bare known known' (step null_of rest) h n = gives_bare known known' rest h n
gives_bare known known' (step (assign ps v) rest) h n =
    let (c, d) = nil_parts (value_leaves v) (leaves rest) n in
    and_from (is_known known' v) _ (ap (list_all (leaf_is_known known')) c) (gives_bare known known' rest (and_parts (is_known known v) (gives_constants known rest) h).1 d)
gives_bare known known' (step (set es v) rest) h n =
    let (c, d) = nil_parts (value_leaves v) (leaves rest) n in
    and_from (is_known known' v) _ (ap (list_all (leaf_is_known known')) c)
    (gives_bare (knows_more known es) (knows_more known' es) rest (and_parts (is_known known v) (gives_constants (knows_more known es) rest) h).1 d)
gives_bare known known' (step (assign_at index spacing ps v) rest) h n = absurd cc
gives_bare known known' (step (set_at index spacing es v) rest) h n = absurd cc
gives_bare known known' (step (if_of bs) rest) h n = absurd cc
gives_bare known known' (step (case_of v alts) rest) h n = absurd cc

-- it assigns the same
stmt_same : (these : Target → Bool) (seen : Seen) (s : Stmt) → stmt_must_assign these (with_constant seen s) ≡ stmt_must_assign these s
stmt_same these seen null_of = refl
stmt_same these seen (assign ps v) = refl
stmt_same these seen (set es v) = refl
stmt_same these seen (assign_at index spacing ps v) = refl
stmt_same these seen (set_at index spacing es v) = refl
stmt_same these seen (if_of bs) = refl
stmt_same these seen (case_of v alts) = refl

pub assigns_same : (these : Target → Bool) (seen : Seen) (a : Stmts) → must_assign these (with_constants seen a) ≡ must_assign these a
assigns_same these seen done = refl
assigns_same these seen (step s rest) = on_both (λ (b c : Bool). b || c) (stmt_same these seen s) (assigns_same these (after_stmt seen s) rest)

-- and with the same values
pub record DoesSame (left : Seen) (new old : Stmts) : Type 0 where
  pub entries : (q : ℕ) → effect left new q ≡ effect left old q
  pub variables : variables_after left new ≡ variables_after left old

pub constants_run : (known : ℕ → Bool) (seen left : Seen) (a : Stmts) → gives_constants known a ≡ true → Agree known left seen → length left.variables ≡ length seen.variables
    → DoesSame left (with_constants seen a) a
constants_run known seen left done h agree l = record { entries = λ q. refl; variables = refl }
constants_run known seen left (step null_of rest) h agree l =
    let more = constants_run known seen left rest h agree l in
    record { entries = λ q. ap (λ (o : Option ℕ). or_else o None) (more.entries q); variables = more.variables }
constants_run known seen left (step (assign ps v) rest) h agree l =
    let (c, d) = and_parts (is_known known v) (gives_constants known rest) h in
    let more = constants_run known seen left rest d agree l in
    record {
      entries = λ q. on_both or_else (more.entries q) (ap (λ (values : List ℕ). entries ps values q) (constant_is known seen left left v agree c));
      variables = more.variables;
    }
constants_run known seen left (step (set es v) rest) h agree l =
    let (c, d) = and_parts (is_known known v) (gives_constants (knows_more known es) rest) h in
    let next : Seen = after_stmt seen (set es v) in
    let more = constants_run (knows_more known es) next (after_stmt left (set es v)) rest d (put_known known es v left seen c agree l)
    (omega (arith, length-values_put es (value_of left v) left.variables, length-values_put es (value_of seen v) seen.variables)) in
    let as_it = constant_is known seen left left v agree c in
    record {
      entries = λ q. ap (λ (values : List ℕ). or_else (effect (record left { variables = values_put es values left.variables }) (with_constants next rest) q) None) as_it
          ∙ ap (λ (o : Option ℕ). or_else o None) (more.entries q);
      variables = ap (λ (values : List ℕ). variables_after (record left { variables = values_put es values left.variables }) (with_constants next rest)) as_it ∙ more.variables;
    }
constants_run known seen left (step (assign_at index spacing ps v) rest) h agree l = absurd cc
constants_run known seen left (step (set_at index spacing es v) rest) h agree l = absurd cc
constants_run known seen left (step (if_of bs) rest) h agree l = absurd cc
constants_run known seen left (step (case_of v alts) rest) h agree l = absurd cc

-- it stays where it looks at nothing
pub bare_stays : (seen : Seen) (a : Stmts) → leaves a ≡ [] → with_constants seen a ≡ a
bare_stays seen done h = refl
bare_stays seen (step null_of rest) h = ap (step null_of) (bare_stays seen rest h)
bare_stays seen (step (assign ps v) rest) h =
    let (c, d) = nil_parts (value_leaves v) (leaves rest) h in on_both (λ w r. step (assign ps w) r) (constant_bare seen v c) (bare_stays seen rest d)
bare_stays seen (step (set es v) rest) h =
    let (c, d) = nil_parts (value_leaves v) (leaves rest) h in
    on_both (λ w r. step (set es w) r) (constant_bare seen v c) (bare_stays (after_stmt seen (set es v)) rest d)
bare_stays seen (step (assign_at index spacing ps v) rest) h =
    ap (step (assign_at index spacing ps v)) (bare_stays (after_stmt seen (assign_at index spacing ps v)) rest (nil_parts _ (leaves rest) h).1)
bare_stays seen (step (set_at index spacing es v) rest) h =
    ap (step (set_at index spacing es v)) (bare_stays (after_stmt seen (set_at index spacing es v)) rest (nil_parts _ (leaves rest) h).1)
bare_stays seen (step (if_of bs) rest) h = ap (step (if_of bs)) (bare_stays (after_stmt seen (if_of bs)) rest (nil_parts _ (leaves rest) h).1)
bare_stays seen (step (case_of v alts) rest) h = ap (step (case_of v alts)) (bare_stays (after_stmt seen (case_of v alts)) rest (nil_parts _ (leaves rest) h).1)

pub still_assigns : (seen : Seen) (a : Stmts) → assigns_constants a ≡ true → assigns_constants (with_constants seen a) ≡ true
still_assigns seen done h = refl
still_assigns seen (step null_of rest) h = still_assigns seen rest h
still_assigns seen (step (assign ps v) rest) h =
    let d = (and_parts (is_empty (value_reads v)) (assigns_constants rest) h).1 in
    and_from (is_empty (value_reads (as_constant seen v))) _ (constant_reads seen v) (still_assigns seen rest d)
still_assigns seen (step _ rest) h = absurd cc

-- it reads what it read
value_reads_stay : (known : ℕ → Bool) (seen : Seen) (v : Value) → is_known known v ≡ true → value_reads (as_constant seen v) ≡ value_reads v
value_reads_stay known seen v h = is_nil (value_reads (as_constant seen v)) (constant_reads seen v) ∙ sym (reads_none known v h)

pub reads_stay : (known : ℕ → Bool) (seen : Seen) (a : Stmts) → gives_constants known a ≡ true → reads (with_constants seen a) ≡ reads a
reads_stay known seen done h = refl
reads_stay known seen (step null_of rest) h = reads_stay known seen rest h
reads_stay known seen (step (assign ps v) rest) h =
    let (c, d) = and_parts (is_known known v) (gives_constants known rest) h in
    on_both (λ (xs ys : List ℕ). xs ++ ys) (value_reads_stay known seen v c) (reads_stay known seen rest d)
reads_stay known seen (step (set es v) rest) h =
    let (c, d) = and_parts (is_known known v) (gives_constants (knows_more known es) rest) h in
    on_both (λ (xs ys : List ℕ). xs ++ ys) (value_reads_stay known seen v c) (reads_stay (knows_more known es) (after_stmt seen (set es v)) rest d)
reads_stay known seen (step (assign_at index spacing ps v) rest) h = absurd cc
reads_stay known seen (step (set_at index spacing es v) rest) h = absurd cc
reads_stay known seen (step (if_of bs) rest) h = absurd cc
reads_stay known seen (step (case_of v alts) rest) h = absurd cc

-- ---- what fits

module _ (scope : Scope) where
  bare_rows : (any : Scope) (rows : Expr) → expr_leaves rows ≡ [] → HoldsRows scope rows → HoldsRows any rows
  bare_rows any (signal nets) n h = absurd cc
  bare_rows any (variable es) n h = absurd cc
  bare_rows any (constant vs) n h = h
  bare_rows any _ n h = absurd h

  bare_fits : (any : Scope) (e : Expr) → expr_leaves e ≡ [] → FitsExpr scope e → FitsExpr any e
  bare_fits any (signal nets) n h = absurd cc
  bare_fits any (variable es) n h = absurd cc
  bare_fits any (constant vs) n h = h
  bare_fits any (inverse e) n h = bare_fits any e n h
  bare_fits any (filled len e) n h = (h.0, bare_fits any e n h.1, h.2)
  bare_fits any (binary op d e) n h =
      let (c, k) = nil_parts (expr_leaves d) (expr_leaves e) n in (h.0, bare_fits any d c h.1, bare_fits any e k h.2, h.3)
  bare_fits any (counted op count e) n h = (h.0, bare_fits any e n h.1)
  bare_fits any (shifted by count e) n h =
      let (c, k) = nil_parts (expr_leaves count) (expr_leaves e) n in (bare_fits any count c h.0, bare_fits any e k h.1)
  bare_fits any (converted by e) n h = bare_fits any e n h
  bare_fits any (chosen index spacing rows) n h =
      let (c, k) = nil_parts (expr_leaves index) (expr_leaves rows) n in (h.0, bare_fits any index c h.1, bare_rows any rows k h.2, h.3)

  -- the constant fits among any nets
  value_fits : (any : Scope) (t : ElementType) (v : Value) → value_leaves v ≡ [] → FitsAs scope t v → FitsAs any t v
  value_fits any nine_valued (elements e) n h = bare_fits any e n h
  value_fits any (enumeration n) (position k) c h = h
  value_fits any (enumeration n) (position_of net) c h = absurd cc
  value_fits any (enumeration n) (position_in e) c h = absurd cc
  value_fits any _ _ c h = elim h [ ]

  constant_fits : (any : Scope) (seen : Seen) (t : ElementType) (v : Value) → KeepsTypes scope.variables seen.variables → value_reads v ≡ [] → FitsAs scope t v
      → FitsAs any t (constant_of seen v)
  constant_fits any seen nine_valued (elements e) typed c h = let w = has_its_width scope e seen h in subst IsWidth (sym w.0) w.1
  constant_fits any seen (enumeration n) (position k) typed c h = h
  constant_fits any seen (enumeration n) (position_of net) typed c h = absurd cc
  constant_fits any seen (enumeration n) (position_in e) typed c h = typed e (enumeration n) h
  constant_fits any seen _ _ typed c h = elim h [ ]

  pub constant_width : (seen : Seen) (t : ElementType) (v : Value) → FitsAs scope t v → value_width (constant_of seen v) ≡ value_width v
  constant_width seen nine_valued (elements e) h = (has_its_width scope e seen h).0
  constant_width seen (enumeration n) (position k) h = refl
  constant_width seen (enumeration n) (position_of net) h = refl
  constant_width seen (enumeration n) (position_in e) h = refl
  constant_width seen _ _ h = elim h [ ]

  target_fits : (any : Scope) (known : ℕ → Bool) (seen : Seen) (OfType : ElementType → ℕ → Type 0) (target : List ℕ) (v : Value) → KeepsTypes scope.variables seen.variables
      → is_known known v ≡ true → FitsTarget scope OfType target v → FitsTarget any OfType target (as_constant seen v)
  target_fits any known seen OfType target v typed c h = go (is_empty (value_leaves v)) refl
    where
      go : (b : Bool) → is_empty (value_leaves v) ≡ b → FitsTarget any OfType target (cond b v (constant_of seen v))
      go true n = (h.0, value_fits any h.0 v (is_nil (value_leaves v) n) h.1, h.2, h.3)
      go false n = (h.0, constant_fits any seen h.0 v typed (reads_none known v c) h.1, h.2 ∙ sym (constant_width seen h.0 v h.1), h.3)

  pub typed_after : (known : ℕ → Bool) (seen : Seen) (es : List ℕ) (v : Value) → KeepsTypes scope.variables seen.variables → is_known known v ≡ true
      → FitsTarget scope (HasType scope.variables) es v → KeepsTypes scope.variables (values_put es (value_of seen v) seen.variables)
  typed_after known seen es v typed c h =
      let alone : Scope = record { nets = []; variables = scope.variables; targets = [] } in
      subst (λ (values : List ℕ). KeepsTypes scope.variables (values_put es values seen.variables)) (constant_is known seen seen seen v (λ e k. refl) c)
      (entries_keep_types alone (step (set es (as_constant seen v)) done) seen (target_fits alone known seen (HasType scope.variables) es v typed c h, tt)
      (record { nets = λ n t g. absurd cc; variables = typed })).variables

  pub constants_fit : (known : ℕ → Bool) (seen : Seen) (a : Stmts) → KeepsTypes scope.variables seen.variables → gives_constants known a ≡ true → Fits scope a
      → Fits scope (with_constants seen a)
  constants_fit known seen done typed h f = tt
  constants_fit known seen (step null_of rest) typed h f = (tt, constants_fit known seen rest typed h f.1)
  constants_fit known seen (step (assign ps v) rest) typed h f =
      let (c, d) = and_parts (is_known known v) (gives_constants known rest) h in (
        target_fits scope known seen (DrivesType scope) ps v typed c f.0,
        constants_fit known seen rest typed d f.1,
      )
  constants_fit known seen (step (set es v) rest) typed h f =
      let (c, d) = and_parts (is_known known v) (gives_constants (knows_more known es) rest) h in (
        target_fits scope known seen (HasType scope.variables) es v typed c f.0,
        constants_fit (knows_more known es) (after_stmt seen (set es v)) rest (typed_after known seen es v typed c f.0) d f.1,
      )
  constants_fit known seen (step (assign_at index spacing ps v) rest) typed h f = absurd cc
  constants_fit known seen (step (set_at index spacing es v) rest) typed h f = absurd cc
  constants_fit known seen (step (if_of bs) rest) typed h f = absurd cc
  constants_fit known seen (step (case_of v alts) rest) typed h f = absurd cc
