-- All that a body that fits reads is there.
use Rattle.std.proofs.Common.{◌≡◌, ℕ, ◌<◌, Bool, true, false, not, ◌||◌, ◌&&◌, ◌==◌, List, [], ◌∷◌, ◌++◌, length, All, ◌⊎◌, inl, inr, subst}
use Rattle.std.specs.List.{list_any}
use Rattle.std.proofs.lemmas.Bool.{or_cases, and_parts, eqb-true}
use Rattle.std.proofs.lemmas.List.Elements.{All-append, All-nil, All-cons}
use Rattle.std.proofs.lemmas.Option.{slice_get_within}
use Rattle.rtl_model.specs.bodies.Body.{Expr, signal, variable, constant, inverse, filled, binary, counted, shifted, converted, chosen}
use Rattle.rtl_model.specs.bodies.Body.{Value, elements, position, position_of, position_in}
use Rattle.rtl_model.specs.bodies.Body.{Test, condition, decided, equal, unequal, level, compared, compared_to}
use Rattle.rtl_model.specs.bodies.Body.{rising, falling, event, negated, combined}
use Rattle.rtl_model.specs.bodies.Body.{Stmt, null_of, assign, set, assign_at, set_at, if_of, case_of, Stmts, done, step}
use Rattle.rtl_model.specs.bodies.Body.{Branches, no_else, otherwise, branch, Alternatives, others, alternative}
use Rattle.rtl_model.specs.bodies.Reads.{expr_reads, value_reads, test_reads, stmt_reads, reads, branches_reads, alternatives_reads}
use Rattle.rtl_model.specs.bodies.Reads.{test_events, stmt_events, events, branches_events, alternatives_events}
use Rattle.rtl_model.specs.bodies.Assigns.{is_element, stmt_must_assign}
use Rattle.rtl_model.specs.bodies.Stored.{expr_looks_at, value_looks_at, test_looks_at, stmt_stores, stores_element, branches_store, alternatives_store}
use Rattle.rtl_model.specs.bodies.Types.{ElementType, nine_valued, enumeration, HasType}
use Rattle.rtl_model.specs.bodies.Fits.{Scope, HoldsRows, FitsExpr, FitsAs, FitsTest, FitsStmt, Fits, FitsBranches, FitsAlternatives}
use Rattle.rtl_model.specs.bodies.Laws.{EachReadIsThere}
use Rattle.rtl_model.proofs.basics.Lists.{in_contains}

module _ (scope : Scope) where
  abbrev Below : List ℕ → Type 0
  Below ns = All (λ n. n < length scope.nets) ns

  record There (rs es : List ℕ) (looks : ℕ → Bool) : Type 0 where
    nets : Below rs
    events : Below es
    elements : (e : ℕ) → looks e ≡ true → e < length scope.variables

  nothing_there : There [] [] (λ e. false)
  nothing_there = record { nets = All-nil _; events = All-nil _; elements = λ e h. absurd cc }

  both : {rs es qs fs : List ℕ} {f g : ℕ → Bool} → There rs es f → There qs fs g → There (rs ++ qs) (es ++ fs) (λ e. f e || g e)
  both {rs} {es} {qs} {fs} {f} {g} h k = record {
    nets = All-append (λ n. n < length scope.nets) rs qs h.nets k.nets;
    events = All-append (λ n. n < length scope.nets) es fs h.events k.events;
    elements = λ e t. go e (or_cases (f e) (g e) t);
  }
    where
      go : (e : ℕ) → (f e ≡ true) ⊎ (g e ≡ true) → e < length scope.variables
      go e (inl t) = h.elements e t
      go e (inr t) = k.elements e t

  -- what is stored after a statement, where it may be
  after : {rs es : List ℕ} {f : ℕ → Bool} (m : ℕ → Bool) → There rs es f → There rs es (λ e. not (m e) && f e)
  after {rs} {es} {f} m h = record { nets = h.nets; events = h.events; elements = λ e t. h.elements e (and_parts (not (m e)) (f e) t).1 }

  one_net : (t : ElementType) (n : ℕ) → HasType scope.nets t n → Below (n ∷ [])
  one_net t n h = All-cons (λ n. n < length scope.nets) n [] (slice_get_within scope.nets n t h) (All-nil _)

  -- the net of an edge test or `'event`
  one_event : (n : ℕ) → HasType scope.nets nine_valued n → There (n ∷ []) (n ∷ []) (λ e. false)
  one_event n h = record { nets = one_net nine_valued n h; events = one_net nine_valued n h; elements = λ e t. absurd cc }

  among : (t : ElementType) (xs : List ℕ) → All (HasType scope.variables t) xs → (e : ℕ) → list_any (λ d. d == e) xs ≡ true → e < length scope.variables
  among t xs h e a = let (k, l, at) = in_contains xs e a in slice_get_within scope.variables e t (subst (λ (x : ℕ). HasType scope.variables t x) at (h k e l))

  of_nets : (ns : List ℕ) → All (HasType scope.nets nine_valued) ns → There ns [] (λ e. false)
  of_nets ns h = record { nets = λ k d l. slice_get_within scope.nets _ nine_valued (h k d l); events = All-nil _; elements = λ e t. absurd cc }

  of_elements : (es : List ℕ) → All (HasType scope.variables nine_valued) es → There [] [] (λ e. list_any (λ d. d == e) es)
  of_elements es h = record { nets = All-nil _; events = All-nil _; elements = λ e t. among nine_valued es h e t }

  of_rows : (x : Expr) → HoldsRows scope x → There (expr_reads x) [] (λ e. expr_looks_at e x)
  of_rows (signal nets) h = of_nets nets h
  of_rows (variable es) h = of_elements es h
  of_rows (constant values) h = nothing_there
  of_rows _ h = elim h [ ]

  of_expr : (x : Expr) → FitsExpr scope x → There (expr_reads x) [] (λ e. expr_looks_at e x)
  of_expr (signal nets) h = of_nets nets h.1
  of_expr (variable es) h = of_elements es h.1
  of_expr (constant values) h = nothing_there
  of_expr (inverse x) h = of_expr x h
  of_expr (filled len x) h = of_expr x h.1
  of_expr (binary op x y) h = both (of_expr x h.1) (of_expr y h.2)
  of_expr (counted op count x) h = of_expr x h.1
  of_expr (shifted by count x) h = both (of_expr count h.0) (of_expr x h.1)
  of_expr (converted by x) h = of_expr x h
  of_expr (chosen index spacing rows) h = both (of_expr index h.1) (of_rows rows h.2)

  of_value : (t : ElementType) (v : Value) → FitsAs scope t v → There (value_reads v) [] (λ e. value_looks_at e v)
  of_value nine_valued (elements x) h = of_expr x h
  of_value (enumeration n) (position k) h = nothing_there
  of_value (enumeration n) (position_of net) h = record { nets = one_net (enumeration n) net h; events = All-nil _; elements = λ e t. absurd cc }
  of_value (enumeration n) (position_in element) h = record {
    nets = All-nil _;
    events = All-nil _;
    elements = λ e t. subst (λ (x : ℕ). x < length scope.variables) (eqb-true element e t) (slice_get_within scope.variables element (enumeration n) h);
  }
  of_value nine_valued (position k) h = elim h [ ]
  of_value nine_valued (position_of net) h = elim h [ ]
  of_value nine_valued (position_in element) h = elim h [ ]
  of_value (enumeration n) (elements x) h = elim h [ ]

  of_test : (t : Test) → FitsTest scope t → There (test_reads t) (test_events t) (λ e. test_looks_at e t)
  of_test (condition x) h = of_expr x h.0
  of_test (decided b) h = nothing_there
  of_test (equal v w) h = both (of_value h.0 v h.1) (of_value h.0 w h.2)
  of_test (unequal v w) h = both (of_value h.0 v h.1) (of_value h.0 w h.2)
  of_test (level plain net v) h = record { nets = one_net nine_valued net h; events = All-nil _; elements = λ e t. absurd cc }
  of_test (compared op x y) h = both (of_expr x h.0) (of_expr y h.1)
  of_test (compared_to op x n) h = of_expr x h
  of_test (rising net) h = one_event net h
  of_test (falling net) h = one_event net h
  of_test (event net) h = one_event net h
  of_test (negated t) h = of_test t h
  of_test (combined op s t) h = both (of_test s h.0) (of_test t h.1)

  mutual
    of_stmt : (s : Stmt) → FitsStmt scope s → There (stmt_reads s) (stmt_events s) (λ e. stmt_stores e s)
    of_stmt null_of h = nothing_there
    of_stmt (assign places v) h = of_value h.0 v h.1
    of_stmt (set es v) h = of_value h.0 v h.1
    of_stmt (assign_at index spacing places x) h = both (of_expr index h.1) (of_expr x h.2)
    of_stmt (set_at index spacing es x) h = both (of_expr index h.1) (of_expr x h.2)
    of_stmt (if_of bs) h = of_branches bs h
    of_stmt (case_of v alts) h = both (of_value h.0 v h.1) (of_alternatives h.0 _ alts h.2)

    of_body : (s : Stmts) → Fits scope s → There (reads s) (events s) (λ e. stores_element e s)
    of_body done h = nothing_there
    of_body (step s rest) h = both (of_stmt s h.0) (after (λ e. stmt_must_assign (is_element e) s) (of_body rest h.1))

    of_branches : (bs : Branches) → FitsBranches scope bs → There (branches_reads bs) (branches_events bs) (λ e. branches_store e bs)
    of_branches no_else h = nothing_there
    of_branches (otherwise s) h = of_body s h
    of_branches (branch t s bs) h = both (of_test t h.0) (both (of_body s h.1) (of_branches bs h.2))

    of_alternatives : (t : ElementType) (len : ℕ) (alts : Alternatives) → FitsAlternatives scope t len alts → There (alternatives_reads alts) (alternatives_events alts) (λ e. alternatives_store e alts)
    of_alternatives t len (others s) h = of_body s h
    of_alternatives t len (alternative choices s alts) h = both (of_body s h.1) (of_alternatives t len alts h.2)

pub each_read_is_there : EachReadIsThere
each_read_is_there scope body fits =
    let h = of_body scope body fits in
    record { nets = h.nets; events_too = h.events; elements = h.elements }
