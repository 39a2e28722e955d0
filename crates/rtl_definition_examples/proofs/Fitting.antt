-- A test of a body of which all is known: that it fits.
use Rattle.std.proofs.Common.{◌≡◌, ℕ, zero, suc, ◌+◌, ◌<◌, Bool, true, false, ◌&&◌, ◌==◌, nat_lt, nat_le, List, [], ◌∷◌, ◌++◌}
use Rattle.std.proofs.Common.{length, slice_get, Option, Some, None, refl, ap, arith, All}
use Rattle.std.specs.List.{list_any}
use Rattle.std.proofs.lemmas.Bool.{and_parts, eqb-true, ltb-true, leb-true}
use Rattle.vhdl_values.specs.declared.kinds.Counted.{Counted}
use Rattle.vhdl_values.specs.declared.kinds.Counted.TheVariants.{Resize, ResizeSigned, Shift}
use Rattle.vhdl_values.specs.Shifts.{IsCount}
use Rattle.rtl_model.specs.bodies.Rows.{Spacing}
use Rattle.rtl_model.specs.bodies.Body.{logical, joined, plus, minus, times, signed, Expr, signal, variable, constant}
use Rattle.rtl_model.specs.bodies.Body.{inverse, filled, binary, counted, shifted, converted, chosen}
use Rattle.rtl_model.specs.bodies.Body.{Value, elements, position, position_of, position_in}
use Rattle.rtl_model.specs.bodies.Body.{Test, condition, decided, equal, unequal, level, compared, compared_to}
use Rattle.rtl_model.specs.bodies.Body.{rising, falling, event, negated, combined}
use Rattle.rtl_model.specs.bodies.Body.{Stmt, null_of, assign, set, assign_at, set_at, if_of, case_of, Stmts, done, step}
use Rattle.rtl_model.specs.bodies.Body.{Branches, no_else, otherwise, branch, Alternatives, others, alternative}
use Rattle.rtl_model.specs.bodies.Types.{ElementType, nine_valued, enumeration, limit_of, HasType}
use Rattle.rtl_model.specs.bodies.Fits.{operated_width, width, value_width, IsWidth, IsSpacing, Scope, HoldsRows, FitsExpr, FitsAs, FitBoth, FitsTest}
use Rattle.rtl_model.specs.bodies.Fits.{DrivesType, FitsTarget, FitsTargetAt, FitsChoice, FitsStmt, Fits, FitsBranches, FitsAlternatives}
use Rattle.rtl_model.proofs.basics.Lists.{any_at}
use Rattle.rtl_definition_examples.proofs.Deciding.{all_in}

-- ---- all elements

pub all_of : {X : Type 0} (P : X → Type 0) (f : X → Bool) → ((x : X) → f x ≡ true → P x) → (xs : List X) → all_in f xs ≡ true → All P xs
all_of P f h [] e k d l = absurd (omega arith)
all_of P f h (x ∷ xs) e zero d l = h x (and_parts (f x) (all_in f xs) e).0
all_of P f h (x ∷ xs) e (suc k) d l = all_of P f h xs (and_parts (f x) (all_in f xs) e).1 k d (omega arith)

-- ---- types

abbrev pub same_type : ElementType → ElementType → Bool
same_type nine_valued nine_valued = true
same_type (enumeration m) (enumeration n) = m == n
same_type _ _ = false

pub is_same_type : (s t : ElementType) → same_type s t ≡ true → s ≡ t
is_same_type nine_valued nine_valued e = refl
is_same_type (enumeration m) (enumeration n) e = ap enumeration (eqb-true m n e)
is_same_type nine_valued (enumeration n) e = absurd cc
is_same_type (enumeration m) nine_valued e = absurd cc

abbrev pub passes : {X : Type 0} → (X → Bool) → Option X → Bool
passes f None = false
passes f (Some x) = f x

abbrev pub has_type : List ElementType → ElementType → ℕ → Bool
has_type types t n = passes (λ s. same_type s t) (slice_get types n)

pub is_of_type : (types : List ElementType) (t : ElementType) (n : ℕ) → has_type types t n ≡ true → HasType types t n
is_of_type types t n e = go (slice_get types n) e
  where
    go : (o : Option ElementType) → passes (λ s. same_type s t) o ≡ true → o ≡ Some t
    go None e = absurd cc
    go (Some s) e = ap (λ (x : ElementType). Some x) (is_same_type s t e)

abbrev pub is_wide : ℕ → Bool
is_wide n = nat_le 1 n && nat_le n 64

pub is_width : (n : ℕ) → is_wide n ≡ true → IsWidth n
is_width n e = let (a, b) = and_parts (nat_le 1 n) (nat_le n 64) e in (leb-true 1 n a, leb-true n 64 b)

abbrev is_count : Counted → ℕ → Bool
is_count Resize n = is_wide n
is_count ResizeSigned n = is_wide n
is_count (Shift by) n = true

counts : (op : Counted) (n : ℕ) → is_count op n ≡ true → IsCount op n
counts Resize n h = is_width n h
counts ResizeSigned n h = is_width n h
counts (Shift by) n h = tt

abbrev is_spacing : Spacing → Bool
is_spacing s = is_wide s.len && nat_le 1 s.step

spaced : (s : Spacing) → is_spacing s ≡ true → IsSpacing s
spaced s h = let (a, b) = and_parts (is_wide s.len) (nat_le 1 s.step) h in (is_width s.len a, leb-true 1 s.step b)

-- ---- bodies

module _ (scope : Scope) where
  abbrev holds_rows : Expr → Bool
  holds_rows (signal nets) = all_in (has_type scope.nets nine_valued) nets
  holds_rows (variable es) = all_in (has_type scope.variables nine_valued) es
  holds_rows (constant values) = true
  holds_rows _ = false

  abbrev expr_fits : Expr → Bool
  expr_fits (signal nets) = is_wide (length nets) && all_in (has_type scope.nets nine_valued) nets
  expr_fits (variable es) = is_wide (length es) && all_in (has_type scope.variables nine_valued) es
  expr_fits (constant values) = is_wide (length values)
  expr_fits (inverse e) = expr_fits e
  expr_fits (filled len e) = is_wide len && (expr_fits e && (width e == 1))
  expr_fits (binary (logical op) d e) = is_wide (width d) && (expr_fits d && (expr_fits e && (width d == width e)))
  expr_fits (binary op d e) = is_wide (operated_width op (width d) (width e)) && (expr_fits d && expr_fits e)
  expr_fits (counted op count e) = is_count op count && expr_fits e
  expr_fits (shifted by count e) = expr_fits count && expr_fits e
  expr_fits (converted by e) = expr_fits e
  expr_fits (chosen index spacing rows) = is_spacing spacing && (expr_fits index && (holds_rows rows && nat_le spacing.len (width rows)))

  of_rows : (e : Expr) → holds_rows e ≡ true → HoldsRows scope e
  of_rows (signal nets) h = all_of (HasType scope.nets nine_valued) (has_type scope.nets nine_valued) (is_of_type scope.nets nine_valued) nets h
  of_rows (variable es) h = all_of (HasType scope.variables nine_valued) (has_type scope.variables nine_valued) (is_of_type scope.variables nine_valued) es h
  of_rows (constant values) h = tt
  of_rows _ h = absurd cc

  of_expr : (e : Expr) → expr_fits e ≡ true → FitsExpr scope e
  of_expr (signal nets) h = let (a, b) = and_parts (is_wide (length nets)) _ h in (is_width _ a, all_of (HasType scope.nets nine_valued) (has_type scope.nets nine_valued) (is_of_type scope.nets nine_valued) nets b)
  of_expr (variable es) h = let (a, b) = and_parts (is_wide (length es)) _ h in (is_width _ a, all_of (HasType scope.variables nine_valued) (has_type scope.variables nine_valued) (is_of_type scope.variables nine_valued) es b)
  of_expr (constant values) h = is_width (length values) h
  of_expr (inverse e) h = of_expr e h
  of_expr (filled len e) h =
      let (a, b) = and_parts (is_wide len) _ h in
      let (p, q) = and_parts (expr_fits e) (width e == 1) b in
      (is_width len a, of_expr e p, eqb-true (width e) 1 q)
  of_expr (binary (logical op) d e) h =
      let (a, b) = and_parts (is_wide (width d)) _ h in
      let (p, q) = and_parts (expr_fits d) _ b in
      let (r, s) = and_parts (expr_fits e) (width d == width e) q in
      (is_width (width d) a, of_expr d p, of_expr e r, eqb-true (width d) (width e) s)
  of_expr (binary joined d e) h = let (a, b) = and_parts (is_wide (width d + width e)) _ h in let (p, q) = and_parts (expr_fits d) (expr_fits e) b in (is_width _ a, of_expr d p, of_expr e q, tt)
  of_expr (binary plus d e) h = let (a, b) = and_parts (is_wide (operated_width plus (width d) (width e))) _ h in let (p, q) = and_parts (expr_fits d) (expr_fits e) b in (is_width _ a, of_expr d p, of_expr e q, tt)
  of_expr (binary minus d e) h = let (a, b) = and_parts (is_wide (operated_width minus (width d) (width e))) _ h in let (p, q) = and_parts (expr_fits d) (expr_fits e) b in (is_width _ a, of_expr d p, of_expr e q, tt)
  of_expr (binary times d e) h = let (a, b) = and_parts (is_wide (width d + width e)) _ h in let (p, q) = and_parts (expr_fits d) (expr_fits e) b in (is_width _ a, of_expr d p, of_expr e q, tt)
  of_expr (binary (signed op) d e) h = let (a, b) = and_parts (is_wide (operated_width (signed op) (width d) (width e))) _ h in let (p, q) = and_parts (expr_fits d) (expr_fits e) b in (is_width _ a, of_expr d p, of_expr e q, tt)
  of_expr (counted op count e) h = let (a, b) = and_parts (is_count op count) (expr_fits e) h in (counts op count a, of_expr e b)
  of_expr (shifted by count e) h = let (a, b) = and_parts (expr_fits count) (expr_fits e) h in (of_expr count a, of_expr e b)
  of_expr (converted by e) h = of_expr e h
  of_expr (chosen index spacing rows) h =
      let (a, b) = and_parts (is_spacing spacing) _ h in
      let (p, q) = and_parts (expr_fits index) _ b in
      let (r, s) = and_parts (holds_rows rows) (nat_le spacing.len (width rows)) q in
      (spaced spacing a, of_expr index p, of_rows rows r, leb-true spacing.len (width rows) s)

  abbrev fits_as : ElementType → Value → Bool
  fits_as nine_valued (elements e) = expr_fits e
  fits_as (enumeration n) (position k) = nat_lt k n
  fits_as (enumeration n) (position_of net) = has_type scope.nets (enumeration n) net
  fits_as (enumeration n) (position_in element) = has_type scope.variables (enumeration n) element
  fits_as _ _ = false

  of_value : (t : ElementType) (v : Value) → fits_as t v ≡ true → FitsAs scope t v
  of_value nine_valued (elements e) h = of_expr e h
  of_value (enumeration n) (position k) h = ltb-true k n h
  of_value (enumeration n) (position_of net) h = is_of_type scope.nets (enumeration n) net h
  of_value (enumeration n) (position_in element) h = is_of_type scope.variables (enumeration n) element h
  of_value nine_valued (position k) h = absurd cc
  of_value nine_valued (position_of net) h = absurd cc
  of_value nine_valued (position_in element) h = absurd cc
  of_value (enumeration n) (elements e) h = absurd cc

  -- some type that stands here passes
  abbrev some_type : (ElementType → Bool) → Bool
  some_type f = list_any f (nine_valued ∷ scope.nets ++ scope.variables)

  both_fit : (v w : Value) → some_type (λ t. fits_as t v && fits_as t w) ≡ true → FitBoth scope v w
  both_fit v w h =
      let (t, c, e) = any_at (λ t. fits_as t v && fits_as t w) (nine_valued ∷ scope.nets ++ scope.variables) h in
      let (a, b) = and_parts (fits_as t v) (fits_as t w) e in
      (t, of_value t v a, of_value t w b)

  abbrev test_fits : Test → Bool
  test_fits (condition e) = expr_fits e && (width e == 1)
  test_fits (decided b) = true
  test_fits (equal v w) = some_type (λ t. fits_as t v && fits_as t w)
  test_fits (unequal v w) = some_type (λ t. fits_as t v && fits_as t w)
  test_fits (level plain net v) = has_type scope.nets nine_valued net
  test_fits (compared op d e) = expr_fits d && expr_fits e
  test_fits (compared_to op e n) = expr_fits e
  test_fits (rising net) = has_type scope.nets nine_valued net
  test_fits (falling net) = has_type scope.nets nine_valued net
  test_fits (event net) = has_type scope.nets nine_valued net
  test_fits (negated t) = test_fits t
  test_fits (combined op s t) = test_fits s && test_fits t

  of_test : (t : Test) → test_fits t ≡ true → FitsTest scope t
  of_test (condition e) h = let (a, b) = and_parts (expr_fits e) (width e == 1) h in (of_expr e a, eqb-true (width e) 1 b)
  of_test (decided b) h = tt
  of_test (equal v w) h = both_fit v w h
  of_test (unequal v w) h = both_fit v w h
  of_test (level plain net v) h = is_of_type scope.nets nine_valued net h
  of_test (compared op d e) h = let (a, b) = and_parts (expr_fits d) (expr_fits e) h in (of_expr d a, of_expr e b)
  of_test (compared_to op e n) h = of_expr e h
  of_test (rising net) h = is_of_type scope.nets nine_valued net h
  of_test (falling net) h = is_of_type scope.nets nine_valued net h
  of_test (event net) h = is_of_type scope.nets nine_valued net h
  of_test (negated t) h = of_test t h
  of_test (combined op s t) h = let (a, b) = and_parts (test_fits s) (test_fits t) h in (of_test s a, of_test t b)

  -- the driver at a place drives a net of this type
  abbrev drives_type : ElementType → ℕ → Bool
  drives_type t place = passes (λ net. has_type scope.nets t net) (slice_get scope.targets place)

  is_driven : (t : ElementType) (place : ℕ) → drives_type t place ≡ true → DrivesType scope t place
  is_driven t place h = go (slice_get scope.targets place) refl h
    where
      go : (o : Option ℕ) → slice_get scope.targets place ≡ o → passes (λ net. has_type scope.nets t net) o ≡ true → DrivesType scope t place
      go None e h = absurd cc
      go (Some net) e h = (net, e, is_of_type scope.nets t net h)

  abbrev target_fits : (ElementType → ℕ → Bool) → (target : List ℕ) → Value → Bool
  target_fits of_type target v = (length target == value_width v) && some_type (λ t. fits_as t v && all_in (of_type t) target)

  is_target : (OfType : ElementType → ℕ → Type 0) (of_type : ElementType → ℕ → Bool) → ((t : ElementType) (k : ℕ) → of_type t k ≡ true → OfType t k)
      → (target : List ℕ) (v : Value) → target_fits of_type target v ≡ true → FitsTarget scope OfType target v
  is_target OfType of_type is target v h =
      let (a, b) = and_parts (length target == value_width v) _ h in
      let (t, k, e) = any_at (λ t. fits_as t v && all_in (of_type t) target) (nine_valued ∷ scope.nets ++ scope.variables) b in
      let (p, q) = and_parts (fits_as t v) (all_in (of_type t) target) e in
      (t, of_value t v p, eqb-true (length target) (value_width v) a, all_of (OfType t) (of_type t) (is t) target q)

  abbrev target_fits_at : (ElementType → ℕ → Bool) → Expr → Spacing → (target : List ℕ) → Expr → Bool
  target_fits_at of_type index spacing target e =
      is_spacing spacing && (expr_fits index && (expr_fits e && ((spacing.len == width e) && (all_in (of_type nine_valued) target && nat_le spacing.len (length target)))))

  is_target_at : (OfType : ElementType → ℕ → Type 0) (of_type : ElementType → ℕ → Bool) → ((t : ElementType) (k : ℕ) → of_type t k ≡ true → OfType t k)
      → (index : Expr) (spacing : Spacing) (target : List ℕ) (e : Expr) → target_fits_at of_type index spacing target e ≡ true → FitsTargetAt scope OfType index spacing target e
  is_target_at OfType of_type is index spacing target e h =
      let (a, b) = and_parts (is_spacing spacing) _ h in
      let (p, q) = and_parts (expr_fits index) _ b in
      let (r, s) = and_parts (expr_fits e) _ q in
      let (u, v) = and_parts (spacing.len == width e) _ s in
      let (w, x) = and_parts (all_in (of_type nine_valued) target) (nat_le spacing.len (length target)) v in
      (spaced spacing a, of_expr index p, of_expr e r, eqb-true spacing.len (width e) u, all_of (OfType nine_valued) (of_type nine_valued) (is nine_valued) target w, leb-true spacing.len (length target) x)

  abbrev choice_fits : ElementType → ℕ → List ℕ → Bool
  choice_fits t len choice = (length choice == len) && all_in (λ n. nat_lt n (limit_of t)) choice

  is_choice : (t : ElementType) (len : ℕ) (choice : List ℕ) → choice_fits t len choice ≡ true → FitsChoice scope t len choice
  is_choice t len choice h =
      let (a, b) = and_parts (length choice == len) _ h in
      (eqb-true (length choice) len a, all_of (λ n. n < limit_of t) (λ n. nat_lt n (limit_of t)) (λ n e. ltb-true n (limit_of t) e) choice b)

  abbrev mutual
    stmt_fits : Stmt → Bool
    stmt_fits null_of = true
    stmt_fits (assign places v) = target_fits drives_type places v
    stmt_fits (set es v) = target_fits (has_type scope.variables) es v
    stmt_fits (assign_at index spacing places e) = target_fits_at drives_type index spacing places e
    stmt_fits (set_at index spacing es e) = target_fits_at (has_type scope.variables) index spacing es e
    stmt_fits (if_of bs) = branches_fit bs
    stmt_fits (case_of v alts) = some_type (λ t. fits_as t v && alternatives_fit t (value_width v) alts)

    pub body_fits : Stmts → Bool
    body_fits done = true
    body_fits (step s rest) = stmt_fits s && body_fits rest

    branches_fit : Branches → Bool
    branches_fit no_else = true
    branches_fit (otherwise s) = body_fits s
    branches_fit (branch t s bs) = test_fits t && (body_fits s && branches_fit bs)

    alternatives_fit : ElementType → ℕ → Alternatives → Bool
    alternatives_fit t len (others s) = body_fits s
    alternatives_fit t len (alternative choices s alts) = all_in (choice_fits t len) choices && (body_fits s && alternatives_fit t len alts)

  mutual
    of_stmt : (s : Stmt) → stmt_fits s ≡ true → FitsStmt scope s
    of_stmt null_of h = tt
    of_stmt (assign places v) h = is_target (DrivesType scope) drives_type is_driven places v h
    of_stmt (set es v) h = is_target (HasType scope.variables) (has_type scope.variables) (is_of_type scope.variables) es v h
    of_stmt (assign_at index spacing places e) h = is_target_at (DrivesType scope) drives_type is_driven index spacing places e h
    of_stmt (set_at index spacing es e) h = is_target_at (HasType scope.variables) (has_type scope.variables) (is_of_type scope.variables) index spacing es e h
    of_stmt (if_of bs) h = of_branches bs h
    of_stmt (case_of v alts) h =
        let (t, k, e) = any_at (λ t. fits_as t v && alternatives_fit t (value_width v) alts) (nine_valued ∷ scope.nets ++ scope.variables) h in
        let (a, b) = and_parts (fits_as t v) (alternatives_fit t (value_width v) alts) e in
        (t, of_value t v a, of_alternatives t (value_width v) alts b)

    pub of_body : (s : Stmts) → body_fits s ≡ true → Fits scope s
    of_body done h = tt
    of_body (step s rest) h = let (a, b) = and_parts (stmt_fits s) (body_fits rest) h in (of_stmt s a, of_body rest b)

    of_branches : (bs : Branches) → branches_fit bs ≡ true → FitsBranches scope bs
    of_branches no_else h = tt
    of_branches (otherwise s) h = of_body s h
    of_branches (branch t s bs) h =
        let (a, b) = and_parts (test_fits t) _ h in
        let (p, q) = and_parts (body_fits s) (branches_fit bs) b in
        (of_test t a, of_body s p, of_branches bs q)

    of_alternatives : (t : ElementType) (len : ℕ) (alts : Alternatives) → alternatives_fit t len alts ≡ true → FitsAlternatives scope t len alts
    of_alternatives t len (others s) h = of_body s h
    of_alternatives t len (alternative choices s alts) h =
        let (a, b) = and_parts (all_in (choice_fits t len) choices) _ h in
        let (p, q) = and_parts (body_fits s) (alternatives_fit t len alts) b in
        (all_of (FitsChoice scope t len) (choice_fits t len) (is_choice t len) choices a, of_body s p, of_alternatives t len alts q)
