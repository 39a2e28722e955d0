-- The values of a chain of operators where nothing is seen: the operand on the left may stand as the constant that it is.
use Rattle.std.proofs.Common.{◌≡◌, ℕ, ◌+◌, ◌-◌, ◌<◌, List, [], ◌∷◌, Box, Vec, Global, length, map, replicate, take, drop, get_or, slice_index_or, refl, sym, ap, ◌∙◌, subst, arith, length-append}
use Rattle.std.proofs.lemmas.List.{length-map, length-replicate, drop-replicate, take-replicate}
use Rattle.vhdl_values.specs.declared.scalar.Nine.{Nine}
use Rattle.vhdl_values.specs.declared.scalar.Nine.TheVariants.{U, X, Zero}
use Rattle.vhdl_values.specs.Logic.{not_of}
use Rattle.vhdl_values.specs.Shifts.{counted_length}
use Rattle.vhdl_values.proofs.Lengths.{length-logic_of_all, length-sum_of, length-difference_of, length-product_of, length-counted_of, counted_within}
use Rattle.rtl_model.specs.bodies.Body.{Operator, logical, joined, plus, minus, times, signed, Expr, signal, variable, constant, inverse, filled, binary, counted, shifted, converted, chosen}
use Rattle.vhdl_numbers.specs.Counts.{natural_of}
use Rattle.vhdl_numbers.proofs.Lengths.{length-converted, length-signed_of, length-shifted_by}
use Rattle.rtl_model.specs.bodies.Rows.{Spacing, all_rows, row_at}
use Rattle.rtl_model.proofs.bodies.Rows.{length-at, length-all_rows}
use Rattle.rtl_model.specs.bodies.Values.{element_at, operation_result, chosen_of, elements_of}
use Rattle.rtl_model.specs.bodies.Fits.{IsWidth, width, operated_width, FitsOperands}
use Rattle.rtl_net.specs.declared.body.Expr as code
use Rattle.rtl_net.specs.declared.body.Expr.TheVariants as e
use Rattle.rtl_net.specs.declared.body.Link.{Link}
use Rattle.rtl_net.specs.Bodies.{operator_view, expr_view, links_of}
use Rattle.rtl_net.proofs.Rows.{view_chain}
use Rattle.rtl_eval.specs.Rows.{BeginsAt, IsNowhere}
use Rattle.rtl_eval.proofs.Beginnings.{begun, begun_within, nowhere}
use Rattle.vhdl_expand_rules.specs.Declarations.{nothing_seen}
use Rattle.vhdl_expand_rules.proofs.Items.{next_left}
use Rattle.vhdl_expand_operands.specs.Sized.{IsSized}

pub all_unseen : (places : List ℕ) → replicate (length places) U ≡ map (element_at []) places
all_unseen [] = refl
all_unseen (place ∷ places) = ap (λ vs. U ∷ vs) (all_unseen places)

operated_long : (op : Operator) (a b : List Nine) → FitsOperands op (length a) (length b) → length (operation_result op a b) ≡ operated_width op (length a) (length b)
operated_long (logical op) a b h = length-logic_of_all op a b h
operated_long joined a b h = length-append a b
operated_long plus a b h = length-sum_of a b
operated_long minus a b h = length-difference_of a b
operated_long times a b h = length-product_of a b
operated_long (signed op) a b h = length-signed_of op a b

pub known_long : (x : Expr) → IsSized x → length (elements_of nothing_seen x) ≡ width x
known_long (signal nets) h = length-map nets (element_at [])
known_long (variable es) h = length-map es (element_at [])
known_long (constant values) h = refl
known_long (inverse x) h = length-map (elements_of nothing_seen x) not_of ∙ known_long x h
known_long (filled len x) h = length-replicate len (slice_index_or (elements_of nothing_seen x) 0 X)
known_long (binary op x y) h =
    let p = known_long x h.1 in
    let q = known_long y h.2 in
    operated_long op (elements_of nothing_seen x) (elements_of nothing_seen y) (rw (p, q) h.3)
    ∙ λ i. operated_width op (p i) (q i)
known_long (counted op count x) h = length-counted_of Zero op count (elements_of nothing_seen x) ∙ ap (counted_length op count) (known_long x h.1)
known_long (shifted by count x) h = length-shifted_by by (elements_of nothing_seen count) (elements_of nothing_seen x) ∙ known_long x h.1
known_long (converted by x) h = length-converted by (elements_of nothing_seen x) ∙ known_long x h
known_long (chosen index spacing rows) h =
    length-at spacing.len (all_rows spacing (elements_of nothing_seen rows)) X (natural_of (elements_of nothing_seen index)) (length-all_rows spacing (elements_of nothing_seen rows))

pub sized_width : (x : Expr) → IsSized x → IsWidth (width x)
sized_width (signal nets) h = h
sized_width (variable es) h = h
sized_width (constant values) h = h
sized_width (inverse x) h = sized_width x h
sized_width (filled len x) h = h.0
sized_width (binary op x y) h = h.0
sized_width (counted op count x) h = counted_within op count (width x) h.0 (sized_width x h.1)
sized_width (shifted by count x) h = sized_width x h.1
sized_width (converted by x) h = sized_width x h
sized_width (chosen index spacing rows) h = h.0.0

-- ---- the links of a chain

sized_first : (left : Expr) (ls : List Link) → IsSized (links_of left ls) → IsSized left
sized_first left [] h = h
sized_first left (l ∷ ls) h = (sized_first (binary (operator_view l.operator) left (expr_view l.operand)) ls h).1

sized_too : (x y : Expr) (ls : List Link) → width x ≡ width y → IsSized y → IsSized (links_of x ls) → IsSized (links_of y ls)
sized_too x y [] w f h = f
sized_too x y (l ∷ ls) w f h =
    let op = operator_view l.operator in
    let r = expr_view l.operand in
    let b = sized_first (binary op x r) ls h in
    sized_too (binary op x r) (binary op y r) ls (ap (λ n. operated_width op n (width r)) w)
    (subst (λ n. IsWidth (operated_width op n (width r))) w b.0, f, b.2, subst (λ n. FitsOperands op n (width r)) w b.3) h

sized_known : (left : Expr) (ls : List Link) → IsSized (links_of left ls) → IsSized (links_of (constant (elements_of nothing_seen left)) ls)
sized_known left ls h =
    let first = sized_first left ls h in
    let long = known_long left first in
    sized_too left (constant (elements_of nothing_seen left)) ls (sym long) (subst IsWidth (sym long) (sized_width left first)) h

module _ (left : List Nine) (ls : List Link) (i : ℕ) (x : Link) (below : i < length ls) (is : x ≡ get_or ls i x) (h : IsSized (links_of (constant left) (drop i ls))) where
  op : Operator
  op = operator_view x.operator

  both : Expr
  both = binary op (constant left) (expr_view x.operand)

  sized_both : IsSized (links_of both (drop (i + 1) ls))
  unfolding op both
  sized_both = subst (λ (ys : List Link). IsSized (links_of (constant left) ys)) (next_left ls i x below is) h

  -- the operand of the next link
  pub sized_operand : IsSized (expr_view x.operand)
  unfolding op both
  sized_operand = (sized_first both (drop (i + 1) ls) sized_both).2

  -- the operator fits its operands
  pub sized_operands : (v : List Nine) → v ≡ elements_of nothing_seen (expr_view x.operand) → FitsOperands (operator_view x.operator) (length left) (length v) × IsWidth (operated_width (operator_view x.operator) (length left) (length v))
  unfolding op both
  sized_operands v e =
      let b = sized_first both (drop (i + 1) ls) sized_both in
      let long : length v ≡ width (expr_view x.operand) = ap length e ∙ known_long (expr_view x.operand) b.2 in
      (subst (λ n. FitsOperands op (length left) n) (sym long) b.3, subst (λ n. IsWidth (operated_width op (length left) n)) (sym long) b.0)

  -- what is left of the chain stands behind the value of the operator
  pub sized_rest : (u v : List Nine) → v ≡ elements_of nothing_seen (expr_view x.operand) → u ≡ operation_result (operator_view x.operator) left v → IsSized (links_of (constant u) (drop (i + 1) ls))
  unfolding op both
  sized_rest u v e k =
      subst (λ (w : List Nine). IsSized (links_of (constant w) (drop (i + 1) ls))) (sym (k ∙ ap (operation_result op left) e)) (sized_known both (drop (i + 1) ls) sized_both)

-- the parts of a chain
module _ (whole : code.Expr) (first : Box code.Expr Global) (rest : Vec Link Global) (x : code.Expr) (h : IsSized (expr_view whole)) (is : whole ≡ e.Chain first rest) (here : x ≡ first.value) where
  sized_links : IsSized (links_of (expr_view first.value) rest.items)
  sized_links = subst IsSized (ap expr_view is ∙ view_chain first rest) h

  pub sized_start : IsSized (expr_view x)
  sized_start = subst (λ (y : code.Expr). IsSized (expr_view y)) (sym here) (sized_first (expr_view first.value) rest.items sized_links)

  pub sized_behind : (left : List Nine) (ls : List Link) → left ≡ elements_of nothing_seen (expr_view x) → ls ≡ rest.items → IsSized (links_of (constant left) ls)
  sized_behind left ls value there =
      subst (λ (ys : List Link). IsSized (links_of (constant left) ys)) (sym there)
      (subst (λ (u : List Nine). IsSized (links_of (constant u) rest.items)) (sym (value ∙ ap (λ (y : code.Expr). elements_of nothing_seen (expr_view y)) here))
      (sized_known (expr_view first.value) rest.items sized_links))

-- ---- rows of names, of which each element reads U

module _ (spacing : Spacing) (places : List ℕ) (index : List Nine) where
  all_read : map (element_at []) places ≡ replicate (length places) U
  all_read = sym (all_unseen places)

  pub row_read : (at count : ℕ) → count ≡ length places → BeginsAt spacing count index at → replicate spacing.len U ≡ chosen_of spacing.len (row_at spacing (map (element_at []) places) index)
  row_read at count long begins =
      let b = subst (λ (n : ℕ). BeginsAt spacing n index at) long begins in
      let within = begun_within spacing (length places) index at b in
      let here = subst (λ (n : ℕ). BeginsAt spacing n index at) (sym (length-map places (element_at []))) b in
      sym (ap (chosen_of spacing.len) (begun spacing (map (element_at []) places) index at here)
      ∙ ap (λ (vs : List Nine). take spacing.len (drop at vs)) all_read
      ∙ ap (take spacing.len) (drop-replicate at (length places) U)
      ∙ take-replicate spacing.len (length places - at) U (omega (arith, within)))

  pub row_missing : IsNowhere spacing (length places) index → replicate spacing.len X ≡ chosen_of spacing.len (row_at spacing (map (element_at []) places) index)
  row_missing past =
      sym (ap (chosen_of spacing.len) (nowhere spacing (map (element_at []) places) index (subst (λ (n : ℕ). IsNowhere spacing n index) (sym (length-map places (element_at []))) past)))
