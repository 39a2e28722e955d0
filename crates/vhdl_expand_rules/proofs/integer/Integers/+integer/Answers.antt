use mir.Syntax.{w32}
use mir.Val.{to_z, of_z}
use Rattle.std.proofs.Common.{◌≡◌, ℤ, ℕ, ◌<◌, ◌+◌, List, ◌∷◌, length, get_or, drop, Ok, Err, ap, sym, ◌∙◌, arith, rules}
use Rattle.std.specs.Prelude.{neg_ℤ, nat_abs, pos}
use Rattle.std.proofs.lemmas.List.{at_drop_more, at_drop_all}
use Rattle.std.proofs.lemmas.Grind.{common_steps}
use Rattle.vhdl_tree.specs.declared.operator.Direction.{Direction}
use Rattle.vhdl_names_rules.specs.declared.operator.Bound.{Bound}
use Rattle.vhdl_names_rules.specs.units.Expressions as u
use Rattle.vhdl_names_trees.specs.views.Integers.{static_view}
use Rattle.vhdl_names_trees.specs.declared.integer.StaticLink.{StaticLink}
use Rattle.vhdl_expand_rules.specs.Elab.{◌>>=◌, Told, fault_told}
use Rattle.vhdl_expand_rules.specs.Integers as definition
use Rattle.vhdl_expand_rules.specs.views.Integers.{integers_view, range_view, all_operated}
use Rattle.vhdl_expand_rules.proofs.Chains.{computes_along, computes_err, chain-value, chain-err}
use Rattle.vhdl_expand_rules.proofs.Modulus.{same_word}
use Rattle.vhdl_expand_rules.proofs.integer.Integers.+integer.Goals as goal

pub integer-returns-in_err-first-in-Chain : goal.integer-returns-in_err-first-in-Chain
integer-returns-in_err-first-in-Chain t c =
    let refused : definition.integer (integers_view c.args.self.now) c.args.at (static_view c.args.value.now) ≡ Err (fault_told c.in_err-first-in-Chain.field-0.0) =
    chain-err (integers_view c.args.self.now) c.args.at c.args.value.now c.in-Chain.start c.in-Chain.links _ _ c.in-Chain.is c.deref-in-Chain.ensures c.in_err-first-in-Chain.ensures in
    computes_err _ c.in_err-first-in-Chain.field-0.0 _ c.from_residual-in_err-first-in-Chain.result c.from_residual-in_err-first-in-Chain.ensures.1 (λ e p. p) refused

pub integer-returns-in_ok-first-in-Chain : goal.integer-returns-in_ok-first-in-Chain
integer-returns-in_ok-first-in-Chain t c =
    computes_along _ (all_operated (integers_view c.args.self.now) c.in_ok-first-in-Chain.first c.deref-in-Chain-2.result.now) _
    (chain-value (integers_view c.args.self.now) c.args.at c.args.value.now c.in-Chain.start c.in-Chain.links _ _ _ c.in-Chain.is c.deref-in-Chain.ensures c.deref-in-Chain-2.ensures.value c.in_ok-first-in-Chain.ensures)
    (first_of (search rules, grind (arith, common_steps)))

pub integer-returns-in-Number : goal.integer-returns-in-Number
unfolding definition.integer
integer-returns-in-Number t c = computes_along _ _ _ (ap (λ v. definition.integer (integers_view c.args.self.now) c.args.at (static_view v)) c.in-Number.is) c.literal.ensures

pub integer-returns-in-Generic : goal.integer-returns-in-Generic
unfolding definition.integer
integer-returns-in-Generic t c = computes_along _ _ _ (ap (λ v. definition.integer (integers_view c.args.self.now) c.args.at (static_view v)) c.in-Generic.is) c.known.ensures

pub integer-returns-in-Constant : goal.integer-returns-in-Constant
unfolding definition.integer
integer-returns-in-Constant t c = computes_along _ _ _ (ap (λ v. definition.integer (integers_view c.args.self.now) c.args.at (static_view v)) c.in-Constant.is) c.constant.ensures

pub integer-returns-in-GenerateParameter : goal.integer-returns-in-GenerateParameter
unfolding definition.integer
integer-returns-in-GenerateParameter t c = computes_along _ _ _ (ap (λ v. definition.integer (integers_view c.args.self.now) c.args.at (static_view v)) c.in-GenerateParameter.is) c.known-in-GenerateParameter.ensures

pub integer-returns-in-LoopParameter : goal.integer-returns-in-LoopParameter
unfolding definition.integer
integer-returns-in-LoopParameter t c = computes_along _ _ _ (ap (λ v. definition.integer (integers_view c.args.self.now) c.args.at (static_view v)) c.in-LoopParameter.is) c.known-in-LoopParameter.ensures

pub integer-returns-in_err-x-in-Negated : goal.integer-returns-in_err-x-in-Negated
unfolding definition.integer
integer-returns-in_err-x-in-Negated t c =
    computes_err _ c.in_err-x-in-Negated.field-0.0 _ c.from_residual.result c.from_residual.ensures.1 (λ e p. p)
    (ap (λ v. definition.integer (integers_view c.args.self.now) c.args.at (static_view v)) c.in-Negated.is ∙ ap (λ r. r >>= λ x. definition.checked_integer c.in-Negated.sign (neg_ℤ x)) (rw c.deref.ensures at c.in_err-x-in-Negated.ensures))

pub integer-returns-in_err-x-in-Absolute : goal.integer-returns-in_err-x-in-Absolute
unfolding definition.integer
integer-returns-in_err-x-in-Absolute t c =
    computes_err _ c.in_err-x-in-Absolute.field-0.0 _ c.from_residual-in_err-x-in-Absolute.result c.from_residual-in_err-x-in-Absolute.ensures.1 (λ e p. p)
    (ap (λ v. definition.integer (integers_view c.args.self.now) c.args.at (static_view v)) c.in-Absolute.is
    ∙ ap (λ r. r >>= λ x. definition.checked_integer c.in-Absolute.sign (pos (nat_abs x))) (rw c.deref-in-Absolute.ensures at c.in_err-x-in-Absolute.ensures))

pub integer-returns-in_err-range-in-Bound : goal.integer-returns-in_err-range-in-Bound
unfolding definition.integer
integer-returns-in_err-range-in-Bound t c =
    computes_err _ c.in_err-range-in-Bound.field-0.0 _ c.from_residual-in_err-range-in-Bound.result c.from_residual-in_err-range-in-Bound.ensures.1 (λ e p. p)
    (ap (λ v. definition.integer (integers_view c.args.self.now) c.args.at (static_view v)) c.in-Bound.is
    ∙ ap (λ r. r >>= definition.bound_checked c.args.at c.in-Bound.bound) c.in_err-range-in-Bound.ensures)

pub integer-returns-in_ok-range-in-Bound : goal.integer-returns-in_ok-range-in-Bound
unfolding definition.integer
integer-returns-in_ok-range-in-Bound t c =
    computes_along _ _ _
    (ap (λ v. definition.integer (integers_view c.args.self.now) c.args.at (static_view v)) c.in-Bound.is
    ∙ ap (λ r. r >>= definition.bound_checked c.args.at c.in-Bound.bound) c.in_ok-range-in-Bound.ensures)
    c.bound.ensures

abbrev slice_from : ℤ → Direction → ℤ → definition.IntegerRange
slice_from x d y = record { left = x; direction = d; right = y }

-- of a slice, whose whole, left and right are computed in turn
module _ (here : definition.Integers) (at : ℕ) (b : Bound) (k : ℕ) (s t : u.Static) (d : Direction) where
  whole_stops : (told : Told) → definition.known_range at here.ranges k ≡ Err told → definition.integer here at (u.slice_bound at b k s d t) ≡ Err told
  unfolding definition.integer
  whole_stops told h = ap (λ r. r >>= λ w. definition.integer here at s >>= λ x. definition.integer here at t >>= λ y. definition.sliced_bound at b w (record { left = x; direction = d; right = y })) h

  left_stops : (told : Told) (w : definition.IntegerRange) → definition.known_range at here.ranges k ≡ Ok w → definition.integer here at s ≡ Err told
      → definition.integer here at (u.slice_bound at b k s d t) ≡ Err told
  unfolding definition.integer
  left_stops told w h e = ap (λ r. r >>= λ w. definition.integer here at s >>= λ x. definition.integer here at t >>= λ y. definition.sliced_bound at b w (record { left = x; direction = d; right = y })) h
      ∙ ap (λ r. r >>= λ x. definition.integer here at t >>= λ y. definition.sliced_bound at b w (record { left = x; direction = d; right = y })) e

  all_computed : (w : definition.IntegerRange) (x : ℤ) → definition.known_range at here.ranges k ≡ Ok w → definition.integer here at s ≡ Ok x
      → definition.integer here at (u.slice_bound at b k s d t) ≡ (definition.integer here at t >>= λ y. definition.sliced_bound at b w (record { left = x; direction = d; right = y }))
  unfolding definition.integer
  all_computed w x h e = ap (λ r. r >>= λ w. definition.integer here at s >>= λ x. definition.integer here at t >>= λ y. definition.sliced_bound at b w (record { left = x; direction = d; right = y })) h
      ∙ ap (λ r. r >>= λ x. definition.integer here at t >>= λ y. definition.sliced_bound at b w (record { left = x; direction = d; right = y })) e

pub integer-returns-in_err-whole-in-SliceBound : goal.integer-returns-in_err-whole-in-SliceBound
unfolding definition.integer
integer-returns-in_err-whole-in-SliceBound t c =
    let x = c.in-SliceBound in
    computes_err _ c.in_err-whole-in-SliceBound.field-0.0 _ c.from_residual-in_err-whole-in-SliceBound.result c.from_residual-in_err-whole-in-SliceBound.ensures.1 (λ e p. p)
    (ap (λ v. definition.integer (integers_view c.args.self.now) c.args.at (static_view v)) c.in-SliceBound.is
    ∙ whole_stops (integers_view c.args.self.now) x.at x.bound x.range (static_view x.left.value) (static_view x.right.value) x.direction _ c.in_err-whole-in-SliceBound.ensures)

pub integer-returns-in_err-left-in-SliceBound : goal.integer-returns-in_err-left-in-SliceBound
unfolding definition.integer
integer-returns-in_err-left-in-SliceBound t c =
    let x = c.in-SliceBound in
    computes_err _ c.in_err-left-in-SliceBound.field-0.0 _ c.from_residual-in_err-left-in-SliceBound.result c.from_residual-in_err-left-in-SliceBound.ensures.1 (λ e p. p)
    (ap (λ v. definition.integer (integers_view c.args.self.now) c.args.at (static_view v)) c.in-SliceBound.is
    ∙ left_stops (integers_view c.args.self.now) x.at x.bound x.range (static_view x.left.value) (static_view x.right.value) x.direction _ _ c.in_ok-whole-in-SliceBound.ensures (rw c.deref-in-SliceBound.ensures at c.in_err-left-in-SliceBound.ensures))

pub integer-returns-in_err-right-in-SliceBound : goal.integer-returns-in_err-right-in-SliceBound
unfolding definition.integer
integer-returns-in_err-right-in-SliceBound t c =
    let p = c.in-SliceBound in
    let w = range_view c.in_ok-whole-in-SliceBound.whole in
    let x = c.in_ok-left-in-SliceBound.left in
    computes_err _ c.in_err-right-in-SliceBound.field-0.0 _ c.from_residual-in_err-right-in-SliceBound.result c.from_residual-in_err-right-in-SliceBound.ensures.1 (λ e p. p)
    (ap (λ v. definition.integer (integers_view c.args.self.now) c.args.at (static_view v)) c.in-SliceBound.is
    ∙ all_computed (integers_view c.args.self.now) p.at p.bound p.range (static_view p.left.value) (static_view p.right.value) p.direction w x c.in_ok-whole-in-SliceBound.ensures (rw c.deref-in-SliceBound.ensures at c.in_ok-left-in-SliceBound.ensures)
    ∙ ap (λ r. r >>= λ y. definition.sliced_bound c.in-SliceBound.at c.in-SliceBound.bound w (record { left = x; direction = c.in-SliceBound.direction; right = y }))
    (rw c.deref-in-SliceBound-2.ensures at c.in_err-right-in-SliceBound.ensures))

pub integer-returns-in_ok-right-in-SliceBound : goal.integer-returns-in_ok-right-in-SliceBound
unfolding definition.integer
integer-returns-in_ok-right-in-SliceBound t c =
    let p = c.in-SliceBound in
    let w = range_view c.in_ok-whole-in-SliceBound.whole in
    let d = c.in-SliceBound.direction in
    let x = c.in_ok-left-in-SliceBound.left in
    let y = c.in_ok-right-in-SliceBound.right in
    let ex = same_word x (search rules) in
    let ey = same_word y (search rules) in
    let made : range_view c.new-slice.result ≡ record { left = to_z w32 (of_z w32 x); direction = d; right = to_z w32 (of_z w32 y) } = c.new-slice.ensures in
    let slice : range_view c.new-slice.result ≡ record { left = x; direction = d; right = y } =
    made ∙ ap (λ (z : ℤ). slice_from z d (to_z w32 (of_z w32 y))) ex ∙ ap (λ (z : ℤ). slice_from x d z) ey in
    computes_along _ (definition.sliced_bound c.in-SliceBound.at c.in-SliceBound.bound w (range_view c.new-slice.result)) _
    (ap (λ v. definition.integer (integers_view c.args.self.now) c.args.at (static_view v)) c.in-SliceBound.is
    ∙ all_computed (integers_view c.args.self.now) p.at p.bound p.range (static_view p.left.value) (static_view p.right.value) p.direction w x c.in_ok-whole-in-SliceBound.ensures (rw c.deref-in-SliceBound.ensures at c.in_ok-left-in-SliceBound.ensures)
    ∙ ap (λ r. r >>= λ y. definition.sliced_bound c.in-SliceBound.at c.in-SliceBound.bound w (record { left = x; direction = d; right = y }))
    (rw c.deref-in-SliceBound-2.ensures at c.in_ok-right-in-SliceBound.ensures)
    ∙ ap (definition.sliced_bound c.in-SliceBound.at c.in-SliceBound.bound w) (sym slice))
    c.sliced_bound.ensures

pub started-returns-in_err-left : goal.started-returns-in_err-left
unfolding definition.integer
started-returns-in_err-left t c =
    let l = c.args.start.now.link in
    computes_err _ c.in_err-left.field-0.0 _ c.from_residual.result c.from_residual.ensures.1 (λ e p. p)
    (ap (λ r. r >>= λ x. definition.integer (integers_view c.args.self.now) l.at (static_view l.operand) >>= λ y. definition.integer_operation l.at l.operator x y) c.in_err-left.ensures)

pub started-returns-in_err-right : goal.started-returns-in_err-right
unfolding definition.integer
started-returns-in_err-right t c =
    let l = c.args.start.now.link in
    computes_err _ c.in_err-right.field-0.0 _ c.from_residual-in_err-right.result c.from_residual-in_err-right.ensures.1 (λ e p. p)
    (ap (λ r. r >>= λ x. definition.integer (integers_view c.args.self.now) l.at (static_view l.operand) >>= λ y. definition.integer_operation l.at l.operator x y) c.in_ok-left.ensures
    ∙ ap (λ r. r >>= λ y. definition.integer_operation l.at l.operator c.in_ok-left.left y) c.in_err-right.ensures)

pub started-returns : goal.started-returns
unfolding definition.integer
started-returns t c =
    let l = c.args.start.now.link in
    let x = c.in_ok-left.left in
    let y = c.in_ok-right.right in
    let ex = same_word x (search rules) in
    let ey = same_word y (search rules) in
    computes_along _ (definition.integer_operation l.at l.operator (to_z w32 (of_z w32 x)) (to_z w32 (of_z w32 y))) _
    (ap (λ r. r >>= λ a. definition.integer (integers_view c.args.self.now) l.at (static_view l.operand) >>= λ b. definition.integer_operation l.at l.operator a b) c.in_ok-left.ensures
    ∙ (ap (λ r. r >>= λ b. definition.integer_operation l.at l.operator x b) c.in_ok-right.ensures
    ∙ (ap (λ a. definition.integer_operation l.at l.operator a y) (sym ex) ∙ ap (λ b. definition.integer_operation l.at l.operator (to_z w32 (of_z w32 x)) b) (sym ey))))
    c.operated.ensures

-- ---- one more operator of a chain

module _ (here : definition.Integers) (first value : ℤ) (links : List StaticLink) (i : ℕ) (x : StaticLink) (within : i < length links) (is : x ≡ get_or links i x)
    (so_far : all_operated here first links ≡ all_operated here value (drop i links)) where
  ahead : all_operated here first links
      ≡ (definition.integer here x.at (static_view x.operand) >>= λ y. definition.integer_operation x.at x.operator value y >>= λ z. all_operated here z (drop (i + 1) links))
  ahead = so_far ∙ (at_drop_more (all_operated here value) links i x within ∙ ap (λ y. all_operated here value (y ∷ drop (i + 1) links)) (sym is))

  operand_stops : (told : Told) → definition.integer here x.at (static_view x.operand) ≡ Err told → all_operated here first links ≡ Err told
  operand_stops told h = ahead ∙ ap (λ r. r >>= λ y. definition.integer_operation x.at x.operator value y >>= λ z. all_operated here z (drop (i + 1) links)) h

  operator_gives : (operand operand' : ℤ) → operand' ≡ operand → definition.integer here x.at (static_view x.operand) ≡ Ok operand
      → all_operated here first links ≡ (definition.integer_operation x.at x.operator value operand' >>= λ z. all_operated here z (drop (i + 1) links))
  operator_gives operand operand' e h = ahead
      ∙ (ap (λ r. r >>= λ y. definition.integer_operation x.at x.operator value y >>= λ z. all_operated here z (drop (i + 1) links)) h
      ∙ ap (λ y. definition.integer_operation x.at x.operator value y >>= λ z. all_operated here z (drop (i + 1) links)) (sym e))

  operator_stops : (operand operand' : ℤ) (told : Told) → operand' ≡ operand → definition.integer here x.at (static_view x.operand) ≡ Ok operand
      → definition.integer_operation x.at x.operator value operand' ≡ Err told → all_operated here first links ≡ Err told
  operator_stops operand operand' told e h k = operator_gives operand operand' e h ∙ ap (λ r. r >>= λ z. all_operated here z (drop (i + 1) links)) k

  operator_goes : (operand operand' next next' : ℤ) → operand' ≡ operand → next' ≡ next → definition.integer here x.at (static_view x.operand) ≡ Ok operand
      → definition.integer_operation x.at x.operator value operand' ≡ Ok next → all_operated here first links ≡ all_operated here next' (drop (i + 1) links)
  operator_goes operand operand' next next' e e' h k = operator_gives operand operand' e h
      ∙ (ap (λ r. r >>= λ z. all_operated here z (drop (i + 1) links)) k ∙ ap (λ z. all_operated here z (drop (i + 1) links)) (sym e'))

pub continued-loop-link-preserved : goal.continued-loop-link-preserved
continued-loop-link-preserved t c =
    let o = c.in_ok-operand.operand in
    let v = c.in_ok-value.value in
    let eo = same_word o (search rules) in
    let ev = same_word v (search rules) in
    operator_goes (integers_view c.args.self.now) _ (to_z w32 c.loop-link.value-bits) c.args.links.now c.loop-link.link-index c.link-item.result c.loop-link-test.true c.link-item.is c.loop-link.invariant
    o (to_z w32 (of_z w32 o)) v (to_z w32 (of_z w32 v)) eo ev c.in_ok-operand.ensures c.in_ok-value.ensures

pub continued-returns-in_err-operand : goal.continued-returns-in_err-operand
continued-returns-in_err-operand t c =
    let a = c.args.first in
    let ea = same_word a (search rules) in
    computes_err _ c.in_err-operand.field-0.0 _ c.from_residual.result c.from_residual.ensures.1 (λ e p. p)
    (operand_stops (integers_view c.args.self.now) a (to_z w32 c.loop-link.value-bits) c.args.links.now c.loop-link.link-index c.link-item.result c.loop-link-test.true c.link-item.is
    (ap (λ z. all_operated (integers_view c.args.self.now) z c.args.links.now) (sym ea) ∙ c.loop-link.invariant) _ c.in_err-operand.ensures)

pub continued-returns-in_err-value : goal.continued-returns-in_err-value
continued-returns-in_err-value t c =
    let a = c.args.first in
    let o = c.in_ok-operand.operand in
    let ea = same_word a (search rules) in
    let eo = same_word o (search rules) in
    computes_err _ c.in_err-value.field-0.0 _ c.from_residual-in_err-value.result c.from_residual-in_err-value.ensures.1 (λ e p. p)
    (operator_stops (integers_view c.args.self.now) a (to_z w32 c.loop-link.value-bits) c.args.links.now c.loop-link.link-index c.link-item.result c.loop-link-test.true c.link-item.is
    (ap (λ z. all_operated (integers_view c.args.self.now) z c.args.links.now) (sym ea) ∙ c.loop-link.invariant) o (to_z w32 (of_z w32 o)) _ eo c.in_ok-operand.ensures c.in_err-value.ensures)

pub continued-returns : goal.continued-returns
continued-returns t c =
    let a = c.args.first in
    let ea = same_word a (search rules) in
    ap (λ z. all_operated (integers_view c.args.self.now) z c.args.links.now) (sym ea)
    ∙ (c.loop-link.invariant ∙ at_drop_all (all_operated (integers_view c.args.self.now) (to_z w32 c.loop-link.value-bits)) c.args.links.now c.loop-link.link-index c.loop-link-test.false)
