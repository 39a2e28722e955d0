-- A chain of operators takes no more turns than tokens.
use Rattle.std.proofs.Common.{◌≡◌, ℕ, zero, suc, ◌≤◌, Bool, true, false, cond, List, [], ◌∷◌, length, Ok, Option, Some, None, refl, sym, ◌∙◌, arith}
use Rattle.vhdl_tree.specs.declared.operator.Operator.{Operator}
use Rattle.vhdl_parser_expressions.specs.declared.operator.Level.{Level}
use Rattle.vhdl_parser_expressions.specs.declared.operator.Level.TheVariants.{Logical}
use Rattle.vhdl_tree.specs.Lexeme.{Lexeme}
use Rattle.vhdl_tree.specs.Tree.{Expr, Pair, joined, begun}
use Rattle.vhdl_tree.specs.grammar.Expressions.{kind_of, repeats}
use Rattle.vhdl_parser_expressions.specs.reader.Input.{Parser, expect, next_kind}
use Rattle.vhdl_parser_expressions.specs.reader.Expressions.{operator_at, next_operator, pair, turn, more_from, more, begin_by, begin, chain}
use Rattle.vhdl_parser_expressions.proofs.Steady.{left_of, then_shorter, Steady, steady_pure, steady_take, steady_then, steady_map, steady_choose, steady_turns, Advances, then_alike, advances_then, advances_token}

-- behind the last token no operator goes on
no_operator : (level : Level) (last : Operator) → next_operator level last None ≡ None
unfolding next_operator
no_operator Logical last = by_test (repeats last)
  where
    by_test : (b : Bool) → ◌≡◌ {A = Option Operator} (cond b None None) None
    by_test true = refl
    by_test false = refl
no_operator _ last = refl

module _ (operand : Parser Expr) (short : (ts : List Lexeme) → length (left_of (operand ts)) ≤ length ts) where
  pub pair_advances : (op : Operator) → Advances (pair operand op)
  unfolding pair expect
  pair_advances op =
      advances_then _ (advances_then _ (advances_token (kind_of op)) (λ l us. omega arith))
      (λ at us. then_shorter (λ right vs. Ok (record { operator = op; at = at; operand = right }, vs)) (operand us) us (short us) (λ x h. omega arith))

  no_turn : (n : ℕ) (level : Level) (last : Operator) (left : Expr) → more_from operand n level last left [] ≡ Ok (left, [])
  unfolding more_from next_kind
  no_turn zero level last left = refl
  no_turn (suc n) level last left = rw (no_operator level last) refl

  turn_alike : (f g : Operator → Expr → Parser Expr) (left : Expr) (ts : List Lexeme) →
      ((op : Operator) (p : Pair) (rest : List Lexeme) → pair operand op ts ≡ Ok (p, rest) → f op (joined left p) rest ≡ g op (joined left p) rest) →
      (o : Option Operator) → turn operand o f left ts ≡ turn operand o g left ts
  turn_alike f g left ts same None = refl
  turn_alike f g left ts same (Some op) = then_alike (pair operand op ts) (λ p. f op (joined left p)) (λ p. g op (joined left p)) (same op)

  pub more_enough : (n m : ℕ) (level : Level) (last : Operator) (left : Expr) (ts : List Lexeme) → length ts ≤ n → length ts ≤ m → more_from operand n level last left ts ≡ more_from operand m level last left ts
  unfolding more_from
  more_enough n m level last left [] le also = no_turn n level last left ∙ sym (no_turn m level last left)
  more_enough zero m level last left (l ∷ ts) le also = absurd (omega (arith, le))
  more_enough (suc n) zero level last left (l ∷ ts) le also = absurd (omega (arith, also))
  more_enough (suc n) (suc m) level last left (l ∷ ts) le also =
      turn_alike (more_from operand n level) (more_from operand m level) left (l ∷ ts)
      (λ op p rest h. let less = pair_advances op (l ∷ ts) p rest h in more_enough n m level op (joined left p) rest (omega (arith, le, less)) (omega (arith, also, less)))
      (next_operator level last (next_kind (l ∷ ts)))

module _ {operand : Parser Expr} (each : Steady operand) where
  pair_steady : (op : Operator) → Steady (pair operand op)
  unfolding pair expect
  pair_steady op = steady_then (steady_take (λ l. l.at) (kind_of op)) (λ ts at rest h. steady_map (λ right. record { operator = op; at = at; operand = right }) each)

  turn_steady : (f : Operator → Expr → Parser Expr) (left : Expr) → ((op : Operator) (p : Pair) → Steady (f op (joined left p))) → (o : Option Operator) → Steady (turn operand o f left)
  turn_steady f left later None = steady_pure
  turn_steady f left later (Some op) = steady_then (pair_steady op) (λ ts p rest h. later op p)

  more_steady : (n : ℕ) (level : Level) (last : Operator) (left : Expr) → Steady (more_from operand n level last left)
  unfolding more_from
  more_steady zero level last left = steady_pure
  more_steady (suc n) level last left = steady_choose (λ next. turn_steady (more_from operand n level) left (λ op p. more_steady n level op (joined left p)) (next_operator level last next))

  pub steady_more : (level : Level) (last : Operator) (left : Expr) → Steady (more operand level last left)
  unfolding more
  steady_more level last left = steady_turns (λ n. more_from operand n level last left) (λ n. more_steady n level last left) (λ n m ts le also. more_enough operand each.shorter n m level last left ts le also)

  begin_steady : (level : Level) (first : Expr) (o : Option Operator) → Steady (begin_by operand level first o)
  begin_steady level first None = steady_pure
  begin_steady level first (Some op) = steady_then (pair_steady op) (λ ts p rest h. steady_more level op (begun first p))

  pub steady_chain : {first : Parser Expr} (level : Level) → Steady first → Steady (chain first operand level)
  unfolding begin
  steady_chain level leads = steady_then leads (λ ts left rest h. steady_choose (λ next. begin_steady level left (operator_at level next)))
