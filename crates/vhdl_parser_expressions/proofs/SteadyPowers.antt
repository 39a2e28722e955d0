-- What the readers of factors and terms say doesn't hang on the tokens behind the one where they stop; but a factor that
-- ends before a star hangs on whether another star touches this one, and so it's the chain of the factors that is steady.
use Rattle.std.proofs.Common.{◌≡◌, ℕ, zero, suc, ◌+◌, ◌≤◌, ◌⊎◌, Bool, true, false, cond, List, [], ◌∷◌, ◌++◌, length, Ok, Option, Some, None, inl, inr, refl, sym, ap, ◌∙◌, subst, arith}
use Rattle.vhdl_lexer.specs.declared.token.TokenKind.TheVariants as k
use Rattle.vhdl_tree.specs.declared.operator.Operator.{Operator}
use Rattle.vhdl_tree.specs.declared.operator.Operator.TheVariants.{Multiply}
use Rattle.vhdl_parser_expressions.specs.declared.operator.Level.TheVariants.{Multiplying}
use Rattle.vhdl_tree.specs.Lexeme.{Lexeme, same_kind}
use Rattle.vhdl_tree.specs.Tree.{Expr, Pair, joined, begun}
use Rattle.vhdl_tree.specs.grammar.Expressions.{kind_of}
use Rattle.vhdl_lexer.specs.declared.token.TokenKind.{TokenKind}
use Rattle.vhdl_parser_expressions.specs.reader.Input.{Outcome, Parser, and_then, expect, next_kind, test}
use Rattle.vhdl_parser_expressions.specs.reader.Expressions.{operator_at, next_operator, sees_power, pair, turn, more_from, more, begin_by, begin, chain}
use Rattle.vhdl_parser_expressions.proofs.Steps.{bind_ok, pure_ok, kind_same, takes}
use Rattle.vhdl_parser_expressions.proofs.Steady.{left_of, Twins, both_read, both_refuse, took, Steady, steady_pure, steady_take, steady_choose, steady_cond, then_shorter}
use Rattle.vhdl_parser_expressions.proofs.Ahead.{Eager}
use Rattle.vhdl_parser_expressions.proofs.Operators.{reads_operator}
use Rattle.vhdl_parser_expressions.proofs.Chained.{pair_advances, more_enough}
use Rattle.vhdl_parser_expressions.proofs.Powers.{first_alone}

-- it read all that stands before a star
pub record Starred {A : Type 0} (t : Lexeme) (r : List Lexeme) (o : Outcome A) : Type 0 where
  pub is_star : t.kind ≡ k.Star
  pub value : A
  pub read : o ≡ Ok (value, t ∷ r)

-- a reader that is steady but before a star
pub record Nearly {A : Type 0} (p : Parser A) : Type 0 where
  pub shorter : (ts : List Lexeme) → length (left_of (p ts)) ≤ length ts
  pub alike : (front : List Lexeme) (t : Lexeme) (r m : List Lexeme) → Twins t r m (p (front ++ t ∷ r)) (p (front ++ t ∷ m)) ⊎ Starred t r (p (front ++ t ∷ r))

pub nearly : {A : Type 0} {p : Parser A} → Steady p → Nearly p
nearly s = record { shorter = s.shorter; alike = λ front t r m. inl (s.twins front t r m) }

-- at a star it takes it, or leaves it and has read
abbrev pub Passes : {A : Type 0} → Parser A → Type 0
Passes p = (t : Lexeme) (r : List Lexeme) → t.kind ≡ k.Star → (length (left_of (p (t ∷ r))) ≤ length r) ⊎ Starred t r (p (t ∷ r))

module _ {A B : Type 0} (f : A → Parser B) where
  short_then : (p : Parser A) → ((ts : List Lexeme) → length (left_of (p ts)) ≤ length ts) → ((a : A) (us : List Lexeme) → length (left_of (f a us)) ≤ length us) → (ts : List Lexeme) → length (left_of (and_then (p ts) f)) ≤ length ts
  short_then p first next ts = then_shorter f (p ts) ts (first ts) (λ x h. next x.0 x.1)

  -- behind what is alike
  twins_then : ((a : A) → Nearly (f a)) → (t : Lexeme) (r m : List Lexeme) (o other : Outcome A) → Twins t r m o other → Twins t r m (and_then o f) (and_then other f) ⊎ Starred t r (and_then o f)
  twins_then next t r m o other (both_read a back h g) = rw (h, g) ((next a).alike back t r m)
  twins_then next t r m o other (both_refuse e back h g) = inl (both_refuse e back (ap (λ x. and_then x f) h) (ap (λ x. and_then x f) g))
  twins_then next t r m o other (took le) = inl (took (then_shorter f o r le (λ x h. (next x.0).shorter x.1)))

  -- behind what ended before a star
  starred_then : ((a : A) → Passes (f a)) → (t : Lexeme) (r m : List Lexeme) (o other : Outcome A) → Starred t r o → Twins t r m (and_then o f) (and_then other f) ⊎ Starred t r (and_then o f)
  starred_then passes t r m o other s = by_way (passes s.value t r s.is_star)
    where
      same : and_then o f ≡ f s.value (t ∷ r)
      same = ap (λ x. and_then x f) s.read

      by_way : (length (left_of (f s.value (t ∷ r))) ≤ length r) ⊎ Starred t r (f s.value (t ∷ r)) → Twins t r m (and_then o f) (and_then other f) ⊎ Starred t r (and_then o f)
      by_way (inl le) = let e = ap (λ x. length (left_of x)) same in inl (took (omega (arith, e, le)))
      by_way (inr w) = inr (record { is_star = w.is_star; value = w.value; read = same ∙ w.read })

  pub nearly_then : {p : Parser A} → Nearly p → ((a : A) → Nearly (f a)) → ((a : A) → Passes (f a)) → Nearly (λ ts. and_then (p ts) f)
  nearly_then {p} first next passes = record { shorter = short_then p first.shorter (λ a us. (next a).shorter us); alike = λ front t r m. by_way front t r m (first.alike front t r m) }
    where
      by_way : (front : List Lexeme) (t : Lexeme) (r m : List Lexeme) → Twins t r m (p (front ++ t ∷ r)) (p (front ++ t ∷ m)) ⊎ Starred t r (p (front ++ t ∷ r)) →
          Twins t r m (and_then (p (front ++ t ∷ r)) f) (and_then (p (front ++ t ∷ m)) f) ⊎ Starred t r (and_then (p (front ++ t ∷ r)) f)
      by_way front t r m (inl w) = twins_then next t r m (p (front ++ t ∷ r)) (p (front ++ t ∷ m)) w
      by_way front t r m (inr s) = starred_then passes t r m (p (front ++ t ∷ r)) (p (front ++ t ∷ m)) s

  -- behind what is steady
  pub steady_nearly : {p : Parser A} → Steady p → ((a : A) → Nearly (f a)) → Nearly (λ ts. and_then (p ts) f)
  steady_nearly {p} first next = record {
    shorter = short_then p first.shorter (λ a us. (next a).shorter us);
    alike = λ front t r m. twins_then next t r m (p (front ++ t ∷ r)) (p (front ++ t ∷ m)) (first.twins front t r m);
  }

  -- what takes a star makes it steady
  pub nearly_steady : {p : Parser A} → Nearly p → ((a : A) → Steady (f a)) → ((a : A) → Eager k.Star (f a)) → Steady (λ ts. and_then (p ts) f)
  nearly_steady {p} first next takes = record { shorter = short_then p first.shorter (λ a us. (next a).shorter us); twins = λ front t r m. by_way front t r m (first.alike front t r m) }
    where
      by_twins : (t : Lexeme) (r m : List Lexeme) (o other : Outcome A) → Twins t r m o other → Twins t r m (and_then o f) (and_then other f)
      by_twins t r m o other (both_read a back h g) = rw (h, g) ((next a).twins back t r m)
      by_twins t r m o other (both_refuse e back h g) = both_refuse e back (ap (λ x. and_then x f) h) (ap (λ x. and_then x f) g)
      by_twins t r m o other (took le) = took (then_shorter f o r le (λ x h. (next x.0).shorter x.1))

      by_way : (front : List Lexeme) (t : Lexeme) (r m : List Lexeme) → Twins t r m (p (front ++ t ∷ r)) (p (front ++ t ∷ m)) ⊎ Starred t r (p (front ++ t ∷ r)) → Twins t r m (and_then (p (front ++ t ∷ r)) f) (and_then (p (front ++ t ∷ m)) f)
      by_way front t r m (inl w) = by_twins t r m (p (front ++ t ∷ r)) (p (front ++ t ∷ m)) w
      by_way front t r m (inr s) =
          let e = ap (λ x. length (left_of (and_then x f))) s.read in
          took (omega (arith, e, takes s.value t r s.is_star))

pub nearly_map : {A B : Type 0} {p : Parser A} (g : A → B) → Nearly p → Nearly (λ ts. and_then (p ts) (λ a us. Ok (g a, us)))
nearly_map g first = nearly_then (λ a us. Ok (g a, us)) first (λ a. nearly steady_pure) (λ a t r star. inr (record { is_star = star; value = g a; read = refl }))

pub nearly_choose : {A : Type 0} {by : Option TokenKind → Parser A} → ((next : Option TokenKind) → Nearly (by next)) → Nearly (λ ts. by (next_kind ts) ts)
unfolding next_kind
nearly_choose {A} {by} each = record { shorter = λ ts. (each (next_kind ts)).shorter ts; alike = here }
  where
    here : (front : List Lexeme) (t : Lexeme) (r m : List Lexeme) → Twins t r m (by (next_kind (front ++ t ∷ r)) (front ++ t ∷ r)) (by (next_kind (front ++ t ∷ m)) (front ++ t ∷ m)) ⊎ Starred t r (by (next_kind (front ++ t ∷ r)) (front ++ t ∷ r))
    here [] t r m = (each (Some t.kind)).alike [] t r m
    here (l ∷ front) t r m = (each (Some l.kind)).alike (l ∷ front) t r m

nearly_cond : {A : Type 0} {p q : Parser A} → Nearly p → Nearly q → (b : Bool) → Nearly (λ ts. cond {A = Outcome A} b (p ts) (q ts))
nearly_cond one other true = one
nearly_cond one other false = other

pub nearly_test : {A : Type 0} {p q : Parser A} (begins : Option TokenKind → Bool) → Nearly p → Nearly q → Nearly (test begins p q)
nearly_test {A} {p} {q} begins one other = nearly_choose {by = λ next ts. cond {A = Outcome A} (begins next) (p ts) (q ts)} (λ next. nearly_cond one other (begins next))

-- ---- a power behind its base

module _ {raise : Parser Expr} (base : Expr) (steady : Steady raise) (eager : Eager k.Star raise) where
  -- by whether two stars that touch come next
  abbrev pub raised_or : Parser Expr
  raised_or = λ ts. cond {A = Outcome Expr} (sees_power ts) (raise ts) (Ok (base, ts))

  by_stars : (b : Bool) → Steady (λ ts. cond {A = Outcome Expr} b (raise ts) (Ok (base, ts)))
  by_stars b = steady_cond steady steady_pure b

  -- where the same two tokens come next
  seen_alike : (front : List Lexeme) (t : Lexeme) (r m : List Lexeme) → sees_power (front ++ t ∷ r) ≡ sees_power (front ++ t ∷ m) → Twins t r m (raised_or (front ++ t ∷ r)) (raised_or (front ++ t ∷ m))
  seen_alike front t r m same =
      subst (λ b. Twins t r m (raised_or (front ++ t ∷ r)) (cond {A = Outcome Expr} b (raise (front ++ t ∷ m)) (Ok (base, front ++ t ∷ m)))) same
      ((by_stars (sees_power (front ++ t ∷ r))).twins front t r m)

  at_star : (b : Bool) (t : Lexeme) (r : List Lexeme) → t.kind ≡ k.Star →
      (length (left_of (cond {A = Outcome Expr} b (raise (t ∷ r)) (Ok (base, t ∷ r)))) ≤ length r) ⊎ Starred t r (cond {A = Outcome Expr} b (raise (t ∷ r)) (Ok (base, t ∷ r)))
  at_star true t r star = inl (eager t r star)
  at_star false t r star = inr (record { is_star = star; value = base; read = refl })

  pub power_passes : Passes raised_or
  power_passes t r star = at_star (sees_power (t ∷ r)) t r star

  at_first : (b : Bool) (t : Lexeme) (r m : List Lexeme) → same_kind t.kind k.Star ≡ b → Twins t r m (raised_or (t ∷ r)) (raised_or (t ∷ m)) ⊎ Starred t r (raised_or (t ∷ r))
  unfolding next_kind
  at_first true t r m e = by_way (power_passes t r (kind_same t.kind k.Star e))
    where
      by_way : (length (left_of (raised_or (t ∷ r))) ≤ length r) ⊎ Starred t r (raised_or (t ∷ r)) → Twins t r m (raised_or (t ∷ r)) (raised_or (t ∷ m)) ⊎ Starred t r (raised_or (t ∷ r))
      by_way (inl le) = inl (took le)
      by_way (inr s) = inr s
  at_first false t r m e = inl (seen_alike [] t r m (no_star r ∙ sym (no_star m)))
    where
      no_star : (us : List Lexeme) → sees_power (t ∷ us) ≡ false
      no_star us = first_alone (t ∷ us) e

  pub nearly_power : Nearly raised_or
  unfolding sees_power
  nearly_power = record { shorter = λ ts. (by_stars (sees_power ts)).shorter ts; alike = here }
    where
      here : (front : List Lexeme) (t : Lexeme) (r m : List Lexeme) → Twins t r m (raised_or (front ++ t ∷ r)) (raised_or (front ++ t ∷ m)) ⊎ Starred t r (raised_or (front ++ t ∷ r))
      here [] t r m = at_first (same_kind t.kind k.Star) t r m refl
      here (l ∷ []) t r m = inl (seen_alike (l ∷ []) t r m refl)
      here (l ∷ n ∷ front) t r m = inl (seen_alike (l ∷ n ∷ front) t r m refl)

-- ---- the chain of the factors

star_goes_on : (last : Operator) → next_operator Multiplying last (Some k.Star) ≡ Some Multiply
unfolding next_operator
star_goes_on last = refl

module _ {operand : Parser Expr} (each : Nearly operand) where
  pair_nearly : (op : Operator) → Nearly (pair operand op)
  unfolding pair expect
  pair_nearly op = steady_nearly _ (steady_take (λ l. l.at) (kind_of op)) (λ at. nearly_map (λ right. record { operator = op; at = at; operand = right }) each)

  -- the operator of a term takes a star
  pair_takes : Eager k.Star (pair operand Multiply)
  unfolding pair expect
  pair_takes t r star =
      let e = takes k.Star (λ (l : Lexeme). l.at) (t ∷ r) t r refl star in
      rw e ((nearly_map {B = Pair} (λ right. record { operator = Multiply; at = t.at; operand = right }) each).shorter r)

  turn_nearly : (n : ℕ) (left : Expr) → ((op : Operator) (x : Expr) → Nearly (more_from operand n Multiplying op x)) → ((op : Operator) (x : Expr) → Passes (more_from operand n Multiplying op x)) →
      (o : Option Operator) → Nearly (turn operand o (more_from operand n Multiplying) left)
  turn_nearly n left later passes None = nearly steady_pure
  turn_nearly n left later passes (Some op) = nearly_then (λ p. more_from operand n Multiplying op (joined left p)) (pair_nearly op) (λ p. later op (joined left p)) (λ p. passes op (joined left p))

  -- with a turn left it takes a star
  star_taken : (n : ℕ) (last : Operator) (left : Expr) → ((op : Operator) (x : Expr) → Nearly (more_from operand n Multiplying op x)) → Eager k.Star (more_from operand (suc n) Multiplying last left)
  unfolding more_from next_kind
  star_taken n last left later t r star =
      let e = ap (λ kind. next_operator Multiplying last (Some kind)) star ∙ star_goes_on last in
      rw e (then_shorter (λ p. more_from operand n Multiplying Multiply (joined left p)) (pair operand Multiply (t ∷ r)) r (pair_takes t r star) (λ x h. (later Multiply (joined left x.0)).shorter x.1))

  -- by turns, and each number of turns passes a star
  mutual
    unfolding more_from

    more_nearly : (n : ℕ) (last : Operator) (left : Expr) → Nearly (more_from operand n Multiplying last left)
    more_nearly zero last left = nearly steady_pure
    more_nearly (suc n) last left = nearly_choose (λ next. turn_nearly n left (λ op x. more_nearly n op x) (λ op x. passes n op x) (next_operator Multiplying last next))

    passes : (n : ℕ) (last : Operator) (left : Expr) → Passes (more_from operand n Multiplying last left)
    passes zero last left t r star = inr (record { is_star = star; value = left; read = refl })
    passes (suc n) last left t r star = inl (star_taken n last left (λ op x. more_nearly n op x) t r star)

  nothing_left : (left a : Expr) (t : Lexeme) (r : List Lexeme) → ◌≡◌ {A = Outcome Expr} (Ok (left, [])) (Ok (a, t ∷ r)) → ⊥
  nothing_left left a t r h = let e = (pure_ok left a [] (t ∷ r) h).1 in absurd (cc)

  -- with enough turns no star is left
  no_star_left : (n : ℕ) (last : Operator) (left : Expr) (ts : List Lexeme) → length ts ≤ n → (a : Expr) (t : Lexeme) (r : List Lexeme) → t.kind ≡ k.Star → more_from operand n Multiplying last left ts ≡ Ok (a, t ∷ r) → ⊥
  unfolding more_from next_kind next_operator
  no_star_left zero last left [] le a t r star h = nothing_left left a t r h
  no_star_left zero last left (l ∷ ts) le a t r star h = omega (arith, le)
  no_star_left (suc n) last left [] le a t r star h = nothing_left left a t r h
  no_star_left (suc n) last left (l ∷ ts) le a t r star h = by_operator (no_star_left n) (next_operator Multiplying last (Some l.kind)) refl h
    where
      Later : Type 0
      Later = (last : Operator) (left : Expr) (ts : List Lexeme) → length ts ≤ n → (a : Expr) (t : Lexeme) (r : List Lexeme) → t.kind ≡ k.Star → more_from operand n Multiplying last left ts ≡ Ok (a, t ∷ r) → ⊥

      by_operator : Later → (o : Option Operator) → next_operator Multiplying last (Some l.kind) ≡ o → turn operand o (more_from operand n Multiplying) left (l ∷ ts) ≡ Ok (a, t ∷ r) → ⊥
      by_operator later None e g =
          let pair : ◌≡◌ {A = Expr × List Lexeme} (left, l ∷ ts) (a, t ∷ r) = cc in
          let same : l ∷ ts ≡ t ∷ r = ap (λ (x : Expr × List Lexeme). x.1) pair in
          let first : l ≡ t = cc in
          let never : ◌≡◌ {A = Option Operator} (Some Multiply) None = sym (ap (λ (x : Lexeme). next_operator Multiplying last (Some x.kind)) first ∙ ap (λ kind. next_operator Multiplying last (Some kind)) star ∙ star_goes_on last) ∙ e in
          absurd (cc)
      by_operator later (Some op) e g =
          let b = bind_ok (pair operand op (l ∷ ts)) (λ p. more_from operand n Multiplying op (joined left p)) (a, t ∷ r) g in
          let less = pair_advances operand each.shorter op (l ∷ ts) b.0.0 b.0.1 b.1 in
          later op (joined left b.0.0) b.0.1 (omega (arith, le, less)) a t r star b.2

  steady_rest : (last : Operator) (left : Expr) → Steady (more operand Multiplying last left)
  unfolding more
  steady_rest last left = record { shorter = λ ts. (more_nearly (length ts) last left).shorter ts; twins = here }
    where
      here : (front : List Lexeme) (t : Lexeme) (r m : List Lexeme) →
          Twins t r m (more_from operand (length (front ++ t ∷ r)) Multiplying last left (front ++ t ∷ r)) (more_from operand (length (front ++ t ∷ m)) Multiplying last left (front ++ t ∷ m))
      here front t r m =
          let n = length (front ++ t ∷ r) + length (front ++ t ∷ m) in
          subst (λ o. Twins t r m o (more_from operand (length (front ++ t ∷ m)) Multiplying last left (front ++ t ∷ m)))
          (more_enough operand each.shorter n (length (front ++ t ∷ r)) Multiplying last left (front ++ t ∷ r) (omega arith) (omega arith))
          (subst (λ o. Twins t r m (more_from operand n Multiplying last left (front ++ t ∷ r)) o)
          (more_enough operand each.shorter n (length (front ++ t ∷ m)) Multiplying last left (front ++ t ∷ m) (omega arith) (omega arith))
          (by_way n (omega arith) ((more_nearly n last left).alike front t r m)))
        where
          by_way : (n : ℕ) → length (front ++ t ∷ r) ≤ n → Twins t r m (more_from operand n Multiplying last left (front ++ t ∷ r)) (more_from operand n Multiplying last left (front ++ t ∷ m)) ⊎ Starred t r (more_from operand n Multiplying last left (front ++ t ∷ r)) →
              Twins t r m (more_from operand n Multiplying last left (front ++ t ∷ r)) (more_from operand n Multiplying last left (front ++ t ∷ m))
          by_way n le (inl w) = w
          by_way n le (inr s) = absurd (no_star_left n last left (front ++ t ∷ r) le s.value t r s.is_star s.read)

  rest_takes : (last : Operator) (left : Expr) → Eager k.Star (more operand Multiplying last left)
  unfolding more
  rest_takes last left t r star = star_taken (length r) last left (λ op x. more_nearly (length r) op x) t r star

  -- ---- the first operand, and what follows it

  begin_by_steady : (first : Expr) (o : Option Operator) → Steady (begin_by operand Multiplying first o)
  begin_by_steady first None = steady_pure
  begin_by_steady first (Some op) = nearly_steady (λ p. more operand Multiplying op (begun first p)) (pair_nearly op) (λ p. steady_rest op (begun first p)) (λ p. rest_takes op (begun first p))

  begin_steady : (first : Expr) → Steady (begin operand Multiplying first)
  unfolding begin
  begin_steady first = steady_choose (λ next. begin_by_steady first (operator_at Multiplying next))

  begin_takes : (first : Expr) → Eager k.Star (begin operand Multiplying first)
  unfolding begin next_kind
  begin_takes first t r star =
      let e = ap (λ kind. operator_at Multiplying (Some kind)) star ∙ reads_operator Multiplying Multiply refl in
      rw e (then_shorter (λ p. more operand Multiplying Multiply (begun first p)) (pair operand Multiply (t ∷ r)) r (pair_takes t r star) (λ x h. (steady_rest Multiply (begun first x.0)).shorter x.1))

  -- terms are steady
  pub steady_term : (first : Parser Expr) → Nearly first → Steady (chain first operand Multiplying)
  steady_term first leads = nearly_steady (begin operand Multiplying) leads begin_steady begin_takes
