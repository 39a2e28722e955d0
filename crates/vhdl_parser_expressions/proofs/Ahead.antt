-- Choices by two tokens ahead: the first of them is taken on both ways.
use Rattle.std.proofs.Common.{◌≡◌, ℕ, ◌≤◌, Bool, true, false, cond, List, [], ◌∷◌, ◌++◌, length, length-append, refl, sym, ap, ◌∙◌, subst, arith}
use Rattle.vhdl_lexer.specs.declared.token.TokenKind.{TokenKind}
use Rattle.vhdl_tree.specs.Lexeme.{Lexeme, same_kind}
use Rattle.vhdl_parser_expressions.specs.reader.Input.{Outcome, Parser, next_kind, second_kind, test_both, sees_both}
use Rattle.vhdl_parser_expressions.proofs.Steps.{kind_same}
use Rattle.vhdl_parser_expressions.proofs.Steady.{left_of, Twins, both_read, both_refuse, took, Steady, steady_cond}

-- a first token of this kind is taken
abbrev pub Eager : {A : Type 0} → TokenKind → Parser A → Type 0
Eager kind p = (t : Lexeme) (r : List Lexeme) → t.kind ≡ kind → length (left_of (p (t ∷ r))) ≤ length r

module _ (t : Lexeme) (r : List Lexeme) where
  not_none : {X : Type 0} (front : List Lexeme) → front ++ t ∷ [] ≡ [] → X
  not_none {X} front h =
      let e : length (front ++ t ∷ []) ≡ 0 = ap (λ us. length us) h in
      absurd (omega (arith, e, length-append front (t ∷ [])))

  taken_by : {A : Type 0} (o other : Outcome A) → Twins t r [] o other → left_of other ≡ [] → length (left_of o) ≤ length r
  taken_by o other (both_read a front h g) e = not_none front (sym (ap (λ x. left_of x) g) ∙ e)
  taken_by o other (both_refuse x front h g) e = not_none front (sym (ap (λ y. left_of y) g) ∙ e)
  taken_by o other (took le) e = le

-- what takes such a token where it stands alone takes it whatever follows
pub eager : {A : Type 0} {p : Parser A} (kind : TokenKind) → Steady p → ((at : ℕ) (text : List ℕ) → left_of (p (record { kind = kind; at = at; text = text } ∷ [])) ≡ []) → Eager kind p
eager {A} {p} kind steady alone t r is =
    taken_by t r (p (t ∷ r)) (p (t ∷ [])) (steady.twins [] t r [])
    (subst (λ x. left_of (p (record { kind = x; at = t.at; text = t.text } ∷ [])) ≡ []) (sym is) (alone t.at t.text))

-- by a test of the first two tokens, of which the second one matters where the first one is of a kind that both ways take
pub steady_by : {A : Type 0} {p q : Parser A} (c : List Lexeme → Bool) (first : TokenKind) → ((l k : Lexeme) (us vs : List Lexeme) → c (l ∷ k ∷ us) ≡ c (l ∷ k ∷ vs)) →
    ((t : Lexeme) (r m : List Lexeme) → same_kind t.kind first ≡ false → c (t ∷ r) ≡ c (t ∷ m)) →
    Steady p → Steady q → Eager first p → Eager first q → Steady (λ ts. cond {A = Outcome A} (c ts) (p ts) (q ts))
steady_by {A} {p} {q} c first two one way other eager_way eager_other = record { shorter = λ ts. (by (c ts)).shorter ts; twins = alike }
  where
    by : (b : Bool) → Steady (λ ts. cond {A = Outcome A} b (p ts) (q ts))
    by = steady_cond way other

    eager_by : (b : Bool) (t : Lexeme) (r : List Lexeme) → t.kind ≡ first → length (left_of (cond {A = Outcome A} b (p (t ∷ r)) (q (t ∷ r)))) ≤ length r
    eager_by true t r is = eager_way t r is
    eager_by false t r is = eager_other t r is

    with_same : (front : List Lexeme) (t : Lexeme) (r m : List Lexeme) → c (front ++ t ∷ r) ≡ c (front ++ t ∷ m) →
        Twins t r m (cond {A = Outcome A} (c (front ++ t ∷ r)) (p (front ++ t ∷ r)) (q (front ++ t ∷ r))) (cond {A = Outcome A} (c (front ++ t ∷ m)) (p (front ++ t ∷ m)) (q (front ++ t ∷ m)))
    with_same front t r m same =
        subst (λ b. Twins t r m (cond {A = Outcome A} (c (front ++ t ∷ r)) (p (front ++ t ∷ r)) (q (front ++ t ∷ r))) (cond {A = Outcome A} b (p (front ++ t ∷ m)) (q (front ++ t ∷ m)))) same
        ((by (c (front ++ t ∷ r))).twins front t r m)

    at_first : (b : Bool) (t : Lexeme) (r m : List Lexeme) → same_kind t.kind first ≡ b →
        Twins t r m (cond {A = Outcome A} (c (t ∷ r)) (p (t ∷ r)) (q (t ∷ r))) (cond {A = Outcome A} (c (t ∷ m)) (p (t ∷ m)) (q (t ∷ m)))
    at_first true t r m e = took (eager_by (c (t ∷ r)) t r (kind_same t.kind first e))
    at_first false t r m e = with_same [] t r m (one t r m e)

    alike : (front : List Lexeme) (t : Lexeme) (r m : List Lexeme) →
        Twins t r m (cond {A = Outcome A} (c (front ++ t ∷ r)) (p (front ++ t ∷ r)) (q (front ++ t ∷ r))) (cond {A = Outcome A} (c (front ++ t ∷ m)) (p (front ++ t ∷ m)) (q (front ++ t ∷ m)))
    alike [] t r m = at_first (same_kind t.kind first) t r m refl
    alike (l ∷ []) t r m = with_same (l ∷ []) t r m (two l t r m)
    alike (l ∷ k ∷ front) t r m = with_same (l ∷ k ∷ front) t r m (two l k (front ++ t ∷ r) (front ++ t ∷ m))

module _ (first second : TokenKind) where
  sees_two : (l k : Lexeme) (us vs : List Lexeme) → sees_both first second (l ∷ k ∷ us) ≡ sees_both first second (l ∷ k ∷ vs)
  unfolding next_kind second_kind
  sees_two l k us vs = refl

  sees_one : (t : Lexeme) (r m : List Lexeme) → same_kind t.kind first ≡ false → sees_both first second (t ∷ r) ≡ sees_both first second (t ∷ m)
  unfolding next_kind second_kind
  sees_one t r m e = rw e refl

  pub steady_both : {A : Type 0} {p q : Parser A} → Steady p → Steady q → Eager first p → Eager first q → Steady (test_both first second p q)
  steady_both way other eager_way eager_other = steady_by (sees_both first second) first sees_two sees_one way other eager_way eager_other
