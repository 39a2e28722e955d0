-- What a reader says of the tokens up to where it stops doesn't hang on those behind.
use Rattle.std.proofs.Common.{◌≡◌, ℕ, zero, suc, ◌+◌, ◌≤◌, ◌<◌, Bool, true, false, cond, List, [], ◌∷◌, ◌++◌, length, length-append, Ok, Err, Option, Some, None, refl, sym, ap, ◌∙◌, subst, arith}
use Rattle.vhdl_lexer.specs.declared.token.TokenKind.{TokenKind}
use Rattle.vhdl_parser_expressions.specs.declared.stop.Stop.{Stop}
use Rattle.vhdl_parser_expressions.specs.declared.stop.Stop.TheVariants.{Unexpected, TooDeep}
use Rattle.vhdl_tree.specs.Lexeme.{Lexeme, same_kind}
use Rattle.vhdl_parser_expressions.specs.reader.Input.{Outcome, Parser, and_then, token, next_kind, refusal, test, many_from, many}
use Rattle.vhdl_parser_expressions.proofs.Steps.{bind_ok, token_ok}

-- the tokens at which an outcome stands
abbrev pub left_of : {A : Type 0} → Outcome A → List Lexeme
left_of (Ok x) = x.1
left_of (Err e) = e.1

-- What a reader says where t and r are ahead, behind other tokens, and what it says where t and m are: the same of
-- the tokens before t, unless it took t.
pub data Twins {A : Type 0} (t : Lexeme) (r m : List Lexeme) (o other : Outcome A) : Type 0 where
  both_read : (a : A) (front : List Lexeme) → o ≡ Ok (a, front ++ t ∷ r) → other ≡ Ok (a, front ++ t ∷ m) → Twins t r m o other
  both_refuse : (e : Stop) (front : List Lexeme) → o ≡ Err (e, front ++ t ∷ r) → other ≡ Err (e, front ++ t ∷ m) → Twins t r m o other
  took : length (left_of o) ≤ length r → Twins t r m o other

pub record Steady {A : Type 0} (p : Parser A) : Type 0 where
  pub shorter : (ts : List Lexeme) → length (left_of (p ts)) ≤ length ts
  pub twins : (front : List Lexeme) (t : Lexeme) (r m : List Lexeme) → Twins t r m (p (front ++ t ∷ r)) (p (front ++ t ∷ m))

-- ---- what is refused at a token is refused there whatever follows the token

module _ (t : Lexeme) (r m : List Lexeme) where
  -- a front of no tokens
  front_none : (front : List Lexeme) → front ++ t ∷ r ≡ t ∷ r → front ≡ []
  front_none [] h = refl
  front_none (l ∷ front) h =
      let e : length (l ∷ (front ++ t ∷ r)) ≡ length (t ∷ r) = ap (λ us. length us) h in
      absurd (omega (arith, e, length-append front (t ∷ r)))

  pub refused_alike : {A : Type 0} (o other : Outcome A) (why : Stop) → Twins t r m o other → o ≡ Err (why, t ∷ r) → other ≡ Err (why, t ∷ m)
  refused_alike {A} o other why (both_read a front h g) e =
      let never : ◌≡◌ {A = Outcome A} (Ok (a, front ++ t ∷ r)) (Err (why, t ∷ r)) = sym h ∙ e in absurd (cc)
  refused_alike {A} o other why (both_refuse x front h g) e =
      let same : ◌≡◌ {A = Outcome A} (Err (x, front ++ t ∷ r)) (Err (why, t ∷ r)) = sym h ∙ e in
      let pair : ◌≡◌ {A = Stop × List Lexeme} (x, front ++ t ∷ r) (why, t ∷ r) = cc in
      let s : x ≡ why = ap (λ (y : Stop × List Lexeme). y.0) pair in
      let n = front_none front (ap (λ (y : Stop × List Lexeme). y.1) pair) in
      rw (s, n) at g
  refused_alike o other why (took le) e =
      let s : length (left_of o) ≡ length (t ∷ r) = ap (λ x. length (left_of x)) e in
      absurd (omega (arith, s, le))

-- ---- steps

pub steady_pure : {A : Type 0} {a : A} → Steady (λ ts. Ok (a, ts))
steady_pure {A} {a} = record { shorter = λ ts. omega arith; twins = λ front t r m. both_read a front refl refl }

pub steady_deep : {A : Type 0} → Steady {A = A} (λ ts. Err (TooDeep, ts))
steady_deep = record { shorter = λ ts. omega arith; twins = λ front t r m. both_refuse TooDeep front refl refl }

pub steady_refuse : {A : Type 0} → Steady {A = A} (λ ts. Err (refusal ts, ts))
unfolding refusal
steady_refuse {A} = record { shorter = λ ts. omega arith; twins = alike }
  where
    alike : (front : List Lexeme) (t : Lexeme) (r m : List Lexeme) → Twins {A = A} t r m (Err (refusal (front ++ t ∷ r), front ++ t ∷ r)) (Err (refusal (front ++ t ∷ m), front ++ t ∷ m))
    alike [] t r m = both_refuse Unexpected [] refl refl
    alike (l ∷ front) t r m = both_refuse Unexpected (l ∷ front) refl refl

pub steady_token : (kind : TokenKind) → Steady (token kind)
unfolding token
steady_token kind = record { shorter = short; twins = alike }
  where
    short_by : (b : Bool) (l : Lexeme) (ts : List Lexeme) → length (left_of (cond {A = Outcome Lexeme} b (Ok (l, ts)) (Err (Unexpected, l ∷ ts)))) ≤ length (l ∷ ts)
    short_by true l ts = omega arith
    short_by false l ts = omega arith

    short : (ts : List Lexeme) → length (left_of (token kind ts)) ≤ length ts
    short [] = omega arith
    short (l ∷ ts) = short_by (same_kind l.kind kind) l ts

    first_by : (b : Bool) (t : Lexeme) (r m : List Lexeme) → Twins {A = Lexeme} t r m (cond b (Ok (t, r)) (Err (Unexpected, t ∷ r))) (cond b (Ok (t, m)) (Err (Unexpected, t ∷ m)))
    first_by true t r m = took (omega arith)
    first_by false t r m = both_refuse Unexpected [] refl refl

    later_by : (b : Bool) (l : Lexeme) (front : List Lexeme) (t : Lexeme) (r m : List Lexeme) →
        Twins {A = Lexeme} t r m (cond b (Ok (l, front ++ t ∷ r)) (Err (Unexpected, l ∷ (front ++ t ∷ r)))) (cond b (Ok (l, front ++ t ∷ m)) (Err (Unexpected, l ∷ (front ++ t ∷ m))))
    later_by true l front t r m = both_read l front refl refl
    later_by false l front t r m = both_refuse Unexpected (l ∷ front) refl refl

    alike : (front : List Lexeme) (t : Lexeme) (r m : List Lexeme) → Twins t r m (token kind (front ++ t ∷ r)) (token kind (front ++ t ∷ m))
    alike [] t r m = first_by (same_kind t.kind kind) t r m
    alike (l ∷ front) t r m = later_by (same_kind l.kind kind) l front t r m

-- ---- a reader, and what follows it

module _ {A B : Type 0} (f : A → Parser B) where
  pub then_shorter : (o : Outcome A) (ts : List Lexeme) → length (left_of o) ≤ length ts → ((x : A × List Lexeme) → o ≡ Ok x → length (left_of (f x.0 x.1)) ≤ length x.1) → length (left_of (and_then o f)) ≤ length ts
  then_shorter (Ok x) ts le next = omega (arith, le, next x refl)
  then_shorter (Err e) ts le next = le

  then_twins : (t : Lexeme) (r m : List Lexeme) (o other : Outcome A) → Twins t r m o other → ((x : A × List Lexeme) → o ≡ Ok x → length (left_of (f x.0 x.1)) ≤ length x.1) →
      ((a : A) (front : List Lexeme) → o ≡ Ok (a, front ++ t ∷ r) → Twins t r m (f a (front ++ t ∷ r)) (f a (front ++ t ∷ m))) → Twins t r m (and_then o f) (and_then other f)
  then_twins t r m o other (both_read a front h g) short next = rw (h, g) (next a front h)
  then_twins t r m o other (both_refuse e front h g) short next = both_refuse e front (ap (λ x. and_then x f) h) (ap (λ x. and_then x f) g)
  then_twins t r m o other (took le) short next = took (then_shorter o r le short)

pub steady_then : {A B : Type 0} {p : Parser A} {f : A → Parser B} → Steady p → ((ts : List Lexeme) (a : A) (rest : List Lexeme) → p ts ≡ Ok (a, rest) → Steady (f a)) → Steady (λ ts. and_then (p ts) f)
steady_then {A} {B} {p} {f} first next = record {
  shorter = λ ts. then_shorter f (p ts) ts (first.shorter ts) (short ts);
  twins = λ front t r m. then_twins f t r m (p (front ++ t ∷ r)) (p (front ++ t ∷ m)) (first.twins front t r m) (short (front ++ t ∷ r))
      (λ a back h. (next (front ++ t ∷ r) a (back ++ t ∷ r) h).twins back t r m);
}
  where
    short : (ts : List Lexeme) (x : A × List Lexeme) → p ts ≡ Ok x → length (left_of (f x.0 x.1)) ≤ length x.1
    short ts x h = (next ts x.0 x.1 h).shorter x.1

pub steady_map : {A B : Type 0} {p : Parser A} (g : A → B) → Steady p → Steady (λ ts. and_then (p ts) (λ a us. Ok (g a, us)))
steady_map g first = steady_then first (λ ts a rest h. steady_pure)

-- a step that takes a token
pub steady_take : {A : Type 0} (of : Lexeme → A) (kind : TokenKind) → Steady (λ ts. and_then (token kind ts) (λ l us. Ok (of l, us)))
steady_take of kind = steady_map of (steady_token kind)

-- a reader that says the same
pub steady_same : {A : Type 0} {p q : Parser A} → ((ts : List Lexeme) → p ts ≡ q ts) → Steady p → Steady q
steady_same {A} {p} {q} same s = record {
  shorter = λ ts. subst (λ o. length (left_of o) ≤ length ts) (same ts) (s.shorter ts);
  twins = λ front t r m.
      subst (λ o. Twins t r m o (q (front ++ t ∷ m))) (same (front ++ t ∷ r))
      (subst (λ o. Twins t r m (p (front ++ t ∷ r)) o) (same (front ++ t ∷ m)) (s.twins front t r m));
}

-- ---- choices

pub steady_choose : {A : Type 0} {by : Option TokenKind → Parser A} → ((next : Option TokenKind) → Steady (by next)) → Steady (λ ts. by (next_kind ts) ts)
unfolding next_kind
steady_choose {A} {by} each = record { shorter = λ ts. (each (next_kind ts)).shorter ts; twins = alike }
  where
    alike : (front : List Lexeme) (t : Lexeme) (r m : List Lexeme) → Twins t r m (by (next_kind (front ++ t ∷ r)) (front ++ t ∷ r)) (by (next_kind (front ++ t ∷ m)) (front ++ t ∷ m))
    alike [] t r m = (each (Some t.kind)).twins [] t r m
    alike (l ∷ front) t r m = (each (Some l.kind)).twins (l ∷ front) t r m

pub steady_cond : {A : Type 0} {p q : Parser A} → Steady p → Steady q → (b : Bool) → Steady (λ ts. cond {A = Outcome A} b (p ts) (q ts))
steady_cond one other true = one
steady_cond one other false = other

pub steady_test : {A : Type 0} {p q : Parser A} (begins : Option TokenKind → Bool) → Steady p → Steady q → Steady (test begins p q)
steady_test {A} {p} {q} begins one other = steady_choose {by = λ next ts. cond {A = Outcome A} (begins next) (p ts) (q ts)} (λ next. steady_cond one other (begins next))

-- ---- repetitions, of which each turn takes a token

-- where it reads, it takes a token
abbrev pub Advances : {A : Type 0} → Parser A → Type 0
Advances {A} p = (ts : List Lexeme) (a : A) (rest : List Lexeme) → p ts ≡ Ok (a, rest) → length rest < length ts

-- Readers by a bound on their turns, which says nothing where it is no less than the tokens.
pub steady_turns : {A : Type 0} (p : ℕ → Parser A) → ((n : ℕ) → Steady (p n)) → ((n m : ℕ) (ts : List Lexeme) → length ts ≤ n → length ts ≤ m → p n ts ≡ p m ts) → Steady (λ ts. p (length ts) ts)
steady_turns {A} p each enough = record { shorter = λ ts. (each (length ts)).shorter ts; twins = alike }
  where
    alike : (front : List Lexeme) (t : Lexeme) (r m : List Lexeme) → Twins t r m (p (length (front ++ t ∷ r)) (front ++ t ∷ r)) (p (length (front ++ t ∷ m)) (front ++ t ∷ m))
    alike front t r m =
        let n = length (front ++ t ∷ r) + length (front ++ t ∷ m) in
        subst (λ o. Twins t r m o (p (length (front ++ t ∷ m)) (front ++ t ∷ m))) (enough n (length (front ++ t ∷ r)) (front ++ t ∷ r) (omega arith) (omega arith))
        (subst (λ o. Twins t r m (p n (front ++ t ∷ r)) o) (enough n (length (front ++ t ∷ m)) (front ++ t ∷ m) (omega arith) (omega arith)) ((each n).twins front t r m))

-- where both go on alike from what is read, both are alike
pub then_alike : {A B : Type 0} (o : Outcome A) (f g : A → Parser B) → ((a : A) (rest : List Lexeme) → o ≡ Ok (a, rest) → f a rest ≡ g a rest) → and_then o f ≡ and_then o g
then_alike (Ok x) f g same = same x.0 x.1 refl
then_alike (Err e) f g same = refl

module _ {A : Type 0} (begins : Option TokenKind → Bool) {item : Parser A} (none : begins None ≡ false) (each : Steady item) (on : Advances item) where
  many_steady : (turns : ℕ) (found : List A) → Steady (many_from begins item turns found)
  unfolding many_from
  many_steady zero found = steady_pure
  many_steady (suc n) found = steady_test begins (steady_then each (λ ts x rest h. many_steady n (found ++ x ∷ []))) steady_pure

  no_turn : (n : ℕ) (found : List A) → many_from begins item n found [] ≡ Ok (found, [])
  unfolding many_from next_kind
  no_turn zero found = refl
  no_turn (suc n) found = rw none

  many_enough : (n m : ℕ) (found : List A) (ts : List Lexeme) → length ts ≤ n → length ts ≤ m → many_from begins item n found ts ≡ many_from begins item m found ts
  unfolding many_from
  many_enough n m found [] le also = no_turn n found ∙ sym (no_turn m found)
  many_enough zero m found (l ∷ ts) le also = absurd (omega (arith, le))
  many_enough (suc n) zero found (l ∷ ts) le also = absurd (omega (arith, also))
  many_enough (suc n) (suc m) found (l ∷ ts) le also =
      ap (λ o. cond {A = Outcome (List A)} (begins (next_kind (l ∷ ts))) o (Ok (found, l ∷ ts)))
      (then_alike (item (l ∷ ts)) (λ x us. many_from begins item n (found ++ x ∷ []) us) (λ x us. many_from begins item m (found ++ x ∷ []) us)
      (λ x rest h. let less = on (l ∷ ts) x rest h in many_enough n m (found ++ x ∷ []) rest (omega (arith, le, less)) (omega (arith, also, less))))

  pub steady_many : (found : List A) → Steady (many begins item found)
  steady_many found = steady_turns (λ n. many_from begins item n found) (λ n. many_steady n found) (λ n m ts le also. many_enough n m found ts le also)

pub advances_then : {A B : Type 0} {p : Parser A} (f : A → Parser B) → Advances p → ((a : A) (us : List Lexeme) → length (left_of (f a us)) ≤ length us) → Advances (λ ts. and_then (p ts) f)
advances_then {A} {B} {p} f on short ts b rest h =
    let a = bind_ok (p ts) f (b, rest) h in
    let e : length (left_of (f a.0.0 a.0.1)) ≡ length rest = ap (λ o. length (left_of o)) a.2 in
    omega (arith, on ts a.0.0 a.0.1 a.1, short a.0.0 a.0.1, e)

pub advances_token : (kind : TokenKind) → Advances (token kind)
advances_token kind ts l rest h = let e = ap (λ us. length us) (token_ok kind ts l rest h).first in omega (arith, e)
