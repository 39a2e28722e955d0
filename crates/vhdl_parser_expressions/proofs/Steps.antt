-- What the steps of a reader say of the tokens.
use Rattle.std.proofs.Common.{◌≡◌, ℕ, Bool, true, false, cond, List, [], ◌∷◌, ◌++◌, length, Result, Ok, Err, ◌⊎◌, inl, inr, refl, sym, ap, ◌∙◌, subst, rules, arith, ◌+◌}
use denote.Enum.Bare.{same_true, true_same}
use Rattle.vhdl_lexer.specs.declared.token.TokenKind.{TokenKind}
use Rattle.vhdl_lexer.specs.contracts.token.TokenKind.{the_type}
use Rattle.vhdl_parser_expressions.specs.declared.stop.Stop.{Stop}
use Rattle.vhdl_parser_expressions.specs.declared.stop.Stop.TheVariants.{Unexpected, EndOfFile, TooDeep}
use Rattle.vhdl_tree.specs.Lexeme.{Lexeme, same_kind}
use Rattle.vhdl_tree.specs.Pieces.{Piece, Is, Spells}
use Rattle.vhdl_parser_expressions.specs.reader.Input.{Outcome, Parser, and_then, token}

pub bind_ok : {A B : Type 0} (r : Outcome A) (f : A → Parser B) (y : B × List Lexeme) → and_then r f ≡ Ok y → (p : A × List Lexeme) × (r ≡ Ok p) × (f p.0 p.1 ≡ Ok y)
bind_ok (Ok p) f y h = (p, refl, h)
bind_ok (Err e) f y h = absurd (cc)

pub bind_err : {A B : Type 0} (r : Outcome A) (f : A → Parser B) (e : Stop × List Lexeme) → and_then r f ≡ Err e → (r ≡ Err e) ⊎ ((p : A × List Lexeme) × (r ≡ Ok p) × (f p.0 p.1 ≡ Err e))
bind_err (Ok p) f e h = inr (p, refl, h)
bind_err (Err d) f e h = inl (let same : d ≡ e = cc in ap (λ x. Err x) same)

-- what `pure` answers
pub pure_ok : {A : Type 0} (a b : A) (ts rest : List Lexeme) → ◌≡◌ {A = Outcome A} (Ok (a, ts)) (Ok (b, rest)) → (a ≡ b) × (ts ≡ rest)
pure_ok {A} a b ts rest h =
    let e : ◌≡◌ {A = A × List Lexeme} (a, ts) (b, rest) = cc in
    (ap (λ (p : A × List Lexeme). p.0) e, ap (λ (p : A × List Lexeme). p.1) e)

-- what holds of an answer of `pure` holds of what was answered
pub at_pure : {A : Type 0} (P : A → List Lexeme → Type 0) (a b : A) (ts rest : List Lexeme) → ◌≡◌ {A = Outcome A} (Ok (a, ts)) (Ok (b, rest)) → P a ts → P b rest
at_pure P a b ts rest h p = let e = pure_ok a b ts rest h in subst (P b) e.1 (subst (λ x. P x ts) e.0 p)

-- `pure` refuses nothing
pub pure_err : {A : Type 0} {X : Type 0} (x : A × List Lexeme) (e : Stop × List Lexeme) → ◌≡◌ {A = Outcome A} (Ok x) (Err e) → X
pure_err {A} {X} x e h = absurd (omega (arith, impossible))
  where
    impossible : ◌≡◌ {A = ℕ} 0 1
    impossible = cc

-- why a refusal is one, and where it stands
pub err_why : {A : Type 0} (d e : Stop) (ts at : List Lexeme) → ◌≡◌ {A = Outcome A} (Err (d, ts)) (Err (e, at)) → d ≡ e
err_why d e ts at h = let same : ◌≡◌ {A = Stop × List Lexeme} (d, ts) (e, at) = cc in ap (λ (p : Stop × List Lexeme). p.0) same

pub err_at : {A : Type 0} (d e : Stop) (ts at : List Lexeme) → ◌≡◌ {A = Outcome A} (Err (d, ts)) (Err (e, at)) → ts ≡ at
err_at d e ts at h = let same : ◌≡◌ {A = Stop × List Lexeme} (d, ts) (e, at) = cc in ap (λ (p : Stop × List Lexeme). p.1) same

pub kind_same : (a b : TokenKind) → same_kind a b ≡ true → a ≡ b
unfolding same_kind
kind_same a b = same_true the_type (search rules) a b

pub same_kind_of : (a b : TokenKind) → a ≡ b → same_kind a b ≡ true
unfolding same_kind
same_kind_of = true_same the_type

-- taking a token
pub record Took (kind : TokenKind) (ts : List Lexeme) (l : Lexeme) (rest : List Lexeme) : Type 0 where
  pub first : ts ≡ l ∷ rest
  pub kind_is : l.kind ≡ kind

cond_ok : {A E : Type 0} (b : Bool) (x y : A) (e : E) → ◌≡◌ {A = Result A E} (cond b (Ok x) (Err e)) (Ok y) → (b ≡ true) × (x ≡ y)
cond_ok true x y e h = (refl, cc)
cond_ok false x y e h = absurd (cc)

pub token_ok : (kind : TokenKind) (ts : List Lexeme) (l : Lexeme) (rest : List Lexeme) → token kind ts ≡ Ok (l, rest) → Took kind ts l rest
unfolding token
token_ok kind [] l rest h = absurd (cc)
token_ok kind (t ∷ ts) l rest h =
    let c = cond_ok (same_kind t.kind kind) (t, ts) (l, rest) (Unexpected, t ∷ ts) h in
    let e : t ≡ l = ap (λ (p : Lexeme × List Lexeme). p.0) c.1 in
    let f : ts ≡ rest = ap (λ (p : Lexeme × List Lexeme). p.1) c.1 in
    record { first = cc; kind_is = ap (λ (x : Lexeme). x.kind) (sym e) ∙ kind_same _ _ c.0 }

pub token_reads : (kind : TokenKind) (l : Lexeme) (rest : List Lexeme) → l.kind ≡ kind → token kind (l ∷ rest) ≡ Ok (l, rest)
unfolding token
token_reads kind l rest h = rw (same_kind_of l.kind kind h)

-- a token is never refused for its depth
pub token_shallow : {X : Type 0} (kind : TokenKind) (ts at : List Lexeme) → token kind ts ≡ Err (TooDeep, at) → X
unfolding token
token_shallow kind [] at h = let e = err_why EndOfFile TooDeep [] at h in absurd (cc)
token_shallow {X} kind (t ∷ ts) at h = by_test (same_kind t.kind kind) h
  where
    by_test : (b : Bool) → ◌≡◌ {A = Outcome Lexeme} (cond b (Ok (t, ts)) (Err (Unexpected, t ∷ ts))) (Err (TooDeep, at)) → X
    by_test true e = absurd (cc)
    by_test false e = let f = err_why Unexpected TooDeep (t ∷ ts) at e in absurd (cc)

-- one that is refused is not taken
pub token_here : (kind : TokenKind) (ts : List Lexeme) (why : Stop) (at : List Lexeme) → token kind ts ≡ Err (why, at) → ts ≡ at
unfolding token
token_here kind [] why at h = err_at EndOfFile why [] at h
token_here kind (t ∷ ts) why at h = by_test (same_kind t.kind kind) h
  where
    by_test : (b : Bool) → ◌≡◌ {A = Outcome Lexeme} (cond b (Ok (t, ts)) (Err (Unexpected, t ∷ ts))) (Err (why, at)) → t ∷ ts ≡ at
    by_test true e = absurd (cc)
    by_test false e = err_at Unexpected why (t ∷ ts) at e

-- ---- spelling, piece by piece

pub spells_append : (ps qs : List Piece) (ts mid rest : List Lexeme) → Spells ps ts mid → Spells qs mid rest → Spells (ps ++ qs) ts rest
spells_append [] qs ts mid rest h g = rw h g
spells_append (p ∷ ps) qs [] mid rest h g = h
spells_append (p ∷ ps) qs (t ∷ ts) mid rest h g = (h.0, spells_append ps qs ts mid rest h.1 g)

pub spells_split : (ps qs : List Piece) (ts rest : List Lexeme) → Spells (ps ++ qs) ts rest → (mid : List Lexeme) × Spells ps ts mid × Spells qs mid rest
spells_split [] qs ts rest h = (ts, refl, h)
spells_split (p ∷ ps) qs [] rest h = absurd h
spells_split (p ∷ ps) qs (t ∷ ts) rest h = let m = spells_split ps qs ts rest h.1 in (m.0, (h.0, m.1), m.2)

pub spells_length : (ps : List Piece) (ts rest : List Lexeme) → Spells ps ts rest → length ts ≡ length ps + length rest
spells_length [] ts rest h = let e : length ts ≡ length rest = ap (λ us. length us) h in omega arith
spells_length (p ∷ ps) [] rest h = absurd h
spells_length (p ∷ ps) (t ∷ ts) rest h = omega (arith, spells_length ps ts rest h.1)

pub spells_one : (p : Piece) (ts : List Lexeme) (l : Lexeme) (rest : List Lexeme) → ts ≡ l ∷ rest → Is p l → Spells (p ∷ []) ts rest
spells_one p ts l rest e i = rw e (i, refl)

pub spelled_one : (p : Piece) (ts rest : List Lexeme) → Spells (p ∷ []) ts rest → (l : Lexeme) × (ts ≡ l ∷ rest) × Is p l
spelled_one p [] rest h = absurd h
spelled_one p (t ∷ ts) rest h = (t, ap (λ us. t ∷ us) h.1, h.0)

-- ---- a step that takes a token: what it took

pub record Taken {A : Type 0} (kind : TokenKind) (of : Lexeme → A) (ts : List Lexeme) (a : A) (rest : List Lexeme) : Type 0 where
  pub token : Lexeme
  pub first : ts ≡ token ∷ rest
  pub kind_is : token.kind ≡ kind
  pub value : of token ≡ a

pub taken : {A : Type 0} (kind : TokenKind) (of : Lexeme → A) (ts : List Lexeme) (a : A) (rest : List Lexeme) →
    and_then (token kind ts) (λ l us. Ok (of l, us)) ≡ Ok (a, rest) → Taken kind of ts a rest
taken {A} kind of ts a rest h =
    let b = bind_ok (token kind ts) (λ l us. Ok (of l, us)) (a, rest) h in
    let e = pure_ok (of b.0.0) a b.0.1 rest b.2 in
    let t = token_ok kind ts b.0.0 b.0.1 b.1 in
    record { token = b.0.0; first = t.first ∙ ap (λ us. b.0.0 ∷ us) e.1; kind_is = t.kind_is; value = e.0 }

pub taken_shallow : {A X : Type 0} (kind : TokenKind) (of : Lexeme → A) (ts at : List Lexeme) → ◌≡◌ {A = Outcome A} (and_then (token kind ts) (λ l us. Ok (of l, us))) (Err (TooDeep, at)) → X
taken_shallow {A} {X} kind of ts at h = by_case (bind_err (token kind ts) (λ l us. Ok (of l, us)) (TooDeep, at) h)
  where
    by_case : (token kind ts ≡ Err (TooDeep, at)) ⊎ ((p : Lexeme × List Lexeme) × (token kind ts ≡ Ok p) × (◌≡◌ {A = Outcome A} (Ok (of p.0, p.1)) (Err (TooDeep, at)))) → X
    by_case (inl e) = token_shallow kind ts at e
    by_case (inr p) = pure_err _ (TooDeep, at) p.2

pub taken_here : {A : Type 0} (kind : TokenKind) (of : Lexeme → A) (ts : List Lexeme) (why : Stop) (at : List Lexeme) → ◌≡◌ {A = Outcome A} (and_then (token kind ts) (λ l us. Ok (of l, us))) (Err (why, at)) → ts ≡ at
taken_here {A} kind of ts why at h = by_case (bind_err (token kind ts) (λ l us. Ok (of l, us)) (why, at) h)
  where
    by_case : (token kind ts ≡ Err (why, at)) ⊎ ((p : Lexeme × List Lexeme) × (token kind ts ≡ Ok p) × (◌≡◌ {A = Outcome A} (Ok (of p.0, p.1)) (Err (why, at)))) → ts ≡ at
    by_case (inl e) = token_here kind ts why at e
    by_case (inr p) = pure_err _ (why, at) p.2

pub takes : {A : Type 0} (kind : TokenKind) (of : Lexeme → A) (ts : List Lexeme) (l : Lexeme) (rest : List Lexeme) → ts ≡ l ∷ rest → l.kind ≡ kind →
    and_then (token kind ts) (λ l us. Ok (of l, us)) ≡ Ok (of l, rest)
takes kind of ts l rest e i = rw (e, token_reads kind l rest i)
