-- How readers are made of tokens, choices and options: what each makes.
use Rattle.std.proofs.Common.{◌≡◌, ℕ, zero, suc, ◌+◌, ◌≤◌, Bool, true, false, not, cond, List, [], ◌∷◌, ◌++◌, slice_index, Ok, Err, Option, Some, None, ⊎_elim, refl, sym, ap, ◌∙◌, subst, arith}
use Rattle.vhdl_lexer.specs.Kinds.{is_one_of}
use Rattle.vhdl_lexer.specs.declared.token.TokenKind.{TokenKind}
use Rattle.vhdl_lexer.specs.declared.token.TokenKind.TheVariants as k
use Rattle.vhdl_parser_expressions.specs.declared.stop.Stop.{Stop}
use Rattle.vhdl_parser_expressions.specs.declared.stop.Stop.TheVariants.{Unexpected, EndOfFile, TooDeep}
use Rattle.vhdl_tree.specs.Lexeme.{Lexeme, same_kind}
use Rattle.vhdl_tree.specs.Tree.{Ident}
use Rattle.vhdl_tree.specs.Pieces.{Piece, some, one_at, word_at, literal_at, Is, Spells, spell_ident, spell_word, spell_option, IsAny, IsOption}
use Rattle.vhdl_tree.specs.Levels.{is_end, opening, closing}
use Rattle.vhdl_parser_expressions.specs.reader.Input.{Outcome, Parser, IsRefused, and_then, token, expect, identifier, literal, next_kind, is_kind, test, sees_both, test_both, refusal, eat, optional, below}
use Rattle.vhdl_parser_expressions.proofs.Steps.{bind_ok, bind_err, err_why, err_at, spells_append, spells_one, Taken, taken, taken_shallow, taken_here}
use Rattle.vhdl_parser_expressions.proofs.Halts.{Example, Sticks, halt_here, halt_after}
use Rattle.vhdl_parser_expressions.proofs.Steady.{Steady, steady_pure, steady_deep, steady_refuse, steady_token, steady_then, steady_same, steady_choose}
use Rattle.vhdl_parser_expressions.proofs.Ahead.{Eager, steady_both}
use Rattle.vhdl_parser_expressions.proofs.Walks.{walk_append, walk_under, walk_least, walk_token, Deep, deep_token, deep_under, deep_here, Makes, MakesOf, makes_of, Walks, made, walks, Rule, afresh, w_pure, w_then, w_as, w_last}

-- ---- tokens

-- what follows refuses somewhere, and not for its depth
abbrev pub Stops : {A B : Type 0} → (A → Parser B) → A → Type 0
Stops f a = (ts : List Lexeme) × (why : Stop) × (at : List Lexeme) × (f a ts ≡ Err (why, at)) × IsRefused why

-- a token that neither opens nor closes a level, nor is `end`
abbrev pub is_neutral : TokenKind → Bool
is_neutral kind = not (is_one_of (k.LeftParen ∷ k.RightParen ∷ k.If ∷ k.Case ∷ k.For ∷ k.Loop ∷ k.Generate ∷ k.End ∷ []) kind)

pub record Neutral (kind : TokenKind) : Type 0 where
  pub opens_none : (e : Bool) → opening e kind ≡ 0
  pub closes_none : (e : Bool) → closing e kind ≡ 0
  pub no_end : is_end kind ≡ false

pub neutral : (kind : TokenKind) → is_neutral kind ≡ true → Neutral kind
unfolding same_kind
neutral k.LeftParen h = absurd (cc)
neutral k.RightParen h = absurd (cc)
neutral k.If h = absurd (cc)
neutral k.Case h = absurd (cc)
neutral k.For h = absurd (cc)
neutral k.Loop h = absurd (cc)
neutral k.Generate h = absurd (cc)
neutral k.End h = absurd (cc)
neutral _ h = record { opens_none = λ e. refl; closes_none = λ e. refl; no_end = refl }

-- the piece of a token that was taken
spelled_by : {A : Type 0} (of : Lexeme → A) (kind : TokenKind) (part : A → Piece) → ((l : Lexeme) → l.kind ≡ kind → Is (part (of l)) l) → {ts : List Lexeme} {a : A} {rest : List Lexeme} → Taken kind of ts a rest → Spells (part a ∷ []) ts rest
spelled_by of kind part is {ts} {a} {rest} t = spells_one (part a) ts t.token rest t.first (subst (λ y. Is (part y) t.token) t.value (is t.token t.kind_is))

example_behind : {A B : Type 0} {before : List Piece → List Piece} {spell : B → List Piece} {Good : B → Type 0} (of : Lexeme → A) (kind : TokenKind) (part : A → Piece) → ((a : A) → Example (λ r. before (part a ∷ r)) spell Good) → Example before spell Good
example_behind of kind part example =
    let a = of (record { kind = kind; at = 0; text = [] }) in
    let x = example a in
    record { tree = x.tree; more = part a ∷ x.more; is = x.is; formed = x.formed }

-- a token of this kind, behind which a tree can go on
pub stick_take : {A B : Type 0} {before : List Piece → List Piece} {f : A → Parser B} {spell : B → List Piece} {Good : B → Type 0} (of : Lexeme → A) (kind : TokenKind) (part : A → Piece) →
    ((l : Lexeme) → l.kind ≡ kind → Is (part (of l)) l) → ((a : A) → Example (λ r. before (part a ∷ r)) spell Good) → ((a : A) → Sticks (λ r. before (part a ∷ r)) (f a) spell Good) →
    Sticks before (λ ts. and_then (and_then (token kind ts) (λ l us. Ok (of l, us))) f) spell Good
stick_take {A} {B} {before} {f} {spell} {Good} of kind part is example next ts why at h met = ⊎_elim
    (λ x. halt_here (example_behind of kind part example) (taken_here kind of ts why at x))
    (λ a. halt_after (part a.0.0 ∷ []) (spelled_by of kind part is (taken kind of ts a.0.0 a.0.1 a.1)) (next a.0.0 a.0.1 why at a.2 met))
    (bind_err (and_then (token kind ts) (λ l us. Ok (of l, us))) f (why, at) h)

-- a token of this kind, after which d2 levels are open
pub m_take_by : {A B : Type 0} {n d d2 d3 : ℕ} {e e2 : Bool} {before : List Piece → List Piece} {f : A → Parser B} {spell : B → List Piece} {Good : B → Type 0} (of : Lexeme → A) (kind : TokenKind) (part : A → Piece) →
    (d2 ≤ n → d ≤ n) → d + opening e kind ≡ d2 + closing e kind → is_end kind ≡ e2 → ((l : Lexeme) → l.kind ≡ kind → Is (part (of l)) l) →
    (d ≤ n → (a : A) → Example (λ r. before (part a ∷ r)) spell Good) → (d ≤ n → (a : A) → Sticks (λ r. before (part a ∷ r)) (f a) spell Good) →
    ((a : A) → Makes n d2 e2 d3 (λ r. before (part a ∷ r)) (f a) spell Good) → Makes n d e d3 before (λ ts. and_then (and_then (token kind ts) (λ l us. Ok (of l, us))) f) spell Good
m_take_by {A} {B} {n} {d} {d2} {d3} {e} {e2} {before} {f} {spell} {Good} of kind part bound b last is example further next = record {
  reads = λ ts x rest h.
      let a = bind_ok (and_then (token kind ts) (λ l us. Ok (of l, us))) f (x, rest) h in
      let t = taken kind of ts a.0.0 a.0.1 a.1 in
      let g = (next a.0.0).reads a.0.1 x rest a.2 in
      let le = walk_least g.walk in
      record {
        more = part a.0.0 ∷ g.more;
        is = g.is;
        spelled = spells_append (part a.0.0 ∷ []) g.more ts a.0.1 rest (spelled_by of kind part is t) g.spelled;
        formed = g.formed;
        walk = walk_append (walk_token t.token t.first (ap is_end t.kind_is ∙ last) (bound le) le (level t)) g.walk;
      };
  deep = λ ts at h. ⊎_elim (taken_shallow kind of ts at)
      (λ a. let t = taken kind of ts a.0.0 a.0.1 a.1 in deep_token t.token t.first (ap is_end t.kind_is ∙ last) (level t) ((next a.0.0).deep a.0.1 at a.2))
      (bind_err (and_then (token kind ts) (λ l us. Ok (of l, us))) f (TooDeep, at) h);
  example = λ le. example_behind of kind part (example le);
  stuck = λ le. stick_take of kind part is (example le) (further le);
}
  where
    level : {ts : List Lexeme} {a : A} {rest : List Lexeme} (t : Taken kind of ts a rest) → d + opening e t.token.kind ≡ d2 + closing e t.token.kind
    level t = ap (λ y. d + opening e y) t.kind_is ∙ b ∙ ap (λ y. d2 + closing e y) (sym t.kind_is)

pub w_take_by : {A B : Type 0} {n d d2 d3 : ℕ} {e e2 : Bool} {before : List Piece → List Piece} {f : A → Parser B} {spell : B → List Piece} {Good : B → Type 0} (of : Lexeme → A) (kind : TokenKind) (part : A → Piece) →
    (d2 ≤ n → d ≤ n) → d + opening e kind ≡ d2 + closing e kind → is_end kind ≡ e2 → ((l : Lexeme) → l.kind ≡ kind → Is (part (of l)) l) →
    (d ≤ n → (a : A) → Example (λ r. before (part a ∷ r)) spell Good) → (d ≤ n → (a : A) → Sticks (λ r. before (part a ∷ r)) (f a) spell Good) →
    ((a : A) → Walks n d2 e2 d3 (λ r. before (part a ∷ r)) (f a) spell Good) → Walks n d e d3 before (λ ts. and_then (and_then (token kind ts) (λ l us. Ok (of l, us))) f) spell Good
w_take_by of kind part bound b last is example further next = walks (m_take_by of kind part bound b last is example further (λ a. made (next a)))
    (steady_then (steady_then (steady_token kind) (λ ts l rest h. steady_pure)) (λ ts a rest h. (next a).steady))

-- a token that opens no level
pub w_take : {A B : Type 0} {n d d2 d3 : ℕ} {e e2 : Bool} {before : List Piece → List Piece} {f : A → Parser B} {spell : B → List Piece} {Good : B → Type 0} (of : Lexeme → A) (kind : TokenKind) (part : A → Piece) →
    (d2 ≤ n → d ≤ n) → d2 ≤ d → d + opening e kind ≡ d2 + closing e kind → is_end kind ≡ e2 → ((l : Lexeme) → l.kind ≡ kind → Is (part (of l)) l) →
    ((a : A) → Walks n d2 e2 d3 (λ r. before (part a ∷ r)) (f a) spell Good) → Walks n d e d3 before (λ ts. and_then (and_then (token kind ts) (λ l us. Ok (of l, us))) f) spell Good
w_take of kind part bound less b last is next = w_take_by of kind part bound b last is (λ le a. (next a).example (omega (arith, le, less))) (λ le a. (next a).stuck (omega (arith, le, less))) next

-- a token that neither opens nor closes a level, by itself
pub w_token : {A : Type 0} {n : ℕ} (of : Lexeme → A) (kind : TokenKind) (part : A → Piece) → is_neutral kind ≡ true → ((l : Lexeme) → l.kind ≡ kind → Is (part (of l)) l) →
    Rule n 0 (λ ts. and_then (token kind ts) (λ l us. Ok (of l, us))) (λ a. part a ∷ []) IsAny
w_token {A} {n} of kind part ok is = record {
  reads = λ ts a rest h.
      let t = taken kind of ts a rest h in
      let u = neutral kind ok in
      let i : Is (part a) t.token = subst (λ y. Is (part y) t.token) t.value (is t.token t.kind_is) in
      record {
        more = part a ∷ [];
        is = refl;
        spelled = spells_one (part a) ts t.token rest t.first i;
        formed = tt;
        walk = walk_token t.token t.first (ap is_end t.kind_is ∙ u.no_end) (omega arith) (omega arith)
            (let same = ap (opening false) t.kind_is ∙ u.opens_none false ∙ sym (u.closes_none false) ∙ ap (closing false) (sym t.kind_is) in omega (arith, same));
      };
  deep = λ ts at h. taken_shallow kind of ts at h;
  example = λ le. here;
  stuck = λ le ts why at h met. halt_here here (taken_here kind of ts why at h);
  steady = steady_then (steady_token kind) (λ ts l rest h. steady_pure);
}
  where
    here : Example afresh (λ a. part a ∷ []) IsAny
    here = record { tree = of (record { kind = kind; at = 0; text = [] }); more = part (of (record { kind = kind; at = 0; text = [] })) ∷ []; is = refl; formed = tt }

module _ {B : Type 0} {n d d2 : ℕ} {e : Bool} {before : List Piece → List Piece} {spell : B → List Piece} {Good : B → Type 0} where
  -- a neutral token whose place the tree keeps
  pub w_at : {f : ℕ → Parser B} (kind : TokenKind) → is_neutral kind ≡ true → ((at : ℕ) → Walks n d false d2 (λ r. before (one_at kind at ∷ r)) (f at) spell Good) → Walks n d e d2 before (λ ts. and_then (expect kind ts) f) spell Good
  unfolding expect
  w_at kind ok next =
      let u = neutral kind ok in
      w_take (λ l. l.at) kind (one_at kind) (λ le. le) (omega arith) (omega (arith, u.opens_none e, u.closes_none e)) u.no_end (λ l i. (i, refl)) next

  -- a neutral token
  pub w_some : {f : ℕ → Parser B} (kind : TokenKind) → is_neutral kind ≡ true → ((at : ℕ) → Walks n d false d2 (λ r. before (some kind ∷ r)) (f at) spell Good) → Walks n d e d2 before (λ ts. and_then (expect kind ts) f) spell Good
  unfolding expect
  w_some kind ok next =
      let u = neutral kind ok in
      w_take (λ l. l.at) kind (λ _. some kind) (λ le. le) (omega arith) (omega (arith, u.opens_none e, u.closes_none e)) u.no_end (λ l i. i) next

  -- `end`
  pub w_end : {f : ℕ → Parser B} → ((at : ℕ) → Walks n d true d2 (λ r. before (some k.End ∷ r)) (f at) spell Good) → Walks n d e d2 before (λ ts. and_then (expect k.End ts) f) spell Good
  unfolding expect same_kind
  w_end next = w_take (λ l. l.at) k.End (λ _. some k.End) (λ le. le) (omega arith) refl refl (λ l i. i) next

  -- one that closes
  pub w_right : {f : ℕ → Parser B} → suc d ≤ n → ((at : ℕ) → Walks n d false d2 (λ r. before (some k.RightParen ∷ r)) (f at) spell Good) → Walks n (suc d) e d2 before (λ ts. and_then (expect k.RightParen ts) f) spell Good
  unfolding expect same_kind
  w_right le next = w_take (λ l. l.at) k.RightParen (λ _. some k.RightParen) (λ _. le) (omega arith) (omega arith) refl (λ l i. i) next

  pub w_ident : {f : Ident → Parser B} → ((i : Ident) → Walks n d false d2 (λ r. before (word_at i.at i.text ∷ r)) (f i) spell Good) → Walks n d e d2 before (λ ts. and_then (identifier ts) f) spell Good
  unfolding identifier same_kind
  w_ident next = w_take (λ l. record { at = l.at; text = l.text }) k.Identifier (λ i. word_at i.at i.text) (λ le. le) (omega arith) refl refl (λ l i. (i, refl, refl)) next

  pub w_literal : {f : (ℕ × ℕ) → Parser B} → ((c : ℕ × ℕ) → Walks n d false d2 (λ r. before (literal_at c.0 c.1 ∷ r)) (f c) spell Good) → Walks n d e d2 before (λ ts. and_then (literal ts) f) spell Good
  unfolding literal same_kind
  w_literal next = w_take (λ l. (l.at, slice_index l.text 1)) k.Character (λ c. literal_at c.0 c.1) (λ le. le) (omega arith) refl refl (λ l i. (i, refl, refl)) next

-- the same of what is made alone
module _ {B : Type 0} {n d d2 : ℕ} {e : Bool} {before : List Piece → List Piece} {spell : B → List Piece} {Good : B → Type 0} where
  pub m_at : {f : ℕ → Parser B} (kind : TokenKind) → is_neutral kind ≡ true → ((at : ℕ) → Makes n d false d2 (λ r. before (one_at kind at ∷ r)) (f at) spell Good) → Makes n d e d2 before (λ ts. and_then (expect kind ts) f) spell Good
  unfolding expect
  m_at kind ok next =
      let u = neutral kind ok in
      m_take_by (λ l. l.at) kind (one_at kind) (λ le. le) (omega (arith, u.opens_none e, u.closes_none e)) u.no_end (λ l i. (i, refl)) (λ le at. (next at).example le) (λ le at. (next at).stuck le) next

  pub m_choose : {by : Option TokenKind → Parser B} → ((next : Option TokenKind) → Makes n d e d2 before (by next) spell Good) → Makes n d e d2 before (λ ts. by (next_kind ts) ts) spell Good
  m_choose each = record {
    reads = λ ts b rest h. (each (next_kind ts)).reads ts b rest h;
    deep = λ ts at h. (each (next_kind ts)).deep ts at h;
    example = λ le. (each None).example le;
    stuck = λ le ts why at h met. (each (next_kind ts)).stuck le ts why at h met;
  }

  pub m_test : {p q : Parser B} (begins : Option TokenKind → Bool) → Makes n d e d2 before p spell Good → Makes n d e d2 before q spell Good → Makes n d e d2 before (test begins p q) spell Good
  m_test {p} {q} begins one other = m_choose {by = λ next ts. cond {A = Outcome B} (begins next) (p ts) (q ts)} (λ next. by (begins next))
    where
      by : (t : Bool) → Makes n d e d2 before (λ ts. cond {A = Outcome B} t (p ts) (q ts)) spell Good
      by true = one
      by false = other

  -- by the tokens ahead, where one way is known to be right where they say so
  pub m_by : {p q : Parser B} (c : List Lexeme → Bool) → ((ts : List Lexeme) → c ts ≡ true → MakesOf n d e d2 before (p ts) spell Good ts) → Makes n d e d2 before q spell Good → Makes n d e d2 before (λ ts. cond {A = Outcome B} (c ts) (p ts) (q ts)) spell Good
  m_by {p} {q} c one other = record {
    reads = λ ts. (by ts (c ts) refl).reads;
    deep = λ ts. (by ts (c ts) refl).deep;
    example = other.example;
    stuck = λ le ts. (by ts (c ts) refl).stuck le;
  }
    where
      by : (ts : List Lexeme) (t : Bool) → c ts ≡ t → MakesOf n d e d2 before (cond {A = Outcome B} t (p ts) (q ts)) spell Good ts
      by ts true holds = one ts holds
      by ts false holds = makes_of other ts

-- ---- tokens that open a level

module _ {B : Type 0} {n d2 : ℕ} {before : List Piece → List Piece} {spell : B → List Piece} {Good : B → Type 0} where
  -- a word or parenthesis that opens, by a tree that goes on with it
  pub w_open : {e : Bool} {f : ℕ → Parser B} (kind : TokenKind) → opening e kind ≡ 1 → closing e kind ≡ 0 → is_end kind ≡ false → ((at : ℕ) → Example (λ r. before (one_at kind at ∷ r)) spell Good) → ((at : ℕ) → Stops f at → 1 ≤ n) →
      ((at : ℕ) → Walks n 1 false d2 (λ r. before (one_at kind at ∷ r)) (f at) spell Good) → Walks n 0 e d2 before (λ ts. and_then (expect kind ts) f) spell Good
  unfolding expect
  w_open kind o c last example within next = w_take_by (λ l. l.at) kind (one_at kind) (λ le. omega arith) (omega (arith, o, c)) last (λ l i. (i, refl)) (λ le. example) (λ le at ts why us h met. (next at).stuck (within at (ts, why, us, h, met)) ts why us h met) next

  pub w_left_at : {f : ℕ → Parser B} → ((at : ℕ) → Example (λ r. before (one_at k.LeftParen at ∷ r)) spell Good) → ((at : ℕ) → Stops f at → 1 ≤ n) →
      ((at : ℕ) → Walks n 1 false d2 (λ r. before (one_at k.LeftParen at ∷ r)) (f at) spell Good) → Walks n 0 false d2 before (λ ts. and_then (expect k.LeftParen ts) f) spell Good
  unfolding same_kind
  w_left_at = w_open k.LeftParen refl refl refl

  pub w_left : {f : ℕ → Parser B} → Example (λ r. before (some k.LeftParen ∷ r)) spell Good → ((at : ℕ) → Stops f at → 1 ≤ n) →
      ((at : ℕ) → Walks n 1 false d2 (λ r. before (some k.LeftParen ∷ r)) (f at) spell Good) → Walks n 0 false d2 before (λ ts. and_then (expect k.LeftParen ts) f) spell Good
  unfolding expect same_kind
  w_left example within next = w_take_by (λ l. l.at) k.LeftParen (λ _. some k.LeftParen) (λ le. omega arith) (omega arith) refl (λ l i. i) (λ le at. example) (λ le at ts why us h met. (next at).stuck (within at (ts, why, us, h, met)) ts why us h met) next

-- ---- choices

module _ {B : Type 0} {n d d2 : ℕ} {e : Bool} {before : List Piece → List Piece} {spell : B → List Piece} {Good : B → Type 0} where
  -- where a tree could go on
  pub w_refuse : Example before spell Good → Walks n d e d2 before (λ ts. Err (refusal ts, ts)) spell Good
  unfolding refusal
  w_refuse example = record {
    reads = λ ts b rest h. absurd (cc);
    deep = λ ts at h. never ts at h;
    example = λ le. example;
    stuck = λ le ts why at h met. halt_here example (err_at (refusal ts) why ts at h);
    steady = steady_refuse;
  }
    where
      never : (ts at : List Lexeme) → ◌≡◌ {A = Outcome B} (Err (refusal ts, ts)) (Err (TooDeep, at)) → Deep n d e ts
      never [] at h = let e = err_why EndOfFile TooDeep [] at h in absurd (cc)
      never (t ∷ ts) at h = let e = err_why Unexpected TooDeep (t ∷ ts) at h in absurd (cc)

  pub w_choose : {by : Option TokenKind → Parser B} → ((next : Option TokenKind) → Walks n d e d2 before (by next) spell Good) → Walks n d e d2 before (λ ts. by (next_kind ts) ts) spell Good
  w_choose each = record {
    reads = λ ts b rest h. (each (next_kind ts)).reads ts b rest h;
    deep = λ ts at h. (each (next_kind ts)).deep ts at h;
    example = (each None).example;
    stuck = λ le ts why at h met. (each (next_kind ts)).stuck le ts why at h met;
    steady = steady_choose (λ next. (each next).steady);
  }

  pub w_test : {p q : Parser B} (begins : Option TokenKind → Bool) → Walks n d e d2 before p spell Good → Walks n d e d2 before q spell Good → Walks n d e d2 before (test begins p q) spell Good
  w_test {p} {q} begins one other = w_choose {by = λ next ts. cond {A = Outcome B} (begins next) (p ts) (q ts)} (λ next. by (begins next))
    where
      by : (t : Bool) → Walks n d e d2 before (λ ts. cond {A = Outcome B} t (p ts) (q ts)) spell Good
      by true = one
      by false = other

  -- a reader that says the same
  pub w_same : {p q : Parser B} → ((ts : List Lexeme) → p ts ≡ q ts) → Walks n d e d2 before p spell Good → Walks n d e d2 before q spell Good
  w_same {p} {q} same w = record {
    reads = λ ts b rest h. w.reads ts b rest (same ts ∙ h);
    deep = λ ts at h. w.deep ts at (same ts ∙ h);
    example = w.example;
    stuck = λ le ts why at h met. w.stuck le ts why at (same ts ∙ h) met;
    steady = steady_same same w.steady;
  }

  pub w_test_then : {A : Type 0} (begins : Option TokenKind → Bool) (p q : Parser A) (f : A → Parser B) → Walks n d e d2 before (λ ts. and_then (p ts) f) spell Good → Walks n d e d2 before (λ ts. and_then (q ts) f) spell Good → Walks n d e d2 before (λ ts. and_then (test begins p q ts) f) spell Good
  w_test_then {A} begins p q f one other = w_same (λ ts. spread (begins (next_kind ts)) ts) (w_test begins one other)
    where
      spread : (t : Bool) (ts : List Lexeme) → cond {A = Outcome B} t (and_then (p ts) f) (and_then (q ts) f) ≡ and_then (cond {A = Outcome A} t (p ts) (q ts)) f
      spread true ts = refl
      spread false ts = refl

  -- steps in a step
  pub w_inner : {A C : Type 0} (p : Parser A) (g : A → Parser C) (f : C → Parser B) → Walks n d e d2 before (λ ts. and_then (p ts) (λ a us. and_then (g a us) f)) spell Good → Walks n d e d2 before (λ ts. and_then (and_then (p ts) g) f) spell Good
  w_inner {A} {C} p g f w = w_same (λ ts. assoc (p ts)) w
    where
      assoc : (r : Outcome A) → and_then r (λ a us. and_then (g a us) f) ≡ and_then (and_then r g) f
      assoc (Ok a) = refl
      assoc (Err x) = refl

-- by the tokens ahead
pub w_by : {B : Type 0} {n d d2 : ℕ} {e : Bool} {before : List Piece → List Piece} {spell : B → List Piece} {Good : B → Type 0} {p q : Parser B} (c : List Lexeme → Bool) →
    Walks n d e d2 before p spell Good → Walks n d e d2 before q spell Good → Steady (λ ts. cond {A = Outcome B} (c ts) (p ts) (q ts)) → Walks n d e d2 before (λ ts. cond {A = Outcome B} (c ts) (p ts) (q ts)) spell Good
w_by {B} {n} {d} {d2} {e} {before} {spell} {Good} {p} {q} c one other steady = record {
  reads = λ ts b rest h. (by (c ts)).reads ts b rest h;
  deep = λ ts at h. (by (c ts)).deep ts at h;
  example = other.example;
  stuck = λ le ts why at h met. (by (c ts)).stuck le ts why at h met;
  steady = steady;
}
  where
    by : (t : Bool) → Walks n d e d2 before (λ ts. cond {A = Outcome B} t (p ts) (q ts)) spell Good
    by true = one
    by false = other

-- a rule by the next two tokens, and what follows it: the first of them is taken on both ways
pub w_both : {A B : Type 0} {n d d2 : ℕ} {before : List Piece → List Piece} {part : A → List Piece} {Part : A → Type 0} {spell : B → List Piece} {Good : B → Type 0} (first second : TokenKind) (p q : Parser A) (f : A → Parser B) →
    Rule n d p part Part → Rule n d q part Part → ((a : A) → Part a → d ≤ n → Walks n d false d2 (λ r. before (part a ++ r)) (f a) spell Good) →
    (Steady (λ ts. and_then (p ts) f) → Eager first (λ ts. and_then (p ts) f)) → (Steady (λ ts. and_then (q ts) f) → Eager first (λ ts. and_then (q ts) f)) →
    Walks n d false d2 before (λ ts. and_then (test_both first second p q ts) f) spell Good
w_both {A} {B} {n} {d} {d2} {before} {part} {Part} {spell} {Good} first second p q f way other next takes takes_other =
    let one : Walks n d false d2 before (λ ts. and_then (p ts) f) spell Good = w_then way next in
    let two : Walks n d false d2 before (λ ts. and_then (q ts) f) spell Good = w_then other next in
    w_same (λ ts. inward (sees_both first second ts) (p ts) (q ts)) (w_by (sees_both first second) one two (steady_both first second one.steady two.steady (takes one.steady) (takes_other two.steady)))
  where
    inward : (b : Bool) (x y : Outcome A) → cond {A = Outcome B} b (and_then x f) (and_then y f) ≡ and_then (cond {A = Outcome A} b x y) f
    inward true x y = refl
    inward false x y = refl

-- what is refused for its depth alone
pub deep_met : {B X : Type 0} (us : List Lexeme) (why : Stop) (at : List Lexeme) → ◌≡◌ {A = Outcome B} (Err (TooDeep, us)) (Err (why, at)) → IsRefused why → X
deep_met us why at h met = let e = err_why TooDeep why us at h in absurd (subst IsRefused (sym e) met)

-- the level below, behind a token that opened one
pub w_below : {B : Type 0} {d2 : ℕ} {e : Bool} {before : List Piece → List Piece} {spell : B → List Piece} {Good : B → Type 0} {f : ℕ → Parser B} (n : ℕ) → ((m : ℕ) → n ≡ suc m → Walks n 1 e d2 before (f m) spell Good) → Walks n 1 e d2 before (λ ts. and_then (below n ts) f) spell Good
unfolding below
w_below {B} {d2} {e} {before} {spell} {Good} {f} zero next = record {
  reads = λ ts b rest h. absurd (cc);
  deep = λ ts at h. deep_here 0 1 e ts (omega arith);
  example = λ le. absurd (omega (arith, le));
  stuck = λ le ts why at h met. absurd (omega (arith, le));
  steady = steady_deep;
}
w_below (suc m) next = w_as (λ b more good is. (is, good)) (next m refl)

-- where none may open, nothing else is refused
pub below_met : {A B : Type 0} (f : A → ℕ → Parser B) (n : ℕ) (a : A) → Stops (λ a us. and_then (below n us) (f a)) a → 1 ≤ n
unfolding below
below_met f zero a x = deep_met x.0 x.1 x.2 x.3 x.4
below_met f (suc m) a x = omega arith

-- a rule one level down
pub under : {B : Type 0} {n m : ℕ} {p : Parser B} {spell : B → List Piece} {Good : B → Type 0} → n ≡ suc m → Rule m 0 p spell Good → Rule n 1 p spell Good
under {B} {n} {m} {p} {spell} {Good} e w = record {
  reads = λ ts b rest h. let g = w.reads ts b rest h in record { more = g.more; is = g.is; spelled = g.spelled; formed = g.formed; walk = walk_under (omega (arith, e)) g.walk };
  deep = λ ts at h. deep_under (omega (arith, e)) (w.deep ts at h);
  example = λ le. w.example (omega arith);
  stuck = λ le. w.stuck (omega arith);
  steady = w.steady;
}

-- where no level may open, what stands one level down is refused
pub under_none : {B : Type 0} {spell : B → List Piece} {Good : B → Type 0} → Rule {B = B} 0 1 (λ ts. Err (TooDeep, ts)) spell Good
under_none = record {
  reads = λ ts b rest h. absurd (cc);
  deep = λ ts at h. deep_here 0 1 false ts (omega arith);
  example = λ le. absurd (omega (arith, le));
  stuck = λ le ts why at h met. absurd (omega (arith, le));
  steady = steady_deep;
}

module _ {B : Type 0} {n d d2 : ℕ} {before : List Piece → List Piece} {spell : B → List Piece} {Good : B → Type 0} where
  -- an optional word, also behind `end`
  pub w_word : {e : Bool} {f : Bool → Parser B} (kind : TokenKind) → is_neutral kind ≡ true → ((b : Bool) (e2 : Bool) → Walks n d e2 d2 (λ r. before (spell_word kind b ++ r)) (f b) spell Good) → Walks n d e d2 before (λ ts. and_then (eat kind ts) f) spell Good
  unfolding eat
  w_word {e} {f} kind ok next = w_test_then (is_kind kind) (λ ts. and_then (expect kind ts) (λ _ us. Ok (true, us))) (λ ts. Ok (false, ts)) f (w_inner (expect kind) (λ _ us. Ok (true, us)) f (w_some kind ok (λ _. next true false))) (next false e)

  -- an optional identifier, also behind `end`
  pub w_option_ident : {e : Bool} {f : Option Ident → Parser B} → ((o : Option Ident) (e2 : Bool) → Walks n d e2 d2 (λ r. before (spell_option spell_ident o ++ r)) (f o) spell Good) → Walks n d e d2 before (λ ts. and_then (optional (is_kind k.Identifier) identifier ts) f) spell Good
  unfolding optional
  w_option_ident {e} {f} next = w_test_then (is_kind k.Identifier) (λ ts. and_then (identifier ts) (λ i us. Ok (Some i, us))) (λ ts. Ok (None, ts)) f (w_inner identifier (λ i us. Ok (Some i, us)) f (w_ident (λ i. next (Some i) false))) (next None e)

-- ---- options, as rules

pub word_rule : {n d : ℕ} (kind : TokenKind) → is_neutral kind ≡ true → d ≤ n → Rule n d (eat kind) (spell_word kind) IsAny
unfolding eat
word_rule kind ok le = w_test (is_kind kind) (w_some kind ok (λ _. w_pure le refl tt)) (w_pure le refl tt)

pub option_rule : {A : Type 0} {n d : ℕ} {item : Parser A} {part : A → List Piece} {Part : A → Type 0} (begins : Option TokenKind → Bool) → d ≤ n → Rule n d item part Part → Rule n d (optional begins item) (spell_option part) (IsOption Part)
unfolding optional
option_rule begins le w = w_test begins (w_last (λ x. Some x) w (λ a good. (refl, good))) (w_pure le refl tt)
