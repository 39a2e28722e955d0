-- What a reader reads is spelled so and well formed, and what it refuses for its depth is too deep: one lemma for each way in which readers are made.
use Rattle.std.proofs.Common.{◌≡◌, ℕ, zero, suc, ◌+◌, ◌≤◌, ◌<◌, Bool, false, List, [], ◌∷◌, ◌++◌, length, take, Ok, Err, ⊎_elim, refl, sym, ap, ◌∙◌, subst, append_assoc, arith}
use Rattle.std.proofs.Math.Seq.{take-append_seam}
use Rattle.vhdl_parser_expressions.specs.declared.stop.Stop.{Stop}
use Rattle.vhdl_parser_expressions.specs.declared.stop.Stop.TheVariants.{TooDeep}
use Rattle.vhdl_tree.specs.Lexeme.{Lexeme}
use Rattle.vhdl_tree.specs.Pieces.{Piece, Spells}
use Rattle.vhdl_tree.specs.Levels.{is_end, opening, closing, opens, closes, IsDeep}
use Rattle.vhdl_parser_expressions.specs.reader.Input.{Outcome, Parser, IsRefused, and_then}
use Rattle.vhdl_parser_expressions.proofs.Steps.{bind_ok, bind_err, at_pure, pure_err, spells_append}
use Rattle.vhdl_parser_expressions.proofs.Halts.{Example, Halts, Sticks, halt_first, halt_after, halt_map}
use Rattle.vhdl_parser_expressions.proofs.Steady.{Steady, steady_pure, steady_then}

-- ---- counting levels

-- nowhere in the tokens are more than n open, where o were opened and c closed before
abbrev pub Low : ℕ → ℕ → ℕ → Bool → List Lexeme → Type 0
Low n o c e [] = o ≤ c + n
Low n o c e (l ∷ ts) = (o ≤ c + n) × Low n (o + opening e l.kind) (c + closing e l.kind) (is_end l.kind) ts

-- whether the last token is `end`
abbrev pub ended : Bool → List Lexeme → Bool
ended e [] = e
ended e (l ∷ ts) = ended (is_end l.kind) ts

pub low_shift : (n m a b o c : ℕ) (e : Bool) (ts : List Lexeme) → o + b + n ≤ a + c + m → Low n a b e ts → Low m o c e ts
low_shift n m a b o c e [] le h = omega (arith, le, h)
low_shift n m a b o c e (l ∷ ts) le h = (omega (arith, le, h.0), low_shift n m (a + opening e l.kind) (b + closing e l.kind) (o + opening e l.kind) (c + closing e l.kind) (is_end l.kind) ts (omega (arith, le)) h.1)

low_append : (n o c : ℕ) (e : Bool) (xs ys : List Lexeme) → Low n o c e xs → Low n (o + opens e xs) (c + closes e xs) (ended e xs) ys → Low n o c e (xs ++ ys)
low_append n o c e [] ys h g = low_shift n n (o + 0) (c + 0) o c e ys (omega arith) g
low_append n o c e (l ∷ xs) ys h g =
    (h.0, low_append n (o + opening e l.kind) (c + closing e l.kind) (is_end l.kind) xs ys h.1 (low_shift n n (o + (opening e l.kind + opens (is_end l.kind) xs)) (c + (closing e l.kind + closes (is_end l.kind) xs)) _ _ (ended (is_end l.kind) xs) ys (omega arith) g))

pub low_at : (n o c : ℕ) (e : Bool) (ts : List Lexeme) → Low n o c e ts → (j : ℕ) → o + opens e (take j ts) ≤ c + closes e (take j ts) + n
low_at n o c e [] h zero = omega (arith, h)
low_at n o c e [] h (suc j) = omega (arith, h)
low_at n o c e (l ∷ ts) h zero = omega (arith, h.0)
low_at n o c e (l ∷ ts) h (suc j) = omega (arith, low_at n (o + opening e l.kind) (c + closing e l.kind) (is_end l.kind) ts h.1 j)

opens_append : (e : Bool) (xs ys : List Lexeme) → opens e (xs ++ ys) ≡ opens e xs + opens (ended e xs) ys
opens_append e [] ys = omega arith
opens_append e (l ∷ xs) ys = omega (arith, opens_append (is_end l.kind) xs ys)

closes_append : (e : Bool) (xs ys : List Lexeme) → closes e (xs ++ ys) ≡ closes e xs + closes (ended e xs) ys
closes_append e [] ys = omega arith
closes_append e (l ∷ xs) ys = omega (arith, closes_append (is_end l.kind) xs ys)

ended_append : (e : Bool) (xs ys : List Lexeme) → ended e (xs ++ ys) ≡ ended (ended e xs) ys
ended_append e [] ys = refl
ended_append e (l ∷ xs) ys = ended_append (is_end l.kind) xs ys

-- from d levels open behind a token that is `end` or not, to d2 open; never more than n
pub record Walk (n d : ℕ) (e : Bool) (d2 : ℕ) (e2 : Bool) (ts rest : List Lexeme) : Type 0 where
  pub front : List Lexeme
  pub split : ts ≡ front ++ rest
  pub last : ended e front ≡ e2
  pub balance : d + opens e front ≡ d2 + closes e front
  pub low : Low n d 0 e front

pub walk_none : (n d : ℕ) (e : Bool) (ts : List Lexeme) → d ≤ n → Walk n d e d e ts ts
walk_none n d e ts le = record { front = []; split = refl; last = refl; balance = refl; low = omega (arith, le) }

pub walk_append : {n d d2 d3 : ℕ} {e e2 e3 : Bool} {ts us vs : List Lexeme} → Walk n d e d2 e2 ts us → Walk n d2 e2 d3 e3 us vs → Walk n d e d3 e3 ts vs
walk_append {n} {d} {d2} {d3} {e} {e2} {e3} {ts} {us} {vs} a b = record {
  front = a.front ++ b.front;
  split = a.split ∙ ap (λ x. a.front ++ x) b.split ∙ sym (append_assoc a.front b.front vs);
  last = ended_append e a.front b.front ∙ ap (λ x. ended x b.front) a.last ∙ b.last;
  balance =
      let o = ap (λ x. opens x b.front) a.last in
      let c = ap (λ x. closes x b.front) a.last in
      omega (arith, opens_append e a.front b.front, closes_append e a.front b.front, a.balance, b.balance, o, c);
  low = low_append n d 0 e a.front b.front a.low
      (subst (λ x. Low n (d + opens e a.front) (0 + closes e a.front) x b.front) (sym a.last) (low_shift n n d2 0 (d + opens e a.front) (0 + closes e a.front) e2 b.front (omega (arith, a.balance)) b.low));
}

low_least : (n o c : ℕ) (e : Bool) (ts : List Lexeme) → Low n o c e ts → o ≤ c + n
low_least n o c e [] h = h
low_least n o c e (l ∷ ts) h = h.0

pub walk_least : {n d d2 : ℕ} {e e2 : Bool} {ts rest : List Lexeme} → Walk n d e d2 e2 ts rest → d ≤ n
walk_least {n} {d} {d2} {e} {e2} {ts} {rest} w = omega (arith, low_least n d 0 e w.front w.low)

-- the same walk, under d levels more
pub walk_under : {n m d : ℕ} {e e2 : Bool} {ts rest : List Lexeme} → m + d ≤ n → Walk m 0 e 0 e2 ts rest → Walk n d e d e2 ts rest
walk_under {n} {m} {d} {e} {e2} {ts} {rest} le w = record {
  front = w.front;
  split = w.split;
  last = w.last;
  balance = omega (arith, w.balance);
  low = low_shift m n 0 0 d 0 e w.front (omega (arith, le)) w.low;
}

-- some front has more than n open, where d were open before
pub record Deep (n d : ℕ) (e : Bool) (ts : List Lexeme) : Type 0 where
  pub front : List Lexeme
  pub rest : List Lexeme
  pub split : ts ≡ front ++ rest
  pub more : closes e front + n < d + opens e front

pub deep_is : (n : ℕ) (ts : List Lexeme) → Deep n 0 false ts → IsDeep n ts
deep_is n ts d =
    let e = ap (take (length d.front)) d.split ∙ take-append_seam d.front d.rest in
    (length d.front, subst (λ xs. closes false xs + n < opens false xs) (sym e) (omega (arith, d.more)))

pub deep_after : {n d d2 : ℕ} {e e2 : Bool} {ts us : List Lexeme} → Walk n d e d2 e2 ts us → Deep n d2 e2 us → Deep n d e ts
deep_after {n} {d} {d2} {e} {e2} {ts} {us} w x = record {
  front = w.front ++ x.front;
  rest = x.rest;
  split = w.split ∙ ap (λ y. w.front ++ y) x.split ∙ sym (append_assoc w.front x.front x.rest);
  more =
      let o = ap (λ y. opens y x.front) w.last in
      let c = ap (λ y. closes y x.front) w.last in
      omega (arith, opens_append e w.front x.front, closes_append e w.front x.front, w.balance, x.more, o, c);
}

pub deep_under : {n m d : ℕ} {e : Bool} {ts : List Lexeme} → n ≤ m + d → Deep m 0 e ts → Deep n d e ts
deep_under le x = record { front = x.front; rest = x.rest; split = x.split; more = omega (arith, le, x.more) }

pub deep_here : (n d : ℕ) (e : Bool) (ts : List Lexeme) → n < d → Deep n d e ts
deep_here n d e ts le = record { front = []; rest = ts; split = refl; more = omega (arith, le) }

pub deep_token : {n d d2 : ℕ} {e e2 : Bool} {ts us : List Lexeme} (l : Lexeme) → ts ≡ l ∷ us → is_end l.kind ≡ e2 → d + opening e l.kind ≡ d2 + closing e l.kind → Deep n d2 e2 us → Deep n d e ts
deep_token {n} {d} {d2} {e} {e2} {ts} {us} l first last b x = record {
  front = l ∷ x.front;
  rest = x.rest;
  split = first ∙ ap (λ y. l ∷ y) x.split;
  more =
      let o = ap (λ y. opens y x.front) last in
      let c = ap (λ y. closes y x.front) last in
      omega (arith, b, x.more, o, c);
}

-- one token
pub walk_token : {n d d2 : ℕ} {e e2 : Bool} {ts rest : List Lexeme} (l : Lexeme) → ts ≡ l ∷ rest → is_end l.kind ≡ e2 → d ≤ n → d2 ≤ n → d + opening e l.kind ≡ d2 + closing e l.kind → Walk n d e d2 e2 ts rest
walk_token {n} {d} {d2} {e} {e2} {ts} {rest} l first last le le2 b = record { front = l ∷ []; split = first; last = last; balance = omega (arith, b); low = (omega (arith, le), omega (arith, b, le2)) }

-- ---- readers

-- b is spelled by the tokens before rest, after what was read of it before, and is well formed
pub record Made {B : Type 0} (n d : ℕ) (e : Bool) (d2 : ℕ) (before : List Piece → List Piece) (spell : B → List Piece) (Good : B → Type 0) (ts : List Lexeme) (b : B) (rest : List Lexeme) : Type 0 where
  pub more : List Piece
  pub is : spell b ≡ before more
  pub spelled : Spells more ts rest
  pub formed : Good b
  pub walk : Walk n d e d2 false ts rest

-- What a reader makes where d levels are open and `before` was read of the tree, and what it refuses: for its depth where
-- it is too deep, and otherwise at a token up to which the tokens go on to a tree.
pub record Makes {B : Type 0} (n d : ℕ) (e : Bool) (d2 : ℕ) (before : List Piece → List Piece) (p : Parser B) (spell : B → List Piece) (Good : B → Type 0) : Type 0 where
  pub reads : (ts : List Lexeme) (b : B) (rest : List Lexeme) → p ts ≡ Ok (b, rest) → Made n d e d2 before spell Good ts b rest
  pub deep : (ts at : List Lexeme) → p ts ≡ Err (TooDeep, at) → Deep n d e ts
  pub example : d ≤ n → Example before spell Good
  pub stuck : d ≤ n → Sticks before p spell Good

-- what it makes of these tokens, by what it says of them
pub record MakesOf {B : Type 0} (n d : ℕ) (e : Bool) (d2 : ℕ) (before : List Piece → List Piece) (o : Outcome B) (spell : B → List Piece) (Good : B → Type 0) (ts : List Lexeme) : Type 0 where
  pub reads : (b : B) (rest : List Lexeme) → o ≡ Ok (b, rest) → Made n d e d2 before spell Good ts b rest
  pub deep : (at : List Lexeme) → o ≡ Err (TooDeep, at) → Deep n d e ts
  pub stuck : d ≤ n → (why : Stop) (at : List Lexeme) → o ≡ Err (why, at) → IsRefused why → Halts before spell Good ts at

pub makes_of : {B : Type 0} {n d d2 : ℕ} {e : Bool} {before : List Piece → List Piece} {p : Parser B} {spell : B → List Piece} {Good : B → Type 0} →
    Makes n d e d2 before p spell Good → (ts : List Lexeme) → MakesOf n d e d2 before (p ts) spell Good ts
makes_of m ts = record { reads = m.reads ts; deep = m.deep ts; stuck = λ le. m.stuck le ts }

-- The same, and it refuses by nothing that follows the token.
pub record Walks {B : Type 0} (n d : ℕ) (e : Bool) (d2 : ℕ) (before : List Piece → List Piece) (p : Parser B) (spell : B → List Piece) (Good : B → Type 0) : Type 0 where
  pub reads : (ts : List Lexeme) (b : B) (rest : List Lexeme) → p ts ≡ Ok (b, rest) → Made n d e d2 before spell Good ts b rest
  pub deep : (ts at : List Lexeme) → p ts ≡ Err (TooDeep, at) → Deep n d e ts
  pub example : d ≤ n → Example before spell Good
  pub stuck : d ≤ n → Sticks before p spell Good
  pub steady : Steady p

module _ {B : Type 0} {n d d2 : ℕ} {e : Bool} {before : List Piece → List Piece} {p : Parser B} {spell : B → List Piece} {Good : B → Type 0} where
  pub made : Walks n d e d2 before p spell Good → Makes n d e d2 before p spell Good
  made w = record { reads = w.reads; deep = w.deep; example = w.example; stuck = w.stuck }

  pub walks : Makes n d e d2 before p spell Good → Steady p → Walks n d e d2 before p spell Good
  walks m s = record { reads = m.reads; deep = m.deep; example = m.example; stuck = m.stuck; steady = s }

abbrev pub afresh : List Piece → List Piece
afresh ps = ps

-- a rule of the grammar, where d of n levels are open
abbrev pub Rule : {B : Type 0} → ℕ → ℕ → Parser B → (B → List Piece) → (B → Type 0) → Type 0
Rule n d p spell Good = Walks n d false d afresh p spell Good

pub m_pure : {B : Type 0} {n d : ℕ} {before : List Piece → List Piece} {b : B} {spell : B → List Piece} {Good : B → Type 0} →
    d ≤ n → spell b ≡ before [] → Good b → Makes n d false d before (λ ts. Ok (b, ts)) spell Good
m_pure {B} {n} {d} {before} {b} {spell} {Good} le is good = record {
  reads = λ ts x rest h. at_pure (λ y us. Made n d false d before spell Good ts y us) b x ts rest h (record { more = []; is = is; spelled = refl; formed = good; walk = walk_none n d false ts le });
  deep = λ ts at h. pure_err _ (TooDeep, at) h;
  example = λ _. record { tree = b; more = []; is = is; formed = good };
  stuck = λ _ ts why at h met. pure_err _ (why, at) h;
}

pub w_pure : {B : Type 0} {n d : ℕ} {before : List Piece → List Piece} {b : B} {spell : B → List Piece} {Good : B → Type 0} →
    d ≤ n → spell b ≡ before [] → Good b → Walks n d false d before (λ ts. Ok (b, ts)) spell Good
w_pure le is good = walks (m_pure le is good) steady_pure

-- a rule, and what follows it
pub m_then : {A B : Type 0} {n d d2 : ℕ} {before : List Piece → List Piece} {p : Parser A} {f : A → Parser B} {part : A → List Piece} {Part : A → Type 0} {spell : B → List Piece} {Good : B → Type 0} →
    Makes n d false d afresh p part Part → ((a : A) → Part a → d ≤ n → Makes n d false d2 (λ r. before (part a ++ r)) (f a) spell Good) → Makes n d false d2 before (λ ts. and_then (p ts) f) spell Good
m_then {A} {B} {n} {d} {d2} {before} {p} {f} {part} {Part} {spell} {Good} first next = record {
  reads = λ ts b rest h.
      let a = bind_ok (p ts) f (b, rest) h in
      let m = first.reads ts a.0.0 a.0.1 a.1 in
      let g = (next a.0.0 m.formed (walk_least m.walk)).reads a.0.1 b rest a.2 in
      record { more = part a.0.0 ++ g.more; is = g.is; spelled = spells_append (part a.0.0) g.more ts a.0.1 rest (whole m) g.spelled; formed = g.formed; walk = walk_append m.walk g.walk };
  deep = λ ts at h. ⊎_elim (first.deep ts at)
      (λ a. let m = first.reads ts a.0.0 a.0.1 a.1 in deep_after m.walk ((next a.0.0 m.formed (walk_least m.walk)).deep a.0.1 at a.2))
      (bind_err (p ts) f (TooDeep, at) h);
  example = λ le.
      let a = first.example le in
      let x = (next a.tree a.formed le).example le in
      record { tree = x.tree; more = part a.tree ++ x.more; is = x.is; formed = x.formed };
  stuck = λ le ts why at h met. ⊎_elim
      (λ e. let a = first.stuck le ts why at e met in halt_first a ((next a.example.tree a.example.formed le).example le))
      (λ a. let m = first.reads ts a.0.0 a.0.1 a.1 in halt_after (part a.0.0) (whole m) ((next a.0.0 m.formed le).stuck le a.0.1 why at a.2 met))
      (bind_err (p ts) f (why, at) h);
}
  where
    whole : {ts : List Lexeme} {a : A} {rest : List Lexeme} → Made n d false d afresh part Part ts a rest → Spells (part a) ts rest
    whole {ts} {a} {rest} m = subst (λ ps. Spells ps ts rest) (sym m.is) m.spelled

pub w_then : {A B : Type 0} {n d d2 : ℕ} {before : List Piece → List Piece} {p : Parser A} {f : A → Parser B} {part : A → List Piece} {Part : A → Type 0} {spell : B → List Piece} {Good : B → Type 0} →
    Walks n d false d afresh p part Part → ((a : A) → Part a → d ≤ n → Walks n d false d2 (λ r. before (part a ++ r)) (f a) spell Good) → Walks n d false d2 before (λ ts. and_then (p ts) f) spell Good
w_then first next = walks (m_then (made first) (λ a good le. made (next a good le)))
    (steady_then first.steady (λ ts a rest h. let m = first.reads ts a rest h in (next a m.formed (walk_least m.walk)).steady))

-- What a tree spells in place of another one, behind what was read of that.
abbrev pub Shows : {A B : Type 0} → (List Piece → List Piece) → (List Piece → List Piece) → (A → List Piece) → (A → Type 0) → (B → List Piece) → (B → Type 0) → (A → B) → Type 0
Shows {A} other before part Part spell Good g = (a : A) (more : List Piece) → Part a → part a ≡ other more → (spell (g a) ≡ before more) × Good (g a)

abbrev shown : {A B : Type 0} {other before : List Piece → List Piece} {part : A → List Piece} {Part : A → Type 0} {spell : B → List Piece} {Good : B → Type 0} (g : A → B) →
    Shows other before part Part spell Good g → Example other part Part → Example before spell Good
shown g shows x = let i = shows x.tree x.more x.formed x.is in record { tree = g x.tree; more = x.more; is = i.0; formed = i.1 }

-- a tree in place of what was read
pub w_map : {A B : Type 0} {n d d2 : ℕ} {e : Bool} {before other : List Piece → List Piece} {p : Parser A} {part : A → List Piece} {Part : A → Type 0} {spell : B → List Piece} {Good : B → Type 0} (g : A → B) →
    Shows other before part Part spell Good g → Walks n d e d2 other p part Part → Walks n d e d2 before (λ ts. and_then (p ts) (λ a us. Ok (g a, us))) spell Good
w_map {A} {B} {n} {d} {d2} {e} {before} {other} {p} {part} {Part} {spell} {Good} g shows w = record {
  reads = λ ts b rest h.
      let a = bind_ok (p ts) (λ a us. Ok (g a, us)) (b, rest) h in
      let m = w.reads ts a.0.0 a.0.1 a.1 in
      let i = shows a.0.0 m.more m.formed m.is in
      at_pure (λ y us. Made n d e d2 before spell Good ts y us) (g a.0.0) b a.0.1 rest a.2 (record { more = m.more; is = i.0; spelled = m.spelled; formed = i.1; walk = m.walk });
  deep = λ ts at h. ⊎_elim (w.deep ts at) (λ a. pure_err _ (TooDeep, at) a.2) (bind_err (p ts) (λ a us. Ok (g a, us)) (TooDeep, at) h);
  example = λ le. shown g shows (w.example le);
  stuck = λ le ts why at h met. ⊎_elim (λ x. let s = w.stuck le ts why at x met in halt_map s (shown g shows s.example) refl) (λ a. pure_err _ (why, at) a.2)
      (bind_err (p ts) (λ a us. Ok (g a, us)) (why, at) h);
  steady = steady_then w.steady (λ ts a rest h. steady_pure);
}

-- the same tree, spelled and well formed in another way
pub m_as : {B : Type 0} {n d d2 : ℕ} {e : Bool} {before other : List Piece → List Piece} {p : Parser B} {part spell : B → List Piece} {Part Good : B → Type 0} →
    Shows other before part Part spell Good (λ b. b) → Makes n d e d2 other p part Part → Makes n d e d2 before p spell Good
m_as {B} {n} {d} {d2} {e} {before} {other} {p} {part} {spell} {Part} {Good} shows w = record {
  reads = λ ts b rest h.
      let m = w.reads ts b rest h in
      let i = shows b m.more m.formed m.is in
      record { more = m.more; is = i.0; spelled = m.spelled; formed = i.1; walk = m.walk };
  deep = w.deep;
  example = λ le. shown (λ b. b) shows (w.example le);
  stuck = λ le ts why at h met. let s = w.stuck le ts why at h met in halt_map s (shown (λ b. b) shows s.example) refl;
}

pub w_as : {B : Type 0} {n d d2 : ℕ} {e : Bool} {before other : List Piece → List Piece} {p : Parser B} {part spell : B → List Piece} {Part Good : B → Type 0} →
    Shows other before part Part spell Good (λ b. b) → Walks n d e d2 other p part Part → Walks n d e d2 before p spell Good
w_as shows w = walks (m_as shows (made w)) w.steady

-- a rule, and nothing more
pub w_last : {A B : Type 0} {n d : ℕ} {before : List Piece → List Piece} {p : Parser A} {part : A → List Piece} {Part : A → Type 0} {spell : B → List Piece} {Good : B → Type 0} (g : A → B) →
    Walks n d false d afresh p part Part → ((a : A) → Part a → (spell (g a) ≡ before (part a)) × Good (g a)) → Walks n d false d before (λ ts. and_then (p ts) (λ a us. Ok (g a, us))) spell Good
w_last {A} {B} {n} {d} {before} g first is = w_map g (λ a more good same. let i = is a good in (i.0 ∙ ap before same, i.1)) first

-- a rule, and nothing more, where what is spelled as its tree is also spelled as the other one
pub w_spelled : {A B : Type 0} {n d : ℕ} {p : Parser A} {part : A → List Piece} {Part : A → Type 0} {spell : B → List Piece} {Good : B → Type 0} (g : A → B) →
    Rule n d p part Part → ((a : A) → Part a → ((ts rest : List Lexeme) → Spells (part a) ts rest → Spells (spell (g a)) ts rest) × Good (g a)) → Rule n d (λ ts. and_then (p ts) (λ a us. Ok (g a, us))) spell Good
w_spelled {A} {B} {n} {d} {p} {part} {Part} {spell} {Good} g w is = record {
  reads = λ ts b rest h.
      let a = bind_ok (p ts) (λ x us. Ok (g x, us)) (b, rest) h in
      let m = w.reads ts a.0.0 a.0.1 a.1 in
      let i = is a.0.0 m.formed in
      at_pure (λ y us. Made n d false d afresh spell Good ts y us) (g a.0.0) b a.0.1 rest a.2
      (record { more = spell (g a.0.0); is = refl; spelled = i.0 ts a.0.1 (subst (λ ps. Spells ps ts a.0.1) (sym m.is) m.spelled); formed = i.1; walk = m.walk });
  deep = λ ts at h. ⊎_elim (w.deep ts at) (λ a. pure_err _ (TooDeep, at) a.2) (bind_err (p ts) (λ a us. Ok (g a, us)) (TooDeep, at) h);
  example = λ le. other (w.example le);
  stuck = λ le ts why at h met. ⊎_elim (λ x. halts (w.stuck le ts why at x met)) (λ a. pure_err _ (why, at) a.2) (bind_err (p ts) (λ a us. Ok (g a, us)) (why, at) h);
  steady = steady_then w.steady (λ ts a rest h. steady_pure);
}
  where
    other : Example afresh part Part → Example afresh spell Good
    other x = record { tree = g x.tree; more = spell (g x.tree); is = refl; formed = (is x.tree x.formed).1 }

    halts : {ts at : List Lexeme} → Halts afresh part Part ts at → Halts afresh spell Good ts at
    halts h =
        let x = h.example in
        record {
          front = h.front;
          split = h.split;
          behind = h.behind;
          example = other x;
          spelled = (is x.tree x.formed).0 (h.front ++ h.behind) [] (subst (λ ps. Spells ps (h.front ++ h.behind) []) (sym x.is) h.spelled);
        }

-- a rule that ends what is read
pub w_ends : {B : Type 0} {n d : ℕ} {before : List Piece → List Piece} {p : Parser B} {part spell : B → List Piece} {Part Good : B → Type 0} →
    ((b : B) → spell b ≡ before (part b)) → ((b : B) → Part b → Good b) → Rule n d p part Part → Walks n d false d before p spell Good
w_ends {B} {n} {d} {before} is good w = w_as (λ b more part same. (is b ∙ ap before same, good b part)) w

-- a rule, behind what was read before
pub w_rule : {B : Type 0} {n d : ℕ} {before : List Piece → List Piece} {p : Parser B} {part spell : B → List Piece} {Good : B → Type 0} →
    ((b : B) → spell b ≡ before (part b)) → Rule n d p part Good → Walks n d false d before p spell Good
w_rule is w = w_ends is (λ b good. good) w

pub w_weaken : {B : Type 0} {n d d2 : ℕ} {e : Bool} {before : List Piece → List Piece} {p : Parser B} {spell : B → List Piece} {Part Good : B → Type 0} →
    ((b : B) → Part b → Good b) → Walks n d e d2 before p spell Part → Walks n d e d2 before p spell Good
w_weaken good w = w_as (λ b more part same. (same, good b part)) w

pub w_before : {B : Type 0} {n d d2 : ℕ} {e : Bool} {before other : List Piece → List Piece} {p : Parser B} {spell : B → List Piece} {Good : B → Type 0} →
    ((ps : List Piece) → other ps ≡ before ps) → Walks n d e d2 other p spell Good → Walks n d e d2 before p spell Good
w_before same w = w_as (λ b more good is. (is ∙ same more, good)) w

pub m_weaken : {B : Type 0} {n d d2 : ℕ} {e : Bool} {before : List Piece → List Piece} {p : Parser B} {spell : B → List Piece} {Part Good : B → Type 0} →
    ((b : B) → Part b → Good b) → Makes n d e d2 before p spell Part → Makes n d e d2 before p spell Good
m_weaken good w = m_as (λ b more part same. (same, good b part)) w

pub m_before : {B : Type 0} {n d d2 : ℕ} {e : Bool} {before other : List Piece → List Piece} {p : Parser B} {spell : B → List Piece} {Good : B → Type 0} →
    ((ps : List Piece) → other ps ≡ before ps) → Makes n d e d2 other p spell Good → Makes n d e d2 before p spell Good
m_before same w = m_as (λ b more good is. (is ∙ same more, good)) w
