-- What is spelled is read, or refused for its depth: one lemma for each way in which readers are made.
use Rattle.std.proofs.Common.{◌≡◌, ℕ, zero, suc, ◌≤◌, Bool, true, false, cond, List, [], ◌∷◌, ◌++◌, length, Ok, Option, Some, None, inl, inr, refl, sym, ap, ◌∙◌, subst, append_assoc, append-nil, length-append, arith}
use Rattle.vhdl_lexer.specs.declared.token.TokenKind.{TokenKind}
use Rattle.vhdl_lexer.specs.declared.token.TokenKind.TheVariants as k
use Rattle.vhdl_tree.specs.Lexeme.{Lexeme, same_kind}
use Rattle.vhdl_tree.specs.Tree.{Ident}
use Rattle.vhdl_tree.specs.Pieces.{Piece, some, one_at, word_at, Is, Spells, spell_word, spell_option, spell_each, spell_list, IsEach, IsList, IsOption}
use Rattle.vhdl_tree.proofs.Room.{kind_of_piece, kind_is}
use Rattle.vhdl_parser_expressions.specs.reader.Input.{Outcome, Parser, and_then, token, expect, identifier, next_kind, is_kind, test, eat, optional, many_from, many, separated, below}
use Rattle.vhdl_parser_expressions.proofs.Steps.{spells_split, spells_length, kind_same, takes}
use Rattle.vhdl_parser_expressions.proofs.Yields.{Yields, yields_is, yields_bind}

-- the outcome is this, or the depth refuses it
abbrev pub Reaches : {A : Type 0} → Outcome A → A → List Lexeme → Type 0
Reaches r a rest = Yields r (Ok (a, rest))

-- the tree a, spelled by these pieces, is read where what follows meets F
pub record Gives {A : Type 0} (p : Parser A) (a : A) (ps : List Piece) (F : Option TokenKind → Type 0) : Type 0 where
  pub reads : (ts rest : List Lexeme) → Spells ps ts rest → F (next_kind rest) → Reaches (p ts) a rest

-- whatever follows
abbrev pub Whatever : Option TokenKind → Type 0
Whatever next = Unit {0}

-- the kind at the front of pieces, where this one follows them
abbrev pub front : List Piece → Option TokenKind → Option TokenKind
front [] next = next
front (p ∷ ps) next = Some (kind_of_piece p)

pub front_is : (ps : List Piece) (ts rest : List Lexeme) → Spells ps ts rest → next_kind ts ≡ front ps (next_kind rest)
unfolding next_kind
front_is [] ts rest h = ap next_kind h
front_is (p ∷ ps) [] rest h = absurd h
front_is (p ∷ ps) (t ∷ ts) rest h = ap (λ x. Some x) (kind_is p t h.0)

pub g_pure : {A : Type 0} {a : A} {F : Option TokenKind → Type 0} → Gives (λ ts. Ok (a, ts)) a [] F
g_pure {A} {a} = record { reads = λ ts rest h f. inl (ap (λ us. Ok (a, us)) h) }

-- a rule, and what follows it
pub g_then : {A B : Type 0} {p : Parser A} {a : A} {b : B} {ps qs : List Piece} {F G : Option TokenKind → Type 0} (f : A → Parser B) →
    Gives p a ps F → Gives (f a) b qs G → ((next : Option TokenKind) → G next → F (front qs next)) → Gives (λ ts. and_then (p ts) f) b (ps ++ qs) G
g_then {A} {B} {p} {a} {b} {ps} {qs} {F} {G} f first next follows = record {
  reads = λ ts rest h g.
      let s = spells_split ps qs ts rest h in
      yields_bind f (first.reads ts s.0 s.1 (subst F (sym (front_is qs s.0 rest s.2)) (follows (next_kind rest) g))) (next.reads s.0 rest s.2 g);
}

pub g_map : {A B : Type 0} {p : Parser A} {a : A} {ps : List Piece} {F : Option TokenKind → Type 0} (g : A → B) → Gives p a ps F → Gives (λ ts. and_then (p ts) (λ x us. Ok (g x, us))) (g a) ps F
g_map {A} {B} {p} {a} {ps} {F} g first = record {
  reads = λ ts rest h f. yields_bind (λ x us. Ok (g x, us)) (first.reads ts rest h f) (inl refl);
}

-- ---- tokens

pub g_take : {A B : Type 0} {b : B} {ps : List Piece} {G : Option TokenKind → Type 0} (f : A → Parser B) (of : Lexeme → A) (kind : TokenKind) (p : Piece) →
    ((l : Lexeme) → Is p l → l.kind ≡ kind) → ((l : Lexeme) → Is p l → Gives (f (of l)) b ps G) → Gives (λ ts. and_then (and_then (token kind ts) (λ l us. Ok (of l, us))) f) b (p ∷ ps) G
g_take {A} {B} {b} {ps} {G} f of kind p is next = record { reads = go }
  where
    go : (ts rest : List Lexeme) → Spells (p ∷ ps) ts rest → G (next_kind rest) → Reaches (and_then (and_then (token kind ts) (λ l us. Ok (of l, us))) f) b rest
    go [] rest h g = absurd h
    go (t ∷ ts) rest h g =
        let e = takes kind of (t ∷ ts) t ts refl (is t h.0) in
        yields_bind f (inl e) ((next t h.0).reads ts rest h.1 g)

-- a token by itself
pub g_token : {A : Type 0} {a : A} {G : Option TokenKind → Type 0} (of : Lexeme → A) (kind : TokenKind) (p : Piece) →
    ((l : Lexeme) → Is p l → l.kind ≡ kind) → ((l : Lexeme) → Is p l → of l ≡ a) → Gives (λ ts. and_then (token kind ts) (λ l us. Ok (of l, us))) a (p ∷ []) G
g_token {A} {a} {G} of kind p is value = record { reads = go }
  where
    go : (ts rest : List Lexeme) → Spells (p ∷ []) ts rest → G (next_kind rest) → Reaches (and_then (token kind ts) (λ l us. Ok (of l, us))) a rest
    go [] rest h g = absurd h
    go (t ∷ ts) rest h g = inl (takes kind of (t ∷ ts) t ts refl (is t h.0) ∙ ap (λ x. Ok (x, ts)) (value t h.0) ∙ ap (λ us. Ok (a, us)) h.1)

module _ {B : Type 0} {b : B} {ps : List Piece} {G : Option TokenKind → Type 0} where
  pub g_at : {kind : TokenKind} {at : ℕ} (f : ℕ → Parser B) → Gives (f at) b ps G → Gives (λ ts. and_then (expect kind ts) f) b (one_at kind at ∷ ps) G
  unfolding expect
  g_at {kind} {at} f next = g_take f (λ l. l.at) kind (one_at kind at) (λ l i. i.0) (λ l i. subst (λ x. Gives (f x) b ps G) (sym i.1) next)

  pub g_some : {f : ℕ → Parser B} {kind : TokenKind} → ((at : ℕ) → Gives (f at) b ps G) → Gives (λ ts. and_then (expect kind ts) f) b (some kind ∷ ps) G
  unfolding expect
  g_some {f} {kind} next = g_take f (λ l. l.at) kind (some kind) (λ l i. i) (λ l i. next l.at)

  pub g_ident : {i : Ident} (f : Ident → Parser B) → Gives (f i) b ps G → Gives (λ ts. and_then (identifier ts) f) b (word_at i.at i.text ∷ ps) G
  unfolding identifier
  g_ident {i} f next = g_take f (λ l. record { at = l.at; text = l.text }) k.Identifier (word_at i.at i.text) (λ l h. h.0)
      (λ l h. let e : ◌≡◌ {A = Ident} i (record { at = l.at; text = l.text }) = rw (h.1, h.2) in subst (λ x. Gives (f x) b ps G) e next)

  -- where some depth refuses, nothing is owed
  pub g_below : (f : ℕ → Parser B) (n : ℕ) → ((m : ℕ) → n ≡ suc m → Gives (f m) b ps G) → Gives (λ ts. and_then (below n ts) f) b ps G
  unfolding below
  g_below f zero next = record { reads = λ ts rest h g. inr (ts, refl) }
  g_below f (suc m) next = next m refl

-- ---- choices

module _ {B : Type 0} {b : B} {ps : List Piece} {G : Option TokenKind → Type 0} where
  -- by the kind at the front of what is spelled
  pub g_choose : (by : Option TokenKind → Parser B) (here : Option TokenKind) → ((next : Option TokenKind) → G next → front ps next ≡ here) → Gives (by here) b ps G → Gives (λ ts. by (next_kind ts) ts) b ps G
  g_choose by here is w = record {
    reads = λ ts rest h g.
        let e = front_is ps ts rest h ∙ is (next_kind rest) g in
        yields_is (ap (λ x. by x ts) e) (w.reads ts rest h g);
  }

  pub g_yes : {p : Parser B} (q : Parser B) (begins : Option TokenKind → Bool) → ((next : Option TokenKind) → G next → begins (front ps next) ≡ true) → Gives p b ps G → Gives (test begins p q) b ps G
  g_yes {p} q begins is w = record {
    reads = λ ts rest h g.
        let e = ap begins (front_is ps ts rest h) ∙ is (next_kind rest) g in
        subst (λ t. Reaches (cond {A = Outcome B} t (p ts) (q ts)) b rest) (sym e) (w.reads ts rest h g);
  }

  pub g_no : {q : Parser B} (p : Parser B) (begins : Option TokenKind → Bool) → ((next : Option TokenKind) → G next → begins (front ps next) ≡ false) → Gives q b ps G → Gives (test begins p q) b ps G
  g_no {q} p begins is w = record {
    reads = λ ts rest h g.
        let e = ap begins (front_is ps ts rest h) ∙ is (next_kind rest) g in
        subst (λ t. Reaches (cond {A = Outcome B} t (p ts) (q ts)) b rest) (sym e) (w.reads ts rest h g);
  }

-- an optional word: another kind follows where it doesn't stand
pub eat_gives : (kind : TokenKind) (b : Bool) → same_kind kind kind ≡ true → Gives (eat kind) b (spell_word kind b) (λ next. is_kind kind next ≡ false)
unfolding eat
eat_gives kind true same = g_yes (λ ts. Ok (false, ts)) (is_kind kind) (λ next g. same) (g_some (λ at. g_pure))
eat_gives kind false same = g_no (λ ts. and_then (expect kind ts) (λ _ us. Ok (true, us))) (is_kind kind) (λ next g. g) g_pure

-- an optional item, which begins so, and doesn't follow where it is absent
pub option_gives : {A : Type 0} {item : Parser A} {part : A → List Piece} {Part : A → Type 0} {F : Option TokenKind → Type 0} (begins : Option TokenKind → Bool) →
    ((a : A) → Part a → Gives item a (part a) F) → ((a : A) → Part a → (next : Option TokenKind) → begins (front (part a) next) ≡ true) →
    (o : Option A) → IsOption Part o → Gives (optional begins item) o (spell_option part o) (λ next. (begins next ≡ false) × F next)
unfolding optional
option_gives {A} {item} {part} {Part} {F} begins each starts None good = g_no (λ ts. and_then (item ts) (λ x us. Ok (Some x, us))) begins (λ next g. g.0) g_pure
option_gives {A} {item} {part} {Part} {F} begins each starts (Some a) good =
    g_yes (λ ts. Ok (None, ts)) begins (λ next g. starts a good next) (record { reads = λ ts rest h g. (g_map (λ x. Some x) (each a good)).reads ts rest h g.1 })

-- ---- repetitions

module _ {A : Type 0} {item : Parser A} {part : A → List Piece} {Part : A → Type 0} {F : Option TokenKind → Type 0} (begins : Option TokenKind → Bool)
    (each : (a : A) → Part a → Gives item a (part a) F) (starts : (a : A) → Part a → (next : Option TokenKind) → begins (front (part a) next) ≡ true)
    (some_piece : (a : A) → 1 ≤ length (part a)) (goes_on : (next : Option TokenKind) → begins next ≡ true → F next) where
  -- another item follows, or what ends them
  follows : (xs : List A) → IsEach Part xs → (next : Option TokenKind) → (begins next ≡ false) × F next → F (front (spell_each part xs) next)
  follows [] good next g = g.1
  follows (x ∷ xs) good next g = goes_on _ (starts_more (part x) (starts x good.0 next) (some_piece x))
    where
      starts_more : (ps : List Piece) → begins (front ps next) ≡ true → 1 ≤ length ps → begins (front (ps ++ spell_each part xs) next) ≡ true
      starts_more [] e le = absurd (omega (arith, le))
      starts_more (p ∷ ps) e le = e

  many_stops : (turns : ℕ) (found : List A) → Gives (many_from begins item (suc turns) found) found [] (λ next. (begins next ≡ false) × F next)
  unfolding many_from
  many_stops turns found = g_no (λ us. and_then (item us) (λ x vs. many_from begins item turns (found ++ x ∷ []) vs)) begins (λ next e. e.0) g_pure

  pub many_gives : (xs : List A) → IsEach Part xs → (turns : ℕ) (found : List A) → length xs ≤ turns →
      Gives (many_from begins item turns found) (found ++ xs) (spell_each part xs) (λ next. (begins next ≡ false) × F next)
  unfolding many_from
  many_gives [] good zero found le = record { reads = λ ts rest h g. inl (rw (append-nil found, h)) }
  many_gives [] good (suc turns) found le = subst (λ ys. Gives (many_from begins item (suc turns) found) ys [] (λ next. (begins next ≡ false) × F next)) (sym (append-nil found)) (many_stops turns found)
  many_gives (x ∷ xs) good zero found le = absurd (omega (arith, le))
  many_gives (x ∷ xs) good (suc turns) found le =
      g_yes (λ us. Ok (found, us)) begins (λ next g. starts_all next)
      (subst (λ ys. Gives (λ ts. and_then (item ts) (λ y us. many_from begins item turns (found ++ y ∷ []) us)) ys (part x ++ spell_each part xs) (λ next. (begins next ≡ false) × F next))
      (append_assoc found (x ∷ []) xs)
      (g_then (λ y us. many_from begins item turns (found ++ y ∷ []) us) (each x good.0) (many_gives xs good.1 turns (found ++ x ∷ []) (omega (arith, le))) (λ next g. follows xs good.1 next g)))
    where
      starts_more : (ps : List Piece) (next : Option TokenKind) → begins (front ps next) ≡ true → 1 ≤ length ps → begins (front (ps ++ spell_each part xs) next) ≡ true
      starts_more [] next e le = absurd (omega (arith, le))
      starts_more (p ∷ ps) next e le = e

      starts_all : (next : Option TokenKind) → begins (front (part x ++ spell_each part xs) next) ≡ true
      starts_all next = starts_more (part x) next (starts x good.0 next) (some_piece x)

  each_short : (xs : List A) → length xs ≤ length (spell_each part xs)
  each_short [] = omega arith
  each_short (x ∷ xs) = omega (arith, each_short xs, length-append (part x) (spell_each part xs), some_piece x)

  -- those behind what was found
  pub more_gives : (xs : List A) → IsEach Part xs → (found : List A) → Gives (many begins item found) (found ++ xs) (spell_each part xs) (λ next. (begins next ≡ false) × F next)
  more_gives xs good found = record { reads = λ ts rest h g. (many_gives xs good (length ts) found (omega (arith, each_short xs, spells_length (spell_each part xs) ts rest h))).reads ts rest h g }

-- item { separator item }
pub separated_gives : {A : Type 0} {item : Parser A} {part : A → List Piece} {Part : A → Type 0} {F : Option TokenKind → Type 0} (separator : TokenKind) → same_kind separator separator ≡ true → F (Some separator) →
    ((a : A) → Part a → Gives item a (part a) F) → (xs : List A) → IsList Part xs → Gives (separated separator item) xs (spell_list separator part xs) (λ kind. (is_kind separator kind ≡ false) × F kind)
unfolding separated
separated_gives {A} {item} {part} {Part} {F} separator same goes_on each [] good = absurd good
separated_gives {A} {item} {part} {Part} {F} separator same goes_on each (x ∷ xs) good =
    g_then (λ first us. many (is_kind separator) (λ ts. and_then (expect separator ts) (λ _. item)) (first ∷ []) us) (each x good.0)
    (more_gives (is_kind separator) (λ a fine. g_some (λ _. each a fine)) (λ a fine kind. same) (λ a. omega arith) (λ kind e. may_follow kind e) xs good.1 (x ∷ []))
    (λ kind g. behind xs kind g)
  where
    may_follow : (kind : Option TokenKind) → is_kind separator kind ≡ true → F kind
    may_follow None e = absurd (cc)
    may_follow (Some kind) e = subst (λ y. F (Some y)) (sym (kind_same kind separator e)) goes_on

    behind : (ys : List A) (kind : Option TokenKind) → (is_kind separator kind ≡ false) × F kind → F (front (spell_each (λ y. some separator ∷ part y) ys) kind)
    behind [] kind g = g.1
    behind (y ∷ ys) kind g = goes_on

-- a rule, where more is known of what follows
pub g_weaken : {A : Type 0} {p : Parser A} {a : A} {ps : List Piece} {F G : Option TokenKind → Type 0} → ((next : Option TokenKind) → G next → F next) → Gives p a ps F → Gives p a ps G
g_weaken weaker w = record { reads = λ ts rest h g. w.reads ts rest h (weaker (next_kind rest) g) }
