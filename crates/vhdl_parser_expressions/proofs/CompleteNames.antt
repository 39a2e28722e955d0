-- Names, parentheses and whole expressions that are spelled are read.
use Rattle.std.proofs.Common.{◌≡◌, ℕ, zero, suc, ◌≤◌, ◌<◌, Bool, true, false, List, [], ◌∷◌, ◌++◌, length, Ok, Option, Some, None, inl, inr, refl, sym, ap, ◌∙◌, subst, append_assoc, append-nil, length-append, arith}
use Rattle.vhdl_lexer.specs.declared.language.Language.{Language}
use Rattle.vhdl_lexer.specs.declared.language.Language.TheVariants.{Profile, Wide}
use Rattle.vhdl_lexer.specs.declared.token.TokenKind.{TokenKind}
use Rattle.vhdl_lexer.specs.declared.token.TokenKind.TheVariants as k
use Rattle.vhdl_parser_expressions.specs.declared.operator.Level.TheVariants.{Logical}
use Rattle.vhdl_tree.specs.declared.operator.Direction.{Direction}
use Rattle.vhdl_tree.specs.declared.operator.Direction.TheVariants.{To, Downto}
use Rattle.vhdl_tree.specs.Lexeme.{Lexeme, same_kind}
use Rattle.vhdl_tree.specs.Tree.{Attribute, called, of_range, Expr, parens, Suffix, plain, arguments, sliced, Exprs, no_exprs, expr, exprs_of, Name}
use Rattle.vhdl_tree.specs.Pieces.{Piece, some, one_at, word_at, Spells, spell_ident, spell_option, IsOption}
use Rattle.vhdl_tree.specs.grammar.Expressions.{direction_kind, spell_attribute, spell, spell_suffix, spell_more, spell_name, IsAttributeIn, IsExprIn, IsSuffixIn, AreExprsIn, IsNameIn}
use Rattle.vhdl_parser_expressions.specs.reader.Input.{next_kind, is_kind, optional, many_from}
use Rattle.vhdl_parser_expressions.specs.reader.Expressions.{attribute, direction_at, narrow_parenthesis, argument, range_from, arguments_from, suffix_by, suffix, optional_suffix, name_from, name, inner, inside}
use Rattle.vhdl_parser_expressions.proofs.Steps.{spells_append, spells_split, spells_length}
use Rattle.vhdl_parser_expressions.proofs.Operators.{grip, binding_least, is_here}
use Rattle.vhdl_parser_expressions.proofs.Yields.{Yields, yields_then, yields_is, yields_bind, expect_at, expect_some, reads_ident, front}
use Rattle.vhdl_parser_expressions.proofs.Powers.{Stops, kind_stops, stops_loosely}
use Rattle.vhdl_parser_expressions.proofs.Complete.{Complete, closed}

-- ---- attributes

pub not_here : (kind : TokenKind) (next : Option TokenKind) → grip (Some kind) ≡ 7 → grip next < 7 → is_kind kind next ≡ false
not_here kind next g s = by_test (is_kind kind next) refl
  where
    by_test : (b : Bool) → is_kind kind next ≡ b → is_kind kind next ≡ false
    by_test false e = e
    by_test true e = let same = ap grip (is_here kind next e) in absurd (omega (arith, same, g, s))

attribute_at : (language : Language) (a : Attribute) → IsAttributeIn language a → (ts rest : List Lexeme) → Spells (spell_attribute a) ts rest → attribute language ts ≡ Ok (a, rest)
unfolding attribute same_kind
attribute_at Profile (called name) f ts rest h =
    let cut = spells_split (some k.Tick ∷ []) (spell_ident name) ts rest h in
    let tick = expect_some k.Tick ts cut.0 cut.1 in
    rw (tick.1, reads_ident name cut.0 rest cut.2) refl
attribute_at Wide (called name) f ts rest h =
    let cut = spells_split (some k.Tick ∷ []) (spell_ident name) ts rest h in
    let tick = expect_some k.Tick ts cut.0 cut.1 in
    rw (tick.1, front (word_at name.at name.text) [] k.Identifier cut.0 rest (λ l i. i.0) cut.2, reads_ident name cut.0 rest cut.2) refl
attribute_at Profile (of_range at) f ts rest h = absurd f
attribute_at Wide (of_range at) f ts rest h =
    let cut = spells_split (some k.Tick ∷ []) (one_at k.Range at ∷ []) ts rest h in
    let tick = expect_some k.Tick ts cut.0 cut.1 in
    rw (tick.1, front (one_at k.Range at) [] k.Range cut.0 rest (λ l i. i.0) cut.2, expect_at k.Range at cut.0 rest cut.2) refl

pub tick_first : (a : Attribute) (ts rest : List Lexeme) → Spells (spell_attribute a) ts rest → next_kind ts ≡ Some k.Tick
tick_first (called name) ts rest h = front (some k.Tick) (spell_ident name) k.Tick ts rest (λ l i. i) h
tick_first (of_range at) ts rest h = front (some k.Tick) (one_at k.Range at ∷ []) k.Tick ts rest (λ l i. i) h

attribute_reads : (language : Language) (a : Option Attribute) → IsOption (IsAttributeIn language) a → (ts rest : List Lexeme) → Spells (spell_option spell_attribute a) ts rest → Stops 7 rest →
    optional (is_kind k.Tick) (attribute language) ts ≡ Ok (a, rest)
unfolding optional same_kind
attribute_reads language None f ts rest h s = rw (h, not_here k.Tick (next_kind rest) refl (kind_stops 7 rest s))
attribute_reads language (Some a) f ts rest h s = rw (tick_first a ts rest h, attribute_at language a f ts rest h)

no_paren : (a : Option Attribute) (ts rest : List Lexeme) → Spells (spell_option spell_attribute a) ts rest → Stops 7 rest → is_kind k.LeftParen (next_kind ts) ≡ false
unfolding same_kind
no_paren None ts rest h s = rw h (not_here k.LeftParen (next_kind rest) refl (kind_stops 7 rest s))
no_paren (Some a) ts rest h s = ap (is_kind k.LeftParen) (tick_first a ts rest h)

pub direction_seen : (d : Direction) → (direction_at (Some (direction_kind d)) ≡ Some d) × (grip (Some (direction_kind d)) ≡ 0)
direction_seen To = (refl, refl)
direction_seen Downto = (refl, refl)

pub list_of : Exprs → List Expr
list_of no_exprs = []
list_of (expr e more) = e ∷ list_of more

exprs_of-list_of : (es : Exprs) → exprs_of (list_of es) ≡ es
unfolding list_of
exprs_of-list_of no_exprs = refl
exprs_of-list_of (expr e more) = ap (expr e) (exprs_of-list_of more)

list_short : (es : Exprs) → length (list_of es) ≤ length (spell_more es)
unfolding list_of
list_short no_exprs = omega arith
list_short (expr e more) = omega (arith, list_short more, length-append (spell e) (spell_more more))

stops_at : (kind : TokenKind) (ps : List Piece) (ts rest : List Lexeme) → grip (Some kind) ≡ 0 → Spells (some kind ∷ ps) ts rest → Stops 1 ts
stops_at kind ps ts rest g h = let e = ap grip (front (some kind) ps kind ts rest (λ l i. i) h) in stops_loosely 1 ts (omega arith) (omega (arith, e, g))

-- in a language
module _ (language : Language) where
  -- ---- what stands in a parenthesis

  pub inside_reads : (e : Expr) → Complete language e → IsExprIn language e → (n : ℕ) (ts rest : List Lexeme) → Spells (spell e) ts rest → Stops 1 rest → Yields (inside language n ts) (Ok (e, rest))
  unfolding inside
  inside_reads e c f zero ts rest h s = inr (ts, refl)
  inside_reads e c f (suc n) ts rest h s = closed language Logical e (c.as_chain Logical (binding_least e) f) n ts rest h s

  pub parens_reads : (at : ℕ) (e : Expr) → Complete language e → IsExprIn language e → (n : ℕ) (ts rest : List Lexeme) → Spells (spell (parens at e)) ts rest → Yields (narrow_parenthesis (inner language n) ts) (Ok (parens at e, rest))
  unfolding narrow_parenthesis
  parens_reads at e c f n ts rest h =
      let opened = spells_split (one_at k.LeftParen at ∷ []) (spell e ++ some k.RightParen ∷ []) ts rest h in
      let shut = spells_split (spell e) (some k.RightParen ∷ []) opened.0 rest opened.2 in
      let close = expect_some k.RightParen shut.0 rest shut.2 in
      yields_bind _ (inl (expect_at k.LeftParen at ts opened.0 opened.1))
      (yields_bind _ (inside_reads e c f n opened.0 shut.0 shut.1 (stops_at k.RightParen [] shut.0 rest refl shut.2))
      (yields_bind _ (inl close.1) (inl refl)))

  -- ---- suffixes

  pub record SuffixComplete (s : Suffix) : Type 0 where
    pub as_suffix : IsSuffixIn language s → (n : ℕ) (ts rest : List Lexeme) → Spells (spell_suffix s) ts rest → is_kind k.LeftParen (next_kind rest) ≡ false →
        Yields (optional_suffix (inner language n) ts) (Ok (s, rest))

  pub plain_complete : SuffixComplete plain
  unfolding optional_suffix
  plain_complete = record { as_suffix = λ f n ts rest h s. inl (subst (λ us. optional_suffix (inner language n) us ≡ Ok (plain, rest)) (sym h) (rw s)) }

  -- a suffix, after its first expression
  module _ (x : Suffix) (first : Expr) (ps : List Piece) (is : spell_suffix x ≡ some k.LeftParen ∷ (spell first ++ ps)) (c : Complete language first) (f : IsExprIn language first)
      (next : Option Direction) (stops : (us rest : List Lexeme) → Spells ps us rest → Stops 1 us × (direction_at (next_kind us) ≡ next))
      (after : (n : ℕ) (us rest : List Lexeme) → Spells ps us rest → Yields (suffix_by (inner language n) first next us) (Ok (x, rest))) where
    suffix_from : (n : ℕ) (ts rest : List Lexeme) → Spells (spell_suffix x) ts rest → Yields (optional_suffix (inner language n) ts) (Ok (x, rest))
    unfolding optional_suffix suffix same_kind
    suffix_from n ts rest g =
        let h = subst (λ qs. Spells qs ts rest) is g in
        let opened = spells_split (some k.LeftParen ∷ []) (spell first ++ ps) ts rest h in
        let cut = spells_split (spell first) ps opened.0 rest opened.2 in
        let left = expect_some k.LeftParen ts opened.0 opened.1 in
        let s = stops cut.0 rest cut.2 in
        rw (front (some k.LeftParen) (spell first ++ ps) k.LeftParen ts rest (λ l i. i) h)
        (yields_bind _ (inl left.1)
        (yields_bind _ (inside_reads first c f n opened.0 cut.0 cut.1 s.0)
        (yields_is (ap (λ d. suffix_by (inner language n) first d cut.0) s.1) (after n cut.0 rest cut.2))))

  pub sliced_complete : (left : Expr) (d : Direction) (right : Expr) → Complete language left → Complete language right → SuffixComplete (sliced left d right)
  unfolding range_from
  sliced_complete left d right cl cr = record {
    as_suffix = λ f n ts rest h s. suffix_from (sliced left d right) left (some (direction_kind d) ∷ (spell right ++ some k.RightParen ∷ [])) refl cl f.0 (Some d)
        (λ us rest g. (stops_at (direction_kind d) (spell right ++ some k.RightParen ∷ []) us rest (direction_seen d).1 g, ap direction_at (front (some (direction_kind d)) (spell right ++ some k.RightParen ∷ []) (direction_kind d) us rest (λ l i. i) g) ∙ (direction_seen d).0))
        (after f.1) n ts rest h;
  }
    where
      after : IsExprIn language right → (n : ℕ) (us rest : List Lexeme) → Spells (some (direction_kind d) ∷ (spell right ++ some k.RightParen ∷ [])) us rest → Yields (range_from (inner language n) left d us) (Ok (sliced left d right, rest))
      after f n us rest g =
          let word = spells_split (some (direction_kind d) ∷ []) (spell right ++ some k.RightParen ∷ []) us rest g in
          let shut = spells_split (spell right) (some k.RightParen ∷ []) word.0 rest word.2 in
          let direction = expect_some (direction_kind d) us word.0 word.1 in
          let close = expect_some k.RightParen shut.0 rest shut.2 in
          yields_bind _ (inl direction.1)
          (yields_bind _ (inside_reads right cr f n word.0 shut.0 shut.1 (stops_at k.RightParen [] shut.0 rest refl shut.2))
          (yields_bind _ (inl close.1) (inl refl)))

  -- ---- arguments

  -- what follows an argument
  more_stops : (es : Exprs) (ts rest : List Lexeme) → Spells (spell_more es ++ some k.RightParen ∷ []) ts rest → Stops 1 ts × (direction_at (next_kind ts) ≡ None)
  more_stops no_exprs ts rest h = (stops_at k.RightParen [] ts rest refl h, ap direction_at (front (some k.RightParen) [] k.RightParen ts rest (λ l i. i) h))
  more_stops (expr e more) ts rest h =
      (stops_at k.Comma ((spell e ++ spell_more more) ++ some k.RightParen ∷ []) ts rest refl h, ap direction_at (front (some k.Comma) ((spell e ++ spell_more more) ++ some k.RightParen ∷ []) k.Comma ts rest (λ l i. i) h))

  pub record MoreComplete (es : Exprs) : Type 0 where
    pub as_more : AreExprsIn language es → (n turns : ℕ) (found : List Expr) (ts mid rest : List Lexeme) → length (list_of es) ≤ turns →
        Spells (spell_more es) ts mid → Spells (some k.RightParen ∷ []) mid rest →
        Yields (many_from (is_kind k.Comma) (argument (inner language n)) turns found ts) (Ok (found ++ list_of es, mid))

  pub none_complete : MoreComplete no_exprs
  unfolding many_from list_of same_kind
  none_complete = record { as_more = λ f n turns found ts mid rest le h g. inl (subst (λ us. many_from (is_kind k.Comma) (argument (inner language n)) turns found us ≡ Ok (found ++ [], mid)) (sym h) (by_turns n turns found mid rest g)) }
    where
      by_turns : (n turns : ℕ) (found : List Expr) (mid rest : List Lexeme) → Spells (some k.RightParen ∷ []) mid rest → many_from (is_kind k.Comma) (argument (inner language n)) turns found mid ≡ Ok (found ++ [], mid)
      by_turns n zero found mid rest g = rw append-nil
      by_turns n (suc turns) found mid rest g = rw (front (some k.RightParen) [] k.RightParen mid rest (λ l i. i) g, append-nil)

  argument_reads : (e : Expr) → Complete language e → IsExprIn language e → (n : ℕ) (ts rest : List Lexeme) → Spells (some k.Comma ∷ spell e) ts rest → Stops 1 rest → Yields (argument (inner language n) ts) (Ok (e, rest))
  unfolding argument
  argument_reads e c f n ts rest h s =
      let cut = spells_split (some k.Comma ∷ []) (spell e) ts rest h in
      let comma = expect_some k.Comma ts cut.0 cut.1 in
      yields_bind _ (inl comma.1) (inside_reads e c f n cut.0 rest cut.2 s)

  pub more_complete : (e : Expr) (more : Exprs) → Complete language e → MoreComplete more → MoreComplete (expr e more)
  unfolding list_of many_from same_kind
  more_complete e more c m = record { as_more = by_turns }
    where
      by_turns : AreExprsIn language (expr e more) → (n turns : ℕ) (found : List Expr) (ts mid rest : List Lexeme) → suc (length (list_of more)) ≤ turns →
          Spells (spell_more (expr e more)) ts mid → Spells (some k.RightParen ∷ []) mid rest →
          Yields (many_from (is_kind k.Comma) (argument (inner language n)) turns found ts) (Ok (found ++ e ∷ list_of more, mid))
      by_turns f n zero found ts mid rest le h g = absurd (omega (arith, le))
      by_turns f n (suc turns) found ts mid rest le h g =
          let cut = spells_split (some k.Comma ∷ spell e) (spell_more more) ts mid h in
          let s = more_stops more cut.0 rest (spells_append (spell_more more) (some k.RightParen ∷ []) cut.0 mid rest cut.2 g) in
          rw (front (some k.Comma) (spell e ++ spell_more more) k.Comma ts mid (λ l i. i) h)
          (yields_bind _ (argument_reads e c f.0 n ts cut.0 cut.1 s.0)
          (yields_then (m.as_more f.1 n turns (found ++ e ∷ []) cut.0 mid rest (omega (arith, le)) cut.2 g) (inl (ap (λ xs. Ok (xs, mid)) (append_assoc found (e ∷ []) (list_of more))))))

  pub arguments_complete : (e : Expr) (more : Exprs) → Complete language e → MoreComplete more → SuffixComplete (arguments (expr e more))
  unfolding arguments_from
  arguments_complete e more c m = record {
    as_suffix = λ f n ts rest h s. suffix_from (arguments (expr e more)) e (spell_more more ++ some k.RightParen ∷ []) (ap (λ ps. some k.LeftParen ∷ ps) (append_assoc (spell e) (spell_more more) (some k.RightParen ∷ []))) c f.0 None
        (more_stops more) (after f.1) n ts rest h;
  }
    where
      after : AreExprsIn language more → (n : ℕ) (us rest : List Lexeme) → Spells (spell_more more ++ some k.RightParen ∷ []) us rest → Yields (arguments_from (inner language n) e us) (Ok (arguments (expr e more), rest))
      after f n us rest g =
          let shut = spells_split (spell_more more) (some k.RightParen ∷ []) us rest g in
          let close = expect_some k.RightParen shut.0 rest shut.2 in
          yields_bind _ (m.as_more f n (length us) (e ∷ []) us shut.0 rest (omega (arith, list_short more, spells_length (spell_more more) us shut.0 shut.1)) shut.1 shut.2)
          (yields_bind _ (inl close.1) (inl (ap (λ es. Ok (arguments (expr e es), rest)) (exprs_of-list_of more))))

  -- ---- names

  pub name_from_reads : (x : Name) → SuffixComplete x.suffix → IsNameIn language x → (n : ℕ) (ts rest : List Lexeme) → Spells (spell_suffix x.suffix ++ spell_option spell_attribute x.attribute) ts rest → Stops 7 rest →
      Yields (name_from (inner language n) x.identifier ts) (Ok (x, rest))
  unfolding name_from
  name_from_reads x c f n ts rest h s =
      let cut = spells_split (spell_suffix x.suffix) (spell_option spell_attribute x.attribute) ts rest h in
      yields_bind _ (c.as_suffix f.0 n ts cut.0 cut.1 (no_paren x.attribute cut.0 rest cut.2 s))
      (yields_bind _ (inl (attribute_reads language x.attribute f.1 cut.0 rest cut.2 s)) (inl refl))

  pub name_reads : (x : Name) → SuffixComplete x.suffix → IsNameIn language x → (n : ℕ) (ts rest : List Lexeme) → Spells (spell_name x) ts rest → Stops 7 rest → Yields (name (inner language n) ts) (Ok (x, rest))
  unfolding name
  name_reads x c f n ts rest h s =
      let word = spells_split (spell_ident x.identifier) (spell_suffix x.suffix ++ spell_option spell_attribute x.attribute) ts rest h in
      yields_bind _ (inl (reads_ident x.identifier ts word.0 word.1)) (name_from_reads x c f n word.0 rest word.2 s)
