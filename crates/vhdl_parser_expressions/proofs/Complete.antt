-- Expressions that are spelled are read, level by level.
use Rattle.std.proofs.Common.{◌≡◌, ℕ, zero, suc, ◌≤◌, ◌<◌, Bool, true, false, List, [], ◌∷◌, length, Ok, Some, None, inl, inr, refl, ap, ◌∙◌, arith}
use Rattle.vhdl_lexer.specs.declared.language.Language.{Language}
use Rattle.vhdl_lexer.specs.declared.language.Language.TheVariants.{Profile, Wide}
use Rattle.vhdl_lexer.specs.declared.token.TokenKind.{TokenKind}
use Rattle.vhdl_lexer.specs.declared.token.TokenKind.TheVariants as k
use Rattle.vhdl_tree.specs.declared.operator.Operator.{Operator}
use Rattle.vhdl_parser_expressions.specs.declared.operator.Level.{Level}
use Rattle.vhdl_parser_expressions.specs.declared.operator.Level.TheVariants.{Logical, Relation, Adding, Multiplying}
use Rattle.vhdl_tree.specs.declared.operator.Sign.{Sign}
use Rattle.vhdl_tree.specs.declared.operator.Sign.TheVariants.{Plus, Minus}
use Rattle.vhdl_tree.specs.Lexeme.{Lexeme, same_kind}
use Rattle.vhdl_tree.specs.Tree.{Expr, negation, absolute, power, signed, binary, joined, begun}
use Rattle.vhdl_tree.specs.Pieces.{one_at, Spells}
use Rattle.vhdl_tree.specs.grammar.Expressions.{kind_of, sign_kind, spell, rank, binding, GoesOn, Leads, IsExprIn}
use Rattle.vhdl_parser_expressions.specs.reader.Input.{Parser, and_then, next_kind}
use Rattle.vhdl_parser_expressions.specs.reader.Expressions.{operator_at, next_operator, sign_at, primary_by, primary, inverse, magnitude, raised, sees_power, optional_power, factor, pair, more_from, more, begin, leading, term, operand_of, first_of, chain_of, inner}
use Rattle.vhdl_parser_expressions.proofs.Steps.{spells_split, spells_length}
use Rattle.vhdl_parser_expressions.proofs.Heads.{starless, wordless}
use Rattle.vhdl_parser_expressions.proofs.Powers.{hold, Stops, second_alone, power_seen, kind_stops, stops_kind, no_power, power_stops, factor_plain}
use Rattle.vhdl_parser_expressions.proofs.Operators.{level_rank, grip, grip-kind_of, reads_operator, first_none, next_none, CanGo, can_after, Alone, tight_alone, leads_binding, level_of, rank-level_of, rank_most}
use Rattle.vhdl_parser_expressions.proofs.Yields.{Yields, yields_then, yields_is, yields_bind, expect_at, front}

-- a rule, with so many levels to open, reads the tree where what comes next goes on less tightly than r
abbrev pub Reading : ℕ → (ℕ → Parser Expr) → Expr → Type 0
Reading r p e = (n : ℕ) (ts rest : List Lexeme) → Spells (spell e) ts rest → Stops r rest → Yields (p n ts) (Ok (e, rest))

-- The chain of a level reads the tree, and then it stands before what comes next: with the tree as its first operand, or with the tree as the chain so far.
pub data Opened (language : Language) (level : Level) (e : Expr) (n : ℕ) (ts rest : List Lexeme) : Type 0 where
  as_first : Alone level e → Yields (chain_of (inner language n) level ts) (begin (operand_of (inner language n) level) level e rest) → Opened language level e n ts rest
  as_chain : (turns : ℕ) (last : Operator) → length rest ≤ turns → CanGo level last e → ((op : Operator) → rank op ≡ level_rank level → Leads true op e → ⊥) →
      Yields (chain_of (inner language n) level ts) (more_from (operand_of (inner language n) level) turns level last e rest) → Opened language level e n ts rest

abbrev pub Opens : Language → Level → Expr → Type 0
Opens language level e = (n : ℕ) (ts rest : List Lexeme) → Spells (spell e) ts rest → Stops (suc (level_rank level)) rest → Opened language level e n ts rest

-- it begins with no sign
abbrev pub Unsigned : Expr → Type 0
Unsigned e = (ts rest : List Lexeme) → Spells (spell e) ts rest → sign_at (next_kind ts) ≡ None

-- in a language
module _ (language : Language) where
  -- how each rule reads a well-formed tree
  pub record Complete (e : Expr) : Type 0 where
    pub as_primary : 5 < binding e → IsExprIn language e → Reading 7 (λ n. primary (inner language n)) e
    pub as_factor : 4 < binding e → IsExprIn language e → Reading 5 (λ n. factor (inner language n)) e
    pub as_chain : (level : Level) → level_rank level ≤ binding e → IsExprIn language e → Opens language level e
    pub unsigned : 3 < binding e → IsExprIn language e → Unsigned e

  -- ---- the turns of a chain

  more_stop : (operand : Parser Expr) (turns : ℕ) (level : Level) (last : Operator) (e : Expr) (rest : List Lexeme) → next_operator level last (next_kind rest) ≡ None →
      more_from operand turns level last e rest ≡ Ok (e, rest)
  unfolding more_from
  more_stop operand zero level last e rest h = refl
  more_stop operand (suc turns) level last e rest h = rw h

  more_on : (operand : Parser Expr) (turns : ℕ) (level : Level) (last : Operator) (op : Operator) (left : Expr) (ts : List Lexeme) → next_operator level last (next_kind ts) ≡ Some op →
      more_from operand (suc turns) level last left ts ≡ and_then (pair operand op ts) (λ p us. more_from operand turns level op (joined left p) us)
  unfolding more_from
  more_on operand turns level last op left ts h = rw h

  begin_stop : (operand : Parser Expr) (level : Level) (e : Expr) (rest : List Lexeme) → operator_at level (next_kind rest) ≡ None → begin operand level e rest ≡ Ok (e, rest)
  unfolding begin
  begin_stop operand level e rest h = rw h

  begin_on : (operand : Parser Expr) (level : Level) (op : Operator) (first : Expr) (ts : List Lexeme) → operator_at level (next_kind ts) ≡ Some op →
      begin operand level first ts ≡ and_then (pair operand op ts) (λ p us. more operand level op (begun first p) us)
  unfolding begin
  begin_on operand level op first ts h = rw h

  -- where nothing goes on, the chain is the tree
  pub closed : (level : Level) (e : Expr) → Opens language level e → Reading (level_rank level) (λ n. chain_of (inner language n) level) e
  closed level e o n ts rest h s = by_state (o n ts rest h (omega (arith, s)))
    where
      by_state : Opened language level e n ts rest → Yields (chain_of (inner language n) level ts) (Ok (e, rest))
      by_state (as_first alone y) = yields_then y (inl (begin_stop (operand_of (inner language n) level) level e rest (first_none level (next_kind rest) (kind_stops (level_rank level) rest s))))
      by_state (as_chain turns last enough can no_first y) =
          yields_then y (inl (more_stop (operand_of (inner language n) level) turns level last e rest (next_none level last (next_kind rest) (kind_stops (level_rank level) rest s))))

  -- a first operand
  from_first : (level : Level) (e : Expr) → Alone level e → Reading (suc (level_rank level)) (λ n. first_of (inner language n) level) e → Opens language level e
  from_first level e alone f n ts rest h s = as_first alone (yields_bind _ (f n ts rest h s) (inl refl))

  -- ---- from level to level

  to_logical : (e : Expr) → 1 < binding e → Opens language Relation e → Opens language Logical e
  to_logical e b o = from_first Logical e (tight_alone Logical e b) (closed Relation e o)

  to_relation : (e : Expr) → 2 < binding e → Opens language Adding e → Opens language Relation e
  to_relation e b o = from_first Relation e (tight_alone Relation e b) (closed Adding e o)

  to_adding : (e : Expr) → 3 < binding e → Unsigned e → Opens language Multiplying e → Opens language Adding e
  unfolding leading
  to_adding e b u o = from_first Adding e (tight_alone Adding e b) unsigned_term
    where
      unsigned_term : Reading 4 (λ n. leading (term (inner language n))) e
      unsigned_term n ts rest h s = rw (u ts rest h) (closed Multiplying e o n ts rest h s)

  below_adding : (e : Expr) → 2 < binding e → Opens language Adding e → (level : Level) → level_rank level ≤ 3 → Opens language level e
  below_adding e b o Logical le = to_logical e (omega (arith, b)) (to_relation e b o)
  below_adding e b o Relation le = to_relation e b o
  below_adding e b o Adding le = o
  below_adding e b o Multiplying le = absurd (omega (arith, le))

  below_multiplying : (e : Expr) → 3 < binding e → Unsigned e → Opens language Multiplying e → (level : Level) → Opens language level e
  below_multiplying e b u o Adding = to_adding e b u o
  below_multiplying e b u o Multiplying = o
  below_multiplying e b u o level = below_adding e (omega (arith, b)) (to_adding e b u o) level (omega arith)

  pub of_factor : (e : Expr) → 4 < binding e → Unsigned e → Reading 5 (λ n. factor (inner language n)) e → (level : Level) → Opens language level e
  of_factor e b u f = below_multiplying e (omega (arith, b)) u (from_first Multiplying e (tight_alone Multiplying e b) f)

  -- the right operand of an operator
  operand_reads : (level : Level) (e : Expr) → Complete e → level_rank level < binding e → IsExprIn language e → Reading (suc (level_rank level)) (λ n. operand_of (inner language n) level) e
  operand_reads Logical e c b f = closed Relation e (c.as_chain Relation (omega (arith, b)) f)
  operand_reads Relation e c b f = closed Adding e (c.as_chain Adding (omega (arith, b)) f)
  operand_reads Adding e c b f = closed Multiplying e (c.as_chain Multiplying (omega (arith, b)) f)
  operand_reads Multiplying e c b f = c.as_factor b f

  -- ---- primaries that begin with a token of one kind

  module _ (e : Expr) (kind : TokenKind) (no_sign : sign_at (Some kind) ≡ None)
      (primary_tight : 5 < binding e) (begins : (ts rest : List Lexeme) → Spells (spell e) ts rest → next_kind ts ≡ Some kind)
      (read : IsExprIn language e → (n : ℕ) (ts rest : List Lexeme) → Spells (spell e) ts rest → Stops 7 rest → Yields (primary_by (inner language n) (Some kind) ts) (Ok (e, rest))) where
    by_primary : IsExprIn language e → Reading 7 (λ n. primary (inner language n)) e
    unfolding primary
    by_primary f n ts rest h s = rw (begins ts rest h) (read f n ts rest h s)

    by_factor : IsExprIn language e → Reading 5 (λ n. factor (inner language n)) e
    by_factor f n ts rest h s =
        let w = wordless e primary_tight ts rest h in
        yields_is (factor_plain language n ts w.0 w.1) (power_stops language n e ts rest (by_primary f n ts rest h (omega (arith, s))) (no_power rest s))

    by_sign : Unsigned e
    by_sign ts rest h = ap sign_at (begins ts rest h) ∙ no_sign

    pub primary_complete : Complete e
    primary_complete = record {
      as_primary = λ b f. by_primary f;
      as_factor = λ b f. by_factor f;
      as_chain = λ level le f. of_factor e (omega (arith, primary_tight)) by_sign (by_factor f) level;
      unsigned = λ b f. by_sign;
    }

  -- ---- `not`

  negation_factor : (at : ℕ) (e : Expr) → Complete e → IsExprIn language (negation at e) → Reading 5 (λ n. factor (inner language n)) (negation at e)
  unfolding factor inverse same_kind
  negation_factor at e c f n ts rest h s =
      let cut = spells_split (one_at k.Not at ∷ []) (spell e) ts rest h in
      rw (front (one_at k.Not at) (spell e) k.Not ts rest (λ l i. i.0) h)
      (yields_bind _ (inl (expect_at k.Not at ts cut.0 cut.1)) (yields_bind _ (c.as_primary f.0 f.1 n cut.0 rest cut.2 (omega (arith, s))) (inl refl)))

  negation_unsigned : (at : ℕ) (e : Expr) → Unsigned (negation at e)
  negation_unsigned at e ts rest h = ap sign_at (front (one_at k.Not at) (spell e) k.Not ts rest (λ l i. i.0) h)

  pub negation_complete : (at : ℕ) (e : Expr) → Complete e → Complete (negation at e)
  unfolding same_kind
  negation_complete at e c = record {
    as_primary = λ b f. absurd (omega (arith, b));
    as_factor = λ b f. negation_factor at e c f;
    as_chain = λ level le f. of_factor (negation at e) (omega arith) (negation_unsigned at e) (negation_factor at e c f) level;
    unsigned = λ b f. negation_unsigned at e;
  }

  -- ---- signs

  sign_seen : (sign : Sign) → sign_at (Some (sign_kind sign)) ≡ Some sign
  sign_seen Plus = refl
  sign_seen Minus = refl

  signed_term : (sign : Sign) (at : ℕ) (e : Expr) → Complete e → IsExprIn language (signed sign at e) → Reading 4 (λ n. leading (term (inner language n))) (signed sign at e)
  unfolding leading
  signed_term sign at e c f n ts rest h s =
      let cut = spells_split (one_at (sign_kind sign) at ∷ []) (spell e) ts rest h in
      rw (front (one_at (sign_kind sign) at) (spell e) (sign_kind sign) ts rest (λ l i. i.0) h, sign_seen sign)
      (yields_bind _ (inl (expect_at (sign_kind sign) at ts cut.0 cut.1)) (yields_bind _ (closed Multiplying e (c.as_chain Multiplying (omega (arith, f.0)) f.1) n cut.0 rest cut.2 s) (inl refl)))

  pub signed_complete : (sign : Sign) (at : ℕ) (e : Expr) → Complete e → Complete (signed sign at e)
  signed_complete sign at e c = record {
    as_primary = λ b f. absurd (omega (arith, b));
    as_factor = λ b f. absurd (omega (arith, b));
    as_chain = λ level le f. below_adding (signed sign at e) (omega arith) (from_first Adding (signed sign at e) (λ op r g. g) (signed_term sign at e c f)) level le;
    unsigned = λ b f. absurd (omega (arith, b));
  }

  -- ---- operators

  pair_reads : (level : Level) (op : Operator) (at : ℕ) (e : Expr) → Complete e → level_rank level < binding e → IsExprIn language e → (n : ℕ) (ts rest : List Lexeme) →
      Spells (one_at (kind_of op) at ∷ spell e) ts rest → Stops (suc (level_rank level)) rest →
      Yields (pair (operand_of (inner language n) level) op ts) (Ok (record { operator = op; at = at; operand = e }, rest))
  unfolding pair
  pair_reads level op at e c b f n ts rest h s =
      let cut = spells_split (one_at (kind_of op) at ∷ []) (spell e) ts rest h in
      yields_bind _ (inl (expect_at (kind_of op) at ts cut.0 cut.1)) (yields_bind _ (operand_reads level e c b f n cut.0 rest cut.2 s) (inl refl))

  module _ (b : Bool) (op : Operator) (at : ℕ) (left right : Expr) (cl : Complete left) (cr : Complete right) (f : IsExprIn language (binary b op at left right)) where
    -- at its operator's level
    here : (level : Level) → rank op ≡ level_rank level → Opens language level (binary b op at left right)
    unfolding more
    here level r n ts rest h s = by_state b f.0 (cl.as_chain level (omega (arith, r, leads_binding b op left f.0)) f.2 n ts cut.0 cut.1 stops)
      where
        cut : (mid : List Lexeme) × Spells (spell left) ts mid × Spells (one_at (kind_of op) at ∷ spell right) mid rest
        cut = spells_split (spell left) (one_at (kind_of op) at ∷ spell right) ts rest h

        first : next_kind cut.0 ≡ Some (kind_of op)
        first = front (one_at (kind_of op) at) (spell right) (kind_of op) cut.0 rest (λ l i. i.0) cut.2

        lone : (us : List Lexeme) → Spells (one_at (kind_of op) at ∷ spell right) us rest → sees_power us ≡ false
        lone [] g = absurd g
        lone (l ∷ us) g = second_alone l us (starless right us rest g.1)

        stops : Stops (suc (level_rank level)) cut.0
        stops = let g = ap grip first ∙ grip-kind_of op in stops_kind (suc (level_rank level)) cut.0 (lone cut.0 cut.2) (omega (arith, g, r))

        long : length rest < length cut.0
        long = omega (arith, spells_length (one_at (kind_of op) at ∷ spell right) cut.0 rest cut.2)

        reads_pair : Yields (pair (operand_of (inner language n) level) op cut.0) (Ok (record { operator = op; at = at; operand = right }, rest))
        reads_pair = pair_reads level op at right cr (omega (arith, r, f.1)) f.3 n cut.0 rest cut.2 s

        -- an operator of the level doesn't begin a chain behind it
        no_first : (begins : Bool) (next : Operator) → rank next ≡ level_rank level → Leads true next (binary begins op at left right) → ⊥
        no_first begins next e (inl tight) = absurd (omega (arith, tight, e, r))
        no_first begins next e (inr sign) = sign

        on : (turns : ℕ) (last : Operator) → length cut.0 ≤ turns → CanGo level last left → GoesOn op left → Yields (chain_of (inner language n) level ts) (more_from (operand_of (inner language n) level) turns level last left cut.0) →
            Opened language level (binary false op at left right) n ts rest
        on zero last enough can g y = absurd (omega (arith, enough, long))
        on (suc turns) last enough can g y =
            let next : next_operator level last (next_kind cut.0) ≡ Some op = ap (next_operator level last) first ∙ can op r g in
            as_chain turns op (omega (arith, enough, long)) (can_after level false op at left right r) (no_first false)
            (yields_then y (yields_is (more_on (operand_of (inner language n) level) turns level last op left cut.0 next) (yields_bind _ reads_pair (inl refl))))

        by_state : (begins : Bool) → Leads begins op left → Opened language level left n ts cut.0 → Opened language level (binary begins op at left right) n ts rest
        by_state true l (as_first alone y) =
            let next : operator_at level (next_kind cut.0) ≡ Some op = ap (operator_at level) first ∙ reads_operator level op r in
            as_chain (length rest) op (omega arith) (can_after level true op at left right r) (no_first true)
            (yields_then y (yields_is (begin_on (operand_of (inner language n) level) level op left cut.0 next) (yields_bind _ reads_pair (inl refl))))
        by_state true l (as_chain turns last enough can no_begin y) = absurd (no_begin op r l)
        by_state false l (as_first alone y) = absurd (alone op r l)
        by_state false l (as_chain turns last enough can no_begin y) = on turns last enough can l y

    begins_unsigned : 3 < rank op → Unsigned (binary b op at left right)
    begins_unsigned tight ts rest h =
        let cut = spells_split (spell left) (one_at (kind_of op) at ∷ spell right) ts rest h in
        cl.unsigned (omega (arith, tight, leads_binding b op left f.0)) f.2 ts cut.0 cut.1

  -- an operator's own level, and each looser one
  below : (own : Level) (e : Expr) → level_rank own ≤ binding e → (3 < level_rank own → Unsigned e) → Opens language own e → (level : Level) → level_rank level ≤ level_rank own → Opens language level e
  below Logical e b u o Logical le = o
  below Relation e b u o Logical le = to_logical e (omega (arith, b)) o
  below Relation e b u o Relation le = o
  below Adding e b u o level le = below_adding e (omega (arith, b)) o level le
  below Multiplying e b u o level le = below_multiplying e (omega (arith, b)) (u (omega arith)) o level
  below _ e b u o _ le = absurd (omega (arith, le))

  pub binary_complete : (b : Bool) (op : Operator) (at : ℕ) (left right : Expr) → Complete left → Complete right → Complete (binary b op at left right)
  binary_complete b op at left right cl cr = record {
    as_primary = λ t f. absurd (omega (arith, t, rank_most op));
    as_factor = λ t f. absurd (omega (arith, t, rank_most op));
    as_chain = λ level le f.
        let r = rank-level_of op in
        below (level_of op) (binary b op at left right) (omega (arith, r)) (λ t. begins_unsigned b op at left right cl cr f (omega (arith, t, r))) (here b op at left right cl cr f (level_of op) r) level (omega (arith, le, r));
    unsigned = λ t f. begins_unsigned b op at left right cl cr f t;
  }

-- ---- `abs` and `**`, in the wider language

absolute_factor : (language : Language) (at : ℕ) (e : Expr) → Complete language e → IsExprIn language (absolute at e) → Reading 5 (λ n. factor (inner language n)) (absolute at e)
unfolding factor magnitude same_kind
absolute_factor Profile at e c f n ts rest h s = absurd f.0
absolute_factor Wide at e c f n ts rest h s =
    let cut = spells_split (one_at k.Abs at ∷ []) (spell e) ts rest h in
    rw (front (one_at k.Abs at) (spell e) k.Abs ts rest (λ l i. i.0) h)
    (yields_bind _ (inl (expect_at k.Abs at ts cut.0 cut.1)) (yields_bind _ (c.as_primary f.1 f.2 n cut.0 rest cut.2 (omega (arith, s))) (inl refl)))

absolute_unsigned : (at : ℕ) (e : Expr) → Unsigned (absolute at e)
absolute_unsigned at e ts rest h = ap sign_at (front (one_at k.Abs at) (spell e) k.Abs ts rest (λ l i. i.0) h)

pub absolute_complete : (language : Language) (at : ℕ) (e : Expr) → Complete language e → Complete language (absolute at e)
unfolding same_kind
absolute_complete language at e c = record {
  as_primary = λ b f. absurd (omega (arith, b));
  as_factor = λ b f. absolute_factor language at e c f;
  as_chain = λ level le f. of_factor language (absolute at e) (omega arith) (absolute_unsigned at e) (absolute_factor language at e c f) level;
  unsigned = λ b f. absolute_unsigned at e;
}

-- behind the base
raised_reads : (base exponent : Expr) (at : ℕ) → Complete Wide exponent → 5 < binding exponent → IsExprIn Wide exponent → (n : ℕ) (ts rest : List Lexeme) →
    Spells (one_at k.Star at ∷ (one_at k.Star (suc at) ∷ spell exponent)) ts rest → Stops 5 rest → Yields (raised (inner Wide n) base ts) (Ok (power base at exponent, rest))
unfolding raised
raised_reads base exponent at c b f n ts rest h s =
    let star = spells_split (one_at k.Star at ∷ []) (one_at k.Star (suc at) ∷ spell exponent) ts rest h in
    let other = spells_split (one_at k.Star (suc at) ∷ []) (spell exponent) star.0 rest star.2 in
    yields_bind _ (inl (expect_at k.Star at ts star.0 star.1))
    (yields_bind _ (inl (expect_at k.Star (suc at) star.0 other.0 other.1))
    (yields_bind _ (c.as_primary b f n other.0 rest other.2 (omega (arith, s))) (inl refl)))

power_factor : (language : Language) (base exponent : Expr) (at : ℕ) → Complete language base → Complete language exponent → IsExprIn language (power base at exponent) →
    Reading 5 (λ n. factor (inner language n)) (power base at exponent)
unfolding optional_power
power_factor Profile base exponent at cb ce f n ts rest h s = absurd f.0
power_factor Wide base exponent at cb ce f n ts rest h s =
    let stars = one_at k.Star at ∷ (one_at k.Star (suc at) ∷ spell exponent) in
    let cut = spells_split (spell base) stars ts rest h in
    let seen = power_seen at (spell exponent) cut.0 rest cut.2 in
    let w = wordless base f.1 ts cut.0 cut.1 in
    let five : hold cut.0 ≡ 5 = rw seen refl in
    yields_is (factor_plain Wide n ts w.0 w.1)
    (yields_bind _ (cb.as_primary f.1 f.3 n ts cut.0 cut.1 (omega (arith, five))) (rw seen (raised_reads base exponent at ce f.2 f.4 n cut.0 rest cut.2 s)))

pub power_complete : (language : Language) (base exponent : Expr) (at : ℕ) → Complete language base → Complete language exponent → Complete language (power base at exponent)
power_complete language base exponent at cb ce = record {
  as_primary = λ b f. absurd (omega (arith, b));
  as_factor = λ b f. power_factor language base exponent at cb ce f;
  as_chain = λ level le f. of_factor language (power base at exponent) (omega arith) (unsigned f) (power_factor language base exponent at cb ce f) level;
  unsigned = λ b f. unsigned f;
}
  where
    split : (ts rest : List Lexeme) → Spells (spell (power base at exponent)) ts rest →
        (mid : List Lexeme) × Spells (spell base) ts mid × Spells (one_at k.Star at ∷ (one_at k.Star (suc at) ∷ spell exponent)) mid rest
    split ts rest h = spells_split (spell base) (one_at k.Star at ∷ (one_at k.Star (suc at) ∷ spell exponent)) ts rest h

    unsigned : IsExprIn language (power base at exponent) → Unsigned (power base at exponent)
    unsigned f ts rest h = let cut = split ts rest h in cb.unsigned (omega (arith, f.1)) f.3 ts cut.0 cut.1
