-- Generics and ports: what is read is spelled so, and what is spelled is read.
use Rattle.std.proofs.Common.{◌≡◌, ℕ, Bool, true, false, List, [], ◌∷◌, ◌++◌, Option, Some, None, refl, arith}
use Rattle.vhdl_lexer.specs.declared.language.Language.{Language}
use Rattle.vhdl_lexer.specs.declared.language.Language.TheVariants.{Profile, Wide}
use Rattle.vhdl_lexer.specs.declared.token.TokenKind.{TokenKind}
use Rattle.vhdl_lexer.specs.declared.token.TokenKind.TheVariants as k
use Rattle.vhdl_tree.specs.declared.declaration.Mode.{Mode}
use Rattle.vhdl_tree.specs.declared.declaration.Mode.TheVariants.{In, Out}
use Rattle.vhdl_tree.specs.Lexeme.{same_kind}
use Rattle.vhdl_tree.specs.Tree.{Ident, Expr, Value, Constraint, Subtype, Generic, Port}
use Rattle.vhdl_tree.specs.Pieces.{Piece, some, word_at, spell_option, spell_list, IsAny, IsList, IsOption}
use Rattle.vhdl_tree.specs.grammar.Expressions.{IsExprIn, IsValueIn}
use Rattle.vhdl_tree.specs.grammar.Subtypes.{spell_subtype, IsConstraintIn, IsSubtypeIn}
use Rattle.vhdl_tree.specs.grammar.Wide.{IsWide}
use Rattle.vhdl_tree.specs.grammar.Declarations.{spell_generic_default, spell_mode, spell_generic, spell_generics, spell_port, spell_ports, IsGenericSubtypeIn, IsGenericIn, AreGenericsIn, IsPortIn, ArePortsIn}
use Rattle.vhdl_parser_expressions.specs.reader.Input.{Parser, is_kind}
use Rattle.vhdl_parser_declarations.specs.reader.Declarations.{generic_default, optional_generic_default, generic_subtype, generic, clause, optional_generics, mode_by, mode, port, optional_ports}
use Rattle.vhdl_parser_expressions.proofs.Halts.{Example}
use Rattle.vhdl_parser_expressions.proofs.Walks.{Rule, w_pure, w_then, w_last, w_rule, w_weaken}
use Rattle.vhdl_parser_expressions.proofs.Rules.{is_neutral, w_some, w_ident, w_left, w_right, w_below, below_met, w_choose, under, word_rule, option_rule}
use Rattle.vhdl_parser_expressions.proofs.Repeats.{separated_rule}
use Rattle.vhdl_parser_expressions.proofs.Gives.{Gives, Whatever, front, g_pure, g_then, g_map, g_some, g_ident, g_choose, g_below, g_weaken, eat_gives, option_gives, separated_gives}
use Rattle.vhdl_parser_expressions.proofs.WalkExpressions.{expr_rule}
use Rattle.vhdl_parser_expressions.proofs.GiveValues.{Ends, expr_gives}
use Rattle.vhdl_parser_statements.proofs.Plain.{an_ident}
use Rattle.vhdl_parser_statements.proofs.Subtypes.{idents_rule, idents_gives, subtype_rule, subtype_gives, optional_default_rule, optional_default_gives, EndsSubtype, EndsDefault, default_ends}

-- neither a default nor the rest of a subtype follows
abbrev EndsItem : Option TokenKind → Type 0
EndsItem next = (is_kind k.Assign next ≡ false) × EndsSubtype next

ends_default : (next : Option TokenKind) → EndsItem next → EndsDefault next
ends_default next g = (g.0, g.1.2.0)

-- ---- clauses: word ( item { ; item } ) ;

abbrev spell_clause : {A : Type 0} → TokenKind → (A → List Piece) → List A → List Piece
spell_clause word spell all = some word ∷ (some k.LeftParen ∷ (spell_list k.Semicolon spell all ++ (some k.RightParen ∷ (some k.Semicolon ∷ []))))

module _ {A : Type 0} {item : ℕ → Parser A} {spell : A → List Piece} {Good : A → Type 0} (word : TokenKind) where
  clause_rule : is_neutral word ≡ true → Example (λ r. some word ∷ (some k.LeftParen ∷ r)) (spell_clause word spell) (IsList Good) → ((m : ℕ) → Rule m 0 (item m) spell Good) → (n : ℕ)
      → Rule n 0 (clause word item n) (spell_clause word spell) (IsList Good)
  clause_rule neutral plain rule n =
      w_some word neutral (λ _.
      w_left plain (below_met _ n) (λ _.
      w_below n (λ m e.
      w_then (under e (separated_rule k.Semicolon refl (omega arith) (rule m))) (λ all good le.
      w_right le (λ _.
      w_some k.Semicolon refl (λ _.
      w_pure (omega arith) refl good))))))

  clause_gives : ((m : ℕ) (a : A) → Good a → Gives (item m) a (spell a) EndsItem) → (n : ℕ) (all : List A) → IsList Good all → Gives (clause word item n) all (spell_clause word spell all) Whatever
  unfolding same_kind
  clause_gives each n all good =
      g_some (λ _. g_some (λ _. g_below _ n (λ m e.
      g_then _ (separated_gives k.Semicolon refl (refl, (refl, refl, (omega arith, refl))) (each m) all good) (g_some (λ _. g_some (λ _. g_pure))) (λ next g. (refl, (refl, (refl, refl, (omega arith, refl))))))))

-- ---- by the language

module _ (language : Language) where
  -- ---- defaults of generics

  generic_default_rule : (n : ℕ) → Rule n 0 (generic_default language n) spell_generic_default (IsExprIn language)
  generic_default_rule n = w_some k.Assign refl (λ _. w_rule (λ e. refl) (expr_rule language n))

  optional_generic_default_rule : (n : ℕ) → Rule n 0 (optional_generic_default language n) (spell_option spell_generic_default) (IsOption (IsExprIn language))
  unfolding optional_generic_default
  optional_generic_default_rule n = option_rule (is_kind k.Assign) (omega arith) (generic_default_rule n)

  generic_default_gives : (n : ℕ) (e : Expr) → IsExprIn language e → Gives (generic_default language n) e (spell_generic_default e) Ends
  generic_default_gives n e good = g_some (λ _. expr_gives language n e good)

  optional_generic_default_gives : (n : ℕ) (d : Option Expr) → IsOption (IsExprIn language) d → Gives (optional_generic_default language n) d (spell_option spell_generic_default d) EndsDefault
  unfolding optional_generic_default same_kind
  optional_generic_default_gives n d good = option_gives (is_kind k.Assign) (generic_default_gives n) (λ e _ next. refl) d good

  -- ---- generics

  wide_subtype : (o : Option Constraint) → IsOption (IsConstraintIn Wide) o → IsOption (λ c. IsWide Wide × IsConstraintIn Wide c) o
  wide_subtype None good = tt
  wide_subtype (Some c) good = (tt, good)

  any_subtype : (o : Option Constraint) → IsOption (λ c. IsWide Wide × IsConstraintIn Wide c) o → IsOption (IsConstraintIn Wide) o
  any_subtype None good = tt
  any_subtype (Some c) good = good.1

  generic_subtype_rule : (n : ℕ) → Rule n 0 (generic_subtype language n) spell_subtype (IsGenericSubtypeIn language)
  unfolding generic_subtype
  generic_subtype_rule n = by language
    where
      by : (l : Language) → Rule n 0 (generic_subtype l n) spell_subtype (IsGenericSubtypeIn l)
      by Profile = w_ident (λ i. w_pure (omega arith) refl tt)
      by Wide = w_weaken (λ t good. wide_subtype t.constraint good) (subtype_rule Wide n)

  generic_subtype_gives : (n : ℕ) (t : Subtype) → IsGenericSubtypeIn language t → Gives (generic_subtype language n) t (spell_subtype t) EndsSubtype
  unfolding generic_subtype
  generic_subtype_gives n t good = by language t.mark t.constraint good
    where
      by : (l : Language) (mark : Ident) (o : Option Constraint) → IsOption (λ c. IsWide l × IsConstraintIn l c) o →
          Gives (generic_subtype l n) (record { mark = mark; constraint = o }) (spell_subtype (record { mark = mark; constraint = o })) EndsSubtype
      by Profile mark None fine = g_ident _ g_pure
      by Profile mark (Some c) fine = absurd fine.0
      by Wide mark o fine = subtype_gives Wide n (record { mark = mark; constraint = o }) (any_subtype o fine)

  -- a default or what ends an item follows
  default_then : (d : Option Expr) (next : Option TokenKind) → EndsSubtype next → EndsSubtype (front (spell_option spell_generic_default d) next)
  unfolding same_kind
  default_then None next g = g
  default_then (Some e) next g = (refl, refl, (omega arith, refl))

  generic_rule : (n : ℕ) → Rule n 0 (generic language n) spell_generic (IsGenericIn language)
  unfolding generic
  generic_rule n =
      w_then (word_rule k.Constant refl (omega arith)) (λ word _ _.
      w_then (idents_rule n) (λ names several _.
      w_some k.Colon refl (λ _.
      w_then (word_rule k.In refl (omega arith)) (λ way _ _.
      w_then (generic_subtype_rule n) (λ t fine _.
      w_last (λ d. record { constant_word = word; names = names; in_word = way; subtype = t; default = d }) (optional_generic_default_rule n) (λ d good. (refl, (several, fine, good))))))))

  -- generic ( id : id ) ;
  plain_generics : Example (λ r. some k.Generic ∷ (some k.LeftParen ∷ r)) spell_generics (AreGenericsIn language)
  plain_generics = record {
    tree = record { constant_word = false; names = an_ident ∷ []; in_word = false; subtype = record { mark = an_ident; constraint = None }; default = None } ∷ [];
    more = word_at 0 [] ∷ (some k.Colon ∷ (word_at 0 [] ∷ (some k.RightParen ∷ (some k.Semicolon ∷ []))));
    is = refl;
    formed = (((tt, tt), tt, tt), tt);
  }

  pub optional_generics_rule : (n : ℕ) → Rule n 0 (optional_generics language n) (spell_option spell_generics) (IsOption (AreGenericsIn language))
  unfolding optional_generics
  optional_generics_rule n = option_rule (is_kind k.Generic) (omega arith) (clause_rule k.Generic refl plain_generics generic_rule n)

  generic_gives : (n : ℕ) (g : Generic) → IsGenericIn language g → Gives (generic language n) g (spell_generic g) EndsItem
  unfolding generic same_kind
  generic_gives n g good = of g.constant_word g.names g.in_word g.subtype g.default good.0 good.1 good.2
    where
      of : (word : Bool) (names : List Ident) (way : Bool) (t : Subtype) (d : Option Expr) → IsList IsAny names → IsGenericSubtypeIn language t → IsOption (IsExprIn language) d →
          Gives (generic language n) (record { constant_word = word; names = names; in_word = way; subtype = t; default = d }) (spell_generic (record { constant_word = word; names = names; in_word = way; subtype = t; default = d })) EndsItem
      of word [] way t d several fine ends = absurd several
      of word (i ∷ more) way t d several fine ends =
          g_then _ (eat_gives k.Constant word refl)
          (g_then _ (idents_gives (i ∷ more) several)
          (g_some (λ _.
          g_then _ (eat_gives k.In way refl)
          (g_then _ (generic_subtype_gives n t fine)
          (g_map (λ x. record { constant_word = word; names = i ∷ more; in_word = way; subtype = t; default = x }) (g_weaken ends_default (optional_generic_default_gives n d ends)))
          (λ next g. default_then d next g.1))
          (λ next g. refl)))
          (λ next g. (refl, tt)))
          (λ next g. refl)

  pub optional_generics_gives : (n : ℕ) (o : Option (List Generic)) → IsOption (AreGenericsIn language) o → Gives (optional_generics language n) o (spell_option spell_generics o) (λ next. (is_kind k.Generic next ≡ false) × Whatever next)
  unfolding optional_generics same_kind
  optional_generics_gives n o good = option_gives (is_kind k.Generic) (clause_gives k.Generic generic_gives n) (λ gs _ next. refl) o good

  -- ---- ports

  mode_rule : (n : ℕ) → Rule n 0 mode (spell_option spell_mode) IsAny
  unfolding mode
  mode_rule n = w_choose (λ next. by_next next)
    where
      by_next : (next : Option TokenKind) → Rule n 0 (mode_by next) (spell_option spell_mode) IsAny
      by_next (Some k.In) = w_some k.In refl (λ _. w_pure (omega arith) refl tt)
      by_next (Some k.Out) = w_some k.Out refl (λ _. w_pure (omega arith) refl tt)
      by_next _ = w_pure (omega arith) refl tt

  port_rule : (n : ℕ) → Rule n 0 (port language n) spell_port (IsPortIn language)
  unfolding port
  port_rule n =
      w_then (word_rule k.Signal refl (omega arith)) (λ word _ _.
      w_then (idents_rule n) (λ names several _.
      w_some k.Colon refl (λ _.
      w_then (mode_rule n) (λ way _ _.
      w_then (subtype_rule language n) (λ t fine _.
      w_last (λ d. record { signal_word = word; names = names; mode = way; subtype = t; default = d }) (optional_default_rule language n) (λ d good. (refl, (several, fine, good))))))))

  -- port ( id : id ) ;
  plain_ports : Example (λ r. some k.Port ∷ (some k.LeftParen ∷ r)) spell_ports (ArePortsIn language)
  plain_ports = record {
    tree = record { signal_word = false; names = an_ident ∷ []; mode = None; subtype = record { mark = an_ident; constraint = None }; default = None } ∷ [];
    more = word_at 0 [] ∷ (some k.Colon ∷ (word_at 0 [] ∷ (some k.RightParen ∷ (some k.Semicolon ∷ []))));
    is = refl;
    formed = (((tt, tt), tt, tt), tt);
  }

  pub optional_ports_rule : (n : ℕ) → Rule n 0 (optional_ports language n) (spell_option spell_ports) (IsOption (ArePortsIn language))
  unfolding optional_ports
  optional_ports_rule n = option_rule (is_kind k.Port) (omega arith) (clause_rule k.Port refl plain_ports port_rule n)

  -- neither `in` nor `out` follows
  mode_gives : (way : Option Mode) → Gives mode way (spell_option spell_mode way) (λ next. next ≡ Some k.Identifier)
  unfolding mode
  mode_gives None = g_choose mode_by (Some k.Identifier) (λ next g. g) g_pure
  mode_gives (Some In) = g_choose mode_by (Some k.In) (λ next g. refl) (g_some (λ _. g_pure))
  mode_gives (Some Out) = g_choose mode_by (Some k.Out) (λ next g. refl) (g_some (λ _. g_pure))

  port_gives : (n : ℕ) (p : Port) → IsPortIn language p → Gives (port language n) p (spell_port p) EndsItem
  unfolding port same_kind
  port_gives n p good = of p.signal_word p.names p.mode p.subtype p.default good.0 good.1 good.2
    where
      of : (word : Bool) (names : List Ident) (way : Option Mode) (t : Subtype) (d : Option Value) → IsList IsAny names → IsSubtypeIn language t → IsOption (IsValueIn language) d →
          Gives (port language n) (record { signal_word = word; names = names; mode = way; subtype = t; default = d }) (spell_port (record { signal_word = word; names = names; mode = way; subtype = t; default = d })) EndsItem
      of word [] way t d several fine ends = absurd several
      of word (i ∷ more) way t d several fine ends =
          g_then _ (eat_gives k.Signal word refl)
          (g_then _ (idents_gives (i ∷ more) several)
          (g_some (λ _.
          g_then _ (mode_gives way)
          (g_then _ (subtype_gives language n t fine) (g_map (λ x. record { signal_word = word; names = i ∷ more; mode = way; subtype = t; default = x }) (g_weaken ends_default (optional_default_gives language n d ends))) (λ next g. default_ends d next g.1))
          (λ next g. refl)))
          (λ next g. (refl, tt)))
          (λ next g. refl)

  pub optional_ports_gives : (n : ℕ) (o : Option (List Port)) → IsOption (ArePortsIn language) o → Gives (optional_ports language n) o (spell_option spell_ports o) (λ next. (is_kind k.Port next ≡ false) × Whatever next)
  unfolding optional_ports same_kind
  optional_ports_gives n o good = option_gives (is_kind k.Port) (clause_gives k.Port port_gives n) (λ ps _ next. refl) o good
