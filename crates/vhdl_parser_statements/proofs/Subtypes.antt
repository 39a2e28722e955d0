-- Identifiers, subtypes and declarations of objects and types: what is read is spelled so, and what is spelled is read.
use Rattle.std.proofs.Common.{◌≡◌, ℕ, true, false, List, [], ◌∷◌, ◌++◌, Option, Some, None, refl, arith}
use Rattle.vhdl_lexer.specs.declared.language.Language.{Language}
use Rattle.vhdl_lexer.specs.declared.language.Language.TheVariants.{Profile, Wide}
use Rattle.vhdl_lexer.specs.declared.token.TokenKind.{TokenKind}
use Rattle.vhdl_lexer.specs.declared.token.TokenKind.TheVariants as k
use Rattle.vhdl_tree.specs.Lexeme.{same_kind}
use Rattle.vhdl_tree.specs.Tree.{Ident, Value, DiscreteRange, Constraint, index_range, value_range, Subtype, Constants, Enumeration, SubtypeDeclaration}
use Rattle.vhdl_tree.specs.Pieces.{Piece, some, word_at, spell_ident, spell_idents, spell_option, IsAny, IsList, IsOption}
use Rattle.vhdl_tree.specs.grammar.Expressions.{spell_value, spell_discrete_range, IsValueIn, IsDiscreteRangeIn}
use Rattle.vhdl_tree.specs.grammar.Subtypes.{spell_constraint, spell_subtype, spell_default, spell_constants, spell_enumeration, spell_subtype_declaration, IsConstraintIn, IsSubtypeIn, IsConstantsIn, IsEnumeration, IsSubtypeDeclarationIn}
use Rattle.vhdl_parser_expressions.specs.reader.Input.{and_then, expect, identifier, is_kind, optional, in_parens}
use Rattle.vhdl_parser_expressions.specs.reader.Values.{discrete_range}
use Rattle.vhdl_parser_statements.specs.reader.Subtypes.{idents, index_constraint, range_constraint, optional_constraint, subtype, default_value, optional_default, Objects, objects, constant_value, constants_of, enumeration_of, subtype_declaration}
use Rattle.vhdl_parser_statements.specs.reader.Wide.{wide}
use Rattle.vhdl_parser_expressions.proofs.Walks.{Rule, w_pure, w_then, w_last, w_rule}
use Rattle.vhdl_parser_expressions.proofs.Rules.{is_neutral, w_token, w_some, w_ident, w_left, w_right, w_test, w_below, below_met, under, option_rule}
use Rattle.vhdl_parser_expressions.proofs.Repeats.{separated_rule}
use Rattle.vhdl_parser_expressions.proofs.Gives.{Gives, Whatever, front, g_pure, g_then, g_map, g_some, g_ident, g_token, g_below, g_yes, g_no, g_weaken, option_gives, separated_gives}
use Rattle.vhdl_parser_statements.proofs.Plain.{an_ident, some_bounds, a_number}
use Rattle.vhdl_parser_expressions.proofs.WalkValues.{discrete_range_rule, value_rule}
use Rattle.vhdl_parser_expressions.proofs.GiveValues.{Ends, EndsBound, discrete_range_gives, value_gives}

-- ---- identifiers

ident_rule : (n : ℕ) → Rule n 0 identifier spell_ident IsAny
unfolding identifier same_kind
ident_rule n = w_token (λ l. record { at = l.at; text = l.text }) k.Identifier (λ i. word_at i.at i.text) refl (λ l i. (i, refl, refl))

pub idents_rule : (n : ℕ) → Rule n 0 idents spell_idents (IsList IsAny)
idents_rule n = separated_rule k.Comma refl (omega arith) (ident_rule n)

pub ident_gives : (i : Ident) → IsAny i → Gives identifier i (spell_ident i) Whatever
unfolding identifier
ident_gives i good = g_token (λ l. record { at = l.at; text = l.text }) k.Identifier (word_at i.at i.text) (λ l h. h.0) (λ l h. rw (h.1, h.2))

-- no comma follows
pub idents_gives : (names : List Ident) → IsList IsAny names → Gives idents names (spell_idents names) (λ next. (is_kind k.Comma next ≡ false) × Whatever next)
unfolding same_kind
idents_gives names good = separated_gives k.Comma refl tt ident_gives names good

any_option : {A : Type 0} (o : Option A) → IsOption IsAny o
any_option None = tt
any_option (Some x) = tt

-- the name or label at an end
pub last_gives : (last : Option Ident) → Gives (optional (is_kind k.Identifier) identifier) last (spell_option spell_ident last) (λ next. (is_kind k.Identifier next ≡ false) × Whatever next)
unfolding same_kind
last_gives last = option_gives (is_kind k.Identifier) ident_gives (λ i good next. refl) last (any_option last)

-- ---- subtypes and defaults

-- ( range )
abbrev spell_parens : DiscreteRange → List Piece
spell_parens r = some k.LeftParen ∷ (spell_discrete_range r ++ some k.RightParen ∷ [])

parens_rule : (language : Language) (n : ℕ) → Rule n 0 (in_parens (discrete_range language) n) spell_parens (IsDiscreteRangeIn language)
parens_rule language n = w_left (record { tree = some_bounds; more = a_number ∷ (some k.To ∷ (a_number ∷ (some k.RightParen ∷ []))); is = refl; formed = (tt, tt) }) (below_met _ n)
    (λ _. w_below n (λ m e. w_then (under e (discrete_range_rule language m)) (λ r good le. w_right le (λ _. w_pure (omega arith) refl good))))

index_rule : (language : Language) (n : ℕ) → Rule n 0 (index_constraint language n) spell_constraint (IsConstraintIn language)
unfolding index_constraint
index_rule language n = w_last (λ r. index_range r) (parens_rule language n) (λ r good. (refl, good))

bounds_rule : (n : ℕ) → Rule n 0 (λ ts. and_then (expect k.Range ts) (λ _. discrete_range Wide n)) (λ r. some k.Range ∷ spell_discrete_range r) (IsDiscreteRangeIn Wide)
bounds_rule n = w_some k.Range refl (λ _. w_rule (λ r. refl) (discrete_range_rule Wide n))

range_rule : (n : ℕ) → Rule n 0 (range_constraint n) spell_constraint (IsConstraintIn Wide)
unfolding range_constraint
range_rule n = w_last (λ r. value_range r) (bounds_rule n) (λ r good. (refl, (tt, good)))

constraint_rule : (language : Language) (n : ℕ) → Rule n 0 (optional_constraint language n) (spell_option spell_constraint) (IsOption (IsConstraintIn language))
unfolding optional_constraint
constraint_rule Profile n = w_test (is_kind k.LeftParen) (w_last (λ c. Some c) (index_rule Profile n) (λ c good. (refl, good))) (w_pure (omega arith) refl tt)
constraint_rule Wide n = w_test (is_kind k.LeftParen) (w_last (λ c. Some c) (index_rule Wide n) (λ c good. (refl, good)))
    (w_test (is_kind k.Range) (w_last (λ c. Some c) (range_rule n) (λ c good. (refl, good))) (w_pure (omega arith) refl tt))

pub subtype_rule : (language : Language) (n : ℕ) → Rule n 0 (subtype language n) spell_subtype (IsSubtypeIn language)
unfolding subtype
subtype_rule language n = w_ident (λ i. w_last (λ c. record { mark = i; constraint = c }) (constraint_rule language n) (λ c good. (refl, good)))

default_rule : (language : Language) (n : ℕ) → Rule n 0 (default_value language n) spell_default (IsValueIn language)
unfolding default_value
default_rule language n = w_some k.Assign refl (λ _. w_rule (λ v. refl) (value_rule language n))

pub optional_default_rule : (language : Language) (n : ℕ) → Rule n 0 (optional_default language n) (spell_option spell_default) (IsOption (IsValueIn language))
unfolding optional_default
optional_default_rule language n = option_rule (is_kind k.Assign) (omega arith) (default_rule language n)

index_gives : (language : Language) (n : ℕ) (r : DiscreteRange) → IsDiscreteRangeIn language r → Gives (index_constraint language n) (index_range r) (spell_constraint (index_range r)) Whatever
unfolding index_constraint
index_gives language n r good =
    g_map (λ x. index_range x) (g_some (λ _. g_below _ n (λ m e. g_then _ (discrete_range_gives language m r good) (g_some (λ _. g_pure)) (λ next g. (omega arith, refl)))))

range_gives : (n : ℕ) (r : DiscreteRange) → IsDiscreteRangeIn Wide r → Gives (range_constraint n) (value_range r) (spell_constraint (value_range r)) EndsBound
unfolding range_constraint
range_gives n r good = g_map (λ x. value_range x) (g_some (λ _. discrete_range_gives Wide n r good))

-- neither a constraint nor the rest of its range follows
abbrev pub EndsSubtype : Option TokenKind → Type 0
EndsSubtype next = (is_kind k.LeftParen next ≡ false) × (is_kind k.Range next ≡ false) × EndsBound next

constraint_gives : (language : Language) (n : ℕ) (o : Option Constraint) → IsOption (IsConstraintIn language) o → Gives (optional_constraint language n) o (spell_option spell_constraint o) EndsSubtype
unfolding optional_constraint same_kind
constraint_gives Profile n None good = g_no _ (is_kind k.LeftParen) (λ next g. g.0) g_pure
constraint_gives Wide n None good = g_no _ (is_kind k.LeftParen) (λ next g. g.0) (g_no _ (is_kind k.Range) (λ next g. g.1) g_pure)
constraint_gives language n (Some (index_range r)) good = g_yes _ (is_kind k.LeftParen) (λ next g. refl) (g_map (λ c. Some c) (g_weaken (λ next g. tt) (index_gives language n r good)))
constraint_gives Profile n (Some (value_range r)) good = absurd good.0
constraint_gives Wide n (Some (value_range r)) good =
    g_no _ (is_kind k.LeftParen) (λ next g. refl) (g_yes _ (is_kind k.Range) (λ next g. refl) (g_map (λ c. Some c) (g_weaken (λ next (g : EndsSubtype next). g.2) (range_gives n r good.1))))

pub subtype_gives : (language : Language) (n : ℕ) (t : Subtype) → IsSubtypeIn language t → Gives (subtype language n) t (spell_subtype t) EndsSubtype
unfolding subtype
subtype_gives language n t good = g_ident _ (g_map (λ c. record { mark = t.mark; constraint = c }) (constraint_gives language n t.constraint good))

default_gives : (language : Language) (n : ℕ) (v : Value) → IsValueIn language v → Gives (default_value language n) v (spell_default v) Ends
unfolding default_value
default_gives language n v good = g_some (λ _. value_gives language n v good)

-- neither a default nor the rest of an expression follows
abbrev pub EndsDefault : Option TokenKind → Type 0
EndsDefault next = (is_kind k.Assign next ≡ false) × Ends next

pub optional_default_gives : (language : Language) (n : ℕ) (d : Option Value) → IsOption (IsValueIn language) d → Gives (optional_default language n) d (spell_option spell_default d) EndsDefault
unfolding optional_default same_kind
optional_default_gives language n d good = option_gives (is_kind k.Assign) (default_gives language n) (λ v _ next. refl) d good

-- a default or what ends a subtype follows
pub default_ends : (d : Option Value) (next : Option TokenKind) → EndsSubtype next → EndsSubtype (front (spell_option spell_default d) next)
unfolding same_kind
default_ends None next g = g
default_ends (Some v) next g = (refl, refl, (omega arith, refl))

-- ---- objects

-- word ids : subtype [ := value ] ;
abbrev pub spell_objects : TokenKind → Objects → List Piece
spell_objects word o = some word ∷ (spell_idents o.names ++ (some k.Colon ∷ (spell_subtype o.subtype ++ (spell_option spell_default o.default ++ some k.Semicolon ∷ []))))

abbrev pub AreObjectsIn : Language → Objects → Type 0
AreObjectsIn language o = IsList IsAny o.names × IsSubtypeIn language o.subtype × IsOption (IsValueIn language) o.default

pub objects_rule : (language : Language) (n : ℕ) (word : TokenKind) → is_neutral word ≡ true → Rule n 0 (objects language n word) (spell_objects word) (AreObjectsIn language)
unfolding objects
objects_rule language n word ok =
    w_some word ok (λ _.
    w_then (idents_rule n) (λ names several _.
    w_some k.Colon refl (λ _.
    w_then (subtype_rule language n) (λ t fine _.
    w_then (optional_default_rule language n) (λ d good _.
    w_some k.Semicolon refl (λ _.
    w_pure (omega arith) refl (several, fine, good)))))))

after_subtype : (d : Option Value) (next : Option TokenKind) → EndsSubtype (front (spell_option spell_default d ++ some k.Semicolon ∷ []) next)
unfolding same_kind
after_subtype None next = (refl, refl, (omega arith, refl))
after_subtype (Some v) next = (refl, refl, (omega arith, refl))

pub objects_gives : (language : Language) (n : ℕ) (word : TokenKind) (o : Objects) → AreObjectsIn language o → Gives (objects language n word) o (spell_objects word o) Whatever
unfolding objects same_kind
objects_gives language n word o good =
    g_some (λ _.
    g_then _ (idents_gives o.names good.0)
    (g_some (λ _.
    g_then _ (subtype_gives language n o.subtype good.1)
    (g_then _ (optional_default_gives language n o.default good.2) (g_some (λ _. g_pure)) (λ next g. (refl, omega arith)))
    (λ next g. after_subtype o.default next)))
    (λ next g. (refl, tt)))

-- ---- constants, enumerations, subtypes: what is read is spelled so

-- := value ;
abbrev spell_constant_value : Value → List Piece
spell_constant_value v = some k.Assign ∷ (spell_value v ++ some k.Semicolon ∷ [])

constant_value_rule : (language : Language) (n : ℕ) → Rule n 0 (constant_value language n) spell_constant_value (IsValueIn language)
unfolding constant_value
constant_value_rule language n = w_some k.Assign refl (λ _. w_then (value_rule language n) (λ v good _. w_some k.Semicolon refl (λ _. w_pure (omega arith) refl good)))

pub constants_rule : (language : Language) (n : ℕ) → Rule n 0 (constants_of language n) spell_constants (IsConstantsIn language)
unfolding constants_of
constants_rule language n =
    w_some k.Constant refl (λ _.
    w_then (idents_rule n) (λ names several _.
    w_some k.Colon refl (λ _.
    w_then (subtype_rule language n) (λ t fine _.
    w_last (λ v. record { names = names; subtype = t; value = v }) (constant_value_rule language n) (λ v good. (refl, (several, fine, good)))))))

pub enumeration_rule : (n : ℕ) → Rule n 0 (enumeration_of n) spell_enumeration IsEnumeration
unfolding enumeration_of
enumeration_rule n =
    w_some k.Type refl (λ _.
    w_ident (λ name.
    w_some k.Is refl (λ _.
    w_left (record { tree = record { name = name; literals = an_ident ∷ [] }; more = word_at 0 [] ∷ (some k.RightParen ∷ (some k.Semicolon ∷ [])); is = refl; formed = (tt, tt) }) (below_met _ n) (λ _.
    w_below n (λ m e.
    w_then (under e (idents_rule m)) (λ literals several le.
    w_right le (λ _.
    w_some k.Semicolon refl (λ _.
    w_pure (omega arith) refl several))))))))

pub subtype_declaration_rule : (n : ℕ) → Rule n 0 (subtype_declaration Wide n) spell_subtype_declaration (IsSubtypeDeclarationIn Wide)
unfolding subtype_declaration wide
subtype_declaration_rule n =
    w_some k.Subtype refl (λ _.
    w_ident (λ name.
    w_some k.Is refl (λ _.
    w_then (subtype_rule Wide n) (λ t good _.
    w_some k.Semicolon refl (λ _.
    w_pure (omega arith) refl (tt, good))))))

-- ---- what is spelled is read

constant_value_gives : (language : Language) (n : ℕ) (v : Value) → IsValueIn language v → Gives (constant_value language n) v (spell_constant_value v) Whatever
unfolding constant_value
constant_value_gives language n v good = g_some (λ _. g_then _ (value_gives language n v good) (g_some (λ _. g_pure)) (λ next g. omega arith))

pub constants_gives : (language : Language) (n : ℕ) (d : Constants) → IsConstantsIn language d → Gives (constants_of language n) d (spell_constants d) Whatever
unfolding constants_of same_kind
constants_gives language n d good =
    g_some (λ _. g_then _ (idents_gives d.names good.0) (g_some (λ _.
    g_then _ (subtype_gives language n d.subtype good.1)
    (g_map (λ v. record { names = d.names; subtype = d.subtype; value = v }) (constant_value_gives language n d.value good.2))
    (λ next g. (refl, refl, (omega arith, refl)))))
    (λ next g. (refl, tt)))

pub enumeration_gives : (n : ℕ) (d : Enumeration) → IsEnumeration d → Gives (enumeration_of n) d (spell_enumeration d) Whatever
unfolding enumeration_of same_kind
enumeration_gives n d good =
    g_some (λ _. g_ident _ (g_some (λ _. g_some (λ _. g_below _ n (λ m e.
    g_then _ (idents_gives d.literals good) (g_some (λ _. g_some (λ _. g_pure))) (λ next g. (refl, tt)))))))

pub subtype_declaration_gives : (language : Language) (n : ℕ) (d : SubtypeDeclaration) → IsSubtypeDeclarationIn language d → Gives (subtype_declaration language n) d (spell_subtype_declaration d) Whatever
unfolding subtype_declaration wide same_kind
subtype_declaration_gives Profile n d good = absurd good.0
subtype_declaration_gives Wide n d good =
    g_some (λ _. g_ident _ (g_some (λ _. g_then _ (subtype_gives Wide n d.subtype good.1) (g_some (λ _. g_pure)) (λ next g. (refl, refl, (omega arith, refl))))))
