-- What stands behind the ports of an entity: what is read is spelled so, and what is spelled is read.
use Rattle.std.proofs.Common.{◌≡◌, ℕ, zero, suc, ◌≤◌, true, false, List, [], ◌++◌, length, Ok, Option, Some, None, refl, arith}
use Rattle.vhdl_lexer.specs.declared.language.Language.{Language}
use Rattle.vhdl_lexer.specs.declared.language.Language.TheVariants.{Profile, Wide}
use Rattle.vhdl_lexer.specs.declared.token.TokenKind.{TokenKind}
use Rattle.vhdl_lexer.specs.declared.token.TokenKind.TheVariants as k
use Rattle.vhdl_tree.specs.Lexeme.{Lexeme, same_kind}
use Rattle.vhdl_tree.specs.Tree.{Ident, Text, Assertion}
use Rattle.vhdl_tree.specs.Pieces.{spell_option, spell_each, IsEach, IsOption}
use Rattle.vhdl_tree.specs.grammar.Concurrent.{spell_assertion, IsAssertionIn}
use Rattle.vhdl_tree.specs.grammar.Sequential.{spell_label}
use Rattle.vhdl_tree.specs.grammar.Texts.{spell_text, IsTextIn}
use Rattle.vhdl_tree.specs.grammar.Units.{spell_entity_statements, AreEntityStatementsIn}
use Rattle.vhdl_parser_expressions.specs.reader.Input.{Parser, next_kind, is_kind, many_from}
use Rattle.vhdl_parser_statements.specs.reader.Sequential.{label}
use Rattle.vhdl_parser_statements.specs.reader.Texts.{text_of}
use Rattle.vhdl_parser.specs.reader.Concurrent.{assert}
use Rattle.vhdl_parser.specs.reader.Units.{max_open, begins_attribute, attributes, begins_assertion, entity_assertion, entity_statements, optional_statements}
use Rattle.vhdl_parser_expressions.proofs.Walks.{Rule, w_pure, w_then, w_last, w_ends}
use Rattle.vhdl_parser_expressions.proofs.Rules.{w_some, w_ident, w_same, w_test, option_rule}
use Rattle.vhdl_parser_expressions.proofs.Repeats.{each_rule}
use Rattle.vhdl_parser_expressions.proofs.Gives.{Gives, Whatever, front, g_pure, g_then, g_map, g_some, g_ident, g_yes, g_no, g_weaken, option_gives, more_gives}
use Rattle.vhdl_parser_statements.proofs.GiveSequential.{wide_is}
use Rattle.vhdl_parser_statements.proofs.GiveTexts.{text_gives}
use Rattle.vhdl_parser_statements.proofs.WalkTexts.{text_rule}

-- ---- attributes

no_attribute : (next : Option TokenKind) → begins_attribute Profile next ≡ false
no_attribute None = refl
no_attribute (Some k.Attribute) = refl
no_attribute (Some kind) = refl

none_read : (item : Parser Text) (turns : ℕ) (ts : List Lexeme) → Ok ([], ts) ≡ many_from (begins_attribute Profile) item turns [] ts
unfolding many_from
none_read item zero ts = refl
none_read item (suc turns) ts = rw (no_attribute (next_kind ts)) refl

pub attributes_rule : (language : Language) → Rule max_open 0 (attributes language) (spell_each (spell_text k.Attribute)) (IsEach (IsTextIn language))
unfolding attributes
attributes_rule Profile = w_same (λ ts. none_read (text_of Profile max_open k.Attribute) (length ts) ts) (w_pure (omega arith) refl tt)
attributes_rule Wide = each_rule (begins_attribute Wide) (text_of Wide max_open k.Attribute) (omega arith) (text_rule max_open k.Attribute refl) refl (λ text. omega arith)

attribute_begins : (language : Language) (text : Text) → IsTextIn language text → begins_attribute language (Some k.Attribute) ≡ true
attribute_begins language text f = wide_is language f.0

pub attributes_gives : (language : Language) (texts : List Text) → IsEach (IsTextIn language) texts → Gives (attributes language) texts (spell_each (spell_text k.Attribute) texts) (λ next. (begins_attribute language next ≡ false) × Whatever next)
unfolding attributes
attributes_gives language texts f = more_gives (begins_attribute language) (λ text good. text_gives language max_open k.Attribute text good) (λ text good next. attribute_begins language text good) (λ text. omega arith) (λ next e. tt) texts f []

-- ---- assertions

label_rule : Rule max_open 0 label spell_label (λ i. Unit {0})
unfolding label
label_rule = w_ident (λ i. w_some k.Colon refl (λ _. w_pure (omega arith) refl tt))

assertion_rule : Rule max_open 0 entity_assertion spell_assertion (IsAssertionIn Wide)
unfolding entity_assertion assert
assertion_rule = w_then (option_rule (is_kind k.Identifier) (omega arith) label_rule) (λ l _ _. w_last (λ x. record { label = l; text = x }) (text_rule max_open k.Assert refl) (λ x good. (refl, good)))

assertion_long : (a : Assertion) → 1 ≤ length (spell_assertion a)
assertion_long a = by a.label
  where
    by : (l : Option Ident) → 1 ≤ length (spell_option spell_label l ++ spell_text k.Assert a.text)
    by None = omega arith
    by (Some i) = omega arith

statements_rule : Rule max_open 0 entity_statements spell_entity_statements (AreEntityStatementsIn Wide)
unfolding entity_statements
statements_rule = w_some k.Begin refl (λ _. w_ends (λ all. refl) (λ all good. (tt, good)) (each_rule begins_assertion entity_assertion (omega arith) assertion_rule refl assertion_long))

pub optional_statements_rule : (language : Language) → Rule max_open 0 (optional_statements language) (spell_option spell_entity_statements) (IsOption (AreEntityStatementsIn language))
unfolding optional_statements
optional_statements_rule Profile = w_pure (omega arith) refl tt
optional_statements_rule Wide = w_test (is_kind k.Begin) (w_last (λ all. Some all) statements_rule (λ all good. (refl, good))) (w_pure (omega arith) refl tt)

label_gives : (i : Ident) → Unit {0} → Gives label i (spell_label i) Whatever
unfolding label
label_gives i f = g_ident _ (g_some (λ _. g_pure))

any_label : (o : Option Ident) → IsOption (λ i. Unit {0}) o
any_label None = tt
any_label (Some i) = tt

assertion_gives : (a : Assertion) → IsAssertionIn Wide a → Gives entity_assertion a (spell_assertion a) Whatever
unfolding entity_assertion assert same_kind
assertion_gives a f = g_then _ (option_gives (is_kind k.Identifier) label_gives (λ i _ next. refl) a.label (any_label a.label))
    (g_map (λ x. record { label = a.label; text = x }) (text_gives Wide max_open k.Assert a.text f)) (λ next _. (refl, tt))

assertion_begins : (a : Assertion) → IsAssertionIn Wide a → (next : Option TokenKind) → begins_assertion (front (spell_assertion a) next) ≡ true
assertion_begins a f next = by a.label
  where
    by : (l : Option Ident) → begins_assertion (front (spell_option spell_label l ++ spell_text k.Assert a.text) next) ≡ true
    by None = refl
    by (Some i) = refl

statements_gives : (all : List Assertion) → AreEntityStatementsIn Wide all → Gives entity_statements all (spell_entity_statements all) (λ next. (begins_assertion next ≡ false) × Whatever next)
unfolding entity_statements
statements_gives all f = g_some (λ _. more_gives begins_assertion assertion_gives assertion_begins assertion_long (λ next e. tt) all f.1 [])

-- `end` follows
pub optional_statements_gives : (language : Language) (o : Option (List Assertion)) → IsOption (AreEntityStatementsIn language) o →
    Gives (optional_statements language) o (spell_option spell_entity_statements o) (λ next. (is_kind k.Begin next ≡ false) × (begins_assertion next ≡ false))
unfolding optional_statements same_kind
optional_statements_gives Profile None f = g_pure
optional_statements_gives Profile (Some all) f = absurd f.0
optional_statements_gives Wide None f = g_no _ (is_kind k.Begin) (λ next g. g.0) g_pure
optional_statements_gives Wide (Some all) f = g_yes _ (is_kind k.Begin) (λ next _. refl) (g_map (λ x. Some x) (g_weaken (λ next g. (g.1, tt)) (statements_gives all f)))
