-- Context clauses: what is read is spelled so, and what is spelled is read.
use Rattle.std.proofs.Common.{◌≡◌, ℕ, ◌≤◌, true, false, List, [], length, Option, refl, arith}
use Rattle.vhdl_lexer.specs.declared.token.TokenKind.{TokenKind}
use Rattle.vhdl_lexer.specs.declared.token.TokenKind.TheVariants as k
use Rattle.vhdl_tree.specs.Lexeme.{same_kind}
use Rattle.vhdl_tree.specs.Tree.{Ident, Selected, ContextItem, library, uses}
use Rattle.vhdl_tree.specs.Pieces.{spell_each, spell_list, IsAny, IsEach, IsList}
use Rattle.vhdl_tree.specs.grammar.Units.{spell_selected, spell_context, IsContext}
use Rattle.vhdl_parser_expressions.specs.reader.Input.{is_kind}
use Rattle.vhdl_parser.specs.reader.Context.{selected, selecteds, library_clause, use_clause, context_item, begins_context, context}
use Rattle.vhdl_parser_expressions.proofs.Walks.{Rule, w_pure, w_then}
use Rattle.vhdl_parser_expressions.proofs.Rules.{w_some, w_ident, w_test}
use Rattle.vhdl_parser_expressions.proofs.Repeats.{each_rule, separated_rule}
use Rattle.vhdl_parser_expressions.proofs.Gives.{Gives, Whatever, front, g_pure, g_then, g_some, g_ident, g_yes, g_no, more_gives, separated_gives}
use Rattle.vhdl_parser_statements.proofs.Subtypes.{idents_rule, idents_gives}

selected_rule : (n : ℕ) → Rule n 0 selected spell_selected IsAny
unfolding selected
selected_rule n = w_ident (λ place. w_some k.Dot refl (λ _. w_ident (λ name. w_some k.Dot refl (λ _. w_some k.All refl (λ _. w_pure (omega arith) refl tt)))))

selecteds_rule : (n : ℕ) → Rule n 0 selecteds (spell_list k.Comma spell_selected) (IsList IsAny)
selecteds_rule n = separated_rule k.Comma refl (omega arith) (selected_rule n)

context_item_rule : (n : ℕ) → Rule n 0 context_item spell_context IsContext
unfolding context_item library_clause use_clause
context_item_rule n = w_test (is_kind k.Library)
    (w_some k.Library refl (λ _. w_then (idents_rule n) (λ names several _. w_some k.Semicolon refl (λ _. w_pure (omega arith) refl several))))
    (w_some k.Use refl (λ _. w_then (selecteds_rule n) (λ all several _. w_some k.Semicolon refl (λ _. w_pure (omega arith) refl several))))

context_some : (c : ContextItem) → 1 ≤ length (spell_context c)
context_some (library names) = omega arith
context_some (uses all) = omega arith

pub context_rule : (n : ℕ) → Rule n 0 context (spell_each spell_context) (IsEach IsContext)
unfolding context
context_rule n = each_rule begins_context context_item (omega arith) (context_item_rule n) refl context_some

selected_gives : (s : Selected) → IsAny s → Gives selected s (spell_selected s) Whatever
unfolding selected
selected_gives s good = g_ident _ (g_some (λ _. g_ident _ (g_some (λ _. g_some (λ _. g_pure)))))

selecteds_gives : (all : List Selected) → IsList IsAny all → Gives selecteds all (spell_list k.Comma spell_selected all) (λ next. (is_kind k.Comma next ≡ false) × Whatever next)
unfolding same_kind
selecteds_gives all good = separated_gives k.Comma refl tt selected_gives all good

library_gives : (names : List Ident) → IsList IsAny names → Gives library_clause (library names) (spell_context (library names)) Whatever
unfolding library_clause same_kind
library_gives names good = g_some (λ _. g_then _ (idents_gives names good) (g_some (λ _. g_pure)) (λ next g. (refl, tt)))

uses_gives : (all : List Selected) → IsList IsAny all → Gives use_clause (uses all) (spell_context (uses all)) Whatever
unfolding use_clause same_kind
uses_gives all good = g_some (λ _. g_then _ (selecteds_gives all good) (g_some (λ _. g_pure)) (λ next g. (refl, tt)))

context_item_gives : (c : ContextItem) → IsContext c → Gives context_item c (spell_context c) Whatever
unfolding context_item same_kind
context_item_gives (library names) good = g_yes use_clause (is_kind k.Library) (λ next g. refl) (library_gives names good)
context_item_gives (uses all) good = g_no library_clause (is_kind k.Library) (λ next g. refl) (uses_gives all good)

context_begins : (c : ContextItem) → IsContext c → (next : Option TokenKind) → begins_context (front (spell_context c) next) ≡ true
context_begins (library names) good next = refl
context_begins (uses all) good next = refl

pub context_gives : (cs : List ContextItem) → IsEach IsContext cs → Gives context cs (spell_each spell_context cs) (λ next. (begins_context next ≡ false) × Whatever next)
unfolding context
context_gives cs good = more_gives begins_context context_item_gives context_begins context_some (λ next e. tt) cs good []
