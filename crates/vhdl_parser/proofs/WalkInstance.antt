-- What the readers of instances make.
use Rattle.std.proofs.Common.{◌≡◌, ℕ, true, [], ◌∷◌, None, refl, sym, ap, append-nil, arith}
use Rattle.vhdl_lexer.specs.declared.language.Language.{Language}
use Rattle.vhdl_lexer.specs.declared.token.TokenKind.{TokenKind}
use Rattle.vhdl_lexer.specs.declared.token.TokenKind.TheVariants as k
use Rattle.vhdl_tree.specs.Tree.{left_open}
use Rattle.vhdl_tree.specs.Pieces.{some, one_at, word_at, spell_option, IsAny}
use Rattle.vhdl_tree.specs.grammar.Expressions.{AreAssociationsIn}
use Rattle.vhdl_tree.specs.grammar.Instance.{spell_chosen, spell_instantiated, spell_map, spell_instance, IsInstanceIn}
use Rattle.vhdl_parser_expressions.specs.reader.Input.{is_kind}
use Rattle.vhdl_parser.specs.reader.Instance.{chosen, of_entity, of_component, instantiated, map_of, instance}
use Rattle.vhdl_parser_expressions.proofs.Walks.{Rule, w_pure, w_then}
use Rattle.vhdl_parser_expressions.proofs.Rules.{is_neutral, w_some, w_left, w_right, w_ident, w_word, w_test, w_below, below_met, under, option_rule}
use Rattle.vhdl_parser_expressions.proofs.WalkValues.{associations_rule}
use Rattle.vhdl_parser_statements.proofs.Plain.{an_ident}

chosen_rule : (n : ℕ) → Rule n 0 (chosen n) spell_chosen IsAny
unfolding chosen
chosen_rule n = w_left (record { tree = an_ident; more = word_at 0 [] ∷ (some k.RightParen ∷ []); is = refl; formed = tt }) (below_met _ n) (λ _. w_below n (λ m e. w_ident (λ i. w_right (omega (arith, e)) (λ _. w_pure (omega arith) refl tt))))

entity_rule : (n : ℕ) → Rule n 0 (of_entity n) spell_instantiated IsAny
unfolding of_entity
entity_rule n = w_some k.Entity refl (λ _. w_ident (λ l. w_some k.Dot refl (λ _. w_ident (λ i. w_then (option_rule (is_kind k.LeftParen) (omega arith) (chosen_rule n))
    (λ a _ _. w_pure (omega arith) (ap (λ ps. some k.Entity ∷ (word_at l.at l.text ∷ (some k.Dot ∷ (word_at i.at i.text ∷ ps)))) (sym (append-nil (spell_option spell_chosen a)))) tt)))))

component_rule : (n : ℕ) → Rule n 0 of_component spell_instantiated IsAny
unfolding of_component
component_rule n = w_word k.Component refl (λ w e. w_ident (λ i. w_pure (omega arith) refl tt))

instantiated_rule : (n : ℕ) → Rule n 0 (instantiated n) spell_instantiated IsAny
unfolding instantiated
instantiated_rule n = w_test (is_kind k.Entity) (entity_rule n) (component_rule n)

map_rule : (language : Language) (n : ℕ) (word : TokenKind) → is_neutral word ≡ true → Rule n 0 (map_of language n word) (spell_map word) (AreAssociationsIn language)
unfolding map_of
map_rule language n word ok = w_some word ok (λ _. w_some k.Map refl (λ _.
    w_left (record { tree = record { formal = None; actual = left_open 0 } ∷ []; more = one_at k.Open 0 ∷ (some k.RightParen ∷ []); is = refl; formed = (tt, tt) }) (below_met _ n) (λ _. w_below n (λ m e. w_then (under e (associations_rule language m)) (λ all good le. w_right le (λ _. w_pure (omega arith) refl good))))))

pub instance_rule : (language : Language) (n : ℕ) → Rule n 0 (instance language n) spell_instance (IsInstanceIn language)
unfolding instance
instance_rule language n = w_then (instantiated_rule n) (λ u _ _.
    w_then (option_rule (is_kind k.Generic) (omega arith) (map_rule language n k.Generic refl)) (λ g good _.
    w_then (option_rule (is_kind k.Port) (omega arith) (map_rule language n k.Port refl)) (λ p fine _.
    w_some k.Semicolon refl (λ _. w_pure (omega arith) refl (good, fine)))))
