-- Instances that are spelled are read.
use Rattle.std.proofs.Common.{◌≡◌, ℕ, true, false, List, [], ◌∷◌, ◌++◌, Option, Some, None, refl, arith}
use Rattle.vhdl_lexer.specs.declared.language.Language.{Language}
use Rattle.vhdl_lexer.specs.declared.token.TokenKind.{TokenKind}
use Rattle.vhdl_lexer.specs.declared.token.TokenKind.TheVariants as k
use Rattle.vhdl_tree.specs.Lexeme.{same_kind}
use Rattle.vhdl_tree.specs.Tree.{Ident, Association, Instantiated, entity_unit, component_unit, Instance}
use Rattle.vhdl_tree.specs.Pieces.{some, spell_option, IsAny, IsOption}
use Rattle.vhdl_tree.specs.grammar.Expressions.{AreAssociationsIn}
use Rattle.vhdl_tree.specs.grammar.Instance.{spell_chosen, spell_instantiated, spell_map, spell_instance, IsInstanceIn}
use Rattle.vhdl_parser_expressions.specs.reader.Input.{is_kind}
use Rattle.vhdl_parser.specs.reader.Instance.{chosen, of_entity, of_component, instantiated, map_of, instance}
use Rattle.vhdl_parser_expressions.proofs.Gives.{Gives, Whatever, front, g_pure, g_then, g_map, g_some, g_ident, g_below, g_yes, g_no, eat_gives, option_gives}
use Rattle.vhdl_parser_expressions.proofs.GiveValues.{associations_gives}

chosen_gives : (n : ℕ) (i : Ident) → Gives (chosen n) i (spell_chosen i) Whatever
unfolding chosen
chosen_gives n i = g_some (λ _. g_below _ n (λ m e. g_ident _ (g_some (λ _. g_pure))))

-- no parenthesis follows
abbrev EndsUnit : Option TokenKind → Type 0
EndsUnit next = (is_kind k.LeftParen next ≡ false) × Whatever next

unit_gives : (n : ℕ) (u : Instantiated) → Gives (instantiated n) u (spell_instantiated u) EndsUnit
unfolding instantiated of_entity of_component same_kind
unit_gives n (entity_unit l i a) = g_yes _ (is_kind k.Entity) (λ next _. refl)
    (g_some (λ _. g_ident _ (g_some (λ _. g_ident _ (g_map (λ x. entity_unit l i x) (option_gives (is_kind k.LeftParen) (λ y _. chosen_gives n y) (λ y _ next. refl) a (any a)))))))
  where
    any : (o : Option Ident) → IsOption IsAny o
    any None = tt
    any (Some x) = tt
unit_gives n (component_unit true i) = g_no _ (is_kind k.Entity) (λ next _. refl) (g_then _ (eat_gives k.Component true refl) (g_ident _ g_pure) (λ next _. refl))
unit_gives n (component_unit false i) = g_no _ (is_kind k.Entity) (λ next _. refl) (g_then _ (eat_gives k.Component false refl) (g_ident _ g_pure) (λ next _. refl))

map_gives : (language : Language) (n : ℕ) (word : TokenKind) (all : List Association) → AreAssociationsIn language all → Gives (map_of language n word) all (spell_map word all) Whatever
unfolding map_of same_kind
map_gives language n word all f = g_some (λ _. g_some (λ _. g_some (λ _. g_below _ n (λ m e. g_then _ (associations_gives language m all f) (g_some (λ _. g_pure)) (λ next _. (refl, (refl, omega arith)))))))

-- the word that comes next
after_unit : (g p : Option (List Association)) (next : Option TokenKind) → EndsUnit (front (spell_option (spell_map k.Generic) g ++ (spell_option (spell_map k.Port) p ++ some k.Semicolon ∷ [])) next)
unfolding same_kind
after_unit None None next = (refl, tt)
after_unit _ _ next = (refl, tt)

after_generics : (p : Option (List Association)) (next : Option TokenKind) → (is_kind k.Generic (front (spell_option (spell_map k.Port) p ++ some k.Semicolon ∷ []) next) ≡ false) × Whatever next
unfolding same_kind
after_generics None next = (refl, tt)
after_generics (Some p) next = (refl, tt)

pub instance_gives : (language : Language) (n : ℕ) (i : Instance) → IsInstanceIn language i → Gives (instance language n) i (spell_instance i) Whatever
unfolding instance same_kind
instance_gives language n i f =
    g_then _ (unit_gives n i.unit)
    (g_then _ (option_gives (is_kind k.Generic) (λ a good. map_gives language n k.Generic a good) (λ a _ next. refl) i.generics f.0)
    (g_then _ (option_gives (is_kind k.Port) (λ a good. map_gives language n k.Port a good) (λ a _ next. refl) i.ports f.1) (g_some (λ _. g_pure)) (λ next _. (refl, tt)))
    (λ next _. after_generics i.ports next))
    (λ next _. after_unit i.generics i.ports next)
