-- Declarations: what is read is spelled so, and what is spelled is read.
use Rattle.std.proofs.Common.{◌≡◌, ℕ, ◌≤◌, Bool, true, false, List, [], ◌∷◌, ◌++◌, length, Option, Some, None, refl, sym, ap, append-nil, arith}
use Rattle.vhdl_lexer.specs.declared.language.Language.{Language}
use Rattle.vhdl_lexer.specs.declared.language.Language.TheVariants.{Profile, Wide}
use Rattle.vhdl_lexer.specs.declared.token.TokenKind.{TokenKind}
use Rattle.vhdl_lexer.specs.declared.token.TokenKind.TheVariants as k
use Rattle.vhdl_tree.specs.Lexeme.{same_kind}
use Rattle.vhdl_tree.specs.Tree.{Ident, Generic, Port, Signals, Enumeration, Component, Declaration, signals, constants, enumeration, component, subtype_of, attribute_of}
use Rattle.vhdl_tree.specs.Pieces.{some, spell_ident, spell_word, spell_option, spell_each, IsEach}
use Rattle.vhdl_tree.specs.grammar.Declarations.{spell_generics, spell_ports, spell_signals, spell_component, spell_declaration, IsSignalsIn, IsComponentIn, IsDeclarationIn}
use Rattle.vhdl_tree.specs.grammar.Subtypes.{spell_enumeration}
use Rattle.vhdl_tree.specs.grammar.Sequential.{spell_end}
use Rattle.vhdl_parser_expressions.specs.reader.Input.{is_kind}
use Rattle.vhdl_parser_declarations.specs.reader.Declarations.{signals_of, component_of, declaration_by, declaration, begins_declaration, declarations}
use Rattle.vhdl_parser_expressions.proofs.Halts.{Example}
use Rattle.vhdl_parser_expressions.proofs.Walks.{Rule, afresh, w_pure, w_then, w_last}
use Rattle.vhdl_parser_expressions.proofs.Rules.{w_some, w_ident, w_choose, w_refuse, word_rule}
use Rattle.vhdl_parser_expressions.proofs.Repeats.{each_rule}
use Rattle.vhdl_parser_expressions.proofs.Gives.{Gives, Whatever, front, g_then, g_map, g_some, g_ident, g_choose, eat_gives, more_gives}
use Rattle.vhdl_parser_statements.proofs.Plain.{an_ident}
use Rattle.vhdl_parser_statements.proofs.GiveSequential.{end_gives, wide_is}
use Rattle.vhdl_parser_statements.proofs.WalkSequential.{w_end_neutral}
use Rattle.vhdl_parser_statements.proofs.Subtypes.{objects_rule, objects_gives, constants_rule, constants_gives, enumeration_rule, enumeration_gives, subtype_declaration_rule, subtype_declaration_gives}
use Rattle.vhdl_parser_statements.proofs.GiveTexts.{text_gives}
use Rattle.vhdl_parser_statements.proofs.WalkTexts.{text_rule}
use Rattle.vhdl_parser_statements.specs.reader.Subtypes.{subtype_declaration}
use Rattle.vhdl_parser_statements.specs.reader.Texts.{text_of}
use Rattle.vhdl_parser_statements.specs.reader.Wide.{wide}
use Rattle.vhdl_parser_declarations.proofs.Ports.{optional_generics_rule, optional_generics_gives, optional_ports_rule, optional_ports_gives}

-- ---- what is read is spelled so

signals_rule : (language : Language) (n : ℕ) → Rule n 0 (signals_of language n) spell_signals (IsSignalsIn language)
unfolding signals_of
signals_rule language n = w_last (λ o. record { names = o.names; subtype = o.subtype; default = o.default }) (objects_rule language n k.Signal refl) (λ o good. (refl, good))

component_spelled : (name : Ident) (word : Bool) (gs : Option (List Generic)) (ps : Option (List Port)) (last : Option Ident) →
    spell_component (record { name = name; is_word = word; generics = gs; ports = ps; end_name = last })
    ≡ some k.Component ∷ (spell_ident name ++ (spell_word k.Is word ++ (spell_option spell_generics gs ++ (spell_option spell_ports ps ++ (spell_end k.Component last ++ [])))))
component_spelled name word gs ps last =
    ap (λ r. some k.Component ∷ (spell_ident name ++ (spell_word k.Is word ++ (spell_option spell_generics gs ++ (spell_option spell_ports ps ++ r))))) (sym (append-nil (spell_end k.Component last)))

component_rule : (language : Language) (n : ℕ) → Rule n 0 (component_of language n) spell_component (IsComponentIn language)
unfolding component_of
component_rule language n =
    w_some k.Component refl (λ _.
    w_ident (λ name.
    w_then (word_rule k.Is refl (omega arith)) (λ word _ _.
    w_then (optional_generics_rule language n) (λ gs fine _.
    w_then (optional_ports_rule language n) (λ ps good _.
    w_end_neutral k.Component refl (λ last. w_pure (omega arith) (component_spelled name word gs ps last) (fine, good)))))))

-- type id is ( id ) ;
plain_declaration : (language : Language) → Example afresh spell_declaration (IsDeclarationIn language)
plain_declaration language =
    let e : Enumeration = record { name = an_ident; literals = an_ident ∷ [] } in
    record { tree = enumeration e; more = spell_enumeration e; is = refl; formed = (tt, tt) }

declaration_rule : (language : Language) (n : ℕ) → Rule n 0 (declaration language n) spell_declaration (IsDeclarationIn language)
unfolding declaration subtype_declaration text_of wide
declaration_rule language n = w_choose (λ next. by_next language next)
  where
    by_next : (l : Language) (next : Option TokenKind) → Rule n 0 (declaration_by l n next) spell_declaration (IsDeclarationIn l)
    by_next l (Some k.Signal) = w_last signals (signals_rule l n) (λ d good. (refl, good))
    by_next l (Some k.Constant) = w_last constants (constants_rule l n) (λ d good. (refl, good))
    by_next l (Some k.Type) = w_last enumeration (enumeration_rule n) (λ d good. (refl, good))
    by_next l (Some k.Component) = w_last component (component_rule l n) (λ d good. (refl, good))
    by_next Profile (Some k.Subtype) = w_refuse (plain_declaration Profile)
    by_next Profile (Some k.Attribute) = w_refuse (plain_declaration Profile)
    by_next Wide (Some k.Subtype) = w_last subtype_of (subtype_declaration_rule n) (λ d good. (refl, good))
    by_next Wide (Some k.Attribute) = w_last attribute_of (text_rule n k.Attribute refl) (λ d good. (refl, good))
    by_next l _ = w_refuse (plain_declaration l)

declaration_some : (d : Declaration) → 1 ≤ length (spell_declaration d)
declaration_some (signals d) = omega arith
declaration_some _ = omega arith

pub declarations_rule : (language : Language) (n : ℕ) → Rule n 0 (declarations language n) (spell_each spell_declaration) (IsEach (IsDeclarationIn language))
unfolding declarations
declarations_rule language n = each_rule (begins_declaration language) (declaration language n) (omega arith) (declaration_rule language n) refl declaration_some

-- ---- what is spelled is read

signals_gives : (language : Language) (n : ℕ) (d : Signals) → IsSignalsIn language d → Gives (signals_of language n) d (spell_signals d) Whatever
unfolding signals_of
signals_gives language n d good = g_map (λ o. record { names = o.names; subtype = o.subtype; default = o.default }) (objects_gives language n k.Signal (record { names = d.names; subtype = d.subtype; default = d.default }) good)

component_gives : (language : Language) (n : ℕ) (c : Component) → IsComponentIn language c → Gives (component_of language n) c (spell_component c) Whatever
unfolding component_of same_kind
component_gives language n c good =
    g_some (λ _. g_ident _ (
    g_then _ (eat_gives k.Is c.is_word refl)
    (g_then _ (optional_generics_gives language n c.generics good.0)
    (g_then _ (optional_ports_gives language n c.ports good.1)
    (g_map (λ l. record { name = c.name; is_word = c.is_word; generics = c.generics; ports = c.ports; end_name = l }) (end_gives k.Component c.end_name))
    (λ next g. (refl, tt)))
    (λ next g. no_generic c.ports next))
    (λ next g. no_is c.generics c.ports next)))
  where
    no_generic : (ps : Option (List Port)) (next : Option TokenKind) → (is_kind k.Generic (front (spell_option spell_ports ps ++ (some k.End ∷ (some k.Component ∷ (spell_option spell_ident c.end_name ++ some k.Semicolon ∷ [])))) next) ≡ false) × Unit {0}
    no_generic None next = (refl, tt)
    no_generic (Some ps) next = (refl, tt)

    no_is : (gs : Option (List Generic)) (ps : Option (List Port)) (next : Option TokenKind) → is_kind k.Is (front (spell_option spell_generics gs ++ (spell_option spell_ports ps ++ (some k.End ∷ (some k.Component ∷ (spell_option spell_ident c.end_name ++ some k.Semicolon ∷ []))))) next) ≡ false
    no_is None None next = refl
    no_is _ _ next = refl

declaration_gives : (language : Language) (n : ℕ) (d : Declaration) → IsDeclarationIn language d → Gives (declaration language n) d (spell_declaration d) Whatever
unfolding declaration
declaration_gives language n (signals d) good = g_choose (declaration_by language n) (Some k.Signal) (λ next g. refl) (g_map (λ x. signals x) (signals_gives language n d good))
declaration_gives language n (constants d) good = g_choose (declaration_by language n) (Some k.Constant) (λ next g. refl) (g_map (λ x. constants x) (constants_gives language n d good))
declaration_gives language n (enumeration d) good = g_choose (declaration_by language n) (Some k.Type) (λ next g. refl) (g_map (λ x. enumeration x) (enumeration_gives n d good))
declaration_gives language n (component d) good = g_choose (declaration_by language n) (Some k.Component) (λ next g. refl) (g_map (λ x. component x) (component_gives language n d good))
declaration_gives language n (subtype_of d) good = g_choose (declaration_by language n) (Some k.Subtype) (λ next g. refl) (g_map (λ x. subtype_of x) (subtype_declaration_gives language n d good))
declaration_gives language n (attribute_of text) good = g_choose (declaration_by language n) (Some k.Attribute) (λ next g. refl) (g_map (λ x. attribute_of x) (text_gives language n k.Attribute text good))

declaration_begins : (language : Language) (d : Declaration) → IsDeclarationIn language d → (next : Option TokenKind) → begins_declaration language (front (spell_declaration d) next) ≡ true
declaration_begins language (signals d) good next = refl
declaration_begins language (subtype_of d) good next = wide_is language good.0
declaration_begins language (attribute_of text) good next = wide_is language good.0
declaration_begins language _ good next = refl

-- no declaration follows
pub declarations_gives : (language : Language) (n : ℕ) (ds : List Declaration) → IsEach (IsDeclarationIn language) ds → Gives (declarations language n) ds (spell_each spell_declaration ds) (λ next. (begins_declaration language next ≡ false) × Whatever next)
unfolding declarations
declarations_gives language n ds good = more_gives (begins_declaration language) (declaration_gives language n) (declaration_begins language) declaration_some (λ next e. tt) ds good []
