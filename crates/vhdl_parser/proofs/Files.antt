-- Units and files: what is read is spelled so, and what is spelled is read.
use Rattle.std.proofs.Common.{◌≡◌, ◌+◌, ◌≤◌, Bool, true, false, List, [], ◌∷◌, ◌++◌, length, take, Ok, Err, Option, Some, None, inl, ⊎_elim, refl, sym, ap, ◌∙◌, subst, append-nil, arith}
use Rattle.vhdl_lexer.specs.declared.language.Language.{Language}
use Rattle.vhdl_lexer.specs.declared.token.TokenKind.{TokenKind}
use Rattle.vhdl_lexer.specs.declared.token.TokenKind.TheVariants as k
use Rattle.vhdl_parser_expressions.specs.declared.stop.Stop.{Stop}
use Rattle.vhdl_parser_expressions.specs.declared.stop.Stop.TheVariants.{Unexpected, TooDeep}
use Rattle.vhdl_tree.specs.Lexeme.{Lexeme, same_kind}
use Rattle.vhdl_tree.specs.Tree.{Ident, Text, Assertion, Port, Entity, Architecture, ContextItem, library, uses, LibraryUnit, entity, architecture, DesignUnit, File}
use Rattle.vhdl_tree.specs.Pieces.{some, Spells, spell_ident, spell_option, spell_each, IsEach}
use Rattle.vhdl_tree.specs.Levels.{opens, closes, IsShallow, IsDeep}
use Rattle.vhdl_tree.specs.grammar.Declarations.{spell_ports}
use Rattle.vhdl_tree.specs.grammar.Texts.{spell_text}
use Rattle.vhdl_tree.specs.grammar.Units.{spell_context, spell_end, spell_entity_statements, spell_entity, spell_architecture, spell_library_unit, spell_unit, spell_file, IsEntityIn, IsArchitectureIn, IsLibraryUnitIn, IsUnitIn, IsFileIn}
use Rattle.vhdl_parser_expressions.specs.reader.Input.{Outcome, and_then, expect, next_kind, is_kind, is_more, eat, identifier, optional, refusal}
use Rattle.vhdl_parser.specs.reader.Context.{begins_context}
use Rattle.vhdl_parser.specs.reader.Units.{max_open, begins_attribute, entity_unit, architecture_unit, library_unit_by, library_unit, unit, units, finish, file}
use Rattle.vhdl_parser_expressions.proofs.Steps.{bind_ok, bind_err, pure_ok, pure_err, err_why, err_at}
use Rattle.vhdl_parser_expressions.proofs.Yields.{yields_bind}
use Rattle.vhdl_parser_expressions.proofs.Halts.{Example}
use Rattle.vhdl_parser_expressions.proofs.Walks.{Rule, afresh, Made, w_pure, w_then, w_last, low_at, deep_is}
use Rattle.vhdl_parser_expressions.proofs.Rules.{w_at, w_some, w_end, w_ident, w_word, w_option_ident, w_choose, w_refuse}
use Rattle.vhdl_parser_expressions.proofs.Repeats.{each_rule}
use Rattle.vhdl_parser_expressions.proofs.Gives.{Gives, Reaches, Whatever, front, g_pure, g_then, g_map, g_at, g_some, g_ident, g_choose, eat_gives, more_gives}
use Rattle.vhdl_parser_statements.proofs.Plain.{an_ident}
use Rattle.vhdl_parser_statements.proofs.Subtypes.{last_gives}
use Rattle.vhdl_parser.proofs.Contexts.{context_rule, context_gives}
use Rattle.vhdl_parser.proofs.Entities.{attributes_rule, attributes_gives, optional_statements_rule, optional_statements_gives}
use Rattle.vhdl_parser_declarations.proofs.Ports.{optional_generics_rule, optional_generics_gives, optional_ports_rule, optional_ports_gives}
use Rattle.vhdl_parser_declarations.proofs.Declared.{declarations_rule, declarations_gives}
use Rattle.vhdl_parser.proofs.Concurrents.{concurrents_rule}
use Rattle.vhdl_parser.proofs.GiveConcurrents.{concurrents_gives}

-- ---- entities and architectures

entity_rule : (language : Language) → Rule max_open 0 (entity_unit language) spell_entity (IsEntityIn language)
unfolding entity_unit
entity_rule language =
    w_at k.Entity refl (λ at.
    w_ident (λ name.
    w_some k.Is refl (λ _.
    w_then (optional_generics_rule language max_open) (λ gs fine _.
    w_then (optional_ports_rule language max_open) (λ ps good _.
    w_then (attributes_rule language) (λ texts known _.
    w_then (optional_statements_rule language) (λ ss sound _.
    w_end (λ _.
    w_word k.Entity refl (λ word e.
    w_option_ident (λ last e2.
    w_some k.Semicolon refl (λ _.
    w_pure (omega arith) refl (fine, good, known, sound))))))))))))

architecture_rule : (language : Language) → Rule max_open 0 (architecture_unit language) spell_architecture (IsArchitectureIn language)
unfolding architecture_unit
architecture_rule language =
    w_at k.Architecture refl (λ at.
    w_ident (λ name.
    w_some k.Of refl (λ _.
    w_ident (λ of_entity.
    w_some k.Is refl (λ _.
    w_then (declarations_rule language max_open) (λ ds fine _.
    w_some k.Begin refl (λ _.
    w_then (concurrents_rule language max_open) (λ found good _.
    w_end (λ _.
    w_word k.Architecture refl (λ word e.
    w_option_ident (λ last e2.
    w_some k.Semicolon refl (λ _.
    w_pure (omega arith) refl (fine, good)))))))))))))

-- entity id is end ;
plain_entity : (language : Language) → Example afresh spell_library_unit (IsLibraryUnitIn language)
plain_entity language =
    let e : Entity = record { at = 0; name = an_ident; generics = None; ports = None; attributes = []; statements = None; end_word = false; end_name = None } in
    record { tree = entity e; more = spell_entity e; is = refl; formed = (tt, tt, tt, tt) }

library_unit_rule : (language : Language) → Rule max_open 0 (library_unit language) spell_library_unit (IsLibraryUnitIn language)
unfolding library_unit
library_unit_rule language = w_choose (λ next. by_next next)
  where
    by_next : (next : Option TokenKind) → Rule max_open 0 (library_unit_by language next) spell_library_unit (IsLibraryUnitIn language)
    by_next (Some k.Entity) = w_last entity (entity_rule language) (λ e good. (refl, good))
    by_next (Some k.Architecture) = w_last architecture (architecture_rule language) (λ a good. (refl, good))
    by_next _ = w_refuse (plain_entity language)

unit_rule : (language : Language) → Rule max_open 0 (unit language) spell_unit (IsUnitIn language)
unfolding unit
unit_rule language = w_then (context_rule max_open) (λ before good _. w_last (λ u. record { context = before; unit = u }) (library_unit_rule language) (λ u fine. (refl, (good, fine))))

unit_some : (u : DesignUnit) → 1 ≤ length (spell_unit u)
unit_some u = by_parts u.context u.unit
  where
    by_parts : (cs : List ContextItem) (x : LibraryUnit) → 1 ≤ length (spell_each spell_context cs ++ spell_library_unit x)
    by_parts [] (entity e) = omega arith
    by_parts [] (architecture a) = omega arith
    by_parts (library names ∷ more) x = omega arith
    by_parts (uses all ∷ more) x = omega arith

pub units_rule : (language : Language) → Rule max_open 0 (units language) (spell_each spell_unit) (IsEach (IsUnitIn language))
unfolding units
units_rule language = each_rule is_more (unit language) (omega arith) (unit_rule language) refl unit_some

-- end [ word ] [ id ] ;
end_gives : {B : Type 0} (f : Bool → Option Ident → B) (kind : TokenKind) (word : Bool) (last : Option Ident) → same_kind kind kind ≡ true → same_kind k.Identifier kind ≡ false → same_kind k.Semicolon kind ≡ false →
    Gives (λ ts. and_then (expect k.End ts) (λ _ us. and_then (eat kind us) (λ w vs. and_then (optional (is_kind k.Identifier) identifier vs) (λ l ws. and_then (expect k.Semicolon ws) (λ _ xs. Ok (f w l, xs)))))) (f word last) (spell_end kind word last) Whatever
unfolding same_kind
end_gives f kind word last same no_name no_end =
    g_some (λ _. g_then _ (eat_gives kind word same) (g_then _ (last_gives last) (g_some (λ _. g_pure)) (λ next g. (refl, tt))) (λ next g. behind last next))
  where
    behind : (last : Option Ident) (next : Option TokenKind) → is_kind kind (front (spell_option spell_ident last ++ some k.Semicolon ∷ []) next) ≡ false
    behind None next = no_end
    behind (Some i) next = no_name

entity_gives : (language : Language) (e : Entity) → IsEntityIn language e → Gives (entity_unit language) e (spell_entity e) Whatever
unfolding entity_unit same_kind
entity_gives language e good =
    g_at _ (g_ident _ (g_some (λ _.
    g_then _ (optional_generics_gives language max_open e.generics good.0)
    (g_then _ (optional_ports_gives language max_open e.ports good.1)
    (g_then _ (attributes_gives language e.attributes good.2)
    (g_then _ (optional_statements_gives language e.statements good.3)
    (end_gives (λ w l. record { at = e.at; name = e.name; generics = e.generics; ports = e.ports; attributes = e.attributes; statements = e.statements; end_word = w; end_name = l }) k.Entity e.end_word e.end_name refl refl refl)
    (λ next g. (refl, refl)))
    (λ next g. no_attribute_next e.statements next))
    (λ next g. no_port e.attributes e.statements next))
    (λ next g. no_generic e.ports e.attributes e.statements next))))
  where
    no_attribute_next : (ss : Option (List Assertion)) (next : Option TokenKind) → (begins_attribute language (front (spell_option spell_entity_statements ss ++ spell_end k.Entity e.end_word e.end_name) next) ≡ false) × Unit {0}
    no_attribute_next None next = (refl, tt)
    no_attribute_next (Some ss) next = (refl, tt)

    no_port : (texts : List Text) (ss : Option (List Assertion)) (next : Option TokenKind) →
        (is_kind k.Port (front (spell_each (spell_text k.Attribute) texts ++ (spell_option spell_entity_statements ss ++ spell_end k.Entity e.end_word e.end_name)) next) ≡ false) × Unit {0}
    no_port [] None next = (refl, tt)
    no_port _ _ next = (refl, tt)

    no_generic : (ps : Option (List Port)) (texts : List Text) (ss : Option (List Assertion)) (next : Option TokenKind) →
        (is_kind k.Generic (front (spell_option spell_ports ps ++ (spell_each (spell_text k.Attribute) texts ++ (spell_option spell_entity_statements ss ++ spell_end k.Entity e.end_word e.end_name))) next) ≡ false) × Unit {0}
    no_generic None [] None next = (refl, tt)
    no_generic _ _ _ next = (refl, tt)

architecture_gives : (language : Language) (a : Architecture) → IsArchitectureIn language a → Gives (architecture_unit language) a (spell_architecture a) Whatever
unfolding architecture_unit same_kind
architecture_gives language a good =
    g_at _ (g_ident _ (g_some (λ _. g_ident _ (g_some (λ _.
    g_then _ (declarations_gives language max_open a.declarations good.0)
    (g_some (λ _.
    g_then _ (concurrents_gives language max_open a.statements good.1)
    (end_gives (λ w l. record { at = a.at; name = a.name; entity = a.entity; declarations = a.declarations; statements = a.statements; end_word = w; end_name = l }) k.Architecture a.end_word a.end_name refl refl refl)
    (λ next g. (refl, tt))))
    (λ next g. (refl, tt)))))))

library_unit_gives : (language : Language) (u : LibraryUnit) → IsLibraryUnitIn language u → Gives (library_unit language) u (spell_library_unit u) Whatever
unfolding library_unit
library_unit_gives language (entity e) good = g_choose (library_unit_by language) (Some k.Entity) (λ next g. refl) (g_map (λ x. entity x) (entity_gives language e good))
library_unit_gives language (architecture a) good = g_choose (library_unit_by language) (Some k.Architecture) (λ next g. refl) (g_map (λ x. architecture x) (architecture_gives language a good))

no_context : (u : LibraryUnit) (next : Option TokenKind) → begins_context (front (spell_library_unit u) next) ≡ false
no_context (entity e) next = refl
no_context (architecture a) next = refl

unit_gives : (language : Language) (u : DesignUnit) → IsUnitIn language u → Gives (unit language) u (spell_unit u) Whatever
unfolding unit
unit_gives language u good = g_then _ (context_gives u.context good.0) (g_map (λ x. record { context = u.context; unit = x }) (library_unit_gives language u.unit good.1)) (λ next g. (no_context u.unit next, tt))

unit_begins : (language : Language) (u : DesignUnit) → IsUnitIn language u → (next : Option TokenKind) → is_more (front (spell_unit u) next) ≡ true
unit_begins language u good next = by_parts u.context u.unit
  where
    by_parts : (cs : List ContextItem) (x : LibraryUnit) → is_more (front (spell_each spell_context cs ++ spell_library_unit x) next) ≡ true
    by_parts [] (entity e) = refl
    by_parts [] (architecture a) = refl
    by_parts (library names ∷ more) x = refl
    by_parts (uses all ∷ more) x = refl

units_gives : (language : Language) (us : List DesignUnit) → IsEach (IsUnitIn language) us → Gives (units language) us (spell_each spell_unit us) (λ next. (is_more next ≡ false) × Whatever next)
unfolding units
units_gives language us good = more_gives is_more (unit_gives language) (unit_begins language) unit_some (λ next e. tt) us good []

-- ---- files

finish_ok : (us : List Lexeme) (p : Unit {0} × List Lexeme) → finish us ≡ Ok p → us ≡ []
unfolding finish next_kind
finish_ok [] p h = refl
finish_ok (u ∷ us) p h = absurd (cc)

finish_err : {X : Type 0} (us at : List Lexeme) → finish us ≡ Err (TooDeep, at) → X
unfolding finish next_kind refusal
finish_err [] at h = absurd (cc)
finish_err (u ∷ us) at h = let e = err_why Unexpected TooDeep (u ∷ us) at h in absurd (cc)

pub finish_here : (us : List Lexeme) (why : Stop) (at : List Lexeme) → finish us ≡ Err (why, at) → us ≡ at
unfolding finish next_kind refusal
finish_here [] why at h = absurd (cc)
finish_here (u ∷ us) why at h = err_at Unexpected why (u ∷ us) at h

-- what is known of a file that was read
pub record FileMade (language : Language) (ts : List Lexeme) (f : File) : Type 0 where
  pub spelled : Spells (spell_file f) ts []
  pub formed : IsFileIn language f
  pub shallow : IsShallow max_open ts

of_units : (language : Language) (ts us : List Lexeme) (all : List DesignUnit) → Made max_open 0 false 0 (λ r. r) (spell_each spell_unit) (IsEach (IsUnitIn language)) ts all us → us ≡ [] → FileMade language ts (record { units = all })
of_units language ts us all m e = record {
  spelled = subst (λ vs. Spells (spell_each spell_unit all) ts vs) e (subst (λ ps. Spells ps ts us) (sym m.is) m.spelled);
  formed = m.formed;
  shallow = λ j.
      let whole : ts ≡ m.walk.front = m.walk.split ∙ ap (λ vs. m.walk.front ++ vs) e ∙ append-nil m.walk.front in
      subst (λ vs. opens false (take j vs) ≤ closes false (take j vs) + max_open) (sym whole) (omega (arith, low_at max_open 0 0 false m.walk.front m.walk.low j));
}

pub file_made : (language : Language) (ts : List Lexeme) (f : File) (rest : List Lexeme) → file language ts ≡ Ok (f, rest) → FileMade language ts f
unfolding file
file_made language ts f rest h =
    let a = bind_ok (units language ts) _ (f, rest) h in
    let b = bind_ok (finish a.0.1) _ (f, rest) a.2 in
    let same = pure_ok (record { units = a.0.0 }) f b.0.1 rest b.2 in
    subst (λ g. FileMade language ts g) same.0 (of_units language ts a.0.1 a.0.0 ((units_rule language).reads ts a.0.0 a.0.1 a.1) (finish_ok a.0.1 b.0 b.1))

pub file_deep : (language : Language) (ts at : List Lexeme) → file language ts ≡ Err (TooDeep, at) → IsDeep max_open ts
unfolding file
file_deep language ts at h = ⊎_elim (λ e. deep_is max_open ts ((units_rule language).deep ts at e))
    (λ a. ⊎_elim (finish_err a.0.1 at) (λ b. pure_err _ (TooDeep, at) b.2) (bind_err (finish a.0.1) _ (TooDeep, at) a.2))
    (bind_err (units language ts) _ (TooDeep, at) h)

file_gives : (language : Language) (f : File) → IsFileIn language f → (ts : List Lexeme) → Spells (spell_file f) ts [] → Reaches (file language ts) f []
unfolding file finish next_kind
file_gives language f good ts h =
    yields_bind (λ all us. and_then (finish us) (λ _ vs. Ok (record { units = all }, vs))) ((units_gives language f.units good).reads ts [] h (refl, tt)) (inl refl)

-- no other file is spelled by what was read
pub file_only : (language : Language) (ts : List Lexeme) (f : File) (rest : List Lexeme) → file language ts ≡ Ok (f, rest) → (other : File) → IsFileIn language other → Spells (spell_file other) ts [] → other ≡ f
file_only language ts f rest h other good s = ⊎_elim
    (λ e. (pure_ok other f [] rest (sym e ∙ h)).0)
    (λ d. let never : ◌≡◌ {A = Outcome File} (Ok (f, rest)) (Err (TooDeep, d.0)) = sym h ∙ d.1 in pure_err (f, rest) (TooDeep, d.0) never)
    (file_gives language other good ts s)

-- what is refused, and not for its depth, is the spelling of no file
pub file_refused : (language : Language) (ts : List Lexeme) (why : Stop) (at : List Lexeme) → file language ts ≡ Err (why, at) → (why ≡ TooDeep → ⊥) → (other : File) → IsFileIn language other → Spells (spell_file other) ts [] → ⊥
file_refused language ts why at h shallow other good s = ⊎_elim
    (λ e. let never : ◌≡◌ {A = Outcome File} (Ok (other, [])) (Err (why, at)) = sym e ∙ h in pure_err (other, []) (why, at) never)
    (λ d. let is : ◌≡◌ {A = Outcome File} (Err (TooDeep, d.0)) (Err (why, at)) = sym d.1 ∙ h in shallow (sym (err_why TooDeep why d.0 at is)))
    (file_gives language other good ts s)
