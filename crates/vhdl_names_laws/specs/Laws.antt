-- What names give is sound: what elaboration may take for granted of units that a file has. And it has units just where
-- it breaks no rule.
use Rattle.std.specs.Prelude.{◌≡◌, ℕ, ◌<◌, All, Bool, List, [], length, map, Some, None, IsTrue, IfSome, Contains}
use Rattle.std.specs.List.{list_all}
use Rattle.vhdl_lexer.specs.declared.language.Language.{Language}
use Rattle.vhdl_lexer.specs.declared.language.Language.TheVariants.{Wide}
use Rattle.vhdl_lexer.specs.declared.token.Token.{Token}
use Rattle.vhdl_lexer.specs.Cut.{Cuts, AreWithin}
use Rattle.vhdl_tree.specs.Lexeme.{lexemes}
use Rattle.vhdl_tree.specs.Pieces.{Spells}
use Rattle.vhdl_tree.specs.Tree as t
use Rattle.vhdl_tree.specs.Tree.{Expr, File}
use Rattle.vhdl_tree.specs.grammar.Units.{spell_file, IsFileIn}
use Rattle.vhdl_names_rules.specs.declared.fault.NameProblem.{NameProblem}
use Rattle.vhdl_names_rules.specs.units.Units as u
use Rattle.vhdl_names_rules.specs.units.Units.{Units}
use Rattle.vhdl_names_rules.specs.units.Bytes.{units_bytes}
use Rattle.vhdl_names_rules.specs.Visibility.{Sight, Declares, are_distinct}
use Rattle.vhdl_names_rules.specs.Operators.{Typed}
use Rattle.vhdl_names_rules.specs.Expressions.{typed}
use Rattle.vhdl_names_rules.specs.Statements.{statements}
use Rattle.vhdl_names_rules.specs.units.Statements as s
use Rattle.vhdl_names_rules.specs.sound.Expressions.{Inside}
use Rattle.vhdl_names_rules.specs.sound.Statements.{statements_fit}
use Rattle.vhdl_names_rules.specs.sound.Units.{are_sound}
use Rattle.vhdl_names_rules.specs.Files.{units_of}
use Rattle.vhdl_names_rules.specs.Interfaces.{EntityView, component}
use Rattle.vhdl_names_rules.specs.sound.Named.{are_named}
use Rattle.vhdl_names_rules.specs.problems.Broken.{nothing}
use Rattle.vhdl_names_rules.specs.problems.Files as broken
use Rattle.vhdl_names_laws.specs.Words.{small, HasWords}
use Rattle.vhdl_names_laws.specs.Texts.{IsTextOfEntity}
use Rattle.vhdl_names_laws.specs.Placed.{bytes_of}
use Rattle.vhdl_names_laws.specs.Meanings.{Counts, IsInside, TypedFits}

-- Each expression is what its type says, among what is declared inside.
abbrev pub ExpressionsFit : Type 0
ExpressionsFit = (i : Inside) (counts : Counts) (sight : Sight) → IsInside i counts sight
    → (e : Expr) (x : Typed) → typed sight e ≡ Some x → TypedFits i counts x

-- Each sequential statement fits.
abbrev pub StatementsFit : Type 0
StatementsFit = (i : Inside) (counts : Counts) (sight : Sight) → IsInside i counts sight
    → (ys : t.Statements) (xs : s.Statements) → statements sight ys ≡ Some xs → IsTrue (statements_fit i xs)

-- The units of a file that the parser gives, in either language, are sound: each numbers what it names, and each value
-- has the shape of its type.
abbrev pub UnitsAreSound : Type 0
UnitsAreSound =
    (language : Language) (f : File) (units : Units) → IsFileIn Wide f → units_of language f ≡ Some units
    → IsTrue (are_sound units)

-- no two ports of an entity have one name
abbrev pub ports_are_distinct : Units → Bool
ports_are_distinct units = list_all (λ (x : u.Entity). are_distinct (map (λ (p : u.Port). p.object.name) x.ports)) units

abbrev pub PortsAreDistinct : Type 0
PortsAreDistinct =
    (language : Language) (f : File) (units : Units) → units_of language f ≡ Some units
    → IsTrue (ports_are_distinct units)

-- Where each identifier of the file is a word, each name and label of the units has a letter,
abbrev pub UnitsAreNamed : Type 0
UnitsAreNamed =
    (language : Language) (f : File) (units : Units) → HasWords f → units_of language f ≡ Some units
    → IsTrue (are_named units)

-- and no two ports of an entity have one name, whatever the case of its letters.
abbrev pub small_ports_are_distinct : Units → Bool
small_ports_are_distinct units =
    list_all (λ (x : u.Entity). are_distinct (map (λ (p : u.Port). small p.object.name) x.ports)) units

abbrev pub SmallPortsAreDistinct : Type 0
SmallPortsAreDistinct =
    (language : Language) (f : File) (units : Units) → HasWords f → units_of language f ≡ Some units
    → IsTrue (small_ports_are_distinct units)

-- In a file that the tokens of a text spell each identifier is a word.
abbrev pub SpelledFilesHaveWords : Type 0
SpelledFilesHaveWords =
    (source : List ℕ) (tokens : List Token) (f : File) → Cuts None 0 source tokens → AreWithin source tokens
    → Spells (spell_file f) (lexemes source tokens) [] → HasWords f

-- A component is the text of the entity of its name.
abbrev pub ComponentsAreTexts : Type 0
ComponentsAreTexts = (entities : List EntityView) (sight : Sight) (c : t.Component) (x : Declares u.Declaration)
    → component entities sight c ≡ Some x → IsTextOfEntity entities c

-- A well-typed file breaks no rule.
abbrev pub WellTypedFilesBreakNoRule : Type 0
WellTypedFilesBreakNoRule =
    (language : Language) (f : File) (units : Units) → units_of language f ≡ Some units
    → broken.file language f ≡ nothing

-- And one that isn't well typed breaks a rule, of which the first has a problem and a byte.
abbrev pub IllTypedFilesBreakARule : Type 0
IllTypedFilesBreakARule =
    (language : Language) (f : File) → units_of language f ≡ None
    → (p : NameProblem) × (at : ℕ) × (broken.file language f ≡ Some (p, at))

-- The byte at which is told that a file breaks a rule is one at which a token of the file starts,
abbrev pub FaultsStandAtTokens : Type 0
FaultsStandAtTokens =
    (language : Language) (f : File) → IsFileIn Wide f
    → IfSome (broken.file language f) (λ told. Contains (bytes_of f) told.1)

-- and lies in the text whose tokens the file spells.
abbrev pub FaultsLieInTheText : Type 0
FaultsLieInTheText =
    (language : Language) (source : List ℕ) (tokens : List Token) (f : File) → Cuts None 0 source tokens
    → Spells (spell_file f) (lexemes source tokens) [] → IsFileIn Wide f
    → IfSome (broken.file language f) (λ told. told.1 < length source)

-- Each byte of the units of a file is one at which a token of the file starts,
abbrev pub UnitsStandAtTokens : Type 0
UnitsStandAtTokens =
    (language : Language) (f : File) (units : Units) → units_of language f ≡ Some units
    → All (Contains (bytes_of f)) (units_bytes units)

-- and lies in the text whose tokens the file spells.
abbrev pub UnitsLieInTheText : Type 0
UnitsLieInTheText =
    (language : Language) (source : List ℕ) (tokens : List Token) (f : File) (units : Units)
    → Cuts None 0 source tokens → Spells (spell_file f) (lexemes source tokens) []
    → units_of language f ≡ Some units → All (λ at. at < length source) (units_bytes units)
