-- Words to write small trees with. Each kind of thing that units have the byte of stands at one of its own: a name in
-- an expression at 1, one with parentheses behind it at 2, a number at 3, a string at 4, an operator at 5, a target or
-- a name of a list at 6, what is declared at 10, 11 and so on, a process at 20 and other statements behind it.
use Rattle.std.specs.Prelude.{ℕ, suc, true, false, List, [], ◌∷◌, ◌++◌, Some, None, codes}
use Rattle.vhdl_values.specs.declared.scalar.Nine.TheVariants.{One}
use Rattle.vhdl_lexer.specs.declared.language.Language.TheVariants.{Profile}
use Rattle.vhdl_tree.specs.declared.operator.Operator.{Operator}
use Rattle.vhdl_tree.specs.declared.operator.Direction.TheVariants.{Downto}
use Rattle.vhdl_tree.specs.declared.declaration.Mode.TheVariants.{In, Out}
use Rattle.vhdl_tree.specs.Tree as t
use Rattle.vhdl_tree.specs.Tree.{Ident, Expr}
use Rattle.vhdl_names_rules.specs.declared.kind.ElementKind.TheVariants.{Element, LogicVector, Unsigned}
use Rattle.vhdl_names_rules.specs.declared.kind.ObjectType.TheVariants.{Elements, Enumeration}
use Rattle.vhdl_names_rules.specs.units.Expressions as u
use Rattle.vhdl_names_rules.specs.units.Expressions.{Part, Vector}
use Rattle.vhdl_names_rules.specs.Visibility as visibility
use Rattle.vhdl_names_rules.specs.Visibility.{declare, Declared, Sight}
use Rattle.vhdl_names_rules.specs.Packages.{Context, sight_of}

-- ---- trees

abbrev pub word : List ℕ → Ident
word text = record { at = 1; text = text }

abbrev pub word_at : (at : ℕ) → List ℕ → Ident
word_at at text = record { at = at; text = text }

abbrev pub words_from : (at : ℕ) → List (List ℕ) → List Ident
words_from at [] = []
words_from at (text ∷ rest) = word_at at text ∷ words_from (suc at) rest

abbrev pub words : List (List ℕ) → List Ident
words = words_from 10

-- n
abbrev pub name : List ℕ → Expr
name n = t.named (word n) t.plain None

-- n ( e )
abbrev pub with_one : List ℕ → Expr → Expr
with_one n e = t.named (word_at 2 n) (t.arguments (t.expr e t.no_exprs)) None

-- n ( d , e )
abbrev pub with_two : List ℕ → Expr → Expr → Expr
with_two n d e = t.named (word_at 2 n) (t.arguments (t.expr d (t.expr e t.no_exprs))) None

-- n'event
abbrev pub event : List ℕ → Expr
event n = t.named (word n) t.plain (Some (t.called (word_at 8 (codes "event"))))

-- ( e )
abbrev pub enclosed : Expr → Expr
enclosed = t.parens 7

-- a number, a character and a string of these characters
abbrev pub number : List ℕ → Expr
number = t.Expr.integer 3

abbrev pub character : ℕ → Expr
character = t.Expr.character 4

abbrev pub string : List ℕ → Expr
string text = t.Expr.string 4 (34 ∷ (text ++ 34 ∷ []))

-- an operator between two operands
abbrev pub binary : Operator → Expr → Expr → Expr
binary op d e = t.binary true op 5 d e

-- a target, or a name of a sensitivity list
abbrev pub target : List ℕ → t.Name
target n = record { identifier = word_at 6 n; suffix = t.plain; attribute = None }

-- a type without a range, and with ( 3 downto 0 )
abbrev pub plain_type : List ℕ → t.Subtype
plain_type mark = record { mark = word mark; constraint = None }

abbrev pub of_four : List ℕ → t.Subtype
of_four mark = record {
  mark = word mark;
  constraint = Some (t.index_range (t.bounds (record {
    left = number (codes "3");
    direction = Downto;
    right = number (codes "0");
  })));
}

-- ---- what names mean where the examples stand

-- both packages, std_logic_1164 alone, and none
abbrev pub both_packages : Context
both_packages = record { language = Profile; has_ieee = true; has_logic = true; has_numbers = true }

abbrev pub logic_alone : Context
logic_alone = record { language = Profile; has_ieee = true; has_logic = true; has_numbers = false }

-- in ports a, v and n, out port y; signal q of an enumeration (red, green); a constant one declared by '1'; an
-- integer k
abbrev pub region : List Declared
region =
    declare (codes "a") (visibility.port 0 In (Elements Element))
    ∷ declare (codes "v") (visibility.port 1 In (Elements LogicVector))
    ∷ declare (codes "n") (visibility.port 2 In (Elements Unsigned))
    ∷ declare (codes "y") (visibility.port 3 Out (Elements Element))
    ∷ declare (codes "colour") (visibility.enumeration_type 0 2) ∷ declare (codes "red") (visibility.literal 0 2 0)
    ∷ declare (codes "green") (visibility.literal 0 2 1) ∷ declare (codes "q") (visibility.signal 0 (Enumeration 0 2))
    ∷ declare (codes "one") (visibility.constant 0 Element (Some (One ∷ [])))
    ∷ declare (codes "k") (visibility.integer_constant 0) ∷ []

abbrev pub sight : Sight
sight = sight_of both_packages region

-- ---- what they are analysed to

abbrev pub a : Vector
a = u.of_signal (record { at = 1; signal = u.port 0; part = u.whole })

abbrev pub v : Vector
v = u.of_signal (record { at = 1; signal = u.port 1; part = u.whole })

abbrev pub n : Vector
n = u.of_signal (record { at = 1; signal = u.port 2; part = u.whole })

abbrev pub y : Vector
y = u.of_signal (record { at = 1; signal = u.port 3; part = u.whole })
