-- The types of expressions: a, v and n are in ports of type std_logic, std_logic_vector and unsigned.
use Rattle.std.specs.Prelude.{◌≡◌, [], ◌∷◌, Some, None, codes}
use Rattle.vhdl_values.specs.declared.scalar.Nine.TheVariants.{Zero, One}
use Rattle.vhdl_values.specs.declared.kinds.Logic.TheVariants.{And}
use Rattle.vhdl_values.specs.declared.kinds.Cmp.TheVariants.{Ne, Lt}
use Rattle.vhdl_values.specs.declared.kinds.Counted.TheVariants.{Resize}
use Rattle.vhdl_values.specs.declared.kinds.Edge.TheVariants.{Rising}
use Rattle.vhdl_tree.specs.declared.operator.Operator.TheVariants as o
use Rattle.vhdl_tree.specs.declared.operator.Sign.TheVariants.{Minus}
use Rattle.vhdl_tree.specs.Tree as t
use Rattle.vhdl_tree.specs.Tree.{Expr}
use Rattle.vhdl_names_rules.specs.declared.kind.ElementKind.TheVariants.{Element, LogicVector, Unsigned, OpenVector}
use Rattle.vhdl_names_rules.specs.declared.kind.ObjectType.TheVariants.{Elements}
use Rattle.vhdl_names_rules.specs.declared.operator.Arithmetic.TheVariants as arithmetic
use Rattle.vhdl_names_rules.specs.declared.operator.Numeric.TheVariants as by
use Rattle.vhdl_names_rules.specs.declared.operator.VectorOperator.TheVariants as op
use Rattle.vhdl_names_rules.specs.units.Expressions as u
use Rattle.vhdl_names_rules.specs.units.Statements as s
use Rattle.vhdl_names_rules.specs.Visibility.{Sight, within_loop, within_generate}
use Rattle.vhdl_names_rules.specs.Packages.{sight_of}
use Rattle.vhdl_names_rules.specs.Types.{integer, elements, truth}
use Rattle.vhdl_names_rules.specs.Expressions.{typed, value_given}
use Rattle.rtl_definition_examples.specs.rules.Words.{word, name, with_one, with_two, event, enclosed, number, character, string, binary, region, sight, logic_alone, a, v, n}

abbrev pub named_a : Expr
named_a = name (codes "a")

abbrev pub named_v : Expr
named_v = name (codes "v")

abbrev pub named_n : Expr
named_n = name (codes "n")

-- "01" + "1"
abbrev pub sum : Expr
sum = binary o.Add (string (codes "01")) (string (codes "1"))

abbrev pub literal_01 : u.Vector
literal_01 = u.Vector.literal 4 (Zero ∷ One ∷ [])

pub record OperatorsHaveTypes : Type 0 where
  -- v and "01" is a std_logic_vector
  pub logical : typed sight (binary o.And named_v (string (codes "01")))
      ≡ Some (elements LogicVector (u.Vector.binary 5 (op.Logical And) v literal_01))
  -- a and v mixes an element with a vector
  pub mixed : typed sight (binary o.And named_a named_v) ≡ None
  -- a & "01" is open: its type is found from where it stands
  pub concatenated : typed sight (binary o.Concatenate named_a (string (codes "01")))
      ≡ Some (elements OpenVector (u.Vector.binary 5 op.Concatenate a literal_01))
  -- n - 1, and 1 - n
  pub number_first : typed sight (binary o.Subtract named_n (number (codes "1")))
      ≡ Some (elements Unsigned (u.with_integer 5 by.Subtract n (u.number 1)))
  pub integer_first : typed sight (binary o.Subtract (number (codes "1")) named_n)
      ≡ Some (elements Unsigned (u.integer_with 5 by.Subtract (u.number 1) n))
  -- 7 / 2 and - k, over integers alone
  pub static : typed sight (binary o.Divide (number (codes "7")) (number (codes "2")))
      ≡ Some (integer (u.Static.binary 5 arithmetic.Divide (u.number 7) (u.number 2)))
  pub negated : typed sight (t.signed Minus 9 (name (codes "k")))
      ≡ Some (integer (u.Static.negated 9 (u.Static.constant 0)))
  pub compared : typed sight (binary o.Less (name (codes "k")) (number (codes "2")))
      ≡ Some (truth (u.Test.fixed (u.StaticTest.compared 5 Lt (u.Static.constant 0) (u.number 2))))
  -- v + 1
  pub no_number : typed sight (binary o.Add named_v (number (codes "1"))) ≡ None
  -- "01" + "1" is an unsigned, and needs numeric_std in sight
  pub open_sum : value_given sight (Elements Unsigned) None (t.single sum)
      ≡ Some
      (s.single (u.elements (u.Vector.binary 5 (op.Arithmetic by.Add) literal_01 (u.Vector.literal 4 (One ∷ [])))))
  pub vector_sum : value_given sight (Elements LogicVector) None (t.single sum) ≡ None
  pub unseen_sum : typed (sight_of logic_alone region) sum ≡ None
  -- v = n, v < v, n /= 3, and 3 < n
  pub unlike_kinds : typed sight (binary o.Equal named_v named_n) ≡ None
  pub ordered_vectors : typed sight (binary o.Less named_v named_v) ≡ None
  pub unequal_numbers : typed sight (binary o.NotEqual named_n (number (codes "3")))
      ≡ Some (truth (u.compared_to 5 Ne n (u.number 3)))
  pub ordered_numbers : typed sight (binary o.Less (number (codes "3")) named_n)
      ≡ Some (truth (u.compared_with 5 Lt (u.number 3) n))
  -- q = red
  pub enumerations : typed sight (binary o.Equal (name (codes "q")) (name (codes "red")))
      ≡ Some (truth (u.alike 5 (u.state_of (u.Signal.signal 0)) (u.position 0)))

abbrev pub sight_in_loop : Sight
sight_in_loop = within_loop (within_generate sight (word (codes "i"))) (word (codes "a"))

pub record NamesHaveMeanings : Type 0 where
  pub undeclared : typed sight (name (codes "b")) ≡ None
  -- a loop's parameter hides the port a; a generate's parameter i
  pub hidden : typed sight_in_loop named_a ≡ Some (integer (u.loop_parameter 0))
  pub turn : typed sight_in_loop (with_one (codes "v") (name (codes "i")))
      ≡ Some (elements Element
      (u.of_signal (record { at = 2; signal = u.port 1; part = u.Part.element (u.generate_parameter 0) })))
  -- a(1): an element has no elements
  pub no_elements : typed sight (with_one (codes "a") (number (codes "1"))) ≡ None
  -- unsigned(v), in sight and not
  pub converted : typed sight (with_one (codes "unsigned") named_v) ≡ Some (elements Unsigned v)
  pub not_visible : typed (sight_of logic_alone region) (with_one (codes "unsigned") named_v) ≡ None
  -- the constant one
  pub of_constant : typed sight (name (codes "one")) ≡ Some (elements Element (u.of_constant 1 0 u.whole))
  -- resize(v, 4), resize(n, 4) and to_unsigned(k, 4)
  pub no_resize : typed sight (with_two (codes "resize") named_v (number (codes "4"))) ≡ None
  pub counted : typed sight (with_two (codes "resize") named_n (number (codes "4")))
      ≡ Some (elements Unsigned (u.counted 2 Resize n (u.number 4)))
  pub encoded : typed sight (with_two (codes "to_unsigned") (name (codes "k")) (number (codes "4")))
      ≡ Some (elements Unsigned (u.encoded 2 (u.Static.constant 0) (u.number 4)))

pub record EdgesAskForSignals : Type 0 where
  pub call : typed sight (with_one (codes "rising_edge") named_a)
      ≡ Some (truth (u.edge Rising (record { at = 1; signal = u.port 0; part = u.whole })))
  -- rising_edge((a)), rising_edge(one) with one a constant, and rising_edge(v(a)) with a the parameter of a loop
  pub enclosed_name : typed sight (with_one (codes "rising_edge") (enclosed named_a)) ≡ None
  pub of_constant : typed sight (with_one (codes "rising_edge") (name (codes "one"))) ≡ None
  pub in_loop : typed sight_in_loop (with_one (codes "rising_edge") (with_one (codes "v") named_a)) ≡ None
  -- a = '1' keeps the character literal for an edge test; with ('1') or (a) in it, it doesn't
  pub level : typed sight (binary o.Equal named_a (character 49))
      ≡ Some (truth (u.alike 5 (u.elements a) (u.elements (u.character One))))
  pub enclosed_level : typed sight (binary o.Equal named_a (enclosed (character 49)))
      ≡ Some (truth (u.alike 5 (u.elements a) (u.elements (u.enclosed_character One))))
  pub enclosed_signal : typed sight (binary o.Equal (enclosed named_a) (character 49))
      ≡ Some (truth (u.alike 5 (u.elements a) (u.elements (u.enclosed_character One))))
  -- a'event, and v'event
  pub event_of_element : typed sight (event (codes "a"))
      ≡ Some (truth (u.event (record { at = 1; signal = u.port 0; part = u.whole })))
  pub event_of_vector : typed sight (event (codes "v")) ≡ None

pub record LiteralsHaveValues : Type 0 where
  -- X"5" is "0101"; '1' is one element
  pub bits : typed sight (t.bits 4 (88 ∷ 34 ∷ 53 ∷ 34 ∷ []))
      ≡ Some (elements OpenVector (u.Vector.literal 4 (Zero ∷ One ∷ Zero ∷ One ∷ [])))
  pub element : typed sight (character 49) ≡ Some (elements Element (u.character One))
  -- 'z', which is no capital, and the empty string
  pub small_letter : typed sight (character 122) ≡ None
  pub empty : typed sight (string []) ≡ None
  -- 1_0 is ten
  pub integer : typed sight (number (codes "1_0")) ≡ Some (integer (u.number 10))
