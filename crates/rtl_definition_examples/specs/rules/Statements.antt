-- Sequential and concurrent statements, variables, loops and generates.
use Rattle.std.specs.Prelude.{◌≡◌, ℕ, true, false, List, [], ◌∷◌, Some, None, codes}
use Rattle.vhdl_values.specs.declared.scalar.Nine.TheVariants.{One}
use Rattle.vhdl_values.specs.declared.kinds.Cmp.TheVariants.{Eq}
use Rattle.vhdl_tree.specs.declared.operator.Operator.TheVariants as o
use Rattle.vhdl_tree.specs.declared.operator.Direction.TheVariants.{To}
use Rattle.vhdl_tree.specs.Tree as t
use Rattle.vhdl_tree.specs.Tree.{Expr, Ident}
use Rattle.vhdl_names_rules.specs.units.Expressions as u
use Rattle.vhdl_names_rules.specs.units.Statements as s
use Rattle.vhdl_names_rules.specs.units.Units as u'
use Rattle.vhdl_names_rules.specs.Statements.{statement}
use Rattle.vhdl_names_rules.specs.Concurrent.{process, assignment, selected, concurrent}
use Rattle.rtl_definition_examples.specs.rules.Words.{word, word_at, words, name, number, character, binary, target, plain_type, sight, a}

-- y, as it is assigned
abbrev pub at_y : u.SignalPart
at_y = record { at = 6; signal = u.port 3; part = u.whole }

abbrev pub named_a : Expr
named_a = name (codes "a")

-- ---- assignments

pub record TargetsAreSignals : Type 0 where
  -- y <= a, and a <= y, which assigns an input
  pub output : statement sight None (t.assigned (target (codes "y")) (t.single named_a))
      ≡ Some (s.assign at_y (s.single (u.elements a)))
  pub input : statement sight None (t.assigned (target (codes "a")) (t.single (name (codes "y")))) ≡ None
  -- y := a, of a signal; one <= a, of a constant
  pub signal_as_variable : statement sight None (t.variable_assigned (target (codes "y")) (t.single named_a)) ≡ None
  pub constant : statement sight None (t.assigned (target (codes "one")) (t.single named_a)) ≡ None
  -- y <= v, and q <= a with q of an enumeration
  pub vector : statement sight None (t.assigned (target (codes "y")) (t.single (name (codes "v")))) ≡ None
  pub enumeration : statement sight None (t.assigned (target (codes "q")) (t.single named_a)) ≡ None

-- ---- processes

abbrev pub on_a : t.Sensitivity
on_a = t.listed (target (codes "a") ∷ [])

abbrev pub sequential : t.Statement → t.Sequential
sequential x = record { label = None; statement = x }

abbrev pub labelled : t.Statement → t.Sequential
labelled x = record { label = Some (word (codes "l")); statement = x }

-- process sensitivity declarations begin statements end process;
abbrev pub process_of : t.Sensitivity → List t.ProcessDeclaration → List t.Sequential → t.Process
process_of on ds xs = record {
  at = 20;
  sensitivity = on;
  is_word = false;
  declarations = ds;
  wait = None;
  statements = xs;
  end_label = None;
}

-- variable a : std_logic, which hides the port
abbrev pub variable_a : t.ProcessDeclaration
variable_a =
    t.variables
    (record { names = words (codes "a" ∷ []); subtype = plain_type (codes "std_logic"); default = None })

-- a := '1'; y <= a;
abbrev pub through_variable : List t.Sequential
through_variable =
    sequential (t.variable_assigned (target (codes "a")) (t.single (character 49)))
    ∷ sequential (t.assigned (target (codes "y")) (t.single named_a)) ∷ []

abbrev pub null : t.Statement
null = t.Statement.null_of 0

pub record ProcessesAreRegions : Type 0 where
  -- process (a) variable a : std_logic; begin a := '1'; y <= a; end process;  the list means the port, the statements
  -- the variable
  pub hiding : process sight None (process_of on_a (variable_a ∷ []) through_variable) ≡ Some (record {
    at = 20;
    label = None;
    declarations =
        u'.variable (record { at = 10; name = codes "a"; form = u'.element; is_resolved = true; default = None })
        ∷ [];
    sensitivity = u'.listed (record { at = 6; signal = u.port 0; part = u.whole } ∷ []);
    body =
        s.step (s.set 6 0 u.whole (s.single (u.elements (u.character One))))
        (s.step (s.assign at_y (s.single (u.elements (u.of_variable 1 0 u.whole)))) s.done);
  })
  -- without the variable, and with it twice
  pub no_variable : process sight None (process_of on_a [] through_variable) ≡ None
  pub twice : process sight None (process_of on_a (variable_a ∷ variable_a ∷ []) []) ≡ None
  -- a process without a sensitivity list, one on a constant, and one with the label l twice
  pub no_list : process sight None (process_of t.absent [] []) ≡ None
  pub on_constant : process sight None (process_of (t.listed (target (codes "one") ∷ [])) [] []) ≡ None
  pub labels : process sight None (process_of t.every [] (labelled null ∷ labelled null ∷ [])) ≡ None
  -- an end label where no label stands
  pub end_label : process sight None (record (process_of t.every [] []) { end_label = Some (word (codes "p")) }) ≡ None

-- ---- loops and generates

-- 0 to 3
abbrev pub to_three : t.Range
to_three = record { left = number (codes "0"); direction = To; right = number (codes "3") }

abbrev pub zero_to_three : u.Range
zero_to_three = record { left = u.number 0; direction = To; right = u.number 3 }

-- y <= v(i)
abbrev pub y_from_v : Ident → t.Value
y_from_v i = t.single (t.named (word_at 2 (codes "v")) (t.arguments (t.expr (t.named i t.plain None) t.no_exprs)) None)

abbrev pub element_of_v : u.Static → u.Vector
element_of_v i = u.of_signal (record { at = 2; signal = u.port 1; part = u.Part.element i })

-- y <= v(i), alone
abbrev pub assigning : t.Concurrent
assigning = t.assignment (record {
  label = None;
  target = target (codes "y");
  branches = [];
  otherwise = Some (y_from_v (word (codes "i")));
})

-- g : scheme generate y <= v(i); end generate;
abbrev pub generate : t.Scheme → t.Concurrent
generate scheme = t.generated (word (codes "g")) 22 scheme false (t.concurrent assigning t.no_concurrents) None

-- g : if test generate end generate;
abbrev pub empty_if : Expr → t.Concurrent
empty_if test = t.generated (word (codes "g")) 22 (t.if_holds test) false t.no_concurrents None

-- for i in 0 to 3 loop y <= v(i); end loop;
abbrev pub loop_over_v : t.Statement
loop_over_v =
    t.Statement.for_of 21 (word (codes "i")) (t.bounds to_three)
    (t.step None (t.assigned (target (codes "y")) (y_from_v (word (codes "i")))) t.done) None

-- an assignment of an element of v to y, alone
abbrev pub y_is_element : u.Static → s.Statements
y_is_element i = s.step (s.assign at_y (s.single (u.elements (element_of_v i)))) s.done

-- a process that starts at this byte and is sensitive to what it reads
abbrev pub reading : (at : ℕ) → s.Statements → u'.Concurrent
reading at body =
    u'.process
    (record { at = at; label = None; declarations = []; sensitivity = u'.as_read; body = body })

pub record TurnsHaveParameters : Type 0 where
  pub for_loop : statement sight None loop_over_v ≡ Some (s.for_of 21 zero_to_three (y_is_element (u.loop_parameter 0)))
  -- g : for i in 0 to 3 generate y <= v(i); end generate;
  pub generate_for : concurrent [] sight (generate (t.for_each (word (codes "i")) (t.bounds to_three)))
      ≡ Some (u'.generate_for 22 (codes "g") zero_to_three
      (u'.concurrent (reading 6 (y_is_element (u.generate_parameter 0))) u'.no_concurrents))
  -- with another parameter i isn't declared
  pub undeclared : concurrent [] sight (generate (t.for_each (word (codes "j")) (t.bounds to_three))) ≡ None
  -- g : if k = 2 generate, and with a signal in the condition
  pub static_condition : concurrent [] sight (empty_if (binary o.Equal (name (codes "k")) (number (codes "2"))))
      ≡ Some
      (u'.generate_if 22 (codes "g") (u.StaticTest.compared 5 Eq (u.Static.constant 0) (u.number 2)) u'.no_concurrents)
  pub signal_condition : concurrent [] sight (empty_if (binary o.Equal named_a (character 49))) ≡ None

-- ---- conditional assignments

-- y <= a when test;
abbrev pub y_when : Expr → t.Assignment
y_when test = record {
  label = None;
  target = target (codes "y");
  branches = record { value = t.single named_a; condition = test } ∷ [];
  otherwise = None;
}

-- with a select y <= a when others;
abbrev pub y_selected : t.SelectedAssignment
y_selected = record {
  at = 23;
  selector = named_a;
  target = target (codes "y");
  waveforms = record { value = t.single named_a; choices = t.Choice.otherwise 0 ∷ [] } ∷ [];
}

abbrev pub assigning_a : t.Statements
assigning_a = t.step None (t.assigned (target (codes "y")) (t.single named_a)) t.done

abbrev pub if_a : t.Statement
if_a = t.Statement.if_of 24 (t.guarded named_a assigning_a t.no_conditionals) t.no_else None

abbrev pub case_a : t.Statement
case_a = t.Statement.case_of 25 named_a (t.alternative (t.Choice.otherwise 0 ∷ []) assigning_a t.no_alternatives) None

abbrev pub y_is_a : s.Statements
y_is_a = s.step (s.assign at_y (s.single (u.elements a))) s.done

pub record ConditionsBecomeIfs : Type 0 where
  -- y <= a when a; leaves the driver alone where a doesn't hold
  pub without_else : assignment sight (y_when named_a)
      ≡ Some (reading 6 (s.step (s.if_of 6 (s.branch (u.holds a) y_is_a s.no_else)) s.done))
  -- with a select y <= a when others;
  pub selecting : selected sight None y_selected
      ≡ Some (reading 23 (s.step (s.case_of 23 (u.elements a) (s.others y_is_a)) s.done))
  -- if a then y <= a; end if; and case a is when others => y <= a; end case;
  pub sequential_if : statement sight None if_a ≡ Some (s.if_of 24 (s.branch (u.holds a) y_is_a s.no_else))
  pub sequential_case : statement sight None case_a ≡ Some (s.case_of 25 (u.elements a) (s.others y_is_a))
  -- a vector is no condition
  pub vector : assignment sight (y_when (name (codes "v"))) ≡ None
