-- Whether two interfaces are the same text, token for token apart from case (IEEE 1076-2008, 6.8 and 4.10): the same
-- trees, in which places don't count, and letters are small ones. A tree keeps every optional word.
use Rattle.std.specs.Prelude.{ℕ, ◌==◌, Bool, true, false, ◌&&◌, List, [], ◌∷◌, map, Option, Some, None, bytes_eq}
use Rattle.std.specs.Char.{to_ascii_lowercase}
use Rattle.vhdl_tree.specs.Lexeme.{same_kind}
use Rattle.vhdl_tree.specs.grammar.Expressions.{kind_of, sign_kind, direction_kind}
use Rattle.vhdl_tree.specs.declared.declaration.Mode.{Mode}
use Rattle.vhdl_tree.specs.declared.declaration.Mode.TheVariants.{In, Out}
use Rattle.vhdl_tree.specs.Tree as t
use Rattle.vhdl_tree.specs.Tree.{Ident, Attribute, Expr, Suffix, Exprs, Elements, Choices, Choice, Value, Range, DiscreteRange, Constraint, Subtype, Generic, Port}

-- ---- parts

abbrev pub same_word : Bool → Bool → Bool
same_word true true = true
same_word false false = true
same_word _ _ = false

abbrev pub same_name : Ident → Ident → Bool
same_name a b = bytes_eq a.text b.text

-- a literal's bytes
abbrev pub same_bytes : List ℕ → List ℕ → Bool
same_bytes a b = bytes_eq (map to_ascii_lowercase a) (map to_ascii_lowercase b)

abbrev pub same_option : {A : Type 0} → (A → A → Bool) → Option A → Option A → Bool
same_option same None None = true
same_option same (Some x) (Some y) = same x y
same_option same _ _ = false

abbrev pub same_each : {A : Type 0} → (A → A → Bool) → List A → List A → Bool
same_each same [] [] = true
same_each same (x ∷ xs) (y ∷ ys) = same x y && same_each same xs ys
same_each same _ _ = false

-- ---- expressions

abbrev pub same_attribute : Attribute → Attribute → Bool
same_attribute (t.called a) (t.called b) = same_name a b
same_attribute (t.of_range at) (t.of_range at') = true
same_attribute _ _ = false

abbrev mutual
  pub same_expr : Expr → Expr → Bool
  same_expr (t.integer at a) (t.integer at' b) = same_bytes a b
  same_expr (t.character at a) (t.character at' b) = to_ascii_lowercase a == to_ascii_lowercase b
  same_expr (t.string at a) (t.string at' b) = same_bytes a b
  same_expr (t.bits at a) (t.bits at' b) = same_bytes a b
  same_expr (t.named n s a) (t.named n' s' a') = same_name n n' && same_suffix s s' && same_option same_attribute a a'
  same_expr (t.parens at a) (t.parens at' b) = same_expr a b
  same_expr (t.negation at a) (t.negation at' b) = same_expr a b
  same_expr (t.absolute at a) (t.absolute at' b) = same_expr a b
  same_expr (t.power a at b) (t.power a' at' b') = same_expr a a' && same_expr b b'
  same_expr (t.signed sign at a) (t.signed sign' at' b) = same_kind (sign_kind sign) (sign_kind sign') && same_expr a b
  same_expr (t.binary begins op at a b) (t.binary begins' op' at' a' b') =
      same_word begins begins' && same_kind (kind_of op) (kind_of op') && same_expr a a' && same_expr b b'
  same_expr (t.aggregate at a) (t.aggregate at' b) = same_elements a b
  same_expr (t.qualified n at a) (t.qualified n' at' b) = same_name n n' && same_elements a b
  same_expr _ _ = false

  pub same_suffix : Suffix → Suffix → Bool
  same_suffix t.plain t.plain = true
  same_suffix (t.arguments a) (t.arguments b) = same_exprs a b
  same_suffix (t.sliced a d b) (t.sliced a' d' b') =
      same_expr a a' && same_kind (direction_kind d) (direction_kind d') && same_expr b b'
  same_suffix _ _ = false

  pub same_exprs : Exprs → Exprs → Bool
  same_exprs t.no_exprs t.no_exprs = true
  same_exprs (t.expr a as') (t.expr b bs) = same_expr a b && same_exprs as' bs
  same_exprs _ _ = false

  pub same_elements : Elements → Elements → Bool
  same_elements t.no_elements t.no_elements = true
  same_elements (t.element cs a as') (t.element ds b bs) = same_choices cs ds && same_expr a b && same_elements as' bs
  same_elements _ _ = false

  pub same_choices : Choices → Choices → Bool
  same_choices t.no_choices t.no_choices = true
  same_choices (t.choice c cs) (t.choice d ds) = same_choice c d && same_choices cs ds
  same_choices _ _ = false

  pub same_choice : Choice → Choice → Bool
  same_choice (t.chosen a) (t.chosen b) = same_expr a b
  same_choice (t.chosen_range a d b) (t.chosen_range a' d' b') =
      same_expr a a' && same_kind (direction_kind d) (direction_kind d') && same_expr b b'
  same_choice (t.otherwise at) (t.otherwise at') = true
  same_choice _ _ = false

abbrev pub same_value : Value → Value → Bool
same_value (t.single a) (t.single b) = same_expr a b
same_value (t.others at a) (t.others at' b) = same_expr a b
same_value _ _ = false

abbrev pub same_range : Range → Range → Bool
same_range a b =
    same_expr a.left b.left && same_kind (direction_kind a.direction) (direction_kind b.direction)
    && same_expr a.right b.right

-- ---- interfaces

abbrev pub same_discrete_range : DiscreteRange → DiscreteRange → Bool
same_discrete_range (t.bounds a) (t.bounds b) = same_range a b
same_discrete_range (t.range_named a) (t.range_named b) =
    same_name a.identifier b.identifier && same_suffix a.suffix b.suffix
    && same_option same_attribute a.attribute b.attribute
same_discrete_range _ _ = false

abbrev pub same_constraint : Constraint → Constraint → Bool
same_constraint (t.index_range a) (t.index_range b) = same_discrete_range a b
same_constraint (t.value_range a) (t.value_range b) = same_discrete_range a b
same_constraint _ _ = false

abbrev pub same_subtype : Subtype → Subtype → Bool
same_subtype a b = same_name a.mark b.mark && same_option same_constraint a.constraint b.constraint

abbrev pub same_mode : Mode → Mode → Bool
same_mode In In = true
same_mode Out Out = true
same_mode _ _ = false

abbrev pub same_generic : Generic → Generic → Bool
same_generic a b =
    same_word a.constant_word b.constant_word && same_each same_name a.names b.names && same_word a.in_word b.in_word
    && same_subtype a.subtype b.subtype && same_option same_expr a.default b.default

abbrev pub same_port : Port → Port → Bool
same_port a b =
    same_word a.signal_word b.signal_word && same_each same_name a.names b.names && same_option same_mode a.mode b.mode
    && same_subtype a.subtype b.subtype && same_option same_value a.default b.default

abbrev pub same_generics : Option (List Generic) → Option (List Generic) → Bool
same_generics = same_option (same_each same_generic)

abbrev pub same_ports : Option (List Port) → Option (List Port) → Bool
same_ports = same_option (same_each same_port)
