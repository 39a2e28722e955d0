-- A component is the text of its entity: trees that are the same are spelled by the same pieces, but for places and case.
use denote.Enum.Bare.{same_true}
use Rattle.std.proofs.Common.{rules, ◌≡◌, ℕ, suc, Bool, true, false, ◌&&◌, List, [], ◌∷◌, ◌++◌, map, Option, Some, None, refl, ap, sym, ◌∙◌}
use Rattle.std.specs.Char.{to_ascii_lowercase}
use Rattle.std.proofs.lemmas.Bool.{eqb-true}
use Rattle.std.proofs.lemmas.List.{map-append}
use Rattle.std.proofs.lemmas.Slice.Eq.{bytes_eq-Decides}
use Rattle.vhdl_lexer.specs.contracts.token.TokenKind.{the_type}
use Rattle.vhdl_lexer.specs.declared.token.TokenKind.{TokenKind}
use Rattle.vhdl_lexer.specs.declared.token.TokenKind.TheVariants as k
use Rattle.vhdl_tree.specs.declared.declaration.Mode.{Mode}
use Rattle.vhdl_tree.specs.declared.declaration.Mode.TheVariants.{In, Out}
use Rattle.vhdl_tree.specs.Lexeme.{same_kind}
use Rattle.vhdl_tree.specs.Tree as t
use Rattle.vhdl_tree.specs.Tree.{Ident, Attribute, Expr, Suffix, Exprs, Elements, Choices, Choice, Value, Range, DiscreteRange, Constraint, Subtype, Generic, Port}
use Rattle.vhdl_tree.specs.Pieces as p
use Rattle.vhdl_tree.specs.Pieces.{Piece, spell_ident, spell_idents, spell_word, spell_option, spell_each, spell_list}
use Rattle.vhdl_tree.specs.grammar.Expressions.{kind_of, sign_kind, direction_kind, spell, spell_attribute, spell_suffix, spell_exprs, spell_more, spell_elements, spell_more_elements, spell_chosen, spell_more_chosen, spell_choice, spell_value, spell_range, spell_discrete_range}
use Rattle.vhdl_tree.specs.grammar.Subtypes.{spell_constraint, spell_subtype, spell_default}
use Rattle.vhdl_tree.specs.grammar.Declarations.{spell_generic_default, spell_mode, spell_generic, spell_generics, spell_port, spell_ports}
use Rattle.vhdl_names_rules.specs.SameText.{same_word, same_name, same_bytes, same_option, same_each, same_attribute, same_expr, same_suffix, same_exprs, same_elements, same_choices, same_choice, same_value, same_range, same_discrete_range, same_constraint, same_subtype, same_mode, same_generic, same_port, same_generics, same_ports}
use Rattle.vhdl_names_rules.proofs.laws.Rules.{both}
use Rattle.vhdl_names_rules.proofs.laws.Parts.{component_parts}
use Rattle.vhdl_names_laws.specs.Words.{small}
use Rattle.vhdl_names_laws.specs.Texts.{unplaced, AreSameText}
use Rattle.vhdl_names_laws.specs.Laws.{ComponentsAreTexts}

-- ---- pieces

kind_same : (a b : TokenKind) → same_kind a b ≡ true → a ≡ b
unfolding same_kind
kind_same a b = same_true the_type (search rules) a b

bytes_equal : (a b : List ℕ) → same_bytes a b ≡ true → small a ≡ small b
bytes_equal a b e = (bytes_eq-Decides (small a) (small b)).0 e

name_same : (a b : Ident) → same_name a b ≡ true → p.word_at 0 (small a.text) ≡ p.word_at 0 (small b.text)
name_same a b e = ap (λ n. p.word_at 0 (small n)) ((bytes_eq-Decides a.text b.text).0 e)

alike : (ps : List Piece) → AreSameText ps ps
alike ps = record { same = refl }

one_by_one : (ps qs rs ss : List Piece) → AreSameText ps qs → AreSameText rs ss → AreSameText (ps ++ rs) (qs ++ ss)
one_by_one ps qs rs ss h g =
    record {
      same = map-append unplaced ps rs ∙ ap (λ xs. xs ++ map unplaced rs) h.same ∙ ap (λ xs. map unplaced qs ++ xs) g.same ∙ sym (map-append unplaced qs ss);
    }

behind : (a b : Piece) (ps qs : List Piece) → unplaced a ≡ unplaced b → AreSameText ps qs → AreSameText (a ∷ ps) (b ∷ qs)
behind a b ps qs h g = record { same = ap (λ x. x ∷ map unplaced ps) h ∙ ap (λ xs. unplaced b ∷ xs) g.same }

-- the same word before both
after : (kind : TokenKind) (ps qs : List Piece) → AreSameText ps qs → AreSameText (p.some kind ∷ ps) (p.some kind ∷ qs)
after kind ps qs g = behind (p.some kind) (p.some kind) ps qs refl g

closed : (ps qs : List Piece) → AreSameText ps qs → AreSameText (ps ++ p.some k.RightParen ∷ []) (qs ++ p.some k.RightParen ∷ [])
closed ps qs g = one_by_one ps qs (p.some k.RightParen ∷ []) (p.some k.RightParen ∷ []) g (alike (p.some k.RightParen ∷ []))

in_parens : (ps qs : List Piece) → AreSameText ps qs
    → AreSameText (p.some k.LeftParen ∷ (ps ++ p.some k.RightParen ∷ [])) (p.some k.LeftParen ∷ (qs ++ p.some k.RightParen ∷ []))
in_parens ps qs g = after k.LeftParen (ps ++ p.some k.RightParen ∷ []) (qs ++ p.some k.RightParen ∷ []) (closed ps qs g)

word_text : (kind : TokenKind) (a b : Bool) → same_word a b ≡ true → AreSameText (spell_word kind a) (spell_word kind b)
word_text kind true true e = alike (spell_word kind true)
word_text kind false false e = alike []
word_text kind _ _ e = absurd cc

ident_text : (a b : Ident) → same_name a b ≡ true → AreSameText (spell_ident a) (spell_ident b)
ident_text a b e = record { same = ap (λ x. x ∷ []) (name_same a b e) }

attribute_text : (a b : Attribute) → same_attribute a b ≡ true → AreSameText (spell_attribute a) (spell_attribute b)
attribute_text (t.called a) (t.called b) e = after k.Tick (spell_ident a) (spell_ident b) (ident_text a b e)
attribute_text (t.of_range at) (t.of_range at') e = record { same = refl }
attribute_text _ _ e = absurd cc

-- ---- options and lists

module _ {A : Type 0} (same : A → A → Bool) (spelled : A → List Piece) (one : (x y : A) → same x y ≡ true → AreSameText (spelled x) (spelled y)) where
  option_text : (a b : Option A) → same_option same a b ≡ true → AreSameText (spell_option spelled a) (spell_option spelled b)
  option_text None None e = alike []
  option_text (Some x) (Some y) e = one x y e
  option_text _ _ e = absurd cc

  each_text : (xs ys : List A) → same_each same xs ys ≡ true → AreSameText (spell_each spelled xs) (spell_each spelled ys)
  each_text [] [] e = alike []
  each_text (x ∷ xs) (y ∷ ys) e =
      let f = both (same x y) (same_each same xs ys) e in
      one_by_one (spelled x) (spelled y) (spell_each spelled xs) (spell_each spelled ys) (one x y f.0) (each_text xs ys f.1)
  each_text _ _ e = absurd cc

list_text : {A : Type 0} (separator : TokenKind) (same : A → A → Bool) (spelled : A → List Piece)
    → ((x y : A) → same x y ≡ true → AreSameText (spelled x) (spelled y))
    → (xs ys : List A) → same_each same xs ys ≡ true → AreSameText (spell_list separator spelled xs) (spell_list separator spelled ys)
list_text separator same spelled one [] [] e = alike []
list_text separator same spelled one (x ∷ xs) (y ∷ ys) e =
    let f = both (same x y) (same_each same xs ys) e in
    one_by_one (spelled x) (spelled y) (spell_each (λ z. p.some separator ∷ spelled z) xs) (spell_each (λ z. p.some separator ∷ spelled z) ys) (one x y f.0)
    (each_text same (λ z. p.some separator ∷ spelled z) (λ x y g. after separator (spelled x) (spelled y) (one x y g)) xs ys f.1)
list_text separator same spelled one _ _ e = absurd cc

idents_text : (as' bs : List Ident) → same_each same_name as' bs ≡ true → AreSameText (spell_idents as') (spell_idents bs)
idents_text = list_text k.Comma same_name spell_ident ident_text

-- ---- expressions

mutual
  expr_text : (x y : Expr) → same_expr x y ≡ true → AreSameText (spell x) (spell y)
  expr_text (t.integer at x) (t.integer at' x') e = record { same = ap (λ text. p.text_at k.Integer 0 text ∷ []) (bytes_equal x x' e) }
  expr_text (t.character at x) (t.character at' x') e = record { same = ap (λ c. p.literal_at 0 c ∷ []) (eqb-true (to_ascii_lowercase x) (to_ascii_lowercase x') e) }
  expr_text (t.string at x) (t.string at' x') e = record { same = ap (λ text. p.text_at k.String 0 text ∷ []) (bytes_equal x x' e) }
  expr_text (t.bits at x) (t.bits at' x') e = record { same = ap (λ text. p.text_at k.BitString 0 text ∷ []) (bytes_equal x x' e) }
  expr_text (t.named n s a) (t.named n' s' a') e =
      let f = both (same_name n n' && same_suffix s s') (same_option same_attribute a a') e in
      let g = both (same_name n n') (same_suffix s s') f.0 in
      behind (p.word_at n.at n.text) (p.word_at n'.at n'.text) (spell_suffix s ++ spell_option spell_attribute a) (spell_suffix s' ++ spell_option spell_attribute a')
      (name_same n n' g.0)
      (one_by_one (spell_suffix s) (spell_suffix s') (spell_option spell_attribute a) (spell_option spell_attribute a') (suffix_text s s' g.1)
      (option_text same_attribute spell_attribute attribute_text a a' f.1))
  expr_text (t.parens at x) (t.parens at' x') e =
      behind (p.one_at k.LeftParen at) (p.one_at k.LeftParen at') _ _ refl (closed (spell x) (spell x') (expr_text x x' e))
  expr_text (t.negation at x) (t.negation at' x') e = behind (p.one_at k.Not at) (p.one_at k.Not at') (spell x) (spell x') refl (expr_text x x' e)
  expr_text (t.absolute at x) (t.absolute at' x') e = behind (p.one_at k.Abs at) (p.one_at k.Abs at') (spell x) (spell x') refl (expr_text x x' e)
  expr_text (t.power x at y) (t.power x' at' y') e =
      let f = both (same_expr x x') (same_expr y y') e in
      one_by_one (spell x) (spell x') (p.one_at k.Star at ∷ (p.one_at k.Star (suc at) ∷ spell y)) (p.one_at k.Star at' ∷ (p.one_at k.Star (suc at') ∷ spell y')) (expr_text x x' f.0)
      (behind (p.one_at k.Star at) (p.one_at k.Star at') _ _ refl (behind (p.one_at k.Star (suc at)) (p.one_at k.Star (suc at')) (spell y) (spell y') refl (expr_text y y' f.1)))
  expr_text (t.signed w at x) (t.signed w' at' x') e =
      let f = both (same_kind (sign_kind w) (sign_kind w')) (same_expr x x') e in
      behind (p.one_at (sign_kind w) at) (p.one_at (sign_kind w') at') (spell x) (spell x')
      (ap p.some (kind_same (sign_kind w) (sign_kind w') f.0)) (expr_text x x' f.1)
  expr_text (t.binary g o at x y) (t.binary g' o' at' x' y') e =
      let f = both (same_word g g' && same_kind (kind_of o) (kind_of o') && same_expr x x') (same_expr y y') e in
      let h = both (same_word g g' && same_kind (kind_of o) (kind_of o')) (same_expr x x') f.0 in
      let i = both (same_word g g') (same_kind (kind_of o) (kind_of o')) h.0 in
      one_by_one (spell x) (spell x') (p.one_at (kind_of o) at ∷ spell y) (p.one_at (kind_of o') at' ∷ spell y') (expr_text x x' h.1)
      (behind (p.one_at (kind_of o) at) (p.one_at (kind_of o') at') (spell y) (spell y')
      (ap p.some (kind_same (kind_of o) (kind_of o') i.1)) (expr_text y y' f.1))
  expr_text (t.aggregate at es) (t.aggregate at' es') e =
      behind (p.one_at k.LeftParen at) (p.one_at k.LeftParen at') _ _ refl (closed (spell_elements es) (spell_elements es') (elements_text es es' e))
  expr_text (t.qualified n at es) (t.qualified n' at' es') e =
      let f = both (same_name n n') (same_elements es es') e in
      behind (p.word_at n.at n.text) (p.word_at n'.at n'.text) _ _ (name_same n n' f.0)
      (after k.Tick _ _ (behind (p.one_at k.LeftParen at) (p.one_at k.LeftParen at') _ _ refl (closed (spell_elements es) (spell_elements es') (elements_text es es' f.1))))
  expr_text _ _ e = absurd cc

  suffix_text : (s s' : Suffix) → same_suffix s s' ≡ true → AreSameText (spell_suffix s) (spell_suffix s')
  suffix_text t.plain t.plain e = alike []
  suffix_text (t.arguments xs) (t.arguments ys) e = in_parens (spell_exprs xs) (spell_exprs ys) (exprs_text xs ys e)
  suffix_text (t.sliced x d y) (t.sliced x' d' y') e =
      let f = both (same_expr x x' && same_kind (direction_kind d) (direction_kind d')) (same_expr y y') e in
      let g = both (same_expr x x') (same_kind (direction_kind d) (direction_kind d')) f.0 in
      after k.LeftParen _ _ (one_by_one (spell x) (spell x') _ _ (expr_text x x' g.0)
      (behind (p.some (direction_kind d)) (p.some (direction_kind d')) _ _ (ap p.some (kind_same (direction_kind d) (direction_kind d') g.1))
      (closed (spell y) (spell y') (expr_text y y' f.1))))
  suffix_text _ _ e = absurd cc

  exprs_text : (xs ys : Exprs) → same_exprs xs ys ≡ true → AreSameText (spell_exprs xs) (spell_exprs ys)
  exprs_text t.no_exprs t.no_exprs e = alike []
  exprs_text (t.expr x xs) (t.expr y ys) e =
      let f = both (same_expr x y) (same_exprs xs ys) e in
      one_by_one (spell x) (spell y) (spell_more xs) (spell_more ys) (expr_text x y f.0) (more_text xs ys f.1)
  exprs_text _ _ e = absurd cc

  more_text : (xs ys : Exprs) → same_exprs xs ys ≡ true → AreSameText (spell_more xs) (spell_more ys)
  more_text t.no_exprs t.no_exprs e = alike []
  more_text (t.expr x xs) (t.expr y ys) e =
      let f = both (same_expr x y) (same_exprs xs ys) e in
      after k.Comma (spell x ++ spell_more xs) (spell y ++ spell_more ys)
      (one_by_one (spell x) (spell y) (spell_more xs) (spell_more ys) (expr_text x y f.0) (more_text xs ys f.1))
  more_text _ _ e = absurd cc

  elements_text : (es fs : Elements) → same_elements es fs ≡ true → AreSameText (spell_elements es) (spell_elements fs)
  elements_text t.no_elements t.no_elements e = alike []
  elements_text (t.element cs x es) (t.element ds y fs) e =
      let f = both (same_choices cs ds && same_expr x y) (same_elements es fs) e in
      let g = both (same_choices cs ds) (same_expr x y) f.0 in
      one_by_one (spell_chosen cs ++ spell x) (spell_chosen ds ++ spell y) (spell_more_elements es) (spell_more_elements fs)
      (one_by_one (spell_chosen cs) (spell_chosen ds) (spell x) (spell y) (chosen_text cs ds g.0) (expr_text x y g.1)) (more_elements_text es fs f.1)
  elements_text _ _ e = absurd cc

  more_elements_text : (es fs : Elements) → same_elements es fs ≡ true → AreSameText (spell_more_elements es) (spell_more_elements fs)
  more_elements_text t.no_elements t.no_elements e = alike []
  more_elements_text (t.element cs x es) (t.element ds y fs) e =
      let f = both (same_choices cs ds && same_expr x y) (same_elements es fs) e in
      let g = both (same_choices cs ds) (same_expr x y) f.0 in
      after k.Comma _ _ (one_by_one (spell_chosen cs ++ spell x) (spell_chosen ds ++ spell y) (spell_more_elements es) (spell_more_elements fs)
      (one_by_one (spell_chosen cs) (spell_chosen ds) (spell x) (spell y) (chosen_text cs ds g.0) (expr_text x y g.1)) (more_elements_text es fs f.1))
  more_elements_text _ _ e = absurd cc

  chosen_text : (cs ds : Choices) → same_choices cs ds ≡ true → AreSameText (spell_chosen cs) (spell_chosen ds)
  chosen_text t.no_choices t.no_choices e = alike []
  chosen_text (t.choice c cs) (t.choice d ds) e =
      let f = both (same_choice c d) (same_choices cs ds) e in
      one_by_one (spell_choice c) (spell_choice d) (spell_more_chosen cs) (spell_more_chosen ds) (choice_text c d f.0) (more_chosen_text cs ds f.1)
  chosen_text _ _ e = absurd cc

  more_chosen_text : (cs ds : Choices) → same_choices cs ds ≡ true → AreSameText (spell_more_chosen cs) (spell_more_chosen ds)
  more_chosen_text t.no_choices t.no_choices e = alike (p.some k.Arrow ∷ [])
  more_chosen_text (t.choice c cs) (t.choice d ds) e =
      let f = both (same_choice c d) (same_choices cs ds) e in
      after k.Bar _ _ (one_by_one (spell_choice c) (spell_choice d) (spell_more_chosen cs) (spell_more_chosen ds) (choice_text c d f.0) (more_chosen_text cs ds f.1))
  more_chosen_text _ _ e = absurd cc

  choice_text : (c d : Choice) → same_choice c d ≡ true → AreSameText (spell_choice c) (spell_choice d)
  choice_text (t.chosen x) (t.chosen y) e = expr_text x y e
  choice_text (t.chosen_range x d y) (t.chosen_range x' d' y') e =
      let f = both (same_expr x x' && same_kind (direction_kind d) (direction_kind d')) (same_expr y y') e in
      let g = both (same_expr x x') (same_kind (direction_kind d) (direction_kind d')) f.0 in
      one_by_one (spell x) (spell x') _ _ (expr_text x x' g.0)
      (behind (p.some (direction_kind d)) (p.some (direction_kind d')) _ _ (ap p.some (kind_same (direction_kind d) (direction_kind d') g.1)) (expr_text y y' f.1))
  choice_text (t.otherwise at) (t.otherwise at') e = record { same = refl }
  choice_text _ _ e = absurd cc

value_text : (v w : Value) → same_value v w ≡ true → AreSameText (spell_value v) (spell_value w)
value_text (t.single x) (t.single y) e = expr_text x y e
value_text (t.others at x) (t.others at' y) e =
    behind (p.one_at k.LeftParen at) (p.one_at k.LeftParen at') _ _ refl
    (after k.Others _ _ (after k.Arrow _ _ (closed (spell x) (spell y) (expr_text x y e))))
value_text _ _ e = absurd cc

range_text : (r s : Range) → same_range r s ≡ true → AreSameText (spell_range r) (spell_range s)
range_text r s e =
    let f = both (same_expr r.left s.left && same_kind (direction_kind r.direction) (direction_kind s.direction)) (same_expr r.right s.right) e in
    let g = both (same_expr r.left s.left) (same_kind (direction_kind r.direction) (direction_kind s.direction)) f.0 in
    one_by_one (spell r.left) (spell s.left) _ _ (expr_text r.left s.left g.0)
    (behind (p.some (direction_kind r.direction)) (p.some (direction_kind s.direction)) (spell r.right) (spell s.right)
    (ap p.some (kind_same (direction_kind r.direction) (direction_kind s.direction) g.1)) (expr_text r.right s.right f.1))

discrete_range_text : (r s : DiscreteRange) → same_discrete_range r s ≡ true → AreSameText (spell_discrete_range r) (spell_discrete_range s)
discrete_range_text (t.bounds r) (t.bounds s) e = range_text r s e
discrete_range_text (t.range_named m) (t.range_named n) e =
    expr_text (t.named m.identifier m.suffix m.attribute) (t.named n.identifier n.suffix n.attribute) e
discrete_range_text _ _ e = absurd cc

constraint_text : (a b : Constraint) → same_constraint a b ≡ true → AreSameText (spell_constraint a) (spell_constraint b)
constraint_text (t.index_range r) (t.index_range s) e = in_parens (spell_discrete_range r) (spell_discrete_range s) (discrete_range_text r s e)
constraint_text (t.value_range r) (t.value_range s) e = after k.Range (spell_discrete_range r) (spell_discrete_range s) (discrete_range_text r s e)
constraint_text _ _ e = absurd cc

-- ---- interfaces

subtype_text : (a b : Subtype) → same_subtype a b ≡ true → AreSameText (spell_subtype a) (spell_subtype b)
subtype_text a b e =
    let f = both (same_name a.mark b.mark) (same_option same_constraint a.constraint b.constraint) e in
    one_by_one (spell_ident a.mark) (spell_ident b.mark) (spell_option spell_constraint a.constraint) (spell_option spell_constraint b.constraint)
    (ident_text a.mark b.mark f.0) (option_text same_constraint spell_constraint constraint_text a.constraint b.constraint f.1)

mode_text : (a b : Mode) → same_mode a b ≡ true → AreSameText (spell_mode a) (spell_mode b)
mode_text In Out e = absurd cc
mode_text Out In e = absurd cc
mode_text a _ e = alike (spell_mode a)

generic_text : (a b : Generic) → same_generic a b ≡ true → AreSameText (spell_generic a) (spell_generic b)
generic_text a b e =
    let words = same_word a.constant_word b.constant_word in
    let names = same_each same_name a.names b.names in
    let modes = same_word a.in_word b.in_word in
    let marks = same_subtype a.subtype b.subtype in
    let f = both (words && names && modes && marks) (same_option same_expr a.default b.default) e in
    let g = both (words && names && modes) marks f.0 in
    let h = both (words && names) modes g.0 in
    let i = both words names h.0 in
    one_by_one (spell_word k.Constant a.constant_word) (spell_word k.Constant b.constant_word) _ _ (word_text k.Constant a.constant_word b.constant_word i.0)
    (one_by_one (spell_idents a.names) (spell_idents b.names) _ _ (idents_text a.names b.names i.1)
    (after k.Colon _ _ (one_by_one (spell_word k.In a.in_word) (spell_word k.In b.in_word) _ _ (word_text k.In a.in_word b.in_word h.1)
    (one_by_one (spell_subtype a.subtype) (spell_subtype b.subtype) _ _ (subtype_text a.subtype b.subtype g.1)
    (option_text same_expr spell_generic_default (λ x y d. after k.Assign (spell x) (spell y) (expr_text x y d)) a.default b.default f.1)))))

port_text : (a b : Port) → same_port a b ≡ true → AreSameText (spell_port a) (spell_port b)
port_text a b e =
    let words = same_word a.signal_word b.signal_word in
    let names = same_each same_name a.names b.names in
    let modes = same_option same_mode a.mode b.mode in
    let marks = same_subtype a.subtype b.subtype in
    let f = both (words && names && modes && marks) (same_option same_value a.default b.default) e in
    let g = both (words && names && modes) marks f.0 in
    let h = both (words && names) modes g.0 in
    let i = both words names h.0 in
    one_by_one (spell_word k.Signal a.signal_word) (spell_word k.Signal b.signal_word) _ _ (word_text k.Signal a.signal_word b.signal_word i.0)
    (one_by_one (spell_idents a.names) (spell_idents b.names) _ _ (idents_text a.names b.names i.1)
    (after k.Colon _ _ (one_by_one (spell_option spell_mode a.mode) (spell_option spell_mode b.mode) _ _
    (option_text same_mode spell_mode mode_text a.mode b.mode h.1)
    (one_by_one (spell_subtype a.subtype) (spell_subtype b.subtype) _ _ (subtype_text a.subtype b.subtype g.1)
    (option_text same_value spell_default (λ x y d. after k.Assign (spell_value x) (spell_value y) (value_text x y d)) a.default b.default f.1)))))

generics_text : (as' bs : List Generic) → same_each same_generic as' bs ≡ true → AreSameText (spell_generics as') (spell_generics bs)
generics_text as' bs e =
    after k.Generic _ _ (after k.LeftParen _ _ (one_by_one (spell_list k.Semicolon spell_generic as') (spell_list k.Semicolon spell_generic bs) _ _
    (list_text k.Semicolon same_generic spell_generic generic_text as' bs e) (alike (p.some k.RightParen ∷ p.some k.Semicolon ∷ []))))

ports_text : (as' bs : List Port) → same_each same_port as' bs ≡ true → AreSameText (spell_ports as') (spell_ports bs)
ports_text as' bs e =
    after k.Port _ _ (after k.LeftParen _ _ (one_by_one (spell_list k.Semicolon spell_port as') (spell_list k.Semicolon spell_port bs) _ _
    (list_text k.Semicolon same_port spell_port port_text as' bs e) (alike (p.some k.RightParen ∷ p.some k.Semicolon ∷ []))))

pub components_are_texts : ComponentsAreTexts
components_are_texts entities sight c x q =
    let p = component_parts entities sight c x q in
    let f = both (same_generics c.generics p.found.value.1.generic_text) (same_ports c.ports p.found.value.1.port_text) p.alike in
    record {
      number = p.found.value.0;
      entity = p.found.value.1;
      named = p.found.is;
      generics = option_text (same_each same_generic) spell_generics generics_text c.generics p.found.value.1.generic_text f.0;
      ports = option_text (same_each same_port) spell_ports ports_text c.ports p.found.value.1.port_text f.1;
    }
