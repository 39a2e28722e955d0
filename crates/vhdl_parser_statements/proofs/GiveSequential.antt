-- Sequential statements that are spelled are read.
use Rattle.std.proofs.Common.{◌≡◌, ℕ, suc, Bool, true, false, List, [], ◌∷◌, ◌++◌, Ok, Option, Some, None, refl, sym, ap, ◌∙◌, subst, arith}
use Rattle.vhdl_lexer.specs.declared.language.Language.{Language}
use Rattle.vhdl_lexer.specs.declared.language.Language.TheVariants.{Profile, Wide}
use Rattle.vhdl_lexer.specs.declared.token.TokenKind.{TokenKind}
use Rattle.vhdl_lexer.specs.declared.token.TokenKind.TheVariants as k
use Rattle.vhdl_tree.specs.Lexeme.{same_kind}
use Rattle.vhdl_tree.specs.Tree.{Ident, Attribute, called, of_range, Text, Expr, Suffix, plain, Name, Value, DiscreteRange, Choice, Branch, Statement, null_of, assigned, variable_assigned, assigned_when, if_of, case_of, for_of, asserted, reported, Statements, done, step, Conditionals, no_conditionals, guarded, Otherwise, no_else, else_do, Alternatives, no_alternatives, alternative, Sequential, Conditional, Alternative, statements_of, conditionals_of, alternatives_of, otherwise_of}
use Rattle.vhdl_tree.specs.Pieces.{Piece, some, one_at, spell_ident, spell_option, spell_list, IsEach, IsList, IsOption}
use Rattle.vhdl_tree.specs.grammar.Expressions.{spell, spell_name, spell_value, IsExprIn, IsNameIn, IsDiscreteRangeIn, AreChoicesIn}
use Rattle.vhdl_tree.specs.grammar.Texts.{IsTextIn}
use Rattle.vhdl_tree.specs.grammar.Waveforms.{spell_waveforms}
use Rattle.vhdl_tree.specs.grammar.Wide.{IsWide}
use Rattle.vhdl_tree.specs.grammar.Sequential.{spell_label, spell_end, spell_statement, spell_else, spell_sequential, assign_kind, IsStatementIn, AreStatementsIn, AreElsifsIn, IsElseIn, AreAlternativesIn}
use Rattle.vhdl_parser_expressions.specs.reader.Input.{Parser, and_then, is_kind, optional}
use Rattle.vhdl_parser_statements.specs.reader.Wide.{is_wide}
use Rattle.vhdl_parser_statements.specs.reader.Sequential.{label, optional_label, null_statement, assignment_of, assigned_waveforms, assign_behind, assign_by, assign, end_of, begins_sequential, condition, branches, else_part, if_rest, alternative_part, alternatives, case_rest, for_rest, if_statement, case_statement, for_statement, statement_by, statement_of, sequential, statements_with, deeper, statements}
use Rattle.vhdl_parser_expressions.proofs.Gives.{Gives, Whatever, front, g_pure, g_then, g_map, g_at, g_some, g_ident, g_below, g_choose, g_weaken, option_gives, more_gives, separated_gives}
use Rattle.vhdl_parser_expressions.proofs.GiveValues.{g_both, g_neither_then, expr_gives, name_gives, value_gives, discrete_range_gives, choices_gives, both}
use Rattle.vhdl_parser_statements.proofs.Conditional.{AtEnd, ends_at, conditional_gives}
use Rattle.vhdl_parser_statements.proofs.GiveTexts.{text_gives}
use Rattle.vhdl_parser_statements.proofs.Subtypes.{last_gives}
use Rattle.vhdl_parser_statements.proofs.Plain.{statement_long, sequential_long}
use Rattle.vhdl_parser_statements.proofs.WalkSequential.{spelled, spell_condition, spell_alternative, spell_else_part, spelled-each, conditionals-list, alternatives-list, else-option}

-- ---- labels and ends

name_first : (word : TokenKind) → same_kind word k.Colon ≡ false → (n : Ident) (x : Suffix) (a : Option Attribute) (ps : List Piece) (next : Option TokenKind) →
    both k.Identifier k.Colon (spell_name (record { identifier = n; suffix = x; attribute = a }) ++ (some word ∷ ps)) next ≡ false
unfolding same_kind
name_first word other n plain None ps next = other
name_first word other n plain (Some (called a)) ps next = refl
name_first word other n plain (Some (of_range at)) ps next = refl
name_first word other n _ _ ps next = refl

no_label : (s : Statement) (next : Option TokenKind) → both k.Identifier k.Colon (spell_statement s) next ≡ false
unfolding same_kind
no_label (assigned target value) next = name_first k.LessEqual refl target.identifier target.suffix target.attribute (spell_value value ++ some k.Semicolon ∷ []) next
no_label (variable_assigned target value) next = name_first k.Assign refl target.identifier target.suffix target.attribute (spell_value value ++ some k.Semicolon ∷ []) next
no_label (assigned_when is_variable target branches otherwise) next = by is_variable
  where
    by : (b : Bool) → both k.Identifier k.Colon (spell_name target ++ (some (assign_kind b) ∷ (spell_waveforms branches otherwise ++ some k.Semicolon ∷ []))) next ≡ false
    by false = name_first k.LessEqual refl target.identifier target.suffix target.attribute (spell_waveforms branches otherwise ++ some k.Semicolon ∷ []) next
    by true = name_first k.Assign refl target.identifier target.suffix target.attribute (spell_waveforms branches otherwise ++ some k.Semicolon ∷ []) next
no_label _ next = refl

pub label_gives : (i : Ident) → Gives optional_label (Some i) (spell_label i) Whatever
unfolding optional_label label same_kind
label_gives i = g_both k.Identifier k.Colon (omega arith) (λ ts. Ok (None, ts)) (λ next. refl) (g_map (λ x. Some x) (g_ident _ (g_some (λ _. g_pure))))

pub end_gives : (word : TokenKind) (l : Option Ident) → Gives (end_of word) l (spell_end word l) Whatever
unfolding end_of same_kind
end_gives word l = g_some (λ _. g_some (λ _. g_then _ (last_gives l) (g_some (λ _. g_pure)) (λ next _. (refl, tt))))

-- ---- trees as lists

pub list_of : Statements → List Sequential
list_of done = []
list_of (step l s more) = record { label = l; statement = s } ∷ list_of more

pub statements_of-list_of : (ss : Statements) → statements_of (list_of ss) ≡ ss
unfolding list_of
statements_of-list_of done = refl
statements_of-list_of (step l s more) = ap (step l s) (statements_of-list_of more)

conditions_of : Conditionals → List Conditional
unfolding list_of
conditions_of no_conditionals = []
conditions_of (guarded c ss more) = record { condition = c; statements = list_of ss } ∷ conditions_of more

conditionals_of-conditions_of : (cs : Conditionals) → conditionals_of (conditions_of cs) ≡ cs
unfolding conditions_of
conditionals_of-conditions_of no_conditionals = refl
conditionals_of-conditions_of (guarded c ss more) = ap (λ x. guarded c x (conditionals_of (conditions_of more))) (statements_of-list_of ss) ∙ ap (guarded c ss) (conditionals_of-conditions_of more)

alternatives_in : Alternatives → List Alternative
alternatives_in no_alternatives = []
alternatives_in (alternative cs ss more) = record { choices = cs; statements = list_of ss } ∷ alternatives_in more

alternatives_of-in : (all : Alternatives) → alternatives_of (alternatives_in all) ≡ all
unfolding alternatives_in
alternatives_of-in no_alternatives = refl
alternatives_of-in (alternative cs ss more) = ap (λ x. alternative cs x (alternatives_of (alternatives_in more))) (statements_of-list_of ss) ∙ ap (alternative cs ss) (alternatives_of-in more)

option_of : Otherwise → Option (List Sequential)
option_of no_else = None
option_of (else_do ss) = Some (list_of ss)

otherwise_of-option_of : (o : Otherwise) → otherwise_of (option_of o) ≡ o
unfolding option_of
otherwise_of-option_of no_else = refl
otherwise_of-option_of (else_do ss) = ap else_do (statements_of-list_of ss)

-- ---- assignments behind their targets

pub wide_is : (language : Language) → IsWide language → is_wide language ≡ true
wide_is Profile f = absurd f
wide_is Wide f = refl

-- branches stand in the wider language alone
assigned_gives : (language : Language) (n : ℕ) (is_variable : Bool) (t : Name) (bs : List Branch) (o : Option Value) → IsStatementIn language (assignment_of is_variable t bs o) →
    Gives (assigned_waveforms language n) (record { branches = bs; otherwise = o }) (spell_waveforms bs o) AtEnd
assigned_gives Profile n false t [] (Some v) f = g_weaken ends_at (g_map (λ x. record { branches = []; otherwise = Some x }) (value_gives Profile n v f.1))
assigned_gives Profile n true t [] (Some v) f = g_weaken ends_at (g_map (λ x. record { branches = []; otherwise = Some x }) (value_gives Profile n v f.1))
assigned_gives Profile n is_variable t bs o f = absurd f.0
assigned_gives Wide n false t [] (Some v) f = conditional_gives Wide n [] (Some v) f.1
assigned_gives Wide n true t [] (Some v) f = conditional_gives Wide n [] (Some v) f.1
assigned_gives Wide n is_variable t [] None f = absurd f.2
assigned_gives Wide n is_variable t (b ∷ more) o f = conditional_gives Wide n (b ∷ more) o f.2

behind_gives : (language : Language) (n : ℕ) (is_variable : Bool) (t : Name) (bs : List Branch) (o : Option Value) → IsStatementIn language (assignment_of is_variable t bs o) →
    Gives (assign_behind language n is_variable t) (assignment_of is_variable t bs o) (some (assign_kind is_variable) ∷ (spell_waveforms bs o ++ some k.Semicolon ∷ [])) Whatever
unfolding assign_behind
behind_gives language n is_variable t bs o f = g_some (λ _. g_then _ (assigned_gives language n is_variable t bs o f) (g_some (λ _. g_pure)) (λ next _. refl))

-- ---- by the language

module _ (language : Language) where
  -- no statement begins
  abbrev pub EndsStatements : Option TokenKind → Type 0
  EndsStatements next = begins_sequential language next ≡ false

  statement_begins : (s : Statement) → IsStatementIn language s → (next : Option TokenKind) → begins_sequential language (front (spell_statement s) next) ≡ true
  statement_begins (null_of _) f next = refl
  statement_begins (asserted text) f next = wide_is language f.0
  statement_begins (reported text) f next = wide_is language f.0
  statement_begins _ f next = refl

  sequential_from : (n : ℕ) (inner : Parser (List Sequential)) (l : Option Ident) (s : Statement) → Gives (statement_of language n inner) s (spell_statement s) Whatever →
      Gives (sequential language n inner) (record { label = l; statement = s }) (spell_option spell_label l ++ spell_statement s) Whatever
  unfolding sequential optional_label
  sequential_from n inner None s w =
      g_neither_then k.Identifier k.Colon (statement_long s) (λ ts. Ok (None, ts)) (λ ts. and_then (label ts) (λ x us. Ok (Some x, us))) _ (λ next _. no_label s next) (g_map (λ x. record { label = None; statement = x }) w)
  sequential_from n inner (Some i) s w = g_then _ (label_gives i) (g_map (λ x. record { label = Some i; statement = x }) w) (λ next _. tt)

  -- ---- lists of statements

  -- a statement that is read, wherever levels enough may be opened
  abbrev Ready : Sequential → Type 0
  Ready s = ((n : ℕ) → Gives (sequential language n (deeper language n)) s (spell_sequential s) Whatever)
      × ((next : Option TokenKind) → begins_sequential language (front (spell_sequential s) next) ≡ true)

  sequential_begins : (l : Option Ident) (s : Statement) → IsStatementIn language s → (next : Option TokenKind) → begins_sequential language (front (spell_option spell_label l ++ spell_statement s) next) ≡ true
  sequential_begins None s f next = statement_begins s f next
  sequential_begins (Some i) s f next = refl

  statements_from : (ss : List Sequential) → IsEach Ready ss → (n : ℕ) → Gives (statements language n) ss (spelled ss) EndsStatements
  unfolding statements_with
  statements_from ss r n = subst (λ ps. Gives (statements language n) ss ps EndsStatements) (sym (spelled-each ss))
      (g_weaken (λ next g. (g, tt)) (more_gives (begins_sequential language) (λ a good. good.0 n) (λ a good next. good.1 next) sequential_long (λ next _. tt) ss r []))

  deeper_from : (ss : List Sequential) → IsEach Ready ss → (n m : ℕ) → n ≡ suc m → Gives (deeper language n) ss (spelled ss) EndsStatements
  unfolding deeper
  deeper_from ss r n m e = subst (λ x. Gives (deeper language x) ss (spelled ss) EndsStatements) (sym e) (statements_from ss r m)

  -- ---- if statements

  abbrev ReadyCondition : Conditional → Type 0
  ReadyCondition c = (n m : ℕ) → n ≡ suc m → Gives (condition language m (deeper language n)) c (spell_condition c) EndsStatements

  condition_from : (c : Conditional) → IsExprIn language c.condition → IsEach Ready c.statements → ReadyCondition c
  unfolding condition
  condition_from c f r n m e = g_then _ (expr_gives language m c.condition f) (g_some (λ _. g_map (λ ss. record { condition = c.condition; statements = ss }) (deeper_from c.statements r n m e))) (λ next _. omega arith)

  branches_from : (cs : List Conditional) → IsList ReadyCondition cs → (n m : ℕ) → n ≡ suc m → Gives (branches language m (deeper language n)) cs (spell_list k.Elsif spell_condition cs) (λ next. (is_kind k.Elsif next ≡ false) × EndsStatements next)
  unfolding same_kind
  branches_from cs r n m e = separated_gives k.Elsif refl refl (λ c good. good n m e) cs r

  abbrev ReadyList : List Sequential → Type 0
  ReadyList ss = IsEach Ready ss

  else_from : (o : Option (List Sequential)) → IsOption ReadyList o → (n m : ℕ) → n ≡ suc m → Gives (optional (is_kind k.Else) (else_part language m (deeper language n))) o (spell_option spell_else_part o) (λ next. (is_kind k.Else next ≡ false) × EndsStatements next)
  unfolding else_part same_kind
  else_from o r n m e = option_gives (is_kind k.Else) (λ ss good. g_some (λ _. deeper_from ss good n m e)) (λ ss _ next. refl) o r

  after_branches : (o : Option (List Sequential)) (ps : List Piece) (next : Option TokenKind) → (is_kind k.Elsif (front (spell_option spell_else_part o ++ (some k.End ∷ ps)) next) ≡ false) × EndsStatements (front (spell_option spell_else_part o ++ (some k.End ∷ ps)) next)
  unfolding same_kind
  after_branches None ps next = (refl, refl)
  after_branches (Some ss) ps next = (refl, refl)

  if_from : (at : ℕ) (cs : List Conditional) → IsList ReadyCondition cs → (o : Option (List Sequential)) → IsOption ReadyList o → (l : Option Ident) (n : ℕ) →
      Gives (if_statement language n (deeper language n)) (if_of at (conditionals_of cs) (otherwise_of o) l) (one_at k.If at ∷ (spell_list k.Elsif spell_condition cs ++ (spell_option spell_else_part o ++ spell_end k.If l))) Whatever
  unfolding if_statement if_rest same_kind
  if_from at cs r o q l n = g_at _ (g_below _ n (λ m e.
      g_then _ (branches_from cs r n m e)
      (g_then _ (else_from o q n m e) (g_map (λ x. if_of at (conditionals_of cs) (otherwise_of o) x) (end_gives k.If l)) (λ next _. (refl, refl)))
      (λ next _. after_branches o (some k.If ∷ (spell_option spell_ident l ++ some k.Semicolon ∷ [])) next)))

  if_gives : (at : ℕ) (cs : List Conditional) → IsList ReadyCondition cs → (o : Option (List Sequential)) → IsOption ReadyList o → (l : Option Ident) (bs : Conditionals) (e : Otherwise) → conditionals_of cs ≡ bs → otherwise_of o ≡ e → (n : ℕ) →
      Gives (statement_of language n (deeper language n)) (if_of at bs e l) (spell_statement (if_of at bs e l)) Whatever
  unfolding statement_of
  if_gives at cs r o q l bs e same other n =
      g_choose (statement_by language n (deeper language n)) (Some k.If) (λ next _. refl)
      (subst (λ x. Gives (if_statement language n (deeper language n)) (if_of at x e l) (spell_statement (if_of at x e l)) Whatever) same
      (subst (λ x. Gives (if_statement language n (deeper language n)) (if_of at (conditionals_of cs) x l) (spell_statement (if_of at (conditionals_of cs) x l)) Whatever) other
      (subst (λ ps. Gives (if_statement language n (deeper language n)) (if_of at (conditionals_of cs) (otherwise_of o) l) (one_at k.If at ∷ (ps ++ (spell_else (otherwise_of o) ++ spell_end k.If l))) Whatever) (sym (conditionals-list cs))
      (subst (λ ps. Gives (if_statement language n (deeper language n)) (if_of at (conditionals_of cs) (otherwise_of o) l) (one_at k.If at ∷ (spell_list k.Elsif spell_condition cs ++ (ps ++ spell_end k.If l))) Whatever) (sym (else-option o))
      (if_from at cs r o q l n)))))

  -- ---- case statements

  abbrev ReadyAlternative : Alternative → Type 0
  ReadyAlternative a = (n m : ℕ) → n ≡ suc m → Gives (alternative_part language m (deeper language n)) a (spell_alternative a) EndsStatements

  alternative_from : (a : Alternative) → AreChoicesIn language a.choices → IsEach Ready a.statements → ReadyAlternative a
  unfolding alternative_part same_kind
  alternative_from a f r n m e = g_then _ (choices_gives language m a.choices f) (g_some (λ _. g_map (λ ss. record { choices = a.choices; statements = ss }) (deeper_from a.statements r n m e))) (λ next _. (refl, (omega arith, refl)))

  alternatives_from : (all : List Alternative) → IsList ReadyAlternative all → (n m : ℕ) → n ≡ suc m → Gives (alternatives language m (deeper language n)) all (spell_list k.When spell_alternative all) (λ next. (is_kind k.When next ≡ false) × EndsStatements next)
  unfolding same_kind
  alternatives_from all r n m e = separated_gives k.When refl refl (λ a good. good n m e) all r

  case_from : (at : ℕ) (s : Expr) → IsExprIn language s → (all : List Alternative) → IsList ReadyAlternative all → (l : Option Ident) (n : ℕ) →
      Gives (case_statement language n (deeper language n)) (case_of at s (alternatives_of all) l) (one_at k.Case at ∷ (spell s ++ (some k.Is ∷ (some k.When ∷ (spell_list k.When spell_alternative all ++ spell_end k.Case l))))) Whatever
  unfolding case_statement case_rest same_kind
  case_from at s f all r l n = g_at _ (g_below _ n (λ m e.
      g_then _ (expr_gives language m s f)
      (g_some (λ _. g_some (λ _. g_then _ (alternatives_from all r n m e) (g_map (λ x. case_of at s (alternatives_of all) x) (end_gives k.Case l)) (λ next _. (refl, refl)))))
      (λ next _. omega arith)))

  case_gives : (at : ℕ) (s : Expr) → IsExprIn language s → (a : Alternative) (all : List Alternative) → IsList ReadyAlternative (a ∷ all) → (l : Option Ident) (as_tree : Alternatives) → alternatives_of (a ∷ all) ≡ as_tree → (n : ℕ) →
      Gives (statement_of language n (deeper language n)) (case_of at s as_tree l) (spell_statement (case_of at s as_tree l)) Whatever
  unfolding statement_of
  case_gives at s f a all r l as_tree same n =
      g_choose (statement_by language n (deeper language n)) (Some k.Case) (λ next _. refl)
      (subst (λ x. Gives (case_statement language n (deeper language n)) (case_of at s x l) (spell_statement (case_of at s x l)) Whatever) same
      (subst (λ ps. Gives (case_statement language n (deeper language n)) (case_of at s (alternatives_of (a ∷ all)) l) (one_at k.Case at ∷ (spell s ++ (some k.Is ∷ (ps ++ spell_end k.Case l)))) Whatever) (sym (alternatives-list a all))
      (case_from at s f (a ∷ all) r l n)))

  -- ---- for loops

  for_gives : (at : ℕ) (p : Ident) (r : DiscreteRange) → IsDiscreteRangeIn language r → (ss : List Sequential) → ReadyList ss → (l : Option Ident) (t : Statements) → statements_of ss ≡ t → (n : ℕ) →
      Gives (statement_of language n (deeper language n)) (for_of at p r t l) (spell_statement (for_of at p r t l)) Whatever
  unfolding statement_of for_statement for_rest same_kind
  for_gives at p r f ss q l t same n =
      g_choose (statement_by language n (deeper language n)) (Some k.For) (λ next _. refl)
      (subst (λ x. Gives (for_statement language n (deeper language n)) (for_of at p r x l) (spell_statement (for_of at p r x l)) Whatever) same
      (g_at _ (g_below _ n (λ m e. g_ident _ (g_some (λ _. g_then _ (discrete_range_gives language m r f)
      (g_some (λ _. g_then _ (deeper_from ss q n m e) (g_map (λ x. for_of at p r (statements_of ss) x) (end_gives k.Loop l)) (λ next _. refl)))
      (λ next _. (omega arith, refl))))))))

  -- ---- assignments, texts and null

  assign_gives : (is_variable : Bool) (t : Name) (s : Statement) (ps : List Piece) → IsNameIn language t → (n : ℕ) →
      Gives (assign_behind language n is_variable t) s (some (assign_kind is_variable) ∷ ps) Whatever → Gives (statement_of language n (deeper language n)) s (spell_name t ++ (some (assign_kind is_variable) ∷ ps)) Whatever
  unfolding statement_of assign
  assign_gives false t s ps f n w =
      g_choose (statement_by language n (deeper language n)) (Some k.Identifier) (λ next _. refl)
      (g_then _ (name_gives language n t f) (g_choose (assign_by language n t) (Some k.LessEqual) (λ next _. refl) w) (λ next _. omega arith))
  assign_gives true t s ps f n w =
      g_choose (statement_by language n (deeper language n)) (Some k.Identifier) (λ next _. refl)
      (g_then _ (name_gives language n t f) (g_choose (assign_by language n t) (Some k.Assign) (λ next _. refl) w) (λ next _. omega arith))

  assert_gives : (text : Text) → IsTextIn language text → (n : ℕ) → Gives (statement_of language n (deeper language n)) (asserted text) (spell_statement (asserted text)) Whatever
  unfolding statement_of
  assert_gives text f n = g_choose (statement_by language n (deeper language n)) (Some k.Assert) (λ next _. refl) (g_map (λ x. asserted x) (text_gives language n k.Assert text f))

  report_gives : (text : Text) → IsTextIn language text → (n : ℕ) → Gives (statement_of language n (deeper language n)) (reported text) (spell_statement (reported text)) Whatever
  unfolding statement_of
  report_gives text f n = g_choose (statement_by language n (deeper language n)) (Some k.Report) (λ next _. refl) (g_map (λ x. reported x) (text_gives language n k.Report text f))

  null_gives : (at n : ℕ) → Gives (statement_of language n (deeper language n)) (null_of at) (spell_statement (null_of at)) Whatever
  unfolding statement_of null_statement
  null_gives at n = g_choose (statement_by language n (deeper language n)) (Some k.Null) (λ next _. refl) (g_at _ (g_some (λ _. g_pure)))

  -- ---- all statements

  if_tree : (at : ℕ) (c : Expr) (ss : Statements) (more : Conditionals) (o : Otherwise) (l : Option Ident) → IsExprIn language c → IsEach Ready (list_of ss) → IsEach ReadyCondition (conditions_of more) → IsOption ReadyList (option_of o) → (n : ℕ) →
      Gives (statement_of language n (deeper language n)) (if_of at (guarded c ss more) o l) (spell_statement (if_of at (guarded c ss more) o l)) Whatever
  unfolding conditions_of
  if_tree at c ss more o l f r rs q n = if_gives at (conditions_of (guarded c ss more)) (condition_from (record { condition = c; statements = list_of ss }) f r, rs) (option_of o) q l (guarded c ss more) o (conditionals_of-conditions_of (guarded c ss more)) (otherwise_of-option_of o) n

  case_tree : (at : ℕ) (s : Expr) (cs : List Choice) (ss : Statements) (more : Alternatives) (l : Option Ident) → IsExprIn language s → AreChoicesIn language cs → IsEach Ready (list_of ss) → IsEach ReadyAlternative (alternatives_in more) → (n : ℕ) →
      Gives (statement_of language n (deeper language n)) (case_of at s (alternative cs ss more) l) (spell_statement (case_of at s (alternative cs ss more) l)) Whatever
  unfolding alternatives_in
  case_tree at s cs ss more l f g r rs n = case_gives at s f (record { choices = cs; statements = list_of ss }) (alternatives_in more) (alternative_from (record { choices = cs; statements = list_of ss }) g r, rs) l (alternative cs ss more) (alternatives_of-in (alternative cs ss more)) n

  mutual
    unfolding list_of conditions_of option_of alternatives_in

    pub statement_gives : (s : Statement) → IsStatementIn language s → (n : ℕ) → Gives (statement_of language n (deeper language n)) s (spell_statement s) Whatever
    statement_gives (null_of at) f n = null_gives at n
    statement_gives (assigned t v) f n = assign_gives false t (assigned t v) _ f.0 n (behind_gives language n false t [] (Some v) f)
    statement_gives (variable_assigned t v) f n = assign_gives true t (variable_assigned t v) _ f.0 n (behind_gives language n true t [] (Some v) f)
    statement_gives (assigned_when is_variable t [] o) f n = absurd f.2
    statement_gives (assigned_when is_variable t (b ∷ more) o) f n = assign_gives is_variable t (assigned_when is_variable t (b ∷ more) o) _ f.1 n (behind_gives language n is_variable t (b ∷ more) o f)
    statement_gives (asserted text) f n = assert_gives text f n
    statement_gives (reported text) f n = report_gives text f n
    statement_gives (if_of at no_conditionals o l) f n = absurd f.0
    statement_gives (if_of at (guarded c ss more) o l) f n = if_tree at c ss more o l f.0.0 (all_ready ss f.0.1) (elsifs_ready more f.0.2) (else_ready o f.1) n
    statement_gives (case_of at s no_alternatives l) f n = absurd f.1
    statement_gives (case_of at s (alternative cs ss more) l) f n = case_tree at s cs ss more l f.0 f.1.0 (all_ready ss f.1.1) (cases_ready more f.1.2) n
    statement_gives (for_of at p r ss l) f n = for_gives at p r f.0 (list_of ss) (all_ready ss f.1) l ss (statements_of-list_of ss) n

    pub all_ready : (ss : Statements) → AreStatementsIn language ss → IsEach Ready (list_of ss)
    all_ready done f = tt
    all_ready (step l s more) f = (((λ n. sequential_from n (deeper language n) l s (statement_gives s f.0 n)), sequential_begins l s f.0), all_ready more f.1)

    elsifs_ready : (cs : Conditionals) → AreElsifsIn language cs → IsEach ReadyCondition (conditions_of cs)
    elsifs_ready no_conditionals f = tt
    elsifs_ready (guarded c ss more) f = (condition_from (record { condition = c; statements = list_of ss }) f.0 (all_ready ss f.1), elsifs_ready more f.2)

    else_ready : (o : Otherwise) → IsElseIn language o → IsOption ReadyList (option_of o)
    else_ready no_else f = tt
    else_ready (else_do ss) f = all_ready ss f

    cases_ready : (all : Alternatives) → AreAlternativesIn language all → IsEach ReadyAlternative (alternatives_in all)
    cases_ready no_alternatives f = tt
    cases_ready (alternative cs ss more) f = (alternative_from (record { choices = cs; statements = list_of ss }) f.0 (all_ready ss f.1), cases_ready more f.2)

  -- sequential statements
  pub statements_gives : (n : ℕ) (ss : List Sequential) → AreStatementsIn language (statements_of ss) → Gives (statements language n) ss (spelled ss) EndsStatements
  unfolding list_of
  statements_gives n ss f = statements_from ss (subst (λ xs. IsEach Ready xs) (back ss) (all_ready (statements_of ss) f)) n
    where
      back : (xs : List Sequential) → list_of (statements_of xs) ≡ xs
      back [] = refl
      back (x ∷ xs) = ap (λ ys. x ∷ ys) (back xs)
