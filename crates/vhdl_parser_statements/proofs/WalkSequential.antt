-- What the readers of sequential statements make.
use Rattle.std.proofs.Common.{◌≡◌, ℕ, zero, suc, ◌≤◌, Bool, true, false, List, [], ◌∷◌, ◌++◌, Ok, Option, Some, None, refl, sym, ap, ◌∙◌, append-nil, arith}
use Rattle.vhdl_lexer.specs.declared.language.Language.{Language}
use Rattle.vhdl_lexer.specs.declared.language.Language.TheVariants.{Profile, Wide}
use Rattle.vhdl_lexer.specs.declared.token.TokenKind.{TokenKind}
use Rattle.vhdl_lexer.specs.declared.token.TokenKind.TheVariants as k
use Rattle.vhdl_tree.specs.Lexeme.{same_kind}
use Rattle.vhdl_tree.specs.Tree.{Ident, Name, Text, Value, Branch, Statement, if_of, case_of, for_of, asserted, reported, Sequential, Conditional, Alternative, statements_of, conditionals_of, alternatives_of, otherwise_of}
use Rattle.vhdl_tree.specs.Pieces.{Piece, some, one_at, word_at, spell_ident, spell_option, spell_each, spell_list, IsAny, IsEach, IsList, IsOption}
use Rattle.vhdl_tree.specs.Levels.{is_end, opening, closing}
use Rattle.vhdl_tree.specs.grammar.Expressions.{spell, spell_name, spell_discrete_range, spell_choices, IsExprIn, IsNameIn, AreChoicesIn}
use Rattle.vhdl_tree.specs.grammar.Texts.{spell_text, IsTextIn}
use Rattle.vhdl_tree.specs.grammar.Waveforms.{spell_waveforms}
use Rattle.vhdl_tree.specs.grammar.Sequential.{spell_label, spell_end, spell_statement, spell_statements, spell_conditionals, spell_elsifs, spell_else, spell_alternatives, spell_sequential, assign_kind, IsStatementIn, AreStatementsIn, AreBranchesIn, AreElsifsIn, IsElseIn, AreCasesIn, AreAlternativesIn}
use Rattle.vhdl_parser_expressions.specs.reader.Input.{Parser, and_then, expect, identifier, is_kind, optional}
use Rattle.vhdl_parser_statements.specs.reader.Sequential.{label, optional_label, null_statement, assignment_of, assigned_waveforms, assign_behind, assign_by, assign, end_of, begins_sequential, condition, branches, else_part, if_rest, alternative_part, alternatives, case_rest, for_rest, if_statement, case_statement, for_statement, statement_by, statement_of, sequential, statements_with, deeper, statements}
use Rattle.vhdl_parser_expressions.proofs.Steady.{left_of}
use Rattle.vhdl_parser_expressions.proofs.Ahead.{eager}
use Rattle.vhdl_parser_expressions.proofs.Alone.{word}
use Rattle.vhdl_parser_expressions.proofs.Walks.{Walks, Rule, w_pure, w_then, w_last, w_ends, w_before}
use Rattle.vhdl_parser_expressions.proofs.Rules.{is_neutral, w_take, w_at, w_some, w_end, w_ident, w_option_ident, w_open, w_refuse, w_choose, w_inner, w_both, w_below, below_met, under, under_none, option_rule}
use Rattle.vhdl_parser_expressions.proofs.Repeats.{each_rule, separated_rule}
use Rattle.vhdl_parser_expressions.proofs.WalkExpressions.{expr_rule, a_name_rule}
use Rattle.vhdl_parser_expressions.proofs.WalkValues.{discrete_range_rule, value_rule, choices_rule}
use Rattle.vhdl_parser_statements.specs.reader.Texts.{text_of}
use Rattle.vhdl_parser_statements.specs.reader.Waveforms.{Waveforms}
use Rattle.vhdl_parser_statements.specs.reader.Wide.{wide}
use Rattle.vhdl_parser_statements.proofs.Alone.{label_alone, statement_alone}
use Rattle.vhdl_parser_statements.proofs.Conditional.{IsWholeIn, spell_whole, conditional_rule}
use Rattle.vhdl_parser_statements.proofs.WalkTexts.{text_rule}
use Rattle.vhdl_parser_statements.proofs.Plain.{plain_statement, plain_assigned, plain_if, plain_case, plain_for, sequential_long}

-- ---- words that open and close levels

end_spelled : (before : List Piece → List Piece) (word : TokenKind) (l : Option Ident) (r : List Piece) → before (spell_end word l ++ r) ≡ before (some k.End ∷ (some word ∷ (spell_option spell_ident l ++ (some k.Semicolon ∷ r))))
end_spelled before word None r = refl
end_spelled before word (Some i) r = refl

module _ {B : Type 0} {n d d2 : ℕ} {before : List Piece → List Piece} {spell : B → List Piece} {Good : B → Type 0} where
  -- one that closes a level behind `end`
  w_close : {f : ℕ → Parser B} (kind : TokenKind) → opening true kind ≡ 0 → closing true kind ≡ 1 → is_end kind ≡ false → suc d ≤ n →
      ((at : ℕ) → Walks n d false d2 (λ r. before (some kind ∷ r)) (f at) spell Good) → Walks n (suc d) true d2 before (λ ts. and_then (expect kind ts) f) spell Good
  unfolding expect
  w_close kind o c last le next = w_take (λ l. l.at) kind (λ _. some kind) (λ _. le) (omega arith) (omega (arith, o, c)) last (λ l i. i) next

  -- `loop` where it doesn't stand behind `end`
  w_loop : {f : ℕ → Parser B} → ((at : ℕ) → Walks n d false d2 (λ r. before (some k.Loop ∷ r)) (f at) spell Good) → Walks n d false d2 before (λ ts. and_then (expect k.Loop ts) f) spell Good
  unfolding expect same_kind
  w_loop next = w_take (λ l. l.at) k.Loop (λ _. some k.Loop) (λ le. le) (omega arith) refl refl (λ l i. i) next

module _ {B : Type 0} {n d d2 : ℕ} {before : List Piece → List Piece} {spell : B → List Piece} {Good : B → Type 0} where
  -- end word [ id ] ;
  pub w_end_of : {f : Option Ident → Parser B} (word : TokenKind) → opening true word ≡ 0 → closing true word ≡ 1 → is_end word ≡ false → suc d ≤ n →
      ((l : Option Ident) → Walks n d false d2 (λ r. before (spell_end word l ++ r)) (f l) spell Good) → Walks n (suc d) false d2 before (λ ts. and_then (end_of word ts) f) spell Good
  unfolding end_of
  w_end_of {f} word o c last le next =
      w_inner (expect k.End) _ f (w_end (λ _.
      w_inner (expect word) _ f (w_close word o c last le (λ _.
      w_inner (optional (is_kind k.Identifier) identifier) _ f (w_option_ident (λ l e2.
      w_inner (expect k.Semicolon) _ f (w_some k.Semicolon refl (λ _. w_before {before = λ r. before (some k.End ∷ (some word ∷ (spell_option spell_ident l ++ (some k.Semicolon ∷ r))))} {other = λ r. before (spell_end word l ++ r)} (end_spelled before word l) (next l)))))))))

module _ {B : Type 0} {n d d2 : ℕ} {before : List Piece → List Piece} {spell : B → List Piece} {Good : B → Type 0} where
  -- the same with a word that closes no level
  pub w_end_neutral : {f : Option Ident → Parser B} (word : TokenKind) → is_neutral word ≡ true →
      ((l : Option Ident) → Walks n d false d2 (λ r. before (spell_end word l ++ r)) (f l) spell Good) → Walks n d false d2 before (λ ts. and_then (end_of word ts) f) spell Good
  unfolding end_of
  w_end_neutral {f} word ok next =
      w_inner (expect k.End) _ f (w_end (λ _.
      w_inner (expect word) _ f (w_some word ok (λ _.
      w_inner (optional (is_kind k.Identifier) identifier) _ f (w_option_ident (λ l e2.
      w_inner (expect k.Semicolon) _ f (w_some k.Semicolon refl (λ _. w_before {before = λ r. before (some k.End ∷ (some word ∷ (spell_option spell_ident l ++ (some k.Semicolon ∷ r))))} {other = λ r. before (spell_end word l ++ r)} (end_spelled before word l) (next l)))))))))

label_rule : (n : ℕ) → Rule n 0 (λ ts. and_then (label ts) (λ i us. Ok (Some i, us))) (spell_option spell_label) IsAny
unfolding label
label_rule n = w_inner identifier _ _ (w_ident (λ i. w_inner (expect k.Colon) _ _ (w_some k.Colon refl (λ _. w_pure (omega arith) refl tt))))

-- what stands behind a label, or without one takes an identifier
pub w_labelled : {B : Type 0} {n : ℕ} {spell : B → List Piece} {Good : B → Type 0} (f : Option Ident → Parser B) → ((l : Option Ident) → Walks n 0 false 0 (λ r. spell_option spell_label l ++ r) (f l) spell Good) →
    ((at : ℕ) (text : List ℕ) → left_of (f None (word at text ∷ [])) ≡ []) → Rule n 0 (λ ts. and_then (optional_label ts) f) spell Good
unfolding optional_label
w_labelled {B} {n} f next alone = w_both k.Identifier k.Colon (λ ts. and_then (label ts) (λ i us. Ok (Some i, us))) (λ ts. Ok (None, ts)) f (label_rule n) (w_pure (omega arith) refl tt) (λ l _ _. next l)
    (λ s. eager k.Identifier s (λ at text. ap (λ o. left_of (and_then (and_then o (λ i us. Ok (Some i, us))) f)) (label_alone at text)))
    (λ s. eager k.Identifier s alone)

-- ---- lists, and the trees that they are in

abbrev pub spelled : List Sequential → List Piece
spelled ss = spell_statements (statements_of ss)

abbrev pub spell_condition : Conditional → List Piece
spell_condition c = spell c.condition ++ (some k.Then ∷ spelled c.statements)

abbrev pub spell_alternative : Alternative → List Piece
spell_alternative a = spell_choices a.choices ++ (some k.Arrow ∷ spelled a.statements)

abbrev pub spell_else_part : List Sequential → List Piece
spell_else_part ss = some k.Else ∷ spelled ss

pub spelled-each : (ss : List Sequential) → spelled ss ≡ spell_each spell_sequential ss
spelled-each [] = refl
spelled-each (s ∷ ss) = ap (λ ps. spell_sequential s ++ ps) (spelled-each ss)

pub elsifs-each : (cs : List Conditional) → spell_elsifs (conditionals_of cs) ≡ spell_each (λ c. some k.Elsif ∷ spell_condition c) cs
elsifs-each [] = refl
elsifs-each (c ∷ cs) = ap (λ ps. (some k.Elsif ∷ spell_condition c) ++ ps) (elsifs-each cs)

pub conditionals-list : (cs : List Conditional) → spell_conditionals (conditionals_of cs) ≡ spell_list k.Elsif spell_condition cs
conditionals-list [] = refl
conditionals-list (c ∷ cs) = ap (λ ps. spell_condition c ++ ps) (elsifs-each cs)

pub alternatives-each : (all : List Alternative) → spell_alternatives (alternatives_of all) ≡ spell_each (λ a. some k.When ∷ spell_alternative a) all
alternatives-each [] = refl
alternatives-each (a ∷ all) = ap (λ ps. (some k.When ∷ spell_alternative a) ++ ps) (alternatives-each all)

pub alternatives-list : (a : Alternative) (all : List Alternative) → spell_alternatives (alternatives_of (a ∷ all)) ≡ some k.When ∷ spell_list k.When spell_alternative (a ∷ all)
alternatives-list a all = alternatives-each (a ∷ all)

pub else-option : (o : Option (List Sequential)) → spell_else (otherwise_of o) ≡ spell_option spell_else_part o
else-option None = refl
else-option (Some ss) = refl

-- ---- assignments

assign_spelled : (is_variable : Bool) (t : Name) (bs : List Branch) (o : Option Value) →
    spell_statement (assignment_of is_variable t bs o) ≡ spell_name t ++ (some (assign_kind is_variable) ∷ (spell_waveforms bs o ++ some k.Semicolon ∷ []))
assign_spelled false t [] (Some v) = refl
assign_spelled true t [] (Some v) = refl
assign_spelled is_variable t [] None = refl
assign_spelled is_variable t (b ∷ more) o = refl

-- branches stand in the wider language alone
abbrev IsAssignedIn : Language → Waveforms → Type 0
IsAssignedIn Profile w = IsWholeIn Profile w × (w.branches ≡ [])
IsAssignedIn Wide w = IsWholeIn Wide w

assign_formed : (language : Language) (is_variable : Bool) (t : Name) → IsNameIn language t → (bs : List Branch) (o : Option Value) → IsAssignedIn language (record { branches = bs; otherwise = o }) →
    IsStatementIn language (assignment_of is_variable t bs o)
assign_formed Profile is_variable t good [] None f = absurd f.0
assign_formed Profile false t good [] (Some v) f = (good, f.0)
assign_formed Profile true t good [] (Some v) f = (good, f.0)
assign_formed Profile is_variable t good (b ∷ more) o f = let e : b ∷ more ≡ [] = f.1 in absurd (cc)
assign_formed Wide is_variable t good [] None f = absurd f
assign_formed Wide false t good [] (Some v) f = (good, f)
assign_formed Wide true t good [] (Some v) f = (good, f)
assign_formed Wide is_variable t good (b ∷ more) o f = (tt, good, f)

assigned_rule : (language : Language) (n : ℕ) → Rule n 0 (assigned_waveforms language n) spell_whole (IsAssignedIn language)
assigned_rule Profile n = w_last (λ v. record { branches = []; otherwise = Some v }) (value_rule Profile n) (λ v good. (refl, (good, refl)))
assigned_rule Wide n = conditional_rule Wide n

sign_neutral : (is_variable : Bool) → is_neutral (assign_kind is_variable) ≡ true
sign_neutral false = refl
sign_neutral true = refl

behind_rule : (language : Language) (n : ℕ) (is_variable : Bool) (t : Name) → IsNameIn language t → Walks n 0 false 0 (λ r. spell_name t ++ r) (assign_behind language n is_variable t) spell_statement (IsStatementIn language)
unfolding assign_behind
behind_rule language n is_variable t good = w_some (assign_kind is_variable) (sign_neutral is_variable) (λ _. w_then (assigned_rule language n) (λ w fine _. w_some k.Semicolon refl (λ _.
    w_pure (omega arith) (assign_spelled is_variable t w.branches w.otherwise) (assign_formed language is_variable t good w.branches w.otherwise fine))))

assign_next : (language : Language) (n : ℕ) (t : Name) → IsNameIn language t → (next : Option TokenKind) → Walks n 0 false 0 (λ r. spell_name t ++ r) (assign_by language n t next) spell_statement (IsStatementIn language)
assign_next language n t good (Some k.LessEqual) = behind_rule language n false t good
assign_next language n t good (Some k.Assign) = behind_rule language n true t good
assign_next language n t good _ = w_refuse (plain_assigned language t good)

assign_rule : (language : Language) (n : ℕ) → Rule n 0 (assign language n) spell_statement (IsStatementIn language)
unfolding assign
assign_rule language n = w_then (a_name_rule language n) (λ t good _. w_choose (assign_next language n t good))

-- a statement that is a text, which the narrower language refuses
dropped_rule : (language : Language) (n : ℕ) (word : TokenKind) → is_neutral word ≡ true → (of : Text → Statement) → ((x : Text) → spell_statement (of x) ≡ spell_text word x) → ((x : Text) → IsTextIn language x → IsStatementIn language (of x)) →
    Rule n 0 (λ ts. and_then (text_of language n word ts) (λ x us. Ok (of x, us))) spell_statement (IsStatementIn language)
unfolding text_of wide
dropped_rule Profile n word ok of is good = w_refuse (plain_statement Profile)
dropped_rule Wide n word ok of is good = w_last of (text_rule n word ok) (λ x fine. (is x, good x fine))

-- ---- by the language

module _ (language : Language) where
  -- ---- what is well formed

  abbrev pub formed : List Sequential → Type 0
  formed ss = AreStatementsIn language (statements_of ss)

  abbrev pub IsCondition : Conditional → Type 0
  IsCondition c = IsExprIn language c.condition × formed c.statements

  abbrev pub IsAlternative : Alternative → Type 0
  IsAlternative a = AreChoicesIn language a.choices × formed a.statements

  formed_each : (ss : List Sequential) → IsEach (λ s. IsStatementIn language s.statement) ss → formed ss
  formed_each [] f = tt
  formed_each (s ∷ ss) f = (f.0, formed_each ss f.1)

  elsifs_each : (cs : List Conditional) → IsEach IsCondition cs → AreElsifsIn language (conditionals_of cs)
  elsifs_each [] f = tt
  elsifs_each (c ∷ cs) f = (f.0.0, f.0.1, elsifs_each cs f.1)

  branches_list : (cs : List Conditional) → IsList IsCondition cs → AreBranchesIn language (conditionals_of cs)
  branches_list [] f = absurd f
  branches_list (c ∷ cs) f = (f.0.0, f.0.1, elsifs_each cs f.1)

  alternatives_each : (all : List Alternative) → IsEach IsAlternative all → AreAlternativesIn language (alternatives_of all)
  alternatives_each [] f = tt
  alternatives_each (a ∷ all) f = (f.0.0, f.0.1, alternatives_each all f.1)

  else_option : (o : Option (List Sequential)) → IsOption formed o → IsElseIn language (otherwise_of o)
  else_option None f = tt
  else_option (Some ss) f = f

  null_rule : (n : ℕ) → Rule n 0 null_statement spell_statement (IsStatementIn language)
  unfolding null_statement
  null_rule n = w_at k.Null refl (λ at. w_some k.Semicolon refl (λ _. w_pure (omega arith) refl tt))

  -- ---- statements that hold statements one level down

  module _ (n m : ℕ) (less : n ≡ suc m) (inner : Parser (List Sequential)) (each : Rule n 1 inner spelled formed) where
    condition_rule : Rule n 1 (condition language m inner) spell_condition IsCondition
    unfolding condition
    condition_rule = w_then (under less (expr_rule language m)) (λ c good _. w_some k.Then refl (λ _. w_last (λ ss. record { condition = c; statements = ss }) each (λ ss fine. (refl, (good, fine)))))

    branches_rule : Rule n 1 (branches language m inner) (spell_list k.Elsif spell_condition) (IsList IsCondition)
    branches_rule = separated_rule k.Elsif refl (omega (arith, less)) condition_rule

    else_rule : Rule n 1 (optional (is_kind k.Else) (else_part language m inner)) (spell_option spell_else_part) (IsOption formed)
    unfolding else_part
    else_rule = option_rule (is_kind k.Else) (omega (arith, less)) (w_some k.Else refl (λ _. w_ends (λ ss. refl) (λ ss good. good) each))

    if_spelled : (at : ℕ) (bs : List Conditional) (o : Option (List Sequential)) (l : Option Ident) →
        spell_statement (if_of at (conditionals_of bs) (otherwise_of o) l) ≡ one_at k.If at ∷ (spell_list k.Elsif spell_condition bs ++ (spell_option spell_else_part o ++ (spell_end k.If l ++ [])))
    if_spelled at bs o l =
        ap (λ ps. one_at k.If at ∷ (ps ++ (spell_else (otherwise_of o) ++ spell_end k.If l))) (conditionals-list bs)
        ∙ ap (λ ps. one_at k.If at ∷ (spell_list k.Elsif spell_condition bs ++ (ps ++ spell_end k.If l))) (else-option o)
        ∙ ap (λ ps. one_at k.If at ∷ (spell_list k.Elsif spell_condition bs ++ (spell_option spell_else_part o ++ ps))) (sym (append-nil (spell_end k.If l)))

    if_rest_rule : (at : ℕ) → Walks n 1 false 0 (λ r. one_at k.If at ∷ r) (if_rest language m inner at) spell_statement (IsStatementIn language)
    unfolding if_rest same_kind
    if_rest_rule at = w_then branches_rule (λ bs good _. w_then else_rule (λ o fine le. w_end_of k.If refl refl refl le (λ l. w_pure (omega arith) (if_spelled at bs o l) (branches_list bs good, else_option o fine))))

    alternative_rule : Rule n 1 (alternative_part language m inner) spell_alternative IsAlternative
    unfolding alternative_part
    alternative_rule = w_then (under less (choices_rule language m)) (λ cs good _. w_some k.Arrow refl (λ _. w_last (λ ss. record { choices = cs; statements = ss }) each (λ ss fine. (refl, (good, fine)))))

    alternatives_rule : Rule n 1 (alternatives language m inner) (spell_list k.When spell_alternative) (IsList IsAlternative)
    alternatives_rule = separated_rule k.When refl (omega (arith, less)) alternative_rule

    case_spelled : (at : ℕ) (s : _) (all : List Alternative) (l : Option Ident) → IsList IsAlternative all →
        spell_statement (case_of at s (alternatives_of all) l) ≡ one_at k.Case at ∷ (spell s ++ (some k.Is ∷ (some k.When ∷ (spell_list k.When spell_alternative all ++ (spell_end k.Case l ++ [])))))
    case_spelled at s [] l f = absurd f
    case_spelled at s (a ∷ all) l f =
        ap (λ ps. one_at k.Case at ∷ (spell s ++ (some k.Is ∷ (ps ++ spell_end k.Case l)))) (alternatives-list a all)
        ∙ ap (λ ps. one_at k.Case at ∷ (spell s ++ (some k.Is ∷ (some k.When ∷ (spell_list k.When spell_alternative (a ∷ all) ++ ps))))) (sym (append-nil (spell_end k.Case l)))

    cases_list : (all : List Alternative) → IsList IsAlternative all → AreCasesIn language (alternatives_of all)
    cases_list [] f = absurd f
    cases_list (a ∷ all) f = (f.0.0, f.0.1, alternatives_each all f.1)

    case_rest_rule : (at : ℕ) → Walks n 1 false 0 (λ r. one_at k.Case at ∷ r) (case_rest language m inner at) spell_statement (IsStatementIn language)
    unfolding case_rest same_kind
    case_rest_rule at = w_then (under less (expr_rule language m)) (λ s good _. w_some k.Is refl (λ _. w_some k.When refl (λ _. w_then alternatives_rule (λ all fine le.
        w_end_of k.Case refl refl refl le (λ l. w_pure (omega arith) (case_spelled at s all l fine) (good, cases_list all fine))))))

    for_spelled : (at : ℕ) (p : Ident) (r : _) (ss : List Sequential) (l : Option Ident) →
        spell_statement (for_of at p r (statements_of ss) l) ≡ one_at k.For at ∷ (word_at p.at p.text ∷ (some k.In ∷ (spell_discrete_range r ++ (some k.Loop ∷ (spelled ss ++ (spell_end k.Loop l ++ []))))))
    for_spelled at p r ss l = ap (λ ps. one_at k.For at ∷ (word_at p.at p.text ∷ (some k.In ∷ (spell_discrete_range r ++ (some k.Loop ∷ (spelled ss ++ ps)))))) (sym (append-nil (spell_end k.Loop l)))

    for_rest_rule : (at : ℕ) → Walks n 1 false 0 (λ r. one_at k.For at ∷ r) (for_rest language m inner at) spell_statement (IsStatementIn language)
    unfolding for_rest same_kind
    for_rest_rule at = w_ident (λ p. w_some k.In refl (λ _. w_then (under less (discrete_range_rule language m)) (λ r good _. w_loop (λ _. w_then each (λ ss fine le.
        w_end_of k.Loop refl refl refl le (λ l. w_pure (omega arith) (for_spelled at p r ss l) (good, fine)))))))

  module _ (n : ℕ) (inner : Parser (List Sequential)) (each : Rule n 1 inner spelled formed) where
    if_rule : Rule n 0 (if_statement language n inner) spell_statement (IsStatementIn language)
    unfolding if_statement same_kind
    if_rule = w_open k.If refl refl refl (plain_if language) (below_met _ n) (λ at. w_below n (λ m e. if_rest_rule n m e inner each at))

    case_rule : Rule n 0 (case_statement language n inner) spell_statement (IsStatementIn language)
    unfolding case_statement same_kind
    case_rule = w_open k.Case refl refl refl (plain_case language) (below_met _ n) (λ at. w_below n (λ m e. case_rest_rule n m e inner each at))

    for_rule : Rule n 0 (for_statement language n inner) spell_statement (IsStatementIn language)
    unfolding for_statement same_kind
    for_rule = w_open k.For refl refl refl (plain_for language) (below_met _ n) (λ at. w_below n (λ m e. for_rest_rule n m e inner each at))

    asserted_rule : Rule n 0 (λ ts. and_then (text_of language n k.Assert ts) (λ x us. Ok (asserted x, us))) spell_statement (IsStatementIn language)
    asserted_rule = dropped_rule language n k.Assert refl (λ x. asserted x) (λ x. refl) (λ x good. good)

    reported_rule : Rule n 0 (λ ts. and_then (text_of language n k.Report ts) (λ x us. Ok (reported x, us))) spell_statement (IsStatementIn language)
    reported_rule = dropped_rule language n k.Report refl (λ x. reported x) (λ x. refl) (λ x good. good)

    statement_next : (next : Option TokenKind) → Rule n 0 (statement_by language n inner next) spell_statement (IsStatementIn language)
    statement_next (Some k.Identifier) = assign_rule language n
    statement_next (Some k.Null) = null_rule n
    statement_next (Some k.If) = if_rule
    statement_next (Some k.Case) = case_rule
    statement_next (Some k.For) = for_rule
    statement_next (Some k.Assert) = asserted_rule
    statement_next (Some k.Report) = reported_rule
    statement_next _ = w_refuse (plain_statement language)

    statement_rule : Rule n 0 (statement_of language n inner) spell_statement (IsStatementIn language)
    unfolding statement_of
    statement_rule = w_choose statement_next

    sequential_rule : Rule n 0 (sequential language n inner) spell_sequential (λ s. IsStatementIn language s.statement)
    unfolding sequential
    sequential_rule = w_labelled (λ l ts. and_then (statement_of language n inner ts) (λ s us. Ok (record { label = l; statement = s }, us)))
        (λ l. w_last (λ s. record { label = l; statement = s }) statement_rule (λ s good. (refl, good)))
        (λ at text. ap (λ o. left_of {A = Sequential} (and_then o (λ s us. Ok (record { label = None; statement = s }, us)))) (statement_alone language n inner at text))

    with_rule : Rule n 0 (statements_with language n inner) spelled formed
    unfolding statements_with
    with_rule = w_ends spelled-each formed_each (each_rule (begins_sequential language) (sequential language n inner) (omega arith) sequential_rule refl sequential_long)

  pub deeper_rule : (n : ℕ) → Rule n 1 (deeper language n) spelled formed
  unfolding deeper
  deeper_rule zero = under_none
  deeper_rule (suc m) = under refl (with_rule m (deeper language m) (deeper_rule m))

  -- sequential statements
  pub statements_rule : (n : ℕ) → Rule n 0 (statements language n) spelled formed
  statements_rule n = with_rule n (deeper language n) (deeper_rule n)
