-- Sequential statements (IEEE 1076-2008, 10): how they are spelled, and which are well formed.
use Rattle.std.specs.Prelude.{Bool, true, false, Option, List, [], ◌∷◌, ◌++◌}
use Rattle.vhdl_lexer.specs.declared.language.Language.{Language}
use Rattle.vhdl_lexer.specs.declared.token.TokenKind.{TokenKind}
use Rattle.vhdl_lexer.specs.declared.token.TokenKind.TheVariants as k
use Rattle.vhdl_tree.specs.Tree.{Ident, Statement, null_of, assigned, variable_assigned, assigned_when, if_of, case_of, for_of, asserted, reported, Statements, done, step, Conditionals, no_conditionals, guarded, Otherwise, no_else, else_do, Alternatives, no_alternatives, alternative, Sequential}
use Rattle.vhdl_tree.specs.Pieces.{Piece, some, one_at, word_at, spell_ident, spell_option}
use Rattle.vhdl_tree.specs.grammar.Expressions.{spell, spell_name, spell_value, spell_discrete_range, spell_choices, IsExprIn, IsNameIn, IsValueIn, IsDiscreteRangeIn, AreChoicesIn}
use Rattle.vhdl_tree.specs.grammar.Waveforms.{spell_waveforms, AreConditionalIn}
use Rattle.vhdl_tree.specs.grammar.Texts.{spell_text, IsTextIn}
use Rattle.vhdl_tree.specs.grammar.Wide.{IsWide}

-- id :
abbrev pub spell_label : Ident → List Piece
spell_label n = word_at n.at n.text ∷ (some k.Colon ∷ [])

-- end if | end case | end loop, [ id ] ;
abbrev pub spell_end : TokenKind → Option Ident → List Piece
spell_end word label = some k.End ∷ (some word ∷ (spell_option spell_ident label ++ some k.Semicolon ∷ []))

-- <= | :=
abbrev pub assign_kind : Bool → TokenKind
assign_kind false = k.LessEqual
assign_kind true = k.Assign

abbrev mutual
  pub spell_statement : Statement → List Piece
  -- seq = null ;
  spell_statement (null_of at) = one_at k.Null at ∷ (some k.Semicolon ∷ [])
  -- seq = name <= value ;
  spell_statement (assigned target value) =
      spell_name target ++ (some k.LessEqual ∷ (spell_value value ++ some k.Semicolon ∷ []))
  -- seq = name := value ;
  spell_statement (variable_assigned target value) =
      spell_name target ++ (some k.Assign ∷ (spell_value value ++ some k.Semicolon ∷ []))
  -- seq = name ( <= | := ) value when expr { else value when expr } [ else value ] ;
  spell_statement (assigned_when is_variable target branches otherwise) =
      spell_name target ++ (some (assign_kind is_variable) ∷
      (spell_waveforms branches otherwise ++ some k.Semicolon ∷ []))
  -- if = if expr then { seq } { elsif expr then { seq } } [ else { seq } ] end if [ id ] ;
  spell_statement (if_of at branches otherwise label) =
      one_at k.If at ∷ (spell_conditionals branches ++ (spell_else otherwise ++ spell_end k.If label))
  -- case = case expr is alt { alt } end case [ id ] ;
  spell_statement (case_of at selector alternatives label) =
      one_at k.Case at ∷ (spell selector ++ (some k.Is ∷ (spell_alternatives alternatives ++ spell_end k.Case label)))
  -- for = for id in range loop { seq } end loop [ id ] ;
  spell_statement (for_of at parameter range statements label) =
      one_at k.For at ∷ (word_at parameter.at parameter.text ∷ (some k.In ∷ (spell_discrete_range range ++
      (some k.Loop ∷ (spell_statements statements ++ spell_end k.Loop label)))))
  -- seq = assert text ; | report text ;
  spell_statement (asserted text) = spell_text k.Assert text
  spell_statement (reported text) = spell_text k.Report text

  -- seq = [ id : ] ..
  pub spell_statements : Statements → List Piece
  spell_statements done = []
  spell_statements (step label s more) = (spell_option spell_label label ++ spell_statement s) ++ spell_statements more

  -- expr then { seq } { elsif expr then { seq } }
  pub spell_conditionals : Conditionals → List Piece
  spell_conditionals no_conditionals = []
  spell_conditionals (guarded condition statements more) =
      (spell condition ++ (some k.Then ∷ spell_statements statements)) ++ spell_elsifs more

  -- { elsif expr then { seq } }
  pub spell_elsifs : Conditionals → List Piece
  spell_elsifs no_conditionals = []
  spell_elsifs (guarded condition statements more) =
      (some k.Elsif ∷ (spell condition ++ (some k.Then ∷ spell_statements statements))) ++ spell_elsifs more

  -- [ else { seq } ]
  pub spell_else : Otherwise → List Piece
  spell_else no_else = []
  spell_else (else_do statements) = some k.Else ∷ spell_statements statements

  -- { alt }, alt = when choices => { seq }
  pub spell_alternatives : Alternatives → List Piece
  spell_alternatives no_alternatives = []
  spell_alternatives (alternative choices statements more) =
      (some k.When ∷ (spell_choices choices ++ (some k.Arrow ∷ spell_statements statements))) ++ spell_alternatives more

abbrev pub spell_sequential : Sequential → List Piece
spell_sequential s = spell_option spell_label s.label ++ spell_statement s.statement

module _ (language : Language) where
  abbrev mutual
    pub IsStatementIn : Statement → Type 0
    IsStatementIn (null_of at) = Unit {0}
    IsStatementIn (assigned target value) = IsNameIn language target × IsValueIn language value
    IsStatementIn (variable_assigned target value) = IsNameIn language target × IsValueIn language value
    IsStatementIn (assigned_when is_variable target branches otherwise) =
        IsWide language × IsNameIn language target × AreConditionalIn language branches otherwise
    IsStatementIn (if_of at branches otherwise label) = AreBranchesIn branches × IsElseIn otherwise
    IsStatementIn (case_of at selector alternatives label) = IsExprIn language selector × AreCasesIn alternatives
    IsStatementIn (for_of at parameter range statements label) =
        IsDiscreteRangeIn language range × AreStatementsIn statements
    IsStatementIn (asserted text) = IsTextIn language text
    IsStatementIn (reported text) = IsTextIn language text

    pub AreStatementsIn : Statements → Type 0
    AreStatementsIn done = Unit {0}
    AreStatementsIn (step label s more) = IsStatementIn s × AreStatementsIn more

    -- there is at least one
    pub AreBranchesIn : Conditionals → Type 0
    AreBranchesIn no_conditionals = ⊥
    AreBranchesIn (guarded condition statements more) =
        IsExprIn language condition × AreStatementsIn statements × AreElsifsIn more

    pub AreElsifsIn : Conditionals → Type 0
    AreElsifsIn no_conditionals = Unit {0}
    AreElsifsIn (guarded condition statements more) =
        IsExprIn language condition × AreStatementsIn statements × AreElsifsIn more

    pub IsElseIn : Otherwise → Type 0
    IsElseIn no_else = Unit {0}
    IsElseIn (else_do statements) = AreStatementsIn statements

    -- there is at least one
    pub AreCasesIn : Alternatives → Type 0
    AreCasesIn no_alternatives = ⊥
    AreCasesIn (alternative choices statements more) =
        AreChoicesIn language choices × AreStatementsIn statements × AreAlternativesIn more

    pub AreAlternativesIn : Alternatives → Type 0
    AreAlternativesIn no_alternatives = Unit {0}
    AreAlternativesIn (alternative choices statements more) =
        AreChoicesIn language choices × AreStatementsIn statements × AreAlternativesIn more
