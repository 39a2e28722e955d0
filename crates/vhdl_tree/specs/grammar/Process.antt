-- Processes and selected assignments (IEEE 1076-2008, 11.3, 10.2, 11.6): how they are spelled, and which are well
-- formed.
use Rattle.std.specs.Prelude.{List, [], ◌∷◌, ◌++◌}
use Rattle.vhdl_lexer.specs.declared.language.Language.{Language}
use Rattle.vhdl_lexer.specs.declared.token.TokenKind.TheVariants as k
use Rattle.vhdl_tree.specs.Tree.{Variables, ProcessDeclaration, variables, process_constants, process_enumeration, process_subtype, Wait, Process, Sensitivity, absent, every, listed, Waveform, SelectedAssignment, statements_of}
use Rattle.vhdl_tree.specs.Pieces.{Piece, some, one_at, spell_idents, spell_word, spell_option, spell_each, spell_list, IsAny, IsEach, IsList, IsOption}
use Rattle.vhdl_tree.specs.grammar.Expressions.{spell, spell_name, spell_value, spell_choices, IsExprIn, IsNameIn, IsValueIn, AreChoicesIn}
use Rattle.vhdl_tree.specs.grammar.Subtypes.{spell_subtype, spell_default, spell_subtype_declaration, spell_constants, spell_enumeration, IsSubtypeIn, IsSubtypeDeclarationIn, IsConstantsIn, IsEnumeration}
use Rattle.vhdl_tree.specs.grammar.Sequential.{spell_statements, spell_end, AreStatementsIn}
use Rattle.vhdl_tree.specs.grammar.Wide.{IsWide}

-- [ ( all ) | ( name { , name } ) ]
abbrev pub spell_sensitivity : Sensitivity → List Piece
spell_sensitivity absent = []
spell_sensitivity every = some k.LeftParen ∷ (some k.All ∷ (some k.RightParen ∷ []))
spell_sensitivity (listed names) = some k.LeftParen ∷ (spell_list k.Comma spell_name names ++ some k.RightParen ∷ [])

-- variable ids : subtype [ := value ] ;
abbrev pub spell_variables : Variables → List Piece
spell_variables d =
    some k.Variable ∷ (spell_idents d.names
    ++ (some k.Colon ∷ (spell_subtype d.subtype ++ (spell_option spell_default d.default ++ some k.Semicolon ∷ []))))

-- vdecl = variable .. | constant .. | type .. | subtype id is subtype ;
abbrev pub spell_process_declaration : ProcessDeclaration → List Piece
spell_process_declaration (variables d) = spell_variables d
spell_process_declaration (process_constants d) = spell_constants d
spell_process_declaration (process_enumeration d) = spell_enumeration d
spell_process_declaration (process_subtype d) = spell_subtype_declaration d

-- wait until expr ;
abbrev pub spell_wait : Wait → List Piece
spell_wait w = one_at k.Wait w.at ∷ (some k.Until ∷ (spell w.condition ++ some k.Semicolon ∷ []))

-- begin [ wait until expr ; ] { seq } end process [ id ] ;
abbrev pub spell_body : Process → List Piece
spell_body p =
    some k.Begin ∷ (spell_option spell_wait p.wait
    ++ (spell_statements (statements_of p.statements) ++ spell_end k.Process p.end_label))

-- process = process [ .. ] [ is ] { vdecl } begin [ wait until expr ; ] { seq } end process [ id ] ;
abbrev pub spell_process : Process → List Piece
spell_process p =
    one_at k.Process p.at ∷ (spell_sensitivity p.sensitivity
    ++ (spell_word k.Is p.is_word ++ (spell_each spell_process_declaration p.declarations ++ spell_body p)))

module _ (language : Language) where
  abbrev pub IsSensitivityIn : Sensitivity → Type 0
  IsSensitivityIn absent = Unit {0}
  IsSensitivityIn every = Unit {0}
  IsSensitivityIn (listed names) = IsList (IsNameIn language) names

  abbrev pub IsVariablesIn : Variables → Type 0
  IsVariablesIn d =
      IsList IsAny d.names × IsSubtypeIn language d.subtype × IsOption (IsValueIn language) d.default

  -- a process declares nothing but variables in the narrower language
  abbrev pub IsProcessDeclarationIn : ProcessDeclaration → Type 0
  IsProcessDeclarationIn (variables d) = IsVariablesIn d
  IsProcessDeclarationIn (process_constants d) = IsWide language × IsConstantsIn language d
  IsProcessDeclarationIn (process_enumeration d) = IsWide language × IsEnumeration d
  IsProcessDeclarationIn (process_subtype d) = IsSubtypeDeclarationIn language d

  -- a process waits in the wider language alone
  abbrev pub IsWaitIn : Wait → Type 0
  IsWaitIn w = IsWide language × IsExprIn language w.condition

  abbrev pub IsProcessIn : Process → Type 0
  IsProcessIn p =
      IsSensitivityIn p.sensitivity × IsEach IsProcessDeclarationIn p.declarations × IsOption IsWaitIn p.wait
      × AreStatementsIn language (statements_of p.statements)

-- value when choices
abbrev pub spell_waveform : Waveform → List Piece
spell_waveform w = spell_value w.value ++ (some k.When ∷ spell_choices w.choices)

-- select = with expr select name <= value when choices { , value when choices } ;
abbrev pub spell_selected : SelectedAssignment → List Piece
spell_selected s =
    one_at k.With s.at ∷ (spell s.selector ++ (some k.Select ∷ (spell_name s.target ++ (some k.LessEqual ∷
    (spell_list k.Comma spell_waveform s.waveforms ++ some k.Semicolon ∷ [])))))

module _ (language : Language) where
  abbrev pub IsWaveformIn : Waveform → Type 0
  IsWaveformIn w = IsValueIn language w.value × AreChoicesIn language w.choices

  abbrev pub IsSelectedIn : SelectedAssignment → Type 0
  IsSelectedIn s = IsExprIn language s.selector × IsNameIn language s.target × IsList IsWaveformIn s.waveforms
