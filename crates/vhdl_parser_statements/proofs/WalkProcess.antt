-- What the readers of processes and selected assignments make.
use Rattle.std.proofs.Common.{◌≡◌, ℕ, ◌≤◌, Option, Some, None, length, List, [], ◌∷◌, ◌++◌, refl, sym, ap, append-nil, arith}
use Rattle.vhdl_lexer.specs.declared.language.Language.{Language}
use Rattle.vhdl_lexer.specs.declared.language.Language.TheVariants.{Profile, Wide}
use Rattle.vhdl_lexer.specs.declared.token.TokenKind.{TokenKind}
use Rattle.vhdl_lexer.specs.declared.token.TokenKind.TheVariants as k
use Rattle.vhdl_tree.specs.Tree.{Variables, ProcessDeclaration, variables, process_constants, process_enumeration, process_subtype, Sensitivity, absent, every, listed}
use Rattle.vhdl_tree.specs.Pieces.{Piece, some, spell_option, spell_each, spell_list, IsEach, IsList, IsOption}
use Rattle.vhdl_tree.specs.grammar.Expressions.{spell_name, IsNameIn}
use Rattle.vhdl_tree.specs.grammar.Sequential.{spell_end}
use Rattle.vhdl_tree.specs.grammar.Process.{spell_sensitivity, spell_variables, spell_process_declaration, spell_wait, spell_process, spell_waveform, spell_selected, IsSensitivityIn, IsVariablesIn, IsProcessDeclarationIn, IsWaitIn, IsProcessIn, IsWaveformIn, IsSelectedIn}
use Rattle.vhdl_parser_expressions.specs.reader.Input.{is_kind}
use Rattle.vhdl_parser_statements.specs.reader.Process.{names, sensitivity_list, sensitivity, optional_sensitivity, variables_of, begins_process_declaration, process_declaration_by, process_declaration, process_declarations, wait_until, optional_wait, Body, body, process}
use Rattle.vhdl_parser_statements.specs.reader.Subtypes.{subtype_declaration}
use Rattle.vhdl_parser_statements.specs.reader.Wide.{wide}
use Rattle.vhdl_parser_expressions.proofs.Halts.{Example}
use Rattle.vhdl_parser_statements.proofs.Plain.{an_ident}
use Rattle.vhdl_parser_statements.specs.reader.Waveforms.{waveform, waveforms, selected}
use Rattle.vhdl_parser_expressions.proofs.Walks.{Rule, afresh, w_pure, w_then, w_last}
use Rattle.vhdl_parser_expressions.proofs.Rules.{w_at, w_some, w_left, w_right, word_rule, w_test, w_choose, w_refuse, w_below, below_met, under, option_rule}
use Rattle.vhdl_parser_expressions.proofs.Repeats.{separated_rule, each_rule}
use Rattle.vhdl_parser_expressions.proofs.WalkExpressions.{expr_rule, a_name_rule}
use Rattle.vhdl_parser_expressions.proofs.WalkValues.{value_rule, choices_rule}
use Rattle.vhdl_parser_statements.proofs.Subtypes.{objects_rule, constants_rule, enumeration_rule, subtype_declaration_rule}
use Rattle.vhdl_parser_statements.proofs.WalkSequential.{spelled, formed, w_end_neutral, statements_rule}

names_rule : (language : Language) (n : ℕ) → Rule n 0 (names language n) (spell_list k.Comma spell_name) (IsList (IsNameIn language))
names_rule language n = separated_rule k.Comma refl (omega arith) (a_name_rule language n)

-- what stands between the parentheses of a sensitivity list
abbrev spell_inner : Sensitivity → List Piece
spell_inner absent = []
spell_inner every = some k.All ∷ []
spell_inner (listed names) = spell_list k.Comma spell_name names

abbrev IsInnerIn : Language → Sensitivity → Type 0
IsInnerIn language absent = ⊥
IsInnerIn language every = Unit {0}
IsInnerIn language (listed names) = IsList (IsNameIn language) names

inner_rule : (language : Language) (m : ℕ) → Rule m 0 (sensitivity_list language m) spell_inner (IsInnerIn language)
unfolding sensitivity_list
inner_rule language m = w_test (is_kind k.All) (w_some k.All refl (λ _. w_pure (omega arith) refl tt)) (w_last (λ x. listed x) (names_rule language m) (λ x good. (refl, good)))

inner_spelled : (language : Language) (s : Sensitivity) → IsInnerIn language s → spell_sensitivity s ≡ some k.LeftParen ∷ (spell_inner s ++ (some k.RightParen ∷ []))
inner_spelled language absent f = absurd f
inner_spelled language _ f = refl

inner_formed : (language : Language) (s : Sensitivity) → IsInnerIn language s → IsSensitivityIn language s
inner_formed language absent f = absurd f
inner_formed language every f = tt
inner_formed language (listed xs) f = f

sensitivity_rule : (language : Language) (n : ℕ) → Rule n 0 (optional_sensitivity language n) spell_sensitivity (IsSensitivityIn language)
unfolding optional_sensitivity sensitivity
sensitivity_rule language n = w_test (is_kind k.LeftParen)
    (w_left (record { tree = every; more = some k.All ∷ (some k.RightParen ∷ []); is = refl; formed = tt }) (below_met _ n) (λ _. w_below n (λ m e. w_then (under e (inner_rule language m)) (λ s good le. w_right le (λ _. w_pure (omega arith) (inner_spelled language s good) (inner_formed language s good))))))
    (w_pure (omega arith) refl tt)

-- ---- declarations

variables_rule : (language : Language) (n : ℕ) → Rule n 0 (variables_of language n) spell_variables (IsVariablesIn language)
unfolding variables_of
variables_rule language n = w_last (λ o. record { names = o.names; subtype = o.subtype; default = o.default }) (objects_rule language n k.Variable refl) (λ o good. (refl, good))

-- variable id : id ;
plain_declaration : (language : Language) → Example afresh spell_process_declaration (IsProcessDeclarationIn language)
plain_declaration language =
    let d : Variables = record { names = an_ident ∷ []; subtype = record { mark = an_ident; constraint = None }; default = None } in
    record { tree = variables d; more = spell_variables d; is = refl; formed = ((tt, tt), tt, tt) }

-- in the narrower language there are variables alone
declaration_rule : (language : Language) (n : ℕ) → Rule n 0 (process_declaration language n) spell_process_declaration (IsProcessDeclarationIn language)
unfolding process_declaration wide subtype_declaration
declaration_rule language n = w_choose (λ next. by_next language next)
  where
    by_next : (l : Language) (next : Option TokenKind) → Rule n 0 (process_declaration_by l n next) spell_process_declaration (IsProcessDeclarationIn l)
    by_next l (Some k.Variable) = w_last variables (variables_rule l n) (λ d good. (refl, good))
    by_next Profile (Some k.Constant) = w_refuse (plain_declaration Profile)
    by_next Profile (Some k.Type) = w_refuse (plain_declaration Profile)
    by_next Profile (Some k.Subtype) = w_refuse (plain_declaration Profile)
    by_next Wide (Some k.Constant) = w_last process_constants (constants_rule Wide n) (λ d good. (refl, (tt, good)))
    by_next Wide (Some k.Type) = w_last process_enumeration (enumeration_rule n) (λ d good. (refl, (tt, good)))
    by_next Wide (Some k.Subtype) = w_last process_subtype (subtype_declaration_rule n) (λ d good. (refl, good))
    by_next l _ = w_refuse (plain_declaration l)

pub declaration_long : (d : ProcessDeclaration) → 1 ≤ length (spell_process_declaration d)
declaration_long (variables d) = omega arith
declaration_long _ = omega arith

declarations_rule : (language : Language) (n : ℕ) → Rule n 0 (process_declarations language n) (spell_each spell_process_declaration) (IsEach (IsProcessDeclarationIn language))
declarations_rule language n = each_rule (begins_process_declaration language) (process_declaration language n) (omega arith) (declaration_rule language n) refl declaration_long

-- wait until expr ;
wait_rule : (n : ℕ) → Rule n 0 (wait_until n) spell_wait (IsWaitIn Wide)
unfolding wait_until
wait_rule n = w_at k.Wait refl (λ at. w_some k.Until refl (λ _. w_then (expr_rule Wide n) (λ e good _. w_some k.Semicolon refl (λ _. w_pure (omega arith) refl (tt, good)))))

optional_wait_rule : (language : Language) (n : ℕ) → Rule n 0 (optional_wait language n) (spell_option spell_wait) (IsOption (IsWaitIn language))
optional_wait_rule Profile n = w_pure (omega arith) refl tt
optional_wait_rule Wide n = option_rule (is_kind k.Wait) (omega arith) (wait_rule n)

-- begin [ wait until expr ; ] { seq } end process [ id ] ;
abbrev spell_tail : Body → List Piece
spell_tail b = some k.Begin ∷ (spell_option spell_wait b.wait ++ (spelled b.statements ++ spell_end k.Process b.end_label))

abbrev IsBodyIn : Language → Body → Type 0
IsBodyIn language b = IsOption (IsWaitIn language) b.wait × formed language b.statements

body_rule : (language : Language) (n : ℕ) → Rule n 0 (body language n) spell_tail (IsBodyIn language)
unfolding body
body_rule language n = w_some k.Begin refl (λ _. w_then (optional_wait_rule language n) (λ w good _. w_then (statements_rule language n) (λ ss fine _. w_end_neutral k.Process refl (λ l.
    w_pure (omega arith) (ap (λ ps. some k.Begin ∷ (spell_option spell_wait w ++ (spelled ss ++ ps))) (sym (append-nil (spell_end k.Process l)))) (good, fine)))))

pub process_rule : (language : Language) (n : ℕ) → Rule n 0 (process language n) spell_process (IsProcessIn language)
unfolding process
process_rule language n = w_at k.Process refl (λ at. w_then (sensitivity_rule language n) (λ s good _. w_then (word_rule k.Is refl (omega arith)) (λ w _ _.
    w_then (declarations_rule language n) (λ ds known _.
    w_last (λ b. record { at = at; sensitivity = s; is_word = w; declarations = ds; wait = b.wait; statements = b.statements; end_label = b.end_label }) (body_rule language n) (λ b fine. (refl, (good, known, fine.0, fine.1)))))))

waveform_rule : (language : Language) (n : ℕ) → Rule n 0 (waveform language n) spell_waveform (IsWaveformIn language)
unfolding waveform
waveform_rule language n = w_then (value_rule language n) (λ v good _. w_some k.When refl (λ _. w_last (λ cs. record { value = v; choices = cs }) (choices_rule language n) (λ cs fine. (refl, (good, fine)))))

waveforms_rule : (language : Language) (n : ℕ) → Rule n 0 (waveforms language n) (spell_list k.Comma spell_waveform) (IsList (IsWaveformIn language))
waveforms_rule language n = separated_rule k.Comma refl (omega arith) (waveform_rule language n)

pub selected_rule : (language : Language) (n : ℕ) → Rule n 0 (selected language n) spell_selected (IsSelectedIn language)
unfolding selected
selected_rule language n = w_at k.With refl (λ at. w_then (expr_rule language n) (λ e good _. w_some k.Select refl (λ _. w_then (a_name_rule language n) (λ t fine _. w_some k.LessEqual refl (λ _.
    w_then (waveforms_rule language n) (λ ws all _. w_some k.Semicolon refl (λ _. w_pure (omega arith) refl (good, fine, all))))))))
