-- Processes and selected assignments that are spelled are read.
use Rattle.std.proofs.Common.{◌≡◌, ℕ, Bool, true, false, List, [], ◌∷◌, ◌++◌, Option, Some, None, refl, sym, subst, append_assoc, arith}
use Rattle.vhdl_lexer.specs.declared.language.Language.{Language}
use Rattle.vhdl_lexer.specs.declared.language.Language.TheVariants.{Profile, Wide}
use Rattle.vhdl_lexer.specs.declared.token.TokenKind.{TokenKind}
use Rattle.vhdl_lexer.specs.declared.token.TokenKind.TheVariants as k
use Rattle.vhdl_tree.specs.Lexeme.{same_kind}
use Rattle.vhdl_tree.specs.Tree.{Ident, Name, Variables, ProcessDeclaration, variables, process_constants, process_enumeration, process_subtype, Wait, Process, Statement, null_of, Sequential, statements_of, Sensitivity, absent, every, listed, Waveform, SelectedAssignment}
use Rattle.vhdl_tree.specs.Pieces.{Piece, some, spell_option, spell_word, spell_each, spell_list, IsEach, IsList, IsOption}
use Rattle.vhdl_tree.specs.grammar.Expressions.{spell_name, IsNameIn}
use Rattle.vhdl_tree.specs.grammar.Sequential.{spell_label, spell_statement, AreStatementsIn}
use Rattle.vhdl_tree.specs.grammar.Process.{spell_sensitivity, spell_variables, spell_process_declaration, spell_wait, spell_body, spell_process, spell_waveform, spell_selected, IsSensitivityIn, IsVariablesIn, IsProcessDeclarationIn, IsWaitIn, IsProcessIn, IsWaveformIn, IsSelectedIn}
use Rattle.vhdl_parser_expressions.specs.reader.Input.{is_kind}
use Rattle.vhdl_parser_statements.specs.reader.Process.{names, sensitivity_list, sensitivity, optional_sensitivity, variables_of, begins_process_declaration, process_declaration_by, process_declaration, process_declarations, wait_until, optional_wait, body, process}
use Rattle.vhdl_parser_statements.specs.reader.Waveforms.{waveform, waveforms, selected}
use Rattle.vhdl_parser_expressions.proofs.Gives.{Gives, Whatever, front, g_pure, g_then, g_map, g_at, g_some, g_below, g_choose, g_yes, g_no, eat_gives, option_gives, more_gives, separated_gives}
use Rattle.vhdl_parser_expressions.proofs.GiveValues.{EndsBound, EndsName, expr_gives, name_gives, value_gives, choices_gives}
use Rattle.vhdl_parser_statements.proofs.Subtypes.{objects_gives, constants_gives, enumeration_gives, subtype_declaration_gives}
use Rattle.vhdl_parser_statements.proofs.GiveSequential.{end_gives, statements_gives}
use Rattle.vhdl_parser_statements.proofs.WalkSequential.{spelled}
use Rattle.vhdl_parser_statements.specs.reader.Wide.{wide}
use Rattle.vhdl_parser_statements.proofs.WalkProcess.{declaration_long}

abbrev EndsNames : Option TokenKind → Type 0
EndsNames next = (is_kind k.Comma next ≡ false) × EndsName next

names_gives : (language : Language) (n : ℕ) (xs : List Name) → IsList (IsNameIn language) xs → Gives (names language n) xs (spell_list k.Comma spell_name xs) EndsNames
unfolding same_kind
names_gives language n xs f = separated_gives k.Comma refl (omega arith) (λ x good. name_gives language n x good) xs f

names_begin : (language : Language) (xs : List Name) → IsList (IsNameIn language) xs → (next : Option TokenKind) → is_kind k.All (front (spell_list k.Comma spell_name xs) next) ≡ false
unfolding same_kind
names_begin language [] f next = absurd f
names_begin language (x ∷ xs) f next = refl

sensitivity_gives : (language : Language) (n : ℕ) (s : Sensitivity) → IsSensitivityIn language s → Gives (optional_sensitivity language n) s (spell_sensitivity s) (λ next. is_kind k.LeftParen next ≡ false)
unfolding optional_sensitivity sensitivity sensitivity_list same_kind
sensitivity_gives language n absent f = g_no (sensitivity language n) (is_kind k.LeftParen) (λ next g. g) g_pure
sensitivity_gives language n every f = g_yes _ (is_kind k.LeftParen) (λ next _. refl)
    (g_some (λ _. g_below _ n (λ m e. g_then {F = Whatever} _ (g_yes _ (is_kind k.All) (λ next _. refl) (g_some (λ _. g_pure))) (g_some (λ _. g_pure)) (λ next _. tt))))
sensitivity_gives language n (listed xs) f = g_yes _ (is_kind k.LeftParen) (λ next _. refl)
    (g_some (λ _. g_below _ n (λ m e. g_then _ (g_no _ (is_kind k.All) (λ next _. names_begin language xs f next) (g_map (λ x. listed x) (names_gives language m xs f))) (g_some (λ _. g_pure)) (λ next _. (refl, omega arith)))))

-- ---- declarations

variables_gives : (language : Language) (n : ℕ) (d : Variables) → IsVariablesIn language d → Gives (variables_of language n) d (spell_variables d) Whatever
unfolding variables_of
variables_gives language n d f = g_map (λ o. record { names = o.names; subtype = o.subtype; default = o.default }) (objects_gives language n k.Variable (record { names = d.names; subtype = d.subtype; default = d.default }) f)

-- in the narrower language there are variables alone
declaration_gives : (language : Language) (n : ℕ) (d : ProcessDeclaration) → IsProcessDeclarationIn language d → Gives (process_declaration language n) d (spell_process_declaration d) Whatever
unfolding process_declaration wide
declaration_gives language n (variables d) f = g_choose (process_declaration_by language n) (Some k.Variable) (λ next _. refl) (g_map (λ x. variables x) (variables_gives language n d f))
declaration_gives Profile n (process_constants d) f = absurd f.0
declaration_gives Profile n (process_enumeration d) f = absurd f.0
declaration_gives Profile n (process_subtype d) f = absurd f.0
declaration_gives Wide n (process_constants d) f = g_choose (process_declaration_by Wide n) (Some k.Constant) (λ next _. refl) (g_map (λ x. process_constants x) (constants_gives Wide n d f.1))
declaration_gives Wide n (process_enumeration d) f = g_choose (process_declaration_by Wide n) (Some k.Type) (λ next _. refl) (g_map (λ x. process_enumeration x) (enumeration_gives n d f.1))
declaration_gives Wide n (process_subtype d) f = g_choose (process_declaration_by Wide n) (Some k.Subtype) (λ next _. refl) (g_map (λ x. process_subtype x) (subtype_declaration_gives Wide n d f))

declaration_begins : (language : Language) (d : ProcessDeclaration) → IsProcessDeclarationIn language d → (next : Option TokenKind) → begins_process_declaration language (front (spell_process_declaration d) next) ≡ true
declaration_begins language (variables d) f next = refl
declaration_begins Profile (process_constants d) f next = absurd f.0
declaration_begins Profile (process_enumeration d) f next = absurd f.0
declaration_begins Profile (process_subtype d) f next = absurd f.0
declaration_begins Wide (process_constants d) f next = refl
declaration_begins Wide (process_enumeration d) f next = refl
declaration_begins Wide (process_subtype d) f next = refl

declarations_gives : (language : Language) (n : ℕ) (ds : List ProcessDeclaration) → IsEach (IsProcessDeclarationIn language) ds →
    Gives (process_declarations language n) ds (spell_each spell_process_declaration ds) (λ next. (begins_process_declaration language next ≡ false) × Whatever next)
declarations_gives language n ds f = more_gives (begins_process_declaration language) (declaration_gives language n) (declaration_begins language) declaration_long (λ next e. tt) ds f []

-- what follows the word `is`, or would
after_word : (ds : List ProcessDeclaration) (p : Process) (next : Option TokenKind) → is_kind k.Is (front (spell_each spell_process_declaration ds ++ spell_body p) next) ≡ false
unfolding same_kind
after_word [] p next = refl
after_word (variables d ∷ ds) p next = refl
after_word (d ∷ ds) p next = refl

after_sensitivity : (w : Bool) (ds : List ProcessDeclaration) (p : Process) (next : Option TokenKind) → is_kind k.LeftParen (front (spell_word k.Is w ++ (spell_each spell_process_declaration ds ++ spell_body p)) next) ≡ false
unfolding same_kind
after_sensitivity true ds p next = refl
after_sensitivity false [] p next = refl
after_sensitivity false (variables d ∷ ds) p next = refl
after_sensitivity false (d ∷ ds) p next = refl

-- ---- a wait, and what follows it

wait_gives : (n : ℕ) (w : Wait) → IsWaitIn Wide w → Gives (wait_until n) w (spell_wait w) Whatever
unfolding wait_until
wait_gives n w f = g_at _ (g_some (λ _. g_then _ (expr_gives Wide n w.condition f.1) (g_some (λ _. g_pure)) (λ next _. omega arith)))

optional_wait_gives : (language : Language) (n : ℕ) (o : Option Wait) → IsOption (IsWaitIn language) o → Gives (optional_wait language n) o (spell_option spell_wait o) (λ next. (is_kind k.Wait next ≡ false) × Whatever next)
unfolding same_kind
optional_wait_gives Profile n None f = g_pure
optional_wait_gives Profile n (Some w) f = absurd f.0
optional_wait_gives Wide n o f = option_gives (is_kind k.Wait) (wait_gives n) (λ w good next. refl) o f

-- no statement begins with `wait`, nor does an end
after_label : (l : Option Ident) (s : Statement) (ps : List Piece) (next : Option TokenKind) → is_kind k.Wait (front ((spell_option spell_label l ++ spell_statement s) ++ ps) next) ≡ false
unfolding same_kind
after_label (Some i) s ps next = refl
after_label None (null_of at) ps next = refl
after_label None _ ps next = refl

after_wait : (ss : List Sequential) (ps : List Piece) (next : Option TokenKind) → is_kind k.Wait (front (spelled ss ++ (some k.End ∷ ps)) next) ≡ false
unfolding same_kind
after_wait [] ps next = refl
after_wait (s ∷ ss) ps next = by (spelled ss)
  where
    by : (qs : List Piece) → is_kind k.Wait (front (((spell_option spell_label s.label ++ spell_statement s.statement) ++ qs) ++ (some k.End ∷ ps)) next) ≡ false
    by qs = subst (λ x. is_kind k.Wait (front x next) ≡ false) (sym (append_assoc (spell_option spell_label s.label ++ spell_statement s.statement) qs (some k.End ∷ ps)))
        (after_label s.label s.statement (qs ++ (some k.End ∷ ps)) next)

body_gives : (language : Language) (n : ℕ) (p : Process) → IsOption (IsWaitIn language) p.wait → AreStatementsIn language (statements_of p.statements) →
    Gives (body language n) (record { wait = p.wait; statements = p.statements; end_label = p.end_label }) (spell_body p) Whatever
unfolding body
body_gives language n p good f = g_some (λ _.
    g_then _ (optional_wait_gives language n p.wait good)
    (g_then _ (statements_gives language n p.statements f) (g_map (λ l. record { wait = p.wait; statements = p.statements; end_label = l }) (end_gives k.Process p.end_label)) (λ next _. refl))
    (λ next _. (after_wait p.statements _ next, tt)))

pub process_gives : (language : Language) (n : ℕ) (p : Process) → IsProcessIn language p → Gives (process language n) p (spell_process p) Whatever
unfolding process same_kind
process_gives language n p f =
    g_at _ (g_then _ (sensitivity_gives language n p.sensitivity f.0)
    (g_then _ (eat_gives k.Is p.is_word refl)
    (g_then _ (declarations_gives language n p.declarations f.1)
    (g_map (λ b. record { at = p.at; sensitivity = p.sensitivity; is_word = p.is_word; declarations = p.declarations; wait = b.wait; statements = b.statements; end_label = b.end_label }) (body_gives language n p f.2 f.3))
    (λ next _. (refl, tt)))
    (λ next _. after_word p.declarations p next))
    (λ next _. after_sensitivity p.is_word p.declarations p next))

waveform_gives : (language : Language) (n : ℕ) (w : Waveform) → IsWaveformIn language w → Gives (waveform language n) w (spell_waveform w) (λ next. (is_kind k.Bar next ≡ false) × EndsBound next)
unfolding waveform
waveform_gives language n w f = g_then _ (value_gives language n w.value f.0) (g_some (λ _. g_map (λ cs. record { value = w.value; choices = cs }) (choices_gives language n w.choices f.1))) (λ next _. omega arith)

waveforms_gives : (language : Language) (n : ℕ) (ws : List Waveform) → IsList (IsWaveformIn language) ws → Gives (waveforms language n) ws (spell_list k.Comma spell_waveform ws) (λ next. (is_kind k.Comma next ≡ false) × ((is_kind k.Bar next ≡ false) × EndsBound next))
unfolding same_kind
waveforms_gives language n ws f = separated_gives k.Comma refl (refl, (omega arith, refl)) (λ w good. waveform_gives language n w good) ws f

pub selected_gives : (language : Language) (n : ℕ) (s : SelectedAssignment) → IsSelectedIn language s → Gives (selected language n) s (spell_selected s) Whatever
unfolding selected same_kind
selected_gives language n s f =
    g_at _ (g_then _ (expr_gives language n s.selector f.0)
    (g_some (λ _. g_then _ (name_gives language n s.target f.1)
    (g_some (λ _. g_then _ (waveforms_gives language n s.waveforms f.2) (g_some (λ _. g_pure)) (λ next _. (refl, (refl, (omega arith, refl))))))
    (λ next _. omega arith)))
    (λ next _. omega arith))
