-- Conditional assignments: what is read is spelled so, and what is spelled is read.
use Rattle.std.proofs.Common.{◌≡◌, ℕ, zero, suc, ◌+◌, ◌≤◌, false, List, [], ◌∷◌, ◌++◌, length, Ok, Option, Some, None, refl, sym, ap, ◌∙◌, subst, append_assoc, append-nil, length-append, arith}
use Rattle.vhdl_lexer.specs.declared.language.Language.{Language}
use Rattle.vhdl_lexer.specs.declared.token.TokenKind.{TokenKind}
use Rattle.vhdl_lexer.specs.declared.token.TokenKind.TheVariants as k
use Rattle.vhdl_tree.specs.Lexeme.{Lexeme, same_kind}
use Rattle.vhdl_tree.specs.Tree.{Expr, Value, Branch}
use Rattle.vhdl_tree.specs.Pieces.{Piece, some, spell_each, spell_option, IsEach, IsOption}
use Rattle.vhdl_tree.specs.grammar.Expressions.{spell, spell_value, IsExprIn, IsValueIn}
use Rattle.vhdl_tree.specs.grammar.Waveforms.{spell_branch, spell_otherwise, spell_waveforms, IsBranchIn, AreWaveformsIn}
use Rattle.vhdl_parser_expressions.specs.reader.Input.{next_kind, is_kind}
use Rattle.vhdl_parser_statements.specs.reader.Waveforms.{Waveforms, condition, Part, part, else_part, go_on, more_branches_from, more_branches, conditional_waveforms}
use Rattle.vhdl_parser_expressions.proofs.Steps.{spells_length}
use Rattle.vhdl_parser_expressions.proofs.Walks.{Rule, Walks, w_pure, w_then, w_last, w_rule, w_before}
use Rattle.vhdl_parser_expressions.proofs.Rules.{w_some, w_test, option_rule}
use Rattle.vhdl_parser_expressions.proofs.Gives.{Gives, front, g_pure, g_then, g_map, g_some, g_yes, g_no, option_gives}
use Rattle.vhdl_parser_expressions.proofs.WalkExpressions.{expr_rule}
use Rattle.vhdl_parser_expressions.proofs.WalkValues.{value_rule}
use Rattle.vhdl_parser_statements.proofs.Branched.{steady_more_branches}
use Rattle.vhdl_parser_expressions.proofs.GiveValues.{Ends, expr_gives, value_gives}

abbrev pub spell_whole : Waveforms → List Piece
spell_whole w = spell_waveforms w.branches w.otherwise

abbrev pub IsWholeIn : Language → Waveforms → Type 0
IsWholeIn language w = AreWaveformsIn language w.branches w.otherwise

-- ---- what is read is spelled so

abbrev spell_when : Expr → List Piece
spell_when c = some k.When ∷ spell c

abbrev spell_part : Part → List Piece
spell_part p = spell_value p.value ++ spell_option spell_when p.condition

abbrev IsPartIn : Language → Part → Type 0
IsPartIn language p = IsValueIn language p.value × IsOption (IsExprIn language) p.condition

condition_rule : (language : Language) (n : ℕ) → Rule n 0 (condition language n) spell_when (IsExprIn language)
unfolding condition
condition_rule language n = w_some k.When refl (λ _. w_rule (λ c. refl) (expr_rule language n))

part_rule : (language : Language) (n : ℕ) → Rule n 0 (part language n) spell_part (IsPartIn language)
unfolding part
part_rule language n = w_then (value_rule language n) (λ v held _. w_last (λ c. record { value = v; condition = c }) (option_rule (is_kind k.When) (omega arith) (condition_rule language n)) (λ c good. (refl, (held, good))))

else_part_rule : (language : Language) (n : ℕ) → Rule n 0 (else_part language n) (λ p. some k.Else ∷ spell_part p) (IsPartIn language)
unfolding else_part
else_part_rule language n = w_some k.Else refl (λ _. w_rule (λ p. refl) (part_rule language n))

abbrev spell_else : Branch → List Piece
spell_else b = some k.Else ∷ spell_branch b

-- branches that were read
abbrev spell_found : Branch → List Branch → List Piece
spell_found b more = spell_branch b ++ spell_each spell_else more

else_none : (more : List Branch) → spell_otherwise more None ≡ spell_each spell_else more
else_none [] = refl
else_none (b ∷ more) = ap (λ ps. some k.Else ∷ (spell_branch b ++ ps)) (else_none more)

else_some : (more : List Branch) (v : Value) → spell_otherwise more (Some v) ≡ spell_each spell_else more ++ (some k.Else ∷ spell_value v)
else_some [] v = refl
else_some (b ∷ more) v = ap (λ ps. some k.Else ∷ (spell_branch b ++ ps)) (else_some more v) ∙ ap (λ ps. some k.Else ∷ ps) (sym (append_assoc (spell_branch b) (spell_each spell_else more) (some k.Else ∷ spell_value v)))

each_more : (more : List Branch) (b : Branch) → spell_each spell_else (more ++ b ∷ []) ≡ spell_each spell_else more ++ spell_else b
each_more [] b = append-nil (spell_else b)
each_more (x ∷ more) b = ap (λ ps. spell_else x ++ ps) (each_more more b) ∙ sym (append_assoc (spell_else x) (spell_each spell_else more) (spell_else b))

each_good : (language : Language) (more : List Branch) (b : Branch) → IsEach (IsBranchIn language) more → IsBranchIn language b → IsEach (IsBranchIn language) (more ++ b ∷ [])
each_good language [] b good fine = (fine, tt)
each_good language (x ∷ more) b good fine = (good.0, each_good language more b good.1 fine)

module _ (language : Language) (n : ℕ) where
  -- behind branches, of which there is one at least
  abbrev From : ℕ → Type 0
  From turns = (first : Branch) (more : List Branch) → IsBranchIn language first → IsEach (IsBranchIn language) more →
      Walks n 0 false 0 (λ r. spell_found first more ++ r) (more_branches_from language n turns (first ∷ more)) spell_whole (IsWholeIn language)

  stops : (first : Branch) (more : List Branch) → IsBranchIn language first → IsEach (IsBranchIn language) more →
      Walks n 0 false 0 (λ r. spell_found first more ++ r) (λ ts. Ok (record { branches = first ∷ more; otherwise = None }, ts)) spell_whole (IsWholeIn language)
  stops first more good fine = w_pure (omega arith) (ap (λ ps. spell_branch first ++ ps) (else_none more) ∙ sym (append-nil (spell_found first more))) (good, fine, tt)

  found_more : (first : Branch) (more : List Branch) (b : Branch) (r : List Piece) → spell_found first (more ++ b ∷ []) ++ r ≡ spell_found first more ++ (spell_else b ++ r)
  found_more first more b r =
      ap (λ ps. (spell_branch first ++ ps) ++ r) (each_more more b)
      ∙ ap (λ ps. ps ++ r) (sym (append_assoc (spell_branch first) (spell_each spell_else more) (spell_else b)))
      ∙ append_assoc (spell_found first more) (spell_else b) r

  -- by the part behind `else`
  by_part : (turns : ℕ) → From turns → (first : Branch) (more : List Branch) → IsBranchIn language first → IsEach (IsBranchIn language) more → (v : Value) (c : Option Expr) → IsValueIn language v → IsOption (IsExprIn language) c →
      Walks n 0 false 0 (λ r. spell_found first more ++ ((some k.Else ∷ (spell_value v ++ spell_option spell_when c)) ++ r)) (go_on (more_branches_from language n turns) (first ∷ more) v c) spell_whole (IsWholeIn language)
  by_part turns later first more good fine v None held sound =
      w_pure (omega arith)
      (ap (λ ps. spell_branch first ++ ps) (else_some more v) ∙ sym (append_assoc (spell_branch first) (spell_each spell_else more) (some k.Else ∷ spell_value v))
      ∙ ap (λ ps. spell_found first more ++ (some k.Else ∷ ps)) (sym (append-nil (spell_value v)) ∙ sym (append-nil (spell_value v ++ [])))) (good, fine, held)
  by_part turns later first more good fine v (Some c) held sound =
      w_before (λ r. found_more first more (record { value = v; condition = c }) r)
      (later first (more ++ record { value = v; condition = c } ∷ []) good (each_good language more (record { value = v; condition = c }) fine (held, sound)))

  from_rule : (turns : ℕ) → From turns
  unfolding more_branches_from
  from_rule zero first more good fine = stops first more good fine
  from_rule (suc turns) first more good fine = w_test (is_kind k.Else)
      (w_then (else_part_rule language n) (λ p made _. by_part turns (from_rule turns) first more good fine p.value p.condition made.0 made.1))
      (stops first more good fine)

  more_branches_rule : (b : Branch) → IsBranchIn language b → Walks n 0 false 0 (λ r. spell_branch b ++ r) (more_branches language n (b ∷ [])) spell_whole (IsWholeIn language)
  unfolding more_branches
  more_branches_rule b good = record {
    reads = λ ts w rest h. (alone (length ts)).reads ts w rest h;
    deep = λ ts at h. (alone (length ts)).deep ts at h;
    example = (alone zero).example;
    stuck = λ le ts why at h met. (alone (length ts)).stuck le ts why at h met;
    steady = steady_more_branches language n (part_rule language n).steady (b ∷ []);
  }
    where
      alone : (turns : ℕ) → Walks n 0 false 0 (λ r. spell_branch b ++ r) (more_branches_from language n turns (b ∷ [])) spell_whole (IsWholeIn language)
      alone turns = w_before (λ r. ap (λ ps. ps ++ r) (append-nil (spell_branch b))) (from_rule turns b [] good tt)

  by_first : (v : Value) (c : Option Expr) → IsValueIn language v → IsOption (IsExprIn language) c →
      Walks n 0 false 0 (λ r. (spell_value v ++ spell_option spell_when c) ++ r) (go_on (more_branches language n) [] v c) spell_whole (IsWholeIn language)
  by_first v None held sound = w_pure (omega arith) (sym (append-nil (spell_value v)) ∙ sym (append-nil (spell_value v ++ []))) held
  by_first v (Some c) held sound = more_branches_rule (record { value = v; condition = c }) (held, sound)

  pub conditional_rule : Rule n 0 (conditional_waveforms language n) spell_whole (IsWholeIn language)
  unfolding conditional_waveforms
  conditional_rule = w_then (part_rule language n) (λ p made _. by_first p.value p.condition made.0 made.1)

-- ---- what is spelled is read

-- a semicolon follows
abbrev pub AtEnd : Option TokenKind → Type 0
AtEnd next = next ≡ Some k.Semicolon

at_end : (next : Option TokenKind) → AtEnd next → (kind : TokenKind) → same_kind k.Semicolon kind ≡ false → is_kind kind next ≡ false
at_end next g kind other = ap (is_kind kind) g ∙ other

pub ends_at : (next : Option TokenKind) → AtEnd next → Ends next
ends_at next g = subst Ends (sym g) (omega arith)

condition_gives : (language : Language) (n : ℕ) (c : Expr) → IsExprIn language c → Gives (condition language n) c (spell_when c) Ends
unfolding condition
condition_gives language n c good = g_some (λ _. expr_gives language n c good)

-- neither a condition nor the rest of an expression follows
abbrev EndsPart : Option TokenKind → Type 0
EndsPart next = (is_kind k.When next ≡ false) × Ends next

when_ends : (c : Option Expr) (next : Option TokenKind) → EndsPart next → Ends (front (spell_option spell_when c) next)
when_ends None next g = g.1
when_ends (Some c) next g = omega arith

part_gives : (language : Language) (n : ℕ) (v : Value) (c : Option Expr) → IsValueIn language v → IsOption (IsExprIn language) c → Gives (part language n) (record { value = v; condition = c }) (spell_value v ++ spell_option spell_when c) EndsPart
unfolding part same_kind
part_gives language n v c held good = g_then _ (value_gives language n v held) (g_map (λ x. record { value = v; condition = x }) (option_gives (is_kind k.When) (condition_gives language n) (λ x _ next. refl) c good)) (λ next g. when_ends c next g)

else_part_gives : (language : Language) (n : ℕ) (v : Value) (c : Option Expr) → IsValueIn language v → IsOption (IsExprIn language) c → Gives (else_part language n) (record { value = v; condition = c }) (some k.Else ∷ (spell_value v ++ spell_option spell_when c)) EndsPart
unfolding else_part
else_part_gives language n v c held good = g_some (λ _. part_gives language n v c held good)

part_ends : (more : List Branch) (o : Option Value) (next : Option TokenKind) → AtEnd next → EndsPart (front (spell_otherwise more o) next)
unfolding same_kind
part_ends [] None next g = (at_end next g k.When refl, ends_at next g)
part_ends _ _ next g = (refl, omega arith)

from_gives : (language : Language) (n : ℕ) (more : List Branch) (o : Option Value) → IsEach (IsBranchIn language) more → IsOption (IsValueIn language) o → (turns : ℕ) (found : List Branch) → length more + 1 ≤ turns →
    Gives (more_branches_from language n turns found) (record { branches = found ++ more; otherwise = o }) (spell_otherwise more o) AtEnd
unfolding more_branches_from same_kind
from_gives language n more o good fine zero found le = absurd (omega (arith, le))
from_gives language n [] None good fine (suc turns) found le =
    subst (λ xs. Gives (more_branches_from language n (suc turns) found) (record { branches = xs; otherwise = None }) [] AtEnd) (sym (append-nil found))
    (g_no _ (is_kind k.Else) (λ next g. at_end next g k.Else refl) g_pure)
from_gives language n [] (Some v) good fine (suc turns) found le =
    subst (λ xs. Gives (more_branches_from language n (suc turns) found) (record { branches = xs; otherwise = Some v }) (some k.Else ∷ spell_value v) AtEnd) (sym (append-nil found))
    (subst (λ ps. Gives (more_branches_from language n (suc turns) found) (record { branches = found; otherwise = Some v }) (some k.Else ∷ ps) AtEnd) (append-nil (spell_value v ++ []) ∙ append-nil (spell_value v))
    (g_yes _ (is_kind k.Else) (λ next g. refl) (g_then _ (else_part_gives language n v None fine tt) g_pure (λ next g. part_ends [] None next g))))
from_gives language n (b ∷ more) o good fine (suc turns) found le =
    subst (λ xs. Gives (more_branches_from language n (suc turns) found) (record { branches = xs; otherwise = o }) (some k.Else ∷ (spell_branch b ++ spell_otherwise more o)) AtEnd) (append_assoc found (b ∷ []) more)
    (g_yes _ (is_kind k.Else) (λ next g. refl) (g_then _ (else_part_gives language n b.value (Some b.condition) good.0.0 good.0.1) (from_gives language n more o good.1 fine turns (found ++ b ∷ []) (omega (arith, le))) (part_ends more o)))

more_short : (more : List Branch) (o : Option Value) → length more ≤ length (spell_otherwise more o)
more_short [] o = omega arith
more_short (b ∷ more) o = omega (arith, more_short more o, length-append (spell_branch b) (spell_otherwise more o))

pub rest_some : (rest : List Lexeme) → AtEnd (next_kind rest) → 1 ≤ length rest
unfolding next_kind
rest_some [] g = absurd (cc)
rest_some (l ∷ rest) g = omega arith

more_branches_gives : (language : Language) (n : ℕ) (more : List Branch) (o : Option Value) → IsEach (IsBranchIn language) more → IsOption (IsValueIn language) o → (found : List Branch) →
    Gives (more_branches language n found) (record { branches = found ++ more; otherwise = o }) (spell_otherwise more o) AtEnd
unfolding more_branches
more_branches_gives language n more o good fine found = record {
  reads = λ ts rest h g. (from_gives language n more o good fine (length ts) found (omega (arith, spells_length (spell_otherwise more o) ts rest h, more_short more o, rest_some rest g))).reads ts rest h g;
}

pub conditional_gives : (language : Language) (n : ℕ) (branches : List Branch) (o : Option Value) → AreWaveformsIn language branches o → Gives (conditional_waveforms language n) (record { branches = branches; otherwise = o }) (spell_waveforms branches o) AtEnd
unfolding conditional_waveforms same_kind
conditional_gives language n [] None good = absurd good
conditional_gives language n [] (Some v) good =
    subst (λ ps. Gives (conditional_waveforms language n) (record { branches = []; otherwise = Some v }) ps AtEnd) (append-nil (spell_value v ++ []) ∙ append-nil (spell_value v))
    (g_then _ (part_gives language n v None good tt) g_pure (λ next g. part_ends [] None next g))
conditional_gives language n (b ∷ more) o good =
    g_then _ (part_gives language n b.value (Some b.condition) good.0.0 good.0.1) (more_branches_gives language n more o good.1 good.2 (b ∷ [])) (part_ends more o)
