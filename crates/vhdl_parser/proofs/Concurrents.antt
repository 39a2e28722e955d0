-- What the readers of concurrent statements make.
use Rattle.std.proofs.Common.{◌≡◌, ℕ, zero, suc, ◌≤◌, Bool, false, List, [], ◌∷◌, ◌++◌, Option, Some, None, refl, sym, ap, append-nil, arith}
use Rattle.vhdl_lexer.specs.declared.language.Language.{Language}
use Rattle.vhdl_lexer.specs.declared.language.Language.TheVariants.{Profile, Wide}
use Rattle.vhdl_lexer.specs.declared.token.TokenKind.{TokenKind}
use Rattle.vhdl_lexer.specs.declared.token.TokenKind.TheVariants as k
use Rattle.vhdl_tree.specs.Lexeme.{Lexeme, same_kind}
use Rattle.vhdl_tree.specs.Tree.{Ident, Scheme, for_each, if_holds, Concurrent, assignment, assertion, selected, process, instance, generated, concurrents_of}
use Rattle.vhdl_tree.specs.Pieces.{Piece, some, spell_option, spell_word, spell_each, IsEach}
use Rattle.vhdl_tree.specs.grammar.Sequential.{spell_label, spell_end}
use Rattle.vhdl_tree.specs.grammar.Concurrent.{spell_assignment, spell_scheme, spell_concurrent, spell_concurrents, IsAssignmentIn, IsSchemeIn, IsConcurrentIn, AreConcurrentsIn}
use Rattle.vhdl_parser_expressions.specs.reader.Input.{Parser, and_then, expect, eat, identifier, next_kind, second_kind}
use Rattle.vhdl_parser_expressions.specs.reader.Values.{discrete_range}
use Rattle.vhdl_parser_statements.specs.reader.Sequential.{end_of}
use Rattle.vhdl_parser.specs.reader.Concurrent.{concurrent, assign, assert, assert_with, begins_concurrent, select_with, process_with, assign_with, instance_with, sees_component, named_with, unlabelled_by, unlabelled, generate_body, generate_rest, for_scheme, for_generate, if_generate, labelled_by, labelled, by_label, concurrents_with, deeper_concurrents, concurrents}
use Rattle.vhdl_parser_expressions.proofs.Steady.{left_of}
use Rattle.vhdl_parser_expressions.proofs.Ahead.{eager, steady_by}
use Rattle.vhdl_parser_expressions.proofs.Walks.{Walks, Rule, w_pure, w_then, w_map, w_last, w_ends}
use Rattle.vhdl_parser_expressions.proofs.Rules.{w_take, w_some, w_ident, w_open, w_refuse, w_choose, w_inner, w_by, w_below, below_met, under, under_none, word_rule}
use Rattle.vhdl_parser_expressions.proofs.Repeats.{each_rule}
use Rattle.vhdl_parser_expressions.proofs.WalkExpressions.{expr_rule, a_name_rule}
use Rattle.vhdl_parser_expressions.proofs.WalkValues.{discrete_range_rule}
use Rattle.vhdl_parser_statements.proofs.Conditional.{conditional_rule}
use Rattle.vhdl_parser_statements.specs.reader.Texts.{text_of}
use Rattle.vhdl_parser_statements.specs.reader.Wide.{wide}
use Rattle.vhdl_parser_statements.proofs.WalkTexts.{text_rule}
use Rattle.vhdl_parser_statements.proofs.WalkSequential.{w_end_of, w_labelled}
use Rattle.vhdl_parser_statements.proofs.WalkProcess.{process_rule, selected_rule}
use Rattle.vhdl_parser.proofs.WalkInstance.{instance_rule}
use Rattle.vhdl_parser.proofs.Alone.{assign_with_alone, instance_with_alone, unlabelled_alone}
use Rattle.vhdl_parser.proofs.Plain.{plain_concurrent, plain_for, plain_if, concurrent_long}

-- behind its label
abbrev Behind : Language → ℕ → Option Ident → Parser Concurrent → Type 0
Behind language n label p = Walks n 0 false 0 (λ r. spell_option spell_label label ++ r) p spell_concurrent (IsConcurrentIn language)

assign_rule : (language : Language) (n : ℕ) (label : Option Ident) → Walks n 0 false 0 (λ r. spell_option spell_label label ++ r) (assign language n label) spell_assignment (IsAssignmentIn language)
unfolding assign
assign_rule language n label =
    w_then (a_name_rule language n) (λ target named _.
    w_some k.LessEqual refl (λ _.
    w_then (conditional_rule language n) (λ w good _.
    w_some k.Semicolon refl (λ _.
    w_pure (omega arith) refl (named, good)))))

assign_with_rule : (language : Language) (n : ℕ) (label : Option Ident) → Behind language n label (assign_with language n label)
assign_with_rule language n label = w_map assignment (λ a more good same. (same, good)) (assign_rule language n label)

select_with_rule : (language : Language) (n : ℕ) (label : Option Ident) → Behind language n label (select_with language n label)
select_with_rule language n label = w_last (λ s. selected label s) (selected_rule language n) (λ s good. (refl, good))

process_with_rule : (language : Language) (n : ℕ) (label : Option Ident) → Behind language n label (process_with language n label)
process_with_rule language n label = w_last (λ p. process label p) (process_rule language n) (λ p good. (refl, good))

instance_with_rule : (language : Language) (n : ℕ) (label : Ident) → Behind language n (Some label) (instance_with language n label)
instance_with_rule language n label = w_last (λ i. instance label i) (instance_rule language n) (λ i good. (refl, good))

component_two : (l next : Lexeme) (us vs : List Lexeme) → sees_component (l ∷ next ∷ us) ≡ sees_component (l ∷ next ∷ vs)
unfolding next_kind second_kind
component_two l next us vs = refl

component_one : (t : Lexeme) (r m : List Lexeme) → same_kind t.kind k.Identifier ≡ false → sees_component (t ∷ r) ≡ sees_component (t ∷ m)
unfolding next_kind second_kind
component_one t r m e = rw e refl

named_rule : (language : Language) (n : ℕ) (label : Ident) → Behind language n (Some label) (named_with language n label)
unfolding named_with
named_rule language n label = w_by sees_component (instance_with_rule language n label) (assign_with_rule language n (Some label))
    (steady_by sees_component k.Identifier component_two component_one (instance_with_rule language n label).steady (assign_with_rule language n (Some label)).steady
    (eager k.Identifier (instance_with_rule language n label).steady (λ at text. ap (λ o. left_of o) (instance_with_alone language n label at text)))
    (eager k.Identifier (assign_with_rule language n (Some label)).steady (λ at text. ap (λ o. left_of o) (assign_with_alone language n (Some label) at text))))

-- an assertion, which the narrower language refuses
assert_with_rule : (language : Language) (n : ℕ) (label : Option Ident) → Behind language n label (assert_with language n label)
unfolding assert text_of wide
assert_with_rule Profile n label = w_refuse (plain_concurrent Profile label)
assert_with_rule Wide n label = w_map assertion (λ a more good same. (same, good)) (w_last (λ x. record { label = label; text = x }) (text_rule n k.Assert refl) (λ x good. (refl, good)))

unlabelled_next : (language : Language) (n : ℕ) (next : Option TokenKind) → Behind language n None (unlabelled_by language n next)
unlabelled_next language n (Some k.With) = select_with_rule language n None
unlabelled_next language n (Some k.Process) = process_with_rule language n None
unlabelled_next language n (Some k.Identifier) = assign_with_rule language n None
unlabelled_next language n (Some k.Assert) = assert_with_rule language n None
unlabelled_next language n _ = w_refuse (plain_concurrent language None)

unlabelled_rule : (language : Language) (n : ℕ) → Behind language n None (unlabelled language n)
unfolding unlabelled
unlabelled_rule language n = w_choose (unlabelled_next language n)

-- ---- generates

module _ {B : Type 0} {n d d2 : ℕ} {before : List Piece → List Piece} {spell : B → List Piece} {Good : B → Type 0} where
  -- `generate` where it doesn't stand behind `end`
  w_generate : {f : ℕ → Parser B} → ((at : ℕ) → Walks n d false d2 (λ r. before (some k.Generate ∷ r)) (f at) spell Good) → Walks n d false d2 before (λ ts. and_then (expect k.Generate ts) f) spell Good
  unfolding expect same_kind
  w_generate next = w_take (λ l. l.at) k.Generate (λ _. some k.Generate) (λ le. le) (omega arith) refl refl (λ l i. i) next

abbrev pub spelled_all : List Concurrent → List Piece
spelled_all cs = spell_concurrents (concurrents_of cs)

abbrev pub formed_all : Language → List Concurrent → Type 0
formed_all language cs = AreConcurrentsIn language (concurrents_of cs)

pub spelled_all-each : (cs : List Concurrent) → spelled_all cs ≡ spell_each spell_concurrent cs
spelled_all-each [] = refl
spelled_all-each (c ∷ cs) = ap (λ ps. spell_concurrent c ++ ps) (spelled_all-each cs)

formed_each : (language : Language) (cs : List Concurrent) → IsEach (IsConcurrentIn language) cs → formed_all language cs
formed_each language [] f = tt
formed_each language (c ∷ cs) f = (f.0, formed_each language cs f.1)

generate_spelled : (label : Ident) (at : ℕ) (s : Scheme) (w : Bool) (cs : List Concurrent) (l : Option Ident) →
    spell_concurrent (generated label at s w (concurrents_of cs) l) ≡ spell_label label ++ (spell_scheme at s ++ (some k.Generate ∷ (spell_word k.Begin w ++ (spelled_all cs ++ (spell_end k.Generate l ++ [])))))
generate_spelled label at s w cs l = ap (λ ps. spell_label label ++ (spell_scheme at s ++ (some k.Generate ∷ (spell_word k.Begin w ++ (spelled_all cs ++ ps))))) (sym (append-nil (spell_end k.Generate l)))

module _ (language : Language) (n : ℕ) (inner : Parser (List Concurrent)) (each : Rule n 1 inner spelled_all (formed_all language)) where
  generate_rest_rule : (label : Ident) (at : ℕ) (s : Scheme) → IsSchemeIn language s → 1 ≤ n → Walks n 1 false 0 (λ r. spell_label label ++ (spell_scheme at s ++ r)) (generate_rest inner label at s) spell_concurrent (IsConcurrentIn language)
  unfolding generate_rest generate_body same_kind
  generate_rest_rule label at s good le =
      w_inner (expect k.Generate) _ _ (w_generate (λ _.
      w_inner (eat k.Begin) _ _ (w_then (word_rule k.Begin refl le) (λ w _ _.
      w_inner inner _ _ (w_then each (λ cs fine _.
      w_inner (end_of k.Generate) _ _ (w_end_of k.Generate refl refl refl le (λ l. w_pure (omega arith) (generate_spelled label at s w cs l) (good, fine)))))))))

  for_rule : (label : Ident) → Behind language n (Some label) (for_generate language n inner label)
  unfolding for_generate for_scheme same_kind
  for_rule label = w_open k.For refl refl refl (plain_for language label) (below_met _ n) (λ at. w_below n (λ m e.
      w_inner identifier _ _ (w_ident (λ p. w_inner (expect k.In) _ _ (w_some k.In refl (λ _.
      w_inner (discrete_range language m) _ _ (w_then (under e (discrete_range_rule language m)) (λ r good le. generate_rest_rule label at (for_each p r) good le))))))))

  if_rule : (label : Ident) → Behind language n (Some label) (if_generate language n inner label)
  unfolding if_generate same_kind
  if_rule label = w_open k.If refl refl refl (plain_if language label) (below_met _ n) (λ at. w_below n (λ m e. w_then (under e (expr_rule language m)) (λ c good le. generate_rest_rule label at (if_holds c) good le)))

  labelled_next : (label : Ident) (next : Option TokenKind) → Behind language n (Some label) (labelled_by language n inner label next)
  labelled_next label (Some k.With) = select_with_rule language n (Some label)
  labelled_next label (Some k.Process) = process_with_rule language n (Some label)
  labelled_next label (Some k.Entity) = instance_with_rule language n label
  labelled_next label (Some k.Component) = instance_with_rule language n label
  labelled_next label (Some k.For) = for_rule label
  labelled_next label (Some k.If) = if_rule label
  labelled_next label (Some k.Identifier) = named_rule language n label
  labelled_next label (Some k.Assert) = assert_with_rule language n (Some label)
  labelled_next label _ = w_refuse (plain_concurrent language (Some label))

  label_next : (label : Option Ident) → Behind language n label (by_label language n inner label)
  unfolding labelled
  label_next None = unlabelled_rule language n
  label_next (Some label) = w_choose (labelled_next label)

  concurrent_rule : Rule n 0 (concurrent language n inner) spell_concurrent (IsConcurrentIn language)
  unfolding concurrent
  concurrent_rule = w_labelled (by_label language n inner) label_next (λ at text. ap (λ o. left_of o) (unlabelled_alone language n at text))

  with_rule : Rule n 0 (concurrents_with language n inner) spelled_all (formed_all language)
  unfolding concurrents_with
  with_rule = w_ends spelled_all-each (formed_each language) (each_rule (begins_concurrent language) (concurrent language n inner) (omega arith) concurrent_rule refl concurrent_long)

deeper_rule : (language : Language) (n : ℕ) → Rule n 1 (deeper_concurrents language n) spelled_all (formed_all language)
unfolding deeper_concurrents
deeper_rule language zero = under_none
deeper_rule language (suc m) = under refl (with_rule language m (deeper_concurrents language m) (deeper_rule language m))

pub concurrents_rule : (language : Language) (n : ℕ) → Rule n 0 (concurrents language n) (spell_each spell_concurrent) (IsEach (IsConcurrentIn language))
unfolding concurrents_with
concurrents_rule language n = each_rule (begins_concurrent language) (concurrent language n (deeper_concurrents language n)) (omega arith) (concurrent_rule language n (deeper_concurrents language n) (deeper_rule language n)) refl concurrent_long
