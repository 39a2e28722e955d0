-- The labels of concurrent statements are identifiers of the file.
use Rattle.std.proofs.Common.{◌≡◌, ℕ, true, ◌&&◌, List, [], ◌∷◌, ◌++◌, Option, Some, None, refl, ap, sym, ◌∙◌, subst}
use Rattle.std.specs.List.{list_all, AllByRecursion}
use Rattle.std.proofs.lemmas.Bool.{and_from}
use Rattle.vhdl_lexer.specs.declared.token.TokenKind.TheVariants as k
use Rattle.vhdl_tree.specs.Tree as t
use Rattle.vhdl_tree.specs.Tree.{Ident}
use Rattle.vhdl_tree.specs.Pieces as p
use Rattle.vhdl_tree.specs.Pieces.{Piece, spell_word, spell_option, spell_each}
use Rattle.vhdl_tree.specs.grammar.Sequential.{spell_label}
use Rattle.vhdl_tree.specs.grammar.Process.{spell_sensitivity, spell_process_declaration}
use Rattle.vhdl_tree.specs.grammar.Concurrent.{spell_scheme, spell_concurrent, spell_concurrents}
use Rattle.vhdl_names_rules.specs.units.Statements as s
use Rattle.vhdl_names_rules.specs.units.Units as u
use Rattle.vhdl_names_rules.specs.Visibility.{Name, are_distinct, ends, Sight, with_variables}
use Rattle.vhdl_names_rules.specs.Rules.{◌>>=◌}
use Rattle.vhdl_names_rules.specs.Choices.{selecting}
use Rattle.vhdl_names_rules.specs.Statements.{signal_target, conditional}
use Rattle.vhdl_names_rules.specs.Declarations.{process_declaration}
use Rattle.vhdl_names_rules.specs.Interfaces.{EntityView}
use Rattle.vhdl_names_rules.specs.Instances.{instance}
use Rattle.vhdl_names_rules.specs.Concurrent.{label_of, assigning, assignment, selected, process, concurrent_labels, sight_within, generated, concurrent, concurrents}
use Rattle.vhdl_names_rules.specs.sound.Named.{has_text, label_is_named, declaration_is_named, concurrent_is_named, concurrents_are_named}
use Rattle.vhdl_names_laws.specs.Words.{AreWords}
use Rattle.vhdl_names_laws.proofs.Statics.{some_same}
use Rattle.vhdl_names_rules.proofs.kept.Keeping.{mapped}
use Rattle.vhdl_names_rules.proofs.laws.Rules.{comes, kept}
use Rattle.vhdl_names_rules.proofs.laws.Parts.{selected_parts, process_parts, instance_parts}
use Rattle.vhdl_names_laws.proofs.Words.{IsNamed, all_in_order, all_true, each_piece, left, right, process_declaration_named}

-- ---- concurrent statements

label_named : (label : Option Ident) (rest : List Piece) → AreWords (spell_option spell_label label ++ rest) → label_is_named (label_of label) ≡ true
label_named None rest h = refl
label_named (Some l) rest h = h.0.some

-- a process of one statement has no variables
assigning_named : (at : ℕ) (label : Option Ident) (rest : List Piece) (x : s.Statement) → AreWords (spell_option spell_label label ++ rest) → concurrent_is_named (assigning at label x) ≡ true
unfolding concurrent_is_named
assigning_named at label rest x h = and_from (label_is_named (label_of label)) true (label_named label rest h) refl

assignment_named : (sight : Sight) (a : t.Assignment) (rest : List Piece) (x : u.Concurrent) → AreWords (spell_option spell_label a.label ++ rest) → assignment sight a ≡ Some x → concurrent_is_named x ≡ true
unfolding assignment
assignment_named sight a rest x h q =
    let b = comes (signal_target sight a.target) _ x q in
    let c = comes (conditional sight b.value a.branches a.otherwise) _ x b.rest in
    subst (λ x. concurrent_is_named x ≡ true) (some_same _ x c.rest) (assigning_named a.target.identifier.at a.label rest c.value h)

selected_named : (sight : Sight) (label : Option Ident) (a : t.SelectedAssignment) (rest : List Piece) (x : u.Concurrent) → AreWords (spell_option spell_label label ++ rest) → selected sight label a ≡ Some x
    → concurrent_is_named x ≡ true
selected_named sight label a rest x h q =
    let p = selected_parts sight label a x q in
    subst (λ x. concurrent_is_named x ≡ true) p.is (assigning_named a.at label rest (selecting a.at p.chosen.by.value.1 p.chosen.all.value) h)

process_named : (sight : Sight) (label : Option Ident) (d : t.Process) (x : u.Process) → label_is_named (label_of label) ≡ true → AllByRecursion (λ (v : t.ProcessDeclaration). AreWords (spell_process_declaration v)) d.declarations
    → process sight label d ≡ Some x → (label_is_named x.label && list_all declaration_is_named x.declarations) ≡ true
process_named sight label d x h words q =
    let p = process_parts sight label d x q in
    subst (λ (x : u.Process). (label_is_named x.label && list_all declaration_is_named x.declarations) ≡ true) p.is
    (and_from (label_is_named (label_of label)) (list_all declaration_is_named p.own.value.analysed) h
    (all_true declaration_is_named p.own.value.analysed
    (all_in_order with_variables process_declaration (λ (v : t.ProcessDeclaration). AreWords (spell_process_declaration v)) IsNamed (λ sight v y g e. process_declaration_named sight v y g e) d.declarations sight p.own.value words p.own.is)))

-- the declarations of a process
declarations_words : (d : t.Process) (label rest : List Piece)
    → AreWords (label ++ p.one_at k.Process d.at ∷ (spell_sensitivity d.sensitivity ++ (spell_word k.Is d.is_word ++ (spell_each spell_process_declaration d.declarations ++ rest))))
    → AllByRecursion (λ (v : t.ProcessDeclaration). AreWords (spell_process_declaration v)) d.declarations
declarations_words d label rest h =
    let a = right label _ h in
    let b = right (spell_sensitivity d.sensitivity) _ a.1 in
    let c = right (spell_word k.Is d.is_word) _ b in
    each_piece spell_process_declaration (λ (v : t.ProcessDeclaration). AreWords (spell_process_declaration v)) (λ v g. g) d.declarations (left (spell_each spell_process_declaration d.declarations) rest c)

instance_named : (entities : List EntityView) (sight : Sight) (label : Ident) (y : t.Instance) (x : u.Instance) → instance entities sight label y ≡ Some x → x.label ≡ label.text
instance_named entities sight label y x q = ap (λ (x : u.Instance). x.label) (sym (instance_parts entities sight label y x q).is)

generated_named : (sight : Sight) (label : Name) (at : ℕ) (scheme : t.Scheme) (body : u.Concurrents) (x : u.Concurrent) → has_text label ≡ true → concurrents_are_named body ≡ true
    → generated sight label at scheme body ≡ Some x → concurrent_is_named x ≡ true
unfolding concurrent_is_named
generated_named sight label at (t.for_each n r) body x h f q =
    let a = mapped _ _ x q in
    subst (λ x. concurrent_is_named x ≡ true) a.is (and_from (has_text label) (concurrents_are_named body) h f)
generated_named sight label at (t.if_holds d) body x h f q =
    let a = mapped _ _ x q in
    subst (λ x. concurrent_is_named x ≡ true) a.is (and_from (has_text label) (concurrents_are_named body) h f)

-- one, and those behind it
one_and : (entities : List EntityView) (sight : Sight) (c : t.Concurrent) (cs : t.Concurrents) (xs : u.Concurrents)
    → ((x : u.Concurrent) → concurrent entities sight c ≡ Some x → concurrent_is_named x ≡ true) → ((xs : u.Concurrents) → concurrents entities sight cs ≡ Some xs → concurrents_are_named xs ≡ true)
    → (concurrent entities sight c >>= λ x. concurrents entities sight cs >>= λ xs. Some (u.concurrent x xs)) ≡ Some xs → concurrents_are_named xs ≡ true
unfolding concurrent_is_named
one_and entities sight c cs xs is are q =
    let a = comes (concurrent entities sight c) _ xs q in
    let b = comes (concurrents entities sight cs) _ xs a.rest in
    subst (λ xs. concurrents_are_named xs ≡ true) (some_same (u.concurrent a.value b.value) xs b.rest)
    (and_from (concurrent_is_named a.value) (concurrents_are_named b.value) (is a.value a.is) (are b.value b.is))

mutual
  unfolding concurrent concurrent_is_named

  concurrent_named : (c : t.Concurrent) (entities : List EntityView) (sight : Sight) (x : u.Concurrent) → AreWords (spell_concurrent c) → concurrent entities sight c ≡ Some x → concurrent_is_named x ≡ true
  concurrent_named (t.assignment a) entities sight x h q = assignment_named sight a _ x h q
  concurrent_named (t.selected label a) entities sight x h q = selected_named sight label a _ x h q
  concurrent_named (t.process label d) entities sight x h q =
      let a = mapped u.process (process sight label d) x q in
      subst (λ x. concurrent_is_named x ≡ true) a.is
      (process_named sight label d a.value (label_named label _ h) (declarations_words d (spell_option spell_label label) _ h) a.from)
  concurrent_named (t.instance label y) entities sight x h q =
      let a = mapped u.instance (instance entities sight label y) x q in
      subst (λ x. concurrent_is_named x ≡ true) a.is (ap has_text (instance_named entities sight label y a.value a.from) ∙ h.0.some)
  concurrent_named (t.assertion a) entities sight x h q = absurd cc
  concurrent_named (t.generated label at scheme word cs end) entities sight x h q =
      let a = kept (ends label.text end) _ x q in
      let b = kept (are_distinct (concurrent_labels cs)) _ x a.1 in
      let body = comes (concurrents entities (sight_within sight scheme) cs) _ x b.1 in
      let c = right (spell_scheme at scheme) _ h.1.1 in
      let d = right (spell_word k.Begin word) _ c.1 in
      generated_named sight label.text at scheme body.value x h.0.some
      (concurrents_named cs entities (sight_within sight scheme) body.value (left (spell_concurrents cs) _ d) body.is) body.rest

  pub concurrents_named : (cs : t.Concurrents) (entities : List EntityView) (sight : Sight) (xs : u.Concurrents) → AreWords (spell_concurrents cs) → concurrents entities sight cs ≡ Some xs
      → concurrents_are_named xs ≡ true
  concurrents_named t.no_concurrents entities sight xs h q = subst (λ xs. concurrents_are_named xs ≡ true) (some_same u.no_concurrents xs q) refl
  concurrents_named (t.concurrent (t.assertion a) cs) entities sight xs h q = concurrents_named cs entities sight xs (right (spell_concurrent (t.assertion a)) (spell_concurrents cs) h) q
  concurrents_named (t.concurrent c cs) entities sight xs h q =
      one_and entities sight c cs xs (λ x q. concurrent_named c entities sight x (left (spell_concurrent c) (spell_concurrents cs) h) q)
      (λ xs q. concurrents_named cs entities sight xs (right (spell_concurrent c) (spell_concurrents cs) h) q) q

pub spelled_alike : (cs : List t.Concurrent) → spell_each spell_concurrent cs ≡ spell_concurrents (t.concurrents_of cs)
spelled_alike [] = refl
spelled_alike (c ∷ cs) = ap (λ ps. spell_concurrent c ++ ps) (spelled_alike cs)
