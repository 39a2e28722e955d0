-- The bytes of an analysed statement are those of pieces of the statement.
use Rattle.std.proofs.Common.{◌≡◌, ℕ, Bool, true, false, not, List, [], ◌∷◌, ◌++◌, Option, Some, None, subst}
use Rattle.std.specs.Option.{option_map}
use Rattle.vhdl_values.specs.declared.scalar.Nine.{Nine}
use Rattle.vhdl_values.specs.declared.scalar.Nine.TheVariants.{One, Zero}
use Rattle.vhdl_tree.specs.Tree as t
use Rattle.vhdl_tree.specs.Tree.{Ident}
use Rattle.vhdl_tree.specs.Pieces.{spell_option}
use Rattle.vhdl_tree.specs.grammar.Expressions.{spell, spell_suffix, spell_attribute, spell_name, spell_value, spell_discrete_range, spell_choices}
use Rattle.vhdl_tree.specs.grammar.Waveforms.{spell_branch, spell_otherwise, spell_waveforms}
use Rattle.vhdl_tree.specs.grammar.Sequential.{spell_label, spell_statement, spell_statements, spell_conditionals, spell_elsifs, spell_else, spell_alternatives}
use Rattle.vhdl_names_rules.specs.declared.kind.ObjectType.{ObjectType}
use Rattle.vhdl_names_rules.specs.units.Expressions as e
use Rattle.vhdl_names_rules.specs.units.Expressions.{Part}
use Rattle.vhdl_names_rules.specs.units.Statements as s
use Rattle.vhdl_names_rules.specs.units.Bytes.{if_any_bytes, range_bytes, part_bytes, place_bytes, test_bytes, given_bytes, statement_bytes, statements_bytes, branches_bytes}
use Rattle.vhdl_names_rules.specs.Visibility as visibility
use Rattle.vhdl_names_rules.specs.Visibility.{Name, Meaning, DeclaredRange, Sight, label_ends}
use Rattle.vhdl_names_rules.specs.Names.{Suffix, AnyPart, fixed, free, part_of, any_part_of}
use Rattle.vhdl_names_rules.specs.Expressions as to
use Rattle.vhdl_names_rules.specs.Expressions.{static_range, condition, Assigned, truth_of, value_assigned}
use Rattle.vhdl_names_rules.specs.Statements.{part_range, SignalName, named_part, as_signal, signal, is_input, mode_of, Target, any_part_range, part_target, assigned_signal, assigned_variable, as_signal_target, as_variable_target, target_by, alone, boolean_assigned, assigned_to, assignment, last_branch, branches, conditional, before, choice_lists, statement, statements, conditionals, otherwise, alternatives}
use Rattle.vhdl_names_rules.proofs.laws.Rules.{comes, kept}
use Rattle.vhdl_names_rules.proofs.laws.Parts.{case_parts}
use Rattle.vhdl_names_laws.proofs.Parts.{signal_parts, signal_target_parts, variable_target_parts}
use Rattle.vhdl_names_laws.proofs.Statics.{some_same}
use Rattle.vhdl_names_rules.proofs.kept.Keeping.{mapped}
use Rattle.vhdl_names_laws.proofs.placed.Told.{Stand, first, behind}
use Rattle.vhdl_names_laws.proofs.placed.Statements.{lists_stand}
use Rattle.vhdl_names_laws.proofs.standing.Holding.{Hold, hold_both, SuffixHolds}
use Rattle.vhdl_names_laws.proofs.standing.Names.{part_of_holds, any_part_bytes, any_part_of_holds}
use Rattle.vhdl_names_laws.proofs.standing.Expressions.{typed_holds, suffix_holds, static_range_holds, condition_holds, AssignedHolds, value_assigned_holds}
use Rattle.vhdl_names_laws.proofs.standing.Choices.{selector_holds, covered_holds, BodiesHold, arranged_holds, selecting_holds}

-- ---- names of signals and variables

part_range_holds : (P : ℕ → Type 0) (r : Option DeclaredRange) (p : Part) → Hold P (part_bytes p) → Hold P (if_any_bytes range_bytes (part_range r p))
part_range_holds P None e.whole h = tt
part_range_holds P (Some d) e.whole h = tt
part_range_holds P r (e.Part.element x) h = tt
part_range_holds P r (e.slice x) h = h

pub record SignalHolds (P : ℕ → Type 0) (x : SignalName) : Type 0 where
  pub place : Hold P (place_bytes x.place)
  pub range : Hold P (if_any_bytes range_bytes x.range)

as_signal_holds : (P : ℕ → Type 0) (at : ℕ) (name : Name) (d : Meaning) (r : Option DeclaredRange) (b : Bool) (suffix : Suffix) (x : SignalName) → P at → SuffixHolds P suffix
    → as_signal at (record { name = name; meaning = d; range = r; is_global = b }) suffix ≡ Some x → SignalHolds P x
as_signal_holds P at name (visibility.port k mode type) r b suffix x h f q =
    let a = mapped (named_part at (e.port k) (Some mode) r) (part_of type suffix) x q in
    let p = part_of_holds P type suffix a.value f a.from in
    subst (SignalHolds P) a.is (record { place = (h, p); range = part_range_holds P r a.value.0 p })
as_signal_holds P at name (visibility.signal k type) r b suffix x h f q =
    let a = mapped (named_part at (e.Signal.signal k) None r) (part_of type suffix) x q in
    let p = part_of_holds P type suffix a.value f a.from in
    subst (SignalHolds P) a.is (record { place = (h, p); range = part_range_holds P r a.value.0 p })
as_signal_holds _ at name _ r b suffix x h f q = absurd cc

pub signal_holds : (P : ℕ → Type 0) (sight : Sight) (n : t.Name) (x : SignalName) → Stand P (spell_name n) → signal sight n ≡ Some x → SignalHolds P x
signal_holds P sight n x h q =
    let p = signal_parts sight n x q in
    let d = p.meant.value in
    as_signal_holds P n.identifier.at d.name d.meaning d.range d.is_global p.suffix.value x h.0
    (suffix_holds n.suffix P sight p.suffix.value (first P (spell_suffix n.suffix) (spell_option spell_attribute n.attribute) h.1) p.suffix.is) p.is

-- ---- assignments

-- what is given to a target stands, and so does the assignment
pub record TargetHolds (P : ℕ → Type 0) (x : Target) : Type 0 where
  pub at : P x.at
  pub range : Hold P (if_any_bytes range_bytes x.range)
  pub assigned : (g : s.Given) → Hold P (given_bytes g) → Hold P (statement_bytes (x.assigned g))

any_range_holds : (P : ℕ → Type 0) (r : Option DeclaredRange) (p : AnyPart) → Hold P (any_part_bytes P p) → Hold P (if_any_bytes range_bytes (any_part_range r p))
any_range_holds P r (fixed p) h = part_range_holds P r p h
any_range_holds P r (free c) h = tt

-- to a part of an object
target_of_holds : (P : ℕ → Type 0) (at : ℕ) (r : Option DeclaredRange) (assigned : AnyPart → s.Given → s.Statement) → P at
    → ((p : AnyPart) (g : s.Given) → Hold P (at ∷ (any_part_bytes P p ++ given_bytes g)) → Hold P (statement_bytes (assigned p g)))
    → (type : ObjectType) (suffix : Suffix) (x : Target) → SuffixHolds P suffix → option_map (part_target at r assigned) (any_part_of type suffix) ≡ Some x → TargetHolds P x
target_of_holds P at r assigned h all type suffix x f q =
    let a = mapped (part_target at r assigned) (any_part_of type suffix) x q in
    let p = any_part_of_holds P type suffix a.value f a.from in
    subst (TargetHolds P) a.is (record {
      at = h;
      range = any_range_holds P r a.value.0 p;
      assigned = λ g k. all a.value.0 g (h, hold_both P (any_part_bytes P a.value.0) (given_bytes g) p k);
    })

signal_bytes_hold : (P : ℕ → Type 0) (at : ℕ) (x : e.Signal) (p : AnyPart) (g : s.Given) → Hold P (at ∷ (any_part_bytes P p ++ given_bytes g)) → Hold P (statement_bytes (assigned_signal at x p g))
signal_bytes_hold P at x (fixed p) g h = h
signal_bytes_hold P at x (free c) g h = h

variable_bytes_hold : (P : ℕ → Type 0) (at k : ℕ) (p : AnyPart) (g : s.Given) → Hold P (at ∷ (any_part_bytes P p ++ given_bytes g)) → Hold P (statement_bytes (assigned_variable at k p g))
variable_bytes_hold P at k (fixed p) g h = h
variable_bytes_hold P at k (free c) g h = h

as_signal_target_holds : (P : ℕ → Type 0) (at : ℕ) (name : Name) (d : Meaning) (r : Option DeclaredRange) (b : Bool) (suffix : Suffix) (x : Target) → P at → SuffixHolds P suffix
    → as_signal_target at (record { name = name; meaning = d; range = r; is_global = b }) suffix ≡ Some x → TargetHolds P x
as_signal_target_holds P at name (visibility.port k mode type) r b suffix x h f q =
    target_of_holds P at r (assigned_signal at (e.port k)) h (signal_bytes_hold P at (e.port k)) type suffix x f q
as_signal_target_holds P at name (visibility.signal k type) r b suffix x h f q =
    target_of_holds P at r (assigned_signal at (e.Signal.signal k)) h (signal_bytes_hold P at (e.Signal.signal k)) type suffix x f q
as_signal_target_holds P at name _ r b suffix x h f q = absurd cc

as_variable_target_holds : (P : ℕ → Type 0) (at : ℕ) (name : Name) (d : Meaning) (r : Option DeclaredRange) (b : Bool) (suffix : Suffix) (x : Target) → P at → SuffixHolds P suffix
    → as_variable_target at (record { name = name; meaning = d; range = r; is_global = b }) suffix ≡ Some x → TargetHolds P x
as_variable_target_holds P at name (visibility.variable k type) r b suffix x h f q =
    target_of_holds P at r (assigned_variable at k) h (variable_bytes_hold P at k) type suffix x f q
as_variable_target_holds P at name _ r b suffix x h f q = absurd cc

pub target_holds : (P : ℕ → Type 0) (sight : Sight) (b : Bool) (n : t.Name) (x : Target) → Stand P (spell_name n) → target_by sight b n ≡ Some x → TargetHolds P x
target_holds P sight false n x h q =
    let p = signal_target_parts sight n x q in
    let d = p.meant.value in
    let y = comes (as_signal_target n.identifier.at d p.suffix.value) _ x p.is in
    let m = kept (not (is_input (mode_of d.meaning))) _ x y.rest in
    subst (TargetHolds P) (some_same y.value x m.1)
    (as_signal_target_holds P n.identifier.at d.name d.meaning d.range d.is_global p.suffix.value y.value h.0
    (suffix_holds n.suffix P sight p.suffix.value (first P (spell_suffix n.suffix) (spell_option spell_attribute n.attribute) h.1) p.suffix.is) y.is)
target_holds P sight true n x h q =
    let p = variable_target_parts sight n x q in
    let d = p.meant.value in
    as_variable_target_holds P n.identifier.at d.name d.meaning d.range d.is_global p.suffix.value x h.0
    (suffix_holds n.suffix P sight p.suffix.value (first P (spell_suffix n.suffix) (spell_option spell_attribute n.attribute) h.1) p.suffix.is) p.is

module _ (P : ℕ → Type 0) (sight : Sight) (x : Target) (f : TargetHolds P x) where
  pub alone_holds : (y : s.Statement) → Hold P (statement_bytes y) → Hold P (statements_bytes (alone y))
  alone_holds y h = hold_both P (statement_bytes y) [] h tt

  -- to a boolean '1' or '0'
  boolean_holds : (v : Nine) → Hold P (statements_bytes (boolean_assigned x v))
  boolean_holds v =
      let g = s.single (e.Value.elements (e.enclosed_character v)) in
      alone_holds (x.assigned g) (f.assigned g tt)

  assigned_holds : (a : Assigned) → AssignedHolds P a → Hold P (statement_bytes (assigned_to x a))
  assigned_holds (to.given g) k = f.assigned g k
  assigned_holds (truth_of r) k =
      let one = statements_bytes (boolean_assigned x One) in
      let zero = statements_bytes (boolean_assigned x Zero) in
      (f.at, hold_both P (test_bytes r) (one ++ zero) k (hold_both P one zero (boolean_holds One) (boolean_holds Zero)))

  pub assignment_holds : (v : t.Value) (y : s.Statement) → Stand P (spell_value v) → assignment sight x v ≡ Some y → Hold P (statement_bytes y)
  assignment_holds v y h q =
      let a = mapped (assigned_to x) (value_assigned sight x.type x.range v) y q in
      subst (λ y. Hold P (statement_bytes y)) a.is (assigned_holds a.value (value_assigned_holds P sight x.type x.range v a.value f.range h a.from))

  one_holds : (w : t.Branch) (ws : List t.Branch) (v : Option t.Value) (bs : s.Branches) → Stand P (spell_branch w)
      → ((bs : s.Branches) → branches sight x ws v ≡ Some bs → Hold P (branches_bytes bs)) → branches sight x (w ∷ ws) v ≡ Some bs → Hold P (branches_bytes bs)
  one_holds w ws v bs h more q =
      let a = comes (assignment sight x w.value) _ bs q in
      let b = comes (condition sight w.condition) _ bs a.rest in
      let c = comes (branches sight x ws v) _ bs b.rest in
      subst (λ bs. Hold P (branches_bytes bs)) (some_same (s.branch b.value (alone a.value) c.value) bs c.rest)
      (hold_both P (test_bytes b.value) (statements_bytes (alone a.value) ++ branches_bytes c.value)
      (condition_holds P sight w.condition b.value (behind P (spell_value w.value) _ h).1 b.is)
      (hold_both P (statements_bytes (alone a.value)) (branches_bytes c.value) (alone_holds a.value (assignment_holds w.value a.value (first P (spell_value w.value) _ h) a.is)) (more c.value c.is)))

  last_holds : (v : t.Value) (bs : s.Branches) → Stand P (spell_value v) → last_branch sight x (Some v) ≡ Some bs → Hold P (branches_bytes bs)
  last_holds v bs h q =
      let a = mapped (λ y. s.otherwise (alone y)) (assignment sight x v) bs q in
      subst (λ bs. Hold P (branches_bytes bs)) a.is (alone_holds a.value (assignment_holds v a.value h a.from))

  -- behind the first
  otherwise_hold : (ws : List t.Branch) (v : Option t.Value) (bs : s.Branches) → Stand P (spell_otherwise ws v) → branches sight x ws v ≡ Some bs → Hold P (branches_bytes bs)
  otherwise_hold [] None bs h q = subst (λ bs. Hold P (branches_bytes bs)) (some_same s.no_else bs q) tt
  otherwise_hold [] (Some v) bs h q = last_holds v bs h.1 q
  otherwise_hold (w ∷ ws) v bs h q =
      one_holds w ws v bs (first P (spell_branch w) (spell_otherwise ws v) h.1) (λ bs q. otherwise_hold ws v bs (behind P (spell_branch w) (spell_otherwise ws v) h.1) q) q

  branches_hold : (ws : List t.Branch) (v : Option t.Value) (bs : s.Branches) → Stand P (spell_waveforms ws v) → branches sight x ws v ≡ Some bs → Hold P (branches_bytes bs)
  branches_hold [] None bs h q = subst (λ bs. Hold P (branches_bytes bs)) (some_same s.no_else bs q) tt
  branches_hold [] (Some v) bs h q = last_holds v bs h q
  branches_hold (w ∷ ws) v bs h q =
      one_holds w ws v bs (first P (spell_branch w) (spell_otherwise ws v) h) (λ bs q. otherwise_hold ws v bs (behind P (spell_branch w) (spell_otherwise ws v) h) q) q

  by_branches : (ws : List t.Branch) (v : Option t.Value) (y : s.Statement) → Stand P (spell_waveforms ws v) → option_map (s.if_of x.at) (branches sight x ws v) ≡ Some y → Hold P (statement_bytes y)
  by_branches ws v y h q =
      let a = mapped (s.if_of x.at) (branches sight x ws v) y q in
      subst (λ y. Hold P (statement_bytes y)) a.is (f.at, branches_hold ws v a.value h a.from)

  pub conditional_holds : (ws : List t.Branch) (v : Option t.Value) (y : s.Statement) → Stand P (spell_waveforms ws v) → conditional sight x ws v ≡ Some y → Hold P (statement_bytes y)
  conditional_holds [] (Some v) y h q = assignment_holds v y h q
  conditional_holds [] None y h q = by_branches [] None y h q
  conditional_holds (w ∷ ws) v y h q = by_branches (w ∷ ws) v y h q

-- statements that are dropped are not there
before_holds : (P : ℕ → Type 0) (y : t.Statement) (x : s.Statement) (xs : s.Statements) → Hold P (statement_bytes x) → Hold P (statements_bytes xs) → Hold P (statements_bytes (before y x xs))
before_holds P (t.asserted text) x xs h k = k
before_holds P (t.reported text) x xs h k = k
before_holds P _ x xs h k = hold_both P (statement_bytes x) (statements_bytes xs) h k

-- ---- statements

mutual
  unfolding statement

  pub statement_holds : (y : t.Statement) (P : ℕ → Type 0) (sight : Sight) (label : Option Ident) (x : s.Statement) → Stand P (spell_statement y)
      → statement sight label y ≡ Some x → Hold P (statement_bytes x)
  statement_holds (t.null_of at) P sight label x h q = subst (λ x. Hold P (statement_bytes x)) (some_same s.null_of x q) tt
  statement_holds (t.assigned n v) P sight label x h q =
      let a = comes (target_by sight false n) _ x q in
      assignment_holds P sight a.value (target_holds P sight false n a.value (first P (spell_name n) _ h) a.is) v x (first P (spell_value v) _ (behind P (spell_name n) _ h).1) a.rest
  statement_holds (t.variable_assigned n v) P sight label x h q =
      let a = comes (target_by sight true n) _ x q in
      assignment_holds P sight a.value (target_holds P sight true n a.value (first P (spell_name n) _ h) a.is) v x (first P (spell_value v) _ (behind P (spell_name n) _ h).1) a.rest
  statement_holds (t.assigned_when b n ws v) P sight label x h q =
      let a = comes (target_by sight b n) _ x q in
      conditional_holds P sight a.value (target_holds P sight b n a.value (first P (spell_name n) _ h) a.is) ws v x (first P (spell_waveforms ws v) _ (behind P (spell_name n) _ h).1) a.rest
  statement_holds (t.asserted text) P sight label x h q = subst (λ x. Hold P (statement_bytes x)) (some_same s.null_of x q) tt
  statement_holds (t.reported text) P sight label x h q = subst (λ x. Hold P (statement_bytes x)) (some_same s.null_of x q) tt
  statement_holds (t.if_of at bs o end) P sight label x h q =
      let a = kept (label_ends label end) _ x q in
      let b = comes (otherwise sight o) _ x a.1 in
      let c = comes (conditionals sight b.value bs) _ x b.rest in
      let last = otherwise_holds o P sight b.value (first P (spell_else o) _ (behind P (spell_conditionals bs) _ h.1)) b.is in
      subst (λ x. Hold P (statement_bytes x)) (some_same _ x c.rest)
      (h.0, conditionals_hold bs P sight b.value c.value (first P (spell_conditionals bs) _ h.1) last c.is)
  statement_holds (t.case_of at d alts end) P sight label x h q =
      let p = case_parts sight label at d alts end x q in
      let inner = first P (spell_alternatives alts) _ (behind P (spell d) _ h.1).1 in
      subst (λ x. Hold P (statement_bytes x)) p.is
      (selecting_holds P at p.chosen.by.value.1 p.chosen.all.value h.0
      (selector_holds P sight.language p.chosen.operand.value p.chosen.by.value (typed_holds d P sight p.chosen.operand.value (first P (spell d) _ h.1) p.chosen.operand.is) p.chosen.by.is)
      (arranged_holds P p.chosen.choices.value p.chosen.bodies.value p.chosen.all.value
      (covered_holds P sight p.chosen.by.value.0 (choice_lists alts) p.chosen.choices.value (lists_stand P alts inner) p.chosen.choices.is)
      (alternatives_hold alts P sight p.chosen.bodies.value inner p.chosen.bodies.is) p.chosen.all.is))
  statement_holds (t.for_of at n r body end) P sight label x h q =
      let a = kept (label_ends label end) _ x q in
      let b = comes (static_range sight r) _ x a.1 in
      let c = comes (statements (visibility.within_loop sight n) body) _ x b.rest in
      let inner = first P (spell_statements body) _ (behind P (spell_discrete_range r) _ h.1.1.1).1 in
      subst (λ x. Hold P (statement_bytes x)) (some_same _ x c.rest) (
        h.0,
        hold_both P (range_bytes b.value) (statements_bytes c.value) (static_range_holds P sight r b.value (first P (spell_discrete_range r) _ h.1.1.1) b.is)
            (statements_hold body P (visibility.within_loop sight n) c.value inner c.is),
      )

  pub statements_hold : (ys : t.Statements) (P : ℕ → Type 0) (sight : Sight) (xs : s.Statements) → Stand P (spell_statements ys)
      → statements sight ys ≡ Some xs → Hold P (statements_bytes xs)
  statements_hold t.done P sight xs h q = subst (λ xs. Hold P (statements_bytes xs)) (some_same s.done xs q) tt
  statements_hold (t.step label y ys) P sight xs h q =
      let a = comes (statement sight label y) _ xs q in
      let b = comes (statements sight ys) _ xs a.rest in
      let g = first P (spell_option spell_label label ++ spell_statement y) (spell_statements ys) h in
      subst (λ xs. Hold P (statements_bytes xs)) (some_same _ xs b.rest)
      (before_holds P y a.value b.value (statement_holds y P sight label a.value (behind P (spell_option spell_label label) (spell_statement y) g) a.is)
      (statements_hold ys P sight b.value (behind P (spell_option spell_label label ++ spell_statement y) (spell_statements ys) h) b.is))

  conditionals_hold : (bs : t.Conditionals) (P : ℕ → Type 0) (sight : Sight) (last xs : s.Branches) → Stand P (spell_conditionals bs) → Hold P (branches_bytes last)
      → conditionals sight last bs ≡ Some xs → Hold P (branches_bytes xs)
  conditionals_hold t.no_conditionals P sight last xs h f q = subst (λ xs. Hold P (branches_bytes xs)) (some_same last xs q) f
  conditionals_hold (t.guarded d body bs) P sight last xs h f q =
      let a = comes (condition sight d) _ xs q in
      let b = comes (statements sight body) _ xs a.rest in
      let c = comes (conditionals sight last bs) _ xs b.rest in
      let g = first P (spell d ++ (_ ∷ spell_statements body)) (spell_elsifs bs) h in
      subst (λ xs. Hold P (branches_bytes xs)) (some_same _ xs c.rest)
      (hold_both P (test_bytes a.value) (statements_bytes b.value ++ branches_bytes c.value) (condition_holds P sight d a.value (first P (spell d) _ g) a.is)
      (hold_both P (statements_bytes b.value) (branches_bytes c.value) (statements_hold body P sight b.value (behind P (spell d) _ g).1 b.is)
      (elsifs_hold bs P sight last c.value (behind P (spell d ++ (_ ∷ spell_statements body)) (spell_elsifs bs) h) f c.is)))

  elsifs_hold : (bs : t.Conditionals) (P : ℕ → Type 0) (sight : Sight) (last xs : s.Branches) → Stand P (spell_elsifs bs) → Hold P (branches_bytes last)
      → conditionals sight last bs ≡ Some xs → Hold P (branches_bytes xs)
  elsifs_hold t.no_conditionals P sight last xs h f q = subst (λ xs. Hold P (branches_bytes xs)) (some_same last xs q) f
  elsifs_hold (t.guarded d body bs) P sight last xs h f q =
      let a = comes (condition sight d) _ xs q in
      let b = comes (statements sight body) _ xs a.rest in
      let c = comes (conditionals sight last bs) _ xs b.rest in
      let g = first P (spell d ++ (_ ∷ spell_statements body)) (spell_elsifs bs) h.1 in
      subst (λ xs. Hold P (branches_bytes xs)) (some_same _ xs c.rest)
      (hold_both P (test_bytes a.value) (statements_bytes b.value ++ branches_bytes c.value) (condition_holds P sight d a.value (first P (spell d) _ g) a.is)
      (hold_both P (statements_bytes b.value) (branches_bytes c.value) (statements_hold body P sight b.value (behind P (spell d) _ g).1 b.is)
      (elsifs_hold bs P sight last c.value (behind P (spell d ++ (_ ∷ spell_statements body)) (spell_elsifs bs) h.1) f c.is)))

  otherwise_holds : (o : t.Otherwise) (P : ℕ → Type 0) (sight : Sight) (x : s.Branches) → Stand P (spell_else o) → otherwise sight o ≡ Some x → Hold P (branches_bytes x)
  otherwise_holds t.no_else P sight x h q = subst (λ x. Hold P (branches_bytes x)) (some_same s.no_else x q) tt
  otherwise_holds (t.else_do body) P sight x h q =
      let a = mapped s.otherwise (statements sight body) x q in
      subst (λ x. Hold P (branches_bytes x)) a.is (statements_hold body P sight a.value h.1 a.from)

  alternatives_hold : (alts : t.Alternatives) (P : ℕ → Type 0) (sight : Sight) (xs : List s.Statements) → Stand P (spell_alternatives alts)
      → alternatives sight alts ≡ Some xs → BodiesHold P xs
  alternatives_hold t.no_alternatives P sight xs h q = subst (BodiesHold P) (some_same [] xs q) tt
  alternatives_hold (t.alternative cs body more) P sight xs h q =
      let a = comes (statements sight body) _ xs q in
      let b = comes (alternatives sight more) _ xs a.rest in
      let g = first P (spell_choices cs ++ (_ ∷ spell_statements body)) (spell_alternatives more) h.1 in
      subst (BodiesHold P) (some_same (a.value ∷ b.value) xs b.rest) (
        statements_hold body P sight a.value (behind P (spell_choices cs) _ g).1 a.is,
        alternatives_hold more P sight b.value (behind P (spell_choices cs ++ (_ ∷ spell_statements body)) (spell_alternatives more) h.1) b.is,
      )
