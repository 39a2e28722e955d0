-- Statements by their parts, in the order in which the code comes to them.
use Rattle.std.proofs.Common.{◌≡◌, ℕ, Bool, ◌||◌, ◌==◌, List, [], ◌∷◌, ◌++◌, length, map, Option, Vec, Global, Result, Ok, Err, refl, sym, ap, ◌∙◌, subst}
use Rattle.std.specs.Prelude.{ℤ, slice_get}
use Rattle.vhdl_names_rules.specs.units.Expressions as expressions
use Rattle.vhdl_names_rules.specs.units.Expressions.{Signal, Part, SignalPart, Range}
use Rattle.vhdl_names_rules.specs.units.Statements as u
use Rattle.vhdl_names_rules.specs.units.Statements.{Given}
use Rattle.vhdl_names_trees.specs.views.Integers.{range_view}
use Rattle.vhdl_names_trees.specs.views.Vectors as analysed
use Rattle.rtl_model.specs.bodies.Body as bodies
use Rattle.rtl_model.specs.bodies.Fits.{value_width}
use Rattle.rtl_net.specs.declared.body.Branch.{Branch}
use Rattle.rtl_net.specs.declared.body.Alternative.{Alternative}
use Rattle.rtl_net.specs.declared.body.Statement.{Statement}
use Rattle.rtl_net.specs.declared.body.Statement.TheVariants as s
use Rattle.rtl_net.specs.declared.body.Value.{Value}
use Rattle.rtl_net.specs.Bodies as net
use Rattle.rtl_net.proofs.Rows.{view_if, view_case}
use Rattle.vhdl_names_units.specs.declared.sequential.Statement as analysed_statement
use Rattle.vhdl_names_units.specs.declared.sequential.Statement.TheVariants as t
use Rattle.vhdl_names_units.specs.declared.sequential.If.{If, out-If, roll-out-If}
use Rattle.vhdl_names_units.specs.declared.sequential.Case.{Case, out-Case, roll-out-Case}
use Rattle.vhdl_names_units.specs.declared.sequential.Loop.{Loop}
use Rattle.vhdl_names_units.specs.views.Sequential as units
use Rattle.vhdl_names_units.specs.views.Sequential.{Guarded, Chosen}
use Rattle.vhdl_names_units.proofs.rows.Sequential as rows
use Rattle.vhdl_expand_rules.specs.declared.fault.ElabFault.{ElabFault}
use Rattle.vhdl_tree.specs.declared.operator.Direction.TheVariants.{To}
use Rattle.vhdl_names_units.specs.views.Answers.{choices_view}
use Rattle.vhdl_expand_rules.specs.declared.fault.ElabProblem.TheVariants.{StaticError}
use Rattle.vhdl_expand_rules.specs.Elab.{Elab, ◌>>=◌, ◌>>◌, each, unless, fault_told, Told}
use Rattle.vhdl_expand_rules.specs.Integers.{turns, extent}
use Rattle.vhdl_expand_rules.specs.Site.{Site, in_loop, signal_kind, place_elements, signal_elements, variable_elements, signal_bounds, variable_bounds}
use Rattle.vhdl_expand_rules.specs.Expressions.{computed, value, test, chosen_row}
use Rattle.vhdl_expand_rules.specs.Computed.{Number, Span}
use Rattle.vhdl_expand_rules.specs.Statements as definition
use Rattle.vhdl_expand_rules.specs.Statements.{choice, one}
use Rattle.vhdl_expand_rules.proofs.Steps.{given}
use Rattle.vhdl_expand_rules.proofs.Chains.{err_first}
use Rattle.vhdl_expand_operands.specs.Results.{Expands, Adds}
use Rattle.vhdl_expand_statements.specs.Statements.{branch_view, branches_view, alternative_view, alternatives_view, otherwise_view}
use Rattle.vhdl_expand_statements.specs.steps.Assignments.{assign, set, assign_in, set_in}
use Rattle.vhdl_expand_statements.specs.steps.Statements as steps
use Rattle.vhdl_expand_statements.specs.steps.Statements.{after, Codes}
use Rattle.vhdl_expand_choices.specs.Views.{all_choices, is_empty, served}
use Rattle.vhdl_expand_statements.proofs.Sequences.{statements_push}

pub after_stops : {told : Told} (now : bodies.Stmts) (r : Elab bodies.Stmts) → r ≡ Err told → (after now r) ≡ Err told
after_stops now r h = err_first r _ h

-- one more statement, where it is made
pub added_gives : (now new : List Statement) (d : Elab bodies.Stmt) (whole : Elab bodies.Stmts) (m : Result Statement ElabFault) (r : Result (Unit {0}) ElabFault)
    → whole ≡ (d >>= λ s. given (one s)) → Expands net.statement_view d m → Adds now new m r → Expands (λ _. net.statements_of new) (after (net.statements_of now) whole) r
added_gives now new d whole (Ok made) (Ok u) h e a =
    ap (after (net.statements_of now)) (h ∙ ap (λ q. q >>= λ s. given (one s)) e) ∙ ap given (sym (statements_push now new made a))
added_gives now new d whole (Ok made) (Err fault) h e a = λ n. absurd (n a)
added_gives now new d whole (Err why) (Ok u) h e a = absurd a
added_gives now new d whole (Err why) (Err fault) h e a = λ n.
    subst (λ (f : ElabFault). after (net.statements_of now) whole ≡ Err (fault_told f)) (sym a)
    (after_stops (net.statements_of now) whole (h ∙ ap (λ q. q >>= λ s. given (one s)) (e (λ q. n (a ∙ q)))))

abbrev branch_made : bodies.Test → bodies.Stmts → steps.Branch
branch_made c x = record { test = c; statements = x }

abbrev pub branch_of : bodies.Test → bodies.Stmts → Elab steps.Branch
branch_of c x = Ok (branch_made c x)

abbrev alternative_made : List (List ℕ) → bodies.Stmts → steps.Alternative
alternative_made c x = record { choices = c; statements = x }

abbrev pub alternative_of : List (List ℕ) → bodies.Stmts → Elab steps.Alternative
alternative_of c x = Ok (alternative_made c x)

abbrev chosen_by : bodies.Value → Codes → Elab (bodies.Value × Codes)
chosen_by e codes = Ok (e, codes)

case_of_each : (w : bodies.Value) (n : Elab (List steps.Alternative)) (l : Elab bodies.Stmts) → ((n >>= λ bs. l >>= λ y. given (steps.alternatives_before y bs)) >>= λ cs. given (one (bodies.case_of w cs)))
    ≡ ((n >>= λ bs. l >>= λ y. given (bodies.case_of w (steps.alternatives_before y bs))) >>= λ y. given (one y))
case_of_each w (Ok bs) (Ok y) = refl
case_of_each w (Ok bs) (Err p) = refl
case_of_each w (Err p) l = refl

-- alternatives, and the last one, whose choices are known where it has any
abbrev pub cased : List Chosen → List u.Choice → u.Statements → u.Alternatives
cased gs ds last = units.alternatives_of gs (units.last_alternative ds last)

-- the choices of all alternatives but the last
pub spread_known : (gs : List Chosen) (ds : List u.Choice) (last : u.Statements) → definition.spread_choices (cased gs ds last) ≡ all_choices gs
spread_known [] [] last = refl
spread_known [] (d ∷ ds) last = refl
spread_known (g ∷ gs) ds last = ap (λ cs. g.choices ++ cs) (spread_known gs ds last)

-- an assignment is one statement
as_one : {A B : Type 0} (r : Elab A) (f : A → Elab B) (g : A → B → bodies.Stmt) → (r >>= λ x. f x >>= λ y. given (one (g x y))) ≡ ((r >>= λ x. f x >>= λ y. given (g x y)) >>= λ s. given (one s))
as_one (Err p) f g = refl
as_one (Ok x) f g = inner (f x) (g x)
  where
    inner : {B : Type 0} (q : Elab B) (k : B → bodies.Stmt) → (q >>= λ y. given (one (k y))) ≡ ((q >>= λ y. given (k y)) >>= λ s. given (one s))
    inner (Ok y) k = refl
    inner (Err p) k = refl

-- the same of one to what a run chooses
chosen_as_one : {A B C D : Type 0} (p : Elab A) (q : Elab B) (r : B → Elab C) (f : C → Elab D) (g : A → C → D → bodies.Stmt)
    → (p >>= λ x. q >>= λ y. r y >>= λ z. f z >>= λ w. given (one (g x z w))) ≡ ((p >>= λ x. q >>= λ y. r y >>= λ z. f z >>= λ w. given (g x z w)) >>= λ s. given (one s))
chosen_as_one (Err t) q r f g = refl
chosen_as_one (Ok x) (Err t) r f g = refl
chosen_as_one (Ok x) (Ok y) r f g = as_one (r y) f (g x)

module _ (here : Site) where
  -- ---- one statement each

  pub null_one : definition.statement here u.null_of ≡ Ok (one bodies.null_of)
  unfolding definition.statement
  null_one = refl

  pub assign_by : (p : SignalPart) (g : Given) → definition.statement here (u.assign p g) ≡ (assign here p g >>= λ s. given (one s))
  unfolding definition.statement
  assign_by p g = as_one (place_elements here p) (λ es. definition.given_to here p.at (signal_kind here p.signal) (length es) g) bodies.assign

  pub set_by : (at k : ℕ) (part : Part) (g : Given) → definition.statement here (u.set at k part g) ≡ (set here at k part g >>= λ s. given (one s))
  unfolding definition.statement
  set_by at k part g = as_one (variable_elements here at k part) (λ es. definition.given_to here at (slice_get here.variables k) (length es) g) bodies.set

  pub assign_in_by : (at : ℕ) (x : Signal) (c : expressions.Chosen) (g : Given) → definition.statement here (u.assign_in at x c g) ≡ (assign_in here at x c g >>= λ s. given (one s))
  unfolding definition.statement
  assign_in_by at x c g =
      chosen_as_one (signal_elements here at x expressions.whole) (signal_bounds here at x) (λ b. chosen_row here at b c) (λ r. definition.elements_given here at r.spacing.len g) (λ es r e. bodies.assign_at r.index r.spacing es e)

  pub set_in_by : (at k : ℕ) (c : expressions.Chosen) (g : Given) → definition.statement here (u.set_in at k c g) ≡ (set_in here at k c g >>= λ s. given (one s))
  unfolding definition.statement
  set_in_by at k c g =
      chosen_as_one (variable_elements here at k expressions.whole) (variable_bounds here at k) (λ b. chosen_row here at b c) (λ r. definition.elements_given here at r.spacing.len g) (λ es r e. bodies.set_at r.index r.spacing es e)

  -- ---- one part more before others

  one-before : {C X Y Z L : Type 0} (join : C → X → Y → Y) (make : C → X → Z) (before : L → List Z → Y) → ((c : C) (x : X) (y : L) (zs : List Z) → before y (make c x ∷ zs) ≡ join c x (before y zs))
      → (c : Elab C) (x : Elab X) (q : Elab Y) (m : Elab (List Z)) (l : Elab L) → q ≡ (m >>= λ zs. l >>= λ y. given (before y zs))
      → (c >>= λ c. x >>= λ x. q >>= λ y. given (join c x y)) ≡ (((c >>= λ c. x >>= λ x. given (make c x)) >>= λ z. m >>= λ zs. given (z ∷ zs)) >>= λ zs. l >>= λ y. given (before y zs))
  one-before join make before same (Err p) x q m l h = refl
  one-before join make before same (Ok c) (Err p) q m l h = refl
  one-before join make before same (Ok c) (Ok x) q (Err p) l h = ap (λ r. r >>= λ y. given (join c x y)) h
  one-before join make before same (Ok c) (Ok x) q (Ok zs) (Err p) h = ap (λ r. r >>= λ y. given (join c x y)) h
  one-before join make before same (Ok c) (Ok x) q (Ok zs) (Ok y) h = ap (λ r. r >>= λ y. given (join c x y)) h ∙ ap given (sym (same c x y zs))

  -- ---- if

  branches-each : (gs : List Guarded) (last : u.Branches)
      → definition.branches here (units.branches_of gs last) ≡ (each (steps.branch here) gs >>= λ bs. definition.branches here last >>= λ y. given (steps.branches_before y bs))
  unfolding definition.branches
  branches-each [] last = go (definition.branches here last)
    where
      go : (r : Elab bodies.Branches) → r ≡ (r >>= λ y. given y)
      go (Ok y) = refl
      go (Err p) = refl
  branches-each (g ∷ gs) last =
      one-before bodies.branch branch_made steps.branches_before (λ c x y bs. refl) (test here g.condition) (definition.statements here (units.statements_of g.statements)) (definition.branches here (units.branches_of gs last))
      (each (steps.branch here) gs) (definition.branches here last) (branches-each gs last)

  if-is : (x : If) → units.statement_view (t.If x) ≡ u.if_of (out-If x).at (units.branches_of (units.branches_view (out-If x).branches) (units.last_of (units.option_statements_view (out-If x).otherwise)))
  if-is x = ap (λ y. units.statement_view (t.If y)) (sym (roll-out-If x)) ∙ rows.view_if (out-If x).at (out-If x).branches (out-If x).otherwise

  pub if_by : (x : If) → definition.statement here (units.statement_view (t.If x))
      ≡ (steps.conditional here (units.branches_view (out-If x).branches) (units.last_of (units.option_statements_view (out-If x).otherwise)) >>= λ y. given (one y))
  unfolding definition.statement
  if_by x =
      let gs = units.branches_view (out-If x).branches in
      let last = units.last_of (units.option_statements_view (out-If x).otherwise) in
      ap (definition.statement here) (if-is x)
      ∙ ap (λ r. r >>= λ cs. given (one (bodies.if_of cs))) (branches-each gs last)
      ∙ go (each (steps.branch here) gs) (definition.branches here last)
    where
      go : (m : Elab (List steps.Branch)) (l : Elab bodies.Branches)
          → ((m >>= λ bs. l >>= λ y. given (steps.branches_before y bs)) >>= λ cs. given (one (bodies.if_of cs))) ≡ ((m >>= λ bs. l >>= λ y. given (bodies.if_of (steps.branches_before y bs))) >>= λ y. given (one y))
      go (Ok bs) (Ok y) = refl
      go (Ok bs) (Err p) = refl
      go (Err p) l = refl

  -- ---- case

  -- the last one does the same, whatever choices it has
  last-done : (codes : Codes) (ds : List u.Choice) (last : u.Statements)
      → definition.alternatives here codes (units.last_alternative ds last) ≡ (definition.statements here last >>= λ y. given (bodies.others y))
  unfolding definition.alternatives
  last-done codes [] last = refl
  last-done codes (d ∷ ds) last = refl

  alternatives-each : (codes : Codes) (gs : List Chosen) (ds : List u.Choice) (last : u.Statements)
      → definition.alternatives here codes (cased gs ds last)
      ≡ (each (steps.alternative here codes) gs >>= λ bs. definition.statements here last >>= λ y. given (steps.alternatives_before y bs))
  unfolding definition.alternatives
  alternatives-each codes [] ds last = last-done codes ds last
  alternatives-each codes (g ∷ gs) ds last =
      one-before bodies.alternative alternative_made steps.alternatives_before (λ c x y bs. refl) (codes g.choices) (definition.statements here (units.statements_of g.statements))
      (definition.alternatives here codes (cased gs ds last))
      (each (steps.alternative here codes) gs) (definition.statements here last) (alternatives-each codes gs ds last)

  -- what a case is on, and then its parts
  selected-as-one : (w : bodies.Value) (codes : Codes) (gs : List Chosen) (ds : List u.Choice) (last : u.Statements)
      → (definition.alternatives here codes (cased gs ds last) >>= λ cs. given (one (bodies.case_of w cs)))
      ≡ ((each (steps.alternative here codes) gs >>= λ bs. definition.statements here last >>= λ y. given (bodies.case_of w (steps.alternatives_before y bs))) >>= λ y. given (one y))
  selected-as-one w codes gs ds last =
      ap (λ r. r >>= λ cs. given (one (bodies.case_of w cs))) (alternatives-each codes gs ds last)
      ∙ case_of_each w (each (steps.alternative here codes) gs) (definition.statements here last)

  -- ---- a case on an integer

  others-known : (gs : List Chosen) (ds : List u.Choice) (last : u.Statements) → definition.has_others (cased gs ds last) ≡ is_empty ds
  others-known [] [] last = refl
  others-known [] (d ∷ ds) last = refl
  others-known (g ∷ gs) ds last = others-known gs ds last

  last-known : (gs : List Chosen) (ds : List u.Choice) (last : u.Statements) → definition.last_choices (cased gs ds last) ≡ ds
  last-known [] [] last = refl
  last-known [] (d ∷ ds) last = refl
  last-known (g ∷ gs) ds last = last-known gs ds last

  abbrev serving : (at : ℕ) (among : Span) (n : Number) (cs ds : List u.Choice) (others : Bool) → Elab (Unit {0})
  serving at among n cs ds others =
      definition.choices_spans here.integers among cs >>= λ ss. definition.choices_spans here.integers among ds >>= λ ts.
      definition.are_apart [] (ss ++ ts) >> (unless StaticError at (others || definition.numbers_count n.span (ss ++ ts) == extent To n.span.least n.span.greatest)
      >> definition.may_be_spread at n.span ss)

  serve-known : (at : ℕ) (among : Span) (n : Number) (gs : List Chosen) (ds : List u.Choice) (last : u.Statements)
      → definition.choices_serve here.integers at among n (cased gs ds last) ≡ served here.integers at among n.span (all_choices gs) ds
  serve-known at among n gs ds last =
      ap (λ cs. serving at among n cs (definition.last_choices (cased gs ds last)) (definition.has_others (cased gs ds last))) (spread_known gs ds last)
      ∙ ap (λ cs. serving at among n (all_choices gs) cs (definition.has_others (cased gs ds last))) (last-known gs ds last)
      ∙ ap (serving at among n (all_choices gs) ds) (others-known gs ds last)

  abbrev codes_of : expressions.Computed → Number → Codes
  codes_of x n = definition.spread here.integers (definition.may_choose x n) n

  abbrev parted : List Chosen → u.Statements → bodies.Value × Codes → Elab bodies.Stmt
  parted gs last e = each (steps.alternative here e.1) gs >>= λ bs. definition.statements here last >>= λ y. given (bodies.case_of e.0 (steps.alternatives_before y bs))

  number-by : (at : ℕ) (x : expressions.Computed) (gs : List Chosen) (ds : List u.Choice) (last : u.Statements)
      → definition.statement here (u.case_of at (expressions.Value.computed x) (cased gs ds last))
      ≡ (steps.selection here at (expressions.Value.computed x) gs ds last >>= λ y. given (one y))
  unfolding definition.statement
  number-by at x gs ds last =
      go (computed here at x) (λ n. definition.choices_serve here.integers at (definition.may_choose x n) n (cased gs ds last))
      (λ n. served here.integers at (definition.may_choose x n) n.span (all_choices gs) ds) (λ n. serve-known at (definition.may_choose x n) n gs ds last)
    where
      inner : (n : Number) (q : Elab (Unit {0}))
          → (q >> (definition.alternatives here (codes_of x n) (cased gs ds last) >>= λ cs. given (one (bodies.case_of (bodies.elements n.digits) cs))))
          ≡ (((q >> chosen_by (bodies.elements n.digits) (codes_of x n)) >>= parted gs last) >>= λ y. given (one y))
      inner n (Err p) = refl
      inner n (Ok u) = selected-as-one (bodies.elements n.digits) (codes_of x n) gs ds last

      go : (r : Elab Number) (s t : Number → Elab (Unit {0})) → ((n : Number) → s n ≡ t n)
          → (r >>= λ n. s n >> (definition.alternatives here (codes_of x n) (cased gs ds last) >>= λ cs. given (one (bodies.case_of (bodies.elements n.digits) cs))))
          ≡ (((r >>= λ n. t n >> chosen_by (bodies.elements n.digits) (codes_of x n)) >>= parted gs last) >>= λ y. given (one y))
      go (Err p) s t h = refl
      go (Ok n) s t h = ap (λ q. q >> (definition.alternatives here (codes_of x n) (cased gs ds last) >>= λ cs. given (one (bodies.case_of (bodies.elements n.digits) cs)))) (h n) ∙ inner n (t n)

  -- ---- one on any other value

  value-by : (at : ℕ) (r : Elab bodies.Value) (gs : List Chosen) (ds : List u.Choice) (last : u.Statements)
      → (r >>= λ e. definition.alternatives here (each (choice at (value_width e))) (cased gs ds last) >>= λ cs. given (one (bodies.case_of e cs)))
      ≡ (((r >>= λ e. chosen_by e (each (choice at (value_width e)))) >>= parted gs last) >>= λ y. given (one y))
  value-by at (Err p) gs ds last = refl
  value-by at (Ok e) gs ds last = selected-as-one e (each (choice at (value_width e))) gs ds last

  selection-by : (at : ℕ) (v : expressions.Value) (gs : List Chosen) (ds : List u.Choice) (last : u.Statements)
      → definition.statement here (u.case_of at v (cased gs ds last)) ≡ (steps.selection here at v gs ds last >>= λ y. given (one y))
  unfolding definition.statement
  selection-by at (expressions.Value.computed x) gs ds last = number-by at x gs ds last
  selection-by at (expressions.Value.elements x) gs ds last = value-by at (value here at (expressions.Value.elements x)) gs ds last
  selection-by at (expressions.Value.position n) gs ds last = value-by at (value here at (expressions.Value.position n)) gs ds last
  selection-by at (expressions.Value.state_of x) gs ds last = value-by at (value here at (expressions.Value.state_of x)) gs ds last
  selection-by at (expressions.Value.state_of_variable k) gs ds last = value-by at (value here at (expressions.Value.state_of_variable k)) gs ds last
  selection-by at (expressions.Value.static_truth t) gs ds last = value-by at (value here at (expressions.Value.static_truth t)) gs ds last

  -- ---- case

  case-is : (x : Case) → units.statement_view (t.Case x)
      ≡ u.case_of (out-Case x).at (analysed.value_view (out-Case x).selector)
      (units.alternatives_of (units.alternatives_view (out-Case x).alternatives) (units.last_alternative (choices_view (out-Case x).last) (units.statements_of (units.statements_view (out-Case x).others))))
  case-is x =
      ap (λ y. units.statement_view (t.Case y)) (sym (roll-out-Case x))
      ∙ rows.view_case (out-Case x).at (out-Case x).selector (out-Case x).alternatives (out-Case x).last (out-Case x).others

  abbrev selected : Case → Elab bodies.Stmt
  selected x =
      steps.selection here (out-Case x).at (analysed.value_view (out-Case x).selector) (units.alternatives_view (out-Case x).alternatives) (choices_view (out-Case x).last)
      (units.statements_of (units.statements_view (out-Case x).others))

  pub case_by : (x : Case) → definition.statement here (units.statement_view (t.Case x)) ≡ (selected x >>= λ y. given (one y))
  case_by x =
      ap (definition.statement here) (case-is x)
      ∙ selection-by (out-Case x).at (analysed.value_view (out-Case x).selector) (units.alternatives_view (out-Case x).alternatives) (choices_view (out-Case x).last)
      (units.statements_of (units.statements_view (out-Case x).others))

  -- ---- loop

  pub loop_is : (x : Loop) → definition.statement here (units.statement_view (t.Loop x)) ≡ steps.turned here x.at (range_view x.range) (units.statements_of (units.statements_view x.statements))
  unfolding definition.statement
  loop_is x = ap (definition.statement here) (rows.view_loop x.at x.range x.statements)

-- ---- what is made of the parts

branches-made : (last : bodies.Branches) (bs : List Branch) → net.branches_of last bs ≡ steps.branches_before last (map branch_view bs)
branches-made last [] = refl
branches-made last (x ∷ xs) = ap (bodies.branch (net.test_view x.test) (net.statements_of x.statements.items)) (branches-made last xs)

alternatives-made : (last : bodies.Stmts) (bs : List Alternative) → net.alternatives_of last bs ≡ steps.alternatives_before last (map alternative_view bs)
alternatives-made last [] = refl
alternatives-made last (x ∷ xs) = ap (bodies.alternative (map net.choice_view x.choices.items) (net.statements_of x.statements.items)) (alternatives-made last xs)

pub if_made : (at : ℕ) (branches : Vec Branch Global) (otherwise : Option (Vec Statement Global)) → net.statement_view (s.If at branches otherwise) ≡ bodies.if_of (steps.branches_before (otherwise_view otherwise) (branches_view branches))
if_made at branches otherwise = view_if at branches otherwise ∙ ap bodies.if_of (branches-made (otherwise_view otherwise) branches.items)

pub case_made : (at : ℕ) (v : Value) (alternatives : Vec Alternative Global) (others : Vec Statement Global)
    → net.statement_view (s.Case at v alternatives others) ≡ bodies.case_of (net.value_view v) (steps.alternatives_before (net.statements_of others.items) (alternatives_view alternatives))
case_made at v alternatives others = view_case at v alternatives others ∙ ap (bodies.case_of (net.value_view v)) (alternatives-made (net.statements_of others.items) alternatives.items)

module _ (here : Site) where
  -- a turn of the same value, with the same statements
  pub same_turn : (now : bodies.Stmts) (i j : ℤ) (xs ys : List analysed_statement.Statement) → i ≡ j → xs ≡ ys
      → after now (definition.statements (in_loop here j) (units.statements_of (map units.statement_view ys)))
      ≡ after now (definition.statements (in_loop here i) (units.statements_of (map units.statement_view xs)))
  same_turn now i j xs ys h k =
      ap (λ m. after now (definition.statements (in_loop here m) (units.statements_of (map units.statement_view ys)))) (sym h)
      ∙ ap (λ zs. after now (definition.statements (in_loop here i) (units.statements_of (map units.statement_view zs)))) (sym k)

  pub turned_goes : (at : ℕ) (r : Range) (body : u.Statements) (is : List ℤ) (now : bodies.Stmts) → turns here.integers at r ≡ Ok is
      → after now (steps.turned here at r body) ≡ after now (steps.repeated here body is)
  turned_goes at r body is now h = ap (λ q. after now (q >>= λ is. steps.repeated here body is)) h
