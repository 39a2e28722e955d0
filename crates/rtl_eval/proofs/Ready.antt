-- The parts of a statement are ready where it is, and what they do is what it does.
use Rattle.std.proofs.Common.{◌≡◌, ℕ, ◌+◌, ◌<◌, Vec, Global, Option, Some, None, List, [], length, map, drop, get_or, sym, ap, ◌∙◌, subst, All}
use Rattle.rtl_model.specs.bodies.Body as bodies
use Rattle.rtl_model.specs.bodies.Values.{Seen, value_of}
use Rattle.rtl_model.specs.bodies.Effect.{effect, stmt_effect, branches_effect, alternatives_effect}
use Rattle.rtl_model.specs.bodies.Variables.{variables_after, stmt_variables, branches_variables, alternatives_variables}
use Rattle.rtl_model.specs.bodies.Fits.{FitsStmt, Fits, FitsTest, FitsBranches, value_width}
use Rattle.rtl_net.specs.declared.body.Value.{Value}
use Rattle.rtl_net.specs.declared.body.Statement.{Statement}
use Rattle.rtl_net.specs.declared.body.Statement.TheVariants as s
use Rattle.rtl_net.specs.declared.body.Branch.{Branch}
use Rattle.rtl_net.specs.declared.body.Alternative.{Alternative}
use Rattle.rtl_net.specs.Bodies.{value_view, test_view, statement_view, statements_of, branches_of, alternatives_of}
use Rattle.rtl_net.proofs.Rows.{view_if, view_case}
use Rattle.rtl_drives.specs.Outcomes.{Outcome}
use Rattle.rtl_eval.specs.declared.seen.Valuations.{Valuations}
use Rattle.rtl_eval.specs.Seeing.{Within}
use Rattle.rtl_eval.specs.Running.{seen_by, IsReady, Does, IsFirstTrue, NoneIsTrue, met_by, chosen_by, FitsSomehow, else_of}
use Rattle.rtl_eval.proofs.Chains.{within-map, rest_at}
use Rattle.rtl_eval.proofs.Doing.{does_step, next_ready, does_nothing}
use Rattle.rtl_eval.proofs.Taking.{branch_taken, no_branch_taken, branch_fits, tests_fit, last_fits, alternative_taken, others_taken, alternative_fits, others_fit}

module _ (nets : Valuations) (o : Outcome) where
  abbrev seen : Seen
  seen = seen_by nets o

  -- what these statements, this statement, these branches and these alternatives do
  abbrev DoesAll : List Statement → Outcome → Type 0
  DoesAll ss new = Does (effect seen (statements_of ss)) (variables_after seen (statements_of ss)) o new

  abbrev DoesOne : bodies.Stmt → Outcome → Type 0
  DoesOne x new = Does (stmt_effect seen x) (stmt_variables seen x) o new

  abbrev DoesIf : bodies.Branches → Outcome → Type 0
  DoesIf bs new = Does (branches_effect seen bs) (branches_variables seen bs) o new

  abbrev DoesCase : List ℕ → bodies.Alternatives → Outcome → Type 0
  DoesCase value alts new = Does (alternatives_effect seen value alts) (alternatives_variables seen value alts) o new

  -- ---- kinds of statements

  pub part : (x : Statement) (v : bodies.Stmt) → IsReady nets o (λ scope. FitsStmt scope (statement_view x)) → statement_view x ≡ v → IsReady nets o (λ scope. FitsStmt scope v)
  part x v w e = subst (λ (y : bodies.Stmt). IsReady nets o (λ scope. FitsStmt scope y)) e w

  pub whole : (x : Statement) (v : bodies.Stmt) (new : Outcome) → statement_view x ≡ v → DoesOne v new → DoesOne (statement_view x) new
  whole x v new e d = subst (λ (y : bodies.Stmt). DoesOne y new) (sym e) d

  pub if_ready : (x : Statement) (at : ℕ) (branches : Vec Branch Global) (otherwise : Option (Vec Statement Global)) (bs : List Branch)
      → IsReady nets o (λ scope. FitsStmt scope (statement_view x)) → x ≡ s.If at branches otherwise → bs ≡ branches.items → IsReady nets o (λ scope. FitsBranches scope (branches_of (else_of otherwise) bs))
  if_ready x at branches otherwise bs w is e =
      subst (λ (ys : List Branch). IsReady nets o (λ scope. FitsBranches scope (branches_of (else_of otherwise) ys))) (sym e)
      (part x (bodies.if_of (branches_of (else_of otherwise) branches.items)) w (ap statement_view is ∙ view_if at branches otherwise))

  pub if_done : (x : Statement) (at : ℕ) (branches : Vec Branch Global) (otherwise : Option (Vec Statement Global)) (bs : List Branch) (new : Outcome)
      → x ≡ s.If at branches otherwise → bs ≡ branches.items → DoesIf (branches_of (else_of otherwise) bs) new → DoesOne (statement_view x) new
  if_done x at branches otherwise bs new is e d =
      whole x (bodies.if_of (branches_of (else_of otherwise) branches.items)) new (ap statement_view is ∙ view_if at branches otherwise)
      (subst (λ (ys : List Branch). DoesIf (branches_of (else_of otherwise) ys) new) e d)

  pub case_ready : (x : Statement) (at : ℕ) (selector : Value) (alternatives : Vec Alternative Global) (others : Vec Statement Global) (xs : List Alternative) (ss : List Statement)
      → IsReady nets o (λ scope. FitsStmt scope (statement_view x)) → x ≡ s.Case at selector alternatives others → xs ≡ alternatives.items → ss ≡ others.items
      → IsReady nets o (λ scope. FitsSomehow scope (alternatives_of (statements_of ss) xs))
  case_ready x at selector alternatives others xs ss w is e f =
      let v = bodies.case_of (value_view selector) (alternatives_of (statements_of others.items) alternatives.items) in
      subst (λ (ys : List Alternative). IsReady nets o (λ scope. FitsSomehow scope (alternatives_of (statements_of ss) ys))) (sym e)
      (subst (λ (ts : List Statement). IsReady nets o (λ scope. FitsSomehow scope (alternatives_of (statements_of ts) alternatives.items))) (sym f)
      (within-map seen (λ scope. (length o.entries ≡ length scope.targets) × FitsStmt scope v)
      (λ scope. (length o.entries ≡ length scope.targets) × FitsSomehow scope (alternatives_of (statements_of others.items) alternatives.items))
      (λ scope h. (h.0, (h.1.0, value_width (value_view selector), h.1.2))) (part x v w (ap statement_view is ∙ view_case at selector alternatives others))))

  pub case_done : (x : Statement) (at : ℕ) (selector : Value) (alternatives : Vec Alternative Global) (others : Vec Statement Global) (xs : List Alternative) (ss : List Statement) (value : List ℕ) (new : Outcome)
      → x ≡ s.Case at selector alternatives others → xs ≡ alternatives.items → ss ≡ others.items → value ≡ value_of seen (value_view selector)
      → DoesCase value (alternatives_of (statements_of ss) xs) new → DoesOne (statement_view x) new
  case_done x at selector alternatives others xs ss value new is e f same d =
      whole x (bodies.case_of (value_view selector) (alternatives_of (statements_of others.items) alternatives.items)) new (ap statement_view is ∙ view_case at selector alternatives others)
      (subst (λ (v : List ℕ). DoesCase v (alternatives_of (statements_of others.items) alternatives.items) new) same
      (subst (λ (ts : List Statement). DoesCase value (alternatives_of (statements_of ts) alternatives.items) new) f
      (subst (λ (ys : List Alternative). DoesCase value (alternatives_of (statements_of ss) ys) new) e d)))

  -- ---- a sequence

  module _ (ss : List Statement) (i : ℕ) (x : Statement) (l : i < length ss) (is : x ≡ get_or ss i x) where
    abbrev rest : bodies.Stmts
    rest = statements_of (drop (i + 1) ss)

    all_ready : IsReady nets o (λ scope. Fits scope (statements_of (drop i ss))) → IsReady nets o (λ scope. Fits scope (bodies.step (statement_view x) rest))
    all_ready w = subst (λ (ys : List Statement). IsReady nets o (λ scope. Fits scope (statements_of ys))) (rest_at ss i x l is) w

    pub first_ready : IsReady nets o (λ scope. Fits scope (statements_of (drop i ss))) → IsReady nets o (λ scope. FitsStmt scope (statement_view x))
    first_ready w =
        within-map seen (λ scope. (length o.entries ≡ length scope.targets) × Fits scope (bodies.step (statement_view x) rest))
        (λ scope. (length o.entries ≡ length scope.targets) × FitsStmt scope (statement_view x)) (λ scope h. (h.0, h.1.0)) (all_ready w)

    module _ (next : Outcome) (D : DoesOne (statement_view x) next) where
      pub rest_ready : IsReady nets o (λ scope. Fits scope (statements_of (drop i ss))) → IsReady nets next (λ scope. Fits scope rest)
      rest_ready w = next_ready nets (statement_view x) rest o next D (all_ready w)

      pub all_done : (last : Outcome) → Does (effect (seen_by nets next) rest) (variables_after (seen_by nets next) rest) next last → DoesAll (drop i ss) last
      all_done last E = subst (λ (ys : List Statement). DoesAll ys last) (sym (rest_at ss i x l is)) (does_step nets (statement_view x) rest o next D last E)

  pub none_left : (ss : List Statement) → ss ≡ [] → DoesAll ss o
  none_left ss e = subst (λ (ys : List Statement). DoesAll ys o) (sym e) (does_nothing o)

  -- ---- an if

  module _ (last : bodies.Branches) (bs : List Branch) where
    pub tests_ready : (sight : Seen) → sight ≡ seen → IsReady nets o (λ scope. FitsBranches scope (branches_of last bs)) → Within sight (λ scope. All (λ (b : Branch). FitsTest scope (test_view b.test)) bs)
    tests_ready sight e w =
        subst (λ (v : Seen). Within v (λ scope. All (λ (b : Branch). FitsTest scope (test_view b.test)) bs)) (sym e)
        (within-map seen (λ scope. (length o.entries ≡ length scope.targets) × FitsBranches scope (branches_of last bs)) (λ scope. All (λ (b : Branch). FitsTest scope (test_view b.test)) bs)
        (λ scope h. tests_fit scope last bs h.1) w)

    pub branch_ready : (k : ℕ) (d : Branch) (ss : List Statement) → k < length bs → ss ≡ (get_or bs k d).statements.items
        → IsReady nets o (λ scope. FitsBranches scope (branches_of last bs)) → IsReady nets o (λ scope. Fits scope (statements_of ss))
    branch_ready k d ss l e w =
        subst (λ (ts : List Statement). IsReady nets o (λ scope. Fits scope (statements_of ts))) (sym e)
        (within-map seen (λ scope. (length o.entries ≡ length scope.targets) × FitsBranches scope (branches_of last bs))
        (λ scope. (length o.entries ≡ length scope.targets) × Fits scope (statements_of (get_or bs k d).statements.items)) (λ scope h. (h.0, (branch_fits scope last bs k d l h.1).1)) w)

    pub last_ready : IsReady nets o (λ scope. FitsBranches scope (branches_of last bs)) → IsReady nets o (λ scope. FitsBranches scope last)
    last_ready w =
        within-map seen (λ scope. (length o.entries ≡ length scope.targets) × FitsBranches scope (branches_of last bs))
        (λ scope. (length o.entries ≡ length scope.targets) × FitsBranches scope last) (λ scope h. (h.0, last_fits scope last bs h.1)) w

    pub branch_done : (k : ℕ) (d : Branch) (ss : List Statement) (new : Outcome) → IsFirstTrue (map (met_by seen) bs) k → ss ≡ (get_or bs k d).statements.items
        → DoesAll ss new → DoesIf (branches_of last bs) new
    branch_done k d ss new first e does =
        let lead = branch_taken seen last bs k d first in
        let there = subst (λ (ts : List Statement). DoesAll ts new) e does in
        subst (λ (v : List ℕ). Does (branches_effect seen (branches_of last bs)) v o new) (sym lead.variables_are)
        (subst (λ (f : (place : ℕ) → Option ℕ). Does f (variables_after seen (statements_of (get_or bs k d).statements.items)) o new) (sym lead.effect_is) there)

    pub last_done : (new : Outcome) → NoneIsTrue (map (met_by seen) bs) → DoesIf last new → DoesIf (branches_of last bs) new
    last_done new none d =
        let lead = no_branch_taken seen last bs none in
        subst (λ (v : List ℕ). Does (branches_effect seen (branches_of last bs)) v o new) (sym lead.variables_are)
        (subst (λ (f : (place : ℕ) → Option ℕ). Does f (branches_variables seen last) o new) (sym lead.effect_is) d)

  module _ (otherwise : Option (Vec Statement Global)) where
    pub else_ready : (v : Vec Statement Global) (ss : List Statement) → otherwise ≡ Some v → ss ≡ v.items
        → IsReady nets o (λ scope. FitsBranches scope (else_of otherwise)) → IsReady nets o (λ scope. Fits scope (statements_of ss))
    else_ready v ss is e w =
        subst (λ (ts : List Statement). IsReady nets o (λ scope. Fits scope (statements_of ts))) (sym e)
        (subst (λ (x : Option (Vec Statement Global)). IsReady nets o (λ scope. FitsBranches scope (else_of x))) is w)

    pub else_done : (v : Vec Statement Global) (ss : List Statement) (new : Outcome) → otherwise ≡ Some v → ss ≡ v.items → DoesAll ss new → DoesIf (else_of otherwise) new
    else_done v ss new is e d =
        subst (λ (x : Option (Vec Statement Global)). DoesIf (else_of x) new) (sym is) (subst (λ (ts : List Statement). DoesAll ts new) e d)

    pub no_else_done : otherwise ≡ None → DoesIf (else_of otherwise) o
    no_else_done is = subst (λ (x : Option (Vec Statement Global)). DoesIf (else_of x) o) (sym is) (does_nothing o)

  -- ---- a case

  module _ (last : bodies.Stmts) (xs : List Alternative) where
    pub alternative_ready : (k : ℕ) (d : Alternative) (ss : List Statement) → k < length xs → ss ≡ (get_or xs k d).statements.items
        → IsReady nets o (λ scope. FitsSomehow scope (alternatives_of last xs)) → IsReady nets o (λ scope. Fits scope (statements_of ss))
    alternative_ready k d ss l e w =
        subst (λ (ts : List Statement). IsReady nets o (λ scope. Fits scope (statements_of ts))) (sym e)
        (within-map seen (λ scope. (length o.entries ≡ length scope.targets) × FitsSomehow scope (alternatives_of last xs))
        (λ scope. (length o.entries ≡ length scope.targets) × Fits scope (statements_of (get_or xs k d).statements.items))
        (λ scope h. (h.0, alternative_fits scope h.1.0 h.1.1 last xs k d l h.1.2)) w)

    pub others_ready : IsReady nets o (λ scope. FitsSomehow scope (alternatives_of last xs)) → IsReady nets o (λ scope. Fits scope last)
    others_ready w =
        within-map seen (λ scope. (length o.entries ≡ length scope.targets) × FitsSomehow scope (alternatives_of last xs))
        (λ scope. (length o.entries ≡ length scope.targets) × Fits scope last) (λ scope h. (h.0, others_fit scope h.1.0 h.1.1 last xs h.1.2)) w

    module _ (value : List ℕ) where
      pub alternative_done : (k : ℕ) (d : Alternative) (ss : List Statement) (new : Outcome) → IsFirstTrue (map (chosen_by value) xs) k → ss ≡ (get_or xs k d).statements.items
          → DoesAll ss new → DoesCase value (alternatives_of last xs) new
      alternative_done k d ss new first e does =
          let lead = alternative_taken seen value last xs k d first in
          let there = subst (λ (ts : List Statement). DoesAll ts new) e does in
          subst (λ (v : List ℕ). Does (alternatives_effect seen value (alternatives_of last xs)) v o new) (sym lead.variables_are)
          (subst (λ (f : (place : ℕ) → Option ℕ). Does f (variables_after seen (statements_of (get_or xs k d).statements.items)) o new) (sym lead.effect_is) there)

      pub others_done : (new : Outcome) → NoneIsTrue (map (chosen_by value) xs) → Does (effect seen last) (variables_after seen last) o new → DoesCase value (alternatives_of last xs) new
      others_done new none d =
          let lead = others_taken seen value last xs none in
          subst (λ (v : List ℕ). Does (alternatives_effect seen value (alternatives_of last xs)) v o new) (sym lead.variables_are)
          (subst (λ (f : (place : ℕ) → Option ℕ). Does f (variables_after seen last) o new) (sym lead.effect_is) d)
