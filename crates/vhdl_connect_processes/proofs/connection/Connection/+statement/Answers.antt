use Rattle.std.proofs.Common.{ℕ, Ok, List, All, Contains, Option, Vec, Global, sym, ap, ◌∙◌, subst, rules}
use Rattle.std.specs.Prelude.{option_map}
use Rattle.rtl_net.specs.declared.body.Statement as s
use Rattle.rtl_net.specs.declared.body.Statement.{Statement}
use Rattle.rtl_net.specs.declared.body.Branch.{Branch}
use Rattle.rtl_net.specs.declared.body.Alternative.{Alternative}
use Rattle.rtl_net.specs.declared.indices.Indices.{Indices}
use Rattle.rtl_net.specs.Bodies.{statement_view, otherwise_of}
use Rattle.rtl_net.specs.Indices.{numbers}
use Rattle.vhdl_expand_rules.specs.laws.Trees.{StmtAssigns, BranchesAssign}
use Rattle.vhdl_connect_processes.proofs.Driven.{Statements, Branches, Alternatives, statements_assign, if_assigns, case_assigns}
use Rattle.vhdl_connect_processes.proofs.Nodes.{on_both, on_three}
use Rattle.vhdl_connect_processes.proofs.Parts.{if_alone, if_with_else, case_becomes, branch_becomes, alternative_becomes}
use Rattle.vhdl_connect_processes.proofs.connection.Connection.+statement.Goals as goal

-- ---- what is assigned is driven

pub connect_branch-connect_statements-requires : goal.connect_branch-connect_statements-requires
connect_branch-connect_statements-requires t c =
    let driven = statements_assign (Contains c.args.self.now.drives.now) c.args.branch.now.statements.items c.requires.driven in
    (search (rules, s.the_lemmas), (c.requires.rising, subst (λ (xs : List Statement). Statements (Contains c.args.self.now.drives.now) xs) (sym c.deref_mut.ensures.value) driven))

pub connect_alternative-connect_statements-requires : goal.connect_alternative-connect_statements-requires
connect_alternative-connect_statements-requires t c =
    let driven = statements_assign (Contains c.args.self.now.drives.now) c.args.alternative.now.statements.items c.requires.driven in
    (search (rules, s.the_lemmas), (c.requires.rising, subst (λ (xs : List Statement). Statements (Contains c.args.self.now.drives.now) xs) (sym c.deref_mut.ensures.value) driven))

pub connect_statement-places_of-requires-clause-driven : goal.connect_statement-places_of-requires-clause-driven
connect_statement-places_of-requires-clause-driven t c =
    subst (λ (places : Indices). All (Contains c.args.self.now.drives.now) (numbers places)) (sym c.in-Assign.places-is)
    (subst (λ (x : Statement). StmtAssigns (Contains c.args.self.now.drives.now) (statement_view x)) c.in-Assign.is c.requires.driven)

pub connect_statement-places_of-requires-in-AssignAt-clause-driven : goal.connect_statement-places_of-requires-in-AssignAt-clause-driven
connect_statement-places_of-requires-in-AssignAt-clause-driven t c =
    subst (λ (places : Indices). All (Contains c.args.self.now.drives.now) (numbers places)) (sym c.in-AssignAt.places-is)
    (subst (λ (x : Statement). StmtAssigns (Contains c.args.self.now.drives.now) (statement_view x)) c.in-AssignAt.is c.requires.driven)

pub connect_statement-connect_branches-requires : goal.connect_statement-connect_branches-requires
connect_statement-connect_branches-requires t c =
    let driven = if_assigns (Contains c.args.self.now.drives.now) c.args.statement.now c.in-If.at c.in-If.branches c.in-If.otherwise c.in-If.is c.requires.driven in
    let same = c.deref_mut.ensures.value ∙ ap (λ v. v.items) c.in-If.branches-is in
    (search (rules, s.the_lemmas), (c.requires.rising, subst (λ (bs : List Branch). Branches (Contains c.args.self.now.drives.now) bs) (sym same) driven.0))

pub connect_statement-connect_statements-requires : goal.connect_statement-connect_statements-requires
connect_statement-connect_statements-requires t c =
    let driven = if_assigns (Contains c.args.self.now.drives.now) c.args.statement.now c.in-If.at c.in-If.branches c.in-If.otherwise c.in-If.is c.requires.driven in
    let last = subst (λ (o : Option (Vec Statement Global)). BranchesAssign (Contains c.args.self.now.drives.now) (otherwise_of (option_map (λ v. v.items) o))) (sym c.in-If.otherwise-is ∙ c.in-Some.is) driven.1 in (
      search (rules, s.the_lemmas),
      (
        c.requires.rising,
        subst (λ (xs : List Statement). Statements (Contains c.args.self.now.drives.now) xs) (sym c.deref_mut-in-Some.ensures.value)
            (statements_assign (Contains c.args.self.now.drives.now) c.in-Some.last.items last),
      ),
    )

pub connect_statement-connect_alternatives-requires : goal.connect_statement-connect_alternatives-requires
connect_statement-connect_alternatives-requires t c =
    let driven = case_assigns (Contains c.args.self.now.drives.now) c.args.statement.now c.in-Case.at c.in-Case.selector c.in-Case.alternatives c.in-Case.others c.in-Case.is c.requires.driven in
    let same = c.deref_mut-in-Case.ensures.value ∙ ap (λ v. v.items) c.in-Case.alternatives-is in
    (search (rules, s.the_lemmas), (c.requires.rising, subst (λ (as' : List Alternative). Alternatives (Contains c.args.self.now.drives.now) as') (sym same) driven.0))

pub connect_statement-connect_statements-requires-in-Case : goal.connect_statement-connect_statements-requires-in-Case
connect_statement-connect_statements-requires-in-Case t c =
    let driven = case_assigns (Contains c.args.self.now.drives.now) c.args.statement.now c.in-Case.at c.in-Case.selector c.in-Case.alternatives c.in-Case.others c.in-Case.is c.requires.driven in
    let same = c.deref_mut-in-Case-2.ensures.value ∙ ap (λ v. v.items) c.in-Case.others-is in (
      search (rules, s.the_lemmas),
      (
        c.requires.rising,
        subst (λ (xs : List Statement). Statements (Contains c.args.self.now.drives.now) xs) (sym same)
            (statements_assign (Contains c.args.self.now.drives.now) c.in-Case.others.items driven.1),
      ),
    )

-- ---- what they become

pub connect_branch-returns : goal.connect_branch-returns
connect_branch-returns t c =
    on_both c.connect_test.result c.connect_statements.result c.and.result c.and.ensures c.connect_test.ensures c.connect_statements.ensures
    (λ p n. branch_becomes c.args.self.now {A = ℕ} {E = ℕ} (Ok 0) c.args.branch.now c.connect_test.new.test _ _ p c.deref_mut.ensures.value
    (c.connect_statements.auto.statements ∙ c.deref_mut.ensures.len) n)

pub connect_alternative-returns : goal.connect_alternative-returns
connect_alternative-returns t c =
    alternative_becomes c.args.self.now c.connect_statements.result c.args.alternative.now _ _ c.deref_mut.ensures.value
    (c.connect_statements.auto.statements ∙ c.deref_mut.ensures.len) c.connect_statements.ensures

pub connect_statement-returns-in-None : goal.connect_statement-returns-in-None
connect_statement-returns-in-None t c =
    if_alone c.args.self.now c.args.statement.now c.in-If.at c.in-If.branches _ c.in-If.otherwise _ _ _ c.in-If.is c.in-If.otherwise-is c.in-None.is
    (c.deref_mut.ensures.value ∙ ap (λ v. v.items) c.in-If.branches-is) (c.connect_branches.auto.branches ∙ c.deref_mut.ensures.len) c.in_ok-connect_branches-in-If.ensures

pub connect_statement-returns-in-Some : goal.connect_statement-returns-in-Some
connect_statement-returns-in-Some t c =
    if_with_else c.args.self.now c.connect_statements.result c.args.statement.now c.in-If.at c.in-If.branches _ c.in-If.otherwise _ c.in-Some.last _ _ _ _ _ c.in-If.is c.in-If.otherwise-is c.in-Some.is
    (c.deref_mut.ensures.value ∙ ap (λ v. v.items) c.in-If.branches-is) (c.connect_branches.auto.branches ∙ c.deref_mut.ensures.len) c.in_ok-connect_branches-in-If.ensures
    c.deref_mut-in-Some.ensures.value (c.connect_statements.auto.statements ∙ c.deref_mut-in-Some.ensures.len) c.connect_statements.ensures

pub connect_statement-returns-in-Case : goal.connect_statement-returns-in-Case
connect_statement-returns-in-Case t c =
    on_three c.connect_value-in-Case.result c.connect_alternatives.result c.connect_statements-in-Case.result c.and.result c.and-in-Case.result c.and.ensures c.and-in-Case.ensures
    c.connect_value-in-Case.ensures c.connect_alternatives.ensures c.connect_statements-in-Case.ensures
    (λ v l n. case_becomes c.args.self.now {A = ℕ} {E = ℕ} (Ok 0) c.args.statement.now c.in-Case.at c.in-Case.selector _ _ c.in-Case.alternatives _ c.in-Case.others _ _ _ _ _ c.in-Case.is
    c.in-Case.selector-is v (c.deref_mut-in-Case.ensures.value ∙ ap (λ v. v.items) c.in-Case.alternatives-is) (c.connect_alternatives.auto.alternatives ∙ c.deref_mut-in-Case.ensures.len) l
    (c.deref_mut-in-Case-2.ensures.value ∙ ap (λ v. v.items) c.in-Case.others-is) (c.connect_statements-in-Case.auto.statements ∙ c.deref_mut-in-Case-2.ensures.len) n)
