-- The edge first, in the last branch of an if.
use Rattle.std.proofs.Common.{◌≡◌, ℕ, true, false, List, [], ◌∷◌, ◌++◌, map, Vec, Global, Option, Some, None, refl, ap, sym, ◌∙◌}
use Rattle.std.specs.Prelude.{IsTrue, is_some, option_map}
use Rattle.vhdl_names_rules.specs.units.Expressions.{Test}
use Rattle.vhdl_names_rules.specs.units.Statements as s
use Rattle.vhdl_names_rules.specs.Rules.{◌>>=◌}
use Rattle.vhdl_names_rules.specs.Statements.{alone}
use Rattle.vhdl_names_rules.specs.Edges.{Edge, conditions, at_edge}
use Rattle.vhdl_names_rules.specs.Registers.{gate_under, edge_first, last_edge_first}
use Rattle.vhdl_names_rules.proofs.laws.Rules.{some_is}
use Rattle.vhdl_names_trees.specs.views.Tests.{test_view}
use Rattle.vhdl_names_units.specs.declared.sequential.Branch.{Branch}
use Rattle.vhdl_names_units.specs.declared.sequential.If.{If, out-If, roll-If, out-roll-If}
use Rattle.vhdl_names_units.specs.declared.sequential.Statement.{Statement}
use Rattle.vhdl_names_units.specs.views.Sequential.{Guarded, body_view, branch_view, branches_view, branches_of, option_statements_view, statements_of}
use Rattle.vhdl_names_units.specs.views.Sequential.{last_of as last_of_if}
use Rattle.vhdl_names_registers.specs.Branching.{branch_alone, branches_in}
use Rattle.vhdl_names_registers.specs.Looking.{has_beside, is_gated}
use Rattle.vhdl_names_registers.specs.Taking.{all_joined, gated_taken}
use Rattle.vhdl_names_registers.proofs.Taking.{beside, gated_is_taken}

-- a branch that has no other
abbrev pub alone_of : Guarded → s.Branches
alone_of g = s.branch g.condition (statements_of g.statements) s.no_else

-- where nothing stands beside an edge all stays
pub ungated : (at : ℕ) (t : Test) (xs : s.Statements) (o : Option (Edge × List Test)) → has_beside o ≡ false → gate_under at t xs o ≡ s.branch t xs s.no_else
ungated at t xs None h = refl
ungated at t xs (Some (e, [])) h = refl
ungated at t xs (Some (e, r ∷ rs)) h = absurd cc

pub gated_first : (at : ℕ) (t : Test) (xs : s.Statements) (e : Edge) (r : Test) → IsTrue (is_gated t) → Some (e, r) ≡ gated_taken (conditions t)
    → at_edge e (alone (s.if_of at (s.branch r xs s.no_else))) ≡ edge_first at t xs
gated_first at t xs e r h is =
    let k = beside (conditions t) h in
    let g : Edge × List Test = (k.found, k.first ∷ k.others) in
    let joined : Some (e, r) ≡ option_map (λ (t : Test). (k.found, t)) (all_joined (k.first ∷ k.others)) =
    is ∙ ap (λ (o : Option (Edge × List Test)). o >>= λ g. option_map (λ t. (g.0, t)) (all_joined g.1)) (gated_is_taken (conditions t) g k.is) in
    ap (λ (p : Edge × Test). at_edge p.0 (alone (s.if_of at (s.branch p.1 xs s.no_else)))) (some_is (e, r) _ joined)
    ∙ sym (ap (gate_under at t xs) k.is)

-- ---- the last branch

pub first_with_else : (at : ℕ) (bs : List Guarded) (o : Option (List s.Statement)) → is_some o ≡ true → last_edge_first at (branches_of bs (last_of_if o)) ≡ branches_of bs (last_of_if o)
first_with_else at bs None h = absurd cc
first_with_else at [] (Some xs) h = refl
first_with_else at (b ∷ []) (Some xs) h = refl
first_with_else at (b ∷ c ∷ bs) (Some xs) h = ap (s.branch b.condition (statements_of b.statements)) (first_with_else at (c ∷ bs) (Some xs) h)

pub first_of_last : (at : ℕ) (bs : List Branch) (b d : Branch) → branch_alone d ≡ edge_first at (test_view b.condition) (body_view b.statements)
    → branches_of (map branch_view (bs ++ d ∷ [])) s.no_else ≡ last_edge_first at (branches_of (map branch_view (bs ++ b ∷ [])) s.no_else)
first_of_last at [] b d h = h
first_of_last at (x ∷ []) b d h = ap (s.branch (test_view x.condition) (body_view x.statements)) h
first_of_last at (x ∷ y ∷ bs) b d h = ap (s.branch (test_view x.condition) (body_view x.statements)) (first_of_last at (y ∷ bs) b d h)

-- ---- in an if

abbrev pub with_branches : If → Vec Branch Global → If
with_branches x bs = roll-If (record { at = (out-If x).at; branches = bs; otherwise = (out-If x).otherwise })

module _ (x : If) (bs : Vec Branch Global) where
  start_kept : (out-If (with_branches x bs)).at ≡ (out-If x).at
  start_kept = ap (λ r. r.at) (out-roll-If (record { at = (out-If x).at; branches = bs; otherwise = (out-If x).otherwise }))

  branches_given : (out-If (with_branches x bs)).branches ≡ bs
  branches_given = ap (λ r. r.branches) (out-roll-If (record { at = (out-If x).at; branches = bs; otherwise = (out-If x).otherwise }))

  else_kept : (out-If (with_branches x bs)).otherwise ≡ (out-If x).otherwise
  else_kept = ap (λ r. r.otherwise) (out-roll-If (record { at = (out-If x).at; branches = bs; otherwise = (out-If x).otherwise }))

no_else_in : (o : Option (Vec Statement Global)) → is_some o ≡ false → last_of_if (option_statements_view o) ≡ s.no_else
no_else_in None h = refl
no_else_in (Some xs) h = absurd cc

branches_alone : (x : If) (bs : Vec Branch Global) → is_some (out-If x).otherwise ≡ false → branches_in (with_branches x bs) ≡ branches_of (branches_view bs) s.no_else
branches_alone x bs h =
    ap (λ v. branches_of (branches_view v) (last_of_if (option_statements_view (out-If (with_branches x bs)).otherwise))) (branches_given x bs)
    ∙ (ap (λ o. branches_of (branches_view bs) (last_of_if (option_statements_view o))) (else_kept x bs) ∙ ap (branches_of (branches_view bs)) (no_else_in (out-If x).otherwise h))

-- of an if without else, with these branches
branches_without : (x : If) (bs : List Branch) → is_some (out-If x).otherwise ≡ false → (out-If x).branches.items ≡ bs → branches_in x ≡ branches_of (map branch_view bs) s.no_else
branches_without x bs h is =
    ap (λ ds. branches_of (map branch_view ds) (last_of_if (option_statements_view (out-If x).otherwise))) is
    ∙ ap (branches_of (map branch_view bs)) (no_else_in (out-If x).otherwise h)

pub first_in_none : (x : If) (left : Vec Branch Global) → is_some (out-If x).otherwise ≡ false → (out-If x).branches.items ≡ [] → left.items ≡ []
    → branches_in (with_branches x left) ≡ last_edge_first (out-If x).at (branches_in x)
first_in_none x left h is none =
    branches_alone x left h
    ∙ (ap (λ (bs : List Branch). branches_of (map branch_view bs) s.no_else) none ∙ sym (ap (last_edge_first (out-If x).at) (branches_without x [] h is)))

pub first_in_last : (x : If) (left pushed : Vec Branch Global) (b d : Branch) → is_some (out-If x).otherwise ≡ false → (out-If x).branches.items ≡ left.items ++ b ∷ []
    → pushed.items ≡ (out-If (with_branches x left)).branches.items ++ d ∷ []
    → branch_alone d ≡ edge_first (out-If (with_branches x left)).at (test_view b.condition) (body_view b.statements)
    → branches_in (with_branches (with_branches x left) pushed) ≡ last_edge_first (out-If x).at (branches_in x)
first_in_last x left pushed b d h is pushes first =
    branches_alone (with_branches x left) pushed (ap is_some (else_kept x left) ∙ h)
    ∙ (ap (λ (bs : List Branch). branches_of (map branch_view bs) s.no_else) (pushes ∙ ap (λ (v : Vec Branch Global). v.items ++ d ∷ []) (branches_given x left))
    ∙ (first_of_last (out-If x).at left.items b d (first ∙ ap (λ at. edge_first at (test_view b.condition) (body_view b.statements)) (start_kept x left))
    ∙ sym (ap (last_edge_first (out-If x).at) (branches_without x (left.items ++ b ∷ []) h is))))
