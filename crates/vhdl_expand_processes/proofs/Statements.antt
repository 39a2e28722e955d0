-- The names that a body reads, or assigns, are those of its statements, one after another.
use Rattle.std.proofs.Common.{◌≡◌, List, [], ◌∷◌, ◌++◌, map, Option, Some, None, Vec, Global, refl, sym, ap, ◌∙◌}
use Rattle.std.specs.Prelude.{flat_map}
use Rattle.std.proofs.lemmas.List.{append_assoc}
use Rattle.vhdl_names_rules.specs.units.Expressions as u
use Rattle.vhdl_names_rules.specs.units.Statements as s
use Rattle.vhdl_names_trees.specs.views.Tests.{test_view}
use Rattle.vhdl_names_trees.specs.views.Vectors.{value_view}
use Rattle.vhdl_expand_rules.specs.declared.prefix.Sought.{Sought}
use Rattle.vhdl_expand_rules.specs.declared.prefix.Sought.TheVariants.{Read, Assigned}
use Rattle.vhdl_expand_rules.specs.Prefixes as definition
use Rattle.vhdl_expand_rules.specs.Prefixes.{read_ones, body_names, branches_names, alternatives_names}
use Rattle.vhdl_names_units.specs.declared.sequential.Statement.{Statement}
use Rattle.vhdl_names_units.specs.declared.sequential.Statement.TheVariants as t
use Rattle.vhdl_names_units.specs.declared.sequential.If.{If, out-If, roll-out-If}
use Rattle.vhdl_names_units.specs.declared.sequential.Case.{Case, out-Case, roll-out-Case}
use Rattle.vhdl_names_units.specs.declared.sequential.Loop.{Loop}
use Rattle.vhdl_names_units.specs.declared.sequential.Branch.{Branch}
use Rattle.vhdl_names_units.specs.declared.sequential.Alternative.{Alternative}
use Rattle.vhdl_names_units.specs.views.Answers.{choices_view}
use Rattle.vhdl_names_units.specs.views.Sequential.{statement_view, statements_view, statements_of, branch_view, branches_of, last_of, option_statements_view, alternative_view, last_alternative, alternatives_of}
use Rattle.vhdl_names_units.proofs.rows.Sequential as rows
use Rattle.vhdl_expand_processes.specs.declared.name.Gathered.{Gathered}
use Rattle.vhdl_expand_processes.specs.Adding.{Adds}
use Rattle.vhdl_expand_processes.specs.Bodies.{statement_names, branch_names, last_names, alternative_names}
use Rattle.vhdl_expand_processes.proofs.Gathering.{nothing_more, adds_along}

-- ---- what is read

pub is_read : (w : Sought) (ps : List u.SignalPart) (old new : Gathered) → w ≡ Read → Adds old new ps → Adds old new (read_ones w ps)
is_read w ps old new h k = adds_along old new ps (read_ones w ps) (ap (λ v. read_ones v ps) h) k

pub none_read : (w : Sought) (ps : List u.SignalPart) (found : Gathered) → w ≡ Assigned → Adds found found (read_ones w ps)
none_read w ps found h = nothing_more found (read_ones w ps) (ap (λ v. read_ones v ps) h)

-- ---- parts of a body

pub each_name : (w : Sought) (xs : List Statement) → body_names w (statements_of (map statement_view xs)) ≡ flat_map (statement_names w) xs
each_name w [] = refl
each_name w (x ∷ xs) = ap (λ ps. statement_names w x ++ ps) (each_name w xs)

each-branch : (w : Sought) (bs : List Branch) (last : s.Branches) → branches_names w (branches_of (map branch_view bs) last) ≡ flat_map (branch_names w) bs ++ branches_names w last
each-branch w [] last = refl
each-branch w (b ∷ bs) last =
    let test : List u.SignalPart = read_ones w (definition.test_names (test_view b.condition)) in
    ap (λ ps. test ++ (ps ++ branches_names w (branches_of (map branch_view bs) last))) (each_name w b.statements.items)
    ∙ ap (λ ps. test ++ (flat_map (statement_names w) b.statements.items ++ ps)) (each-branch w bs last)
    ∙ sym (append_assoc test (flat_map (statement_names w) b.statements.items) (flat_map (branch_names w) bs ++ branches_names w last))
    ∙ sym (append_assoc (branch_names w b) (flat_map (branch_names w) bs) (branches_names w last))

each-alternative : (w : Sought) (as' : List Alternative) (last : s.Alternatives)
    → alternatives_names w (alternatives_of (map alternative_view as') last) ≡ flat_map (alternative_names w) as' ++ alternatives_names w last
each-alternative w [] last = refl
each-alternative w (a ∷ as') last =
    ap (λ ps. ps ++ alternatives_names w (alternatives_of (map alternative_view as') last)) (each_name w a.statements.items)
    ∙ ap (λ ps. alternative_names w a ++ ps) (each-alternative w as' last)
    ∙ sym (append_assoc (alternative_names w a) (flat_map (alternative_names w) as') (alternatives_names w last))

last-names : (w : Sought) (choices : List s.Choice) (body : s.Statements) → alternatives_names w (last_alternative choices body) ≡ body_names w body
last-names w [] body = refl
last-names w (c ∷ choices) body = refl

each-else : (w : Sought) (o : Option (Vec Statement Global)) → branches_names w (last_of (option_statements_view o)) ≡ last_names w o
each-else w None = refl
each-else w (Some list) = each_name w list.items

pub if_names : (w : Sought) (x : If) → statement_names w (t.If x) ≡ flat_map (branch_names w) (out-If x).branches.items ++ last_names w (out-If x).otherwise
if_names w x =
    ap (λ y. statement_names w (t.If y)) (sym (roll-out-If x))
    ∙ ap (definition.statement_names w) (rows.view_if (out-If x).at (out-If x).branches (out-If x).otherwise)
    ∙ each-branch w (out-If x).branches.items (last_of (option_statements_view (out-If x).otherwise))
    ∙ ap (λ ps. flat_map (branch_names w) (out-If x).branches.items ++ ps) (each-else w (out-If x).otherwise)

pub case_names : (w : Sought) (x : Case) → statement_names w (t.Case x)
    ≡ read_ones w (definition.value_names (value_view (out-Case x).selector)) ++ (flat_map (alternative_names w) (out-Case x).alternatives.items ++ flat_map (statement_names w) (out-Case x).others.items)
case_names w x =
    let body : s.Statements = statements_of (statements_view (out-Case x).others) in
    let last : s.Alternatives = last_alternative (choices_view (out-Case x).last) body in
    ap (λ y. statement_names w (t.Case y)) (sym (roll-out-Case x))
    ∙ ap (definition.statement_names w) (rows.view_case (out-Case x).at (out-Case x).selector (out-Case x).alternatives (out-Case x).last (out-Case x).others)
    ∙ ap (λ ps. read_ones w (definition.value_names (value_view (out-Case x).selector)) ++ ps)
    (each-alternative w (out-Case x).alternatives.items last
    ∙ ap (λ ps. flat_map (alternative_names w) (out-Case x).alternatives.items ++ ps) (last-names w (choices_view (out-Case x).last) body ∙ each_name w (out-Case x).others.items))

pub loop_names : (w : Sought) (x : Loop) → statement_names w (t.Loop x) ≡ flat_map (statement_names w) x.statements.items
loop_names w x = ap (definition.statement_names w) (rows.view_loop x.at x.range x.statements) ∙ each_name w x.statements.items
