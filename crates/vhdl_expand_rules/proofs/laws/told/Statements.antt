-- What is refused of a body is told at one of its bytes.
use Rattle.std.proofs.Common.{ℕ, List, ◌++◌, length, All}
use Rattle.std.specs.Prelude.{flat_map, slice_get}
use Rattle.std.proofs.lemmas.List.Elements.{All-nil, All-head, All-tail}
use Rattle.rtl_model.specs.bodies.Fits.{value_width}
use Rattle.vhdl_names_rules.specs.units.Expressions as u
use Rattle.vhdl_names_rules.specs.units.Statements as s
use Rattle.vhdl_names_rules.specs.units.Bytes.{range_bytes, computed_bytes, chosen_bytes, part_bytes, place_bytes, value_bytes, test_bytes, given_bytes, choice_bytes, statement_bytes, statements_bytes, branches_bytes, alternatives_bytes}
use Rattle.vhdl_expand_rules.specs.declared.fault.ElabProblem.TheVariants.{TooMany}
use Rattle.vhdl_expand_rules.specs.Elab.{Told, Elab, each}
use Rattle.vhdl_expand_rules.specs.Integers.{turns}
use Rattle.vhdl_expand_rules.specs.Site.{Site, in_loop, place_elements, signal_elements, variable_elements, signal_kind, signal_bounds, variable_bounds}
use Rattle.vhdl_expand_rules.specs.Expressions as x
use Rattle.vhdl_expand_rules.specs.Statements.{given_to, elements_given, choice, may_choose, choices_serve, spread, statement, statements, branches, alternatives, statement_turns, statements_turns, branches_turns, alternatives_turns}
use Rattle.vhdl_expand_rules.proofs.Tells.{Tells, At, tells_none, tells_then, tells_all, all_flat}
use Rattle.vhdl_expand_rules.proofs.laws.Targets.{all_left, all_right}
use Rattle.vhdl_expand_rules.proofs.laws.told.Static.{turns_tells, place_tells, signal_tells, variable_tells, signal_bounds_tell, variable_bounds_tell}
use Rattle.vhdl_expand_rules.proofs.laws.told.Expressions.{computed_tells, row_tells, value_tells, test_tells, given_to_tells, elements_given_tell}
use Rattle.vhdl_expand_rules.proofs.laws.told.Choices.{ChoiceStands, choices_tell, serve_tells, spread_tells}

module _ (P : Told → Type 0) (many : (at : ℕ) → At P at → P (TooMany, at)) where
  mutual
    unfolding statement

    pub statement_tells : (y : s.Statement) (here : Site) → All (At P) (statement_bytes y) → Tells P (statement here y)
    statement_tells s.null_of here k = tells_none P _
    statement_tells (s.assign p g) here k =
        let place : All (At P) (place_bytes p) = all_left (At P) (place_bytes p) (given_bytes g) k in
        tells_then P (place_elements here p) _ (place_tells P here p place) (λ es.
        tells_then P (given_to here p.at (signal_kind here p.signal) (length es) g) _ (given_to_tells P here p.at (signal_kind here p.signal) (length es) g (All-head (At P) p.at (part_bytes p.part) place) (all_right (At P) (place_bytes p) (given_bytes g) k)) (λ v.
        tells_none P _))
    statement_tells (s.set at n part g) here k =
        let own : At P at = All-head (At P) at (part_bytes part ++ given_bytes g) k in
        let rest : All (At P) (part_bytes part ++ given_bytes g) = All-tail (At P) at (part_bytes part ++ given_bytes g) k in
        tells_then P (variable_elements here at n part) _ (variable_tells P here at n part own (all_left (At P) (part_bytes part) (given_bytes g) rest)) (λ es.
        tells_then P (given_to here at (slice_get here.variables n) (length es) g) _ (given_to_tells P here at (slice_get here.variables n) (length es) g own (all_right (At P) (part_bytes part) (given_bytes g) rest)) (λ v. tells_none P _))
    statement_tells (s.assign_in at y c g) here k =
        let own : At P at = All-head (At P) at (chosen_bytes c ++ given_bytes g) k in
        let rest : All (At P) (chosen_bytes c ++ given_bytes g) = All-tail (At P) at (chosen_bytes c ++ given_bytes g) k in
        tells_then P (signal_elements here at y u.whole) _ (signal_tells P here at y u.whole own (All-nil (At P))) (λ es.
        tells_then P (signal_bounds here at y) _ (signal_bounds_tell P here at y own) (λ b.
        tells_then P (x.chosen_row here at b c) _ (row_tells P here at b c own (all_left (At P) (chosen_bytes c) (given_bytes g) rest)) (λ r.
        tells_then P (elements_given here at r.spacing.len g) _ (elements_given_tell P here at r.spacing.len g own (all_right (At P) (chosen_bytes c) (given_bytes g) rest)) (λ v. tells_none P _))))
    statement_tells (s.set_in at n c g) here k =
        let own : At P at = All-head (At P) at (chosen_bytes c ++ given_bytes g) k in
        let rest : All (At P) (chosen_bytes c ++ given_bytes g) = All-tail (At P) at (chosen_bytes c ++ given_bytes g) k in
        tells_then P (variable_elements here at n u.whole) _ (variable_tells P here at n u.whole own (All-nil (At P))) (λ es.
        tells_then P (variable_bounds here at n) _ (variable_bounds_tell P here at n own) (λ b.
        tells_then P (x.chosen_row here at b c) _ (row_tells P here at b c own (all_left (At P) (chosen_bytes c) (given_bytes g) rest)) (λ r.
        tells_then P (elements_given here at r.spacing.len g) _ (elements_given_tell P here at r.spacing.len g own (all_right (At P) (chosen_bytes c) (given_bytes g) rest)) (λ v. tells_none P _))))
    statement_tells (s.if_of at bs) here k = tells_then P (branches here bs) _ (branches_tells bs here (All-tail (At P) at (branches_bytes bs) k)) (λ cs. tells_none P _)
    statement_tells (s.case_of at (u.Value.computed c) alts) here k =
        let own : At P at = All-head (At P) at (computed_bytes c ++ alternatives_bytes alts) k in
        let rest : All (At P) (computed_bytes c ++ alternatives_bytes alts) = All-tail (At P) at (computed_bytes c ++ alternatives_bytes alts) k in
        let behind : All (At P) (alternatives_bytes alts) = all_right (At P) (computed_bytes c) (alternatives_bytes alts) rest in
        tells_then P (x.computed here at c) _ (computed_tells P here at c own (all_left (At P) (computed_bytes c) (alternatives_bytes alts) rest)) (λ n.
        tells_then P (choices_serve here.integers at (may_choose c n) n alts) _ (serve_tells P here.integers at (may_choose c n) n alts (many at own) own behind) (λ served.
        tells_then P (alternatives here (spread here.integers (may_choose c n) n) alts) _
        (alternatives_tells alts here (spread here.integers (may_choose c n) n) (λ cs h. spread_tells P here.integers (may_choose c n) n cs h) behind) (λ cs. tells_none P _)))
    statement_tells (s.case_of at v alts) here k =
        let own : At P at = All-head (At P) at (value_bytes v ++ alternatives_bytes alts) k in
        let rest : All (At P) (value_bytes v ++ alternatives_bytes alts) = All-tail (At P) at (value_bytes v ++ alternatives_bytes alts) k in
        tells_then P (x.value here at v) _ (value_tells P here at v own (all_left (At P) (value_bytes v) (alternatives_bytes alts) rest)) (λ e.
        tells_then P (alternatives here (each (choice at (value_width e))) alts) _
        (alternatives_tells alts here (each (choice at (value_width e))) (λ cs h. choices_tell P at (value_width e) cs own) (all_right (At P) (value_bytes v) (alternatives_bytes alts) rest)) (λ cs. tells_none P _))
    statement_tells (s.for_of at r body) here k =
        let own : At P at = All-head (At P) at (range_bytes r ++ statements_bytes body) k in
        let rest : All (At P) (range_bytes r ++ statements_bytes body) = All-tail (At P) at (range_bytes r ++ statements_bytes body) k in
        tells_then P (turns here.integers at r) _ (turns_tells P here.integers at r (many at own) own (all_left (At P) (range_bytes r) (statements_bytes body) rest)) (λ is.
        tells_then P (each (λ i. statements (in_loop here i) body) is) _
        (tells_all P (λ i. statements (in_loop here i) body) is (λ i. statements_tells body (in_loop here i) (all_right (At P) (range_bytes r) (statements_bytes body) rest))) (λ ss. tells_none P _))

    pub statements_tells : (ys : s.Statements) (here : Site) → All (At P) (statements_bytes ys) → Tells P (statements here ys)
    statements_tells s.done here k = tells_none P _
    statements_tells (s.step y ys) here k =
        tells_then P (statement here y) _ (statement_tells y here (all_left (At P) (statement_bytes y) (statements_bytes ys) k)) (λ a.
        tells_then P (statements here ys) _ (statements_tells ys here (all_right (At P) (statement_bytes y) (statements_bytes ys) k)) (λ c. tells_none P _))

    pub branches_tells : (bs : s.Branches) (here : Site) → All (At P) (branches_bytes bs) → Tells P (branches here bs)
    branches_tells s.no_else here k = tells_none P _
    branches_tells (s.otherwise ys) here k = tells_then P (statements here ys) _ (statements_tells ys here k) (λ a. tells_none P _)
    branches_tells (s.branch t ys bs) here k =
        let rest : All (At P) (statements_bytes ys ++ branches_bytes bs) = all_right (At P) (test_bytes t) (statements_bytes ys ++ branches_bytes bs) k in
        tells_then P (x.test here t) _ (test_tells P here t (all_left (At P) (test_bytes t) (statements_bytes ys ++ branches_bytes bs) k)) (λ c.
        tells_then P (statements here ys) _ (statements_tells ys here (all_left (At P) (statements_bytes ys) (branches_bytes bs) rest)) (λ a.
        tells_then P (branches here bs) _ (branches_tells bs here (all_right (At P) (statements_bytes ys) (branches_bytes bs) rest)) (λ d. tells_none P _)))

    pub alternatives_tells : (alts : s.Alternatives) (here : Site) (codes : List s.Choice → Elab (List (List ℕ))) → ((cs : List s.Choice) → All (ChoiceStands P) cs → Tells P (codes cs)) → All (At P) (alternatives_bytes alts)
        → Tells P (alternatives here codes alts)
    alternatives_tells (s.others ys) here codes h k = tells_then P (statements here ys) _ (statements_tells ys here k) (λ a. tells_none P _)
    alternatives_tells (s.complete choices ys) here codes h k =
        tells_then P (statements here ys) _ (statements_tells ys here (all_right (At P) (flat_map choice_bytes choices) (statements_bytes ys) k)) (λ a. tells_none P _)
    alternatives_tells (s.alternative choices ys alts) here codes h k =
        let own : List ℕ = flat_map choice_bytes choices in
        let rest : All (At P) (statements_bytes ys ++ alternatives_bytes alts) = all_right (At P) own (statements_bytes ys ++ alternatives_bytes alts) k in
        tells_then P (codes choices) _ (h choices (all_flat (At P) choice_bytes choices (all_left (At P) own (statements_bytes ys ++ alternatives_bytes alts) k))) (λ cs.
        tells_then P (statements here ys) _ (statements_tells ys here (all_left (At P) (statements_bytes ys) (alternatives_bytes alts) rest)) (λ a.
        tells_then P (alternatives here codes alts) _ (alternatives_tells alts here codes h (all_right (At P) (statements_bytes ys) (alternatives_bytes alts) rest)) (λ d. tells_none P _)))

  -- ---- turns

  mutual
    unfolding statement_turns

    statement-turns : (y : s.Statement) (here : Site) → All (At P) (statement_bytes y) → Tells P (statement_turns here y)
    statement-turns (s.if_of at bs) here k = branches-turns bs here (All-tail (At P) at (branches_bytes bs) k)
    statement-turns (s.case_of at (u.Value.computed c) alts) here k =
        tells_then P (alternatives_turns here alts) _
        (alternatives-turns alts here (all_right (At P) (computed_bytes c) (alternatives_bytes alts) (All-tail (At P) at (computed_bytes c ++ alternatives_bytes alts) k))) (λ n. tells_none P _)
    statement-turns (s.case_of at v alts) here k =
        alternatives-turns alts here (all_right (At P) (value_bytes v) (alternatives_bytes alts) (All-tail (At P) at (value_bytes v ++ alternatives_bytes alts) k))
    statement-turns (s.for_of at r body) here k =
        let own : At P at = All-head (At P) at (range_bytes r ++ statements_bytes body) k in
        let rest : All (At P) (range_bytes r ++ statements_bytes body) = All-tail (At P) at (range_bytes r ++ statements_bytes body) k in
        tells_then P (turns here.integers at r) _ (turns_tells P here.integers at r (many at own) own (all_left (At P) (range_bytes r) (statements_bytes body) rest)) (λ is.
        tells_then P (each (λ i. statements_turns (in_loop here i) body) is) _
        (tells_all P (λ i. statements_turns (in_loop here i) body) is (λ i. turns_of_statements_tells body (in_loop here i) (all_right (At P) (range_bytes r) (statements_bytes body) rest))) (λ ns.
        tells_none P _))
    statement-turns _ here k = tells_none P _

    pub turns_of_statements_tells : (ys : s.Statements) (here : Site) → All (At P) (statements_bytes ys) → Tells P (statements_turns here ys)
    turns_of_statements_tells s.done here k = tells_none P _
    turns_of_statements_tells (s.step y ys) here k =
        tells_then P (statement_turns here y) _ (statement-turns y here (all_left (At P) (statement_bytes y) (statements_bytes ys) k)) (λ m.
        tells_then P (statements_turns here ys) _ (turns_of_statements_tells ys here (all_right (At P) (statement_bytes y) (statements_bytes ys) k)) (λ n. tells_none P _))

    branches-turns : (bs : s.Branches) (here : Site) → All (At P) (branches_bytes bs) → Tells P (branches_turns here bs)
    branches-turns s.no_else here k = tells_none P _
    branches-turns (s.otherwise ys) here k = turns_of_statements_tells ys here k
    branches-turns (s.branch t ys bs) here k =
        let rest : All (At P) (statements_bytes ys ++ branches_bytes bs) = all_right (At P) (test_bytes t) (statements_bytes ys ++ branches_bytes bs) k in
        tells_then P (statements_turns here ys) _ (turns_of_statements_tells ys here (all_left (At P) (statements_bytes ys) (branches_bytes bs) rest)) (λ m.
        tells_then P (branches_turns here bs) _ (branches-turns bs here (all_right (At P) (statements_bytes ys) (branches_bytes bs) rest)) (λ n. tells_none P _))

    alternatives-turns : (alts : s.Alternatives) (here : Site) → All (At P) (alternatives_bytes alts) → Tells P (alternatives_turns here alts)
    alternatives-turns (s.others ys) here k = turns_of_statements_tells ys here k
    alternatives-turns (s.complete choices ys) here k = turns_of_statements_tells ys here (all_right (At P) (flat_map choice_bytes choices) (statements_bytes ys) k)
    alternatives-turns (s.alternative choices ys alts) here k =
        let rest : All (At P) (statements_bytes ys ++ alternatives_bytes alts) = all_right (At P) (flat_map choice_bytes choices) (statements_bytes ys ++ alternatives_bytes alts) k in
        tells_then P (statements_turns here ys) _ (turns_of_statements_tells ys here (all_left (At P) (statements_bytes ys) (alternatives_bytes alts) rest)) (λ m.
        tells_then P (alternatives_turns here alts) _ (alternatives-turns alts here (all_right (At P) (statements_bytes ys) (alternatives_bytes alts) rest)) (λ n. tells_none P _))
