-- What statements cost, by their parts, in the order in which the code comes to them.
use Rattle.std.proofs.Common.{◌≡◌, ℕ, List, [], ◌∷◌, length, map, Option, Some, None, Vec, Global, Ok, Err, refl, sym, ap, ◌∙◌}
use Rattle.std.specs.Prelude.{ℤ, Contains}
use Rattle.vhdl_names_rules.specs.units.Expressions.{Range, Value}
use Rattle.vhdl_names_rules.specs.units.Statements as u
use Rattle.vhdl_names_trees.specs.views.Integers.{range_view}
use Rattle.vhdl_names_trees.specs.views.Vectors.{value_view}
use Rattle.vhdl_tree.specs.declared.operator.Direction.{Direction}
use Rattle.vhdl_names_units.specs.declared.sequential.Statement.{Statement}
use Rattle.vhdl_names_units.specs.declared.sequential.Statement.TheVariants as t
use Rattle.vhdl_names_units.specs.declared.sequential.Branch.{Branch}
use Rattle.vhdl_names_units.specs.declared.sequential.Alternative.{Alternative}
use Rattle.vhdl_names_units.specs.declared.sequential.If.{If, out-If, roll-out-If}
use Rattle.vhdl_names_units.specs.declared.sequential.Case.{Case, out-Case, roll-out-Case}
use Rattle.vhdl_names_units.specs.declared.sequential.Loop.{Loop}
use Rattle.vhdl_names_units.specs.views.Answers.{choices_view}
use Rattle.vhdl_names_units.specs.views.Sequential as units
use Rattle.vhdl_names_units.specs.views.Sequential.{Guarded, Chosen}
use Rattle.vhdl_names_units.proofs.rows.Sequential as rows
use Rattle.vhdl_expand_rules.specs.declared.fault.ElabProblem.TheVariants.{TooMany}
use Rattle.vhdl_expand_rules.specs.Elab.{Elab, ◌>>=◌, MayTell, Told}
use Rattle.vhdl_expand_rules.specs.Integers.{turns, numbers_from}
use Rattle.vhdl_expand_rules.specs.Site.{Site, in_loop}
use Rattle.vhdl_expand_rules.proofs.Steps.{given}
use Rattle.vhdl_elab_rules.specs.Limits.{Counts}
use Rattle.vhdl_expand_tree.specs.Costs as costs
use Rattle.vhdl_expand_tree.specs.Costs.{no_costs, a_statement, spent}
use Rattle.vhdl_expand_tree.proofs.Charging.{plus-none, plus-assoc, spent-none}
use Rattle.vhdl_expand.specs.Unrolled.{both, paid, together, spread_costs, statement_costs, statements_costs, branches_costs, alternatives_costs, guarded_costs, chosen_costs}
use Rattle.vhdl_expand_tree.proofs.Alike.{Alike, alike_same, alike_trans, tells, tells_first}
use Rattle.vhdl_expand_rules.proofs.Parameters.{counted-length}
use Rattle.vhdl_expand.proofs.Paying.{paid_go, paid_stop}

pub both-none : (q : Elab Counts) → both (given no_costs) q ≡ q
both-none (Ok c) = ap given (plus-none c)
both-none (Err told) = refl

pub both-assoc : (p q r : Elab Counts) → both (both p q) r ≡ both p (both q r)
both-assoc (Ok a) (Ok b) (Ok c) = ap given (plus-assoc a b c)
both-assoc (Ok a) (Ok b) (Err told) = refl
both-assoc (Ok a) (Err told) r = refl
both-assoc (Err told) q r = refl

-- ---- statements of the code

pub if_view : (x : If) → units.statement_view (t.If x) ≡ u.if_of (out-If x).at (units.branches_of (units.branches_view (out-If x).branches) (units.last_of (units.option_statements_view (out-If x).otherwise)))
if_view x = ap (λ y. units.statement_view (t.If y)) (sym (roll-out-If x)) ∙ rows.view_if (out-If x).at (out-If x).branches (out-If x).otherwise

pub case_view : (x : Case) → units.statement_view (t.Case x)
    ≡ u.case_of (out-Case x).at (value_view (out-Case x).selector)
    (units.alternatives_of (units.alternatives_view (out-Case x).alternatives) (units.last_alternative (choices_view (out-Case x).last) (units.statements_of (units.statements_view (out-Case x).others))))
case_view x =
    ap (λ y. units.statement_view (t.Case y)) (sym (roll-out-Case x))
    ∙ rows.view_case (out-Case x).at (out-Case x).selector (out-Case x).alternatives (out-Case x).last (out-Case x).others

pub loop_view : (x : Loop) → units.statement_view (t.Loop x) ≡ u.for_of x.at (range_view x.range) (units.statements_of (units.statements_view x.statements))
loop_view x = rows.view_loop x.at x.range x.statements

module _ (here : Site) where
  pub statements_together : (xs : List u.Statement) → statements_costs here (units.statements_of xs) ≡ together (statement_costs here) xs
  unfolding statements_costs
  statements_together [] = refl
  statements_together (x ∷ xs) = ap (both (statement_costs here x)) (statements_together xs)

  branches-together : (gs : List Guarded) (last : u.Branches) → branches_costs here (units.branches_of gs last) ≡ both (together (guarded_costs here) gs) (branches_costs here last)
  unfolding branches_costs
  branches-together [] last = sym (both-none (branches_costs here last))
  branches-together (g ∷ gs) last =
      ap (both (guarded_costs here g)) (branches-together gs last) ∙ sym (both-assoc (guarded_costs here g) (together (guarded_costs here) gs) (branches_costs here last))

  alternatives-together : (gs : List Chosen) (last : u.Alternatives) → alternatives_costs here (units.alternatives_of gs last) ≡ both (together (chosen_costs here) gs) (alternatives_costs here last)
  unfolding alternatives_costs
  alternatives-together [] last = sym (both-none (alternatives_costs here last))
  alternatives-together (g ∷ gs) last =
      ap (both (chosen_costs here g)) (alternatives-together gs last) ∙ sym (both-assoc (chosen_costs here g) (together (chosen_costs here) gs) (alternatives_costs here last))

  last-costs : (cs : List u.Choice) (body : u.Statements) → alternatives_costs here (units.last_alternative cs body) ≡ statements_costs here body
  unfolding alternatives_costs
  last-costs [] body = refl
  last-costs (c ∷ cs) body = refl

  pub choose_costs : (at : ℕ) (gs : List Guarded) (last : u.Branches)
      → statement_costs here (u.if_of at (units.branches_of gs last)) ≡ both (given a_statement) (both (together (guarded_costs here) gs) (branches_costs here last))
  unfolding statement_costs
  choose_costs at gs last = ap (both (given a_statement)) (branches-together gs last)

  pub last_none : branches_costs here (units.last_of None) ≡ Ok no_costs
  unfolding branches_costs
  last_none = refl

  pub last_some : (xs : List u.Statement) → branches_costs here (units.last_of (Some xs)) ≡ statements_costs here (units.statements_of xs)
  unfolding branches_costs
  last_some xs = refl

  pub loop_costs : (at : ℕ) (r : Range) (body : u.Statements) (is : List ℤ) (count : ℕ) → turns here.integers at r ≡ Ok is → length is ≡ count
      → statement_costs here (u.for_of at r body) ≡ both (given (costs.turns count)) (together (λ i. statements_costs (in_loop here i) body) is)
  unfolding statement_costs
  loop_costs at r body is count h n =
      ap (λ q. q >>= λ js. both (given (costs.turns (length js))) (together (λ i. statements_costs (in_loop here i) body) js)) h
      ∙ ap (λ c. both (given (costs.turns c)) (together (λ i. statements_costs (in_loop here i) body) is)) n

  pub loop_stops : {told : Told} → (at : ℕ) (r : Range) (body : u.Statements) → turns here.integers at r ≡ Err told → statement_costs here (u.for_of at r body) ≡ Err told
  unfolding statement_costs
  loop_stops at r body h = ap (λ q. q >>= λ js. both (given (costs.turns (length js))) (together (λ i. statements_costs (in_loop here i) body) js)) h

  -- ---- statements of the code

  pub if_costs : (x : If) → statement_costs here (units.statement_view (t.If x))
      ≡ statement_costs here (u.if_of (out-If x).at (units.branches_of (units.branches_view (out-If x).branches) (units.last_of (units.option_statements_view (out-If x).otherwise))))
  if_costs x = ap (statement_costs here) (if_view x)

  pub case_costs : (x : Case) → statement_costs here (units.statement_view (t.Case x))
      ≡ statement_costs here (u.case_of (out-Case x).at (value_view (out-Case x).selector)
      (units.alternatives_of (units.alternatives_view (out-Case x).alternatives) (units.last_alternative (choices_view (out-Case x).last) (units.statements_of (units.statements_view (out-Case x).others)))))
  case_costs x = ap (statement_costs here) (case_view x)

  pub loop_view_costs : (x : Loop) → statement_costs here (units.statement_view (t.Loop x))
      ≡ statement_costs here (u.for_of x.at (range_view x.range) (units.statements_of (units.statements_view x.statements)))
  loop_view_costs x = ap (statement_costs here) (rows.view_loop x.at x.range x.statements)

  -- ---- the same lists, read through references

  pub same_list : (n : Counts) (xs ys : List Statement) → xs ≡ ys
      → paid n (statements_costs here (units.statements_of (map units.statement_view ys))) ≡ paid n (statements_costs here (units.statements_of (map units.statement_view xs)))
  same_list n xs ys h = ap (λ zs. paid n (statements_costs here (units.statements_of (map units.statement_view zs)))) (sym h)

  pub same_branches : (n : Counts) (xs ys : List Branch) → xs ≡ ys
      → paid n (together (guarded_costs here) (map units.branch_view ys)) ≡ paid n (together (guarded_costs here) (map units.branch_view xs))
  same_branches n xs ys h = ap (λ zs. paid n (together (guarded_costs here) (map units.branch_view zs))) (sym h)

  pub same_alternatives : (n : Counts) (xs ys : List Alternative) → xs ≡ ys
      → paid n (together (chosen_costs here) (map units.alternative_view ys)) ≡ paid n (together (chosen_costs here) (map units.alternative_view xs))
  same_alternatives n xs ys h = ap (λ zs. paid n (together (chosen_costs here) (map units.alternative_view zs))) (sym h)

  pub same_spread : (n : Counts) (at : ℕ) (v : Value) (last : u.Alternatives) (xs ys : List Alternative) → xs ≡ ys
      → paid n (given (spread_costs here at v (units.alternatives_of (map units.alternative_view ys) last))) ≡ paid n (given (spread_costs here at v (units.alternatives_of (map units.alternative_view xs) last)))
  same_spread n at v last xs ys h = ap (λ zs. paid n (given (spread_costs here at v (units.alternatives_of (map units.alternative_view zs) last)))) (sym h)

  pub same_turn : (n : Counts) (body : u.Statements) (i j : ℤ) → i ≡ j → paid n (statements_costs (in_loop here j) body) ≡ paid n (statements_costs (in_loop here i) body)
  same_turn n body i j h = ap (λ k. paid n (statements_costs (in_loop here k) body)) (sym h)

  -- ---- an if statement: itself, its branches, and what it does else

  module _ (at : ℕ) (n : Counts) (gs : List Guarded) (last : u.Branches) where
    pub choose_stops : {bytes : List ℕ} {told : Told} → MayTell bytes (spent 0 n a_statement) told → MayTell bytes (paid n (statement_costs here (u.if_of at (units.branches_of gs last)))) told
    choose_stops h = paid_stop _ n (given a_statement) _ (alike_same (ap (paid n) (choose_costs at gs last))) h

    choose-begins : (m : Counts) → spent 0 n a_statement ≡ Ok m
        → Alike (paid n (statement_costs here (u.if_of at (units.branches_of gs last)))) (paid m (both (together (guarded_costs here) gs) (branches_costs here last)))
    choose-begins m h = paid_go _ n m (given a_statement) _ (alike_same (ap (paid n) (choose_costs at gs last))) h

    pub branches_stop : {bytes : List ℕ} {told : Told} → (m : Counts) → spent 0 n a_statement ≡ Ok m → MayTell bytes (paid m (together (guarded_costs here) gs)) told → MayTell bytes (paid n (statement_costs here (u.if_of at (units.branches_of gs last)))) told
    branches_stop m h k = paid_stop _ m (together (guarded_costs here) gs) (branches_costs here last) (choose-begins m h) k

    pub branches_go : (m k : Counts) → spent 0 n a_statement ≡ Ok m → paid m (together (guarded_costs here) gs) ≡ Ok k
        → Alike (paid n (statement_costs here (u.if_of at (units.branches_of gs last)))) (paid k (branches_costs here last))
    branches_go m k h g = paid_go _ m k (together (guarded_costs here) gs) (branches_costs here last) (choose-begins m h) g

  pub no_else : (at : ℕ) (n m k : Counts) (gs : List Guarded) (x : Option (Vec Statement Global)) → x ≡ None → spent 0 n a_statement ≡ Ok m → paid m (together (guarded_costs here) gs) ≡ Ok k
      → paid n (statement_costs here (u.if_of at (units.branches_of gs (units.last_of (units.option_statements_view x))))) ≡ Ok k
  no_else at n m k gs x none h g =
      (branches_go at n gs (units.last_of (units.option_statements_view x)) m k h g).gives k
      (ap (λ o. paid k (branches_costs here (units.last_of (units.option_statements_view o)))) none ∙ ap (paid k) last_none ∙ spent-none 0 k)

  pub some_else : (at : ℕ) (n m k : Counts) (gs : List Guarded) (x : Option (Vec Statement Global)) (list : Vec Statement Global) → x ≡ Some list → spent 0 n a_statement ≡ Ok m
      → paid m (together (guarded_costs here) gs) ≡ Ok k → (zs : List Statement) → zs ≡ list.items
      → Alike (paid n (statement_costs here (u.if_of at (units.branches_of gs (units.last_of (units.option_statements_view x)))))) (paid k (statements_costs here (units.statements_of (map units.statement_view zs))))
  some_else at n m k gs x list some h g zs same =
      alike_trans (branches_go at n gs (units.last_of (units.option_statements_view x)) m k h g)
      (alike_same (ap (λ o. paid k (branches_costs here (units.last_of (units.option_statements_view o)))) some ∙ ap (paid k) (last_some (units.statements_view list)) ∙ same_list k zs list.items same))

  -- ---- a case statement: itself, the numbers that it spreads, its alternatives, and what it does otherwise

  module _ (at : ℕ) (v : Value) (n : Counts) (gs : List Chosen) (cs : List u.Choice) (body : u.Statements) where
    abbrev alternatives : u.Alternatives
    alternatives = units.alternatives_of gs (units.last_alternative cs body)

    abbrev spreading : Elab Counts
    spreading = given (spread_costs here at v alternatives)

    abbrev behind : Elab Counts
    behind = both (together (chosen_costs here) gs) (statements_costs here body)

    select-costs : statement_costs here (u.case_of at v alternatives) ≡ both (given a_statement) (both spreading behind)
    unfolding statement_costs
    select-costs =
        ap (λ q. both (given a_statement) (both spreading q)) (alternatives-together gs (units.last_alternative cs body) ∙ ap (both (together (chosen_costs here) gs)) (last-costs cs body))

    pub select_stops : {bytes : List ℕ} {told : Told} → MayTell bytes (spent 0 n a_statement) told → MayTell bytes (paid n (statement_costs here (u.case_of at v alternatives))) told
    select_stops h = paid_stop _ n (given a_statement) _ (alike_same (ap (paid n) select-costs)) h

    select-begins : (m : Counts) → spent 0 n a_statement ≡ Ok m → Alike (paid n (statement_costs here (u.case_of at v alternatives))) (paid m (both spreading behind))
    select-begins m h = paid_go _ n m (given a_statement) _ (alike_same (ap (paid n) select-costs)) h

    module _ (m : Counts) (begun : spent 0 n a_statement ≡ Ok m) where
      pub spread_stops : {bytes : List ℕ} {told : Told} → MayTell bytes (paid m spreading) told → MayTell bytes (paid n (statement_costs here (u.case_of at v alternatives))) told
      spread_stops h = paid_stop _ m spreading behind (select-begins m begun) h

      module _ (k : Counts) (spread : paid m spreading ≡ Ok k) where
        spread-go : Alike (paid n (statement_costs here (u.case_of at v alternatives))) (paid k behind)
        spread-go = paid_go _ m k spreading behind (select-begins m begun) spread

        pub alternatives_stop : {bytes : List ℕ} {told : Told} → MayTell bytes (paid k (together (chosen_costs here) gs)) told
            → MayTell bytes (paid n (statement_costs here (u.case_of at v alternatives))) told
        alternatives_stop h = paid_stop _ k (together (chosen_costs here) gs) (statements_costs here body) spread-go h

        pub alternatives_go : (l : Counts) → paid k (together (chosen_costs here) gs) ≡ Ok l → Alike (paid n (statement_costs here (u.case_of at v alternatives))) (paid l (statements_costs here body))
        alternatives_go l h = paid_go _ k l (together (chosen_costs here) gs) (statements_costs here body) spread-go h

  -- ---- a loop: how many turns it has, and these

  module _ (at : ℕ) (n : Counts) (r : Range) (body : u.Statements) where
    pub range_stops : {bytes : List ℕ} {told : Told} → (told.0 ≡ TooMany → Contains bytes told.1) → turns here.integers at r ≡ Err told → MayTell bytes (paid n (statement_costs here (u.for_of at r body))) told
    range_stops placed h = tells_first (statement_costs here (u.for_of at r body)) _ (tells placed (loop_stops at r body h))

    loop-counted : (direction : Direction) (x : ℤ) (count : ℕ) → turns here.integers at r ≡ Ok (numbers_from direction x count)
        → Alike (paid n (statement_costs here (u.for_of at r body))) (paid n (both (given (costs.turns count)) (together (λ i. statements_costs (in_loop here i) body) (numbers_from direction x count))))
    loop-counted direction x count h = alike_same (ap (paid n) (loop_costs at r body (numbers_from direction x count) count h (counted-length direction x count)))

    pub count_stops : {bytes : List ℕ} {told : Told} → (direction : Direction) (x : ℤ) (count : ℕ) → turns here.integers at r ≡ Ok (numbers_from direction x count) → MayTell bytes (spent 0 n (costs.turns count)) told
        → MayTell bytes (paid n (statement_costs here (u.for_of at r body))) told
    count_stops direction x count h k = paid_stop _ n (given (costs.turns count)) _ (loop-counted direction x count h) k

    pub turns_begin : (m : Counts) (direction : Direction) (x : ℤ) (count : ℕ) → turns here.integers at r ≡ Ok (numbers_from direction x count) → spent 0 n (costs.turns count) ≡ Ok m
        → Alike (paid n (statement_costs here (u.for_of at r body))) (paid m (together (λ i. statements_costs (in_loop here i) body) (numbers_from direction x count)))
    turns_begin m direction x count h k = paid_go _ n m (given (costs.turns count)) _ (loop-counted direction x count h) k
