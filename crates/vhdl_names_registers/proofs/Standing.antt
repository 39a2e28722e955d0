-- The bytes of units with their registers as the checker knows them are bytes of the units.
use Rattle.std.proofs.Common.{◌≡◌, ℕ, Bool, true, false, cond, List, [], ◌∷◌, ◌++◌, Option, Some, None, All, refl, subst}
use Rattle.std.specs.Prelude.{option_map, unwrap_or}
use Rattle.std.specs.List.{AllByRecursion, flat_map}
use Rattle.std.proofs.lemmas.List.Elements.{All-from_recursion, recursion_from_All}
use Rattle.vhdl_values.specs.declared.kinds.Logic.TheVariants.{And}
use Rattle.vhdl_names_rules.specs.units.Expressions as e
use Rattle.vhdl_names_rules.specs.units.Expressions.{Test}
use Rattle.vhdl_names_rules.specs.units.Statements as s
use Rattle.vhdl_names_rules.specs.units.Units as u
use Rattle.vhdl_names_rules.specs.units.Units.{Units}
use Rattle.vhdl_names_rules.specs.units.Bytes.{if_any_bytes, range_bytes, static_test_bytes, place_bytes, test_bytes, statement_bytes, statements_bytes, branches_bytes, declaration_bytes, generic_bytes, port_bytes, sensitivity_bytes, concurrent_bytes, concurrents_bytes, architecture_bytes, entity_bytes, units_bytes}
use Rattle.vhdl_names_rules.specs.Operators.{both}
use Rattle.vhdl_names_rules.specs.Rules.{then_some}
use Rattle.vhdl_names_rules.specs.Edges.{Edge, conditions, joined, gated}
use Rattle.vhdl_names_rules.specs.Registers.{gate_under, edge_first, last_edge_first, behind, are_one_edge, as_one, followed, registered, has_register, body_written, concurrent_written, concurrents_written, architecture_written, entity_written, units_written}
use Rattle.vhdl_names_rules.proofs.laws.Rules.{some_is}
use Rattle.vhdl_names_rules.proofs.laws.Edges.{all_of_both, all_of_first, all_of_second, conditions_hold, gated_holds}

module _ (P : ℕ → Type 0) where
  abbrev Hold : List ℕ → Type 0
  Hold = AllByRecursion P

  both_of : (xs ys : List ℕ) → Hold xs → Hold ys → Hold (xs ++ ys)
  both_of = all_of_both P

  left_of : (xs ys : List ℕ) → Hold (xs ++ ys) → Hold xs
  left_of = all_of_first P

  right_of : (xs ys : List ℕ) → Hold (xs ++ ys) → Hold ys
  right_of = all_of_second P

  -- ---- tests

  both_holds : (t r : Test) → Hold (test_bytes t) → Hold (test_bytes r) → Hold (test_bytes (both And t r))
  both_holds (e.Test.fixed t) (e.Test.fixed r) h g = both_of (static_test_bytes t) (static_test_bytes r) h g
  both_holds t r h g = both_of (test_bytes t) (test_bytes r) h g

  joined_holds : (t : Test) (ts : List Test) → Hold (test_bytes t) → AllByRecursion (λ t. Hold (test_bytes t)) ts → Hold (test_bytes (joined t ts))
  joined_holds t [] h g = h
  joined_holds t (r ∷ rs) h g = joined_holds (both And t r) rs (both_holds t r h g.0) g.1

  -- ---- ifs

  branch_holds : (t : Test) (xs : s.Statements) (bs : s.Branches) → Hold (test_bytes t) → Hold (statements_bytes xs) → Hold (branches_bytes bs) → Hold (branches_bytes (s.branch t xs bs))
  branch_holds t xs bs h g k = both_of (test_bytes t) (statements_bytes xs ++ branches_bytes bs) h (both_of (statements_bytes xs) (branches_bytes bs) g k)

  record BranchHolds (t : Test) (xs : s.Statements) (bs : s.Branches) : Type 0 where
    test : Hold (test_bytes t)
    body : Hold (statements_bytes xs)
    rest : Hold (branches_bytes bs)

  of_branch : (t : Test) (xs : s.Statements) (bs : s.Branches) → Hold (branches_bytes (s.branch t xs bs)) → BranchHolds t xs bs
  of_branch t xs bs h =
      let k = right_of (test_bytes t) (statements_bytes xs ++ branches_bytes bs) h in
      record {
        test = left_of (test_bytes t) (statements_bytes xs ++ branches_bytes bs) h;
        body = left_of (statements_bytes xs) (branches_bytes bs) k;
        rest = right_of (statements_bytes xs) (branches_bytes bs) k;
      }

  step_holds : (x : s.Statement) (xs : s.Statements) → Hold (statement_bytes x) → Hold (statements_bytes xs) → Hold (statements_bytes (s.step x xs))
  step_holds x xs h g = both_of (statement_bytes x) (statements_bytes xs) h g

  edge_first_holds : (at : ℕ) (t : Test) (xs : s.Statements) → P at → Hold (test_bytes t) → Hold (statements_bytes xs) → Hold (branches_bytes (edge_first at t xs))
  edge_first_holds at t xs a h g = by (gated (conditions t)) (λ f. gated_holds P (conditions t) f (conditions_hold P t h))
    where
      by : (o : Option (Edge × List Test)) → ((f : Edge × List Test) → o ≡ Some f → Hold (place_bytes f.0.place) × AllByRecursion (λ t. Hold (test_bytes t)) f.1)
          → Hold (branches_bytes (gate_under at t xs o))
      by None each = branch_holds t xs s.no_else h g tt
      by (Some (f, [])) each = branch_holds t xs s.no_else h g tt
      by (Some (f, r ∷ rs)) each =
          let k = each (f, r ∷ rs) refl in
          let inner = s.branch (joined r rs) xs s.no_else in
          branch_holds (e.edge f.kind f.place) (s.step (s.if_of at inner) s.done) s.no_else k.0
          (step_holds (s.if_of at inner) s.done (a, branch_holds (joined r rs) xs s.no_else (joined_holds r rs k.1.0 k.1.1) g tt) tt) tt

  last_holds : (at : ℕ) (bs : s.Branches) → P at → Hold (branches_bytes bs) → Hold (branches_bytes (last_edge_first at bs))
  last_holds at (s.branch t xs s.no_else) a h = let b = of_branch t xs s.no_else h in edge_first_holds at t xs a b.test b.body
  last_holds at (s.branch t xs (s.otherwise ys)) a h = h
  last_holds at (s.branch t xs (s.branch r ys bs)) a h =
      let b = of_branch t xs (s.branch r ys bs) h in
      branch_holds t xs (last_edge_first at (s.branch r ys bs)) b.test b.body (last_holds at (s.branch r ys bs) a b.rest)
  last_holds at _ a h = h

  behind_holds : (xs ys : s.Statements) → Hold (statements_bytes xs) → Hold (statements_bytes ys) → Hold (statements_bytes (behind xs ys))
  behind_holds s.done ys h g = g
  behind_holds (s.step x xs) ys h g =
      step_holds x (behind xs ys) (left_of (statement_bytes x) (statements_bytes xs) h) (behind_holds xs ys (right_of (statement_bytes x) (statements_bytes xs) h) g)

  one_holds : (bs cs : s.Branches) (all : s.Branches) → Hold (branches_bytes bs) → Hold (branches_bytes cs) → as_one bs cs ≡ Some all → Hold (branches_bytes all)
  one_holds (s.branch t xs s.no_else) (s.branch r ys s.no_else) all h g e = by (are_one_edge t r) e
    where
      by : (b : Bool) → then_some b (s.branch t (behind xs ys) s.no_else) ≡ Some all → Hold (branches_bytes all)
      by true e =
          let b = of_branch t xs s.no_else h in
          let c = of_branch r ys s.no_else g in
          subst (λ all. Hold (branches_bytes all)) (some_is (s.branch t (behind xs ys) s.no_else) all e) (branch_holds t (behind xs ys) s.no_else b.test (behind_holds xs ys b.body c.body) tt)
      by false e = absurd cc
  one_holds _ _ all h g e = absurd cc

  followed_holds : (at : ℕ) (bs : s.Branches) (xs : s.Statements) → P at → Hold (branches_bytes bs) → Hold (statements_bytes xs) → Hold (statements_bytes (followed at bs xs))
  followed_holds at bs (s.step (s.if_of other cs) rest) a h g =
      let m = left_of (statement_bytes (s.if_of other cs)) (statements_bytes rest) g in
      let n = right_of (statement_bytes (s.if_of other cs)) (statements_bytes rest) g in
      by m n (as_one bs cs) (λ all e. one_holds bs cs all h m.1 e)
    where
      by : Hold (statement_bytes (s.if_of other cs)) → Hold (statements_bytes rest) → (o : Option s.Branches) → ((all : s.Branches) → o ≡ Some all → Hold (branches_bytes all))
          → Hold (statements_bytes (unwrap_or (option_map (λ all. s.step (s.if_of at all) rest) o) (s.step (s.if_of at bs) (s.step (s.if_of other cs) rest))))
      by m n (Some all) one = step_holds (s.if_of at all) rest (a, one all refl) n
      by m n None one = step_holds (s.if_of at bs) (s.step (s.if_of other cs) rest) (a, h) (step_holds (s.if_of other cs) rest m n)
  followed_holds at bs xs a h g = step_holds (s.if_of at bs) xs (a, h) g

  registered_holds : (xs : s.Statements) → Hold (statements_bytes xs) → Hold (statements_bytes (registered xs))
  registered_holds s.done h = h
  registered_holds (s.step s.null_of rest) h = registered_holds rest h
  registered_holds (s.step (s.if_of at bs) rest) h =
      let m = left_of (statement_bytes (s.if_of at bs)) (statements_bytes rest) h in
      followed_holds at (last_edge_first at bs) (registered rest) m.0 (last_holds at bs m.0 m.1)
      (registered_holds rest (right_of (statement_bytes (s.if_of at bs)) (statements_bytes rest) h))
  registered_holds (s.step x rest) h =
      step_holds x (registered rest) (left_of (statement_bytes x) (statements_bytes rest) h) (registered_holds rest (right_of (statement_bytes x) (statements_bytes rest) h))

  body_holds : (xs : s.Statements) → Hold (statements_bytes xs) → Hold (statements_bytes (body_written xs))
  body_holds xs h = by (has_register xs)
    where
      by : (b : Bool) → Hold (statements_bytes (cond b (registered xs) xs))
      by true = registered_holds xs h
      by false = h

  -- ---- units

  mutual
    unfolding concurrent_written

    concurrent_holds : (x : u.Concurrent) → Hold (concurrent_bytes x) → Hold (concurrent_bytes (concurrent_written x))
    concurrent_holds (u.process p) h =
        let own = flat_map declaration_bytes p.declarations in
        let inner = right_of own (sensitivity_bytes p.sensitivity ++ statements_bytes p.body) h.1 in (
          h.0,
          both_of own (sensitivity_bytes p.sensitivity ++ statements_bytes (body_written p.body)) (left_of own (sensitivity_bytes p.sensitivity ++ statements_bytes p.body) h.1)
              (both_of (sensitivity_bytes p.sensitivity) (statements_bytes (body_written p.body)) (left_of (sensitivity_bytes p.sensitivity) (statements_bytes p.body) inner)
              (body_holds p.body (right_of (sensitivity_bytes p.sensitivity) (statements_bytes p.body) inner))),
        )
    concurrent_holds (u.instance x) h = h
    concurrent_holds (u.generate_for at label r body) h = (
      h.0,
      both_of (range_bytes r) (concurrents_bytes (concurrents_written body)) (left_of (range_bytes r) (concurrents_bytes body) h.1)
          (concurrents_hold body (right_of (range_bytes r) (concurrents_bytes body) h.1)),
    )
    concurrent_holds (u.generate_if at label t body) h = (
      h.0,
      both_of (static_test_bytes t) (concurrents_bytes (concurrents_written body)) (left_of (static_test_bytes t) (concurrents_bytes body) h.1)
          (concurrents_hold body (right_of (static_test_bytes t) (concurrents_bytes body) h.1)),
    )

    concurrents_hold : (xs : u.Concurrents) → Hold (concurrents_bytes xs) → Hold (concurrents_bytes (concurrents_written xs))
    concurrents_hold u.no_concurrents h = h
    concurrents_hold (u.concurrent x xs) h =
        both_of (concurrent_bytes (concurrent_written x)) (concurrents_bytes (concurrents_written xs)) (concurrent_holds x (left_of (concurrent_bytes x) (concurrents_bytes xs) h))
        (concurrents_hold xs (right_of (concurrent_bytes x) (concurrents_bytes xs) h))

  architecture_holds : (o : Option u.Architecture) → Hold (if_any_bytes architecture_bytes o) → Hold (if_any_bytes architecture_bytes (option_map architecture_written o))
  architecture_holds None h = h
  architecture_holds (Some a) h =
      let ds = flat_map declaration_bytes a.declarations in
      both_of ds (concurrents_bytes (concurrents_written a.statements)) (left_of ds (concurrents_bytes a.statements) h) (concurrents_hold a.statements (right_of ds (concurrents_bytes a.statements) h))

  entity_holds : (x : u.Entity) → Hold (entity_bytes x) → Hold (entity_bytes (entity_written x))
  entity_holds x h =
      let gs = flat_map generic_bytes x.generics in
      let ps = flat_map port_bytes x.ports in
      let inner = right_of gs (ps ++ if_any_bytes architecture_bytes x.architecture) h.1 in (
        h.0,
        both_of gs (ps ++ if_any_bytes architecture_bytes (option_map architecture_written x.architecture)) (left_of gs (ps ++ if_any_bytes architecture_bytes x.architecture) h.1)
            (both_of ps (if_any_bytes architecture_bytes (option_map architecture_written x.architecture)) (left_of ps (if_any_bytes architecture_bytes x.architecture) inner)
            (architecture_holds x.architecture (right_of ps (if_any_bytes architecture_bytes x.architecture) inner))),
      )

  units_hold : (xs : Units) → Hold (units_bytes xs) → Hold (units_bytes (units_written xs))
  units_hold [] h = h
  units_hold (x ∷ xs) h =
      both_of (entity_bytes (entity_written x)) (units_bytes (units_written xs)) (entity_holds x (left_of (entity_bytes x) (units_bytes xs) h)) (units_hold xs (right_of (entity_bytes x) (units_bytes xs) h))

pub written_stand : (P : ℕ → Type 0) (units : Units) → All P (units_bytes units) → All P (units_bytes (units_written units))
written_stand P units h = All-from_recursion P (units_bytes (units_written units)) (units_hold P units (recursion_from_All P (units_bytes units) h))
