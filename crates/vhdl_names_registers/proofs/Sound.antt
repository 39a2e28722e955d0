-- Units with their registers as the checker knows them are sound where the units are.
use Rattle.std.proofs.Common.{◌≡◌, ℕ, Bool, true, false, cond, ◌&&◌, not, List, [], ◌∷◌, map, Option, Some, None, refl, ap, subst, ◌∙◌}
use Rattle.std.specs.Prelude.{option_map, unwrap_or}
use Rattle.std.specs.List.{list_all, list_any, slice_get, AllByRecursion}
use Rattle.std.proofs.lemmas.Bool.{and_parts, and_from}
use Rattle.std.proofs.lemmas.Option.{slice_get-map}
use Rattle.vhdl_values.specs.declared.kinds.Logic.TheVariants.{And}
use Rattle.vhdl_names_rules.specs.units.Expressions as e
use Rattle.vhdl_names_rules.specs.units.Expressions.{Test}
use Rattle.vhdl_names_rules.specs.units.Statements as s
use Rattle.vhdl_names_rules.specs.units.Units as u
use Rattle.vhdl_names_rules.specs.units.Units.{Units}
use Rattle.vhdl_names_rules.specs.Operators.{both}
use Rattle.vhdl_names_rules.specs.Rules.{then_some}
use Rattle.vhdl_names_rules.specs.Edges.{Edge, conditions, joined, gated}
use Rattle.vhdl_names_rules.specs.Registers.{gate_under, edge_first, last_edge_first, behind, are_one_edge, as_one, followed, registered, has_register, body_written, concurrent_written, concurrents_written, architecture_written, entity_written, units_written}
use Rattle.vhdl_names_rules.specs.sound.Expressions.{Inside, range_fits, static_test_fits, edge_fits, test_fits}
use Rattle.vhdl_names_rules.specs.sound.Statements.{statement_fits, statements_fit, branches_fit}
use Rattle.vhdl_names_rules.specs.sound.Units.{sensitivity_fits, objects_fit, instance_fits, within_generate, concurrent_fits, concurrents_fit, nothing_inside, architecture_fits, generics_fit, with_generics, with_ports, port_fits, is_signal, is_variable, declarations_fit, with_declarations, entity_fits, are_sound}
use Rattle.vhdl_names_rules.proofs.laws.Rules.{some_is}
use Rattle.vhdl_names_rules.proofs.laws.Edges.{conditions_fit, gated_fits}

-- ---- tests

both_fits : (i : Inside) (t r : Test) → test_fits i t ≡ true → test_fits i r ≡ true → test_fits i (both And t r) ≡ true
both_fits i (e.Test.fixed t) (e.Test.fixed r) h g = and_from (test_fits i (e.Test.fixed t)) (test_fits i (e.Test.fixed r)) h g
both_fits i t r h g = and_from (test_fits i t) (test_fits i r) h g

joined_fits : (i : Inside) (t : Test) (ts : List Test) → test_fits i t ≡ true → AllByRecursion (λ t. test_fits i t ≡ true) ts → test_fits i (joined t ts) ≡ true
joined_fits i t [] h g = h
joined_fits i t (r ∷ rs) h g = joined_fits i (both And t r) rs (both_fits i t r h g.0) g.1

-- ---- ifs

module _ (i : Inside) where
  branch_fits : (t : Test) (xs : s.Statements) (bs : s.Branches) → test_fits i t ≡ true → statements_fit i xs ≡ true → branches_fit i bs ≡ true → branches_fit i (s.branch t xs bs) ≡ true
  unfolding statements_fit
  branch_fits t xs bs h g k = and_from (test_fits i t && statements_fit i xs) (branches_fit i bs) (and_from (test_fits i t) (statements_fit i xs) h g) k

  -- the parts of a branch
  record BranchFits (t : Test) (xs : s.Statements) (bs : s.Branches) : Type 0 where
    test : test_fits i t ≡ true
    body : statements_fit i xs ≡ true
    rest : branches_fit i bs ≡ true

  of_branch : (t : Test) (xs : s.Statements) (bs : s.Branches) → branches_fit i (s.branch t xs bs) ≡ true → BranchFits t xs bs
  unfolding statements_fit
  of_branch t xs bs h =
      let a = and_parts (test_fits i t && statements_fit i xs) (branches_fit i bs) h in
      let b = and_parts (test_fits i t) (statements_fit i xs) a.0 in
      record { test = b.0; body = b.1; rest = a.1 }

  no_else_fits : branches_fit i s.no_else ≡ true
  unfolding statements_fit
  no_else_fits = refl

  step_fits : (x : s.Statement) (xs : s.Statements) → statement_fits i x ≡ true → statements_fit i xs ≡ true → statements_fit i (s.step x xs) ≡ true
  unfolding statements_fit
  step_fits x xs h g = and_from (statement_fits i x) (statements_fit i xs) h g

  of_step : (x : s.Statement) (xs : s.Statements) → statements_fit i (s.step x xs) ≡ true → (statement_fits i x ≡ true) × (statements_fit i xs ≡ true)
  unfolding statements_fit
  of_step x xs h = and_parts (statement_fits i x) (statements_fit i xs) h

  done_fits : statements_fit i s.done ≡ true
  unfolding statements_fit
  done_fits = refl

  if_fits : (at : ℕ) (bs : s.Branches) → branches_fit i bs ≡ true → statement_fits i (s.if_of at bs) ≡ true
  unfolding statements_fit
  if_fits at bs h = h

  of_if : (at : ℕ) (bs : s.Branches) → statement_fits i (s.if_of at bs) ≡ true → branches_fit i bs ≡ true
  unfolding statements_fit
  of_if at bs h = h

  edge_first_fits : (at : ℕ) (t : Test) (xs : s.Statements) → test_fits i t ≡ true → statements_fit i xs ≡ true → branches_fit i (edge_first at t xs) ≡ true
  edge_first_fits at t xs h g = by (gated (conditions t)) (λ f. gated_fits i (conditions t) f (conditions_fit i t h))
    where
      by : (o : Option (Edge × List Test)) → ((f : Edge × List Test) → o ≡ Some f → (edge_fits i f.0.place ≡ true) × AllByRecursion (λ t. test_fits i t ≡ true) f.1)
          → branches_fit i (gate_under at t xs o) ≡ true
      by None each = branch_fits t xs s.no_else h g no_else_fits
      by (Some (f, [])) each = branch_fits t xs s.no_else h g no_else_fits
      by (Some (f, r ∷ rs)) each =
          let k = each (f, r ∷ rs) refl in
          let inner = s.branch (joined r rs) xs s.no_else in
          branch_fits (e.edge f.kind f.place) (s.step (s.if_of at inner) s.done) s.no_else k.0
          (step_fits (s.if_of at inner) s.done (if_fits at inner (branch_fits (joined r rs) xs s.no_else (joined_fits i r rs k.1.0 k.1.1) g no_else_fits)) done_fits)
          no_else_fits

  last_fits : (at : ℕ) (bs : s.Branches) → branches_fit i bs ≡ true → branches_fit i (last_edge_first at bs) ≡ true
  last_fits at (s.branch t xs s.no_else) h = let b = of_branch t xs s.no_else h in edge_first_fits at t xs b.test b.body
  last_fits at (s.branch t xs (s.otherwise ys)) h = h
  last_fits at (s.branch t xs (s.branch r ys bs)) h =
      let b = of_branch t xs (s.branch r ys bs) h in
      branch_fits t xs (last_edge_first at (s.branch r ys bs)) b.test b.body (last_fits at (s.branch r ys bs) b.rest)
  last_fits at _ h = h

  behind_fits : (xs ys : s.Statements) → statements_fit i xs ≡ true → statements_fit i ys ≡ true → statements_fit i (behind xs ys) ≡ true
  behind_fits s.done ys h g = g
  behind_fits (s.step x xs) ys h g = let k = of_step x xs h in step_fits x (behind xs ys) k.0 (behind_fits xs ys k.1 g)

  one_fits : (bs cs : s.Branches) (all : s.Branches) → branches_fit i bs ≡ true → branches_fit i cs ≡ true → as_one bs cs ≡ Some all → branches_fit i all ≡ true
  one_fits (s.branch t xs s.no_else) (s.branch r ys s.no_else) all h g e = by (are_one_edge t r) e
    where
      by : (b : Bool) → then_some b (s.branch t (behind xs ys) s.no_else) ≡ Some all → branches_fit i all ≡ true
      by true e =
          let b = of_branch t xs s.no_else h in
          let c = of_branch r ys s.no_else g in
          subst (λ all. branches_fit i all ≡ true) (some_is (s.branch t (behind xs ys) s.no_else) all e) (branch_fits t (behind xs ys) s.no_else b.test (behind_fits xs ys b.body c.body) no_else_fits)
      by false e = absurd cc
  one_fits _ _ all h g e = absurd cc

  followed_fits : (at : ℕ) (bs : s.Branches) (xs : s.Statements) → branches_fit i bs ≡ true → statements_fit i xs ≡ true → statements_fit i (followed at bs xs) ≡ true
  followed_fits at bs (s.step (s.if_of other cs) rest) h g =
      let k = of_step (s.if_of other cs) rest g in
      by k.0 k.1 (as_one bs cs) (λ all e. one_fits bs cs all h (of_if other cs k.0) e)
    where
      by : statement_fits i (s.if_of other cs) ≡ true → statements_fit i rest ≡ true → (o : Option s.Branches) → ((all : s.Branches) → o ≡ Some all → branches_fit i all ≡ true)
          → statements_fit i (unwrap_or (option_map (λ all. s.step (s.if_of at all) rest) o) (s.step (s.if_of at bs) (s.step (s.if_of other cs) rest))) ≡ true
      by m n (Some all) one = step_fits (s.if_of at all) rest (if_fits at all (one all refl)) n
      by m n None one = step_fits (s.if_of at bs) (s.step (s.if_of other cs) rest) (if_fits at bs h) (step_fits (s.if_of other cs) rest m n)
  followed_fits at bs xs h g = step_fits (s.if_of at bs) xs (if_fits at bs h) g

  registered_fits : (xs : s.Statements) → statements_fit i xs ≡ true → statements_fit i (registered xs) ≡ true
  registered_fits s.done h = h
  registered_fits (s.step s.null_of rest) h = registered_fits rest (of_step s.null_of rest h).1
  registered_fits (s.step (s.if_of at bs) rest) h =
      let k = of_step (s.if_of at bs) rest h in
      followed_fits at (last_edge_first at bs) (registered rest) (last_fits at bs (of_if at bs k.0)) (registered_fits rest k.1)
  registered_fits (s.step x rest) h = let k = of_step x rest h in step_fits x (registered rest) k.0 (registered_fits rest k.1)

  body_fits : (xs : s.Statements) → statements_fit i xs ≡ true → statements_fit i (body_written xs) ≡ true
  body_fits xs h = by (has_register xs)
    where
      by : (b : Bool) → statements_fit i (cond b (registered xs) xs) ≡ true
      by true = registered_fits xs h
      by false = h

-- ---- units

-- an instance asks for the generics and ports of its unit alone
instance_written : (units : Units) (i : Inside) (x : u.Instance) (o : Option u.Entity) → instance_fits i x o ≡ true → instance_fits i x (option_map entity_written o) ≡ true
instance_written units i x None h = h
instance_written units i x (Some unit) h = h

mutual
  unfolding concurrent_fits concurrent_written

  concurrent_is : (units : Units) (i : Inside) (x : u.Concurrent) → concurrent_fits units i x ≡ true → concurrent_fits (units_written units) i (concurrent_written x) ≡ true
  concurrent_is units i (u.process p) h =
      let j : Inside = with_declarations i p.declarations in
      let head : Bool = sensitivity_fits j p.sensitivity && declarations_fit i p.declarations && not (list_any is_signal p.declarations) in
      let a = and_parts head (statements_fit j p.body) h in
      and_from head (statements_fit j (body_written p.body)) a.0 (body_fits j p.body a.1)
  concurrent_is units i (u.instance x) h = ap (instance_fits i x) (slice_get-map entity_written units x.unit) ∙ instance_written units i x (slice_get units x.unit) h
  concurrent_is units i (u.generate_for at label r body) h =
      let a = and_parts (range_fits i r) (concurrents_fit units (within_generate i) body) h in
      and_from (range_fits i r) (concurrents_fit (units_written units) (within_generate i) (concurrents_written body)) a.0 (concurrents_are units (within_generate i) body a.1)
  concurrent_is units i (u.generate_if at label t body) h =
      let a = and_parts (static_test_fits i t) (concurrents_fit units i body) h in
      and_from (static_test_fits i t) (concurrents_fit (units_written units) i (concurrents_written body)) a.0 (concurrents_are units i body a.1)

  concurrents_are : (units : Units) (i : Inside) (xs : u.Concurrents) → concurrents_fit units i xs ≡ true → concurrents_fit (units_written units) i (concurrents_written xs) ≡ true
  concurrents_are units i u.no_concurrents h = refl
  concurrents_are units i (u.concurrent x xs) h =
      let a = and_parts (concurrent_fits units i x) (concurrents_fit units i xs) h in
      and_from (concurrent_fits (units_written units) i (concurrent_written x)) (concurrents_fit (units_written units) i (concurrents_written xs)) (concurrent_is units i x a.0) (concurrents_are units i xs a.1)

architecture_is : (units : Units) (i : Inside) (o : Option u.Architecture) → architecture_fits units i o ≡ true → architecture_fits (units_written units) i (option_map architecture_written o) ≡ true
architecture_is units i None h = h
architecture_is units i (Some a) h =
    let head : Bool = declarations_fit i a.declarations && not (list_any is_variable a.declarations) in
    let k = and_parts head (concurrents_fit units (with_declarations i a.declarations) a.statements) h in
    and_from head (concurrents_fit (units_written units) (with_declarations i a.declarations) (concurrents_written a.statements)) k.0
    (concurrents_are units (with_declarations i a.declarations) a.statements k.1)

entity_is : (units : Units) (x : u.Entity) → entity_fits units x ≡ true → entity_fits (units_written units) (entity_written x) ≡ true
entity_is units x h =
    let i : Inside = with_generics nothing_inside x.generics in
    let interface : Bool = generics_fit nothing_inside x.generics && objects_fit i (map (λ (p : u.Port). p.object) x.ports) && list_all port_fits x.ports in
    let a = and_parts interface (architecture_fits units (with_ports i x.ports) x.architecture) h in
    and_from interface (architecture_fits (units_written units) (with_ports i x.ports) (option_map architecture_written x.architecture)) a.0
    (architecture_is units (with_ports i x.ports) x.architecture a.1)

entities_are : (units xs : Units) → list_all (entity_fits units) xs ≡ true → list_all (entity_fits (units_written units)) (units_written xs) ≡ true
entities_are units [] h = refl
entities_are units (x ∷ xs) h =
    let a = and_parts (entity_fits units x) (list_all (entity_fits units) xs) h in
    and_from (entity_fits (units_written units) (entity_written x)) (list_all (entity_fits (units_written units)) (units_written xs)) (entity_is units x a.0) (entities_are units xs a.1)

pub written_are_sound : (units : Units) → are_sound units ≡ true → are_sound (units_written units) ≡ true
unfolding are_sound
written_are_sound units h = entities_are units units h
