-- What is counted of a body before it is unrolled is what the unrolled body has.
use Rattle.std.proofs.Common.{◌≡◌, ℕ, ◌+◌, List, [], ◌∷◌, length, Ok, Err, refl, sym, ap, ◌∙◌, subst, arith}
use Rattle.std.specs.Prelude.{ℤ, slice_get, sum}
use Rattle.std.proofs.lemmas.List.Sums.{sum_by-cons}
use Rattle.vhdl_names_rules.specs.units.Expressions as expressions
use Rattle.vhdl_names_rules.specs.units.Statements as u
use Rattle.rtl_model.specs.bodies.Body as bodies
use Rattle.rtl_model.specs.bodies.Fits.{value_width}
use Rattle.vhdl_expand_rules.specs.Elab.{Elab, ◌>>=◌, each}
use Rattle.vhdl_expand_rules.specs.Integers.{turns}
use Rattle.vhdl_expand_rules.specs.Site.{Site, in_loop, signal_kind, place_elements, signal_elements, variable_elements, signal_bounds, variable_bounds}
use Rattle.vhdl_expand_rules.specs.Expressions.{computed, value, test, chosen_row}
use Rattle.vhdl_expand_rules.specs.Statements as d
use Rattle.vhdl_expand_rules.specs.Statements.{joined_bodies, choice, one, statement, statements, branches, alternatives, statement_turns, statements_turns, branches_turns, alternatives_turns}
use Rattle.vhdl_expand_rules.proofs.Steps.{given, ok, bound}
use Rattle.vhdl_elab_rules.specs.Limits.{Counts, stmt_count, statements_count, branches_count, alternatives_count}
use Rattle.vhdl_expand_tree.specs.Costs as costs
use Rattle.vhdl_expand_tree.specs.Costs.{no_costs, a_statement, plus}
use Rattle.vhdl_expand.specs.Unrolled.{both, together, statement_costs, statements_costs, branches_costs, alternatives_costs}
use Rattle.vhdl_expand.proofs.Sums.{both-none}

-- what a body with so many turns and statements costs
abbrev pub body_costs : (turns statements : ℕ) → Counts
body_costs n k = record no_costs { turns = n; statements = k }

-- both are given, and the costs are these turns and so many statements
pub record Measured (cost : Elab Counts) (turned : Elab ℕ) (count : ℕ) : Type 0 where
  pub n : ℕ
  pub turns_are : turned ≡ Ok n
  pub costs_are : cost ≡ Ok (body_costs n count)

recount : (p : Elab Counts) (m : Elab ℕ) (j k : ℕ) → j ≡ k → Measured p m j → Measured p m k
recount p m j k h x = subst (λ (i : ℕ). Measured p m i) h x

-- numbers alone, that a case spreads
spread : (n : ℕ) → Measured (given (costs.turns n)) (given n) 0
spread n = record { n = n; turns_are = refl; costs_are = refl }

simple : Measured (given a_statement) (given 0) 1
simple = record { n = 0; turns_are = refl; costs_are = refl }

nothing : Measured (given no_costs) (given 0) 0
nothing = record { n = 0; turns_are = refl; costs_are = refl }

added : (m n j k : ℕ) → plus (body_costs m j) (body_costs n k) ≡ body_costs (m + n) (j + k)
added m n j k = refl

add : (p q : Elab Counts) (m n : Elab ℕ) (j k : ℕ) → Measured p m j → Measured q n k → Measured (both p q) (m >>= λ x. n >>= λ y. given (x + y)) (j + k)
add p q m n j k x y = record {
  n = x.n + y.n;
  turns_are = λ i. x.turns_are i >>= λ a. y.turns_are i >>= λ c. given (a + c);
  costs_are = (λ i. both (x.costs_are i) (y.costs_are i)) ∙ ap given (added x.n y.n j k);
}

none-before : (n : ℕ) → 0 + n ≡ n
none-before n = omega arith

behind-one : (n : ℕ) → 1 + n ≡ 1 + n + 0
behind-one n = omega arith

-- with the statement that holds it
inside : (p : Elab Counts) (m : Elab ℕ) (k : ℕ) → Measured p m k → Measured (both (given a_statement) p) m (1 + k + 0)
inside p m k x = recount _ m (1 + k) (1 + k + 0) (behind-one k) (record {
  n = x.n;
  turns_are = x.turns_are;
  costs_are = ap (both (given a_statement)) x.costs_are ∙ ap (λ (n : ℕ). given (body_costs n (1 + k))) (none-before x.n);
})

-- a case that spreads so many numbers, and one that spreads none
spreading : (n : ℕ) (p : Elab Counts) (m : Elab ℕ) (k : ℕ) → Measured p m k → Measured (both (given (costs.turns n)) p) (d.added (given n) m) k
spreading n p m k x = recount _ _ (0 + k) k (none-before k) (add _ _ _ _ _ _ (spread n) x)

unspread : (p : Elab Counts) (m : Elab ℕ) (k : ℕ) → Measured p m k → Measured (both (given no_costs) p) m k
unspread p m k x = subst (λ (q : Elab Counts). Measured q m k) (sym (both-none p)) x

followed-count : (x y : bodies.Stmts) → statements_count (bodies.followed_by x y) ≡ statements_count x + statements_count y
followed-count bodies.done y = sym (none-before (statements_count y))
followed-count (bodies.step s x) y = ap (λ n. stmt_count s + n) (followed-count x y) ∙ assoc (stmt_count s) (statements_count x) (statements_count y)
  where
    assoc : (i j k : ℕ) → i + (j + k) ≡ i + j + k
    assoc i j k = omega arith

-- ---- a loop, whose body is measured in each turn

pub record Turned (cost : Elab Counts) (turned : Elab (List ℕ)) (count : ℕ) : Type 0 where
  pub ns : List ℕ
  pub turns_are : turned ≡ Ok ns
  pub costs_are : cost ≡ Ok (body_costs (sum ns) count)

module _ (f : ℤ → Elab bodies.Stmts) (g : ℤ → Elab ℕ) (h : ℤ → Elab Counts) (in_each : (i : ℤ) (x : bodies.Stmts) → f i ≡ Ok x → Measured (h i) (g i) (statements_count x)) where
  each-turn : (is : List ℤ) (ss : List bodies.Stmts) → each f is ≡ Ok ss → Turned (together h is) (each g is) (statements_count (joined_bodies ss))
  each-turn [] ss e = subst (λ (zs : List bodies.Stmts). Turned (given no_costs) (given []) (statements_count (joined_bodies zs))) (ok [] ss e) (record { ns = []; turns_are = refl; costs_are = refl })
  each-turn (i ∷ is) ss e =
      let x = bound (f i) _ ss e in
      let xs = bound (each f is) _ ss x.then_gave in
      let first = in_each i x.x x.gave in
      let rest = each-turn is xs.x xs.gave in
      subst (λ (zs : List bodies.Stmts). Turned (both (h i) (together h is)) (g i >>= λ y. each g is >>= λ ys. given (y ∷ ys)) (statements_count (joined_bodies zs))) (ok (x.x ∷ xs.x) ss xs.then_gave) (record {
        ns = first.n ∷ rest.ns;
        turns_are = λ k. first.turns_are k >>= λ y. rest.turns_are k >>= λ ys. given (y ∷ ys);
        costs_are = (λ k. both (first.costs_are k) (rest.costs_are k)) ∙ ap (λ (n : ℕ). given (body_costs (first.n + sum rest.ns) n)) (sym (followed-count x.x (joined_bodies xs.x)))
            ∙ ap (λ (n : ℕ). given (body_costs n (statements_count (joined_bodies (x.x ∷ xs.x))))) (sym (sum_by-cons (λ n. n) first.n rest.ns));
      })

  loop-measured : (p : Elab (List ℤ)) (is : List ℤ) (ss : List bodies.Stmts) → p ≡ Ok is → each f is ≡ Ok ss
      → Measured (p >>= λ js. both (given (costs.turns (length js))) (together h js)) (p >>= λ js. each g js >>= λ ns. given (length js + sum ns)) (statements_count (joined_bodies ss))
  loop-measured p is ss hp e =
      let all = each-turn is ss e in
      record {
        n = length is + sum all.ns;
        turns_are = ap (λ r. r >>= λ js. each g js >>= λ ns. given (length js + sum ns)) hp ∙ ap (λ r. r >>= λ ns. given (length is + sum ns)) all.turns_are;
        costs_are = ap (λ r. r >>= λ js. both (given (costs.turns (length js))) (together h js)) hp
            ∙ ap (both (given (costs.turns (length is)))) all.costs_are ∙ ap (λ (n : ℕ). given (body_costs (length is + sum all.ns) n)) (none-before (statements_count (joined_bodies ss)));
      }

-- ---- by the text

mutual
  unfolding statement statements branches alternatives statement_turns statements_turns branches_turns alternatives_turns statement_costs statements_costs branches_costs alternatives_costs

  statement-measured : (here : Site) (s : u.Statement) (x : bodies.Stmts) → statement here s ≡ Ok x
      → Measured (statement_costs here s) (statement_turns here s) (statements_count x)
  statement-measured here u.null_of x h = recount _ _ 1 _ (ap statements_count (ok (one bodies.null_of) x h)) simple
  statement-measured here (u.assign p g) x h =
      let es = bound (place_elements here p) _ x h in
      let v = bound (d.given_to here p.at (signal_kind here p.signal) (length es.x) g) _ x es.then_gave in
      recount _ _ 1 _ (ap statements_count (ok (one (bodies.assign es.x v.x)) x v.then_gave)) simple
  statement-measured here (u.set at k part g) x h =
      let es = bound (variable_elements here at k part) _ x h in
      let v = bound (d.given_to here at (slice_get here.variables k) (length es.x) g) _ x es.then_gave in
      recount _ _ 1 _ (ap statements_count (ok (one (bodies.set es.x v.x)) x v.then_gave)) simple
  statement-measured here (u.assign_in at n c g) x h =
      let es = bound (signal_elements here at n expressions.whole) _ x h in
      let b = bound (signal_bounds here at n) _ x es.then_gave in
      let r = bound (chosen_row here at b.x c) _ x b.then_gave in
      let v = bound (d.elements_given here at r.x.spacing.len g) _ x r.then_gave in
      recount _ _ 1 _ (ap statements_count (ok (one (bodies.assign_at r.x.index r.x.spacing es.x v.x)) x v.then_gave)) simple
  statement-measured here (u.set_in at k c g) x h =
      let es = bound (variable_elements here at k expressions.whole) _ x h in
      let b = bound (variable_bounds here at k) _ x es.then_gave in
      let r = bound (chosen_row here at b.x c) _ x b.then_gave in
      let v = bound (d.elements_given here at r.x.spacing.len g) _ x r.then_gave in
      recount _ _ 1 _ (ap statements_count (ok (one (bodies.set_at r.x.index r.x.spacing es.x v.x)) x v.then_gave)) simple
  statement-measured here (u.if_of at bs) x h =
      let cs = bound (branches here bs) _ x h in
      recount _ _ _ _ (ap statements_count (ok (one (bodies.if_of cs.x)) x cs.then_gave)) (inside _ _ _ (branches-measured here bs cs.x cs.gave))
  statement-measured here (u.case_of at (expressions.Value.computed c) alts) x h =
      let n = bound (computed here at c) _ x h in
      let serve = bound (d.choices_serve here.integers at (d.may_choose c n.x) n.x alts) _ x n.then_gave in
      let codes = d.spread here.integers (d.may_choose c n.x) n.x in
      let cs = bound (alternatives here codes alts) _ x serve.then_gave in
      recount _ _ _ _ (ap statements_count (ok (one (bodies.case_of (bodies.elements n.x.digits) cs.x)) x cs.then_gave))
      (inside _ _ _ (spreading (d.or_none (d.spread_count here at c alts)) _ _ _ (alternatives-measured here codes alts cs.x cs.gave)))
  statement-measured here (u.case_of at v alts) x h =
      let e = bound (value here at v) _ x h in
      let codes = each (choice at (value_width e.x)) in
      let cs = bound (alternatives here codes alts) _ x e.then_gave in
      recount _ _ _ _ (ap statements_count (ok (one (bodies.case_of e.x cs.x)) x cs.then_gave)) (inside _ _ _ (unspread _ _ _ (alternatives-measured here codes alts cs.x cs.gave)))
  statement-measured here (u.for_of at r body) x h =
      let is = bound (turns here.integers at r) _ x h in
      let ss = bound (each (λ i. statements (in_loop here i) body) is.x) _ x is.then_gave in
      recount _ _ _ _ (ap statements_count (ok (joined_bodies ss.x) x ss.then_gave))
      (loop-measured (λ i. statements (in_loop here i) body) (λ i. statements_turns (in_loop here i) body) (λ i. statements_costs (in_loop here i) body)
      (λ i y e. statements-measured (in_loop here i) body y e) (turns here.integers at r) is.x ss.x is.gave ss.gave)

  pub statements-measured : (here : Site) (s : u.Statements) (x : bodies.Stmts) → statements here s ≡ Ok x
      → Measured (statements_costs here s) (statements_turns here s) (statements_count x)
  statements-measured here u.done x h = recount _ _ 0 _ (ap statements_count (ok bodies.done x h)) nothing
  statements-measured here (u.step s rest) x h =
      let first = bound (statement here s) _ x h in
      let more = bound (statements here rest) _ x first.then_gave in
      recount _ _ _ _ (sym (followed-count first.x more.x) ∙ ap statements_count (ok (bodies.followed_by first.x more.x) x more.then_gave))
      (add _ _ _ _ _ _ (statement-measured here s first.x first.gave) (statements-measured here rest more.x more.gave))

  branches-measured : (here : Site) (s : u.Branches) (x : bodies.Branches) → branches here s ≡ Ok x
      → Measured (branches_costs here s) (branches_turns here s) (branches_count x)
  branches-measured here u.no_else x h = recount _ _ 0 _ (ap branches_count (ok bodies.no_else x h)) nothing
  branches-measured here (u.otherwise s) x h =
      let y = bound (statements here s) _ x h in
      recount _ _ _ _ (ap branches_count (ok (bodies.otherwise y.x) x y.then_gave)) (statements-measured here s y.x y.gave)
  branches-measured here (u.branch t s bs) x h =
      let c = bound (test here t) _ x h in
      let y = bound (statements here s) _ x c.then_gave in
      let z = bound (branches here bs) _ x y.then_gave in
      recount _ _ _ _ (ap branches_count (ok (bodies.branch c.x y.x z.x) x z.then_gave))
      (add _ _ _ _ _ _ (statements-measured here s y.x y.gave) (branches-measured here bs z.x z.gave))

  alternatives-measured : (here : Site) (codes_of : List u.Choice → Elab (List (List ℕ))) (s : u.Alternatives) (x : bodies.Alternatives) → alternatives here codes_of s ≡ Ok x
      → Measured (alternatives_costs here s) (alternatives_turns here s) (alternatives_count x)
  alternatives-measured here codes_of (u.others s) x h =
      let y = bound (statements here s) _ x h in
      recount _ _ _ _ (ap alternatives_count (ok (bodies.others y.x) x y.then_gave)) (statements-measured here s y.x y.gave)
  alternatives-measured here codes_of (u.complete cs s) x h =
      let y = bound (statements here s) _ x h in
      recount _ _ _ _ (ap alternatives_count (ok (bodies.others y.x) x y.then_gave)) (statements-measured here s y.x y.gave)
  alternatives-measured here codes_of (u.alternative choices s alts) x h =
      let cs = bound (codes_of choices) _ x h in
      let y = bound (statements here s) _ x cs.then_gave in
      let z = bound (alternatives here codes_of alts) _ x y.then_gave in
      recount _ _ _ _ (ap alternatives_count (ok (bodies.alternative cs.x y.x z.x) x z.then_gave))
      (add _ _ _ _ _ _ (statements-measured here s y.x y.gave) (alternatives-measured here codes_of alts z.x z.gave))

-- ---- the turns are those of the costs, given or refused

abbrev pub turns_of : Elab Counts → Elab ℕ
turns_of q = q >>= λ c. given c.turns

add-turned : (p q : Elab Counts) → (turns_of p >>= λ x. turns_of q >>= λ y. given (x + y)) ≡ turns_of (both p q)
add-turned (Ok a) (Ok b) = refl
add-turned (Ok a) (Err told) = refl
add-turned (Err told) q = refl

inside-turned : (q : Elab Counts) → turns_of q ≡ turns_of (both (given a_statement) q)
inside-turned (Ok c) = ap given (sym (none-before c.turns))
inside-turned (Err told) = refl

step-turned : (a : Elab ℕ) (rest : Elab (List ℕ)) (p q : Elab Counts) → a ≡ turns_of p → (rest >>= λ ns. given (sum ns)) ≡ turns_of q
    → ((a >>= λ y. rest >>= λ ys. given (y ∷ ys)) >>= λ ns. given (sum ns)) ≡ turns_of (both p q)
step-turned (Ok x) (Ok xs) (Ok b) (Ok c) j k = ap given (sum_by-cons (λ n. n) x xs ∙ (λ i. ok x b.turns j i + ok (sum xs) c.turns k i))
step-turned (Ok x) (Ok xs) (Ok b) (Err f) j k = absurd cc
step-turned (Ok x) (Err e) (Ok b) (Ok c) j k = absurd cc
step-turned (Ok x) (Err e) (Ok b) (Err f) j k = k
step-turned (Err e) rest (Err f) q j k = j
step-turned _ _ _ _ j k = absurd cc

behind-turned : (n : ℕ) (rest : Elab (List ℕ)) (q : Elab Counts) → (rest >>= λ ns. given (sum ns)) ≡ turns_of q → (rest >>= λ ns. given (n + sum ns)) ≡ turns_of (both (given (costs.turns n)) q)
behind-turned n (Ok ns) (Ok c) k = ap (λ m. given (n + m)) (ok (sum ns) c.turns k)
behind-turned n (Err e) (Err f) k = k
behind-turned n _ _ k = absurd cc

module _ (g : ℤ → Elab ℕ) (h : ℤ → Elab Counts) (same : (i : ℤ) → g i ≡ turns_of (h i)) where
  each-turned : (is : List ℤ) → (each g is >>= λ ns. given (sum ns)) ≡ turns_of (together h is)
  each-turned [] = refl
  each-turned (i ∷ is) = step-turned (g i) (each g is) (h i) (together h is) (same i) (each-turned is)

  loop-turned : (q : Elab (List ℤ)) → (q >>= λ is. each g is >>= λ ns. given (length is + sum ns)) ≡ turns_of (q >>= λ is. both (given (costs.turns (length is))) (together h is))
  loop-turned (Ok is) = behind-turned (length is) (each g is) (together h is) (each-turned is)
  loop-turned (Err told) = refl

mutual
  unfolding statement_turns statements_turns branches_turns alternatives_turns statement_costs statements_costs branches_costs alternatives_costs

  statement-turned : (here : Site) (s : u.Statement) → statement_turns here s ≡ turns_of (statement_costs here s)
  statement-turned here (u.if_of at bs) = branches-turned here bs ∙ inside-turned (branches_costs here bs)
  statement-turned here (u.case_of at (expressions.Value.computed c) alts) =
      let n : ℕ = d.or_none (d.spread_count here at c alts) in
      ap (d.added (given n)) (alternatives-turned here alts) ∙ add-turned (given (costs.turns n)) (alternatives_costs here alts)
      ∙ inside-turned (both (given (costs.turns n)) (alternatives_costs here alts))
  statement-turned here (u.case_of at v alts) =
      alternatives-turned here alts ∙ ap turns_of (sym (both-none (alternatives_costs here alts))) ∙ inside-turned (both (given no_costs) (alternatives_costs here alts))
  statement-turned here (u.for_of at r body) =
      loop-turned (λ i. statements_turns (in_loop here i) body) (λ i. statements_costs (in_loop here i) body) (λ i. statements-turned (in_loop here i) body) (turns here.integers at r)
  statement-turned here _ = refl

  pub statements-turned : (here : Site) (s : u.Statements) → statements_turns here s ≡ turns_of (statements_costs here s)
  statements-turned here u.done = refl
  statements-turned here (u.step s rest) =
      (λ i. statement-turned here s i >>= λ m. statements-turned here rest i >>= λ n. given (m + n)) ∙ add-turned (statement_costs here s) (statements_costs here rest)

  branches-turned : (here : Site) (s : u.Branches) → branches_turns here s ≡ turns_of (branches_costs here s)
  branches-turned here u.no_else = refl
  branches-turned here (u.otherwise s) = statements-turned here s
  branches-turned here (u.branch t s bs) =
      (λ i. statements-turned here s i >>= λ m. branches-turned here bs i >>= λ n. given (m + n)) ∙ add-turned (statements_costs here s) (branches_costs here bs)

  alternatives-turned : (here : Site) (s : u.Alternatives) → alternatives_turns here s ≡ turns_of (alternatives_costs here s)
  alternatives-turned here (u.others s) = statements-turned here s
  alternatives-turned here (u.complete cs s) = statements-turned here s
  alternatives-turned here (u.alternative choices s alts) =
      (λ i. statements-turned here s i >>= λ m. alternatives-turned here alts i >>= λ n. given (m + n)) ∙ add-turned (statements_costs here s) (alternatives_costs here alts)
