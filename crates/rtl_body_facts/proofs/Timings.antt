-- Edge tests, resets and clocked bodies, by what the code keeps of them.
use Rattle.std.proofs.Common.{◌≡◌, ℕ, Bool, true, false, List, [], ◌∷◌, length, get_or, vec_len, ◌==◌, ◌&&◌, ◌+◌, ◌<◌, ◌≤◌, drop, arith, refl, sym, ap, ◌∙◌, Vec, Option, Some, None, Global}
use Rattle.std.specs.Prelude.{option_map}
use Rattle.std.proofs.lemmas.Bool.{eqb-true}
use Rattle.std.proofs.lemmas.List.{at_drop_more, at_drop_all}
use Rattle.vhdl_values.specs.declared.kinds.Logic.{Logic}
use Rattle.vhdl_values.specs.declared.kinds.Logic.TheVariants as op
use Rattle.rtl_net.specs.declared.body.Test.{Test}
use Rattle.rtl_net.specs.declared.body.Test.TheVariants as vt
use Rattle.rtl_net.specs.declared.body.TestLink.{TestLink}
use Rattle.rtl_net.specs.declared.body.Branch.{Branch}
use Rattle.rtl_net.specs.declared.body.Statement.{Statement}
use Rattle.rtl_net.specs.declared.body.Statement.TheVariants as vs
use Rattle.rtl_net.specs.Bodies.{test_view, test_links_of, statement_view, statements_of, branches_of}
use Rattle.rtl_net.proofs.Rows.{view_combined, view_if}
use Rattle.rtl_model.specs.basics.Lists.{is_empty}
use Rattle.rtl_model.specs.bodies.Body as bodies
use Rattle.rtl_model.specs.bodies.Reads.{events}
use Rattle.rtl_model.specs.bodies.Leaves.{leaves}
use Rattle.rtl_model.specs.bodies.Kinds as k
use Rattle.rtl_body_facts.specs.declared.kinds.EdgeTest.{EdgeTest}
use Rattle.rtl_body_facts.specs.declared.kinds.Clocking.{Clocking}
use Rattle.rtl_body_facts.specs.declared.kinds.Atom.TheVariants as a
use Rattle.rtl_body_facts.specs.declared.kinds.ProcessKind.TheVariants as d
use Rattle.rtl_body_facts.specs.Reading.{some}
use Rattle.rtl_body_facts.specs.Constants.{assigns_constant}
use Rattle.rtl_body_facts.specs.Timing.{edge_test_view, atom_of, edge_pair, reset_net, atom_reset, clocking_view, clocked_branch, kind_view}

-- ---- chains of tests

pub combined_is : (x : Test) (first : _) (rest : Vec TestLink Global) → x ≡ vt.Combined first rest
    → test_view x ≡ test_links_of (test_view first.value) rest.items
combined_is x first rest is = ap test_view is ∙ view_combined first rest

atom_long : (o : Logic) (s t : bodies.Test) (ls : List TestLink) → atom_of (test_links_of (bodies.combined o s t) ls) ≡ a.Other
atom_long o s t [] = refl
atom_long o s t (l ∷ ls) = atom_long l.operator (bodies.combined o s t) (test_view l.operand) ls

pub atom_more : (s : bodies.Test) (l : TestLink) (ls : List TestLink) → atom_of (test_links_of s (l ∷ ls)) ≡ a.Other
atom_more s l ls = atom_long l.operator s (test_view l.operand) ls

edge_of_two : (o p : Logic) (r s t : bodies.Test) → k.edge_test (bodies.combined o (bodies.combined p r s) t) ≡ None
edge_of_two op.And p r s t = refl
edge_of_two _ p r s t = refl

edge_long : (o p : Logic) (r s t : bodies.Test) (ls : List TestLink) → k.edge_test (test_links_of (bodies.combined o (bodies.combined p r s) t) ls) ≡ None
edge_long o p r s t [] = edge_of_two o p r s t
edge_long o p r s t (l ∷ ls) = edge_long l.operator o (bodies.combined p r s) t (test_view l.operand) ls

pub edge_more : (s : bodies.Test) (l j : TestLink) (ls : List TestLink) → k.edge_test (test_links_of s (l ∷ j ∷ ls)) ≡ None
edge_more s l j ls = edge_long j.operator l.operator s (test_view l.operand) (test_view j.operand) ls

pub pair_is : (s t : bodies.Test) → option_map edge_test_view (k.edge_test (bodies.combined op.And s t)) ≡ edge_pair (atom_of s) (atom_of t)
pair_is (bodies.event n) (bodies.level true o v) = refl
pair_is (bodies.level true o v) (bodies.event n) = refl
pair_is _ _ = refl

-- ---- nodes

abbrev pub edge_seen : bodies.Test → Option EdgeTest
edge_seen t = option_map edge_test_view (k.edge_test t)

pub not_and : (o : Logic) (s t : bodies.Test) → (o ≡ op.And → ⊥) → None ≡ edge_seen (bodies.combined o s t)
not_and op.And s t n = absurd (n refl)
not_and _ s t n = refl

one_item : {X : Type 0} (xs : List X) (x : X) → length xs ≡ 1 → x ≡ get_or xs 0 x → xs ≡ x ∷ []
one_item [] x l e = absurd (omega arith)
one_item (y ∷ []) x l e = ap (λ z. z ∷ []) (sym e)
one_item (y ∷ z ∷ zs) x l e = absurd (omega arith)

top_none : (s : bodies.Test) (ls : List TestLink) → (length ls == 0) ≡ true → atom_of (test_links_of s ls) ≡ atom_of s
top_none s [] e = refl
top_none s (l ∷ ls) e = let k = eqb-true (length (l ∷ ls)) 0 e in absurd (omega arith)

top_some : (s : bodies.Test) (ls : List TestLink) → (length ls == 0) ≡ false → atom_of (test_links_of s ls) ≡ a.Other
top_some s [] e = absurd cc
top_some s (l ∷ ls) e = atom_more s l ls

edge_none : (s : bodies.Test) (ls : List TestLink) → (length ls == 0) ≡ true → edge_seen (test_links_of s ls) ≡ edge_seen s
edge_none s [] e = refl
edge_none s (l ∷ ls) e = let k = eqb-true (length (l ∷ ls)) 0 e in absurd (omega arith)

edge_many : (s : bodies.Test) (ls : List TestLink) → (length ls == 0) ≡ false → (length ls ≡ 1 → ⊥) → edge_seen (test_links_of s ls) ≡ None
edge_many s [] e n = absurd cc
edge_many s (l ∷ []) e n = absurd (n refl)
edge_many s (l ∷ j ∷ ls) e n = ap (option_map edge_test_view) (edge_more s l j ls)

module _ (x : Test) (first : _) (rest : Vec TestLink Global) (is : x ≡ vt.Combined first rest) where
  pub top_alone : (vec_len rest == 0) ≡ true → atom_of (test_view first.value) ≡ atom_of (test_view x)
  top_alone e = sym (ap atom_of (combined_is x first rest is) ∙ top_none (test_view first.value) rest.items (sym (ap (λ (n : ℕ). n == 0) rest.ok.0) ∙ e))

  pub top_chain : (vec_len rest == 0) ≡ false → a.Other ≡ atom_of (test_view x)
  top_chain e = sym (ap atom_of (combined_is x first rest is) ∙ top_some (test_view first.value) rest.items (sym (ap (λ (n : ℕ). n == 0) rest.ok.0) ∙ e))

  pub edge_alone : (vec_len rest == 0) ≡ true → edge_seen (test_view first.value) ≡ edge_seen (test_view x)
  edge_alone e = sym (ap edge_seen (combined_is x first rest is) ∙ edge_none (test_view first.value) rest.items (sym (ap (λ (n : ℕ). n == 0) rest.ok.0) ∙ e))

  pub edge_chain : (vec_len rest == 0) ≡ false → (vec_len rest ≡ 1 → ⊥) → None ≡ edge_seen (test_view x)
  edge_chain e n = sym (ap edge_seen (combined_is x first rest is) ∙ edge_many (test_view first.value) rest.items (sym (ap (λ (n : ℕ). n == 0) rest.ok.0) ∙ e) (λ k. n (rest.ok.0 ∙ k)))

  pub edge_two : (l : TestLink) (o : Logic) → vec_len rest ≡ 1 → l ≡ get_or rest.items 0 l → l.operator ≡ o
      → edge_seen (bodies.combined o (test_view first.value) (test_view l.operand)) ≡ edge_seen (test_view x)
  edge_two l o e at f =
      sym (ap edge_seen (combined_is x first rest is)
      ∙ (ap (λ (ls : List TestLink). edge_seen (test_links_of (test_view first.value) ls)) (one_item rest.items l (sym rest.ok.0 ∙ e) at)
      ∙ ap (λ (p : Logic). edge_seen (bodies.combined p (test_view first.value) (test_view l.operand))) f))

-- ---- resets

pub reset_is : (wide : Bool) (inputs : List ℕ) (t : bodies.Test) → option_map reset_net (k.reset_test wide inputs t) ≡ atom_reset wide inputs (atom_of t)
reset_is wide inputs (bodies.level plain net v) = refl
reset_is wide inputs _ = refl

-- ---- bodies

pub alone_is : (wide : Bool) (inputs : List ℕ) (t : bodies.Test) (s : bodies.Stmts)
    → clocked_branch (k.edge_test t) s None ≡ option_map clocking_view (k.clocking wide inputs (bodies.step (bodies.if_of (bodies.branch t s bodies.no_else)) bodies.done))
alone_is wide inputs t s = go (k.edge_test t) (is_empty (events s)) refl
  where
    go : (e : Option k.EdgeTest) (b : Bool) → is_empty (events s) ≡ b → clocked_branch e s None ≡ option_map clocking_view (k.clocking_of true (is_empty (events s)) e s None)
    go None true h = rw h refl
    go None false h = rw h refl
    go (Some e) true h = rw h refl
    go (Some e) false h = rw h refl

-- ---- constants

abbrev pub constant_from : List Statement → Bool
constant_from xs = k.assigns_constants (statements_of xs)

constants_step : (s : bodies.Stmt) (rest : bodies.Stmts) → k.assigns_constants (bodies.step s rest) ≡ (assigns_constant s && k.assigns_constants rest)
constants_step bodies.null_of rest = refl
constants_step (bodies.assign places v) rest = refl
constants_step _ rest = refl

module _ (xs : List Statement) (i : ℕ) where
  constants_at : (x : Statement) → i < length xs → x ≡ get_or xs i x
      → constant_from (drop i xs) ≡ (assigns_constant (statement_view x) && constant_from (drop (i + 1) xs))
  constants_at x l is = at_drop_more constant_from xs i x l
      ∙ (constants_step (statement_view (get_or xs i x)) (statements_of (drop (i + 1) xs))
      ∙ ap (λ (y : Statement). assigns_constant (statement_view y) && constant_from (drop (i + 1) xs)) (sym is))

  pub constants_lost : (x : Statement) → i < length xs → x ≡ get_or xs i x → constant_from (drop i xs) ≡ constant_from xs
      → assigns_constant (statement_view x) ≡ false → false ≡ constant_from xs
  constants_lost x l is inv t = sym (ap (λ (b : Bool). b && constant_from (drop (i + 1) xs)) t) ∙ (sym (constants_at x l is) ∙ inv)

  pub constants_go : (x : Statement) → i < length xs → x ≡ get_or xs i x → constant_from (drop i xs) ≡ constant_from xs
      → assigns_constant (statement_view x) ≡ true → constant_from (drop (i + 1) xs) ≡ constant_from xs
  constants_go x l is inv t = sym (ap (λ (b : Bool). b && constant_from (drop (i + 1) xs)) t) ∙ (sym (constants_at x l is) ∙ inv)

  pub constants_end : length xs ≤ i → constant_from (drop i xs) ≡ constant_from xs → true ≡ constant_from xs
  constants_end l inv = sym (at_drop_all constant_from xs i l) ∙ inv

-- ---- ifs with no else

abbrev pub if_alone : List Branch → bodies.Stmts
if_alone bs = bodies.step (bodies.if_of (branches_of bodies.no_else bs)) bodies.done

abbrev pub clocked : Bool → List ℕ → bodies.Stmts → Option Clocking
clocked wide inputs body = option_map clocking_view (k.clocking wide inputs body)

abbrev pub branch_body : Branch → bodies.Stmts
branch_body b = statements_of b.statements.items

abbrev pub branch_edge : Branch → Option k.EdgeTest
branch_edge b = k.edge_test (test_view b.test)

pub one_branch : (wide : Bool) (inputs : List ℕ) (bs : List Branch) (b : Branch) → length bs ≡ 1 → b ≡ get_or bs 0 b
    → clocked_branch (branch_edge b) (branch_body b) None ≡ clocked wide inputs (if_alone bs)
one_branch wide inputs bs b l e = alone_is wide inputs (test_view b.test) (branch_body b) ∙ ap (λ (xs : List Branch). clocked wide inputs (if_alone xs)) (sym (one_item bs b l e))

pub many_branches : (wide : Bool) (inputs : List ℕ) (bs : List Branch) → (length bs ≡ 1 → ⊥) → (length bs ≡ 2 → ⊥) → None ≡ clocked wide inputs (if_alone bs)
many_branches wide inputs [] o t = refl
many_branches wide inputs (b ∷ []) o t = absurd (o refl)
many_branches wide inputs (b ∷ d ∷ []) o t = absurd (t refl)
many_branches wide inputs (b ∷ d ∷ e ∷ bs) o t = refl

two_items : {X : Type 0} (xs : List X) (x y : X) → length xs ≡ 2 → x ≡ get_or xs 0 x → y ≡ get_or xs 1 y → xs ≡ x ∷ y ∷ []
two_items [] x y l e f = absurd (omega arith)
two_items (a ∷ []) x y l e f = absurd (omega arith)
two_items (a ∷ b ∷ []) x y l e f = ap (λ z. z ∷ b ∷ []) (sym e) ∙ ap (λ z. x ∷ z ∷ []) (sym f)
two_items (a ∷ b ∷ d ∷ xs) x y l e f = absurd (omega arith)

no_reset : (gates : Bool) (o : Option k.ResetTest) (constants ne : Bool) (e : Option k.EdgeTest) (s t : bodies.Stmts)
    → option_map reset_net o ≡ None → None ≡ option_map clocking_view (k.with_reset gates o constants ne e s t)
no_reset gates None constants ne e s t h = refl
no_reset gates (Some r) constants ne e s t h = absurd cc

no_constants : (gates : Bool) (o : Option k.ResetTest) (ne : Bool) (e : Option k.EdgeTest) (s t : bodies.Stmts)
    → None ≡ option_map clocking_view (k.with_reset gates o false ne e s t)
no_constants gates None ne e s t = refl
no_constants gates (Some r) ne e s t = refl

with_both : (gates : Bool) (o : Option k.ResetTest) (n : ℕ) (e : Option k.EdgeTest) (s t : bodies.Stmts) → option_map reset_net o ≡ Some n
    → clocked_branch e t (Some n) ≡ option_map clocking_view (k.with_reset gates o true (is_empty (events t)) e s t)
with_both gates None n e s t h = absurd cc
with_both gates (Some r) n e s t h = go e (is_empty (events t)) refl
  where
    go : (e : Option k.EdgeTest) (b : Bool) → is_empty (events t) ≡ b
        → clocked_branch e t (Some n) ≡ option_map clocking_view (k.clocking_of true (is_empty (events t)) e t (Some (record { test = r; branch = s; gates = gates })))
    go None true f = rw f refl
    go None false f = rw f refl
    go (Some e) true f = rw f (rw (← h) refl)
    go (Some e) false f = rw f refl

module _ (wide : Bool) (inputs : List ℕ) (bs : List Branch) (b d : Branch) (two : length bs ≡ 2) (first : b ≡ get_or bs 0 b) (second : d ≡ get_or bs 1 d) where
  spelled : clocked wide inputs (if_alone (b ∷ d ∷ [])) ≡ clocked wide inputs (if_alone bs)
  spelled = ap (λ (xs : List Branch). clocked wide inputs (if_alone xs)) (sym (two_items bs b d two first second))

  pub two_without_reset : atom_reset wide inputs (atom_of (test_view b.test)) ≡ None → None ≡ clocked wide inputs (if_alone bs)
  two_without_reset h =
      no_reset true (k.reset_test wide inputs (test_view b.test)) (k.assigns_constants (branch_body b)) (is_empty (events (branch_body d))) (branch_edge d) (branch_body b) (branch_body d)
      (reset_is wide inputs (test_view b.test) ∙ h) ∙ spelled

  pub two_without_constants : k.assigns_constants (branch_body b) ≡ false → None ≡ clocked wide inputs (if_alone bs)
  two_without_constants h =
      no_constants true (k.reset_test wide inputs (test_view b.test)) (is_empty (events (branch_body d))) (branch_edge d) (branch_body b) (branch_body d)
      ∙ (ap (λ (x : Bool). option_map clocking_view (k.with_reset true (k.reset_test wide inputs (test_view b.test)) x (is_empty (events (branch_body d))) (branch_edge d) (branch_body b) (branch_body d))) (sym h)
      ∙ spelled)

  pub two_with_reset : (n : ℕ) → atom_reset wide inputs (atom_of (test_view b.test)) ≡ Some n → k.assigns_constants (branch_body b) ≡ true
      → clocked_branch (branch_edge d) (branch_body d) (Some n) ≡ clocked wide inputs (if_alone bs)
  two_with_reset n h t =
      with_both true (k.reset_test wide inputs (test_view b.test)) n (branch_edge d) (branch_body b) (branch_body d) (reset_is wide inputs (test_view b.test) ∙ h)
      ∙ (ap (λ (x : Bool). option_map clocking_view (k.with_reset true (k.reset_test wide inputs (test_view b.test)) x (is_empty (events (branch_body d))) (branch_edge d) (branch_body b) (branch_body d))) (sym t)
      ∙ spelled)

-- ---- bodies

two_narrow : (inputs : List ℕ) (s t : bodies.Stmt) → k.clocking false inputs (bodies.step s (bodies.step t bodies.done)) ≡ None
two_narrow inputs (bodies.if_of (bodies.branch t s bodies.no_else)) (bodies.if_of (bodies.branch r a bodies.no_else)) = refl
two_narrow inputs (bodies.if_of (bodies.branch r a (bodies.branch t s bodies.no_else))) u = refl
two_narrow inputs s t = refl

three : (wide : Bool) (inputs : List ℕ) (s t u : bodies.Stmt) (rest : bodies.Stmts) → k.clocking wide inputs (bodies.step s (bodies.step t (bodies.step u rest))) ≡ None
three wide inputs (bodies.if_of (bodies.branch t s bodies.no_else)) (bodies.if_of (bodies.branch r a bodies.no_else)) u rest = refl
three wide inputs (bodies.if_of (bodies.branch r a (bodies.branch t s bodies.no_else))) v u rest = refl
three wide inputs s t u rest = refl

pub not_one : (wide : Bool) (inputs : List ℕ) (body : List Statement) → (length body ≡ 2 → ⊥) → (length body ≡ 1 → ⊥) → None ≡ clocked wide inputs (statements_of body)
not_one wide inputs [] two n = refl
not_one wide inputs (x ∷ []) two n = absurd (n refl)
not_one wide inputs (x ∷ y ∷ []) two n = absurd (two refl)
not_one wide inputs (x ∷ y ∷ z ∷ zs) two n = ap (option_map clocking_view) (sym (three wide inputs (statement_view x) (statement_view y) (statement_view z) (statements_of zs)))

pub narrow_two : (wide : Bool) (inputs : List ℕ) (body : List Statement) → length body ≡ 2 → wide ≡ false → None ≡ clocked wide inputs (statements_of body)
narrow_two wide inputs [] l e = absurd (omega arith)
narrow_two wide inputs (x ∷ []) l e = absurd (omega arith)
narrow_two wide inputs (x ∷ y ∷ []) l e = ap (option_map clocking_view) (sym (ap (λ (w : Bool). k.clocking w inputs (bodies.step (statement_view x) (bodies.step (statement_view y) bodies.done))) e ∙ two_narrow inputs (statement_view x) (statement_view y)))
narrow_two wide inputs (x ∷ y ∷ z ∷ zs) l e = absurd (omega arith)

if_else : (wide : Bool) (inputs : List ℕ) (last : bodies.Stmts) (bs : List Branch) → k.clocking wide inputs (bodies.step (bodies.if_of (branches_of (bodies.otherwise last) bs)) bodies.done) ≡ None
if_else wide inputs last [] = refl
if_else wide inputs last (b ∷ []) = refl
if_else wide inputs last (b ∷ d ∷ []) = refl
if_else wide inputs last (b ∷ d ∷ e ∷ bs) = refl

module _ (wide : Bool) (inputs : List ℕ) (body : List Statement) (x : Statement) (one : length body ≡ 1) (only : x ≡ get_or body 0 x) where
  single : clocked wide inputs (statements_of body) ≡ clocked wide inputs (bodies.step (statement_view x) bodies.done)
  single = ap (λ (xs : List Statement). clocked wide inputs (statements_of xs)) (one_item body x one only)

  pub with_else : (at : ℕ) (branches : Vec Branch Global) (v : Vec Statement Global) → x ≡ vs.If at branches (Some v) → None ≡ clocked wide inputs (statements_of body)
  with_else at branches v is =
      sym (single ∙ (ap (λ (y : Statement). clocked wide inputs (bodies.step (statement_view y) bodies.done)) is
      ∙ (ap (λ (y : bodies.Stmt). clocked wide inputs (bodies.step y bodies.done)) (view_if at branches (Some v))
      ∙ ap (option_map clocking_view) (if_else wide inputs (statements_of v.items) branches.items))))

  pub without_else : (at : ℕ) (branches : Vec Branch Global) → x ≡ vs.If at branches None → clocked wide inputs (if_alone branches.items) ≡ clocked wide inputs (statements_of body)
  without_else at branches is =
      sym (single ∙ (ap (λ (y : Statement). clocked wide inputs (bodies.step (statement_view y) bodies.done)) is
      ∙ ap (λ (y : bodies.Stmt). clocked wide inputs (bodies.step y bodies.done)) (view_if at branches None)))

-- ---- two ifs, where the reading is wide

first_else : (inputs : List ℕ) (last : bodies.Stmts) (bs : List Branch) (t : bodies.Stmt) → k.clocking true inputs (bodies.step (bodies.if_of (branches_of (bodies.otherwise last) bs)) (bodies.step t bodies.done)) ≡ None
first_else inputs last [] t = refl
first_else inputs last (b ∷ []) t = refl
first_else inputs last (b ∷ d ∷ []) t = refl
first_else inputs last (b ∷ d ∷ e ∷ bs) t = refl

second_else : (inputs : List ℕ) (bs ds : List Branch) (last : bodies.Stmts) → k.clocking true inputs (bodies.step (bodies.if_of (branches_of bodies.no_else bs)) (bodies.step (bodies.if_of (branches_of (bodies.otherwise last) ds)) bodies.done)) ≡ None
second_else inputs [] ds last = refl
second_else inputs (b ∷ []) [] last = refl
second_else inputs (b ∷ []) (d ∷ []) last = refl
second_else inputs (b ∷ []) (d ∷ e ∷ ds) last = refl
second_else inputs (b ∷ c ∷ []) [] last = refl
second_else inputs (b ∷ c ∷ []) (d ∷ ds) last = refl
second_else inputs (b ∷ c ∷ e ∷ bs) ds last = refl

first_many : (inputs : List ℕ) (bs : List Branch) (t : bodies.Stmt) → (length bs ≡ 1 → ⊥) → k.clocking true inputs (bodies.step (bodies.if_of (branches_of bodies.no_else bs)) (bodies.step t bodies.done)) ≡ None
first_many inputs [] t n = refl
first_many inputs (b ∷ []) t n = absurd (n refl)
first_many inputs (b ∷ d ∷ []) t n = refl
first_many inputs (b ∷ d ∷ e ∷ bs) t n = refl

second_many : (inputs : List ℕ) (bs ds : List Branch) → (length ds ≡ 1 → ⊥) → k.clocking true inputs (bodies.step (bodies.if_of (branches_of bodies.no_else bs)) (bodies.step (bodies.if_of (branches_of bodies.no_else ds)) bodies.done)) ≡ None
second_many inputs bs (d ∷ []) n = absurd (n refl)
second_many inputs [] [] n = refl
second_many inputs [] (d ∷ e ∷ ds) n = refl
second_many inputs (b ∷ []) [] n = refl
second_many inputs (b ∷ []) (d ∷ e ∷ ds) n = refl
second_many inputs (b ∷ c ∷ []) [] n = refl
second_many inputs (b ∷ c ∷ []) (d ∷ e ∷ ds) n = refl
second_many inputs (b ∷ c ∷ x ∷ bs) [] n = refl
second_many inputs (b ∷ c ∷ x ∷ bs) (d ∷ e ∷ ds) n = refl

abbrev pub two_ifs : List Branch → List Branch → bodies.Stmts
two_ifs bs ds = bodies.step (bodies.if_of (branches_of bodies.no_else bs)) (bodies.step (bodies.if_of (branches_of bodies.no_else ds)) bodies.done)

pub two_many_first : (inputs : List ℕ) (bs ds : List Branch) → (length bs ≡ 1 → ⊥) → None ≡ clocked true inputs (two_ifs bs ds)
two_many_first inputs bs ds n = ap (option_map clocking_view) (sym (first_many inputs bs (bodies.if_of (branches_of bodies.no_else ds)) n))

pub two_many_second : (inputs : List ℕ) (bs ds : List Branch) → (length ds ≡ 1 → ⊥) → None ≡ clocked true inputs (two_ifs bs ds)
two_many_second inputs bs ds n = ap (option_map clocking_view) (sym (second_many inputs bs ds n))

module _ (inputs : List ℕ) (bs ds : List Branch) (b d : Branch) (one : length bs ≡ 1) (other : length ds ≡ 1) (first : b ≡ get_or bs 0 b) (second : d ≡ get_or ds 0 d) where
  both_spelled : clocked true inputs (two_ifs (b ∷ []) (d ∷ [])) ≡ clocked true inputs (two_ifs bs ds)
  both_spelled = (λ i. clocked true inputs (two_ifs (sym (one_item bs b one first) i) (sym (one_item ds d other second) i)))

  abbrev plain : Bool
  plain = is_empty (leaves (branch_body d)) && k.assigns_constants (branch_body d)

  pub behind_without_reset : atom_reset true inputs (atom_of (test_view d.test)) ≡ None → None ≡ clocked true inputs (two_ifs bs ds)
  behind_without_reset h =
      no_reset false (k.reset_test true inputs (test_view d.test)) plain (is_empty (events (branch_body b))) (branch_edge b) (branch_body d) (branch_body b) (reset_is true inputs (test_view d.test) ∙ h) ∙ both_spelled

  pub behind_without_constants : plain ≡ false → None ≡ clocked true inputs (two_ifs bs ds)
  behind_without_constants h =
      no_constants false (k.reset_test true inputs (test_view d.test)) (is_empty (events (branch_body b))) (branch_edge b) (branch_body d) (branch_body b)
      ∙ (ap (λ (x : Bool). option_map clocking_view (k.with_reset false (k.reset_test true inputs (test_view d.test)) x (is_empty (events (branch_body b))) (branch_edge b) (branch_body d) (branch_body b))) (sym h)
      ∙ both_spelled)

  pub behind_with_reset : (n : ℕ) → atom_reset true inputs (atom_of (test_view d.test)) ≡ Some n → plain ≡ true
      → clocked_branch (branch_edge b) (branch_body b) (Some n) ≡ clocked true inputs (two_ifs bs ds)
  behind_with_reset n h t =
      with_both false (k.reset_test true inputs (test_view d.test)) n (branch_edge b) (branch_body d) (branch_body b) (reset_is true inputs (test_view d.test) ∙ h)
      ∙ (ap (λ (x : Bool). option_map clocking_view (k.with_reset false (k.reset_test true inputs (test_view d.test)) x (is_empty (events (branch_body b))) (branch_edge b) (branch_body d) (branch_body b))) (sym t)
      ∙ both_spelled)

module _ (inputs : List ℕ) (x : Statement) (t : bodies.Stmt) where
  pub first_with_else : (at : ℕ) (branches : Vec Branch Global) (v : Vec Statement Global) → x ≡ vs.If at branches (Some v) → None ≡ clocked true inputs (bodies.step (statement_view x) (bodies.step t bodies.done))
  first_with_else at branches v is =
      sym (ap (λ (y : Statement). clocked true inputs (bodies.step (statement_view y) (bodies.step t bodies.done))) is
      ∙ ap (λ (y : bodies.Stmt). clocked true inputs (bodies.step y (bodies.step t bodies.done))) (view_if at branches (Some v))
      ∙ ap (option_map clocking_view) (first_else inputs (statements_of v.items) branches.items t))

  pub first_without_else : (at : ℕ) (branches : Vec Branch Global) → x ≡ vs.If at branches None
      → clocked true inputs (bodies.step (bodies.if_of (branches_of bodies.no_else branches.items)) (bodies.step t bodies.done)) ≡ clocked true inputs (bodies.step (statement_view x) (bodies.step t bodies.done))
  first_without_else at branches is =
      sym (ap (λ (y : Statement). clocked true inputs (bodies.step (statement_view y) (bodies.step t bodies.done))) is
      ∙ ap (λ (y : bodies.Stmt). clocked true inputs (bodies.step y (bodies.step t bodies.done))) (view_if at branches None))

module _ (inputs : List ℕ) (bs : List Branch) (x : Statement) where
  pub second_with_else : (at : ℕ) (branches : Vec Branch Global) (v : Vec Statement Global) → x ≡ vs.If at branches (Some v) → None ≡ clocked true inputs (bodies.step (bodies.if_of (branches_of bodies.no_else bs)) (bodies.step (statement_view x) bodies.done))
  second_with_else at branches v is =
      sym (ap (λ (y : Statement). clocked true inputs (bodies.step (bodies.if_of (branches_of bodies.no_else bs)) (bodies.step (statement_view y) bodies.done))) is
      ∙ ap (λ (y : bodies.Stmt). clocked true inputs (bodies.step (bodies.if_of (branches_of bodies.no_else bs)) (bodies.step y bodies.done))) (view_if at branches (Some v))
      ∙ ap (option_map clocking_view) (second_else inputs bs branches.items (statements_of v.items)))

  pub second_without_else : (at : ℕ) (branches : Vec Branch Global) → x ≡ vs.If at branches None → clocked true inputs (two_ifs bs branches.items) ≡ clocked true inputs (bodies.step (bodies.if_of (branches_of bodies.no_else bs)) (bodies.step (statement_view x) bodies.done))
  second_without_else at branches is =
      sym (ap (λ (y : Statement). clocked true inputs (bodies.step (bodies.if_of (branches_of bodies.no_else bs)) (bodies.step (statement_view y) bodies.done))) is
      ∙ ap (λ (y : bodies.Stmt). clocked true inputs (bodies.step (bodies.if_of (branches_of bodies.no_else bs)) (bodies.step y bodies.done))) (view_if at branches None))

-- of two statements
pub pair_spelled : (inputs : List ℕ) (body : List Statement) (x y : Statement) → length body ≡ 2 → x ≡ get_or body 0 x → y ≡ get_or body 1 y
    → clocked true inputs (bodies.step (statement_view x) (bodies.step (statement_view y) bodies.done)) ≡ clocked true inputs (statements_of body)
pair_spelled inputs body x y l e f = ap (λ (xs : List Statement). clocked true inputs (statements_of xs)) (sym (two_items body x y l e f))

-- ---- kinds

pub kind_some : (o : Option k.Clocking) (c : Clocking) (ns : List ℕ) → Some c ≡ option_map clocking_view o → d.Clocked c ≡ kind_view o ns
kind_some None c ns h = absurd cc
kind_some (Some e) c ns h = let f : c ≡ clocking_view e = cc in ap d.Clocked f

pub kind_mixed : (o : Option k.Clocking) (ns : List ℕ) → None ≡ option_map clocking_view o → some ns ≡ true → d.Mixed ≡ kind_view o ns
kind_mixed None [] h t = absurd cc
kind_mixed None (n ∷ ns) h t = refl
kind_mixed (Some e) ns h t = absurd cc

pub kind_combinational : (o : Option k.Clocking) (ns : List ℕ) → None ≡ option_map clocking_view o → some ns ≡ false → d.Combinational ≡ kind_view o ns
kind_combinational None [] h t = refl
kind_combinational None (n ∷ ns) h t = absurd cc
kind_combinational (Some e) ns h t = absurd cc
