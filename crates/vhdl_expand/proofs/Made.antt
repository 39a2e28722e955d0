-- The parts of a process, made and paid in the order of the code, are the process and what it costs.
use Rattle.std.proofs.Common.{◌≡◌, ℕ, ◌+◌, List, Ok, Err, refl, sym, ap, ◌∙◌, subst, arith}
use Rattle.std.specs.Prelude.{◌≢◌, IsErr}
use Rattle.vhdl_names_rules.specs.units.Units as u
use Rattle.rtl_model.specs.bodies.Body as bodies
use Rattle.vhdl_expand_rules.specs.declared.fault.ElabProblem.TheVariants.{TooMany}
use Rattle.vhdl_expand_rules.specs.Elab.{Elab, ◌>>=◌, MayTell, Told}
use Rattle.vhdl_expand_rules.specs.Site.{Site, elements_count}
use Rattle.vhdl_expand_rules.specs.Tree as t
use Rattle.vhdl_expand_rules.specs.Prefixes.{targets, prefixes_elements, in_order}
use Rattle.vhdl_expand_rules.specs.Declarations.{ProcessVariables, no_variables, process_declarations}
use Rattle.vhdl_expand_rules.specs.Statements.{statements, statements_turns}
use Rattle.vhdl_expand_rules.specs.Expansion.{sensitivity, process}
use Rattle.vhdl_expand_rules.proofs.Chains.{bind-assoc}
use Rattle.vhdl_expand_rules.proofs.Steps.{given, ok, bound}
use Rattle.vhdl_elab_rules.specs.Limits.{Counts, statements_count}
use Rattle.vhdl_expand_tree.specs.Costs.{a_process, plus, variables_costs, process_costs, spent, charged}
use Rattle.vhdl_expand_tree.proofs.Alike.{Alike, wrong, same_told, tells_first, tells_next, tells_again}
use Rattle.vhdl_expand_tree.proofs.Charging.{left_with, spent-plus, spent_told}
use Rattle.vhdl_expand_processes.specs.Driven.{drives_of}
use Rattle.vhdl_expand.proofs.Spending.{spent_here, spent_there}
use Rattle.vhdl_expand.specs.Unrolled.{paid, statements_costs}
use Rattle.vhdl_expand.specs.Processes.{Doing, turns_paid, doing_steps, process_of, process_steps}
use Rattle.vhdl_expand_declarations.proofs.Declaring.{objects_stay}
use Rattle.vhdl_expand.proofs.Measured.{body_costs, statements-measured, turns_of, statements-turned}

then_ok : {A B : Type 0} (r : Elab A) (f : A → Elab B) (x : A) (y : B) → r ≡ Ok x → f x ≡ Ok y → (r >>= f) ≡ Ok y
then_ok r f x y h k = ap (λ q. q >>= f) h ∙ k

none-more : (n : ℕ) → n ≡ 0 + (n + 0)
none-more n = omega arith

none-before : (n : ℕ) → n ≡ 0 + (0 + n)
none-before n = omega arith

made-costs : (q : t.Process) → process_costs q ≡ plus a_process (plus (variables_costs q.variables) (body_costs q.turns (statements_count q.body)))
made-costs q = λ i. record {
  processes = 1;
  instances = 0;
  nets = 0;
  turns = none-before q.turns i;
  statements = none-before (statements_count q.body) i;
  variable_elements = none-more (variables_costs q.variables).variable_elements i;
}

-- ---- the first broken rule is the same

-- behind a charge that is told as TooMany alone
skip : {told : Told} {A B : Type 0} (at : ℕ) (n c : Counts) (f : Counts → Elab A) (whole : Elab B) → told.0 ≢ TooMany → (spent at n c >>= f) ≡ Err told
    → ((left : Counts) → f left ≡ Err told → whole ≡ Err told) → whole ≡ Err told
skip {told} {A} {B} at n c f whole unspent h go = by (spent at n c) (spent_told at n c) h
  where
    by : (r : Elab Counts) → ((other : Told) → r ≡ Err other → other.0 ≡ TooMany) → (r >>= f) ≡ Err told → whole ≡ Err told
    by (Ok left) only k = go left k
    by (Err other) only k = absurd (unspent (ap (λ (x : Told). x.0) (sym (same_told {A = A} other told k)) ∙ only other refl))

along : {told : Told} {A B C : Type 0} (r : Elab A) (f : A → Elab B) (g : A → Elab C) → (r >>= f) ≡ Err told
    → ((x : A) → f x ≡ Err told → g x ≡ Err told) → (r >>= g) ≡ Err told
along (Ok x) f g h go = go x h
along {told} {A} {B} {C} (Err other) f g h go = ap (λ q. wrong {A = C} q) (same_told {A = B} other told h)

-- what is refused with something made of it is refused alone
alone : {told : Told} {A B : Type 0} (r : Elab A) (f : A → B) → (r >>= λ x. given (f x)) ≡ Err told → r ≡ Err told
alone (Ok x) f h = absurd cc
alone {told} {A} {B} (Err other) f h = ap (λ q. wrong {A = A} q) (same_told {A = B} other told h)

turns-along : {told : Told} {A B : Type 0} (cost : Elab Counts) (turned : Elab ℕ) → turned ≡ turns_of cost → (n : Counts) (f : ℕ × Counts → Elab A) (g : ℕ → Elab B)
    → told.0 ≢ TooMany → (turns_paid n cost >>= f) ≡ Err told → ((x : ℕ × Counts) → f x ≡ Err told → g x.0 ≡ Err told) → (turned >>= g) ≡ Err told
turns-along {told} {A} {B} cost turned same n f g unspent h go = ap (λ r. r >>= g) same ∙ by cost h
  where
    by : (q : Elab Counts) → (turns_paid n q >>= f) ≡ Err told → (turns_of q >>= g) ≡ Err told
    by (Ok c) k = skip 0 n c (λ rest. f (c.turns, rest)) (g c.turns) unspent (sym (bind-assoc (spent 0 n c) (λ rest. left_with c.turns rest) f) ∙ k) (λ rest e. go (c.turns, rest) e)
    by (Err other) k = ap (λ q. wrong {A = B} q) (same_told {A = A} other told k)

-- what is paid for turns and statements
record Paid (n : Counts) (c : Counts) (turned : ℕ × Counts) : Type 0 where
  turns_are : turned.0 ≡ c.turns
  spent_is : spent 0 n c ≡ Ok turned.1

paid-turns : (n : Counts) (q : Elab Counts) (c : Counts) (turned : ℕ × Counts) → q ≡ Ok c → turns_paid n q ≡ Ok turned → Paid n c turned
paid-turns n q c turned h k =
    let s = bound (spent 0 n c) _ turned (sym (ap (turns_paid n) h) ∙ k) in
    let here : ℕ × Counts = (c.turns, s.x) in
    let e = ok here turned s.then_gave in
    record { turns_are = sym (ap (λ x. x.0) e); spent_is = s.gave ∙ ap given (ap (λ x. x.1) e) }

-- ---- what the body does

record Does (n : Counts) (here : Site) (p : u.Process) : Type 0 where
  ds : List ℕ
  driven : drives_of here p.body ≡ Ok ds
  on : t.Sensitivity
  resumed : sensitivity here p.sensitivity p.body ≡ Ok on
  turned : ℕ × Counts
  counted : turns_paid n (statements_costs here p.body) ≡ Ok turned
  body : bodies.Stmts
  expanded : statements here p.body ≡ Ok body

module _ (n : Counts) (here : Site) (p : u.Process) where
  abbrev done : Does n here p → Doing × Counts
  done x = (record { drives = x.ds; sensitivity = x.on; turns = x.turned.0; body = x.body }, x.turned.1)

  doing-from : (x : Does n here p) → doing_steps n here p ≡ Ok (done x)
  doing-from x =
      then_ok (drives_of here p.body) _ x.ds (done x) x.driven
      (then_ok (sensitivity here p.sensitivity p.body) _ x.on (done x) x.resumed
      (then_ok (turns_paid n (statements_costs here p.body)) _ x.turned (done x) x.counted
      (then_ok (statements here p.body) _ x.body (done x) x.expanded refl)))

  doing-of : (y : Doing × Counts) → doing_steps n here p ≡ Ok y → (x : Does n here p) × (done x ≡ y)
  doing-of y h =
      let ds = bound (drives_of here p.body) _ y h in
      let on = bound (sensitivity here p.sensitivity p.body) _ y ds.then_gave in
      let turned = bound (turns_paid n (statements_costs here p.body)) _ y on.then_gave in
      let body = bound (statements here p.body) _ y turned.then_gave in
      let x : Does n here p = record {
        ds = ds.x;
        driven = ds.gave;
        on = on.x;
        resumed = on.gave;
        turned = turned.x;
        counted = turned.gave;
        body = body.x;
        expanded = body.gave;
      } in
      (x, ok (done x) y body.then_gave)

-- ---- each part

record Parts (n : Counts) (at : Site) (p : u.Process) : Type 0 where
  unstarted : Counts
  started : spent p.at n a_process ≡ Ok unstarted
  d : ProcessVariables
  declared : process_declarations (no_variables at) p.declarations ≡ Ok d
  unbodied : Counts
  held : spent p.at unstarted (variables_costs d.variables) ≡ Ok unbodied
  does : Does unbodied d.site p

module _ (n : Counts) (at : Site) (prefix : List ℕ) (p : u.Process) where
  abbrev made : Parts n at p → t.Process × Counts
  made x = (process_of prefix p x.d.variables (done x.unbodied x.d.site p x.does).0, x.does.turned.1)

  pub process_made : (unstarted unbodied : Counts) (d : ProcessVariables) (y : Doing × Counts) → spent p.at n a_process ≡ Ok unstarted
      → process_declarations (no_variables at) p.declarations ≡ Ok d → spent p.at unstarted (variables_costs d.variables) ≡ Ok unbodied → doing_steps unbodied d.site p ≡ Ok y
      → process_steps n (record { site = at; prefix = prefix }) p ≡ Ok (process_of prefix p d.variables y.0, y.1)
  unfolding process_steps
  process_made unstarted unbodied d y started declared held does =
      let z : t.Process × Counts = (process_of prefix p d.variables y.0, y.1) in
      then_ok (spent p.at n a_process) _ unstarted z started
      (then_ok (process_declarations (no_variables at) p.declarations) _ d z declared
      (then_ok (spent p.at unstarted (variables_costs d.variables)) _ unbodied z held
      (then_ok (doing_steps unbodied d.site p) _ y z does refl)))

  steps-from : (x : Parts n at p) → process_steps n (record { site = at; prefix = prefix }) p ≡ Ok (made x)
  steps-from x = process_made x.unstarted x.unbodied x.d (done x.unbodied x.d.site p x.does) x.started x.declared x.held (doing-from x.unbodied x.d.site p x.does)

  steps-of : (y : t.Process × Counts) → process_steps n (record { site = at; prefix = prefix }) p ≡ Ok y → (x : Parts n at p) × (made x ≡ y)
  unfolding process_steps
  steps-of y h =
      let started = bound (spent p.at n a_process) _ y h in
      let d = bound (process_declarations (no_variables at) p.declarations) _ y started.then_gave in
      let held = bound (spent p.at started.x (variables_costs d.x.variables)) _ y d.then_gave in
      let does = bound (doing_steps held.x d.x.site p) _ y held.then_gave in
      let inner = doing-of held.x d.x.site p does.x does.gave in
      let x : Parts n at p = record {
        unstarted = started.x;
        started = started.gave;
        d = d.x;
        declared = d.gave;
        unbodied = held.x;
        held = held.gave;
        does = inner.0;
      } in
      (x, (λ i. (process_of prefix p d.x.variables (inner.1 i).0, (inner.1 i).1)) ∙ ok _ y does.then_gave)

  -- the elements of ports and signals are those of the instance
  drawn : (d : ProcessVariables) (es : List ℕ) → process_declarations (no_variables at) p.declarations ≡ Ok d
      → in_order (elements_count at.ports + elements_count at.signals) es ≡ in_order (elements_count d.site.ports + elements_count d.site.signals) es
  drawn d es h =
      let s = objects_stay p.declarations (no_variables at) d h in
      λ i. in_order (elements_count (sym s.ports i) + elements_count (sym s.signals i)) es

  whole-from : (x : Parts n at p) → charged n process_costs (process (record { site = at; prefix = prefix }) p) ≡ Ok (made x)
  unfolding process
  whole-from x =
      let w = x.does in
      let here = x.d.site in
      let vs = x.d.variables in
      let y = made x in
      let q = y.0 in
      let m = statements-measured here p.body w.body w.expanded in
      let c = body_costs m.n (statements_count w.body) in
      let paid = paid-turns x.unbodied (statements_costs here p.body) c w.turned m.costs_are w.counted in
      let es = bound (prefixes_elements here (targets p.body)) _ w.ds w.driven in
      let order = drawn x.d es.x x.declared ∙ ok (in_order (elements_count here.ports + elements_count here.signals) es.x) w.ds es.then_gave in
      let is : process (record { site = at; prefix = prefix }) p ≡ Ok q =
      then_ok (process_declarations (no_variables at) p.declarations) _ x.d q x.declared
      (then_ok (prefixes_elements here (targets p.body)) _ es.x q es.gave
      (then_ok (sensitivity here p.sensitivity p.body) _ w.on q w.resumed
      (then_ok (statements_turns here p.body) _ m.n q m.turns_are
      (then_ok (statements here p.body) _ w.body q w.expanded
      (λ i. given (record { at = p.at; prefix = prefix; label = p.label; drives = order i; sensitivity = w.on; variables = vs; body = w.body; turns = sym paid.turns_are i })))))) in
      let left : spent 0 n (process_costs q) ≡ Ok w.turned.1 =
      ap (spent 0 n) (made-costs q) ∙ spent-plus 0 a_process (plus (variables_costs vs) (body_costs w.turned.0 (statements_count w.body))) n
      ∙ then_ok (spent 0 n a_process) (λ l. spent 0 l (plus (variables_costs vs) (body_costs w.turned.0 (statements_count w.body)))) x.unstarted w.turned.1 (spent_here p.at n a_process x.unstarted x.started)
      (spent-plus 0 (variables_costs vs) (body_costs w.turned.0 (statements_count w.body)) x.unstarted
      ∙ then_ok (spent 0 x.unstarted (variables_costs vs)) (λ l. spent 0 l (body_costs w.turned.0 (statements_count w.body))) x.unbodied w.turned.1 (spent_here p.at x.unstarted (variables_costs vs) x.unbodied x.held)
      (ap (λ k. spent 0 x.unbodied (body_costs k (statements_count w.body))) paid.turns_are ∙ paid.spent_is)) in
      then_ok (process (record { site = at; prefix = prefix }) p) _ q y is (then_ok (spent 0 n (process_costs q)) _ w.turned.1 y left refl)

  whole-of : (y : t.Process × Counts) → charged n process_costs (process (record { site = at; prefix = prefix }) p) ≡ Ok y → Parts n at p
  unfolding process
  whole-of y h =
      let q = bound (process (record { site = at; prefix = prefix }) p) _ y h in
      let d = bound (process_declarations (no_variables at) p.declarations) _ q.x q.gave in
      let here = d.x.site in
      let vs = d.x.variables in
      let es = bound (prefixes_elements here (targets p.body)) _ q.x d.then_gave in
      let on = bound (sensitivity here p.sensitivity p.body) _ q.x es.then_gave in
      let k = bound (statements_turns here p.body) _ q.x on.then_gave in
      let body = bound (statements here p.body) _ q.x k.then_gave in
      let ds = in_order (elements_count here.ports + elements_count here.signals) es.x in
      let whole : t.Process = record {
        at = p.at;
        prefix = prefix;
        label = p.label;
        drives = in_order (elements_count at.ports + elements_count at.signals) es.x;
        sensitivity = on.x;
        variables = vs;
        body = body.x;
        turns = k.x;
      } in
      let m = statements-measured here p.body body.x body.gave in
      let same = ok m.n k.x (sym m.turns_are ∙ k.gave) in
      let s = bound (spent 0 n (process_costs q.x)) _ y q.then_gave in
      let rest = plus (variables_costs vs) (body_costs m.n (statements_count body.x)) in
      let all : (spent 0 n a_process >>= λ l. spent 0 l rest) ≡ Ok s.x =
      sym (spent-plus 0 a_process rest n) ∙ ap (λ j. spent 0 n (plus a_process (plus (variables_costs vs) (body_costs j (statements_count body.x))))) same
      ∙ ap (spent 0 n) (sym (made-costs whole)) ∙ ap (λ z. spent 0 n (process_costs z)) (ok whole q.x body.then_gave) ∙ s.gave in
      let started = bound (spent 0 n a_process) (λ l. spent 0 l rest) s.x all in
      let held = bound (spent 0 started.x (variables_costs vs)) (λ l. spent 0 l (body_costs m.n (statements_count body.x))) s.x
      (sym (spent-plus 0 (variables_costs vs) (body_costs m.n (statements_count body.x)) started.x) ∙ started.then_gave) in
      let turned : ℕ × Counts = (m.n, s.x) in
      record {
        unstarted = started.x;
        started = spent_there p.at n a_process started.x started.gave;
        d = d.x;
        declared = d.gave;
        unbodied = held.x;
        held = spent_there p.at started.x (variables_costs vs) held.x held.gave;
        does = record {
          ds = ds;
          driven = then_ok (prefixes_elements here (targets p.body)) _ es.x ds es.gave refl;
          on = on.x;
          resumed = on.gave;
          turned = turned;
          counted = then_ok (statements_costs here p.body) _ (body_costs m.n (statements_count body.x)) turned m.costs_are
              (then_ok (spent 0 held.x (body_costs m.n (statements_count body.x))) _ s.x turned held.then_gave refl);
          body = body.x;
          expanded = body.gave;
        };
      }

  steps-refused : {told : Told} → told.0 ≢ TooMany → process_steps n (record { site = at; prefix = prefix }) p ≡ Err told
      → process (record { site = at; prefix = prefix }) p ≡ Err told
  unfolding process_steps process
  steps-refused unspent h =
      skip p.at n a_process _ _ unspent h (λ unstarted a.
      along (process_declarations (no_variables at) p.declarations) _ _ a (λ d b.
      skip p.at unstarted (variables_costs d.variables) _ _ unspent b (λ unbodied e.
      along (prefixes_elements d.site (targets p.body)) _ _ (sym (bind-assoc (prefixes_elements d.site (targets p.body)) _ _) ∙ alone (doing_steps unbodied d.site p) _ e) (λ es f.
      along (sensitivity d.site p.sensitivity p.body) _ _ f (λ on g.
      turns-along (statements_costs d.site p.body) (statements_turns d.site p.body) (statements-turned d.site p.body) unbodied _ _ unspent g (λ turned k.
      along (statements d.site p.body) _ _ k (λ body l. absurd cc)))))))

  pub process_alike : Alike (charged n process_costs (process (record { site = at; prefix = prefix }) p)) (process_steps n (record { site = at; prefix = prefix }) p)
  process_alike = record {
    gives = λ y h. let x = steps-of y h in whole-from x.0 ∙ ap given x.1;
    stops = λ bytes told may_tell. record {
      refused = go (charged n process_costs (process (record { site = at; prefix = prefix }) p)) (λ y e. subst (λ r. IsErr r) (steps-from (whole-of y e)) may_tell.refused);
      first = λ unspent. ap (λ (r : Elab t.Process). charged n process_costs r) (steps-refused unspent (may_tell.first unspent));
      placed = may_tell.placed;
    };
  }
    where
      go : (r : Elab (t.Process × Counts)) → ((y : t.Process × Counts) → r ≡ Ok y → IsErr (given y)) → IsErr r
      go (Ok y) k = k y refl
      go (Err told) k = refl

-- ---- where the steps stop

-- what is not paid gives no turns
pub not_paid : {bytes : List ℕ} {told : Told} (n : Counts) (q : Elab Counts) → MayTell bytes (paid n q) told → MayTell bytes (turns_paid n q) told
not_paid n (Ok c) h = tells_first (spent 0 n c) _ h
not_paid n (Err other) h = tells_again {A = Counts} {B = ℕ × Counts} other _ h

module _ (n : Counts) (here : Site) (p : u.Process) where
  pub not_driven : {bytes : List ℕ} {told : Told} → MayTell bytes (drives_of here p.body) told → MayTell bytes (doing_steps n here p) told
  not_driven h = tells_first (drives_of here p.body) _ h

  module _ (ds : List ℕ) (driven : drives_of here p.body ≡ Ok ds) where
    pub not_resumed : {bytes : List ℕ} {told : Told} → MayTell bytes (sensitivity here p.sensitivity p.body) told → MayTell bytes (doing_steps n here p) told
    not_resumed h = tells_next (drives_of here p.body) _ ds driven (tells_first (sensitivity here p.sensitivity p.body) _ h)

    module _ (on : t.Sensitivity) (resumed : sensitivity here p.sensitivity p.body ≡ Ok on) where
      pub not_counted : {bytes : List ℕ} {told : Told} → MayTell bytes (turns_paid n (statements_costs here p.body)) told → MayTell bytes (doing_steps n here p) told
      not_counted h =
          tells_next (drives_of here p.body) _ ds driven (tells_next (sensitivity here p.sensitivity p.body) _ on resumed
          (tells_first (turns_paid n (statements_costs here p.body)) _ h))

      pub not_expanded : {bytes : List ℕ} {told : Told} (turned : ℕ × Counts) → turns_paid n (statements_costs here p.body) ≡ Ok turned
          → MayTell bytes (statements here p.body) told → MayTell bytes (doing_steps n here p) told
      not_expanded turned counted h =
          tells_next (drives_of here p.body) _ ds driven (tells_next (sensitivity here p.sensitivity p.body) _ on resumed
          (tells_next (turns_paid n (statements_costs here p.body)) _ turned counted (tells_first (statements here p.body) _ h)))

module _ (n : Counts) (at : Site) (prefix : List ℕ) (p : u.Process) where
  abbrev whole_steps : Elab (t.Process × Counts)
  whole_steps = process_steps n (record { site = at; prefix = prefix }) p

  pub not_started : {bytes : List ℕ} {told : Told} → MayTell bytes (spent p.at n a_process) told → MayTell bytes whole_steps told
  unfolding process_steps
  not_started h = tells_first (spent p.at n a_process) _ h

  module _ (unstarted : Counts) (started : spent p.at n a_process ≡ Ok unstarted) where
    pub not_declared : {bytes : List ℕ} {told : Told} → MayTell bytes (process_declarations (no_variables at) p.declarations) told → MayTell bytes whole_steps told
    unfolding process_steps
    not_declared h = tells_next (spent p.at n a_process) _ unstarted started (tells_first (process_declarations (no_variables at) p.declarations) _ h)
