-- What is declared, one thing after another.
use Rattle.std.proofs.Common.{◌≡◌, List, [], ◌∷◌, map, Result, Ok, Err, refl, sym, ap, ◌∙◌, subst}
use Rattle.std.specs.Prelude.{⊤, ◌≢◌, OnOk, unwrap_or}
use Rattle.std.specs.List.{AllByRecursion}
use Rattle.vhdl_tree.specs.Tree.{Ident}
use Rattle.vhdl_tree.specs.View.{idents_view}
use Rattle.vhdl_names_trees.specs.views.Integers.{static_view, subtype_view}
use Rattle.vhdl_names_trees.specs.views.Tests.{static_test_view}
use Rattle.vhdl_names_rules.specs.units.Units as u
use Rattle.vhdl_names_rules.specs.units.Units.{Declaration}
use Rattle.vhdl_names_units.specs.declared.declaration.Declaration as code
use Rattle.vhdl_names_units.specs.declared.declaration.Declaration.TheVariants as d
use Rattle.vhdl_names_units.specs.views.Answers.{fixed_view, form_view}
use Rattle.vhdl_names_units.specs.views.Declarations.{declaration_view, object_view}
use Rattle.vhdl_expand_rules.specs.declared.fault.ElabFault.{ElabFault}
use Rattle.vhdl_expand_rules.specs.Elab.{Elab, ◌>>=◌}
use Rattle.vhdl_expand_rules.specs.Integers.{integer_of, numbers_of, decision}
use Rattle.vhdl_expand_rules.specs.Kinds.{size, kind_of}
use Rattle.vhdl_expand_rules.specs.Site.{Site}
use Rattle.vhdl_expand_rules.specs.Tree as t
use Rattle.vhdl_expand_rules.specs.Declarations.{InstanceObjects, ProcessVariables, fixed_values, declared, declaration, declarations, variable, with_variable, process_declaration, process_declarations}
use Rattle.vhdl_expand_rules.proofs.Steps.{given, ok, bound}
use Rattle.vhdl_expand_rules.proofs.Chains.{err_first}
use Rattle.vhdl_expand_operands.specs.Results.{Expands}
use Rattle.vhdl_expand_tree.specs.Views.{variable_view}
use Rattle.vhdl_expand_declarations.specs.declared.declared.InstanceObjects as instance
use Rattle.vhdl_expand_declarations.specs.declared.declared.ProcessVariables as inside
use Rattle.vhdl_expand_declarations.specs.Stepwise.{stepwise}
use Rattle.vhdl_expand_declarations.specs.Variables.{next_variable, variables_view}
use Rattle.vhdl_expand_declarations.specs.Views.{declared_view}
use Rattle.vhdl_expand_declarations.proofs.ObjectSteps.{declarations_walk}
use Rattle.vhdl_expand_declarations.proofs.Stepping.{goes_alike, walks_alike}

-- ---- ports and signals stay in a process

pub record ObjectsStay (here new : Site) : Type 0 where
  pub ports : new.ports ≡ here.ports
  pub signals : new.signals ≡ here.signals

unchanged : (here : Site) → ObjectsStay here here
unchanged here = record { ports = refl; signals = refl }

declared-stay : (x : Declaration) (here new : Site) → declared here x ≡ Ok new → ObjectsStay here new
unfolding declared
declared-stay (u.Declaration.integer at type s) here new h =
    let x = bound (integer_of type here.integers at s) _ new h in subst (ObjectsStay here) (ok _ new x.then_gave) (record { ports = refl; signals = refl })
declared-stay (u.Declaration.truth at t) here new h =
    let b = bound (decision here.integers t) _ new h in subst (ObjectsStay here) (ok _ new b.then_gave) (record { ports = refl; signals = refl })
declared-stay (u.Declaration.constant at form f) here new h =
    let kind = bound (kind_of here.integers at form) _ new h in
    let vs = bound (fixed_values here at (size kind.x) f) _ new kind.then_gave in
    subst (ObjectsStay here) (ok _ new vs.then_gave) (record { ports = refl; signals = refl })
declared-stay (u.vector_subtype at r) here new h =
    let kind = bound (kind_of here.integers at (u.vector r)) _ new h in subst (ObjectsStay here) (ok _ new kind.then_gave) (record { ports = refl; signals = refl })
declared-stay (u.integer_subtype at s) here new h =
    let numbers = bound (numbers_of here.integers at s) _ new h in subst (ObjectsStay here) (ok _ new numbers.then_gave) (record { ports = refl; signals = refl })
declared-stay _ here new h = subst (ObjectsStay here) (ok here new h) (unchanged here)

one-stays : (x : Declaration) (d e : ProcessVariables) → process_declaration d x ≡ Ok e → ObjectsStay d.site e.site
unfolding process_declaration
one-stays (u.Declaration.variable o) d e h =
    let v = bound (variable d.site o) _ e h in subst (λ (y : ProcessVariables). ObjectsStay d.site y.site) (ok _ e v.then_gave) (record { ports = refl; signals = refl })
one-stays x d e h =
    let here = bound (declared d.site x) _ e h in
    subst (λ (y : ProcessVariables). ObjectsStay d.site y.site) (ok (record d { site = here.x }) e here.then_gave) (declared-stay x d.site here.x here.gave)

pub objects_stay : (xs : List Declaration) (d e : ProcessVariables) → process_declarations d xs ≡ Ok e → ObjectsStay d.site e.site
unfolding process_declarations
objects_stay [] d e h = subst (λ (y : ProcessVariables). ObjectsStay d.site y.site) (ok d e h) (unchanged d.site)
objects_stay (x ∷ xs) d e h =
    let next = bound (process_declaration d x) _ e h in
    let first = one-stays x d next.x next.gave in
    let rest = objects_stay xs next.x e next.then_gave in
    record { ports = rest.ports ∙ first.ports; signals = rest.signals ∙ first.signals }

-- ---- in a process

pub process_walk : (d : ProcessVariables) (xs : List Declaration) → process_declarations d xs ≡ stepwise process_declaration d xs
unfolding process_declarations
process_walk d [] = refl
process_walk d (x ∷ xs) = goes_alike (process_declaration d x) (λ e. process_declarations e xs) (λ e. stepwise process_declaration e xs) (λ e. process_walk e xs)

one-variable : (d : ProcessVariables) (o : u.Object) → process_declaration d (u.Declaration.variable o) ≡ next_variable d o
unfolding process_declaration
one-variable d o = refl

pub variables_walk : (d : ProcessVariables) (os : List u.Object) → stepwise process_declaration d (map u.Declaration.variable os) ≡ stepwise next_variable d os
variables_walk d os = walks_alike next_variable process_declaration u.Declaration.variable one-variable d os

-- one more, where the process stands
pub variable_stepped : (d new : ProcessVariables) (at : Site) (o : u.Object) (v : t.Variable) → at ≡ d.site → variable at o ≡ Ok v → new ≡ with_variable d v → next_variable d o ≡ Ok new
variable_stepped d new at o v is h e = ap (λ s. variable s o >>= λ w. given (with_variable d w)) (sym is) ∙ ap (λ r. r >>= λ w. given (with_variable d w)) h ∙ ap given (sym e)

-- ---- what is no object of its region

abbrev NoVariable : Declaration → Type 0
NoVariable (u.Declaration.variable o) = ⊥
NoVariable _ = ⊤

abbrev NoSignal : Declaration → Type 0
NoSignal (u.Declaration.signal o) = ⊥
NoSignal _ = ⊤

each-such : {X : Type 0} (P : Declaration → Type 0) (f : X → Declaration) → ((x : X) → P (f x)) → (xs : List X) → AllByRecursion P (map f xs)
each-such P f h [] = tt
each-such P f h (x ∷ xs) = (h x, each-such P f h xs)

-- such declarations enter what is known at the site
module _ {S : Type 0} (step : S → Declaration → Elab S) (known : S → Site) (put : S → Site → S) (same : (s : S) → put s (known s) ≡ s)
    (put-known : (s : S) (here : Site) → known (put s here) ≡ here) (put-twice : (s : S) (here there : Site) → put (put s here) there ≡ put s there)
    (P : Declaration → Type 0) (enters : (s : S) (x : Declaration) → P x → step s x ≡ (declared (known s) x >>= λ here. given (put s here))) where
  all-enter : (xs : List Declaration) → AllByRecursion P xs → (s : S) → stepwise step s xs ≡ (stepwise declared (known s) xs >>= λ here. given (put s here))
  all-enter [] h s = ap given (sym (same s))
  all-enter (x ∷ xs) h s = ap (λ r. r >>= λ t. stepwise step t xs) (enters s x h.0) ∙ go (declared (known s) x) (all-enter xs h.1)
    where
      go : (r : Elab Site) → ((t : S) → stepwise step t xs ≡ (stepwise declared (known t) xs >>= λ here. given (put t here))) → ((r >>= λ here. given (put s here)) >>= λ t. stepwise step t xs) ≡ ((r >>= λ here. stepwise declared here xs) >>= λ here. given (put s here))
      go (Ok here) rest =
          rest (put s here) ∙ ap (λ there. stepwise declared there xs >>= λ there. given (put (put s here) there)) (put-known s here)
          ∙ goes_alike (stepwise declared here xs) (λ there. given (put (put s here) there)) (λ there. given (put s there)) (λ there. ap given (put-twice s here there))
      go (Err told) rest = refl

enters-process : (d : ProcessVariables) (x : Declaration) → NoVariable x → process_declaration d x ≡ (declared d.site x >>= λ here. given (record d { site = here }))
unfolding process_declaration
enters-process d (u.Declaration.variable o) h = absurd h
enters-process d _ h = refl

enters-instance : (d : InstanceObjects) (x : Declaration) → NoSignal x → declaration d x ≡ (declared d.site x >>= λ here. given (record d { site = here }))
unfolding declaration
enters-instance d (u.Declaration.signal o) h = absurd h
enters-instance d _ h = refl

no-variable : (x : code.Declaration) → ((o : _) → x ≢ d.Variables o) → AllByRecursion NoVariable (declaration_view x)
no-variable (d.Integers names told_at type value) h = each-such NoVariable (λ (n : Ident). u.Declaration.integer (unwrap_or told_at n.at) (subtype_view type) (static_view value)) (λ n. tt) (idents_view names)
no-variable (d.Truths names value) h = each-such NoVariable (λ (n : Ident). u.Declaration.truth n.at (static_test_view value)) (λ n. tt) (idents_view names)
no-variable (d.Constants names form value) h = each-such NoVariable (λ (n : Ident). u.Declaration.constant n.at (form_view form) (fixed_view value)) (λ n. tt) (idents_view names)
no-variable (d.Signals o) h = each-such NoVariable u.Declaration.signal (λ n. tt) (object_view o)
no-variable (d.Variables o) h = absurd (h o refl)
no-variable (d.VectorSubtype at r) h = (tt, tt)
no-variable (d.IntegerSubtype at s) h = (tt, tt)

no-signal : (x : code.Declaration) → ((o : _) → x ≢ d.Signals o) → AllByRecursion NoSignal (declaration_view x)
no-signal (d.Integers names told_at type value) h = each-such NoSignal (λ (n : Ident). u.Declaration.integer (unwrap_or told_at n.at) (subtype_view type) (static_view value)) (λ n. tt) (idents_view names)
no-signal (d.Truths names value) h = each-such NoSignal (λ (n : Ident). u.Declaration.truth n.at (static_test_view value)) (λ n. tt) (idents_view names)
no-signal (d.Constants names form value) h = each-such NoSignal (λ (n : Ident). u.Declaration.constant n.at (form_view form) (fixed_view value)) (λ n. tt) (idents_view names)
no-signal (d.Signals o) h = absurd (h o refl)
no-signal (d.Variables o) h = each-such NoSignal u.Declaration.variable (λ n. tt) (object_view o)
no-signal (d.VectorSubtype at r) h = (tt, tt)
no-signal (d.IntegerSubtype at s) h = (tt, tt)

pub process_enters : (x : code.Declaration) → ((o : _) → x ≢ d.Variables o) → (s : ProcessVariables)
    → stepwise process_declaration s (declaration_view x) ≡ (stepwise declared s.site (declaration_view x) >>= λ here. given (record s { site = here }))
process_enters x h s =
    all-enter process_declaration (λ y. y.site) (λ y here. record y { site = here }) (λ y. refl) (λ y here. refl) (λ y here there. refl) NoVariable enters-process
    (declaration_view x) (no-variable x h) s

pub instance_enters : (x : code.Declaration) → ((o : _) → x ≢ d.Signals o) → (s : InstanceObjects)
    → stepwise declaration s (declaration_view x) ≡ (stepwise declared s.site (declaration_view x) >>= λ here. given (record s { site = here }))
instance_enters x h s =
    all-enter declaration (λ y. y.site) (λ y here. record y { site = here }) (λ y. refl) (λ y here. refl) (λ y here there. refl) NoSignal enters-instance
    (declaration_view x) (no-signal x h) s

-- which the code does
pub process_entered : (here : Site) (old new : inside.ProcessVariables) (x : code.Declaration) → ((o : _) → x ≢ d.Variables o) → (r : Result (Unit {0}) ElabFault)
    → Expands (λ _. (variables_view here new).site) (stepwise declared (variables_view here old).site (declaration_view x)) r → OnOk r (new.variables ≡ old.variables)
    → Expands (λ _. variables_view here new) (process_declarations (variables_view here old) (declaration_view x)) r
process_entered here old new x other (Ok u) h same =
    let s = variables_view here old in
    process_walk s (declaration_view x) ∙ process_enters x other s ∙ ap (λ r. r >>= λ site. given (record s { site = site })) h
    ∙ (λ i. given (record { site = (variables_view here new).site; variables = map variable_view (sym same i).items }))
process_entered here old new x other (Err fault) h same = λ n.
    let s = variables_view here old in
    process_walk s (declaration_view x) ∙ process_enters x other s ∙ err_first (stepwise declared s.site (declaration_view x)) (λ site. given (record s { site = site })) (h n)

pub instance_entered : (old new : instance.InstanceObjects) (x : code.Declaration) → ((o : _) → x ≢ d.Signals o) → (r : Result (Unit {0}) ElabFault)
    → Expands (λ _. (declared_view new).site) (stepwise declared (declared_view old).site (declaration_view x)) r → OnOk r ((declared_view new).objects ≡ (declared_view old).objects)
    → Expands (λ _. declared_view new) (declarations (declared_view old) (declaration_view x)) r
instance_entered old new x other (Ok u) h same =
    let s = declared_view old in
    declarations_walk s (declaration_view x) ∙ instance_enters x other s ∙ ap (λ r. r >>= λ site. given (record s { site = site })) h
    ∙ (λ i. given (record { site = (declared_view new).site; objects = sym same i }))
instance_entered old new x other (Err fault) h same = λ n.
    let s = declared_view old in
    declarations_walk s (declaration_view x) ∙ instance_enters x other s ∙ err_first (stepwise declared s.site (declaration_view x)) (λ site. given (record s { site = site })) (h n)
