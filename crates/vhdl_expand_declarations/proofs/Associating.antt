-- Ports that are associated one after another.
use Rattle.std.proofs.Common.{◌≡◌, ℕ, zero, suc, ◌+◌, ◌<◌, ◌≤◌, List, [], ◌∷◌, ◌++◌, length, map, get_or, take, drop, drop-cons, add-one, set, Option, Some, None, Ok, Err, refl, sym, ap, ◌∙◌, subst, arith}
use Rattle.std.proofs.Math.Seq.{take-suc-set}
use Rattle.std.proofs.lemmas.List.{append_assoc, append-nil, map-append, length-map, length-take-le, drop-set-lt}
use Rattle.std.proofs.lemmas.List.FromFn.{length-range_with_len}
use Rattle.vhdl_tree.specs.declared.expression.Identifier.{Identifier}
use Rattle.vhdl_tree.specs.Tree.{Ident}
use Rattle.vhdl_tree.specs.View.{ident_view}
use Rattle.vhdl_names_rules.specs.units.Expressions.{SignalPart}
use Rattle.vhdl_names_rules.specs.units.Units as u
use Rattle.vhdl_names_rules.specs.units.Units.{Port}
use Rattle.vhdl_names_units.specs.declared.declaration.Ports.{Ports}
use Rattle.vhdl_names_units.specs.views.Declarations.{ports_view}
use Rattle.vhdl_expand_tree.specs.declared.tree.Object as tree
use Rattle.vhdl_expand_tree.specs.Views.{object_view}
use Rattle.vhdl_expand_rules.specs.declared.kind.Run.{Run}
use Rattle.vhdl_expand_rules.specs.views.Kinds.{run_view}
use Rattle.vhdl_expand_rules.specs.Elab.{Elab, ◌>>=◌, Told}
use Rattle.vhdl_expand_rules.specs.Site.{Site}
use Rattle.vhdl_expand_rules.specs.Tree.{Object}
use Rattle.vhdl_expand_rules.specs.Declarations.{association, associations, first_of, rest_of}
use Rattle.vhdl_expand_rules.proofs.Steps.{given}
use Rattle.vhdl_expand_rules.proofs.Chains.{err_first}
use Rattle.vhdl_expand_operands.proofs.Several.{behind}
use Rattle.vhdl_expand_declarations.specs.Associations.{Associated, any_port, associated_to, next_associated}
use Rattle.vhdl_expand_declarations.specs.Objects.{named_object}
use Rattle.vhdl_expand_declarations.specs.Stepwise.{stepwise}
use Rattle.vhdl_expand_declarations.proofs.Given.{rest_behind}
use Rattle.vhdl_expand_declarations.proofs.Names.{named}
use Rattle.vhdl_expand_declarations.proofs.Stepping.{goes_alike}

pub run_long : (r : Run) → length (run_view r) ≡ r.len
run_long r = length-range_with_len r.first r.len

abbrev port_with : Ports → u.Object → Port
port_with ports o = record { mode = ports.mode; object = o }

module _ (above : Site) (at : ℕ) (actuals : List (Option SignalPart)) where
  -- ---- the name of a port is no matter

  nameless-association : (ports : Ports) (name : Ident) (a : Option SignalPart) (o : Object)
      → association above at (port_with ports (named_object ports.objects name)) a o ≡ association above at (any_port ports) a o
  unfolding association
  nameless-association ports name None o = refl
  nameless-association ports name (Some place) o = refl

  nameless-step : (ports : Ports) (name : Ident) (done left : List Object)
      → next_associated above at actuals (record { done = done; left = left }) (port_with ports (named_object ports.objects name))
      ≡ next_associated above at actuals (record { done = done; left = left }) (any_port ports)
  nameless-step ports name done [] = refl
  nameless-step ports name done (o ∷ os) =
      ap (λ r. r >>= λ (x : Object). given (record { done = done ++ x ∷ []; left = os })) (nameless-association ports name (first_of (drop (length done) actuals)) o)

  nameless-walk : (ports : Ports) (names : List Identifier) (s : Associated)
      → stepwise (next_associated above at actuals) s (map (λ (n : Identifier). port_with ports (named_object ports.objects (ident_view n))) names)
      ≡ stepwise (next_associated above at actuals) s (map (λ (n : Identifier). any_port ports) names)
  nameless-walk ports [] s = refl
  nameless-walk ports (n ∷ names) s =
      ap (λ r. r >>= λ t. stepwise (next_associated above at actuals) t (map (λ (n : Identifier). port_with ports (named_object ports.objects (ident_view n))) names))
      (nameless-step ports (ident_view n) s.done s.left)
      ∙ goes_alike (next_associated above at actuals s (any_port ports)) _ _ (λ t. nameless-walk ports names t)

  as-ports : (ports : Ports) (names : List Identifier) → map (port_with ports) (map (λ (n : Identifier). named_object ports.objects (ident_view n)) names)
      ≡ map (λ (n : Identifier). port_with ports (named_object ports.objects (ident_view n))) names
  as-ports ports [] = refl
  as-ports ports (n ∷ names) = ap (λ ps. port_with ports (named_object ports.objects (ident_view n)) ∷ ps) (as-ports ports names)

  pub nameless : (ports : Ports) (s : Associated)
      → stepwise (next_associated above at actuals) s (ports_view ports) ≡ stepwise (next_associated above at actuals) s (map (λ (n : Identifier). any_port ports) ports.objects.names.items)
  nameless ports s =
      ap (stepwise (next_associated above at actuals) s)
      (ap (map (port_with ports)) (named (named_object ports.objects) ports.objects.names.items) ∙ as-ports ports ports.objects.names.items)
      ∙ nameless-walk ports ports.objects.names.items s

  -- ---- the next port

  seen-next : (os : List tree.Object) (n : ℕ) (o : tree.Object) → n < length os → o ≡ get_or os n o → map object_view (drop n os) ≡ object_view o ∷ map object_view (drop (suc n) os)
  seen-next os n o below is = ap (map object_view) (drop-cons os n o below ∙ ap (λ x. x ∷ drop (suc n) os) (sym is))

  done-long : (os : List tree.Object) (n : ℕ) → n ≤ length os → length (map object_view (take n os)) ≡ n
  done-long os n h = length-map (take n os) object_view ∙ length-take-le n os h

  next-is : (os : List tree.Object) (n : ℕ) (o : tree.Object) (p : Port) (a : Option SignalPart) → n < length os → o ≡ get_or os n o → a ≡ first_of (drop n actuals)
      → next_associated above at actuals (associated_to n os) p
      ≡ association above at p a (object_view o) >>= λ (x : Object). given (record { done = map object_view (take n os) ++ x ∷ []; left = map object_view (drop (suc n) os) })
  next-is os n o p a below is e =
      let done = map object_view (take n os) in
      ap (λ (left : List Object). next_associated above at actuals (record { done = done; left = left }) p) (seen-next os n o below is)
      ∙ ap (λ b. association above at p b (object_view o) >>= λ (x : Object). given (record { done = done ++ x ∷ []; left = map object_view (drop (suc n) os) }))
      (ap (λ m. first_of (drop m actuals)) (done-long os n (omega arith)) ∙ sym e)

  set-done : (os : List tree.Object) (n : ℕ) (o : tree.Object) → n < length os → map object_view (take (n + 1) (set os n o)) ≡ map object_view (take n os) ++ object_view o ∷ []
  set-done os n o below = ap (λ m. map object_view (take m (set os n o))) (add-one n) ∙ ap (map object_view) (take-suc-set os n o below) ∙ map-append object_view (take n os) (o ∷ [])

  set-left : (os : List tree.Object) (n : ℕ) (o : tree.Object) → map object_view (drop (n + 1) (set os n o)) ≡ map object_view (drop (suc n) os)
  set-left os n o = ap (map object_view) (drop-set-lt (n + 1) os n o (omega arith) ∙ ap (λ m. drop m os) (add-one n))

  pub next_given : (os new : List tree.Object) (n : ℕ) (o x : tree.Object) (p : Port) (a : Option SignalPart) → n < length os → o ≡ get_or os n o → a ≡ first_of (drop n actuals)
      → association above at p a (object_view o) ≡ Ok (object_view x) → new ≡ set os n x → next_associated above at actuals (associated_to n os) p ≡ Ok (associated_to (n + 1) new)
  next_given os new n o x p a below is e h pushed =
      next-is os n o p a below is e
      ∙ ap (λ r. r >>= λ (y : Object). given (record { done = map object_view (take n os) ++ y ∷ []; left = map object_view (drop (suc n) os) })) h
      ∙ ap (λ (done : List Object). given (record { done = done; left = map object_view (drop (suc n) os) })) (sym (set-done os n x below))
      ∙ ap (λ (left : List Object). given (record { done = map object_view (take (n + 1) (set os n x)); left = left })) (sym (set-left os n x))
      ∙ ap (λ (xs : List tree.Object). given (associated_to (n + 1) xs)) (sym pushed)

  pub next_refused : {told : Told} → (os : List tree.Object) (n : ℕ) (o : tree.Object) (p : Port) (a : Option SignalPart) → n < length os → o ≡ get_or os n o → a ≡ first_of (drop n actuals)
      → (association above at p a (object_view o)) ≡ Err told → (next_associated above at actuals (associated_to n os) p) ≡ Err told
  next_refused {told} os n o p a below is e h =
      subst (λ (r : Elab Associated). r ≡ Err told) (sym (next-is os n o p a below is e)) (err_first (association above at p a (object_view o)) _ h)

  none-left : (done : List Object) (ps : List Port) → stepwise (next_associated above at actuals) (record { done = done; left = [] }) ps ≡ Ok (record { done = done; left = [] })
  none-left done [] = refl
  none-left done (p ∷ ps) = none-left done ps

  past : (os : List tree.Object) (n : ℕ) → length os ≤ n → map object_view (drop n os) ≡ []
  past [] zero h = refl
  past [] (suc n) h = refl
  past (o ∷ os) zero h = absurd (omega arith)
  past (o ∷ os) (suc n) h = past os n (omega arith)

  -- no port is left, whatever else is declared
  pub all_associated : (os : List tree.Object) (n : ℕ) (ps : List Port) → length os ≤ n → stepwise (next_associated above at actuals) (associated_to n os) ps ≡ Ok (associated_to n os)
  all_associated os n ps h =
      let e = past os n h in
      ap (λ (left : List Object). stepwise (next_associated above at actuals) (record { done = map object_view (take n os); left = left }) ps) e
      ∙ none-left (map object_view (take n os)) ps ∙ ap (λ (left : List Object). given (record { done = map object_view (take n os); left = left })) (sym e)

  -- ---- all ports

  abbrev done_of : Elab Associated → Elab (List Object)
  done_of r = r >>= λ (s : Associated). given s.done

  length-more : (done : List Object) (x : Object) → length (done ++ x ∷ []) ≡ suc (length done)
  length-more [] x = refl
  length-more (o ∷ done) x = ap suc (length-more done x)

  walk-is : (ps : List Port) (done left : List Object)
      → done_of (stepwise (next_associated above at actuals) (record { done = done; left = left }) ps) ≡ behind done (associations above at ps (drop (length done) actuals) left)
  unfolding associations
  walk-is [] done left = ap given (sym (append-nil done))
  walk-is (p ∷ ps) done [] = ap done_of (none-left done ps) ∙ ap given (sym (append-nil done))
  walk-is (p ∷ ps) done (o ∷ os) = go (association above at p (first_of (drop (length done) actuals)) o) (λ x.
      walk-is ps (done ++ x ∷ []) os
      ∙ ap (λ left. behind (done ++ x ∷ []) (associations above at ps left os)) (ap (λ n. drop n actuals) (length-more done x) ∙ sym (rest_behind (length done) actuals)))
    where
      one : (x : Object) (q : Elab (List Object)) → behind (done ++ x ∷ []) q ≡ behind done (q >>= λ xs. given (x ∷ xs))
      one x (Ok xs) = ap given (append_assoc done (x ∷ []) xs)
      one x (Err told) = refl

      go : (r : Elab Object)
          → ((x : Object) → done_of (stepwise (next_associated above at actuals) (record { done = done ++ x ∷ []; left = os }) ps)
          ≡ behind (done ++ x ∷ []) (associations above at ps (rest_of (drop (length done) actuals)) os))
          → done_of ((r >>= λ (x : Object). given (record { done = done ++ x ∷ []; left = os })) >>= λ s. stepwise (next_associated above at actuals) s ps)
          ≡ behind done (r >>= λ x. associations above at ps (rest_of (drop (length done) actuals)) os >>= λ xs. given (x ∷ xs))
      go (Ok x) h = h x ∙ one x (associations above at ps (rest_of (drop (length done) actuals)) os)
      go (Err told) h = refl

  nothing-before : (r : Elab (List Object)) → behind [] r ≡ r
  nothing-before (Ok xs) = refl
  nothing-before (Err told) = refl

  pub associations_walk : (os : List tree.Object) (ps : List Port)
      → associations above at ps actuals (map object_view os) ≡ done_of (stepwise (next_associated above at actuals) (associated_to 0 os) ps)
  associations_walk os ps = sym (walk-is ps [] (map object_view os) ∙ nothing-before (associations above at ps actuals (map object_view os)))
