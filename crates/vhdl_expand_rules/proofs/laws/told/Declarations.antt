-- What is refused of an interface and of declarations is told at one of their bytes, or of those of the actuals.
use Rattle.std.proofs.Common.{ℕ, not, ◌||◌, ◌==◌, List, [], ◌∷◌, ◌++◌, length, map, Option, Some, None, All, subst}
use Rattle.std.specs.Prelude.{slice_get, is_some, flat_map, find, option_map, ℤ, pos, negsuc}
use Rattle.std.specs.List.{list_all}
use Rattle.std.proofs.lemmas.List.Elements.{All-cons, All-nil, All-head, All-tail}
use Rattle.vhdl_values.specs.declared.scalar.Nine.{Nine}
use Rattle.vhdl_values.specs.Numbers.{digits_of}
use Rattle.rtl_model.specs.bodies.Body as bodies
use Rattle.rtl_model.specs.bodies.Values.{elements_of}
use Rattle.vhdl_names_rules.specs.units.Expressions as expressions
use Rattle.vhdl_names_rules.specs.units.Expressions.{Static, SignalPart}
use Rattle.vhdl_names_rules.specs.units.Units as u
use Rattle.vhdl_names_rules.specs.units.Units.{Fixed, IntegerSubtype, GenericType, Generic, Port, Declaration, Entity}
use Rattle.vhdl_names_rules.specs.units.Bytes.{if_any_bytes, static_bytes, range_bytes, static_test_bytes, elements_bytes, part_bytes, place_bytes, form_bytes, fixed_bytes, subtype_bytes, generic_type_bytes, generic_bytes, object_bytes, port_bytes, declaration_bytes, architecture_bytes, entity_bytes}
use Rattle.vhdl_expand_rules.specs.declared.fault.ElabProblem.TheVariants.{NoGeneric, GenericRange, Length, Index, Unassociated}
use Rattle.vhdl_expand_rules.specs.Elab.{Told, item_or, same_length, unless}
use Rattle.vhdl_expand_rules.specs.Integers.{of_range, integer_of, integer_among, numbers_of, natural, decision}
use Rattle.vhdl_expand_rules.specs.Kinds as kinds
use Rattle.vhdl_expand_rules.specs.Kinds.{ObjectKind, one, enumeration, number_size, size, kind_of, size_of, written_range}
use Rattle.vhdl_expand_rules.specs.Site.{Site, no_site, signal_kind, place_elements}
use Rattle.vhdl_expand_rules.specs.Expressions.{vector}
use Rattle.vhdl_expand_rules.specs.Statements.{value_given}
use Rattle.vhdl_expand_rules.specs.Tree.{Role, internal, Object}
use Rattle.vhdl_expand_rules.specs.Declarations.{first_of, rest_of, integer_generic, generic_values, valued_generic, generic, generics, as_long_as, nothing_seen, elements_of_value, position_of_value, known_values, fixed_values, given_starts, starts, object, role_of, InstanceObjects, with_port, ports, interface, declared, declaration, declarations, variable, ProcessVariables, process_declaration, process_declarations, is_input, may_flow, association, associations}
use Rattle.vhdl_expand_rules.specs.Tops.{Setting, Top, static_of, sets, set_actual, actuals_of, is_generic, top_interface}
use Rattle.vhdl_expand_rules.proofs.Tells.{Tells, At, tells_none, tells_refused, tells_then, tells_with, tells_unless, tells_item, all_flat}
use Rattle.vhdl_expand_rules.proofs.laws.Names.{was_found}
use Rattle.vhdl_expand_rules.proofs.laws.Targets.{all_left, all_right}
use Rattle.vhdl_expand_rules.proofs.laws.told.Static.{numbers_tells, among_tells, integer_of_tells, natural_tells, decision_tells, size_of_tells, kind_tells, place_tells}
use Rattle.vhdl_expand_rules.proofs.laws.told.Expressions.{vector_tells, given_tells}

module _ (P : ℕ → Type 0) where
  -- ---- things that may be absent

  -- the bytes of a thing, if there is one, are such
  abbrev pub MayStand : {A : Type 0} → (A → List ℕ) → Option A → Type 0
  MayStand f o = All P (if_any_bytes f o)

  first-stands : {A : Type 0} (f : A → List ℕ) (xs : List (Option A)) → All (MayStand f) xs → MayStand f (first_of xs)
  first-stands {A} f [] h = All-nil P
  first-stands {A} f (x ∷ xs) h = All-head (MayStand f) x xs h

  rest-stands : {A : Type 0} (f : A → List ℕ) (xs : List (Option A)) → All (MayStand f) xs → All (MayStand f) (rest_of xs)
  rest-stands {A} f [] h = h
  rest-stands {A} f (x ∷ xs) h = All-tail (MayStand f) x xs h

  -- the bytes of an entity's parts are such
  pub record EntityStands (unit : Entity) : Type 0 where
    pub at : P unit.at
    pub generics : All (λ g. All P (generic_bytes g)) unit.generics
    pub ports : All (λ p. All P (port_bytes p)) unit.ports
    pub architecture : MayStand architecture_bytes unit.architecture

  pub entity_stands : (unit : Entity) → All P (entity_bytes unit) → EntityStands unit
  entity_stands unit k =
      let gs : List ℕ = flat_map generic_bytes unit.generics in
      let ps : List ℕ = flat_map port_bytes unit.ports in
      let a : List ℕ = if_any_bytes architecture_bytes unit.architecture in
      let rest : All P (gs ++ (ps ++ a)) = All-tail P unit.at (gs ++ (ps ++ a)) k in
      let more : All P (ps ++ a) = all_right P gs (ps ++ a) rest in
      record {
        at = All-head P unit.at (gs ++ (ps ++ a)) k;
        generics = all_flat P generic_bytes unit.generics (all_left P gs (ps ++ a) rest);
        ports = all_flat P port_bytes unit.ports (all_left P ps a more);
        architecture = all_right P ps a more;
      }

module _ (P : Told → Type 0) where
  -- ---- values

  long-tells : (at len : ℕ) (vs : List Nine) → At P at → Tells P (as_long_as at len vs)
  long-tells at len vs h = tells_then P (same_length at (length vs) len) _ (tells_unless P (Length (length vs) len) tt at (length vs == len) h) (λ same. tells_none P vs)

  elements-tell : (at len : ℕ) (v : bodies.Value) → At P at → Tells P (elements_of_value at len v)
  elements-tell at len (bodies.elements e) h = long-tells at len (elements_of nothing_seen e) h
  elements-tell at len _ h = tells_refused P (Length 1 len) tt at h

  position-tells : (at : ℕ) (v : bodies.Value) → At P at → Tells P (position_of_value at v)
  position-tells at (bodies.position n) h = tells_none P _
  position-tells at _ h = tells_refused P Index tt at h

  fixed-tells : (here : Site) (at len : ℕ) (f : Fixed) → At P at → All (At P) (fixed_bytes f) → Tells P (fixed_values here at len f)
  unfolding fixed_values
  fixed-tells here at len (u.Fixed.literal vs) h k = long-tells at len vs h
  fixed-tells here at len (u.Fixed.constant n) h k =
      tells_then P (item_or Index at (slice_get here.constants n)) _ (tells_item P Index tt at (slice_get here.constants n) h) (λ c. long-tells at len c.values h)
  fixed-tells here at len (u.Fixed.encoded s t) h k =
      tells_then P (natural here.integers at s) _ (natural_tells P here.integers at s h (all_left (At P) (static_bytes s) (static_bytes t) k)) (λ n.
      tells_then P (size_of here.integers at t) _ (size_of_tells P here.integers at t h (all_right (At P) (static_bytes s) (static_bytes t) k)) (λ m.
      long-tells at len (digits_of m n) h))
  fixed-tells here at len (u.Fixed.filled v) h k = tells_none P _
  fixed-tells here at len (u.Fixed.given g) h k = tells_then P (value_given here at len g) _ (given_tells P here at len g h k) (λ v. elements-tell at len v h)
  fixed-tells here at len _ h k = tells_refused P (Length 1 len) tt at h

  values-tell : (here : Site) (at : ℕ) (kind : ObjectKind) (f : Fixed) → At P at → All (At P) (fixed_bytes f) → Tells P (given_starts here at kind f)
  values-tell here at one f h k = tells_then P (fixed_values here at 1 f) _ (fixed-tells here at 1 f h k) (λ vs. tells_none P _)
  values-tell here at (kinds.vector b) f h k = tells_then P (fixed_values here at (size (kinds.vector b)) f) _ (fixed-tells here at (size (kinds.vector b)) f h k) (λ vs. tells_none P _)
  values-tell here at (enumeration count) (u.Fixed.position n) h k = tells_none P _
  values-tell here at (enumeration count) (u.Fixed.given g) h k = tells_then P (value_given here at 1 g) _ (given_tells P here at 1 g h k) (λ v. position-tells at v h)
  values-tell here at kinds.boolean (u.Fixed.truth t) h k = tells_then P (decision here.integers t) _ (decision_tells P here.integers t k) (λ b. tells_none P _)
  values-tell here at (kinds.integer r) (u.Fixed.integer s) h k =
      tells_then P (integer_among here.integers at (of_range r) s) _ (among_tells P here.integers at (of_range r) s h k) (λ n. tells_none P _)
  values-tell here at (kinds.integer r) f h k = tells_then P (fixed_values here at (number_size r) f) _ (fixed-tells here at (number_size r) f h k) (λ vs. tells_none P _)
  values-tell here at _ f h k = tells_then P (fixed_values here at 1 f) _ (fixed-tells here at 1 f h k) (λ ws. tells_none P _)

  starts-tell : (here : Site) (at : ℕ) (kind : ObjectKind) (d : Option Fixed) → At P at → MayStand (At P) fixed_bytes d → Tells P (starts here at kind d)
  unfolding starts
  starts-tell here at (kinds.integer r) None h k = tells_none P _
  starts-tell here at kinds.boolean None h k = tells_none P _
  starts-tell here at kind None h k = tells_none P _
  starts-tell here at kind (Some f) h k = values-tell here at kind f h k

  -- ---- generics

  integer-tells : (from own : Site) (at : ℕ) (type : IntegerSubtype) (s : Static) → At P at → All (At P) (subtype_bytes type) → All (At P) (static_bytes s)
      → Tells P (integer_generic from own at type s)
  integer-tells from own at type s h j k =
      tells_then P (numbers_of own.integers at type) _ (numbers_tells P own.integers at type h j) (λ numbers.
      tells_then P (integer_among from.integers at numbers s) _ (among_tells P from.integers at numbers s h k) (λ x. tells_none P _))

  generic-values-tell : (from : Site) (at : ℕ) (kind : ObjectKind) (f : Fixed) → At P at → All (At P) (fixed_bytes f) → Tells P (generic_values from at kind f)
  generic-values-tell from at kind (u.Fixed.aggregate p es) h k =
      let own : At P p = All-head (At P) p (elements_bytes es) k in
      let all : All (At P) (p ∷ (if_any_bytes range_bytes (written_range kind) ++ elements_bytes es)) =
      All-cons (At P) p (if_any_bytes range_bytes (written_range kind) ++ elements_bytes es) own (written-stands kind (elements_bytes es) (All-tail (At P) p (elements_bytes es) k)) in
      tells_then P (known_values (vector from (expressions.aggregate p (written_range kind) es))) _
      (tells_then P (vector from (expressions.aggregate p (written_range kind) es)) _ (vector_tells P from (expressions.aggregate p (written_range kind) es) all) (λ e. tells_none P _)) (λ vs.
      long-tells at (size kind) vs h)
    where
      written-stands : (kind : ObjectKind) (ns : List ℕ) → All (At P) ns → All (At P) (if_any_bytes range_bytes (written_range kind) ++ ns)
      written-stands (kinds.vector b) ns h = h
      written-stands _ ns h = h
  generic-values-tell from at kind f h k = fixed-tells from at (size kind) f h k

  valued-tells : (from own : Site) (at : ℕ) (type : GenericType) (f : Fixed) → At P at → All (At P) (generic_type_bytes type) → All (At P) (fixed_bytes f)
      → Tells P (valued_generic from own at type f)
  valued-tells from own at (u.integers type) (u.Fixed.integer s) h j k = integer-tells from own at type s h j k
  valued-tells from own at u.truths (u.Fixed.truth t) h j k = tells_then P (decision from.integers t) _ (decision_tells P from.integers t k) (λ b. tells_none P _)
  valued-tells from own at (u.values form) f h j k =
      tells_then P (kind_of own.integers at form) _ (kind_tells P own.integers at form h j) (λ kind.
      tells_then P (generic_values from at kind f) _ (generic-values-tell from at kind f h k) (λ vs. tells_none P _))
  valued-tells from own at _ f h j k = tells_refused P NoGeneric tt at h

  generic-tells : (above own : Site) (actual : Option Fixed) (g : Generic) → MayStand (At P) fixed_bytes actual → All (At P) (generic_bytes g) → Tells P (generic above own actual g)
  generic-tells above own (Some actual) g h k =
      let type : List ℕ = generic_type_bytes g.type in
      let default : List ℕ = if_any_bytes fixed_bytes g.default in
      valued-tells above own g.at g.type actual (All-head (At P) g.at (type ++ default) k) (all_left (At P) type default (All-tail (At P) g.at (type ++ default) k)) h
  generic-tells above own None g h k =
      let type : List ℕ = generic_type_bytes g.type in
      let default : List ℕ = if_any_bytes fixed_bytes g.default in
      let at : At P g.at = All-head (At P) g.at (type ++ default) k in
      let rest : All (At P) (type ++ default) = All-tail (At P) g.at (type ++ default) k in
      tells_with P (item_or NoGeneric g.at g.default) _ (tells_item P NoGeneric tt g.at g.default at) (λ value is.
      valued-tells own own g.at g.type value at (all_left (At P) type default rest)
      (subst (λ (o : Option Fixed). MayStand (At P) fixed_bytes o) (was_found NoGeneric g.at g.default value is) (all_right (At P) type default rest)))

  generics-tell : (above own : Site) (actuals : List (Option Fixed)) (gs : List Generic) → All (MayStand (At P) fixed_bytes) actuals → All (λ g. All (At P) (generic_bytes g)) gs → Tells P (generics above own actuals gs)
  unfolding generics
  generics-tell above own actuals [] h k = tells_none P own
  generics-tell above own actuals (g ∷ gs) h k =
      tells_then P (generic above own (first_of actuals) g) _ (generic-tells above own (first_of actuals) g (first-stands (At P) fixed_bytes actuals h) (All-head (λ x. All (At P) (generic_bytes x)) g gs k)) (λ here.
      generics-tell above here (rest_of actuals) gs (rest-stands (At P) fixed_bytes actuals h) (All-tail (λ x. All (At P) (generic_bytes x)) g gs k))

  -- ---- ports, signals and variables

  object-tells : (here : Site) (role : Role) (o : u.Object) → All (At P) (object_bytes o) → Tells P (object here role o)
  unfolding object
  object-tells here role o k =
      let at : At P o.at = All-head (At P) o.at (form_bytes o.form ++ if_any_bytes fixed_bytes o.default) k in
      let rest : All (At P) (form_bytes o.form ++ if_any_bytes fixed_bytes o.default) = All-tail (At P) o.at (form_bytes o.form ++ if_any_bytes fixed_bytes o.default) k in
      tells_then P (kind_of here.integers o.at o.form) _ (kind_tells P here.integers o.at o.form at (all_left (At P) (form_bytes o.form) (if_any_bytes fixed_bytes o.default) rest)) (λ kind.
      tells_then P (starts here o.at kind o.default) _ (starts-tell here o.at kind o.default at (all_right (At P) (form_bytes o.form) (if_any_bytes fixed_bytes o.default) rest)) (λ vs.
      tells_none P _))

  variable-tells : (here : Site) (o : u.Object) → All (At P) (object_bytes o) → Tells P (variable here o)
  unfolding variable
  variable-tells here o k =
      let at : At P o.at = All-head (At P) o.at (form_bytes o.form ++ if_any_bytes fixed_bytes o.default) k in
      let rest : All (At P) (form_bytes o.form ++ if_any_bytes fixed_bytes o.default) = All-tail (At P) o.at (form_bytes o.form ++ if_any_bytes fixed_bytes o.default) k in
      tells_then P (kind_of here.integers o.at o.form) _ (kind_tells P here.integers o.at o.form at (all_left (At P) (form_bytes o.form) (if_any_bytes fixed_bytes o.default) rest)) (λ kind.
      tells_then P (starts here o.at kind o.default) _ (starts-tell here o.at kind o.default at (all_right (At P) (form_bytes o.form) (if_any_bytes fixed_bytes o.default) rest)) (λ vs.
      tells_none P _))

  ports-tell : (ps : List Port) (d : InstanceObjects) → All (λ p. All (At P) (port_bytes p)) ps → Tells P (ports d ps)
  unfolding ports
  ports-tell [] d k = tells_none P d
  ports-tell (p ∷ ps) d k =
      tells_then P (object d.site (role_of p.mode) p.object) _ (object-tells d.site (role_of p.mode) p.object (All-head (λ q. All (At P) (port_bytes q)) p ps k)) (λ o.
      ports-tell ps (with_port d o) (All-tail (λ q. All (At P) (port_bytes q)) p ps k))

  pub interface_tells : (above : Site) (actuals : List (Option Fixed)) (unit : Entity) → All (MayStand (At P) fixed_bytes) actuals → EntityStands (At P) unit → Tells P (interface above actuals unit)
  unfolding interface
  interface_tells above actuals unit h k =
      tells_then P (generics above no_site actuals unit.generics) _ (generics-tell above no_site actuals unit.generics h k.generics) (λ here.
      ports-tell unit.ports (record { site = here; objects = [] }) k.ports)

  -- ---- the top

  static-stands : (at : ℕ) (x : ℤ) → At P at → All (At P) (static_bytes (static_of at x))
  static-stands at (pos n) h = All-nil (At P)
  static-stands at (negsuc n) h = All-cons (At P) at [] h (All-nil (At P))

  set-stands : (at : ℕ) (o : Option Setting) → At P at → MayStand (At P) fixed_bytes (option_map (λ (s : Setting). u.Fixed.integer (static_of at s.value)) o)
  set-stands at None h = All-nil (At P)
  set-stands at (Some s) h = static-stands at s.value h

  each-stands : (settings : List Setting) (gs : List Generic) → All (λ g. All (At P) (generic_bytes g)) gs → All (MayStand (At P) fixed_bytes) (map (λ (g : Generic). set_actual settings g.name g.at) gs)
  each-stands settings [] h = All-nil (MayStand (At P) fixed_bytes)
  each-stands settings (g ∷ gs) h =
      All-cons (MayStand (At P) fixed_bytes) (set_actual settings g.name g.at) (map (λ (x : Generic). set_actual settings x.name x.at) gs)
      (set-stands g.at (find (sets g.name) settings)
      (All-head (At P) g.at (generic_type_bytes g.type ++ if_any_bytes fixed_bytes g.default) (All-head (λ x. All (At P) (generic_bytes x)) g gs h)))
      (each-stands settings gs (All-tail (λ x. All (At P) (generic_bytes x)) g gs h))

  actuals-stand : (settings : List Setting) (gs : List Generic) → All (λ g. All (At P) (generic_bytes g)) gs → All (MayStand (At P) fixed_bytes) (actuals_of settings gs)
  actuals-stand [] gs h = All-nil (MayStand (At P) fixed_bytes)
  actuals-stand (s ∷ ss) gs h = each-stands (s ∷ ss) gs h

  pub top_interface_tells : (top : Top) (unit : Entity) → EntityStands (At P) unit → Tells P (top_interface top unit)
  unfolding top_interface
  top_interface_tells top unit k =
      tells_then P (unless NoGeneric unit.at (list_all (is_generic unit.generics) top.generics)) _
      (tells_unless P NoGeneric tt unit.at (list_all (is_generic unit.generics) top.generics) k.at) (λ known.
      interface_tells no_site (actuals_of top.generics unit.generics) unit (actuals-stand top.generics unit.generics k.generics) k)

  -- ---- declarations

  declared-tells : (here : Site) (x : Declaration) → All (At P) (declaration_bytes x) → Tells P (declared here x)
  unfolding declared
  declared-tells here (u.Declaration.integer at type s) k =
      let own : At P at = All-head (At P) at (subtype_bytes type ++ static_bytes s) k in
      let rest : All (At P) (subtype_bytes type ++ static_bytes s) = All-tail (At P) at (subtype_bytes type ++ static_bytes s) k in
      tells_then P (integer_of type here.integers at s) _
      (integer_of_tells P type here.integers at s own (all_left (At P) (subtype_bytes type) (static_bytes s) rest) (all_right (At P) (subtype_bytes type) (static_bytes s) rest)) (λ x. tells_none P _)
  declared-tells here (u.Declaration.truth at t) k =
      tells_then P (decision here.integers t) _ (decision_tells P here.integers t (All-tail (At P) at (static_test_bytes t) k)) (λ b. tells_none P _)
  declared-tells here (u.Declaration.constant at form f) k =
      let own : At P at = All-head (At P) at (form_bytes form ++ fixed_bytes f) k in
      let rest : All (At P) (form_bytes form ++ fixed_bytes f) = All-tail (At P) at (form_bytes form ++ fixed_bytes f) k in
      tells_then P (kind_of here.integers at form) _ (kind_tells P here.integers at form own (all_left (At P) (form_bytes form) (fixed_bytes f) rest)) (λ kind.
      tells_then P (fixed_values here at (size kind) f) _ (fixed-tells here at (size kind) f own (all_right (At P) (form_bytes form) (fixed_bytes f) rest)) (λ vs. tells_none P _))
  declared-tells here (u.vector_subtype at r) k =
      tells_then P (kind_of here.integers at (u.vector r)) _ (kind_tells P here.integers at (u.vector r) (All-head (At P) at (range_bytes r) k) (All-tail (At P) at (range_bytes r) k)) (λ kind. tells_none P _)
  declared-tells here (u.integer_subtype at s) k =
      tells_then P (numbers_of here.integers at s) _ (numbers_tells P here.integers at s (All-head (At P) at (subtype_bytes s) k) (All-tail (At P) at (subtype_bytes s) k)) (λ numbers. tells_none P _)
  declared-tells here _ k = tells_none P here

  declaration-tells : (d : InstanceObjects) (x : Declaration) → All (At P) (declaration_bytes x) → Tells P (declaration d x)
  unfolding declaration
  declaration-tells d (u.Declaration.signal o) k = tells_then P (object d.site internal o) _ (object-tells d.site internal o k) (λ x. tells_none P _)
  declaration-tells d x k = tells_then P (declared d.site x) _ (declared-tells d.site x k) (λ here. tells_none P _)

  process-declaration : (d : ProcessVariables) (x : Declaration) → All (At P) (declaration_bytes x) → Tells P (process_declaration d x)
  unfolding process_declaration
  process-declaration d (u.Declaration.variable o) k = tells_then P (variable d.site o) _ (variable-tells d.site o k) (λ v. tells_none P _)
  process-declaration d x k = tells_then P (declared d.site x) _ (declared-tells d.site x k) (λ here. tells_none P _)

  pub process_declarations_tell : (xs : List Declaration) (d : ProcessVariables) → All (λ x. All (At P) (declaration_bytes x)) xs → Tells P (process_declarations d xs)
  unfolding process_declarations
  process_declarations_tell [] d k = tells_none P d
  process_declarations_tell (x ∷ xs) d k =
      tells_then P (process_declaration d x) _ (process-declaration d x (All-head (λ y. All (At P) (declaration_bytes y)) x xs k)) (λ e.
      process_declarations_tell xs e (All-tail (λ y. All (At P) (declaration_bytes y)) x xs k))

  pub declarations_tell : (xs : List Declaration) (d : InstanceObjects) → All (λ x. All (At P) (declaration_bytes x)) xs → Tells P (declarations d xs)
  unfolding declarations
  declarations_tell [] d k = tells_none P d
  declarations_tell (x ∷ xs) d k =
      tells_then P (declaration d x) _ (declaration-tells d x (All-head (λ y. All (At P) (declaration_bytes y)) x xs k)) (λ e.
      declarations_tell xs e (All-tail (λ y. All (At P) (declaration_bytes y)) x xs k))

  -- ---- associations

  association-tells : (above : Site) (at : ℕ) (p : Port) (actual : Option SignalPart) (o : Object) → At P at → MayStand (At P) place_bytes actual → Tells P (association above at p actual o)
  unfolding association
  association-tells above at p None o h k =
      tells_then P (unless Unassociated at (not (is_input o.role) || is_some p.object.default)) _ (tells_unless P Unassociated tt at (not (is_input o.role) || is_some p.object.default) h) (λ kept.
      tells_none P o)
  association-tells above at p (Some place) o h k =
      tells_then P (place_elements above place) _ (place_tells P above place k) (λ es.
      tells_then P (same_length place.at (length es) (size o.kind)) _ (tells_unless P (Length (length es) (size o.kind)) tt place.at (length es == size o.kind) (All-head (At P) place.at (part_bytes place.part) k)) (λ same.
      tells_then P (unless GenericRange place.at (may_flow o.role (signal_kind above place.signal) o.kind)) _
      (tells_unless P GenericRange tt place.at (may_flow o.role (signal_kind above place.signal) o.kind) (All-head (At P) place.at (part_bytes place.part) k)) (λ flows. tells_none P _)))

  pub associations_tell : (above : Site) (at : ℕ) (ps : List Port) (actuals : List (Option SignalPart)) (os : List Object) → At P at → All (MayStand (At P) place_bytes) actuals → Tells P (associations above at ps actuals os)
  unfolding associations
  associations_tell above at [] actuals os h k = tells_none P []
  associations_tell above at (p ∷ ps) actuals [] h k = tells_none P []
  associations_tell above at (p ∷ ps) actuals (o ∷ os) h k =
      tells_then P (association above at p (first_of actuals) o) _ (association-tells above at p (first_of actuals) o h (first-stands (At P) place_bytes actuals k)) (λ x.
      tells_then P (associations above at ps (rest_of actuals) os) _ (associations_tell above at ps (rest_of actuals) os h (rest-stands (At P) place_bytes actuals k)) (λ xs. tells_none P _))
