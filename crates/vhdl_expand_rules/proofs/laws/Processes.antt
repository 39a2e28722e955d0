-- The variables and processes of a sound unit are sound.
use Rattle.std.proofs.Common.{◌≡◌, ℕ, ◌+◌, ◌<◌, Bool, true, false, cond, not, ◌&&◌, List, [], ◌∷◌, ◌++◌, length, map, Ok, All, refl, sym, ap, ◌∙◌, subst, arith}
use Rattle.std.specs.Prelude.{Contains}
use Rattle.std.specs.List.{AllZip, list_any, range_with_len}
use Rattle.std.specs.List.Sorted.{IsStrictlyIncreasing}
use Rattle.std.proofs.lemmas.Bool.{and_parts}
use Rattle.std.proofs.lemmas.Option.{slice_get_within}
use Rattle.std.proofs.lemmas.List.Elements.{All-cons, All-nil, All-append, All-weaker, All-contains}
use Rattle.std.proofs.lemmas.List.{map-append}
use Rattle.std.proofs.lemmas.List.FromFn.{length-range_with_len, get_or-range_with_len}
use Rattle.std.proofs.lemmas.List.Kept.{IsStrictlyIncreasing-filter}
use Rattle.rtl_model.specs.bodies.Types.{ElementType}
use Rattle.rtl_model.specs.bodies.Body as bodies
use Rattle.rtl_model.specs.bodies.Fits.{Fits}
use Rattle.vhdl_names_rules.specs.units.Expressions as e
use Rattle.vhdl_names_rules.specs.units.Expressions.{SignalPart}
use Rattle.vhdl_names_rules.specs.units.Units as u
use Rattle.vhdl_names_rules.specs.units.Units.{Form, Port, Declaration}
use Rattle.vhdl_names_rules.specs.sound.Expressions.{Inside, shape_of}
use Rattle.vhdl_names_rules.specs.sound.Statements.{is_driven, statements_fit}
use Rattle.vhdl_names_rules.specs.sound.Units.{form_fits, default_fits, may_be_resolved, object_fits, is_signal, declaration_fits, with_declaration, declarations_fit, with_declarations, sensitivity_fits, process_fits}
use Rattle.vhdl_expand_rules.specs.Elab.{Elab, ◌>>=◌, each}
use Rattle.vhdl_expand_rules.specs.Kinds.{ObjectKind, kind_of}
use Rattle.vhdl_expand_rules.specs.Site.{Site, elements_count, place_elements}
use Rattle.vhdl_expand_rules.specs.Prefixes.{targets, is_static_part, prefix, prefixes_elements, concatenation_of, is_among, in_order}
use Rattle.vhdl_expand_rules.specs.Declarations.{starts, role_of, declared, variable, ProcessVariables, no_variables, with_variable, process_declaration, process_declarations}
use Rattle.vhdl_expand_rules.specs.Tree.{Object, Variable}
use Rattle.vhdl_expand_rules.specs.Tree as t
use Rattle.vhdl_expand_rules.specs.Expansion.{Spot, process}
use Rattle.vhdl_expand_rules.specs.laws.Sites.{IsOf, IsSite, kinds_types}
use Rattle.vhdl_expand_rules.specs.laws.Trees.{object_kinds, object_types, object_roles, MayBeDriven, VariableIsSound, ProcessIsSound}
use Rattle.vhdl_expand_rules.proofs.Steps.{given, ok, bound}
use Rattle.vhdl_expand_rules.proofs.laws.KnownSites.{Knows, declared_knows, variable_knows}
use Rattle.vhdl_expand_rules.proofs.laws.Made.{process_made}
use Rattle.vhdl_expand_rules.proofs.laws.Names.{zip_push}
use Rattle.vhdl_expand_rules.proofs.laws.Declared.{IsPlain, declared-site, none_such}
use Rattle.vhdl_expand_rules.proofs.laws.Lengths.{starts-length}
use Rattle.vhdl_expand_rules.proofs.laws.Kinds.{kind_is_of, is_kind, starts_below}
use Rattle.vhdl_expand_rules.proofs.laws.Statements.{each-body-fits}
use Rattle.vhdl_expand_rules.proofs.laws.Targets.{all_concatenated, in_order_has, in_order_all, each_with, among_prefixes, body_assigns, targets_are_driven}
use Rattle.vhdl_expand_rules.proofs.laws.Driven.{IsDeclared, length-roles, site-types, site-count, driven_elements}

-- ---- variables

record Declares (o : u.Object) (v : Variable) : Type 0 where
  kind : IsOf o.form v.kind
  sound : VariableIsSound v

variable-declares : (i : Inside) (here : Site) (o : u.Object) (v : Variable) → Knows here → object_fits i o ≡ true → variable here o ≡ Ok v → Declares o v
unfolding variable
variable-declares i here o v known h e =
    let both = and_parts (form_fits i o.form && may_be_resolved o.form o.is_resolved) (default_fits i (shape_of o.form) o.default) h in
    let first = and_parts (form_fits i o.form) (may_be_resolved o.form o.is_resolved) both.0 in
    let k = bound (kind_of here.integers o.at o.form) _ v e in
    let vs = bound (starts here o.at k.x o.default) _ v k.then_gave in
    let of = kind_is_of i here.integers o.at o.form k.x (λ q. known) first.0 k.gave in
    subst (Declares o) (ok _ v vs.then_gave) (record {
      kind = of;
      sound = record {
        kind = is_kind o.form k.x of;
        as_declared = starts-length here o.at k.x o.default vs.x vs.gave;
        starts = starts_below i here o.at o.form k.x o.default vs.x of both.1 vs.gave;
      };
    })

abbrev kinds_of : List Variable → List ObjectKind
kinds_of vs = map (λ (v : Variable). v.kind) vs

-- what is declared in a process that stands here
record ProcessStands (j : Inside) (here : Site) (d : ProcessVariables) : Type 0 where
  site : IsSite j d.site
  known : Knows d.site
  ports : d.site.ports ≡ here.ports
  signals : d.site.signals ≡ here.signals
  kinds : kinds_of d.variables ≡ d.site.variables
  sound : All VariableIsSound d.variables

plain-declares : (x : Declaration) (i : Inside) (here : Site) (d e : ProcessVariables) → IsPlain x → declaration_fits i x ≡ true → ProcessStands i here d
    → (declared d.site x >>= λ site. given (record d { site = site })) ≡ Ok e → ProcessStands (with_declaration i x) here e
plain-declares x i here d e plain fit h k =
    let site = bound (declared d.site x) _ e k in
    let s = declared-site x i d.site site.x h.known plain fit h.site site.gave in
    subst (ProcessStands (with_declaration i x) here) (ok _ e site.then_gave) (record {
      site = s.site;
      known = declared_knows x d.site site.x h.known site.gave;
      ports = s.ports ∙ h.ports;
      signals = s.signals ∙ h.signals;
      kinds = h.kinds ∙ sym s.variables;
      sound = h.sound;
    })

declaration-declares : (x : Declaration) (i : Inside) (here : Site) (d e : ProcessVariables) → is_signal x ≡ false → declaration_fits i x ≡ true → ProcessStands i here d → process_declaration d x ≡ Ok e
    → ProcessStands (with_declaration i x) here e
unfolding process_declaration
declaration-declares (u.Declaration.variable o) i here d e none fit h k =
    let v = bound (variable d.site o) _ e k in
    let w = variable-declares i d.site o v.x h.known fit v.gave in
    subst (ProcessStands (with_declaration i (u.Declaration.variable o)) here) (ok (with_variable d v.x) e v.then_gave) (record {
      site = record {
        constants = h.site.constants;
        ports = h.site.ports;
        signals = h.site.signals;
        variables = zip_push IsOf i.variables d.site.variables o.form v.x.kind h.site.variables w.kind;
      };
      known = variable_knows d o v.x h.known v.gave;
      ports = h.ports;
      signals = h.signals;
      kinds = map-append (λ (y : Variable). y.kind) d.variables (v.x ∷ []) ∙ ap (λ (ks : List ObjectKind). ks ++ v.x.kind ∷ []) h.kinds;
      sound = All-append VariableIsSound d.variables (v.x ∷ []) h.sound (All-cons VariableIsSound v.x [] w.sound (All-nil VariableIsSound));
    })
declaration-declares (u.Declaration.signal o) i here d e none fit h k = absurd cc
declaration-declares x i here d e none fit h k = plain-declares x i here d e tt fit h k

declarations-declare : (xs : List Declaration) (i : Inside) (here : Site) (d e : ProcessVariables) → not (list_any is_signal xs) ≡ true → declarations_fit i xs ≡ true → ProcessStands i here d
    → process_declarations d xs ≡ Ok e → ProcessStands (with_declarations i xs) here e
unfolding process_declarations
declarations-declare [] i here d e none fit h k = subst (ProcessStands i here) (ok d e k) h
declarations-declare (x ∷ xs) i here d e none fit h k =
    let both = and_parts (declaration_fits i x) (declarations_fit (with_declaration i x) xs) fit in
    let no = none_such is_signal x xs none in
    let y = bound (process_declaration d x) _ e k in
    declarations-declare xs (with_declaration i x) here y.x e no.1 both.1 (declaration-declares x i here d y.x no.0 both.0 h y.gave) y.then_gave

-- the ports are those of the instance
same-ports : (xs : List Declaration) (i : Inside) → (with_declarations i xs).ports ≡ i.ports
same-ports [] i = refl
same-ports (x ∷ xs) i = same-ports xs (with_declaration i x) ∙ one x
  where
    one : (x : Declaration) → (with_declaration i x).ports ≡ i.ports
    one (u.Declaration.integer at type s) = refl
    one (u.Declaration.truth at t) = refl
    one (u.Declaration.constant at form f) = refl
    one (u.Declaration.signal o) = refl
    one (u.Declaration.variable o) = refl
    one (u.vector_subtype at r) = refl
    one (u.integer_subtype at s) = refl

-- ---- processes

run-rises : (a n : ℕ) → IsStrictlyIncreasing (range_with_len a n)
run-rises a n k h =
    let len : length (range_with_len a n) ≡ n = length-range_with_len a n in
    let first = get_or-range_with_len a n k 0 (omega (arith, h, len)) in
    let second = get_or-range_with_len a n (k + 1) 0 (omega (arith, h, len)) in
    omega (arith, first, second)

in-order-rises : (n : ℕ) (ns : List ℕ) → IsStrictlyIncreasing (in_order n ns)
unfolding in_order
in-order-rises n ns = IsStrictlyIncreasing-filter (is_among ns) (range_with_len 0 n) (run-rises 0 n)

prefix-driven : (i : Inside) (p : SignalPart) → is_driven i p.signal ≡ true → is_driven i (prefix p).signal ≡ true
prefix-driven i p h = by (is_static_part p.part)
  where
    by : (t : Bool) → is_driven i (cond t p (record p { part = e.whole })).signal ≡ true
    by true = h
    by false = h

abbrev IsDriven : Inside → SignalPart → Type 0
IsDriven i p = is_driven i p.signal ≡ true

-- what the longest static prefixes of a body's targets gave
record Prefixes (here : Site) (P : ℕ → Type 0) (ps : List SignalPart) (ds : List ℕ) : Type 0 where
  driven : All P ds
  among : All (λ (p : SignalPart). (es : List ℕ) × (place_elements here (prefix p) ≡ Ok es) × All (Contains ds) es) ps

prefixes-driven : (i : Inside) (here : Site) (os ss : List Object) (ps : List SignalPart) (ds : List ℕ) → IsDeclared i here os ss → All (IsDriven i) ps → prefixes_elements here ps ≡ Ok ds
    → Prefixes here (MayBeDriven (os ++ ss)) ps ds
unfolding prefixes_elements
prefixes-driven i here os ss ps ds h driven g =
    let f : SignalPart → Elab (List ℕ) = λ p. place_elements here (prefix p) in
    let ess = bound (each (λ p. place_elements here (prefix p)) ps) _ ds g in
    subst (Prefixes here (MayBeDriven (os ++ ss)) ps) (ok (concatenation_of ess.x) ds ess.then_gave) (record {
      driven = all_concatenated (MayBeDriven (os ++ ss)) ess.x
          (each_with (IsDriven i) (All (MayBeDriven (os ++ ss))) f ps ess.x
          (λ p es d k. driven_elements i here (prefix p).at os ss (prefix p).signal (prefix p).part es h (prefix-driven i p d) k) driven ess.gave);
      among = among_prefixes here ps ess.x ess.gave;
    })

pub process-sound : (i : Inside) (here : Spot) (os ss : List Object) (p : u.Process) (q : t.Process) → IsDeclared i here.site os ss → i.variables ≡ [] → process_fits i p ≡ true → process here p ≡ Ok q
    → ProcessIsSound (os ++ ss) q
process-sound i here os ss p q h alone fit g =
    let ds : List Declaration = p.declarations in
    let j : Inside = with_declarations i ds in
    let m = process_made here p q g in
    let site : Site = m.declared.site in
    let vs : List Variable = m.declared.variables in
    let last = and_parts (sensitivity_fits j p.sensitivity && declarations_fit i ds && not (list_any is_signal ds)) (statements_fit j p.body) fit in
    let third = and_parts (sensitivity_fits j p.sensitivity && declarations_fit i ds) (not (list_any is_signal ds)) last.0 in
    let second = and_parts (sensitivity_fits j p.sensitivity) (declarations_fit i ds) third.0 in
    let start : ProcessStands i here.site (no_variables here.site) = record {
      site = record {
        constants = h.site.constants;
        ports = h.site.ports;
        signals = h.site.signals;
        variables = subst (λ (fs : List Form). AllZip IsOf fs []) (sym alone) tt;
      };
      known = h.known;
      ports = refl;
      signals = refl;
      kinds = refl;
      sound = All-nil VariableIsSound;
    } in
    let st = declarations-declare ds i here.site (no_variables here.site) m.declared third.1 second.1 start m.declares in
    let within : IsDeclared j site os ss = record {
      site = st.site;
      known = st.known;
      ports = h.ports ∙ sym st.ports;
      signals = h.signals ∙ sym st.signals;
      roles = subst (λ (fs : List Port). AllZip (λ (f : Port) (o : Object). o.role ≡ role_of f.mode) fs os) (sym (same-ports ds i)) h.roles;
      internals = h.internals;
    } in
    let all : List Object = os ++ ss in
    let count : ℕ = elements_count site.ports + elements_count site.signals in
    let same : count ≡ elements_count here.site.ports + elements_count here.site.signals =
    ap (λ (ks : List ObjectKind). elements_count ks + elements_count site.signals) st.ports ∙ ap (λ (ks : List ObjectKind). elements_count here.site.ports + elements_count ks) st.signals in
    let drives : List ℕ = in_order count m.driven in
    let prefixes = prefixes-driven j site os ss (targets p.body) m.driven within (targets_are_driven p.body j last.1) m.drives in
    let fits = each-body-fits j site p.body m.body st.site last.1 m.gave in
    let kept : (e : ℕ) → Contains m.driven e → Contains drives e =
    λ e c. in_order_has count m.driven e (is-below all count e (site-count j site os ss within) (All-contains (MayBeDriven all) m.driven e prefixes.driven c)) c in
    let sound : ProcessIsSound all (record {
      at = p.at;
      prefix = here.prefix;
      label = p.label;
      drives = drives;
      sensitivity = m.on;
      variables = vs;
      body = m.body;
      turns = m.turns;
    }) = record {
      body = body-stands (kinds_types site.ports ++ kinds_types site.signals) (object_types all) count (elements_count (object_kinds all)) (kinds_types site.variables) (kinds_types (kinds_of vs)) m.body
          (site-types j site os ss within) (site-count j site os ss within) (ap kinds_types (sym st.kinds)) fits;
      assigned = body_assigns site site.variables (Contains drives) p.body site.integers.loops m.body
          (All-weaker (λ (x : SignalPart). (es : List ℕ) × (place_elements site (prefix x) ≡ Ok es) × All (Contains m.driven) es) (λ (x : SignalPart). (es : List ℕ) × (place_elements site (prefix x) ≡ Ok es) × All (Contains drives) es)
          (λ x w. (w.0, w.1, All-weaker (Contains m.driven) (Contains drives) kept w.0 w.2)) (targets p.body) prefixes.among) m.gave;
      drives = in_order_all (MayBeDriven all) count m.driven prefixes.driven;
      drives_rise = in-order-rises count m.driven;
      variables = st.sound;
    } in
    subst (ProcessIsSound all) m.is (subst (λ (n : ℕ). ProcessIsSound all (record {
      at = p.at;
      prefix = here.prefix;
      label = p.label;
      drives = in_order n m.driven;
      sensitivity = m.on;
      variables = vs;
      body = m.body;
      turns = m.turns;
    })) same sound)
  where
    is-below : (all : List Object) (count e : ℕ) → count ≡ elements_count (object_kinds all) → MayBeDriven all e → e < count
    is-below all count e c m = subst (λ n. e < n) (length-roles all ∙ sym c) (slice_get_within (object_roles all) e m.0 m.1)

    body-stands : (types types' : List ElementType) (count count' : ℕ) (variables variables' : List ElementType) (body : bodies.Stmts) → types ≡ types' → count ≡ count' → variables ≡ variables'
        → Fits (record { nets = types; variables = variables; targets = range_with_len 0 count }) body → Fits (record { nets = types'; variables = variables'; targets = range_with_len 0 count' }) body
    body-stands types types' count count' variables variables' body p q r h =
        subst (λ (ts : List ElementType). Fits (record { nets = types'; variables = ts; targets = range_with_len 0 count' }) body) r
        (subst (λ n. Fits (record { nets = types'; variables = variables; targets = range_with_len 0 n }) body) q
        (subst (λ (ts : List ElementType). Fits (record { nets = ts; variables = variables; targets = range_with_len 0 count }) body) p h))
