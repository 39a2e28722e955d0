-- Located processes as processes of the flat netlist.
use Rattle.std.proofs.Common.{◌≡◌, ℕ, zero, suc, ◌<◌, ◌≤◌, List, [], ◌∷◌, length, get_or, map, All, refl, sym, ap, ◌∙◌, subst, arith}
use Rattle.std.specs.Prelude.{slice_index}
use Rattle.std.specs.List.{AllZip}
use Rattle.std.proofs.lemmas.List.Elements.{All-map}
use Rattle.std.proofs.lemmas.Simd.{map-map}
use Rattle.rtl_net.specs.declared.process.Variable.{Variable}
use Rattle.rtl_net.specs.declared.process.Process.{Process}
use Rattle.rtl_model.specs.nets.FlatNetlist.{FlatVariable}
use Rattle.rtl_net.specs.declared.signal.SignalKind.{SignalKind}
use Rattle.rtl_net.specs.Nets as nets
use Rattle.rtl_net.specs.Nets.{driver_view}
use Rattle.rtl_net.specs.Elaborated.{ReadsOfBody}
use Rattle.vhdl_expand_rules.specs.Kinds as kinds
use Rattle.vhdl_expand_rules.specs.Prefixes.{in_order}
use Rattle.vhdl_expand_rules.specs.Tree as tree
use Rattle.vhdl_elab_rules.specs.Numbering.{Located}
use Rattle.vhdl_elab_rules.specs.Wiring.{flat_variable, sensitive_to}
use Rattle.vhdl_elab_rules.specs.Names.{named_variable}
use Rattle.vhdl_elab_rules.specs.laws.Signals.{kind_view}
use Rattle.vhdl_elab_rules.specs.Shown.{variable_shown, net_process_shown, net_variable_shown}
use Rattle.vhdl_connect_processes.specs.Located.{VariableView, net_variable, of_variable}
use Rattle.vhdl_elab.specs.Made.{IsLocated}
use Rattle.vhdl_elab.specs.Settled.{NetsAreBelow, IsSettled}

-- ---- variables

map-same : {A B : Type 0} (f g : A → B) (xs : List A) → ((x : A) → f x ≡ g x) → map f xs ≡ map g xs
map-same f g [] h = refl
map-same f g (x ∷ xs) h = λ i. h x i ∷ map-same f g xs h i

abbrev flat_of : VariableView → FlatVariable
flat_of v = record { type_of = nets.element_type v.kind; starts = v.starts }

abbrev named_of : VariableView → List ℕ × SignalKind
named_of v = (v.name, v.kind)

same-type : (q : kinds.ObjectKind) → nets.element_type (kind_view q) ≡ kinds.element_type q
same-type kinds.one = refl
same-type _ = refl

flat-variables : (vs : List Variable) (ws : List tree.Variable) → map net_variable vs ≡ map of_variable ws → map nets.variable_view vs ≡ map flat_variable ws
flat-variables vs ws h =
    sym (map-map flat_of net_variable vs) ∙ ap (map flat_of) h ∙ map-map flat_of of_variable ws
    ∙ map-same (λ w. flat_of (of_variable w)) flat_variable ws (λ w i. record { type_of = same-type w.kind i; starts = w.starts })

shown-variables : (vs : List Variable) (ws : List tree.Variable) → map net_variable vs ≡ map of_variable ws → map net_variable_shown vs ≡ map variable_shown (map named_variable ws)
shown-variables vs ws h =
    sym (map-map named_of net_variable vs) ∙ ap (map named_of) h ∙ map-map named_of of_variable ws ∙ sym (map-map variable_shown named_variable ws)

-- ---- one process

settled : (count : ℕ) (x : Located) (p q : Process) → IsLocated x p → q ≡ record p { wakes = q.wakes } → q.wakes.items ≡ in_order count (map (slice_index x.round.nets) (sensitive_to x.process))
    → IsSettled count x q
settled count x p q h same wakes = record {
  flat = λ i. record {
    drivers = (ap (λ (r : Process). map driver_view r.drives.items) same ∙ h.drivers) i;
    wakes = wakes i;
    variables = (ap (λ (r : Process). map nets.variable_view r.variables.items) same ∙ flat-variables p.variables.items x.process.variables h.variables) i;
    body = (ap nets.body_of same ∙ h.body) i;
  };
  shown = λ i. record {
    at = (ap (λ (r : Process). r.at) same ∙ h.at) i;
    scope = (ap (λ (r : Process). r.scope) same ∙ h.scope_is) i;
    prefix = (ap (λ (r : Process). (net_process_shown r).prefix) same ∙ h.prefix) i;
    label = (ap (λ (r : Process). (net_process_shown r).label) same ∙ h.label) i;
    variables = (ap (λ (r : Process). (net_process_shown r).variables) same ∙ shown-variables p.variables.items x.process.variables h.variables) i;
  };
  reads = reads-same p q same h.reads;
}
  where
    reads-same : (p q : Process) → q ≡ record p { wakes = q.wakes } → ReadsOfBody p → ReadsOfBody q
    reads-same p q e r = subst ReadsOfBody (sym e) (record { rise = r.rise; all = r.all })

-- ---- where there are nets

index-below : (count : ℕ) (ns : List ℕ) (e : ℕ) → 0 < count → All (λ n. n < count) ns → slice_index ns e < count
index-below count [] e l h = l
index-below count (n ∷ ns) zero l h = h 0 0 (omega arith)
index-below count (n ∷ ns) (suc e) l h = index-below count ns e l (λ k d b. h (suc k) d (omega (arith, b)))

indices-below : (count : ℕ) (ns es : List ℕ) → 0 < count → All (λ n. n < count) ns → All (λ n. n < count) (map (slice_index ns) es)
indices-below count ns es l h = All-map (λ n. n < count) (slice_index ns) es (λ k d b. index-below count ns _ l h)

pub as-they-are : (count : ℕ) (xs : List Located) (ps : List Process) → 0 < count → AllZip IsLocated xs ps → NetsAreBelow count xs → AllZip (IsSettled count) xs ps
as-they-are count [] [] l h b = tt
as-they-are count (x ∷ xs) (p ∷ ps) l h b =
    (settled count x p p h.0 refl (sym (h.0.wakes count (indices-below count x.round.nets (sensitive_to x.process) l b.0))), as-they-are count xs ps l h.1 b.1)
as-they-are count _ _ l h b = elim h [ ]

-- ---- where there are none

pub record IsUnwoken (p q : Process) : Type 0 where
  pub same : q ≡ record p { wakes = q.wakes }
  pub none : q.wakes.items ≡ []

-- the first ones are not woken, and the others are as they were
pub record AreUnwoken (i : ℕ) (old now : List Process) : Type 0 where
  pub long : length now ≡ length old
  pub first : (k : ℕ) (d : Process) → k < i → IsUnwoken (get_or old k d) (get_or now k d)
  pub others : (k : ℕ) (d : Process) → i ≤ k → get_or now k d ≡ get_or old k d

pub all-unwoken : (n : ℕ) (xs : List Located) (old now : List Process) → n ≡ 0 → AllZip IsLocated xs old → length now ≡ length old → ((k : ℕ) (d : Process) → k < length now → IsUnwoken (get_or old k d) (get_or now k d))
    → AllZip (IsSettled n) xs now
unfolding in_order
all-unwoken n [] [] [] z h l u = tt
all-unwoken n [] (p ∷ ps) qs z h l u = elim h [ ]
all-unwoken n (x ∷ xs) [] qs z h l u = elim h [ ]
all-unwoken n (x ∷ xs) (p ∷ ps) (q ∷ qs) z h l u =
    let mine = u 0 p (omega arith) in
    (subst (λ m. IsSettled m x q) (sym z) (settled 0 x p q h.0 mine.same mine.none), all-unwoken n xs ps qs z h.1 (omega (arith, l)) (λ k d b. u (suc k) d (omega (arith, b))))
all-unwoken n _ _ _ z h l u = absurd (omega (arith, l))
