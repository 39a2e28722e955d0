-- What the tables that are made of a design have: their lengths, and idle ports of nets that are there.
use Rattle.std.proofs.Common.{◌≡◌, ℕ, ◌+◌, ◌<◌, Bool, true, false, cond, List, [], ◌∷◌, length, map, All, refl, sym, ap, ◌∙◌, subst}
use Rattle.std.specs.Prelude.{flat_map, filter}
use Rattle.std.specs.List.{AllZip, AllByRecursion, zip}
use Rattle.std.proofs.lemmas.List.{length-map, length-append}
use Rattle.std.proofs.lemmas.List.Elements.{All-nil, All-cons, All-head, All-tail, All-map, All-append}
use Rattle.rtl_net.specs.declared.building.IdlePort.{IdlePort}
use Rattle.rtl_net.specs.declared.process.Process.{Process}
use Rattle.rtl_net.specs.Nets.{type_of}
use Rattle.vhdl_elab_rules.specs.Numbering.{Placed, Located, Numbered}
use Rattle.vhdl_elab_rules.specs.Wiring as wiring
use Rattle.vhdl_elab_rules.specs.Wiring.{elements_of, own_elements, is_top}
use Rattle.vhdl_connect.specs.declared.uses.Use.{Use}
use Rattle.vhdl_elab.specs.declared.made.Element.{Element}
use Rattle.vhdl_elab.specs.declared.made.Made.{Made}
use Rattle.vhdl_elab.specs.Made.{Static, element_view, static_of, statics_of, use_of, uses_of, IsLocated, IsMade}
use Rattle.vhdl_elab.specs.Tables.{Used, is_idle, idle_port, idle_in}
use Rattle.vhdl_elab.specs.Wires.{used}
use Rattle.vhdl_elab.specs.Settled.{NetsAreBelow, IsSettled}
use Rattle.vhdl_elab.specs.Wired.{NetsAreThere}
use Rattle.vhdl_elab.proofs.Shown.{IsTold}

-- ---- lengths

as-many : (ps : List Placed) → length (flat_map uses_of ps) ≡ length (flat_map statics_of ps)
as-many [] = refl
as-many (p ∷ ps) =
    length-append (uses_of p) (flat_map uses_of ps)
    ∙ (λ i. (length-map (elements_of p) use_of ∙ sym (length-map (elements_of p) (static_of (is_top p)))) i + as-many ps i)
    ∙ sym (length-append (statics_of p) (flat_map statics_of ps))

module _ (d : Numbered) (m : Made) (h : IsMade d m) where
  pub as-many-uses : length m.uses.items ≡ length m.elements.items
  as-many-uses = ap length h.uses ∙ as-many d.instances ∙ sym (ap length h.elements) ∙ length-map m.elements.items element_view

  pub as-many-defaults : length m.kinds.items ≡ length m.defaults.items
  as-many-defaults =
      sym (length-map m.kinds.items type_of) ∙ ap length h.kinds ∙ length-map (own_elements d) (λ (e : wiring.Element). e.type)
      ∙ sym (length-map (own_elements d) (λ (e : wiring.Element). e.start)) ∙ sym (ap length h.defaults)

  pub told : (n : Made) → n ≡ record m { processes = n.processes } → AllZip (IsSettled d.nets) d.processes n.processes.items → IsTold d n
  told n same settled = subst (IsTold d) (sym same) (record {
    scopes = h.scopes;
    signals = h.signals;
    processes = settled;
    kinds = h.kinds;
    defaults = h.defaults;
    nets = h.nets;
    elements = h.elements;
    uses = h.uses;
  })

-- with processes that are those of the flat netlist of so many nets
pub settled-told : (d : Numbered) (m n : Made) (nets : ℕ) (before : List Process) → IsMade d m → NetsAreThere d → n ≡ record m { processes = n.processes } → before ≡ m.processes.items
    → nets ≡ length m.kinds.items → ((xs : List Located) → AllZip IsLocated xs before → NetsAreBelow nets xs → AllZip (IsSettled nets) xs n.processes.items) → IsTold d n
settled-told d m n nets before h there same is count settled =
    let many : nets ≡ d.nets = count ∙ h.nets in
    told d m h n same
    (subst (λ k. AllZip (IsSettled k) d.processes n.processes.items) many
    (settled d.processes (subst (AllZip IsLocated d.processes) (sym is) h.processes) (subst (λ k. NetsAreBelow k d.processes) (sym many) there.round)))

-- ---- idle ports

module _ (total : ℕ) where
  statics-below : (ps : List Placed) → AllByRecursion (λ (p : Placed). All (λ (e : wiring.Element). e.net < total) (elements_of p)) ps → All (λ (s : Static). s.net < total) (flat_map statics_of ps)
  statics-below [] h = All-nil (λ (s : Static). s.net < total)
  statics-below (p ∷ ps) h =
      All-append (λ (s : Static). s.net < total) (statics_of p) (flat_map statics_of ps) (All-map (λ (s : Static). s.net < total) (static_of (is_top p)) (elements_of p) h.0) (statics-below ps h.1)

  elements-below : (es : List Element) → All (λ (s : Static). s.net < total) (map element_view es) → All (λ (e : Element). e.net < total) es
  elements-below [] h = All-nil (λ (e : Element). e.net < total)
  elements-below (e ∷ es) h =
      All-cons (λ (e : Element). e.net < total) e es (All-head (λ (s : Static). s.net < total) (element_view e) (map element_view es) h)
      (elements-below es (All-tail (λ (s : Static). s.net < total) (element_view e) (map element_view es) h))

  ports-below : (es : List Element) (us : List Use) → All (λ (e : Element). e.net < total) es → All (λ (p : IdlePort). p.net < total) (idle_in (zip es us))
  ports-below [] us h = All-nil (λ (p : IdlePort). p.net < total)
  ports-below (e ∷ es) [] h = All-nil (λ (p : IdlePort). p.net < total)
  ports-below (e ∷ es) (u ∷ us) h =
      by (is_idle (e, u)) (ports-below es us (All-tail (λ (e : Element). e.net < total) e es h))
    where
      by : (t : Bool) → All (λ (p : IdlePort). p.net < total) (idle_in (zip es us))
          → All (λ (p : IdlePort). p.net < total) (map (λ (x : Used). idle_port x.0) (cond t ((e, u) ∷ filter is_idle (zip es us)) (filter is_idle (zip es us))))
      by true r = All-cons (λ (p : IdlePort). p.net < total) (idle_port e) (idle_in (zip es us)) (All-head (λ (e : Element). e.net < total) e es h) r
      by false r = r

pub idle-there : (d : Numbered) (m : Made) → IsTold d m → NetsAreThere d → All (λ (p : IdlePort). p.net < length m.kinds.items) (idle_in (used m))
idle-there d m h there =
    subst (λ n. All (λ (p : IdlePort). p.net < n) (idle_in (used m))) (sym h.nets)
    (ports-below d.nets m.elements.items m.uses.items
    (elements-below d.nets m.elements.items (subst (All (λ (s : Static). s.net < d.nets)) (sym h.elements) (statics-below d.nets d.instances there.elements))))
