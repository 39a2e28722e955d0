-- Expansion within the limits, and then connection, is elaboration.
use Rattle.std.proofs.Common.{◌≡◌, ℕ, Bool, true, false, not, List, Option, Some, None, Ok, Err, All, inl, inr, refl, sym, ap, ◌∙◌, subst}
use Rattle.std.specs.Prelude.{◌≢◌, ◌⊎◌, IsOk, IsErr, IsTrue}
use Rattle.rtl_net.specs.Nets.{NetlistView}
use Rattle.rtl_net.specs.Elaborated.{ReadsOfBody, IsNet}
use Rattle.rtl_stim.specs.Ports.{HasOwnPorts}
use Rattle.vhdl_names_rules.specs.units.Units.{Units, Entity}
use Rattle.vhdl_names_rules.specs.sound.Units.{are_sound}
use Rattle.vhdl_names_rules.specs.sound.Named.{are_named}
use Rattle.vhdl_names_rules.specs.units.Bytes.{units_bytes}
use Rattle.vhdl_expand_rules.specs.declared.fault.ElabProblem.{ElabProblem}
use Rattle.vhdl_expand_rules.specs.declared.fault.ElabProblem.TheVariants as problem
use Rattle.vhdl_expand_rules.specs.declared.fault.ElabProblem.TheVariants.{NoTop, TwoUnresolved, ReadOfShared, TooMany}
use Rattle.vhdl_expand_rules.specs.Elab.{Told, Elab, ◌>>=◌, ◌>>◌, unless, item_or, MayTell}
use Rattle.vhdl_expand_rules.specs.Declarations.{InstanceObjects}
use Rattle.vhdl_expand_rules.specs.Expansion.{Design, entity_named, instance_of, expanded_design}
use Rattle.vhdl_expand_rules.specs.Tops.{Top, top_interface}
use Rattle.vhdl_expand_rules.proofs.Steps.{given, ok, bound}
use Rattle.vhdl_elab_rules.specs.Numbering.{Numbered, numbered_design}
use Rattle.vhdl_elab_rules.specs.Wiring.{flat_net}
use Rattle.vhdl_elab_rules.specs.Limits.{elements, first_at, is_two_unresolved, has_two_unresolved, is_read_of_shared, has_read_of_shared, counts, is_within_limits, is_within, limits}
use Rattle.vhdl_elab_rules.specs.Elaboration.{Elaborated, net_of, resolves, shares_unread, netlist_of, elaborated_net}
use Rattle.vhdl_expand_tree.specs.Costs.{instance_costs}
use Rattle.vhdl_expand_tree.proofs.Alike.{wrong, same_told, tells_same, tells_first, tells_again}
use Rattle.vhdl_expand_tree.proofs.Counts.{each-design-costs-its-parts}
use Rattle.vhdl_elab_rules.specs.Refused.{HasInterface, MayRefuse}
use Rattle.vhdl_elab_rules.specs.Ports.{ports_are_distinct}
use Rattle.vhdl_elab_rules.specs.Shown.{Shown, shown, as_shown, net_shown}
use Rattle.vhdl_elab_rules.proofs.Nets.{each-elaborated-is-net}
use Rattle.vhdl_elab_rules.proofs.Ports.{each-has-own-ports}
use Rattle.vhdl_expand.specs.Limits.{within_limits}
use Rattle.vhdl_elab.proofs.NoBudget.{of-top}

-- what was expanded within the limits was expanded
pub was-expanded : (units : Units) (top : Top) (design : Design) → within_limits (expanded_design units top) ≡ Ok design → expanded_design units top ≡ Ok design
was-expanded units top design h =
    let d = bound (expanded_design units top) _ design h in
    let u = bound (unless TooMany 0 (is_within (instance_costs d.x.top) limits)) _ design d.then_gave in
    d.gave ∙ u.then_gave

pub elaborated-by : (units : Units) (top : Top) (design : Design) → within_limits (expanded_design units top) ≡ Ok design → elaborated_net units top ≡ netlist_of design
unfolding elaborated_net
elaborated-by units top design h = ap (λ (r : Elab Design). r >>= λ d. netlist_of d) (was-expanded units top design h)

-- and is within them
pub is-within : (units : Units) (top : Top) (design : Design) → within_limits (expanded_design units top) ≡ Ok design → is_within_limits (counts (numbered_design design)) ≡ true
is-within units top design h = let d = bound (expanded_design units top) _ design h in (each-design-costs-its-parts design).within ∙ by d.x (is_within (instance_costs d.x.top) limits) refl d.then_gave
  where
    by : (x : Design) (t : Bool) → is_within (instance_costs x.top) limits ≡ t → (unless TooMany 0 t >> given x) ≡ Ok design → is_within (instance_costs design.top) limits ≡ true
    by x true e k = subst (λ (y : Design). is_within (instance_costs y.top) limits ≡ true) (ok x design k) e
    by x false e k = absurd cc

-- beyond the limits nothing is connected
beyond : (design : Design) → is_within (instance_costs design.top) limits ≡ false → netlist_of design ≡ Err (TooMany, 0)
unfolding netlist_of
beyond design h =
    let d : Numbered = numbered_design design in
    let over : is_within_limits (counts d) ≡ false = (each-design-costs-its-parts design).within ∙ h in
    ap (λ (t : Bool). unless TooMany 0 t >> (resolves d >> (shares_unread d >> given (net_of d)))) over

refused-in : (bytes : List ℕ) (told : Told) (r : Elab Design) → MayTell bytes (within_limits r) told → MayTell bytes (r >>= λ d. netlist_of d) told
refused-in bytes told (Err p) h = tells_again {A = Design} {B = Elaborated} p told h
refused-in bytes told (Ok d) h = by (is_within (instance_costs d.top) limits) refl h
  where
    gone : IsErr (given d) → MayTell bytes (netlist_of d) told
    gone h = absurd cc

    by : (t : Bool) → is_within (instance_costs d.top) limits ≡ t → MayTell bytes (unless TooMany 0 t >> given d) told → MayTell bytes (netlist_of d) told
    by true e k = gone k.refused
    by false e k = tells_same (beyond d e) (tells_again {A = Design} {B = Elaborated} (TooMany, 0) told k)

pub refused : {bytes : List ℕ} {told : Told} → (units : Units) (top : Top) → MayTell bytes (within_limits (expanded_design units top)) told → MayTell bytes (as_shown (elaborated_net units top)) told
unfolding elaborated_net
refused {bytes} {told} units top h = tells_first (expanded_design units top >>= λ d. netlist_of d) _ (refused-in bytes told (expanded_design units top) h)

-- what is shown is refused alike
pub not-shown : {told : Told} (r : Elab Elaborated) → as_shown r ≡ Err told → r ≡ Err told
not-shown (Ok x) h = absurd cc
not-shown {told} (Err p) h = ap (λ q. wrong {A = Elaborated} q) (same_told {A = Shown} p told h)

same-in : (told : Told) (r : Elab Design) → within_limits r ≡ Err told → (r >>= λ d. netlist_of d) ≡ Err told
same-in told (Err p) h = ap (λ q. wrong {A = Elaborated} q) (same_told {A = Design} p told h)
same-in told (Ok d) h = by (is_within (instance_costs d.top) limits) refl h
  where
    by : (t : Bool) → is_within (instance_costs d.top) limits ≡ t → (unless TooMany 0 t >> given d) ≡ Err told → netlist_of d ≡ Err told
    by true e k = absurd cc
    by false e k = beyond d e ∙ ap (λ q. wrong {A = Elaborated} q) (same_told {A = Design} (TooMany, 0) told k)

not-expanded : (r : Elab Design) → IsErr (within_limits r) → IsErr (r >>= λ d. unless TooMany 0 (is_within_limits (counts (numbered_design d))))
not-expanded (Err p) h = refl
not-expanded (Ok d) h = subst (λ (t : Bool). IsErr (unless TooMany 0 t)) (sym (each-design-costs-its-parts d).within) (by (is_within (instance_costs d.top) limits) h)
  where
    by : (t : Bool) → IsErr (unless TooMany 0 t >> given d) → IsErr (unless TooMany 0 t)
    by true k = absurd cc
    by false k = refl

is-many : (p : ElabProblem) → (p ≡ TooMany) ⊎ (p ≢ TooMany)
is-many problem.TooMany = inl refl
is-many _ = inr (λ e. absurd cc)

-- where TooMany is told, the interface of the top isn't refused
abbrev expanded-from : Units → Top → Option Entity → Elab Design
expanded-from units top o = item_or NoTop 0 o >>= λ unit. top_interface top unit >>= λ d. instance_of units 32 unit.at unit d >>= λ i. Ok (record { name = unit.name; top = i })

abbrev begun-from : Top → Option Entity → Elab InstanceObjects
begun-from top o = item_or NoTop 0 o >>= λ unit. top_interface top unit

begun-in : (units : Units) (top : Top) (o : Option Entity) (told : Told) → told.0 ≡ TooMany → within_limits (expanded-from units top o) ≡ Err told → IsOk (begun-from top o)
begun-in units top None told many h =
    let is : NoTop ≡ told.0 = ap (λ (t : Told). t.0) (same_told {A = Design} (NoTop, 0) told h) in
    absurd cc
begun-in units top (Some unit) told many h = by (top_interface top unit) refl h
  where
    by : (r : Elab InstanceObjects) → top_interface top unit ≡ r
        → within_limits (r >>= λ d. instance_of units 32 unit.at unit d >>= λ i. Ok (record { name = unit.name; top = i })) ≡ Err told → IsOk r
    by (Ok d) e k = refl
    by (Err first) e k =
        let is : first ≡ told = same_told {A = Design} first told k in
        absurd ((of-top top unit).other first e (ap (λ (t : Told). t.0) is ∙ many))

begun : (units : Units) (top : Top) (told : Told) → told.0 ≡ TooMany → within_limits (expanded_design units top) ≡ Err told → HasInterface units top
unfolding expanded_design
begun units top told many h = begun-in units top (entity_named units top.name) told many h

-- what expansion within the limits tells may be told of the whole
pub may-refuse : {told : Told} (units : Units) (top : Top) → MayTell (units_bytes units) (within_limits (expanded_design units top)) told
    → (within_limits (expanded_design units top) ≡ Err told) ⊎ HasInterface units top → MayRefuse units top told
unfolding elaborated_net
may-refuse {told} units top t o = by (is-many told.0) o
  where
    by : (told.0 ≡ TooMany) ⊎ (told.0 ≢ TooMany) → (within_limits (expanded_design units top) ≡ Err told) ⊎ HasInterface units top → MayRefuse units top told
    by (inl many) (inl e) = inr (many, record { begun = begun units top told many e; refused = not-expanded (expanded_design units top) t.refused; placed = t.placed many })
    by (inl many) (inr is) = inr (many, record { begun = is; refused = not-expanded (expanded_design units top) t.refused; placed = t.placed many })
    by (inr other) first = inl (other, same-in told (expanded_design units top) (t.first other))

-- within the limits what is refused is no budget
kept-or-told : (a b : ℕ) (resolved unread : Bool) (x : Elaborated) (told : Told) → (unless TwoUnresolved a resolved >> (unless ReadOfShared b unread >> given x)) ≡ wrong told → told.0 ≢ TooMany
kept-or-told a b true true x told h too = absurd cc
kept-or-told a b true false x told h too =
    let is : ReadOfShared ≡ told.0 = ap (λ (t : Told). t.0) (same_told {A = Elaborated} (ReadOfShared, b) told h) in
    absurd cc
kept-or-told a b false unread x told h too =
    let is : TwoUnresolved ≡ told.0 = ap (λ (t : Told). t.0) (same_told {A = Elaborated} (TwoUnresolved, a) told h) in
    absurd cc

pub no-budget : (design : Design) (told : Told) → is_within_limits (counts (numbered_design design)) ≡ true → netlist_of design ≡ Err told → told.0 ≢ TooMany
unfolding netlist_of
no-budget design told h e =
    let d : Numbered = numbered_design design in
    kept-or-told (first_at is_two_unresolved (elements d)) (first_at (is_read_of_shared (flat_net d)) (elements d)) (not (has_two_unresolved d)) (not (has_read_of_shared d (flat_net d))) (net_of d) told
    (ap (λ (t : Bool). unless TooMany 0 t >> (resolves d >> (shares_unread d >> given (net_of d)))) (sym h) ∙ e)

-- what connection shows is a netlist
pub connected-is-net : (units : Units) (top : Top) (design : Design) (net : NetlistView) → IsTrue (are_sound units) → IsTrue (are_named units) → within_limits (expanded_design units top) ≡ Ok design
    → as_shown (netlist_of design) ≡ Ok (net_shown net) → All ReadsOfBody net.processes → IsNet net
connected-is-net units top design net sound named h e reads =
    let x = bound (netlist_of design) _ (net_shown net) e in
    each-elaborated-is-net units top x.x net sound named (elaborated-by units top design h ∙ x.gave) (sym (ok (shown x.x) (net_shown net) x.then_gave)) reads

-- and the ports of its top have names of their own
pub elaborated-own-ports : (units : Units) (top : Top) (net : NetlistView) → IsTrue (are_sound units) → IsTrue (ports_are_distinct units) → as_shown (elaborated_net units top) ≡ Ok (net_shown net)
    → HasOwnPorts net
elaborated-own-ports units top net sound distinct e =
    let x = bound (elaborated_net units top) _ (net_shown net) e in
    each-has-own-ports units top x.x net sound distinct x.gave (sym (ok (shown x.x) (net_shown net) x.then_gave))
