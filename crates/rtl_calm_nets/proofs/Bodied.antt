-- What is looked up in bodies is what they copy, and what their resets' tests ask for.
use Rattle.std.proofs.Common.{◌≡◌, ℕ, Bool, true, false, ◌==◌, List, [], ◌∷◌, ◌++◌, append-nil, append_assoc, Option, Some, None, refl, sym, ap, subst, ◌∙◌, arith, inl, inr, Contains}
use Rattle.vhdl_values.specs.declared.scalar.Nine.{Nine}
use Rattle.vhdl_values.specs.declared.scalar.Nine.TheVariants.{Zero, One}
use Rattle.vhdl_values.specs.declared.kinds.Edge.{Edge}
use Rattle.vhdl_values.specs.Scalar.{code_of}
use Rattle.rtl_model.specs.bodies.Body as bodies
use Rattle.rtl_model.specs.bodies.Body.{Stmts, step, done, assign, signal, inverse, elements}
use Rattle.rtl_model.specs.bodies.Copies.{CopyPart, copying}
use Rattle.rtl_model.specs.bodies.Fits.{Scope, Fits, FitsTest}
use Rattle.rtl_model.specs.bodies.Kinds as k
use Rattle.rtl_model.specs.bodies.Reads.{reads}
use Rattle.rtl_model.specs.bodies.Types.{HasType, nine_valued}
use Rattle.rtl_model.proofs.bodies.Clocking.{clocked_is}
use Rattle.rtl_model.specs.nets.FlatNetlist.{FlatProcess, FlatVariable, element_starts}
use Rattle.rtl_model.specs.nets.CoreNetlist.{core_kind, core_reset}
use Rattle.rtl_model.specs.simulation.Netlist.{Reset, kind_reset}
use Rattle.rtl_process_kinds.specs.declared.asked.Asked.{Asked}
use Rattle.rtl_process_kinds.specs.declared.asked.Asked.TheVariants as a
use Rattle.rtl_process_kinds.specs.AskedValues.{is_asked}
use Rattle.rtl_process_kinds.specs.BodyViews.{asked_for, asked_by_test, asked_last}

-- what is copied is read
pub copy_read : (body : Stmts) (part : CopyPart) → copying body ≡ Some part → Contains (reads body) part.net
copy_read (step (assign (place ∷ []) (elements (signal (net ∷ [])))) done) part h = (0, omega arith, net_is h)
  where
    net_is : Some (record { place = place; net = net; inverted = false }) ≡ Some part → net ≡ part.net
    net_is g = cc
copy_read (step (assign (place ∷ []) (elements (inverse (signal (net ∷ []))))) done) part h = (0, omega arith, net_is h)
  where
    net_is : Some (record { place = place; net = net; inverted = true }) ≡ Some part → net ≡ part.net
    net_is g = cc
copy_read body part h = absurd cc

-- ---- the reset of a process

-- what its test asks for, where its net has this type
abbrev pub AsksFor : Scope → Stmts → (net value : ℕ) → Type 0
AsksFor scope body net value =
    (asked : Asked) × (asked_last body ≡ Some asked) × ((w : ℕ) → is_asked asked w ≡ (w == value)) × (Fits scope body → HasType scope.nets nine_valued net)

asks : (v : Nine) (edge : Edge) → k.edge_to v ≡ Some edge → (asked : Asked) × (asked_for v ≡ Some asked) × ((w : ℕ) → is_asked asked w ≡ (w == code_of v))
asks One edge h = (a.One, refl, λ w. refl)
asks Zero edge h = (a.Zero, refl, λ w. refl)
asks v edge h = absurd cc

of_part : (scope : Scope) (body : Stmts) (wide : Bool) (inputs : List ℕ) (test : bodies.Test) (part : k.ResetPart) → (h : k.IsResetTest wide inputs test part.test.net part.test.value)
    → asked_last body ≡ asked_by_test test → (Fits scope body → HasType scope.nets nine_valued part.test.net) → AsksFor scope body part.test.net part.test.value
of_part scope body wide inputs test part h last fits =
    let (edge, to) = h.one_or_zero in
    let (asked, is, all) = asks h.v edge to in
    (asked, last ∙ (ap asked_by_test h.is ∙ is), (λ w. all w ∙ ap (λ (c : ℕ). w == c) (sym h.value_is)), fits)

level_fits : (scope : Scope) (wide : Bool) (inputs : List ℕ) (test : bodies.Test) (net value : ℕ) → k.IsResetTest wide inputs test net value → FitsTest scope test → HasType scope.nets nine_valued net
level_fits scope wide inputs test net value h f = subst (λ (x : bodies.Test). FitsTest scope x) h.is f

reset_asks : (scope : Scope) (wide : Bool) (inputs : List ℕ) (body : Stmts) (c : k.Clocking) (part : k.ResetPart) → k.clocking wide inputs body ≡ Some c → c.reset ≡ Some part
    → AsksFor scope body part.test.net part.test.value
reset_asks scope wide inputs body c part h e = go (clocked_is wide inputs body c h)
  where
    same : (r : k.ResetPart) → c.reset ≡ Some r → r ≡ part
    same r f = let g : Some r ≡ Some part = sym f ∙ e in cc

    as_part : (r : k.ResetPart) → c.reset ≡ Some r → AsksFor scope body r.test.net r.test.value → AsksFor scope body part.test.net part.test.value
    as_part r f x = subst (λ (q : k.ResetPart). AsksFor scope body q.test.net q.test.value) (same r f) x

    go : k.IsClocked wide inputs body c → AsksFor scope body part.test.net part.test.value
    go (inl alone) = let none : None ≡ Some part = sym alone.no_reset ∙ e in absurd cc
    go (inr (inl x)) = as_part x.reset x.reset_is (of_part scope body wide inputs x.first x.reset x.resets (ap asked_last x.is)
        (λ f. let g = subst (Fits scope) x.is f in level_fits scope wide inputs x.first x.reset.test.net x.reset.test.value x.resets g.0.0))
    go (inr (inr x)) = as_part x.reset x.reset_is (of_part scope body wide inputs x.second x.reset x.resets (ap asked_last x.is)
        (λ f. let g = subst (Fits scope) x.is f in level_fits scope wide inputs x.second x.reset.test.net x.reset.test.value x.resets g.1.0.0))

pub asks_reset : (scope : Scope) (p : FlatProcess) (wide : Bool) (inputs events : List ℕ) (reset : Reset) → kind_reset (core_kind p (k.clocking wide inputs p.body) events) ≡ Some reset
    → AsksFor scope p.body reset.net reset.value
asks_reset scope p wide inputs events reset h = go (k.clocking wide inputs p.body) refl events h
  where
    of_reset : (c : k.Clocking) → k.clocking wide inputs p.body ≡ Some c → (o : Option k.ResetPart) → c.reset ≡ o → core_reset p o ≡ Some reset → AsksFor scope p.body reset.net reset.value
    of_reset c e None f g = absurd cc
    of_reset c e (Some part) f g =
        let net_is : part.test.net ≡ reset.net = kept_net g in
        let value_is : part.test.value ≡ reset.value = kept_value g in
        subst (λ (n : ℕ). AsksFor scope p.body n reset.value) net_is (subst (λ (w : ℕ). AsksFor scope p.body part.test.net w) value_is (reset_asks scope wide inputs p.body c part e f))
      where
        kept_net : {r : Reset} → Some r ≡ Some reset → r.net ≡ reset.net
        kept_net e = cc

        kept_value : {r : Reset} → Some r ≡ Some reset → r.value ≡ reset.value
        kept_value e = cc

    go : (o : Option k.Clocking) → k.clocking wide inputs p.body ≡ o → (ns : List ℕ) → kind_reset (core_kind p o ns) ≡ Some reset → AsksFor scope p.body reset.net reset.value
    go (Some c) e ns g = of_reset c e c.reset refl g
    go None e [] g = absurd cc
    go None e (n ∷ ns) g = absurd cc

-- ---- variables

pub element_starts-push : (vs : List FlatVariable) (v : FlatVariable) → element_starts (vs ++ v ∷ []) ≡ element_starts vs ++ v.starts
element_starts-push [] v = append-nil v.starts
element_starts-push (w ∷ ws) v = ap (λ (xs : List ℕ). w.starts ++ xs) (element_starts-push ws v) ∙ sym (append_assoc w.starts (element_starts ws) v.starts)
