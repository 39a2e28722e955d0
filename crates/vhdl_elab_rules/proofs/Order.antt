-- Signals stand by scope, and in a scope ports before the others.
use Rattle.std.proofs.Common.{◌≡◌, ℕ, zero, suc, ◌+◌, ◌≤◌, true, false, List, [], ◌∷◌, ◌++◌, All, AllPairs, refl, sym, ◌∙◌, subst, arith, inl, inr}
use Rattle.std.specs.Prelude.{⊤}
use Rattle.std.proofs.lemmas.List.Elements.{All-cons, All-nil, All-append, All-head, All-tail, All-weaker}
use Rattle.rtl_net.specs.Nets.{SignalView}
use Rattle.rtl_net.specs.Elaborated.{ComesBefore}
use Rattle.vhdl_expand_rules.specs.Tree.{Role, input, Object}
use Rattle.vhdl_expand_rules.specs.laws.Trees.{is_port}
use Rattle.vhdl_elab_rules.specs.Numbering.{object_nets, own_size, Placed, own_sizes}
use Rattle.vhdl_elab_rules.specs.Names.{is_port_role}
use Rattle.vhdl_elab_rules.proofs.Ordered.{IsPort, IsSignal}
use Rattle.vhdl_elab_rules.proofs.Placed.{Follow}
use Rattle.vhdl_elab_rules.proofs.Objects.{object_signal, object_signals, all_signals, first-signals}

-- ---- pairs of a list

abbrev pub InTurn : {X : Type 0} → (X → X → Type 0) → List X → Type 0
InTurn R [] = ⊤
InTurn R (x ∷ xs) = All (R x) xs × InTurn R xs

in-turn-append : {X : Type 0} (R : X → X → Type 0) (xs ys : List X) → InTurn R xs → InTurn R ys → All (λ x. All (R x) ys) xs → InTurn R (xs ++ ys)
in-turn-append R [] ys h g k = g
in-turn-append R (x ∷ xs) ys h g k =
    (All-append (R x) xs ys h.0 (All-head (λ z. All (R z) ys) x xs k), in-turn-append R xs ys h.1 g (All-tail (λ z. All (R z) ys) x xs k))

pub in-pairs : {X : Type 0} (R : X → X → Type 0) (xs : List X) → InTurn R xs → AllPairs R xs
in-pairs R [] h i j d lt l = absurd (omega (arith, l))
in-pairs R (x ∷ xs) h zero zero d lt l = absurd (omega (arith, lt))
in-pairs R (x ∷ xs) h zero (suc j) d lt l = h.0 j d (omega (arith, l))
in-pairs R (x ∷ xs) h (suc i) zero d lt l = absurd (omega (arith, lt))
in-pairs R (x ∷ xs) h (suc i) (suc j) d lt l = in-pairs R xs h.1 i j d (omega (arith, lt)) (omega (arith, l))

-- ---- in a scope

pub role-port : (r : Role) → is_port_role r ≡ is_port r
role-port input = refl
role-port _ = refl

abbrev InScope : ℕ → SignalView → Type 0
InScope k s = s.scope ≡ k

objects-in-scope : (k : ℕ) (above : List ℕ) (first : ℕ) (os : List Object) → All (InScope k) (object_signals k above first os)
objects-in-scope k above first [] = All-nil (InScope k)
objects-in-scope k above first (o ∷ os) =
    All-cons (InScope k) (object_signal k (object_nets above first o) o) (object_signals k above (first + own_size o) os) refl (objects-in-scope k above (first + own_size o) os)

-- no port
abbrev Inner : ℕ → SignalView → Type 0
Inner k s = (s.scope ≡ k) × (s.port ≡ false)

signals-are-inner : (k : ℕ) (above : List ℕ) (first : ℕ) (os : List Object) → All IsSignal os → All (Inner k) (object_signals k above first os)
signals-are-inner k above first [] h = All-nil (Inner k)
signals-are-inner k above first (o ∷ os) h =
    All-cons (Inner k) (object_signal k (object_nets above first o) o) (object_signals k above (first + own_size o) os) (refl, role-port o.role ∙ All-head IsSignal o os h)
    (signals-are-inner k above (first + own_size o) os (All-tail IsSignal o os h))

none-true : (s : SignalView) → s.port ≡ false → s.port ≡ true → ⊥
none-true s f t = let e = sym f ∙ t in cc

objects-in-turn : (k : ℕ) (above : List ℕ) (first : ℕ) (ps os : List Object) → All IsPort ps → All IsSignal os → InTurn ComesBefore (object_signals k above first (ps ++ os))
objects-in-turn k above first [] [] h g = tt
objects-in-turn k above first [] (o ∷ os) h g =
    let rest : List SignalView = object_signals k above (first + own_size o) os in (
      All-weaker (Inner k) (ComesBefore (object_signal k (object_nets above first o) o)) (λ t i. inr (sym i.0, λ e. absurd (none-true t i.1 e))) rest
          (signals-are-inner k above (first + own_size o) os (All-tail IsSignal o os g)),
      objects-in-turn k above (first + own_size o) [] os h (All-tail IsSignal o os g),
    )
objects-in-turn k above first (p ∷ ps) os h g =
    let rest : List SignalView = object_signals k above (first + own_size p) (ps ++ os) in (
      All-weaker (InScope k) (ComesBefore (object_signal k (object_nets above first p) p)) (λ t i. inr (sym i, λ e. role-port p.role ∙ All-head IsPort p ps h)) rest
          (objects-in-scope k above (first + own_size p) (ps ++ os)),
      objects-in-turn k above (first + own_size p) ps os (All-tail IsPort p ps h) g,
    )

-- ---- all scopes

abbrev pub FromScope : ℕ → SignalView → Type 0
FromScope k s = k ≤ s.scope

pub from-scope : (from : ℕ) (before : List Placed) (count : ℕ) (ps : List Placed) (total : ℕ) → Follow before count ps total → All (FromScope from) (all_signals from ps)
from-scope from before count [] total h = All-nil (FromScope from)
from-scope from before count (p ∷ ps) total h =
    let mine : List SignalView = object_signals from h.0.above count p.objects in
    subst (All (FromScope from)) (sym (first-signals from before count p ps h.0))
    (All-append (FromScope from) mine (all_signals (from + 1) ps)
    (All-weaker (InScope from) (FromScope from) (λ s e. omega (arith, e)) mine (objects-in-scope from h.0.above count p.objects))
    (All-weaker (FromScope (from + 1)) (FromScope from) (λ s l. omega (arith, l)) (all_signals (from + 1) ps) (from-scope (from + 1) (before ++ p ∷ []) (count + own_sizes p.objects) ps total h.1)))

all-in-turn : (from : ℕ) (before : List Placed) (count : ℕ) (ps : List Placed) (total : ℕ) → Follow before count ps total → InTurn ComesBefore (all_signals from ps)
all-in-turn from before count [] total h = tt
all-in-turn from before count (p ∷ ps) total h =
    let at = h.0 in
    let mine : List SignalView = object_signals from at.above count p.objects in
    let later : List SignalView = all_signals (from + 1) ps in
    subst (InTurn ComesBefore) (sym (first-signals from before count p ps at))
    (in-turn-append ComesBefore mine later
    (subst (λ (os : List Object). InTurn ComesBefore (object_signals from at.above count os)) (sym at.ordered.are)
    (objects-in-turn from at.above count at.ordered.ports at.ordered.signals at.ordered.are_ports at.ordered.are_signals))
    (all-in-turn (from + 1) (before ++ p ∷ []) (count + own_sizes p.objects) ps total h.1)
    (All-weaker (InScope from) (λ s. All (ComesBefore s) later)
    (λ s e. All-weaker (FromScope (from + 1)) (ComesBefore s) (λ t l. inl (omega (arith, e, l))) later (from-scope (from + 1) (before ++ p ∷ []) (count + own_sizes p.objects) ps total h.1))
    mine (objects-in-scope from at.above count p.objects)))

pub signals-in-order : (ps : List Placed) (total : ℕ) → Follow [] 0 ps total → AllPairs ComesBefore (all_signals 0 ps)
signals-in-order ps total h = in-pairs ComesBefore (all_signals 0 ps) (all-in-turn 0 [] 0 ps total h)
