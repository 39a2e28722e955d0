-- What is looked at in a test says which edge is gated.
use Rattle.std.proofs.Common.{◌≡◌, Bool, true, false, cond, not, ◌||◌, List, [], ◌∷◌, Option, Some, None, refl, ap, sym, subst, ◌∙◌}
use Rattle.std.specs.Prelude.{option_map}
use Rattle.std.specs.List.{list_any}
use Rattle.std.specs.Option.{option_or}
use Rattle.vhdl_values.specs.declared.kinds.Edge.{Edge as EdgeKind}
use Rattle.vhdl_names_rules.specs.units.Expressions as u
use Rattle.vhdl_names_rules.specs.units.Expressions.{SignalPart, Test}
use Rattle.vhdl_names_rules.specs.Rules.{◌>>=◌, then_some}
use Rattle.vhdl_names_rules.proofs.laws.Rules.{some_is}
use Rattle.vhdl_names_rules.specs.Edges.{Edge, edge, conditions, looks_for_event, level, same_place, taken, start_of, level_of, begun, gated}
use Rattle.vhdl_names_registers.specs.declared.seen.Many.{Many}
use Rattle.vhdl_names_registers.specs.declared.seen.Many.TheVariants as m
use Rattle.vhdl_names_registers.specs.Looking as look
use Rattle.vhdl_names_registers.specs.Looking.{SeenView, seen, together, level_kind, none_beside, GateView, gate_among, is_one, is_two}
use Rattle.vhdl_names_registers.proofs.Counting.{first_of_all, one_if, counted, are_some, some_together, conditions_are, events_counted, start_is_first, level_is_first}

-- ---- what is taken

together_commutes : (a b c : Many) → together a (together b c) ≡ together b (together a c)
together_commutes m.None b c = refl
together_commutes m.One m.None c = refl
together_commutes m.Two m.None c = refl
together_commutes m.More m.None c = refl
together_commutes m.One m.One c = refl
together_commutes m.One m.Two m.None = refl
together_commutes m.One m.Two m.One = refl
together_commutes m.One m.Two m.Two = refl
together_commutes m.One m.Two m.More = refl
together_commutes m.One m.More m.None = refl
together_commutes m.One m.More m.One = refl
together_commutes m.One m.More m.Two = refl
together_commutes m.One m.More m.More = refl
together_commutes m.Two m.One m.None = refl
together_commutes m.Two m.One m.One = refl
together_commutes m.Two m.One m.Two = refl
together_commutes m.Two m.One m.More = refl
together_commutes m.Two m.Two c = refl
together_commutes m.Two m.More m.None = refl
together_commutes m.Two m.More m.One = refl
together_commutes m.Two m.More m.Two = refl
together_commutes m.Two m.More m.More = refl
together_commutes m.More m.One m.None = refl
together_commutes m.More m.One m.One = refl
together_commutes m.More m.One m.Two = refl
together_commutes m.More m.One m.More = refl
together_commutes m.More m.Two m.None = refl
together_commutes m.More m.Two m.One = refl
together_commutes m.More m.Two m.Two = refl
together_commutes m.More m.Two m.More = refl
together_commutes m.More m.More c = refl

-- one of them, and the others
pub record Taken {A : Type 0} (found : Test → Option A) (ts : List Test) (r : A × List Test) : Type 0 where
  one : Test
  is : found one ≡ Some r.0
  first : first_of_all found ts ≡ Some r.0
  counts : (g : Test → Bool) → counted g ts ≡ together (one_if (g one)) (counted g r.1)
  firsts : (g : Test → Option EdgeKind) → g one ≡ None → first_of_all g ts ≡ first_of_all g r.1

taken_is : {A : Type 0} (found : Test → Option A) (ts : List Test) (r : A × List Test) → taken found ts ≡ Some r → Taken found ts r
taken_is found [] r e = absurd cc
taken_is {A} found (t ∷ ts) r e = by (found t) (taken found ts) refl refl (λ q k. taken_is found ts q k) e
  where
    here : (a : A) → found t ≡ Some a → Taken found (t ∷ ts) (a, ts)
    here a h = record {
      one = t;
      is = h;
      first = ap (λ o. option_or o (first_of_all found ts)) h;
      counts = λ g. refl;
      firsts = λ g k. ap (λ o. option_or o (first_of_all g ts)) k;
    }

    there : (q : A × List Test) → found t ≡ None → Taken found ts q → Taken found (t ∷ ts) (q.0, t ∷ q.1)
    there q h k = record {
      one = k.one;
      is = k.is;
      first = ap (λ o. option_or o (first_of_all found ts)) h ∙ k.first;
      counts = λ g. ap (together (one_if (g t))) (k.counts g) ∙ together_commutes (one_if (g t)) (one_if (g k.one)) (counted g q.1);
      firsts = λ g none. ap (option_or (g t)) (k.firsts g none);
    }

    by : (o : Option A) (p : Option (A × List Test)) → found t ≡ o → taken found ts ≡ p → ((q : A × List Test) → taken found ts ≡ Some q → Taken found ts q)
        → option_or (option_map (λ a. (a, ts)) o) (option_map (λ q. (q.0, t ∷ q.1)) p) ≡ Some r → Taken found (t ∷ ts) r
    by (Some a) p h k below e = subst (Taken found (t ∷ ts)) (some_is (a, ts) r e) (here a h)
    by None (Some q) h k below e = subst (Taken found (t ∷ ts)) (some_is (q.0, t ∷ q.1) r e) (there q h (below q k))
    by None None h k below e = absurd cc

untaken : {A : Type 0} (found : Test → Option A) (ts : List Test) → taken found ts ≡ None → first_of_all found ts ≡ None
untaken found [] e = refl
untaken {A} found (t ∷ ts) e = by (found t) (taken found ts) refl refl (untaken found ts) e
  where
    by : (o : Option A) (p : Option (A × List Test)) → found t ≡ o → taken found ts ≡ p → (taken found ts ≡ None → first_of_all found ts ≡ None)
        → option_or {T = A × List Test} (option_map (λ a. (a, ts)) o) (option_map (λ q. (q.0, t ∷ q.1)) p) ≡ None → option_or (found t) (first_of_all found ts) ≡ None
    by (Some a) p h k below e = absurd cc
    by None (Some q) h k below e = absurd cc
    by None None h k below e = ap (λ o. option_or o (first_of_all found ts)) h ∙ below k

-- ---- what is taken says what is beside

start_looks : (x s : Test) → start_of x ≡ Some s → looks_for_event x ≡ true
start_looks (u.edge kind p) s e = refl
start_looks (u.event p) s e = refl
start_looks _ s e = absurd cc

start_no_level : (p : SignalPart) (x s : Test) → start_of x ≡ Some s → level_kind (Some p) x ≡ None
start_no_level p (u.edge kind q) s e = refl
start_no_level p (u.event q) s e = refl
start_no_level p _ s e = absurd cc

level_looks : (p : SignalPart) (x : Test) (f : Edge) → level_of p x ≡ Some f → looks_for_event x ≡ false
level_looks p (u.alike at x y) f e = refl
level_looks p _ f e = absurd cc

pub level_edge : (p : SignalPart) (t : Test) (f : Edge) → level_of p t ≡ Some f → f ≡ edge f.kind p
level_edge p t f e = by (level t) e
  where
    kept : (b : Bool) (g : Edge) → then_some b (edge g.kind p) ≡ Some f → f ≡ edge f.kind p
    kept true g h = subst (λ (f : Edge). f ≡ edge f.kind p) (some_is (edge g.kind p) f h) refl
    kept false g h = absurd cc

    by : (o : Option Edge) → (o >>= λ g. then_some (same_place p g.place) (edge g.kind p)) ≡ Some f → f ≡ edge f.kind p
    by (Some g) h = kept (same_place p g.place) g h
    by None h = absurd cc

kinds_first : (p : SignalPart) (ts : List Test) → first_of_all (level_kind (Some p)) ts ≡ option_map (λ (e : Edge). e.kind) (first_of_all (level_of p) ts)
kinds_first p [] = refl
kinds_first p (t ∷ ts) = ap (option_or (level_kind (Some p) t)) (kinds_first p ts) ∙ by (level_of p t)
  where
    by : (o : Option Edge) → option_or (option_map (λ (e : Edge). e.kind) o) (option_map (λ (e : Edge). e.kind) (first_of_all (level_of p) ts)) ≡ option_map (λ (e : Edge). e.kind) (option_or o (first_of_all (level_of p) ts))
    by None = refl
    by (Some e) = refl

any_is : (ts : List Test) → list_any looks_for_event ts ≡ are_some (counted looks_for_event ts)
any_is [] = refl
any_is (t ∷ ts) = ap (λ b. looks_for_event t || b) (any_is ts) ∙ (by (looks_for_event t) ∙ sym (some_together (one_if (looks_for_event t)) (counted looks_for_event ts)))
  where
    by : (b : Bool) → (b || are_some (counted looks_for_event ts)) ≡ (are_some (one_if b) || are_some (counted looks_for_event ts))
    by true = refl
    by false = refl

one_more : (a : Many) → not (are_some a) ≡ is_one (together m.One a)
one_more m.None = refl
one_more m.One = refl
one_more m.Two = refl
one_more m.More = refl

all_beside : (ts : List Test) → none_beside ts ≡ not (are_some (counted (λ _. true) ts))
all_beside [] = refl
all_beside (t ∷ ts) = ap not (sym (some_together m.One (counted (λ _. true) ts)))

two_more : (a : Many) → not (are_some a) ≡ is_two (together m.One (together m.One a))
two_more m.None = refl
two_more m.One = refl
two_more m.Two = refl
two_more m.More = refl

-- ---- the edge among conditions

-- that of what is found, where no other looks for an event
found_is : (e : Edge) (rest : List Test) (events : Many) (alone : Bool) → events ≡ together m.One (counted looks_for_event rest) → none_beside rest ≡ alone
    → option_map gate_among (then_some (not (list_any looks_for_event rest)) (e, rest)) ≡ cond (is_one events) (Some (record { edge = e; is_alone = alone })) None
found_is e rest events alone h k =
    ap (λ b. option_map gate_among (then_some b (e, rest))) (ap not (any_is rest) ∙ (one_more (counted looks_for_event rest) ∙ sym (ap is_one h))) ∙ by (is_one events)
  where
    by : (b : Bool) → option_map gate_among (then_some b (e, rest)) ≡ cond b (Some (record { edge = e; is_alone = alone })) None
    by true = ap (λ a. Some (record { edge = e; is_alone = a })) k
    by false = refl

abbrev no_gate : Option GateView
no_gate = None

none_at_all : (b : Bool) → cond b no_gate no_gate ≡ no_gate
none_at_all true = refl
none_at_all false = refl

-- that which begins so
abbrev rest_of : Test × List Test → Option (Edge × List Test)
rest_of first = begun first.0 first.1 >>= λ found. then_some (not (list_any looks_for_event found.1)) found

module _ (t : Test) where
  abbrev all : SeenView
  all = seen None t

  call_is : (kind : EdgeKind) (p : SignalPart) (rest : List Test) → Taken start_of (conditions t) (u.edge kind p, rest)
      → option_map gate_among (rest_of (u.edge kind p, rest)) ≡ cond (is_one all.events) (look.begun t all (u.edge kind p)) None
  call_is kind p rest k =
      found_is (edge kind p) rest all.events (is_one all.conditions)
      (events_counted None t ∙ (k.counts looks_for_event ∙ ap (λ b. together (one_if b) (counted looks_for_event rest)) (start_looks k.one (u.edge kind p) k.is)))
      (all_beside rest ∙ (one_more (counted (λ _. true) rest) ∙ sym (ap is_one (conditions_are None t ∙ k.counts (λ _. true)))))

  level_is : (p : SignalPart) (rest : List Test) → Taken start_of (conditions t) (u.event p, rest) → (o : Option Edge) → first_of_all (level_of p) rest ≡ o
      → (seen (Some p) t).level ≡ option_map (λ (e : Edge). e.kind) o
  level_is p rest k o h =
      level_is_first p t ∙ (k.firsts (level_kind (Some p)) (start_no_level p k.one (u.event p) k.is) ∙ (kinds_first p rest ∙ ap (option_map (λ (e : Edge). e.kind)) h))

  event_is : (p : SignalPart) (rest : List Test) → Taken start_of (conditions t) (u.event p, rest)
      → option_map gate_among (rest_of (u.event p, rest)) ≡ cond (is_one all.events) (look.begun t all (u.event p)) None
  event_is p rest k = by (taken (level_of p) rest) refl
    where
      told : EdgeKind → GateView
      told kind = record { edge = edge kind p; is_alone = is_two all.conditions }

      found : (g : Edge × List Test) → Taken (level_of p) rest g
          → option_map gate_among (then_some (not (list_any looks_for_event g.1)) g) ≡ cond (is_one all.events) (option_map told (seen (Some p) t).level) None
      found g q =
          found_is g.0 g.1 all.events (is_two all.conditions)
          (events_counted None t ∙ (k.counts looks_for_event
          ∙ (ap (λ b. together (one_if b) (counted looks_for_event rest)) (start_looks k.one (u.event p) k.is)
          ∙ ap (together m.One) (q.counts looks_for_event ∙ ap (λ b. together (one_if b) (counted looks_for_event g.1)) (level_looks p q.one g.0 q.is)))))
          (all_beside g.1 ∙ (two_more (counted (λ _. true) g.1)
          ∙ sym (ap is_two (conditions_are None t ∙ (k.counts (λ _. true) ∙ ap (together m.One) (q.counts (λ _. true)))))))
          ∙ (ap (λ (e : Edge). cond (is_one all.events) (Some (record { edge = e; is_alone = is_two all.conditions })) None) (level_edge p q.one g.0 q.is)
          ∙ ap (λ o. cond (is_one all.events) (option_map told o) None) (sym (level_is p rest k (Some g.0) q.first)))

      by : (o : Option (Edge × List Test)) → taken (level_of p) rest ≡ o
          → option_map gate_among (o >>= λ found. then_some (not (list_any looks_for_event found.1)) found) ≡ cond (is_one all.events) (option_map told (seen (Some p) t).level) None
      by None h =
          sym (ap (λ o. cond (is_one all.events) (option_map told o) None) (level_is p rest k None (untaken (level_of p) rest h)) ∙ none_at_all (is_one all.events))
      by (Some g) h = found g (taken_is (level_of p) rest g h)

  begins : (s : Test) (rest : List Test) → Taken start_of (conditions t) (s, rest)
      → option_map gate_among (rest_of (s, rest)) ≡ cond (is_one all.events) (look.begun t all s) None
  begins (u.edge kind p) rest k = call_is kind p rest k
  begins (u.event p) rest k = event_is p rest k
  begins _ rest k = sym (none_at_all (is_one all.events))

  -- an edge, where one begins
  pub gate_is : (s : Test) → all.start ≡ Some s → option_map gate_among (gated (conditions t)) ≡ cond (is_one all.events) (look.begun t all s) None
  gate_is s h = by (taken start_of (conditions t)) refl
    where
      by : (o : Option (Test × List Test)) → taken start_of (conditions t) ≡ o
          → option_map gate_among (o >>= rest_of) ≡ cond (is_one all.events) (look.begun t all s) None
      by None e = absurd (let f : None ≡ Some s = sym (untaken start_of (conditions t) e) ∙ (sym (start_is_first None t) ∙ h) in cc)
      by (Some r) e =
          let k = taken_is start_of (conditions t) r e in
          begins r.0 r.1 k ∙ ap (λ s. cond (is_one all.events) (look.begun t all s) None) (some_is r.0 s (sym k.first ∙ (sym (start_is_first None t) ∙ h)))

  -- and where none does
  pub no_gate_is : all.start ≡ None → option_map gate_among (gated (conditions t)) ≡ None
  no_gate_is h = by (taken start_of (conditions t)) refl
    where
      by : (o : Option (Test × List Test)) → taken start_of (conditions t) ≡ o → option_map gate_among (o >>= rest_of) ≡ None
      by None e = refl
      by (Some r) e = absurd (let f : None ≡ Some r.0 = sym h ∙ (start_is_first None t ∙ (taken_is start_of (conditions t) r e).first) in cc)
