-- How many conditions there are, and what is first of them, is what is seen of a test.
use Rattle.std.proofs.Common.{◌≡◌, Bool, true, false, cond, ◌||◌, List, [], ◌∷◌, ◌++◌, Option, Some, None, refl, ap, sym, ◌∙◌}
use Rattle.std.specs.Option.{option_or}
use Rattle.vhdl_values.specs.declared.kinds.Logic.{Logic}
use Rattle.vhdl_values.specs.declared.kinds.Logic.TheVariants.{And}
use Rattle.vhdl_names_rules.specs.units.Expressions as u
use Rattle.vhdl_names_rules.specs.units.Expressions.{SignalPart, Test}
use Rattle.vhdl_names_rules.specs.Edges.{conditions, looks_for_event, start_of}
use Rattle.vhdl_names_registers.specs.declared.seen.Many.{Many}
use Rattle.vhdl_names_registers.specs.declared.seen.Many.TheVariants as m
use Rattle.vhdl_names_registers.specs.Looking as look
use Rattle.vhdl_names_registers.specs.Looking.{SeenView, seen, together, one_of, level_kind}

-- ---- of a list

abbrev pub first_of_all : {A : Type 0} → (Test → Option A) → List Test → Option A
first_of_all f [] = None
first_of_all f (t ∷ ts) = option_or (f t) (first_of_all f ts)

abbrev pub one_if : Bool → Many
one_if true = m.One
one_if false = m.None

abbrev pub counted : (Test → Bool) → List Test → Many
counted f [] = m.None
counted f (t ∷ ts) = together (one_if (f t)) (counted f ts)

pub together_none : (a : Many) → together a m.None ≡ a
together_none m.None = refl
together_none m.One = refl
together_none m.Two = refl
together_none m.More = refl

pub together_associates : (a b c : Many) → together a (together b c) ≡ together (together a b) c
together_associates m.None b c = refl
together_associates m.One m.None c = refl
together_associates m.One m.One m.None = refl
together_associates m.One m.One m.One = refl
together_associates m.One m.One m.Two = refl
together_associates m.One m.One m.More = refl
together_associates m.One m.Two m.None = refl
together_associates m.One m.Two _ = refl
together_associates m.One m.More m.None = refl
together_associates m.One m.More _ = refl
together_associates m.Two m.None c = refl
together_associates m.Two _ m.None = refl
together_associates m.Two m.One _ = refl
together_associates m.Two m.Two _ = refl
together_associates m.Two m.More _ = refl
together_associates m.More m.None c = refl
together_associates m.More _ m.None = refl
together_associates m.More _ _ = refl

-- ---- what is seen, of the list of conditions

counted_append : (f : Test → Bool) (xs ys : List Test) → counted f (xs ++ ys) ≡ together (counted f xs) (counted f ys)
counted_append f [] ys = refl
counted_append f (x ∷ xs) ys =
    ap (together (one_if (f x))) (counted_append f xs ys) ∙ together_associates (one_if (f x)) (counted f xs) (counted f ys)

first_append : {A : Type 0} (f : Test → Option A) (xs ys : List Test) → first_of_all f (xs ++ ys) ≡ option_or (first_of_all f xs) (first_of_all f ys)
first_append f [] ys = refl
first_append {A} f (x ∷ xs) ys = ap (option_or (f x)) (first_append f xs ys) ∙ either (f x)
  where
    either : (o : Option A) → option_or o (option_or (first_of_all f xs) (first_of_all f ys)) ≡ option_or (option_or o (first_of_all f xs)) (first_of_all f ys)
    either None = refl
    either (Some a) = refl

first_alone : {A : Type 0} (f : Test → Option A) (t : Test) → first_of_all f (t ∷ []) ≡ f t
first_alone {A} f t = by (f t)
  where
    by : (o : Option A) → option_or o None ≡ o
    by None = refl
    by (Some a) = refl

-- some of them
abbrev pub are_some : Many → Bool
are_some m.None = false
are_some _ = true

pub some_together : (a b : Many) → are_some (together a b) ≡ (are_some a || are_some b)
some_together m.None b = refl
some_together m.One m.None = refl
some_together m.One m.One = refl
some_together m.One _ = refl
some_together m.Two m.None = refl
some_together m.Two _ = refl
some_together m.More m.None = refl
some_together m.More _ = refl

some_one_of : (a : Many) → are_some (one_of a) ≡ are_some a
some_one_of m.None = refl
some_one_of _ = refl

one_of_some : (a : Many) → one_of a ≡ one_if (are_some a)
one_of_some m.None = refl
one_of_some _ = refl

-- joined by `and` or not, some look for an event where some do on either side
of_joined : (all : Many) (s : SeenView) → s.events ≡ all → (b : Bool) → are_some (cond b s (look.closed all)).events ≡ are_some all
of_joined all s e true = ap are_some e
of_joined all s e false = some_one_of all

pub events_are : (p : Option SignalPart) (t : Test) → are_some (seen p t).events ≡ looks_for_event t
events_are p (u.edge kind q) = refl
events_are p (u.event q) = refl
events_are p (u.Test.negated t) = some_one_of (seen p t).events ∙ events_are p t
events_are p (u.Test.both op t r) =
    of_joined (together (seen p t).events (seen p r).events) (record {
      conditions = together (seen p t).conditions (seen p r).conditions;
      events = together (seen p t).events (seen p r).events;
      start = option_or (seen p t).start (seen p r).start;
      level = option_or (seen p t).level (seen p r).level;
    }) refl (look.is_and op)
    ∙ (some_together (seen p t).events (seen p r).events
    ∙ (ap (λ b. b || are_some (seen p r).events) (events_are p t) ∙ ap (λ b. looks_for_event t || b) (events_are p r)))
events_are p _ = refl

-- ---- counts, and what is first, are those of the conditions

module _ (p : Option SignalPart) where
  conditions_of_both : (op : Logic) (t r : Test) → (seen p t).conditions ≡ counted (λ _. true) (conditions t) → (seen p r).conditions ≡ counted (λ _. true) (conditions r)
      → (seen p (u.Test.both op t r)).conditions ≡ counted (λ _. true) (conditions (u.Test.both op t r))
  conditions_of_both And t r h k =
      ap (λ a. together a (seen p r).conditions) h
      ∙ (ap (together (counted (λ _. true) (conditions t))) k ∙ sym (counted_append (λ _. true) (conditions t) (conditions r)))
  conditions_of_both _ t r h k = refl

  pub conditions_are : (t : Test) → (seen p t).conditions ≡ counted (λ _. true) (conditions t)
  conditions_are (u.Test.both op t r) = conditions_of_both op t r (conditions_are t) (conditions_are r)
  conditions_are _ = refl

  closed_events : (t r : Test) → one_of (together (seen p t).events (seen p r).events) ≡ together (one_if (looks_for_event t || looks_for_event r)) m.None
  closed_events t r =
      one_of_some (together (seen p t).events (seen p r).events)
      ∙ (ap one_if (some_together (seen p t).events (seen p r).events
      ∙ (ap (λ b. b || are_some (seen p r).events) (events_are p t) ∙ ap (λ b. looks_for_event t || b) (events_are p r)))
      ∙ sym (together_none (one_if (looks_for_event t || looks_for_event r))))

  events_of_both : (op : Logic) (t r : Test) → (seen p t).events ≡ counted looks_for_event (conditions t) → (seen p r).events ≡ counted looks_for_event (conditions r)
      → (seen p (u.Test.both op t r)).events ≡ counted looks_for_event (conditions (u.Test.both op t r))
  events_of_both And t r h k =
      ap (λ a. together a (seen p r).events) h
      ∙ (ap (together (counted looks_for_event (conditions t))) k ∙ sym (counted_append looks_for_event (conditions t) (conditions r)))
  events_of_both _ t r h k = closed_events t r

  pub events_counted : (t : Test) → (seen p t).events ≡ counted looks_for_event (conditions t)
  events_counted (u.Test.both op t r) = events_of_both op t r (events_counted t) (events_counted r)
  events_counted (u.Test.negated t) =
      one_of_some (seen p t).events ∙ (ap one_if (events_are p t) ∙ sym (together_none (one_if (looks_for_event t))))
  events_counted _ = refl

  start_of_both : (op : Logic) (t r : Test) → (seen p t).start ≡ first_of_all start_of (conditions t) → (seen p r).start ≡ first_of_all start_of (conditions r)
      → (seen p (u.Test.both op t r)).start ≡ first_of_all start_of (conditions (u.Test.both op t r))
  start_of_both And t r h k =
      ap (λ a. option_or a (seen p r).start) h
      ∙ (ap (option_or (first_of_all start_of (conditions t))) k ∙ sym (first_append start_of (conditions t) (conditions r)))
  start_of_both _ t r h k = refl

  pub start_is_first : (t : Test) → (seen p t).start ≡ first_of_all start_of (conditions t)
  start_is_first (u.Test.both op t r) = start_of_both op t r (start_is_first t) (start_is_first r)
  start_is_first _ = refl

level_of_both : (p : SignalPart) (op : Logic) (t r : Test) → (seen (Some p) t).level ≡ first_of_all (level_kind (Some p)) (conditions t) → (seen (Some p) r).level ≡ first_of_all (level_kind (Some p)) (conditions r)
    → (seen (Some p) (u.Test.both op t r)).level ≡ first_of_all (level_kind (Some p)) (conditions (u.Test.both op t r))
level_of_both p And t r h k =
    ap (λ a. option_or a (seen (Some p) r).level) h
    ∙ (ap (option_or (first_of_all (level_kind (Some p)) (conditions t))) k ∙ sym (first_append (level_kind (Some p)) (conditions t) (conditions r)))
level_of_both p _ t r h k = refl

pub level_is_first : (p : SignalPart) (t : Test) → (seen (Some p) t).level ≡ first_of_all (level_kind (Some p)) (conditions t)
level_is_first p (u.Test.both op t r) = level_of_both p op t r (level_is_first p t) (level_is_first p r)
level_is_first p (u.edge kind q) = refl
level_is_first p (u.event q) = refl
level_is_first p (u.Test.negated t) = refl
level_is_first p t = sym (first_alone (level_kind (Some p)) t)
