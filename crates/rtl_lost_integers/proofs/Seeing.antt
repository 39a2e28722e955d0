-- What is seen of integers while values stand one after another.
use Rattle.std.proofs.Common.{◌≡◌, ℕ, Bool, true, false, List, [], ◌∷◌, ◌++◌, Option, Some, None, map, refl, ap, sym, subst, ◌∙◌}
use Rattle.std.specs.Option.{is_some, option_or}
use Rattle.byte_streams.specs.Stands.{Stand}
use Rattle.rtl_lost_integers.specs.declared.integer.Integer.{Integer}
use Rattle.rtl_lost_integers.specs.declared.watching.Integers.{Integers}
use Rattle.rtl_lost_integers.specs.declared.watching.LostInteger.{LostInteger}
use Rattle.rtl_lost_integers.specs.Lost.{IntegerView, is_number, first_of, lost_at, lost_behind, first_lost}
use Rattle.rtl_lost_integers.specs.Watching.{HasSeen, IsSince, first_now, integer_view, integers_view, last_of, seen, was_number}

-- ---- the next values

-- what is lost where these values stand behind those that stood last
abbrev pub next_lost : List IntegerView → (last : Option Stand) → Stand → Option LostInteger
next_lost is None x = None
next_lost is (Some b) x = lost_at b.until (first_of b.values x.values is)

or_none : {A : Type 0} (o : Option A) → option_or o None ≡ o
or_none None = refl
or_none (Some x) = refl

or_assoc : {A : Type 0} (o p q : Option A) → option_or o (option_or p q) ≡ option_or (option_or o p) q
or_assoc None p q = refl
or_assoc (Some x) p q = refl

lost_snoc : (is : List IntegerView) (stands : List Stand) (x : Stand) → first_lost is (stands ++ x ∷ []) ≡ option_or (first_lost is stands) (next_lost is (last_of stands) x)
lost_snoc is [] x = refl
lost_snoc is (y ∷ []) x = or_none (lost_at y.until (first_of y.values x.values is))
lost_snoc is (y ∷ z ∷ stands) x =
    let a = lost_at y.until (first_of y.values z.values is) in
    ap (option_or a) (lost_snoc is (z ∷ stands) x) ∙ or_assoc a (lost_behind is z stands) (next_lost is (last_of (z ∷ stands)) x)

last_snoc : (stands : List Stand) (x : Stand) → last_of (stands ++ x ∷ []) ≡ Some x
last_snoc [] x = refl
last_snoc (y ∷ []) x = refl
last_snoc (y ∷ z ∷ stands) x = last_snoc (z ∷ stands) x

-- ---- a look

same_seen : (values : List ℕ) (is : List Integer) → integers_view (map (seen values) is) ≡ integers_view is
same_seen values [] = refl
same_seen values (i ∷ is) = ap (λ (vs : List IntegerView). integer_view i ∷ vs) (same_seen values is)

flags_seen : (x : Stand) (is : List Integer) → map (λ (i : Integer). i.was_number) (map (seen x.values) is) ≡ map (was_number (Some x)) (integers_view is)
flags_seen x [] = refl
flags_seen x (i ∷ is) = ap (λ (bs : List Bool). is_number x.values i.nets.items ∷ bs) (flags_seen x is)

first_unseen : (values : List ℕ) (is : List Integer) → map (λ (i : Integer). i.was_number) is ≡ map (was_number None) (integers_view is) → first_now values is ≡ None
first_unseen values [] were = refl
first_unseen values (i ∷ is) were =
    let head : i.was_number ≡ false = cc in
    let tail : map (λ (i : Integer). i.was_number) is ≡ map (was_number None) (integers_view is) = cc in
    rw head (first_unseen values is tail)

first_seen : (b : Stand) (values : List ℕ) (is : List Integer) → map (λ (i : Integer). i.was_number) is ≡ map (was_number (Some b)) (integers_view is)
    → first_now values is ≡ first_of b.values values (integers_view is)
first_seen b values [] were = refl
first_seen b values (i ∷ is) were =
    let head : i.was_number ≡ is_number b.values i.nets.items = cc in
    let tail : map (λ (i : Integer). i.was_number) is ≡ map (was_number (Some b)) (integers_view is) = cc in
    rw (head, first_seen b values is tail) refl

look_finds : (last : Option Stand) (x : Stand) (is : List Integer) (since : ℕ) → map (λ (i : Integer). i.was_number) is ≡ map (was_number last) (integers_view is) → IsSince last since
    → lost_at since (first_now x.values is) ≡ next_lost (integers_view is) last x
look_finds None x is since were at = ap (lost_at since) (first_unseen x.values is were)
look_finds (Some b) x is since were at = ap (lost_at since) (first_seen b x.values is were) ∙ ap (λ (t : ℕ). lost_at t (first_of b.values x.values (integers_view is))) at

module _ (is : List IntegerView) (stands : List Stand) (x : Stand) (w new : Integers) (H : HasSeen is stands w) where
  -- nothing was lost so far
  pub sees_more : w.lost ≡ None → new.integers.items ≡ map (seen x.values) w.integers.items → new.since ≡ x.until
      → new.lost ≡ lost_at w.since (first_now x.values w.integers.items) → HasSeen is (stands ++ x ∷ []) new
  sees_more none items since lost = record {
    same = ap integers_view items ∙ same_seen x.values w.integers.items ∙ H.same;
    lost =
        lost ∙ look_finds (last_of stands) x w.integers.items w.since (were ∙ ap (map (was_number (last_of stands))) (sym H.same)) (H.last none).since
        ∙ ap (λ (vs : List IntegerView). next_lost vs (last_of stands) x) H.same
        ∙ sym (lost_snoc is stands x ∙ ap (λ (o : Option LostInteger). option_or o (next_lost is (last_of stands) x)) (sym H.lost ∙ none));
    last = λ still. record {
      were =
          ap (map (λ (i : Integer). i.was_number)) items ∙ flags_seen x w.integers.items ∙ ap (map (was_number (Some x))) H.same
          ∙ ap (λ (l : Option Stand). map (was_number l) is) (sym (last_snoc stands x));
      since = subst (λ (l : Option Stand). IsSince l new.since) (sym (last_snoc stands x)) since;
    };
  }
    where
      were : map (λ (i : Integer). i.was_number) w.integers.items ≡ map (was_number (last_of stands)) is
      were = (H.last none).were

  kept : (l : LostInteger) → w.lost ≡ Some l → HasSeen is (stands ++ x ∷ []) w
  kept l some = record {
    same = H.same;
    lost = some ∙ sym (lost_snoc is stands x ∙ ap (λ (o : Option LostInteger). option_or o (next_lost is (last_of stands) x)) (sym H.lost ∙ some));
    last = λ none. absurd (cc);
  }

  -- something was, and is kept
  pub sees_no_more : is_some w.lost ≡ true → HasSeen is (stands ++ x ∷ []) w
  sees_no_more some = by w.lost refl some
    where
      by : (o : Option LostInteger) → w.lost ≡ o → is_some o ≡ true → HasSeen is (stands ++ x ∷ []) w
      by None is some = absurd (cc)
      by (Some l) is some = kept l is

pub nothing_lost : (o : Option LostInteger) → is_some o ≡ false → o ≡ None
nothing_lost None is = refl
nothing_lost (Some l) is = absurd (cc)
