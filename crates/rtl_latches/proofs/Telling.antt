-- What parts do to a net, put together.
use Rattle.std.proofs.Common.{◌≡◌, ℕ, ◌+◌, ◌<◌, ◌==◌, Bool, true, false, not, ◌&&◌, ◌||◌, List, [], ◌∷◌, ◌++◌, length, get_or, take, map, All, Option, Some, None, refl, sym, ap, ◌∙◌, ◌⊎◌, inl, inr}
use Rattle.std.specs.Option.{option_or}
use Rattle.std.specs.Prelude.{is_some, unwrap_or, if◌then◌else◌}
use Rattle.std.specs.List.{list_any}
use Rattle.std.proofs.lemmas.Bool.{cases_eq, eq-eqb, ne_eqb}
use Rattle.std.specs.List.Sorted.{IsStrictlyIncreasing}
use Rattle.std.proofs.lemmas.List.{take_more}
use Rattle.std.proofs.lemmas.List.Elements.{All-same, All-push}
use Rattle.rtl_body_facts.specs.Reading.{is_in}
use Rattle.rtl_body_facts.proofs.Anys.{or_assoc, or_none, and_not}
use Rattle.rtl_body_facts.proofs.Members.{in_append}
use Rattle.rtl_latches.specs.declared.omission.Omission.{Omission}
use Rattle.rtl_latches.specs.declared.parts.Left.{Left}
use Rattle.rtl_latches.specs.declared.parts.Part.{Part}
use Rattle.rtl_latches.specs.Parts.{Told, left_at, has_left, told, nothing, both, only_must, only_left, where_so, is_touched, rest_told}

abbrev pub as_told : Bool → Option Omission → Told
as_told must left = record { must = must; left = left }

pub told-same : (a b : Bool) (v w : Option Omission) → a ≡ b → v ≡ w
    → as_told (a) (v) ≡ as_told (b) (w)
told-same a b v w e f = λ i. record { must = e i; left = f i }

-- ---- first

pub first-none : (a : Option Omission) → option_or a None ≡ a
first-none None = refl
first-none (Some x) = refl

pub first-assoc : (a b d : Option Omission) → option_or (option_or a b) d ≡ option_or a (option_or b d)
first-assoc None b d = refl
first-assoc (Some x) b d = refl

pub both-nothing : (a : Told) → both a nothing ≡ a
both-nothing a = told-same (a.must || false) a.must (option_or a.left None) a.left (sym (or_none a.must)) (first-none a.left)

pub both-assoc : (a b d : Told) → both (both a b) d ≡ both a (both b d)
both-assoc a b d = told-same _ _ _ _ (or_assoc a.must b.must d.must) (first-assoc a.left b.left d.left)

-- ---- lists of what is left out, one further

left-append : (n : ℕ) (ls : List Left) (l : Left) → left_at n (ls ++ l ∷ []) ≡ option_or (left_at n ls) (where_so (l.net == n) (Some l.omission))
left-append n [] l = refl
left-append n (k ∷ ks) l = go (k.net == n) (left-append n ks l)
  where
    go : (b : Bool) → left_at n (ks ++ l ∷ []) ≡ option_or (left_at n ks) (where_so (l.net == n) (Some l.omission))
        → (if b then Some k.omission else left_at n (ks ++ l ∷ [])) ≡ option_or (if b then Some k.omission else left_at n ks) (where_so (l.net == n) (Some l.omission))
    go true e = refl
    go false e = e

pub left-push : (n : ℕ) (ls new : List Left) (l : Left) → new ≡ ls ++ l ∷ [] → left_at n new ≡ option_or (left_at n ls) (where_so (l.net == n) (Some l.omission))
left-push n ls new l is = ap (left_at n) is ∙ left-append n ls l

pub left-more : (n : ℕ) (ls : List Left) (i : ℕ) (l : Left) → i < length ls → l ≡ get_or ls i l
    → left_at n (take (i + 1) ls) ≡ option_or (left_at n (take i ls)) (where_so (l.net == n) (Some l.omission))
left-more n ls i l k at = left-push n (take i ls) (take (i + 1) ls) l (take_more ls i l k ∙ ap (λ (m : Left). take i ls ++ m ∷ []) (sym at))

-- one more place is kept, of a net that has none yet
pub placed : (n : ℕ) (l : Left) (old new before after : Option Omission) → old ≡ before → after ≡ option_or before (where_so (l.net == n) (Some l.omission))
    → (l.net ≡ n → new ≡ Some (unwrap_or old l.omission)) → ((l.net ≡ n → ⊥) → new ≡ old) → new ≡ after
placed n l old new before after same more here there = go (cases_eq l.net n)
  where
    kept : (v : Option Omission) → Some (unwrap_or v l.omission) ≡ option_or v (Some l.omission)
    kept None = refl
    kept (Some a) = refl

    go : (l.net ≡ n) ⊎ (l.net ≡ n → ⊥) → new ≡ after
    go (inl e) = here e ∙ (kept old ∙ ((λ i. option_or (same i) (where_so (sym (eq-eqb l.net n e) i) (Some l.omission))) ∙ sym more))
    go (inr d) = there d ∙ (same ∙ (sym (first-none before) ∙ (ap (λ (b : Bool). option_or before (where_so b (Some l.omission))) (sym (ne_eqb l.net n d)) ∙ sym more)))

pub has-left : (n : ℕ) (ls : List Left) → has_left n ls ≡ is_some (left_at n ls)
has-left n [] = refl
has-left n (l ∷ ls) = go (l.net == n) (has-left n ls)
  where
    go : (b : Bool) → has_left n ls ≡ is_some (left_at n ls) → (b || has_left n ls) ≡ is_some (if b then Some l.omission else left_at n ls)
    go true e = refl
    go false e = e

-- ---- one place for several nets

so-more : (b d : Bool) (s : Option Omission) → option_or (where_so b s) (where_so d s) ≡ where_so (b || d) s
so-more true d None = go d
  where
    go : (d : Bool) → where_so d None ≡ None
    go true = refl
    go false = refl
so-more true d (Some x) = refl
so-more false d s = refl

-- one more net is left out
pub leave-more : (n x : ℕ) (omission : Omission) (a p q : Told) (so all : Bool) → q ≡ both p (only_left (where_so (x == n) (Some omission)))
    → p ≡ both a (only_left (where_so so (Some omission))) → all ≡ (so || (x == n)) → q ≡ both a (only_left (where_so all (Some omission)))
leave-more n x omission a p q so all e inv more =
    e ∙ (ap (λ (t : Told). both t (only_left (where_so (x == n) (Some omission)))) inv
    ∙ (both-assoc a (only_left (where_so so (Some omission))) (only_left (where_so (x == n) (Some omission)))
    ∙ ap (λ (v : Option Omission). both a (only_left v)) (so-more so (x == n) (Some omission) ∙ ap (λ (b : Bool). where_so b (Some omission)) (sym more))))

-- ---- of a part, those places that count

so-listed : (so : Bool) (v w : Option Omission) → option_or (where_so so v) (where_so so w) ≡ where_so so (option_or v w)
so-listed true v w = refl
so-listed false v w = refl

so-none : (so : Bool) → where_so so None ≡ None
so-none true = refl
so-none false = refl

pub inner-more : (n : ℕ) (l : Left) (a p q : Told) (so : ℕ → Bool) (here : Bool) (before after : Option Omission) → here ≡ so l.net
    → q ≡ both p (only_left (where_so (here && (l.net == n)) (Some l.omission))) → p ≡ both a (only_left (where_so (so n) before))
    → after ≡ option_or before (where_so (l.net == n) (Some l.omission)) → q ≡ both a (only_left (where_so (so n) after))
inner-more n l a p q so here before after is e inv more =
    e ∙ (ap (λ (t : Told). both t (only_left (where_so (here && (l.net == n)) (Some l.omission)))) inv
    ∙ (both-assoc a (only_left (where_so (so n) before)) (only_left (where_so (here && (l.net == n)) (Some l.omission)))
    ∙ ap (λ (v : Option Omission). both a (only_left v)) (go (cases_eq l.net n) ∙ ap (where_so (so n)) (sym more))))
  where
    at : (b d : Bool) → b ≡ d → option_or (where_so d before) (where_so (b && true) (Some l.omission)) ≡ where_so d (option_or before (Some l.omission))
    at true true k = refl
    at true false k = absurd cc
    at false true k = absurd cc
    at false false k = refl

    go : (l.net ≡ n) ⊎ (l.net ≡ n → ⊥)
        → option_or (where_so (so n) before) (where_so (here && (l.net == n)) (Some l.omission)) ≡ where_so (so n) (option_or before (where_so (l.net == n) (Some l.omission)))
    go (inl same) =
        let k = eq-eqb l.net n same in
        ap (λ (b : Bool). option_or (where_so (so n) before) (where_so (here && b) (Some l.omission))) k
        ∙ (at here (so n) (is ∙ ap so same) ∙ ap (λ (b : Bool). where_so (so n) (option_or before (where_so b (Some l.omission)))) (sym k))
    go (inr other) =
        let k = ne_eqb l.net n other in
        ap (λ (b : Bool). option_or (where_so (so n) before) (where_so (here && b) (Some l.omission))) k
        ∙ (ap (λ (b : Bool). option_or (where_so (so n) before) (where_so b (Some l.omission))) (sym (and_not here))
        ∙ (ap (option_or (where_so (so n) before)) (sym (so-none (so n))) ∙ so-listed (so n) before None ∙ ap (λ (b : Bool). where_so (so n) (option_or before (where_so b (Some l.omission)))) (sym k)))

pub inner-none : (a : Told) (so : Bool) → a ≡ both a (only_left (where_so so None))
inner-none a so = sym (ap (λ (v : Option Omission). both a (only_left v)) (so-none so) ∙ both-nothing a)

-- what a part leaves out, and then the part itself
pub inner-chosen : (a b d : Told) (so without : Bool) (w : Option Omission) (itself : Omission) → b ≡ both a (only_left (where_so so w))
    → d ≡ both b (only_left (where_so without (Some itself))) → without ≡ so → d ≡ both a (only_left (where_so so (option_or w (Some itself))))
inner-chosen a b d so without w itself e f same =
    f ∙ (ap (λ (t : Told). both t (only_left (where_so without (Some itself)))) e
    ∙ (both-assoc a (only_left (where_so so w)) (only_left (where_so without (Some itself)))
    ∙ ap (λ (v : Option Omission). both a (only_left v)) (ap (λ (c : Bool). option_or (where_so so w) (where_so c (Some itself))) same ∙ so-listed so w (Some itself))))

-- ---- one part of several

pub rest-goes : (itself : ℕ → Omission) (number : ℕ) (so now : Bool) (a b t : Told) (ts : List Told) → now ≡ (so && t.must)
    → b ≡ both a (only_left (where_so (so && not t.must) (option_or t.left (Some (itself number)))))
    → both b (rest_told itself (number + 1) now ts) ≡ both a (rest_told itself number so (t ∷ ts))
rest-goes itself number so now a b t ts e f =
    (λ i. both (f i) (rest_told itself (number + 1) (e i) ts))
    ∙ (both-assoc a (only_left (where_so (so && not t.must) (option_or t.left (Some (itself number))))) (rest_told itself (number + 1) (so && t.must) ts)
    ∙ ap (both a) (go so t.must))
  where
    go : (so m : Bool) → both (only_left (where_so (so && not m) (option_or t.left (Some (itself number))))) (rest_told itself (number + 1) (so && m) ts)
        ≡ rest_told itself number so (as_told (m) (t.left) ∷ ts)
    go true true = refl
    go true false = told-same _ _ _ _ refl (first-none (option_or t.left (Some (itself number))))
    go false m = refl

pub rest-ends : (itself : ℕ → Omission) (number : ℕ) (so here : Bool) (a p q : Told) (ts : List Told) → ts ≡ [] → here ≡ so → q ≡ both p (only_must here)
    → both p (rest_told itself number so ts) ≡ a → q ≡ a
rest-ends itself number so here a p q ts none is e inv =
    e ∙ (ap (λ (b : Bool). both p (only_must b)) is ∙ (ap (both p) (ends so) ∙ (ap (λ (us : List Told). both p (rest_told itself number so us)) (sym none) ∙ inv)))
  where
    ends : (so : Bool) → only_must so ≡ rest_told itself number so []
    ends true = refl
    ends false = refl

-- ---- lists of nets

pub touched-chain : (n : ℕ) (old mid new added : List ℕ) (lefts : List Left) (p : Part) → mid ≡ old ++ added → added ≡ p.assigned.items
    → is_in n new ≡ (is_in n mid || has_left n lefts) → lefts ≡ p.left.items → is_in n new ≡ (is_in n old || is_touched (told n p))
touched-chain n old mid new added lefts p is held more places =
    more ∙ ((λ i. is_in n (is i) || has_left n (places i))
    ∙ (ap (λ (b : Bool). b || has_left n p.left.items) (in_append n old added ∙ ap (λ (xs : List ℕ). is_in n old || is_in n xs) held)
    ∙ (or_assoc (is_in n old) (is_in n p.assigned.items) (has_left n p.left.items)
    ∙ ap (λ (b : Bool). is_in n old || (is_in n p.assigned.items || b)) (has-left n p.left.items))))

pub in-push : (n : ℕ) (old new : List ℕ) (x : ℕ) → new ≡ old ++ x ∷ [] → is_in n new ≡ (is_in n old || (x == n))
in-push n old new x is = ap (is_in n) is ∙ (in_append n old (x ∷ []) ∙ ap (λ (b : Bool). is_in n old || b) (sym (or_none (x == n))))

pub any-map : {X : Type 0} (g : Told → Bool) (f : X → Told) (xs : List X) → list_any (λ x. g (f x)) xs ≡ list_any g (map f xs)
any-map g f [] = refl
any-map g f (x ∷ xs) = ap (λ (b : Bool). g (f x) || b) (any-map g f xs)

-- one more part
pub rises-last : (ps new shown : List Part) (p : Part) → new ≡ ps ++ p ∷ [] → shown ≡ new → All (λ (q : Part). IsStrictlyIncreasing q.assigned.items) ps
    → IsStrictlyIncreasing p.assigned.items → All (λ (q : Part). IsStrictlyIncreasing q.assigned.items) shown
rises-last ps new shown p is same all one =
    All-same (λ (q : Part). IsStrictlyIncreasing q.assigned.items) shown (ps ++ p ∷ []) (same ∙ is) (All-push (λ (q : Part). IsStrictlyIncreasing q.assigned.items) ps p all one)
