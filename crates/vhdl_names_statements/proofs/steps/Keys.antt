-- What tells choices apart tells apart those that are not the same.
use Rattle.std.proofs.Common.{◌≡◌, Bool, true, false, not, List, [], ◌∷◌, ◌++◌, map, Option, Some, None, refl, ap, sym, ◌∙◌}
use Rattle.std.specs.Prelude.{◌&&◌, ◌||◌, bytes_eq, nat_eq}
use Rattle.std.specs.List.{list_any}
use Rattle.std.proofs.lemmas.List.{append-nil}
use Rattle.vhdl_values.specs.declared.scalar.Nine.{Nine}
use Rattle.vhdl_values.specs.declared.scalar.Nine.TheVariants.{U}
use Rattle.vhdl_values.specs.Scalar.{code_of}
use Rattle.vhdl_names_rules.specs.units.Expressions.{Index}
use Rattle.vhdl_names_rules.specs.units.Statements.{Choice, values, position, numbers}
use Rattle.vhdl_names_rules.specs.Rules.{◌>>=◌, then_some}
use Rattle.vhdl_names_rules.specs.Visibility.{Name, is_among, are_distinct}
use Rattle.vhdl_names_rules.specs.Choices.{same_choice, are_distinct_choices}
use Rattle.vhdl_names_units.specs.Lists.{in_turn}
use Rattle.vhdl_names_units.specs.Once.{one_name}
use Rattle.vhdl_names_statements.specs.steps.Keys.{key_of, keys_of, is_taken, one_choice}

-- ---- the same key

not_nine : (v : Nine) → nat_eq (code_of v) 9 ≡ false
not_nine U = refl
not_nine _ = refl

nine_not : (v : Nine) → nat_eq 9 (code_of v) ≡ false
nine_not U = refl
nine_not _ = refl

abbrev same_name : Option Name → Option Name → Bool
same_name (Some k) (Some j) = bytes_eq k j
same_name _ _ = false

same_key : (c d : Choice) → same_name (key_of c) (key_of d) ≡ same_choice c d
same_key (values vs) (values ws) = refl
same_key (values []) (position p) = refl
same_key (values (v ∷ vs)) (position p) = ap (λ b. b && bytes_eq (map code_of vs) (p ∷ [])) (not_nine v)
same_key (values vs) (numbers i) = refl
same_key (position p) (values []) = refl
same_key (position p) (values (v ∷ vs)) = ap (λ b. b && bytes_eq (p ∷ []) (map code_of vs)) (nine_not v)
same_key (position p) (position q) = and_true (nat_eq p q)
  where
    and_true : (b : Bool) → (b && true) ≡ b
    and_true true = refl
    and_true false = refl
same_key (position p) (numbers i) = refl
same_key (numbers i) d = refl

-- ---- among others

-- integers are the same as no others
none_same : (i : Index) (cs : List Choice) → false ≡ list_any (same_choice (numbers i)) cs
none_same i [] = refl
none_same i (d ∷ cs) = none_same i cs

among : (k : Name) (c : Choice) → key_of c ≡ Some k → (cs : List Choice) → is_among k (keys_of cs) ≡ list_any (same_choice c) cs
among k c is [] = refl
among k c is (values vs ∷ cs) =
    ap (λ b. b || is_among k (keys_of cs)) (ap (λ o. same_name o (Some (map code_of vs))) (sym is) ∙ same_key c (values vs)) ∙ ap (λ b. same_choice c (values vs) || b) (among k c is cs)
among k c is (position p ∷ cs) =
    ap (λ b. b || is_among k (keys_of cs)) (ap (λ o. same_name o (Some (9 ∷ p ∷ []))) (sym is) ∙ same_key c (position p)) ∙ ap (λ b. same_choice c (position p) || b) (among k c is cs)
among k c is (numbers i ∷ cs) =
    among k c is cs ∙ ap (λ b. b || list_any (same_choice c) cs) (ap (λ o. same_name o None) (sym is) ∙ same_key c (numbers i))

pub among_keys : (c : Choice) (cs : List Choice) → is_taken (keys_of cs) c ≡ list_any (same_choice c) cs
among_keys (values vs) cs = among (map code_of vs) (values vs) refl cs
among_keys (position p) cs = among (9 ∷ p ∷ []) (position p) refl cs
among_keys (numbers i) cs = none_same i cs

pub distinct_keys : (cs : List Choice) → are_distinct (keys_of cs) ≡ are_distinct_choices cs
distinct_keys [] = refl
distinct_keys (values vs ∷ cs) =
    ap (λ b. not b && are_distinct (keys_of cs)) (among_keys (values vs) cs) ∙ ap (λ b. not (list_any (same_choice (values vs)) cs) && b) (distinct_keys cs)
distinct_keys (position p ∷ cs) =
    ap (λ b. not b && are_distinct (keys_of cs)) (among_keys (position p) cs) ∙ ap (λ b. not (list_any (same_choice (position p)) cs) && b) (distinct_keys cs)
distinct_keys (numbers i ∷ cs) = distinct_keys cs ∙ ap (λ b. not b && are_distinct_choices cs) (none_same i cs)

-- ---- one more

-- what is there isn't lacking
pub there : {A : Type 0} (b : Bool) (x y : A) → then_some b x ≡ Some y → (b ≡ true) × (x ≡ y)
there true x y e = (refl, cc)
there false x y e = cc

lacks : {A : Type 0} (b : Bool) (x : A) → then_some b x ≡ None → b ≡ false
lacks true x e = cc
lacks false x e = refl

pub no_key : (keys : List Name) (c : Choice) → None ≡ key_of c → one_choice keys c ≡ Some keys
no_key keys (numbers i) h = refl
no_key keys c h = absurd cc

pub with_key : (keys : List Name) (c : Choice) (k : Name) → Some k ≡ key_of c → one_choice keys c ≡ one_name keys k
with_key keys (values vs) k h = let same : map code_of vs ≡ k = cc in ap (one_name keys) same
with_key keys (position p) k h = let same : 9 ∷ p ∷ [] ≡ k = cc in ap (one_name keys) same
with_key keys (numbers i) k h = absurd cc

pub not_free : (keys : List Name) (c : Choice) → one_choice keys c ≡ None → not (is_taken keys c) ≡ false
not_free keys (values vs) h = lacks (not (is_among (map code_of vs) keys)) (keys ++ map code_of vs ∷ []) h
not_free keys (position p) h = lacks (not (is_among (9 ∷ p ∷ []) keys)) (keys ++ (9 ∷ p ∷ []) ∷ []) h
not_free keys (numbers i) h = absurd cc

pub is_free : (keys new : List Name) (c : Choice) → one_choice keys c ≡ Some new → not (is_taken keys c) ≡ true
is_free keys new (values vs) h = (there (not (is_among (map code_of vs) keys)) (keys ++ map code_of vs ∷ []) new h).0
is_free keys new (position p) h = (there (not (is_among (9 ∷ p ∷ []) keys)) (keys ++ (9 ∷ p ∷ []) ∷ []) new h).0
is_free keys new (numbers i) h = refl

pub is_added : (keys new : List Name) (c : Choice) → one_choice keys c ≡ Some new → keys ++ keys_of (c ∷ []) ≡ new
is_added keys new (values vs) h = (there (not (is_among (map code_of vs) keys)) (keys ++ map code_of vs ∷ []) new h).1
is_added keys new (position p) h = (there (not (is_among (9 ∷ p ∷ []) keys)) (keys ++ (9 ∷ p ∷ []) ∷ []) new h).1
is_added keys new (numbers i) h = let same : keys ≡ new = cc in append-nil keys ∙ same

pub taken_in_turn : (keys : List Name) (c : Choice) → not (is_taken keys c) ≡ true → in_turn one_name keys (keys_of (c ∷ [])) ≡ Some (keys ++ keys_of (c ∷ []))
taken_in_turn keys (values vs) free = ap (λ b. then_some b (keys ++ map code_of vs ∷ []) >>= λ z. Some z) free
taken_in_turn keys (position p) free = ap (λ b. then_some b (keys ++ (9 ∷ p ∷ []) ∷ []) >>= λ z. Some z) free
taken_in_turn keys (numbers i) free = ap Some (sym (append-nil keys))
