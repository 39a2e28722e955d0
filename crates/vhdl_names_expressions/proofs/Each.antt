-- Lists of what each of several things gives, one by one.
use Rattle.std.proofs.Common.{◌≡◌, ℕ, suc, ◌≤◌, ◌<◌, List, [], ◌∷◌, ◌++◌, map, length, drop, get_or, drop-cons, Option, Some, None, append_assoc, append-nil, refl, sym, ap, ◌∙◌}
use Rattle.std.proofs.lemmas.List.{drop_all}
use Rattle.vhdl_names_rules.specs.Rules.{◌>>=◌, each}

-- what stands before others
abbrev pub behind : {B : Type 0} → List B → Option (List B) → Option (List B)
behind ys None = None
behind ys (Some zs) = Some (ys ++ zs)

pub none_behind : {B : Type 0} (o : Option (List B)) → o ≡ behind [] o
none_behind None = refl
none_behind (Some zs) = refl

abbrev taken : {B : Type 0} → Option B → Option (List B) → Option (List B)
taken o p = o >>= λ y. (p >>= λ ys. Some (y ∷ ys))

each_step : {C A B : Type 0} (f : A → Option B) (g : C → A) (whole : Option (List B)) (ys : List B) (cs : List C) (i : ℕ) (x : C) →
    whole ≡ behind ys (each f (map g (drop i cs))) → i < length cs → x ≡ get_or cs i x →
    whole ≡ behind ys (taken (f (g x)) (each f (map g (drop (suc i) cs))))
each_step f g whole ys cs i x h lt is =
    h ∙ ap (λ l. behind ys (each f (map g l))) (drop-cons cs i x lt)
    ∙ ap (λ z. behind ys (taken (f (g z)) (each f (map g (drop (suc i) cs))))) (sym is)

pub each_fails : {C A B : Type 0} (f : A → Option B) (g : C → A) (whole : Option (List B)) (ys : List B) (cs : List C) (i : ℕ) (x : C) →
    whole ≡ behind ys (each f (map g (drop i cs))) → i < length cs → x ≡ get_or cs i x → f (g x) ≡ None → whole ≡ None
each_fails f g whole ys cs i x h lt is n =
    each_step f g whole ys cs i x h lt is ∙ ap (λ o. behind ys (taken o (each f (map g (drop (suc i) cs))))) n

pub each_goes : {C A B : Type 0} (f : A → Option B) (g : C → A) (whole : Option (List B)) (ys : List B) (cs : List C) (i : ℕ) (x : C) (y : B) →
    whole ≡ behind ys (each f (map g (drop i cs))) → i < length cs → x ≡ get_or cs i x → f (g x) ≡ Some y →
    whole ≡ behind (ys ++ y ∷ []) (each f (map g (drop (suc i) cs)))
each_goes {B = B} f g whole ys cs i x y h lt is n =
    each_step f g whole ys cs i x h lt is ∙ ap (λ o. behind ys (taken o (each f (map g (drop (suc i) cs))))) n
    ∙ go (each f (map g (drop (suc i) cs)))
  where
    go : (o : Option (List B)) → behind ys (taken (Some y) o) ≡ behind (ys ++ y ∷ []) o
    go None = refl
    go (Some zs) = ap Some (sym (append_assoc ys (y ∷ []) zs))

pub each_ends : {C A B : Type 0} (f : A → Option B) (g : C → A) (whole : Option (List B)) (ys : List B) (cs : List C) (i : ℕ) →
    whole ≡ behind ys (each f (map g (drop i cs))) → length cs ≤ i → whole ≡ Some ys
each_ends f g whole ys cs i h le = h ∙ ap (λ l. behind ys (each f (map g l))) (drop_all i cs le) ∙ ap Some (append-nil ys)
