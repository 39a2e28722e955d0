-- Lists whose elements come one after another.
use Rattle.std.proofs.Common.{◌≡◌, List, [], ◌∷◌, ◌++◌, Option, Some, None, refl, ap, sym, ◌∙◌}
use Rattle.std.specs.Prelude.{option_map}
use Rattle.std.proofs.lemmas.List.{append-nil, append_assoc}
use Rattle.std.specs.Prelude.{Result, Ok, Err}
use Rattle.vhdl_names_rules.specs.declared.fault.NameFault.{NameFault}
use Rattle.vhdl_names_rules.specs.Gives.{Gives}
use Rattle.vhdl_names_rules.specs.Rules.{◌>>=◌, each}
use Rattle.vhdl_names_units.specs.Lists.{in_turn, one_more}

-- what follows the same way, and what is bound within
pub bound : {A B : Type 0} (m : Option A) (f g : A → Option B) → ((x : A) → f x ≡ g x) → (m >>= f) ≡ (m >>= g)
bound None f g h = refl
bound (Some x) f g h = h x

pub inner : {A B C : Type 0} (m : Option A) (f : A → Option B) (g : B → Option C) → (m >>= λ x. f x >>= g) ≡ ((m >>= f) >>= g)
inner None f g = refl
inner (Some x) f g = refl

abbrev after : {B : Type 0} → List B → Option (List B) → Option (List B)
after done o = option_map (λ ys. done ++ ys) o

joined : {B : Type 0} (done : List B) (y : B) (o : Option (List B)) → after (done ++ y ∷ []) o ≡ after done (o >>= λ ys. Some (y ∷ ys))
joined done y None = refl
joined done y (Some ys) = ap Some (append_assoc done (y ∷ []) ys)

-- one more thing, where the rest is as is said
next : {A B : Type 0} (f : A → Option B) (done : List B) (xs : List A) (o : Option B)
    → ((y : B) → in_turn (one_more f) (done ++ y ∷ []) xs ≡ after (done ++ y ∷ []) (each f xs))
    → ((o >>= λ y. Some (done ++ y ∷ [])) >>= λ z. in_turn (one_more f) z xs) ≡ after done (o >>= λ y. each f xs >>= λ ys. Some (y ∷ ys))
next f done xs None h = refl
next f done xs (Some y) h = h y ∙ joined done y (each f xs)

turned : {A B : Type 0} (f : A → Option B) (done : List B) (xs : List A) → in_turn (one_more f) done xs ≡ after done (each f xs)
turned f done [] = ap Some (sym (append-nil done))
turned f done (x ∷ xs) = next f done xs (f x) (λ y. turned f (done ++ y ∷ []) xs)

-- each thing, one after another
pub each_in_turn : {A B : Type 0} (f : A → Option B) (xs : List A) → each f xs ≡ in_turn (one_more f) [] xs
each_in_turn {A} {B} f xs = sym (turned f [] xs ∙ all (each f xs))
  where
    all : (o : Option (List B)) → after [] o ≡ o
    all None = refl
    all (Some ys) = refl

-- it does not matter to what a function gives that what is seen is seen once more
pub gives_more : {X Y Z : Type 0} (view : X → Y) (h : Y → Z) (a : Option Z) (b : Option Y) (r : Result X NameFault) → a ≡ option_map h b → Gives view b r
    → Gives (λ x. h (view x)) a r
gives_more view h a b (Ok x) e g = e ∙ ap (option_map h) g
gives_more view h a b (Err fault) e g = λ n. e ∙ ap (option_map h) (g n)
