-- Bytes of a part are among those of the whole.
use Rattle.std.proofs.Common.{◌≡◌, ◌⊎◌, inl, inr, ℕ, zero, suc, ◌<◌, List, [], ◌∷◌, ◌++◌, length, map, get_or, Option, Some, Vec, Global, Result, Ok, Err, All, subst, sym, arith}
use Rattle.std.specs.Prelude.{Contains, flat_map}
use Rattle.std.proofs.lemmas.List.Elements.{Contains-append_left, Contains-append_right, Contains-append_cases, All-weaker, All-contains, All-contains_itself}
use Rattle.vhdl_names_rules.specs.units.Bytes.{test_bytes, choice_bytes, statement_bytes, statements_bytes, branches_bytes, alternatives_bytes}
use Rattle.vhdl_names_rules.specs.units.Statements as u
use Rattle.vhdl_names_units.specs.declared.sequential.Statement.{Statement}
use Rattle.vhdl_names_units.specs.views.Sequential.{Guarded, Chosen, statement_view, statements_of, branches_of, last_of, last_alternative, alternatives_of, option_statements_view}
use Rattle.vhdl_expand_rules.specs.declared.fault.ElabFault.{ElabFault}
use Rattle.vhdl_expand_rules.specs.Elab.{Elab}
use Rattle.vhdl_expand_operands.specs.Results.{Charges}
use Rattle.vhdl_expand_tree.proofs.Alike.{tells_among}
use Rattle.vhdl_expand.specs.Unrolled.{guarded_bytes, chosen_bytes}

abbrev pub Among : List ℕ → List ℕ → Type 0
Among xs ys = (at : ℕ) → Contains xs at → Contains ys at

pub among_left : (xs ys : List ℕ) → Among xs (xs ++ ys)
among_left xs ys at h = Contains-append_left xs ys at h

pub among_right : (xs ys : List ℕ) → Among ys (xs ++ ys)
among_right xs ys at h = Contains-append_right xs ys at h

pub among_all : (xs ys : List ℕ) → All (Contains ys) xs → Among xs ys
among_all xs ys h at c = All-contains (Contains ys) xs at h c

pub all_among : (xs ys : List ℕ) → Among xs ys → All (Contains ys) xs
all_among xs ys h = All-weaker (Contains xs) (Contains ys) h xs (All-contains_itself xs)

pub first_among : (x : ℕ) (xs : List ℕ) → Contains (x ∷ xs) x
first_among x xs = among_left (x ∷ []) xs x (0, omega arith, λ i. x)

-- with the same byte before both
pub under : (x : ℕ) (xs ys : List ℕ) → Among xs ys → Among (x ∷ xs) (x ∷ ys)
under x xs ys h at (zero, l, is) = (zero, omega arith, is)
under x xs ys h at (suc k, l, is) = among_right (x ∷ []) ys at (h at (k, omega (arith, l), is))

-- of statements
abbrev pub body_bytes : List Statement → List ℕ
body_bytes xs = statements_bytes (statements_of (map statement_view xs))

pub each_among : {A X : Type 0} (f : A → List ℕ) (v : X → A) (xs : List X) (i : ℕ) (x : X) → i < length xs → x ≡ get_or xs i x → Among (f (v x)) (flat_map f (map v xs))
each_among f v [] i x h is at c = absurd (omega (arith, h))
each_among f v (y ∷ xs) zero x h is at c = among_left (f (v y)) (flat_map f (map v xs)) at (subst (λ z. Contains (f (v z)) at) is c)
each_among f v (y ∷ xs) (suc i) x h is at c = among_right (f (v y)) (flat_map f (map v xs)) at (each_among f v xs i x (omega (arith, h)) is at c)

pub statement_among : (xs : List Statement) (i : ℕ) (x : Statement) → i < length xs → x ≡ get_or xs i x → Among (statement_bytes (statement_view x)) (statements_bytes (statements_of (map statement_view xs)))
statement_among [] i x h is at c = absurd (omega (arith, h))
statement_among (y ∷ xs) zero x h is at c =
    among_left (statement_bytes (statement_view y)) (statements_bytes (statements_of (map statement_view xs))) at (subst (λ (z : Statement). Contains (statement_bytes (statement_view z)) at) is c)
statement_among (y ∷ xs) (suc i) x h is at c =
    among_right (statement_bytes (statement_view y)) (statements_bytes (statements_of (map statement_view xs))) at (statement_among xs i x (omega (arith, h)) is at c)

-- the same of what is equal
pub same_among : {X : Type 0} (f : X → List ℕ) (x y : X) → x ≡ y → Among (f x) (f y)
same_among {X} f x y h at c = subst (λ (z : X). Contains (f z) at) h c

pub then_among : (xs ys zs : List ℕ) → Among xs ys → Among ys zs → Among xs zs
then_among xs ys zs h k at c = k at (h at c)

both-among : (xs ys zs : List ℕ) → Among xs zs → Among ys zs → Among (xs ++ ys) zs
both-among xs ys zs h k at c = by (Contains-append_cases xs ys at c)
  where
    by : Contains xs at ⊎ Contains ys at → Contains zs at
    by (inl l) = h at l
    by (inr r) = k at r

-- with the same bytes behind both
pub beside : (xs ys zs : List ℕ) → Among xs ys → Among (xs ++ zs) (ys ++ zs)
beside xs ys zs h = both-among xs zs (ys ++ zs) (λ at c. among_left ys zs at (h at c)) (among_right ys zs)

-- ---- statements in branches and alternatives

pub branches_among : (gs : List Guarded) (last : u.Branches) → Among (flat_map guarded_bytes gs) (branches_bytes (branches_of gs last))
branches_among [] last at (k, l, is) = absurd (omega (arith, l))
branches_among (g ∷ gs) last at c =
    let own : List ℕ = guarded_bytes g in
    let more : List ℕ = branches_bytes (branches_of gs last) in
    let test : List ℕ = test_bytes g.condition in
    both-among own (flat_map guarded_bytes gs) (test ++ (own ++ more)) (λ b k. among_right test (own ++ more) b (among_left own more b k))
    (λ b k. among_right test (own ++ more) b (among_right own more b (branches_among gs last b k))) at c

pub last_among : (gs : List Guarded) (last : u.Branches) → Among (branches_bytes last) (branches_bytes (branches_of gs last))
last_among [] last at c = c
last_among (g ∷ gs) last at c =
    among_right (test_bytes g.condition) (guarded_bytes g ++ branches_bytes (branches_of gs last)) at
    (among_right (guarded_bytes g) (branches_bytes (branches_of gs last)) at (last_among gs last at c))

pub some_among : (gs : List Guarded) (o : Option (Vec Statement Global)) (list : Vec Statement Global) → o ≡ Some list → (zs : List Statement) → zs ≡ list.items
    → Among (statements_bytes (statements_of (map statement_view zs))) (branches_bytes (branches_of gs (last_of (option_statements_view o))))
some_among gs o list some zs same at c =
    last_among gs (last_of (option_statements_view o)) at
    (subst (λ (y : Option (Vec Statement Global)). Contains (branches_bytes (last_of (option_statements_view y))) at) (sym some)
    (subst (λ (ys : List Statement). Contains (statements_bytes (statements_of (map statement_view ys))) at) same c))

pub alternatives_among : (gs : List Chosen) (last : u.Alternatives) → Among (flat_map chosen_bytes gs) (alternatives_bytes (alternatives_of gs last))
alternatives_among [] last at (k, l, is) = absurd (omega (arith, l))
alternatives_among (g ∷ gs) last at c =
    let own : List ℕ = chosen_bytes g in
    let more : List ℕ = alternatives_bytes (alternatives_of gs last) in
    let choices : List ℕ = flat_map choice_bytes g.choices in
    both-among own (flat_map chosen_bytes gs) (choices ++ (own ++ more)) (λ b k. among_right choices (own ++ more) b (among_left own more b k))
    (λ b k. among_right choices (own ++ more) b (among_right own more b (alternatives_among gs last b k))) at c

-- what is done otherwise
pub others_among : (gs : List Chosen) (cs : List u.Choice) (body : u.Statements) → Among (statements_bytes body) (alternatives_bytes (alternatives_of gs (last_alternative cs body)))
others_among [] [] body at k = k
others_among [] (c ∷ cs) body at k = among_right (flat_map choice_bytes (c ∷ cs)) (statements_bytes body) at k
others_among (g ∷ gs) cs body at k =
    let own : List ℕ = chosen_bytes g in
    let more : List ℕ = alternatives_bytes (alternatives_of gs (last_alternative cs body)) in
    among_right (flat_map choice_bytes g.choices) (own ++ more) at (among_right own more at (others_among gs cs body at k))

-- what is charged for a part is charged for the whole
pub charges_among : {X Y : Type 0} (bytes more : List ℕ) (view : X → Y) (given : Elab Y) (r : Result X ElabFault) → Among bytes more → Charges bytes view given r → Charges more view given r
charges_among bytes more view given (Ok x) h c = c
charges_among bytes more view given (Err fault) h c = λ n. tells_among h (c n)

-- bytes that stand behind another in the whole
pub shown : (at : ℕ) (xs ys : List ℕ) → xs ≡ ys → Among ys (at ∷ xs)
shown at xs ys e b h = among_right (at ∷ []) xs b (subst (λ (zs : List ℕ). Contains zs b) (sym e) h)
