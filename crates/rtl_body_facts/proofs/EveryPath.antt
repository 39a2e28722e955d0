-- What nodes of bodies assign on every syntactic path, by their parts in lists, and lists of nets that hold it.
use Rattle.std.proofs.Common.{◌≡◌, ℕ, zero, suc, ◌+◌, ◌<◌, Bool, true, false, ◌&&◌, ◌||◌, ◌==◌, cond, List, [], ◌∷◌, ◌++◌, length, get_or, take, refl, sym, ap, ◌∙◌, Vec, Some, None, Global, ◌⊎◌, inl, inr, arith}
use Rattle.std.specs.List.{list_any, list_all, filter, range_with_len}
use Rattle.std.proofs.lemmas.Bool.{cases_Bool, eqb-true}
use Rattle.std.proofs.lemmas.List.{take_more}
use Rattle.rtl_net.specs.declared.process.Driver.{Driver}
use Rattle.rtl_net.specs.declared.body.Value.{Value}
use Rattle.rtl_net.specs.declared.body.Statement.{Statement}
use Rattle.rtl_net.specs.declared.body.Statement.TheVariants as vs
use Rattle.rtl_net.specs.declared.body.Branch.{Branch}
use Rattle.rtl_net.specs.declared.body.Alternative.{Alternative}
use Rattle.rtl_net.specs.Indices.{numbers}
use Rattle.rtl_net.specs.Bodies.{statements_of, branches_of, alternatives_of}
use Rattle.rtl_net.proofs.Rows.{view_if, view_case}
use Rattle.rtl_model.specs.bodies.Body as bodies
use Rattle.rtl_model.specs.bodies.Assigns.{must_assign, stmt_must_assign, branches_must_assign, alternatives_must_assign}
use Rattle.rtl_body_facts.specs.Reading.{is_in}
use Rattle.rtl_body_facts.specs.Paths.{to_net, statement_covers, branch_covers, alternative_covers}
use Rattle.rtl_body_facts.proofs.Anys.{or_assoc, or_none, and_assoc, and_not}
use Rattle.rtl_body_facts.proofs.Members.{in_append}

-- ---- lists one element further

pub any_append : {X : Type 0} (f : X → Bool) (xs ys : List X) → list_any f (xs ++ ys) ≡ (list_any f xs || list_any f ys)
any_append f [] ys = refl
any_append f (x ∷ xs) ys = ap (λ (b : Bool). f x || b) (any_append f xs ys) ∙ sym (or_assoc (f x) (list_any f xs) (list_any f ys))

all_append : {X : Type 0} (f : X → Bool) (xs ys : List X) → list_all f (xs ++ ys) ≡ (list_all f xs && list_all f ys)
all_append f [] ys = refl
all_append f (x ∷ xs) ys = ap (λ (b : Bool). f x && b) (all_append f xs ys) ∙ sym (and_assoc (f x) (list_all f xs) (list_all f ys))

pub any_more : {X : Type 0} (f : X → Bool) (xs : List X) (i : ℕ) (x : X) → i < length xs → x ≡ get_or xs i x
    → list_any f (take (i + 1) xs) ≡ (list_any f (take i xs) || f x)
any_more f xs i x l e = ap (list_any f) (take_more xs i x l ∙ ap (λ y. take i xs ++ y ∷ []) (sym e))
    ∙ (any_append f (take i xs) (x ∷ []) ∙ ap (λ (b : Bool). list_any f (take i xs) || b) (sym (or_none (f x))))

and_true : (a : Bool) → a ≡ (a && true)
and_true true = refl
and_true false = refl

pub all_more : {X : Type 0} (f : X → Bool) (xs : List X) (i : ℕ) (x : X) → i < length xs → x ≡ get_or xs i x
    → list_all f (take (i + 1) xs) ≡ (list_all f (take i xs) && f x)
all_more f xs i x l e = ap (list_all f) (take_more xs i x l ∙ ap (λ y. take i xs ++ y ∷ []) (sym e))
    ∙ (all_append f (take i xs) (x ∷ []) ∙ ap (λ (b : Bool). list_all f (take i xs) && b) (sym (and_true (f x))))

pub range_more : (a k : ℕ) → range_with_len a (k + 1) ≡ range_with_len a k ++ (a + k) ∷ []
range_more a zero = ap (λ (x : ℕ). x ∷ []) (first a)
  where
    first : (a : ℕ) → a ≡ a + 0
    first a = omega arith
range_more a (suc k) = ap (range_with_len a) (later k) ∙ (ap (λ (xs : List ℕ). a ∷ xs) (range_more (a + 1) k) ∙ ap (λ (x : ℕ). (a ∷ range_with_len (a + 1) k) ++ x ∷ []) (last a k))
  where
    later : (k : ℕ) → suc k + 1 ≡ suc (k + 1)
    later k = omega arith

    last : (a k : ℕ) → (a + 1) + k ≡ a + suc k
    last a k = omega arith

pub any_range_more : (f : ℕ → Bool) (a k : ℕ) → list_any f (range_with_len a (k + 1)) ≡ (list_any f (range_with_len a k) || f (a + k))
any_range_more f a k = ap (list_any f) (range_more a k) ∙ (any_append f (range_with_len a k) ((a + k) ∷ [])
    ∙ ap (λ (b : Bool). list_any f (range_with_len a k) || b) (sym (or_none (f (a + k)))))

-- more is in the list: what was there at first, what came so far, and what comes now
pub goes_on : (new old first so_far all now : Bool) → new ≡ (old || now) → old ≡ (first || so_far) → all ≡ (so_far || now) → new ≡ (first || all)
goes_on new old first so_far all now e f g = e ∙ (ap (λ (b : Bool). b || now) f ∙ (or_assoc first so_far now ∙ ap (λ (b : Bool). first || b) (sym g)))

-- fewer are in the list
pub stays : (new old last so_far all now : Bool) → new ≡ (old && now) → old ≡ (so_far && last) → all ≡ (so_far && now) → new ≡ (all && last)
stays new old last so_far all now e f g = e ∙ (ap (λ (b : Bool). b && now) f ∙ (swaps so_far last now ∙ ap (λ (b : Bool). b && last) (sym g)))
  where
    swaps : (a b d : Bool) → ((a && b) && d) ≡ ((a && d) && b)
    swaps true true d = and_true d
    swaps true false true = refl
    swaps true false false = refl
    swaps false b d = refl

-- ---- what is in both lists

pub in_filter : (f : ℕ → Bool) (xs : List ℕ) (n : ℕ) → is_in n (filter f xs) ≡ (is_in n xs && f n)
in_filter f [] n = refl
in_filter f (x ∷ xs) n = go (in_filter f xs n) (cases_Bool (f x)) (cases_Bool (x == n))
  where
    go : is_in n (filter f xs) ≡ (is_in n xs && f n) → (f x ≡ true) ⊎ (f x ≡ false) → ((x == n) ≡ true) ⊎ ((x == n) ≡ false)
        → is_in n (filter f (x ∷ xs)) ≡ (((x == n) || is_in n xs) && f n)
    go h (inl t) (inl e) =
        ap (λ (b : Bool). is_in n (cond b (x ∷ filter f xs) (filter f xs))) t ∙ (ap (λ (b : Bool). b || is_in n (filter f xs)) e
        ∙ (sym (sym (ap f (eqb-true x n e)) ∙ t) ∙ sym (ap (λ (b : Bool). (b || is_in n xs) && f n) e)))
    go h (inl t) (inr e) =
        ap (λ (b : Bool). is_in n (cond b (x ∷ filter f xs) (filter f xs))) t ∙ (ap (λ (b : Bool). b || is_in n (filter f xs)) e
        ∙ (h ∙ sym (ap (λ (b : Bool). (b || is_in n xs) && f n) e)))
    go h (inr t) (inl e) =
        let no : f n ≡ false = sym (ap f (eqb-true x n e)) ∙ t in
        ap (λ (b : Bool). is_in n (cond b (x ∷ filter f xs) (filter f xs))) t ∙ (h ∙ (ap (λ (b : Bool). is_in n xs && b) no
        ∙ (sym (and_not (is_in n xs)) ∙ (and_not ((x == n) || is_in n xs) ∙ ap (λ (b : Bool). ((x == n) || is_in n xs) && b) (sym no)))))
    go h (inr t) (inr e) =
        ap (λ (b : Bool). is_in n (cond b (x ∷ filter f xs) (filter f xs))) t ∙ (h ∙ sym (ap (λ (b : Bool). (b || is_in n xs) && f n) e))

-- ---- nodes

module _ (drives : List Driver) (n : ℕ) where
  pub covers_sequence : (xs : List Statement) → must_assign (to_net drives n) (statements_of xs) ≡ list_any (statement_covers drives n) xs
  covers_sequence [] = refl
  covers_sequence (x ∷ xs) = ap (λ (b : Bool). statement_covers drives n x || b) (covers_sequence xs)

  branches_all : (last : bodies.Branches) (bs : List Branch)
      → branches_must_assign (to_net drives n) (branches_of last bs) ≡ (list_all (branch_covers drives n) bs && branches_must_assign (to_net drives n) last)
  branches_all last [] = refl
  branches_all last (b ∷ bs) = ap (λ (c : Bool). branch_covers drives n b && c) (branches_all last bs)
      ∙ sym (and_assoc (branch_covers drives n b) (list_all (branch_covers drives n) bs) (branches_must_assign (to_net drives n) last))

  alternatives_all : (last : bodies.Stmts) (bs : List Alternative)
      → alternatives_must_assign (to_net drives n) (alternatives_of last bs) ≡ (list_all (alternative_covers drives n) bs && must_assign (to_net drives n) last)
  alternatives_all last [] = refl
  alternatives_all last (b ∷ bs) = ap (λ (c : Bool). alternative_covers drives n b && c) (alternatives_all last bs)
      ∙ sym (and_assoc (alternative_covers drives n b) (list_all (alternative_covers drives n) bs) (must_assign (to_net drives n) last))

  never : (xs : List ℕ) → list_any (λ (p : ℕ). false) xs ≡ false
  never [] = refl
  never (x ∷ xs) = never xs

  pub set_covers : (x : Statement) (es : _) (value : _) → x ≡ vs.Set es value → statement_covers drives n x ≡ false
  set_covers x es value is = ap (statement_covers drives n) is ∙ never (numbers es)

  pub if_covers : (x : Statement) (at : ℕ) (branches : Vec Branch Global) (v : Vec Statement Global) → x ≡ vs.If at branches (Some v)
      → statement_covers drives n x ≡ (list_all (branch_covers drives n) branches.items && must_assign (to_net drives n) (statements_of v.items))
  if_covers x at branches v is =
      ap (statement_covers drives n) is
      ∙ (ap (stmt_must_assign (to_net drives n)) (view_if at branches (Some v)) ∙ branches_all (bodies.otherwise (statements_of v.items)) branches.items)

  pub if_alone_covers : (x : Statement) (at : ℕ) (branches : Vec Branch Global) → x ≡ vs.If at branches None → statement_covers drives n x ≡ false
  if_alone_covers x at branches is =
      ap (statement_covers drives n) is
      ∙ (ap (stmt_must_assign (to_net drives n)) (view_if at branches None) ∙ (branches_all bodies.no_else branches.items ∙ sym (and_not (list_all (branch_covers drives n) branches.items))))

  pub case_covers : (x : Statement) (at : ℕ) (selector : Value) (alternatives : Vec Alternative Global) (others : Vec Statement Global) → x ≡ vs.Case at selector alternatives others
      → statement_covers drives n x ≡ (list_all (alternative_covers drives n) alternatives.items && must_assign (to_net drives n) (statements_of others.items))
  case_covers x at selector alternatives others is =
      ap (statement_covers drives n) is
      ∙ (ap (stmt_must_assign (to_net drives n)) (view_case at selector alternatives others) ∙ alternatives_all (statements_of others.items) alternatives.items)

-- ---- what both lists have, of what so far all have

pub both_have : (n : ℕ) (new left right common nets : List ℕ) (all so_far first now : Bool) → new ≡ filter (λ m. is_in m right) left → left ≡ common → right ≡ nets
    → is_in n common ≡ (so_far && first) → is_in n nets ≡ now → all ≡ (so_far && now) → is_in n new ≡ (all && first)
both_have n new left right common nets all so_far first now is l r old e more =
    let has : is_in n new ≡ (is_in n common && is_in n nets) =
    ap (is_in n) is ∙ (in_filter (λ m. is_in m right) left n ∙ (ap (λ (xs : List ℕ). is_in n xs && is_in n right) l ∙ ap (λ (xs : List ℕ). is_in n common && is_in n xs) r)) in
    stays (is_in n new) (is_in n common) first so_far all now (has ∙ ap (λ (b : Bool). is_in n common && b) e) old more

-- a statement adds nothing, or these nets
pub adds_none : (n : ℕ) (xs : List ℕ) (b : Bool) → b ≡ false → is_in n xs ≡ (is_in n xs || b)
adds_none n xs b e = or_none (is_in n xs) ∙ ap (λ (c : Bool). is_in n xs || c) (sym e)

pub adds_all : (n : ℕ) (new old added : List ℕ) (b : Bool) → new ≡ old ++ added → is_in n added ≡ b → is_in n new ≡ (is_in n old || b)
adds_all n new old added b is e = ap (is_in n) is ∙ (in_append n old added ∙ ap (λ (c : Bool). is_in n old || c) e)
