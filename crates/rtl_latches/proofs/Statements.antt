-- What statements do to a net, by their parts.
use Rattle.std.proofs.Common.{◌≡◌, ℕ, ◌+◌, Bool, true, false, not, ◌&&◌, ◌||◌, List, [], ◌∷◌, ◌++◌, ◌<◌, length, get_or, take, map, Option, Some, None, Vec, Global, refl, sym, ap, ◌∙◌, ◌⊎◌, inl, inr}
use Rattle.std.specs.Option.{option_or}
use Rattle.std.specs.Prelude.{is_some, if◌then◌else◌}
use Rattle.std.specs.List.{list_any, list_all}
use Rattle.std.proofs.lemmas.List.{take_more, map-append}
use Rattle.rtl_model.specs.bodies.Body as bodies
use Rattle.rtl_model.specs.bodies.Assigns.{Target, must_assign, stmt_must_assign, branches_must_assign, alternatives_must_assign, stmt_assigns, stmts_assign, branches_assign, alternatives_assign}
use Rattle.rtl_net.specs.declared.process.Driver.{Driver}
use Rattle.rtl_net.specs.declared.body.Value.{Value}
use Rattle.rtl_net.specs.declared.body.Statement.{Statement}
use Rattle.rtl_net.specs.declared.body.Statement.TheVariants as vs
use Rattle.rtl_net.specs.declared.body.Branch.{Branch}
use Rattle.rtl_net.specs.declared.body.Alternative.{Alternative}
use Rattle.rtl_net.specs.Bodies.{statement_view, statements_of}
use Rattle.rtl_net.specs.Indices.{numbers}
use Rattle.rtl_body_facts.specs.Paths.{covers, to_net}
use Rattle.rtl_body_facts.proofs.Anys.{or_none, and_not, and_assoc}
use Rattle.rtl_body_facts.proofs.EveryPath.{set_covers, if_covers, if_alone_covers, case_covers}
use Rattle.rtl_latches.specs.Omissions.{branch_assigns, alternative_assigns, leaves_out, in_statement, omission_of, part_omission, branches_omission, alternatives_omission}
use Rattle.rtl_latches.specs.declared.omission.Omission.{Omission}
use Rattle.rtl_latches.specs.declared.omission.Omission.TheVariants as o
use Rattle.rtl_latches.specs.declared.choosing.Counted.TheVariants as c
use Rattle.rtl_latches.specs.declared.parts.Part.{Part}
use Rattle.rtl_latches.specs.Parts.{Told, told_of, of_branch, of_alternative, nothing, both, where_so, only_left, numbered, is_touched, all_must, first_open, together}
use Rattle.rtl_latches.proofs.Assigned.{statement_assigns, set_assigns, set_at_assigns, if_assigns, if_alone_assigns, case_assigns}
use Rattle.rtl_latches.proofs.Rows.{in_if, in_if_alone, in_case}
use Rattle.rtl_latches.proofs.There.{omission_there}
use Rattle.rtl_latches.proofs.Telling.{as_told, told-same, both-assoc}

-- ---- what a sequence assigns on some path

either : (a b : Bool) → (a || b) ≡ true → (a ≡ true) ⊎ (b ≡ true)
either true b h = inl refl
either false b h = inr h

second : (a b : Bool) → b ≡ true → (a || b) ≡ true
second true b h = refl
second false b h = h

from-first : (a b : Bool) → a ≡ true → (a || b) ≡ true
from-first true b h = refl
from-first false b h = absurd cc

and-first : (a b : Bool) → (a && b) ≡ true → a ≡ true
and-first true b h = refl
and-first false b h = absurd cc

module _ (these : Target → Bool) where
  mutual
    must-stmt : (s : bodies.Stmt) → stmt_must_assign these s ≡ true → stmt_assigns these s ≡ true
    must-stmt bodies.null_of h = absurd cc
    must-stmt (bodies.assign_at index spacing places e) h = absurd cc
    must-stmt (bodies.set_at index spacing es e) h = absurd cc
    must-stmt (bodies.if_of bs) h = must-branches bs h
    must-stmt (bodies.case_of v alts) h = must-alternatives alts h
    must-stmt _ h = h

    must-stmts : (s : bodies.Stmts) → must_assign these s ≡ true → stmts_assign these s ≡ true
    must-stmts bodies.done h = absurd cc
    must-stmts (bodies.step s rest) h =
        elim (either (stmt_must_assign these s) (must_assign these rest) h) [
          | inl x ↦ from-first (stmt_assigns these s) (stmts_assign these rest) (must-stmt s x)
          | inr y ↦ second (stmt_assigns these s) (stmts_assign these rest) (must-stmts rest y)
        ]

    must-branches : (bs : bodies.Branches) → branches_must_assign these bs ≡ true → branches_assign these bs ≡ true
    must-branches bodies.no_else h = absurd cc
    must-branches (bodies.otherwise s) h = must-stmts s h
    must-branches (bodies.branch t s bs) h =
        from-first (stmts_assign these s) (branches_assign these bs) (must-stmts s (and-first (must_assign these s) (branches_must_assign these bs) h))

    must-alternatives : (alts : bodies.Alternatives) → alternatives_must_assign these alts ≡ true → alternatives_assign these alts ≡ true
    must-alternatives (bodies.others s) h = must-stmts s h
    must-alternatives (bodies.alternative choices s alts) h =
        from-first (stmts_assign these s) (alternatives_assign these alts) (must-stmts s (and-first (must_assign these s) (alternatives_must_assign these alts) h))

  -- what leaves an assignment out has one
  omitted : (xs : List Statement) → is_some (omission_of these xs) ≡ true → stmts_assign these (statements_of xs) ≡ true
  omitted [] h = absurd cc
  omitted (x ∷ xs) h = go (stmt_assigns these (statement_view x)) (stmt_must_assign these (statement_view x)) (omitted xs) h
    where
      go : (a m : Bool) → (is_some (omission_of these xs) ≡ true → stmts_assign these (statements_of xs) ≡ true) → is_some (if a && not m then in_statement these x else omission_of these xs) ≡ true → (a || stmts_assign these (statements_of xs)) ≡ true
      go true m f h = refl
      go false m f h = f h

  pub touched-is : (xs : List Statement) → is_touched (told_of these xs) ≡ stmts_assign these (statements_of xs)
  touched-is xs = go (stmts_assign these (statements_of xs)) (must_assign these (statements_of xs)) (is_some (omission_of these xs)) (must-stmts (statements_of xs)) (omitted xs)
      (omission_there these xs)
    where
      go : (a m s : Bool) → (m ≡ true → a ≡ true) → (s ≡ true → a ≡ true) → (a ≡ true → m ≡ false → s ≡ true) → (m || s) ≡ a
      go true true s f g h = refl
      go true false s f g h = h refl refl
      go false true s f g h = absurd (let e : false ≡ true = f refl in cc)
      go false false true f g h = absurd (let e : false ≡ true = g refl in cc)
      go false false false f g h = refl

  -- ---- parts, of which one is taken

  part-first : (itself : Omission) (xs : List Statement) → must_assign these (statements_of xs) ≡ false → part_omission these itself xs ≡ option_or (omission_of these xs) (Some itself)
  part-first itself xs none = go (stmts_assign these (statements_of xs)) (omission_of these xs) (λ t. omission_there these xs t none) (omitted xs)
    where
      go : (a : Bool) (w : Option Omission) → (a ≡ true → is_some w ≡ true) → (is_some w ≡ true → a ≡ true) → (if a then w else Some itself) ≡ option_or w (Some itself)
      go true (Some x) f g = refl
      go true None f g = absurd (let e : false ≡ true = f refl in cc)
      go false (Some x) f g = absurd (let e : false ≡ true = g refl in cc)
      go false None f g = refl

  first-last : (itself : ℕ → Omission) (number : ℕ) (xs : List Statement) → all_must (told_of these xs ∷ []) ≡ false
      → part_omission these (itself number) xs ≡ first_open itself number (told_of these xs ∷ [])
  first-last itself number xs h = go (must_assign these (statements_of xs)) h (part-first (itself number) xs)
    where
      go : (m : Bool) → (m && true) ≡ false → (m ≡ false → part_omission these (itself number) xs ≡ option_or (omission_of these xs) (Some (itself number)))
          → part_omission these (itself number) xs ≡ (if m then None else option_or (omission_of these xs) (Some (itself number)))
      go true h f = absurd (let e : true ≡ false = h in cc)
      go false h f = f refl

  one-first : (itself : Omission) (xs : List Statement) (all : Bool) (rest opened : Option Omission) → (must_assign these (statements_of xs) && all) ≡ false
      → (all ≡ false → rest ≡ opened)
      → (if must_assign these (statements_of xs) then rest else part_omission these itself xs)
      ≡ (if must_assign these (statements_of xs) then opened else option_or (omission_of these xs) (Some itself))
  one-first itself xs all rest opened h f = go (must_assign these (statements_of xs)) h (part-first itself xs)
    where
      go : (m : Bool) → (m && all) ≡ false → (m ≡ false → part_omission these itself xs ≡ option_or (omission_of these xs) (Some itself))
          → (if m then rest else part_omission these itself xs) ≡ (if m then opened else option_or (omission_of these xs) (Some itself))
      go true h g = f h
      go false h g = g refl

  branches-first : (at number : ℕ) (last : List Statement) (bs : List Branch)
      → all_must (map (λ (b : Branch). told_of these b.statements.items) bs ++ told_of these last ∷ []) ≡ false
      → branches_omission these at (λ k. part_omission these (o.Branch at k) last) number bs
      ≡ first_open (o.Branch at) number (map (λ (b : Branch). told_of these b.statements.items) bs ++ told_of these last ∷ [])
  branches-first at number last [] h = first-last (o.Branch at) number last h
  branches-first at number last (b ∷ bs) h =
      one-first (o.Branch at number) b.statements.items (all_must (map (λ (b : Branch). told_of these b.statements.items) bs ++ told_of these last ∷ [])) _ _ h
      (branches-first at (number + 1) last bs)

  alternatives-first : (at number : ℕ) (last : List Statement) (bs : List Alternative)
      → all_must (map (λ (b : Alternative). told_of these b.statements.items) bs ++ told_of these last ∷ []) ≡ false
      → alternatives_omission these at (λ k. part_omission these (o.Alternative at k) last) number bs
      ≡ first_open (o.Alternative at) number (map (λ (b : Alternative). told_of these b.statements.items) bs ++ told_of these last ∷ [])
  alternatives-first at number last [] h = first-last (o.Alternative at) number last h
  alternatives-first at number last (b ∷ bs) h =
      one-first (o.Alternative at number) b.statements.items (all_must (map (λ (b : Alternative). told_of these b.statements.items) bs ++ told_of these last ∷ [])) _ _ h
      (alternatives-first at (number + 1) last bs)

-- ---- lists of what parts do

none-opened : (itself : ℕ → Omission) (number : ℕ) (ts : List Told) → all_must ts ≡ true → first_open itself number ts ≡ None
none-opened itself number [] h = refl
none-opened itself number (t ∷ ts) h = go t.must (none-opened itself (number + 1) ts) h
  where
    go : (m : Bool) → (all_must ts ≡ true → first_open itself (number + 1) ts ≡ None) → (m && all_must ts) ≡ true → (if m then first_open itself (number + 1) ts else option_or t.left (Some (itself number))) ≡ None
    go true f h = f h
    go false f h = absurd (let e : false ≡ true = h in cc)

all-touched : (ts : List Told) (t : Told) → all_must (ts ++ t ∷ []) ≡ true → list_any is_touched (ts ++ t ∷ []) ≡ true
all-touched [] t h = from-first (is_touched t) false (from-first t.must (is_some t.left) (and-first t.must true h))
all-touched (u ∷ us) t h =
    from-first (is_touched u) (list_any is_touched (us ++ t ∷ [])) (from-first u.must (is_some u.left) (and-first u.must (all_must (us ++ t ∷ [])) h))

module _ {X : Type 0} (f : X → Told) where
  all-last : (xs : List X) (t : Told) → all_must (map f xs ++ t ∷ []) ≡ (list_all (λ x. (f x).must) xs && t.must)
  all-last [] t = ends t.must
    where
      ends : (b : Bool) → (b && true) ≡ b
      ends true = refl
      ends false = refl
  all-last (x ∷ xs) t = ap (λ (b : Bool). (f x).must && b) (all-last xs t) ∙ sym (and_assoc (f x).must (list_all (λ x. (f x).must) xs) t.must)

  any-last : (g : X → Bool) → ((x : X) → is_touched (f x) ≡ g x) → (xs : List X) (t : Told) → list_any is_touched (map f xs ++ t ∷ []) ≡ (list_any g xs || is_touched t)
  any-last g same [] t = sym (or_none (is_touched t))
  any-last g same (x ∷ xs) t = go (is_touched (f x)) (g x) (same x) (any-last g same xs t)
    where
      go : (a b : Bool) → a ≡ b → list_any is_touched (map f xs ++ t ∷ []) ≡ (list_any g xs || is_touched t) → (a || list_any is_touched (map f xs ++ t ∷ [])) ≡ ((b || list_any g xs) || is_touched t)
      go true true e k = refl
      go true false e k = absurd cc
      go false true e k = absurd cc
      go false false e k = k

  pub any-same : (g : X → Bool) → ((x : X) → is_touched (f x) ≡ g x) → (xs : List X) → list_any is_touched (map f xs) ≡ list_any g xs
  any-same g same [] = refl
  any-same g same (x ∷ xs) = λ i. same x i || any-same g same xs i

-- ---- statements

told-whole : (a m any all : Bool) (within opened : Option Omission) → a ≡ any → m ≡ all → (all ≡ true → any ≡ true) → (all ≡ true → opened ≡ None) → (all ≡ false → within ≡ opened)
    → as_told (m || false) (if a && not m then within else None) ≡ as_told (any && all) (where_so any opened)
told-whole a m any all within opened e f g h k = (λ i. record { must = f i || false; left = if e i && not (f i) then within else None }) ∙ go any all g h k
  where
    go : (any all : Bool) → (all ≡ true → any ≡ true) → (all ≡ true → opened ≡ None) → (all ≡ false → within ≡ opened)
        → as_told (all || false) (if any && not all then within else None) ≡ as_told (any && all) (where_so any opened)
    go true true g h k = told-same _ _ _ _ refl (sym (h refl))
    go true false g h k = told-same _ _ _ _ refl (k refl)
    go false true g h k = absurd (let e : false ≡ true = g refl in cc)
    go false false g h k = refl

told-plain : (a m : Bool) (within : Option Omission) → a ≡ m
    → as_told (m || false) (if a && not m then within else None) ≡ as_told (m || false) (None)
told-plain true false within e = absurd cc
told-plain false true within e = absurd cc
told-plain _ _ within e = refl

-- what is left out where some of it is assigned, and none on every path
left-told : (omission : Omission) (a m any : Bool) (within : Option Omission) → a ≡ any → m ≡ false → within ≡ Some omission
    → as_told (m || false) (if a && not m then within else None) ≡ only_left (where_so any (Some omission))
left-told omission a m any within e f g = (λ i. record { must = f i || false; left = if e i && not (f i) then g i else None }) ∙ ends any
  where
    ends : (any : Bool) → as_told (false) (if any && true then Some omission else None) ≡ only_left (where_so any (Some omission))
    ends true = refl
    ends false = refl

module _ (drives : List Driver) (n : ℕ) (x : Statement) where
  pub null-told : x ≡ vs.Null → told_of (to_net drives n) (x ∷ []) ≡ nothing
  null-told is = ap (λ (s : Statement). told_of (to_net drives n) (s ∷ [])) is

  -- what assigns a variable
  unassigned : (a m : Bool) → a ≡ false → m ≡ false → as_told (m || false) (if a && not m then in_statement (to_net drives n) x else None) ≡ nothing
  unassigned a m e f = λ i. record { must = f i || false; left = if e i && not (f i) then in_statement (to_net drives n) x else None }

  pub set-told : (es : _) (value : _) → x ≡ vs.Set es value → told_of (to_net drives n) (x ∷ []) ≡ nothing
  set-told es value is = unassigned _ _ (set_assigns drives n x es value is) (set_covers drives n x es value is)

  pub set_at-told : (at : _) (index : _) (spacing : _) (es : _) (value : _) → x ≡ vs.SetAt at index spacing es value → told_of (to_net drives n) (x ∷ []) ≡ nothing
  set_at-told at index spacing es value is =
      unassigned _ _ (set_at_assigns drives n x at index spacing es value is) (ap (λ (s : Statement). stmt_must_assign (to_net drives n) (statement_view s)) is)

  pub assign-told : (places : _) (value : _) → x ≡ vs.Assign places value
      → told_of (to_net drives n) (x ∷ []) ≡ as_told (must_assign (to_net drives n) (statements_of (x ∷ []))) (None)
  assign-told places value is =
      told-plain (stmt_assigns (to_net drives n) (statement_view x)) (stmt_must_assign (to_net drives n) (statement_view x)) (in_statement (to_net drives n) x)
      (ap (λ (s : Statement). stmt_assigns (to_net drives n) (statement_view s)) is ∙ sym (ap (λ (s : Statement). stmt_must_assign (to_net drives n) (statement_view s)) is))

  pub if_alone-told : (at : ℕ) (branches : Vec Branch Global) → x ≡ vs.If at branches None
      → told_of (to_net drives n) (x ∷ []) ≡ only_left (where_so (list_any is_touched (map (of_branch drives n) branches.items)) (Some (o.NoElse at)))
  if_alone-told at branches is =
      left-told (o.NoElse at) (statement_assigns (to_net drives n) x) (stmt_must_assign (to_net drives n) (statement_view x)) (list_any is_touched (map (of_branch drives n) branches.items)) (in_statement (to_net drives n) x)
      (if_alone_assigns (to_net drives n) x at branches is
      ∙ sym (any-same (of_branch drives n) (branch_assigns (to_net drives n)) (λ (b : Branch). touched-is (to_net drives n) b.statements.items) branches.items))
      (if_alone_covers drives n x at branches is) (in_if_alone (to_net drives n) x at branches is)

  pub assign_at-told : (at : _) (index : _) (spacing : _) (places : _) (value : _) → x ≡ vs.AssignAt at index spacing places value
      → told_of (to_net drives n) (x ∷ []) ≡ only_left (where_so (list_any (covers drives n) (numbers places)) (Some (o.Row at)))
  assign_at-told at index spacing places value is =
      left-told (o.Row at) (statement_assigns (to_net drives n) x) (stmt_must_assign (to_net drives n) (statement_view x)) (list_any (covers drives n) (numbers places)) (in_statement (to_net drives n) x)
      (ap (statement_assigns (to_net drives n)) is) (ap (λ (s : Statement). stmt_must_assign (to_net drives n) (statement_view s)) is) (ap (in_statement (to_net drives n)) is)

  pub if-told : (at : ℕ) (branches : Vec Branch Global) (v : Vec Statement Global) → x ≡ vs.If at branches (Some v)
      → told_of (to_net drives n) (x ∷ []) ≡ together (numbered (c.Branches at)) (map (of_branch drives n) branches.items ++ told_of (to_net drives n) v.items ∷ [])
  if-told at branches v is =
      let ts = map (of_branch drives n) branches.items in
      let t = told_of (to_net drives n) v.items in
      told-whole _ _ (list_any is_touched (ts ++ t ∷ [])) (all_must (ts ++ t ∷ [])) (in_statement (to_net drives n) x) (first_open (o.Branch at) 1 (ts ++ t ∷ []))
      (if_assigns (to_net drives n) x at branches v is
      ∙ (ap (λ (b : Bool). list_any (branch_assigns (to_net drives n)) branches.items || b) (sym (touched-is (to_net drives n) v.items))
      ∙ sym (any-last (of_branch drives n) (branch_assigns (to_net drives n)) (λ (b : Branch). touched-is (to_net drives n) b.statements.items) branches.items t)))
      (if_covers drives n x at branches v is ∙ sym (all-last (of_branch drives n) branches.items t))
      (all-touched ts t) (none-opened (o.Branch at) 1 (ts ++ t ∷ []))
      (λ h. in_if (to_net drives n) x at branches v is ∙ branches-first (to_net drives n) at 1 v.items branches.items h)

  pub case-told : (at : ℕ) (selector : Value) (alternatives : Vec Alternative Global) (v : Vec Statement Global) → x ≡ vs.Case at selector alternatives v
      → told_of (to_net drives n) (x ∷ []) ≡ together (numbered (c.Alternatives at)) (map (of_alternative drives n) alternatives.items ++ told_of (to_net drives n) v.items ∷ [])
  case-told at selector alternatives v is =
      let ts = map (of_alternative drives n) alternatives.items in
      let t = told_of (to_net drives n) v.items in
      told-whole _ _ (list_any is_touched (ts ++ t ∷ [])) (all_must (ts ++ t ∷ [])) (in_statement (to_net drives n) x) (first_open (o.Alternative at) 1 (ts ++ t ∷ []))
      (case_assigns (to_net drives n) x at selector alternatives v is
      ∙ (ap (λ (b : Bool). list_any (alternative_assigns (to_net drives n)) alternatives.items || b) (sym (touched-is (to_net drives n) v.items))
      ∙ sym (any-last (of_alternative drives n) (alternative_assigns (to_net drives n)) (λ (b : Alternative). touched-is (to_net drives n) b.statements.items) alternatives.items t)))
      (case_covers drives n x at selector alternatives v is ∙ sym (all-last (of_alternative drives n) alternatives.items t))
      (all-touched ts t) (none-opened (o.Alternative at) 1 (ts ++ t ∷ []))
      (λ h. in_case (to_net drives n) x at selector alternatives v is ∙ alternatives-first (to_net drives n) at 1 v.items alternatives.items h)

-- ---- sequences, one statement further

out-there : (these : Target → Bool) (x : Statement) → leaves_out these x ≡ true → is_some (in_statement these x) ≡ true
out-there these x h =
    go (omission_there these (x ∷ []) (from-first (stmt_assigns these (statement_view x)) false (and-first (stmt_assigns these (statement_view x)) (not (stmt_must_assign these (statement_view x))) h))
    (must-none (stmt_assigns these (statement_view x)) (stmt_must_assign these (statement_view x)) h))
  where
    must-none : (a m : Bool) → (a && not m) ≡ true → (m || false) ≡ false
    must-none a true h = absurd (let e : false ≡ true = and_not a ∙ h in cc)
    must-none a false h = refl

    go : is_some (if leaves_out these x then in_statement these x else None) ≡ true → is_some (in_statement these x) ≡ true
    go s = sym (ap (λ (b : Bool). is_some (if b then in_statement these x else None)) h) ∙ s

pub then-told : (these : Target → Bool) (xs : List Statement) (x : Statement) → told_of these (xs ++ x ∷ []) ≡ both (told_of these xs) (told_of these (x ∷ []))
then-told these [] x = refl
then-told these (y ∷ ys) x =
    head (ys ++ x ∷ []) ∙ (ap (both (told_of these (y ∷ []))) (then-told these ys x)
    ∙ (sym (both-assoc (told_of these (y ∷ [])) (told_of these ys) (told_of these (x ∷ []))) ∙ ap (λ (t : Told). both t (told_of these (x ∷ []))) (sym (head ys))))
  where
    head : (zs : List Statement) → told_of these (y ∷ zs) ≡ both (told_of these (y ∷ [])) (told_of these zs)
    head zs = told-same _ _ _ _ (ap (λ (b : Bool). b || must_assign these (statements_of zs)) (or_none (stmt_must_assign these (statement_view y))))
        (go (leaves_out these y) (in_statement these y) (out-there these y))
      where
        go : (b : Bool) (w : Option Omission) → (b ≡ true → is_some w ≡ true) → (if b then w else omission_of these zs) ≡ option_or (if b then w else None) (omission_of these zs)
        go true (Some a) f = refl
        go true None f = absurd (let e : false ≡ true = f refl in cc)
        go false w f = refl

pub told-more : (these : Target → Bool) (xs : List Statement) (i : ℕ) (x : Statement) → i < length xs → x ≡ get_or xs i x
    → told_of these (take (i + 1) xs) ≡ both (told_of these (take i xs)) (told_of these (x ∷ []))
told-more these xs i x l e = ap (told_of these) (take_more xs i x l ∙ ap (λ (y : Statement). take i xs ++ y ∷ []) (sym e)) ∙ then-told these (take i xs) x

-- ---- parts of an if or a case, one further

pub parts-more : {X : Type 0} (f : X → Told) (g : Part → Told) (ps new : List Part) (p : Part) (xs : List X) (i : ℕ) (x : X) → new ≡ ps ++ p ∷ [] → map g ps ≡ map f (take i xs)
    → g p ≡ f x → i < length xs → x ≡ get_or xs i x → map g new ≡ map f (take (i + 1) xs)
parts-more {X = X} f g ps new p xs i x is inv same l e =
    ap (map g) is ∙ (map-append g ps (p ∷ []) ∙ ((λ j. inv j ++ same j ∷ [])
    ∙ (sym (map-append f (take i xs) (x ∷ [])) ∙ ap (map f) (sym (take_more xs i x l ∙ ap (λ (y : X). take i xs ++ y ∷ []) (sym e))))))

-- and the last
pub parts-last : (g : Part → Told) (ps new : List Part) (p : Part) (ts : List Told) (t : Told) → new ≡ ps ++ p ∷ [] → map g ps ≡ ts → g p ≡ t → map g new ≡ ts ++ t ∷ []
parts-last g ps new p ts t is inv same = ap (map g) is ∙ (map-append g ps (p ∷ []) ∙ λ j. inv j ++ same j ∷ [])
