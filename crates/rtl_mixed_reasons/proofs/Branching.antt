-- Ifs of a body by their branches, and conditions by their chains.
use Rattle.std.proofs.Common.{◌≡◌, ℕ, zero, suc, ◌+◌, ◌<◌, ◌≤◌, subst, Bool, true, false, ◌&&◌, ◌||◌, List, [], ◌∷◌, ◌++◌, length, get_or, take, drop, Option, Some, None, Vec, Global, refl, sym, ap, ◌∙◌, append-nil, arith}
use Rattle.std.specs.Prelude.{is_some, is_none, nat_lt, if◌then◌else◌, option_map, option_and_then, flat_map}
use Rattle.std.specs.Option.{option_or}
use Rattle.std.proofs.lemmas.List.{take_more, length-map, get_or-map}
use Rattle.rtl_model.specs.bodies.Body as bodies
use Rattle.rtl_model.specs.bodies.Leaves.{Leaf, of_nets, of_event, of_elements, test_leaves, read_of, event_of}
use Rattle.rtl_model.proofs.bodies.Leaves.{leaves_tell}
use Rattle.rtl_net.specs.declared.body.Statement.{Statement}
use Rattle.rtl_net.specs.declared.body.Statement.TheVariants as vs
use Rattle.rtl_net.specs.declared.body.Branch.{Branch}
use Rattle.rtl_net.specs.declared.body.TestLink.{TestLink}
use Rattle.rtl_net.specs.Bodies.{test_view, statements_of, branches_of, otherwise_of, test_links_of}
use Rattle.rtl_net.specs.Visits.{Tells}
use Rattle.rtl_net.specs.declared.body.Test.{Test}
use Rattle.rtl_net.specs.declared.body.Test.TheVariants as vt
use Rattle.rtl_net.proofs.Rows.{view_if}
use Rattle.rtl_body_facts.specs.Reading.{some}
use Rattle.rtl_mixed_reasons.specs.Edges.{has_two, holds_of}
use Rattle.rtl_mixed_reasons.specs.declared.edges.Events.{Events}
use Rattle.rtl_mixed_reasons.specs.declared.reason.Reason.{Reason}
use Rattle.rtl_mixed_reasons.specs.declared.reason.ReasonKind.TheVariants.{ResetBehind, BehindEdge}
use Rattle.rtl_model.specs.bodies.Reads.{events, test_events}
use Rattle.rtl_net.specs.declared.process.Process.{Process}
use Rattle.rtl_net.specs.Nets.{NetlistView}
use Rattle.rtl_mixed_reasons.specs.declared.ifs.EdgeIf.{EdgeIf}
use Rattle.rtl_mixed_reasons.specs.declared.reads.First.{First}
use Rattle.rtl_mixed_reasons.specs.Reasons.{plain, naming, at_or, at_of, branches_of_if, if_branches, conditions, branch_of, edge_branch, has_else, tests_of, inner_events, head_of, first_gated, gated_kind, gated_in, gated_edge, has_one, is_sole, no_reset, edge_if, elsewhere, elsewhere_in, told_elsewhere, kind_at, reset_net, sole_reset, reset_behind, first_that_fits, own_reasons, reset_reason, other_before, computes, assigns_alike}

-- ---- ifs

-- the branches of an if, with its else
abbrev pub whole : Vec Branch Global → Option (Vec Statement Global) → bodies.Branches
whole branches last = branches_of (otherwise_of (option_map (λ v. v.items) last)) branches.items

abbrev pub whole-of : List Branch → Option (Vec Statement Global) → bodies.Branches
whole-of bs last = branches_of (otherwise_of (option_map (λ v. v.items) last)) bs

pub if-branches : (x : Statement) (at : ℕ) (branches : Vec Branch Global) (last : Option (Vec Statement Global)) → x ≡ vs.If at branches last
    → if_branches x ≡ Some (whole branches last)
if-branches x at branches last is = ap if_branches is ∙ ap branches_of_if (view_if at branches last)

pub if-at-or : (given : ℕ) (x : Statement) (at : ℕ) (branches : Vec Branch Global) (last : Option (Vec Statement Global)) → x ≡ vs.If at branches last → at_or given x ≡ at
if-at-or given x at branches None is = ap (at_or given) is
if-at-or given x at branches (Some v) is = ap (at_or given) is

if-at : (x : Statement) (at : ℕ) (branches : Vec Branch Global) (last : Option (Vec Statement Global)) → x ≡ vs.If at branches last → at_of x ≡ at
if-at x at branches last is = if-at-or 0 x at branches last is

-- what is told of an if by its place and its branches
pub of-if : {A : Type 0} (f : ℕ → bodies.Branches → Option A) (x : Statement) (at : ℕ) (branches : Vec Branch Global) (last : Option (Vec Statement Global)) → x ≡ vs.If at branches last
    → option_and_then (f (at_of x)) (if_branches x) ≡ f at (whole branches last)
of-if f x at branches last is = ap (option_and_then (f (at_of x))) (if-branches x at branches last is) ∙ ap (λ (a : ℕ). f a (whole branches last)) (if-at x at branches last is)

conditions-behind : (last : bodies.Branches) (bs : List Branch) → conditions last ≡ [] → conditions (branches_of last bs) ≡ tests_of bs
conditions-behind last [] none = none
conditions-behind last (b ∷ bs) none = ap (λ ts. test_view b.test ∷ ts) (conditions-behind last bs none)

no-condition : (last : Option (List Statement)) → conditions (otherwise_of last) ≡ []
no-condition None = refl
no-condition (Some xs) = refl

pub conditions-are : (last : Option (List Statement)) (bs : List Branch) → conditions (branches_of (otherwise_of last) bs) ≡ tests_of bs
conditions-are last bs = conditions-behind (otherwise_of last) bs (no-condition last)

pub else-is : (last : Option (List Statement)) (bs : List Branch) → has_else (branches_of (otherwise_of last) bs) ≡ is_some last
else-is None [] = refl
else-is (Some xs) [] = refl
else-is last (b ∷ bs) = else-is last bs

pub test-at : (bs : List Branch) (i : ℕ) (b : Branch) → i < length bs → b ≡ get_or bs i b → test_view b.test ≡ get_or (tests_of bs) i (test_view b.test)
test-at bs i b l e = ap (λ (x : Branch). test_view x.test) e ∙ sym (get_or-map (λ (x : Branch). test_view x.test) bs i b (test_view b.test) l)

pub test-there : (bs : List Branch) (i : ℕ) → i < length bs → i < length (tests_of bs)
test-there bs i l = subst (λ (n : ℕ). i < n) (sym (length-map bs (λ (b : Branch). test_view b.test))) l

pub tests-end : (bs : List Branch) (i : ℕ) → length bs ≤ i → length (tests_of bs) ≤ i
tests-end bs i l = subst (λ (n : ℕ). n ≤ i) (sym (length-map bs (λ (b : Branch). test_view b.test))) l

pub else-there : (last : Option (Vec Statement Global)) → is_some (option_map (λ v. v.items) last) ≡ is_some last
else-there None = refl
else-there (Some v) = refl

pub gated-is : (wide : Bool) (x : Statement) (at : ℕ) (branches : Vec Branch Global) (last : Option (Vec Statement Global)) → x ≡ vs.If at branches last
    → option_map (λ before. plain (gated_kind wide (nat_lt 1 (length (drop before (tests_of branches.items))) || is_some last)) at) (first_gated 0 (tests_of branches.items)) ≡ gated_edge wide x
gated-is wide x at branches last is =
    let items : Option (List Statement) = option_map (λ v. v.items) last in
    sym (of-if (gated_in wide) x at branches last is
    ∙ (λ k. option_map (λ before. plain (gated_kind wide (nat_lt 1 (length (drop before (conditions-are items branches.items k))) || (else-is items branches.items ∙ else-there last) k)) at) (first_gated 0 (conditions-are items branches.items k))))

pub elsewhere-if : (x : Statement) (at : ℕ) (branches : Vec Branch Global) (last : Option (Vec Statement Global)) (inner edge : Bool) → x ≡ vs.If at branches last
    → some (events (statements_of (x ∷ []))) ≡ true → some (inner_events (whole branches last)) ≡ inner → is_some (edge_if 0 x) ≡ edge
    → Some (plain (kind_at inner edge) at) ≡ elsewhere x
elsewhere-if x at branches last inner edge is there e k =
    sym (ap (λ (b : Bool). if b then Some (told_elsewhere x) else None) there
    ∙ ((λ j. Some (elsewhere_in (if-at x at branches last is j) (k j) (if-branches x at branches last is j)))
    ∙ (λ j. Some (plain (kind_at (e j) edge) at))))

-- ---- the branches of an if, told by its list of them

module _ (p : Process) (edge : ℕ → Bool) where
  pub sole-many : (last : Option (List Statement)) (bs : List Branch) → (length bs ≡ 1 → ⊥) → None ≡ sole_reset p edge (branches_of (otherwise_of last) bs)
  sole-many None [] n = refl
  sole-many (Some xs) [] n = refl
  sole-many last (b ∷ []) n = absurd (n refl)
  sole-many last (b ∷ d ∷ bs) n = refl

  pub sole-else : (last : Option (Vec Statement Global)) (bs : List Branch) → is_some last ≡ true → None ≡ sole_reset p edge (branches_of (otherwise_of (option_map (λ v. v.items) last)) bs)
  sole-else None bs e = absurd (let k : false ≡ true = e in cc)
  sole-else (Some v) [] e = refl
  sole-else (Some v) (b ∷ []) e = refl
  sole-else (Some v) (b ∷ d ∷ bs) e = refl

  -- an if with one branch and no else
  pub sole-one : (last : Option (Vec Statement Global)) (bs : List Branch) (b : Branch) (so : Bool) → length bs ≡ 1 → is_some last ≡ false → b ≡ get_or bs 0 b
      → (is_none (computes false 0 (statements_of b.statements.items)) && assigns_alike p edge (statements_of b.statements.items)) ≡ so
      → (if so then reset_net (test_view b.test) else None) ≡ sole_reset p edge (branches_of (otherwise_of (option_map (λ v. v.items) last)) bs)
  sole-one (Some v) bs b so one none is e = absurd (let k : true ≡ false = none in cc)
  sole-one None [] b so one none is e = absurd (omega arith)
  sole-one None (x ∷ y ∷ bs) b so one none is e = absurd (omega arith)
  sole-one None (x ∷ []) b so one none is e =
      sym (ap (λ (a : Bool). if a then reset_net (test_view b.test) else None) e)
      ∙ ap (λ (y : Branch). if is_none (computes false 0 (statements_of y.statements.items)) && assigns_alike p edge (statements_of y.statements.items) then reset_net (test_view y.test) else None) is

  pub behind-is : (x : Statement) (at : ℕ) (branches : Vec Branch Global) (last : Option (Vec Statement Global)) → x ≡ vs.If at branches last
      → option_map (naming ResetBehind at) (sole_reset p edge (whole branches last)) ≡ reset_behind p edge x
  behind-is x at branches last is =
      sym (ap (λ (o : Option bodies.Branches). option_map (naming ResetBehind (at_of x)) (option_and_then (sole_reset p edge) o)) (if-branches x at branches last is)
      ∙ ap (λ (a : ℕ). option_map (naming ResetBehind a) (sole_reset p edge (whole branches last))) (if-at x at branches last is))

-- an if behind the edge as a reset, by the list of its branches
module _ (at : ℕ) where
  pub unlike-many : (last : Option (List Statement)) (bs : List Branch) → (length bs ≡ 1 → ⊥) → Some (plain BehindEdge at) ≡ no_reset at (branches_of (otherwise_of last) bs)
  unlike-many None [] n = refl
  unlike-many (Some xs) [] n = refl
  unlike-many last (b ∷ []) n = absurd (n refl)
  unlike-many last (b ∷ d ∷ bs) n = refl

  pub unlike-else : (last : Option (Vec Statement Global)) (bs : List Branch) → is_some last ≡ true → Some (plain BehindEdge at) ≡ no_reset at (whole-of bs last)
  unlike-else None bs e = absurd (let k : false ≡ true = e in cc)
  unlike-else (Some v) [] e = refl
  unlike-else (Some v) (b ∷ []) e = refl
  unlike-else (Some v) (b ∷ d ∷ bs) e = refl

-- whether it has one branch and no else
one-is : (last : Option (Vec Statement Global)) (bs : List Branch) → length bs ≡ 1 → is_none last ≡ has_one (whole-of bs last)
one-is None [] e = absurd (omega arith)
one-is (Some v) [] e = refl
one-is None (b ∷ []) e = refl
one-is (Some v) (b ∷ []) e = refl
one-is last (b ∷ d ∷ bs) e = absurd (omega arith)

many-is : (last : Option (Vec Statement Global)) (bs : List Branch) → (length bs ≡ 1 → ⊥) → false ≡ has_one (whole-of bs last)
many-is None [] n = refl
many-is (Some v) [] n = refl
many-is last (b ∷ []) n = absurd (n refl)
many-is last (b ∷ d ∷ bs) n = refl

pub sole-not : (x : Statement) (at : ℕ) (branches : Vec Branch Global) (last : Option (Vec Statement Global)) → x ≡ vs.If at branches last → (length branches.items ≡ 1 → ⊥) → false ≡ is_sole x
sole-not x at branches last is n = many-is last branches.items n ∙ sym (ap (holds_of has_one) (if-branches x at branches last is))

pub sole-is : (x : Statement) (at : ℕ) (branches : Vec Branch Global) (last : Option (Vec Statement Global)) → x ≡ vs.If at branches last → length branches.items ≡ 1 → is_none last ≡ is_sole x
sole-is x at branches last is e = one-is last branches.items e ∙ sym (ap (holds_of has_one) (if-branches x at branches last is))

-- what is told of an if with an edge itself, by the list of its branches
first-is : (last : Option (List Statement)) (bs : List Branch) → branch_of (branches_of (otherwise_of last) bs) 0 ≡ branch_of (branches_of bodies.no_else bs) 0
first-is None [] = refl
first-is (Some xs) [] = refl
first-is last (b ∷ bs) = refl

abbrev pub told_by : (at : ℕ) → Option Reason → Option Reason → (behind : Bool) → Option Reason
told_by at first second behind = first_that_fits (first ∷ second ∷ (if behind then Some (plain BehindEdge at) else None) ∷ [])

pub own-is : (net : NetlistView) (i : EdgeIf) (last : Option (Vec Statement Global)) (bs : List Branch)
    → first_that_fits (own_reasons net i (branches_of (otherwise_of (option_map (λ v. v.items) last)) bs))
    ≡ told_by i.at (reset_reason net i (tests_of bs) (branch_of (branches_of bodies.no_else bs) 0)) (other_before i.at i.before (tests_of bs)) (nat_lt 1 (length (drop i.before (tests_of bs))) || is_some last)
own-is net i last bs = go (option_map (λ v. v.items) last) ∙ ap (λ (b : Bool). told_by i.at (reset_reason net i (tests_of bs) (branch_of (branches_of bodies.no_else bs) 0)) (other_before i.at i.before (tests_of bs)) (nat_lt 1 (length (drop i.before (tests_of bs))) || b)) (else-there last)
  where
    go : (o : Option (List Statement)) → first_that_fits (own_reasons net i (branches_of (otherwise_of o) bs))
        ≡ told_by i.at (reset_reason net i (tests_of bs) (branch_of (branches_of bodies.no_else bs) 0)) (other_before i.at i.before (tests_of bs)) (nat_lt 1 (length (drop i.before (tests_of bs))) || is_some o)
    go o = λ k. told_by i.at (reset_reason net i (conditions-are o bs k) (first-is o bs k)) (other_before i.at i.before (conditions-are o bs k)) (nat_lt 1 (length (drop i.before (conditions-are o bs k))) || else-is o bs k)

-- the branch before which so many stand
branch-there : (last : bodies.Branches) (bs : List Branch) (before : ℕ) (b : Branch) → before < length bs → b ≡ get_or bs before b
    → branch_of (branches_of last bs) before ≡ statements_of b.statements.items
branch-there last [] before b l is = absurd (omega arith)
branch-there last (x ∷ bs) zero b l is = sym (ap (λ (y : Branch). statements_of y.statements.items) is)
branch-there last (x ∷ bs) (suc before) b l is = branch-there last bs before b (omega arith) is

branch-missing : (last : Option (List Statement)) (bs : List Branch) (before : ℕ) → length bs ≤ before → branch_of (branches_of (otherwise_of last) bs) before ≡ bodies.done
branch-missing None [] before l = refl
branch-missing (Some xs) [] before l = refl
branch-missing last (x ∷ bs) zero l = absurd (omega arith)
branch-missing last (x ∷ bs) (suc before) l = branch-missing last bs before (omega arith)

module _ (x : Statement) (at : ℕ) (branches : Vec Branch Global) (last : Option (Vec Statement Global)) (is : x ≡ vs.If at branches last) (before : ℕ) where
  pub edge-branch : (b : Branch) → before < length branches.items → b ≡ get_or branches.items before b → edge_branch before (if_branches x) ≡ statements_of b.statements.items
  edge-branch b l e =
      ap (edge_branch before) (if-branches x at branches last is) ∙ branch-there (otherwise_of (option_map (λ v. v.items) last)) branches.items before b l e

  pub no-edge-branch : length branches.items ≤ before → edge_branch before (if_branches x) ≡ bodies.done
  no-edge-branch l = ap (edge_branch before) (if-branches x at branches last is) ∙ branch-missing (option_map (λ v. v.items) last) branches.items before l

-- ---- chains

-- the test at which a chain starts
abbrev pub start_view : Test → bodies.Test
start_view (vt.Combined' p first shape rest) = test_view first
start_view t = test_view t

links-append : (left : bodies.Test) (ls : List TestLink) (l : TestLink) → test_links_of left (ls ++ l ∷ []) ≡ bodies.combined l.operator (test_links_of left ls) (test_view l.operand)
links-append left [] l = refl
links-append left (k ∷ ks) l = links-append (bodies.combined k.operator left (test_view k.operand)) ks l

pub links-more : (left : bodies.Test) (ls : List TestLink) (i : ℕ) (l : TestLink) → i < length ls → l ≡ get_or ls i l
    → test_links_of left (take (i + 1) ls) ≡ bodies.combined l.operator (test_links_of left (take i ls)) (test_view l.operand)
links-more left ls i l k e = ap (test_links_of left) (take_more ls i l k ∙ ap (λ (m : TestLink). take i ls ++ m ∷ []) (sym e)) ∙ links-append left (take i ls) l

-- ---- the first net that is read

or-assoc : (a b d : Option ℕ) → option_or (option_or a b) d ≡ option_or a (option_or b d)
or-assoc None b d = refl
or-assoc (Some x) b d = refl

head-append : (xs ys : List ℕ) → head_of (xs ++ ys) ≡ option_or (head_of xs) (head_of ys)
head-append [] ys = refl
head-append (x ∷ xs) ys = refl

or-none : (a : Option ℕ) → a ≡ option_or a None
or-none None = refl
or-none (Some x) = refl

pub told-first : (old new : First) (ls : List Leaf) → Tells (λ (u : First) l (v : First). v.net ≡ option_or u.net (head_of (read_of l))) old ls new
    → new.net ≡ option_or old.net (head_of (flat_map read_of ls))
told-first old new [] h = ap (λ (f : First). f.net) (sym h) ∙ or-none old.net
told-first old new (x ∷ xs) (mid, one, rest) =
    told-first mid new xs rest
    ∙ (ap (λ (a : Option ℕ). option_or a (head_of (flat_map read_of xs))) one
    ∙ (or-assoc old.net (head_of (read_of x)) (head_of (flat_map read_of xs)) ∙ ap (option_or old.net) (sym (head-append (read_of x) (flat_map read_of xs)))))

-- ---- whether several events are looked for

several-more : (l : Leaf) (xs : List ℕ) → has_two (event_of l ++ xs) ≡ ((some (event_of l) && some xs) || has_two xs)
several-more (of_event n) [] = refl
several-more (of_event n) (x ∷ xs) = refl
several-more (of_nets ns) xs = refl
several-more (of_elements es) xs = refl

some-more : (l : Leaf) (xs : List ℕ) → some (event_of l ++ xs) ≡ (some (event_of l) || some xs)
some-more (of_event n) xs = refl
some-more (of_nets ns) xs = refl
some-more (of_elements es) xs = refl

regrouped : (a b e r t : Bool) → (((a || (b && e)) || ((b || e) && r)) || t) ≡ ((a || (b && (e || r))) || ((e && r) || t))
regrouped true b e r t = refl
regrouped false true true r t = refl
regrouped false true false r t = refl
regrouped false false true r t = refl
regrouped false false false r t = refl

alone : (a b : Bool) → a ≡ ((a || (b && false)) || false)
alone true b = refl
alone false true = refl
alone false false = refl

pub test-events : (t : bodies.Test) → test_events t ≡ flat_map event_of (test_leaves t)
test-events t =
    let alone = bodies.step (bodies.if_of (bodies.branch t bodies.done bodies.no_else)) bodies.done in
    sym (append-nil (test_events t ++ []) ∙ append-nil (test_events t))
    ∙ (leaves_tell.events_are alone ∙ ap (flat_map event_of) (append-nil (test_leaves t ++ []) ∙ append-nil (test_leaves t)))

pub told-several : (old new : Events) (ls : List Leaf)
    → Tells (λ (u : Events) l (v : Events). (v.some ≡ (u.some || some (event_of l))) × (v.several ≡ (u.several || (u.some && some (event_of l))))) old ls new
    → new.several ≡ ((old.several || (old.some && some (flat_map event_of ls))) || has_two (flat_map event_of ls))
told-several old new [] h = ap (λ (e : Events). e.several) (sym h) ∙ alone old.several old.some
told-several old new (l ∷ ls) (mid, (one, two), rest) =
    let xs = flat_map event_of ls in
    told-several mid new ls rest
    ∙ ((λ i. (two i || (one i && some xs)) || has_two xs)
    ∙ (regrouped old.several old.some (some (event_of l)) (some xs) (has_two xs)
    ∙ (λ i. (old.several || (old.some && sym (some-more l xs) i)) || sym (several-more l xs) i)))
