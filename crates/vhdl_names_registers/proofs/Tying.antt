-- Ifs of one edge become one from the front as from the back.
use Rattle.std.proofs.Common.{◌≡◌, ℕ, Bool, true, false, Option, Some, None, refl, ap, sym, ◌∙◌}
use Rattle.std.specs.Prelude.{option_map, unwrap_or}
use Rattle.vhdl_names_rules.specs.units.Expressions.{Test}
use Rattle.vhdl_names_rules.specs.units.Statements as s
use Rattle.vhdl_names_rules.specs.Rules.{then_some}
use Rattle.vhdl_names_rules.specs.Registers.{last_edge_first, behind, are_one_edge, followed, registered}
use Rattle.vhdl_names_registers.specs.Branching.{are_one}
use Rattle.vhdl_names_registers.specs.Tied.{edges_first, tied, goes_on, with_behind, merged, with_last, taken}

-- two walks do what one does
pub registered_is : (xs : s.Statements) → registered xs ≡ tied (edges_first xs)
registered_is s.done = refl
registered_is (s.step s.null_of rest) = registered_is rest
registered_is (s.step (s.if_of at bs) rest) = ap (followed at (last_edge_first at bs)) (registered_is rest)
registered_is (s.step (s.assign p g) rest) = ap (s.step (s.assign p g)) (registered_is rest)
registered_is (s.step (s.set at k p g) rest) = ap (s.step (s.set at k p g)) (registered_is rest)
registered_is (s.step (s.assign_in at x c g) rest) = ap (s.step (s.assign_in at x c g)) (registered_is rest)
registered_is (s.step (s.set_in at k c g) rest) = ap (s.step (s.set_in at k c g)) (registered_is rest)
registered_is (s.step (s.case_of at x alts) rest) = ap (s.step (s.case_of at x alts)) (registered_is rest)
registered_is (s.step (s.for_of at r body) rest) = ap (s.step (s.for_of at r body)) (registered_is rest)

pub behind_associates : (xs ys zs : s.Statements) → behind (behind xs ys) zs ≡ behind xs (behind ys zs)
behind_associates s.done ys zs = refl
behind_associates (s.step x xs) ys zs = ap (s.step x) (behind_associates xs ys zs)

pub behind_done : (xs : s.Statements) → behind xs s.done ≡ xs
behind_done s.done = refl
behind_done (s.step x xs) = ap (s.step x) (behind_done xs)

-- where the next goes on with it, the two are one
pub one_if : (at other : ℕ) (t r : Test) (xs ys rest : s.Statements) → are_one_edge t r ≡ true
    → followed at (s.branch t xs s.no_else) (s.step (s.if_of other (s.branch r ys s.no_else)) rest) ≡ s.step (s.if_of at (s.branch t (behind xs ys) s.no_else)) rest
one_if at other t r xs ys rest h =
    ap (λ b. unwrap_or (option_map (λ all. s.step (s.if_of at all) rest) (then_some b (s.branch t (behind xs ys) s.no_else)))
    (s.step (s.if_of at (s.branch t xs s.no_else)) (s.step (s.if_of other (s.branch r ys s.no_else)) rest))) h

-- and where it doesn't, they stay
pub two_ifs : (at other : ℕ) (bs cs : s.Branches) (rest : s.Statements) → are_one bs cs ≡ false
    → followed at bs (s.step (s.if_of other cs) rest) ≡ s.step (s.if_of at bs) (s.step (s.if_of other cs) rest)
two_ifs at other (s.branch t xs s.no_else) (s.branch r ys s.no_else) rest h =
    ap (λ b. unwrap_or (option_map (λ all. s.step (s.if_of at all) rest) (then_some b (s.branch t (behind xs ys) s.no_else)))
    (s.step (s.if_of at (s.branch t xs s.no_else)) (s.step (s.if_of other (s.branch r ys s.no_else)) rest))) h
two_ifs at other _ _ rest h = refl

-- ---- statements behind those of the last branch

behind_nothing : (bs : s.Branches) → with_behind bs s.done ≡ bs
behind_nothing (s.branch t xs (s.branch r ys bs)) = ap (s.branch t xs) (behind_nothing (s.branch r ys bs))
behind_nothing (s.branch t xs s.no_else) = ap (λ ys. s.branch t ys s.no_else) (behind_done xs)
behind_nothing (s.branch t xs (s.otherwise zs)) = ap (λ ys. s.branch t ys (s.otherwise zs)) (behind_done xs)
behind_nothing s.no_else = refl
behind_nothing (s.otherwise zs) = refl

behind_twice : (bs : s.Branches) (xs ys : s.Statements) → with_behind (with_behind bs xs) ys ≡ with_behind bs (behind xs ys)
behind_twice (s.branch t zs (s.branch r ws (s.branch u vs bs))) xs ys = ap (s.branch t zs) (behind_twice (s.branch r ws (s.branch u vs bs)) xs ys)
behind_twice (s.branch t zs (s.branch r ws s.no_else)) xs ys = ap (s.branch t zs) (behind_twice (s.branch r ws s.no_else) xs ys)
behind_twice (s.branch t zs (s.branch r ws (s.otherwise vs))) xs ys = ap (s.branch t zs) (behind_twice (s.branch r ws (s.otherwise vs)) xs ys)
behind_twice (s.branch t zs s.no_else) xs ys = ap (λ ws. s.branch t ws s.no_else) (behind_associates zs xs ys)
behind_twice (s.branch t zs (s.otherwise vs)) xs ys = ap (λ ws. s.branch t ws (s.otherwise vs)) (behind_associates zs xs ys)
behind_twice s.no_else xs ys = refl
behind_twice (s.otherwise zs) xs ys = refl

-- the edge stays
as_one_stays : (bs cs : s.Branches) (more : s.Statements) → are_one bs (with_behind cs more) ≡ are_one bs cs
as_one_stays (s.branch t xs s.no_else) (s.branch r ys s.no_else) more = refl
as_one_stays (s.branch t xs s.no_else) (s.branch r ys (s.otherwise zs)) more = refl
as_one_stays (s.branch t xs s.no_else) (s.branch r ys (s.branch u zs (s.branch v ws cs))) more = refl
as_one_stays (s.branch t xs s.no_else) (s.branch r ys (s.branch u zs cs)) more = refl
as_one_stays (s.branch t xs s.no_else) cs more = refl
as_one_stays bs cs more = refl

-- ---- the statements that stand last

pub last_behind : (xs : s.Statements) (x y : s.Statement) → with_last (behind xs (s.step x s.done)) y ≡ behind xs (s.step (merged x y) s.done)
last_behind s.done x y = refl
last_behind (s.step z s.done) x y = refl
last_behind (s.step z (s.step w xs)) x y = ap (s.step z) (last_behind (s.step w xs) x y)

last_twice : (xs : s.Statements) (y z : s.Statement) → ((x : s.Statement) → merged (merged x y) z ≡ merged x (merged y z))
    → with_last (with_last xs y) z ≡ with_last xs (merged y z)
last_twice s.done y z twice = refl
last_twice (s.step x s.done) y z twice = ap (λ w. s.step w s.done) (twice x)
last_twice (s.step x (s.step w s.done)) y z twice = ap (s.step x) (last_twice (s.step w s.done) y z twice)
last_twice (s.step x (s.step w (s.step v xs))) y z twice = ap (s.step x) (last_twice (s.step w (s.step v xs)) y z twice)

-- ---- from the front

abbrev pub first : s.Statements → Option s.Statement
first s.done = None
first (s.step x xs) = Some x

-- an if in front stays there, maybe with more statements
record Begins (at : ℕ) (bs : s.Branches) (xs : s.Statements) : Type 0 where
  more : s.Statements
  rest : s.Statements
  is : xs ≡ s.step (s.if_of at (with_behind bs more)) rest

begins_unchanged : (at : ℕ) (bs : s.Branches) (xs : s.Statements) → followed at bs xs ≡ s.step (s.if_of at bs) xs → Begins at bs (followed at bs xs)
begins_unchanged at bs xs is = record { more = s.done; rest = xs; is = is ∙ ap (λ cs. s.step (s.if_of at cs) xs) (sym (behind_nothing bs)) }

begins_one : (at other : ℕ) (t r : Test) (xs ys rest : s.Statements) (b : Bool) → are_one_edge t r ≡ b
    → Begins at (s.branch t xs s.no_else) (followed at (s.branch t xs s.no_else) (s.step (s.if_of other (s.branch r ys s.no_else)) rest))
begins_one at other t r xs ys rest true h = record { more = ys; rest = rest; is = one_if at other t r xs ys rest h }
begins_one at other t r xs ys rest false h =
    begins_unchanged at (s.branch t xs s.no_else) (s.step (s.if_of other (s.branch r ys s.no_else)) rest)
    (two_ifs at other (s.branch t xs s.no_else) (s.branch r ys s.no_else) rest h)

begins : (at : ℕ) (bs : s.Branches) (xs : s.Statements) → Begins at bs (followed at bs xs)
begins at (s.branch t xs s.no_else) (s.step (s.if_of other (s.branch r ys s.no_else)) rest) = begins_one at other t r xs ys rest (are_one_edge t r) refl
begins at bs (s.step (s.if_of other cs) rest) = begins_unchanged at bs (s.step (s.if_of other cs) rest) refl
begins at bs (s.step x rest) = begins_unchanged at bs (s.step x rest) refl
begins at bs s.done = begins_unchanged at bs s.done refl

-- what isn't of one edge with the next stands alone
stands_alone : (x : s.Statement) (xs : s.Statements) → goes_on x (first xs) ≡ false → tied (s.step x xs) ≡ s.step x (tied xs)
stands_alone (s.if_of at bs) (s.step (s.if_of other cs) rest) h =
    let b = begins other cs (tied rest) in
    ap (followed at bs) b.is ∙ (two_ifs at other bs (with_behind cs b.more) b.rest (as_one_stays bs cs b.more ∙ h) ∙ ap (s.step (s.if_of at bs)) (sym b.is))
stands_alone x xs h = refl

-- and what is has it in it, as it has become
record HasNext (x : s.Statement) (xs : s.Statements) : Type 0 where
  next : s.Statement
  rest : s.Statements
  begins_so : tied xs ≡ s.step next rest
  whole : tied (s.step x xs) ≡ s.step (merged x next) rest
  twice : (y : s.Statement) → merged (merged y x) next ≡ merged y (merged x next)

merged_twice : (at other : ℕ) (t r : Test) (xs ys : s.Statements) (x : s.Statement) →
    merged (merged x (s.if_of at (s.branch t xs s.no_else))) (s.if_of other (s.branch r ys s.no_else))
    ≡ merged x (s.if_of at (s.branch t (behind xs ys) s.no_else))
merged_twice at other t r xs ys (s.if_of p bs) = ap (s.if_of p) (behind_twice bs xs ys)
merged_twice at other t r xs ys x = refl

has_next : (x : s.Statement) (xs : s.Statements) → goes_on x (first xs) ≡ true → HasNext x xs
has_next (s.if_of at (s.branch t xs s.no_else)) (s.step (s.if_of other (s.branch r ys s.no_else)) rest) h =
    let b = begins other (s.branch r ys s.no_else) (tied rest) in
    record {
      next = s.if_of other (s.branch r (behind ys b.more) s.no_else);
      rest = b.rest;
      begins_so = b.is;
      whole = ap (followed at (s.branch t xs s.no_else)) b.is ∙ one_if at other t r xs (behind ys b.more) b.rest h;
      twice = merged_twice at other t r xs (behind ys b.more);
    }
has_next (s.if_of at bs) (s.step (s.if_of other cs) rest) h = absurd cc
has_next x (s.step y rest) h = absurd cc
has_next x s.done h = absurd cc

-- ---- a walk

-- what a walk has made, and what it makes of the others: where it is open, the first of these is in the last of those
abbrev pub closing : Bool → s.Statements → s.Statements → s.Statements
closing true xs (s.step y ys) = behind (with_last xs y) ys
closing b xs ys = behind xs ys

pub walks_on : (is_open goes : Bool) (xs : s.Statements) (x : s.Statement) (rest : s.Statements) → goes_on x (first rest) ≡ goes
    → closing goes (taken is_open xs x) (tied rest) ≡ closing is_open xs (tied (s.step x rest))
walks_on false false xs x rest h = behind_associates xs (s.step x s.done) (tied rest) ∙ ap (behind xs) (sym (stands_alone x rest h))
walks_on true false xs x rest h = ap (closing true xs) (sym (stands_alone x rest h))
walks_on false true xs x rest h =
    let n = has_next x rest h in
    ap (closing true (behind xs (s.step x s.done))) n.begins_so
    ∙ (ap (λ ys. behind ys n.rest) (last_behind xs x n.next) ∙ (behind_associates xs (s.step (merged x n.next) s.done) n.rest ∙ ap (behind xs) (sym n.whole)))
walks_on true true xs x rest h =
    let n = has_next x rest h in
    ap (closing true (with_last xs x)) n.begins_so ∙ (ap (λ ys. behind ys n.rest) (last_twice xs x n.next n.twice) ∙ ap (closing true xs) (sym n.whole))

pub walk_ends : (is_open : Bool) (xs : s.Statements) → closing is_open xs s.done ≡ xs
walk_ends true xs = behind_done xs
walk_ends false xs = behind_done xs
