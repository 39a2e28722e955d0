-- The parts of an if or a case, one after another: what is left of it, and what has been taken.
use Rattle.std.proofs.Common.{◌≡◌, ℕ, ◌+◌, ◌<◌, ◌≤◌, Bool, true, false, List, [], ◌∷◌, ◌++◌, length, get_or, drop, Vec, Global, Option, Some, None, unwrap_or, refl, sym, ap, ◌∙◌, subst, arith}
use Rattle.std.proofs.lemmas.List.{drop_more, drop_all, append_assoc}
use Rattle.std.specs.Ordering.{nat_cmp}
use Rattle.std.specs.BTreeMap.{get}
use Rattle.rtl_model.specs.bodies.Assigns.{Target, driver, element}
use Rattle.rtl_model.specs.bodies.Body as m
use Rattle.rtl_model.specs.bodies.Looks.{Sight, Looks, test_looks, body_looks, branches_look, alternatives_look, stmt_looks, whole, value_looks}
use Rattle.rtl_net.specs.declared.body.Statement.{Statement}
use Rattle.rtl_net.specs.declared.body.Statement.TheVariants as vs
use Rattle.rtl_net.specs.declared.body.Value.{Value}
use Rattle.rtl_net.specs.declared.body.Branch.{Branch}
use Rattle.rtl_net.specs.declared.body.Alternative.{Alternative}
use Rattle.rtl_net.specs.Bodies.{test_view, value_view, statement_view, statements_of, branches_of, alternatives_of}
use Rattle.rtl_net.proofs.Rows.{view_if, view_case}
use Rattle.rtl_looks.specs.declared.hubs.Look.{Look}
use Rattle.rtl_looks.specs.declared.hubs.Hub.{Hub}
use Rattle.rtl_looks.specs.declared.env.Env.{Env}
use Rattle.rtl_looks.specs.declared.changes.Changes.{Changes}
use Rattle.rtl_looks.specs.declared.ends.End.{End}
use Rattle.rtl_looks.specs.declared.ends.Ends.{Ends}
use Rattle.rtl_looks.specs.declared.statements.Rest.{Rest}
use Rattle.rtl_looks.specs.declared.statements.Rest.TheVariants as r
use Rattle.rtl_looks.specs.Denoting.{AreInOrder}
use Rattle.rtl_looks.specs.Evaluating.{Joins, Sums}
use Rattle.rtl_looks.specs.Targets.{look_of, was, first_at, Means}
use Rattle.rtl_looks.specs.Parts.{no_end, end_of, Covers, Behind, Finished}
use Rattle.rtl_looks.specs.Walks.{Walked, decided_of, Parted, Branched, Rounds}
use Rattle.rtl_looks.specs.Rests.{PartsWalked, Leaves, Rests, Left}
use Rattle.rtl_looks.proofs.Joining.{later, grows_none, grows_then}
use Rattle.rtl_looks.proofs.Parting.{covers_skip}
use Rattle.rtl_looks.proofs.Walking.{means_later, means_order, means_in, elements_mean, behind_later, behind_order, behind_alike}

-- ---- what has been taken, and what is left

pub parts_none : (whole : List Sight → Looks → Looks) (round : Option Look) (old : List Hub) (env : Env) (ends : Ends) → PartsWalked whole whole round round old old env env ends ends
parts_none whole round old env ends = record {
  grows = grows_none old;
  restored = λ t. refl;
  more = omega arith;
  reached = λ sights so_far all d m b. record { conditions = sights; taken = all; round_denotes = d; behind = b; same = λ t. refl };
}

module _ {rest whole : List Sight → Looks → Looks} {round0 round : Option Look} {old mid : List Hub} {env0 env : Env} {ends0 ends : Ends} where
  pub parts_same : (other : List Sight → Looks → Looks) → ((sights : List Sight) (so_far : Looks) (t : Target) → rest sights so_far t ≡ other sights so_far t)
      → PartsWalked rest whole round0 round old mid env0 env ends0 ends → PartsWalked other whole round0 round old mid env0 env ends0 ends
  parts_same other is h = record {
    grows = h.grows;
    restored = h.restored;
    more = h.more;
    reached = λ sights so_far all d m b. let r = h.reached sights so_far all d m b in record {
      conditions = r.conditions;
      taken = r.taken;
      round_denotes = r.round_denotes;
      behind = r.behind;
      same = λ t. ap (λ (s : List Sight). r.taken t ++ s) (sym (is r.conditions so_far t)) ∙ r.same t;
    };
  }

  -- the same environment, later
  walked_in : PartsWalked rest whole round0 round old mid env0 env ends0 ends → {so_far : Looks} → AreInOrder mid → Means old env0 so_far → Means mid env so_far
  walked_in h order m = means_in env h.restored (means_later h.grows order m)

  module _ {new : List Hub} {env' : Env} {ends' : Ends} {run : List Sight → Looks → Looks} where
    pub parts_more : {next : Option Look} (test : m.Test) (left : List Sight → Looks → Looks) → PartsWalked rest whole round0 round old mid env0 env ends0 ends
        → Branched test run round next mid new env env' ends ends'
        → ((sights : List Sight) (so_far : Looks) (t : Target) → rest sights so_far t ≡ run sights so_far t ++ left (sights ++ test_looks so_far test) so_far t)
        → PartsWalked left whole round0 next old new env0 env' ends0 ends'
    parts_more test left h b is = record {
      grows = grows_then h.grows b.parted.grows;
      restored = λ t. b.parted.restored t ∙ h.restored t;
      more = let x = h.more in let y = b.parted.more in omega arith;
      reached = λ sights so_far all d m behind.
          let r = h.reached sights so_far all d m behind in
          let n = walked_in h r.round_denotes.order m in
          record {
            conditions = r.conditions ++ test_looks so_far test;
            taken = λ t. r.taken t ++ run r.conditions so_far t;
            round_denotes = b.after r.conditions so_far r.taken r.round_denotes n r.behind;
            behind = b.parted.behind r.conditions so_far r.taken r.round_denotes n r.behind;
            same = λ t. append_assoc (r.taken t) (run r.conditions so_far t) (left (r.conditions ++ test_looks so_far test) so_far t)
                ∙ (ap (λ (s : List Sight). r.taken t ++ s) (sym (is r.conditions so_far t)) ∙ r.same t);
          };
    }

    pub parts_beside : (left : List Sight → Looks → Looks) → PartsWalked rest whole round0 round old mid env0 env ends0 ends → Parted run round mid new env env' ends ends'
        → ((sights : List Sight) (so_far : Looks) (t : Target) → rest sights so_far t ≡ run sights so_far t ++ left sights so_far t)
        → PartsWalked left whole round0 round old new env0 env' ends0 ends'
    parts_beside left h p is = record {
      grows = grows_then h.grows p.grows;
      restored = λ t. p.restored t ∙ h.restored t;
      more = let x = h.more in let y = p.more in omega arith;
      reached = λ sights so_far all d m behind.
          let r = h.reached sights so_far all d m behind in
          let b = p.behind r.conditions so_far r.taken r.round_denotes (walked_in h r.round_denotes.order m) r.behind in
          record {
            conditions = r.conditions;
            taken = λ t. r.taken t ++ run r.conditions so_far t;
            round_denotes = later p.grows (behind_order b) r.round_denotes;
            behind = b;
            same = λ t. append_assoc (r.taken t) (run r.conditions so_far t) (left r.conditions so_far t)
                ∙ (ap (λ (s : List Sight). r.taken t ++ s) (sym (is r.conditions so_far t)) ∙ r.same t);
          };
    }

    pub parts_last : PartsWalked rest whole round0 round old mid env0 env ends0 ends → Parted run round mid new env env' ends ends'
        → ((sights : List Sight) (so_far : Looks) (t : Target) → rest sights so_far t ≡ run sights so_far t) → Parted whole round0 old new env0 env' ends0 ends'
    parts_last h p is = record {
      grows = grows_then h.grows p.grows;
      restored = λ t. p.restored t ∙ h.restored t;
      more = let x = h.more in let y = p.more in omega arith;
      behind = λ sights so_far all d m behind.
          let r = h.reached sights so_far all d m behind in
          behind_alike (λ t. all t ++ whole sights so_far t) (λ t. ap (λ (s : List Sight). r.taken t ++ s) (sym (is r.conditions so_far t)) ∙ r.same t)
          (p.behind r.conditions so_far r.taken r.round_denotes (walked_in h r.round_denotes.order m) r.behind);
    }

-- ---- the whole

-- no part is taken
pub no_parts : (hubs : List Hub) (ends : Ends) (so_far : Looks) → AreInOrder hubs → ends.parts ≡ 0
    → ((k : ℕ) → get nat_cmp ends.drivers k ≡ None) → ((k : ℕ) → get nat_cmp ends.elements k ≡ None) → Behind hubs ends so_far (λ t. [])
no_parts hubs ends so_far order at_start a b = record { each = λ t. subst (λ (n : ℕ). Covers hubs (end_of ends t) n (so_far t) []) (sym at_start) (subst (λ (e : End). Covers hubs e 0 (so_far t) []) (sym (no_end_of t)) (first t)) }
  where
    no_end_of : (t : Target) → end_of ends t ≡ no_end
    no_end_of (driver k) = ap (λ (w : Option End). unwrap_or w no_end) (a k)
    no_end_of (element k) = ap (λ (w : Option End). unwrap_or w no_end) (b k)

    first : (t : Target) → Covers hubs no_end 0 (so_far t) []
    first t = record { order = order; there = tt; within = omega arith; nets = λ n. refl }

pub whole_walked : {whole : List Sight → Looks → Looks} {round : Option Look} {old mid new : List Hub} {env env' env'' : Env} {changes changes' : Changes} {ends ends' : Ends} → ends.parts ≡ 0
    → ((k : ℕ) → get nat_cmp ends.drivers k ≡ None) → ((k : ℕ) → get nat_cmp ends.elements k ≡ None)
    → Parted whole round old mid env env' ends ends' → Finished mid new env' env'' changes changes' ends' → Walked whole round old new env env'' changes changes'
whole_walked {whole} {old = old} {env = env} {env' = env'} {changes = changes} {ends = ends} at_start a b p f = record {
  grows = grows_then p.grows f.grows;
  means = λ sights so_far d m.
      let c = p.behind sights so_far (λ t. []) d m (no_parts old ends so_far (means_order m) at_start a b) in
      f.denotes so_far (whole sights so_far) (let x = p.more in omega arith) c (means_in env' p.restored (means_later p.grows (behind_order c) m));
  restored = λ t. f.restored t ∙ same t (p.restored t);
}
  where
    same : (t : Target) → look_of env' t ≡ look_of env t → was changes env' t ≡ was changes env t
    same (driver k) e = ap (unwrap_or (first_at changes.drivers.items k)) e
    same (element k) e = ap (unwrap_or (first_at changes.elements.items k)) e

-- ---- branches and alternatives

decided_is : (t : m.Test) (b : Bool) → decided_of t ≡ Some b → t ≡ m.decided b
decided_is (m.decided c) b is = cc
decided_is (m.condition e) b is = cc
decided_is (m.equal v w) b is = cc
decided_is (m.unequal v w) b is = cc
decided_is (m.level plain n v) b is = cc
decided_is (m.compared op d e) b is = cc
decided_is (m.compared_to op e n) b is = cc
decided_is (m.rising n) b is = cc
decided_is (m.falling n) b is = cc
decided_is (m.event n) b is = cc
decided_is (m.negated t) b is = cc
decided_is (m.combined op s t) b is = cc

undecided : (sights : List Sight) (so_far : Looks) (t : m.Test) (s : m.Stmts) (bs : m.Branches) (target : Target) → decided_of t ≡ None
    → branches_look sights so_far (m.branch t s bs) target ≡ body_looks (sights ++ test_looks so_far t) so_far s target ++ branches_look (sights ++ test_looks so_far t) so_far bs target
undecided sights so_far (m.decided c) s bs target is = let bad : Some c ≡ None = is in cc
undecided sights so_far (m.condition e) s bs target is = refl
undecided sights so_far (m.equal v w) s bs target is = refl
undecided sights so_far (m.unequal v w) s bs target is = refl
undecided sights so_far (m.level plain n v) s bs target is = refl
undecided sights so_far (m.compared op d e) s bs target is = refl
undecided sights so_far (m.compared_to op e n) s bs target is = refl
undecided sights so_far (m.rising n) s bs target is = refl
undecided sights so_far (m.falling n) s bs target is = refl
undecided sights so_far (m.event n) s bs target is = refl
undecided sights so_far (m.negated t) s bs target is = refl
undecided sights so_far (m.combined op u t) s bs target is = refl

module _ (last : m.Branches) (bs : List Branch) (i : ℕ) (x : Branch) (within : i < length bs) (is : x ≡ get_or bs i x) (sights : List Sight) (so_far : Looks) (t : Target) where
  left : branches_look sights so_far (branches_of last (drop i bs)) t
      ≡ branches_look sights so_far (m.branch (test_view x.test) (statements_of x.statements.items) (branches_of last (drop (i + 1) bs))) t
  left = ap (λ (ys : List Branch). branches_look sights so_far (branches_of last ys) t) (drop_more bs i x within ∙ ap (λ (y : Branch). y ∷ drop (i + 1) bs) (sym is))

  at_test : (b : Bool) → decided_of (test_view x.test) ≡ Some b → branches_look sights so_far (branches_of last (drop i bs)) t
      ≡ branches_look sights so_far (m.branch (m.decided b) (statements_of x.statements.items) (branches_of last (drop (i + 1) bs))) t
  at_test b d = left ∙ ap (λ (y : m.Test). branches_look sights so_far (m.branch y (statements_of x.statements.items) (branches_of last (drop (i + 1) bs))) t) (decided_is (test_view x.test) b d)

  pub branch_taken : decided_of (test_view x.test) ≡ Some true → branches_look sights so_far (branches_of last (drop i bs)) t ≡ body_looks sights so_far (statements_of x.statements.items) t
  branch_taken d = at_test true d

  pub branch_left : decided_of (test_view x.test) ≡ Some false → branches_look sights so_far (branches_of last (drop i bs)) t ≡ branches_look sights so_far (branches_of last (drop (i + 1) bs)) t
  branch_left d = at_test false d

  pub branch_walked : decided_of (test_view x.test) ≡ None → branches_look sights so_far (branches_of last (drop i bs)) t
      ≡ body_looks (sights ++ test_looks so_far (test_view x.test)) so_far (statements_of x.statements.items) t
      ++ branches_look (sights ++ test_looks so_far (test_view x.test)) so_far (branches_of last (drop (i + 1) bs)) t
  branch_walked d = left ∙ undecided sights so_far (test_view x.test) (statements_of x.statements.items) (branches_of last (drop (i + 1) bs)) t d

pub branches_end : (last : m.Branches) (bs : List Branch) (i : ℕ) → length bs ≤ i → (sights : List Sight) (so_far : Looks) (t : Target)
    → branches_look sights so_far (branches_of last (drop i bs)) t ≡ branches_look sights so_far last t
branches_end last bs i l sights so_far t = ap (λ (ys : List Branch). branches_look sights so_far (branches_of last ys) t) (drop_all i bs l)

pub alternative_walked : (last : m.Stmts) (bs : List Alternative) (i : ℕ) (x : Alternative) → i < length bs → x ≡ get_or bs i x → (sights : List Sight) (so_far : Looks) (t : Target)
    → alternatives_look sights so_far (alternatives_of last (drop i bs)) t
    ≡ body_looks sights so_far (statements_of x.statements.items) t ++ alternatives_look sights so_far (alternatives_of last (drop (i + 1) bs)) t
alternative_walked last bs i x l is sights so_far t =
    ap (λ (ys : List Alternative). alternatives_look sights so_far (alternatives_of last ys) t) (drop_more bs i x l ∙ ap (λ (y : Alternative). y ∷ drop (i + 1) bs) (sym is))

pub alternatives_end : (last : m.Stmts) (bs : List Alternative) (i : ℕ) → length bs ≤ i → (sights : List Sight) (so_far : Looks) (t : Target)
    → alternatives_look sights so_far (alternatives_of last (drop i bs)) t ≡ body_looks sights so_far last t
alternatives_end last bs i l sights so_far t = ap (λ (ys : List Alternative). alternatives_look sights so_far (alternatives_of last ys) t) (drop_all i bs l)

-- ---- the end of an if or a case

-- one part more, which changes nothing
pub skipped : (round : Option Look) (hubs : List Hub) (env : Env) (ends : Ends) → Parted (λ sights so_far. so_far) round hubs hubs env env ends (record ends { parts = ends.parts + 1 })
skipped round hubs env ends = record {
  grows = grows_none hubs;
  restored = λ t. refl;
  more = omega arith;
  behind = λ sights so_far all d m b. record { each = λ t. each so_far all m b t };
}
  where
    each : (so_far all : Looks) → Means hubs env so_far → Behind hubs ends so_far all → (t : Target)
        → Covers hubs (end_of (record ends { parts = ends.parts + 1 }) t) (ends.parts + 1) (so_far t) (all t ++ so_far t)
    each so_far all m b (driver k) = covers_skip (look_of env (driver k)) (b.each (driver k)) (m.each (driver k)) (m.each (driver k))
    each so_far all m b (element k) = covers_skip (look_of env (element k)) (b.each (element k)) (m.each (element k)) (m.each (element k))

module _ (round : Option Look) (old mid : List Hub) (env env' : Env) (ends ends' : Ends) (bs : List Branch) where
  pub with_else : (s : m.Stmts) (rest : Rest) {new : List Hub} {env'' : Env} {ends'' : Ends} → Leaves (m.otherwise s) bs round rest old mid env env' ends ends'
      → Rests (λ sights so_far. body_looks sights so_far s) rest mid new env' env'' ends' ends''
      → Parted (λ sights so_far. branches_look sights so_far (branches_of (m.otherwise s) bs)) round old new env env'' ends ends''
  with_else s (r.Else next) h p = parts_last h p (λ sights so_far t. refl)
  with_else s r.Nothing {new} {env''} {ends''} h p =
      subst (λ (e : Ends). Parted (λ sights so_far. branches_look sights so_far (branches_of (m.otherwise s) bs)) round old new env env'' ends e) (sym p.2)
      (subst (λ (e : Env). Parted (λ sights so_far. branches_look sights so_far (branches_of (m.otherwise s) bs)) round old new env e ends ends') (sym p.1)
      (subst (λ (hs : List Hub). Parted (λ sights so_far. branches_look sights so_far (branches_of (m.otherwise s) bs)) round old hs env env' ends ends') (sym p.0) h))

  pub without_else : (rest : Rest) {new : List Hub} {env'' : Env} {changes changes' : Changes} → ends.parts ≡ 0
      → ((k : ℕ) → get nat_cmp ends.drivers k ≡ None) → ((k : ℕ) → get nat_cmp ends.elements k ≡ None) → Leaves m.no_else bs round rest old mid env env' ends ends'
      → Left rest mid new env' env'' changes changes' ends' → Walked (λ sights so_far. branches_look sights so_far (branches_of m.no_else bs)) round old new env env'' changes changes'
  without_else (r.Else next) at_start a b h f = whole_walked at_start a b (parts_last h (skipped next mid env' ends') (λ sights so_far t. refl)) f
  without_else r.Nothing at_start a b h f = whole_walked at_start a b h f

pub cased : {means : Looks → List Sight} {run : List Sight → Looks → Looks} {round next : Option Look} {old mid new : List Hub} {env env' : Env} {changes changes' : Changes}
    → Rounds means round next env.elements.looks.items old mid → Walked run next mid new env env' changes changes'
    → Walked (λ sights so_far. run (sights ++ means so_far) so_far) round old new env env' changes changes'
cased {means} r w = record {
  grows = grows_then r.grows w.grows;
  means = λ sights so_far d m. let e = r.denotes sights so_far d (elements_mean m) in w.means (sights ++ means so_far) so_far e (means_later r.grows e.order m);
  restored = w.restored;
}

pub rounds : {means : Looks → List Sight} {round look next : Option Look} {elements : List (Option Look)} {old mid new : List Hub} → Sums means elements old mid look → Joins mid new round look next
    → Rounds means round next elements old new
rounds {means} s j = record {
  grows = grows_then s.grows j.grows;
  denotes = λ sights so_far d known. let e = s.denotes so_far known in j.denotes sights (means so_far) (later s.grows e.order d) e;
}

pub branched : {test : m.Test} {round next : Option Look} {old mid new : List Hub} {env env' : Env} {ends ends' : Ends} (s : m.Stmts) → Rounds (λ so_far. test_looks so_far test) round next env.elements.looks.items old mid
    → Parted (λ sights so_far. body_looks sights so_far s) next mid new env env' ends ends'
    → Branched test (λ sights so_far. body_looks (sights ++ test_looks so_far test) so_far s) round next old new env env' ends ends'
branched {test} {next = next} {mid = mid} {env = env} {ends = ends} s r p = record {
  parted = record {
    grows = grows_then r.grows p.grows;
    restored = p.restored;
    more = p.more;
    behind = λ sights so_far all d m b.
        let e = r.denotes sights so_far d (elements_mean m) in
        p.behind (sights ++ test_looks so_far test) so_far all e (means_later r.grows e.order m) (behind_later r.grows e.order b);
  };
  after = λ sights so_far all d m b.
      let e = r.denotes sights so_far d (elements_mean m) in
      let f = p.behind (sights ++ test_looks so_far test) so_far all e (means_later r.grows e.order m) (behind_later r.grows e.order b) in
      later p.grows (behind_order f) e;
}

-- ---- statements of the code, by what they look at

module _ (x : Statement) (sights : List Sight) (so_far : Looks) (t : Target) where
  pub if_is : (at : ℕ) (branches : Vec Branch Global) (v : Vec Statement Global) → x ≡ vs.If at branches (Some v) → (bs : List Branch) (xs : List Statement) → bs ≡ branches.items → xs ≡ v.items
      → branches_look sights so_far (branches_of (m.otherwise (statements_of xs)) bs) t ≡ stmt_looks sights so_far (statement_view x) t
  if_is at branches v is bs xs p q =
      ap (λ (ys : List Branch). branches_look sights so_far (branches_of (m.otherwise (statements_of xs)) ys) t) p
      ∙ (ap (λ (ys : List Statement). branches_look sights so_far (branches_of (m.otherwise (statements_of ys)) branches.items) t) q
      ∙ sym (ap (λ (y : Statement). stmt_looks sights so_far (statement_view y) t) is ∙ ap (λ (y : m.Stmt). stmt_looks sights so_far y t) (view_if at branches (Some v))))

  pub if_alone_is : (at : ℕ) (branches : Vec Branch Global) → x ≡ vs.If at branches None → (bs : List Branch) → bs ≡ branches.items
      → branches_look sights so_far (branches_of m.no_else bs) t ≡ stmt_looks sights so_far (statement_view x) t
  if_alone_is at branches is bs p =
      ap (λ (ys : List Branch). branches_look sights so_far (branches_of m.no_else ys) t) p
      ∙ sym (ap (λ (y : Statement). stmt_looks sights so_far (statement_view y) t) is ∙ ap (λ (y : m.Stmt). stmt_looks sights so_far y t) (view_if at branches None))

  pub case_is : (at : ℕ) (selector : Value) (alternatives : Vec Alternative Global) (v : Vec Statement Global) → x ≡ vs.Case at selector alternatives v
      → (bs : List Alternative) (xs : List Statement) → bs ≡ alternatives.items → xs ≡ v.items
      → alternatives_look (sights ++ whole (value_looks so_far (value_view selector))) so_far (alternatives_of (statements_of xs) bs) t ≡ stmt_looks sights so_far (statement_view x) t
  case_is at selector alternatives v is bs xs p q =
      ap (λ (ys : List Alternative). alternatives_look (sights ++ whole (value_looks so_far (value_view selector))) so_far (alternatives_of (statements_of xs) ys) t) p
      ∙ (ap (λ (ys : List Statement). alternatives_look (sights ++ whole (value_looks so_far (value_view selector))) so_far (alternatives_of (statements_of ys) alternatives.items) t) q
      ∙ sym (ap (λ (y : Statement). stmt_looks sights so_far (statement_view y) t) is ∙ ap (λ (y : m.Stmt). stmt_looks sights so_far y t) (view_case at selector alternatives v)))
