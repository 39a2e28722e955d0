-- Clocked bodies with a reset, and the branch that they run first.
use Rattle.std.proofs.Common.{arith, ◌≡◌, ℕ, Bool, true, false, List, [], ◌∷◌, refl, sym, ap, ◌∙◌, Option, Some, None, inl, inr}
use Rattle.std.specs.Prelude.{is_some, option_map, not, length, if◌then◌else◌}
use Rattle.rtl_net.specs.Bodies.{statements_of}
use Rattle.rtl_net.specs.declared.body.Statement.{Statement}
use mathlib.Core.Bool.{beq}
use Rattle.rtl_model.specs.bodies.Body.{Stmt, Stmts, step, done}
use Rattle.rtl_model.specs.bodies.Kinds as k
use Rattle.rtl_model.specs.bodies.Kinds.{clocking, IsClocked}
use Rattle.rtl_model.proofs.bodies.Clocking.{clocked_is}
use Rattle.rtl_body_facts.specs.declared.kinds.Clocking.{Clocking}
use Rattle.rtl_body_facts.specs.declared.kinds.ProcessKind.TheVariants as d
use Rattle.rtl_body_facts.specs.Timing.{part_net, clocking_view, kind_view}
use Rattle.rtl_process_kinds.specs.ResetBranches.{reset_branch}
use Rattle.rtl_process_kinds.proofs.ResetBranches.{resets_by}
use Rattle.rtl_remarks.specs.Remarks.{branch_of_reset, without_reset}
use Rattle.rtl_remarks.specs.Tables.{has_reset, guarded}

-- ---- by kinds

pub of_combinational : (o : Option k.Clocking) (ns : List ℕ) → d.Combinational ≡ kind_view o ns → None ≡ has_reset o
of_combinational None ns e = refl
of_combinational (Some c) ns e = absurd cc

pub of_mixed : (o : Option k.Clocking) (ns : List ℕ) → d.Mixed ≡ kind_view o ns → None ≡ has_reset o
of_mixed None ns e = refl
of_mixed (Some c) ns e = absurd cc

part_there : (r : Option k.ResetPart) → is_some (option_map part_net r) ≡ is_some r
part_there None = refl
part_there (Some r) = refl

pub of_clocked : (o : Option k.Clocking) (ns : List ℕ) (c : Clocking) → d.Clocked c ≡ kind_view o ns → Some (is_some c.reset) ≡ has_reset o
of_clocked None [] c e = absurd cc
of_clocked None (n ∷ ns) c e = absurd cc
of_clocked (Some x) ns c e =
    let same : c ≡ clocking_view x = cc in ap (λ (y : Clocking). Some (is_some y.reset)) same ∙ ap Some (part_there x.reset)

-- ---- the first branch

pub are_same : (a b : Bool) → not (beq a b) ≡ false → a ≡ b
are_same true false e = absurd cc
are_same false true e = absurd cc
are_same _ _ e = refl

pub differ : (a b : Bool) → not (beq a b) ≡ true → a ≡ b → ⊥
differ true true e same = absurd cc
differ true false e same = absurd cc
differ false true e same = absurd cc
differ false false e same = absurd cc

pub no_guarded : (reset : Bool) (o : Option k.Clocking) → has_reset o ≡ None → None ≡ guarded reset o
no_guarded true None h = refl
no_guarded false None h = refl
no_guarded reset (Some c) h = absurd cc

pub other_guarded : (reset has : Bool) (o : Option k.Clocking) → has_reset o ≡ Some has → (has ≡ reset → ⊥) → None ≡ guarded reset o
other_guarded reset has None h n = absurd cc
other_guarded reset has (Some c) h n = go reset c.reset (let e : is_some c.reset ≡ has = cc in e) n
  where
    go : (b : Bool) (r : Option k.ResetPart) → is_some r ≡ has → (has ≡ b → ⊥) → None ≡ guarded b (Some (record { test = c.test; branch = c.branch; reset = r }))
    go true None e n = refl
    go true (Some r) e n = absurd (n (sym e))
    go false None e n = absurd (n (sym e))
    go false (Some r) e n = refl

-- ---- one if, or two

pub one_alone : (xs : List Statement) → length xs ≡ 1 → (a b : Stmt) (s : Stmts) → statements_of xs ≡ step a (step b s) → ⊥
one_alone [] n a b s e = absurd cc
one_alone (x ∷ []) n a b s e = absurd cc
one_alone (x ∷ y ∷ ys) n a b s e = absurd (omega arith)

pub not_alone : (xs : List Statement) → (length xs ≡ 1 → ⊥) → (a : Stmt) → statements_of xs ≡ step a done → ⊥
not_alone [] n a e = absurd cc
not_alone (x ∷ []) n a e = absurd (n refl)
not_alone (x ∷ y ∷ ys) n a e = absurd cc

gates_as : (c : k.Clocking) (r s : k.ResetPart) (g : Bool) → c.reset ≡ Some r → c.reset ≡ Some s → s.gates ≡ g → branch_of_reset c.reset ≡ (if g then Some r.branch else None)
gates_as c r s g e f is = let same : Some r ≡ Some s = sym e ∙ f in ap branch_of_reset e ∙ ap (λ (b : Bool). if b then Some r.branch else None) (let there : r.gates ≡ s.gates = cc in there ∙ is)

-- of one if with a reset the first branch is the reset's, and without a reset the one under the edge
pub first_guarded : (wide : Bool) (inputs : List ℕ) (body : Stmts) (reset : Bool) (o : Option k.Clocking)
    → ((a b : Stmt) (s : Stmts) → body ≡ step a (step b s) → ⊥) → clocking wide inputs body ≡ o → has_reset o ≡ Some reset
    → Some (reset_branch body) ≡ guarded reset o
first_guarded wide inputs body reset None one e h = absurd cc
first_guarded wide inputs body reset (Some c) one e h = go reset c.reset refl (let so : is_some c.reset ≡ reset = cc in so) (clocked_is wide inputs body c e)
  where
    go : (b : Bool) (r : Option k.ResetPart) → c.reset ≡ r → is_some r ≡ b → IsClocked wide inputs body c → Some (reset_branch body) ≡ guarded b (Some c)
    go true None f so is = absurd cc
    go true (Some r) f so (inl alone) = let none : false ≡ true = sym (ap is_some alone.no_reset) ∙ ap is_some f in absurd cc
    go true (Some r) f so (inr (inl a)) = ap Some (resets_by wide inputs body c r (inr (inl a)) f) ∙ sym (gates_as c r a.reset true f a.reset_is a.gating)
    go true (Some r) f so (inr (inr a)) = absurd (one _ _ _ a.is)
    go false (Some r) f so is = absurd cc
    go false None f so (inl alone) = ap (λ (s : Stmts). Some (reset_branch s)) alone.is ∙ sym (ap (λ (r : Option k.ResetPart). without_reset r c.branch) alone.no_reset)
    go false None f so (inr (inl a)) = let none : true ≡ false = sym (ap is_some a.reset_is) ∙ ap is_some f in absurd cc
    go false None f so (inr (inr a)) = let none : true ≡ false = sym (ap is_some a.reset_is) ∙ ap is_some f in absurd cc

-- of more than one if there is none
pub behind_guarded : (wide : Bool) (inputs : List ℕ) (body : Stmts) (reset : Bool) (o : Option k.Clocking)
    → ((a : Stmt) → body ≡ step a done → ⊥) → clocking wide inputs body ≡ o → has_reset o ≡ Some reset → None ≡ guarded reset o
behind_guarded wide inputs body reset None more e h = absurd cc
behind_guarded wide inputs body reset (Some c) more e h = go reset c.reset refl (let so : is_some c.reset ≡ reset = cc in so) (clocked_is wide inputs body c e)
  where
    go : (b : Bool) (r : Option k.ResetPart) → c.reset ≡ r → is_some r ≡ b → IsClocked wide inputs body c → None ≡ guarded b (Some c)
    go b r f so (inl alone) = absurd (more _ alone.is)
    go b r f so (inr (inl a)) = absurd (more _ a.is)
    go true None f so (inr (inr a)) = absurd cc
    go true (Some r) f so (inr (inr a)) = sym (gates_as c r a.reset false f a.reset_is a.not_gating)
    go false (Some r) f so (inr (inr a)) = absurd cc
    go false None f so (inr (inr a)) = let none : true ≡ false = sym (ap is_some a.reset_is) ∙ ap is_some f in absurd cc
