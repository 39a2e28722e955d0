use Rattle.std.proofs.Common.{◌≡◌, ℕ, Bool, true, ◌&&◌, [], List, Vec, Global, ap, sym, ◌∙◌}
use Rattle.std.specs.Prelude.{is_some}
use Rattle.rtl_model.specs.bodies.Body.{Stmts, done}
use Rattle.rtl_model.specs.bodies.Kinds.{clocking}
use Rattle.rtl_net.specs.declared.body.Statement.{Statement}
use Rattle.rtl_net.specs.Bodies.{statements_of}
use Rattle.rtl_variable_registers.specs.Bodies.{with_branches, reset_branch, is_register}
use Rattle.rtl_variable_registers.specs.Known.{gives_constants, never_set}
use Rattle.rtl_kept_bodies.specs.Steps.{knows}
use Rattle.rtl_kept_bodies.proofs.Shapes.{put_back}
use Rattle.rtl_kept_bodies.proofs.registers.is_register.Goals.{then-clocked, else-clocked}
use Rattle.rtl_kept_bodies.proofs.registers.is_register.Goals as goal

pub returns-clause-same : goal.returns-clause-same
returns-clause-same c =
    put_back _ _ _ _ (c.replace_reset-reset.ensures.left ∙ ap (λ (xs : List Statement). with_branches (λ a. statements_of xs) (λ s. s) (statements_of c.args.body.now)) c.new.ensures.items)
    (c.replace_reset-reset.ensures.taken (ap (λ (xs : List Statement). statements_of xs) c.new.ensures.items)) c.replace_reset-nothing.ensures.left

-- by its edge, and by what its reset's branch gives
by_both : (b0 b1 a : Stmts) (r g : Bool) (known : ℕ → Bool) → ((e : ℕ) → known e ≡ never_set b0 e) → b1 ≡ with_branches (λ x. done) (λ s. s) b0 → a ≡ reset_branch b0 → r ≡ is_some (clocking true [] b1)
    → g ≡ gives_constants known a → (r && g) ≡ is_register b0
by_both b0 b1 a r g known knows left is h k =
    let these : known ≡ never_set b0 = (λ i e. knows e i) in
    ap (λ (x : Bool). x && g) (h ∙ ap (λ b. is_some (clocking true [] b)) left)
    ∙ ap (λ (x : Bool). is_some (clocking true [] (with_branches (λ z. done) (λ s. s) b0)) && x) (k ∙ ap (gives_constants known) is ∙ ap (λ f. gives_constants f (reset_branch b0)) these)

pub returns-clause-is : goal.returns-clause-is
returns-clause-is c =
    let left = c.replace_reset-reset.ensures.left ∙ ap (λ (xs : List Statement). with_branches (λ a. statements_of xs) (λ s. s) (statements_of c.args.body.now)) c.new.ensures.items in
    let taken = c.replace_reset-reset.ensures.taken (ap (λ (xs : List Statement). statements_of xs) c.new.ensures.items) in
    let constant = c.gives_constants-constant.result in
    let these = knows c.in_ok-never_set.field-0.items in
    let gives = c.gives_constants-constant.ensures
    ∙ ap (λ (v : Vec Bool Global). gives_constants (knows v.items) (statements_of c.deref.result.now)) c.new-known.ensures
    ∙ ap (λ (xs : List Statement). gives_constants these (statements_of xs)) c.deref.ensures.value in
    let both = by_both _ _ _ _ _ these c.in_ok-never_set.ensures left taken c.is_clocked-clocked.ensures gives in
    elim c.if-clocked.branch [
      | then-clocked w ↦ w.result-is ∙ (ap (λ (x : Bool). x && constant) (sym w.if-clocked.true) ∙ both)
      | else-clocked w ↦ w.result-is ∙ (w.if-clocked.false ∙ (ap (λ (x : Bool). x && constant) (sym w.if-clocked.false) ∙ both))
    ]

pub returns-clause-bytes : goal.returns-clause-bytes
returns-clause-bytes c = c.replace_reset-nothing.ensures.bytes ∙ c.replace_reset-reset.ensures.bytes
