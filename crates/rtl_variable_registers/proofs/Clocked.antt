-- What is clocked is a register, where its reset's branch looks at what is known.
use Rattle.std.proofs.Common.{◌≡◌, ℕ, Bool, true, false, List, [], Option, Some, None, is_some, refl, ap, ◌∙◌, inl, inr}
use Rattle.std.specs.Option.{option_map}
use Rattle.std.proofs.lemmas.Bool.{and_from}
use Rattle.rtl_model.specs.basics.Lists.{is_empty}
use Rattle.rtl_model.specs.bodies.Body.{Test, Stmts, done}
use Rattle.rtl_model.specs.bodies.Kinds.{EdgeTest, edge_test, IsResetTest, ResetTest, reset_test, ResetPart, Clocking, IsClocked, with_reset, clocking}
use Rattle.rtl_model.specs.bodies.Reads.{events}
use Rattle.rtl_model.proofs.bodies.Clocking.{clocked_is, each_kind_is_as_said}
use Rattle.rtl_variable_registers.specs.Bodies.{reset_branch, without_reset}
use Rattle.rtl_variable_registers.specs.Known.{gives_constants, never_set}
use Rattle.rtl_variable_registers.specs.Laws.{first_body, behind_body, LooksAtKnown, EachClockedIsRegister, EachKnownResetIsRegister}
use Rattle.rtl_variable_registers.proofs.Straight.{assigns_straight, known_gives}

-- a reset test is one of the wider language
in_wide : (wide : Bool) (inputs : List ℕ) (t : Test) (net value : ℕ) → IsResetTest wide inputs t net value → IsResetTest true [] t net value
in_wide wide inputs t net value h = record { plain = h.plain; v = h.v; is = h.is; one_or_zero = h.one_or_zero; value_is = h.value_is; may_reset = inl refl }

-- the clocking without the reset's branch
abbrev emptied : Option ResetPart → Option ResetPart
emptied r = option_map (λ (x : ResetPart). record x { branch = done }) r

still_clocked : (wide : Bool) (inputs : List ℕ) (body : Stmts) (c : Clocking) → IsClocked wide inputs body c → IsClocked true [] (without_reset body) (record c { reset = emptied c.reset })
still_clocked wide inputs body c (inl x) = inl (record { test = x.test; is = ap without_reset x.is; edge = x.edge; no_event = x.no_event; no_reset = ap emptied x.no_reset })
still_clocked wide inputs body c (inr (inl x)) = inr (inl (record {
  reset = record x.reset { branch = done };
  first = x.first;
  test = x.test;
  is = ap without_reset x.is;
  reset_is = ap emptied x.reset_is;
  gating = x.gating;
  resets = in_wide wide inputs x.first x.reset.test.net x.reset.test.value x.resets;
  constants = refl;
  edge = x.edge;
  no_event = x.no_event;
}))
still_clocked wide inputs body c (inr (inr x)) = inr (inr (record {
  reset = record x.reset { branch = done };
  test = x.test;
  second = x.second;
  is = ap without_reset x.is;
  is_wide = refl;
  reset_is = ap emptied x.reset_is;
  not_gating = x.not_gating;
  resets = in_wide wide inputs x.second x.reset.test.net x.reset.test.value x.resets;
  constants = refl;
  reads_nothing = refl;
  edge = x.edge;
  no_event = x.no_event;
}))

-- the branch of the reset
given : (wide : Bool) (inputs : List ℕ) (body : Stmts) (c : Clocking) → IsClocked wide inputs body c
    → ((r : ResetPart) → c.reset ≡ Some r → LooksAtKnown body r.branch) → gives_constants (never_set body) (reset_branch body) ≡ true
given wide inputs body c (inl x) h = ap (λ b. gives_constants (never_set body) (reset_branch b)) x.is
given wide inputs body c (inr (inl x)) h =
    ap (λ b. gives_constants (never_set body) (reset_branch b)) x.is ∙ known_gives body x.reset.branch (assigns_straight x.reset.branch x.constants) (h x.reset x.reset_is)
given wide inputs body c (inr (inr x)) h =
    ap (λ b. gives_constants (never_set body) (reset_branch b)) x.is ∙ known_gives body x.reset.branch (assigns_straight x.reset.branch x.constants) (h x.reset x.reset_is)

pub clocked_is_register : EachClockedIsRegister
clocked_is_register wide inputs body c h k =
    let is = clocked_is wide inputs body c h in
    and_from (is_some (clocking true [] (without_reset body))) (gives_constants (never_set body) (reset_branch body))
    (ap is_some (((each_kind_is_as_said true []).clocked (without_reset body) (record c { reset = emptied c.reset })).1 (still_clocked wide inputs body c is))) (given wide inputs body c is k)

some_clocking : (gates : Bool) (r : Option ResetTest) (no_event : Bool) (e : Option EdgeTest) (s : Stmts)
    → is_some r ≡ true → is_some e ≡ true → no_event ≡ true → is_some (with_reset gates r true no_event e done s) ≡ true
some_clocking gates (Some r) true (Some e) s h k n = refl
some_clocking gates (Some r) true None s h k n = absurd cc
some_clocking gates (Some r) false e s h k n = absurd cc
some_clocking gates None b e s h k n = absurd cc

pub known_reset_is_register : EachKnownResetIsRegister
known_reset_is_register r t a s resets edge quiet straight =
    let clocked = λ (gates : Bool). some_clocking gates (reset_test true [] r) (is_empty (events s)) (edge_test t) s resets edge (ap is_empty quiet) in (
      λ (k : LooksAtKnown (first_body r a t s) a). and_from (is_some (clocking true [] (without_reset (first_body r a t s)))) (gives_constants (never_set (first_body r a t s)) a) (clocked true)
          (known_gives (first_body r a t s) a straight k),
      λ (k : LooksAtKnown (behind_body t s r a) a). and_from (is_some (clocking true [] (without_reset (behind_body t s r a)))) (gives_constants (never_set (behind_body t s r a)) a) (clocked false)
          (known_gives (behind_body t s r a) a straight k),
    )
