-- The truth of a chain of operators on truths over static integers.
use Rattle.std.proofs.Common.{◌≡◌, List, [], ◌∷◌, Result, Ok, Err, Box, Vec, Global, sym, ap, ◌∙◌, subst, Bool}
use Rattle.vhdl_values.specs.declared.kinds.Logic.{Logic}
use Rattle.vhdl_names_trees.specs.declared.test.StaticTest.TheVariants as s
use Rattle.vhdl_names_trees.specs.declared.test.StaticTest.{StaticTest}
use Rattle.vhdl_names_trees.specs.declared.test.StaticTestLink.{StaticTestLink}
use Rattle.vhdl_names_trees.specs.declared.test.StaticTestStart.{StaticTestStart}
use Rattle.vhdl_names_trees.specs.views.Tests.{static_test_view, static_start_view, static_test_chained}
use Rattle.vhdl_names_rules.specs.units.Expressions as u
use Rattle.vhdl_names_trees.proofs.rows.Tests.{view_static_chain}
use Rattle.vhdl_expand_rules.specs.declared.fault.ElabFault.{ElabFault}
use Rattle.vhdl_expand_rules.specs.Elab.{Elab, ◌>>=◌, Told}
use Rattle.vhdl_expand_rules.specs.Integers.{Integers, decision}
use Rattle.rtl_model.specs.bodies.Tests.{truth}
use Rattle.vhdl_expand_rules.specs.views.Integers.{Computes}
use Rattle.vhdl_expand_rules.specs.views.Decisions.{all_decided}
use Rattle.vhdl_expand_rules.proofs.Chains.{bind-assoc}

-- what a logical operator makes
abbrev decided : Logic → Bool → Bool → Elab Bool
decided op b c = Ok (truth op b c)

pub computes_along : (given given' : Elab Bool) (r : Result Bool ElabFault) → given ≡ given' → Computes given' r → Computes given r
computes_along given given' r e h = subst (λ (x : Elab Bool). Computes x r) (sym e) h

-- ---- a chain grouped from the left

with_left : (here : Integers) (op : Logic) (t v : u.StaticTest) (x : Bool) → decision here t ≡ Ok x → decision here (u.StaticTest.both op t v) ≡ (decision here v >>= λ y. decided op x y)
unfolding decision
with_left here op t v x h = ap (λ (r : Elab Bool). r >>= λ a. decision here v >>= λ b. decided op a b) h

chained-same_err : (here : Integers) (t : u.StaticTest) (p : Told) (ls : List StaticTestLink) → decision here t ≡ Err p → decision here (static_test_chained t ls) ≡ Err p
unfolding decision
chained-same_err here t p [] h = h
chained-same_err here t p (l ∷ ls) h =
    chained-same_err here (u.StaticTest.both l.operator t (static_test_view l.operand)) p ls
    (ap (λ (r : Elab Bool). r >>= λ a. decision here (static_test_view l.operand) >>= λ b. decided l.operator a b) h)

chained-by : (here : Integers) (t : u.StaticTest) (ls : List StaticTestLink) → ((z : Bool) → decision here t ≡ Ok z → decision here (static_test_chained t ls) ≡ all_decided here z ls)
    → (r : Elab Bool) → decision here t ≡ r → decision here (static_test_chained t ls) ≡ (r >>= λ z. all_decided here z ls)
chained-by here t ls from (Ok z) h = from z h
chained-by here t ls from (Err p) h = chained-same_err here t p ls h

chained-from : (here : Integers) (t : u.StaticTest) (x : Bool) (ls : List StaticTestLink) → decision here t ≡ Ok x → decision here (static_test_chained t ls) ≡ all_decided here x ls
chained-from here t x [] h = h
chained-from here t x (l ∷ ls) h =
    let v = static_test_view l.operand in
    let t' = u.StaticTest.both l.operator t v in
    chained-by here t' ls (λ z. chained-from here t' z ls) (decision here v >>= λ y. decided l.operator x y) (with_left here l.operator t v x h)
    ∙ bind-assoc (decision here v) (λ y. decided l.operator x y) (λ z. all_decided here z ls)

pub chain-value : (here : Integers) (e : StaticTest) (start : Box StaticTestStart Global) (links : Vec StaticTestLink Global) (st : StaticTestStart) (ls : List StaticTestLink) (x : Bool)
    → e ≡ s.Chain start links → st ≡ start.value → ls ≡ links.items → decision here (static_start_view st) ≡ Ok x → decision here (static_test_view e) ≡ all_decided here x ls
chain-value here e start links st ls x h j k given =
    ap (λ (a : StaticTest). decision here (static_test_view a)) h ∙ ap (decision here) (view_static_chain start links)
    ∙ ap (λ (a : StaticTestStart). decision here (static_test_chained (static_start_view a) links.items)) (sym j)
    ∙ chained-from here (static_start_view st) x links.items given ∙ ap (all_decided here x) (sym k)

pub chain-err : (here : Integers) (e : StaticTest) (start : Box StaticTestStart Global) (links : Vec StaticTestLink Global) (st : StaticTestStart) (p : Told)
    → e ≡ s.Chain start links → st ≡ start.value → decision here (static_start_view st) ≡ Err p → decision here (static_test_view e) ≡ Err p
chain-err here e start links st p h j given =
    subst (λ (r : Elab Bool). r ≡ Err p)
    (sym (ap (λ (a : StaticTest). decision here (static_test_view a)) h ∙ ap (decision here) (view_static_chain start links) ∙ ap (λ (a : StaticTestStart). decision here (static_test_chained (static_start_view a) links.items)) (sym j)))
    (chained-same_err here (static_start_view st) p links.items given)
