-- The value of a chain of operators on static integers.
use Rattle.std.proofs.Common.{◌≡◌, ℕ, Bool, true, false, if◌then◌else◌, List, [], ◌∷◌, Result, Ok, Err, Box, Vec, Global, refl, sym, ap, ◌∙◌, subst, ℤ}
use Rattle.std.specs.Prelude.{◌==◌, ◌+ℤ◌, ◌-ℤ◌, ◌*ℤ◌, nat_abs, int_div, int_rem, pos, negsuc, IsErrAnd}
use Rattle.vhdl_names_rules.specs.declared.operator.Arithmetic.{Arithmetic}
use Rattle.vhdl_names_rules.specs.declared.operator.Arithmetic.TheVariants.{Add, Subtract, Multiply, Divide, Modulo, Remainder, Power}
use Rattle.vhdl_names_trees.specs.declared.integer.Static.TheVariants as s
use Rattle.vhdl_names_trees.specs.declared.integer.Static.{Static}
use Rattle.vhdl_names_trees.specs.declared.integer.StaticLink.{StaticLink}
use Rattle.vhdl_names_trees.specs.declared.integer.StaticStart.{StaticStart}
use Rattle.vhdl_names_trees.specs.views.Integers.{static_view, start_view, static_chained}
use Rattle.vhdl_names_rules.specs.units.Expressions as u
use Rattle.vhdl_names_trees.proofs.rows.Integers.{view_chain}
use Rattle.vhdl_expand_rules.specs.declared.fault.ElabFault.{ElabFault}
use Rattle.vhdl_expand_rules.specs.declared.fault.ElabProblem.TheVariants.{StaticError}
use Rattle.vhdl_expand_rules.specs.Elab.{Elab, ◌>>=◌, Told, fault_told, refused}
use Rattle.vhdl_expand_rules.specs.Integers.{Integers, checked_integer, modulus, power, powered, integer_operation, integer}
use Rattle.vhdl_expand_rules.specs.views.Integers.{Computes, all_operated}

pub computes_along : (given given' : Elab ℤ) (r : Result ℤ ElabFault) → given ≡ given' → Computes given' r → Computes given r
computes_along given given' r e h = subst (λ (x : Elab ℤ). Computes x r) (sym e) h

-- a fault that is passed on
pub computes_err : {A : Type 0} (given : Elab A) (fault : ElabFault) (P : ElabFault → Type 0) (r : Result A ElabFault) → IsErrAnd r P → ((e : ElabFault) → P e → e ≡ fault)
    → given ≡ Err (fault_told fault) → Computes given r
computes_err given fault P (Ok x) h same f = absurd h
computes_err given fault P (Err e) h same f = subst (λ (x : ElabFault). given ≡ Err (fault_told x)) (sym (same e h)) f

pub bind-assoc : {A B C : Type 0} (r : Elab A) (f : A → Elab B) (g : B → Elab C) → ((r >>= f) >>= g) ≡ (r >>= λ x. f x >>= g)
bind-assoc (Ok x) f g = refl
bind-assoc (Err p) f g = refl

pub err_first : {told : Told} {A B : Type 0} (r : Elab A) (f : A → Elab B) → r ≡ Err told → (r >>= f) ≡ Err told
err_first {told} {A} {B} r f h = ap (λ (x : Elab A). x >>= f) h

-- ---- a chain grouped from the left

-- an operator tells what is wrong at its own byte, whatever byte is given
own_byte : (here : Integers) (a b sign : ℕ) (op : Arithmetic) (t v : u.Static) → integer here a (u.Static.binary sign op t v) ≡ integer here b (u.Static.binary sign op t v)
unfolding integer
own_byte here a b sign op t v = refl

-- what is computed, whatever byte is given
abbrev IsAlways : Integers → u.Static → Elab ℤ → Type 0
IsAlways here t r = (at : ℕ) → integer here at t ≡ r

with_left : (here : Integers) (at sign : ℕ) (op : Arithmetic) (t v : u.Static) (x : ℤ) → integer here sign t ≡ Ok x
    → integer here at (u.Static.binary sign op t v) ≡ (integer here sign v >>= λ y. integer_operation sign op x y)
unfolding integer
with_left here at sign op t v x h = ap (λ (r : Elab ℤ). r >>= λ a. integer here sign v >>= λ b. integer_operation sign op a b) h

chained-same_err : (here : Integers) (t : u.Static) (p : Told) (ls : List StaticLink) → IsAlways here t (Err p) → IsAlways here (static_chained t ls) (Err p)
unfolding integer
chained-same_err here t p [] h at = h at
chained-same_err here t p (l ∷ ls) h at =
    chained-same_err here (u.Static.binary l.at l.operator t (static_view l.operand)) p ls
    (λ at. ap (λ (r : Elab ℤ). r >>= λ a. integer here l.at (static_view l.operand) >>= λ b. integer_operation l.at l.operator a b) (h l.at)) at

chained-by : (here : Integers) (t : u.Static) (ls : List StaticLink) → ((z : ℤ) → IsAlways here t (Ok z) → IsAlways here (static_chained t ls) (all_operated here z ls))
    → (r : Elab ℤ) → IsAlways here t r → IsAlways here (static_chained t ls) (r >>= λ z. all_operated here z ls)
chained-by here t ls from (Ok z) h at = from z h at
chained-by here t ls from (Err p) h at = chained-same_err here t p ls h at

chained-from : (here : Integers) (t : u.Static) (x : ℤ) (ls : List StaticLink) → IsAlways here t (Ok x) → IsAlways here (static_chained t ls) (all_operated here x ls)
chained-from here t x [] h at = h at
chained-from here t x (l ∷ ls) h at =
    let v = static_view l.operand in
    let t' = u.Static.binary l.at l.operator t v in
    chained-by here t' ls (λ z. chained-from here t' z ls) (integer here l.at v >>= λ y. integer_operation l.at l.operator x y)
    (λ at. with_left here at l.at l.operator t v x (h l.at)) at
    ∙ bind-assoc (integer here l.at v) (λ y. integer_operation l.at l.operator x y) (λ z. all_operated here z ls)

-- the first operator of a chain likewise
start_always : (here : Integers) (st : StaticStart) (r : Elab ℤ) → integer here st.link.at (start_view st) ≡ r → IsAlways here (start_view st) r
start_always here st r h at = own_byte here at st.link.at st.link.at st.link.operator (static_view st.first) (static_view st.link.operand) ∙ h

pub chain-value : (here : Integers) (at : ℕ) (e : Static) (start : Box StaticStart Global) (links : Vec StaticLink Global) (st : StaticStart) (ls : List StaticLink) (x : ℤ)
    → e ≡ s.Chain start links → st ≡ start.value → ls ≡ links.items → integer here st.link.at (start_view st) ≡ Ok x → integer here at (static_view e) ≡ all_operated here x ls
chain-value here at e start links st ls x h j k given =
    ap (λ (a : Static). integer here at (static_view a)) h ∙ ap (integer here at) (view_chain start links)
    ∙ ap (λ (a : StaticStart). integer here at (static_chained (start_view a) links.items)) (sym j)
    ∙ chained-from here (start_view st) x links.items (start_always here st (Ok x) given) at ∙ ap (all_operated here x) (sym k)

pub chain-err : (here : Integers) (at : ℕ) (e : Static) (start : Box StaticStart Global) (links : Vec StaticLink Global) (st : StaticStart) (p : Told)
    → e ≡ s.Chain start links → st ≡ start.value → integer here st.link.at (start_view st) ≡ Err p → integer here at (static_view e) ≡ Err p
chain-err here at e start links st p h j given =
    subst (λ (r : Elab ℤ). r ≡ Err p)
    (sym (ap (λ (a : Static). integer here at (static_view a)) h ∙ ap (integer here at) (view_chain start links)
    ∙ ap (λ (a : StaticStart). integer here at (static_chained (start_view a) links.items)) (sym j)))
    (chained-same_err here (start_view st) p links.items (start_always here st (Err p) given) at)

-- what holds of each checked integer, and of what is refused of a division by 0 or of a negative exponent, holds of each
-- operation
pub each_operation : (P : Elab ℤ → Type 0) (at : ℕ) → ((x : ℤ) → P (checked_integer at x)) → P (refused StaticError at) → (op : Arithmetic) (x y : ℤ) → P (integer_operation at op x y)
each_operation P at checked none op x y = operated op
  where
    chosen : (test : Bool) (z : ℤ) → P (if test then refused StaticError at else checked_integer at z)
    chosen true z = none
    chosen false z = checked z

    raised : (n : ℤ) → P (powered at x n)
    raised (pos n) = checked (power x n)
    raised (negsuc n) = none

    operated : (op : Arithmetic) → P (integer_operation at op x y)
    operated Power = raised y
    operated Divide = chosen (nat_abs y == 0) (int_div x y)
    operated Modulo = chosen (nat_abs y == 0) (modulus x y)
    operated Remainder = chosen (nat_abs y == 0) (int_rem x y)
    operated Add = checked (x +ℤ y)
    operated Subtract = checked (x -ℤ y)
    operated Multiply = checked (x *ℤ y)
