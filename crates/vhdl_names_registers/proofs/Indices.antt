-- Static integers, compared operator by operator from the last.
use Rattle.std.proofs.Common.{◌≡◌, ℕ, suc, ◌+◌, Bool, true, false, ◌&&◌, Box, Global, List, [], ◌∷◌, Some, None, refl, ap, sym, ◌∙◌}
use mathlib.Core.Former.{Count}
use Rattle.vhdl_names_trees.specs.declared.integer.Static.{Static}
use Rattle.vhdl_names_trees.specs.declared.integer.Static.TheVariants as t
use Rattle.vhdl_names_rules.specs.declared.operator.Arithmetic.{Arithmetic}
use Rattle.vhdl_names_rules.specs.declared.operator.Bound.{Bound}
use Rattle.vhdl_names_rules.specs.units.Expressions as u
use Rattle.vhdl_names_trees.specs.declared.integer.Static.TheBlock.{Row_of-StaticLink, end_of-StaticLink, more_of-StaticLink}
use Rattle.vhdl_names_trees.specs.declared.integer.StaticLink.{StaticLink}
use Rattle.vhdl_names_trees.specs.declared.integer.StaticStart.{StaticStart}
use Rattle.vhdl_names_trees.specs.views.Integers.{static_view, start_view, links_view, static_chained}
use Rattle.vhdl_names_rules.specs.Edges.{same_operator, same_index}
use Rattle.vhdl_names_rules.proofs.laws.Rules.{some_is}
use Rattle.vhdl_names_registers.specs.Spines.{Operated, last_of, size}

-- two by their last operators
abbrev both_same : Operated → Operated → Bool
both_same o p = same_operator o.operator p.operator && (same_index o.before p.before && same_index o.operand p.operand)

pub by_last : (x y : u.Static) (o p : Operated) → Some o ≡ last_of x → Some p ≡ last_of y → same_index x y ≡ both_same o p
by_last (u.Static.binary at op x y) (u.Static.binary other by v w) o p h k =
    let q : Operated = record { operator = by; before = v; operand = w } in
    sym (ap (λ o. both_same o p) (some_is o (record { operator = op; before = x; operand = y }) h) ∙ ap (both_same (record { operator = op; before = x; operand = y })) (some_is p q k))
by_last _ _ o p h k = absurd cc

pub last_differ : (x y : u.Static) (o : Operated) → Some o ≡ last_of x → None ≡ last_of y → same_index x y ≡ false
last_differ (u.Static.binary at op x y) (u.Static.binary other by v w) o h k = absurd cc
last_differ (u.Static.binary at op x y) _ o h k = refl
last_differ _ _ o h k = absurd cc

pub lasts_differ : (x y : u.Static) (o : Operated) → None ≡ last_of x → Some o ≡ last_of y → same_index x y ≡ false
lasts_differ (u.Static.binary at op x y) _ o h k = absurd cc
lasts_differ _ (u.Static.binary other by v w) o h k = refl
lasts_differ _ _ o h k = absurd cc

pub size_by_last : (x : u.Static) (o : Operated) → Some o ≡ last_of x → size x ≡ suc (size o.before + size o.operand)
size_by_last (u.Static.binary at op x y) o h = sym (ap (λ (o : Operated). suc (size o.before + size o.operand)) (some_is o (record { operator = op; before = x; operand = y }) h))
size_by_last _ o h = absurd cc

pub and_before : (a b c : Bool) → a ≡ true → c ≡ true → (a && (b && c)) ≡ b
and_before true true true h k = refl
and_before true false true h k = refl
and_before false b c h k = absurd cc
and_before true b false h k = absurd cc

pub no_operand : (a b c : Bool) → c ≡ false → (a && (b && c)) ≡ false
no_operand false b c h = refl
no_operand true false c h = refl
no_operand true true c h = h

-- ---- what has no last operator

chained_has_last : (at : ℕ) (op : Arithmetic) (x y : u.Static) (ls : List StaticLink) → last_of (static_chained (u.Static.binary at op x y) ls) ≡ None → ⊥
chained_has_last at op x y [] h = absurd cc
chained_has_last at op x y (l ∷ ls) h = chained_has_last l.at l.operator (u.Static.binary at op x y) (static_view l.operand) ls h

pub chain_has_last : (start : StaticStart) (ls : List StaticLink) → last_of (static_chained (start_view start) ls) ≡ None → ⊥
chain_has_last start ls h = chained_has_last start.link.at start.link.operator (static_view start.first) (static_view start.link.operand) ls h

row_has_last : (at : ℕ) (op : Arithmetic) (x y : u.Static) (n : Count) (row : Row_of-StaticLink n) → last_of (links_view (u.Static.binary at op x y) row) ≡ None → ⊥
row_has_last at op x y n end_of-StaticLink h = absurd cc
row_has_last at op x y n (more_of-StaticLink operator place operand rest) h = row_has_last place operator (u.Static.binary at op x y) (static_view operand) _ rest h

pub number_differs : (n : ℕ) (y : Static) → last_of (static_view y) ≡ None → ((m : ℕ) → y ≡ t.Number m → ⊥) → same_index (u.number n) (static_view y) ≡ false
number_differs n (t.Number m) h other = absurd (other m refl)
number_differs n (t.Chain' p first op at operand shape rest) h other = absurd (row_has_last at op (static_view first) (static_view operand) _ rest h)
number_differs n _ h other = refl

pub generic_differs : (n : ℕ) (y : Static) → last_of (static_view y) ≡ None → ((m : ℕ) → y ≡ t.Generic m → ⊥) → same_index (u.generic n) (static_view y) ≡ false
generic_differs n (t.Generic m) h other = absurd (other m refl)
generic_differs n (t.Chain' p first op at operand shape rest) h other = absurd (row_has_last at op (static_view first) (static_view operand) _ rest h)
generic_differs n _ h other = refl

pub constant_differs : (n : ℕ) (y : Static) → last_of (static_view y) ≡ None → ((m : ℕ) → y ≡ t.Constant m → ⊥) → same_index (u.Static.constant n) (static_view y) ≡ false
constant_differs n (t.Constant m) h other = absurd (other m refl)
constant_differs n (t.Chain' p first op at operand shape rest) h other = absurd (row_has_last at op (static_view first) (static_view operand) _ rest h)
constant_differs n _ h other = refl

pub parameter_differs : (n : ℕ) (y : Static) → last_of (static_view y) ≡ None → ((m : ℕ) → y ≡ t.GenerateParameter m → ⊥) → same_index (u.generate_parameter n) (static_view y) ≡ false
parameter_differs n (t.GenerateParameter m) h other = absurd (other m refl)
parameter_differs n (t.Chain' p first op at operand shape rest) h other = absurd (row_has_last at op (static_view first) (static_view operand) _ rest h)
parameter_differs n _ h other = refl

pub negated_differs : (at : ℕ) (x : u.Static) (y : Static) → last_of (static_view y) ≡ None → ((at : ℕ) (z : Box Static Global) → y ≡ t.Negated at z → ⊥) → same_index (u.Static.negated at x) (static_view y) ≡ false
negated_differs at x (t.Negated' place p z) h other = absurd (other place (record { ptr = p.ptr; alloc = p.alloc; value = z }) refl)
negated_differs at x (t.Chain' p first op place operand shape rest) h other = absurd (row_has_last place op (static_view first) (static_view operand) _ rest h)
negated_differs at x _ h other = refl

pub absolute_differs : (at : ℕ) (x : u.Static) (y : Static) → last_of (static_view y) ≡ None → ((at : ℕ) (z : Box Static Global) → y ≡ t.Absolute at z → ⊥) → same_index (u.absolute at x) (static_view y) ≡ false
absolute_differs at x (t.Absolute' place p z) h other = absurd (other place (record { ptr = p.ptr; alloc = p.alloc; value = z }) refl)
absolute_differs at x (t.Chain' p first op place operand shape rest) h other = absurd (row_has_last place op (static_view first) (static_view operand) _ rest h)
absolute_differs at x _ h other = refl

pub bound_differs : (b : Bound) (n : ℕ) (y : Static) → last_of (static_view y) ≡ None → ((c : Bound) (m : ℕ) → y ≡ t.Bound c m → ⊥) → same_index (u.bound b n) (static_view y) ≡ false
bound_differs b n (t.Bound c m) h other = absurd (other c m refl)
bound_differs b n (t.Chain' p first op at operand shape rest) h other = absurd (row_has_last at op (static_view first) (static_view operand) _ rest h)
bound_differs b n _ h other = refl

pub other_differs : (x : Static) (y : u.Static) → last_of (static_view x) ≡ None → ((n : ℕ) → x ≡ t.Number n → ⊥) → ((n : ℕ) → x ≡ t.Generic n → ⊥)
    → ((n : ℕ) → x ≡ t.Constant n → ⊥) → ((n : ℕ) → x ≡ t.GenerateParameter n → ⊥) → ((at : ℕ) (z : Box Static Global) → x ≡ t.Negated at z → ⊥)
    → ((at : ℕ) (z : Box Static Global) → x ≡ t.Absolute at z → ⊥) → ((b : Bound) (n : ℕ) → x ≡ t.Bound b n → ⊥) → same_index (static_view x) y ≡ false
other_differs (t.Number n) y h a b c d e f g = absurd (a n refl)
other_differs (t.Generic n) y h a b c d e f g = absurd (b n refl)
other_differs (t.Constant n) y h a b c d e f g = absurd (c n refl)
other_differs (t.GenerateParameter n) y h a b c d e f g = absurd (d n refl)
other_differs (t.Negated' place p z) y h a b c d e f g = absurd (e place (record { ptr = p.ptr; alloc = p.alloc; value = z }) refl)
other_differs (t.Absolute' place p z) y h a b c d e f g = absurd (f place (record { ptr = p.ptr; alloc = p.alloc; value = z }) refl)
other_differs (t.Bound k n) y h a b c d e f g = absurd (g k n refl)
other_differs (t.Chain' p first op place operand shape rest) y h a b c d e f g = absurd (row_has_last place op (static_view first) (static_view operand) _ rest h)
other_differs _ y h a b c d e f g = refl
