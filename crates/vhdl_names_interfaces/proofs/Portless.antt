-- Generics are no ports.
use Rattle.std.proofs.Common.{◌≡◌, ℕ, suc, ◌+◌, Bool, false, cond, List, [], ◌∷◌, ◌++◌, Option, Some, sym, ap, ◌∙◌, arith}
use Rattle.std.specs.Prelude.{not, ◌&&◌, is_some}
use Rattle.std.proofs.lemmas.List.Sums.{sum_by-cons, sum_by-append}
use Rattle.vhdl_tree.specs.declared.operator.Direction.{Direction}
use Rattle.vhdl_tree.specs.Tree as t
use Rattle.vhdl_names_rules.specs.declared.fault.NameProblem.TheVariants.{LeftOut}
use Rattle.vhdl_names_rules.specs.units.Units as u
use Rattle.vhdl_names_rules.specs.Rules.{rule, is_wide, if_any}
use Rattle.vhdl_names_rules.specs.Visibility.{Name, Meaning, Sight, Declared, Declares, meaning, names_of, is_port, count_of, ranges_count, are_distinct, with_declared}
use Rattle.vhdl_names_rules.specs.Interfaces.{declared_names}
use Rattle.vhdl_names_rules.specs.Subtypes as subtypes
use Rattle.vhdl_names_rules.specs.Subtypes.{subtype, integer_subtype, class_of}
use Rattle.vhdl_names_rules.specs.Declarations.{GenericForm, generic_form, generic, as_kind, in_order, is_global}
use Rattle.vhdl_names_rules.proofs.laws.Rules.{comes, kept, some_is}
use Rattle.vhdl_names_declarations.specs.Entered.{entering, entered}
use Rattle.vhdl_names_declarations.proofs.Orders.{pair, first_is}
use Rattle.vhdl_names_declarations.proofs.Settling.{standing, standing_names, names_next, names_none}

abbrev counts : Declared → ℕ
counts d = cond (is_port d.meaning) 1 0

-- names of another meaning
standing_portless : (f : ℕ → Meaning) → ((k : ℕ) → is_port (f k) ≡ false) → (d : Option Direction) (b : Bool) (number ranges : ℕ) (ns : List Name) → count_of is_port (standing_names f d b number ranges ns) ≡ 0
standing_portless f none d b number ranges [] = ap (count_of is_port) (names_none f d b number ranges)
standing_portless f none d b number ranges (n ∷ ns) =
    let all = names_next f d b number ranges n ns in
    let rest = standing_portless f none d b (suc number) (suc ranges) ns in
    ap (count_of is_port) all
    ∙ sum_by-cons counts (standing f d b n number ranges) (standing_names f d b (suc number) (suc ranges) ns)
    ∙ ap (λ x. cond x 1 0 + count_of is_port (standing_names f d b (suc number) (suc ranges) ns)) (none number)
    ∙ omega (arith, rest)

form_portless : (s : Sight) (i : t.Subtype) (k : subtypes.TypeClass) (y : GenericForm) → generic_form s i k ≡ Some y → (n : ℕ) → is_port (y.meaning n) ≡ false
form_portless s i subtypes.integers y h n =
    let a = comes (integer_subtype s i) _ y h in
    sym (ap (λ (y : GenericForm). is_port (y.meaning n)) (some_is _ y a.rest))
form_portless s i subtypes.booleans y h n =
    let a = comes (rule LeftOut (is_wide s.language && not (is_some i.constraint))) _ y h in
    sym (ap (λ (y : GenericForm). is_port (y.meaning n)) (some_is _ y a.rest))
form_portless s i subtypes.others y h n =
    let a = comes (rule LeftOut (is_wide s.language)) _ y h in
    let b = comes (subtype s i) _ y a.rest in
    let c = comes (as_kind b.value.type) _ y b.rest in
    sym (ap (λ (y : GenericForm). is_port (y.meaning n)) (some_is _ y c.rest))

one_portless : (s : Sight) (g : t.Generic) (x : Declares u.Generic) → generic s g ≡ Some x → count_of is_port x.declared ≡ 0
unfolding generic
one_portless s g x h =
    let m = comes (meaning s g.subtype.mark.text) _ x h in
    let form = comes (generic_form s g.subtype (class_of m.value)) _ x m.rest in
    let default = comes (if_any form.value.value g.default) _ x form.rest in
    let f = form.value in
    sym (ap (λ (x : Declares u.Generic). count_of is_port x.declared) (some_is _ x default.rest))
    ∙ standing_portless f.meaning (form_portless s g.subtype (class_of m.value) f form.is) f.direction (is_global s g.subtype) (count_of f.class s.region) (ranges_count s.region) (names_of g.names)

all_portless : (s : Sight) (gs : List t.Generic) (x : Declares u.Generic) → in_order with_declared generic s gs ≡ Some x → count_of is_port x.declared ≡ 0
all_portless s [] x h = sym (ap (λ (x : Declares u.Generic). count_of is_port x.declared) (some_is _ x h))
all_portless s (g ∷ gs) x h =
    let one = comes (generic s g) _ x h in
    let rest = comes (in_order with_declared generic (with_declared s one.value.declared) gs) _ x one.rest in
    let a = one_portless s g one.value one.is in
    let b = all_portless (with_declared s one.value.declared) gs rest.value rest.is in
    sym (ap (λ (x : Declares u.Generic). count_of is_port x.declared) (some_is _ x rest.rest))
    ∙ sum_by-append counts one.value.declared rest.value.declared
    ∙ omega (arith, a, b)

-- where nothing stands before them
pub no_ports : (s w : Sight) (gs : List t.Generic) (ys : List u.Generic) → s.region ≡ [] → entering (in_order with_declared generic) s gs ≡ Some (pair w ys) → count_of is_port w.region ≡ 0
no_ports s w gs ys empty given =
    let x = comes (in_order with_declared generic s gs) (entered s) (pair w ys) given in
    let k = kept (are_distinct (declared_names (s.region ++ x.value.declared))) (Some (pair (with_declared s x.value.declared) x.value.analysed)) (pair w ys) x.rest in
    ap (λ (o : Sight). count_of is_port o.region) (sym (first_is (with_declared s x.value.declared) w x.value.analysed ys k.1))
    ∙ ap (λ r. count_of is_port (r ++ x.value.declared)) empty
    ∙ all_portless s gs x.value x.is
