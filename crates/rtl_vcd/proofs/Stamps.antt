-- Changes behind their time.
use Rattle.std.proofs.Common.{◌≡◌, ℕ, ◌+◌, Bool, true, false, not, ◌||◌, List, [], ◌∷◌, ◌++◌, map, refl, sym, ap, ◌∙◌, append_assoc, append-nil, slice_index, ◌≤◌, length, take, drop, arith}
use Rattle.std.specs.Prelude.{if◌then◌else◌, codes}
use Rattle.std.specs.Str.{bytes_eq}
use Rattle.rtl_net.specs.declared.signal.SignalKind.TheVariants.{One, Vector, Enumeration, Integer, Boolean}
use Rattle.rtl_net.specs.declared.signal.SignalKind.{SignalKind}
use Rattle.rtl_net.specs.Nets.{SignalView}
use Rattle.rtl_vcd_values.specs.Values.{character, code, value_change}
use Rattle.rtl_vcd.proofs.Names.{numbered_further}
use Rattle.rtl_vcd.specs.Trace.{printed, change, are_some, time_line}
use Rattle.rtl_vcd.specs.Blocks.{changes_from, continued}

pub are_some_behind : (xs ys : List ℕ) → are_some ys ≡ true → are_some (xs ++ ys) ≡ true
are_some_behind [] ys e = e
are_some_behind (x ∷ xs) ys e = refl

change_is_some : (kind : SignalKind) (k : ℕ) (values : List ℕ) → are_some (value_change kind (code k) values) ≡ true
change_is_some One k values = are_some_behind (map character values ++ code k) (codes "\n") refl
change_is_some Boolean k values = are_some_behind (map character values ++ code k) (codes "\n") refl
change_is_some (Vector left right) k values = refl
change_is_some (Enumeration count) k values = refl
change_is_some (Integer least greatest) k values = refl

-- every name prints something
pub printed_is_some : (k : ℕ) (s : SignalView) (valuation : List ℕ) → are_some (printed k s valuation) ≡ true
printed_is_some k s valuation = change_is_some s.kind k (map (slice_index valuation) s.nets)

by_test : (b : Bool) (p : List ℕ) (otherwise : Bool) → otherwise ≡ not b → (if b then [] else p) ≡ (if otherwise then p else [])
by_test true p otherwise e = rw e refl
by_test false p otherwise e = rw e refl

-- a change is what is printed, where that is printed otherwise
pub change_is : (k : ℕ) (s : SignalView) (before now : List ℕ) (otherwise : Bool) → otherwise ≡ not (bytes_eq (printed k s before) (printed k s now))
    → change k s before now ≡ (if otherwise then printed k s now else [])
change_is k s before now otherwise e = by_test (bytes_eq (printed k s before) (printed k s now)) (printed k s now) otherwise e

pub are_some_append : (xs ys : List ℕ) → are_some (xs ++ ys) ≡ (are_some xs || are_some ys)
are_some_append [] ys = refl
are_some_append (x ∷ xs) ys = refl

pub or_append : (b : Bool) (xs ys : List ℕ) → (b || are_some (xs ++ ys)) ≡ ((b || are_some xs) || are_some ys)
or_append true xs ys = refl
or_append false xs ys = are_some_append xs ys

-- changes behind others
pub continued_more : (is_printed : Bool) (time : ℕ) (xs ys : List ℕ)
    → continued is_printed time (xs ++ ys) ≡ continued is_printed time xs ++ continued (is_printed || are_some xs) time ys
continued_more true time xs ys = refl
continued_more false time [] ys = refl
continued_more false time (x ∷ xs) ys = sym (append_assoc (time_line time) (x ∷ xs) ys)

-- the changes of more names
pub changes_behind : (k n m : ℕ) (names : List SignalView) (old new : List ℕ) → n ≤ length names
    → changes_from k (take (n + m) names) old new ≡ changes_from k (take n names) old new ++ changes_from (k + n) (take m (drop n names)) old new
changes_behind k n m names old new le = numbered_further (λ i s. change i s old new) k n m names le

pub changes_further : (n m : ℕ) (names : List SignalView) (old new : List ℕ) → n ≤ length names
    → changes_from 0 (take (n + m) names) old new ≡ changes_from 0 (take n names) old new ++ changes_from n (take m (drop n names)) old new
changes_further n m names old new le =
    let e : 0 + n ≡ n = omega arith in
    changes_behind 0 n m names old new le ∙ ap (λ k. changes_from 0 (take n names) old new ++ changes_from k (take m (drop n names)) old new) e

-- where these are none
pub none_further : (n m : ℕ) (names : List SignalView) (old new : List ℕ) → n ≤ length names → changes_from n (take m (drop n names)) old new ≡ []
    → changes_from 0 (take (n + m) names) old new ≡ changes_from 0 (take n names) old new
none_further n m names old new le none =
    changes_further n m names old new le ∙ ap (λ t. changes_from 0 (take n names) old new ++ t) none ∙ append-nil (changes_from 0 (take n names) old new)
