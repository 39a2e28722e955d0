-- What a truth of the code is taken apart to, as contracts see it.
use Rattle.std.proofs.Common.{◌≡◌, ℕ, true, false, true≢false, List, [], ◌∷◌, length, Box, Global, None, Ok, refl, ap, sym}
use mathlib.Core.Former.{Count}
use Rattle.vhdl_values.specs.declared.kinds.Edge.{Edge}
use Rattle.vhdl_values.specs.declared.kinds.Logic.{Logic}
use Rattle.vhdl_values.specs.declared.kinds.Logic.TheVariants.{And}
use Rattle.vhdl_names_trees.specs.declared.test.Test.{Test}
use Rattle.vhdl_names_trees.specs.declared.test.Test.TheVariants as t
use Rattle.vhdl_names_trees.specs.declared.test.Test.TheBlock.{Row_of-TestLink, end_of-TestLink, more_of-TestLink}
use Rattle.vhdl_names_trees.specs.declared.test.TestLink.{TestLink}
use Rattle.vhdl_names_trees.specs.declared.vector.SignalPart.{SignalPart}
use Rattle.vhdl_names_trees.specs.declared.vector.Value.{Value}
use Rattle.vhdl_names_rules.specs.units.Expressions as u
use Rattle.vhdl_names_trees.specs.views.Tests.{test_view, links_view, test_chained}
use Rattle.vhdl_names_trees.specs.views.Parted.{parted, ends_in_and, is_call, event_of, values_alike}

-- ---- what `and` joins last

pub and_ends : (op : Logic) (x y : u.Test) → op ≡ And → ends_in_and (u.Test.both op x y) ≡ true
and_ends op x y h = ap (λ op. ends_in_and (u.Test.both op x y)) h

pub other_ends : (op : Logic) (x y : u.Test) → (op ≡ And → ⊥) → ends_in_and (u.Test.both op x y) ≡ false
other_ends And x y other = absurd (other refl)
other_ends _ x y other = refl

pub and_parted : (op : Logic) (x y : u.Test) → ends_in_and (u.Test.both op x y) ≡ true → parted (u.Test.both op x y) ≡ Ok (x, y)
and_parted And x y h = refl
and_parted _ x y h = absurd (true≢false (sym h))

pub no_links : (left : u.Test) (ls : List TestLink) → length ls ≡ 0 → test_chained left ls ≡ left
no_links left [] h = refl
no_links left (l ∷ ls) h = absurd cc

-- ---- what a chain is not

module _ {A : Type 0} (f : u.Test → A) (a : A) (other : (op : Logic) (x y : u.Test) → f (u.Test.both op x y) ≡ a) where
  pub of_links : (op : Logic) (x y : u.Test) (n : Count) (row : Row_of-TestLink n) → f (links_view (u.Test.both op x y) row) ≡ a
  of_links op x y n end_of-TestLink = other op x y
  of_links op x y n (more_of-TestLink operator operand rest) = of_links operator (u.Test.both op x y) (test_view operand) _ rest

pub no_call : (test : Test) → ((kind : Edge) (place : SignalPart) → test ≡ t.Edge kind place → ⊥) → is_call (test_view test) ≡ false
no_call (t.Edge kind place) other = absurd (other kind place refl)
no_call (t.Chain' b first operator operand shape rest) other = of_links is_call false (λ op x y. refl) operator (test_view first) (test_view operand) _ rest
no_call _ other = refl

pub no_event : (test : Test) → ((place : SignalPart) → test ≡ t.Event place → ⊥) → event_of (test_view test) ≡ None
no_event (t.Event place) other = absurd (other place refl)
no_event (t.Chain' b first operator operand shape rest) other = of_links event_of None (λ op x y. refl) operator (test_view first) (test_view operand) _ rest
no_event _ other = refl

pub none_alike : (test : Test) → ((at : ℕ) (left right : Box Value Global) → test ≡ t.Alike at left right → ⊥) → values_alike (test_view test) ≡ None
none_alike (t.Alike at left right) other = absurd (other at left right refl)
none_alike (t.Chain' b first operator operand shape rest) other = of_links values_alike None (λ op x y. refl) operator (test_view first) (test_view operand) _ rest
none_alike _ other = refl
