-- What a choice breaks first, form by form.
use Rattle.std.proofs.Common.{◌≡◌, ℕ, suc, ◌<◌, true, false, true≢false, List, [], ◌∷◌, map, length, drop, get_or, drop-cons, Option, Some, None, Result, IfErr, refl, sym, ap, ◌∙◌}
use Rattle.vhdl_tree.specs.Tree as t
use Rattle.vhdl_names_rules.specs.declared.fault.NameFault.{NameFault}
use Rattle.vhdl_names_rules.specs.declared.fault.NameFault.TheVariants.{At}
use Rattle.vhdl_names_rules.specs.declared.fault.NameProblem.TheVariants.{LeftOut}
use Rattle.vhdl_names_rules.specs.declared.kind.ObjectType.{ObjectType}
use Rattle.vhdl_names_rules.specs.units.Statements.{Choice}
use Rattle.vhdl_names_rules.specs.Gives.{Gives}
use Rattle.vhdl_names_rules.specs.Visibility as visibility
use Rattle.vhdl_names_rules.specs.Visibility.{Sight}
use Rattle.vhdl_names_rules.specs.Choices as c
use Rattle.vhdl_names_rules.specs.problems.Broken.{Broken, Tells, refused, ◌▸◌, lacking, where_given, any_of}
use Rattle.vhdl_names_rules.specs.problems.Expressions.{meaning}
use Rattle.vhdl_names_rules.specs.problems.Subtypes.{literal}
use Rattle.vhdl_names_rules.specs.problems.Choices as b
use Rattle.vhdl_names_rules.proofs.Telling.{IsKept, behind_kept, told_same, told_left, told_right}
use Rattle.vhdl_names_rules.proofs.kept.Expressions.{meaning_kept}
use Rattle.vhdl_names_rules.specs.Instances.{as_name}
use Rattle.vhdl_names_expressions.specs.Chosen.{is_bare}
use Rattle.vhdl_names_expressions.proofs.Breaking.{wanted_by}

module _ (sight : Sight) (type : ObjectType) (n : t.Ident) where
  pub chosen_meaning : (y : t.Suffix) (a : Option t.Attribute) (f : NameFault) → Tells (meaning sight n) f → Tells (b.chosen sight type (t.named n y a)) f
  chosen_meaning t.plain None f h = told_left (meaning sight n) (where_given (visibility.meaning sight n.text) (λ d. lacking (b.choice_problem d) n.at (c.named_choice type d))) f h
  chosen_meaning t.plain (Some a) f h = told_left (meaning sight n) (refused LeftOut n.at) f h
  chosen_meaning (t.arguments es) a f h = told_left (meaning sight n) (refused LeftOut n.at) f h
  chosen_meaning (t.sliced d w e) a f h = told_left (meaning sight n) (refused LeftOut n.at) f h

  pub chosen_behind : (y : t.Suffix) (a : Option t.Attribute) (d : visibility.Meaning) → visibility.meaning sight n.text ≡ Some d → is_bare y a ≡ false →
      Tells (b.chosen sight type (t.named n y a)) (At LeftOut n.at)
  chosen_behind t.plain None d e h = absurd (true≢false h)
  chosen_behind t.plain (Some a) d e h = told_right (meaning sight n) (refused LeftOut n.at) (At LeftOut n.at) (meaning_kept sight n d e) refl
  chosen_behind (t.arguments es) a d e h = told_right (meaning sight n) (refused LeftOut n.at) (At LeftOut n.at) (meaning_kept sight n d e) refl
  chosen_behind (t.sliced x w y) a d e h = told_right (meaning sight n) (refused LeftOut n.at) (At LeftOut n.at) (meaning_kept sight n d e) refl

  pub chosen_bare : {X : Type 0} (y : t.Suffix) (a : Option t.Attribute) (see : X → Choice) (d : visibility.Meaning) (r : Result X NameFault) → is_bare y a ≡ true →
      visibility.meaning sight n.text ≡ Some d → Gives see (c.named_choice type d) r → IfErr r (Tells (refused (b.choice_problem d) n.at)) →
      IfErr r (Tells (b.chosen sight type (t.named n y a)))
  chosen_bare t.plain None see d r h e given told =
      wanted_by (meaning sight n) (visibility.meaning sight n.text) b.choice_problem n.at (c.named_choice type) see d r (meaning_kept sight n d e) e given told
  chosen_bare t.plain (Some a) see d r h e given told = absurd (true≢false (sym h))
  chosen_bare (t.arguments es) a see d r h e given told = absurd (true≢false (sym h))
  chosen_bare (t.sliced x w y) a see d r h e given told = absurd (true≢false (sym h))

pub chosen_literal : (sight : Sight) (type : ObjectType) (e : t.Expr) → None ≡ as_name e → literal type e ≡ b.chosen sight type e
chosen_literal sight type (t.named n y a) h = cc
chosen_literal sight type e h = refl

-- choices that are not others alone
pub choices_each : (sight : Sight) (type : ObjectType) (cs : List t.Choice) → c.is_others cs ≡ false → b.choices sight type cs ≡ any_of (b.choice sight type) cs
choices_each sight type (t.otherwise at ∷ []) h = absurd (true≢false h)
choices_each sight type cs h = refl

-- ---- each of several

-- those that are left, the next of them first
rest_any : {C A : Type 0} (f : A → Broken) (g : C → A) (cs : List C) (i : ℕ) (x : C) → i < length cs → x ≡ get_or cs i x →
    (f (g x) ▸ any_of f (map g (drop (suc i) cs))) ≡ any_of f (map g (drop i cs))
rest_any f g cs i x lt is =
    ap (λ z. f (g z) ▸ any_of f (map g (drop (suc i) cs))) is ∙ sym (ap (λ l. any_of f (map g l)) (drop-cons cs i x lt))

pub next_told : {C A : Type 0} (b : A → Broken) (g : C → A) (cs : List C) (i : ℕ) (x : C) (f : NameFault) → i < length cs → x ≡ get_or cs i x →
    Tells (b (g x)) f → Tells (any_of b (map g (drop i cs))) f
next_told b g cs i x f lt is h = told_same _ _ f (rest_any b g cs i x lt is) (told_left (b (g x)) (any_of b (map g (drop (suc i) cs))) f h)

pub any_left : {C A : Type 0} (b : A → Broken) (g : C → A) (cs : List C) (i j : ℕ) (x : C) → i < length cs → x ≡ get_or cs i x → suc i ≡ j → IsKept (b (g x)) →
    any_of b (map g (drop i cs)) ≡ any_of b (map g (drop j cs))
any_left b g cs i j x lt is next kept =
    sym (rest_any b g cs i x lt is) ∙ behind_kept (b (g x)) (any_of b (map g (drop (suc i) cs))) kept ∙ ap (λ k. any_of b (map g (drop k cs))) next
