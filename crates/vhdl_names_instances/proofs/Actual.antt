-- Actuals, one after another.
use Rattle.std.proofs.Common.{◌≡◌, ℕ, zero, suc, true, false, List, [], ◌∷◌, ◌++◌, map, drop, Option, Some, None, refl, ap, sym, ◌∙◌, true≢false}
use Rattle.std.specs.Prelude.{option_map, slice_get}
use Rattle.std.specs.Borrow.{Bor}
use Rattle.std.proofs.lemmas.Option.{slice_get-map}
use Rattle.std.proofs.lemmas.List.{append_assoc, append-nil}
use Rattle.vhdl_tree.specs.Tree as t
use Rattle.vhdl_tree.specs.declared.expression.Expr.{Expr}
use Rattle.vhdl_names_rules.specs.Rules.{◌>>=◌}
use Rattle.vhdl_names_rules.specs.Visibility as visibility
use Rattle.vhdl_names_rules.specs.Visibility.{Meaning, Sight}
use Rattle.vhdl_names_rules.specs.Names.{Suffix}
use Rattle.vhdl_names_rules.specs.Expressions.{typed_suffix}
use Rattle.vhdl_names_rules.specs.Instances.{Formal, as_name, is_type, may_join}
use Rattle.vhdl_names_rules.specs.Statements.{SignalName, signal}
use Rattle.vhdl_names_rules.specs.declared.fault.NameFault.{NameFault}
use Rattle.vhdl_names_rules.specs.declared.fault.NameProblem.{NameProblem}
use Rattle.vhdl_names_rules.specs.declared.fault.NameProblem.TheVariants.{TypeMismatch, WriteOfIn, LeftOut}
use Rattle.vhdl_names_rules.specs.problems.Broken.{Broken, Tells, refused, ◌▸◌, unless, lacking, where_given}
use Rattle.vhdl_names_rules.specs.problems.Places.{start}
use Rattle.vhdl_names_rules.specs.problems.Expressions.{meaning, no_attribute, typed_suffix as broken_suffix}
use Rattle.vhdl_names_rules.specs.problems.Statements.{named}
use Rattle.vhdl_names_rules.specs.problems.Instances.{names_value, actual_signal, port_actual}
use Rattle.vhdl_names_rules.proofs.Telling.{IsKept, behind_kept, unless_kept, lacking_kept, told_same, told_left, told_right, told_given, told_unless, told_lacking}
use Rattle.vhdl_names_rules.proofs.kept.Expressions.{meaning_kept, typed_suffix_kept}
use Rattle.vhdl_names_rules.proofs.kept.Instances.{names_no_value, actual_signal_kept}
use Rattle.vhdl_names_expressions.proofs.Each.{behind}
use Rattle.vhdl_names_instances.specs.Views.{actual_view}
use Rattle.vhdl_names_instances.specs.steps.Actuals.{each_of, one_of}

-- ---- actuals in order

-- an actual at a place
pub entry_at : (as' : List (Option (Bor Expr))) (i : ℕ) (o : Option (Option (Bor Expr))) → o ≡ slice_get as' i
    → slice_get (map actual_view as') i ≡ option_map actual_view o
entry_at as' i o e = slice_get-map actual_view as' i ∙ ap (option_map actual_view) (sym e)

module _ {F X : Type 0} (one : F → Option t.Expr → Option X) where
  -- an entry before the others
  abbrev more : Option (List X) → Option X → Option (List X)
  more rest None = Some []
  more rest (Some x) = rest >>= λ xs. Some (x ∷ xs)

  no_actuals : (fs : List F) → each_of one fs [] ≡ Some []
  no_actuals [] = refl
  no_actuals (f ∷ fs) = refl

  no_entry : (o : Option F) → one_of one o None ≡ Some None
  no_entry None = refl
  no_entry (Some f) = refl

  abbrev here : List F → List (Option t.Expr) → ℕ → Option (Option X)
  here fs es i = one_of one (slice_get fs i) (slice_get es i)

  unrolled : (fs : List F) (es : List (Option t.Expr)) (i : ℕ) → each_of one (drop i fs) (drop i es) ≡ (here fs es i >>= more (each_of one (drop (suc i) fs) (drop (suc i) es)))
  unrolled [] es zero = refl
  unrolled [] es (suc i) = refl
  unrolled (f ∷ fs) [] zero = refl
  unrolled (f ∷ fs) [] (suc i) = no_actuals (drop i fs) ∙ ap (λ o. o >>= more (each_of one (drop (suc i) fs) [])) (sym (no_entry (slice_get fs i)))
  unrolled (f ∷ fs) (e ∷ es) zero = go (one f e)
    where
      go : (o : Option X) → (o >>= λ x. each_of one fs es >>= λ xs. Some (x ∷ xs)) ≡ ((o >>= λ x. Some (Some x)) >>= more (each_of one fs es))
      go None = refl
      go (Some x) = refl
  unrolled (f ∷ fs) (e ∷ es) (suc i) = unrolled fs es i

  module _ (whole : Option (List X)) (ys : List X) (fs : List F) (es : List (Option t.Expr)) (i : ℕ) (h : whole ≡ behind ys (each_of one (drop i fs) (drop i es))) where
    abbrev rest : Option (List X)
    rest = each_of one (drop (suc i) fs) (drop (suc i) es)

    by_entry : (o : Option (Option X)) → here fs es i ≡ o → whole ≡ behind ys (o >>= more rest)
    by_entry o e = h ∙ ap (behind ys) (unrolled fs es i ∙ ap (λ o. o >>= more rest) e)

    pub entry_fails : here fs es i ≡ None → whole ≡ None
    entry_fails e = by_entry None e

    pub entry_goes : (x : X) → here fs es i ≡ Some (Some x) → whole ≡ behind (ys ++ x ∷ []) rest
    entry_goes x e = by_entry (Some (Some x)) e ∙ go rest
      where
        go : (o : Option (List X)) → behind ys (o >>= λ xs. Some (x ∷ xs)) ≡ behind (ys ++ x ∷ []) o
        go None = refl
        go (Some zs) = ap Some (sym (append_assoc ys (x ∷ []) zs))

    pub actuals_end : here fs es i ≡ Some None → whole ≡ Some ys
    actuals_end e = by_entry (Some None) e ∙ ap Some (append-nil ys)

-- ---- the name of a value

pub refused_first : (p : NameProblem) (at : ℕ) (b : Broken) → (refused p at ▸ b) ≡ refused p at
unfolding ◌▸◌
refused_first p at b = refl

module _ (sight : Sight) (n : t.Name) where
  abbrev meant : Option Meaning
  meant = visibility.meaning sight n.identifier.text

  pub value_is_no_signal : names_value meant n.suffix ≡ true → signal sight n ≡ None
  value_is_no_signal h = go (signal sight n) refl
    where
      go : (o : Option SignalName) → signal sight n ≡ o → o ≡ None
      go None e = refl
      go (Some x) e = absurd (true≢false (sym h ∙ names_no_value sight n x e))

  value_is_known : names_value meant n.suffix ≡ true → IsKept (meaning sight n.identifier)
  value_is_known h = go meant refl h
    where
      go : (m : Option Meaning) → meant ≡ m → names_value m n.suffix ≡ true → IsKept (meaning sight n.identifier)
      go None e h = absurd cc
      go (Some d) e h = meaning_kept sight n.identifier d e

  abbrev behind_suffix : Broken
  behind_suffix = no_attribute n.attribute

  -- what is told of its suffix, and of itself
  pub suffix_told : (f : NameFault) → names_value meant n.suffix ≡ true → Tells (broken_suffix sight n.suffix) f → Tells (named sight n ▸ refused LeftOut n.identifier.at) f
  suffix_told f h w =
      told_left (named sight n) (refused LeftOut n.identifier.at) f
      (told_right (meaning sight n.identifier) (broken_suffix sight n.suffix ▸ behind_suffix) f (value_is_known h) (told_left (broken_suffix sight n.suffix) behind_suffix f w))

  pub value_told : (f : NameFault) (at : ℕ) → names_value meant n.suffix ≡ true → (s : Suffix) → typed_suffix sight n.suffix ≡ Some s
      → (behind_suffix ▸ refused LeftOut n.identifier.at) ≡ refused LeftOut at → Tells (refused LeftOut at) f → Tells (named sight n ▸ refused LeftOut n.identifier.at) f
  value_told f at h s e q w =
      let named_is : named sight n ≡ behind_suffix =
      behind_kept (meaning sight n.identifier) (broken_suffix sight n.suffix ▸ behind_suffix) (value_is_known h)
      ∙ behind_kept (broken_suffix sight n.suffix) behind_suffix (typed_suffix_kept n.suffix sight s e) in
      told_same (refused LeftOut at) (named sight n ▸ refused LeftOut n.identifier.at) f (sym (ap (λ b. b ▸ refused LeftOut n.identifier.at) named_is ∙ q)) w

-- ---- what is told of an actual

module _ (sight : Sight) (f : Formal) (e : t.Expr) (x : NameFault) where
  abbrev of_signal : t.Name → SignalName → Broken
  of_signal n s = unless TypeMismatch n.identifier.at (is_type f.type s.type) ▸ unless WriteOfIn n.identifier.at (may_join f.mode s.mode)

  abbrev of_name : t.Name → Broken
  of_name n = actual_signal sight n ▸ where_given (signal sight n) (of_signal n)

  pub no_name_told : as_name e ≡ None → Tells (refused LeftOut (start e)) x → Tells (port_actual sight f e) x
  no_name_told h w =
      told_left (lacking LeftOut (start e) (as_name e)) (where_given (as_name e) of_name) x (told_lacking LeftOut (start e) (as_name e) x (λ m. h) w)

  at_name : (n : t.Name) → as_name e ≡ Some n → Tells (of_name n) x → Tells (port_actual sight f e) x
  at_name n h w =
      told_right (lacking LeftOut (start e) (as_name e)) (where_given (as_name e) of_name) x (lacking_kept LeftOut (start e) (as_name e) n h)
      (told_given of_name (as_name e) n x h w)

  pub no_signal_told : (n : t.Name) → as_name e ≡ Some n → Tells (actual_signal sight n) x → Tells (port_actual sight f e) x
  no_signal_told n h w = at_name n h (told_left (actual_signal sight n) (where_given (signal sight n) (of_signal n)) x w)

  at_signal : (n : t.Name) → as_name e ≡ Some n → (s : SignalName) → signal sight n ≡ Some s → Tells (of_signal n s) x → Tells (port_actual sight f e) x
  at_signal n h s k w =
      at_name n h
      (told_right (actual_signal sight n) (where_given (signal sight n) (of_signal n)) x (actual_signal_kept sight n s k)
      (told_given (of_signal n) (signal sight n) s x k w))

  pub other_type_told : (n : t.Name) → as_name e ≡ Some n → (s : SignalName) → signal sight n ≡ Some s → is_type f.type s.type ≡ false
      → Tells (refused TypeMismatch n.identifier.at) x → Tells (port_actual sight f e) x
  other_type_told n h s k q w =
      at_signal n h s k (told_left (unless TypeMismatch n.identifier.at (is_type f.type s.type)) (unless WriteOfIn n.identifier.at (may_join f.mode s.mode)) x
      (told_unless TypeMismatch n.identifier.at (is_type f.type s.type) x (λ m. q) w))

  pub not_joined_told : (n : t.Name) → as_name e ≡ Some n → (s : SignalName) → signal sight n ≡ Some s → is_type f.type s.type ≡ true → may_join f.mode s.mode ≡ false
      → Tells (refused WriteOfIn n.identifier.at) x → Tells (port_actual sight f e) x
  not_joined_told n h s k a q w =
      at_signal n h s k (told_right (unless TypeMismatch n.identifier.at (is_type f.type s.type)) (unless WriteOfIn n.identifier.at (may_join f.mode s.mode)) x
      (unless_kept TypeMismatch n.identifier.at (is_type f.type s.type) a)
      (told_unless WriteOfIn n.identifier.at (may_join f.mode s.mode) x (λ m. q) w))
