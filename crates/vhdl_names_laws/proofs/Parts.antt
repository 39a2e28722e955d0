-- What the parts of a signal's and of a variable's name are analysed as, where the whole is.
use Rattle.std.proofs.Common.{◌≡◌, ℕ, Option, Some}
use Rattle.std.specs.Prelude.{not, is_none}
use Rattle.vhdl_tree.specs.Tree as t
use Rattle.vhdl_names_rules.specs.Rules.{◌>>=◌, ◌>>◌, met}
use Rattle.vhdl_names_rules.specs.Visibility.{Declared, declaration, Sight}
use Rattle.vhdl_names_rules.specs.Names.{Suffix}
use Rattle.vhdl_names_rules.specs.Expressions.{typed_suffix}
use Rattle.vhdl_names_rules.specs.Statements.{SignalName, as_signal, signal, Target, as_signal_target, as_variable_target, mode_of, is_input, signal_target, variable_target}
use Rattle.vhdl_names_rules.proofs.laws.Rules.{comes, kept}
use Rattle.vhdl_names_rules.proofs.laws.Parts.{Given}

pub record NameParts {A : Type 0} (by : ℕ → Declared → Suffix → Option A) (sight : Sight) (n : t.Name) (x : A) : Type 0 where
  pub suffix : Given (typed_suffix sight n.suffix)
  pub meant : Given (declaration sight n.identifier.text)
  pub is : by n.identifier.at meant.value suffix.value ≡ Some x

name_parts : {A : Type 0} (by : ℕ → Declared → Suffix → Option A) (sight : Sight) (n : t.Name) (x : A)
    → (met (is_none n.attribute) >> (typed_suffix sight n.suffix >>= λ suffix. declaration sight n.identifier.text >>= λ d. by n.identifier.at d suffix)) ≡ Some x
    → NameParts by sight n x
name_parts by sight n x h =
    let a = kept (is_none n.attribute) _ x h in
    let b = comes (typed_suffix sight n.suffix) _ x a.1 in
    let c = comes (declaration sight n.identifier.text) (λ d. by n.identifier.at d b.value) x b.rest in
    record { suffix = record { value = b.value; is = b.is }; meant = record { value = c.value; is = c.is }; is = c.rest }

pub signal_parts : (sight : Sight) (n : t.Name) (x : SignalName) → signal sight n ≡ Some x → NameParts as_signal sight n x
unfolding signal
signal_parts sight n x h = name_parts as_signal sight n x h

-- a target that is no in port
abbrev pub driven : (at : ℕ) → Declared → Suffix → Option Target
driven at d s = as_signal_target at d s >>= λ x. (met (not (is_input (mode_of d.meaning))) >> Some x)

pub signal_target_parts : (sight : Sight) (n : t.Name) (x : Target) → signal_target sight n ≡ Some x → NameParts driven sight n x
unfolding signal_target
signal_target_parts sight n x h = name_parts driven sight n x h

pub variable_target_parts : (sight : Sight) (n : t.Name) (x : Target) → variable_target sight n ≡ Some x → NameParts as_variable_target sight n x
unfolding variable_target
variable_target_parts sight n x h = name_parts as_variable_target sight n x h
