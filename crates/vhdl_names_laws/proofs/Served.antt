-- What a name means serves an expression: what is inside does, and so does a port in an interface list.
use Rattle.std.proofs.Common.{◌≡◌, ℕ, false, List, Option, Some, subst}
use Rattle.std.specs.List.{AllByRecursion}
use Rattle.vhdl_lexer.specs.declared.language.Language.{Language}
use Rattle.vhdl_tree.specs.Tree.{Attribute}
use Rattle.vhdl_names_rules.specs.Visibility as visibility
use Rattle.vhdl_names_rules.specs.Visibility.{Name, Meaning, Declared, Sight, declaration, meaning}
use Rattle.vhdl_names_rules.specs.Operators.{Typed}
use Rattle.vhdl_names_rules.specs.Names.{Suffix}
use Rattle.vhdl_names_rules.specs.Expressions.{named}
use Rattle.vhdl_names_rules.specs.sound.Expressions.{Inside}
use Rattle.vhdl_names_rules.proofs.kept.Keeping.{mapped}
use Rattle.vhdl_names_laws.specs.Meanings.{Counts, MeaningFits, DeclaredFits, TypedFits, AllFit, IsInside}
use Rattle.vhdl_names_laws.proofs.Statics.{each_weaker, found_in}
use Rattle.vhdl_names_laws.proofs.Ranges.{RangeFits, SuffixFits}
use Rattle.vhdl_names_laws.proofs.Names.{named_fits}

-- its meaning is inside, what it is as a name fits, and so does the range of a type
pub record Serves (i : Inside) (counts : Counts) (language : Language) (d : Declared) : Type 0 where
  pub meaning : MeaningFits i counts d.meaning
  pub named : (at : ℕ) (a : Option Attribute) (s : Suffix) (x : Typed) → SuffixFits i counts s → named language at a d s ≡ Some x → TypedFits i counts x
  pub mark : visibility.is_port d.meaning ≡ false → RangeFits i d.range

abbrev pub AllServe : Inside → Counts → Language → List Declared → Type 0
AllServe i counts language = AllByRecursion (Serves i counts language)

pub record IsServed (i : Inside) (counts : Counts) (sight : Sight) : Type 0 where
  pub loops : AllServe i counts sight.language sight.loops
  pub variables : AllServe i counts sight.language sight.variables
  pub generates : AllServe i counts sight.language sight.generates
  pub region : AllServe i counts sight.language sight.region
  pub enclosing : AllServe i counts sight.language sight.enclosing
  pub packages : AllServe i counts sight.language sight.packages

module _ (i : Inside) (counts : Counts) where
  pub serves : (language : Language) (d : Declared) → DeclaredFits i counts d → Serves i counts language d
  serves language d h = record { meaning = h.meaning; named = λ at a s x f g. named_fits i counts language at a d s x h f g; mark = λ n. h.range }

  pub all_serve : (language : Language) (ds : List Declared) → AllFit i counts ds → AllServe i counts language ds
  all_serve language ds h = each_weaker (DeclaredFits i counts) (Serves i counts language) (serves language) ds h

  pub served : (sight : Sight) → IsInside i counts sight → IsServed i counts sight
  served sight h = record {
    loops = all_serve sight.language sight.loops h.loops;
    variables = all_serve sight.language sight.variables h.variables;
    generates = all_serve sight.language sight.generates h.generates;
    region = all_serve sight.language sight.region h.region;
    enclosing = all_serve sight.language sight.enclosing h.enclosing;
    packages = all_serve sight.language sight.packages h.packages;
  }

  pub serving : (sight : Sight) → IsServed i counts sight → (n : Name) (d : Declared) → declaration sight n ≡ Some d → Serves i counts sight.language d
  serving sight h n d t = found_in (Serves i counts sight.language) sight h.loops h.variables h.generates h.region h.enclosing h.packages n d t

  pub meant : (sight : Sight) → IsServed i counts sight → (n : Name) (m : Meaning) → meaning sight n ≡ Some m → MeaningFits i counts m
  meant sight h n m t =
      let a = mapped (λ (d : Declared). d.meaning) (declaration sight n) m t in
      subst (MeaningFits i counts) a.is (serving sight h n a.value a.from).meaning
