-- Concurrent statements in the order in which the code comes to their parts.
use Rattle.std.specs.Prelude.{ℕ, List, [], ◌∷◌, Option, Some, None, option_map, Vec}
use Rattle.std.specs.Global.{Global}
use Rattle.vhdl_tree.specs.Tree as t
use Rattle.vhdl_tree.specs.Tree.{Ident}
use Rattle.vhdl_names_rules.specs.units.Units as u
use Rattle.vhdl_names_rules.specs.declared.fault.NameProblem.TheVariants.{Twice, WrongKind}
use Rattle.vhdl_names_rules.specs.Rules.{◌>>=◌, ◌>>◌, rule}
use Rattle.vhdl_names_rules.specs.Visibility.{Sight, Declared, are_distinct, ends}
use Rattle.vhdl_names_rules.specs.Concurrent.{assignment, selected, process, concurrent_labels, sight_within, generated}
use Rattle.vhdl_names_units.specs.declared.concurrent.Concurrent.{Concurrent}
use Rattle.vhdl_names_units.specs.views.Concurrent.{concurrents_of, concurrents_view}

abbrev pub body_view : Vec Concurrent Global → u.Concurrents
body_view v = concurrents_of (concurrents_view v)

-- with one more parameter, the innermost
abbrev pub in_generate : Sight → Declared → Sight
in_generate sight d = record sight { generates = d ∷ sight.generates }

abbrev pub with_any : Option u.Concurrent → List u.Concurrent → List u.Concurrent
with_any None xs = xs
with_any (Some x) xs = x ∷ xs

-- with what an instance is
module _ (instance : Sight → Ident → t.Instance → Option u.Instance) where
  abbrev mutual
    pub concurrent : Sight → t.Concurrent → Option u.Concurrent
    concurrent sight (t.assignment a) = assignment sight a
    concurrent sight (t.selected label a) = selected sight label a
    concurrent sight (t.process label p) = option_map u.process (process sight label p)
    concurrent sight (t.instance label i) = option_map u.instance (instance sight label i)
    concurrent sight (t.generated label at scheme word cs end) = do
      rule WrongKind (ends label.text end)
      rule Twice (are_distinct (concurrent_labels cs))
      body ← concurrents (sight_within sight scheme) cs
      generated sight label.text at scheme body
    concurrent sight (t.assertion a) = None

    pub concurrents : Sight → t.Concurrents → Option u.Concurrents
    concurrents sight t.no_concurrents = Some u.no_concurrents
    concurrents sight (t.concurrent (t.assertion a) cs) = concurrents sight cs
    concurrents sight (t.concurrent c cs) = do
      x ← concurrent sight c
      xs ← concurrents sight cs
      Some (u.concurrent x xs)

  -- an assertion is dropped
  abbrev pub kept : Sight → t.Concurrent → Option (Option u.Concurrent)
  kept sight (t.assertion a) = Some None
  kept sight c = option_map Some (concurrent sight c)

  abbrev pub all : Sight → List t.Concurrent → Option (List u.Concurrent)
  all sight [] = Some []
  all sight (c ∷ cs) = do
    x ← kept sight c
    xs ← all sight cs
    Some (with_any x xs)

  -- the statements directly in a generate
  abbrev pub labelled : Sight → List t.Concurrent → Option (List u.Concurrent)
  labelled sight cs = rule Twice (are_distinct (concurrent_labels (t.concurrents_of cs))) >> all sight cs

  -- a generate whose scheme starts at this byte
  abbrev pub generate : Sight → Ident → (at : ℕ) → t.Scheme → List t.Concurrent → Option Ident → Option u.Concurrent
  generate sight label at scheme cs end = do
    xs ← labelled (sight_within sight scheme) cs
    rule WrongKind (ends label.text end)
    generated sight label.text at scheme (concurrents_of xs)
