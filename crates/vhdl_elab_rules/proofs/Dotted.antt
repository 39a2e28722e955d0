-- Labels of generates stand with a dot behind each.
use Rattle.std.proofs.Common.{◌≡◌, ℕ, List, [], ◌∷◌, ◌++◌, Ok, refl, sym, ◌∙◌, subst, codes, append_assoc}
use Rattle.std.specs.Prelude.{⊤, ◌≢◌}
use Rattle.rtl_net.specs.Names.{generates_prefix}
use Rattle.vhdl_names_rules.specs.units.Units as u
use Rattle.vhdl_names_rules.specs.units.Units.{Port, Entity}
use Rattle.vhdl_expand_rules.specs.Tree.{Object, Instance, Parts, no_parts, inner, followed_by}
use Rattle.vhdl_expand_rules.specs.Tree as t
use Rattle.vhdl_expand_rules.specs.Expansion.{Spot, with_dot, process, Design}
use Rattle.vhdl_expand_rules.proofs.laws.Made.{process_made}
use Rattle.vhdl_expand_rules.proofs.laws.Expanded.{Any, any_ports, any_signals, OfParts, Filled, OfUnits, design_filled}
use Rattle.vhdl_expand_rules.proofs.laws.Labels.{more_text, StatementIsNamed, StatementsAreNamed, split_named, for_named, if_named, EntityIsNamed, architecture_named, units_named}
use Rattle.vhdl_elab_rules.specs.Prefixes.{IsDotted, InstanceIsDotted, PartsAreDotted, EachTreeIsDotted}

-- ---- prefixes

some-prefix : (g : List ℕ) → g ≢ [] → g ++ codes "." ≡ generates_prefix g
some-prefix [] h = absurd (h refl)
some-prefix (x ∷ xs) h = refl

dotted-more : (prefix label : List ℕ) → label ≢ [] → IsDotted (prefix ++ with_dot label)
dotted-more prefix label h = (prefix ++ label, sym (append_assoc prefix label (codes ".")) ∙ some-prefix (prefix ++ label) (more_text prefix label h))

some-turn : (label rest : List ℕ) → label ++ (codes "(" ++ rest) ≢ []
some-turn label rest = more_text label (codes "(" ++ rest) (λ e. absurd cc)

-- ---- concurrent statements

process-dotted : (at : Spot) (p : u.Process) (q : t.Process) → IsDotted at.prefix → process at p ≡ Ok q → IsDotted q.prefix
process-dotted at p q h g = subst (λ (r : t.Process). IsDotted r.prefix) (process_made at p q g).is h

followed-dotted : (a b : Parts) → PartsAreDotted a → PartsAreDotted b → PartsAreDotted (followed_by a b)
followed-dotted no_parts b h k = k
followed-dotted (t.process p rest) b h k = (h.0, followed-dotted rest b h.1 k)
followed-dotted (inner label i rest) b h k = (h.0, followed-dotted rest b h.1 k)

-- named, at a spot whose labels are dotted
abbrev OneDotted : Spot → u.Concurrent → Type 0
OneDotted at x = StatementIsNamed at x × IsDotted at.prefix

abbrev ManyDotted : Spot → u.Concurrents → Type 0
ManyDotted at xs = StatementsAreNamed at xs × IsDotted at.prefix

parts : OfParts OneDotted ManyDotted PartsAreDotted
parts = record {
  none = tt;
  followed = followed-dotted;
  split = λ at x rest s. let both = split_named x rest s.0 in ((both.0, s.1), (both.1, s.1));
  of_process = λ at p q s h. (process-dotted at p q s.1 h, tt);
  in_for = λ at pos label r body j turn s. (for_named pos label r body s.0, dotted-more at.prefix _ (some-turn label _));
  in_if = λ at pos label r body s. let both = if_named pos label r body s.0 in (both.1, dotted-more at.prefix label both.0);
}

-- ---- the tree

abbrev AnyPort : Port → Object → Type 0
AnyPort p o = ⊤

instance-dotted : (unit : Entity) (i : Instance) → Filled AnyPort Any PartsAreDotted unit i → InstanceIsDotted i
instance-dotted unit i f = subst InstanceIsDotted {x = t.instance (f.ports ++ f.signals) f.turns f.parts} f.is f.of_parts

each-unit : OfUnits EntityIsNamed Any AnyPort Any OneDotted ManyDotted PartsAreDotted
each-unit = record {
  objects = record { of_port = λ at p x s h. tt; of_actual = λ p o es h e. tt; of_signal = λ at o x s h. tt };
  parts = parts;
  of_unit = λ unit n. any_ports unit.ports;
  of_architecture = λ unit a site n there. (any_signals a.declarations, ((architecture_named unit a n there).1, ([], refl)));
  of_instance = λ at x unit i s f. (instance-dotted unit i f, tt);
}

pub each-tree-is-dotted : EachTreeIsDotted
each-tree-is-dotted units top design h e =
    let m = design_filled EntityIsNamed Any AnyPort Any OneDotted ManyDotted PartsAreDotted each-unit units (units_named units h) top design e in
    subst (λ (x : Design). InstanceIsDotted x.top) m.is (instance-dotted m.unit m.tree m.filled)
