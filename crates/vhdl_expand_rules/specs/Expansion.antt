-- Expansion: from the units of a file, the name of a top and values of its generics to the tree of its instances
-- (IEEE 1076-2008, 14.2 to 14.5, clause 11). Numbers of nets and processes are no matter of it.
use Rattle.std.specs.Prelude.{ℕ, zero, suc, ◌+◌, if◌then◌else◌, List, [], ◌∷◌, ◌++◌, length, map, sum, find, slice_get, Option, ℤ, Ok, bytes_eq, codes}
use Rattle.std.specs.Fmt.{signed_decimal}
use Rattle.std.specs.Char.{to_ascii_lowercase}
use Rattle.rtl_model.specs.bodies.Body.{Stmts}
use Rattle.vhdl_names_rules.specs.units.Units as u
use Rattle.vhdl_names_rules.specs.units.Units.{Units, Entity}
use Rattle.vhdl_names_rules.specs.units.Statements as s
use Rattle.vhdl_expand_rules.specs.declared.fault.ElabProblem.TheVariants.{NoTop, TooDeep}
use Rattle.vhdl_expand_rules.specs.Elab.{Elab, ◌>>=◌, refused, item_or, each}
use Rattle.vhdl_expand_rules.specs.Integers.{decision, turns}
use Rattle.vhdl_expand_rules.specs.Site.{Site, in_generate, elements_count}
use Rattle.vhdl_expand_rules.specs.Tree.{Sensitivity, listed, every, as_read, Variable, Process, Instance, Parts, no_parts, inner, followed_by}
use Rattle.vhdl_expand_rules.specs.Tree as t
use Rattle.vhdl_expand_rules.specs.Statements.{statements, added, statements_turns}
use Rattle.vhdl_expand_rules.specs.Prefixes.{targets, names, names_elements, prefixes_elements, in_order}
use Rattle.vhdl_expand_rules.specs.Declarations.{InstanceObjects, interface, declarations, no_variables, process_declarations, associations}
use Rattle.vhdl_expand_rules.specs.Tops.{Top, top_interface}

-- ---- where a concurrent statement stands

pub record Spot : Type 0 where
  pub site : Site
  -- the labels of the generates round it, each with a dot behind it
  pub prefix : List ℕ

abbrev pub with_dot : List ℕ → List ℕ
with_dot label = label ++ codes "."

-- in a turn of a for generate, which is `label(i)`, and in an if generate
abbrev pub in_turn : Spot → (label : List ℕ) → ℤ → Spot
in_turn here label i = record {
  site = in_generate here.site i;
  prefix = here.prefix ++ with_dot (label ++ (codes "(" ++ (signed_decimal i ++ codes ")")));
}

abbrev pub in_branch : Spot → (label : List ℕ) → Spot
in_branch here label = record here { prefix = here.prefix ++ with_dot label }

-- ---- processes (11.3 to 11.6)

unfoldable pub sensitivity : Site → u.Sensitivity → s.Statements → Elab Sensitivity
sensitivity here (u.listed ps) body = do
  es ← names_elements here ps
  Ok (listed es)
sensitivity here u.every body = do
  es ← prefixes_elements here (names body)
  Ok (every es)
sensitivity here u.as_read body = Ok as_read

-- of its variables, the elements that it drives, its sensitivity, its turns and its body
abbrev pub made_process : Spot → u.Process → List Variable → List ℕ → Sensitivity → ℕ → Stmts → t.Process
made_process here p vs ds on n body = record {
  at = p.at;
  prefix = here.prefix;
  label = p.label;
  drives = in_order (elements_count here.site.ports + elements_count here.site.signals) ds;
  sensitivity = on;
  variables = vs;
  body = body;
  turns = n;
}

unfoldable pub process : Spot → u.Process → Elab t.Process
process here p = do
  d ← process_declarations (no_variables here.site) p.declarations
  ds ← prefixes_elements d.site (targets p.body)
  on ← sensitivity d.site p.sensitivity p.body
  n ← statements_turns d.site p.body
  body ← statements d.site p.body
  Ok (made_process here p d.variables ds on n body)

-- ---- concurrent statements

-- the turns of a generate, one after another
abbrev pub joined_parts : List Parts → Parts
joined_parts [] = no_parts
joined_parts (ps ∷ rest) = followed_by ps (joined_parts rest)

-- The parameters are the units, and what an instance of a unit is: by the byte of its label, with what is known of it,
-- and its ports.
module _ (units : Units) (instance_of : (at : ℕ) → Entity → InstanceObjects → Elab Instance) where
  -- an instance that stands here (11.7)
  unfoldable pub instance : Spot → u.Instance → Elab Instance
  instance here x = do
    unit ← item_or NoTop x.at (slice_get units x.unit)
    d ← interface here.site x.generics unit
    os ← associations here.site x.at unit.ports x.ports d.objects
    instance_of x.at unit (record d { objects = os })

  unfoldable mutual
    pub concurrent : Spot → u.Concurrent → Elab Parts
    concurrent here (u.process p) = do
      q ← process here p
      Ok (t.process q no_parts)
    concurrent here (u.instance x) = do
      i ← instance here x
      Ok (inner (here.prefix ++ x.label) i no_parts)
    -- a null range makes nothing, and nothing in it is computed (11.9)
    concurrent here (u.generate_for at label r body) = do
      is ← turns here.site.integers at r
      ps ← each (λ i. concurrents (in_turn here label i) body) is
      Ok (joined_parts ps)
    -- nor does a condition that doesn't hold
    concurrent here (u.generate_if at label t body) = do
      holds ← decision here.site.integers t
      if holds then concurrents (in_branch here label) body else Ok no_parts

    pub concurrents : Spot → u.Concurrents → Elab Parts
    concurrents here u.no_concurrents = Ok no_parts
    concurrents here (u.concurrent x rest) = do
      ps ← concurrent here x
      qs ← concurrents here rest
      Ok (followed_by ps qs)

-- how many turns the generates of a text have together, each turn of an outer one with those inside it
unfoldable mutual
  pub concurrent_turns : Spot → u.Concurrent → Elab ℕ
  concurrent_turns here (u.generate_for at label r body) = do
    is ← turns here.site.integers at r
    ns ← each (λ i. concurrents_turns (in_turn here label i) body) is
    Ok (length is + sum ns)
  concurrent_turns here (u.generate_if at label t body) = do
    holds ← decision here.site.integers t
    if holds then concurrents_turns (in_branch here label) body else Ok 0
  concurrent_turns here _ = Ok 0

  pub concurrents_turns : Spot → u.Concurrents → Elab ℕ
  concurrents_turns here u.no_concurrents = Ok 0
  concurrents_turns here (u.concurrent x rest) = added (concurrent_turns here x) (concurrents_turns here rest)

-- ---- instances and the top

-- An instance of a unit, whose generics and ports are declared: its architecture's declarations and statements. So many
-- instances may be nested from it on. Its label starts at this byte, or the name of the top's entity.
unfoldable pub instance_of : Units → (levels : ℕ) → (at : ℕ) → Entity → InstanceObjects → Elab Instance
instance_of units zero at unit d = refused TooDeep at
instance_of units (suc n) at unit d = do
  a ← item_or NoTop at unit.architecture
  e ← declarations d a.declarations
  parts ← concurrents units (instance_of units n) (record { site = e.site; prefix = [] }) a.statements
  turns ← concurrents_turns (record { site = e.site; prefix = [] }) a.statements
  Ok (t.instance e.objects turns parts)

-- the entity of this name, whose letters may be of either case
abbrev pub entity_named : Units → List ℕ → Option Entity
entity_named units name = find (λ (e : Entity). bytes_eq e.name (map to_ascii_lowercase name)) units

-- a design, whose top has no instance round it: its ports are joined to nothing
pub record Design : Type 0 where
  pub name : List ℕ
  pub top : Instance

-- a source that has no entity of this name is refused at its first byte
unfoldable pub expanded_design : Units → Top → Elab Design
expanded_design units top = do
  unit ← item_or NoTop 0 (entity_named units top.name)
  d ← top_interface top unit
  i ← instance_of units 32 unit.at unit d
  Ok (record { name = unit.name; top = i })
