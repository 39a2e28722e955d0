-- Small designs and their netlists.
use Rattle.std.specs.Prelude.{◌≡◌, [], ◌∷◌, map, Some, Ok, codes}
use Rattle.vhdl_values.specs.declared.scalar.Nine.TheVariants.{Zero, One}
use Rattle.vhdl_values.specs.declared.kinds.Edge.TheVariants.{Rising}
use Rattle.vhdl_tree.specs.declared.declaration.Mode.TheVariants.{Out}
use Rattle.vhdl_names_rules.specs.declared.operator.Numeric.TheVariants.{Add}
use Rattle.vhdl_names_rules.specs.units.Expressions as e
use Rattle.vhdl_names_rules.specs.units.Statements as s
use Rattle.vhdl_names_rules.specs.units.Units as u
use Rattle.vhdl_names_rules.specs.units.Units.{Entity}
use Rattle.rtl_model.specs.bodies.Body as bodies
use Rattle.rtl_model.specs.nets.FlatNetlist.{flat_sources}
use Rattle.rtl_model.specs.simulation.Netlist.{Driver}
use Rattle.rtl_definition_examples.specs.designs.Words.{number, downto, to, port, signal, from, at, read, assigned, process, assignment, instance, object, input, output, declared}
use Rattle.rtl_definition_examples.specs.designs.Words.{entity, shown, elaborated, Of}

-- ---- a counter

-- clk : in, y : out (1 downto 0); signal q : unsigned(1 downto 0) := "00";
-- process (clk) begin if rising_edge(clk) then q <= q + 1; end if; end process; y <= std_logic_vector(q);
abbrev pub counter : Entity
counter = entity (codes "cnt")
    (input 10 (codes "clk") u.element ∷ output 11 (codes "y") (u.vector (downto 1 0)) ∷ [])
    (u.signal (object 20 (codes "q") (u.vector (downto 1 0)) (Some (u.Fixed.literal (Zero ∷ Zero ∷ [])))) ∷ [])
    (process (u.listed (port 0 e.whole ∷ []))
    (s.if_of 53 (s.branch (e.edge Rising (port 0 e.whole))
    (s.step (assigned (signal 0 e.whole)
    (e.elements (e.with_integer 32 Add (e.of_signal (signal 0 e.whole)) (number 1)))) s.done)
    s.no_else) ∷ [])
    ∷ assignment (port 1 e.whole) (read (signal 0 e.whole)) ∷ [])

pub record CounterHasItsNet : Type 0 where
  pub net : shown (elaborated (counter ∷ []) (codes "CNT")) ≡ Ok (record {
    starts = 0 ∷ 0 ∷ 0 ∷ 2 ∷ 2 ∷ [];
    inputs = 0 ∷ [];
    idle = [] ∷ [] ∷ [] ∷ [] ∷ [] ∷ [];
    nets = codes "cnt.clk" ∷ codes "cnt.y(1)" ∷ codes "cnt.y(0)" ∷ codes "cnt.q(1)" ∷ codes "cnt.q(0)" ∷ [];
    processes = codes "cnt.#0" ∷ codes "cnt.#1" ∷ [];
  })
  pub processes : Of (elaborated (counter ∷ []) (codes "cnt")) (λ x. x.flat.processes ≡ record {
    drivers = record { net = 3; start = 2 } ∷ record { net = 4; start = 2 } ∷ [];
    wakes = 0 ∷ [];
    variables = [];
    body = bodies.step (bodies.if_of (bodies.branch (bodies.rising 0)
        (bodies.step (bodies.assign (0 ∷ 1 ∷ []) (bodies.elements
        (bodies.binary bodies.plus (bodies.signal (3 ∷ 4 ∷ [])) (bodies.constant (Zero ∷ One ∷ []))))) bodies.done)
        bodies.no_else)) bodies.done;
  } ∷ record {
    drivers = record { net = 1; start = 0 } ∷ record { net = 2; start = 0 } ∷ [];
    wakes = 3 ∷ 4 ∷ [];
    variables = [];
    body = bodies.step (bodies.assign (0 ∷ 1 ∷ []) (bodies.elements (bodies.signal (3 ∷ 4 ∷ [])))) bodies.done;
  } ∷ [])

-- ---- two inverters

-- a : in, y : out; y <= not a;
abbrev pub inverter : Entity
inverter = entity (codes "inv") (input 12 (codes "a") u.element ∷ output 13 (codes "y") u.element ∷ []) []
    (assignment (port 1 e.whole) (e.elements (e.inverse (e.of_signal (port 0 e.whole)))) ∷ [])

-- x : in, z : out, both (1 downto 0);
-- g: for i in 0 to 1 generate u: entity work.inv port map (a => x(i), y => z(i)); end generate;
abbrev pub two_inverters : Entity
two_inverters =
    entity (codes "t")
    (input 10 (codes "x") (u.vector (downto 1 0)) ∷ output 11 (codes "z") (u.vector (downto 1 0)) ∷ []) []
    (u.generate_for 54 (codes "g") (to 0 1) (u.concurrent
    (instance 0 (Some (from 41 (port 0 (at (e.generate_parameter 0))))
    ∷ Some (from 42 (port 1 (at (e.generate_parameter 0)))) ∷ []))
    u.no_concurrents) ∷ [])

pub record InvertersAreJoined : Type 0 where
  pub net : shown (elaborated (inverter ∷ two_inverters ∷ []) (codes "t")) ≡ Ok (record {
    starts = 0 ∷ 0 ∷ 0 ∷ 0 ∷ [];
    inputs = 0 ∷ 1 ∷ [];
    idle = [] ∷ [] ∷ [] ∷ [] ∷ [];
    nets = codes "t.x(1)" ∷ codes "t.x(0)" ∷ codes "t.z(1)" ∷ codes "t.z(0)" ∷ [];
    processes = codes "t.g(0).u.#0" ∷ codes "t.g(1).u.#1" ∷ [];
  })
  pub sources : Of (elaborated (inverter ∷ two_inverters ∷ []) (codes "t")) (λ x.
      map (flat_sources x.flat) (0 ∷ 1 ∷ 2 ∷ 3 ∷ []) ≡ [] ∷ [] ∷ (Driver 1 0 ∷ []) ∷ (Driver 0 0 ∷ []) ∷ [])

-- ---- an idle out port

-- a : in, z : out := '0', with no statement; and an instance of it
abbrev pub no_statement : Entity
no_statement = entity (codes "k")
    (input 12 (codes "a") u.element
    ∷ record { mode = Out; object = object 13 (codes "z") u.element (Some (u.Fixed.literal (Zero ∷ []))) } ∷ []) [] []

abbrev pub around_idle : Entity
around_idle = entity (codes "t") (input 10 (codes "a") u.element ∷ output 11 (codes "y") u.element ∷ []) []
    (instance 0 (Some (from 41 (port 0 e.whole)) ∷ Some (from 42 (port 1 e.whole)) ∷ []) ∷ [])

pub record IdlePortsHoldTheirDefaults : Type 0 where
  pub net : shown (elaborated (no_statement ∷ around_idle ∷ []) (codes "t")) ≡ Ok (record {
    starts = 0 ∷ 2 ∷ [];
    inputs = 0 ∷ [];
    idle = [] ∷ (2 ∷ []) ∷ [];
    nets = codes "t.a" ∷ codes "t.y" ∷ [];
    processes = [];
  })

-- ---- loops

-- a : in; signal v (3 downto 0); process (a) begin for i in 0 to 1 loop v(i) <= a; end loop; end process;
abbrev pub loop_drives : Entity
loop_drives =
    entity (codes "lt") (input 10 (codes "a") u.element ∷ []) (declared 20 (codes "v") (u.vector (downto 3 0)) ∷ [])
    (process (u.listed (port 0 e.whole ∷ []))
    (s.for_of 51 (to 0 1) (s.step (assigned (signal 0 (at (e.loop_parameter 0))) (read (port 0 e.whole))) s.done) ∷ [])
    ∷ [])

-- a : in (3 downto 0), y : out (1 downto 0); process (all) begin for i in 0 to 1 loop y(i) <= a(i); end loop;
-- end process;
abbrev pub loop_reads : Entity
loop_reads =
    entity (codes "lp")
    (input 10 (codes "a") (u.vector (downto 3 0)) ∷ output 11 (codes "y") (u.vector (downto 1 0)) ∷ []) []
    (process u.every (s.for_of 51 (to 0 1)
    (s.step (assigned (port 1 (at (e.loop_parameter 0))) (read (port 0 (at (e.loop_parameter 0))))) s.done) ∷ []) ∷ [])

pub record LoopsAreUnrolled : Type 0 where
  -- all of v is driven, and v(0) and v(1), which stand last, are assigned
  pub drives : Of (elaborated (loop_drives ∷ []) (codes "lt")) (λ x. x.flat.processes ≡ record {
    drivers =
        record { net = 1; start = 0 } ∷ record { net = 2; start = 0 }
        ∷ record { net = 3; start = 0 } ∷ record { net = 4; start = 0 } ∷ [];
    wakes = 0 ∷ [];
    variables = [];
    body = bodies.step (bodies.assign (3 ∷ []) (bodies.elements (bodies.signal (0 ∷ []))))
        (bodies.step (bodies.assign (2 ∷ []) (bodies.elements (bodies.signal (0 ∷ [])))) bodies.done);
  } ∷ [])
  -- it is sensitive to all of a, and reads a(0) and a(1)
  pub wakes : Of (elaborated (loop_reads ∷ []) (codes "lp")) (λ x. x.flat.processes ≡ record {
    drivers = record { net = 4; start = 0 } ∷ record { net = 5; start = 0 } ∷ [];
    wakes = 0 ∷ 1 ∷ 2 ∷ 3 ∷ [];
    variables = [];
    body = bodies.step (bodies.assign (1 ∷ []) (bodies.elements (bodies.signal (3 ∷ []))))
        (bodies.step (bodies.assign (0 ∷ []) (bodies.elements (bodies.signal (2 ∷ [])))) bodies.done);
  } ∷ [])
