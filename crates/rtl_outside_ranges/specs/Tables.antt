-- What conditions look at, as lists of nets, and what is given under them, by parts that stand in lists.
use Rattle.std.specs.Prelude.{◌≡◌, ℕ, Bool, true, false, List, Option, Some, None, Vec}
use Rattle.std.specs.Global.{Global}
use Rattle.std.specs.List.Sorted.{IsStrictlyIncreasing}
use Rattle.rtl_model.specs.bodies.Body.{Branches}
use Rattle.rtl_net.specs.Bodies.{statement_view, statements_of}
use Rattle.rtl_net.specs.declared.body.Alternative.{Alternative}
use Rattle.rtl_net.specs.declared.body.Statement.{Statement}
use Rattle.rtl_net.specs.declared.process.Driver.{Driver}
use Rattle.rtl_body_facts.specs.Reading.{is_in}
use Rattle.rtl_outside_ranges.specs.Outside.{gives, stmt_gives, branches_give}

-- ---- what is looked at

-- these nets, rising; none where a variable or a net of logic is looked at, too
abbrev pub IsLooked : (apart : Bool) → (is : ℕ → Bool) → Option (Vec ℕ Global) → Type 0
IsLooked apart is None = apart ≡ false
IsLooked apart is (Some nets) =
    (apart ≡ true) × IsStrictlyIncreasing nets.items × ((n : ℕ) → is_in n nets.items ≡ is n)

abbrev pub Rises : Option (Vec ℕ Global) → Type 0
Rises None = Unit
Rises (Some nets) = IsStrictlyIncreasing nets.items

-- ---- what is given

abbrev pub statement_gives : List Driver → (logic looked : ℕ → Bool) → (n : ℕ) → Statement → Bool
statement_gives drives logic looked n s = stmt_gives drives logic looked n (statement_view s)

abbrev pub alternative_gives : List Driver → (logic looked : ℕ → Bool) → (n : ℕ) → Alternative → Bool
alternative_gives drives logic looked n a = gives drives logic looked n (statements_of a.statements.items)

-- behind conditions that look at these nets; nothing, where one looks at a variable or at a net of logic
abbrev pub behind : List Driver → (logic : ℕ → Bool) → Option (Vec ℕ Global) → (n : ℕ) → Branches → Bool
behind drives logic None n last = false
behind drives logic (Some looked) n last = branches_give drives logic (λ m. is_in m looked.items) n last
