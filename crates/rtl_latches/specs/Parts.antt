-- What parts of a body do to a net, one beside or behind another.
use Rattle.std.specs.Prelude.{ℕ, ◌+◌, Bool, false, ◌&&◌, ◌||◌, ◌==◌, if◌then◌else◌, List, [], ◌∷◌, Option, Some, None, is_some}
use Rattle.std.specs.List.{list_any, list_all}
use Rattle.std.specs.Option.{option_or}
use Rattle.rtl_model.specs.bodies.Assigns.{Target, must_assign}
use Rattle.rtl_net.specs.Bodies.{statements_of}
use Rattle.rtl_net.specs.declared.body.Statement.{Statement}
use Rattle.rtl_net.specs.declared.body.Branch.{Branch}
use Rattle.rtl_net.specs.declared.body.Alternative.{Alternative}
use Rattle.rtl_net.specs.declared.process.Driver.{Driver}
use Rattle.rtl_body_facts.specs.Paths.{to_net}
use Rattle.rtl_body_facts.specs.Reading.{is_in}
use Rattle.rtl_latches.specs.Omissions.{omission_of}
use Rattle.rtl_latches.specs.declared.omission.Omission.{Omission}
use Rattle.rtl_latches.specs.declared.omission.Omission.TheVariants as o
use Rattle.rtl_latches.specs.declared.parts.Left.{Left}
use Rattle.rtl_latches.specs.declared.parts.Part.{Part}
use Rattle.rtl_latches.specs.declared.choosing.Counted.{Counted}
use Rattle.rtl_latches.specs.declared.choosing.Counted.TheVariants as c

-- whether it is assigned on every syntactic path, and the first place that leaves it out
pub record Told : Type 0 where
  pub must : Bool
  pub left : Option Omission

abbrev pub told_of : (these : Target → Bool) → List Statement → Told
told_of these xs = record { must = must_assign these (statements_of xs); left = omission_of these xs }

abbrev pub of_branch : List Driver → (n : ℕ) → Branch → Told
of_branch drives n b = told_of (to_net drives n) b.statements.items

abbrev pub of_alternative : List Driver → (n : ℕ) → Alternative → Told
of_alternative drives n b = told_of (to_net drives n) b.statements.items

-- ---- of the code's lists

abbrev pub left_at : (n : ℕ) → List Left → Option Omission
left_at n [] = None
left_at n (l ∷ ls) = if l.net == n then Some l.omission else left_at n ls

abbrev pub has_left : (n : ℕ) → List Left → Bool
has_left n ls = list_any (λ (l : Left). l.net == n) ls

abbrev pub told : (n : ℕ) → Part → Told
told n p = record { must = is_in n p.assigned.items; left = left_at n p.left.items }

-- ---- one after another

abbrev pub nothing : Told
nothing = record { must = false; left = None }

abbrev pub both : Told → Told → Told
both a b = record { must = a.must || b.must; left = option_or a.left b.left }

abbrev pub only_must : Bool → Told
only_must so = record { must = so; left = None }

abbrev pub only_left : Option Omission → Told
only_left left = record { must = false; left = left }

abbrev pub where_so : Bool → Option Omission → Option Omission
where_so b left = if b then left else None

-- ---- one beside another, counted from 1

abbrev pub numbered : Counted → (number : ℕ) → Omission
numbered (c.Branches at) number = o.Branch at number
numbered (c.Alternatives at) number = o.Alternative at number

-- some path of it assigns the net
abbrev pub is_touched : Told → Bool
is_touched t = t.must || is_some t.left

abbrev pub all_must : List Told → Bool
all_must ts = list_all (λ (t : Told). t.must) ts

-- of the first that doesn't assign the net on every path, what it leaves out, or itself
abbrev pub first_open : (itself : ℕ → Omission) → (number : ℕ) → List Told → Option Omission
first_open itself number [] = None
first_open itself number (t ∷ ts) =
    if t.must then first_open itself (number + 1) ts else option_or t.left (Some (itself number))

-- of those that are left, where the parts before assign the net on every path or not
abbrev pub rest_told : (itself : ℕ → Omission) → (number : ℕ) → (so : Bool) → List Told → Told
rest_told itself number so ts = record { must = so && all_must ts; left = where_so so (first_open itself number ts) }

-- of all of them, where some assigns it on some path
abbrev pub together : (itself : ℕ → Omission) → List Told → Told
together itself ts = rest_told itself 1 (list_any is_touched ts) ts
