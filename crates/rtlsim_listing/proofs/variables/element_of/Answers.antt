use Rattle.std.proofs.Common.{◌≡◌, ℕ, ◌<◌, List, Option, Some, All, length, get_or, sym, ap, subst, ◌∙◌}
use Rattle.std.specs.Prelude.{IfOk, slice_get}
use Rattle.rtl_net.specs.declared.process.Process.{Process}
use Rattle.rtl_net.specs.declared.process.Variable.{Variable}
use Rattle.rtl_net.specs.Elaborated.{ProcessIsNamed, VariableIsNamed}
use Rattle.rtlsim_listing.specs.CheckText.{element_name, variable_of}
use Rattle.rtlsim_listing.proofs.Numbered.{missing, there}
use Rattle.rtlsim_listing.proofs.variables.element_of.Goals as goal

named : (scopes : ℕ) (ps : List Process) (i : ℕ) (x : Process) (vs : List Variable) (j : ℕ) (v : Variable) → All (ProcessIsNamed scopes) ps
    → i < length ps → x ≡ get_or ps i x → vs ≡ x.variables.items → j < length vs → v ≡ get_or vs j v → VariableIsNamed v
named scopes ps i x vs j v all l is same m at =
    let there : ProcessIsNamed scopes x = subst (ProcessIsNamed scopes) (sym is) (all i x l) in
    let variables : All VariableIsNamed vs = subst (All VariableIsNamed) (sym same) there.variables in
    subst VariableIsNamed (sym at) (variables j v m)

pub returns-in_default : goal.returns-in_default
returns-in_default c =
    let none = missing c.processes.result.now c.args.net.now.processes c.args.process c.processes.ensures c.in_default.ensures.lookup.0 in
    c.new.ensures.items ∙ sym (ap (λ (o : Option Process). element_name c.args.place (variable_of c.args.variable o)) none)

pub returns-in_default-get : goal.returns-in_default-get
returns-in_default-get c =
    let x = c.in-Some.process.now in
    let process = c.in-Some.ensures.lookup.3 in
    let found = there c.processes.result.now c.args.net.now.processes c.args.process x c.processes.ensures process.0 (process.1 x) in
    let none = missing c.deref.result.now x.variables.items c.args.variable c.deref.ensures.value c.in_default-get.ensures.lookup.0 in
    c.new-in_default-get.ensures.items ∙ sym (ap (element_name c.args.place) (ap (variable_of c.args.variable) found ∙ none))

pub element_name-requires : goal.element_name-requires
element_name-requires c =
    let x = c.in-Some.process.now in
    let v = c.in-Some-get.variable.now in
    let process = c.in-Some.ensures.lookup.3 in
    let variable = c.in-Some-get.ensures.lookup.3 in
    let all = subst (λ (ps : List Process). All (ProcessIsNamed (length c.args.net.now.scopes)) ps) (sym c.processes.ensures) c.is_elaborated.ensures.processes in
    record { declared = (named _ c.processes.result.now c.args.process x c.deref.result.now c.args.variable v all process.0 (process.1 x) c.deref.ensures.value variable.0 (variable.1 v)).as_declared }

pub returns : goal.returns
returns c =
    let x = c.in-Some.process.now in
    let v = c.in-Some-get.variable.now in
    let process = c.in-Some.ensures.lookup.3 in
    let variable = c.in-Some-get.ensures.lookup.3 in
    let found = there c.processes.result.now c.args.net.now.processes c.args.process x c.processes.ensures process.0 (process.1 x) in
    let named = there c.deref.result.now x.variables.items c.args.variable v c.deref.ensures.value variable.0 (variable.1 v) in
    let is : variable_of c.args.variable (slice_get c.args.net.now.processes c.args.process) ≡ Some v = ap (variable_of c.args.variable) found ∙ named in
    subst (λ (o : Option Variable). IfOk c.element_name.result (λ text. text.items ≡ element_name c.args.place o)) (sym is) c.element_name.ensures
