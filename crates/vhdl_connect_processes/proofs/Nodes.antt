-- What the parts of a node become, the node becomes: parts that may be refused, and conditions of two values.
use Rattle.std.proofs.Common.{◌≡◌, Result, Ok, Err, sym, ap, ◌∙◌, subst}
use Rattle.std.specs.Prelude.{OnOk}
use Rattle.std.specs.Result.{result_and}
use Rattle.rtl_model.specs.bodies.Body as bodies
use Rattle.rtl_net.specs.declared.body.Test.{Test}
use Rattle.rtl_net.specs.declared.body.Value.{Value}
use Rattle.rtl_net.specs.Bodies.{value_view, test_view}
use Rattle.vhdl_connect_processes.specs.declared.connection.Connection.{Connection}
use Rattle.vhdl_connect_processes.specs.Connected.{value_in, test_in}

-- ---- two or three parts that may be refused

module _ {A E : Type 0} {P Q W : Type 0} where
  pub on_both : (r q w : Result A E) → w ≡ result_and r q → OnOk r P → OnOk q Q → (P → Q → W) → OnOk w W
  on_both (Ok a) (Ok b) w h p q f = subst (λ y. OnOk y W) (sym h) (f p q)
  on_both (Ok a) (Err e) w h p q f = subst (λ y. OnOk y W) (sym h) tt
  on_both (Err e) q w h p k f = subst (λ y. OnOk y W) (sym h) tt

module _ {A E : Type 0} {P Q R W : Type 0} where
  pub on_three : (r q s w z : Result A E) → w ≡ result_and r q → z ≡ result_and w s → OnOk r P → OnOk q Q → OnOk s R → (P → Q → R → W) → OnOk z W
  on_three (Ok a) (Ok b) (Ok d) w z h k p q n f = subst (λ y. OnOk y W) (sym (k ∙ ap (λ y. result_and y (Ok d)) h)) (f p q n)
  on_three (Ok a) (Ok b) (Err e) w z h k p q n f = subst (λ y. OnOk y W) (sym (k ∙ ap (λ y. result_and y (Err e)) h)) tt
  on_three (Ok a) (Err e) s w z h k p q n f = subst (λ y. OnOk y W) (sym (k ∙ ap (λ y. result_and y s) h)) tt
  on_three (Err e) q s w z h k p l n f = subst (λ y. OnOk y W) (sym (k ∙ ap (λ y. result_and y s) h)) tt

-- ---- nodes

module _ (c : Connection) {A E : Type 0} where
  -- a condition of two values
  pub pair_becomes : (form : bodies.Value → bodies.Value → bodies.Test) (make : Value → Value → Test) → ((a b : Value) → test_view (make a b) ≡ form (value_view a) (value_view b))
      → ((v w : bodies.Value) → test_in c (form v w) ≡ form (value_in c v) (value_in c w)) → (r : Result A E) (x : Test) (a b k l m n : Value) → x ≡ make a b → k ≡ a → l ≡ b
      → OnOk r (value_view m ≡ value_in c (value_view k)) → OnOk r (value_view n ≡ value_in c (value_view l)) → OnOk r (test_view (make m n) ≡ test_in c (test_view x))
  pair_becomes form make viewed made (Ok y) x a b k l m n h f g d e =
      viewed m n ∙ ap (λ v. form v (value_view n)) (d ∙ ap (λ (v : Value). value_in c (value_view v)) f)
      ∙ ap (form (value_in c (value_view a))) (e ∙ ap (λ (v : Value). value_in c (value_view v)) g)
      ∙ sym (made (value_view a) (value_view b)) ∙ ap (test_in c) (sym (viewed a b)) ∙ ap (λ (t : Test). test_in c (test_view t)) (sym h)
  pair_becomes form make viewed made (Err y) x a b k l m n h f g d e = tt
