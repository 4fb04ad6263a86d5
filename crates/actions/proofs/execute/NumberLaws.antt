-- The numbers and values of what a rule's actions come to are those of the action's record. Assumes nothing.
use Rattle.std.specs.Prelude.{Option, Some, None}
use Prim.Native.Nat.{ℕ, zero, suc, ◌+◌, ◌-◌, ◌≤◌}
use mathlib.Core.Path.{◌≡◌, refl, subst}
use mathlib.Core.Bool.{Bool, true, false, cond}
use mathlib.Core.List.{List, [], ◌∷◌}
use native.Mathlib.Omega.{arith}
use borrow.Author.Tests.{leb-true}
use lib.Dec.{leb}
use Rattle.reading.specs.Numbers.{disruptive_kind, disruptive_value, flow_kind, flow_value}
use Rattle.reading.specs.Actions.{Placed, kind_of, last_from, last_of, is_disruptive, is_flow, disruptive_by, last_disruptive, flow_by, last_flow}
use Rattle.reading.specs.Actions.{kind_in, last_disruptive_kind, redirect_in, last_disruptive_value, flow_kind_in, last_flow_kind, flow_value_in, last_flow_value}
use Rattle.lists.proofs.Tests.{and-true}

-- what holds of none and of every action that passes the test, holds of the last that passes it
last-holds : (test : ℕ → Bool) (P : Option Placed → Type 0) → P None → ((p : Placed) → test (kind_of p) ≡ true → P (Some p))
    → (ps : List Placed) → P (last_of test ps)
unfolding last_of
last-holds test P of_none of_some ps = from None of_none ps
  where
    from : (found : Option Placed) → P found → (ps : List Placed) → P (last_from found test ps)
    from found h [] = h
    from found h (p ∷ ps) = from (cond (test (kind_of p)) (Some p) found) (by (test (kind_of p)) refl) ps
      where
        by : (b : Bool) → test (kind_of p) ≡ b → P (cond b (Some p) found)
        by true e = of_some p e
        by false e = h

-- an action with another kind
abbrev of_kind : ℕ → Placed → Placed
of_kind kind p = record {
  position = p.position;
  action = record { kind = kind; number = p.action.number; text = p.action.text; value = p.action.value };
}

-- the six disruptive kinds
record DisruptiveNumbers (found : Option Placed) : Type 0 where
  kind : disruptive_kind (disruptive_by found) ≡ kind_in found
  value : disruptive_value (disruptive_by found) ≡ redirect_in found

disruptive-one : (p : Placed) (kind : ℕ) → 1 ≤ kind → kind ≤ 6 → DisruptiveNumbers (Some (of_kind kind p))
disruptive-one p zero low high = absurd (omega arith)
disruptive-one p (suc zero) low high = record { kind = refl; value = refl }
disruptive-one p (suc (suc zero)) low high = record { kind = refl; value = refl }
disruptive-one p (suc (suc (suc zero))) low high = record { kind = refl; value = refl }
disruptive-one p (suc (suc (suc (suc zero)))) low high = record { kind = refl; value = refl }
disruptive-one p (suc (suc (suc (suc (suc zero))))) low high = record { kind = refl; value = refl }
disruptive-one p (suc (suc (suc (suc (suc (suc zero)))))) low high = record { kind = refl; value = refl }
disruptive-one p (suc (suc (suc (suc (suc (suc (suc kind))))))) low high = absurd (omega arith)

disruptive-last : (ps : List Placed) → DisruptiveNumbers (last_of is_disruptive ps)
disruptive-last = last-holds is_disruptive DisruptiveNumbers (record { kind = refl; value = refl }) (λ p e. by p (and-true (leb 1 (kind_of p)) (leb (kind_of p) 6) e))
  where
    by : (p : Placed) → (leb 1 (kind_of p) ≡ true) × (leb (kind_of p) 6 ≡ true) → DisruptiveNumbers (Some p)
    by p (a, b) = disruptive-one p (kind_of p) (leb-true 1 (kind_of p) a) (leb-true (kind_of p) 6 b)

pub disruptive-kind : (ps : List Placed) → disruptive_kind (last_disruptive ps) ≡ last_disruptive_kind ps
unfolding last_disruptive last_disruptive_kind
disruptive-kind ps = (disruptive-last ps).kind

pub disruptive-value : (ps : List Placed) → disruptive_value (last_disruptive ps) ≡ last_disruptive_value ps
unfolding last_disruptive last_disruptive_value
disruptive-value ps = (disruptive-last ps).value

-- the four flow kinds
record FlowNumbers (found : Option Placed) : Type 0 where
  kind : flow_kind (flow_by found) ≡ flow_kind_in found
  value : flow_value (flow_by found) ≡ flow_value_in found

flow-one : (p : Placed) (more : ℕ) → more ≤ 3 → FlowNumbers (Some (of_kind (7 + more) p))
flow-one p zero few = record { kind = refl; value = refl }
flow-one p (suc zero) few = record { kind = refl; value = refl }
flow-one p (suc (suc zero)) few = record { kind = refl; value = refl }
flow-one p (suc (suc (suc zero))) few = record { kind = refl; value = refl }
flow-one p (suc (suc (suc (suc more)))) few = absurd (omega arith)

flow-last : (ps : List Placed) → FlowNumbers (last_of is_flow ps)
flow-last = last-holds is_flow FlowNumbers (record { kind = refl; value = refl }) (λ p e. by p (and-true (leb 7 (kind_of p)) (leb (kind_of p) 10) e))
  where
    by : (p : Placed) → (leb 7 (kind_of p) ≡ true) × (leb (kind_of p) 10 ≡ true) → FlowNumbers (Some p)
    by p (a, b) =
        let low = leb-true 7 (kind_of p) a in
        let high = leb-true (kind_of p) 10 b in
        let e : 7 + (kind_of p - 7) ≡ kind_of p = omega arith in
        subst (λ (kind : ℕ). FlowNumbers (Some (of_kind kind p))) e (flow-one p (kind_of p - 7) (omega arith))

pub flow-kind : (ps : List Placed) → flow_kind (last_flow ps) ≡ last_flow_kind ps
unfolding last_flow last_flow_kind
flow-kind ps = (flow-last ps).kind

pub flow-value : (ps : List Placed) → flow_value (last_flow ps) ≡ last_flow_value ps
unfolding last_flow last_flow_value
flow-value ps = (flow-last ps).value
