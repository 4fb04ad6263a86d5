-- A question to controls that refusal 3 meets, and to others. Assumes nothing.
use Rattle.std.specs.Prelude.{Ok}
use Prim.Native.Nat.{ℕ}
use mathlib.Core.Path.{◌≡◌, refl}
use mathlib.Core.Bool.{Bool, true, false, cond}
use native.Mathlib.Omega.{arith}
use Rattle.reading.specs.Controls.{Controls, bad_controls, asked}
use Rattle.control.specs.declared.state.Controls.{Controls as Struct}
use Rattle.control.specs.ControlsStruct.{controls_of}
use Rattle.control.specs.QueryAnswers.{asked_by}
use Rattle.control.proofs.state.HeldLaws.{bad, NotBad, not-bad}

passes : (b : Bool) → ◌≡◌ {A = ℕ} 0 (cond b 3 0) → b ≡ false
passes true h = absurd (let z : ◌≡◌ {A = ℕ} 0 3 = h in omega arith)
passes false h = refl

module _ (c : Controls) {A : Type 0} (value other : A) where
  pub gives : (given : A) → ◌≡◌ {A = ℕ} 0 (cond (bad_controls c) 3 0) → given ≡ value → asked_by other (Ok given) ≡ asked c value other
  gives given e v = rw (passes (bad_controls c) e) (λ i. record { answer = 0; value = v i })

-- what is known of controls that it does not meet
pub not-refused : (s : Struct) → ◌≡◌ {A = ℕ} 0 (cond (bad_controls (controls_of s)) 3 0) → NotBad s.ranges s.targets s.starts s.ends
not-refused s e = not-bad s.ranges s.targets s.starts s.ends _ (bad s) (passes (bad_controls (controls_of s)) e)
