-- A host's question that is refused, and one that is answered. Assumes nothing.
use Rattle.std.specs.Prelude.{Option, None, Result, Ok, Err}
use Prim.Native.Nat.{ℕ}
use mathlib.Core.Path.{◌≡◌, refl, sym, ap, ◌∙◌}
use mathlib.Core.Bool.{Bool, true, false, cond}
use native.Mathlib.Omega.{arith}
use borrow.Author.Tests.{ne_eqb}
use Rattle.reading.specs.declared.Place.{Place}
use Rattle.reading.specs.declared.Refusal.{Refusal}
use Rattle.reading.specs.Numbers.{refusal_number}
use Rattle.reading.specs.Controls.{Asked, asked, ask_target, bad_controls}
use Rattle.reading.specs.Controls as reading
use Rattle.lists.proofs.RefusalLaws.{numbered}
use Rattle.control.specs.declared.state.Controls.{Controls}
use Rattle.control.specs.ControlsStruct.{controls_of}
use Rattle.control.specs.QueryAnswers.{asked_by}
use Rattle.control.proofs.state.HeldLaws.{bad_parts, bad}
use Rattle.abi.specs.declared.host_controls.HostControls.{HostControls}
use Rattle.abi.specs.HostValues.{host_place}
use Rattle.abi.specs.HostControls.{known_controls, controls_from_host}
use Rattle.host.specs.HostQueries.{controls_in, refusal_in, answered, answered_by, target_by, host_target}

-- t is what `is_bad` gave
module _ (c : HostControls) (known t : Bool) (is : t ≡ bad_parts c.ranges c.targets c.starts c.ends) where
  met : refusal_in c known ≡ cond t 3 (cond known 0 5)
  unfolding refusal_in controls_from_host
  met = rw (bad (controls_from_host c), is)

  pub says-3 : t ≡ true → 3 ≡ refusal_in c known
  says-3 e = sym (met ∙ rw e)

  pub says-5 : t ≡ false → known ≡ false → 5 ≡ refusal_in c known
  says-5 e k = sym (met ∙ rw (e, k))

  pub says-0 : t ≡ false → known ≡ true → 0 ≡ refusal_in c known
  says-0 e k = sym (met ∙ rw (e, k))

module _ (c : HostControls) (known : Bool) where
  -- e refused before the question was asked
  pub refuses : {A : Type 0} (number : A → ℕ) (q : Asked A) (r : Result ℕ Refusal) (e : Refusal) → r ≡ Err e
      → refusal_number e ≡ refusal_in c known → answered_by r ≡ answered (refusal_in c known) number q
  refuses number q r e is n = rw is (rw (← n) (rw (ne_eqb (refusal_number e) 0 (numbered e))))

  module _ (z : ◌≡◌ {A = ℕ} 0 (refusal_in c known)) (x : Controls) (ex : x ≡ controls_from_host c) where
    not-bad : bad_controls (controls_of x) ≡ false
    unfolding refusal_in
    not-bad = rw ex (go (bad_controls (controls_in c)) z)
      where
        go : (b : Bool) → ◌≡◌ {A = ℕ} 0 (cond b 3 (cond known 0 5)) → b ≡ false
        go true h = absurd (let y : ◌≡◌ {A = ℕ} 0 3 = h in omega arith)
        go false h = refl

    -- so the question itself refuses nothing
    pub not-twice : {A : Type 0} (value other given : A) (e : Refusal)
        → record { answer = refusal_number e; value = given } ≡ asked (controls_of x) value other → ⊥
    not-twice value other given e is = numbered e (ap (λ q. q.answer) is ∙ rw not-bad)

    pub gives : {A : Type 0} (number : A → ℕ) (ask : reading.Controls → Asked A) (a : A) (v : ℕ)
        → record { answer = 0; value = a } ≡ ask (controls_of x) → v ≡ number a
        → record { answer = 0; value = v } ≡ answered (refusal_in c known) number (ask (controls_in c))
    gives number ask a v given e =
        let w : v ≡ number (ask (controls_in c)).value
        = e ∙ ap number (ap (λ q. q.value) given ∙ ap (λ (y : Controls). (ask (controls_of y)).value) ex) in
        rw (← z) (λ i. record { answer = 0; value = w i })

-- the same of a target
module _ (c : HostControls) where
  pub no_target : (at : ℕ) (r : Result (Option Place) Refusal) (e : Refusal) → r ≡ Err e
      → refusal_number e ≡ refusal_in c (known_controls c) → target_by r ≡ host_target c at
  unfolding host_target
  no_target at r e is n = rw is (rw (← n) (rw (ne_eqb (refusal_number e) 0 (numbered e))))

  pub target : (at : ℕ) (x : Controls) (o : Option Place) → ◌≡◌ {A = ℕ} 0 (refusal_in c (known_controls c)) → x ≡ controls_from_host c
      → record { answer = 0; value = o } ≡ ask_target (controls_of x) at → record { answer = 0; target = host_place o } ≡ host_target c at
  unfolding host_target
  target at x o z ex given =
      let w : o ≡ (ask_target (controls_in c) at).value = ap (λ q. q.value) given ∙ ap (λ (y : Controls). (ask_target (controls_of y) at).value) ex in
      rw (← z) (λ i. record { answer = 0; target = host_place (w i) })

  pub found : (at : ℕ) (x : Controls) (r : Result (Option Place) Refusal) → ◌≡◌ {A = ℕ} 0 (refusal_in c (known_controls c))
      → x ≡ controls_from_host c → asked_by None r ≡ ask_target (controls_of x) at → target_by r ≡ host_target c at
  found at x (Ok o) z ex given = target at x o z ex given
  found at x (Err e) z ex given = absurd (not-twice c (known_controls c) z x ex _ _ _ e given)
