-- An addition to a host's controls that is refused, and one that is made. Assumes nothing.
use Rattle.std.specs.Prelude.{Err}
use Prim.Native.Nat.{ℕ}
use mathlib.Core.Path.{◌≡◌, refl, sym, ap, subst, ◌∙◌}
use mathlib.Core.Bool.{Bool, cond}
use lib.Dec.{eqb}
use borrow.Author.Tests.{ne_eqb}
use Rattle.reading.specs.declared.Refusal.{Refusal}
use Rattle.reading.specs.Numbers.{refusal_number, answer_number}
use Rattle.reading.specs.Controls as reading
use Rattle.lists.proofs.RefusalLaws.{numbered}
use Rattle.control.specs.declared.state.Controls.{Controls}
use Rattle.control.specs.declared.state.ChangeAnswer.{ChangeAnswer}
use Rattle.control.specs.ControlsStruct.{controls_of, Added, Became}
use Rattle.abi.specs.declared.host_controls.HostControls.{HostControls}
use Rattle.abi.specs.HostControls.{known_controls, controls_from_host, controls_to_host}
use Rattle.abi.proofs.host_controls.Back.{controls-back}
use Rattle.host.specs.HostQueries.{controls_in, refusal_in}
use Rattle.host.specs.HostUpdates.{HostAdded}

module _ (adds : Bool) (c : HostControls) where
  -- e is what `refusal_of` gave
  pub turned : (answer : ℕ) (after : reading.Controls) (e : Refusal) → refusal_number e ≡ refusal_in c (known_controls c)
      → HostAdded adds c (record { answer = refusal_number e; controls = c }) answer after
  turned answer after e is =
      record {
        answer-is = rw (sym is) (rw (ne_eqb (refusal_number e) 0 (numbered e)));
        became = λ y. absurd (numbered e y);
        numbers = λ y. absurd (numbered e y);
        refused = λ _. refl;
      }

  module _ (answer : reading.Controls → ℕ) (after : reading.Controls → reading.Controls) (z : ◌≡◌ {A = ℕ} 0 (refusal_in c (known_controls c)))
      (x : Controls) (ex : x ≡ controls_from_host c) (k : ChangeAnswer)
      (given : Added adds x k (answer (controls_of x)) (after (controls_of x))) where
    answers : answer_number k.answer ≡ cond (eqb (refusal_in c (known_controls c)) 0) (answer (controls_in c)) (refusal_in c (known_controls c))
    answers =
        let t : refusal_in c (known_controls c) ≡ 0 = sym z in
        rw t (given.answer-is ∙ ap (λ (y : Controls). answer (controls_of y)) ex)

    pub not-added : (e : Refusal) → k.answer ≡ Err e
        → HostAdded adds c (record { answer = refusal_number e; controls = c }) (answer (controls_in c)) (after (controls_in c))
    not-added e y =
        record {
          answer-is = ap answer_number (sym y) ∙ answers;
          became = λ w. absurd (numbered e w);
          numbers = λ w. absurd (numbered e w);
          refused = λ _. refl;
        }

    pub added : (h : HostControls) → answer_number k.answer ≡ 0 → h ≡ controls_to_host k.controls
        → HostAdded adds c (record { answer = 0; controls = h }) (answer (controls_in c)) (after (controls_in c))
    added h y eh =
        let from : k.controls ≡ controls_from_host h = sym (controls-back k.controls) ∙ ap controls_from_host (sym eh) in
        record {
          answer-is = sym y ∙ answers;
          became = λ w. subst (λ (u : Controls). Became adds u (controls_from_host h) (after (controls_of u))) ex
              (subst (λ (u : Controls). Became adds x u (after (controls_of x))) from (given.became (sym given.answer-is ∙ y)));
          numbers = λ w. eh ∙ ap controls_to_host from;
          refused = λ w. absurd (w refl);
        }
