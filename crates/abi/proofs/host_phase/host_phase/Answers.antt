use mathlib.Core.Path.{◌≡◌, sym, subst, ◌∙◌}
use Prim.Native.Nat.{ℕ}
use mathlib.Core.Bool.{true}
use mathlib.Core.List.{List}
use borrow.Author.Rules.{rules}
use Rattle.reading.specs.declared.CallSettings.{CallSettings}
use Rattle.reading.specs.Records.{marker_list, given_of, lent}
use Rattle.reading.specs.Numbers.{refusal_number}
use Rattle.reading.specs.Call.{Given}
use Rattle.control.proofs.Determined.{SameSizes}
use Rattle.abi.specs.HostControls.{controls_from_host}
use Rattle.abi.specs.declared.host_phase.HostPhase.{HostPhase}
use Rattle.abi.specs.declared.host_phase.HostTransaction.{HostTransaction}
use Rattle.transaction.specs.RunPhase.{answer_without, Ran}
use Rattle.abi.specs.HostRecord.{known}
use Rattle.abi.specs.HostCall.{lent_part, HostRan}
use Rattle.abi.proofs.host_phase.HostLaws.{ran-unknown, unvisited, visited}
use Rattle.abi.proofs.host_phase.host_phase.Goals.{then-p-eq0, else-p-eq0}
use Rattle.abi.proofs.host_phase.host_phase.Goals as goal

-- what is given, with so many numbers of markers
abbrev given_at : CallSettings → List ℕ → List ℕ → List ℕ → List ℕ → List ℕ → Given
given_at call rules actions text outcomes words = given_of call rules actions (marker_list words) text outcomes

-- what a record with an unknown number is answered with, of the markers that are lent on
pub returns-then-not-is_known : goal.returns-then-not-is_known
returns-then-not-is_known c =
    let a = c.args in
    let l = lent a.ids.now a.entries.now a.journal.now in
    let r : HostPhase = record { answer = answer_without (refusal_number c.unknown_answer.result); transaction = a.h } in
    let unknown : HostRan a.h (given_at a.call a.rules.now a.actions.now a.text.now a.outcomes.now c.lent_words-words.result.now) l r.answer r.transaction l
    = ran-unknown a.call a.rules.now a.actions.now c.lent_words-words.result.now a.text.now a.outcomes.now a.h l
    (refusal_number c.unknown_answer.result) c.counts_of-counts.result c.sizes_of-sizes.result c.counts_of-counts.ensures
    c.sizes_of-sizes.ensures (sym c.is_known.ensures ∙ c.if-not-is_known.true) c.unknown_answer.ensures in
    subst (λ (r : HostPhase). HostRan a.h (given_at a.call a.rules.now a.actions.now a.text.now a.outcomes.now (lent_part a.markers)) l r.answer r.transaction l)
    (sym (rw c.number.ensures at c.as_lent.ensures))
    (subst (λ (words : List ℕ). HostRan a.h (given_at a.call a.rules.now a.actions.now a.text.now a.outcomes.now words) l r.answer r.transaction l)
    c.lent_words-words.ensures unknown)

pub returns : goal.returns
unfolding controls_from_host
returns c =
    let a = c.args in
    let p = c.run_phase-p in
    let l = lent a.ids.now a.entries.now a.journal.now in
    let left = lent p.new.ids p.new.entries p.new.journal in
    let g : Given = given_at a.call a.rules.now a.actions.now a.text.now a.outcomes.now (lent_part a.markers) in
    let known : known a.h ≡ true = sym c.is_known.ensures ∙ c.if-not-is_known.false in
    let sizes : SameSizes p.result.transaction.controls (controls_from_host a.h.controls)
    = record { starts = search rules; ends = search rules; phases = search rules; positions = search rules } in
    let made : Ran g c.into.result l p.result left
    = subst (λ (words : List ℕ). Ran (given_at a.call a.rules.now a.actions.now a.text.now a.outcomes.now words) c.into.result l p.result left)
    c.lent_words-words.ensures p.ensures in
    elim c.if-p-eq0.branch [
      | then-p-eq0 w ↦ subst (λ (h : HostTransaction). HostRan a.h g l p.result.answer h left) (sym w.transaction-is)
          (unvisited g a.h c.into.result c.into.ensures l p.result left known sizes made w.if-p-eq0.true c.into-transaction.result c.into-transaction.ensures)
      | else-p-eq0 w ↦ subst (λ (h : HostTransaction). HostRan a.h g l p.result.answer h left) (sym w.transaction-is)
          (visited g a.h c.into.result c.into.ensures l p.result left known sizes made w.if-p-eq0.false c.into-transaction.result c.into-transaction.ensures)
    ]
