use mathlib.Core.Path.{subst}
use Rattle.reading.specs.Records.{marker_list, given_of, lent}
use Rattle.abi.specs.declared.marker_words.MarkerWords.{MarkerWords}
use Rattle.abi.specs.HostCall.{lent_part, HostRan}
use Rattle.abi.proofs.host_phase.HostLaws.{host-lent}
use Rattle.host.proofs.export_phase.tivembo_run_phase.Goals as goal

-- the call answers for the records as for their numbers
pub returns : goal.returns
returns c =
    let a = c.args in
    let p = c.host_phase-p in
    let l = lent a.ids.now a.entries.now a.journal.now in
    let left = lent p.new.ids p.new.entries p.new.journal in
    host-lent a.call a.rules.now a.actions.now a.markers.now a.text.now a.outcomes.now a.t.now l p.result.answer p.result.transaction left
    (subst (λ (m : MarkerWords). HostRan a.t.now (given_of a.call a.rules.now a.actions.now (marker_list (lent_part m)) a.text.now a.outcomes.now) l
    p.result.answer p.result.transaction left) c.unpack-c.ensures p.ensures)
