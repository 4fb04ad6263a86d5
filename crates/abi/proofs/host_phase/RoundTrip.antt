-- What is written to a host's record is read back as it was, and each of its numbers is known. Assumes nothing.
use mathlib.Core.Path.{◌≡◌}
use mathlib.Core.Bool.{true, ◌&&◌}
use Rattle.lists.proofs.Tests.{and-true}
use Rattle.transaction.specs.declared.types.Transaction.{Transaction}
use Rattle.abi.specs.HostValues.{flag_known}
use Rattle.abi.specs.HostControls.{known_controls}
use Rattle.abi.proofs.values.Back.{flag-back, flag-known, flag-forth}
use Rattle.abi.proofs.host_controls.Back.{controls-back, controls-known, controls-forth}
use Rattle.abi.specs.declared.host_intervention.HostIntervention.{HostIntervention}
use Rattle.abi.specs.HostIntervention.{intervention_known}
use Rattle.abi.proofs.host_intervention.Back.{intervention-back, intervention-known}
use Rattle.abi.specs.declared.host_phase.HostTransaction.{HostTransaction}
use Rattle.abi.specs.HostRecord.{from_host, to_host, known}

pub back : (t : Transaction) → from_host (to_host t) ≡ t
unfolding from_host to_host
back t = λ i. record {
  controls = controls-back t.controls i;
  allowed = flag-back t.allowed i;
  intervention = intervention-back t.intervention i;
  ids = t.ids;
  entries = t.entries;
}

pub written_known : (t : Transaction) → known (to_host t) ≡ true
unfolding known to_host
written_known t = rw (flag-known t.allowed, controls-known t.controls, intervention-known t.intervention)

-- a record with another intervention
abbrev pub with_intervention : HostTransaction → HostIntervention → HostTransaction
with_intervention h i = record { controls = h.controls; allowed = h.allowed; intervention = i; ids = h.ids; entries = h.entries }

-- so a record is as it was but for its intervention, of which the rest of what is absent is lost
pub forth : (h : HostTransaction) → known h ≡ true → with_intervention (to_host (from_host h)) h.intervention ≡ h
unfolding from_host to_host known
forth h k =
    let m = and-true (flag_known h.allowed && known_controls h.controls) (intervention_known h.intervention) k in
    let a = and-true (flag_known h.allowed) (known_controls h.controls) m.0 in
    λ i. record {
      controls = controls-forth h.controls a.1 i;
      allowed = flag-forth h.allowed a.0 i;
      intervention = h.intervention;
      ids = h.ids;
      entries = h.entries;
    }
