-- The transaction that a host's record stands for, and the record that is written back.
use Rattle.std.specs.Prelude.{Bool, ◌&&◌}
use Rattle.transaction.specs.declared.types.Transaction.{Transaction}
use Rattle.abi.specs.HostValues.{flag_of, flag_number, flag_known}
use Rattle.abi.specs.HostControls.{controls_from_host, controls_to_host, known_controls}
use Rattle.abi.specs.declared.host_phase.HostTransaction.{HostTransaction}
use Rattle.abi.specs.HostIntervention.{intervention_of, host_intervention, intervention_known}

-- what a record stands for: each setting, flag and `present` as the enum or test that its number names
unfoldable pub from_host : HostTransaction → Transaction
from_host h =
    record {
      controls = controls_from_host h.controls;
      allowed = flag_of h.allowed;
      intervention = intervention_of h.intervention;
      ids = h.ids;
      entries = h.entries;
    }

-- the record of a transaction; of an intervention or a place that is absent all other numbers are 0
unfoldable pub to_host : Transaction → HostTransaction
to_host t =
    record {
      controls = controls_to_host t.controls;
      allowed = flag_number t.allowed;
      intervention = host_intervention t.intervention;
      ids = t.ids;
      entries = t.entries;
    }

-- every number of the settings, the flags and the `present`s is one of those that a host may write
unfoldable pub known : HostTransaction → Bool
known h = flag_known h.allowed && known_controls h.controls && intervention_known h.intervention
