-- The metadata and the intervention of a host's record: which of them are known (`known`), what they stand for, and what is written
-- back.
use Rattle.std.specs.Prelude.{Bool, cond, ◌&&◌, ◌||◌, eqb, Option, Some, None}
use Rattle.reading.specs.declared.RuleMetadata.{RuleMetadata}
use Rattle.reading.specs.declared.Intervention.{Intervention}
use Rattle.abi.specs.HostValues.{flag_of, flag_number, flag_known, number_of, host_number, number_known, place_of, host_place, place_known}
use Rattle.abi.specs.declared.host_intervention.HostMetadata.{HostMetadata}
use Rattle.abi.specs.declared.host_intervention.HostIntervention.{HostIntervention}

-- METADATA
unfoldable pub metadata_of : HostMetadata → RuleMetadata
metadata_of h =
    record {
      id = number_of h.id;
      msg = place_of h.msg;
      logdata = place_of h.logdata;
      rev = place_of h.rev;
      ver = place_of h.ver;
      severity = number_of h.severity;
      maturity = number_of h.maturity;
      accuracy = number_of h.accuracy;
    }

unfoldable pub host_metadata : RuleMetadata → HostMetadata
host_metadata m =
    record {
      id = host_number m.id;
      msg = host_place m.msg;
      logdata = host_place m.logdata;
      rev = host_place m.rev;
      ver = host_place m.ver;
      severity = host_number m.severity;
      maturity = host_number m.maturity;
      accuracy = host_number m.accuracy;
    }

unfoldable pub metadata_known : HostMetadata → Bool
metadata_known h =
    number_known h.id && place_known h.msg && place_known h.logdata && place_known h.rev && place_known h.ver
    && number_known h.severity && number_known h.maturity && number_known h.accuracy

abbrev no_metadata : RuleMetadata
no_metadata = record {
  id = None;
  msg = None;
  logdata = None;
  rev = None;
  ver = None;
  severity = None;
  maturity = None;
  accuracy = None;
}

-- AN INTERVENTION OR NONE
unfoldable pub intervention_of : HostIntervention → Option Intervention
intervention_of h =
    cond (eqb h.present 1)
    (Some (record {
      status = h.status;
      url = place_of h.url;
      log = place_of h.log;
      closing = number_of h.closing;
      starter = number_of h.starter;
      phase = h.phase;
      drop = flag_of h.drop;
      metadata = metadata_of h.metadata;
    }))
    None

unfoldable pub host_stop : Intervention → HostIntervention
host_stop i =
    record {
      present = 1;
      status = i.status;
      url = host_place i.url;
      log = host_place i.log;
      closing = host_number i.closing;
      starter = host_number i.starter;
      phase = i.phase;
      drop = flag_number i.drop;
      metadata = host_metadata i.metadata;
    }

unfoldable pub no_stop : HostIntervention
no_stop =
    record {
      present = 0;
      status = 0;
      url = host_place None;
      log = host_place None;
      closing = host_number None;
      starter = host_number None;
      phase = 0;
      drop = 0;
      metadata = host_metadata no_metadata;
    }

unfoldable pub host_intervention : Option Intervention → HostIntervention
host_intervention None = no_stop
host_intervention (Some i) = host_stop i

-- of an absent one only `present` is looked at
unfoldable pub intervention_known : HostIntervention → Bool
intervention_known h =
    eqb h.present 0
    || flag_known h.present && place_known h.url && place_known h.log && number_known h.closing && number_known h.starter
    && flag_known h.drop && metadata_known h.metadata
