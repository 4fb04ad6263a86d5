-- Metadata and an intervention that are written to a host's record are read back as they were, and each of their numbers is
-- known. Assumes nothing.
use Rattle.std.specs.Prelude.{Option, Some, None}
use mathlib.Core.Path.{◌≡◌, refl}
use mathlib.Core.Bool.{true}
use Rattle.reading.specs.declared.Intervention.{Intervention}
use Rattle.reading.specs.declared.RuleMetadata.{RuleMetadata}
use Rattle.abi.proofs.values.Back.{flag-back, number-back, place-back, flag-known, number-known, place-known}
use Rattle.abi.specs.HostIntervention.{metadata_of, host_metadata, metadata_known, intervention_of, host_stop, no_stop, host_intervention, intervention_known}

metadata-back : (m : RuleMetadata) → metadata_of (host_metadata m) ≡ m
unfolding metadata_of host_metadata
metadata-back m = λ i. record {
  id = number-back m.id i;
  msg = place-back m.msg i;
  logdata = place-back m.logdata i;
  rev = place-back m.rev i;
  ver = place-back m.ver i;
  severity = number-back m.severity i;
  maturity = number-back m.maturity i;
  accuracy = number-back m.accuracy i;
}

pub intervention-back : (o : Option Intervention) → intervention_of (host_intervention o) ≡ o
unfolding intervention_of host_intervention host_stop no_stop
intervention-back None = refl
intervention-back (Some s) = λ i. Some (record {
  status = s.status;
  url = place-back s.url i;
  log = place-back s.log i;
  closing = number-back s.closing i;
  starter = number-back s.starter i;
  phase = s.phase;
  drop = flag-back s.drop i;
  metadata = metadata-back s.metadata i;
})

metadata-known : (m : RuleMetadata) → metadata_known (host_metadata m) ≡ true
unfolding metadata_known host_metadata
metadata-known m = rw (
  number-known m.id,
  place-known m.msg,
  place-known m.logdata,
  place-known m.rev,
  place-known m.ver,
  number-known m.severity,
  number-known m.maturity,
  number-known m.accuracy,
)

pub intervention-known : (o : Option Intervention) → intervention_known (host_intervention o) ≡ true
unfolding intervention_known host_intervention host_stop no_stop
intervention-known None = refl
intervention-known (Some s) = rw (
  place-known s.url,
  place-known s.log,
  number-known s.closing,
  number-known s.starter,
  flag-known s.drop,
  metadata-known s.metadata,
)
