use Rattle.control.proofs.state.HeldLaws.{bad}
use Rattle.abi.specs.HostRecord.{from_host}
use Rattle.abi.specs.HostControls.{controls_from_host}
use Rattle.abi.proofs.host_phase.sizes_of.Goals as goal

pub returns : goal.returns
unfolding from_host controls_from_host
returns c =
    let h = c.args.h in
    rw (c.is_bad.ensures, bad (controls_from_host h.controls))
