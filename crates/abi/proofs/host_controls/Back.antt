-- What is written to a host's controls is read back as it was, and each of their numbers is known. Assumes nothing.
use mathlib.Core.Path.{◌≡◌}
use mathlib.Core.Bool.{true, ◌&&◌}
use lib.Dec.{leb}
use Rattle.lists.proofs.Tests.{and-true}
use Rattle.control.specs.declared.state.Controls.{Controls}
use Rattle.abi.proofs.values.Back.{mode-back, access-back, processor-back, settings-known, mode-forth, access-forth, processor-forth}
use Rattle.abi.specs.declared.host_controls.HostControls.{HostControls}
use Rattle.abi.specs.HostControls.{controls_from_host, controls_to_host, known_controls}

pub controls-back : (c : Controls) → controls_from_host (controls_to_host c) ≡ c
unfolding controls_from_host controls_to_host
controls-back c = λ i. record {
  settings = record {
    mode = mode-back c.settings.mode i;
    access = access-back c.settings.access i;
    processor = processor-back c.settings.processor i;
  };
  starts = c.starts;
  ends = c.ends;
  ranges = c.ranges;
  phases = c.phases;
  positions = c.positions;
  targets = c.targets;
}

pub controls-known : (c : Controls) → known_controls (controls_to_host c) ≡ true
unfolding known_controls controls_to_host
controls-known c = settings-known c.settings.mode c.settings.access c.settings.processor

-- Known numbers stand for themselves: read and written back, they are as they were.
pub controls-forth : (c : HostControls) → known_controls c ≡ true → controls_to_host (controls_from_host c) ≡ c
unfolding controls_to_host controls_from_host known_controls
controls-forth c k =
    let m = and-true (leb c.mode 3 && leb c.access 2) (leb c.processor 4) k in
    let a = and-true (leb c.mode 3) (leb c.access 2) m.0 in
    λ i. record {
      mode = mode-forth c.mode a.0 i;
      access = access-forth c.access a.1 i;
      processor = processor-forth c.processor m.1 i;
      ranges = c.ranges;
      targets = c.targets;
      starts = c.starts;
      ends = c.ends;
      phases = c.phases;
      positions = c.positions;
    }
