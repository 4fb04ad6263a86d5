-- The controls that a host's record stands for, and the record that is written back.
use Rattle.std.specs.Prelude.{Bool}
use Rattle.reading.specs.Numbers.{mode_setting_number, access_setting_number, processor_setting_number}
use Rattle.control.specs.declared.state.Controls.{Controls}
use Rattle.abi.specs.declared.host_controls.HostControls.{HostControls}
use Rattle.abi.specs.HostValues.{mode_setting, access_setting, processor_setting, settings_known}

-- the arrays are those of the record, in use or not
unfoldable pub controls_from_host : HostControls → Controls
controls_from_host h =
    record {
      settings = record { mode = mode_setting h.mode; access = access_setting h.access; processor = processor_setting h.processor };
      starts = h.starts;
      ends = h.ends;
      ranges = h.ranges;
      phases = h.phases;
      positions = h.positions;
      targets = h.targets;
    }

unfoldable pub controls_to_host : Controls → HostControls
controls_to_host c =
    record {
      mode = mode_setting_number c.settings.mode;
      access = access_setting_number c.settings.access;
      processor = processor_setting_number c.settings.processor;
      ranges = c.ranges;
      targets = c.targets;
      starts = c.starts;
      ends = c.ends;
      phases = c.phases;
      positions = c.positions;
    }

unfoldable pub known_controls : HostControls → Bool
known_controls h = settings_known h.mode h.access h.processor
