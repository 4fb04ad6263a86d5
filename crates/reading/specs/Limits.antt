-- 01's limits, each once. The code has the same numbers in src/limits.rt.
use Rattle.std.specs.Prelude.{ℕ}

-- refusal 2: "more than 512 rules, 4,096 actions, 256 markers or 65,536 text bytes"
abbrev pub most_rules : ℕ
most_rules = 512

abbrev pub most_actions : ℕ
most_actions = 4096

abbrev pub most_markers : ℕ
most_markers = 256

abbrev pub most_bytes : ℕ
most_bytes = 65536

-- refusal 3: "more than 256 ranges, more than 64 targets"
abbrev pub most_ranges : ℕ
most_ranges = 256

abbrev pub most_targets : ℕ
most_targets = 64
