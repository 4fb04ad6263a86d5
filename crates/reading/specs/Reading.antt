-- What the two readings of a rule set differ in: the Rust's, and the one that follows the manual (02, A.4).
use Rattle.std.specs.Prelude.{ℕ, Bool, true, false, ◌&&◌, ◌||◌, ltb, eqb, Option, Some, None}

pub record Reading : Type 0 where
  -- whether a marker at the index after the closing rule, so directly after it, is jumped to
  pub adjacent : Bool
  -- whether a removed rule that is not a link breaks an open chain
  pub breaks : Bool
  -- the status of deny, given the number of the starter's last status action, if any
  pub status : Option ℕ → ℕ

-- whether a marker is jumped to, given its position and the index after the closing rule
abbrev pub jumps : Reading → ℕ → ℕ → Bool
jumps r position after = ltb after position || r.adjacent && eqb position after

-- THE RUST'S READING, each rule by itself

-- 01: "skipAfter goes to the marker only if its position is greater than the index after the closing rule"
abbrev pub rust_adjacent : Bool
rust_adjacent = false

-- 01: "A removed rule that is not a link is passed alone: an open chain stays open"
abbrev pub rust_breaks : Bool
rust_breaks = false

-- 01: "Deny is 403; a status action does nothing."
abbrev pub rust_status : Option ℕ → ℕ
rust_status last = 403

-- THE MANUAL'S READING

-- The manual, skipAfter: processing goes on with the first rule after the marker. 02: "A marker at the index after the
-- closing rule is jumped to."
abbrev pub manual_adjacent : Bool
manual_adjacent = true

-- 02: "A removed closing rule breaks an open chain, our rule where the manual is silent."
abbrev pub manual_breaks : Bool
manual_breaks = true

-- The manual, status: the status code of the response that deny gives. 02: "deny has the starter's last status action as
-- its status, and 403 without one"
abbrev pub manual_status : Option ℕ → ℕ
manual_status None = 403
manual_status (Some status) = status

-- THE TWO INSTANCES

abbrev pub rust : Reading
rust = record { adjacent = rust_adjacent; breaks = rust_breaks; status = rust_status }

abbrev pub manual : Reading
manual = record { adjacent = manual_adjacent; breaks = manual_breaks; status = manual_status }
