-- Markers: the position that a name has.
use Rattle.std.specs.Prelude.{ℕ, cond, List, [], ◌∷◌, Option, Some, None}
use Rattle.reading.specs.declared.Marker.{Marker}
use Rattle.reading.specs.Text.{same, part_of}

-- a later record's position, else an earlier one's
abbrev pub later : Option ℕ → Option ℕ → Option ℕ
later None earlier = earlier
later (Some position) earlier = Some position

-- 01: "For a repeated marker name the latest record decides. Names compare byte for byte."
unfoldable pub marker_position : List ℕ → List Marker → List ℕ → Option ℕ
marker_position text [] name = None
marker_position text (m ∷ ms) name =
    later (marker_position text ms name) (cond (same (part_of text m.name) name) (Some m.position) None)
