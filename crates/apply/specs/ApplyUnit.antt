-- What a change of controls leaves whose four arrays are lent.
use Rattle.std.specs.Prelude.{ℕ, Bool, List}
use Rattle.reading.specs.Controls as reading
use Rattle.apply.specs.declared.append.ControlCounts.{ControlCounts}
use Rattle.apply.specs.Append.{struct_of, Changed}

-- the struct that the parts make up became the controls x, with ranges added or not
abbrev pub Turned : Bool → ControlCounts → List ℕ → List ℕ → List ℕ → List ℕ → ControlCounts → List ℕ → List ℕ → List ℕ → List ℕ → reading.Controls → Type 0
Turned adds h starts ends phases positions r starts' ends' phases' positions' x =
    Changed adds h.added (struct_of h starts ends phases positions) r.added (struct_of r starts' ends' phases' positions') x
