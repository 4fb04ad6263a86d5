-- Demand 3: "with mode On after that unit's controls". The unit that the last entry of a journal closes is the last of the journal's
-- units, so the controls after all units are those after it.
use Rattle.std.specs.Prelude.{ℕ, ◌≡◌, List, [], ◌∷◌, ◌++◌, true}
use Rattle.std.proofs.Common.{append_assoc, arith}
use Rattle.reading.specs.declared.JournalEntry.{JournalEntry}
use Rattle.reading.specs.declared.Intervention.{Intervention}
use Rattle.reading.specs.Controls.{is_on}
use Rattle.reading.specs.Call.{Given, Transaction, mode_under}
use Rattle.reading.specs.Units.{unit_controls}
use Rattle.reading.specs.Replay.{held_after, closed_by, units_from, units_of, last_closed_from, last_closed, units_controls, replayed_controls}
use Rattle.reading.specs.Demand3.{StoppedBy}
use Rattle.theorems.specs.Replayed.{controls-append}

-- units of which u is the last
record Ends (units : List (List ℕ)) (u : List ℕ) : Type 0 where
  earlier : List (List ℕ)
  is : units ≡ earlier ++ (u ∷ [])

ends : (g : Given) (held : List ℕ) (es : List JournalEntry) (u : List ℕ) → last_closed_from g held es ≡ u ∷ [] → Ends (units_from g held es) u
ends g held [] u h = absurd (let z : ◌≡◌ {A = ℕ} 0 1 = cc in omega arith)
ends g held (e ∷ []) u h = record { earlier = []; is = rw h }
ends g held (e ∷ f ∷ es) u h =
    let rest : Ends (units_from g (held_after g held e) (f ∷ es)) u = ends g (held_after g held e) (f ∷ es) u h in
    record { earlier = closed_by g held e ++ rest.earlier; is = rw (rest.is, append_assoc) }

-- u is the last of a journal's units, and the controls after the whole journal are those after u
pub record LastUnit (g : Given) (t : Transaction) (journal : List JournalEntry) (u : List ℕ) : Type 0 where
  pub earlier : List (List ℕ)
  pub units : units_of g journal ≡ earlier ++ (u ∷ [])
  pub controls : replayed_controls g t journal ≡ unit_controls g u (units_controls g earlier t.controls)

pub last-closed-is-last : (g : Given) (t : Transaction) (journal : List JournalEntry) (u : List ℕ)
    → last_closed g journal ≡ u ∷ [] → LastUnit g t journal u
unfolding units_of last_closed
last-closed-is-last g t journal u h =
    let all : Ends (units_from g [] journal) u = ends g [] journal u h in
    record {
      earlier = all.earlier;
      units = all.is;
      controls = rw all.is (controls-append g all.earlier (u ∷ []) t.controls);
    }

-- a unit that stops the request: the mode after its controls is On
pub record OnAfterUnit (g : Given) (t : Transaction) (journal : List JournalEntry) (u : List ℕ) : Type 0 where
  pub last : LastUnit g t journal u
  pub mode-on : is_on (mode_under g (unit_controls g u (units_controls g last.earlier t.controls))) ≡ true

pub on-after-unit : (g : Given) (t : Transaction) (journal : List JournalEntry) (i : Intervention)
    → (s : StoppedBy g t journal i) → OnAfterUnit g t journal s.unit
on-after-unit g t journal i s =
    let l : LastUnit g t journal s.unit = last-closed-is-last g t journal s.unit s.closed-last in
    record { last = l; mode-on = rw l.controls at s.mode-on }
