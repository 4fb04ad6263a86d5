-- The refusals that need no directive to be read, over what a call lends.
use Rattle.std.specs.Prelude.{ℕ, ◌≡◌, cond, length}
use Rattle.reading.specs.declared.CallSettings.{CallSettings}
use Rattle.reading.specs.Controls.{bad_controls}
use Rattle.reading.specs.Call.{Call, Transaction, Lists}
use Rattle.reading.specs.Refusals.{refused1, refused2, refused3, refused4, refused5, refused6, refused7}
use Rattle.refusals.specs.declared.first.Counts.{Counts}
use Rattle.refusals.specs.declared.first.Sizes.{Sizes}
use Rattle.refusals.specs.declared.first.Room.{Room}

-- a transaction of these sizes, with the lists that it counts
pub record Sized (t : Transaction) (lists : Lists) (sizes : Sizes) : Type 0 where
  pub controls : bad_controls t.controls ≡ sizes.bad_controls
  pub ids-used : t.ids ≡ sizes.ids_used
  pub entries-used : t.data-entries ≡ sizes.entries_used
  pub ids : length lists.ids ≡ sizes.ids
  pub entries : length lists.data-entries ≡ sizes.entries

-- lists with this room for what begins empty in each call
pub record Roomed (lists : Lists) (room : Room) : Type 0 where
  pub journal : length lists.journal ≡ room.journal

-- a call with these settings, whose lists to read and transaction have these sizes
pub record Counted (q : Call) (call : CallSettings) (counts : Counts) (sizes : Sizes) : Type 0 where
  pub settings-are : q.given.settings ≡ call
  pub rules : length q.given.rules ≡ counts.rules
  pub actions : length q.given.actions ≡ counts.actions
  pub markers : length q.given.markers ≡ counts.markers
  pub bytes : length q.given.text ≡ counts.bytes
  pub outcomes : length q.given.outcomes ≡ counts.outcomes
  pub sized : Sized q.transaction q.lists sizes

-- 01: "the first that applies", of the numbers 1 to 4
unfoldable pub first_of_four : Call → ℕ
first_of_four q = cond (refused1 q) 1 (cond (refused2 q) 2 (cond (refused3 q) 3 (cond (refused4 q) 4 0)))

-- 01: "the first that applies", of the numbers 1 to 7
unfoldable pub first_of_seven : Call → ℕ
first_of_seven q =
    cond (refused1 q) 1
    (cond (refused2 q) 2
    (cond (refused3 q) 3
    (cond (refused4 q) 4
    (cond (refused5 q) 5
    (cond (refused6 q) 6
    (cond (refused7 q) 7 0))))))
