-- The marks of the last actions, one to a slot.
use Rattle.std.specs.Prelude.{Some}
use Prim.Native.Nat.{ℕ, zero, suc, ◌+◌, ◌-◌, ◌<◌}
use mathlib.Core.Path.{◌≡◌, refl, sym, ap, ◌∙◌}
use mathlib.Core.Bool.{Bool, true, false, cond}
use mathlib.Core.List.{List, [], ◌∷◌, ◌++◌}
use native.Mathlib.Omega.{arith}
use native.Mathlib.Numerals.{add-one}
use borrow.Author.Tests.{eqb-true, eqb-false}
use lib.Dec.{eqb}
use lib.ListN.{length, get_or, set, replicate, length-set, get_or-replicate}
use lib.Seq.{get_or-set_same, get_or-set_other}
use Rattle.reading.specs.declared.Action.{Action}
use Rattle.reading.specs.Actions.{Placed, kind_of, last_of, is_disruptive, is_flow}
use Rattle.reading.specs.Actions.{disruptive_by, flow_by, last_disruptive, last_flow, number_in, place_in, last_place, metadata_of}
use Rattle.reading.specs.Walk.{no_action}
use Rattle.actions.specs.Slots.{slot_of, placed_at, marked, marked_place, marked_metadata}
use Rattle.actions.proofs.execute.PlacedLaws.{last_more, last-same}
use Rattle.actions.proofs.execute.SlotLaws.{slot-below, slot-disruptive, slot-flow, slot-metadata}

abbrev pub in_slot : ℕ → ℕ → Bool
in_slot s kind = eqb (slot_of kind) s

-- each slot's mark stands for the last of the actions `done` in the slot
pub record Marks (actions : List Action) (done : List Placed) (last : List ℕ) : Type 0 where
  pub size : length last ≡ 19
  pub slots : (s : ℕ) → s < 19 → marked actions (get_or last s 0) ≡ last_of (in_slot s) done

pub marks-none : (actions : List Action) → Marks actions [] (replicate 19 0)
unfolding last_of
marks-none actions = record { size = refl; slots = λ s h. ap (marked actions) (get_or-replicate 19 s 0 0 h) }

pub marks-more : (actions : List Action) (done : List Placed) (last : List ℕ) (i s : ℕ) → s ≡ slot_of (kind_of (placed_at actions i))
    → Marks actions done last → Marks actions (done ++ placed_at actions i ∷ []) (set last s (i + 1))
marks-more actions done last i s e m =
    record { size = length-set last s (i + 1) ∙ m.size; slots = λ t h. go t h (eqb s t) refl }
  where
    p : Placed
    p = placed_at actions i

    found : (t : ℕ) (b : Bool) → eqb s t ≡ b
        → last_of (in_slot t) (done ++ placed_at actions i ∷ []) ≡ cond b (Some p) (last_of (in_slot t) done)
    found t b f =
        last_more (in_slot t) done p
        ∙ ap (λ (x : Bool). cond x (Some p) (last_of (in_slot t) done)) (ap (λ (k : ℕ). eqb k t) (sym e) ∙ f)

    go : (t : ℕ) → t < 19 → (b : Bool) → eqb s t ≡ b
        → marked actions (get_or (set last s (i + 1)) t 0) ≡ last_of (in_slot t) (done ++ placed_at actions i ∷ [])
    go t h true f =
        let q : s ≡ t = eqb-true s t f in
        let a : get_or (set last s (i + 1)) s 0 ≡ i + 1 = get_or-set_same last s (i + 1) 0 (omega (arith, m.size, slot-below (kind_of p) s e)) in
        let b : get_or (set last s (i + 1)) t 0 ≡ suc i = ap (λ (k : ℕ). get_or (set last s (i + 1)) k 0) (sym q) ∙ (a ∙ add-one i) in
        ap (marked actions) b ∙ sym (found t true f)
    go t h false f =
        ap (marked actions) (get_or-set_other last s t (i + 1) 0 (λ z. eqb-false s t f (sym z)))
        ∙ (m.slots t h ∙ sym (found t false f))

place_is : (actions : List Action) (phase mark : ℕ) → marked_place phase mark ≡ place_in phase (marked actions mark)
place_is actions phase zero = refl
place_is actions phase (suc position) = refl

-- what the marks of all the actions come to
module _ (actions : List Action) (ps : List Placed) (last : List ℕ) (m : Marks actions ps last) where
  pub marks-disruptive : disruptive_by (marked actions (get_or last 1 0)) ≡ last_disruptive ps
  unfolding last_disruptive
  marks-disruptive = ap disruptive_by (m.slots 1 (omega arith) ∙ last-same (in_slot 1) is_disruptive slot-disruptive ps)

  pub marks-flow : flow_by (marked actions (get_or last 7 0)) ≡ last_flow ps
  unfolding last_flow
  marks-flow = ap flow_by (m.slots 7 (omega arith) ∙ last-same (in_slot 7) is_flow slot-flow ps)

  one-kind : (kind : ℕ) → 10 < kind → kind < 19 → marked actions (get_or last kind 0) ≡ last_of (eqb kind) ps
  one-kind kind low high = m.slots kind high ∙ last-same (in_slot kind) (eqb kind) (λ k. slot-metadata kind k low high) ps

  one_place : (phase kind : ℕ) → 10 < kind → kind < 19 → marked_place phase (get_or last kind 0) ≡ last_place phase kind ps
  one_place phase kind low high = place_is actions phase (get_or last kind 0) ∙ ap (place_in phase) (one-kind kind low high)

  pub marks-metadata : (phase : ℕ) → marked_metadata actions phase last ≡ metadata_of phase ps
  unfolding metadata_of
  marks-metadata phase = λ i. record {
    id = number_in (one-kind 11 (omega arith) (omega arith) i);
    msg = one_place phase 12 (omega arith) (omega arith) i;
    logdata = one_place phase 13 (omega arith) (omega arith) i;
    rev = one_place phase 14 (omega arith) (omega arith) i;
    ver = one_place phase 15 (omega arith) (omega arith) i;
    severity = number_in (one-kind 16 (omega arith) (omega arith) i);
    maturity = number_in (one-kind 17 (omega arith) (omega arith) i);
    accuracy = number_in (one-kind 18 (omega arith) (omega arith) i);
  }

-- a mark that is not 0, with the action that is read at its position
pub marked-read : (actions : List Action) (mark : ℕ) (a : Action) → (mark ≡ 0 → ⊥) → a ≡ get_or actions (mark - 1) no_action
    → marked actions mark ≡ Some (record { position = mark - 1; action = a })
marked-read actions zero a h e = absurd (h refl)
marked-read actions (suc position) a h e =
    let z : position ≡ suc position - 1 = omega arith in
    ap (λ (k : ℕ). Some (placed_at actions k)) z ∙ ap (λ (b : Action). Some (record { position = suc position - 1; action = b })) (sym e)
