-- One action more: what a list of placed actions gives with another at its end.
use Rattle.std.specs.Prelude.{Option, Some, None}
use Prim.Native.Nat.{ℕ, zero, suc, ◌+◌, ◌-◌, ◌≤◌, ◌<◌, min}
use mathlib.Core.Path.{◌≡◌, refl, sym, ap, fun_ext, ◌∙◌}
use mathlib.Core.Bool.{Bool, cond}
use mathlib.Core.List.{List, [], ◌∷◌, ◌++◌, append-nil, append_assoc}
use native.Mathlib.Omega.{arith}
use lib.Dec.{eqb}
use lib.ListN.{length, take, drop, get_or, length-drop}
use lib.Seq.{take-suc, get_or-drop, length-take-le}
use Rattle.std.proofs.lemmas.List.{take_min}
use Rattle.reading.specs.declared.Action.{Action}
use Rattle.reading.specs.declared.Rule.{Rule}
use Rattle.reading.specs.Lists.{keep}
use Rattle.reading.specs.Actions.{Placed, placed_from, actions_of, kind_of, last_from, last_of, controls_in}
use Rattle.reading.specs.Walk.{no_action}
use Rattle.actions.specs.Slots.{placed_at}

-- the actions from an index up to another
abbrev pub up_to : List Action → ℕ → ℕ → List Placed
up_to actions first i = placed_from first (take (i - first) (drop first actions))

pub up-to-none : (actions : List Action) (first : ℕ) → up_to actions first first ≡ []
up-to-none actions first = let z : first - first ≡ 0 = omega arith in rw z

placed_snoc : (at : ℕ) (l : List Action) (a : Action)
    → placed_from at (l ++ a ∷ []) ≡ placed_from at l ++ record { position = at + length l; action = a } ∷ []
placed_snoc at [] a =
    let z : at ≡ at + zero = omega arith in
    ap (λ (n : ℕ). placed_from at [] ++ record { position = n; action = a } ∷ []) z
placed_snoc at (x ∷ l) a =
    let z : suc at + length l ≡ at + suc (length l) = omega arith in
    ap (λ (ps : List Placed). record { position = at; action = x } ∷ ps)
    (placed_snoc (suc at) l a ∙ ap (λ (n : ℕ). placed_from (suc at) l ++ record { position = n; action = a } ∷ []) z)

up-to-first : (actions : List Action) (first j : ℕ) → first + j < length actions
    → placed_from first (take (suc j) (drop first actions)) ≡ placed_from first (take j (drop first actions)) ++ placed_at actions (first + j) ∷ []
up-to-first actions first j h =
    let l = drop first actions in
    let short : j < length l = omega (arith, length-drop first actions) in
    let n : length (take j l) ≡ j = length-take-le j l (omega arith) in
    ap (placed_from first) (take-suc l j no_action short)
    ∙ (placed_snoc first (take j l) (get_or l j no_action)
    ∙ rw (n, get_or-drop first actions j no_action) refl)

pub up-to-more : (actions : List Action) (first i : ℕ) → first ≤ i → i < length actions
    → up_to actions first (i + 1) ≡ up_to actions first i ++ placed_at actions i ∷ []
up-to-more actions first i h k =
    let a : i + 1 - first ≡ suc (i - first) = omega arith in
    let b : first + (i - first) ≡ i = omega arith in
    rw a (up-to-first actions first (i - first) (omega arith) ∙ ap (λ (p : ℕ). up_to actions first i ++ placed_at actions p ∷ []) b)

-- a rule's actions are those up to the index after its last
pub up-to-end : (actions : List Action) (r : Rule) (i : ℕ) → i ≡ r.first + min r.count (length actions - r.first)
    → up_to actions r.first i ≡ actions_of actions r
unfolding actions_of
up-to-end actions r i e =
    let l = drop r.first actions in
    let z : i - r.first ≡ min r.count (length l) = omega (arith, length-drop r.first actions) in
    ap (placed_from r.first) (ap (λ (n : ℕ). take n l) z ∙ take_min r.count l)

last-from-more : (found : Option Placed) (test : ℕ → Bool) (ps : List Placed) (p : Placed)
    → last_from found test (ps ++ p ∷ []) ≡ cond (test (kind_of p)) (Some p) (last_from found test ps)
last-from-more found test [] p = refl
last-from-more found test (q ∷ ps) p = last-from-more (cond (test (kind_of q)) (Some q) found) test ps p

pub last_more : (test : ℕ → Bool) (ps : List Placed) (p : Placed)
    → last_of test (ps ++ p ∷ []) ≡ cond (test (kind_of p)) (Some p) (last_of test ps)
unfolding last_of
last_more test ps p = last-from-more None test ps p

-- two tests that agree find the same action
pub last-same : (f g : ℕ → Bool) → ((kind : ℕ) → f kind ≡ g kind) → (ps : List Placed) → last_of f ps ≡ last_of g ps
last-same f g e ps = ap (λ (test : ℕ → Bool). last_of test ps) (fun_ext e)

pub controls-more : (ps : List Placed) (p : Placed) → controls_in (ps ++ p ∷ []) ≡ controls_in ps ++ keep (eqb (kind_of p) 19) (p ∷ [])
controls-more [] p = append-nil (keep (eqb (kind_of p) 19) (p ∷ []))
controls-more (q ∷ ps) p =
    let here = keep (eqb (kind_of q) 19) (q ∷ []) in
    ap (λ (l : List Placed). here ++ l) (controls-more ps p) ∙ sym (append_assoc here (controls_in ps) (keep (eqb (kind_of p) 19) (p ∷ [])))
