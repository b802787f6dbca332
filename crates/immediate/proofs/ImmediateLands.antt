-- The immediate memory: nothing waits, and a store lands its own write. Assumes nothing.
use Rattle.std.proofs.Common.{◌≡◌, ℕ, ◌<◌, true, false, List, [], ◌∷◌, ◌++◌, length, get_or, set, replicate, sym, ap, ◌∙◌}
use Rattle.std.proofs.lemmas.List.{get_or-set_same, set-set, set-get_or}
use Rattle.memory.specs.declared.write.Write.{Write}
use Rattle.memory.specs.Meaning.{Meaning, queue, cell, with_queue, with_cell, written, newest, value_or, loaded, stored, landed, landed_from, any_of, is_due, due}
use Rattle.memory.specs.Landings.{Lands}
use Rattle.memory.proofs.Views.{Pushed, landed_pops, stored_pushes, popped_left}
use Rattle.memory.proofs.Soundness.{get_or-nils}

pub idle_queue : (m : Meaning) → m.waiting ≡ replicate 8 [] → (t : ℕ) → queue m t ≡ []
idle_queue m e t = ap (λ (q : List (List Write)). get_or q t []) e ∙ get_or-nils 8 t

pub idle_loaded : (m : Meaning) → m.waiting ≡ replicate 8 [] → (t c : ℕ) → loaded m t c ≡ cell m c
unfolding loaded
idle_loaded m e t c = ap (λ (q : List Write). value_or (newest q c) (cell m c)) (idle_queue m e t)

pub idle_due : (m : Meaning) → m.waiting ≡ replicate 8 [] → due m ≡ false
idle_due m e = ap (any_of (any_of (is_due m))) e

-- a meaning with the cell written and these writes waiting
abbrev rebuilt : Meaning → ℕ → ℕ → List (List Write) → Meaning
rebuilt m c v q = record { clock = m.clock; cells = set m.cells c v; bound = m.bound; self_landing = m.self_landing; waiting = q }

-- a store and then the landing of its write is a write into the cell
pub store_lands : (t c v : ℕ) (m : Meaning) → t < 8 → m.waiting ≡ replicate 8 [] → landed t (stored t c v m) ≡ with_cell m c v
unfolding stored landed
store_lands t c v m lt e =
    let one : List Write = written m c v ∷ [] in
    let long : t < length m.waiting = rw e lt in
    let p : queue (with_queue m t (queue m t ++ one)) t ≡ one = get_or-set_same m.waiting t (queue m t ++ one) [] long ∙ ap (λ (q : List Write). q ++ one) (idle_queue m e t) in
    let same : set (set m.waiting t (queue m t ++ one)) t [] ≡ m.waiting = set-set m.waiting t (queue m t ++ one) [] ∙ ap (set m.waiting t) (sym (idle_queue m e t)) ∙ set-get_or m.waiting t [] in
    ap (landed_from t (with_queue m t (queue m t ++ one))) p ∙ ap (rebuilt m c v) same

-- the one landing of a store
pub lands_own : (t c v : ℕ) (m m' : Meaning) → t < 8 → m.waiting ≡ replicate 8 [] → m.self_landing ≡ true → m' ≡ with_cell m c v → Lands (stored t c v m) m'
lands_own t c v m m' lt e self is =
    record {
      landings = record { thread = t; write = written m c v } ∷ [];
      lead = (waits, is ∙ sym (store_lands t c v m lt e));
      none = λ f. (let fixed = pushed.fixed.self_landing in absurd cc);
    }
  where
    pushed : Pushed t c v m (stored t c v m)
    pushed = stored_pushes t c v m (rw e lt)

    was : queue (stored t c v m) t ≡ written m c v ∷ []
    was = pushed.here ∙ ap (λ (q : List Write). q ++ written m c v ∷ []) (idle_queue m e t)

    waits : queue (stored t c v m) t ≡ written m c v ∷ queue (landed t (stored t c v m)) t
    waits = was ∙ ap (λ (q : List Write). written m c v ∷ q) (sym (popped_left (landed_pops t (stored t c v m) (written m c v) [] was) was))
