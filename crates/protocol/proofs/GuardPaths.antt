-- Every call of the machine, seen from the hazard pointers, is a path of landings, ticks and acts; and the invariant of guards
-- holds right after set-up. Assumes nothing.
use Rattle.std.proofs.Common.{◌≡◌, ℕ, ◌<◌, ◌≤◌, true, not, ◌&&◌, eqb, ltb, leb, ◌⊎◌, length, set, replicate, Some, refl, ap, ◌∙◌, inl, inr, arith}
use Rattle.std.proofs.lemmas.List.{length-replicate, get_or-replicate, get_or_past}
use Rattle.std.proofs.lemmas.Bool.{cases_lt, and_parts, not-true, eqb-true, eqb-false, ltb-true, leb-true}
use Rattle.memory.specs.Calls.{Sound}
use Rattle.memory.specs.Meaning.{Meaning, ticked, is_new}
use Rattle.memory.proofs.Soundness.{landed_sound}
use Rattle.protocol.specs.declared.answer.Answer.{Answer}
use Rattle.protocol.specs.declared.call.Call.{Call}
use Rattle.protocol.specs.declared.node.NodeState.TheVariants.{Free, Taken}
use Rattle.protocol.specs.declared.operation.Operation.{Operation}
use Rattle.protocol.specs.declared.operation.Operation.TheVariants.{Protect, Copy, Release, Publish, Remove, Reclaim, OwnerLock, OwnerUnlock, OtherLock, OtherUnlock}
use Rattle.protocol.specs.declared.settings.Settings.{Settings}
use Rattle.protocol.specs.Begin.{named, fits, ready, begun}
use Rattle.protocol.specs.Steps.{Told, guard_of, moved_to, after}
use Rattle.protocol.specs.Tables.{Point, Thread, Tables, State, thread_of, node_of, idle_thread, first_tables, protect1, copy1, release1, publish1, remove1, reclaim1, owner_lock1, owner_unlock1, other_lock1, other_unlock1}
use Rattle.protocol.specs.Transition.{Trans, refuses, sets_up, ticks, lands, begins, steps, begin_asks, step_asks, here, counted, stepped}
use Rattle.protocol.proofs.FirstState.{same_all, new_empty}
use Rattle.protocol.proofs.Guarded.{Guarded}
use Rattle.protocol.proofs.GuardMemory.{Owns, owns_landed, same_cells, ticked_view, still, landed_first, lands_first, rested}
use Rattle.protocol.proofs.GuardSteps.{Ready, plain_act, step_leads}
use Rattle.protocol.proofs.GuardTables.{cells_then, marks, goes, same_guards, same_lists}
use Rattle.protocol.proofs.GuardView.{guard_state, ReadyAt, PlainAt, Acts, takes, GuardPath, acts}
use Rattle.protocol.proofs.GuardView as View
use Rattle.protocol.proofs.Passed.{rest_passed, set_up_passed, begin_passed, step_passed}
use Rattle.protocol.proofs.Placed.{Placed, Inv}
use Rattle.protocol.proofs.PlacedKeeps.{free_is}
use Rattle.protocol.proofs.PlacedRows.{changed}

stands : (g : ℕ) → not (eqb g 0) ≡ true → 0 < g
stands g e = let f = eqb-false g 0 (not-true (eqb g 0) e) in elim (cases_lt 0 g) [ inl lt ↦ lt | inr le ↦ absurd (f (omega arith)) ]

-- Begin.
module _ (x : Tables) (m : Meaning) (t : ℕ) (lt : t < x.settings.threads) (p : Placed x m) where
  row : t < length x.threads
  row = let e = p.shape.threads in omega arith

  begins_at : (q : Point) → PlainAt q → Ready x t q → Acts x.settings t (guard_state x m) (guard_state (changed x t (moved_to q (thread_of x t)) x.nodes) m)
  begins_at q pl rd = plain_act x m m t q (thread_of x t).inside row pl rd (same_cells x m)

  publish_begins : (r n : ℕ) → n ≤ x.settings.nodes → node_of x n ≡ Free → Acts x.settings t (guard_state x m) (guard_state (changed x t (moved_to (publish1 r n) (thread_of x t)) (set x.nodes n (Taken t))) m)
  publish_begins r n le is =
      let to = moved_to (publish1 r n) (thread_of x t) in
      let ns = set x.nodes n (Taken t) in
      takes {r = r} {n = n} is (goes x m m t to ns row) (cells_then x m m t to ns (same_cells x m)) (same_guards x m m t to ns row refl)
      (marks x m m t to ns n (Taken t) refl (let e = p.shape.nodes in omega arith)) (same_lists x m m t to ns row refl)

  begin_acts : (o : Operation) → fits x.settings o ≡ true → ready x (thread_of x t) o ≡ true → Acts x.settings t (guard_state x m) (guard_state (counted (begun x t o)) m)
  begin_acts (Protect r h) e f = begins_at (protect1 r h) tt (eqb-true (guard_of (thread_of x t) h) 0 f)
  begin_acts (Copy i j) e f =
      let a = and_parts (ltb i j) (ltb j x.settings.hazards) e in
      let b = and_parts (eqb (guard_of (thread_of x t) j) 0) (not (eqb (guard_of (thread_of x t) i) 0)) f in
      begins_at (copy1 i j) tt (ltb-true i j a.0, ltb-true j x.settings.hazards a.1, eqb-true (guard_of (thread_of x t) j) 0 b.0, stands (guard_of (thread_of x t) i) b.1)
  begin_acts (Release i) e f = begins_at (release1 i) tt tt
  begin_acts (Publish r n) e f =
      let a = and_parts (ltb r x.settings.roots) (leb 1 n && leb n x.settings.nodes) e in
      let b = and_parts (leb 1 n) (leb n x.settings.nodes) a.1 in
      publish_begins r n (leb-true n x.settings.nodes b.1) (free_is (node_of x n) f)
  begin_acts (Remove r) e f = begins_at (remove1 r) tt tt
  begin_acts Reclaim e f = begins_at reclaim1 tt tt
  begin_acts OwnerLock e f = begins_at owner_lock1 tt tt
  begin_acts OwnerUnlock e f = begins_at owner_unlock1 tt tt
  begin_acts OtherLock e f = begins_at other_lock1 tt tt
  begin_acts OtherUnlock e f = begins_at other_unlock1 tt tt

-- the tables before and after are those that the call says
at_tables : (s s' : State) (x x' y y' : Tables) → s.tables ≡ Some x → s'.tables ≡ Some x' → s.tables ≡ Some y → s'.tables ≡ Some y'
    → GuardPath y.settings (guard_state y' s'.memory) (guard_state y s.memory) → GuardPath x.settings (guard_state x' s'.memory) (guard_state x s.memory)
at_tables s s' x x' y y' e f g h p =
    let j : x ≡ y = cc in
    let k : x' ≡ y' = cc in
    rw (j, k) p

pub guard_path : (s s' : State) {c : Call} {a : Answer} {k : Told} (x x' : Tables) → Trans s s' c a k → Inv s → Owns x.settings s.memory → s.tables ≡ Some x → s'.tables ≡ Some x'
    → ((t : ℕ) → ReadyAt x.settings (λ i. guard_of (thread_of x t) i) (thread_of x t).point) → GuardPath x.settings (guard_state x' s'.memory) (guard_state x s.memory)
guard_path s s' x x' (refuses f e) i o g h rd =
    at_tables s s' x x' x x g h g (rw e g) (rw e (rested x.settings x s.memory))
guard_path s s' x x' (sets_up {z} f e j) i o g h rd =
    let none = (set_up_passed z s f).first in
    absurd cc
guard_path s s' x x' (ticks {x = y} e f w) i o g h rd =
    let l = w.memory.between in
    let same : x ≡ y = cc in
    at_tables s s' x x' y (counted y) g h e w.tables
    (lands_first y w.memory.lands i.sound (rw same at o)
    (View.ticks (guard_state y (ticked l)) (ticked_view y l w.memory.none_due) (still y l (ticked l)) (rw w.memory.is (rested y.settings y (ticked l)))))
guard_path s s' x x' (lands {t} {x = y} e f w) i o g h rd =
    let same : x ≡ y = cc in
    let oy = rw same at o in
    at_tables s s' x x' y (counted y) g h e w.tables
    (landed_first y t s.memory i.sound oy
    (lands_first y w.memory (landed_sound t s.memory i.sound) (owns_landed y.settings t s.memory oy) (rested y.settings y s'.memory)))
guard_path s s' x x' (begins {t} {o = number} {a} {b} {p = op} {x = y} e j f w) i o g h rd =
    let q = begin_passed t op y (rw j at (rest_passed s.tables (begin_asks t (named number a b)) y e f)) in
    at_tables s s' x x' y (counted (begun y t op)) g h e w.tables
    (acts t (guard_state (counted (begun y t op)) s.memory) q.thread (begin_acts y s.memory t q.thread (i.placed y e) op q.fits q.ready)
    (rw w.memory (rested y.settings (counted (begun y t op)) s.memory)))
guard_path s s' x x' (steps {t} {x = y} {a} {k} e f w) i o g h rd =
    let q = step_passed t s.memory y (rest_passed s.tables (step_asks t s.memory) y e f) in
    let same : x ≡ y = cc in
    at_tables s s' x x' y (counted (stepped y t (after (here y s.memory t) (thread_of y t).point k))) g h e w.tables
    (step_leads y s.memory s'.memory t k q.thread (i.placed y e) (rw same at o) (rw same at (rd t)) q.memory w.memory)

-- Right after set-up.

-- every thread is idle
pub first_idle : (z : Settings) (t : ℕ) → (h : ℕ) × (thread_of (first_tables z) t ≡ idle_thread h)
first_idle z t = at (cases_lt t z.threads)
  where
    at : (t < z.threads) ⊎ (z.threads ≤ t) → (h : ℕ) × (thread_of (first_tables z) t ≡ idle_thread h)
    at (inl lt) = (z.hazards, get_or-replicate z.threads t (idle_thread z.hazards) (idle_thread 0) lt)
    at (inr le) = (0, get_or_past (replicate z.threads (idle_thread z.hazards)) t (idle_thread 0) (let e = length-replicate z.threads (idle_thread z.hazards) in omega arith))

pub guard_first : (z : Settings) (m : Meaning) → Sound m → is_new m ≡ true → Guarded z (guard_state (first_tables z) m)
guard_first z m s new =
    record {
      within = λ t i pos. absurd (none t i pos);
      ready = λ t. rw (first_idle z t).1 tt;
      used = λ t i pos. absurd (none t i pos);
      shows = λ t i pos. absurd (none t i pos);
      protecting = λ t r h n e. let f = ap (λ (w : Thread). w.point) (first_idle z t).1 in absurd cc;
      past = λ t. rw (new_empty m s new t) tt;
      in_time = λ t. rw (new_empty m s new t) tt;
      listed = λ u. rw (first_idle z u).1 tt;
      visible = λ t i u pos. absurd (none t i pos);
      sweeping = λ t i u now seen pos. absurd (none t i pos);
    }
  where
    none : (t i : ℕ) → 0 < guard_of (thread_of (first_tables z) t) i → ⊥
    none t i pos =
        let e = first_idle z t in
        let f : guard_of (thread_of (first_tables z) t) i ≡ 0 = ap (λ (w : Thread). guard_of w i) e.1 ∙ same_all e.0 i 0 in
        omega arith
