-- Every transition keeps the invariant of the tables for nodes. Assumes nothing.
use Rattle.std.proofs.Common.{◌≡◌, ℕ, ◌+◌, ◌<◌, ◌≤◌, true, ◌&&◌, ltb, leb, ◌⊎◌, set, replicate, Some, refl, ◌∙◌, inl, inr, arith}
use Rattle.std.proofs.lemmas.List.{length-replicate, get_or-replicate, get_or_past}
use Rattle.std.proofs.lemmas.Bool.{cases_lt, and_parts, ltb-true, leb-true}
use Rattle.memory.specs.Calls.{Sound}
use Rattle.memory.specs.Meaning.{Meaning, ticked, is_new}
use Rattle.memory.proofs.Views.{lands_clock}
use Rattle.protocol.specs.declared.answer.Answer.{Answer}
use Rattle.protocol.specs.declared.call.Call.{Call}
use Rattle.protocol.specs.declared.node.NodeState.{NodeState}
use Rattle.protocol.specs.declared.node.NodeState.TheVariants.{Free, Taken, Published, Removed, Retired}
use Rattle.protocol.specs.declared.operation.Operation.{Operation}
use Rattle.protocol.specs.declared.operation.Operation.TheVariants.{Protect, Copy, Release, Publish, Remove, Reclaim, OwnerLock, OwnerUnlock, OtherLock, OtherUnlock}
use Rattle.protocol.specs.declared.settings.Settings.{Settings}
use Rattle.protocol.specs.Begin.{named, fits, is_free, ready, begun}
use Rattle.protocol.specs.Settings.{in_range}
use Rattle.protocol.specs.Steps.{Told, after, moved_to}
use Rattle.protocol.specs.Tables.{Point, Tables, State, thread_of, node_of, idle_thread, first_tables, protect1, copy1, release1, remove1, reclaim1, owner_lock1, owner_unlock1, other_lock1, other_unlock1}
use Rattle.protocol.specs.Transition.{Trans, refuses, sets_up, ticks, lands, begins, steps, tick_asks, begin_asks, step_asks, here, counted, stepped}
use Rattle.protocol.proofs.FirstState.{same_all, new_empty, new_blank}
use Rattle.protocol.proofs.Passed.{rest_passed, clock_passed, set_up_passed, begin_passed, step_passed}
use Rattle.protocol.proofs.Placed.{FitsAt, Placed, Inv}
use Rattle.protocol.proofs.PlacedMemory.{landed_placed, lands_placed, ticked_placed}
use Rattle.protocol.proofs.PlacedMoves.{plain_at, plain_moves, publish_begins}
use Rattle.protocol.proofs.PlacedRows.{Rooted, Row, Frame, roots_of, row_of, from_parts}
use Rattle.protocol.proofs.PlacedSteps.{step_placed}

-- Set-up.

idle_row : (z : Settings) (n clock u h : ℕ) → (u < z.threads → h ≡ z.hazards) → Row z (replicate n Free) clock u (idle_thread h)
idle_row z n clock u h e =
    record {
      fits = tt;
      guards = λ lt. length-replicate h 0 ∙ e lt;
      taking = λ i k f. absurd cc;
      removing = λ i k f. absurd cc;
      listed = λ k pos. rw (same_all n k Free) refl;
      real = tt;
      dates = tt;
    }

pub first_placed : (z : Settings) (m : Meaning) → in_range z ≡ true → Sound m → is_new m ≡ true → Placed (first_tables z) m
first_placed z m range s new = from_parts (first_tables z) m frame roots (λ u. row u (cases_lt u z.threads))
  where
    frame : Frame (first_tables z) m
    frame =
        record {
          range = range;
          threads = length-replicate z.threads (idle_thread z.hazards);
          nodes = length-replicate (z.nodes + 1) Free;
          sound = s;
          writes = λ t. rw (new_empty m s new t) tt;
        }

    roots : Rooted z.roots (replicate (z.nodes + 1) Free) m
    roots =
        record {
          none = same_all (z.nodes + 1) 0 Free;
          rooted = λ r lt pos. let e = new_blank m s new r in absurd (omega arith);
          published = λ n r e. let f = same_all {A = NodeState} (z.nodes + 1) n Free in absurd cc;
        }

    row : (u : ℕ) → (u < z.threads) ⊎ (z.threads ≤ u) → Row z (replicate (z.nodes + 1) Free) m.clock u (thread_of (first_tables z) u)
    row u (inl lt) = rw (get_or-replicate z.threads u (idle_thread z.hazards) (idle_thread 0) lt) (idle_row z (z.nodes + 1) m.clock u z.hazards (λ _. refl))
    row u (inr le) =
        rw (get_or_past (replicate z.threads (idle_thread z.hazards)) u (idle_thread 0) (let e = length-replicate z.threads (idle_thread z.hazards) in omega arith))
        (idle_row z (z.nodes + 1) m.clock u 0 (λ lt. absurd (omega arith)))

-- Calls that leave the tables, but for the number of calls.

counted_placed : (x : Tables) (m : Meaning) → Placed x m → Placed (counted x) m
counted_placed x m p =
    from_parts (counted x) m
    (record { range = p.shape.range; threads = p.shape.threads; nodes = p.shape.nodes; sound = p.sound; writes = p.writes })
    (roots_of p) (row_of p)

-- Begin.

pub free_is : (z : NodeState) → is_free z ≡ true → z ≡ Free
free_is Free e = refl
free_is (Taken t) e = cc
free_is (Published r) e = cc
free_is (Removed t) e = cc
free_is (Retired t) e = cc

module _ (x : Tables) (m : Meaning) (t : ℕ) (lt : t < x.settings.threads) (p : Placed x m) where
  begins_at : (q : Point) → FitsAt x.settings q → plain_at q ≡ true → Placed (counted (record { settings = x.settings; threads = set x.threads t (moved_to q (thread_of x t)); nodes = x.nodes; accepted = x.accepted })) m
  begins_at q fit plain = plain_moves x m t (moved_to q (thread_of x t)) lt p fit plain refl (p.shape.guards t lt)

  pub begin_placed : (o : Operation) → fits x.settings o ≡ true → ready x (thread_of x t) o ≡ true → Placed (counted (begun x t o)) m
  begin_placed (Protect r h) e f =
      let a = and_parts (ltb r x.settings.roots) (ltb h x.settings.hazards) e in
      begins_at (protect1 r h) (ltb-true r x.settings.roots a.0, ltb-true h x.settings.hazards a.1) refl
  begin_placed (Copy i j) e f =
      let a = and_parts (ltb i j) (ltb j x.settings.hazards) e in
      begins_at (copy1 i j) (ltb-true i j a.0, ltb-true j x.settings.hazards a.1) refl
  begin_placed (Release i) e f = begins_at (release1 i) (ltb-true i x.settings.hazards e) refl
  begin_placed (Publish r n) e f =
      let a = and_parts (ltb r x.settings.roots) (leb 1 n && leb n x.settings.nodes) e in
      let b = and_parts (leb 1 n) (leb n x.settings.nodes) a.1 in
      publish_begins x m t r n lt p (leb-true 1 n b.0) (ltb-true r x.settings.roots a.0) (leb-true n x.settings.nodes b.1) (free_is (node_of x n) f)
  begin_placed (Remove r) e f = begins_at (remove1 r) (ltb-true r x.settings.roots e) refl
  begin_placed Reclaim e f = begins_at reclaim1 tt refl
  begin_placed OwnerLock e f = begins_at owner_lock1 tt refl
  begin_placed OwnerUnlock e f = begins_at owner_unlock1 tt refl
  begin_placed OtherLock e f = begins_at other_lock1 tt refl
  begin_placed OtherUnlock e f = begins_at other_unlock1 tt refl

-- All calls.

inv_at : (s : State) (x : Tables) → s.tables ≡ Some x → Placed x s.memory → Inv s
inv_at s x e p = record { sound = p.sound; placed = λ y f. let g : y ≡ x = cc in rw g p }

pub keeps : (s s' : State) {c : Call} {a : Answer} {k : Told} → Trans s s' c a k → Inv s → Inv s'
keeps s s' (refuses f e) i = rw e i
keeps s s' (sets_up {z} f e g) i =
    let h = set_up_passed z s f in
    inv_at s' (first_tables z) g (rw e (first_placed z s.memory h.range i.sound h.new))
keeps s s' (ticks {x} e f w) i =
    let early = clock_passed s.memory (rest_passed s.tables (λ x. tick_asks s.memory) x e f) in
    let l = w.memory.between in
    let same = lands_clock w.memory.lands in
    inv_at s' (counted x) w.tables
    (rw w.memory.is (counted_placed x (ticked l) (ticked_placed x l (omega arith) (lands_placed x w.memory.lands (i.placed x e)))))
keeps s s' (lands {t} {x} e f w) i =
    inv_at s' (counted x) w.tables (counted_placed x s'.memory (lands_placed x w.memory (landed_placed x t s.memory (i.placed x e))))
keeps s s' (begins {t} {o} {a} {b} {p} {x} e g f w) i =
    let h = begin_passed t p x (rw g at (rest_passed s.tables (begin_asks t (named o a b)) x e f)) in
    inv_at s' (counted (begun x t p)) w.tables (rw w.memory (begin_placed x s.memory t h.thread (i.placed x e) p h.fits h.ready))
keeps s s' (steps {t} {x} {a} {k} e f w) i =
    let h = step_passed t s.memory x (rest_passed s.tables (step_asks t s.memory) x e f) in
    inv_at s' (counted (stepped x t (after (here x s.memory t) (thread_of x t).point k))) w.tables
    (step_placed x s.memory s'.memory t k h.thread (i.placed x e) h.memory w.memory)
