-- The history's roots are the memory's root cells. Assumes nothing.
use Rattle.std.proofs.Common.{◌≡◌, ℕ, ◌<◌, ◌≤◌, Bool, true, false, cond, ◌&&◌, eqb, ltb, ◌≢◌, ◌⊎◌, List, ◌∷◌, length, Some, None, Option, sym, refl, ap, ◌∙◌, inl, inr, arith}
use Rattle.std.proofs.lemmas.Bool.{cases_eq, cases_lt, lt-ltb, le-ltb, ne_eqb, eqb-true, and_right}
use Rattle.std.proofs.lemmas.Bool.Decides.{nat_tests}
use Rattle.memory.specs.Calls.{Sound, Exchanged}
use Rattle.memory.specs.Landings.{Lands}
use Rattle.memory.specs.Meaning.{Meaning, cell, exchanged, ticked}
use Rattle.memory.proofs.Views.{Put, exchanged_puts, exchanged_none, lands_fixed}
use Rattle.protocol.specs.declared.answer.Answer.{Answer}
use Rattle.protocol.specs.declared.call.Call.{Call}
use Rattle.protocol.specs.declared.node.NodeState.TheVariants.{Published}
use Rattle.protocol.specs.History.{Event, ended_well, going_on, doing_in, root_step, root_after, root_in}
use Rattle.protocol.specs.Steps.{Request, asks_load, asks_store, asks_exchange, asks_clock, asks_fence, asks_nothing, Told, done_told, Here, request, after, after_publish1, after_remove2}
use Rattle.protocol.specs.Tables.{doing_at, Tables, State, thread_of, node_of, Point, idle, protect1, protect2, protect3, protect4, copy1, release1, publish1, remove1, remove2, remove3, reclaim1, reclaim2, reclaim3, owner_lock1, owner_lock2, owner_lock3, owner_lock4, owner_lock5, owner_unlock1, owner_unlock2, owner_unlock3, owner_unlock4, other_lock1, other_lock2, other_lock3, other_lock4, other_lock5, other_lock6, other_lock7, other_lock8, other_unlock1, other_unlock2, other_unlock3}
use Rattle.protocol.specs.Transition.{Meets, Trans, refuses, sets_up, ticks, lands, begins, steps, here, step_asks}
use Rattle.protocol.proofs.FirstState.{new_blank}
use Rattle.protocol.proofs.Passed.{rest_passed, set_up_passed, step_passed}
use Rattle.protocol.proofs.Placed.{FitsAt, Placed, Inv}
use Rattle.protocol.proofs.PlacedMemory.{ranges, placed_below}
use Rattle.protocol.proofs.Refusals.{cond_same, refused_root}
use Rattle.protocol.proofs.RootCells.{Below, below_landed, below_lands, below_stored, below_exchanged, below_ticked}
use Rattle.protocol.proofs.Shown.{Shown}

-- what the tables and the memory say of a root: what its cell holds, and 0 where there is no such root
abbrev pub root_or : Option Tables → Meaning → ℕ → ℕ
root_or None m r = 0
root_or (Some x) m r = cond (ltb r x.settings.roots) (cell m r) 0

abbrev pub RootsShown : List Event → State → Type 0
RootsShown h s = (r : ℕ) → root_in h r ≡ root_or s.tables s.memory r

-- a request that writes no cell below n
abbrev pub Quiet : ℕ → Request → Type 0
Quiet n (asks_load c) = Unit {0}
Quiet n (asks_store c v) = n ≤ c
Quiet n (asks_exchange c old new) = n ≤ c
Quiet n asks_clock = Unit {0}
Quiet n asks_fence = Unit {0}
Quiet n asks_nothing = Unit {0}

pub meets_quiet : (n t : ℕ) (q : Request) (m m' : Meaning) (k : Told) → t < length m.waiting → Quiet n q → Meets t q m m' k → Below n m m → Below n m m'
meets_quiet n t (asks_load c) m m' k lt q w b = below_lands n m w.2.lands b
meets_quiet n t (asks_store c v) m m' k lt q w b = below_lands n m w.1 (below_stored n m t c v m lt q b)
meets_quiet n t (asks_exchange c old new) m m' k lt q w b =
    let x = w.2 in
    rw x.is (below_exchanged n m c old new x.between q (below_lands n m x.lands b))
meets_quiet n t asks_clock m m' k lt q w b = rw w.1 b
meets_quiet n t asks_fence m m' k lt q w b = rw w.1 b
meets_quiet n t asks_nothing m m' k lt q w b = rw w.1 b

-- an exchange on a cell below n: where it was done that cell has the new value, and the others stand
pub exchange_below : (n c old new : ℕ) (m m' : Meaning) (d : Bool) → Sound m → c < n → n ≤ 8 → Below n m m → Exchanged Lands c old new m m' d → (r : ℕ) → r < n → cell m' r ≡ cond (d && eqb c r) new (cell m r)
exchange_below n c old new m m' d s lt few b x r below = rw x.is (go d x.answer)
  where
    mid : Below n m x.between
    mid = below_lands n m x.lands b

    at : Put c new x.between (exchanged c old new x.between) → (c ≡ r) ⊎ (c ≢ r) → cell (exchanged c old new x.between) r ≡ cond (eqb c r) new (cell m r)
    at p (inl e) =
        let f = (lands_fixed x.lands).places in
        let g = s.cells in
        let h = p.here (omega arith) in
        grind (arith, nat_tests)
    at p (inr ne) =
        let f = p.elsewhere r (λ e. ne (sym e)) in
        let g = mid.cells r below in
        grind (arith, nat_tests)

    go : (z : Bool) → z ≡ eqb (cell x.between c) old → cell (exchanged c old new x.between) r ≡ cond (z && eqb c r) new (cell m r)
    go true e = at (exchanged_puts c old new x.between (sym e)) (cases_eq c r)
    go false e = rw (exchanged_none c old new x.between (sym e)) (mid.cells r below)

pub record Still (z : Here) (p : Point) : Type 0 where
  pub quiet : Quiet z.settings.roots (request z p)
  pub same : (a : Answer) (r was : ℕ) → root_step (doing_at p) a r was ≡ was

pub data RootCase (z : Here) (p : Point) : Type 0 where
  publishes : {root n : ℕ} → p ≡ publish1 root n → RootCase z p
  removes : {root n : ℕ} → p ≡ remove2 root n → RootCase z p
  still : Still z p → RootCase z p

pub root_case : (z : Here) (p : Point) → RootCase z p
root_case z idle = still (record { quiet = tt; same = λ a r was. refl })
root_case z (protect1 r h) = still (record { quiet = tt; same = λ a r was. refl })
root_case z (protect2 r h n) = still (record { quiet = omega arith; same = λ a r was. refl })
root_case z (protect3 r h n) = still (record { quiet = tt; same = λ a r was. refl })
root_case z (protect4 r h) = still (record { quiet = omega arith; same = λ a r was. refl })
root_case z (copy1 a b) = still (record { quiet = omega arith; same = λ a r was. refl })
root_case z (release1 a) = still (record { quiet = omega arith; same = λ a r was. refl })
root_case z (publish1 r n) = publishes refl
root_case z (remove1 r) = still (record { quiet = tt; same = λ a r was. refl })
root_case z (remove2 r n) = removes refl
root_case z (remove3 r n) = still (record { quiet = tt; same = λ a r was. refl })
root_case z reclaim1 = still (record { quiet = tt; same = λ a r was. refl })
root_case z (reclaim2 now seen) = still (record { quiet = tt; same = λ a r was. refl })
root_case z (reclaim3 now seen) = still (record { quiet = tt; same = λ a r was. refl })
root_case z owner_lock1 = still (record { quiet = omega arith; same = λ a r was. refl })
root_case z owner_lock2 = still (record { quiet = tt; same = λ a r was. refl })
root_case z (owner_lock3 v) = still (record { quiet = omega arith; same = λ a r was. refl })
root_case z owner_lock4 = still (record { quiet = omega arith; same = λ a r was. refl })
root_case z owner_lock5 = still (record { quiet = tt; same = λ a r was. refl })
root_case z owner_unlock1 = still (record { quiet = tt; same = λ a r was. refl })
root_case z owner_unlock2 = still (record { quiet = omega arith; same = λ a r was. refl })
root_case z owner_unlock3 = still (record { quiet = omega arith; same = λ a r was. refl })
root_case z owner_unlock4 = still (record { quiet = omega arith; same = λ a r was. refl })
root_case z other_lock1 = still (record { quiet = omega arith; same = λ a r was. refl })
root_case z other_lock2 = still (record { quiet = tt; same = λ a r was. refl })
root_case z (other_lock3 v) = still (record { quiet = omega arith; same = λ a r was. refl })
root_case z (other_lock4 v) = still (record { quiet = tt; same = λ a r was. refl })
root_case z (other_lock5 v) = still (record { quiet = tt; same = λ a r was. refl })
root_case z (other_lock6 v note) = still (record { quiet = tt; same = λ a r was. refl })
root_case z (other_lock7 v note) = still (record { quiet = tt; same = λ a r was. refl })
root_case z (other_lock8 v) = still (record { quiet = tt; same = λ a r was. refl })
root_case z other_unlock1 = still (record { quiet = tt; same = λ a r was. refl })
root_case z (other_unlock2 v) = still (record { quiet = omega arith; same = λ a r was. refl })
root_case z other_unlock3 = still (record { quiet = omega arith; same = λ a r was. refl })

-- roots that nothing wrote are shown as before
pub below_shown : (n : ℕ) (m m' : Meaning) (r : ℕ) → Below n m m' → cond (ltb r n) (cell m r) 0 ≡ cond (ltb r n) (cell m' r) 0
below_shown n m m' r b = at (cases_lt r n)
  where
    at : (r < n) ⊎ (n ≤ r) → cond (ltb r n) (cell m r) 0 ≡ cond (ltb r n) (cell m' r) 0
    at (inl lt) = rw (lt-ltb r n lt, b.cells r lt) refl
    at (inr le) = rw (le-ltb r n le) refl

exchange_shown : (n c new : ℕ) (d : Bool) (m m' : Meaning) → c < n → ((r : ℕ) → r < n → cell m' r ≡ cond (d && eqb c r) new (cell m r)) → (r : ℕ) → cond (d && eqb c r) new (cond (ltb r n) (cell m r) 0) ≡ cond (ltb r n) (cell m' r) 0
exchange_shown n c new d m m' lt all r = at (cases_lt r n)
  where
    at : (r < n) ⊎ (n ≤ r) → cond (d && eqb c r) new (cond (ltb r n) (cell m r) 0) ≡ cond (ltb r n) (cell m' r) 0
    at (inl h) = rw (lt-ltb r n h, all r h) refl
    at (inr h) = rw (le-ltb r n h, ne_eqb c r (λ e. omega arith), and_right d false refl) refl

-- the answers tell whether the exchange was done
pub publish_done : (z : Here) (r n : ℕ) (d : Bool) → ended_well (after_publish1 z r n d).answer ≡ d
publish_done z r n true = refl
publish_done z r n false = refl

pub remove_done : (z : Here) (r n : ℕ) (d : Bool) → going_on (after_remove2 z r n d).answer ≡ d
remove_done z r n true = refl
remove_done z r n false = refl

-- a remove that was done found in the root a node that was published there
pub remove_was : (x : Tables) (m m' : Meaning) (t r n : ℕ) (k : Told) → Placed x m → FitsAt x.settings (remove2 r n) → Meets t (request (here x m t) (remove2 r n)) m m' k → done_told k ≡ true → node_of x n ≡ Published r
remove_was x m m' t r n k p f (b, told, done) e =
    let c : b ≡ true = sym (ap done_told told) ∙ e in
    let held : cell done.between r ≡ n = eqb-true (cell done.between r) n (sym done.answer ∙ c) in
    let was : cell m r ≡ n = sym ((below_lands x.settings.roots m done.lands (placed_below x m p)).cells r f.0) ∙ held in
    rw was at (p.rooted r f.0 (rw was f.1))

module _ (b : ℕ) (h : List Event) (x : Tables) (m : Meaning) (p : Placed x m) (shown : Shown b h x) (t : ℕ) (inside : t < x.settings.threads) (m' : Meaning) (a : Answer) (k : Told) where
  -- an exchange on a root, under an answer that tells whether it was done
  exchange_told : (root old new : ℕ) (y : Bool) → root < x.settings.roots → Meets t (asks_exchange root old new) m m' k → y ≡ done_told k
      → (r : ℕ) → cond (y && eqb root r) new (root_or (Some x) m r) ≡ root_or (Some x) m' r
  exchange_told root old new y lt w e r =
      let done : y ≡ w.0 = e ∙ ap done_told w.1 in
      let few = (ranges x.settings p.shape.range).roots in
      let cells = exchange_below x.settings.roots root old new m m' w.0 p.sound lt few (placed_below x m p) w.2 in
      rw done (exchange_shown x.settings.roots root new w.0 m m' lt cells r)

  publish_shown : (root n : ℕ) → (thread_of x t).point ≡ publish1 root n → Meets t (request (here x m t) (publish1 root n)) m m' k → a ≡ (after (here x m t) (publish1 root n) k).answer
      → (r : ℕ) → root_step (doing_at (publish1 root n)) a r (root_or (Some x) m r) ≡ root_or (Some x) m' r
  publish_shown root n e w ans r =
      let f = rw e at (p.shape.fits t) in
      exchange_told root 0 n (ended_well a) f.0 w (ap ended_well ans ∙ publish_done (here x m t) root n (done_told k)) r

  remove_shown : (root n : ℕ) → (thread_of x t).point ≡ remove2 root n → Meets t (request (here x m t) (remove2 root n)) m m' k → a ≡ (after (here x m t) (remove2 root n) k).answer
      → (r : ℕ) → root_step (doing_at (remove2 root n)) a r (root_or (Some x) m r) ≡ root_or (Some x) m' r
  remove_shown root n e w ans r =
      let f = rw e at (p.shape.fits t) in
      exchange_told root n 0 (going_on a) f.0 w (ap going_on ans ∙ remove_done (here x m t) root n (done_told k)) r

  still_shown : (q : Point) → Still (here x m t) q → Meets t (request (here x m t) q) m m' k → (r : ℕ) → root_step (doing_at q) a r (root_or (Some x) m r) ≡ root_or (Some x) m' r
  still_shown q s w r =
      let lt : t < length m.waiting = let f = p.sound.threads in let g = (ranges x.settings p.shape.range).threads in omega arith in
      s.same a r _ ∙ below_shown x.settings.roots m m' r (meets_quiet x.settings.roots t (request (here x m t) q) m m' k lt s.quiet w (placed_below x m p))

  pub step_shown : Meets t (request (here x m t) (thread_of x t).point) m m' k → a ≡ (after (here x m t) (thread_of x t).point k).answer → ((r : ℕ) → root_in h r ≡ root_or (Some x) m r)
      → (r : ℕ) → root_step (doing_in h t) a r (root_in h r) ≡ root_or (Some x) m' r
  step_shown w ans rs r = rw (sym (shown.shows.doing t), rs r) (go (root_case (here x m t) (thread_of x t).point))
    where
      go : RootCase (here x m t) (thread_of x t).point → root_step (doing_at (thread_of x t).point) a r (root_or (Some x) m r) ≡ root_or (Some x) m' r
      go (publishes {root} {n} f) = rw f (publish_shown root n f (rw f at w) (rw f at ans) r)
      go (removes {root} {n} f) = rw f (remove_shown root n f (rw f at w) (rw f at ans) r)
      go (still s) = still_shown (thread_of x t).point s w r

roots_after : (b : ℕ) (h : List Event) (s s' : State) {c : Call} {a : Answer} {k : Told} → Inv s → ((x : Tables) → s.tables ≡ Some x → Shown b h x) → Trans s s' c a k → RootsShown h s
    → (r : ℕ) → root_after c a h r (root_in h r) ≡ root_or s'.tables s'.memory r
roots_after b h s s' {k = k} i shown (refuses {c} {e} f g) rs r = rw g (refused_root h c e k r ∙ rs r)
roots_after b h s s' i shown (sets_up {z} f g j) rs r =
    let was : root_in h r ≡ 0 = rw (set_up_passed z s f).first at (rs r) in
    let now = new_blank s.memory i.sound (set_up_passed z s f).new r in
    rw (j, g, was, now) (sym (cond_same (ltb r z.roots) 0))
roots_after b h s s' i shown (ticks {x} e f w) rs r =
    let y = w.memory in
    let still = below_ticked x.settings.roots s.memory y.between (below_lands x.settings.roots s.memory y.lands (placed_below x s.memory (i.placed x e))) in
    rw (w.tables, y.is) ((rw e at (rs r)) ∙ below_shown x.settings.roots s.memory (ticked y.between) r still)
roots_after b h s s' i shown (lands {t} {x} e f w) rs r =
    let still = below_lands x.settings.roots s.memory w.memory (below_landed x.settings.roots s.memory t s.memory (placed_below x s.memory (i.placed x e))) in
    rw w.tables ((rw e at (rs r)) ∙ below_shown x.settings.roots s.memory s'.memory r still)
roots_after b h s s' i shown (begins {x} e n f w) rs r = rw (w.tables, w.memory) (rw e at (rs r))
roots_after b h s s' i shown (steps {t} {x} {a} {k} e f w) rs r =
    rw w.tables (step_shown b h x s.memory (i.placed x e) (shown x e) t (step_passed t s.memory x (rest_passed s.tables (step_asks t s.memory) x e f)).thread s'.memory a k w.memory w.answer (λ q. rw e at (rs q)) r)

-- every call keeps the roots shown
pub roots_keep : (b : ℕ) (h : List Event) (s s' : State) (e : Event) → Inv s → ((x : Tables) → s.tables ≡ Some x → Shown b h x) → Trans s s' e.call e.answer e.told → RootsShown h s → RootsShown (e ∷ h) s'
roots_keep b h s s' e i shown w rs = roots_after b h s s' i shown w rs
