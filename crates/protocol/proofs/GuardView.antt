-- The machine as hazard pointers see it: the hazard cells, the waiting stores to them, guards, node states, lists and points; and
-- how each action looks from there. Assumes nothing.
use Rattle.std.proofs.Common.{◌≡◌, ℕ, ◌+◌, ◌-◌, ◌*◌, ◌<◌, Bool, cond, ◌&&◌, ltb, leb, ◌≢◌, List, [], ◌∷◌, ◌++◌, map, length, filter}
use Rattle.std.specs.List.{AllByRecursion}
use Rattle.memory.specs.declared.write.Write.{Write}
use Rattle.memory.specs.Meaning.{Meaning, queue, cell}
use Rattle.protocol.specs.declared.node.NodeState.{NodeState}
use Rattle.protocol.specs.declared.node.NodeState.TheVariants.{Free, Taken, Published, Removed, Retired as RetiredBy}
use Rattle.protocol.specs.declared.retired.Retired.{Retired}
use Rattle.protocol.specs.declared.settings.Settings.{Settings}
use Rattle.protocol.specs.History.{names}
use Rattle.protocol.specs.Settings.{hazard_cell, hazard_cells}
use Rattle.protocol.specs.Steps.{guard_of, kept, freed}
use Rattle.protocol.specs.Tables.{Point, Tables, thread_of, node_of, idle, protect1, protect2, protect3, protect4, copy1, release1, publish1, remove1, remove2, remove3, reclaim1, reclaim2, reclaim3, owner_lock1, owner_lock2, owner_lock3, owner_lock4, owner_lock5, owner_unlock1, owner_unlock2, owner_unlock3, owner_unlock4, other_lock1, other_lock2, other_lock3, other_lock4, other_lock5, other_lock6, other_lock7, other_lock8, other_unlock1, other_unlock2, other_unlock3}
use Rattle.protocol.proofs.Paths.{Slot, put, last_of}

-- a write to one of the thread's own hazard cells
abbrev pub is_hazard_of : Settings → ℕ → Write → Bool
is_hazard_of z t w = leb (hazard_cell z t 0) w.cell && ltb w.cell (hazard_cell z t z.hazards)

abbrev pub slot_of : Settings → ℕ → Write → Slot
slot_of z t w = record { index = w.cell - hazard_cell z t 0; value = w.value; date = w.date }

-- the waiting stores of the thread to its hazard cells, oldest first
abbrev pub slots_of : Settings → Meaning → ℕ → List Slot
slots_of z m t = map (slot_of z t) (filter (is_hazard_of z t) (queue m t))

-- hazard cell i of the thread, and 0 where there is none
abbrev pub view_of : Settings → Meaning → ℕ → ℕ → ℕ
view_of z m t i = cond (ltb t z.threads && ltb i z.hazards) (cell m (hazard_cell z t i)) 0

pub record GuardState : Type 0 where
  -- the hazard cells of each thread, by index
  pub view : ℕ → ℕ → ℕ
  pub slots : ℕ → List Slot
  pub clock : ℕ
  pub bound : ℕ
  pub guard : ℕ → ℕ → ℕ
  pub node : ℕ → NodeState
  pub list : ℕ → List Retired
  pub point : ℕ → Point

abbrev pub guard_state : Tables → Meaning → GuardState
guard_state x m =
    record {
      view = view_of x.settings m;
      slots = slots_of x.settings m;
      clock = m.clock;
      bound = m.bound;
      guard = λ t i. guard_of (thread_of x t) i;
      node = node_of x;
      list = λ t. (thread_of x t).retired;
      point = λ t. (thread_of x t).point;
    }

-- How an action of the memory looks.

pub record SameCells (a a' : GuardState) : Type 0 where
  pub view : (t i : ℕ) → a'.view t i ≡ a.view t i
  pub slots : (t : ℕ) → a'.slots t ≡ a.slots t
  pub clock : a'.clock ≡ a.clock
  pub bound : a'.bound ≡ a.bound

pub record LandsSlot (t : ℕ) (a a' : GuardState) : Type 0 where
  pub slot : Slot
  pub rest : List Slot
  pub was : a.slots t ≡ slot ∷ rest
  pub left : a'.slots t ≡ rest
  pub others : (u : ℕ) → u ≢ t → a'.slots u ≡ a.slots u
  pub view : (i : ℕ) → a'.view t i ≡ put (a.view t) slot i
  pub views : (u i : ℕ) → u ≢ t → a'.view u i ≡ a.view u i
  pub clock : a'.clock ≡ a.clock
  pub bound : a'.bound ≡ a.bound

pub record StoresSlot (t i n : ℕ) (a a' : GuardState) : Type 0 where
  pub here : a'.slots t ≡ a.slots t ++ record { index = i; value = n; date = a.clock } ∷ []
  pub others : (u : ℕ) → u ≢ t → a'.slots u ≡ a.slots u
  pub view : (u k : ℕ) → a'.view u k ≡ a.view u k
  pub clock : a'.clock ≡ a.clock
  pub bound : a'.bound ≡ a.bound

pub record TicksOn (a a' : GuardState) : Type 0 where
  pub clock : a'.clock ≡ a.clock + 1
  pub in_time : (t : ℕ) → AllByRecursion (λ (w : Slot). a.clock < w.date + a.bound) (a.slots t)
  pub view : (t i : ℕ) → a'.view t i ≡ a.view t i
  pub slots : (t : ℕ) → a'.slots t ≡ a.slots t
  pub bound : a'.bound ≡ a.bound

-- only the memory has moved
pub record Still (a a' : GuardState) : Type 0 where
  pub guard : (t i : ℕ) → a'.guard t i ≡ a.guard t i
  pub node : (n : ℕ) → a'.node n ≡ a.node n
  pub list : (t : ℕ) → a'.list t ≡ a.list t
  pub point : (t : ℕ) → a'.point t ≡ a.point t

-- How a call looks.

pub record Goes (t : ℕ) (a a' : GuardState) (p' : Point) : Type 0 where
  pub point : a'.point t ≡ p'
  pub points : (u : ℕ) → u ≢ t → a'.point u ≡ a.point u

pub record SameGuards (a a' : GuardState) : Type 0 where
  pub guard : (t i : ℕ) → a'.guard t i ≡ a.guard t i

pub record Guards (t i n : ℕ) (a a' : GuardState) : Type 0 where
  pub here : a'.guard t i ≡ n
  pub elsewhere : (k : ℕ) → k ≢ i → a'.guard t k ≡ a.guard t k
  pub others : (u k : ℕ) → u ≢ t → a'.guard u k ≡ a.guard u k

pub record SameNodes (a a' : GuardState) : Type 0 where
  pub node : (n : ℕ) → a'.node n ≡ a.node n

pub record Marks (n : ℕ) (now : NodeState) (a a' : GuardState) : Type 0 where
  pub here : a'.node n ≡ now
  pub others : (k : ℕ) → k ≢ n → a'.node k ≡ a.node k

pub record SameLists (a a' : GuardState) : Type 0 where
  pub list : (t : ℕ) → a'.list t ≡ a.list t

pub record Lists (t : ℕ) (l : List Retired) (a a' : GuardState) : Type 0 where
  pub here : a'.list t ≡ l
  pub others : (u : ℕ) → u ≢ t → a'.list u ≡ a.list u

-- what a thread's guards must be at a point of its own
abbrev pub ReadyAt : Settings → (ℕ → ℕ) → Point → Type 0
ReadyAt z g idle = Unit {0}
ReadyAt z g (protect1 r h) = g h ≡ 0
ReadyAt z g (protect2 r h n) = g h ≡ 0
ReadyAt z g (protect3 r h n) = g h ≡ 0
ReadyAt z g (protect4 r h) = g h ≡ 0
ReadyAt z g (copy1 a b) = (a < b) × (b < z.hazards) × (g b ≡ 0) × (0 < g a)
ReadyAt z g (release1 a) = Unit {0}
ReadyAt z g (publish1 r n) = Unit {0}
ReadyAt z g (remove1 r) = Unit {0}
ReadyAt z g (remove2 r n) = Unit {0}
ReadyAt z g (remove3 r n) = Unit {0}
ReadyAt z g reclaim1 = Unit {0}
ReadyAt z g (reclaim2 now seen) = Unit {0}
ReadyAt z g (reclaim3 now seen) = Unit {0}
ReadyAt z g owner_lock1 = Unit {0}
ReadyAt z g owner_lock2 = Unit {0}
ReadyAt z g (owner_lock3 v) = Unit {0}
ReadyAt z g owner_lock4 = Unit {0}
ReadyAt z g owner_lock5 = Unit {0}
ReadyAt z g owner_unlock1 = Unit {0}
ReadyAt z g owner_unlock2 = Unit {0}
ReadyAt z g owner_unlock3 = Unit {0}
ReadyAt z g owner_unlock4 = Unit {0}
ReadyAt z g other_lock1 = Unit {0}
ReadyAt z g other_lock2 = Unit {0}
ReadyAt z g (other_lock3 v) = Unit {0}
ReadyAt z g (other_lock4 v) = Unit {0}
ReadyAt z g (other_lock5 v) = Unit {0}
ReadyAt z g (other_lock6 v note) = Unit {0}
ReadyAt z g (other_lock7 v note) = Unit {0}
ReadyAt z g (other_lock8 v) = Unit {0}
ReadyAt z g other_unlock1 = Unit {0}
ReadyAt z g (other_unlock2 v) = Unit {0}
ReadyAt z g other_unlock3 = Unit {0}

-- points of which nothing but ReadyAt is asked
abbrev pub PlainAt : Point → Type 0
PlainAt idle = Unit {0}
PlainAt (protect1 r h) = Unit {0}
PlainAt (protect2 r h n) = Unit {0}
PlainAt (protect3 r h n) = ⊥
PlainAt (protect4 r h) = Unit {0}
PlainAt (copy1 a b) = Unit {0}
PlainAt (release1 a) = Unit {0}
PlainAt (publish1 r n) = Unit {0}
PlainAt (remove1 r) = Unit {0}
PlainAt (remove2 r n) = Unit {0}
PlainAt (remove3 r n) = Unit {0}
PlainAt reclaim1 = Unit {0}
PlainAt (reclaim2 now seen) = ⊥
PlainAt (reclaim3 now seen) = ⊥
PlainAt owner_lock1 = Unit {0}
PlainAt owner_lock2 = Unit {0}
PlainAt (owner_lock3 v) = Unit {0}
PlainAt owner_lock4 = Unit {0}
PlainAt owner_lock5 = Unit {0}
PlainAt owner_unlock1 = Unit {0}
PlainAt owner_unlock2 = Unit {0}
PlainAt owner_unlock3 = Unit {0}
PlainAt owner_unlock4 = Unit {0}
PlainAt other_lock1 = Unit {0}
PlainAt other_lock2 = Unit {0}
PlainAt (other_lock3 v) = Unit {0}
PlainAt (other_lock4 v) = Unit {0}
PlainAt (other_lock5 v) = Unit {0}
PlainAt (other_lock6 v note) = Unit {0}
PlainAt (other_lock7 v note) = Unit {0}
PlainAt (other_lock8 v) = Unit {0}
PlainAt other_unlock1 = Unit {0}
PlainAt (other_unlock2 v) = Unit {0}
PlainAt other_unlock3 = Unit {0}

-- the point of a sweep that has loaded these cells
pub data SweepAt (z : Settings) (now : ℕ) (seen : List ℕ) : Point → Type 0 where
  scans : length seen < hazard_cells z → SweepAt z now seen (reclaim2 now seen)
  scanned : length seen ≡ hazard_cells z → SweepAt z now seen (reclaim3 now seen)

-- what thread u loads from hazard cell number c of all (c = K × t + i)
pub data Loads (z : Settings) (u : ℕ) (a : GuardState) (c v : ℕ) : Type 0 where
  others : (t i : ℕ) → c ≡ z.hazards * t + i → i < z.hazards → t ≢ u → v ≡ a.view t i → Loads z u a c v
  own : (i : ℕ) → c ≡ z.hazards * u + i → i < z.hazards → v ≡ last_of (a.view u) (a.slots u) i → Loads z u a c v

-- An accepted begin or step of thread t, but for landings.
pub data Acts (z : Settings) (t : ℕ) (a a' : GuardState) : Type 0 where
  plain : {p' : Point} → PlainAt p' → ReadyAt z (a.guard t) p' → Goes t a a' p' → SameCells a a' → SameGuards a a' → SameNodes a a' → SameLists a a' → Acts z t a a'
  protects2 : {r h n : ℕ} → a.point t ≡ protect2 r h n → h < z.hazards → Goes t a a' (protect3 r h n) → StoresSlot t h n a a' → SameGuards a a' → SameNodes a a' → SameLists a a' → Acts z t a a'
  protects3 : {r h n : ℕ} → a.point t ≡ protect3 r h n → h < z.hazards → 0 < n → a.node n ≡ Published r → Goes t a a' idle → SameCells a a' → Guards t h n a a' → SameNodes a a' → SameLists a a' → Acts z t a a'
  protects4 : {r h : ℕ} → a.point t ≡ protect4 r h → h < z.hazards → Goes t a a' idle → StoresSlot t h 0 a a' → SameGuards a a' → SameNodes a a' → SameLists a a' → Acts z t a a'
  copies : {c b : ℕ} → a.point t ≡ copy1 c b → Goes t a a' idle → StoresSlot t b (a.guard t c) a a' → Guards t b (a.guard t c) a a' → SameNodes a a' → SameLists a a' → Acts z t a a'
  releases : {c : ℕ} → a.point t ≡ release1 c → c < z.hazards → Goes t a a' idle → StoresSlot t c 0 a a' → Guards t c 0 a a' → SameNodes a a' → SameLists a a' → Acts z t a a'
  takes : {r n : ℕ} → a.node n ≡ Free → Goes t a a' (publish1 r n) → SameCells a a' → SameGuards a a' → Marks n (Taken t) a a' → SameLists a a' → Acts z t a a'
  publishes : {r n : ℕ} → a.node n ≡ Taken t → Goes t a a' idle → SameCells a a' → SameGuards a a' → Marks n (Published r) a a' → SameLists a a' → Acts z t a a'
  occupied : {n : ℕ} → a.node n ≡ Taken t → Goes t a a' idle → SameCells a a' → SameGuards a a' → Marks n Free a a' → SameLists a a' → Acts z t a a'
  removes : {r n : ℕ} → a.node n ≡ Published r → Goes t a a' (remove3 r n) → SameCells a a' → SameGuards a a' → Marks n (Removed t) a a' → SameLists a a' → Acts z t a a'
  retires : {n : ℕ} → a.node n ≡ Removed t → Goes t a a' idle → SameCells a a' → SameGuards a a' → Marks n (RetiredBy t) a a' → Lists t (a.list t ++ record { node = n; date = a.clock } ∷ []) a a' → Acts z t a a'
  scans1 : Goes t a a' (reclaim2 a.clock []) → SameCells a a' → SameGuards a a' → SameNodes a a' → SameLists a a' → Acts z t a a'
  scans2 : {now v : ℕ} {seen : List ℕ} {p' : Point} → a.point t ≡ reclaim2 now seen → length seen < hazard_cells z → Loads z t a (length seen) v → SweepAt z now (seen ++ v ∷ []) p' → Goes t a a' p' → SameCells a a' → SameGuards a a' → SameNodes a a' → SameLists a a' → Acts z t a a'
  sweeps : {now : ℕ} {seen : List ℕ} → a.point t ≡ reclaim3 now seen → length seen ≡ hazard_cells z → Goes t a a' idle → SameCells a a' → SameGuards a a' → ((n : ℕ) → a'.node n ≡ cond (ltb 0 (names n (freed a.bound now seen (a.list t)))) Free (a.node n)) → Lists t (kept a.bound now seen (a.list t)) a a' → Acts z t a a'

-- an accepted call with its landings: it leads from the state given last to a'
pub data GuardPath (z : Settings) (a' : GuardState) : GuardState → Type 0 where
  rests : {a : GuardState} → SameCells a a' → Still a a' → GuardPath z a' a
  lands : {a : GuardState} (t : ℕ) (b : GuardState) → LandsSlot t a b → Still a b → GuardPath z a' b → GuardPath z a' a
  ticks : {a : GuardState} (b : GuardState) → TicksOn a b → Still a b → GuardPath z a' b → GuardPath z a' a
  acts : {a : GuardState} (t : ℕ) (b : GuardState) → t < z.threads → Acts z t a b → GuardPath z a' b → GuardPath z a' a
