-- What ties a history to the tables, step by step: what the tables show, and what each thread has kept. Assumes nothing.
use Rattle.std.proofs.Common.{◌≡◌, ℕ, false, List, [], None}
use Rattle.protocol.specs.declared.node.NodeState.TheVariants.{Free}
use Rattle.protocol.specs.Guarantees.{Shows}
use Rattle.protocol.specs.History.{Event, doing_in, guard_in, inside_in, sweep_clock_in, loaded_in, removing_in, list_in, state_in, settings_in}
use Rattle.protocol.specs.Tables.{Point, Tables, nothing, thread_of, idle, protect1, protect2, protect3, protect4, copy1, release1, publish1, remove1, remove2, remove3, reclaim1, reclaim2, reclaim3, owner_lock1, owner_lock2, owner_lock3, owner_lock4, owner_lock5, owner_unlock1, owner_unlock2, owner_unlock3, owner_unlock4, other_lock1, other_lock2, other_lock3, other_lock4, other_lock5, other_lock6, other_lock7, other_lock8, other_unlock1, other_unlock2, other_unlock3}

-- the clock and the cells of a sweep, and the node of a remove, are those that the history tells
abbrev pub KnownAt : List Event → ℕ → Point → Type 0
KnownAt h t idle = Unit {0}
KnownAt h t (protect1 r i) = Unit {0}
KnownAt h t (protect2 r i n) = Unit {0}
KnownAt h t (protect3 r i n) = Unit {0}
KnownAt h t (protect4 r i) = Unit {0}
KnownAt h t (copy1 a b) = Unit {0}
KnownAt h t (release1 a) = Unit {0}
KnownAt h t (publish1 r n) = Unit {0}
KnownAt h t (remove1 r) = Unit {0}
KnownAt h t (remove2 r n) = removing_in h t ≡ n
KnownAt h t (remove3 r n) = removing_in h t ≡ n
KnownAt h t reclaim1 = Unit {0}
KnownAt h t (reclaim2 now seen) = (sweep_clock_in h t ≡ now) × (loaded_in h t ≡ seen)
KnownAt h t (reclaim3 now seen) = (sweep_clock_in h t ≡ now) × (loaded_in h t ≡ seen)
KnownAt h t owner_lock1 = Unit {0}
KnownAt h t owner_lock2 = Unit {0}
KnownAt h t (owner_lock3 v) = Unit {0}
KnownAt h t owner_lock4 = Unit {0}
KnownAt h t owner_lock5 = Unit {0}
KnownAt h t owner_unlock1 = Unit {0}
KnownAt h t owner_unlock2 = Unit {0}
KnownAt h t owner_unlock3 = Unit {0}
KnownAt h t owner_unlock4 = Unit {0}
KnownAt h t other_lock1 = Unit {0}
KnownAt h t other_lock2 = Unit {0}
KnownAt h t (other_lock3 v) = Unit {0}
KnownAt h t (other_lock4 v) = Unit {0}
KnownAt h t (other_lock5 v) = Unit {0}
KnownAt h t (other_lock6 v note) = Unit {0}
KnownAt h t (other_lock7 v note) = Unit {0}
KnownAt h t (other_lock8 v) = Unit {0}
KnownAt h t other_unlock1 = Unit {0}
KnownAt h t (other_unlock2 v) = Unit {0}
KnownAt h t other_unlock3 = Unit {0}

pub record Shown (b : ℕ) (h : List Event) (x : Tables) : Type 0 where
  pub shows : Shows b h x
  pub known : (t : ℕ) → KnownAt h t (thread_of x t).point

-- what a history tells before set-up
pub record Untouched (h : List Event) : Type 0 where
  pub doing : (t : ℕ) → doing_in h t ≡ nothing
  pub guards : (t i : ℕ) → guard_in h t i ≡ 0
  pub lists : (b t : ℕ) → list_in b h t ≡ []
  pub inside : (t : ℕ) → inside_in h t ≡ false
  pub nodes : (b n : ℕ) → state_in b h n ≡ Free
  pub settings : settings_in h ≡ None
