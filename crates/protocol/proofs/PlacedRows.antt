-- The invariant of the tables for nodes, cut into what the roots say of the nodes and what each thread's row does, and how each
-- part is kept when one row and some nodes change. Assumes nothing.
use Rattle.std.proofs.Common.{◌≡◌, ℕ, ◌+◌, ◌<◌, ◌≤◌, true, cond, ◌≢◌, ◌⊎◌, List, length, get_or, set, refl, ◌∙◌, inl, inr}
use Rattle.std.specs.List.{AllByRecursion}
use Rattle.std.proofs.lemmas.List.{length-set, get_or-set_same, get_or-set_other}
use Rattle.std.proofs.lemmas.Bool.{cases_eq}
use Rattle.memory.specs.Calls.{Sound}
use Rattle.memory.specs.Meaning.{Meaning, queue, cell}
use Rattle.protocol.specs.declared.node.NodeState.{NodeState}
use Rattle.protocol.specs.declared.node.NodeState.TheVariants.{Free, Taken, Published, Removed}
use Rattle.protocol.specs.declared.retired.Retired.{Retired}
use Rattle.protocol.specs.declared.settings.Settings.{Settings}
use Rattle.protocol.specs.Guarantees.{retired_in}
use Rattle.protocol.specs.History.{names}
use Rattle.protocol.specs.Settings.{in_range}
use Rattle.protocol.specs.Tables.{Thread, Tables, thread_of, node_of, idle_thread, publish1, remove3}
use Rattle.protocol.proofs.Placed.{FitsAt, Placed}
use Rattle.protocol.proofs.RootCells.{OffRoots}

-- what the roots and the nodes say of each other
pub record Rooted (roots : ℕ) (ns : List NodeState) (m : Meaning) : Type 0 where
  pub none : get_or ns 0 Free ≡ Free
  pub rooted : (r : ℕ) → r < roots → 0 < cell m r → get_or ns (cell m r) Free ≡ Published r
  pub published : (n r : ℕ) → get_or ns n Free ≡ Published r → (r < roots) × (cell m r ≡ n)

-- what the row of thread u and the nodes say of each other
pub record Row (z : Settings) (ns : List NodeState) (clock u : ℕ) (row : Thread) : Type 0 where
  pub fits : FitsAt z row.point
  pub guards : u < z.threads → length row.guards ≡ z.hazards
  pub taking : (r n : ℕ) → row.point ≡ publish1 r n → get_or ns n Free ≡ Taken u
  pub removing : (r n : ℕ) → row.point ≡ remove3 r n → get_or ns n Free ≡ Removed u
  pub listed : (n : ℕ) → 0 < n → names n row.retired ≡ cond (retired_in (get_or ns n Free) u) 1 0
  pub real : AllByRecursion (λ (e : Retired). 0 < e.node) row.retired
  pub dates : AllByRecursion (λ (e : Retired). e.date ≤ clock) row.retired

pub roots_of : {x : Tables} {m : Meaning} → Placed x m → Rooted x.settings.roots x.nodes m
roots_of p = record { none = p.none; rooted = p.rooted; published = p.published }

pub row_of : {x : Tables} {m : Meaning} → Placed x m → (u : ℕ) → Row x.settings x.nodes m.clock u (thread_of x u)
row_of p u =
    record {
      fits = p.shape.fits u;
      guards = p.shape.guards u;
      taking = p.taking u;
      removing = p.removing u;
      listed = λ n. p.listed n u;
      real = p.real u;
      dates = p.dates u;
    }

pub record Frame (x : Tables) (m : Meaning) : Type 0 where
  pub range : in_range x.settings ≡ true
  pub threads : length x.threads ≡ x.settings.threads
  pub nodes : length x.nodes ≡ x.settings.nodes + 1
  pub sound : Sound m
  pub writes : (t : ℕ) → AllByRecursion (OffRoots x.settings.roots) (queue m t)

pub from_parts : (x : Tables) (m : Meaning) → Frame x m → Rooted x.settings.roots x.nodes m → ((u : ℕ) → Row x.settings x.nodes m.clock u (thread_of x u)) → Placed x m
from_parts x m f q rows =
    record {
      shape = record { range = f.range; threads = f.threads; nodes = f.nodes; guards = λ t. (rows t).guards; fits = λ t. (rows t).fits };
      sound = f.sound;
      writes = f.writes;
      none = q.none;
      rooted = q.rooted;
      published = q.published;
      taking = λ t. (rows t).taking;
      removing = λ t. (rows t).removing;
      listed = λ n t. (rows t).listed n;
      real = λ t. (rows t).real;
      dates = λ t. (rows t).dates;
    }

-- what threads other than t hold of a node stays
pub record Others (t : ℕ) (z z' : NodeState) : Type 0 where
  pub taken : (u : ℕ) → u ≢ t → z ≡ Taken u → z' ≡ Taken u
  pub removed : (u : ℕ) → u ≢ t → z ≡ Removed u → z' ≡ Removed u
  pub retired : (u : ℕ) → u ≢ t → retired_in z' u ≡ retired_in z u

pub others_same : (t : ℕ) (z : NodeState) → Others t z z
others_same t z = record { taken = λ u ne e. e; removed = λ u ne e. e; retired = λ u ne. refl }

-- the row of another thread
row_kept : (z : Settings) (ns ns' : List NodeState) (clock t u : ℕ) (row : Thread) → u ≢ t → ((n : ℕ) → Others t (get_or ns n Free) (get_or ns' n Free)) → Row z ns clock u row → Row z ns' clock u row
row_kept z ns ns' clock t u row ne o w =
    record {
      fits = w.fits;
      guards = w.guards;
      taking = λ r n e. (o n).taken u ne (w.taking r n e);
      removing = λ r n e. (o n).removed u ne (w.removing r n e);
      listed = λ n pos. rw ((o n).retired u ne) (w.listed n pos);
      real = w.real;
      dates = w.dates;
    }

-- the tables after a call in which the row of t and the nodes change
abbrev pub changed : Tables → ℕ → Thread → List NodeState → Tables
changed x t row ns = record { settings = x.settings; threads = set x.threads t row; nodes = ns; accepted = x.accepted + 1 }

pub record Steady (m m' : Meaning) : Type 0 where
  pub sound : Sound m'
  pub waiting : m'.waiting ≡ m.waiting
  pub clock : m'.clock ≡ m.clock

pub steady_same : {x : Tables} {m : Meaning} → Placed x m → Steady m m
steady_same p = record { sound = p.sound; waiting = refl; clock = refl }

pub table_moves : (x : Tables) (m m' : Meaning) (t : ℕ) (row : Thread) (ns : List NodeState) → t < x.settings.threads → Placed x m → Steady m m' → length ns ≡ length x.nodes
    → Rooted x.settings.roots ns m' → ((n : ℕ) → Others t (node_of x n) (get_or ns n Free)) → Row x.settings ns m.clock t row → Placed (changed x t row ns) m'
table_moves x m m' t row ns lt p st len q o own = from_parts (changed x t row ns) m' frame q (λ u. rw st.clock (at u (cases_eq u t)))
  where
    frame : Frame (changed x t row ns) m'
    frame =
        record {
          range = p.shape.range;
          threads = length-set x.threads t row ∙ p.shape.threads;
          nodes = len ∙ p.shape.nodes;
          sound = st.sound;
          writes = λ u. rw st.waiting (p.writes u);
        }

    at : (u : ℕ) → (u ≡ t) ⊎ (u ≢ t) → Row x.settings ns m.clock u (get_or (set x.threads t row) u (idle_thread 0))
    at u (inl e) = rw (e, get_or-set_same x.threads t row (idle_thread 0) (rw p.shape.threads lt)) own
    at u (inr ne) = rw (get_or-set_other x.threads t u row (idle_thread 0) ne) (row_kept x.settings x.nodes ns m.clock t u (thread_of x u) ne o (row_of p u))
