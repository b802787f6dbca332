-- The tables as hazard pointers see them: what a call changes of one thread's row and of the nodes. Assumes nothing.
use Rattle.std.proofs.Common.{◌≡◌, ℕ, ◌<◌, ◌≢◌, ◌⊎◌, List, length, set, refl, ap, ◌∙◌, inl, inr}
use Rattle.std.proofs.lemmas.List.{get_or-set_same, get_or-set_other}
use Rattle.std.proofs.lemmas.Bool.{cases_eq}
use Rattle.memory.specs.Meaning.{Meaning}
use Rattle.protocol.specs.declared.node.NodeState.{NodeState}
use Rattle.protocol.specs.declared.node.NodeState.TheVariants.{Free}
use Rattle.protocol.specs.declared.retired.Retired.{Retired}
use Rattle.protocol.specs.Steps.{guard_of}
use Rattle.protocol.specs.Tables.{Thread, Tables, thread_of, idle_thread}
use Rattle.protocol.proofs.GuardView.{guard_state, SameCells, StoresSlot, Goes, SameGuards, Guards, SameNodes, Marks, SameLists, Lists}
use Rattle.protocol.proofs.PlacedRows.{changed}

-- the row of t and the nodes change, and the memory goes from m to m'
module _ (x : Tables) (m m' : Meaning) (t : ℕ) (row : Thread) (ns : List NodeState) where
  pub cells_then : SameCells (guard_state x m) (guard_state x m') → SameCells (guard_state x m) (guard_state (changed x t row ns) m')
  cells_then c = record { view = c.view; slots = c.slots; clock = c.clock; bound = c.bound }

  pub slot_then : (i n : ℕ) → StoresSlot t i n (guard_state x m) (guard_state x m') → StoresSlot t i n (guard_state x m) (guard_state (changed x t row ns) m')
  slot_then i n c = record { here = c.here; others = c.others; view = c.view; clock = c.clock; bound = c.bound }

  pub marks : (n : ℕ) (now : NodeState) → ns ≡ set x.nodes n now → n < length x.nodes → Marks n now (guard_state x m) (guard_state (changed x t row ns) m')
  marks n now e ln = record { here = rw e (get_or-set_same x.nodes n now Free ln); others = λ k ne. rw e (get_or-set_other x.nodes n k now Free ne) }

  pub same_nodes : ns ≡ x.nodes → SameNodes (guard_state x m) (guard_state (changed x t row ns) m')
  same_nodes e = record { node = λ n. rw e refl }

  module _ (lt : t < length x.threads) where
    here : thread_of (changed x t row ns) t ≡ row
    here = get_or-set_same x.threads t row (idle_thread 0) lt

    others : (u : ℕ) → u ≢ t → thread_of (changed x t row ns) u ≡ thread_of x u
    others u ne = get_or-set_other x.threads t u row (idle_thread 0) ne

    pub goes : Goes t (guard_state x m) (guard_state (changed x t row ns) m') row.point
    goes = record { point = ap (λ (r : Thread). r.point) here; points = λ u ne. ap (λ (r : Thread). r.point) (others u ne) }

    pub same_guards : row.guards ≡ (thread_of x t).guards → SameGuards (guard_state x m) (guard_state (changed x t row ns) m')
    same_guards e = record { guard = λ u i. at u i (cases_eq u t) }
      where
        at : (u i : ℕ) → (u ≡ t) ⊎ (u ≢ t) → guard_of (thread_of (changed x t row ns) u) i ≡ guard_of (thread_of x u) i
        at u i (inl f) = rw (f, here, e) refl
        at u i (inr ne) = rw (others u ne) refl

    pub sets_guard : (i n : ℕ) → row.guards ≡ set (thread_of x t).guards i n → i < length (thread_of x t).guards → Guards t i n (guard_state x m) (guard_state (changed x t row ns) m')
    sets_guard i n e li =
        record {
          here = rw (here, e) (get_or-set_same (thread_of x t).guards i n 0 li);
          elsewhere = λ k ne. rw (here, e) (get_or-set_other (thread_of x t).guards i k n 0 ne);
          others = λ u k ne. rw (others u ne) refl;
        }

    pub same_lists : row.retired ≡ (thread_of x t).retired → SameLists (guard_state x m) (guard_state (changed x t row ns) m')
    same_lists e = record { list = λ u. at u (cases_eq u t) }
      where
        at : (u : ℕ) → (u ≡ t) ⊎ (u ≢ t) → (thread_of (changed x t row ns) u).retired ≡ (thread_of x u).retired
        at u (inl f) = rw (f, here) e
        at u (inr ne) = ap (λ (r : Thread). r.retired) (others u ne)

    pub lists : (l : List Retired) → row.retired ≡ l → Lists t l (guard_state x m) (guard_state (changed x t row ns) m')
    lists l e = record { here = ap (λ (r : Thread). r.retired) here ∙ e; others = λ u ne. ap (λ (r : Thread). r.retired) (others u ne) }
