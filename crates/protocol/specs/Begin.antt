-- Begin: which operation a number and two arguments name, and when a thread may begin it. Assumes nothing.
use Rattle.std.specs.Prelude.{ℕ, Bool, true, false, cond, not, ◌&&◌, List, length, Some, None, Option, ◌==◌, nat_le, nat_lt, slice_set}
use Rattle.protocol.specs.declared.node.NodeState.{NodeState}
use Rattle.protocol.specs.declared.node.NodeState.TheVariants.{Free, Taken, Published, Removed, Retired}
use Rattle.protocol.specs.declared.operation.Operation.{Operation}
use Rattle.protocol.specs.declared.operation.Operation.TheVariants.{Protect, Copy, Release, Publish, Remove, Reclaim, OwnerLock, OwnerUnlock, OtherLock, OtherUnlock}
use Rattle.protocol.specs.declared.settings.Settings.{Settings}
use Rattle.protocol.specs.Steps.{guard_of, moved_to, marked}
use Rattle.protocol.specs.Tables.{Point, Thread, Tables, thread_of, node_of, protect1, copy1, release1, publish1, remove1, reclaim1, owner_lock1, owner_unlock1, other_lock1, other_unlock1}

-- an operation that uses no argument, or only the first
abbrev pub plain : ℕ → ℕ → Operation → Option Operation
plain a b o = cond (a == 0 && b == 0) (Some o) None

abbrev pub single : ℕ → Operation → Option Operation
single b o = cond (b == 0) (Some o) None

-- the operation of this number; none where there is none, or where an unused argument is not 0
abbrev pub named : ℕ → ℕ → ℕ → Option Operation
named o a b =
    cond (o == 1) (Some (Protect a b))
    (cond (o == 2) (Some (Copy a b))
    (cond (o == 3) (single b (Release a))
    (cond (o == 4) (Some (Publish a b))
    (cond (o == 5) (single b (Remove a))
    (cond (o == 6) (plain a b Reclaim)
    (cond (o == 7) (plain a b OwnerLock)
    (cond (o == 8) (plain a b OwnerUnlock)
    (cond (o == 9) (plain a b OtherLock)
    (cond (o == 10) (plain a b OtherUnlock)
    None)))))))))

-- the arguments are in range
abbrev pub fits : Settings → Operation → Bool
fits s (Protect r h) = nat_lt r s.roots && nat_lt h s.hazards
fits s (Copy a b) = nat_lt a b && nat_lt b s.hazards
fits s (Release a) = nat_lt a s.hazards
fits s (Publish r n) = nat_lt r s.roots && (nat_le 1 n && nat_le n s.nodes)
fits s (Remove r) = nat_lt r s.roots
fits s Reclaim = true
fits s OwnerLock = true
fits s OwnerUnlock = true
fits s OtherLock = true
fits s OtherUnlock = true

abbrev pub is_free : NodeState → Bool
is_free Free = true
is_free (Taken t) = false
is_free (Published r) = false
is_free (Removed t) = false
is_free (Retired t) = false

-- a hazard to guard with has no guard; a guard to copy or release stands; a node to publish is free
abbrev pub ready : Tables → Thread → Operation → Bool
ready x r (Protect root h) = guard_of r h == 0
ready x r (Copy a b) = guard_of r b == 0 && not (guard_of r a == 0)
ready x r (Release a) = not (guard_of r a == 0)
ready x r (Publish root n) = is_free (node_of x n)
ready x r (Remove root) = true
ready x r Reclaim = true
ready x r OwnerLock = true
ready x r OwnerUnlock = true
ready x r OtherLock = true
ready x r OtherUnlock = true

-- a remove has a place in its thread's list
abbrev pub roomy : Tables → Thread → Operation → Bool
roomy x r (Protect root h) = true
roomy x r (Copy a b) = true
roomy x r (Release a) = true
roomy x r (Publish root n) = true
roomy x r (Remove root) = nat_lt (length r.retired) x.settings.places
roomy x r Reclaim = true
roomy x r OwnerLock = true
roomy x r OwnerUnlock = true
roomy x r OtherLock = true
roomy x r OtherUnlock = true

-- the owner is thread 0; a lock begins outside and an unlock inside
abbrev pub sided : ℕ → Thread → Operation → Bool
sided t r (Protect root h) = true
sided t r (Copy a b) = true
sided t r (Release a) = true
sided t r (Publish root n) = true
sided t r (Remove root) = true
sided t r Reclaim = true
sided t r OwnerLock = t == 0 && not r.inside
sided t r OwnerUnlock = t == 0 && r.inside
sided t r OtherLock = not (t == 0) && not r.inside
sided t r OtherUnlock = not (t == 0) && r.inside

abbrev pub start_of : Operation → Point
start_of (Protect r h) = protect1 r h
start_of (Copy a b) = copy1 a b
start_of (Release a) = release1 a
start_of (Publish r n) = publish1 r n
start_of (Remove r) = remove1 r
start_of Reclaim = reclaim1
start_of OwnerLock = owner_lock1
start_of OwnerUnlock = owner_unlock1
start_of OtherLock = other_lock1
start_of OtherUnlock = other_unlock1

-- beginning a publish takes the node
abbrev pub takes : ℕ → Operation → List NodeState → List NodeState
takes t (Protect r h) ns = ns
takes t (Copy a b) ns = ns
takes t (Release a) ns = ns
takes t (Publish r n) ns = marked n (Taken t) ns
takes t (Remove r) ns = ns
takes t Reclaim ns = ns
takes t OwnerLock ns = ns
takes t OwnerUnlock ns = ns
takes t OtherLock ns = ns
takes t OtherUnlock ns = ns

abbrev pub begun : Tables → ℕ → Operation → Tables
begun x t o =
    record {
      settings = x.settings;
      threads = slice_set x.threads t (moved_to (start_of o) (thread_of x t));
      nodes = takes t o x.nodes;
      accepted = x.accepted;
    }
