-- What a machine can be asked, answered by its tables and by its history. Assumes nothing.
use Rattle.std.specs.Prelude.{◌≡◌, ℕ, zero, suc, ◌-◌, ◌/◌, ◌%◌, ◌<◌, Bool, true, cond, ◌&&◌, ◌≢◌, List, Some, None, Option, nat_le, nat_lt}
use Rattle.std.specs.Option.{option_or}
use Rattle.protocol.specs.declared.node.NodeState.{NodeState}
use Rattle.protocol.specs.declared.retired.Retired.{Retired}
use Rattle.protocol.specs.declared.settings.Settings.{Settings}
use Rattle.protocol.specs.History.{Event, doing_in, guard_in, inside_in, list_in, state_in, accepted_in, settings_in}
use Rattle.protocol.specs.Settings.{within, hazard_cell, lock_cell}
use Rattle.protocol.specs.Steps.{guard_of}
use Rattle.protocol.specs.Tables.{Doing, doing_at, Tables, thread_of, node_of}

-- There is an answer once the machine is set up, where the question is in the range of its settings.

abbrev pub ranged : {A : Type 0} → Option Settings → (Settings → Bool) → A → Option A
ranged None in_range answer = None
ranged (Some z) in_range answer = cond (in_range z) (Some answer) None

abbrev pub shown : {A : Type 0} → Option Tables → (Settings → Bool) → (Tables → A) → Option A
shown None in_range answer = None
shown (Some x) in_range answer = cond (in_range x.settings) (Some (answer x)) None

-- The ranges.

abbrev pub always : Settings → Bool
always z = true

abbrev pub is_thread : ℕ → Settings → Bool
is_thread t z = nat_lt t z.threads

abbrev pub is_hazard : ℕ → ℕ → Settings → Bool
is_hazard t i z = nat_lt t z.threads && nat_lt i z.hazards

abbrev pub is_node : ℕ → Settings → Bool
is_node n z = within 1 z.nodes n

-- Each question, by the tables ("shown") and by the history ("asked"); b is the bound of the memory.

-- the node on which the guard at a thread's hazard index stands, 0 where none stands
abbrev pub guard_shown : Option Tables → ℕ → ℕ → Option ℕ
guard_shown x t i = shown x (is_hazard t i) (λ y. guard_of (thread_of y t) i)

abbrev pub guard_asked : List Event → ℕ → ℕ → Option ℕ
guard_asked h t i = ranged (settings_in h) (is_hazard t i) (guard_in h t i)

-- where a node is
abbrev pub node_shown : Option Tables → ℕ → Option NodeState
node_shown x n = shown x (is_node n) (λ y. node_of y n)

abbrev pub node_asked : ℕ → List Event → ℕ → Option NodeState
node_asked b h n = ranged (settings_in h) (is_node n) (state_in b h n)

-- a thread's retire list, oldest first
abbrev pub retired_shown : Option Tables → ℕ → Option (List Retired)
retired_shown x t = shown x (is_thread t) (λ y. (thread_of y t).retired)

abbrev pub retired_asked : ℕ → List Event → ℕ → Option (List Retired)
retired_asked b h t = ranged (settings_in h) (is_thread t) (list_in b h t)

-- whether a thread is inside the lock
abbrev pub is_inside_shown : Option Tables → ℕ → Option Bool
is_inside_shown x t = shown x (is_thread t) (λ y. (thread_of y t).inside)

abbrev pub is_inside_asked : List Event → ℕ → Option Bool
is_inside_asked h t = ranged (settings_in h) (is_thread t) (inside_in h t)

-- what a thread is doing
abbrev pub doing_shown : Option Tables → ℕ → Option Doing
doing_shown x t = shown x (is_thread t) (λ y. doing_at (thread_of y t).point)

abbrev pub doing_asked : List Event → ℕ → Option Doing
doing_asked h t = ranged (settings_in h) (is_thread t) (doing_in h t)

-- accepted calls, set-up not counted
abbrev pub accepted_shown : Option Tables → Option ℕ
accepted_shown x = shown x always (λ y. y.accepted)

abbrev pub accepted_asked : List Event → Option ℕ
accepted_asked h = ranged (settings_in h) always (accepted_in h)

-- the settings; by the history they are `settings_in`
abbrev pub settings_shown : Option Tables → Option Settings
settings_shown None = None
settings_shown (Some x) = Some x.settings

-- Who is inside the lock.

-- the first number below n that passes the test
abbrev pub first_below : ℕ → (ℕ → Bool) → Option ℕ
first_below zero test = None
first_below (suc n) test = option_or (first_below n test) (cond (test n) (Some n) None)

abbrev pub first_thread : Option Settings → (ℕ → Bool) → Option ℕ
first_thread None test = None
first_thread (Some z) test = first_below z.threads test

abbrev pub inside_shown : Option Tables → Option ℕ
inside_shown None = None
inside_shown (Some x) = first_below x.settings.threads (λ t. (thread_of x t).inside)

abbrev pub inside_asked : List Event → Option ℕ
inside_asked h = first_thread (settings_in h) (inside_in h)

-- the answer is exactly the thread that the history has inside, and none where it has none
abbrev pub NamesInside : List Event → Option ℕ → Type 0
NamesInside h r = (t : ℕ) → (r ≡ Some t → inside_in h t ≡ true) × (inside_in h t ≡ true → r ≡ Some t)

-- Whose hazard cell a cell is: the thread and the hazard index.

abbrev pub hazard_at : Settings → ℕ → Option (ℕ × ℕ)
hazard_at z c = cond (nat_le z.roots c && nat_lt c (lock_cell z)) (Some ((c - z.roots) / z.hazards, (c - z.roots) % z.hazards)) None

abbrev pub hazard_of : Option Settings → ℕ → Option (ℕ × ℕ)
hazard_of None c = None
hazard_of (Some z) c = hazard_at z c

-- the answer is the one thread and index whose hazard cell it is, and none where it is no hazard cell
abbrev pub NamesHazard : Settings → ℕ → Option (ℕ × ℕ) → Type 0
NamesHazard z c None = (t i : ℕ) → t < z.threads → i < z.hazards → hazard_cell z t i ≢ c
NamesHazard z c (Some p) = (c ≡ hazard_cell z p.0 p.1) × (p.0 < z.threads) × (p.1 < z.hazards)

abbrev pub HazardLaw : Option Settings → ℕ → Option (ℕ × ℕ) → Type 0
HazardLaw None c r = r ≡ None
HazardLaw (Some z) c r = NamesHazard z c r
