-- Eight runs with bound 2 over a memory that lands nothing by itself, with every answer. Assumes nothing.
use Rattle.std.specs.Prelude.{◌≡◌, ℕ, ◌≤◌, List, [], ◌∷◌}
use Rattle.protocol.specs.declared.call.Call.{Call}
use Rattle.protocol.specs.declared.call.Call.TheVariants.{SetUp, Tick, Land, Begin, Step}
use Rattle.protocol.specs.Guarantees.{Explains}
use Rattle.protocol.specs.Runs.{begun_new, state_after, history_after, answers_from}

abbrev pub setting : ℕ → ℕ → ℕ → ℕ → ℕ → Call
setting t k q n r = SetUp (record { threads = t; hazards = k; roots = q; nodes = n; places = r })

-- A node is published, guarded by thread 1, removed and retired; the guard's store lands before the tick that it would miss; the
-- sweep at clock 3 finds the guard and frees nothing.
abbrev pub guarded_sweep : List Call
guarded_sweep =
    setting 2 1 1 2 3
    ∷ Begin 0 4 0 1 ∷ Step 0
    ∷ Begin 1 1 0 0 ∷ Step 1 ∷ Step 1 ∷ Step 1
    ∷ Begin 0 5 0 0 ∷ Step 0 ∷ Step 0 ∷ Step 0
    ∷ Tick ∷ Tick ∷ Tick ∷ Land 1 ∷ Tick
    ∷ Begin 0 6 0 0 ∷ Step 0 ∷ Step 0 ∷ Step 0 ∷ Step 0 ∷ []

-- Without the guard the sweep at clock 3 frees the node,
abbrev pub freeing_sweep : List Call
freeing_sweep =
    setting 2 1 1 2 3
    ∷ Begin 0 4 0 1 ∷ Step 0
    ∷ Begin 0 5 0 0 ∷ Step 0 ∷ Step 0 ∷ Step 0
    ∷ Tick ∷ Tick ∷ Tick
    ∷ Begin 0 6 0 0 ∷ Step 0 ∷ Step 0 ∷ Step 0 ∷ Step 0 ∷ []

-- and at clock 2, where date + bound = clock, it frees none.
abbrev pub early_sweep : List Call
early_sweep =
    setting 2 1 1 2 3
    ∷ Begin 0 4 0 1 ∷ Step 0
    ∷ Begin 0 5 0 0 ∷ Step 0 ∷ Step 0 ∷ Step 0
    ∷ Tick ∷ Tick
    ∷ Begin 0 6 0 0 ∷ Step 0 ∷ Step 0 ∷ Step 0 ∷ Step 0 ∷ []

-- Retire lists must have more places than there are hazard cells.
abbrev pub short_lists : List Call
short_lists = setting 2 1 1 2 2 ∷ []

-- A copy goes upward.
abbrev pub downward_copy : List Call
downward_copy = setting 2 2 1 2 5 ∷ Begin 0 2 1 0 ∷ []

-- Four times the owner locks and unlocks: eight stores wait, and the ninth is refused.
abbrev pub full_buffer : List Call
full_buffer =
    setting 2 1 1 2 3
    ∷ Begin 0 7 0 0 ∷ Step 0 ∷ Step 0 ∷ Begin 0 8 0 0 ∷ Step 0 ∷ Step 0
    ∷ Begin 0 7 0 0 ∷ Step 0 ∷ Step 0 ∷ Begin 0 8 0 0 ∷ Step 0 ∷ Step 0
    ∷ Begin 0 7 0 0 ∷ Step 0 ∷ Step 0 ∷ Begin 0 8 0 0 ∷ Step 0 ∷ Step 0
    ∷ Begin 0 7 0 0 ∷ Step 0 ∷ Step 0 ∷ Begin 0 8 0 0 ∷ Step 0 ∷ Step 0
    ∷ Begin 0 7 0 0 ∷ Step 0 ∷ []

-- The owner is inside since clock 0, its store landed at clock 2: thread 1, having noted clock 0, waits at step 8 at clock 3.
abbrev pub waits_for_owner : List Call
waits_for_owner =
    setting 2 1 1 2 3
    ∷ Begin 0 7 0 0 ∷ Step 0 ∷ Step 0
    ∷ Begin 1 9 0 0 ∷ Step 1 ∷ Step 1 ∷ Step 1 ∷ Land 1 ∷ Step 1 ∷ Step 1
    ∷ Tick ∷ Tick ∷ Land 0 ∷ Tick ∷ Step 1 ∷ Step 1 ∷ []

-- An echo of version 1, flag0 = 2, lets thread 1 in at clock 0.
abbrev pub enters_by_echo : List Call
enters_by_echo =
    setting 2 1 1 2 3
    ∷ Begin 1 9 0 0 ∷ Step 1 ∷ Step 1 ∷ Step 1 ∷ Land 1 ∷ Step 1 ∷ Step 1
    ∷ Begin 0 7 0 0 ∷ Step 0 ∷ Step 0 ∷ Step 0 ∷ Land 0 ∷ Land 0
    ∷ Step 1 ∷ Step 1 ∷ Step 1 ∷ []

pub record MarkedRuns : Type 0 where
  pub guarded : answers_from (begun_new 2) guarded_sweep ≡ (0, 0) ∷ (0, 0) ∷ (2, 1) ∷ (0, 0) ∷ (1, 2) ∷ (1, 3) ∷ (2, 1) ∷ (0, 0) ∷ (1, 2) ∷ (1, 3) ∷ (2, 1) ∷ (0, 0) ∷ (0, 0) ∷ (17, 0) ∷ (0, 0) ∷ (0, 0) ∷ (0, 0) ∷ (1, 2) ∷ (1, 2) ∷ (1, 3) ∷ (2, 0) ∷ []
  pub freeing : answers_from (begun_new 2) freeing_sweep ≡ (0, 0) ∷ (0, 0) ∷ (2, 1) ∷ (0, 0) ∷ (1, 2) ∷ (1, 3) ∷ (2, 1) ∷ (0, 0) ∷ (0, 0) ∷ (0, 0) ∷ (0, 0) ∷ (1, 2) ∷ (1, 2) ∷ (1, 3) ∷ (2, 1) ∷ []
  pub early : answers_from (begun_new 2) early_sweep ≡ (0, 0) ∷ (0, 0) ∷ (2, 1) ∷ (0, 0) ∷ (1, 2) ∷ (1, 3) ∷ (2, 1) ∷ (0, 0) ∷ (0, 0) ∷ (0, 0) ∷ (1, 2) ∷ (1, 2) ∷ (1, 3) ∷ (2, 0) ∷ []
  pub short : answers_from (begun_new 2) short_lists ≡ (12, 0) ∷ []
  pub downward : answers_from (begun_new 2) downward_copy ≡ (0, 0) ∷ (20, 0) ∷ []
  pub full : answers_from (begun_new 2) full_buffer ≡ (0, 0) ∷ (0, 0) ∷ (1, 2) ∷ (2, 0) ∷ (0, 0) ∷ (1, 2) ∷ (2, 0) ∷ (0, 0) ∷ (1, 2) ∷ (2, 0) ∷ (0, 0) ∷ (1, 2) ∷ (2, 0) ∷ (0, 0) ∷ (1, 2) ∷ (2, 0) ∷ (0, 0) ∷ (1, 2) ∷ (2, 0) ∷ (0, 0) ∷ (1, 2) ∷ (2, 0) ∷ (0, 0) ∷ (1, 2) ∷ (2, 0) ∷ (0, 0) ∷ (25, 0) ∷ []
  pub waits : answers_from (begun_new 2) waits_for_owner ≡ (0, 0) ∷ (0, 0) ∷ (1, 2) ∷ (2, 0) ∷ (0, 0) ∷ (1, 2) ∷ (1, 3) ∷ (1, 4) ∷ (0, 0) ∷ (1, 5) ∷ (1, 6) ∷ (0, 0) ∷ (0, 0) ∷ (0, 0) ∷ (0, 0) ∷ (1, 8) ∷ (1, 8) ∷ []
  pub enters : answers_from (begun_new 2) enters_by_echo ≡ (0, 0) ∷ (0, 0) ∷ (1, 2) ∷ (1, 3) ∷ (1, 4) ∷ (0, 0) ∷ (1, 5) ∷ (1, 6) ∷ (0, 0) ∷ (1, 2) ∷ (1, 3) ∷ (1, 4) ∷ (0, 0) ∷ (0, 0) ∷ (1, 7) ∷ (1, 8) ∷ (2, 0) ∷ []
  -- and every list of calls over such a memory is a history of the machine
  pub histories : (bound : ℕ) → 1 ≤ bound → bound ≤ 1000 → (cs : List Call) → Explains (history_after (begun_new bound) [] cs) (state_after (begun_new bound) cs)
