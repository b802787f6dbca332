-- The checks of each call, in their order, each with the refusal that a no gives. Assumes nothing.
use Rattle.std.specs.Prelude.{ℕ, Bool, cond, not, ◌&&◌, ◌||◌, List, [], ◌∷◌, Some, None, Option, ◌==◌, nat_le, nat_lt}
use Rattle.memory.specs.declared.refusal.Refusal.{Refusal}
use Rattle.memory.specs.declared.refusal.Refusal.TheVariants.{OutOfRange, BufferFull, NothingWaiting, WritesWaiting, WriteDue, ClockAtEnd}
use Rattle.memory.specs.Meaning.{Meaning, waiting_count, due}

-- a check, with the refusal that it gives for a no
pub record Check (E : Type 0) : Type 0 where
  pub passes : Bool
  pub refusal : E

abbrev pub check : {E : Type 0} → Bool → E → Check E
check b e = record { passes = b; refusal = e }

-- the first no, or none
abbrev pub first_no : {E : Type 0} → List (Check E) → Option E
first_no [] = None
first_no (c ∷ cs) = cond c.passes (first_no cs) (Some c.refusal)

abbrev pub thread_in_range : ℕ → Bool
thread_in_range t = nat_lt t 8

abbrev pub in_range : ℕ → ℕ → Bool
in_range t c = thread_in_range t && nat_lt c 64

abbrev pub store_checks : ℕ → ℕ → Meaning → List (Check Refusal)
store_checks t c m = check (in_range t c) OutOfRange ∷ check (nat_lt (waiting_count m t) 8) BufferFull ∷ []

abbrev pub load_checks : ℕ → ℕ → List (Check Refusal)
load_checks t c = check (in_range t c) OutOfRange ∷ []

abbrev pub land_checks : ℕ → Meaning → List (Check Refusal)
land_checks t m = check (thread_in_range t) OutOfRange ∷ check (nat_lt 0 (waiting_count m t)) NothingWaiting ∷ []

abbrev pub exchange_checks : ℕ → ℕ → Meaning → List (Check Refusal)
exchange_checks t c m = check (in_range t c) OutOfRange ∷ check (waiting_count m t == 0) WritesWaiting ∷ []

-- a self-landing memory lands what would wait too long, so only another is asked for it
abbrev pub tick_checks : Meaning → List (Check Refusal)
tick_checks m = check (nat_lt m.clock 1000000) ClockAtEnd ∷ check (m.self_landing || not (due m)) WriteDue ∷ []

-- a bound or a limit
abbrev pub limit_in_range : ℕ → Bool
limit_in_range n = nat_le 1 n && nat_le n 1000
