-- Right after set-up the invariant of the lock holds. Assumes nothing.
use Rattle.std.proofs.Common.{◌≡◌, ℕ, true, false, [], refl, arith}
use Rattle.memory.specs.Calls.{Sound}
use Rattle.memory.specs.Meaning.{Meaning, is_new}
use Rattle.protocol.specs.declared.settings.Settings.{Settings}
use Rattle.protocol.specs.Settings.{in_range, lock_cell, flag0_cell, flag1_cell}
use Rattle.protocol.specs.Tables.{Thread, idle_thread, first_tables, idle, other_lock3}
use Rattle.protocol.proofs.FirstState.{replicated, new_empty, new_blank}
use Rattle.protocol.proofs.LockView.{LockState, lock_state}
use Rattle.protocol.proofs.Locked.{elsewhere, away, echo, works, Holds, slow, last, without, Turns, Owned}

-- nothing has happened to the lock
pub record Untouched (a : LockState) : Type 0 where
  pub lock : a.sight.lock ≡ 0
  pub flag0 : a.sight.flag0 ≡ 0
  pub flag1 : a.sight.flag1 ≡ 0
  pub writes : (t : ℕ) → a.sight.writes t ≡ []
  pub point : (t : ℕ) → a.point t ≡ idle
  pub inside : (t : ℕ) → a.inside t ≡ false

module _ (z : Settings) (a : LockState) (u : Untouched a) where
  outside : (t : ℕ) → a.inside t ≡ true → ⊥
  outside t e = let f = u.inside t in absurd cc

  at_none : (t v : ℕ) → a.point t ≡ other_lock3 v → ⊥
  at_none t v e = let f = u.point t in absurd cc

  holds_none : {own : ℕ} → Holds own (a.point 0) (a.inside 0) → ⊥
  holds_none (slow w e f) = outside 0 e
  holds_none (last e) = let f = u.point 0 in absurd cc

  pub untouched_turns : Turns z a
  untouched_turns =
      record {
        others = λ t pos. away (λ e. let f = u.lock in omega arith) (elsewhere (rw (u.point t) tt)) (u.inside t) (u.writes t);
        owner = without (λ e. let f = u.lock in omega arith) (rw (u.writes 0) refl) holds_none;
        quiet = λ _. (0, u.flag1);
        few = let f = u.flag1 in omega arith;
        few_kept = λ t v e. absurd (at_none t v e);
        few_waiting = λ t pos. rw (u.writes t) tt;
      }

  pub untouched_owned : Owned z a
  untouched_owned =
      record {
        writes = rw (u.writes 0) tt;
        flag0 = rw u.flag0 (echo 0 (omega arith));
        at = works (rw (u.point 0) tt);
        dates = rw (u.writes 0) tt;
        echoes = λ v e. absurd (let f = u.flag1 in omega arith);
        timed = λ t pos e f. absurd (outside 0 e);
        alone = λ t pos e. absurd (outside t e);
      }

pub first_untouched : (z : Settings) (m : Meaning) → is_new m ≡ true → Sound m → Untouched (lock_state (first_tables z) m)
first_untouched z m new s =
    record {
      lock = new_blank m s new (lock_cell z);
      flag0 = new_blank m s new (flag0_cell z);
      flag1 = new_blank m s new (flag1_cell z);
      writes = λ t. rw (new_empty m s new t) refl;
      point = λ t. replicated (λ (r : Thread). r.point ≡ idle) z.threads t (idle_thread z.hazards) (idle_thread 0) refl refl;
      inside = λ t. replicated (λ (r : Thread). r.inside ≡ false) z.threads t (idle_thread z.hazards) (idle_thread 0) refl refl;
    }

-- The state right after set-up.
pub set_up_first : (z : Settings) (m : Meaning) → is_new m ≡ true → Sound m → in_range z ≡ true → Turns z (lock_state (first_tables z) m) × Owned z (lock_state (first_tables z) m)
set_up_first z m new s range = let u = first_untouched z m new s in (untouched_turns z (lock_state (first_tables z) m) u, untouched_owned z (lock_state (first_tables z) m) u)
