-- From what the cells that threads share promise to what a memory promises of the same call. Assumes nothing.
use Rattle.std.proofs.Common.{◌≡◌, ℕ, Bool, true, false, not, ◌||◌, ltb, [], ◌∷◌, Ok, Err, Result, ◌<◌, sym, ap, subst, ◌∙◌}
use Rattle.std.proofs.lemmas.Bool.{ltb-true}
use Rattle.memory.specs.declared.refusal.Refusal.{Refusal}
use Rattle.memory.specs.declared.refusal.Refusal.TheVariants.{WriteDue, ClockAtEnd}
use Rattle.memory.specs.Meaning.{Meaning, exchanged, due}
use Rattle.memory.specs.Landings.{Lands}
use Rattle.memory.specs.Checks.{check}
use Rattle.memory.specs.Calls.{Sound, Stays, Exchanged, Ticks}
use Rattle.memory.specs.SharedCells.{SharedTicks}
use Rattle.memory.proofs.Passing.{passed_head, passed_tail}
use Rattle.memory.proofs.Soundness.{exchanged_sound, ticked_sound}
use Rattle.memory.proofs.Views.{lands_same}

-- an exchange in which nothing lands
pub exchanged_lands : (c old new : ℕ) (m m' : Meaning) (done : Bool) → Exchanged Stays c old new m m' done → Exchanged Lands c old new m m' done
exchanged_lands c old new m m' done x = record { between = x.between; lands = lands_same x.lands; answer = x.answer; is = x.is }

-- a tick, by whether a write is due
pub shared_ticks : (L : Meaning → Meaning → Type 0) → ((m : Meaning) → L m m) → (w : Bool) (m m' : Meaning) (r : Result (Unit {0}) Refusal)
    → due m ≡ w → (m.self_landing || not (due m)) ≡ not w → SharedTicks w m m' r → Ticks L m m' r
shared_ticks L same true m m' (Ok u) d h s =
    let free = passed_head false WriteDue [] (passed_tail (ltb m.clock 1000000) ClockAtEnd (check false WriteDue ∷ []) s.passes) in absurd cc
shared_ticks L same false m m' (Ok u) d h s = record { passes = rw h s.passes; does = record { between = m; lands = same m; none_due = d; is = s.does } }
shared_ticks L same w m m' (Err e) d h s = record { fails = rw h s.fails; same = s.same }

-- what holds of a memory holds after an exchange and after a tick
pub exchange_sound : (c old new : ℕ) (m m' : Meaning) (done : Bool) → Exchanged Stays c old new m m' done → Sound m → Sound m'
exchange_sound c old new m m' done x s = subst Sound (sym (x.is ∙ ap (exchanged c old new) x.lands)) (exchanged_sound c old new m s)

pub tick_sound : (w : Bool) (m m' : Meaning) (r : Result (Unit {0}) Refusal) → SharedTicks w m m' r → Sound m → Sound m'
tick_sound w m m' (Ok u) t s =
    let early : m.clock < 1000000 = ltb-true m.clock 1000000 (passed_head (ltb m.clock 1000000) ClockAtEnd (check (not w) WriteDue ∷ []) t.passes) in
    subst Sound (sym t.does) (ticked_sound m early s)
tick_sound w m m' (Err e) t s = subst Sound (sym t.same) s
