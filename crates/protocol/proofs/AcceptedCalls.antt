-- The tables count the accepted calls of their history, and stand from set-up on. Assumes nothing.
use Rattle.std.proofs.Common.{◌≡◌, ℕ, ◌+◌, true, eqb, ltb, List, [], ◌∷◌, length, Some, None, Option, sym, refl, ap, ◌∙◌, subst}
use Rattle.std.proofs.lemmas.Bool.{cond_both}
use Rattle.protocol.specs.declared.answer.Answer.{Answer}
use Rattle.protocol.specs.declared.call.Call.{Call}
use Rattle.protocol.specs.AllGuarantees.{ShownBy, TablesStandFromSetUp}
use Rattle.protocol.specs.Guarantees.{Explains}
use Rattle.protocol.specs.History.{Event, event, accepted, accepted_in}
use Rattle.protocol.specs.Settings.{hazard_cells}
use Rattle.protocol.specs.Steps.{Told, clock_told, value_told, done_told, Here, Outcome, version_of, lowered, waited, after}
use Rattle.protocol.specs.Tables.{Point, Tables, State, thread_of, idle, protect1, protect2, protect3, protect4, copy1, release1, publish1, remove1, remove2, remove3, reclaim1, reclaim2, reclaim3, owner_lock1, owner_lock2, owner_lock3, owner_lock4, owner_lock5, owner_unlock1, owner_unlock2, owner_unlock3, owner_unlock4, other_lock1, other_lock2, other_lock3, other_lock4, other_lock5, other_lock6, other_lock7, other_lock8, other_unlock1, other_unlock2, other_unlock3}
use Rattle.protocol.specs.Transition.{Trans, refuses, sets_up, ticks, lands, begins, steps, here}
use Rattle.protocol.proofs.Passed.{set_up_passed}
use Rattle.protocol.proofs.Refusals.{refused_accepted}
use Rattle.protocol.proofs.ShownKeeps.{explains_reached}

-- No step is refused once it is made.

abbrev IsAccepted : Outcome → Type 0
IsAccepted o = accepted o.answer ≡ true

pub step_accepted : (x : Here) (p : Point) (k : Told) → IsAccepted (after x p k)
step_accepted x idle k = refl
step_accepted x (protect1 r h) k = cond_both (eqb (value_told k) 0) _ _ IsAccepted (λ _. refl) (λ _. refl)
step_accepted x (protect2 r h n) k = refl
step_accepted x (protect3 r h n) k = cond_both (eqb (value_told k) n) _ _ IsAccepted (λ _. refl) (λ _. refl)
step_accepted x (protect4 r h) k = refl
step_accepted x (copy1 a b) k = refl
step_accepted x (release1 a) k = refl
step_accepted x (publish1 r n) k = cond_both (done_told k) _ _ IsAccepted (λ _. refl) (λ _. refl)
step_accepted x (remove1 r) k = cond_both (eqb (value_told k) 0) _ _ IsAccepted (λ _. refl) (λ _. refl)
step_accepted x (remove2 r n) k = cond_both (done_told k) _ _ IsAccepted (λ _. refl) (λ _. refl)
step_accepted x (remove3 r n) k = refl
step_accepted x reclaim1 k = refl
step_accepted x (reclaim2 now seen) k = cond_both (ltb (length seen + 1) (hazard_cells x.settings)) _ _ IsAccepted (λ _. refl) (λ _. refl)
step_accepted x (reclaim3 now seen) k = refl
step_accepted x owner_lock1 k = refl
step_accepted x owner_lock2 k = cond_both (lowered (value_told k)) _ _ IsAccepted (λ _. refl) (λ _. refl)
step_accepted x (owner_lock3 v) k = refl
step_accepted x owner_lock4 k = cond_both (done_told k) _ _ IsAccepted (λ _. refl) (λ _. refl)
step_accepted x owner_lock5 k = refl
step_accepted x owner_unlock1 k = cond_both (lowered (value_told k)) _ _ IsAccepted (λ _. refl) (λ _. refl)
step_accepted x owner_unlock2 k = refl
step_accepted x owner_unlock3 k = refl
step_accepted x owner_unlock4 k = refl
step_accepted x other_lock1 k = cond_both (done_told k) _ _ IsAccepted (λ _. refl) (λ _. refl)
step_accepted x other_lock2 k = refl
step_accepted x (other_lock3 v) k = refl
step_accepted x (other_lock4 v) k = refl
step_accepted x (other_lock5 v) k = refl
step_accepted x (other_lock6 v note) k = cond_both (waited x.bound note (clock_told k)) _ _ IsAccepted (λ _. refl) (λ _. refl)
step_accepted x (other_lock7 v note) k = cond_both (eqb (version_of (value_told k)) v) _ _ IsAccepted (λ _. refl) (λ _. refl)
step_accepted x (other_lock8 v) k = cond_both (lowered (value_told k)) _ _ IsAccepted (λ _. refl) (λ _. refl)
step_accepted x other_unlock1 k = refl
step_accepted x (other_unlock2 v) k = refl
step_accepted x other_unlock3 k = refl

-- n calls are accepted: none before set-up, and from then on as many as the tables say
abbrev pub CountedBy : Option Tables → ℕ → Type 0
CountedBy None n = n ≡ 0
CountedBy (Some x) n = x.accepted ≡ n

counted_call : (h : List Event) (s s' : State) {c : Call} {a : Answer} {k : Told} → Trans s s' c a k → CountedBy s.tables (accepted_in h) → CountedBy s'.tables (accepted_in (event c a k ∷ h))
counted_call h s s' {c} {a} {k} (refuses {e = e} f same) v = let P : ℕ → Type 0 = λ n. CountedBy s.tables n in rw same (subst P (sym (refused_accepted h c e k)) v)
counted_call h s s' (sets_up {z} f m t) v =
    let none = (set_up_passed z s f).first in
    let zero : accepted_in h ≡ 0 = rw none at v in
    rw t (sym zero)
counted_call h s s' (ticks {x} is f w) v = let same : x.accepted ≡ accepted_in h = rw is at v in rw w.tables (ap (λ (n : ℕ). n + 1) same)
counted_call h s s' (lands {x = x} is f w) v = let same : x.accepted ≡ accepted_in h = rw is at v in rw w.tables (ap (λ (n : ℕ). n + 1) same)
counted_call h s s' (begins {x = x} is named f w) v = let same : x.accepted ≡ accepted_in h = rw is at v in rw w.tables (ap (λ (n : ℕ). n + 1) same)
counted_call h s s' {k = k} (steps {t} {x} is f w) v =
    let same : x.accepted ≡ accepted_in h = rw is at v in
    let ok = ap accepted w.answer ∙ step_accepted (here x s.memory t) (thread_of x t).point k in
    rw (w.tables, ok) (ap (λ (n : ℕ). n + 1) same)

pub explains_counted : (h : List Event) (s : State) → Explains h s → CountedBy s.tables (accepted_in h)
explains_counted [] s (none, sound) = rw none refl
explains_counted (e ∷ h) s' (s, led, t) = counted_call h s s' t (explains_counted h s led)

pub tables_stand : TablesStandFromSetUp
tables_stand h s p = at s.tables refl
  where
    at : (o : Option Tables) → s.tables ≡ o → ShownBy s.memory.bound h o
    at None e = ((explains_reached h s p).before e).settings
    at (Some x) e = let count : x.accepted ≡ accepted_in h = rw e at (explains_counted h s p) in record { shows = ((explains_reached h s p).shown x e).shows; accepted = count }
