-- What a history says of one thread, as its row in the tables shows it, and what the calls of others leave of that. Assumes nothing.
use Rattle.std.proofs.Common.{◌≡◌, ℕ, false, eqb, List, ◌∷◌, Some, refl, ◌∙◌}
use Rattle.std.proofs.lemmas.Bool.{and_right, eq-eqb}
use Rattle.protocol.specs.declared.answer.Answer.{Answer}
use Rattle.protocol.specs.declared.answer.Answer.TheVariants.{Done, Refused}
use Rattle.protocol.specs.declared.answer.Refusal.{Refusal}
use Rattle.protocol.specs.declared.call.Call.{Call}
use Rattle.protocol.specs.declared.call.Call.TheVariants.{SetUp, Tick, Land, Begin, Step}
use Rattle.protocol.specs.declared.operation.Operation.{Operation}
use Rattle.protocol.specs.declared.operation.Operation.TheVariants.{Protect, Copy, Release, Publish, Remove, Reclaim, OwnerLock, OwnerUnlock, OtherLock, OtherUnlock}
use Rattle.protocol.specs.declared.settings.Settings.{Settings}
use Rattle.protocol.specs.Begin.{named, start_of}
use Rattle.protocol.specs.History.{Event, event, accepted, at_step, doing_in, guard_in, inside_in, sweep_clock_in, loaded_in, removing_in, list_in}
use Rattle.protocol.specs.Steps.{Told, moved_to, guard_of}
use Rattle.protocol.specs.Tables.{Point, Thread, busy, doing_at, idle, protect1, protect2, protect3, protect4, copy1, release1, publish1, remove1, remove2, remove3, reclaim1, reclaim2, reclaim3, owner_lock1, owner_lock2, owner_lock3, owner_lock4, owner_lock5, owner_unlock1, owner_unlock2, owner_unlock3, owner_unlock4, other_lock1, other_lock2, other_lock3, other_lock4, other_lock5, other_lock6, other_lock7, other_lock8, other_unlock1, other_unlock2, other_unlock3}
use Rattle.protocol.proofs.Refusals.{refused_doing, refused_guard, refused_inside, refused_sweep_clock, refused_loaded, refused_removing, refused_list}
use Rattle.protocol.proofs.Shown.{KnownAt}

-- the row shows what the history says of the thread
pub record Row (b : ℕ) (h : List Event) (t : ℕ) (r : Thread) : Type 0 where
  pub doing : doing_at r.point ≡ doing_in h t
  pub guards : (i : ℕ) → guard_of r i ≡ guard_in h t i
  pub lists : r.retired ≡ list_in b h t
  pub inside : r.inside ≡ inside_in h t
  pub known : KnownAt h t r.point

-- two histories say the same of the thread
pub record SameFor (h h' : List Event) (t : ℕ) : Type 0 where
  pub doing : doing_in h' t ≡ doing_in h t
  pub guards : (i : ℕ) → guard_in h' t i ≡ guard_in h t i
  pub lists : (b : ℕ) → list_in b h' t ≡ list_in b h t
  pub inside : inside_in h' t ≡ inside_in h t
  pub clock : sweep_clock_in h' t ≡ sweep_clock_in h t
  pub loaded : loaded_in h' t ≡ loaded_in h t
  pub removing : removing_in h' t ≡ removing_in h t

pub known_same : (h h' : List Event) (t : ℕ) (p : Point) → SameFor h h' t → KnownAt h t p → KnownAt h' t p
known_same h h' t idle s k = tt
known_same h h' t (protect1 r i) s k = tt
known_same h h' t (protect2 r i n) s k = tt
known_same h h' t (protect3 r i n) s k = tt
known_same h h' t (protect4 r i) s k = tt
known_same h h' t (copy1 a b) s k = tt
known_same h h' t (release1 a) s k = tt
known_same h h' t (publish1 r n) s k = tt
known_same h h' t (remove1 r) s k = tt
known_same h h' t (remove2 r n) s k = s.removing ∙ k
known_same h h' t (remove3 r n) s k = s.removing ∙ k
known_same h h' t reclaim1 s k = tt
known_same h h' t (reclaim2 now seen) s k = (s.clock ∙ k.0, s.loaded ∙ k.1)
known_same h h' t (reclaim3 now seen) s k = (s.clock ∙ k.0, s.loaded ∙ k.1)
known_same h h' t owner_lock1 s k = tt
known_same h h' t owner_lock2 s k = tt
known_same h h' t (owner_lock3 v) s k = tt
known_same h h' t owner_lock4 s k = tt
known_same h h' t owner_lock5 s k = tt
known_same h h' t owner_unlock1 s k = tt
known_same h h' t owner_unlock2 s k = tt
known_same h h' t owner_unlock3 s k = tt
known_same h h' t owner_unlock4 s k = tt
known_same h h' t other_lock1 s k = tt
known_same h h' t other_lock2 s k = tt
known_same h h' t (other_lock3 v) s k = tt
known_same h h' t (other_lock4 v) s k = tt
known_same h h' t (other_lock5 v) s k = tt
known_same h h' t (other_lock6 v note) s k = tt
known_same h h' t (other_lock7 v note) s k = tt
known_same h h' t (other_lock8 v) s k = tt
known_same h h' t other_unlock1 s k = tt
known_same h h' t (other_unlock2 v) s k = tt
known_same h h' t other_unlock3 s k = tt

pub row_same : (b : ℕ) (h h' : List Event) (t : ℕ) (r : Thread) → SameFor h h' t → Row b h t r → Row b h' t r
row_same b h h' t r s w =
    record {
      doing = rw s.doing w.doing;
      guards = λ i. rw (s.guards i) (w.guards i);
      lists = rw (s.lists b) w.lists;
      inside = rw s.inside w.inside;
      known = known_same h h' t r.point s w.known;
    }

pub same_refused : (h : List Event) (c : Call) (e : Refusal) (k : Told) (t : ℕ) → SameFor h (event c (Refused e) k ∷ h) t
same_refused h c e k t =
    record {
      doing = refused_doing h c e k t;
      guards = refused_guard h c e k t;
      lists = λ b. refused_list h c e k b t;
      inside = refused_inside h c e k t;
      clock = refused_sweep_clock h c e k t;
      loaded = refused_loaded h c e k t;
      removing = refused_removing h c e k t;
    }

-- calls that are no thread's
pub same_set_up : (h : List Event) (z : Settings) (a : Answer) (k : Told) (t : ℕ) → SameFor h (event (SetUp z) a k ∷ h) t
same_set_up h z a k t = record { doing = refl; guards = λ i. refl; lists = λ b. refl; inside = refl; clock = refl; loaded = refl; removing = refl }

pub same_tick : (h : List Event) (a : Answer) (k : Told) (t : ℕ) → SameFor h (event Tick a k ∷ h) t
same_tick h a k t = record { doing = refl; guards = λ i. refl; lists = λ b. refl; inside = refl; clock = refl; loaded = refl; removing = refl }

pub same_land : (h : List Event) (u : ℕ) (a : Answer) (k : Told) (t : ℕ) → SameFor h (event (Land u) a k ∷ h) t
same_land h u a k t = record { doing = refl; guards = λ i. refl; lists = λ b. refl; inside = refl; clock = refl; loaded = refl; removing = refl }

-- calls of another thread
pub same_begin : (h : List Event) (u o x y : ℕ) (a : Answer) (k : Told) (t : ℕ) → eqb u t ≡ false → SameFor h (event (Begin u o x y) a k ∷ h) t
same_begin h u o x y a k t e =
    record { doing = rw (and_right (accepted a) (eqb u t) e) refl; guards = λ i. refl; lists = λ b. refl; inside = refl; clock = refl; loaded = refl; removing = refl }

other_at : {X : Type 0} (u : ℕ) (a : Answer) (t : ℕ) (new was : X) → eqb u t ≡ false → at_step (Step u) a t new was ≡ was
other_at u a t new was e = rw (and_right (accepted a) (eqb u t) e) refl

pub same_step : (h : List Event) (u : ℕ) (a : Answer) (k : Told) (t : ℕ) → eqb u t ≡ false → SameFor h (event (Step u) a k ∷ h) t
same_step h u a k t e =
    record {
      doing = rw e refl;
      guards = λ i. other_at u a t _ _ e;
      lists = λ b. other_at u a t _ _ e;
      inside = other_at u a t _ _ e;
      clock = other_at u a t _ _ e;
      loaded = other_at u a t _ _ e;
      removing = other_at u a t _ _ e;
    }

-- the thread that begins
starts : (p : Operation) → doing_at (start_of p) ≡ busy p 1
starts (Protect r i) = refl
starts (Copy x y) = refl
starts (Release i) = refl
starts (Publish r n) = refl
starts (Remove r) = refl
starts Reclaim = refl
starts OwnerLock = refl
starts OwnerUnlock = refl
starts OtherLock = refl
starts OtherUnlock = refl

known_start : (h : List Event) (t : ℕ) (p : Operation) → KnownAt h t (start_of p)
known_start h t (Protect r i) = tt
known_start h t (Copy x y) = tt
known_start h t (Release i) = tt
known_start h t (Publish r n) = tt
known_start h t (Remove r) = tt
known_start h t Reclaim = tt
known_start h t OwnerLock = tt
known_start h t OwnerUnlock = tt
known_start h t OtherLock = tt
known_start h t OtherUnlock = tt

pub row_begins : (b : ℕ) (h : List Event) (u o x y : ℕ) (k : Told) (p : Operation) (r : Thread) → named o x y ≡ Some p → Row b h u r → Row b (event (Begin u o x y) Done k ∷ h) u (moved_to (start_of p) r)
row_begins b h u o x y k p r e w =
    record {
      doing = rw (eq-eqb u u refl, e) (starts p);
      guards = w.guards;
      lists = w.lists;
      inside = w.inside;
      known = known_start (event (Begin u o x y) Done k ∷ h) u p;
    }
