-- A refused call changes nothing that a history tells. Assumes nothing.
use Rattle.std.proofs.Common.{◌≡◌, ℕ, Bool, true, false, cond, eqb, List, ◌∷◌, refl}
use Rattle.std.proofs.lemmas.Bool.{and_right}
use Rattle.protocol.specs.declared.answer.Answer.TheVariants.{Refused}
use Rattle.protocol.specs.declared.answer.Refusal.{Refusal}
use Rattle.protocol.specs.declared.call.Call.{Call}
use Rattle.protocol.specs.declared.call.Call.TheVariants.{SetUp, Tick, Land, Begin, Step}
use Rattle.protocol.specs.declared.operation.Operation.TheVariants.{Protect, Copy, Release, Publish, Remove, Reclaim, OwnerLock, OwnerUnlock, OtherLock, OtherUnlock}
use Rattle.protocol.specs.History.{Event, event, at_step, doing_in, guard_in, inside_in, sweep_clock_in, loaded_in, removing_in, list_in, state_in, root_step, root_in, accepted_in, settings_in}
use Rattle.protocol.specs.Steps.{Told}
use Rattle.protocol.specs.Tables.{Doing, nothing, busy}

pub cond_same : {X : Type 0} (b : Bool) (x : X) → cond b x x ≡ x
cond_same true x = refl
cond_same false x = refl

-- what changes only at an accepted step stays
pub refused_at : {X : Type 0} (c : Call) (e : Refusal) (t : ℕ) (new was : X) → at_step c (Refused e) t new was ≡ was
refused_at (SetUp z) e t new was = refl
refused_at Tick e t new was = refl
refused_at (Land u) e t new was = refl
refused_at (Begin u o x y) e t new was = refl
refused_at (Step u) e t new was = refl

module _ (h : List Event) (c : Call) (e : Refusal) (k : Told) where
  pub refused_guard : (t i : ℕ) → guard_in (event c (Refused e) k ∷ h) t i ≡ guard_in h t i
  refused_guard t i = refused_at c e t _ _

  pub refused_inside : (t : ℕ) → inside_in (event c (Refused e) k ∷ h) t ≡ inside_in h t
  refused_inside t = refused_at c e t _ _

  pub refused_sweep_clock : (t : ℕ) → sweep_clock_in (event c (Refused e) k ∷ h) t ≡ sweep_clock_in h t
  refused_sweep_clock t = refused_at c e t _ _

  pub refused_loaded : (t : ℕ) → loaded_in (event c (Refused e) k ∷ h) t ≡ loaded_in h t
  refused_loaded t = refused_at c e t _ _

  pub refused_removing : (t : ℕ) → removing_in (event c (Refused e) k ∷ h) t ≡ removing_in h t
  refused_removing t = refused_at c e t _ _

  pub refused_list : (b t : ℕ) → list_in b (event c (Refused e) k ∷ h) t ≡ list_in b h t
  refused_list b t = refused_at c e t _ _

pub refused_doing : (h : List Event) (c : Call) (e : Refusal) (k : Told) (t : ℕ) → doing_in (event c (Refused e) k ∷ h) t ≡ doing_in h t
refused_doing h (SetUp z) e k t = refl
refused_doing h Tick e k t = refl
refused_doing h (Land u) e k t = refl
refused_doing h (Begin u o x y) e k t = refl
refused_doing h (Step u) e k t = cond_same (eqb u t) (doing_in h t)

pub refused_state : (h : List Event) (c : Call) (e : Refusal) (k : Told) (b n : ℕ) → state_in b (event c (Refused e) k ∷ h) n ≡ state_in b h n
refused_state h (SetUp z) e k b n = refl
refused_state h Tick e k b n = refl
refused_state h (Land u) e k b n = refl
refused_state h (Begin u o x y) e k b n = refl
refused_state h (Step u) e k b n = refl

pub refused_settings : (h : List Event) (c : Call) (e : Refusal) (k : Told) → settings_in (event c (Refused e) k ∷ h) ≡ settings_in h
refused_settings h (SetUp z) e k = refl
refused_settings h Tick e k = refl
refused_settings h (Land u) e k = refl
refused_settings h (Begin u o x y) e k = refl
refused_settings h (Step u) e k = refl

pub refused_accepted : (h : List Event) (c : Call) (e : Refusal) (k : Told) → accepted_in (event c (Refused e) k ∷ h) ≡ accepted_in h
refused_accepted h (SetUp z) e k = refl
refused_accepted h Tick e k = refl
refused_accepted h (Land u) e k = refl
refused_accepted h (Begin u o x y) e k = refl
refused_accepted h (Step u) e k = refl

root_refused : (d : Doing) (e : Refusal) (r was : ℕ) → root_step d (Refused e) r was ≡ was
root_refused nothing e r was = refl
root_refused (busy (Protect x h) n) e r was = refl
root_refused (busy (Copy x y) n) e r was = refl
root_refused (busy (Release h) n) e r was = refl
root_refused (busy (Publish x m) n) e r was = refl
root_refused (busy (Remove x) n) e r was = rw (and_right (eqb n 2) false refl) refl
root_refused (busy Reclaim n) e r was = refl
root_refused (busy OwnerLock n) e r was = refl
root_refused (busy OwnerUnlock n) e r was = refl
root_refused (busy OtherLock n) e r was = refl
root_refused (busy OtherUnlock n) e r was = refl

pub refused_root : (h : List Event) (c : Call) (e : Refusal) (k : Told) (r : ℕ) → root_in (event c (Refused e) k ∷ h) r ≡ root_in h r
refused_root h (SetUp z) e k r = refl
refused_root h Tick e k r = refl
refused_root h (Land u) e k r = refl
refused_root h (Begin u o x y) e k r = refl
refused_root h (Step u) e k r = root_refused (doing_in h u) e r (root_in h r)
