-- A sweep that begins late leaves a short list: each listed date is at most that of its thread's last retirement. Assumes nothing.
use Rattle.std.proofs.Common.{◌≡◌, ℕ, ◌+◌, ◌<◌, ◌≤◌, Bool, true, false, cond, ◌&&◌, eqb, ◌⊎◌, List, [], ◌∷◌, ◌++◌, length, Some, None, Option, sym, refl, ap, ◌∙◌, subst, inl, inr, arith}
use Rattle.std.specs.List.{AllByRecursion}
use Rattle.std.proofs.ByRecursion.{all_kept_by, All-push, All-weaker}
use Rattle.std.proofs.lemmas.Bool.{cases_Bool, cases_eq, eqb-true, eq-eqb, and_parts, false≢true}
use Rattle.memory.specs.Meaning.{Meaning}
use Rattle.protocol.specs.declared.answer.Answer.{Answer}
use Rattle.protocol.specs.declared.call.Call.{Call}
use Rattle.protocol.specs.declared.call.Call.TheVariants.{SetUp, Tick, Land, Begin, Step}
use Rattle.protocol.specs.declared.retired.Retired.{Retired}
use Rattle.protocol.specs.declared.settings.Settings.{Settings}
use Rattle.protocol.specs.Guarantees.{Explains, retired_in, LateAfter, ShortAfter, ShortLists, ALateSweepLeavesAShortList}
use Rattle.protocol.specs.History.{Event, event, accepted, answered, doing_in, is_reclaim, is_remove, sweep_clock_in, loaded_in, list_in, names, settings_in, cells_of, last_retired_in}
use Rattle.protocol.specs.Settings.{hazard_cells}
use Rattle.protocol.specs.Steps.{Told, clock_told, keeps, kept, request}
use Rattle.protocol.specs.Tables.{Point, doing_at, Tables, State, thread_of, node_of, remove3, reclaim3}
use Rattle.protocol.specs.Transition.{Meets, here, Steps, Trans, refuses, steps}
use Rattle.protocol.proofs.BoundStays.{bound_stays}
use Rattle.protocol.proofs.Counts.{NodeCase, publishes, removes as takes, retires, frees, calm, node_case}
use Rattle.protocol.proofs.Pigeons.{kept_short, names_none}
use Rattle.protocol.proofs.Placed.{FitsAt, Placed, Inv}
use Rattle.protocol.proofs.Shown.{KnownAt, Shown}
use Rattle.protocol.proofs.ShownKeeps.{explains_reached}

-- a list's dates against that of its thread's last retirement
abbrev pub Dated : Option ℕ → List Retired → Type 0
Dated None l = l ≡ []
Dated (Some d) l = AllByRecursion (λ (e : Retired). e.date ≤ d) l

abbrev pub DatedBy : ℕ → List Event → ℕ → Type 0
DatedBy b h t = Dated (last_retired_in h t) (list_in b h t)

-- the points whose step changes a list: the last of a remove and of a reclaim
data Third : Point → Type 0 where
  removes : {r n : ℕ} → Third (remove3 r n)
  sweeps : {now : ℕ} {seen : List ℕ} → Third (reclaim3 now seen)
  other : {p : Point} → is_remove 3 (doing_at p) ≡ false → is_reclaim 3 (doing_at p) ≡ false → Third p

third : (p : Point) → Third p
third p = go (node_case p)
  where
    go : NodeCase p → Third p
    go (publishes e) = rw e (other refl refl)
    go (takes e) = rw e (other refl refl)
    go (retires e) = rw e removes
    go (frees e) = rw e sweeps
    go (calm c) = other c.no_remove c.no_reclaim

dated_kept : (b now : ℕ) (seen : List ℕ) (o : Option ℕ) (l : List Retired) → Dated o l → Dated o (kept b now seen l)
dated_kept b now seen None l d = rw d refl
dated_kept b now seen (Some n) l d = all_kept_by (keeps b now seen) (λ (e : Retired). e.date ≤ n) l d

-- an accepted step of the thread, by its point
dated_at : (t : ℕ) (x : Tables) (m m' : Meaning) (p : Point) (k : Told) (n b now : ℕ) (seen : List ℕ) (o : Option ℕ) (l : List Retired) → Third p
    → Meets t (request (here x m t) p) m m' k → AllByRecursion (λ (e : Retired). e.date ≤ m.clock) l → Dated o l
    → Dated (cond (is_remove 3 (doing_at p)) (Some (clock_told k)) o)
    (cond (is_remove 3 (doing_at p)) (l ++ record { node = n; date = clock_told k } ∷ []) (cond (is_reclaim 3 (doing_at p)) (kept b now seen l) l))
dated_at t x m m' p k n b now seen o l removes meets past d =
    rw meets.0 (All-push (λ (e : Retired). e.date ≤ m.clock) l (record { node = n; date = m.clock }) past (omega arith))
dated_at t x m m' p k n b now seen o l sweeps meets past d = dated_kept b now seen o l d
dated_at t x m m' p k n b now seen o l (other e f) meets past d = rw (e, f) d

-- an accepted step is a step of the tables
step_of : {s s' : State} {t : ℕ} {a : Answer} {k : Told} → Trans s s' (Step t) a k → accepted a ≡ true → (x : Tables) × (s.tables ≡ Some x) × Steps t x s.memory s' a k
step_of (refuses f e) y = absurd (false≢true y)
step_of (steps {x = x} e f st) y = (x, e, st)

module _ (b : ℕ) (h : List Event) (s s' : State) (inv : Inv s) (shown : (x : Tables) → s.tables ≡ Some x → Shown b h x) where
  dated_step : (t : ℕ) (a : Answer) (k : Told) → Trans s s' (Step t) a k → accepted a ≡ true → DatedBy b h t
      → Dated (cond (is_remove 3 (doing_in h t)) (Some (clock_told k)) (last_retired_in h t))
      (cond (is_remove 3 (doing_in h t)) (list_in b h t ++ record { node = answered a; date = clock_told k } ∷ [])
      (cond (is_reclaim 3 (doing_in h t)) (kept b (sweep_clock_in h t) (loaded_in h t) (list_in b h t)) (list_in b h t)))
  dated_step t a k made y d =
      let st = step_of made y in
      let x = st.0 in
      let sh = (shown x st.1).shows in
      let p = (thread_of x t).point in
      let past : AllByRecursion (λ (e : Retired). e.date ≤ s.memory.clock) (list_in b h t) = rw (sh.lists t) at ((inv.placed x st.1).dates t) in
      rw (sym (sh.doing t))
      (dated_at t x s.memory s'.memory p k (answered a) b (sweep_clock_in h t) (loaded_in h t) (last_retired_in h t) (list_in b h t) (third p) st.2.memory past d)

  dated_call : (c : Call) (a : Answer) (k : Told) → Trans s s' c a k → ((t : ℕ) → DatedBy b h t) → (t : ℕ) → DatedBy b (event c a k ∷ h) t
  dated_call (SetUp z) a k made d t = d t
  dated_call Tick a k made d t = d t
  dated_call (Land u) a k made d t = d t
  dated_call (Begin u o v w) a k made d t = d t
  dated_call (Step u) a k made d t = at (cases_Bool (accepted a && eqb u t))
    where
      at : ((accepted a && eqb u t) ≡ true) ⊎ ((accepted a && eqb u t) ≡ false) → DatedBy b (event (Step u) a k ∷ h) t
      at (inl e) =
          let r = and_parts (accepted a) (eqb u t) e in
          rw e (dated_step t a k (rw (eqb-true u t r.1) at made) r.0 (d t))
      at (inr e) = rw e (d t)

-- every call keeps it
pub dated_keeps : (b : ℕ) (h : List Event) (s s' : State) (e : Event) → Inv s → ((x : Tables) → s.tables ≡ Some x → Shown b h x)
    → Trans s s' e.call e.answer e.told → ((t : ℕ) → DatedBy b h t) → (t : ℕ) → DatedBy b (e ∷ h) t
dated_keeps b h s s' e inv shown made d t = dated_call b h s s' inv shown e.call e.answer e.told made d t

-- A list names a node at most once.
at_most_one : (b : Bool) → cond b 1 0 ≤ 1
at_most_one true = omega arith
at_most_one false = omega arith

pub named_once : (x : Tables) (m : Meaning) (t : ℕ) → Placed x m → (n : ℕ) → names n (thread_of x t).retired ≤ 1
named_once x m t p n = at (cases_eq n 0)
  where
    at : (n ≡ 0) ⊎ (n ≡ 0 → ⊥) → names n (thread_of x t).retired ≤ 1
    at (inl e) = rw e (omega (arith, names_none (thread_of x t).retired (p.real t)))
    at (inr ne) = rw (p.listed n t (omega arith)) (at_most_one (retired_in (node_of x n) t))

-- A late sweep finds every entry old.
all_old : (b now : ℕ) (o : Option ℕ) (l : List Retired) → LateAfter b now o → Dated o l → AllByRecursion (λ (e : Retired). e.date + b < now) l
all_old b now None l late d = rw d tt
all_old b now (Some n) l late d = All-weaker (λ (e : Retired). e.date ≤ n) (λ (e : Retired). e.date + b < now) (λ e le. omega arith) l d

-- A thread at the last step of a reclaim has loaded every hazard cell.
all_loaded : (z : Settings) (h : List Event) (t : ℕ) (p : Point) → Third p → is_reclaim 3 (doing_at p) ≡ true → FitsAt z p → KnownAt h t p
    → (is_remove 3 (doing_at p) ≡ false) × (length (loaded_in h t) ≡ hazard_cells z)
all_loaded z h t p removes y fits known = absurd (false≢true y)
all_loaded z h t p sweeps y fits known = (refl, ap length known.1 ∙ fits)
all_loaded z h t p (other e f) y fits known = absurd (false≢true (sym f ∙ y))

module _ (b : ℕ) (h : List Event) (s s' : State) (inv : Inv s) (shown : (x : Tables) → s.tables ≡ Some x → Shown b h x) where
  short_step : (t : ℕ) (a : Answer) (k : Told) → Trans s s' (Step t) a k → DatedBy b h t → (accepted a && is_reclaim 3 (doing_in h t)) ≡ true
      → LateAfter b (sweep_clock_in h t) (last_retired_in h t) → length (list_in b (event (Step t) a k ∷ h) t) ≤ cells_of (settings_in h)
  short_step t a k made d swept late =
      let both = and_parts (accepted a) (is_reclaim 3 (doing_in h t)) swept in
      let st = step_of made both.0 in
      let x = st.0 in
      let placed = inv.placed x st.1 in
      let sh = shown x st.1 in
      let p = (thread_of x t).point in
      let all = all_loaded x.settings h t p (third p) (rw (sym (sh.shows.doing t)) at both.1) (placed.shape.fits t) (sh.known t) in
      let no : is_remove 3 (doing_in h t) ≡ false = rw (sh.shows.doing t) at all.0 in
      let once : (n : ℕ) → names n (list_in b h t) ≤ 1 = rw (sh.shows.lists t) at (named_once x s.memory t placed) in
      let short = kept_short b (sweep_clock_in h t) (loaded_in h t) (list_in b h t) once (all_old b (sweep_clock_in h t) (last_retired_in h t) (list_in b h t) late d) in
      rw (both.0, eq-eqb t t refl, no, both.1, sym sh.shows.settings) (omega (arith, all.1))

  short_call : (c : Call) (a : Answer) (k : Told) → Trans s s' c a k → ((t : ℕ) → DatedBy b h t) → ShortAfter b c (event c a k) h
  short_call (SetUp z) a k made d = tt
  short_call Tick a k made d = tt
  short_call (Land u) a k made d = tt
  short_call (Begin u o v w) a k made d = tt
  short_call (Step u) a k made d = short_step u a k made (d u)

-- after a late sweep the list is short
pub short_after : (b : ℕ) (h : List Event) (s s' : State) (e : Event) → Inv s → ((x : Tables) → s.tables ≡ Some x → Shown b h x)
    → Trans s s' e.call e.answer e.told → ((t : ℕ) → DatedBy b h t) → ShortAfter b e.call e h
short_after b h s s' e inv shown made d = short_call b h s s' inv shown e.call e.answer e.told made d

-- Every history.

explains_dated : (h : List Event) (s : State) → Explains h s → (t : ℕ) → DatedBy s.memory.bound h t
explains_dated [] s ex t = refl
explains_dated (e ∷ h) s' ex t =
    let s = ex.0 in
    let was = explains_reached h s ex.1 in
    subst (λ (b : ℕ). DatedBy b (e ∷ h) t) (sym (bound_stays s s' ex.2))
    (dated_keeps s.memory.bound h s s' e was.inv was.shown ex.2 (explains_dated h s ex.1) t)

pub a_late_sweep_leaves_a_short_list : ALateSweepLeavesAShortList
a_late_sweep_leaves_a_short_list [] s ex = tt
a_late_sweep_leaves_a_short_list (e ∷ h) s' ex =
    let s = ex.0 in
    let was = explains_reached h s ex.1 in
    subst (λ (b : ℕ). ShortLists b (e ∷ h)) (sym (bound_stays s s' ex.2))
    (short_after s.memory.bound h s s' e was.inv was.shown ex.2 (explains_dated h s ex.1), a_late_sweep_leaves_a_short_list h s ex.1)
