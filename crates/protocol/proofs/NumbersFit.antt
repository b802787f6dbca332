-- Every number of a history fits: codes and values of answers, what the memory told, the number of accepted calls, and the flags of
-- the lock. Assumes nothing.
use Rattle.std.proofs.Common.{◌≡◌, ℕ, zero, suc, ◌+◌, ◌*◌, ◌<◌, ◌≤◌, true, false, not, eqb, ltb, List, [], ◌∷◌, length, Some, None, Option, sym, refl, ap, ◌∙◌, inl, inr, arith}
use Rattle.std.specs.List.{AllByRecursion}
use Rattle.std.proofs.ByRecursion.{All-weaker}
use Rattle.std.proofs.lemmas.List.Sums.{length-filter, count_by-le-length}
use Rattle.std.proofs.lemmas.Bool.{cases_eq, cases_lt, eq-eqb, eqb-true, or_left, or_right, cond_both}
use Rattle.memory.specs.Meaning.{Meaning}
use Rattle.protocol.specs.declared.answer.Answer.{Answer}
use Rattle.protocol.specs.declared.answer.Answer.TheVariants.{Done, GoingOn, Ended, Empty, Moved, Occupied, Refused}
use Rattle.protocol.specs.declared.answer.Refusal.{Refusal}
use Rattle.protocol.specs.declared.answer.Refusal.TheVariants.{AlreadySetUp, SettingsOutOfRange, MemoryNotNew, NotSetUp, CallsUsedUp, NoSuchThread, TickRefused, NothingWaiting, ThreadBusy, BadOperation, GuardOrNode, ListFull, WrongSide, ThreadIdle, BufferFull, WritesWaiting}
use Rattle.protocol.specs.declared.call.Call.{Call}
use Rattle.protocol.specs.declared.node.NodeState.TheVariants.{Free, Retired as RetiredBy}
use Rattle.protocol.specs.declared.retired.Retired.{Retired}
use Rattle.protocol.specs.Codes.{number_of, code_of, value_of}
use Rattle.protocol.specs.AllGuarantees.{NumbersFit, EveryNumberFits, FlagsAreWhole}
use Rattle.protocol.specs.Guarantees.{Explains}
use Rattle.protocol.specs.History.{Event, event, accepted_in}
use Rattle.protocol.specs.Settings.{hazard_cells}
use Rattle.protocol.specs.Steps.{asks_load, Told, clock_told, value_told, done_told, Outcome, guard_of, keeps, freed, lowered, version_of, waited, word, request, after}
use Rattle.protocol.specs.Tables.{Tables, State, thread_of, node_of, Point, idle, protect1, protect2, protect3, protect4, copy1, release1, publish1, remove1, remove2, remove3, reclaim1, reclaim2, reclaim3, owner_lock1, owner_lock2, owner_lock3, owner_lock4, owner_lock5, owner_unlock1, owner_unlock2, owner_unlock3, owner_unlock4, other_lock1, other_lock2, other_lock3, other_lock4, other_lock5, other_lock6, other_lock7, other_lock8, other_unlock1, other_unlock2, other_unlock3}
use Rattle.protocol.specs.Transition.{Meets, Trans, refuses, sets_up, ticks, lands, begins, steps, here, step_asks}
use Rattle.protocol.proofs.Guards.{GuardInv, explains_guarded}
use Rattle.protocol.proofs.GuardSteps.{published_at}
use Rattle.protocol.proofs.AcceptedCalls.{explains_counted}
use Rattle.protocol.proofs.Invariants.{Kept, calls_keep, always}
use Rattle.protocol.proofs.LateSweeps.{named_once}
use Rattle.protocol.proofs.Passed.{rest_passed, calls_left, step_passed}
use Rattle.protocol.proofs.Pigeons.{is_in, pigeons}
use Rattle.protocol.proofs.Placed.{FitsAt, Placed}
use Rattle.protocol.proofs.PlacedMemory.{nodes_high}
use Rattle.protocol.proofs.PlacedNodes.{in_range_lem}
use Rattle.protocol.proofs.ShownKeeps.{explains_reached}
use Rattle.protocol.proofs.SmallNumbers.{limit, told_small, explains_small}

-- Codes.

number_small : (e : Refusal) → number_of e ≤ 255
number_small AlreadySetUp = omega arith
number_small SettingsOutOfRange = omega arith
number_small MemoryNotNew = omega arith
number_small NotSetUp = omega arith
number_small CallsUsedUp = omega arith
number_small NoSuchThread = omega arith
number_small TickRefused = omega arith
number_small NothingWaiting = omega arith
number_small ThreadBusy = omega arith
number_small BadOperation = omega arith
number_small GuardOrNode = omega arith
number_small ListFull = omega arith
number_small WrongSide = omega arith
number_small ThreadIdle = omega arith
number_small BufferFull = omega arith
number_small WritesWaiting = omega arith

code_small : (a : Answer) → code_of a ≤ 255
code_small Done = omega arith
code_small (GoingOn n) = omega arith
code_small (Ended v) = omega arith
code_small Empty = omega arith
code_small Moved = omega arith
code_small (Occupied n) = omega arith
code_small (Refused e) = number_small e

-- Nodes, guards and lists.

-- the numbers up to n
abbrev up_to : ℕ → List ℕ
up_to zero = 0 ∷ []
up_to (suc n) = suc n ∷ up_to n

in_up_to : (n k : ℕ) → n ≤ k → is_in n (up_to k) ≡ true
in_up_to n zero le = or_left (eqb 0 n) false (eq-eqb 0 n (omega arith))
in_up_to n (suc k) le = elim (cases_eq n (suc k)) [ inl e ↦ or_left (eqb (suc k) n) (is_in n (up_to k)) (eq-eqb (suc k) n (sym e)) | inr ne ↦ or_right (eqb (suc k) n) (is_in n (up_to k)) (in_up_to n k (omega arith)) ]

module _ (x : Tables) (m : Meaning) (p : Placed x m) (g : GuardInv x m) where
  node_small : (n : ℕ) → (node_of x n ≡ Free → ⊥) → n ≤ 64
  node_small n used = let lt = in_range_lem x.nodes n used in let e = p.shape.nodes in let f = nodes_high x.settings p.shape.range in omega arith

  guard_small : (t i : ℕ) → guard_of (thread_of x t) i ≤ 64
  guard_small t i = elim (cases_lt 0 (guard_of (thread_of x t) i)) [ inl pos ↦ node_small (guard_of (thread_of x t) i) (λ e. rw e at (g.guarded.used t i pos)) | inr le ↦ omega arith ]

  -- a list names each node once
  list_small : (t : ℕ) → length (thread_of x t).retired ≤ 65
  list_small t =
      pigeons (thread_of x t).retired (up_to 64) (named_once x m t p)
      (All-weaker (λ (e : Retired). node_of x e.node ≡ RetiredBy t) (λ (e : Retired). is_in e.node (up_to 64) ≡ true)
      (λ e is. in_up_to e.node 64 (node_small e.node (λ f. absurd cc)))
      (thread_of x t).retired (g.guarded.listed t))

  -- The values of the answers to steps.
  module _ (m' : Meaning) (t : ℕ) (k : Told) (lt : t < x.settings.threads) where
    abbrev Fine : Outcome → Type 0
    Fine o = value_of o.answer ≤ 255

    -- what was found in a root is a node
    found_small : (r n : ℕ) → r < x.settings.roots → 0 < n → Meets t (asks_load r) m m' k → value_told k ≡ n → n ≤ 64
    found_small r n lr pos w e =
        let is = published_at x m m' t lt p g.owns r n w.2.lands lr pos (sym w.2.value ∙ (sym (ap value_told w.1) ∙ e)) in
        node_small n (λ f. absurd cc)

    freed_small : (now : ℕ) (seen : List ℕ) → length (freed m.bound now seen (thread_of x t).retired) ≤ 65
    freed_small now seen =
        let p = λ (e : Retired). not (keeps m.bound now seen e) in
        omega (arith, length-filter p (thread_of x t).retired, count_by-le-length p (thread_of x t).retired, list_small t)

    value_small : (q : Point) → FitsAt x.settings q → Meets t (request (here x m t) q) m m' k → Fine (after (here x m t) q k)
    value_small idle f w = omega arith
    value_small (protect1 r h) f w = cond_both (eqb (value_told k) 0) _ _ Fine (λ _. omega arith) (λ _. omega arith)
    value_small (protect2 r h n) f w = omega arith
    value_small (protect3 r h n) f w = cond_both (eqb (value_told k) n) _ _ Fine (λ e. omega (arith, found_small r n f.0 f.2 w (eqb-true (value_told k) n e))) (λ _. omega arith)
    value_small (protect4 r h) f w = omega arith
    value_small (copy1 i j) f w = omega (arith, guard_small t i)
    value_small (release1 i) f w = omega arith
    value_small (publish1 r n) f w = let le = f.2 in let n64 = nodes_high x.settings p.shape.range in cond_both (done_told k) _ _ Fine (λ _. omega arith) (λ _. omega arith)
    value_small (remove1 r) f w = cond_both (eqb (value_told k) 0) _ _ Fine (λ _. omega arith) (λ _. omega arith)
    value_small (remove2 r n) f w = cond_both (done_told k) _ _ Fine (λ _. omega arith) (λ _. omega arith)
    value_small (remove3 r n) f w = let le = f.2 in let n64 = nodes_high x.settings p.shape.range in omega arith
    value_small reclaim1 f w = omega arith
    value_small (reclaim2 now seen) f w = cond_both (ltb (length seen + 1) (hazard_cells x.settings)) _ _ Fine (λ _. omega arith) (λ _. omega arith)
    value_small (reclaim3 now seen) f w = omega (arith, freed_small now seen)
    value_small owner_lock1 f w = omega arith
    value_small owner_lock2 f w = cond_both (lowered (value_told k)) _ _ Fine (λ _. omega arith) (λ _. omega arith)
    value_small (owner_lock3 v) f w = omega arith
    value_small owner_lock4 f w = cond_both (done_told k) _ _ Fine (λ _. omega arith) (λ _. omega arith)
    value_small owner_lock5 f w = omega arith
    value_small owner_unlock1 f w = cond_both (lowered (value_told k)) _ _ Fine (λ _. omega arith) (λ _. omega arith)
    value_small owner_unlock2 f w = omega arith
    value_small owner_unlock3 f w = omega arith
    value_small owner_unlock4 f w = omega arith
    value_small other_lock1 f w = cond_both (done_told k) _ _ Fine (λ _. omega arith) (λ _. omega arith)
    value_small other_lock2 f w = omega arith
    value_small (other_lock3 v) f w = omega arith
    value_small (other_lock4 v) f w = omega arith
    value_small (other_lock5 v) f w = omega arith
    value_small (other_lock6 v note) f w = cond_both (waited m.bound note (clock_told k)) _ _ Fine (λ _. omega arith) (λ _. omega arith)
    value_small (other_lock7 v note) f w = cond_both (eqb (version_of (value_told k)) v) _ _ Fine (λ _. omega arith) (λ _. omega arith)
    value_small (other_lock8 v) f w = cond_both (lowered (value_told k)) _ _ Fine (λ _. omega arith) (λ _. omega arith)
    value_small other_unlock1 f w = omega arith
    value_small (other_unlock2 v) f w = omega arith
    value_small other_unlock3 f w = omega arith

-- One call.

plain_fits : (c : Call) (a : Answer) (k : Told) → value_of a ≡ 0 → value_told k ≡ 0 → NumbersFit (event c a k)
plain_fits c a k e f = record { code = code_small a; value = omega arith; told = omega arith }

call_fits : (h : List Event) (s s' : State) {c : Call} {a : Answer} {k : Told} → Explains h s → Trans s s' c a k → NumbersFit (event c a k)
call_fits h s s' {c} {a} {k} led (refuses f e) = plain_fits c a k refl refl
call_fits h s s' {c} {a} {k} led (sets_up f e g) = plain_fits c a k refl refl
call_fits h s s' {c} {a} {k} led (ticks e f w) = plain_fits c a k refl refl
call_fits h s s' {c} {a} {k} led (lands e f w) = plain_fits c a k refl refl
call_fits h s s' {c} {a} {k} led (begins e g f w) = plain_fits c a k refl refl
call_fits h s s' {c} {a} {k} led (steps {t} {x} e f w) =
    let at = (thread_of x t).point in
    let m = s.memory in
    let p = (explains_reached h s led).inv.placed x e in
    let lt = (step_passed t m x (rest_passed s.tables (step_asks t m) x e f)).thread in
    let few = calls_left s.tables (step_asks t m) x e f in
    let told = told_small (limit x) t (request (here x m t) at) m s'.memory k w.memory (explains_small h s led x e).memory in
    record {
      code = code_small a;
      value = rw w.answer (value_small x m p (explains_guarded h s led x e) s'.memory t k lt at (p.shape.fits t) w.memory);
      told = omega arith;
    }

-- The accepted calls.

abbrev Few : Tables → Meaning → Type 0
Few x m = x.accepted ≤ 8000

few_kept_lem : Kept Few
few_kept_lem =
    record {
      ticks = λ x m m' p few w s. omega arith;
      lands = λ x m m' t p few w s. omega arith;
      begins = λ x m t o p few q s. omega arith;
      steps = λ x m m' t k p few q w s. omega arith;
    }

tables_few : (h : List Event) (s : State) → Explains h s → (x : Tables) → s.tables ≡ Some x → x.accepted ≤ 8000
tables_few = always Few (λ z m new sound range. omega arith) (calls_keep Few few_kept_lem)

explains_few : (h : List Event) (s : State) → Explains h s → accepted_in h ≤ 8000
explains_few h s led = go s.tables refl
  where
    go : (o : Option Tables) → s.tables ≡ o → accepted_in h ≤ 8000
    go None e = let zero : accepted_in h ≡ 0 = rw e at (explains_counted h s led) in rw zero (omega arith)
    go (Some x) e = let count : x.accepted ≡ accepted_in h = rw e at (explains_counted h s led) in rw (sym count) (tables_few h s led x e)

-- The theorem.

all_fit : (h : List Event) (s : State) → Explains h s → AllByRecursion NumbersFit h
all_fit [] s led = tt
all_fit (e ∷ h) s' (s, led, w) = (call_fits h s s' led w, all_fit h s led)

pub numbers_fit : EveryNumberFits
numbers_fit h s led = (all_fit h s led, explains_few h s led)

-- Flags of the lock.

whole : (n : ℕ) → n ≤ 64 + 2 * 8001 → word n ≡ n
whole n le = omega arith

pub flags_are_whole : FlagsAreWhole
flags_are_whole h s x led e t =
    let few = tables_few h s led x e in
    let small = ((explains_small h s led x e).rows t).point in
    record {
      echoed = λ v f. whole (2 * v) (let le = rw f at small in omega arith);
      raised = λ v f. whole (2 * v + 1) (let le = rw f at small in omega arith);
      lowered = λ v f. whole (2 * (v + 1)) (let le = rw f at small in omega arith);
    }
