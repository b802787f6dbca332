-- Landing every write, threads ascending. Assumes nothing.
use Rattle.std.proofs.Common.{◌≡◌, ℕ, suc, ◌+◌, ◌<◌, ◌≤◌, min, false, not, ◌⊎◌, List, [], ◌∷◌, ◌++◌, length, None, Ok, Err, Result, sym, refl, ap, ◌∙◌, subst, inl, inr, arith}
use Rattle.std.specs.List.{AllByRecursion}
use Rattle.std.specs.List.Sorted.{IsNonDecreasing}
use Rattle.std.proofs.ByRecursion.{All-push, All-weaker}
use Rattle.std.proofs.lemmas.List.{nil_from_length, get_or_past}
use Rattle.std.proofs.lemmas.List.Sorted.{IsNonDecreasingBy-short}
use Rattle.std.proofs.lemmas.Option.{none-some}
use Rattle.std.proofs.lemmas.Bool.{cases_lt, cases_eq, cases_Bool, or_right, not_from_false}
use Rattle.dated.proofs.Dates.{rises_append}
use Rattle.memory.specs.declared.write.Write.{Write}
use Rattle.memory.specs.declared.refusal.Refusal.{Refusal}
use Rattle.memory.specs.Meaning.{Meaning, queue, waiting_count, landed, due}
use Rattle.memory.specs.Landings.{Lands}
use Rattle.memory.specs.Checks.{first_no, tick_checks}
use Rattle.memory.specs.Calls.{LandsOne, Ticks}
use Rattle.quiescing.specs.Quiescing.{quieted, Told, Drains, Quiesces, QuietTicks}
use Rattle.memory.proofs.Dueness.{InTime, NoneDue, none_due_lem, due_none, rows_lands}
use Rattle.quiescing.proofs.Layering.{told_lands, quieted_lands, quieted_ticked}
use Rattle.memory.proofs.Passing.{land_passes, tick_passes}
use Rattle.memory.proofs.Views.{lands_clock, lands_fixed, landed_pops, landed_shorter, lands_shorter, lands_same, lands_trans}

-- the threads below k have landed all they had, and only threads up to k have been told
pub record Draining (k : ℕ) (m m' : Meaning) : Type 0 where
  pub threads : List ℕ
  pub ascending : IsNonDecreasing threads
  pub upto : AllByRecursion (λ (t : ℕ). t ≤ k) threads
  pub told : Told threads m m'
  pub empty : (t : ℕ) → t < k → queue m' t ≡ []

pub drain_begin : (m : Meaning) → Draining 0 m m
drain_begin m = record { threads = []; ascending = IsNonDecreasingBy-short (λ x. x) [] (omega arith); upto = tt; told = refl; empty = λ t lt. absurd (omega arith) }

told_more : (ts : List ℕ) (t : ℕ) (l m n : Meaning) → Told ts l m → 0 < waiting_count m t → Lands (landed t m) n → Told (ts ++ t ∷ []) l n
told_more [] t l m n e some lands = subst (λ (x : Meaning). Told (t ∷ []) x n) e (some, (n, lands, refl))
told_more (u ∷ ts) t l m n e some lands = (e.0, (e.1.0, e.1.1, told_more ts t e.1.0 m n e.1.2 some lands))

still_empty : (t u : ℕ) (m n : Meaning) → Lands (landed t m) n → queue m u ≡ [] → queue n u ≡ []
still_empty t u m n l e =
    let a = landed_shorter t u m in
    let b = lands_shorter u l in
    let z : length (queue m u) ≡ 0 = ap length e in
    nil_from_length (queue n u) (omega arith)

pub drain_told : (k : ℕ) (l m n : Meaning) → 0 < waiting_count m k → Lands (landed k m) n → Draining k l m → Draining k l n
drain_told k l m n some lands d =
    record {
      threads = d.threads ++ k ∷ [];
      ascending = rises_append (λ x. x) d.threads k d.ascending d.upto;
      upto = All-push (λ (t : ℕ). t ≤ k) d.threads k d.upto (omega arith);
      told = told_more d.threads k l m n d.told some lands;
      empty = λ t lt. still_empty k t m n lands (d.empty t lt);
    }

-- one thread more has landed all it had
pub drain_next : (k : ℕ) (l m : Meaning) → waiting_count m k ≡ 0 → Draining k l m → Draining (k + 1) l m
drain_next k l m none d =
    record {
      threads = d.threads;
      ascending = d.ascending;
      upto = All-weaker (λ (t : ℕ). t ≤ k) (λ (t : ℕ). t ≤ k + 1) (λ t h. omega arith) d.threads d.upto;
      told = d.told;
      empty = λ t lt. at t lt (cases_eq t k);
    }
  where
    at : (t : ℕ) → t < k + 1 → (t ≡ k) ⊎ (t ≡ k → ⊥) → queue m t ≡ []
    at t lt (inl e) = rw e (nil_from_length (queue m k) none)
    at t lt (inr ne) = d.empty t (omega arith)

pub drain_end : (k : ℕ) (l m : Meaning) → length m.waiting ≤ k → Draining k l m → Drains l m
drain_end k l m long d =
    record { threads = d.threads; ascending = d.ascending; told = d.told; empty = λ t. at t (cases_lt t k) }
  where
    at : (t : ℕ) → (t < k) ⊎ (k ≤ t) → queue m t ≡ []
    at t (inl lt) = d.empty t lt
    at t (inr le) = get_or_past m.waiting t [] (omega arith)

-- an accepted landing makes the thread's writes fewer
pub fewer : (t : ℕ) (m n : Meaning) → 0 < waiting_count m t → Lands (landed t m) n → waiting_count n t < waiting_count m t
fewer t m n some l = go (queue m t) refl
  where
    go : (q : List Write) → queue m t ≡ q → waiting_count n t < waiting_count m t
    go [] e = let z : waiting_count m t ≡ 0 = ap length e in absurd (omega arith)
    go (w ∷ ws) e =
        let p = landed_pops t m w ws e in
        let a : length (queue (landed t m) t) ≡ length p.rest = ap length p.left in
        let b : length (queue m t) ≡ suc (length p.rest) = ap length p.was in
        let s = lands_shorter t l in
        omega arith

-- what the layer tells is landings of the layer's own
told_own : (k : ℕ) (ts : List ℕ) (m m' : Meaning) → Told ts m m' → Lands (quieted k m) (quieted k m')
told_own k [] m m' e = lands_same (ap (quieted k) e)
told_own k (t ∷ ts) m m'' e = lands_trans (own (queue m t) refl) (lands_trans (quieted_lands k e.1.1) (told_own k ts e.1.0 m'' e.1.2))
  where
    own : (q : List Write) → queue m t ≡ q → Lands (quieted k m) (quieted k (landed t m))
    own [] f = let z : waiting_count m t ≡ 0 = ap length f in let s = e.0 in absurd (omega arith)
    own (w ∷ ws) f = told_lands k t m w ws f

pub drains_own : (k : ℕ) (m m' : Meaning) → Drains m m' → Lands (quieted k m) (quieted k m')
drains_own k m m' d = told_own k d.threads m m' d.told

-- a landing that was told where a write waits is accepted
pub told_accepted : (t : ℕ) (m m' : Meaning) (r : Result (Unit {0}) Refusal) → t < 8 → 0 < waiting_count m t → LandsOne Lands t m m' r → Lands (landed t m) m'
told_accepted t m m' (Ok u) lt some l = l.does
told_accepted t m m' (Err e) lt some l =
    absurd (none-some e (sym (land_passes t m lt some) ∙ l.fails))

-- before its tick the memory below is drained where some write is due by the layer's bound, else it stays
abbrev pub Quieted : ℕ → Meaning → Meaning → Type 0
Quieted k m b = Quiesces (min k m.bound) m b

module _ (k : ℕ) (m b : Meaning) where
  quieted_own : Quieted k m b → Lands (quieted k m) (quieted k b)
  quieted_own q =
      elim (cases_Bool (due (quieted k m))) [ inl e ↦ drains_own k m b (q.drains e) | inr e ↦ lands_same (ap (quieted k) (q.stays e)) ]

  quieted_none : Quieted k m b → NoneDue (quieted k b)
  quieted_none q =
      elim (cases_Bool (due (quieted k m))) [ inl e ↦ record { rows = λ t. rw ((q.drains e).empty t) tt } | inr e ↦ rw (q.stays e) (due_none (quieted k m) e) ]

  -- the tick below is never refused for a write that is due
  below_passes : Quieted k m b → m.clock < 1000000 → first_no (tick_checks b) ≡ None
  below_passes q lt =
      let c : b.clock ≡ m.clock = lands_clock (quieted_own q) in
      let none : due b ≡ false = none_due_lem b (record { rows = λ t. All-weaker (InTime b.clock (min k b.bound)) (InTime b.clock b.bound) (λ w h. omega arith) (queue b t) ((quieted_none q).rows t) }) in
      tick_passes b (omega arith) (or_right b.self_landing (not (due b)) (not_from_false (due b) none))

  -- both promises of the layer's tick, from the tick of the memory below
  pub quiet_ticks : (m' : Meaning) (r : Result (Unit {0}) Refusal) → Quieted k m b → m.clock < 1000000 → Ticks Lands b m' r → record { call : Ticks Lands (quieted k m) (quieted k m') r; below : QuietTicks k m m' r }
  quiet_ticks m' (Ok u) q lt t =
      let d = t.does in
      let passes : first_no (tick_checks (quieted k m)) ≡ None = tick_passes (quieted k m) lt refl in
      record {
        call =
            record {
              passes = passes;
              does =
                  record {
                    between = quieted k d.between;
                    lands = lands_trans (quieted_own q) (quieted_lands k d.lands);
                    none_due = none_due_lem (quieted k d.between) (record { rows = rw (lands_clock d.lands, (lands_fixed d.lands).bound) (rows_lands b.clock (min k b.bound) d.lands (quieted_none q).rows) });
                    is = ap (quieted k) d.is ∙ sym (quieted_ticked k d.between);
                  };
            };
        below = record { passes = passes; does = record { between = b; quiesces = q; ticks = d } };
      }
  quiet_ticks m' (Err e) q lt t =
      absurd (none-some e (sym (below_passes q lt) ∙ t.fails))
