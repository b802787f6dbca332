-- When each list of checks passes, and which check fails first. Assumes nothing.
use Rattle.std.proofs.Common.{◌≡◌, ℕ, ◌<◌, ◌≤◌, Bool, true, false, not, ◌||◌, ltb, List, [], ◌∷◌, Some, None, refl, arith}
use Rattle.std.proofs.lemmas.Bool.{lt-ltb, le-ltb, eq-eqb, ltb-true, eqb-true, and_parts, and_from}
use Rattle.memory.specs.declared.refusal.Refusal.TheVariants.{OutOfRange, BufferFull, NothingWaiting, WritesWaiting, WriteDue, ClockAtEnd}
use Rattle.memory.specs.Meaning.{Meaning, waiting_count, due}
use Rattle.memory.specs.Checks.{Check, check, first_no, in_range, store_checks, land_checks, exchange_checks, tick_checks}

-- a list of two checks, of which both pass, or only the second fails
pub both_pass : {E : Type 0} {a b : Bool} (e f : E) → a ≡ true → b ≡ true → first_no (check a e ∷ check b f ∷ []) ≡ None
both_pass e f p q = rw (p, q) refl

pub second_fails : {E : Type 0} {a b : Bool} (e f : E) → a ≡ true → b ≡ false → first_no (check a e ∷ check b f ∷ []) ≡ Some f
second_fails e f p q = rw (p, q) refl

pub passed_head : {E : Type 0} (a : Bool) (e : E) (cs : List (Check E)) → first_no (check a e ∷ cs) ≡ None → a ≡ true
passed_head true e cs p = refl
passed_head false e cs p = cc

pub passed_tail : {E : Type 0} (a : Bool) (e : E) (cs : List (Check E)) → first_no (check a e ∷ cs) ≡ None → first_no cs ≡ None
passed_tail true e cs p = p
passed_tail false e cs p = cc

-- both of two checks have passed
both_passed : {E : Type 0} {a b : Bool} (e f : E) → first_no (check a e ∷ check b f ∷ []) ≡ None → (a ≡ true) × (b ≡ true)
both_passed {a = a} {b} e f p = (passed_head a e (check b f ∷ []) p, passed_head b f [] (passed_tail a e (check b f ∷ []) p))

pub in_range_lem : {t c : ℕ} → t < 8 → c < 64 → in_range t c ≡ true
in_range_lem {t} {c} p q = and_from (ltb t 8) (ltb c 64) (lt-ltb t 8 p) (lt-ltb c 64 q)

-- what accepted calls have passed
pub record StorePassed (t c : ℕ) (m : Meaning) : Type 0 where
  pub thread : t < 8
  pub place : c < 64
  pub room : waiting_count m t < 8

pub store_passed : (t c : ℕ) (m : Meaning) → first_no (store_checks t c m) ≡ None → StorePassed t c m
store_passed t c m p =
    let q = both_passed OutOfRange BufferFull p in
    let r = and_parts (ltb t 8) (ltb c 64) q.0 in
    record { thread = ltb-true t 8 r.0; place = ltb-true c 64 r.1; room = ltb-true (waiting_count m t) 8 q.1 }

pub land_passed : (t : ℕ) (m : Meaning) → first_no (land_checks t m) ≡ None → (t < 8) × (0 < waiting_count m t)
land_passed t m p =
    let q = both_passed OutOfRange NothingWaiting p in
    (ltb-true t 8 q.0, ltb-true 0 (waiting_count m t) q.1)

pub record ExchangePassed (t c : ℕ) (m : Meaning) : Type 0 where
  pub thread : t < 8
  pub place : c < 64
  pub none : waiting_count m t ≡ 0

pub exchange_passed : (t c : ℕ) (m : Meaning) → first_no (exchange_checks t c m) ≡ None → ExchangePassed t c m
exchange_passed t c m p =
    let q = both_passed OutOfRange WritesWaiting p in
    let r = and_parts (ltb t 8) (ltb c 64) q.0 in
    record { thread = ltb-true t 8 r.0; place = ltb-true c 64 r.1; none = eqb-true (waiting_count m t) 0 q.1 }

pub tick_passed : (m : Meaning) → first_no (tick_checks m) ≡ None → (m.clock < 1000000) × ((m.self_landing || not (due m)) ≡ true)
tick_passed m p =
    let q = both_passed ClockAtEnd WriteDue p in
    (ltb-true m.clock 1000000 q.0, q.1)

-- where each call's checks pass or fail
pub store_passes : (t c : ℕ) (m : Meaning) → t < 8 → c < 64 → waiting_count m t < 8 → first_no (store_checks t c m) ≡ None
store_passes t c m p q r = both_pass OutOfRange BufferFull (in_range_lem p q) (lt-ltb (waiting_count m t) 8 r)

pub store_full : (t c : ℕ) (m : Meaning) → t < 8 → c < 64 → 8 ≤ waiting_count m t → first_no (store_checks t c m) ≡ Some BufferFull
store_full t c m p q r = second_fails OutOfRange BufferFull (in_range_lem p q) (le-ltb (waiting_count m t) 8 r)

pub land_passes : (t : ℕ) (m : Meaning) → t < 8 → 0 < waiting_count m t → first_no (land_checks t m) ≡ None
land_passes t m p q = both_pass OutOfRange NothingWaiting (lt-ltb t 8 p) (lt-ltb 0 (waiting_count m t) q)

pub land_none : (t : ℕ) (m : Meaning) → t < 8 → waiting_count m t ≡ 0 → first_no (land_checks t m) ≡ Some NothingWaiting
land_none t m p q = second_fails OutOfRange NothingWaiting (lt-ltb t 8 p) (le-ltb 0 (waiting_count m t) (omega arith))

pub exchange_passes : (t c : ℕ) (m : Meaning) → t < 8 → c < 64 → waiting_count m t ≡ 0 → first_no (exchange_checks t c m) ≡ None
exchange_passes t c m p q r = both_pass OutOfRange WritesWaiting (in_range_lem p q) (eq-eqb (waiting_count m t) 0 r)

pub tick_passes : (m : Meaning) → m.clock < 1000000 → (m.self_landing || not (due m)) ≡ true → first_no (tick_checks m) ≡ None
tick_passes m p q = both_pass ClockAtEnd WriteDue (lt-ltb m.clock 1000000 p) q
