-- Every run of a memory from new keeps the laws, and every load and exchange in it is true. Assumes nothing.
use Rattle.std.proofs.Common.{◌≡◌, ℕ, zero, suc, ◌+◌, ◌≤◌, Bool, List, [], ◌∷◌, ◌++◌, length, get_or, drop, replicate, Err, sym, refl, ap, ◌∙◌, arith}
use Rattle.std.proofs.ByRecursion.{All-weaker}
use Rattle.std.proofs.lemmas.List.{append-nil, drop_at}
use Rattle.std.proofs.lemmas.List.Sorted.{IsNonDecreasingBy-short}
use Rattle.memory.specs.declared.write.Write.{Write}
use Rattle.memory.specs.declared.refusal.Refusal.{Refusal}
use Rattle.memory.specs.declared.run.Call.{Call}
use Rattle.memory.specs.declared.run.Call.TheVariants.{Store, Load, Land, Exchange, Tick}
use Rattle.memory.specs.Meaning.{Meaning, queue, fresh, loaded}
use Rattle.memory.specs.Landings.{Landing, LandsAs}
use Rattle.memory.specs.History.{Event, Happens, refuses, stores, loads, lands, exchanges, ticks, New, Run, clock_in, ticks_of, stores_in, store_of, landed_in, writes_of, value_in, after_exchange, after_landings, TrueAnswer, Lawful, Always}
use Rattle.memory.proofs.Passing.{store_passed, exchange_passed}
use Rattle.memory.proofs.Soundness.{date_of, fresh_queue}
use Rattle.memory.proofs.Standing.{Waits, Stands, lands_stand, stored_stands, exchanged_stands, ticked_stands}

-- what stands after a history
abbrev StandsIn : List Event → Meaning → Type 0
StandsIn h m = Stands (stores_in h) (landed_in h) (value_in h) (clock_in h) m

-- the same stores, landings, values and clock, written otherwise
same_stands : {S L S' L' : ℕ → List Write} {V V' : ℕ → ℕ} {n n' : ℕ} {m : Meaning} → ((t : ℕ) → S' t ≡ S t) → ((t : ℕ) → L' t ≡ L t) → ((c : ℕ) → V' c ≡ V c) → n' ≡ n
    → Stands S L V n m → Stands S' L' V' n' m
same_stands {m = m} a b c d s =
    record {
      threads = s.threads;
      places = s.places;
      clock = s.clock ∙ sym d;
      rows = s.rows;
      complete = λ t. a t ∙ s.complete t ∙ ap (λ (x : List Write). x ++ queue m t) (sym (b t));
      reached = λ x. s.reached x ∙ sym (c x);
    }

-- a refused call stores nothing, exchanges nothing and moves no clock
refused_store : (t d : ℕ) (c : Call) (e : Refusal) → store_of t d c (Err e) ≡ []
refused_store t d (Store u x v) e = refl
refused_store t d (Load u x) e = refl
refused_store t d (Land u) e = refl
refused_store t d (Exchange u x old new) e = refl
refused_store t d Tick e = refl

refused_exchange : (c : Call) (e : Refusal) (x v : ℕ) → after_exchange c (Err e) x v ≡ v
refused_exchange (Store u y w) e x v = refl
refused_exchange (Load u y) e x v = refl
refused_exchange (Land u) e x v = refl
refused_exchange (Exchange u y old new) e x v = refl
refused_exchange Tick e x v = refl

refused_tick : (c : Call) (e : Refusal) → ticks_of c (Err e) ≡ 0
refused_tick (Store u x v) e = refl
refused_tick (Load u x) e = refl
refused_tick (Land u) e = refl
refused_tick (Exchange u x old new) e = refl
refused_tick Tick e = refl

-- landings on top of a history
then_lands : (h : List Event) (ls : List Landing) (m m' : Meaning) → LandsAs ls m m' → StandsIn h m
    → Stands (stores_in h) (λ u. landed_in h u ++ writes_of u ls) (λ c. after_landings ls c (value_in h c)) (clock_in h) m'
then_lands h ls m m' l s = lands_stand (stores_in h) (landed_in h) (value_in h) (clock_in h) ls m m' l s

-- each event keeps what stands
happens_stands : (h : List Event) (m m' : Meaning) (e : Event) → Happens m m' e → StandsIn h m → StandsIn (e ∷ h) m'
happens_stands h m m' e (refuses {c} {e = r} p same) s =
    rw same
    (same_stands
    (λ t. rw (refused_store t (clock_in h) c r) (append-nil (stores_in h t)))
    (λ t. append-nil (landed_in h t))
    (λ x. refused_exchange c r x (value_in h x))
    (rw (refused_tick c r) (omega arith))
    s)
happens_stands h m m' e (stores {t} {c} {v} {ls} p l own) s =
    let ok = store_passed t c m p in
    let now = stored_stands (stores_in h) (landed_in h) (value_in h) (clock_in h) t c v m ok.thread ok.place s in
    same_stands (λ u. refl) (λ u. refl) (λ d. refl) (omega arith) (lands_stand _ (landed_in h) (value_in h) (clock_in h) ls _ m' l now)
happens_stands h m m' e (loads {ls = ls} p l own v) s =
    same_stands (λ u. append-nil (stores_in h u)) (λ u. refl) (λ d. refl) (omega arith) (then_lands h ls m m' l s)
happens_stands h m m' e (lands {l = first} {ls} p at l own) s =
    same_stands (λ u. append-nil (stores_in h u)) (λ u. refl) (λ d. refl) (omega arith) (then_lands h (first ∷ ls) m m' l s)
happens_stands h m m' e (exchanges {t} {c} {old} {new} {done} {ls} between p l own answer is) s =
    let ok = exchange_passed t c m p in
    let now = exchanged_stands _ _ _ (clock_in h) c old new done between ok.place answer (then_lands h ls m between l s) in
    rw is (same_stands (λ u. append-nil (stores_in h u)) (λ u. refl) (λ d. refl) (omega arith) now)
happens_stands h m m' e (ticks {ls} between p l own none is) s =
    let now = ticked_stands _ _ _ (clock_in h) between none (then_lands h ls m between l s) in
    rw is (same_stands (λ u. append-nil (stores_in h u)) (λ u. refl) (λ d. refl) refl now)

-- every load and exchange is true
refused_load : (h : List Event) (c : Call) (e : Refusal) → TrueAnswer h [] c (Err e)
refused_load h (Store u x v) e = tt
refused_load h (Load u x) e = tt
refused_load h (Land u) e = tt
refused_load h (Exchange u x old new) e = tt
refused_load h Tick e = tt

happens_true : (h : List Event) (m m' : Meaning) (e : Event) → Happens m m' e → StandsIn h m → TrueAnswer h e.landings e.call e.answer
unfolding loaded
happens_true h m m' e (refuses {c} {e = r} p same) s = refused_load h c r
happens_true h m m' e (stores p l own) s = tt
happens_true h m m' e (loads {t} {c} {v} {ls} p l own value) s =
    let now = then_lands h ls m m' l s in
    let left : drop (length (landed_in h t ++ writes_of t ls)) (stores_in h t) ≡ queue m' t = rw (now.complete t) (drop_at (landed_in h t ++ writes_of t ls) (queue m' t) (length (landed_in h t ++ writes_of t ls)) refl) in
    rw (left, sym (now.reached c)) value
happens_true h m m' e (lands p at l own) s = tt
happens_true h m m' e (exchanges {c = c} {old = old} {ls = ls} between p l own answer is) s =
    rw (sym ((then_lands h ls m between l s).reached c)) answer
happens_true h m m' e (ticks between p l own none is) s = tt

-- a new memory
get_or-zeros : (n c : ℕ) → get_or {A = ℕ} (replicate n 0) c 0 ≡ 0
get_or-zeros zero c = refl
get_or-zeros (suc n) zero = refl
get_or-zeros (suc n) (suc c) = get_or-zeros n c

fresh_stands : (b : ℕ) (self : Bool) → StandsIn [] (fresh b self)
fresh_stands b self =
    record {
      threads = refl;
      places = refl;
      clock = refl;
      rows = λ t. rw (fresh_queue b self t) (record { each = tt; rises = IsNonDecreasingBy-short date_of [] (omega arith) });
      complete = λ t. sym (fresh_queue b self t);
      reached = λ c. get_or-zeros 64 c;
    }

run_stands : (m : Meaning) → New m → (h : List Event) (m' : Meaning) → Run m h m' → StandsIn h m'
run_stands m new [] m' r = rw (r ∙ new) (fresh_stands m.bound m.self_landing)
run_stands m new (e ∷ h) m'' r = happens_stands h r.0 m'' e r.2 (run_stands m new h r.0 r.1)

lawful : (h : List Event) (m : Meaning) → StandsIn h m → Lawful h m
lawful h m s =
    record {
      clock = s.clock;
      timely = λ t. All-weaker (Waits m.clock m.bound) (λ (w : Write). (w.date ≤ m.clock) × (m.clock ≤ w.date + m.bound)) (λ w a. (a.past, a.timely)) (queue m t) (s.rows t).each;
      rises = λ t. (s.rows t).rises;
      complete = s.complete;
      reached = s.reached;
    }

-- The laws over every run from a new memory.
pub always : (m : Meaning) → New m → (h : List Event) (m' : Meaning) (r : Run m h m') → Always m h m' r
always m new [] m' r = lawful [] m' (run_stands m new [] m' r)
always m new (e ∷ h) m'' r = (
  lawful (e ∷ h) m'' (run_stands m new (e ∷ h) m'' r),
  happens_true h r.0 m'' e r.2 (run_stands m new h r.0 r.1),
  always m new h r.0 r.1,
)
