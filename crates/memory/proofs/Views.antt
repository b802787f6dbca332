-- What each action does to a meaning, as seen through its projections. Only this file sees the lists. Assumes nothing.
use Rattle.std.proofs.Common.{◌≡◌, ℕ, zero, suc, ◌+◌, ◌<◌, ◌≤◌, true, false, eqb, ◌≢◌, ◌⊎◌, List, [], ◌∷◌, ◌++◌, length, get_or, sym, refl, ◌∙◌, subst, inl, inr, arith}
use Rattle.std.proofs.lemmas.List.{length-set, get_or-set_same, get_or-set_other}
use Rattle.std.proofs.lemmas.Bool.{cases_eq}
use Rattle.memory.specs.declared.write.Write.{Write}
use Rattle.memory.specs.Meaning.{Meaning, queue, cell, written, stored, landed, landed_from, exchanged, ticked}
use Rattle.memory.specs.Landings.{Landing, LandsAs, Lands}

-- what no action changes
pub record Fixed (m m' : Meaning) : Type 0 where
  pub bound : m'.bound ≡ m.bound
  pub self_landing : m'.self_landing ≡ m.self_landing
  pub threads : length m'.waiting ≡ length m.waiting
  pub places : length m'.cells ≡ length m.cells

pub fixed_refl : (m : Meaning) → Fixed m m
fixed_refl m = record { bound = refl; self_landing = refl; threads = refl; places = refl }

pub fixed_trans : {l m n : Meaning} → Fixed l m → Fixed m n → Fixed l n
fixed_trans a b =
    record {
      bound = b.bound ∙ a.bound;
      self_landing = b.self_landing ∙ a.self_landing;
      threads = b.threads ∙ a.threads;
      places = b.places ∙ a.places;
    }

-- the oldest write of t has gone into its cell
pub record Popped (t : ℕ) (m m' : Meaning) : Type 0 where
  pub write : Write
  pub rest : List Write
  pub was : queue m t ≡ write ∷ rest
  pub left : queue m' t ≡ rest
  pub others : (u : ℕ) → u ≢ t → queue m' u ≡ queue m u
  pub here : write.cell < length m.cells → cell m' write.cell ≡ write.value
  pub elsewhere : (c : ℕ) → c ≢ write.cell → cell m' c ≡ cell m c
  pub clock : m'.clock ≡ m.clock
  pub fixed : Fixed m m'

in_range_lem : {A : Type 0} (xss : List (List A)) (t : ℕ) (x : A) (xs : List A) → get_or xss t [] ≡ x ∷ xs → t < length xss
in_range_lem [] t x xs e = absurd cc
in_range_lem (ys ∷ yss) zero x xs e = omega arith
in_range_lem (ys ∷ yss) (suc t) x xs e = let h = in_range_lem yss t x xs e in omega arith

pub landed_pops : (t : ℕ) (m : Meaning) (w : Write) (ws : List Write) → queue m t ≡ w ∷ ws → Popped t m (landed t m)
unfolding landed
landed_pops t m w ws e = rw e (go (in_range_lem m.waiting t w ws e))
  where
    go : t < length m.waiting → Popped t m (landed_from t m (w ∷ ws))
    go lt =
        record {
          write = w;
          rest = ws;
          was = e;
          left = get_or-set_same m.waiting t ws [] lt;
          others = λ u ne. get_or-set_other m.waiting t u ws [] ne;
          here = λ h. get_or-set_same m.cells w.cell w.value 0 h;
          elsewhere = λ c ne. get_or-set_other m.cells w.cell c w.value 0 ne;
          clock = refl;
          fixed = record { bound = refl; self_landing = refl; threads = length-set m.waiting t ws; places = length-set m.cells w.cell w.value };
        }

-- what is left of a queue that was known
pub popped_left : {t : ℕ} {m m' : Meaning} {w : Write} {ws : List Write} → Popped t m m' → queue m t ≡ w ∷ ws → queue m' t ≡ ws
popped_left {t} {m} {m'} {w} {ws} p e = let f = p.was in let g = p.left in cc

pub landed_none : (t : ℕ) (m : Meaning) → queue m t ≡ [] → landed t m ≡ m
unfolding landed
landed_none t m e = rw e refl

pub landed_cases : (t : ℕ) (m : Meaning) → (landed t m ≡ m) ⊎ Popped t m (landed t m)
landed_cases t m = go (queue m t) refl
  where
    go : (q : List Write) → queue m t ≡ q → (landed t m ≡ m) ⊎ Popped t m (landed t m)
    go [] e = inl (landed_none t m e)
    go (w ∷ ws) e = inr (landed_pops t m w ws e)

-- a write has gone behind the waiting writes of t
pub record Pushed (t c v : ℕ) (m m' : Meaning) : Type 0 where
  pub here : queue m' t ≡ queue m t ++ written m c v ∷ []
  pub others : (u : ℕ) → u ≢ t → queue m' u ≡ queue m u
  pub cells : m'.cells ≡ m.cells
  pub clock : m'.clock ≡ m.clock
  pub fixed : Fixed m m'

pub stored_pushes : (t c v : ℕ) (m : Meaning) → t < length m.waiting → Pushed t c v m (stored t c v m)
unfolding stored
stored_pushes t c v m lt =
    record {
      here = get_or-set_same m.waiting t (queue m t ++ written m c v ∷ []) [] lt;
      others = λ u ne. get_or-set_other m.waiting t u (queue m t ++ written m c v ∷ []) [] ne;
      cells = refl;
      clock = refl;
      fixed = record { bound = refl; self_landing = refl; threads = length-set m.waiting t (queue m t ++ written m c v ∷ []); places = refl };
    }

-- an exchange that was done, or was not
pub record Put (c v : ℕ) (m m' : Meaning) : Type 0 where
  pub here : c < length m.cells → cell m' c ≡ v
  pub elsewhere : (d : ℕ) → d ≢ c → cell m' d ≡ cell m d
  pub waiting : m'.waiting ≡ m.waiting
  pub clock : m'.clock ≡ m.clock
  pub fixed : Fixed m m'

pub exchanged_puts : (c old new : ℕ) (m : Meaning) → eqb (cell m c) old ≡ true → Put c new m (exchanged c old new m)
unfolding exchanged
exchanged_puts c old new m e =
    rw e
    (record {
      here = λ h. get_or-set_same m.cells c new 0 h;
      elsewhere = λ d ne. get_or-set_other m.cells c d new 0 ne;
      waiting = refl;
      clock = refl;
      fixed = record { bound = refl; self_landing = refl; threads = refl; places = length-set m.cells c new };
    })

pub exchanged_none : (c old new : ℕ) (m : Meaning) → eqb (cell m c) old ≡ false → exchanged c old new m ≡ m
unfolding exchanged
exchanged_none c old new m e = rw e refl

pub record Moved (m m' : Meaning) : Type 0 where
  pub clock : m'.clock ≡ m.clock + 1
  pub waiting : m'.waiting ≡ m.waiting
  pub cells : m'.cells ≡ m.cells
  pub fixed : Fixed m m'

pub ticked_moves : (m : Meaning) → Moved m (ticked m)
unfolding ticked
ticked_moves m = record { clock = refl; waiting = refl; cells = refl; fixed = record { bound = refl; self_landing = refl; threads = refl; places = refl } }

-- Landings.
pub lands_as_keep : (P : Meaning → Type 0) → ((t : ℕ) (m : Meaning) → P m → P (landed t m)) → (ls : List Landing) (m m' : Meaning) → LandsAs ls m m' → P m → P m'
lands_as_keep P keep [] m m' e p = subst P (sym e) p
lands_as_keep P keep (l ∷ ls) m m' e p = lands_as_keep P keep ls (landed l.thread m) m' e.1 (keep l.thread m p)

-- what every landing keeps, a memory's own landings keep
pub lands_keep : (P : Meaning → Type 0) → ((t : ℕ) (m : Meaning) → P m → P (landed t m)) → {m m' : Meaning} → Lands m m' → P m → P m'
lands_keep P keep {m} {m'} l p = lands_as_keep P keep l.landings m m' l.lead p

pub lands_same : {m m' : Meaning} → m' ≡ m → Lands m m'
lands_same e = record { landings = []; lead = e; none = λ _. refl }

pub lands_none : (m : Meaning) → Lands m m
lands_none m = lands_same refl

pub lands_as_append : (ls ks : List Landing) (l m n : Meaning) → LandsAs ls l m → LandsAs ks m n → LandsAs (ls ++ ks) l n
lands_as_append [] ks l m n e f = subst (λ (x : Meaning). LandsAs ks x n) e f
lands_as_append (x ∷ ls) ks l m n e f = (e.0, lands_as_append ls ks (landed x.thread l) m n e.1 f)

pub landed_fixed : (t : ℕ) (m : Meaning) → Fixed m (landed t m)
landed_fixed t m = elim (landed_cases t m) [ inl e ↦ rw e (fixed_refl m) | inr p ↦ p.fixed ]

pub landed_clock : (t : ℕ) (m : Meaning) → (landed t m).clock ≡ m.clock
landed_clock t m = elim (landed_cases t m) [ inl e ↦ rw e refl | inr p ↦ p.clock ]

pub lands_fixed : {m m' : Meaning} → Lands m m' → Fixed m m'
lands_fixed {m} l = lands_keep (Fixed m) (λ t x f. fixed_trans f (landed_fixed t x)) l (fixed_refl m)

pub lands_clock : {m m' : Meaning} → Lands m m' → m'.clock ≡ m.clock
lands_clock {m} l = lands_keep (λ x. x.clock ≡ m.clock) (λ t x e. landed_clock t x ∙ e) l refl

pub lands_trans : {l m n : Meaning} → Lands l m → Lands m n → Lands l n
lands_trans {l} {m} {n} a b =
    record {
      landings = a.landings ++ b.landings;
      lead = lands_as_append a.landings b.landings l m n a.lead b.lead;
      none = λ e. rw (a.none e) (b.none ((lands_fixed a).self_landing ∙ e));
    }

-- where nothing waits, nothing lands
pub lands_empty : {m m' : Meaning} → ((t : ℕ) → queue m t ≡ []) → Lands m m' → m' ≡ m
lands_empty {m} none l = lands_keep (λ x. x ≡ m) (λ t x e. subst (λ (y : Meaning). landed t y ≡ m) (sym e) (landed_none t m (none t))) l refl

-- a queue never grows by landings, and one that is empty stays so
pub landed_shorter : (t u : ℕ) (m : Meaning) → length (queue (landed t m) u) ≤ length (queue m u)
landed_shorter t u m = elim (landed_cases t m) [ inl e ↦ rw e (omega arith) | inr p ↦ at p (cases_eq u t) ]
  where
    at : Popped t m (landed t m) → (u ≡ t) ⊎ (u ≢ t) → length (queue (landed t m) u) ≤ length (queue m u)
    at p (inl e) = rw (e, p.left, p.was) (omega arith)
    at p (inr ne) = rw (p.others u ne) (omega arith)

pub lands_shorter : (u : ℕ) {m m' : Meaning} → Lands m m' → length (queue m' u) ≤ length (queue m u)
lands_shorter u {m} l = lands_keep (λ x. length (queue x u) ≤ length (queue m u)) (λ t x h. let k = landed_shorter t u x in omega arith) l (omega arith)
