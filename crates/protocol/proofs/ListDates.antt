-- Along a retire list the dates never fall, and none is after the clock: every action keeps that. Assumes nothing.
use Rattle.std.proofs.Common.{◌≡◌, ℕ, ◌≤◌, ◌≢◌, ◌⊎◌, List, [], ◌∷◌, ◌++◌, inl, inr, arith}
use Rattle.std.specs.List.{AllByRecursion}
use Rattle.std.specs.List.Sorted.{IsNonDecreasingBy}
use Rattle.std.proofs.ByRecursion.{All-weaker, All-push, all_kept_by}
use Rattle.std.proofs.lemmas.List.Kept.{IsNonDecreasingBy-filter}
use Rattle.std.proofs.lemmas.Bool.{cases_eq}
use Rattle.dated.proofs.Dates.{rises_append}
use Rattle.protocol.specs.declared.retired.Retired.{Retired}
use Rattle.protocol.specs.declared.settings.Settings.{Settings}
use Rattle.protocol.specs.Steps.{keeps}
use Rattle.protocol.proofs.GuardView.{GuardState, Lists, Acts, GuardPath, plain, protects2, protects3, protects4, copies, releases, takes, publishes, occupied, removes, retires, scans1, scans2, sweeps, rests, lands, ticks, acts}

pub record InOrder (clock : ℕ) (l : List Retired) : Type 0 where
  pub rises : IsNonDecreasingBy (λ (e : Retired). e.date) l
  pub past : AllByRecursion (λ (e : Retired). e.date ≤ clock) l

abbrev pub Ordered : GuardState → Type 0
Ordered a = (t : ℕ) → InOrder a.clock (a.list t)

pub empty_ordered : (clock : ℕ) → InOrder clock []
empty_ordered clock = record { rises = λ i j d le lt. absurd (omega arith); past = tt }

later_ordered : (c c' : ℕ) (l : List Retired) → c ≤ c' → InOrder c l → InOrder c' l
later_ordered c c' l le o = record { rises = o.rises; past = All-weaker (λ (e : Retired). e.date ≤ c) (λ (e : Retired). e.date ≤ c') (λ e h. omega arith) l o.past }

module _ (a a' : GuardState) (o : Ordered a) where
  same_ordered : a.clock ≤ a'.clock → ((t : ℕ) → a'.list t ≡ a.list t) → Ordered a'
  same_ordered le l t = rw (l t) (later_ordered a.clock a'.clock (a.list t) le (o t))

  lists_ordered : (t : ℕ) (l : List Retired) → a'.clock ≡ a.clock → Lists t l a a' → InOrder a.clock l → Ordered a'
  lists_ordered t l c s new u = at (cases_eq u t)
    where
      at : (u ≡ t) ⊎ (u ≢ t) → InOrder a'.clock (a'.list u)
      at (inl e) = rw (e, s.here, c) new
      at (inr ne) = rw (s.others u ne, c) (o u)

  retire_ordered : (t n : ℕ) → InOrder a.clock (a.list t ++ record { node = n; date = a.clock } ∷ [])
  retire_ordered t n =
      let e : Retired = record { node = n; date = a.clock } in
      record {
        rises = rises_append (λ (e : Retired). e.date) (a.list t) e (o t).rises (o t).past;
        past = All-push (λ (e : Retired). e.date ≤ a.clock) (a.list t) e (o t).past (omega arith);
      }

acts_ordered : (z : Settings) (t : ℕ) (a a' : GuardState) → Acts z t a a' → Ordered a → Ordered a'
acts_ordered z t a a' (plain pl ready goes c k n l) o = same_ordered a a' o (let e = c.clock in omega arith) l.list
acts_ordered z t a a' (protects2 e low goes s k m l) o = same_ordered a a' o (let e = s.clock in omega arith) l.list
acts_ordered z t a a' (protects3 e low pos is goes c k m l) o = same_ordered a a' o (let e = c.clock in omega arith) l.list
acts_ordered z t a a' (protects4 e low goes s k m l) o = same_ordered a a' o (let e = s.clock in omega arith) l.list
acts_ordered z t a a' (copies e goes s k m l) o = same_ordered a a' o (let e = s.clock in omega arith) l.list
acts_ordered z t a a' (releases e low goes s k m l) o = same_ordered a a' o (let e = s.clock in omega arith) l.list
acts_ordered z t a a' (takes is goes c k m l) o = same_ordered a a' o (let e = c.clock in omega arith) l.list
acts_ordered z t a a' (publishes is goes c k m l) o = same_ordered a a' o (let e = c.clock in omega arith) l.list
acts_ordered z t a a' (occupied is goes c k m l) o = same_ordered a a' o (let e = c.clock in omega arith) l.list
acts_ordered z t a a' (removes is goes c k m l) o = same_ordered a a' o (let e = c.clock in omega arith) l.list
acts_ordered z t a a' (retires {n} is goes c k m l) o = lists_ordered a a' o t _ c.clock l (retire_ordered a a' o t n)
acts_ordered z t a a' (scans1 goes c k m l) o = same_ordered a a' o (let e = c.clock in omega arith) l.list
acts_ordered z t a a' (scans2 e low loads s goes c k m l) o = same_ordered a a' o (let e = c.clock in omega arith) l.list
acts_ordered z t a a' (sweeps {now} {seen} e all goes c k n l) o =
    lists_ordered a a' o t _ c.clock l
    (record {
      rises = IsNonDecreasingBy-filter (λ (e : Retired). e.date) (keeps a.bound now seen) (a.list t) (o t).rises;
      past = all_kept_by (keeps a.bound now seen) (λ (e : Retired). e.date ≤ a.clock) (a.list t) (o t).past;
    })

pub path_ordered : (z : Settings) (a' a : GuardState) → GuardPath z a' a → Ordered a → Ordered a'
path_ordered z a' a (rests c s) o = same_ordered a a' o (let e = c.clock in omega arith) s.list
path_ordered z a' a (lands t b l s path) o = path_ordered z a' b path (same_ordered a b o (let e = l.clock in omega arith) s.list)
path_ordered z a' a (ticks b l s path) o = path_ordered z a' b path (same_ordered a b o (let e = l.clock in omega arith) s.list)
path_ordered z a' a (acts t b lt w path) o = path_ordered z a' b path (acts_ordered z t a b w o)
