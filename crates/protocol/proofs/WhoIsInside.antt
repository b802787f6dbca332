-- The first thread inside is the only one. Assumes nothing.
use Rattle.std.proofs.Common.{◌≡◌, ℕ, zero, suc, ◌<◌, ◌≤◌, Bool, true, false, cond, ◌⊎◌, List, length, Some, None, Option, sym, refl, ap, ◌∙◌, inl, inr, arith}
use Rattle.std.specs.Option.{option_or}
use Rattle.std.proofs.lemmas.List.{get_or_past}
use Rattle.std.proofs.lemmas.Bool.{cases_eq, cases_lt, true≢false}
use Rattle.protocol.specs.Guarantees.{Explains, Shows}
use Rattle.protocol.specs.History.{Event, inside_in}
use Rattle.protocol.specs.Questions.{first_below, inside_asked, NamesInside}
use Rattle.protocol.specs.Tables.{Tables, State, Thread, idle_thread}
use Rattle.protocol.proofs.Exclusion.{at_most_one_inside}
use Rattle.protocol.proofs.ShownKeeps.{explains_reached}

-- what is found passes the test
pub first_passes : (n : ℕ) (test : ℕ → Bool) (t : ℕ) → first_below n test ≡ Some t → test t ≡ true
first_passes zero test t e = absurd cc
first_passes (suc n) test t e = by (first_below n test) (test n) (first_passes n test t) refl e
  where
    by : (o : Option ℕ) (b : Bool) → (o ≡ Some t → test t ≡ true) → test n ≡ b → option_or o (cond b (Some n) None) ≡ Some t → test t ≡ true
    by None true earlier is f = let same : n ≡ t = cc in rw same at is
    by None false earlier is f = absurd cc
    by (Some u) b earlier is f = earlier f

-- one is found where one passes
pub first_some : (n : ℕ) (test : ℕ → Bool) (t : ℕ) → t < n → test t ≡ true → (u : ℕ) × (first_below n test ≡ Some u)
first_some zero test t lt passes = absurd (omega arith)
first_some (suc n) test t lt passes =
    elim (cases_eq t n) [
      | inl e ↦ (let at_n : test n ≡ true = rw e at passes in rw at_n (either (first_below n test)))
      | inr ne ↦ (let less : t < n = omega (arith, lt, ne) in let f = first_some n test t less passes in (f.0, rw f.1 refl))
    ]
  where
    either : (o : Option ℕ) → (u : ℕ) × (option_or o (Some n) ≡ Some u)
    either None = (n, refl)
    either (Some u) = (u, refl)

pub names_inside : (h : List Event) (s : State) → Explains h s → NamesInside h (inside_asked h)
names_inside h s w t = go s.tables refl
  where
    go : (o : Option Tables) → s.tables ≡ o → (inside_asked h ≡ Some t → inside_in h t ≡ true) × (inside_in h t ≡ true → inside_asked h ≡ Some t)
    go None n =
        let before = (explains_reached h s w).before n in
        rw before.settings
        ((λ e. absurd cc), (λ e. absurd (true≢false (sym e ∙ before.inside t))))
    go (Some x) n = rw (sym shows.settings) (first_passes threads (inside_in h) t, found)
      where
        shows : Shows s.memory.bound h x
        shows = ((explains_reached h s w).shown x n).shows

        threads : ℕ
        threads = x.settings.threads

        long : length x.threads ≡ threads
        long = ((explains_reached h s w).inv.placed x n).shape.threads

        below : inside_in h t ≡ true → (t < threads) ⊎ (threads ≤ t) → t < threads
        below e (inl lt) = lt
        below e (inr past) = absurd (true≢false (sym e ∙ sym (shows.inside t) ∙ ap (λ (r : Thread). r.inside) (get_or_past x.threads t (idle_thread 0) (omega (arith, long, past)))))

        found : inside_in h t ≡ true → first_below threads (inside_in h) ≡ Some t
        found e =
            let f = first_some threads (inside_in h) t (below e (cases_lt t threads)) e in
            f.1 ∙ ap Some (at_most_one_inside h s w f.0 t (first_passes threads (inside_in h) f.0 f.1) e)
