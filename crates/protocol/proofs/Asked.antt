-- What the tables show is what the history is asked. Assumes nothing.
use Rattle.std.proofs.Common.{◌≡◌, ℕ, zero, suc, ◌+◌, ◌<◌, Bool, true, false, List, Some, None, Option, sym, refl, ap, inl, inr, arith}
use Rattle.std.proofs.lemmas.Bool.{cases_eq}
use Rattle.protocol.specs.declared.settings.Settings.{Settings}
use Rattle.protocol.specs.AllGuarantees.{ShowsAll, ShownBy}
use Rattle.protocol.specs.Guarantees.{Explains}
use Rattle.protocol.specs.History.{Event, doing_in, guard_in, inside_in, list_in, state_in, accepted_in, settings_in}
use Rattle.protocol.specs.Questions.{ranged, shown, always, is_thread, is_hazard, is_node, guard_shown, guard_asked, node_shown, node_asked, retired_shown, retired_asked, is_inside_shown, is_inside_asked, doing_shown, doing_asked, accepted_shown, accepted_asked, settings_shown, first_below, inside_shown, inside_asked, hazard_of}
use Rattle.protocol.specs.Steps.{guard_of}
use Rattle.protocol.specs.Tables.{doing_at, Tables, State, thread_of, node_of}
use Rattle.protocol.proofs.AcceptedCalls.{tables_stand}

-- any question whose answer the tables show
shown_asked : {A : Type 0} (b : ℕ) (h : List Event) (x : Option Tables) (in_range : Settings → Bool) (answer : Tables → A) (a : A) → ShownBy b h x → ((y : Tables) → ShowsAll b h y → answer y ≡ a) → shown x in_range answer ≡ ranged (settings_in h) in_range a
shown_asked b h None in_range answer a w same = rw w refl
shown_asked b h (Some x) in_range answer a w same = rw (sym w.shows.settings, same x w) refl

first_same : (n : ℕ) (f g : ℕ → Bool) → ((t : ℕ) → f t ≡ g t) → first_below n f ≡ first_below n g
first_same zero f g same = refl
first_same (suc n) f g same = rw (first_same n f g same, same n) refl

settings_by : (b : ℕ) (h : List Event) (x : Option Tables) → ShownBy b h x → settings_shown x ≡ settings_in h
settings_by b h None w = sym w
settings_by b h (Some x) w = w.shows.settings

inside_by_lem : (b : ℕ) (h : List Event) (x : Option Tables) → ShownBy b h x → inside_shown x ≡ inside_asked h
inside_by_lem b h None w = rw w refl
inside_by_lem b h (Some x) w = rw (sym w.shows.settings) (first_same x.settings.threads (λ t. (thread_of x t).inside) (inside_in h) w.shows.inside)

module _ (h : List Event) (s : State) (e : Explains h s) where
  pub guard_asked_lem : (t i : ℕ) → guard_shown s.tables t i ≡ guard_asked h t i
  guard_asked_lem t i = shown_asked s.memory.bound h s.tables (is_hazard t i) (λ y. guard_of (thread_of y t) i) (guard_in h t i) (tables_stand h s e) (λ y w. w.shows.guards t i)

  pub node_asked_lem : (n : ℕ) → node_shown s.tables n ≡ node_asked s.memory.bound h n
  node_asked_lem n = shown_asked s.memory.bound h s.tables (is_node n) (λ y. node_of y n) (state_in s.memory.bound h n) (tables_stand h s e) (λ y w. w.shows.nodes n)

  pub retired_asked_lem : (t : ℕ) → retired_shown s.tables t ≡ retired_asked s.memory.bound h t
  retired_asked_lem t = shown_asked s.memory.bound h s.tables (is_thread t) (λ y. (thread_of y t).retired) (list_in s.memory.bound h t) (tables_stand h s e) (λ y w. w.shows.lists t)

  pub is_inside_asked_lem : (t : ℕ) → is_inside_shown s.tables t ≡ is_inside_asked h t
  is_inside_asked_lem t = shown_asked s.memory.bound h s.tables (is_thread t) (λ y. (thread_of y t).inside) (inside_in h t) (tables_stand h s e) (λ y w. w.shows.inside t)

  pub doing_asked_lem : (t : ℕ) → doing_shown s.tables t ≡ doing_asked h t
  doing_asked_lem t = shown_asked s.memory.bound h s.tables (is_thread t) (λ y. doing_at (thread_of y t).point) (doing_in h t) (tables_stand h s e) (λ y w. w.shows.doing t)

  pub accepted_asked_lem : accepted_shown s.tables ≡ accepted_asked h
  accepted_asked_lem = shown_asked s.memory.bound h s.tables always (λ y. y.accepted) (accepted_in h) (tables_stand h s e) (λ y w. w.accepted)

  pub settings_asked : settings_shown s.tables ≡ settings_in h
  settings_asked = settings_by s.memory.bound h s.tables (tables_stand h s e)

  pub inside_asked_lem : inside_shown s.tables ≡ inside_asked h
  inside_asked_lem = inside_by_lem s.memory.bound h s.tables (tables_stand h s e)

  pub hazard_asked : (c : ℕ) → hazard_of (settings_shown s.tables) c ≡ hazard_of (settings_in h) c
  hazard_asked c = ap (λ (z : Option Settings). hazard_of z c) settings_asked

-- The first that passes a test.

pub first_found : (n i : ℕ) (test : ℕ → Bool) → i < n → first_below i test ≡ None → test i ≡ true → first_below n test ≡ Some i
first_found zero i test lt none passes = absurd (omega arith)
first_found (suc n) i test lt none passes =
    elim (cases_eq i n) [
      | inl e ↦ (rw (sym e, none, passes) refl)
      | inr ne ↦ (let less : i < n = omega (arith, lt, ne) in rw (first_found n i test less none passes) refl)
    ]

pub first_more : (i : ℕ) (test : ℕ → Bool) → first_below i test ≡ None → test i ≡ false → first_below (i + 1) test ≡ None
first_more i test none fails = let e : i + 1 ≡ suc i = omega arith in rw (e, none, fails) refl
