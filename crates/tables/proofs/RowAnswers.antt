-- From a thread's row to what the tables show. Assumes nothing.
use Rattle.std.proofs.Common.{◌≡◌, ℕ, zero, suc, ◌<◌, ◌≤◌, Bool, true, false, not, List, length, get_or, take, slice_get, Some, None, Option, sym, refl, ◌∙◌, arith}
use Rattle.std.proofs.lemmas.Bool.{lt-ltb, le-ltb}
use Rattle.std.proofs.lemmas.List.{get_or-take, length-take-le}
use Rattle.std.proofs.lemmas.List.Quantifiers.{position-Some}
use Rattle.std.proofs.lemmas.List.Sums.{prefix_len_passes}
use Rattle.std.specs.List.{position_or_len}
use Rattle.std.proofs.lemmas.Grind.{common_steps}
use Rattle.std.proofs.lemmas.Option.{gets, slice_get_within, get_or_from_slice_get}
use Rattle.std.specs.Option.{option_map}
use Rattle.std.specs.Prelude.{position}
use Rattle.memory.proofs.DueDates.{some_element}
use Rattle.protocol.specs.Questions.{first_below, inside_shown, shown, is_thread}
use Rattle.protocol.specs.Tables.{Thread as Row, thread_of}
use Rattle.protocol.proofs.Asked.{first_found}
use Rattle.tables.specs.declared.tables.Tables.{Tables}
use Rattle.tables.specs.declared.thread.Thread.{Thread}
use Rattle.tables.specs.State.{tables_of}
use Rattle.tables.specs.Threads.{row_of}
use Rattle.tables.proofs.ThreadTable.{row_at}

get_past : {X : Type 0} (xs : List X) (i : ℕ) → slice_get xs i ≡ None → length xs ≤ i
get_past xs i e = grind (arith, common_steps, gets)

-- The look-up of a thread's row.
module _ (x : Tables) (t : ℕ) where
  abbrev rows : List Thread
  rows = take x.layout.settings.threads x.threads

  row_count : length rows ≡ x.layout.settings.threads
  row_count = let high = x.layout.threads_high in let long = x.eight in length-take-le x.layout.settings.threads x.threads (omega arith)

  -- what it finds
  pub at_some : (r : Thread) (d : Thread) → slice_get rows t ≡ Some r → (t < x.layout.settings.threads) × (get_or x.threads t d ≡ r)
  at_some r d e =
      let lt : t < x.layout.settings.threads = omega (arith, row_count, slice_get_within rows t r e) in
      (lt, sym (get_or-take x.layout.settings.threads x.threads t d lt) ∙ get_or_from_slice_get rows t r d e)

  -- and that it finds none
  pub at_none : slice_get rows t ≡ None → x.layout.settings.threads ≤ t
  at_none e = omega (arith, row_count, get_past rows t e)

  -- an answer that is read from the row
  pub shown_row : {A : Type 0} (f : Row → A) (o : Option Thread) → o ≡ slice_get rows t → option_map (λ r. f (row_of r)) o ≡ shown (Some (tables_of x)) (is_thread t) (λ y. f (thread_of y t))
  shown_row f None e = rw (le-ltb t x.layout.settings.threads (at_none (sym e))) refl
  shown_row f (Some r) e =
      let h = at_some r r (sym e) in
      rw (lt-ltb t x.layout.settings.threads h.0, row_at x t r h.0, h.1) refl

none_below : (i : ℕ) (test : ℕ → Bool) → ((k : ℕ) → k < i → test k ≡ false) → first_below i test ≡ None
none_below zero test all = refl
none_below (suc i) test all = rw (none_below i test (λ k lt. all k (omega arith)), all i (omega arith)) refl

-- no row passes the test
fails_at : {X : Type 0} (p : X → Bool) (xs : List X) (k : ℕ) (d : X) → position p xs ≡ None → k < length xs → p (get_or xs k d) ≡ false
fails_at p xs k d e lt =
    let all : length xs ≤ position_or_len p xs = grind arith in
    let h = prefix_len_passes (λ x. not (p x)) xs k d (omega arith) in
    grind (arith, h)

module _ (x : Tables) where
  test_at : (k : ℕ) (d : Thread) (b : Bool) → k < x.layout.settings.threads → (get_or (rows x 0) k d).inside ≡ b → (thread_of (tables_of x) k).inside ≡ b
  test_at k d b lt e = rw (row_at x k d lt, ← get_or-take x.layout.settings.threads x.threads k d lt) e

  -- the first row of a thread inside the lock
  first_by : (d : Thread) (i : Option ℕ) → i ≡ position (λ (r : Thread). r.inside) (rows x 0) → i ≡ first_below x.layout.settings.threads (λ t. (thread_of (tables_of x) t).inside)
  first_by d None e = sym (none_below x.layout.settings.threads _ (λ k lt. test_at k d false lt (fails_at _ (rows x 0) k d (sym e) (omega (arith, row_count x 0)))))
  first_by d (Some i) e =
      let h = position-Some (λ (r : Thread). r.inside) (rows x 0) i d (sym e) in
      let lt : i < x.layout.settings.threads = omega (arith, row_count x 0, h.0) in
      sym (first_found x.layout.settings.threads i _ lt (none_below i _ (λ k less. test_at k d false (omega arith) (h.2 k less))) (test_at i d true lt h.1))

  pub first_inside : (i : Option ℕ) → i ≡ position (λ (r : Thread). r.inside) (rows x 0) → i ≡ inside_shown (Some (tables_of x))
  first_inside = let long = x.eight in first_by (some_element x.threads 0 (omega arith))
