-- What stands in a memory at a moment of a run, and how each action moves it. The moment may lie within a call: the stores,
-- the landings and the values so far are arguments. Assumes nothing.
use Rattle.std.proofs.Common.{◌≡◌, ℕ, ◌+◌, ◌<◌, ◌≤◌, Bool, true, false, cond, ◌&&◌, eqb, ◌≢◌, ◌⊎◌, List, [], ◌∷◌, ◌++◌, length, sym, refl, ap, ◌∙◌, inl, inr, arith}
use Rattle.std.specs.List.{AllByRecursion}
use Rattle.std.specs.List.Sorted.{IsNonDecreasingBy}
use Rattle.std.proofs.ByRecursion.{All-push, All-weaker}
use Rattle.std.proofs.lemmas.List.{append_assoc, append-nil}
use Rattle.std.proofs.lemmas.List.Sorted.{IsNonDecreasingBy-drop}
use Rattle.std.proofs.lemmas.Bool.{cases_eq, cases_Bool, eq-eqb, ne_eqb}
use Rattle.dated.proofs.Dates.{rises_append}
use Rattle.memory.specs.declared.write.Write.{Write}
use Rattle.memory.specs.Meaning.{Meaning, queue, cell, written, stored, landed, exchanged, ticked, due}
use Rattle.memory.specs.Landings.{Landing, LandsAs}
use Rattle.memory.specs.History.{writes_of, after_landings}
use Rattle.memory.proofs.Dueness.{InTime, due_none}
use Rattle.memory.proofs.Soundness.{date_of}
use Rattle.memory.proofs.Views.{Popped, Pushed, Put, Moved, landed_pops, stored_pushes, exchanged_puts, exchanged_none, ticked_moves}

-- a write that waits is for a cell that there is, and has waited no longer than the bound
pub record Waits (clock bound : ℕ) (w : Write) : Type 0 where
  pub in_cells : w.cell < 64
  pub past : w.date ≤ clock
  pub timely : clock ≤ w.date + bound

-- the waiting writes of one thread
pub record Row (clock bound : ℕ) (ws : List Write) : Type 0 where
  pub each : AllByRecursion (Waits clock bound) ws
  pub rises : IsNonDecreasingBy date_of ws

-- after these stores and landings, with these values in the cells and the clock at this time
pub record Stands (stores lands : ℕ → List Write) (values : ℕ → ℕ) (time : ℕ) (m : Meaning) : Type 0 where
  pub threads : length m.waiting ≡ 8
  pub places : length m.cells ≡ 64
  pub clock : m.clock ≡ time
  pub rows : (t : ℕ) → Row m.clock m.bound (queue m t)
  pub complete : (t : ℕ) → stores t ≡ lands t ++ queue m t
  pub reached : (c : ℕ) → cell m c ≡ values c

-- One landing.
row_tail : (n b : ℕ) (w : Write) (ws : List Write) → Row n b (w ∷ ws) → Row n b ws
row_tail n b w ws r = record { each = r.each.1; rises = IsNonDecreasingBy-drop date_of 1 (w ∷ ws) r.rises }

module _ (S L : ℕ → List Write) (V : ℕ → ℕ) (n : ℕ) where
  popped_stands : (t : ℕ) (m m' : Meaning) → (p : Popped t m m') → Stands S L V n m
      → Stands S (λ u. L u ++ cond (eqb t u) (p.write ∷ []) []) (λ c. cond (eqb p.write.cell c) p.write.value (V c)) n m'
  popped_stands t m m' p s =
      record {
        threads = p.fixed.threads ∙ s.threads;
        places = p.fixed.places ∙ s.places;
        clock = p.clock ∙ s.clock;
        rows = λ u. row u (cases_eq u t);
        complete = λ u. complete u (cases_eq u t);
        reached = λ c. reached c (cases_eq c p.write.cell);
      }
    where
      here : Row m.clock m.bound (p.write ∷ p.rest)
      here = rw p.was at (s.rows t)

      row : (u : ℕ) → (u ≡ t) ⊎ (u ≢ t) → Row m'.clock m'.bound (queue m' u)
      row u (inl e) = rw (e, p.left, p.clock, p.fixed.bound) (row_tail m.clock m.bound p.write p.rest here)
      row u (inr ne) = rw (p.others u ne, p.clock, p.fixed.bound) (s.rows u)

      complete : (u : ℕ) → (u ≡ t) ⊎ (u ≢ t) → S u ≡ (L u ++ cond (eqb t u) (p.write ∷ []) []) ++ queue m' u
      complete u (inl e) = rw (e, eq-eqb t t refl, p.left) (s.complete t ∙ ap (λ (q : List Write). L t ++ q) p.was ∙ sym (append_assoc (L t) (p.write ∷ []) p.rest))
      complete u (inr ne) = rw (ne_eqb t u (λ e. ne (sym e)), p.others u ne, append-nil (L u)) (s.complete u)

      reached : (c : ℕ) → (c ≡ p.write.cell) ⊎ (c ≢ p.write.cell) → cell m' c ≡ cond (eqb p.write.cell c) p.write.value (V c)
      reached c (inl e) = rw (e, eq-eqb p.write.cell p.write.cell refl) (p.here (rw s.places here.each.0.in_cells))
      reached c (inr ne) = rw (ne_eqb p.write.cell c (λ e. ne (sym e)), p.elsewhere c ne) (s.reached c)

  landed_stands : (l : Landing) (m : Meaning) → queue m l.thread ≡ l.write ∷ queue (landed l.thread m) l.thread → Stands S L V n m
      → Stands S (λ u. L u ++ cond (eqb l.thread u) (l.write ∷ []) []) (λ c. cond (eqb l.write.cell c) l.write.value (V c)) n (landed l.thread m)
  landed_stands l m e s = go (landed_pops l.thread m l.write (queue (landed l.thread m) l.thread) e)
    where
      go : Popped l.thread m (landed l.thread m)
          → Stands S (λ u. L u ++ cond (eqb l.thread u) (l.write ∷ []) []) (λ c. cond (eqb l.write.cell c) l.write.value (V c)) n (landed l.thread m)
      go p =
          let same : p.write ≡ l.write = let f = p.was in cc in
          rw (sym same) (popped_stands l.thread m (landed l.thread m) p s)

-- Any landings.
writes_head : (u : ℕ) (l : Landing) (ls : List Landing) → cond (eqb l.thread u) (l.write ∷ []) [] ++ writes_of u ls ≡ writes_of u (l ∷ ls)
writes_head u l ls = elim (cases_Bool (eqb l.thread u)) [ inl e ↦ rw e refl | inr e ↦ rw e refl ]

pub lands_stand : (S L : ℕ → List Write) (V : ℕ → ℕ) (n : ℕ) (ls : List Landing) (m m' : Meaning) → LandsAs ls m m' → Stands S L V n m
    → Stands S (λ u. L u ++ writes_of u ls) (λ c. after_landings ls c (V c)) n m'
lands_stand S L V n [] m m' e s =
    rw e (record {
      threads = s.threads;
      places = s.places;
      clock = s.clock;
      rows = s.rows;
      complete = λ u. rw (append-nil (L u)) (s.complete u);
      reached = s.reached;
    })
lands_stand S L V n (l ∷ ls) m m' e s =
    let r = lands_stand S (λ u. L u ++ cond (eqb l.thread u) (l.write ∷ []) []) (λ c. cond (eqb l.write.cell c) l.write.value (V c)) n ls (landed l.thread m) m' e.1 (landed_stands S L V n l m e.0 s) in
    record {
      threads = r.threads;
      places = r.places;
      clock = r.clock;
      rows = r.rows;
      complete = λ u. r.complete u ∙ ap (λ (x : List Write). x ++ queue m' u) (append_assoc (L u) (cond (eqb l.thread u) (l.write ∷ []) []) (writes_of u ls) ∙ ap (λ (x : List Write). L u ++ x) (writes_head u l ls));
      reached = r.reached;
    }

-- A store.
row_push : (n b : ℕ) (ws : List Write) (w : Write) → w.cell < 64 → w.date ≡ n → Row n b ws → Row n b (ws ++ w ∷ [])
row_push n b ws w inside now r =
    record {
      each = All-push (Waits n b) ws w r.each (record { in_cells = inside; past = omega arith; timely = omega arith });
      rises = rises_append date_of ws w r.rises (All-weaker (Waits n b) (λ x. x.date ≤ w.date) (λ x h. omega arith) ws r.each);
    }

pub stored_stands : (S L : ℕ → List Write) (V : ℕ → ℕ) (n t c v : ℕ) (m : Meaning) → t < 8 → c < 64 → Stands S L V n m
    → Stands (λ u. S u ++ cond (eqb t u) (record { cell = c; value = v; date = n } ∷ []) []) L V n (stored t c v m)
stored_stands S L V n t c v m lt inside s = go (stored_pushes t c v m (rw s.threads lt))
  where
    go : Pushed t c v m (stored t c v m) → Stands (λ u. S u ++ cond (eqb t u) (record { cell = c; value = v; date = n } ∷ []) []) L V n (stored t c v m)
    go p =
        record {
          threads = p.fixed.threads ∙ s.threads;
          places = p.fixed.places ∙ s.places;
          clock = p.clock ∙ s.clock;
          rows = λ u. row u (cases_eq u t);
          complete = λ u. complete u (cases_eq u t);
          reached = λ d. rw p.cells (s.reached d);
        }
      where
        row : (u : ℕ) → (u ≡ t) ⊎ (u ≢ t) → Row (stored t c v m).clock (stored t c v m).bound (queue (stored t c v m) u)
        row u (inl e) = rw (e, p.here, p.clock, p.fixed.bound) (row_push m.clock m.bound (queue m t) (written m c v) inside refl (s.rows t))
        row u (inr ne) = rw (p.others u ne, p.clock, p.fixed.bound) (s.rows u)

        complete : (u : ℕ) → (u ≡ t) ⊎ (u ≢ t) → S u ++ cond (eqb t u) (record { cell = c; value = v; date = n } ∷ []) [] ≡ L u ++ queue (stored t c v m) u
        complete u (inl e) = rw (e, eq-eqb t t refl, p.here, s.complete t, sym s.clock) (append_assoc (L t) (queue m t) (written m c v ∷ []))
        complete u (inr ne) = rw (ne_eqb t u (λ e. ne (sym e)), p.others u ne, append-nil (S u)) (s.complete u)

-- An exchange.
pub exchanged_stands : (S L : ℕ → List Write) (V : ℕ → ℕ) (n c old new : ℕ) (done : Bool) (m : Meaning) → c < 64 → done ≡ eqb (cell m c) old → Stands S L V n m
    → Stands S L (λ d. cond (done && eqb c d) new (V d)) n (exchanged c old new m)
exchanged_stands S L V n c old new true m inside e s = go (exchanged_puts c old new m (sym e))
  where
    go : Put c new m (exchanged c old new m) → Stands S L (λ d. cond (eqb c d) new (V d)) n (exchanged c old new m)
    go p =
        record {
          threads = p.fixed.threads ∙ s.threads;
          places = p.fixed.places ∙ s.places;
          clock = p.clock ∙ s.clock;
          rows = λ u. rw (p.waiting, p.clock, p.fixed.bound) (s.rows u);
          complete = λ u. rw p.waiting (s.complete u);
          reached = λ d. at d (cases_eq d c);
        }
      where
        at : (d : ℕ) → (d ≡ c) ⊎ (d ≢ c) → cell (exchanged c old new m) d ≡ cond (eqb c d) new (V d)
        at d (inl f) = rw (f, eq-eqb c c refl) (p.here (rw s.places inside))
        at d (inr ne) = rw (ne_eqb c d (λ f. ne (sym f)), p.elsewhere d ne) (s.reached d)
exchanged_stands S L V n c old new false m inside e s = rw (exchanged_none c old new m (sym e)) s

-- A tick.
later : (n b : ℕ) (ws : List Write) → AllByRecursion (InTime n b) ws → AllByRecursion (Waits n b) ws → AllByRecursion (Waits (n + 1) b) ws
later n b [] f a = tt
later n b (w ∷ ws) f a = (record { in_cells = a.0.in_cells; past = omega (arith, a.0.past); timely = omega (arith, f.0) }, later n b ws f.1 a.1)

pub ticked_stands : (S L : ℕ → List Write) (V : ℕ → ℕ) (n : ℕ) (m : Meaning) → due m ≡ false → Stands S L V n m → Stands S L V (n + 1) (ticked m)
ticked_stands S L V n m none s = go (ticked_moves m)
  where
    go : Moved m (ticked m) → Stands S L V (n + 1) (ticked m)
    go p =
        record {
          threads = p.fixed.threads ∙ s.threads;
          places = p.fixed.places ∙ s.places;
          clock = p.clock ∙ ap (λ (k : ℕ). k + 1) s.clock;
          rows = λ u. rw (p.waiting, p.clock, p.fixed.bound) (record { each = later m.clock m.bound (queue m u) ((due_none m none).rows u) (s.rows u).each; rises = (s.rows u).rises });
          complete = λ u. rw p.waiting (s.complete u);
          reached = λ c. rw p.cells (s.reached c);
        }
