-- A step of a thread, from what the request, the memory and the thread's advance give. Assumes nothing.
use Rattle.std.proofs.Common.{◌≡◌, ℕ, ◌+◌, ◌<◌, true, false, List, length, map, Result, get_or, take, set, Some, None, sym, ap, ◌∙◌, subst, arith}
use Rattle.std.specs.Result.{IsErrAnd}
use Rattle.memory.specs.Checks.{first_no}
use Rattle.memory.specs.Meaning.{Meaning}
use Rattle.protocol.specs.declared.answer.Answer.{Answer}
use Rattle.protocol.specs.declared.answer.Refusal.{Refusal}
use Rattle.protocol.specs.declared.call.Call.TheVariants.{Step}
use Rattle.protocol.specs.declared.node.NodeState.{NodeState}
use Rattle.protocol.specs.Calls.{Performs}
use Rattle.protocol.specs.Steps.{Here, Request, Told, request, after}
use Rattle.protocol.specs.Tables.{doing_at, thread_of}
use Rattle.protocol.specs.Transition.{checks_of, request_checks, is_idle, Meets}
use Rattle.protocol.proofs.PlacedMemory.{ranges}
use Rattle.tables.specs.Asked.{InCells, answer_of}
use Rattle.dated.specs.declared.fixed_row.FixedRow.{FixedRow}
use Rattle.tables.specs.declared.tables.Tables.{Tables}
use Rattle.tables.specs.declared.thread.Thread.{Thread}
use Rattle.tables.specs.Rows.{list_of, loaded_of, states_of}
use Rattle.tables.specs.State.{running, tables_of}
use Rattle.tables.specs.Threads.{at, fitting, outcome_of, row_of}
use Rattle.tables.proofs.Admission.{asks_request, exits, step_moves}
use Rattle.tables.proofs.RequestCells.{request_cells}
use Rattle.tables.proofs.ThreadTable.{row_at, rows_set}

module _ (x : Tables) (m : Meaning) (t b : ℕ) (own : Thread) (few : x.accepted < 8000) (known : (t < x.layout.settings.threads) × ((d : Thread) → get_or x.threads t d ≡ own)) (bound : b ≡ m.bound) where
  -- what the step sees, with the bound that the memory told
  abbrev pub sees : ℕ → Thread → List NodeState → Here
  sees n r ns = record { settings = x.layout.settings; bound = n; thread = t; own = row_of r; nodes = ns }

  pub row_is : thread_of (tables_of x) t ≡ row_of own
  row_is = row_at x t own known.0 ∙ ap row_of (known.1 own)

  pub fits_settings : fitting x.layout.settings own ≡ true
  fits_settings =
      let high = x.layout.threads_high in
      let long = x.eight in
      rw (known.1 own) at (x.fit own t (omega (arith, known.0)))

  -- the cell that it asks for is one of the machine's
  pub in_cells : (q : Request) → q ≡ request (sees b own (states_of x.nodes)) (at own) → InCells q
  in_cells q e = rw e (request_cells (sees b own (states_of x.nodes)) (ranges x.layout.settings x.layout.lawful) known.0 own.operation own.step own.node own.version own.clock (loaded_of own.loaded) (length (list_of own.retired)) fits_settings)

  module _ (busy : is_idle (doing_at (at own)) ≡ false) (q : Request) (asks : (ns : List NodeState) → q ≡ request (sees b own ns) (at own)) where
    asked : q ≡ request (sees m.bound own (states_of x.nodes)) (at own)
    asked = rw bound at (asks (states_of x.nodes))

    -- what the call's checks come to
    pub step_checks : first_no (checks_of (Step t) (running x m)) ≡ first_no (request_checks t m q)
    step_checks = asks_request (tables_of x) m t (row_of own) row_is busy few known.0 ∙ ap (λ (r : Request). first_no (request_checks t m r)) (sym asked)

    pub step_refused : (m' : Meaning) (e : Refusal) (r : Result Answer Refusal) → IsErrAnd r (λ y. y ≡ e) → first_no (request_checks t m q) ≡ Some e → m' ≡ m → Performs (running x m) (running x m') (Step t) (answer_of r)
    step_refused m' e r is f same = rw same (exits r e is (step_checks ∙ f))

    pub step_done : (m' : Meaning) (d row' : Thread) (ns' : FixedRow NodeState 65) (a : Answer) (k : Told)
        → first_no (request_checks t m q) ≡ None
        → Meets t q m m' k
        → outcome_of row' ns' a ≡ after (sees b (get_or x.threads t d) (states_of x.nodes)) (at (get_or x.threads t d)) k
        → Performs (running x m) (record { tables = Some (record { settings = x.layout.settings; threads = take x.layout.settings.threads (map row_of (set x.threads t row')); nodes = states_of ns'; accepted = x.accepted + 1 }); memory = m' }) (Step t) a
    step_done m' d row' ns' a k passes meets out =
        let P : Request → Type 0 = λ r. Meets t r m m' k in
        let Q : Thread → Type 0 = λ r. outcome_of row' ns' a ≡ after (sees b r (states_of x.nodes)) (at r) k in
        rw (rows_set x.layout.settings.threads x.threads t row')
        (step_moves (tables_of x) m t (row_of own) row_is m' (row_of row') (states_of ns') a k (step_checks ∙ passes) (subst P asked meets) (rw bound at (subst Q (known.1 d) out)))
