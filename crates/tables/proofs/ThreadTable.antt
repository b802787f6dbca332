-- The threads of the tables, by number. Assumes nothing.
use Rattle.std.proofs.Common.{◌≡◌, ℕ, zero, suc, ◌<◌, true, List, [], ◌∷◌, map, length, get_or, take, set, sym, refl, ap, ◌∙◌, inl, inr, arith, length-set}
use Rattle.std.proofs.lemmas.List.{get_or-take, get_or-map, map-set, get_or-set_same, get_or-set_other}
use Rattle.std.proofs.lemmas.Bool.{cases_eq}
use Rattle.protocol.specs.declared.settings.Settings.{Settings}
use Rattle.protocol.specs.Tables.{idle_thread, thread_of}
use Rattle.tables.specs.declared.tables.Tables.{Tables}
use Rattle.tables.specs.declared.thread.Thread.{Thread}
use Rattle.tables.specs.Fitting.{Fitting}
use Rattle.tables.specs.State.{tables_of}
use Rattle.tables.specs.Threads.{fitting, row_of}

pub row_at : (x : Tables) (t : ℕ) (d : Thread) → t < x.layout.settings.threads → thread_of (tables_of x) t ≡ row_of (get_or x.threads t d)
row_at x t d lt =
    let high = x.layout.threads_high in
    let long = x.eight in
    get_or-take x.layout.settings.threads (map row_of x.threads) t (idle_thread 0) lt ∙ get_or-map row_of x.threads t d (idle_thread 0) (omega arith)

-- a write into a list is a write into its row, also behind the row's end
pub take-set_any : {X : Type 0} (n : ℕ) (xs : List X) (i : ℕ) (y : X) → take n (set xs i y) ≡ set (take n xs) i y
take-set_any zero xs i y = refl
take-set_any (suc n) [] i y = refl
take-set_any (suc n) (x ∷ xs) zero y = refl
take-set_any {X} (suc n) (x ∷ xs) (suc i) y = ap (λ (l : List X). x ∷ l) (take-set_any n xs i y)

-- one thread's row is replaced
pub rows_set : (n : ℕ) (ts : List Thread) (t : ℕ) (r : Thread) → take n (map row_of (set ts t r)) ≡ set (take n (map row_of ts)) t (row_of r)
rows_set n ts t r = ap (take n) (map-set row_of ts t r) ∙ take-set_any n (map row_of ts) t (row_of r)

pub fitting_set : (z : Settings) (ts : List Thread) (t : ℕ) (r : Thread) → Fitting z ts → fitting z r ≡ true → Fitting z (set ts t r)
fitting_set z ts t r all own d u lt =
    let lt' : u < length ts = rw (sym (length-set ts t r)) lt in
    elim (cases_eq u t) [ inl e ↦ (rw (e, get_or-set_same ts t r d (rw e at lt')) own) | inr ne ↦ (rw (get_or-set_other ts t u r d ne) (all d u lt')) ]
