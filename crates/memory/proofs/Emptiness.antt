-- Tests over all threads and all cells. Assumes nothing.
use Rattle.std.proofs.Common.{◌≡◌, ℕ, ◌<◌, ◌≤◌, Bool, true, false, eqb, ◌⊎◌, List, [], map, length, None, Ok, Err, Result, not, sym, refl, ap, ◌∙◌, inl, inr}
use Rattle.std.specs.Result.{result_eq}
use Rattle.std.specs.List.{list_all, range_with_len}
use Rattle.std.proofs.lemmas.List.{nil_from_length, get_or_past}
use Rattle.std.proofs.lemmas.List.FromFn.{fill_by_all}
use Rattle.std.proofs.lemmas.List.Folds.{list_all-map}
use Rattle.std.proofs.lemmas.List.Sums.{AllPass-from_list_all}
use Rattle.std.proofs.lemmas.Option.{none-some}
use Rattle.std.proofs.lemmas.Bool.{cases_lt, lt-ltb, eqb-true}
use Rattle.memory.specs.declared.write.Write.{Write}
use Rattle.memory.specs.declared.refusal.Refusal.{Refusal}
use Rattle.memory.specs.Meaning.{Meaning, queue, waiting_count, cell, newest, value_or, loaded, nothing_waits}
use Rattle.memory.specs.Landings.{Lands}
use Rattle.memory.specs.Checks.{first_no, load_checks}
use Rattle.memory.specs.Calls.{Loaded, Loads}
use Rattle.memory.proofs.Views.{lands_empty}

-- asking each thread whether anything of it waits is asking all rows
pub all_waiting : (m : Meaning) → length m.waiting ≡ 8 → list_all (λ t. eqb (waiting_count m t) 0) (range_with_len 0 8) ≡ nothing_waits m
all_waiting m e =
    let rows : m.waiting ≡ map (queue m) (range_with_len 0 8) = fill_by_all (queue m) m.waiting 8 [] e (λ k lt. refl) in
    sym (ap (list_all (λ (ws : List Write). eqb (length ws) 0)) rows ∙ list_all-map (λ (ws : List Write). eqb (length ws) 0) (queue m) (range_with_len 0 8))

-- nothing waits, thread by thread
pub none_waits : (m : Meaning) → nothing_waits m ≡ true → (t : ℕ) → queue m t ≡ []
none_waits m e t = at (cases_lt t (length m.waiting))
  where
    at : (t < length m.waiting) ⊎ (length m.waiting ≤ t) → queue m t ≡ []
    at (inl lt) = nil_from_length (queue m t) (eqb-true (length (queue m t)) 0 (AllPass-from_list_all (λ (ws : List Write). eqb (length ws) 0) m.waiting e t [] lt))
    at (inr le) = get_or_past m.waiting t [] le

-- where nothing waits, a load lands nothing and tells the cell
pub idle_load : (t c v : ℕ) (m m' : Meaning) → nothing_waits m ≡ true → Loaded Lands t c m m' v → (m' ≡ m) × (v ≡ cell m c)
unfolding loaded
idle_load t c v m m' e l =
    let same : m' ≡ m = lands_empty (none_waits m e) l.lands in
    (same, l.value ∙ ap (λ (x : Meaning). loaded x t c) same ∙ ap (λ (q : List Write). value_or (newest q c) (cell m c)) (none_waits m e t))

-- and one of a cell in range is not refused
idle_load_in_range : (c : ℕ) (m m' : Meaning) (r : Result ℕ Refusal) → c < 64 → nothing_waits m ≡ true → Loads Lands 0 c m m' r → (m' ≡ m) × (r ≡ Ok (cell m c))
idle_load_in_range c m m' (Ok v) lt e l = let idle = idle_load 0 c v m m' e l.does in (idle.0, ap Ok idle.1)
idle_load_in_range c m m' (Err f) lt e l =
    let p : first_no (load_checks 0 c) ≡ None = rw (lt-ltb c 64 lt) refl in
    absurd (none-some f (sym p ∙ l.fails))

-- so whether its answer differs from 0 tells whether the cell does
pub cell_told : (same : Refusal → Refusal → Bool) (c : ℕ) (begun m m' : Meaning) (r : Result ℕ Refusal) (b : Bool) → c < 64 → m ≡ begun → nothing_waits begun ≡ true → Loads Lands 0 c m m' r
    → b ≡ not (result_eq eqb same r (Ok 0)) → (m' ≡ begun) × (eqb (cell begun c) 0 ≡ not b)
cell_told same c begun m m' r b lt e none l f =
    let h = idle_load_in_range c m m' r lt (rw e none) l in
    (h.0 ∙ e, go (eqb (cell begun c) 0) b (rw (h.1, e) at f))
  where
    go : (x b : Bool) → b ≡ not x → x ≡ not b
    go true b f = rw f refl
    go false b f = rw f refl
