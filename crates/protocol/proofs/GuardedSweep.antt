-- What a sweep frees and keeps of a list: a freed node has no guard, and a kept one is not freed. Assumes nothing.
use Rattle.std.proofs.Common.{◌≡◌, ℕ, ◌<◌, ◌≤◌, Bool, true, false, cond, not, eqb, List, [], ◌∷◌, length, filter, refl, arith}
use Rattle.std.specs.List.{AllByRecursion}
use Rattle.std.proofs.ByRecursion.{All-weaker}
use Rattle.std.proofs.lemmas.Bool.{eqb-true, eq-eqb, ltb-true, not-false, or_parts, both_ways}
use Rattle.memory.specs.Meaning.{any_of}
use Rattle.protocol.specs.declared.node.NodeState.{NodeState}
use Rattle.protocol.specs.declared.retired.Retired.{Retired}
use Rattle.protocol.specs.declared.settings.Settings.{Settings}
use Rattle.protocol.specs.History.{names}
use Rattle.protocol.specs.Settings.{hazard_cells}
use Rattle.protocol.specs.Steps.{old, keeps, freed}
use Rattle.protocol.proofs.GuardedParts.{SpottedAs}
use Rattle.protocol.proofs.GuardedScan.{scan_ends}
use Rattle.protocol.proofs.GuardView.{GuardState}
use Rattle.protocol.proofs.PlacedNodes.{names_parts}

-- a guarded node is not freed: a sweep that has loaded all cells has seen it, or it is not old
module _ (z : Settings) (a : GuardState) (u t i n now : ℕ) (seen : List ℕ) (lt : t < z.threads) (low : i < z.hazards) (all : length seen ≡ hazard_cells z) where
  seen_kept : (e : Retired) → SpottedAs z a u t i n now seen e → keeps a.bound now seen e ≡ false → e.node ≡ n → ⊥
  seen_kept e h f is =
      let parts = or_parts (not (old a.bound now e.date)) (any_of (λ v. eqb v e.node) seen) f in
      let late = ltb-true _ _ (not-false (old a.bound now e.date) parts.0) in
      let yes = scan_ends z a u t i n seen lt low all (h is (omega arith)) in
      both_ways (any_of (λ v. eqb v n) seen) (rw is at parts.1) yes

  pub freed_unguarded : (l : List Retired) → AllByRecursion (SpottedAs z a u t i n now seen) l → names n (freed a.bound now seen l) ≡ 0
  freed_unguarded [] h = refl
  freed_unguarded (e ∷ l) (x, h) = at (keeps a.bound now seen e) refl (freed_unguarded l h)
    where
      other : (b : Bool) → eqb e.node n ≡ b → keeps a.bound now seen e ≡ false → ◌≡◌ {A = ℕ} (cond b 1 0) 0
      other true f is = absurd (seen_kept e x is (eqb-true e.node n f))
      other false f is = refl

      at : (b : Bool) → keeps a.bound now seen e ≡ b → names n (freed a.bound now seen l) ≡ 0 → names n (freed a.bound now seen (e ∷ l)) ≡ 0
      at true is more = rw is more
      at false is more = rw is (rw (other (eqb e.node n) refl is, more) refl)

-- a list names its nodes
named_all : (l : List Retired) → AllByRecursion (λ (e : Retired). 0 < names e.node l) l
named_all [] = tt
named_all (e ∷ l) = (
  rw (eq-eqb e.node e.node refl) (omega arith),
  All-weaker (λ (x : Retired). 0 < names x.node l) (λ (x : Retired). 0 < names x.node (e ∷ l)) (λ x h. omega arith) l (named_all l),
)

-- what a list names once is not both kept and freed
pub kept_apart : (p : Retired → Bool) (l : List Retired) → ((n : ℕ) → names n l ≤ 1) → AllByRecursion (λ (e : Retired). names e.node (filter (λ x. not (p x)) l) ≡ 0) (filter p l)
kept_apart p l once =
    All-weaker (λ (e : Retired). 0 < names e.node (filter p l)) (λ (e : Retired). names e.node (filter (λ x. not (p x)) l) ≡ 0)
    (λ e h. let x = names_parts p e.node l in let y = once e.node in omega arith) (filter p l) (named_all (filter p l))

-- a named node is in the state of all listed ones
pub named_state : (node : ℕ → NodeState) (s : NodeState) (n : ℕ) (l : List Retired) → AllByRecursion (λ (e : Retired). node e.node ≡ s) l → 0 < names n l → node n ≡ s
named_state node s n [] h pos = absurd (omega arith)
named_state node s n (e ∷ l) (x, h) pos = at (eqb e.node n) refl (named_state node s n l h)
  where
    at : (b : Bool) → eqb e.node n ≡ b → (0 < names n l → node n ≡ s) → node n ≡ s
    at true f more = rw (eqb-true e.node n f) at x
    at false f more = let y = rw f at pos in more (omega arith)
