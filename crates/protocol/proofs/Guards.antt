-- No node is free while a guard on it stands: the invariant along every history, and the theorem. Assumes nothing.
use Rattle.std.proofs.Common.{◌≡◌, ℕ, ◌+◌, ◌≤◌, Bool, true, false, cond, eqb, ◌≢◌, ◌⊎◌, List, [], ◌∷◌, ◌++◌, Some, None, Option, sym, refl, ◌∙◌, subst, inl, inr, arith}
use Rattle.std.specs.List.Sorted.{IsNonDecreasingBy}
use Rattle.std.proofs.lemmas.Bool.{cases_eq, cases_lt, eqb-true}
use Rattle.memory.specs.Meaning.{Meaning}
use Rattle.protocol.specs.declared.node.NodeState.{NodeState}
use Rattle.protocol.specs.declared.node.NodeState.TheVariants.{Free, Taken, Published, Removed, Retired as RetiredBy}
use Rattle.protocol.specs.declared.retired.Retired.{Retired}
use Rattle.protocol.specs.declared.settings.Settings.{Settings}
use Rattle.protocol.specs.Begin.{is_free}
use Rattle.protocol.specs.Guarantees.{Explains, NoNodeFreeWhileGuarded, ListsInOrder}
use Rattle.protocol.specs.History.{Event, guard_in, free_in, list_in, names}
use Rattle.protocol.specs.Tables.{Tables, State, node_of}
use Rattle.protocol.proofs.FreeNodes.{free_in_place}
use Rattle.protocol.proofs.Guarded.{InUse, Guarded}
use Rattle.protocol.proofs.GuardedKeep.{Facts, facts_still, guarded_same, guarded_ticks, guarded_lands, guarded_acts}
use Rattle.protocol.proofs.GuardedSweep.{named_state}
use Rattle.protocol.proofs.GuardMemory.{Owns}
use Rattle.protocol.proofs.GuardOwns.{owns_keeps, owns_first}
use Rattle.protocol.proofs.GuardPaths.{guard_path, guard_first, first_idle}
use Rattle.protocol.proofs.GuardView.{GuardState, guard_state, SameLists, Lists, Acts, GuardPath, plain, protects2, protects3, protects4, copies, releases, takes, publishes, occupied, removes, retires, scans1, scans2, sweeps, rests, lands, ticks, acts}
use Rattle.protocol.proofs.Invariants.{FirstHolds, CallsKeep, settings_stay, always}
use Rattle.protocol.proofs.LateSweeps.{named_once}
use Rattle.protocol.proofs.ListDates.{Ordered, empty_ordered, path_ordered}
use Rattle.protocol.proofs.Pigeons.{names_kept}
use Rattle.protocol.proofs.PlacedNodes.{names_push}
use Rattle.protocol.proofs.ShownKeeps.{explains_reached}

-- A list goes on naming each node at most once.
module _ (z : Settings) (t : ℕ) (a a' : GuardState) (f : Facts z a) where
  same_once : SameLists a a' → Facts z a'
  same_once l = record { once = λ u n. rw (l.list u) (f.once u n) }

  lists_once : (l : List Retired) → Lists t l a a' → ((n : ℕ) → names n l ≤ 1) → Facts z a'
  lists_once l s o = record { once = λ u n. at u n (cases_eq u t) }
    where
      at : (u n : ℕ) → (u ≡ t) ⊎ (u ≢ t) → names n (a'.list u) ≤ 1
      at u n (inl e) = rw (e, s.here) (o n)
      at u n (inr ne) = rw (s.others u ne) (f.once u n)

  -- a node that is removed is on no list yet
  push_once : (n d : ℕ) → a.node n ≡ Removed t → Guarded z a → (k : ℕ) → names k (a.list t ++ record { node = n; date = d } ∷ []) ≤ 1
  push_once n d is g k = rw (names_push k (a.list t) (record { node = n; date = d })) (at (eqb n k) refl)
    where
      at : (b : Bool) → eqb n k ≡ b → names k (a.list t) + cond b 1 0 ≤ 1
      at false e = let o = f.once t k in omega arith
      at true e = elim (cases_lt 0 (names k (a.list t))) [
        | inl lt ↦
            let was = named_state a.node (RetiredBy t) k (a.list t) (g.listed t) lt in
            let same = eqb-true n k e in
            let now : a.node k ≡ Removed t = subst (λ (j : ℕ). a.node j ≡ Removed t) same is in
            absurd cc
        | inr le ↦ omega arith
      ]

  facts_acts : Acts z t a a' → Guarded z a → Facts z a'
  facts_acts (plain pl ready goes c k n l) g = same_once l
  facts_acts (protects2 e low goes s k m l) g = same_once l
  facts_acts (protects3 e low pos is goes c k m l) g = same_once l
  facts_acts (protects4 e low goes s k m l) g = same_once l
  facts_acts (copies e goes s k m l) g = same_once l
  facts_acts (releases e low goes s k m l) g = same_once l
  facts_acts (takes is goes c k m l) g = same_once l
  facts_acts (publishes is goes c k m l) g = same_once l
  facts_acts (occupied is goes c k m l) g = same_once l
  facts_acts (removes is goes c k m l) g = same_once l
  facts_acts (retires {n} is goes c k m l) g = lists_once _ l (push_once n a.clock is g)
  facts_acts (scans1 goes c k m l) g = same_once l
  facts_acts (scans2 e low loads s goes c k m l) g = same_once l
  facts_acts (sweeps {now} {seen} e all goes c k n l) g = lists_once _ l (λ n. let o = f.once t n in omega (arith, names_kept a.bound now seen n (a.list t)))

-- The invariant along a path.
pub path_keeps : (z : Settings) (a' a : GuardState) → GuardPath z a' a → Facts z a → Guarded z a → Guarded z a'
path_keeps z a' a (rests c s) f g = guarded_same z a a' c s g
path_keeps z a' a (lands t b l s path) f g = path_keeps z a' b path (facts_still z a b s f) (guarded_lands z t a b l s g)
path_keeps z a' a (ticks b l s path) f g = path_keeps z a' b path (facts_still z a b s f) (guarded_ticks z a b l s g)
path_keeps z a' a (acts t b lt w path) f g = path_keeps z a' b path (facts_acts z t a b f w g) (guarded_acts z t a b w lt f g)

-- Along every history.

pub record GuardInv (x : Tables) (m : Meaning) : Type 0 where
  pub guarded : Guarded x.settings (guard_state x m)
  pub owns : Owns x.settings m
  pub ordered : Ordered (guard_state x m)

guards_start : FirstHolds GuardInv
guards_start z m new sound range =
    record { guarded = guard_first z m sound new; owns = owns_first z m sound new; ordered = λ t. rw (first_idle z t).1 (empty_ordered m.clock) }

guards_stay : CallsKeep GuardInv
guards_stay s s' c a k x x' w inv e e' i =
    let path = guard_path s s' x x' w inv i.owns e e' i.guarded.ready in
    let facts : Facts x.settings (guard_state x s.memory) = record { once = λ t n. named_once x s.memory t (inv.placed x e) n } in
    let same = sym (settings_stay s s' x x' w e e') in
    record {
      guarded = subst (λ (z : Settings). Guarded z (guard_state x' s'.memory)) same (path_keeps x.settings (guard_state x' s'.memory) (guard_state x s.memory) path facts i.guarded);
      owns = subst (λ (z : Settings). Owns z s'.memory) same (owns_keeps s s' x x' w inv e e' i.owns);
      ordered = path_ordered x.settings (guard_state x' s'.memory) (guard_state x s.memory) path i.ordered;
    }

pub explains_guarded : (h : List Event) (s : State) → Explains h s → (x : Tables) → s.tables ≡ Some x → GuardInv x s.memory
explains_guarded = always GuardInv guards_start guards_stay

-- The theorem.

used_kept : (n : NodeState) → InUse n → is_free n ≡ false
used_kept Free u = absurd u
used_kept (Taken t) u = refl
used_kept (Published r) u = refl
used_kept (Removed t) u = refl
used_kept (RetiredBy t) u = refl

pub no_node_free_while_guarded : NoNodeFreeWhileGuarded
no_node_free_while_guarded h s w t i pos = go s.tables refl
  where
    b : ℕ
    b = s.memory.bound

    go : (o : Option Tables) → s.tables ≡ o → free_in b h (guard_in h t i) ≡ false
    go None n = let d = ((explains_reached h s w).before n).guards t i in absurd (omega arith)
    go (Some x) n =
        let shown = ((explains_reached h s w).shown x n).shows in
        let used = (explains_guarded h s w x n).guarded.used t i (rw (shown.guards t i) pos) in
        free_in_place h s w (guard_in h t i) ∙ rw (sym (shown.nodes (guard_in h t i))) (used_kept (node_of x (guard_in h t i)) (rw (shown.guards t i) at used))

-- Along a retire list the dates never fall.
pub lists_in_order : ListsInOrder
lists_in_order h s w t = go s.tables refl
  where
    b : ℕ
    b = s.memory.bound

    go : (o : Option Tables) → s.tables ≡ o → IsNonDecreasingBy (λ (e : Retired). e.date) (list_in b h t)
    go None n = rw (((explains_reached h s w).before n).lists b t) (empty_ordered 0).rises
    go (Some x) n = rw (sym (((explains_reached h s w).shown x n).shows.lists t)) ((explains_guarded h s w x n).ordered t).rises
