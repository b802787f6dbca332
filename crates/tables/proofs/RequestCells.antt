-- What a fitting thread asks for is a cell that there is. Assumes nothing.
use Rattle.std.proofs.Common.{◌≡◌, ℕ, ◌+◌, ◌*◌, ◌<◌, Bool, true, false, cond, ◌&&◌, eqb, ltb, leb, List, length, Some, None, Option, refl, arith}
use Rattle.std.proofs.lemmas.Bool.{and_parts, ltb-true}
use Rattle.protocol.specs.declared.operation.Operation.{Operation}
use Rattle.protocol.specs.declared.operation.Operation.TheVariants.{Protect, Copy, Release, Publish, Remove, Reclaim, OwnerLock, OwnerUnlock, OtherLock, OtherUnlock}
use Rattle.protocol.specs.Begin.{fits}
use Rattle.protocol.specs.Settings.{hazard_cells}
use Rattle.protocol.specs.Steps.{Here, request}
use Rattle.protocol.specs.Tables.{Point}
use Rattle.protocol.proofs.PlacedMemory.{Ranges, hazard_inside}
use Rattle.tables.specs.Asked.{InCells}
use Rattle.tables.specs.Threads.{point_of, room_for, cell_left, fitting_of}

module _ (x : Here) (r : Ranges x.settings) (lt : x.thread < x.settings.threads) where
  either : (b : Bool) (p q : Point) → InCells (request x p) → InCells (request x q) → InCells (request x (cond b p q))
  either true p q f g = f
  either false p q f g = g

  where_so : (b : Bool) (p q : Point) → (b ≡ true → InCells (request x p)) → InCells (request x q) → InCells (request x (cond b p q))
  where_so true p q f g = f refl
  where_so false p q f g = g

  -- the cells of the lock stand behind the hazard cells
  lock : (n : ℕ) → n < 3 → x.settings.roots + (hazard_cells x.settings + n) < 64
  lock n few = let a = r.roots in let b = r.cells in omega arith

  root : (i : ℕ) → ltb i x.settings.roots ≡ true → i < 64
  root i e = let a = ltb-true i x.settings.roots e in let b = r.roots in omega arith

  hazard : (h : ℕ) → ltb h x.settings.hazards ≡ true → x.settings.roots + (x.settings.hazards * x.thread + h) < 64
  hazard h e = hazard_inside x.settings x.thread h r lt (ltb-true h x.settings.hazards e)

  scan : (s n : ℕ) → cond (eqb s 2) (ltb n (hazard_cells x.settings)) true ≡ true → eqb s 2 ≡ true → x.settings.roots + n < 64
  scan s n e two =
      let a = ltb-true n (hazard_cells x.settings) (rw two at e) in
      let b = r.roots in
      let c = r.cells in
      omega arith

  -- the arguments that the operation has
  args : (o : Operation) (s n k : ℕ) → fitting_of x.settings (Some o) s n k ≡ true → fits x.settings o ≡ true
  args o s n k e = (and_parts (fits x.settings o) (room_for x.settings k o && cell_left x.settings s n o) e).0

  pub request_cells : (o : Option Operation) (s n v c : ℕ) (seen : List ℕ) (k : ℕ) → fitting_of x.settings o s (length seen) k ≡ true → InCells (request x (point_of o s n v c seen))
  request_cells None s n v c seen k e = tt
  request_cells (Some (Protect a h)) s n v c seen k e =
      let f = and_parts (ltb a x.settings.roots) (ltb h x.settings.hazards) (args (Protect a h) s (length seen) k e) in
      let load = root a f.0 in
      let store = hazard h f.1 in
      either (eqb s 1) _ _ load (either (eqb s 2) _ _ store (either (eqb s 3) _ _ load store))
  request_cells (Some (Copy a b)) s n v c seen k e = hazard b (and_parts (ltb a b) (ltb b x.settings.hazards) (args (Copy a b) s (length seen) k e)).1
  request_cells (Some (Release a)) s n v c seen k e = hazard a (args (Release a) s (length seen) k e)
  request_cells (Some (Publish a m)) s n v c seen k e = root a (and_parts (ltb a x.settings.roots) (leb 1 m && leb m x.settings.nodes) (args (Publish a m) s (length seen) k e)).0
  request_cells (Some (Remove a)) s n v c seen k e =
      let load = root a (args (Remove a) s (length seen) k e) in
      either (eqb s 1) _ _ load (either (eqb s 2) _ _ load tt)
  request_cells (Some Reclaim) s n v c seen k e = either (eqb s 1) _ _ tt (where_so (eqb s 2) _ _ (scan s (length seen) e) tt)
  request_cells (Some OwnerLock) s n v c seen k e =
      let flag0 = lock 1 (omega arith) in
      let flag1 = lock 2 (omega arith) in
      either (eqb s 1) _ _ flag0 (either (eqb s 2) _ _ flag1 (either (eqb s 3) _ _ flag0 (either (eqb s 4) _ _ (omega (arith, lock 0 (omega arith))) flag1)))
  request_cells (Some OwnerUnlock) s n v c seen k e =
      let flag0 = lock 1 (omega arith) in
      either (eqb s 1) _ _ flag0 (either (eqb s 2) _ _ flag0 (either (eqb s 3) _ _ flag0 (omega (arith, lock 0 (omega arith)))))
  request_cells (Some OtherLock) s n v c seen k e =
      let flag0 = lock 1 (omega arith) in
      let flag1 = lock 2 (omega arith) in
      either (eqb s 1) _ _ (omega (arith, lock 0 (omega arith)))
      (either (eqb s 2) _ _ flag1
      (either (eqb s 3) _ _ flag1
      (either (eqb s 4) _ _ tt
      (either (eqb s 5) _ _ tt
      (either (eqb s 6) _ _ tt
      (either (eqb s 7) _ _ flag0 flag0))))))
  request_cells (Some OtherUnlock) s n v c seen k e =
      let flag1 = lock 2 (omega arith) in
      either (eqb s 1) _ _ flag1 (either (eqb s 2) _ _ flag1 (omega (arith, lock 0 (omega arith))))
