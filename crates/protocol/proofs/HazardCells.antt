-- Whose hazard cell a cell is, by division. Assumes nothing.
use Rattle.std.proofs.Common.{◌≡◌, ℕ, ◌-◌, ◌/◌, ◌%◌, ◌<◌, ◌≤◌, Bool, true, false, cond, ◌&&◌, ltb, leb, Some, None, sym, refl, ◌∙◌, arith}
use Rattle.std.proofs.lemmas.Nat.{div-add-mod', div_below, mod_below, mul-add-lt}
use Rattle.std.proofs.lemmas.Bool.{true≢false, and_parts, and_from, leb-true, ltb-true, le-leb, lt-ltb}
use Rattle.protocol.specs.declared.settings.Settings.{Settings}
use Rattle.protocol.specs.Questions.{NamesHazard, hazard_at}
use Rattle.protocol.specs.Settings.{lock_cell}

pub names_hazard : (z : Settings) (c : ℕ) → 0 < z.hazards → NamesHazard z c (hazard_at z c)
names_hazard z c some = by (leb z.roots c && ltb c (lock_cell z)) refl
  where
    t : ℕ
    t = (c - z.roots) / z.hazards

    i : ℕ
    i = (c - z.roots) % z.hazards

    by : (b : Bool) → (leb z.roots c && ltb c (lock_cell z)) ≡ b → NamesHazard z c (cond b (Some (t, i)) None)
    by true e =
        let both = and_parts (leb z.roots c) (ltb c (lock_cell z)) e in
        let low : z.roots ≤ c = leb-true z.roots c both.0 in
        let high : c < lock_cell z = ltb-true c (lock_cell z) both.1 in
        (omega (arith, low, div-add-mod' (c - z.roots) z.hazards), div_below (c - z.roots) z.hazards z.threads some (omega (arith, low, high)), mod_below (c - z.roots) z.hazards some)
    by false e = λ u k lt lt' same.
        let inside = mul-add-lt u z.hazards k z.threads lt lt' in
        let low : z.roots ≤ c = omega (arith, same) in
        let high : c < lock_cell z = omega (arith, same, inside) in
        let yes = and_from (leb z.roots c) (ltb c (lock_cell z)) (le-leb z.roots c low) (lt-ltb c (lock_cell z) high) in
        true≢false (sym yes ∙ e)
