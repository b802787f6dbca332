-- A machine that is not set up refuses every call of a line. Assumes nothing.
use Rattle.std.proofs.Common.{◌≡◌, ℕ, Bool, true, false, cond, ◌==◌, List, [], ◌∷◌, Some, None, Option, refl}
use Rattle.std.specs.Option.{option_map}
use Rattle.protocol.specs.declared.answer.Answer.TheVariants.{Refused}
use Rattle.protocol.specs.declared.answer.Refusal.TheVariants.{NotSetUp}
use Rattle.protocol.specs.declared.call.Call.{Call}
use Rattle.protocol.specs.Calls.{Performs}
use Rattle.tables.proofs.Admission.{refused}
use Rattle.lines.specs.Input.{begin_of, call_in, land_of, step_of}
use Rattle.listing.specs.Session.{never}

abbrev Refuses : Option Call → Type 0
Refuses None = Unit {0}
Refuses (Some c) = Performs never never c (Refused NotSetUp)

either : (b : Bool) (x y : Option Call) → Refuses x → Refuses y → Refuses (cond b x y)
either true x y p q = p
either false x y p q = q

mapped : (f : List ℕ → Call) (o : Option (List ℕ)) → ((ns : List ℕ) → Refuses (Some (f ns))) → Refuses (option_map f o)
mapped f None p = tt
mapped f (Some ns) p = p ns

refuses_lines : (bs : List ℕ) → Refuses (call_in bs)
refuses_lines [] = tt
refuses_lines (c ∷ []) = either (c == 116) _ _ (refused refl) tt
refuses_lines (c ∷ d ∷ bs) =
    let lands = mapped land_of _ (λ ns. refused refl) in
    let begins = mapped begin_of _ (λ ns. refused refl) in
    let steps = mapped step_of _ (λ ns. refused refl) in
    either (d == 32) _ _ (either (c == 108) _ _ lands (either (c == 98) _ _ begins (either (c == 115) _ _ steps tt))) tt

-- no line sets a machine up
pub refuses_line : (bs : List ℕ) (c : Call) → call_in bs ≡ Some c → Performs never never c (Refused NotSetUp)
refuses_line bs c e = rw e at (refuses_lines bs)
