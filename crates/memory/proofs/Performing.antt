-- What each call of a memory promises is an event that happens. Assumes nothing.
use Rattle.std.proofs.Common.{◌≡◌, ℕ, Bool, List, [], ◌∷◌, length, Ok, Err, Result, refl, ap, ◌∙◌, arith}
use Rattle.std.specs.Result.{result_map_both}
use Rattle.memory.specs.declared.write.Write.{Write}
use Rattle.memory.specs.declared.refusal.Refusal.{Refusal}
use Rattle.memory.specs.declared.run.Call.{Call}
use Rattle.memory.specs.declared.run.Call.TheVariants.{Store, Load, Land, Exchange, Tick}
use Rattle.memory.specs.declared.run.Answer.TheVariants.{Done, Value, Swapped}
use Rattle.memory.specs.Meaning.{Meaning, queue, stored, landed}
use Rattle.memory.specs.Landings.{Lands}
use Rattle.memory.specs.Calls.{Refuses, Stores, Loads, LandsOne, Exchanges, Ticks}
use Rattle.memory.specs.History.{Outcome, Performs, checks_of, refuses, stores, loads, lands, exchanges, ticks}
use Rattle.memory.proofs.Views.{landed_pops, landed_fixed}
use Rattle.memory.proofs.Passing.{land_passed}

-- in an arm of a match the call is known by an equation, and so is what is handed on of the memory's own answer
pub asked : {c d : Call} {m m' : Meaning} {a b : Outcome} → c ≡ d → a ≡ b → Performs d m m' b → Performs c m m' a
asked e f p = rw (e, f) p

pub refusal_happens : (c : Call) (e : Refusal) (m m' : Meaning) → Refuses (checks_of c m) e m m' → Performs c m m' (Err e)
refusal_happens c e m m' r = record { landings = []; happens = refuses r.fails r.same }

stored_self : (t c v : ℕ) (m : Meaning) → (stored t c v m).self_landing ≡ m.self_landing
unfolding stored
stored_self t c v m = refl

pub store_happens : (t c v : ℕ) (m m' : Meaning) (r : Result (Unit {0}) Refusal) → Stores Lands t c v m m' r → Performs (Store t c v) m m' (result_map_both (λ _. Done) (λ e. e) r)
store_happens t c v m m' (Ok u) a =
    record { landings = a.does.landings; happens = stores a.passes a.does.lead (λ own. a.does.none (stored_self t c v m ∙ own)) }
store_happens t c v m m' (Err e) a = refusal_happens (Store t c v) e m m' a

pub load_happens : (t c : ℕ) (m m' : Meaning) (r : Result ℕ Refusal) → Loads Lands t c m m' r → Performs (Load t c) m m' (result_map_both Value (λ e. e) r)
load_happens t c m m' (Ok v) a =
    record { landings = a.does.lands.landings; happens = loads a.passes a.does.lands.lead a.does.lands.none a.does.value }
load_happens t c m m' (Err e) a = refusal_happens (Load t c) e m m' a

-- the landing that was told comes first
pub land_happens : (t : ℕ) (m m' : Meaning) (r : Result (Unit {0}) Refusal) → LandsOne Lands t m m' r → Performs (Land t) m m' (result_map_both (λ _. Done) (λ e. e) r)
land_happens t m m' (Err e) a = refusal_happens (Land t) e m m' a
land_happens t m m' (Ok u) a = go (queue m t) refl
  where
    go : (q : List Write) → queue m t ≡ q → Performs (Land t) m m' (Ok Done)
    go [] e = let some = (land_passed t m a.passes).1 in absurd (omega (arith, ap length e))
    go (w ∷ ws) e =
        let p = landed_pops t m w ws e in
        let told : queue m t ≡ w ∷ queue (landed t m) t = let f = p.was in let g = p.left in cc in
        record {
          landings = record { thread = t; write = w } ∷ a.does.landings;
          happens = lands a.passes refl (told, a.does.lead) (λ own. a.does.none ((landed_fixed t m).self_landing ∙ own));
        }

pub exchange_happens : (t c old new : ℕ) (m m' : Meaning) (r : Result Bool Refusal) → Exchanges Lands t c old new m m' r → Performs (Exchange t c old new) m m' (result_map_both Swapped (λ e. e) r)
exchange_happens t c old new m m' (Err e) a = refusal_happens (Exchange t c old new) e m m' a
exchange_happens t c old new m m' (Ok done) a =
    record {
      landings = a.does.lands.landings;
      happens = exchanges a.does.between a.passes a.does.lands.lead a.does.lands.none a.does.answer a.does.is;
    }

pub tick_happens : (m m' : Meaning) (r : Result (Unit {0}) Refusal) → Ticks Lands m m' r → Performs Tick m m' (result_map_both (λ _. Done) (λ e. e) r)
tick_happens m m' (Err e) a = refusal_happens Tick e m m' a
tick_happens m m' (Ok u) a =
    record {
      landings = a.does.lands.landings;
      happens = ticks a.does.between a.passes a.does.lands.lead a.does.lands.none a.does.none_due a.does.is;
    }
