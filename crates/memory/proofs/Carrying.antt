-- A loop that carries out calls, turn by turn, and what is so at its end. Assumes nothing.
use Rattle.std.proofs.Common.{◌≡◌, ℕ, ◌+◌, ◌<◌, ◌≤◌, true, List, [], ◌∷◌, ◌++◌, map, reverse, length, get_or, take, sym, ap, ◌∙◌}
use Rattle.std.proofs.lemmas.List.{take_more, take_all, reverse-append}
use Rattle.memory.specs.declared.run.Call.{Call}
use Rattle.memory.specs.Meaning.{Meaning, is_new}
use Rattle.memory.specs.Calls.{Sound}
use Rattle.memory.specs.History.{Outcome, Event, event, Performs, Run, Ran}
use Rattle.memory.proofs.Beginnings.{new_from}
use Rattle.memory.proofs.Laws.{always}

-- the first calls were carried out and told these answers
pub record Upto (asked : List Call) (i : ℕ) (told : List Outcome) (m m' : Meaning) : Type 0 where
  pub events : List Event
  pub calls : map (λ (e : Event). e.call) events ≡ reverse (take i asked)
  pub answers : map (λ (e : Event). e.answer) events ≡ reverse told
  pub run : Run m events m'

pub upto_more : (asked : List Call) (i : ℕ) (c : Call) (a : Outcome) (told told' : List Outcome) (m m' m'' : Meaning) → i < length asked → c ≡ get_or asked i c → told' ≡ told ++ a ∷ []
    → Upto asked i told m m' → Performs c m' m'' a → Upto asked (i + 1) told' m m''
upto_more asked i c a told told' m m' m'' lt e f u p =
    record {
      events = event c a p.landings ∷ u.events;
      calls = ap (◌∷◌ c) u.calls ∙ sym (ap reverse (take_more asked i c lt) ∙ reverse-append (take i asked) (get_or asked i c ∷ []) ∙ ap (λ d. d ∷ reverse (take i asked)) (sym e));
      answers = ap (◌∷◌ a) u.answers ∙ sym (ap reverse f ∙ reverse-append told (a ∷ []));
      run = (m', u.run, p.happens);
    }

pub upto_all : (asked : List Call) (i : ℕ) (told : List Outcome) (m m' : Meaning) → length asked ≤ i → Sound m → is_new m ≡ true → Upto asked i told m m' → Ran asked told m m'
upto_all asked i told m m' le s new u =
    record {
      new = new_from m s new;
      events = u.events;
      calls = rw (take_all i asked le) at u.calls;
      answers = u.answers;
      run = u.run;
      laws = always m (new_from m s new) u.events m' u.run;
    }
