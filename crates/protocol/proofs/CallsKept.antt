-- What every call and every run promises, from its moves. Assumes nothing.
use Rattle.std.proofs.Common.{◌≡◌, ℕ, ◌+◌, ◌<◌, ◌≤◌, List, [], ◌∷◌, ◌++◌, reverse, length, get_or, take, sym, refl, ap, ◌∙◌}
use Rattle.std.proofs.lemmas.List.{take_more, take_all, reverse-append}
use Rattle.memory.specs.Calls.{Sound}
use Rattle.memory.specs.Meaning.{Meaning}
use Rattle.protocol.specs.declared.answer.Answer.{Answer}
use Rattle.protocol.specs.declared.call.Call.{Call}
use Rattle.protocol.specs.Calls.{Moves, Leads, Performs, Runs, begun_over}
use Rattle.protocol.specs.Guarantees.{Explains}
use Rattle.protocol.specs.History.{event}
use Rattle.protocol.specs.Steps.{Told}
use Rattle.protocol.specs.Tables.{State}
use Rattle.protocol.specs.Transition.{Trans}
use Rattle.protocol.proofs.WholeGuarantee.{all_the_guarantees}

pub leads : (s s' : State) (c : Call) (a : Answer) (k : Told) → Trans s s' c a k → Leads s s' c a k
unfolding Leads
leads s s' c a k t = λ h r. let r' : Explains (event c a k ∷ h) s' = (s, r, t) in (r', all_the_guarantees (event c a k ∷ h) s' r')

pub performed : {s s' : State} {c : Call} {a : Answer} → Moves s s' c a → Performs s s' c a
performed {s} {s'} {c} {a} m = record { told = m.told; moves = m.trans; leads = leads s s' c a m.told m.trans }

-- no call has been made
pub runs_none : (m : Meaning) (told : List Answer) (s : State) → Sound m → told ≡ [] → s ≡ begun_over m → Runs m [] told s
runs_none m told s sound none e =
    let w : Explains [] s = rw e (refl, sound) in
    record { history = []; calls = refl; answers = rw none refl; follows = e; explains = w; guarantees = all_the_guarantees [] s w }

-- one more call
pub runs_more : (m : Meaning) (asked : List Call) (i : ℕ) (c : Call) (a : Answer) (told told' : List Answer) (s s' : State) → i < length asked → c ≡ get_or asked i c → told' ≡ told ++ a ∷ []
    → Runs m (take i asked) told s → Performs s s' c a → Runs m (take (i + 1) asked) told' s'
unfolding Leads
runs_more m asked i c a told told' s s' lt e f u p =
    let next = p.leads u.history u.explains in
    record {
      history = event c a p.told ∷ u.history;
      calls = ap (◌∷◌ c) u.calls ∙ sym (ap reverse (take_more asked i c lt) ∙ reverse-append (take i asked) (get_or asked i c ∷ []) ∙ ap (λ d. d ∷ reverse (take i asked)) (sym e));
      answers = ap (◌∷◌ a) u.answers ∙ sym (ap reverse f ∙ reverse-append told (a ∷ []));
      follows = (s, u.follows, p.moves);
      explains = next.0;
      guarantees = next.1;
    }

pub runs_all : (m : Meaning) (asked : List Call) (i : ℕ) (told : List Answer) (s : State) → length asked ≤ i → Runs m (take i asked) told s → Runs m asked told s
runs_all m asked i told s le u = rw (take_all i asked le) at u
