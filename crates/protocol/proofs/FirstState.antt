-- What is new: a list that repeats one value, and a memory that nothing has used. Assumes nothing.
use Rattle.std.proofs.Common.{◌≡◌, ℕ, zero, suc, true, [], get_or, replicate, refl, ap, ◌∙◌}
use Rattle.memory.specs.Calls.{Sound}
use Rattle.memory.specs.Meaning.{Meaning, queue, cell, is_new}
use Rattle.memory.proofs.Beginnings.{new_from}
use Rattle.memory.proofs.Soundness.{fresh_queue}

-- what holds of the value and of the default holds at every place
pub replicated : {A : Type 0} (P : A → Type 0) (n i : ℕ) (a d : A) → P a → P d → P (get_or (replicate n a) i d)
replicated P zero i a d p q = q
replicated P (suc n) zero a d p q = p
replicated P (suc n) (suc i) a d p q = replicated P n i a d p q

pub same_all : {A : Type 0} (n i : ℕ) (d : A) → get_or (replicate n d) i d ≡ d
same_all {A} n i d = replicated (λ (a : A). a ≡ d) n i d d refl refl

-- a new memory: nothing waits, and every cell is 0
pub new_empty : (m : Meaning) → Sound m → is_new m ≡ true → (t : ℕ) → queue m t ≡ []
new_empty m s new t = ap (λ (y : Meaning). queue y t) (new_from m s new) ∙ fresh_queue m.bound m.self_landing t

pub new_blank : (m : Meaning) → Sound m → is_new m ≡ true → (c : ℕ) → cell m c ≡ 0
new_blank m s new c = ap (λ (y : Meaning). cell y c) (new_from m s new) ∙ same_all 64 c 0
