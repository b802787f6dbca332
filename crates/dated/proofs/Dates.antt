-- Lists whose stamps never fall, over any element: what an append leaves of that order, and what it says of the first.
use Rattle.std.proofs.Common.{ℕ, zero, suc, ◌-◌, ◌≤◌, List, [], ◌∷◌, ◌++◌, length, suc-le-suc, zero-le, le_of_suc-le-suc, arith}
use Rattle.std.specs.List.{AllByRecursion}
use Rattle.std.specs.List.Sorted.{IsNonDecreasingBy}
use Rattle.std.proofs.ByRecursion.{All-from_get_or, All-get_or}
use Rattle.std.proofs.lemmas.List.Sorted.{IsNonDecreasingBy-push}

pub rises_append : {X : Type 0} (n : X → ℕ) (xs : List X) (x : X) → IsNonDecreasingBy n xs → AllByRecursion (λ y. n y ≤ n x) xs → IsNonDecreasingBy n (xs ++ x ∷ [])
rises_append n xs x up late =
    IsNonDecreasingBy-push n xs x up
    (λ d some. All-get_or (λ y. n y ≤ n x) xs (length xs - 1) d (omega arith) late)

pub rises_head : {X : Type 0} (n : X → ℕ) (x : X) (xs : List X) → IsNonDecreasingBy n (x ∷ xs) → AllByRecursion (λ y. n x ≤ n y) xs
rises_head n x xs up = All-from_get_or (λ y. n x ≤ n y) xs x (λ i h. up 0 (suc i) x zero-le (suc-le-suc h))

-- the converse of `rises_head`, where the rest rises too
pub rises_cons : {X : Type 0} (n : X → ℕ) (x : X) (xs : List X) → AllByRecursion (λ y. n x ≤ n y) xs → IsNonDecreasingBy n xs → IsNonDecreasingBy n (x ∷ xs)
rises_cons n x xs a up zero zero d le lt = omega arith
rises_cons n x xs a up zero (suc j) d le lt = All-get_or (λ y. n x ≤ n y) xs j d (le_of_suc-le-suc lt) a
rises_cons n x xs a up (suc i) zero d le lt = absurd (omega arith)
rises_cons n x xs a up (suc i) (suc j) d le lt = up i j d (le_of_suc-le-suc le) (le_of_suc-le-suc lt)
