-- A digest takes in numbers one after another. Assumes nothing: this is a definition.
use Rattle.std.specs.Prelude.{ℕ, List, fold}
use Rattle.pattern.specs.Pattern.{taken_in}

-- values that each count as a number
abbrev pub all_taken_by : {A : Type 0} → (A → ℕ) → ℕ → List A → ℕ
all_taken_by number = fold (λ digest v. taken_in digest (number v))

-- numbers
abbrev pub all_taken : ℕ → List ℕ → ℕ
all_taken = all_taken_by (λ v. v)
