-- Whether a list has a code, as the library's `contains` says it. Assumes nothing.
use Prim.Native.Nat.{ℕ}
use mathlib.Core.Path.{◌≡◌, refl}
use mathlib.Core.List.{List, [], ◌∷◌}
use native.Mathlib.Omega.{arith}
use Rattle.std.specs.Prelude.{nat_eq}
use Rattle.std.specs.List.{list_any}
use Rattle.std.proofs.lemmas.Bool.Decides.{nat_tests}
use Rattle.kinds.specs.Kinds.{is_in}

pub listed : (code : ℕ) (codes : List ℕ) → list_any (λ (c : ℕ). nat_eq c code) codes ≡ is_in code codes
unfolding is_in
listed code [] = refl
listed code (c ∷ codes) = grind (arith, nat_tests, listed code codes)
