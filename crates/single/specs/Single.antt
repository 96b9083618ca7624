-- Two results that a contract allows for one input are the same. A call has the arguments a and leaves the result r,
-- and s, what its parameters then hold; `Post` is its contract, as the prover holds it of the function, so a contract
-- that says less than all is not single. `seen` is the part of what the call leaves that is meant: the result, or a
-- lent buffer's content. κ are the lifetimes of what is lent. Assumes nothing: these are definitions.
use Rattle.std.specs.Prelude.{◌≡◌}

module _ {K : Type 0} {A R S X : K → Type 0} where
  abbrev pub Single : ((κ : K) → A κ → R κ → S κ → Type 0) → ((κ : K) → R κ → S κ → X κ) → Type 0
  Single Post seen = (κ : K) (a : A κ) (r r' : R κ) (s s' : S κ) → Post κ a r s → Post κ a r' s' → seen κ r s ≡ seen κ r' s'
