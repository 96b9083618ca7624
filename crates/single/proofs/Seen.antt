-- What an answer of a reader says is the answer: each is told again from what it says. Assumes nothing.
use Prim.Native.Nat.{ℕ}
use mathlib.Core.Path.{◌≡◌, refl, sym, ap, ◌∙◌}
use mathlib.Core.List.{List}
use Rattle.std.specs.Prelude.{Option, Some, None}
use Rattle.grammar.specs.Grammar.{Read, fails, reads}
use Rattle.grammar.specs.Views.{peeked, seen_next, seen, seen_line}
use Rattle.grammar.specs.declared.Found.{Found}

-- a view with a way back tells its values apart
told_apart : {A B : Type 0} (view : A → B) (back : B → A) → ((r : A) → back (view r) ≡ r) → (r r' : A) → view r ≡ view r' → r ≡ r'
told_apart view back returns r r' e = sym (returns r) ∙ ap back e ∙ returns r'

abbrev next_by : {A : Type 0} → Read A → Option ℕ
next_by fails = None
next_by (reads x j) = Some j

abbrev found_by : {A : Type 0} → Read A → Option (Found A)
found_by fails = None
found_by (reads v j) = Some (record { value = v; next = j })

next_back : (r : Option ℕ) → next_by (seen_next r) ≡ r
next_back (Some j) = refl
next_back None = refl

found_back : {A : Type 0} (r : Option (Found A)) → found_by (seen r) ≡ r
found_back (Some f) = refl
found_back None = refl

place_back : (s : List ℕ) (i : ℕ) (r : Option ℕ) → next_by (seen_line s i r) ≡ r
place_back s i (Some place) = refl
place_back s i None = refl

pub same_next : (r r' : Option ℕ) → seen_next r ≡ seen_next r' → r ≡ r'
same_next r r' e = told_apart seen_next next_by next_back r r' e

pub same_found : {A : Type 0} (r r' : Option (Found A)) → seen r ≡ seen r' → r ≡ r'
same_found r r' e = told_apart seen found_by found_back r r' e

pub same_line : (s : List ℕ) (i : ℕ) (r r' : Option ℕ) → seen_line s i r ≡ seen_line s i r' → r ≡ r'
same_line s i r r' e = told_apart (seen_line s i) next_by (place_back s i) r r' e
