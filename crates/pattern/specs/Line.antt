-- The line that says which run is asked for, as docs/SPEED.md has it: a kind of tick, a space, one to nine digits, LF.
-- Characters are their ASCII codes. Assumes nothing: these are definitions.
use Rattle.std.specs.Prelude.{ℕ, ◌+◌, ◌-◌, ◌*◌, ◌%◌, Option, None, Some}
use mathlib.Core.{Bool.cond, List.List, List.[], List.◌∷◌}
use lib.{Dec.ltb, Dec.eqb, ListN.length, ListN.get_or, ListN.take, ListN.drop}
use Rattle.pattern.specs.{Kinds.kinds_by, declared.kind.RunKind.RunKind, declared.line.Run.Run}

-- the number that digits make behind the digits of n, where nothing but digits is there; the last nine digits count
unfoldable pub number_of : ℕ → List ℕ → Option ℕ
number_of n [] = Some n
number_of n (c ∷ s) = cond (ltb c 48) None (cond (ltb 57 c) None (number_of (n % 100000000 * 10 + (c - 48)) s))

-- one to nine digits and LF
abbrev pub count_of : List ℕ → Option ℕ
count_of s =
    cond (ltb (length s) 2) None
    (cond (ltb 10 (length s)) None
    (cond (eqb (get_or s (length s - 1) 0) 10) (number_of 0 (take (length s - 1) s)) None))

-- a run of kinds that are there with a count that is there
abbrev pub run_of : Option RunKind → Option ℕ → Option Run
run_of (Some kinds) (Some n) = Some (record { kinds = kinds; count = n })
run_of (Some kinds) None = None
run_of None count = None

-- a kind, a space, and the count
abbrev pub asked_of : List ℕ → Option Run
asked_of s = cond (eqb (get_or s 1 0) 32) (run_of (kinds_by (get_or s 0 0)) (count_of (drop 2 s))) None
